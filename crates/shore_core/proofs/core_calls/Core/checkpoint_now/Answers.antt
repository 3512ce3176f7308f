use Rattle.std.proofs.Common.{◌≡◌, ◌+◌, ◌≤◌, ◌<◌, List, ℕ, All, length, map, refl, sym, ap, subst, ◌∙◌, arith}
use Rattle.std.proofs.lemmas.Map.Keys.{IsDistinct-from_sorted}
use Rattle.shore_types.specs.Ids.{page_cmp}
use Rattle.shore_model.specs.declared.log_records.DirtyPage.{DirtyPage}
use Rattle.shore_model.specs.declared.log_records.LogRecord.{LogRecord}
use Rattle.laws_lives.specs.Sessions.{SessionTxn}
use Rattle.laws_calls.specs.States.{next_number}
use Rattle.laws_heaps.proofs.DirtyTables.{table_is}
use Rattle.shore_check.specs.Tables.{Takes}
use Rattle.shore_check.proofs.Listing.{txns_listed}
use Rattle.shore_core.specs.Cores.{control_of, durable_of, first_of, has_failed, heap_of, waiting_of}
use Rattle.shore_core.proofs.CheckpointSteps.{ready}
use Rattle.shore_core.proofs.Tables.{next_is}
use Rattle.shore_core.proofs.core_calls.Core.checkpoint_now.Goals as goal

pub begin-requires-clause-txns : goal.begin-requires-clause-txns
begin-requires-clause-txns g c = txns_listed c.in_ok-txns.txns.items (omega (arith, c.if-len-gt-MAX_TRANSACTIONS.false)) c.in_ok-txns.ensures.rising

pub begin-requires-clause-pages : goal.begin-requires-clause-pages
begin-requires-clause-pages g c = record {
  few = c.in_ok-dirty.ensures.few;
  once = IsDistinct-from_sorted page_cmp (map (λ (d : DirtyPage). d.page) c.in_ok-dirty.dirty.items) c.in_ok-dirty.ensures.rising;
}

pub returns-then-len-gt-MAX_TRANSACTIONS-clause-refused : goal.returns-then-len-gt-MAX_TRANSACTIONS-clause-refused
returns-then-len-gt-MAX_TRANSACTIONS-clause-refused g c front disk before s store is safe over =
    let active = ap (λ (l : List SessionTxn). length l) is.beside.parts.stands.txns.active in
    absurd (omega (arith, c.if-len-gt-MAX_TRANSACTIONS.true, c.in_ok-txns.ensures.few, active, safe.after.few))

pub returns-clause-now : goal.returns-clause-now
returns-clause-now g c front disk before s store is safe over works order rests =
    let old = c.args.self.now in
    let k = c.begin.ensures in
    let stands = is.beside.parts.stands in
    let table = c.in_ok-txns.ensures.table s stands (record { whole = safe.after.sessions.whole; doubts = safe.after.sessions.doubts; losers = safe.leaves.losers }) in
    let above = subst (λ n. All (λ (r : LogRecord). r.txn < n) s.log) (sym c.next.ensures) (c.log_table.ensures.above s stands) in
    let pages = table_is (heap_of old) store.recovery c.in_ok-dirty.dirty.items (over.pages works).recoveries c.in_ok-dirty.ensures.listed c.in_ok-dirty.ensures.all in
    let number : c.next-2.result ≡ next_number s = c.next-2.ensures ∙ sym (next_is (control_of old) (waiting_of old) (durable_of old) (has_failed old) before s is.beside.parts (first_of old) is.beside.first 0) in
    let takes = subst (λ n. Takes n c.next.result c.in_ok-txns.txns.items c.in_ok-dirty.dirty.items k.0) number k.1 in
    ready s store over.kept.stored over.kept.redone order rests c.next.result c.in_ok-txns.txns.items c.in_ok-dirty.dirty.items k.0 c.begin.result table above pages takes k.2
    (takes.next_txn ∙ c.next.ensures ∙ sym stands.txns.next)
