-- The end of a rollback that a resolve has decided: its End is logged, and the resolve is answered next, or waits.
use Rattle.laws_checkpoints.specs.CheckpointedStores.{CheckpointedStore}
use Rattle.std.proofs.Common.{◌≡◌, ⊎_elim, ◌++◌, ◌∷◌, ◌<◌, [], ℕ, List, Bool, true, false, refl, sym, ap, subst, ◌∙◌, append_assoc, arith, length-append}
use Rattle.std.proofs.lemmas.Bool.{eq-eqb, true≢false}
use Rattle.shore_types.specs.Images.{Image}
use Rattle.shore_types.specs.declared.ids.PageId.{PageId}
use Rattle.shore_types.specs.declared.ids.Rid.{Rid}
use Rattle.shore_types.specs.declared.layout.Geometry.{Geometry}
use Rattle.shore_types.specs.declared.versions.Version.{Version}
use Rattle.shore_model.specs.declared.log_records.LogRecord.{LogRecord}
use Rattle.shore_model.specs.declared.log_records.Payload.{Payload}
use Rattle.shore_model.specs.declared.log_records.Payload.TheVariants.{End}
use Rattle.shore_model.specs.Logs.{first_number, has, is_rollback, last_of, previous_of}
use Rattle.shore_disk.specs.declared.device.Disk as disk
use Rattle.shore_log.specs.declared.tail.Tail as tail
use Rattle.shore_heap.specs.declared.heap.Heap.{Heap}
use Rattle.shore_heap.specs.Heaps.{Shows}
use Rattle.shore_heap.proofs.Showing.{shows_same}
use Rattle.laws_lives.proofs.Numbers.{last_own, newest_other}
use Rattle.laws_lives.proofs.OneMore.{by_push, has-not_its}
use Rattle.laws_lives.proofs.Writers.{same_or_not}
use Rattle.laws_lives.specs.Logged.{and_compensations, and_record}
use Rattle.laws_lives.proofs.Invariant.{event_kept}
use Rattle.laws_lives.specs.Recovery.{AppendRecord, LeadsTo, after_append}
use Rattle.laws_lives.specs.Sessions.{ResolvedTxn, SessionTxn}
use Rattle.laws_lives.specs.Views.{IsAmong}
use Rattle.laws_room.specs.Claims.{Claimed}
use Rattle.laws_calls.proofs.ResolveEnds.{rolled_logged}
use Rattle.laws_calls.proofs.Unwinding.{last_previous}
use Rattle.laws_calls.specs.Resolves.{IsRollingBack, rollback_done}
use Rattle.laws_calls.specs.States.{State, page_slots}
use Rattle.shore_txn.specs.Transactions.{kept_in}
use Rattle.shore_sessions.specs.Standing.{HasControlBut}
use Rattle.shore_core.specs.declared.core_calls.Core.{Core}
use Rattle.shore_core.specs.Stores.{IsHeapOf, WorksOn, append_to}
use Rattle.shore_core.proofs.Works.{noted_without, works_then}
use Rattle.shore_core.specs.Cores.{CoreComesTo, IsIn, IsKept, IsOver, IsSafe, control_of, durable_of, first_of, has_failed, heap_of, txns_of, waiting_of}
use Rattle.shore_core.specs.Resolving.{ComesBut}
use Rattle.shore_core.proofs.Coming.{pages_told}
use Rattle.shore_core.proofs.Ending.{aborted_slots}

-- ---- what it has logged

-- a transaction that has a record of some kind has a last record
last_known : (p : Payload → Bool) (t : ℕ) (log : List LogRecord) → has p t log ≡ true → 0 < last_of t log
last_known p t = by_push (λ log. has p t log ≡ true → 0 < last_of t log) (λ h. cc) more
  where
    more : (log : List LogRecord) (r : LogRecord) → (has p t log ≡ true → 0 < last_of t log) → has p t (log ++ r ∷ []) ≡ true → 0 < last_of t (log ++ r ∷ [])
    more log r known h = ⊎_elim
        (λ own. subst (λ u. 0 < last_of u (log ++ r ∷ [])) own (let number = last_own log r in omega (arith, number)))
        (λ other. subst (λ es. 0 < first_number es) (sym (newest_other log r t other)) (known (sym (has-not_its log r p t other) ∙ h)))
        (same_or_not r.txn t)

-- one that a resolve rolls back has its decision there
pub rolls_logged : (g : Geometry) (s : State) → IsSafe g s → (a : SessionTxn) (global : List ℕ) → IsRollingBack s a global → 0 < a.txn → previous_of a.txn s.log ≡ 0 → ⊥
rolls_logged g s safe a global rolls above none =
    let known = last_known is_rollback a.txn s.log (rolled_logged safe.opening safe.found safe.entries s safe.after a global rolls).0 in
    true≢false (sym (eq-eqb (previous_of a.txn s.log) 0 none) ∙ last_previous a.txn above s.log known)

-- ---- one call after another

module _ (q : ResolvedTxn) {T V : Type 0} {G : tail.Ghosts T} {H : disk.Ghosts V} (mid new : Core T V G H) (front : List ℕ) (before : List LogRecord) (s later : State) (store : CheckpointedStore) where
  pub but_then : (one : CoreComesTo mid front before store s) → ComesBut q new front before one.after later → ComesBut q new front before store later
  but_then one two = record {
    left = two.left;
    is_in = two.is_in;
    works = one.works ++ two.works;
    after = two.after;
    work = works_then store one.after two.after one.works two.works one.work two.work;
    over = two.over;
  }

  pub told_then : (one : ComesBut q mid front before store s) → CoreComesTo new front before one.after later → CoreComesTo new front before store later
  told_then one two = record {
    left = two.left;
    is_in = two.is_in;
    works = one.works ++ two.works;
    after = two.after;
    work = works_then store one.after two.after one.works two.works one.work two.work;
    over = two.over;
  }

-- a record was appended
appended_work : (s later : State) (store : CheckpointedStore) (r : LogRecord) → IsKept s store → later.log ≡ s.log ++ r ∷ [] → later.durable ≡ s.durable
    → WorksOn store (AppendRecord r ∷ []) (append_to store r) × IsKept later (append_to store r)
appended_work s later store r kept log durable =
    let leads : LeadsTo store.store (AppendRecord r) (after_append store.store r) = (kept.redone, refl) in
    let long = length-append store.store.log (r ∷ []) in (
      (tt, after_append store.store r, leads, refl),
      record {
        stored = record { log = ap (λ l. l ++ r ∷ []) kept.stored.log ∙ sym log; durable = kept.stored.durable ∙ sym durable };
        redone = omega (arith, kept.redone, long);
        recoverable = event_kept store.store (AppendRecord r) (after_append store.store r) kept.recoverable leads;
      },
    )

-- ---- the core then

module _ (v : Version) {T V : Type 0} {G : tail.Ghosts T} {H : disk.Ghosts V} (old new : Core T V G H) (front : List ℕ) (disk : ℕ → List ℕ) (before : List LogRecord) (s : State) (store : CheckpointedStore)
    (is : IsIn front disk before old s) (over : IsOver disk old s store) (claimed : Claimed v s.sessions.records s.sessions.active s.counts)
    (a : SessionTxn) (m : IsAmong a s.sessions.active) (none : a.undo.images ≡ [])
    (heap : heap_of new ≡ heap_of old) (first : first_of new ≡ first_of old) (durable : durable_of new ≡ durable_of old) (failed : has_failed new ≡ has_failed old)
    (claims : (p : PageId) → kept_in (txns_of new) p ≡ kept_in (txns_of old) p) where
  done_pages : s.failed ≡ false → Shows (kept_in (txns_of new)) (heap_of new) front disk (page_slots (rollback_done s a))
  done_pages works =
      shows_same (heap_of new) (kept_in (txns_of new)) front disk (page_slots s) (page_slots (rollback_done s a)) (λ p there. aborted_slots v s a none claimed m p)
      (subst (λ (h : Heap V H). Shows (kept_in (txns_of new)) h front disk (page_slots s)) (sym heap) (pages_told (heap_of old) (txns_of old) (txns_of new) front disk (page_slots s) claims (is.pages works)))

  done_log : (rollback_done s a).log ≡ s.log ++ record { txn = a.txn; previous = previous_of a.txn s.log; payload = End } ∷ []
  done_log = ap (λ (images : List (Rid × Image)). and_record a.txn (and_compensations a.txn s.log images) End) none

  -- its End was appended
  pub done_logged : (q : ResolvedTxn) (r : LogRecord) → r ≡ record { txn = a.txn; previous = previous_of a.txn s.log; payload = End } → waiting_of new ≡ waiting_of old ++ r ∷ []
      → HasControlBut q (control_of new) (rollback_done s a) → ComesBut q new front before store (rollback_done s a)
  done_logged q r r_is waiting stands =
      let own : LogRecord = record { txn = a.txn; previous = previous_of a.txn s.log; payload = End } in
      let added : waiting_of new ≡ waiting_of old ++ own ∷ [] = waiting ∙ ap (λ (x : LogRecord). waiting_of old ++ x ∷ []) r_is in
      let did = appended_work s (rollback_done s a) store own over.kept done_log refl in
      record {
        left = disk;
        is_in = record {
          first = first ∙ is.beside.first;
          stands = stands;
          log = done_log ∙ ap (λ l. l ++ own ∷ []) is.beside.parts.log ∙ append_assoc before (waiting_of old) (own ∷ []) ∙ ap (λ l. before ++ l) (sym added);
          durable_is = is.beside.parts.durable_is ∙ sym durable;
          failed_is = is.beside.parts.failed_is ∙ sym failed;
          pages = done_pages;
        };
        works = AppendRecord own ∷ [];
        after = append_to store own;
        work = did.0;
        over = record {
          kept = did.1;
          pages = λ works. subst (λ (h : Heap V H). IsHeapOf h disk (append_to store own)) (sym heap)
              (noted_without (heap_of old) disk store own (over.pages works) over.kept.recoverable over.kept.redone refl);
        };
      }
