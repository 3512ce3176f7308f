-- What a checkpoint's record makes of a control.
use Rattle.std.proofs.Common.{◌≡◌, ◌≢◌, ◌+◌, ◌<◌, ◌++◌, ◌∷◌, [], refl, sym, ap, subst, ◌∙◌, arith}
use Rattle.std.specs.List.{AllByRecursion}
use Rattle.std.specs.List.Sorted.{IsPermutation}
use Rattle.shore_model.specs.declared.log_records.LogRecord.{LogRecord}
use Rattle.shore_logrec.specs.Text.{cost_of}
use Rattle.laws_lives.proofs.Lists.{recursion-push}
use Rattle.laws_calls.specs.States.{State, cost_of_log}
use Rattle.shore_txn.specs.ActiveTxns.{session_txns}
use Rattle.shore_txn.specs.Transactions.{next_in, room_in}
use Rattle.shore_txn.specs.Transactions as table
use Rattle.shore_txn.specs.Txns.{number_of, prepared_of}
use Rattle.shore_txn.specs.declared.transactions.Transactions.{Transactions}
use Rattle.shore_txn.specs.declared.txn.Txn.{Txn}
use Rattle.shore_sessions.specs.Calls.{resolved_by}
use Rattle.shore_sessions.specs.Controls.{locks_in, txns_in, waits_in}
use Rattle.shore_sessions.specs.Seated.{IsNamed, IsSeated}
use Rattle.shore_sessions.specs.Standing.{HasControl, HasTxns, HasWaits, IsLogged}
use Rattle.shore_sessions.specs.declared.control.Control.{Control}
use Rattle.shore_sessions.proofs.ControlSteps.{resolving_kept}
use Rattle.shore_sessions.proofs.Lists.{all_by_members}
use Rattle.shore_sessions.proofs.LogSteps.{cost_push, room_on}
use Rattle.shore_sessions.proofs.RolledTables.{rolled_unchanged}
use Rattle.shore_sessions.proofs.TxnSteps.{each_was, logged_beside}
use Rattle.shore_sessions.proofs.WaitSteps.{waits_kept}

-- a record of no transaction, for which nothing was reserved
pub txns_noted : (old new : Transactions) (s : State) (was : HasTxns old s) → table.txns_in new ≡ table.txns_in old → next_in new ≡ next_in old → (r : LogRecord) → r.txn ≡ 0
    → (room_in new).kept ≡ (room_in old).kept + cost_of r.payload → (room_in new).stream_bytes ≡ (room_in old).stream_bytes → HasTxns new (record s { log = s.log ++ r ∷ [] })
txns_noted old new s was txns next r of_none kept stream = record {
  active = was.active ∙ ap session_txns (sym txns);
  prepared = subst (λ ts. IsPermutation s.sessions.prepared (prepared_of ts)) (sym txns) was.prepared;
  seats = subst (AllByRecursion (IsSeated s.sessions)) (sym txns) was.seats;
  entered = λ n. subst (λ k. (s.sessions.seats n).txn < k) (sym next) (was.entered n);
  names = subst (AllByRecursion IsNamed) (sym txns) was.names;
  next = was.next ∙ sym next;
  room = room_on (room_in old).kept (cost_of_log s.log) (cost_of r.payload) refl kept (cost_push s.log r) stream was.room;
  each = subst (AllByRecursion (IsLogged (s.log ++ r ∷ []))) (sym txns)
      (all_by_members (IsLogged (s.log ++ r ∷ [])) (table.txns_in old) (λ u m. logged_beside s.log r u (beside u) (each_was old new s was u m)));
  above = subst (λ n. AllByRecursion (λ (x : LogRecord). x.txn < n) (s.log ++ r ∷ [])) (sym next)
      (recursion-push (λ (x : LogRecord). x.txn < next_in old) s.log r was.above (let some = old.some in omega (arith, of_none, some)));
}
  where
    beside : (u : Txn) → r.txn ≢ number_of u
    beside u own = let some = u.some in omega (arith, own, of_none, some)

-- the calls that wait and the locks are as they were
pub control_noted : (old new : Control) (s : State) → HasControl old s → (r : LogRecord) → HasTxns (txns_in new) (record s { log = s.log ++ r ∷ [] })
    → table.txns_in (txns_in new) ≡ table.txns_in (txns_in old) → locks_in new ≡ locks_in old → waits_in new ≡ waits_in old → HasControl new (record s { log = s.log ++ r ∷ [] })
control_noted old new s was r txns same locks waits = record {
  txns = txns;
  waits = subst (λ cs. HasWaits cs after) (sym waits) (waits_kept (waits_in old) s was.waits after refl refl (λ n. refl) refl refl);
  resolving = resolving_kept (txns_in old) (txns_in new) (waits_in old) (waits_in new) s after (rolled_unchanged (txns_in old) (txns_in new) same) (ap resolved_by waits) refl (λ f. f) was.resolving;
  locks = was.locks ∙ sym locks;
}
  where
    after : State
    after = record s { log = s.log ++ r ∷ [] }
