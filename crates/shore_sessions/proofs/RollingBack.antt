-- The rollback that a resolve decided has ended: the control stands for the state but for the resolve.
use Rattle.std.proofs.Common.{◌≡◌, ◌+◌, ◌<◌, [], ℕ, List, false, refl, sym, ap, subst, ◌∙◌}
use Rattle.shore_types.specs.Images.{Image}
use Rattle.shore_types.specs.declared.ids.Rid.{Rid}
use Rattle.shore_types.specs.declared.layout.TheConstants.{ENDING_COST}
use Rattle.shore_model.specs.declared.log_records.Payload.TheVariants.{End}
use Rattle.shore_locks.specs.Grants.{released}
use Rattle.shore_locks.specs.Tables.{Table}
use Rattle.laws_lives.specs.Logged.{and_compensations, and_record}
use Rattle.laws_lives.specs.Sessions.{ResolvedTxn, SessionTxn, txns_of, without_txn}
use Rattle.laws_lives.specs.Views.{IsAmong}
use Rattle.laws_lives.proofs.Members.{txn_without}
use Rattle.laws_calls.specs.Resolves.{rollback_done}
use Rattle.laws_calls.specs.States.{State}
use Rattle.shore_txn.specs.ActiveTxns.{OneLeaves}
use Rattle.shore_txn.specs.Transactions.{next_in, prepared_in, room_in, undos_in}
use Rattle.shore_txn.specs.Transactions as table
use Rattle.shore_txn.specs.declared.undo.UndoEntry.{UndoEntry}
use Rattle.shore_txn.proofs.OneOfMany.{all_among, among_map, map_among}
use Rattle.shore_sessions.specs.Calls.{as_resolved, resolved_by}
use Rattle.shore_sessions.specs.Controls.{locks_in, txns_in, waits_in}
use Rattle.shore_sessions.specs.Standing.{HasControl, HasControlBut, HasWaits}
use Rattle.shore_sessions.specs.declared.control.Control.{Control}
use Rattle.shore_sessions.proofs.Permuted.{among_made}
use Rattle.shore_sessions.proofs.ResolveSteps.{resolving_but, waits_rolled}
use Rattle.shore_sessions.proofs.RollbackSteps.{txns_ended}
use Rattle.shore_sessions.proofs.Rolled.{resolve_is}
use Rattle.shore_sessions.proofs.SeatSteps.{seats_same}

pub control_rolled : (old new : Control) (s : State) (was : HasControl old s) → s.failed ≡ false → (a : SessionTxn) (r : ResolvedTxn) → IsAmong a s.sessions.active → IsAmong r s.sessions.resolving → r.txn ≡ a.txn
    → a.undo.images ≡ [] → {number : ℕ} {changes : List UndoEntry} (one : OneLeaves number changes (table.txns_in (txns_in old)) (table.txns_in (txns_in new))) → a.txn ≡ number
    → undos_in (txns_in new) ≡ without_txn a.txn (undos_in (txns_in old)) → prepared_in (txns_in new) ≡ prepared_in (txns_in old) → next_in (txns_in new) ≡ next_in (txns_in old)
    → (room_in (txns_in new)).kept ≡ (room_in (txns_in old)).kept + ENDING_COST → (room_in (txns_in new)).stream_bytes ≡ (room_in (txns_in old)).stream_bytes
    → waits_in new ≡ waits_in old → locks_in new ≡ record { limit = (locks_in old).limit; requests = released a.txn (locks_in old).requests }
    → HasControlBut r new (rollback_done s a)
control_rolled old new s was works a r m there own empty {number} {changes} one at undos doubts next kept stream waits locks = record {
  txns = txns_ended (txns_in old) (txns_in new) s was.txns number changes a one m at undos doubts next stream (rollback_done s a)
      (record {
        active = refl;
        prepared = refl;
        seats = λ u n other is. seats_same s.sessions (rollback_done s a).sessions (λ k. refl) u is;
        entered = was.txns.entered;
        number_to_come = refl;
        bytes = refl;
        log_is = ap (λ (l : List (Rid × Image)). and_record a.txn (and_compensations a.txn s.log l) End) empty;
      }) kept;
  waits = subst (λ cs. HasWaits cs (rollback_done s a)) (sym waits) (waits_rolled old new s was works a r m there own one at);
  resolving = λ f. resolving_but old new s was works a r m there own one at waits;
  ended = (
    λ n. (txn_without a.txn r.txn s.sessions.active n).1 own,
    subst (λ k. k < s.sessions.next_txn) (sym own)
        (subst (λ n. a.txn < n) (sym was.txns.next) (all_among (λ (b : SessionTxn). b.txn < next_in (txns_in old)) (undos_in (txns_in old)) a (txns_in old).below (subst (IsAmong a) was.txns.active m))),
  );
  once = λ n.
      let q = map_among (λ (x : ResolvedTxn). x.txn) r.txn (resolved_by (waits_in new)) n in
      let w = among_made as_resolved q.0 (waits_in old) (subst (λ cs. IsAmong q.0 (resolved_by cs)) waits q.1) in
      (was.waits.ended w.0 q.0 w.1 w.2).0
      (subst (λ t. IsAmong t (txns_of s.sessions.active)) (sym ((resolve_is w.0.txn w.0.call q.0 w.2).0 ∙ q.2 ∙ own)) (among_map (λ (b : SessionTxn). b.txn) a s.sessions.active m));
  locks = ap (left a.txn) was.locks ∙ sym locks;
}
  where
    left : ℕ → Table → Table
    left txn t = record { limit = t.limit; requests = released txn t.requests }
