use Rattle.std.proofs.Common.{◌∙◌, ◌+◌, refl, ap, subst}
use Rattle.laws_lives.specs.UndoLists.{with_before_image}
use Rattle.laws_lives.specs.Views.{IsAmong}
use Rattle.shore_txn.specs.Transactions.{room_in}
use Rattle.shore_txn.proofs.ActiveSteps.{becomes_so}
use Rattle.shore_sessions.specs.Controls.{txns_in, waits_in}
use Rattle.shore_sessions.specs.Standing.{changed}
use Rattle.shore_sessions.proofs.ControlSteps.{resolving_kept}
use Rattle.shore_sessions.proofs.SeatSteps.{change_seated, rolled_kept}
use Rattle.shore_sessions.proofs.TxnSteps.{txns_changed}
use Rattle.shore_sessions.proofs.WaitSteps.{names-with_undo, waits_kept}
use Rattle.shore_sessions.proofs.control.Control.note_change.Goals as goal

pub returns-clause-stands : goal.returns-clause-stands
returns-clause-stands c v s a image counts was its number found logged claimed alone claim =
    let done = c.note_change.ensures in
    let entry = c.args.entry in
    record {
      txns = txns_changed (txns_in c.args.self.now) c.note_change.new.self s was.txns v c.args.seat.now.txn entry a image counts done.noted
          (done.undos a (subst (IsAmong a) was.txns.active its.0) its.1) done.doubts done.next (done.kept ∙ ap (λ n. (room_in (txns_in c.args.self.now)).kept + n) logged) done.stream
          its.0 its.1 number found claimed alone claim;
      waits = waits_kept (waits_in c.args.self.now) s was.waits (changed s a entry.id image counts) refl
          (names-with_undo a.txn (with_before_image s.sessions.records a.undo entry.id) s.sessions.active) (λ n. refl) refl refl;
      resolving = resolving_kept (txns_in c.args.self.now) c.note_change.new.self (waits_in c.args.self.now) (waits_in c.args.self.now) s (changed s a entry.id image counts)
          (rolled_kept (becomes_so (change_seated entry) done.noted)) refl refl (λ f. f) was.resolving;
      locks = was.locks;
    }
