use Rattle.std.proofs.Common.{refl, sym, subst}
use Rattle.laws_lives.specs.Views.{IsAmong}
use Rattle.laws_lives.specs.UndoLists.{undo_rolled}
use Rattle.shore_txn.specs.UndoEntries.{image_of}
use Rattle.shore_txn.proofs.OneOfMany.{among_middle}
use Rattle.shore_sessions.specs.Controls.{txns_in, waits_in}
use Rattle.shore_sessions.specs.Standing.{put_back}
use Rattle.shore_sessions.proofs.ControlSteps.{resolving_kept}
use Rattle.shore_sessions.proofs.RollbackSteps.{becomes_of, claim_back, txns_put_back}
use Rattle.shore_sessions.proofs.SeatSteps.{rolled_kept, undo_seated}
use Rattle.shore_sessions.proofs.WaitSteps.{names-with_undo, waits_kept}
use Rattle.shore_sessions.proofs.control.Control.note_compensation.Goals as goal

pub returns-clause-newest : goal.returns-clause-newest
returns-clause-newest c s a was its =
    let undos = c.note_compensation.ensures.undos a (subst (IsAmong a) was.txns.active its.0) its.1 in (undos.0, undos.1)

pub returns-clause-claim : goal.returns-clause-claim
returns-clause-claim c s a kept was its newest =
    claim_back (txns_in c.args.self.now) c.note_compensation.new.self s was.txns c.args.seat.now.txn c.args.lsn c.args.rollback c.note_compensation.result a kept c.note_compensation.ensures.undone its.0 its.1 newest

pub returns-clause-stands : goal.returns-clause-stands
returns-clause-stands c s a kept was its newest number =
    let done = c.note_compensation.ensures in
    let undone = c.note_compensation.result in
    let here = subst (IsAmong a) was.txns.active its.0 in
    let one = done.undone in
    let free = c.requires.unprepared one.before (subst (IsAmong one.before) (sym one.was) (among_middle one.newer one.older one.before)) one.txn in
    record {
      txns = txns_put_back (txns_in c.args.self.now) c.note_compensation.new.self s was.txns c.args.seat.now.txn c.args.lsn c.args.rollback undone a kept one its.0 its.1 newest
          c.args.cost (done.undos a here its.1) free done.doubts done.next (c.requires.cost a kept (image_of undone) here its.1 newest) done.kept done.stream number;
      waits = waits_kept (waits_in c.args.self.now) s was.waits (put_back s a kept (image_of undone) c.args.rollback) refl
          (names-with_undo a.txn (undo_rolled a.undo kept c.args.rollback) s.sessions.active) (λ n. refl) refl refl;
      resolving = resolving_kept (txns_in c.args.self.now) c.note_compensation.new.self (waits_in c.args.self.now) (waits_in c.args.self.now) s (put_back s a kept (image_of undone) c.args.rollback)
          (rolled_kept (becomes_of one (undo_seated c.args.lsn c.args.rollback undone one.before one.after free one.becomes))) refl refl (λ f. f) was.resolving;
      locks = was.locks;
    }
