use Rattle.std.proofs.Common.{◌++◌, ◌∷◌, refl, sym, subst}
use Rattle.std.proofs.lemmas.List.Sorted.{IsPermutation-append_left, IsPermutation-cons, IsPermutation-trans}
use Rattle.shore_model.specs.declared.calls.Outcome.TheVariants.{Abort}
use Rattle.shore_model.specs.declared.rollbacks.Rollback.TheVariants.{Whole}
use Rattle.laws_lives.specs.Sessions.{ResolvedTxn}
use Rattle.laws_lives.specs.UndoLists.{undo_rolled}
use Rattle.laws_lives.specs.Views.{IsAmong}
use Rattle.laws_calls.specs.Resolves.{rollback_decided}
use Rattle.shore_sessions.specs.Calls.{caller_of, resolved_by}
use Rattle.shore_sessions.specs.Controls.{txns_in, waits_in}
use Rattle.shore_sessions.specs.Seated.{rolled_in}
use Rattle.laws_lives.proofs.Members.{txns_with}
use Rattle.shore_sessions.proofs.ResolveSteps.{not_preparing, rolled_now, txns_decided, waits_decided}
use Rattle.shore_sessions.proofs.WaitSteps.{names-with_undo}
use Rattle.shore_sessions.proofs.control.Control.note_rollback.Goals as goal

pub returns-clause-stands : goal.returns-clause-stands
returns-clause-stands c s a global was its can number =
    let done = c.note_rollback.ensures in
    let old = txns_in c.args.self.now in
    let new = c.note_rollback.new.self in
    let calls = waits_in c.args.self.now in
    let undo = undo_rolled a.undo a.undo.images Whole in
    let r : ResolvedTxn = record { txn = a.txn; global = global; outcome = Abort } in
    record {
      txns = txns_decided old new s was.txns a global can c.args.number done.decided its.1 number (done.undos a (subst (IsAmong a) was.txns.active its.0) its.1) done.doubts done.next done.kept done.stream;
      waits = waits_decided calls s was.waits a (rollback_decided s a global) refl refl refl (λ n. refl) (not_preparing old s was.txns a global can)
          (λ w m is. subst (IsAmong (caller_of w)) (sym (names-with_undo a.txn undo s.sessions.active)) (was.waits.asking w m is).0)
          (λ k m. subst (IsAmong k) (txns_with a.txn undo s.sessions.active) m);
      resolving = λ f. IsPermutation-trans (r ∷ s.sessions.resolving) (r ∷ (rolled_in old ++ resolved_by calls)) (rolled_in new ++ resolved_by calls)
          (IsPermutation-cons r s.sessions.resolving (rolled_in old ++ resolved_by calls) (was.resolving f))
          (IsPermutation-append_left (resolved_by calls) (r ∷ rolled_in old) (rolled_in new) (rolled_now old new s was.txns a global can c.args.number done.decided its.1 number));
      locks = was.locks;
    }
