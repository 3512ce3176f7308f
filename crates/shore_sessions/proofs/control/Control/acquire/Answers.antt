use Rattle.std.proofs.Common.{◌≡◌, ⊎_elim, true, refl, ap, subst, sym, ◌∙◌}
use Rattle.std.specs.Prelude.{slice_get}
use Rattle.shore_locks.specs.Tables.{Table, is_waiting}
use Rattle.shore_locks.proofs.Members.{either}
use Rattle.shore_path.specs.Walks.{acquired}
use Rattle.laws_calls.specs.CallSteps.{with_requests}
use Rattle.shore_sessions.specs.Controls.{locks_in, txns_in, waits_in}
use Rattle.shore_sessions.specs.Standing.{AreResolving, HasWaits}
use Rattle.shore_sessions.proofs.ControlSteps.{txns_kept}
use Rattle.shore_sessions.proofs.Marks.{marked_still}
use Rattle.shore_sessions.proofs.WaitSteps.{waits_kept}
use Rattle.shore_sessions.proofs.control.Control.acquire.Goals as goal

pub returns-clause-stands : goal.returns-clause-stands
returns-clause-stands c s has =
    let new = with_requests s (acquired c.args.on_conflict s.locks c.args.txn c.args.granule c.args.mode).requests in
    let calls = sym c.note_others.ensures.calls in
    record {
      txns = txns_kept (txns_in c.args.self.now) (txns_in c.args.self.now) s new refl refl refl (λ n. refl) refl refl refl has.txns;
      waits = subst (λ cs. HasWaits cs new) calls (waits_kept (waits_in c.args.self.now) s has.waits new refl refl (λ n. refl) refl refl);
      resolving = subst (λ cs. AreResolving (txns_in c.args.self.now) cs new) calls has.resolving;
      locks =
          ap (λ (l : Table). record { limit = l.limit; requests = (acquired c.args.on_conflict l c.args.txn c.args.granule c.args.mode).requests }) has.locks
          ∙ sym c.acquire-answer.ensures.as_asked.1;
    }

pub invariant_of-self-clause-marked : goal.invariant_of-self-clause-marked
invariant_of-self-clause-marked c =
    let old = locks_in c.args.self.now in
    let rs = c.acquire-answer.new.table.requests in
    ⊎_elim
    (λ may. c.note_others.ensures.marks may)
    (λ none. λ n w at lock gone. c.note_others.ensures.keeps n (marked_still c.args.self.now.waits old.requests rs c.args.self.now.marked
    (λ u waits. subst (λ (t : Table). is_waiting u t.requests ≡ true) (sym c.acquire-answer.ensures.as_asked.1)
    (c.acquire_lets_nobody_through.ensures c.args.on_conflict old c.args.txn c.args.granule c.args.mode u c.tables_are_orderly.ensures c.requires (c.may_let_through-may_be_others.ensures none) waits))
    n w (sym (ap (λ cs. slice_get cs n) c.note_others.ensures.calls) ∙ at) lock gone))
    (either c.may_let_through-may_be_others.result)
