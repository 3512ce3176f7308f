use Rattle.std.proofs.Common.{refl, ap, subst, sym, ◌∙◌}
use Rattle.shore_locks.specs.Grants.{cancelled}
use Rattle.shore_locks.specs.Tables.{Table}
use Rattle.laws_calls.specs.CallSteps.{with_requests}
use Rattle.shore_sessions.specs.Controls.{locks_in, txns_in, waits_in}
use Rattle.shore_sessions.specs.Standing.{AreResolving, HasWaits}
use Rattle.shore_sessions.proofs.ControlSteps.{txns_kept}
use Rattle.shore_sessions.proofs.Marks.{marked_but_told}
use Rattle.shore_sessions.proofs.WaitSteps.{waits_kept}
use Rattle.shore_sessions.proofs.control.Control.cancel.Goals as goal

pub returns-clause-stands : goal.returns-clause-stands
returns-clause-stands c s has =
    let new = with_requests s (cancelled c.args.txn s.locks.requests) in
    let calls = sym c.note_let_through.ensures.calls in
    record {
      txns = txns_kept (txns_in c.args.self.now) (txns_in c.args.self.now) s new refl refl refl (λ n. refl) refl refl refl has.txns;
      waits = subst (λ cs. HasWaits cs new) calls (waits_kept (waits_in c.args.self.now) s has.waits new refl refl (λ n. refl) refl refl);
      resolving = subst (λ cs. AreResolving (txns_in c.args.self.now) cs new) calls has.resolving;
      locks = ap (λ (l : Table). record { limit = l.limit; requests = cancelled c.args.txn l.requests }) has.locks ∙ sym c.cancel.ensures.table;
    }

pub invariant_of-self-clause-marked : goal.invariant_of-self-clause-marked
invariant_of-self-clause-marked c =
    c.note_let_through.ensures.marks
    (marked_but_told c.args.self.now.waits (locks_in c.args.self.now).requests c.cancel.new.self.requests c.nobody-let_through.result c.cancel.new.let_through c.args.self.now.marked c.cancel.ensures.told)
