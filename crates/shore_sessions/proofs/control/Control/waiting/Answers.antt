use Rattle.std.proofs.Common.{◌∙◌, ap, subst}
use Rattle.laws_calls.specs.CallSteps.{IsPreparing}
use Rattle.shore_sessions.specs.Calls.{resolved_as}
use Rattle.shore_sessions.specs.Controls.{txns_in, waits_in}
use Rattle.shore_sessions.proofs.Answered.{none_so, some_so}
use Rattle.shore_sessions.proofs.Seats.{active_above}
use Rattle.shore_sessions.proofs.WaitSteps.{asks, call_waits, free_waits_not}
use Rattle.shore_sessions.proofs.EndedWaits.{has_ended}
use Rattle.shore_sessions.proofs.control.Control.waiting.Goals as goal

pub returns-clause-waits : goal.returns-clause-waits
returns-clause-waits c = some_so c.of.result (λ w found s stands. call_waits (waits_in c.args.self.now) s stands.waits w.now found.0) c.of.ensures.some

pub returns-clause-does_not : goal.returns-clause-does_not
returns-clause-does_not c = none_so c.of.result (λ none s stands. free_waits_not (waits_in c.args.self.now) s stands.waits c.args.session none) c.of.ensures.none

pub returns-clause-kinds : goal.returns-clause-kinds
returns-clause-kinds c = some_so c.of.result (λ w found s stands. stands.waits.kinds w.now found.0) c.of.ensures.some

pub returns-clause-asks : goal.returns-clause-asks
returns-clause-asks c = some_so c.of.result
    (λ w found is s stands.
    let its = asks (waits_in c.args.self.now) s stands.waits (active_above (txns_in c.args.self.now) s stands.txns) w.now found.0 is in (its.0, (its.1.0, its.1.1 ∙ found.1), its.2)) c.of.ensures.some

pub returns-clause-prepares : goal.returns-clause-prepares
returns-clause-prepares c = some_so c.of.result
    (λ w found global is s stands. subst (λ n. IsPreparing s.sessions n w.now.txn global) found.1 (stands.waits.preparing w.now global found.0 is)) c.of.ensures.some

pub returns-clause-resolves : goal.returns-clause-resolves
returns-clause-resolves c = some_so c.of.result
    (λ w found global asked is s stands works. has_ended c.args.self.now s stands works w.now (record { txn = w.now.txn; global = global; outcome = asked }) found.0 (ap (resolved_as w.now.txn) is)) c.of.ensures.some
