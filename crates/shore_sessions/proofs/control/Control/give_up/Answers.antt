use Rattle.std.proofs.Common.{◌≡◌, Some, false, refl, sym, ap, subst, ◌∙◌}
use Rattle.shore_cycles.proofs.Steps.{waits_as}
use Rattle.shore_locks.specs.Grants.{cancelled, in_its_way}
use Rattle.shore_locks.specs.Tables.{Table, waiting_request}
use Rattle.laws_calls.specs.CallSteps.{with_requests}
use Rattle.laws_calls.specs.GivingUp.{HasNoRequest}
use Rattle.laws_calls.specs.StateChanges.{wait_refused}
use Rattle.laws_calls.specs.States.{State}
use Rattle.shore_sessions.specs.Calls.{awaits_record}
use Rattle.shore_sessions.specs.Controls.{locks_in, waits_in}
use Rattle.shore_sessions.specs.Standing.{HasControl}
use Rattle.shore_sessions.proofs.ControlSteps.{control_refused}
use Rattle.shore_sessions.proofs.Withdrawn.{if_none, lock_of, none_of_idle, none_of_record}
use Rattle.shore_sessions.proofs.control.Control.give_up.Goals as goal

pub returns-clause-gives : goal.returns-clause-gives
returns-clause-gives c s was running =
    let w = c.in_ok-waiting.waiting.now in
    let found = c.in_ok-waiting.ensures.some in
    let plain : awaits_record w ≡ false = sym c.if-is_for_force.ensures in
    let at = lock_of w.wait plain in
    let a = c.in_ok-waiting.ensures.asks plain s was in
    let told = control_refused c.args.self.now c.take_wait.new.self s was c.take_wait.ensures.txns c.args.session w c.args.self.now.waits.once found.0 found.1 (λ r. plain) c.take_wait.ensures.locks c.take_wait.ensures.left in
    let asks : waiting_request w.txn (locks_in c.args.self.now).requests ≡ Some c.in_ok-request.request = sym c.in_ok-request.ensures in
    let blocked : in_its_way c.in_ok-request.request (locks_in c.args.self.now).requests ≡ Some c.in_ok-holder.holder = sym c.in_ok-holder.ensures.way in (
      with_requests (wait_refused s c.args.session) (cancelled a.0.txn s.locks.requests),
      record {
        running = running;
        waited = _;
        there = c.in_ok-waiting.ensures.waits s was;
        of = found.1;
        at = at.0;
        waits = at.1;
        txn = a.0;
        its = a.1;
        request = c.in_ok-request.request;
        asks = ap (λ t. waiting_request t s.locks.requests) a.2 ∙ ap (λ (x : Table). waiting_request w.txn x.requests) was.locks ∙ asks;
        holder = c.in_ok-holder.holder;
        blocked = ap (λ (x : Table). in_its_way c.in_ok-request.request x.requests) was.locks ∙ blocked;
        told = refl;
        is = refl;
      },
      subst (λ t. HasControl c.cancel.new.self (with_requests (wait_refused s c.args.session) (cancelled t s.locks.requests))) (sym a.2) (c.cancel.ensures.stands (wait_refused s c.args.session) told),
    )

pub returns-in_err-waiting-clause-none : goal.returns-in_err-waiting-clause-none
returns-in_err-waiting-clause-none c =
    let holds : (s : State) → HasControl c.args.self.now s → HasNoRequest s c.args.session = λ s was. none_of_idle s c.args.session (c.in_err-waiting.ensures.does_not s was) in
    if_none _ holds

pub returns-then-is_for_force-clause-none : goal.returns-then-is_for_force-clause-none
returns-then-is_for_force-clause-none c = λ s was.
    let found = c.in_ok-waiting.ensures.some in
    none_of_record (waits_in c.args.self.now) c.args.self.now.waits.once s was.waits c.args.session c.in_ok-waiting.waiting.now found.0 found.1 (sym c.if-is_for_force.ensures)

-- whoever waits has somebody in the way
pub returns-in_err-holder-clause-none : goal.returns-in_err-holder-clause-none
returns-in_err-holder-clause-none c =
    let rs = (locks_in c.args.self.now).requests in
    let txn = c.in_ok-waiting.waiting.now.txn in
    let r = c.in_ok-request.request in
    let asks : waiting_request txn rs ≡ Some r = sym c.in_ok-request.ensures in
    let by = (waits_as txn rs r asks).by in
    let some = c.in_err-holder.ensures.always (ap (λ t. waiting_request t rs) by ∙ asks) in
    absurd cc
