use Rattle.laws_calls.proofs.PreparedGranules.{granules_rise, prepared_granules}
use Rattle.laws_calls.proofs.WrongPrepares.{in_place_then, its, no_prepare_at_once, prepared_then, used_then}
use Rattle.std.proofs.Common.{ap}
use Rattle.laws_calls.specs.Prepares.{granules_in_ex}
use Rattle.laws_calls.specs.States.{State}
use Rattle.laws_calls.proofs.prepares.prepares_list_what_is_held.Goals as goal

pub returns-clause-at_once : goal.returns-clause-at_once
returns-clause-at_once d = no_prepare_at_once

pub returns-clause-logged : goal.returns-clause-logged
returns-clause-logged d g s new session global wait h =
    let t = its g s new session global wait h in
    (t.0, t.1, (granules_in_ex s t.0, ap (λ (x : State). x.log) t.2.4, prepared_granules s t.0, granules_rise s t.0))

pub returns-clause-session : goal.returns-clause-session
returns-clause-session d = prepared_then

pub returns-clause-in_use : goal.returns-clause-in_use
returns-clause-in_use d = used_then

pub returns-clause-in_place : goal.returns-clause-in_place
returns-clause-in_place d = in_place_then
