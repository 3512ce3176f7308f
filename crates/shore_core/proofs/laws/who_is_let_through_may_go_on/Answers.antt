use Rattle.shore_core.specs.Cores.{waits_of}
use Rattle.shore_core.proofs.LetThrough.{among_at, both_ways}
use Rattle.shore_sessions.proofs.WaitSteps.{call_waits}
use Rattle.shore_core.proofs.laws.who_is_let_through_may_go_on.Goals as goal

pub returns : goal.returns
returns g c core before s is n w at =
    let among = among_at (waits_of core) n w at in
    (call_waits (waits_of core) s is.parts.stands.waits w among, both_ways core before s is w among)
