use Rattle.shore_world.proofs.LastOpens.{opened_in_harmony, opened_shows, opened_so, opening_shown}
use Rattle.shore_world.proofs.laws.opened_worlds_are_managers.Goals as goal

pub returns : goal.returns
returns c d g anchor rs pages o log volume w opening sized stood opens =
    let harmony = opened_in_harmony g o anchor rs pages opening sized log volume stood w opens in (
      opened_so g o anchor rs pages opening sized log volume stood w opens,
      opened_shows g o anchor rs pages opening sized log volume stood w opens,
      opening_shown g o anchor rs pages opening sized log volume stood w opens,
      harmony.0,
      harmony.1,
    )
