use Rattle.std.proofs.Common.{inl, refl}
use Rattle.std.proofs.Math.Logic.{∥∥₁_map}
use Rattle.shore_disk.proofs.Moments.{seen_left}
use Rattle.shore_disk.specs.Device.{seen, size}
use Rattle.shore_world.specs.Worlds.{history_in, volume_history_in}
use Rattle.shore_world.proofs.StayLemmas.{stayed}
use Rattle.shore_world.proofs.laws.runs_stay_in_bounds.Goals as goal

pub returns : goal.returns
returns c d g o anchor rs pages manager stood opening sized is =
    let log = history_in manager.ended in
    let volume = volume_history_in manager.ended in
    ∥∥₁_map (stayed g (size manager.log) (size manager.volume) o anchor rs pages manager opening sized (refl, refl) stood is (seen log) (seen volume)
    (inl (seen_left log.first log.calls, seen_left volume.first volume.calls))) (λ all. ((all.run, all.of, all.up), all.never_full))
