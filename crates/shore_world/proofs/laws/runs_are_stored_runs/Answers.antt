use Rattle.std.proofs.Common.{refl, take}
use Rattle.shore_world.proofs.StayLemmas.{all_served}
use Rattle.shore_world.proofs.StoredLemmas.{IsUpAt, run_run}
use Rattle.shore_world.specs.Worlds.{geometry_in, stream_bytes_in}
use Rattle.shore_world.proofs.laws.runs_are_stored_runs.Goals as goal

pub returns : goal.returns
returns g c old new events steps moves log_front front disk o found es m served runs at under_way =
    let label = take 512 log_front in
    let up : IsUpAt (geometry_in old) (stream_bytes_in old) o found label front es old m =
    record { log_front = log_front; labelled = refl; disk = disk; at = at; geometry = refl; long = refl; under_way = under_way } in
    let ran = run_run (geometry_in old) (stream_bytes_in old) o found label front es old m up events steps moves new (all_served events served) runs in
    (ran.plain, ran.last, ran.made, ran.up.disk, ran.up.log_front, ran.stored, ran.same, ran.up.at, ran.up.under_way, ran.up.labelled)
