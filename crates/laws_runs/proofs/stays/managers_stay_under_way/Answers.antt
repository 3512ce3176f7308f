use Rattle.laws_runs.proofs.UnderWay.{moves_under_way, opens_under_way, step_under_way, under_way_inside, under_way_sound}
use Rattle.laws_runs.proofs.stays.managers_stay_under_way.Goals as goal

pub returns-clause-opens : goal.returns-clause-opens
returns-clause-opens c g stream_bytes o s ready works first f opening roomy restarts redone no_losers opens from =
    opens_under_way g stream_bytes o s f opening roomy works ready first restarts redone no_losers opens from

pub returns-clause-each : goal.returns-clause-each
returns-clause-each c g stream_bytes o found es m new e k h = step_under_way g stream_bytes o found es m e new k h

pub returns-clause-moves : goal.returns-clause-moves
returns-clause-moves c g stream_bytes o found es m last events made k h = moves_under_way g stream_bytes o found es m events last made k h

pub returns-clause-safe : goal.returns-clause-safe
returns-clause-safe c g stream_bytes o found es m k = (k.roomy, under_way_inside g stream_bytes o found es m k)

pub returns-clause-sound : goal.returns-clause-sound
returns-clause-sound c g stream_bytes o found es m k = under_way_sound g stream_bytes o found es m k
