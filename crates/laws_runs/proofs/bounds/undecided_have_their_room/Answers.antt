use Rattle.std.proofs.Common.{arith}
use Rattle.laws_runs.proofs.Undecided.{some_claimed, some_owe_no_more}
use Rattle.laws_runs.proofs.bounds.undecided_have_their_room.Goals as goal

pub returns-clause-pages : goal.returns-clause-pages
returns-clause-pages c g log k some once are = some_claimed g log k some once are

pub returns-clause-stream : goal.returns-clause-stream
returns-clause-stream c g stream_bytes log some k once are =
    let less = some_owe_no_more log k.placed.undos k.placed.undecided some once are in
    let fits = k.room.fits in
    omega (arith, less, fits)

pub returns-clause-number : goal.returns-clause-number
returns-clause-number c g stream_bytes log some k once are =
    let less = some_owe_no_more log k.placed.undos k.placed.undecided some once are in
    let lsns = k.room.lsns in
    omega (arith, less, lsns)
