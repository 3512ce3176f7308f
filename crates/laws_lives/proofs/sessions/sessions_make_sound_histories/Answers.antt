use Rattle.laws_lives.proofs.Runs.{run_from_open}
use Rattle.laws_lives.proofs.sessions.sessions_make_sound_histories.Goals as goal

pub returns-clause-history : goal.returns-clause-history
returns-clause-history c o first last events made opened moves = (run_from_open o first events last made opened moves).1.history

pub returns-clause-sound : goal.returns-clause-sound
returns-clause-sound c o first last events made opened moves = (run_from_open o first events last made opened moves).0.sound

pub returns-clause-last : goal.returns-clause-last
returns-clause-last c o first last events made opened moves = run_from_open o first events last made opened moves
