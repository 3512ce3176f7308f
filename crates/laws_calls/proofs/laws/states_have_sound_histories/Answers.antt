use Rattle.laws_calls.proofs.laws.states_have_sound_histories.Goals as goal

pub returns-clause-history : goal.returns-clause-history
returns-clause-history d o found es s k = k.sessions.agree.history

pub returns-clause-sound : goal.returns-clause-sound
returns-clause-sound d o found es s k = k.sessions.sound.sound
