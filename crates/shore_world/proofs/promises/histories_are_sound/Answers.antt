use Rattle.shore_world.proofs.PromiseLemmas.{decided_records, sound_history}
use Rattle.shore_world.proofs.promises.histories_are_sound.Goals as goal

pub returns-clause-sound : goal.returns-clause-sound
returns-clause-sound c d w o es ws k = sound_history w o es ws k

pub returns-clause-decided : goal.returns-clause-decided
returns-clause-decided c d w o es ws k = decided_records w o es ws k
