use Rattle.shore_frames.proofs.CostLemmas.{next_fits}
use Rattle.shore_frames.proofs.laws.next_frames_fit.Goals as goal

pub returns : goal.returns
returns c tail gs waiting count reserved stream_bytes are some within room = next_fits tail gs waiting count reserved stream_bytes are some within room
