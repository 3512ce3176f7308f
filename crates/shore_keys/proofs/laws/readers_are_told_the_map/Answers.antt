use Rattle.shore_model.specs.Histories.{serial, writes_in}
use Rattle.shore_keys.proofs.laws.readers_are_told_the_map.Goals as goal

pub returns : goal.returns
returns c k h before t m acts alone rep act = (act h.opening.slots (serial (writes_in h) h.opening.records before) m rep alone.0).0
