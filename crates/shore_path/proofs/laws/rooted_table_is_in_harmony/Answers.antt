use Rattle.shore_model.specs.Requests.{held_by_all}
use Rattle.shore_path.proofs.Harmonies.{harmony_of}
use Rattle.shore_path.proofs.Intentions.{well_rooted}
use Rattle.shore_path.proofs.laws.rooted_table_is_in_harmony.Goals as goal

pub returns : goal.returns
returns c = λ rs orderly rooted. let all = well_rooted rs rooted in (all, harmony_of (held_by_all rs) orderly.together all)
