use Rattle.std.proofs.Common.{sym, ap, ◌∙◌}
use Rattle.std.specs.FinMap as map
use Rattle.shore_model.proofs.Maps.{entries_of_sorted}
use Rattle.shore_model.proofs.rid_map.RidMap.iter.Goals as goal

pub returns : goal.returns
returns g c =
    c.iter.ensures.rest ∙ sym (entries_of_sorted _ c.iter.ensures.ordered) ∙ ap map.entries c.self.view_is
