use Rattle.std.proofs.Common.{◌≡◌, map, take}
use Rattle.toml.specs.View.{items_of, items_view}
use Rattle.shore_script.specs.Keys.{whole}
use Rattle.shore_script.proofs.settings.stores_of.Given as goal

abbrev pub invariant-loop-count : goal.invariant-loop-count
invariant-loop-count l = items_view (take l.count-index l.count-items) ≡ items_of (map whole l.stores)
