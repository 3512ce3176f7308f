use Rattle.std.proofs.Common.{◌≡◌, ◌+◌, ◌*◌, ◌++◌, length, drop}
use Rattle.std.specs.List.{flat_map}
use Rattle.byteorder.specs.Endian.{little_bytes}
use Rattle.shore_gate.proofs.labels.push_stores.Given as goal

abbrev pub invariant-loop-pages : goal.invariant-loop-pages
invariant-loop-pages l = record {
  text : l.bytes.items ++ flat_map (little_bytes 4) (drop l.pages-index l.stores) ≡ l.initial.bytes.items ++ flat_map (little_bytes 4) l.stores;
  len : length l.bytes.items ≡ length l.initial.bytes.items + 4 * l.pages-index;
}
