use Rattle.std.proofs.Common.{◌≡◌, ◌≤◌, ◌*◌, map, take, vec_capacity}
use Rattle.shore_types.specs.Images.{image_len}
use Rattle.shore_types.specs.Versions.{record_limit, slot_limit}
use Rattle.shore_page.specs.Layout.{record_bytes}
use Rattle.shore_page.proofs.claims.claim_records.Given as goal

abbrev pub invariant-loop-slot : goal.invariant-loop-slot
invariant-loop-slot l = record {
  claims : l.claims.items ≡ map image_len (take l.slot l.text.images);
  capacity : vec_capacity l.claims ≡ slot_limit l.text.version;
  sum : l.claimed ≡ record_bytes (take l.slot l.text.images);
  small : l.claimed ≤ record_limit l.text.version * l.slot;
}
