use Rattle.std.proofs.Common.{◌≡◌, ◌<◌, ℕ, length, slice_index, sum, take}
use Rattle.shore_types.specs.declared.layout.TheConstants.{MAX_STORES}
use Rattle.shore_dwrite.proofs.places.first_numbers.Given as goal

abbrev pub invariant-loop-store : goal.invariant-loop-store
invariant-loop-store l = record {
  number : l.number ≡ sum (take l.store l.stores);
  whole : length l.firsts ≡ MAX_STORES;
  firsts : (store : ℕ) → store < l.store → slice_index l.firsts store ≡ sum (take store l.stores);
}
