-- A frame of which something changes, but not its page's number on the volume.
use Rattle.std.proofs.Common.{◌≡◌, ◌≢◌, ◌<◌, ◌≤◌, ℕ, List, Option, Some, IsSome, is_some, true, length, refl, sym, ap, subst, ◌∙◌}
use Rattle.slab.specs.Slab.{Slab, Updates, get, slab_len, with_value}
use Rattle.slab.proofs.SlabLemmas.{Updates-with_value}
use Rattle.shore_pool.specs.declared.frame.Frame.{Frame}
use Rattle.shore_pool.specs.Frames.{IsIndexed, frame_in, key_at}
use Rattle.shore_pool.proofs.Indexes.{replaced, replaced_others, same_count, same_number}

-- what then stays
pub record Stays (slots new : Slab Frame) (table : List (Option ℕ)) (limit number : ℕ) : Type 0 where
  pub indexed : IsIndexed new table
  pub within : slab_len new ≤ limit
  pub count : slab_len new ≡ slab_len slots
  pub others : (k : ℕ) → k ≢ number → frame_in new table k ≡ frame_in slots table k

pub content_changes : (slots : Slab Frame) (table : List (Option ℕ)) (limit number key : ℕ) (old new : Frame) → IsIndexed slots table → slab_len slots ≤ limit
    → key_at table number ≡ Some key → number < length table → get slots key ≡ Some old → new.number ≡ old.number → Stays slots (with_value slots key new) table limit number
content_changes slots table limit number key old new indexed within at inside there same =
    let updates : Updates slots (with_value slots key new) key (Some new) = Updates-with_value slots key new (subst IsSome (sym there) refl) in
    let named = same ∙ same_number slots table indexed number key at old there in
    let taken : is_some (get slots key) ≡ true = ap is_some there in
    record {
      indexed = replaced slots _ table number key inside new updates named indexed at;
      within = subst (λ (n : ℕ). n ≤ limit) (sym (same_count slots.slots key new taken)) within;
      count = same_count slots.slots key new taken;
      others = replaced_others slots _ table number key inside new updates named indexed at;
    }
