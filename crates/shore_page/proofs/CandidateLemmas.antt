-- Which slots of a page a new record can go into.
use Rattle.std.proofs.Common.{◌≡◌, ◌<◌, ◌≤◌, ◌+◌, ℕ, List, length, get_or, Option, None, sym, ap, ◌∙◌, arith}
use Rattle.std.specs.Option.{option_and_then}
use Rattle.std.proofs.lemmas.Option.{slice_get_past, slice_get-get_or}
use Rattle.shore_types.specs.Images.{Image}
use Rattle.shore_types.specs.declared.versions.Version.{Version}
use Rattle.shore_types.specs.Versions.{record_limit, slot_limit}
use Rattle.shore_page.specs.Slots.{Slot, image_at_slot}
use Rattle.shore_page.specs.Room.{claim_at, free_bytes, IsCandidate}
use Rattle.shore_page.specs.Layout.{slots_of}
use Rattle.shore_page.proofs.PageLemmas.{image_at-slots}
use Rattle.shore_page.proofs.RoomLemmas.{need_behind}

-- what is in a slot, by the images alone
pub image_read : (images : List Image) (cs : List ℕ) (slot : ℕ) → length cs ≡ length images → slot < length images → image_at_slot (slots_of images cs) slot ≡ get_or images slot None
image_read images cs slot same there =
    sym (image_at-slots images cs slot same) ∙ ap (λ (o : Option Image). option_and_then (λ (image : Image). image) o) (slice_get-get_or images slot None there)

-- a slot that is there
pub candidate_inside : (v : Version) (slots : List Slot) (slot bytes free : ℕ) → slot < length slots → length slots ≤ slot_limit v → bytes ≤ record_limit v → free ≡ free_bytes v slots → image_at_slot slots slot ≡ None
    → bytes ≤ free + claim_at slots slot → IsCandidate v slots slot bytes
candidate_inside v slots slot bytes free there few most is none room = record {
  there = omega arith;
  empty = none;
  fits = record { there = omega arith; most = most; room = omega arith };
}

-- the slot behind the last
pub candidate_behind : (v : Version) (slots : List Slot) (bytes free : ℕ) → length slots < slot_limit v → bytes ≤ record_limit v → free ≡ free_bytes v slots → bytes + 4 ≤ free → IsCandidate v slots (length slots) bytes
candidate_behind v slots bytes free few most is room = record {
  there = omega arith;
  empty = ap (λ (o : Option Slot). option_and_then (λ (s : Slot). s.image) o) (slice_get_past slots (length slots) (omega arith));
  fits = record { there = few; most = most; room = omega (arith, need_behind slots (length slots) bytes (omega arith)) };
}
