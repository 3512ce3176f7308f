-- A record in the slot behind the last one.
use Rattle.std.proofs.Common.{◌≡◌, ℕ, ◌+◌, ◌-◌, ◌*◌, ◌≤◌, ◌++◌, max, inl, List, [], ◌∷◌, length, replicate, Some, None, refl, sym, ap, subst, ◌∙◌, arith}
use Rattle.std.proofs.lemmas.List.{length-append}
use Rattle.std.proofs.lemmas.List.Sums.{sum_by-append, sum_by-cons}
use Rattle.std.proofs.Math.ListN.{get_or-eq_default, set}
use Rattle.std.proofs.Math.Seq.{set-append_seam}
use Rattle.shore_types.specs.Images.{Image}
use Rattle.shore_types.specs.declared.versions.Version.{Version}
use Rattle.shore_page.specs.Slots.{Slot, holding, settled, with_change, with_image}
use Rattle.shore_page.specs.Room.{Fits, claim_at, claims}
use Rattle.shore_types.specs.declared.ids.PageId.{PageId}
use Rattle.shore_types.specs.Versions.{page_bytes, page_room, record_limit}
use Rattle.shore_page.specs.Text.{HasHeader, table_of}
use Rattle.shore_page.specs.Reading.{images_in}
use Rattle.shore_page.specs.Writing.{PutsRecord}
use Rattle.shore_page.specs.Layout.{HasClaims, IsLaidOut, record_bytes, slots_of}
use Rattle.shore_page.proofs.RoomLemmas.{with_image_room}
use Rattle.shore_page.proofs.PageLemmas.{claim_at-slots, length-slots, records_room}
use Rattle.shore_page.proofs.LayoutLemmas.{GrowDone, free_in_gap, length-images, put_done, puts_header}
use Rattle.shore_page.proofs.WritingLemmas.{header_same}

-- a slot with a record that claims no more
abbrev pub full : List ℕ → Slot
full bytes = record { image = Some bytes; claim = length bytes }

pub slots_pushed : (images : List Image) (cs : List ℕ) (bytes : List ℕ) → length cs ≡ length images → slots_of (images ++ Some bytes ∷ []) (cs ++ length bytes ∷ []) ≡ slots_of images cs ++ full bytes ∷ []
slots_pushed [] [] bytes same = refl
slots_pushed [] (c ∷ cs) bytes same = absurd (omega (arith, same))
slots_pushed (i ∷ images) [] bytes same = absurd (omega (arith, same))
slots_pushed (i ∷ images) (c ∷ cs) bytes same = ap (λ (l : List Slot). record { image = i; claim = c } ∷ l) (slots_pushed images cs bytes (omega (arith, same)))

change_last : (slots : List Slot) (f : Slot → Slot) (s : Slot) → with_change f (slots ++ s ∷ []) (length slots) ≡ slots ++ f s ∷ []
change_last [] f s = refl
change_last (x ∷ slots) f s = ap (λ (l : List Slot). x ∷ l) (change_last slots f s)

pub with_image_pushed : (slots : List Slot) (bytes : List ℕ) → with_image slots (length slots) (Some bytes) ≡ slots ++ full bytes ∷ []
with_image_pushed slots bytes =
    let one : length slots + 1 - length slots ≡ 1 = omega arith in
    let most : max 0 (length bytes) ≡ length bytes = omega arith in
    ap (λ (n : ℕ). with_change (holding (Some bytes)) (slots ++ replicate n (settled None)) (length slots)) one
    ∙ change_last slots (holding (Some bytes)) (settled None)
    ∙ ap (λ (n : ℕ). slots ++ record { image = Some bytes; claim = n } ∷ []) most

-- what the page's slots are then
pub slots_appended : (images : List Image) (cs : List ℕ) (bytes : List ℕ) → length cs ≡ length images
    → slots_of (images ++ Some bytes ∷ []) (cs ++ length bytes ∷ []) ≡ with_image (slots_of images cs) (length (slots_of images cs)) (Some bytes)
slots_appended images cs bytes same = slots_pushed images cs bytes same ∙ sym (with_image_pushed (slots_of images cs) bytes)

pub append_kept : (v : Version) (images : List Image) (cs : List ℕ) (capacity claimed : ℕ) (bytes : List ℕ) → HasClaims v images cs capacity claimed
    → Fits v (slots_of images cs) (length (slots_of images cs)) (length bytes) → HasClaims v (images ++ Some bytes ∷ []) (cs ++ length bytes ∷ []) capacity (claimed + length bytes)
append_kept v images cs capacity claimed bytes has fits =
    let slots = slots_of images cs in
    let pushed = slots_pushed images cs bytes has.same in
    record {
      same = omega (arith, has.same, length-append images (Some bytes ∷ []), length-append cs (length bytes ∷ []));
      kept = record {
        sum = omega (arith, has.kept.sum, ap claims pushed, sum_by-append (λ (s : Slot). s.claim) slots (full bytes ∷ []), sum_by-cons (λ (s : Slot). s.claim) (full bytes) []);
        room = rw (slots_appended images cs bytes has.same) (with_image_room v slots (length slots) (Some bytes) has.kept.room fits);
      };
      reserved = has.reserved;
    }

-- ---- the same in the bytes

pub record AppendDone (v : Version) (old new : List ℕ) (slots end : ℕ) (bytes : List ℕ) : Type 0 where
  pub laid_out : IsLaidOut v new (slots + 1) end
  pub images : images_in v new (slots + 1) ≡ images_in v old slots ++ Some bytes ∷ []

last_set : (images : List Image) (n : ℕ) (image new : Image) → length images ≡ n → set (images ++ image ∷ []) n new ≡ images ++ new ∷ []
last_set images n image new is = subst (λ (k : ℕ). set (images ++ image ∷ []) k new ≡ images ++ new ∷ []) is (set-append_seam images image [] new)

pub append_done : (v : Version) (old mid new : List ℕ) (slots end : ℕ) (bytes : List ℕ) → GrowDone v old mid slots (slots + 1) end → end + length bytes ≤ table_of v (slots + 1) → length bytes ≤ record_limit v
    → PutsRecord v mid new (slots + 1) slots end bytes → AppendDone v old new slots (end + length bytes) bytes
append_done v old mid new slots end bytes grown room short puts =
    let free = free_in_gap v mid (slots + 1) slots end (length bytes) grown.laid_out room in
    let done = put_done v mid mid new (slots + 1) slots end end bytes grown.laid_out free (λ other before apart. refl) (record { len = refl; same = λ position front. refl }) puts (omega arith) short in
    let most : max end (end + length bytes) ≡ end + length bytes = omega arith in
    let one : slots + 1 - slots ≡ 1 = omega arith in
    let grown_by_one : images_in v mid (slots + 1) ≡ images_in v old slots ++ None ∷ [] = grown.images ∙ ap (λ (n : ℕ). images_in v old slots ++ replicate n None) one in
    record {
      laid_out = subst (λ (n : ℕ). IsLaidOut v new (slots + 1) n) most done.laid_out;
      images = done.images ∙ ap (λ (l : List Image). set l slots (Some bytes)) grown_by_one ∙ last_set (images_in v old slots) slots None (Some bytes) (length-images v old slots);
    }

pub append_header : (v : Version) (mid new : List ℕ) (slots end : ℕ) (bytes : List ℕ) (id : PageId) (number : ℕ) → 24 + 4 * (slots + 1) ≤ page_bytes v → 24 ≤ end → length mid ≡ page_bytes v
    → PutsRecord v mid new (slots + 1) slots end bytes → HasHeader v mid id number (slots + 1) → HasHeader v new id number (slots + 1)
append_header v mid new slots end bytes id number few front whole puts header =
    header_same v mid new id number (slots + 1) whole (puts_header v mid new (slots + 1) slots end bytes few puts (inl front)) header

-- what a slot behind the last one needs
pub append_room : (v : Version) (images : List Image) (cs : List ℕ) (capacity claimed : ℕ) (bytes : ℕ) → HasClaims v images cs capacity claimed
    → Fits v (slots_of images cs) (length (slots_of images cs)) bytes → 4 * (length images + 1) + record_bytes images + bytes ≤ page_room v
append_room v images cs capacity claimed bytes has fits =
    let slots = slots_of images cs in
    let len = length-slots images cs has.same in
    let none : claim_at slots (length slots) ≡ 0 = claim_at-slots images cs (length slots) has.same ∙ get_or-eq_default cs 0 (omega (arith, len, has.same)) in
    omega (arith, fits.room, none, records_room v images cs capacity claimed has)
