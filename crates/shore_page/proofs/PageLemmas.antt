-- The slots of a page, by their images and their claims.
use Rattle.std.proofs.Common.{◌≡◌, ℕ, zero, suc, ◌+◌, ◌-◌, ◌*◌, ◌<◌, ◌≤◌, max, min, List, [], ◌∷◌, ◌++◌, length, map, get_or, replicate, Some, None, refl, sym, ap, subst, ◌∙◌, arith}
use Rattle.std.proofs.Math.ListN.{set}
use Rattle.std.proofs.lemmas.List.{length-map, length-set, length-append, length-replicate}
use Rattle.std.proofs.lemmas.List.Sums.{sum_by-set, sum_by-cons}
use Rattle.std.proofs.lemmas.List.Elements.{All-nil, All-cons, All-head, All-tail, All-get_or}
use Rattle.std.proofs.Common.{leb, leb-true, le-leb}
use Rattle.std.specs.Prelude.{IsTrue, ◌↔◌}
use Rattle.std.specs.Option.{option_and_then}
use Rattle.std.specs.List.{slice_get, All}
use Rattle.shore_types.specs.declared.ids.PageId.{PageId}
use Rattle.shore_types.specs.Images.{Image, image_len}
use Rattle.shore_types.specs.declared.versions.Version.{Version}
use Rattle.shore_types.specs.Versions.{page_room, record_limit, slot_limit, sizes}
use Rattle.shore_page.specs.Slots.{Slot, PageState, image_at_slot, with_change, with_slot, with_image, holding, settled}
use Rattle.shore_page.specs.Room.{claims, claim_at, free_bytes, need, Fits, HasRoom, HoldsItsImage, KeepsClaims, ChangesOne, raised, lowered}
use Rattle.std.proofs.lemmas.Option.{slice_get-get_or}
use Rattle.shore_page.specs.Text.{images_of, table_of, HasSlot, IsPageText}
use Rattle.shore_page.specs.Layout.{PageImages, record_bytes, slots_of, HasClaims}
use Rattle.shore_page.proofs.RoomLemmas.{changes_one, with_change_set, set_kept, set_kept_less, need_inside, with_slot_room, claims-with_slot, length-with_slot}
use Rattle.shore_page.proofs.UndoLemmas.{length-with_change, with_change_twice}

-- another image, or another claim, in a slot
abbrev pub imaged : Image → Slot → Slot
imaged image s = record { image = image; claim = s.claim }

abbrev pub reclaimed : ℕ → Slot → Slot
reclaimed claim s = record { image = s.image; claim = claim }

pub slots_set_image : (images : List Image) (cs : List ℕ) (i : ℕ) (image : Image) → slots_of (set images i image) cs ≡ with_change (imaged image) (slots_of images cs) i
slots_set_image [] cs i image = refl
slots_set_image (x ∷ images) [] zero image = refl
slots_set_image (x ∷ images) [] (suc i) image = refl
slots_set_image (x ∷ images) (c ∷ cs) zero image = refl
slots_set_image (x ∷ images) (c ∷ cs) (suc i) image = ap (λ (l : List Slot). record { image = x; claim = c } ∷ l) (slots_set_image images cs i image)

pub slots_set_claim : (images : List Image) (cs : List ℕ) (i claim : ℕ) → slots_of images (set cs i claim) ≡ with_change (reclaimed claim) (slots_of images cs) i
slots_set_claim [] cs i claim = refl
slots_set_claim (x ∷ images) [] i claim = refl
slots_set_claim (x ∷ images) (c ∷ cs) zero claim = refl
slots_set_claim (x ∷ images) (c ∷ cs) (suc i) claim = ap (λ (l : List Slot). record { image = x; claim = c } ∷ l) (slots_set_claim images cs i claim)

pub slots_append : (images : List Image) (cs : List ℕ) (n : ℕ) → length cs ≡ length images → slots_of (images ++ replicate n None) (cs ++ replicate n 0) ≡ slots_of images cs ++ replicate n (settled None)
slots_append [] [] zero same = refl
slots_append [] [] (suc n) same = ap (λ (l : List Slot). settled None ∷ l) (slots_append [] [] n refl)
slots_append [] (c ∷ cs) n same = absurd (omega arith)
slots_append (x ∷ images) [] n same = absurd (omega arith)
slots_append (x ∷ images) (c ∷ cs) n same = ap (λ (l : List Slot). record { image = x; claim = c } ∷ l) (slots_append images cs n (omega arith))

pub length-slots : (images : List Image) (cs : List ℕ) → length cs ≡ length images → length (slots_of images cs) ≡ length images
length-slots [] cs same = refl
length-slots (x ∷ images) [] same = absurd (omega arith)
length-slots (x ∷ images) (c ∷ cs) same = ap suc (length-slots images cs (omega arith))

pub get-slots : (images : List Image) (cs : List ℕ) (i : ℕ) (d : Slot) → length cs ≡ length images → i < length images → get_or (slots_of images cs) i d ≡ record { image = get_or images i None; claim = get_or cs i 0 }
get-slots [] cs i d same inside = absurd (omega arith)
get-slots (x ∷ images) [] i d same inside = absurd (omega arith)
get-slots (x ∷ images) (c ∷ cs) zero d same inside = refl
get-slots (x ∷ images) (c ∷ cs) (suc i) d same inside = get-slots images cs i d (omega arith) (omega arith)

pub image_at-slots : (images : List Image) (cs : List ℕ) (i : ℕ) → length cs ≡ length images → option_and_then (λ (image : Image). image) (slice_get images i) ≡ image_at_slot (slots_of images cs) i
image_at-slots [] cs i same = refl
image_at-slots (x ∷ images) [] i same = absurd (omega arith)
image_at-slots (x ∷ images) (c ∷ cs) zero same = refl
image_at-slots (x ∷ images) (c ∷ cs) (suc i) same = image_at-slots images cs i (omega arith)

pub images_of-slots : (images : List Image) (cs : List ℕ) → length cs ≡ length images → images_of (slots_of images cs) ≡ images
images_of-slots [] cs same = refl
images_of-slots (x ∷ images) [] same = absurd (omega arith)
images_of-slots (x ∷ images) (c ∷ cs) same = ap (λ (l : List Image). x ∷ l) (images_of-slots images cs (omega arith))

pub slots_settled : (images : List Image) → slots_of images (map image_len images) ≡ map settled images
slots_settled [] = refl
slots_settled (x ∷ images) = ap (λ (l : List Slot). settled x ∷ l) (slots_settled images)

-- records have no more bytes than the claims of their slots
records_claims : (v : Version) (images : List Image) (cs : List ℕ) → length cs ≡ length images → All (HoldsItsImage v) (slots_of images cs) → record_bytes images ≤ claims (slots_of images cs)
records_claims v [] cs same each = omega arith
records_claims v (x ∷ images) [] same each = absurd (omega arith)
records_claims v (x ∷ images) (c ∷ cs) same each =
    let s : Slot = record { image = x; claim = c } in
    let here = All-head (HoldsItsImage v) s (slots_of images cs) each in
    let later = records_claims v images cs (omega arith) (All-tail (HoldsItsImage v) s (slots_of images cs) each) in
    omega (arith, here.0, later, sum_by-cons image_len x images, sum_by-cons (λ (s : Slot). s.claim) s (slots_of images cs))

pub records_room : (v : Version) (images : List Image) (cs : List ℕ) (capacity claimed : ℕ) → HasClaims v images cs capacity claimed → 4 * length images + record_bytes images + free_bytes v (slots_of images cs) ≤ page_room v
records_room v images cs capacity claimed has =
    omega (arith, records_claims v images cs has.same has.kept.room.each, has.kept.room.room, length-slots images cs has.same)

-- ---- what a page keeps when one slot changes

abbrev pub slot_at : List Image → List ℕ → ℕ → Slot
slot_at images cs i = record { image = get_or images i None; claim = get_or cs i 0 }

slot_here : (images : List Image) (cs : List ℕ) (i : ℕ) → length cs ≡ length images → i < length images → slot_at images cs i ≡ get_or (slots_of images cs) i (slot_at images cs i)
slot_here images cs i same inside = sym (get-slots images cs i (slot_at images cs i) same inside)

-- changes that agree at a slot
change_same : (f g : Slot → Slot) (images : List Image) (cs : List ℕ) (i : ℕ) → length cs ≡ length images → i < length images → f (slot_at images cs i) ≡ g (slot_at images cs i) → with_change f (slots_of images cs) i ≡ with_change g (slots_of images cs) i
change_same f g images cs i same inside agree =
    let within : i < length (slots_of images cs) = omega (arith, length-slots images cs same) in
    let here = slot_here images cs i same inside in
    sym (with_change_set f (slots_of images cs) i (slot_at images cs i) (f (slot_at images cs i)) within here refl)
    ∙ with_change_set g (slots_of images cs) i (slot_at images cs i) (f (slot_at images cs i)) within here agree

holds_here : (v : Version) (images : List Image) (cs : List ℕ) (capacity claimed i : ℕ) → HasClaims v images cs capacity claimed → i < length images → HoldsItsImage v (slot_at images cs i)
holds_here v images cs capacity claimed i has inside =
    subst (HoldsItsImage v) (sym (slot_here images cs i has.same inside)) (All-get_or (HoldsItsImage v) (slots_of images cs) i (slot_at images cs i) (omega (arith, length-slots images cs has.same)) has.kept.room.each)

-- another claim
pub claim_raised : (v : Version) (images : List Image) (cs : List ℕ) (capacity claimed i bytes : ℕ) → HasClaims v images cs capacity claimed → i < length images → Fits v (slots_of images cs) i bytes
    → HasClaims v images (set cs i (max (get_or cs i 0) bytes)) capacity (claimed + (max (get_or cs i 0) bytes - get_or cs i 0))
claim_raised v images cs capacity claimed i bytes has inside fits =
    let claim = max (get_or cs i 0) bytes in
    let slots = slots_of images cs in
    let x = slot_at images cs i in
    let within : i < length slots = omega (arith, length-slots images cs has.same) in
    let here = slot_here images cs i has.same inside in
    let holds = holds_here v images cs capacity claimed i has inside in
    let room : bytes - get_or cs i 0 ≤ free_bytes v slots = omega (arith, need_inside slots i bytes x within here, fits.room) in
    let set_is : set slots i (reclaimed claim x) ≡ slots_of images (set cs i claim) =
    with_change_set (reclaimed claim) slots i x (reclaimed claim x) within here refl ∙ sym (slots_set_claim images cs i claim) in
    record {
      same = length-set cs i claim ∙ has.same;
      kept = subst (λ (l : List Slot). KeepsClaims v l (claimed + (claim - get_or cs i 0))) set_is
          (set_kept v slots claimed i x (reclaimed claim x) has.kept within here (omega (arith, holds.0), omega (arith, holds.1, fits.most)) (omega arith) (omega arith));
      reserved = has.reserved;
    }

pub slots_raised : (images : List Image) (cs : List ℕ) (i bytes : ℕ) → length cs ≡ length images → i < length images → slots_of images (set cs i (max (get_or cs i 0) bytes)) ≡ with_change (raised bytes) (slots_of images cs) i
slots_raised images cs i bytes same inside =
    slots_set_claim images cs i (max (get_or cs i 0) bytes) ∙ change_same (reclaimed (max (get_or cs i 0) bytes)) (raised bytes) images cs i same inside refl

pub claim_lowered : (v : Version) (images : List Image) (cs : List ℕ) (capacity claimed i bytes : ℕ) → HasClaims v images cs capacity claimed → i < length images
    → HasClaims v images (set cs i (min (get_or cs i 0) (max bytes (image_len (get_or images i None))))) capacity (claimed - (get_or cs i 0 - min (get_or cs i 0) (max bytes (image_len (get_or images i None)))))
claim_lowered v images cs capacity claimed i bytes has inside =
    let claim = min (get_or cs i 0) (max bytes (image_len (get_or images i None))) in
    let slots = slots_of images cs in
    let x = slot_at images cs i in
    let within : i < length slots = omega (arith, length-slots images cs has.same) in
    let here = slot_here images cs i has.same inside in
    let holds = holds_here v images cs capacity claimed i has inside in
    let set_is : set slots i (reclaimed claim x) ≡ slots_of images (set cs i claim) =
    with_change_set (reclaimed claim) slots i x (reclaimed claim x) within here refl ∙ sym (slots_set_claim images cs i claim) in
    record {
      same = length-set cs i claim ∙ has.same;
      kept = subst (λ (l : List Slot). KeepsClaims v l (claimed - (get_or cs i 0 - claim))) set_is
          (set_kept_less v slots claimed i x (reclaimed claim x) has.kept within here (omega (arith, holds.0), omega (arith, holds.1)) (omega arith));
      reserved = has.reserved;
    }

pub slots_lowered : (images : List Image) (cs : List ℕ) (i bytes : ℕ) → length cs ≡ length images → i < length images
    → slots_of images (set cs i (min (get_or cs i 0) (max bytes (image_len (get_or images i None))))) ≡ with_change (lowered bytes) (slots_of images cs) i
slots_lowered images cs i bytes same inside =
    let claim = min (get_or cs i 0) (max bytes (image_len (get_or images i None))) in
    slots_set_claim images cs i claim ∙ change_same (reclaimed claim) (lowered bytes) images cs i same inside
    (ap (λ (n : ℕ). slot (get_or images i None) n) (swapped (get_or cs i 0) bytes (image_len (get_or images i None))))
  where
    slot : Image → ℕ → Slot
    slot image n = record { image = image; claim = n }

    swapped : (a b c : ℕ) → min a (max b c) ≡ min a (max c b)
    swapped a b c = omega arith

-- another image, in a slot that claims its bytes
pub image_kept : (v : Version) (images : List Image) (cs : List ℕ) (capacity claimed i : ℕ) (image : Image) → HasClaims v images cs capacity claimed → i < length images → image_len image ≤ get_or cs i 0
    → HasClaims v (set images i image) cs capacity claimed
image_kept v images cs capacity claimed i image has inside short =
    let slots = slots_of images cs in
    let x = slot_at images cs i in
    let within : i < length slots = omega (arith, length-slots images cs has.same) in
    let here = slot_here images cs i has.same inside in
    let holds = holds_here v images cs capacity claimed i has inside in
    let set_is : set slots i (imaged image x) ≡ slots_of (set images i image) cs =
    with_change_set (imaged image) slots i x (imaged image x) within here refl ∙ sym (slots_set_image images cs i image) in
    let kept = set_kept v slots claimed i x (imaged image x) has.kept within here (short, holds.1) (omega arith) (omega arith) in
    record {
      same = has.same ∙ sym (length-set images i image);
      kept = subst (λ (n : ℕ). KeepsClaims v (slots_of (set images i image) cs) n) (none claimed (get_or cs i 0)) (subst (λ (l : List Slot). KeepsClaims v l (claimed + (get_or cs i 0 - get_or cs i 0))) set_is kept);
      reserved = has.reserved;
    }
  where
    none : (a b : ℕ) → a + (b - b) ≡ a
    none a b = omega arith

-- the bytes of a record have room in place of what was in its slot
pub image_room : (v : Version) (images : List Image) (cs : List ℕ) (capacity claimed i : ℕ) (bytes : List ℕ) → HasClaims v images cs capacity claimed → i < length images → length bytes ≤ get_or cs i 0
    → 4 * length images + record_bytes (set images i None) + length bytes ≤ page_room v
image_room v images cs capacity claimed i bytes has inside short =
    let put = records_room v (set images i (Some bytes)) cs capacity claimed (image_kept v images cs capacity claimed i (Some bytes) has inside short) in
    let some = sum_by-set image_len images i (Some bytes) None inside in
    let none = sum_by-set image_len images i None None inside in
    omega (arith, put, some, none, length-set images i (Some bytes))

-- slots up to one
pub reached : (v : Version) (images : List Image) (cs : List ℕ) (capacity claimed i : ℕ) → HasClaims v images cs capacity claimed → length images ≤ i → 4 * (i + 1 - length images) ≤ free_bytes v (slots_of images cs)
    → HasClaims v (images ++ replicate (i + 1 - length images) None) (cs ++ replicate (i + 1 - length images) 0) capacity claimed
reached v images cs capacity claimed i has behind fits =
    let slots = slots_of images cs in
    let n = i + 1 - length images in
    let len = length-slots images cs has.same in
    let more = slots_append images cs n has.same in
    let is : with_slot slots i ≡ slots ++ replicate n (settled None) = ap (λ (k : ℕ). slots ++ replicate (i + 1 - k) (settled None)) len in
    record {
      same = omega (arith, has.same, length-append images (replicate n None), length-append cs (replicate n 0), length-replicate {A = ℕ} n 0, length-replicate {A = Image} n None);
      kept = record {
        sum = has.kept.sum ∙ sym (claims-with_slot slots i) ∙ ap claims (is ∙ sym more);
        room = subst (HasRoom v) (is ∙ sym more) (with_slot_room v slots i has.kept.room (omega arith));
      };
      reserved = has.reserved;
    }

pub slots_reached : (images : List Image) (cs : List ℕ) (i : ℕ) → length cs ≡ length images → slots_of (images ++ replicate (i + 1 - length images) None) (cs ++ replicate (i + 1 - length images) 0) ≡ with_slot (slots_of images cs) i
slots_reached images cs i same =
    slots_append images cs (i + 1 - length images) same ∙ ap (λ (k : ℕ). slots_of images cs ++ replicate (i + 1 - k) (settled None)) (sym (length-slots images cs same))

-- a page with other slots
abbrev pub with_slots : PageState → List Slot → PageState
with_slots p l = record { version = p.version; id = p.id; number = p.number; slots = l }

-- pages that are alike but for their slots
pub same_but_slots : (p q : PageState) (l m : List Slot) → p ≡ q → l ≡ m → with_slots p l ≡ with_slots q m
same_but_slots p q l m same slots = ap (λ (p : PageState). with_slots p l) same ∙ ap (λ (l : List Slot). with_slots q l) slots

-- a page of a text and its claims
abbrev pub page_of : PageImages → List ℕ → PageState
page_of t cs = record { version = t.version; id = t.id; number = t.number; slots = slots_of t.images cs }

pub claim_at-slots : (images : List Image) (cs : List ℕ) (i : ℕ) → length cs ≡ length images → claim_at (slots_of images cs) i ≡ get_or cs i 0
claim_at-slots [] [] i same = refl
claim_at-slots [] (c ∷ cs) i same = absurd (omega arith)
claim_at-slots (x ∷ images) [] i same = absurd (omega arith)
claim_at-slots (x ∷ images) (c ∷ cs) zero same = refl
claim_at-slots (x ∷ images) (c ∷ cs) (suc i) same = claim_at-slots images cs i (omega arith)

claim_at-raised : (slots : List Slot) (i n : ℕ) → i < length slots → n ≤ claim_at (with_change (raised n) slots i) i
claim_at-raised [] i n inside = absurd (omega arith)
claim_at-raised (s ∷ slots) zero n inside = omega arith
claim_at-raised (s ∷ slots) (suc i) n inside = claim_at-raised slots i n (omega arith)

with_change_all : (f g : Slot → Slot) → ((s : Slot) → f s ≡ g s) → (slots : List Slot) (i : ℕ) → with_change f slots i ≡ with_change g slots i
with_change_all f g same [] i = refl
with_change_all f g same (s ∷ slots) zero = ap (λ (t : Slot). t ∷ slots) (same s)
with_change_all f g same (s ∷ slots) (suc i) = ap (λ (l : List Slot). s ∷ l) (with_change_all f g same slots i)

-- a slot that was raised for an image is there, and claims its bytes
pub raised_facts : (images : List Image) (cs : List ℕ) (old : List Slot) (i n : ℕ) → length cs ≡ length images → slots_of images cs ≡ with_change (raised n) (with_slot old i) i → (i < length images) × (n ≤ get_or cs i 0)
raised_facts images cs old i n same is =
    let inside : i < length (with_slot old i) = omega (arith, length-with_slot old i) in (
      omega (arith, length-slots images cs same, ap (λ (l : List Slot). length l) is, length-with_change (raised n) (with_slot old i) i),
      omega (arith, claim_at-slots images cs i same, ap (λ (l : List Slot). claim_at l i) is, claim_at-raised (with_slot old i) i n inside),
    )

slot_of : Image → ℕ → Slot
slot_of image n = record { image = image; claim = n }

-- an image put into a slot that claims its bytes
pub image_put : (images : List Image) (cs : List ℕ) (i : ℕ) (image : Image) → length cs ≡ length images → i < length images → image_len image ≤ get_or cs i 0
    → slots_of (set images i image) cs ≡ with_change (holding image) (slots_of images cs) i
unfolding slot_of
image_put images cs i image same inside short =
    let claim : get_or cs i 0 ≡ max (get_or cs i 0) (image_len image) = omega arith in
    slots_set_image images cs i image ∙ change_same (imaged image) (holding image) images cs i same inside (ap (slot_of image) claim)

pub raised_put : (images : List Image) (cs : List ℕ) (old : List Slot) (i : ℕ) (image : Image) → length cs ≡ length images → slots_of images cs ≡ with_change (raised (image_len image)) (with_slot old i) i
    → slots_of (set images i image) cs ≡ with_image old i image
unfolding slot_of
raised_put images cs old i image same is =
    let facts = raised_facts images cs old i (image_len image) same is in
    image_put images cs i image same facts.0 facts.1 ∙ ap (λ (l : List Slot). with_change (holding image) l i) is
    ∙ with_change_twice (holding image) (raised (image_len image)) (with_slot old i) i
    ∙ with_change_all (λ (s : Slot). holding image (raised (image_len image) s)) (holding image) (λ (s : Slot). ap (slot_of image) (twice s.claim (image_len image))) (with_slot old i) i
  where
    twice : (a b : ℕ) → max (max a b) b ≡ max a b
    twice a b = omega arith

-- no record fits a slot that is there
pub nothing_fits : (v : Version) (slots : List Slot) (i : ℕ) → HasRoom v slots → i < length slots → Fits v slots i 0
nothing_fits v slots i room inside = record { there = omega (arith, sizes, room.room); most = omega arith; room = omega arith }

-- ---- what a page's calls leave, over its text and its claims

pub fits_is : (v : Version) (slots : List Slot) (slot bytes n free : ℕ) → slot < slot_limit v → bytes ≤ record_limit v → n ≡ need slots slot bytes → free ≡ free_bytes v slots → IsTrue (leb n free) ↔ Fits v slots slot bytes
fits_is v slots slot bytes n free there most is room = (
  λ test. record { there = there; most = most; room = omega (arith, leb-true n free test) },
  λ fits. le-leb n free (omega (arith, fits.room)),
)

-- a slot that is there
pub slot_inside : (images : List Image) (cs : List ℕ) (now : List Slot) (i : ℕ) → length cs ≡ length images → slots_of images cs ≡ now → i < length now → i < length images
slot_inside images cs now i same is there = omega (arith, length-slots images cs same, ap (λ (l : List Slot). length l) is)

-- an image in a slot that was raised for it
pub raised_kept : (v : Version) (images : List Image) (cs : List ℕ) (capacity claimed : ℕ) (old : List Slot) (i : ℕ) (image : Image) → HasClaims v images cs capacity claimed → slots_of images cs ≡ with_change (raised (image_len image)) (with_slot old i) i
    → HasClaims v (set images i image) cs capacity claimed
raised_kept v images cs capacity claimed old i image has is =
    let facts = raised_facts images cs old i (image_len image) has.same is in
    image_kept v images cs capacity claimed i image has facts.0 facts.1

pub raised_room : (v : Version) (images : List Image) (cs : List ℕ) (capacity claimed : ℕ) (old : List Slot) (i : ℕ) (bytes : List ℕ) → HasClaims v images cs capacity claimed → slots_of images cs ≡ with_change (raised (length bytes)) (with_slot old i) i
    → 4 * length images + record_bytes (set images i None) + length bytes ≤ page_room v
raised_room v images cs capacity claimed old i bytes has is =
    let facts = raised_facts images cs old i (length bytes) has.same is in
    image_room v images cs capacity claimed i bytes has facts.0 facts.1

pub raised_one : (v : Version) (images : List Image) (cs : List ℕ) (old : List Slot) (i : ℕ) (image : Image) → length cs ≡ length images → slots_of images cs ≡ with_change (raised (image_len image)) (with_slot old i) i → HasRoom v old → Fits v old i (image_len image)
    → ChangesOne v old (slots_of (set images i image) cs) i image
raised_one v images cs old i image same is room fits = subst (λ (l : List Slot). ChangesOne v old l i image) (sym (raised_put images cs old i image same is)) (changes_one v old i image room fits)

-- the slots of a page's text are settled
pub settled_kept : (v : Version) (images : List Image) (cs : List ℕ) (capacity claimed : ℕ) → cs ≡ map image_len images → claimed ≡ record_bytes images → capacity ≡ slot_limit v → 4 * length images + record_bytes images ≤ page_room v → ((i : ℕ) → i < length images → image_len (get_or images i None) ≤ record_limit v)
    → HasClaims v images cs capacity claimed
settled_kept v images cs capacity claimed is sum reserved room short =
    let same : length cs ≡ length images = ap (λ (l : List ℕ). length l) is ∙ length-map images image_len in
    let slots : slots_of images cs ≡ map settled images = ap (λ (l : List ℕ). slots_of images l) is ∙ slots_settled images in
    let total = claims-settled images in
    let len : length (map settled images) ≡ length images = length-map images settled in
    record {
      same = same;
      kept = subst (λ (l : List Slot). KeepsClaims v l claimed) (sym slots) record { sum = omega arith; room = record { room = omega arith; each = each images short } };
      reserved = reserved;
    }
  where
    each : (images : List Image) → ((i : ℕ) → i < length images → image_len (get_or images i None) ≤ record_limit v) → All (HoldsItsImage v) (map settled images)
    each [] short = All-nil (HoldsItsImage v)
    each (image ∷ images) short = All-cons (HoldsItsImage v) (settled image) (map settled images) (omega arith, short 0 (omega arith)) (each images (λ i inside. short (suc i) (omega arith)))

    claims-settled : (images : List Image) → claims (map settled images) ≡ record_bytes images
    claims-settled [] = refl
    claims-settled (image ∷ images) = omega (arith, claims-settled images, sum_by-cons (λ (s : Slot). s.claim) (settled image) (map settled images), sum_by-cons image_len image images)

pub claim_at-most : (slots : List Slot) (i : ℕ) → claim_at slots i ≤ claims slots
claim_at-most [] i = omega arith
claim_at-most (s ∷ slots) zero = omega (arith, sum_by-cons (λ (s : Slot). s.claim) s slots)
claim_at-most (s ∷ slots) (suc i) = omega (arith, claim_at-most slots i, sum_by-cons (λ (s : Slot). s.claim) s slots)

-- no record of a text is longer than one may be
pub text_short : (v : Version) (bytes : List ℕ) (id : PageId) (number : ℕ) (images : List Image) → IsPageText v bytes id number images → (i : ℕ) → i < length images → image_len (get_or images i None) ≤ record_limit v
text_short v bytes id number images text i inside = short (get_or images i None) (text.slots i (get_or images i None) (slice_get-get_or images i None inside))
  where
    short : (image : Image) → HasSlot v bytes (table_of v (length images)) i image → image_len image ≤ record_limit v
    short None has = omega arith
    short (Some record_is) has = has.0.most
