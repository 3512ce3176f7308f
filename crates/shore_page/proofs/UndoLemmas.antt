-- Claims of slots with undecided changes, and the room for undoing these.
use Rattle.std.proofs.Common.{◌≡◌, ℕ, zero, suc, ◌+◌, ◌-◌, ◌<◌, ◌≤◌, max, min, List, [], ◌∷◌, ◌++◌, length, map, replicate, get_or, Option, Some, None, refl, sym, ap, subst, ◌∙◌, arith}
use Rattle.shore_types.specs.Versions.{sizes}
use Rattle.std.specs.Prelude.{IfSome, option_map}
use Rattle.std.specs.Option.{option_and_then}
use Rattle.std.specs.List.{slice_get, All}
use Rattle.std.proofs.lemmas.List.{length-map, map-append}
use Rattle.std.proofs.lemmas.List.Sums.{sum_by-cons}
use Rattle.std.proofs.lemmas.List.Elements.{All-cons, All-head, All-tail, All-nil, All-get_or}
use Rattle.std.proofs.lemmas.Option.{slice_get-map, slice_get_within, get_or_from_slice_get}
use Rattle.shore_types.specs.declared.versions.Version.{Version}
use Rattle.shore_page.specs.Slots.{Slot, with_change, with_slot, with_image, holding, settled}
use Rattle.shore_types.specs.Images.{image_len, Image}
use Rattle.shore_page.specs.Room.{claims, Fits, HasRoom, HoldsItsImage, lowered}
use Rattle.shore_page.specs.Undo.{Undecided, longest, claiming, claiming_all, changing, untouched, with_undecided, undone, undoing, deciding, undo_image, UndoFits}
use Rattle.shore_page.proofs.RoomLemmas.{with_image_room, with_slot_inside, need_inside}

-- ---- one element changed

pub length-with_change : {A : Type 0} (f : A → A) (xs : List A) (i : ℕ) → length (with_change f xs i) ≡ length xs
length-with_change f [] i = refl
length-with_change f (x ∷ xs) zero = refl
length-with_change f (x ∷ xs) (suc i) = ap suc (length-with_change f xs i)

-- a change seen through a function
map-with_change : {A B : Type 0} (f : A → B) (g : A → A) (h : B → B) → ((x : A) → f (g x) ≡ h (f x)) → (xs : List A) (i : ℕ) → map f (with_change g xs i) ≡ with_change h (map f xs) i
map-with_change f g h same [] i = refl
map-with_change f g h same (x ∷ xs) zero = ap (λ y. y ∷ map f xs) (same x)
map-with_change f g h same (x ∷ xs) (suc i) = ap (λ ys. f x ∷ ys) (map-with_change f g h same xs i)

-- the same if the function and the changes agree at the element alone
map-with_change_at : {A B : Type 0} (f : A → B) (g : A → A) (h : B → B) (xs : List A) (i : ℕ) (x : A) → slice_get xs i ≡ Some x → f (g x) ≡ h (f x) → map f (with_change g xs i) ≡ with_change h (map f xs) i
map-with_change_at f g h [] i x here same = refl
map-with_change_at f g h (y ∷ xs) zero x here same = let is : x ≡ y = cc in ap (λ z. z ∷ map f xs) (rw (← is) same)
map-with_change_at f g h (y ∷ xs) (suc i) x here same = ap (λ ys. f y ∷ ys) (map-with_change_at f g h xs i x here same)

pub with_change_twice : {A : Type 0} (f g : A → A) (xs : List A) (i : ℕ) → with_change f (with_change g xs i) i ≡ with_change (λ x. f (g x)) xs i
with_change_twice f g [] i = refl
with_change_twice f g (x ∷ xs) zero = refl
with_change_twice f g (x ∷ xs) (suc i) = ap (λ ys. x ∷ ys) (with_change_twice f g xs i)

-- ---- claims go with the changes

slot_is : (image : Image) (a b : ℕ) → a ≡ b → ◌≡◌ {A = Slot} record { image = image; claim = a } record { image = image; claim = b }
slot_is image a b same = ap (λ (n : ℕ). slot image n) same
  where
    slot : Image → ℕ → Slot
    slot image n = record { image = image; claim = n }

changing_claims : (after : Image) (s : Undecided) → claiming (changing after s) ≡ holding after (claiming s)
changing_claims after s = slot_is after _ _ (greatest (image_len after) (image_len s.image) (longest s.befores))
  where
    greatest : (a b c : ℕ) → max a (max b c) ≡ max (max b c) a
    greatest a b c = omega arith

-- claims of slots that are new
padded_claims : (slots : List Undecided) (i : ℕ) → with_slot (claiming_all slots) i ≡ claiming_all (slots ++ replicate (i + 1 - length slots) untouched)
padded_claims slots i =
    ap (λ (n : ℕ). claiming_all slots ++ replicate (i + 1 - n) (settled None)) (length-map slots claiming)
    ∙ ap (λ (l : List Slot). claiming_all slots ++ l) (empty (i + 1 - length slots)) ∙ sym (map-append claiming slots (replicate (i + 1 - length slots) untouched))
  where
    empty : (n : ℕ) → replicate n (settled None) ≡ map claiming (replicate n untouched)
    empty zero = refl
    empty (suc n) = ap (λ (l : List Slot). settled None ∷ l) (empty n)

pub change_claims : (slots : List Undecided) (slot : ℕ) (after : Image) → with_image (claiming_all slots) slot after ≡ claiming_all (with_undecided slots slot after)
change_claims slots slot after =
    ap (λ (l : List Slot). with_change (holding after) l slot) (padded_claims slots slot)
    ∙ sym (map-with_change claiming (changing after) (holding after) (changing_claims after) (slots ++ replicate (slot + 1 - length slots) untouched) slot)

pub undo_claims : (slots : List Undecided) (slot : ℕ) (image before : Image) (rest : List Image) → slice_get slots slot ≡ Some record { image = image; befores = before ∷ rest }
    → with_change (lowered (longest rest)) (with_image (claiming_all slots) slot before) slot ≡ claiming_all (with_change undoing slots slot)
undo_claims slots slot image before rest here =
    let inside : slot < length (claiming_all slots) = omega (arith, length-map slots claiming, slice_get_within slots slot _ here) in
    ap (λ (l : List Slot). with_change (lowered (longest rest)) (with_change (holding before) l slot) slot) (with_slot_inside (claiming_all slots) slot inside)
    ∙ with_change_twice (lowered (longest rest)) (holding before) (claiming_all slots) slot
    ∙ sym (map-with_change_at claiming undoing (λ (s : Slot). lowered (longest rest) (holding before s)) slots slot _ here (slot_is before _ _ (least (image_len image) (image_len before) (longest rest))))
  where
    least : (a b c : ℕ) → max b c ≡ min (max (max a (max b c)) b) (max b c)
    least a b c = omega arith

pub decision_claims : (slots : List Undecided) (slot : ℕ) → with_change (lowered 0) (claiming_all slots) slot ≡ claiming_all (with_change deciding slots slot)
decision_claims slots slot = sym (map-with_change claiming deciding (lowered 0) (λ (s : Undecided). slot_is s.image _ _ (least (image_len s.image) (longest s.befores))) slots slot)
  where
    least : (a b : ℕ) → max a 0 ≡ min (max a b) (max a 0)
    least a b = omega arith

-- ---- each undo fits

-- an undo raises no claim
undo_less : (v : Version) (image : Image) (befores : List Image) → HoldsItsImage v (claiming (record { image = image; befores = befores }))
    → ((claiming (undone image befores)).claim ≤ max (image_len image) (longest befores)) × HoldsItsImage v (claiming (undone image befores))
undo_less v image [] holds = (omega arith, (omega arith, omega (arith, holds.1)))
undo_less v image (before ∷ rest) holds = (omega arith, (omega arith, omega (arith, holds.1)))

pub undo_room : (v : Version) (slots : List Undecided) (slot : ℕ) → All (HoldsItsImage v) (claiming_all slots)
    → (claims (claiming_all (with_change undoing slots slot)) ≤ claims (claiming_all slots)) × All (HoldsItsImage v) (claiming_all (with_change undoing slots slot))
undo_room v [] slot each = (omega arith, All-nil (HoldsItsImage v))
undo_room v (s ∷ slots) zero each =
    let less = undo_less v s.image s.befores (All-head (HoldsItsImage v) (claiming s) (claiming_all slots) each) in (
      omega (arith, less.0, sum_by-cons (λ (s : Slot). s.claim) (claiming s) (claiming_all slots), sum_by-cons (λ (s : Slot). s.claim) (claiming (undoing s)) (claiming_all slots)),
      All-cons (HoldsItsImage v) (claiming (undoing s)) (claiming_all slots) less.1 (All-tail (HoldsItsImage v) (claiming s) (claiming_all slots) each),
    )
undo_room v (s ∷ slots) (suc slot) each =
    let later = undo_room v slots slot (All-tail (HoldsItsImage v) (claiming s) (claiming_all slots) each) in (
      omega (arith, later.0, sum_by-cons (λ (s : Slot). s.claim) (claiming s) (claiming_all slots), sum_by-cons (λ (s : Slot). s.claim) (claiming s) (claiming_all (with_change undoing slots slot))),
      All-cons (HoldsItsImage v) (claiming s) (claiming_all (with_change undoing slots slot)) (All-head (HoldsItsImage v) (claiming s) (claiming_all slots) each) later.1,
    )

undo_fits : (v : Version) (slots : List Undecided) (slot : ℕ) → HasRoom v (claiming_all slots) → IfSome (undo_image slots slot) (λ before. Fits v (claiming_all slots) slot (image_len before))
undo_fits v slots slot room = found (slice_get slots slot) refl
  where
    put_back : (image : Image) (befores : List Image) → slice_get slots slot ≡ Some record { image = image; befores = befores } → IfSome (slice_get befores 0) (λ before. Fits v (claiming_all slots) slot (image_len before))
    put_back image [] here = tt
    put_back image (before ∷ rest) here =
        let x : Slot = claiming record { image = image; befores = before ∷ rest } in
        let inside : slot < length (claiming_all slots) = omega (arith, length-map slots claiming, slice_get_within slots slot _ here) in
        let got : slice_get (claiming_all slots) slot ≡ Some x = slice_get-map claiming slots slot ∙ ap (option_map claiming) here in
        let read : x ≡ get_or (claiming_all slots) slot x = sym (get_or_from_slice_get (claiming_all slots) slot x x got) in
        let holds : HoldsItsImage v x = subst (HoldsItsImage v) (sym read) (All-get_or (HoldsItsImage v) (claiming_all slots) slot x inside room.each) in
        record { there = omega (arith, sizes, room.room, inside); most = omega (arith, holds.1); room = omega (arith, need_inside (claiming_all slots) slot (image_len before) x inside read) }

    found : (o : Option Undecided) → slice_get slots slot ≡ o → IfSome (option_and_then (λ s. slice_get s.befores 0) o) (λ before. Fits v (claiming_all slots) slot (image_len before))
    found None none = tt
    found (Some s) here = put_back s.image s.befores here

pub undos_fit : (v : Version) (slots : List Undecided) (turns : List ℕ) → HasRoom v (claiming_all slots) → UndoFits v slots turns
undos_fit v slots [] room = tt
undos_fit v slots (slot ∷ later) room =
    let less = undo_room v slots slot room.each in
    let len : length (claiming_all (with_change undoing slots slot)) ≡ length (claiming_all slots) =
    length-map (with_change undoing slots slot) claiming ∙ length-with_change undoing slots slot ∙ sym (length-map slots claiming) in
    (undo_fits v slots slot room, undos_fit v (with_change undoing slots slot) later record { room = omega (arith, room.room, less.0); each = less.1 })

pub every_undo : (v : Version) (slots : List Undecided) (slot : ℕ) (after : Image) (turns : List ℕ) → HasRoom v (claiming_all slots) → Fits v (claiming_all slots) slot (image_len after) → UndoFits v (with_undecided slots slot after) turns
every_undo v slots slot after turns room fits = undos_fit v (with_undecided slots slot after) turns (subst (HasRoom v) (change_claims slots slot after) (with_image_room v (claiming_all slots) slot after room fits))
