-- Slots that keep more: nothing fits that did not fit before, and what is told is kept as far as it fits.
use Rattle.std.proofs.Common.{◌≡◌, ◌≢◌, ◌<◌, ◌≤◌, ℕ, zero, suc, max, List, [], ◌∷◌, Option, None, Some, IsSomeAnd, length, refl, sym, ap, subst, ◌∙◌, inl, inr, arith}
use Rattle.std.proofs.lemmas.Bool.{cases_eq}
use Rattle.shore_types.specs.Layout.{HasPage}
use Rattle.shore_types.specs.declared.ids.PageId.{PageId}
use Rattle.shore_types.specs.declared.layout.Geometry.{Geometry}
use Rattle.shore_types.specs.declared.versions.Version.{Version}
use Rattle.shore_page.specs.Room.{Fits, claim_at, free_bytes, need, raised}
use Rattle.shore_page.specs.Slots.{Slot, image_at_slot, with_change}
use Rattle.shore_page.specs.Text.{images_of}
use Rattle.shore_page.proofs.Fitting.{claims_changed, others_changed}
use Rattle.shore_page.proofs.UndoLemmas.{length-with_change}
use Rattle.shore_pool.specs.declared.frame.Frame.{Frame}
use Rattle.shore_heap.specs.Contents.{AreBounds, CanKeep, FitIn, HasSlots, KeepWhatFits, TakesNone, bound_of, claimed_by, with_slots}
use Rattle.shore_heap.proofs.Bounds.{cases_page, slots_here, slots_other}
use Rattle.shore_heap.proofs.Released.{images_raised}

-- ---- one claim more

claim_here : (bytes : ℕ) (slots : List Slot) (i : ℕ) → i < length slots → claim_at (with_change (raised bytes) slots i) i ≡ max (claim_at slots i) bytes
claim_here bytes [] i inside = absurd (omega (arith, inside))
claim_here bytes (s ∷ slots) zero inside = refl
claim_here bytes (s ∷ slots) (suc i) inside = claim_here bytes slots i (omega (arith, inside))

image_here : (bytes : ℕ) (slots : List Slot) (i : ℕ) → image_at_slot (with_change (raised bytes) slots i) i ≡ image_at_slot slots i
image_here bytes [] i = refl
image_here bytes (s ∷ slots) zero = refl
image_here bytes (s ∷ slots) (suc i) = image_here bytes slots i

module _ (v : Version) (slots : List Slot) (i kept : ℕ) (can : CanKeep v slots i kept) where
  abbrev more : List Slot
  more = with_change (raised kept) slots i

  long : length more ≡ length slots
  long = length-with_change (raised kept) slots i

  room_here : (bytes : ℕ) → need more i bytes ≤ free_bytes v more → need slots i bytes ≤ free_bytes v slots
  room_here bytes it = omega (arith, it, can.0, can.1.room, long, claims_changed (raised kept) slots i can.0, claim_here kept slots i can.0)

  room_elsewhere : (slot bytes : ℕ) → slot ≢ i → need more slot bytes ≤ free_bytes v more → need slots slot bytes ≤ free_bytes v slots
  room_elsewhere slot bytes apart it =
      omega (arith, it, can.0, long, claims_changed (raised kept) slots i can.0, claim_here kept slots i can.0, (others_changed (raised kept) slots i slot apart).1)

  -- what fits beside it fits without it
  pub fits_without : (slot bytes : ℕ) → Fits v more slot bytes → Fits v slots slot bytes
  fits_without slot bytes fits = record {
    there = fits.there;
    most = fits.most;
    room = elim (cases_eq slot i) [
      | inl same ↦ subst (λ n. need slots n bytes ≤ free_bytes v slots) (sym same) (room_here bytes (subst (λ n. need more n bytes ≤ free_bytes v more) same fits.room))
      | inr apart ↦ room_elsewhere slot bytes apart fits.room
    ];
  }

  pub keeps_without : (slot bytes : ℕ) → CanKeep v more slot bytes → CanKeep v slots slot bytes
  keeps_without slot bytes it = (omega (arith, it.0, long), fits_without slot bytes it.1)

  image_stays : (slot : ℕ) → image_at_slot more slot ≡ image_at_slot slots slot
  image_stays slot = elim (cases_eq slot i) [
    | inl same ↦ subst (λ n. image_at_slot more n ≡ image_at_slot slots n) (sym same) (image_here kept slots i)
    | inr apart ↦ (others_changed (raised kept) slots i slot apart).0
  ]

  pub takes_none : (bytes : ℕ) → TakesNone v slots bytes → TakesNone v more bytes
  takes_none bytes none slot empty fits = none slot (sym (image_stays slot) ∙ empty) (fits_without slot bytes fits)

-- a page that takes no more is bounded as it was
pub bounds_less : (g : Geometry) (free : List (List ℕ)) (S : PageId → List Slot) → AreBounds g free S → (id : PageId) (change : List Slot → List Slot)
    → ((bytes : ℕ) → TakesNone g.version (S id) bytes → TakesNone g.version (change (S id)) bytes) → AreBounds g free (with_slots S id change)
bounds_less g free S bounds id change less p bytes has up_to = elim (cases_page p id) [
  | inl same ↦
      let here = less bytes (bounds id bytes (subst (HasPage g) same has) (subst (λ (q : PageId). bound_of free q ≤ bytes) same up_to)) in
      subst (λ (l : List Slot). TakesNone g.version l bytes) (sym (ap (with_slots S id change) same ∙ slots_here S id change)) here
  | inr apart ↦ subst (λ (l : List Slot). TakesNone g.version l bytes) (sym (slots_other S id change p apart)) (bounds p bytes has up_to)
]

-- ---- what is told

-- what has room for all of it keeps all of it
pub all_kept : (v : Version) (kept : List (ℕ × ℕ)) (slots new : List Slot) → FitIn v kept slots → KeepWhatFits v kept slots new → new ≡ claimed_by kept slots
all_kept v [] slots new fit is = is
all_kept v (c ∷ rest) slots new fit (so_far, is, how) =
    let before : so_far ≡ claimed_by rest slots = all_kept v rest slots so_far fit.2 is in
    elim how [
      | inl now ↦ now.1 ∙ ap (λ (l : List Slot). with_change (raised c.1) l c.0) before
      | inr now ↦ absurd (now.0 (subst (λ (l : List Slot). CanKeep v l c.0 c.1) (sym before) (fit.0, fit.1)))
    ]

-- no image changes
pub images_kept : (v : Version) (kept : List (ℕ × ℕ)) (slots new : List Slot) → KeepWhatFits v kept slots new → images_of new ≡ images_of slots
images_kept v [] slots new is = ap images_of is
images_kept v (c ∷ rest) slots new (so_far, is, how) =
    let before = images_kept v rest slots so_far is in
    elim how [
      | inl now ↦ ap images_of now.1 ∙ images_raised c.1 so_far c.0 ∙ before
      | inr now ↦ ap images_of now.1 ∙ before
    ]

-- a page in a frame that keeps a claim more is bounded as it was
pub bounds_kept : (g : Geometry) (free : List (List ℕ)) (S : PageId → List Slot) → AreBounds g free S → (id : PageId) (slot bytes : ℕ) (text : List ℕ) (kept : List (ℕ × ℕ)) (o : Option Frame)
    → IsSomeAnd o (λ f. CanKeep g.version f.page.slots slot bytes) → HasSlots g.version o text id kept (S id) → AreBounds g free (with_slots S id (λ slots. with_change (raised bytes) slots slot))
bounds_kept g free S bounds id slot bytes text kept None can has = absurd can
bounds_kept g free S bounds id slot bytes text kept (Some f) can has =
    bounds_less g free S bounds id (λ slots. with_change (raised bytes) slots slot) (λ n none. takes_none g.version (S id) slot bytes (subst (λ (l : List Slot). CanKeep g.version l slot bytes) has can) n none)
