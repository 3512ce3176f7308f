-- What is decided of a state, and which refusals come of it alone.
use Rattle.std.proofs.Common.{◌≡◌, ◌≢◌, ◌⊎◌, inl, inr, ⊎_elim, ◌+◌, ◌≤◌, ◌<◌, ℕ, suc, List, [], ◌∷◌, Bool, true, false, Some, None, refl, ap, subst, ◌∙◌, length, max, arith}
use Rattle.std.specs.Ordering.{eq_by_cmp}
use Rattle.std.specs.Prelude.{Option, ◌==◌, IsSome, IsSomeAnd, IsTrue, slice_get}
use Rattle.std.proofs.lemmas.Bool.{eqb-false, eqb-true}
use Rattle.std.proofs.lemmas.Map.Views.{tells_apart}
use Rattle.shore_types.specs.Ids.{exact_pages, page_cmp}
use Rattle.shore_types.specs.Images.{Image}
use Rattle.shore_types.specs.Layout.{HasPage, HasStore}
use Rattle.shore_types.specs.declared.faults.Device.{Device}
use Rattle.shore_types.specs.declared.faults.Fault.{Fault}
use Rattle.shore_types.specs.declared.faults.Fault.TheVariants as fault
use Rattle.shore_types.specs.declared.ids.PageId.{PageId}
use Rattle.shore_types.specs.declared.ids.Rid.{Rid}
use Rattle.shore_types.specs.declared.layout.Geometry.{Geometry}
use Rattle.shore_types.specs.declared.layout.TheConstants.{GREATEST_CHECKPOINT, LAST_LSN, LONGEST_FRAME}
use Rattle.shore_types.specs.declared.versions.Version.{Version}
use Rattle.shore_types.specs.Versions.{record_limit, slot_limit}
use Rattle.shore_page.specs.Room.{Fits, free_bytes, need}
use Rattle.shore_page.specs.Slots.{Slot}
use Rattle.laws_room.proofs.Leaving.{same_page}
use Rattle.laws_room.specs.Claims.{Grows, SlotCounts}
use Rattle.laws_lives.proofs.Lists.{within_or_beyond}
use Rattle.laws_lives.specs.Views.{IsAmong}
use Rattle.shore_model.specs.declared.step.Step.TheVariants.{Refused}
use Rattle.laws_calls.specs.StateChanges.{ComesOfState}
use Rattle.laws_calls.specs.States.{HasRoomFor, State, Waiting, log_room}

-- ---- what is decided

abbrev pub OrNot : Type 0 → Type 0
OrNot P = P ⊎ (P → ⊥)

pub at_most : (a b : ℕ) → OrNot (a ≤ b)
at_most a b = ⊎_elim (λ le. inl le) (λ less. inr (λ le. omega arith)) (within_or_beyond a b)

pub less_than : (a b : ℕ) → OrNot (a < b)
less_than a b = at_most (suc a) b

pub both : {P Q : Type 0} → OrNot P → OrNot Q → OrNot (P × Q)
both p q = ⊎_elim (λ x. ⊎_elim (λ y. inl (x, y)) (λ none. inr (λ h. none h.1)) q) (λ none. inr (λ h. none h.0)) p

pub some_or_not : (o : Option ℕ) (n : ℕ) → OrNot (IsSomeAnd o (λ pages. n < pages))
some_or_not None n = inr (λ h. absurd h)
some_or_not (Some pages) n = less_than n pages

pub store_or_not : (g : Geometry) (store : ℕ) → OrNot (HasStore g store)
store_or_not g store = less_than store (length g.stores)

pub page_or_not : (g : Geometry) (p : PageId) → OrNot (HasPage g p)
page_or_not g p = some_or_not (slice_get g.stores p.store) p.page

pub fits_or_not : (v : Version) (slots : List Slot) (slot bytes : ℕ) → OrNot (Fits v slots slot bytes)
fits_or_not v slots slot bytes =
    ⊎_elim
    (λ h. inl (record { there = h.0.0; most = h.0.1; room = h.1 }))
    (λ none. inr (λ h. none ((h.there, h.most), h.room)))
    (both (both (less_than slot (slot_limit v)) (at_most bytes (record_limit v))) (at_most (need slots slot bytes) (free_bytes v slots)))

pub room_or_not : (s : State) (n : ℕ) → OrNot (HasRoomFor s n)
room_or_not s n =
    let room = log_room s in
    both (less_than (length s.log) LAST_LSN) (at_most (room.kept + room.reserved + n + LONGEST_FRAME + GREATEST_CHECKPOINT) s.stream_bytes)

pub image_or_none : (o : Image) → ((bytes : List ℕ) × (o ≡ Some bytes)) ⊎ (o ≡ None)
image_or_none None = inr refl
image_or_none (Some bytes) = inl (bytes, refl)

pub waits_or_not : (session : ℕ) (ws : List Waiting) → ((w : Waiting) × IsAmong w ws × (w.session ≡ session)) ⊎ ((w : Waiting) → IsAmong w ws → w.session ≢ session)
waits_or_not session [] = inr (λ w m. absurd m)
waits_or_not session (x ∷ ws) =
    elim (x.session == session) as
    (λ b. (x.session == session) ≡ b → ((w : Waiting) × IsAmong w (x ∷ ws) × (w.session ≡ session)) ⊎
    ((w : Waiting) → IsAmong w (x ∷ ws) → w.session ≢ session)) [
      | true ↦ λ e. inl (x, inl refl, eqb-true x.session session e)
      | false ↦ λ e. ⊎_elim
          (λ h. inl (h.0, inr h.1, h.2))
          (λ none. inr (λ w. ⊎_elim (λ same is. eqb-false x.session session e (ap (λ (w : Waiting). w.session) same ∙ is)) (λ later. none w later)))
          (waits_or_not session ws)
    ] refl

pub no_record_both : (o : Option (List ℕ)) → IsSome o → o ≡ None → ⊥
no_record_both None h e = cc
no_record_both (Some x) h e = cc

pub both_ways : (b : Bool) → IsTrue b → b ≡ false → ⊥
both_ways b h e = cc

-- ---- slots

abbrev pub if_so : Bool → ℕ → ℕ → ℕ
if_so true a b = a
if_so false a b = b

-- the counts once an id's page has its slot
abbrev pub grown : SlotCounts → Rid → SlotCounts
grown counts id p = if_so (eq_by_cmp page_cmp p id.page) (max (counts id.page) (id.slot + 1)) (counts p)

pub grows : (counts : SlotCounts) (id : Rid) → Grows counts (grown counts id) id
grows counts id = record {
  here = ap (λ b. if_so b (max (counts id.page) (id.slot + 1)) (counts id.page)) (same_page id.page);
  others = λ p other.
      elim (eq_by_cmp page_cmp p id.page) as (λ b. eq_by_cmp page_cmp p id.page ≡ b → if_so b (max (counts id.page) (id.slot + 1)) (counts p) ≡ counts p) [
        | true ↦ λ e. absurd (other (tells_apart exact_pages p id.page e))
        | false ↦ λ e. refl
      ] refl;
}

pub same_number : (a b : ℕ) → OrNot (a ≡ b)
same_number a b = elim (a == b) as (λ v. (a == b) ≡ v → OrNot (a ≡ b)) [ true ↦ λ e. inl (eqb-true a b e) | false ↦ λ e. inr (eqb-false a b e) ] refl

pub none_or_not : (o : Image) → OrNot (o ≡ None)
none_or_not None = inl refl
none_or_not (Some bytes) = inr (λ e. clash e)
  where
    clash : Some bytes ≡ None → ⊥
    clash e = cc

-- ---- refusals of the state alone

abbrev pub IsOrdinary : Fault → Type 0
IsOrdinary fault.Memory = ⊥
IsOrdinary fault.Device = ⊥
IsOrdinary (fault.Damaged device offset) = ⊥
IsOrdinary (fault.NeedForce n) = ⊥
IsOrdinary _ = Unit {0}

pub ordinary : (f : Fault) → IsOrdinary f → ComesOfState (Refused f)
ordinary fault.Memory h = absurd h
ordinary fault.Device h = absurd h
ordinary (fault.Damaged device offset) h = absurd h
ordinary (fault.NeedForce n) h = absurd h
ordinary f h = (not_memory f h, not_device f h, not_damaged f h, not_needed f h)
  where
    not_memory : (f : Fault) → IsOrdinary f → f ≢ fault.Memory
    not_memory f h e = absurd (subst IsOrdinary e h)

    not_device : (f : Fault) → IsOrdinary f → f ≢ fault.Device
    not_device f h e = absurd (subst IsOrdinary e h)

    not_damaged : (f : Fault) → IsOrdinary f → (device : Device) (offset : ℕ) → f ≢ fault.Damaged device offset
    not_damaged f h device offset e = absurd (subst IsOrdinary e h)

    not_needed : (f : Fault) → IsOrdinary f → (n : ℕ) → f ≢ fault.NeedForce n
    not_needed f h n e = absurd (subst IsOrdinary e h)
