-- The lowest place of a store that serves, or that none does, where each place's serving is decided.
use Rattle.std.proofs.Common.{◌≡◌, ◌⊎◌, inl, inr, ⊎_elim, ◌≤◌, ◌<◌, ℕ, zero, suc, subst, arith}
use Rattle.shore_types.specs.declared.ids.Rid.{Rid}
use Rattle.laws_room.specs.Choosing.{IsLowest}
use Rattle.laws_room.specs.Claims.{rid_on}
use Rattle.laws_lives.proofs.Lists.{within_or_beyond}
use Rattle.laws_calls.proofs.Decided.{OrNot}

-- the first of the numbers below one that passes, or none passes
abbrev pub FirstOrNone : (ℕ → Type 0) → ℕ → Type 0
FirstOrNone P n = ((i : ℕ) × P i × (i < n) × ((j : ℕ) → j < i → P j → ⊥)) ⊎ ((j : ℕ) → j < n → P j → ⊥)

first_or_none : (P : ℕ → Type 0) → ((i : ℕ) → OrNot (P i)) → (n : ℕ) → FirstOrNone P n
first_or_none P decide zero = inr (λ j less p. absurd (omega arith))
first_or_none P decide (suc n) =
    ⊎_elim
    (λ h. let less = h.2 in inl (h.0, h.1, omega arith, h.3))
    (λ none. ⊎_elim
    (λ here. inl (n, here, omega arith, none))
    (λ not. inr (λ j less p. ⊎_elim (λ above. not (subst P (same j less above) p)) (λ below. none j below p) (within_or_beyond n j)))
    (decide n))
    (first_or_none P decide n)
  where
    same : (j : ℕ) → j < suc n → n ≤ j → j ≡ n
    same j less above = omega arith

-- which ids may serve: those of so many pages of the store, each with so many slots
module _ (Q : Rid → Type 0) (decide : (id : Rid) → OrNot (Q id)) (store pages slots : ℕ)
    (inside : (id : Rid) → Q id → (id.page.store ≡ store) × (id.page.page < pages) × (id.slot < slots)) where
  abbrev at : ℕ → ℕ → Rid
  at page slot = rid_on (record { store = store; page = page }) slot

  abbrev OnPage : ℕ → Type 0
  OnPage page = (slot : ℕ) × Q (at page slot) × ((j : ℕ) → j < slot → Q (at page j) → ⊥)

  here : (id : Rid) → Q id → Q (at id.page.page id.slot)
  here id q = subst (λ (n : ℕ). Q (rid_on (record { store = n; page = id.page.page }) id.slot)) (inside id q).0 q

  on_page : (page : ℕ) → OrNot (OnPage page)
  on_page page =
      ⊎_elim
      (λ h. inl (h.0, h.1, h.3))
      (λ none. inr (λ h. let within = (inside (at page h.0) h.1).2 in none h.0 within h.1))
      (first_or_none (λ slot. Q (at page slot)) (λ slot. decide (at page slot)) slots)

  no_page : (page : ℕ) → (OnPage page → ⊥) → (slot : ℕ) → slot < slots → Q (at page slot) → ⊥
  no_page page none slot within q =
      ⊎_elim
      (λ h. none (h.0, h.1, h.3))
      (λ no. no slot within q)
      (first_or_none (λ slot. Q (at page slot)) (λ slot. decide (at page slot)) slots)

  pub lowest_or_none : ((id : Rid) × IsLowest Q id) ⊎ ((id : Rid) → Q id → ⊥)
  lowest_or_none =
      ⊎_elim
      (λ h. inl (
        at h.0 h.1.0,
        record {
          serves = h.1.1;
          lowest = λ other before q.
              let there = here other q in
              ⊎_elim
              (λ less. no_page other.page.page (h.3 other.page.page less) other.slot (inside other q).2 there)
              (λ same. h.1.2 other.slot same.1 (subst (λ (n : ℕ). Q (at n other.slot)) same.0 there))
              before;
        },
      ))
      (λ none. inr (λ id q. no_page id.page.page (none id.page.page (inside id q).1) id.slot (inside id q).2 (here id q)))
      (first_or_none OnPage on_page pages)
