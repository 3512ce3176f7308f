-- Rows of tests, of which the first that fails refuses; and what there is one of.
use Rattle.std.proofs.Common.{◌≡◌, ◌⊎◌, inl, inr, ⊎_elim, ◌<◌, ℕ, zero, suc, List, [], ◌∷◌, sym, ap, subst, ◌∙◌, length, arith}
use Rattle.std.specs.Prelude.{IsSomeAnd, slice_get}
use Rattle.std.proofs.Math.Path.{fun_ext}
use Rattle.shore_types.specs.Layout.{HasPage, HasStore}
use Rattle.shore_types.specs.declared.faults.Fault.{Fault}
use Rattle.shore_types.specs.declared.ids.PageId.{PageId}
use Rattle.shore_types.specs.declared.ids.Rid.{Rid}
use Rattle.shore_types.specs.declared.layout.Geometry.{Geometry}
use Rattle.laws_room.proofs.Pages.{page_or_other}
use Rattle.laws_room.specs.Choosing.{IsBefore}
use Rattle.laws_room.specs.Claims.{Grows, SlotCounts, rid_on}
use Rattle.laws_lives.proofs.Lists.{within_or_beyond}
use Rattle.laws_lives.proofs.Members.{txn_among}
use Rattle.laws_lives.specs.Sessions.{EachOnce, SessionTxn, txns_of}
use Rattle.laws_lives.specs.Views.{IsAmong}

-- ---- rows of tests

pub record Test : Type 1 where
  pub passes : Type 0
  pub refuses : Fault

abbrev pub test : Type 0 → Fault → Test
test P f = record { passes = P; refuses = f }

-- the first of the tests that fails refuses with this
abbrev pub FirstFails : List Test → Fault → Type 0
FirstFails [] f = ⊥
FirstFails (t ∷ tests) f = ((t.passes → ⊥) × (f ≡ t.refuses)) ⊎ (t.passes × FirstFails tests f)

abbrev pub AllPass : List Test → Type 0
AllPass [] = Unit {0}
AllPass (t ∷ tests) = t.passes × AllPass tests

pub one_fails : (tests : List Test) (f h : Fault) → FirstFails tests f → FirstFails tests h → f ≡ h
one_fails [] f h x y = absurd x
one_fails (t ∷ tests) f h (inl x) (inl y) = x.1 ∙ sym y.1
one_fails (t ∷ tests) f h (inl x) (inr y) = absurd (x.0 y.0)
one_fails (t ∷ tests) f h (inr x) (inl y) = absurd (y.0 x.0)
one_fails (t ∷ tests) f h (inr x) (inr y) = one_fails tests f h x.1 y.1

pub none_fails : (tests : List Test) (f : Fault) → FirstFails tests f → AllPass tests → ⊥
none_fails [] f x h = x
none_fails (t ∷ tests) f (inl x) h = x.0 h.0
none_fails (t ∷ tests) f (inr x) h = none_fails tests f x.1 h.1

-- ---- places

pub in_list : (xs : List ℕ) (n : ℕ) (P : ℕ → Type 0) → IsSomeAnd (slice_get xs n) P → n < length xs
in_list [] zero P h = absurd h
in_list [] (suc n) P h = absurd h
in_list (x ∷ xs) zero P h = omega arith
in_list (x ∷ xs) (suc n) P h = let less = in_list xs n P h in omega arith

pub page_has_store : (g : Geometry) (p : PageId) → HasPage g p → HasStore g p.store
page_has_store g p h = in_list g.stores p.store (λ pages. p.page < pages) h

pub less_or_same : (m n : ℕ) → (m < n) ⊎ ((n < m) ⊎ (m ≡ n))
less_or_same m n =
    ⊎_elim (λ le. ⊎_elim (λ ge. inr (inr (omega arith))) (λ less. inl less) (within_or_beyond n m)) (λ less. inr (inl less)) (within_or_beyond m n)

pub same_parts : (a b : Rid) → a.page.store ≡ b.page.store → a.page.page ≡ b.page.page → a.slot ≡ b.slot → a ≡ b
same_parts a b store page slot =
    ap (λ (n : ℕ). rid_on (record { store = n; page = a.page.page }) a.slot) store
    ∙ ap (λ (n : ℕ). rid_on (record { store = b.page.store; page = n }) a.slot) page
    ∙ ap (λ (n : ℕ). rid_on b.page n) slot

pub before_or_same : (a b : Rid) → a.page.store ≡ b.page.store → IsBefore a b ⊎ (IsBefore b a ⊎ (a ≡ b))
before_or_same a b store =
    ⊎_elim
    (λ less. inl (inl less))
    (⊎_elim
    (λ less. inr (inl (inl less)))
    (λ page. ⊎_elim
    (λ less. inl (inr (page, less)))
    (⊎_elim (λ less. inr (inl (inr (sym page, less)))) (λ slot. inr (inr (same_parts a b store page slot))))
    (less_or_same a.slot b.slot)))
    (less_or_same a.page.page b.page.page)

-- ---- one transaction, and one growth

pub same_member : (a b : SessionTxn) (xs : List SessionTxn) → EachOnce (txns_of xs) → IsAmong a xs → IsAmong b xs → a.txn ≡ b.txn → a ≡ b
same_member a b [] once m n same = absurd m
same_member a b (x ∷ xs) once (inl d) (inl e) same = sym d ∙ e
same_member a b (x ∷ xs) once (inl d) (inr later) same =
    absurd (once.0 (subst (λ t. IsAmong t (txns_of xs)) (sym same ∙ ap (λ (a : SessionTxn). a.txn) (sym d)) (txn_among b xs later)))
same_member a b (x ∷ xs) once (inr later) (inl e) same =
    absurd (once.0 (subst (λ t. IsAmong t (txns_of xs)) (same ∙ ap (λ (a : SessionTxn). a.txn) (sym e)) (txn_among a xs later)))
same_member a b (x ∷ xs) once (inr m) (inr n) same = same_member a b xs once.1 m n same

pub same_growth : (old m n : SlotCounts) (id : Rid) → Grows old m id → Grows old n id → m ≡ n
same_growth old m n id x y = fun_ext (λ p. ⊎_elim
    (λ here. subst (λ q. m q ≡ n q) (sym here) (x.here ∙ sym y.here))
    (λ other. x.others p other ∙ sym (y.others p other))
    (page_or_other p id.page))
