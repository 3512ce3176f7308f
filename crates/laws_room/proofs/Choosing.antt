-- The search finds the lowest place that serves, and finds none only where none serves.
use Rattle.std.proofs.Common.{◌≡◌, ◌⊎◌, inl, inr, ⊎_elim, ◌+◌, ◌<◌, ◌≤◌, ℕ, zero, suc, nat_lt, List, Option, Some, None, Bool, true, false, cond, refl, ap, subst, ◌∙◌, arith}
use Rattle.std.specs.Prelude.{IsTrue, ◌↔◌}
use Rattle.std.proofs.lemmas.Bool.{ltb-true, ltb-false}
use Rattle.shore_types.specs.declared.ids.PageId.{PageId}
use Rattle.shore_types.specs.declared.ids.Rid.{Rid}
use Rattle.shore_types.specs.declared.versions.Version.{Version}
use Rattle.shore_model.specs.Records.{Records}
use Rattle.laws_room.specs.Choosing.{IsChoice, Serves, first_from, first_of, or_later}
use Rattle.laws_room.specs.Claims.{SlotCounts, rid_on}
use Rattle.laws_lives.specs.Sessions.{SessionTxn}
use Rattle.laws_lives.proofs.Lists.{within_or_beyond}

-- the first number that passes, or none does
abbrev pub IsFirst : (ℕ → Bool) → ℕ → ℕ → Option ℕ → Type 0
IsFirst test at n (Some i) = (at ≤ i) × (i < at + n) × (test i ≡ true) × ((j : ℕ) → at ≤ j → j < i → test j ≡ false)
IsFirst test at n None = (j : ℕ) → at ≤ j → j < at + n → test j ≡ false

at_or_later : (a j : ℕ) → a ≤ j → (a < j) ⊎ (a ≡ j)
at_or_later a j le = ⊎_elim (λ ge. inr (same ge)) (λ less. inl less) (within_or_beyond j a)
  where
    same : j ≤ a → a ≡ j
    same ge = omega arith

first_or : (test : ℕ → Bool) (at n : ℕ) (o : Option ℕ) → test at ≡ false → IsFirst test (suc at) n o → IsFirst test at (suc n) o
first_or test at n (Some i) fails h = (
  omega (arith, h.0),
  omega (arith, h.1),
  h.2,
  λ j ge less.
      ⊎_elim (λ later. h.3 j (omega arith) less) (λ same. subst (λ k. test k ≡ false) same fails) (at_or_later at j ge),
)
first_or test at n None fails h = λ j ge less.
    ⊎_elim (λ later. h j (omega arith) (omega arith)) (λ same. subst (λ k. test k ≡ false) same fails) (at_or_later at j ge)

first_is : (test : ℕ → Bool) (at n : ℕ) → IsFirst test at n (first_from test at n)
first_is test at zero = λ j ge less. absurd (omega arith)
first_is test at (suc n) =
    elim (test at) as (λ b. test at ≡ b → IsFirst test at (suc n) (cond b (Some at) (first_from test (suc at) n))) [
      | true ↦ λ e. (omega arith, omega arith, e, λ j ge less. absurd (omega arith))
      | false ↦ λ e. first_or test at n (first_from test (suc at) n) e (first_is test (suc at) n)
    ] refl

module _ (v : Version) (R : Records) (undos : List SessionTxn) (counts : SlotCounts) (store bytes : ℕ) (may_lock : Rid → Bool) (test : Rid → Bool) where
  -- on n pages, from one on
  abbrev pub From : ℕ → ℕ → Rid → Type 0
  From page n id = (page ≤ id.page.page) × Serves v R undos counts store (page + n) bytes may_lock id

  abbrev pub TestServes : ℕ → Type 0
  TestServes pages = (id : Rid) → IsTrue (test id) ↔ Serves v R undos counts store pages bytes may_lock id

  on_page : (page : ℕ) → PageId
  on_page page = record { store = store; page = page }

  clash : {b : Bool} → b ≡ false → IsTrue b → ⊥
  clash e h = cc

  module _ (pages : ℕ) (serves : TestServes pages) where
    -- what serves is on the page or on a later one
    chosen_or : (page n : ℕ) → page + suc n ≡ pages → (o : Option ℕ) (later : Option Rid)
        → IsFirst (λ i. test (rid_on (record { store = store; page = page }) i)) 0 (counts (record { store = store; page = page }) + 1) o
        → IsChoice (λ id. (suc page ≤ id.page.page) × Serves v R undos counts store pages bytes may_lock id) later
        → IsChoice (λ id. (page ≤ id.page.page) × Serves v R undos counts store pages bytes may_lock id) (or_later store page o later)
    chosen_or page n is (Some slot) later first rest = record {
      serves = (omega arith, (serves (rid_on (record { store = store; page = page }) slot)).0 first.2);
      lowest = λ other before h. ⊎_elim (λ less. low (omega (arith, h.0)))
          (λ same. clash (first.3 other.slot (omega arith) same.1) (subst (λ id. IsTrue (test id)) (its other h.1 same.0) ((serves other).1 h.1))) before;
    }
      where
        low : ⊥ → ⊥
        low h = h

        its : (id : Rid) → Serves v R undos counts store pages bytes may_lock id → id.page.page ≡ page
            → id ≡ rid_on (record { store = store; page = page }) id.slot
        its id h same =
            ap (λ (s : ℕ). rid_on (record { store = s; page = id.page.page }) id.slot) h.of_store
            ∙ ap (λ (p : ℕ). rid_on (record { store = store; page = p }) id.slot) same
    chosen_or page n is None later first rest = go later rest
      where
        its : (id : Rid) → Serves v R undos counts store pages bytes may_lock id → id.page.page ≡ page
            → id ≡ rid_on (record { store = store; page = page }) id.slot
        its id h same =
            ap (λ (s : ℕ). rid_on (record { store = s; page = id.page.page }) id.slot) h.of_store
            ∙ ap (λ (p : ℕ). rid_on (record { store = store; page = p }) id.slot) same

        -- nothing on this page
        not_here : (id : Rid) → Serves v R undos counts store pages bytes may_lock id → id.page.page ≡ page → ⊥
        not_here id h same =
            let at : id.page ≡ record { store = store; page = page } = ap (λ (r : Rid). r.page) (its id h same) in
            let within : id.slot ≤ counts id.page = h.reached in
            clash (first id.slot (omega arith) (omega (arith, ap counts at))) (subst (λ id. IsTrue (test id)) (its id h same) ((serves id).1 h))

        after_it : (id : Rid) → (page ≤ id.page.page) × Serves v R undos counts store pages bytes may_lock id → suc page ≤ id.page.page
        after_it id h = elim (nat_lt page id.page.page) as (λ b. nat_lt page id.page.page ≡ b → suc page ≤ id.page.page) [
          | true ↦ λ e. let l = ltb-true page id.page.page e in omega arith
          | false ↦ λ e. let l = ltb-false page id.page.page e in absurd (not_here id h.1 (omega (arith, h.0)))
        ] refl

        go : (later : Option Rid) → IsChoice (λ id. (suc page ≤ id.page.page) × Serves v R undos counts store pages bytes may_lock id) later
            → IsChoice (λ id. (page ≤ id.page.page) × Serves v R undos counts store pages bytes may_lock id) later
        go (Some id) rest =
            record { serves = (omega (arith, rest.serves.0), rest.serves.1); lowest = λ other before h. rest.lowest other before (after_it other h, h.1) }
        go None rest = λ id h. rest id (after_it id h, h.1)

    chosen_from : (page n : ℕ) → page + n ≡ pages
        → IsChoice (λ id. (page ≤ id.page.page) × Serves v R undos counts store pages bytes may_lock id) (first_of test counts store page n)
    chosen_from page zero is = λ id h. absurd (omega (arith, h.0, h.1.of_page))
    chosen_from page (suc n) is =
        chosen_or page n is (first_from (λ i. test (rid_on (record { store = store; page = page }) i)) 0 (counts (record { store = store; page = page }) + 1))
        (first_of test counts store (suc page) n)
        (first_is (λ i. test (rid_on (record { store = store; page = page }) i)) 0 (counts (record { store = store; page = page }) + 1))
        (chosen_from (suc page) n (omega arith))

    pub chosen : IsChoice (Serves v R undos counts store pages bytes may_lock) (first_of test counts store 0 pages)
    chosen = all (first_of test counts store 0 pages) (chosen_from 0 pages (omega arith))
      where
        all : (o : Option Rid) → IsChoice (λ id. (0 ≤ id.page.page) × Serves v R undos counts store pages bytes may_lock id) o
            → IsChoice (Serves v R undos counts store pages bytes may_lock) o
        all (Some id) h = record { serves = h.serves.1; lowest = λ other before s. h.lowest other before (omega arith, s) }
        all None h = λ id s. h id (omega arith, s)
