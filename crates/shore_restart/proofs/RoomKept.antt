-- Claims that are kept while there is room for them: what could be kept in the end could be kept before, and what was kept stays.
use Rattle.std.proofs.Common.{◌≡◌, ◌<◌, ◌≤◌, ◌++◌, ◌∷◌, [], ℕ, zero, suc, List, inl, inr, refl, sym, ap, subst, ◌∙◌, length, max, arith}
use Rattle.std.proofs.lemmas.Bool.{cases_eq}
use Rattle.shore_types.specs.declared.versions.Version.{Version}
use Rattle.shore_page.specs.Room.{claim_at, need, raised}
use Rattle.shore_page.specs.Slots.{Slot, with_change}
use Rattle.shore_page.proofs.Fitting.{others_changed}
use Rattle.shore_page.proofs.UndoLemmas.{length-with_change}
use Rattle.shore_heap.specs.Contents.{CanKeep, FitIn, KeepWhatFits, claimed_by}
use Rattle.shore_heap.proofs.Claimed.{all_kept, keeps_without}

-- ---- one claim

here_raised : (bytes : ℕ) (slots : List Slot) (i : ℕ) → i < length slots → claim_at (with_change (raised bytes) slots i) i ≡ max (claim_at slots i) bytes
here_raised bytes [] i inside = absurd (omega arith)
here_raised bytes (s ∷ slots) zero inside = refl
here_raised bytes (s ∷ slots) (suc i) inside = here_raised bytes slots i (omega arith)

-- a slot that keeps so much is not changed
pub kept_already : (bytes : ℕ) (slots : List Slot) (i : ℕ) → bytes ≤ claim_at slots i → with_change (raised bytes) slots i ≡ slots
kept_already bytes [] i enough = refl
kept_already bytes (s ∷ slots) zero enough = ap (λ (n : ℕ). record { image = s.image; claim = n } ∷ slots) (most s.claim bytes enough)
  where
    most : (c b : ℕ) → b ≤ c → max c b ≡ c
    most c b less = omega (arith, less)
kept_already bytes (s ∷ slots) (suc i) enough = ap (λ l. s ∷ l) (kept_already bytes slots i enough)

-- ---- one step

-- one state of the slots comes of another by claims that were kept
pub record ComesOf (v : Version) (old new : List Slot) : Type 0 where
  pub as_long : length new ≡ length old
  pub before : (slot bytes : ℕ) → CanKeep v new slot bytes → CanKeep v old slot bytes
  pub no_less : (slot : ℕ) → claim_at old slot ≤ claim_at new slot

comes_of_itself : (v : Version) (slots : List Slot) → ComesOf v slots slots
comes_of_itself v slots = record { as_long = refl; before = λ slot bytes can. can; no_less = λ slot. omega arith }

comes_on : (v : Version) (old mid new : List Slot) → ComesOf v old mid → ComesOf v mid new → ComesOf v old new
comes_on v old mid new first then_on = record {
  as_long = then_on.as_long ∙ first.as_long;
  before = λ slot bytes can. first.before slot bytes (then_on.before slot bytes can);
  no_less = λ slot. let one = first.no_less slot in let two = then_on.no_less slot in omega (arith, one, two);
}

module _ (v : Version) (slots : List Slot) (slot bytes : ℕ) (can : CanKeep v slots slot bytes) where
  abbrev more : List Slot
  more = with_change (raised bytes) slots slot

  step_no_less : (other : ℕ) → claim_at slots other ≤ claim_at more other
  step_no_less other = elim (cases_eq other slot) [
    | inl same ↦ subst (λ (k : ℕ). claim_at slots k ≤ claim_at more k) (sym same) (let here = here_raised bytes slots slot can.0 in omega (arith, here))
    | inr apart ↦ let claimed = (others_changed (raised bytes) slots slot other apart).1 in omega (arith, claimed)
  ]

  comes_by_one : ComesOf v slots more
  comes_by_one = record { as_long = length-with_change (raised bytes) slots slot; before = keeps_without v slots slot bytes can; no_less = step_no_less }

  -- it keeps so much then
  pub keeps_it : bytes ≤ claim_at more slot
  keeps_it = let here = here_raised bytes slots slot can.0 in omega (arith, here)

-- what keeps so much could keep it
pub can_keep_again : (v : Version) (old new : List Slot) (slot bytes : ℕ) → ComesOf v old new → CanKeep v old slot bytes → bytes ≤ claim_at new slot → CanKeep v new slot bytes
can_keep_again v old new slot bytes comes can enough =
    let there = can.0 in
    let long = comes.as_long in
    (omega (arith, there, long), record { there = can.1.there; most = can.1.most; room = (let none : need new slot bytes ≡ 0 = omega (arith, enough, there, long) in omega (arith, none)) })

-- ---- all that fits

-- of all that was told the newer part was kept first, and the rest behind it
pub record KeptFirst (v : Version) (older rest : List (ℕ × ℕ)) (slots new : List Slot) : Type 0 where
  pub mid : List Slot
  pub first : KeepWhatFits v rest slots mid
  pub comes : ComesOf v mid new

pub kept_first : (v : Version) (older rest : List (ℕ × ℕ)) (slots new : List Slot) → KeepWhatFits v (older ++ rest) slots new → KeptFirst v older rest slots new
kept_first v [] rest slots new keeps = record { mid = new; first = keeps; comes = comes_of_itself v new }
kept_first v (c ∷ older) rest slots new (so_far, before, how) =
    let it = kept_first v older rest slots so_far before in
    record {
      mid = it.mid;
      first = it.first;
      comes = elim how [
        | inl now ↦ subst (ComesOf v it.mid) (sym now.1) (comes_on v it.mid so_far (with_change (raised c.1) so_far c.0) it.comes (comes_by_one v so_far c.0 c.1 now.0))
        | inr now ↦ subst (ComesOf v it.mid) (sym now.1) it.comes
      ];
    }

module _ (v : Version) (older newer : List (ℕ × ℕ)) (c : ℕ × ℕ) (slots new : List Slot) (fit : FitIn v newer slots) (keeps : KeepWhatFits v (older ++ c ∷ newer) slots new) where
  abbrev so_far : List Slot
  so_far = claimed_by newer slots

  abbrev it : KeptFirst v older (c ∷ newer) slots new
  it = kept_first v older (c ∷ newer) slots new keeps

  before_it : it.first.0 ≡ so_far
  before_it = all_kept v newer slots it.first.0 fit it.first.1

  -- what can be kept on the page as it was read could be kept behind the newer ones
  pub could_keep : CanKeep v new c.0 c.1 → CanKeep v so_far c.0 c.1
  could_keep can =
      let mid_can = it.comes.before c.0 c.1 can in
      subst (λ (l : List Slot). CanKeep v l c.0 c.1) before_it (elim it.first.2 [
        | inl now ↦ now.0
        | inr now ↦ subst (λ (l : List Slot). CanKeep v l c.0 c.1) now.1 mid_can
      ])

  -- .. and what could be kept behind them is kept there
  kept_there : CanKeep v so_far c.0 c.1 → c.1 ≤ claim_at it.mid c.0
  kept_there can = elim it.first.2 [
    | inl now ↦ subst (λ (l : List Slot). c.1 ≤ claim_at l c.0) (sym now.1) (keeps_it v it.first.0 c.0 c.1 now.0)
    | inr now ↦ absurd (now.0 (subst (λ (l : List Slot). CanKeep v l c.0 c.1) (sym before_it) can))
  ]

  pub is_kept : CanKeep v so_far c.0 c.1 → c.1 ≤ claim_at new c.0
  is_kept can = let mid = kept_there can in let more = it.comes.no_less c.0 in omega (arith, mid, more)

  pub can_keep_there : CanKeep v so_far c.0 c.1 → CanKeep v new c.0 c.1
  can_keep_there can =
      can_keep_again v it.mid new c.0 c.1 it.comes (elim it.first.2 [
        | inl now ↦ subst (λ (l : List Slot). CanKeep v l c.0 c.1) (sym now.1)
            (can_keep_again v it.first.0 (with_change (raised c.1) it.first.0 c.0) c.0 c.1 (comes_by_one v it.first.0 c.0 c.1 now.0) now.0 (keeps_it v it.first.0 c.0 c.1 now.0))
        | inr now ↦ absurd (now.0 (subst (λ (l : List Slot). CanKeep v l c.0 c.1) (sym before_it) can))
      ]) (is_kept can)
