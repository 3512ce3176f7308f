-- Entries that are looked through one after another.
use Rattle.std.proofs.Common.{◌≡◌, ◌≢◌, ◌⊎◌, inl, inr, ⊎_elim, ℕ, zero, suc, ◌+◌, ◌-◌, ◌<◌, ◌≤◌, List, [], ◌∷◌, Bool, true, false, Option, Some, None, refl, sym, ap, subst, ◌∙◌, arith}
use Rattle.std.specs.Prelude.{option_map}
use Rattle.std.proofs.lemmas.Option.{same_Some, none-some}
use Rattle.shore_keys.specs.Nodes.{◌>>=◌, Entry, entries_at, entry_at}
use Rattle.shore_keys.specs.Orders.{IsUpTo, is_before}
use Rattle.shore_keys.specs.Trees.{BeginsUpTo, IsIn, Spot, look_in}
use Rattle.shore_keys.specs.Steps.{IsEntryUpTo}
use Rattle.shore_keys.proofs.SameTexts.{look-other, look-same}

-- the first of some entries, and the others
pub record First (rest : List ℕ) (n : ℕ) (es : List Entry) : Type 0 where
  pub entry : Entry
  pub behind : List ℕ
  pub later : List Entry
  pub one : entry_at rest ≡ Some (entry, behind)
  pub others : entries_at n behind ≡ Some later
  pub is : es ≡ entry ∷ later

pub first_of : (rest : List ℕ) (n : ℕ) (es : List Entry) → entries_at (suc n) rest ≡ Some es → First rest n es
first_of rest n es e = of (entry_at rest) refl e
  where
    of_others : (x : Entry × List ℕ) (o : Option (List Entry)) → entry_at rest ≡ Some x → entries_at n x.1 ≡ o → option_map (λ es. x.0 ∷ es) o ≡ Some es → First rest n es
    of_others x None one others e = absurd (none-some es e)
    of_others x (Some later) one others e =
        record { entry = x.0; behind = x.1; later = later; one = one; others = others; is = sym (same_Some (x.0 ∷ later) es e) }

    of : (o : Option (Entry × List ℕ)) → entry_at rest ≡ o → (o >>= λ x. option_map (λ es. x.0 ∷ es) (entries_at n x.1)) ≡ Some es → First rest n es
    of None one e = absurd (none-some es e)
    of (Some x) one e = of_others x (entries_at n x.1) one refl e

pub none_left : (rest : List ℕ) (es : List Entry) → entries_at 0 rest ≡ Some es → es ≡ []
none_left rest es e = sym (same_Some [] es e)

-- of so many entries, whatever they are, `at` are passed, and the others are in `rest`
abbrev pub Left : (List Entry → List Entry → Type 0) → ℕ → List ℕ → ℕ → List ℕ → Type 0
Left P count body at rest = (es : List Entry) → entries_at count body ≡ Some es → (later : List Entry) × (entries_at (count - at) rest ≡ Some later) × P es later

module _ (P : List Entry → List Entry → Type 0) (count : ℕ) (body : List ℕ) (at : ℕ) (rest : List ℕ) (left : Left P count body at rest) where
  one_left : at < count → count - at ≡ suc (count - (at + 1))
  one_left h = omega arith

  pub first_left : at < count → (es : List Entry) → entries_at count body ≡ Some es → (later : List Entry) × P es later × First rest (count - (at + 1)) later
  first_left h es e =
      let l = left es e in
      (l.0, l.2, first_of rest (count - (at + 1)) l.0 (ap (λ (n : ℕ). entries_at n rest) (sym (one_left h)) ∙ l.1))

  -- where no entry is, so many entries are not
  pub unread : at < count → entry_at rest ≡ None → (es : List Entry) → entries_at count body ≡ Some es → ⊥
  unread h none es e =
      let f = (first_left h es e).2 in
      none-some (f.entry, f.behind) (sym none ∙ f.one)

  -- the one that is read is the first of those that are left
  pub read_one : at < count → (x : Entry × List ℕ) → entry_at rest ≡ Some x → (es : List Entry) → entries_at count body ≡ Some es
      → (later : List Entry) × P es (x.0 ∷ later) × (entries_at (count - (at + 1)) x.1 ≡ Some later)
  read_one h x one es e =
      let l = first_left h es e in
      let f = l.2 in
      let same : (f.entry, f.behind) ≡ x = same_Some (f.entry, f.behind) x (sym f.one ∙ one) in (
        f.later,
        subst (P es) (f.is ∙ ap (λ (y : Entry × List ℕ). y.0 ∷ f.later) same) l.1,
        ap (λ (y : Entry × List ℕ). entries_at (count - (at + 1)) y.1) (sym same) ∙ f.others,
      )

  -- .. which are these, then
  pub read_all : at < count → (x : Entry × List ℕ) → entry_at rest ≡ Some x → (es : List Entry) → entries_at count body ≡ Some es
      → (later : List Entry) × P es (x.0 ∷ later) × (entries_at (count - at) rest ≡ Some (x.0 ∷ later))
  read_all h x one es e =
      let l = left es e in
      let f = first_of rest (count - (at + 1)) l.0 (ap (λ (n : ℕ). entries_at n rest) (sym (one_left h)) ∙ l.1) in
      let same : (f.entry, f.behind) ≡ x = same_Some (f.entry, f.behind) x (sym f.one ∙ one) in
      let is : l.0 ≡ x.0 ∷ f.later = f.is ∙ ap (λ (y : Entry × List ℕ). y.0 ∷ f.later) same in
      (f.later, subst (P es) is l.2, l.1 ∙ ap (λ (l : List Entry). Some l) is)

  pub at_last : count ≤ at → (es : List Entry) → entries_at count body ≡ Some es → P es []
  at_last h es e =
      let l = left es e in
      let none : count - at ≡ 0 = omega arith in
      subst (P es) (none_left rest l.0 (ap (λ (n : ℕ). entries_at n rest) (sym none) ∙ l.1)) l.2

pub at_first : (P : List Entry → List Entry → Type 0) (count : ℕ) (body : List ℕ) → ((es : List Entry) → P es es) → Left P count body 0 body
at_first P count body start es e = let none : count - 0 ≡ count = omega arith in (es, ap (λ (n : ℕ). entries_at n body) none ∙ e, start es)

-- ---- the entry with a key

-- what is looked for is not among those that are passed
abbrev pub NotPassed : List ℕ → List Entry → List Entry → Type 0
NotPassed key es later = look_in es key ≡ look_in later key

-- ---- the last one up to a key

-- those that are left are of the same, and the last one that was passed is at or below the key
abbrev pub LastPassed : List ℕ → Option Spot → List Entry → List Entry → Type 0
LastPassed key None es later = es ≡ later
LastPassed key (Some spot) es later = ((e : Entry) → IsIn e later → IsIn e es) × ((e : Entry) × IsIn e es × IsUpTo e.0 key × (spot ≡ (e.1, e.2)))

pub last_is : (key : List ℕ) (last : Option Spot) (es later : List Entry) → LastPassed key last es later → (BeginsUpTo later key → ⊥) → IsEntryUpTo es key last
last_is key None es later h none = λ begins. none (subst (λ es. BeginsUpTo es key) h begins)
last_is key (Some spot) es later h none = h.1

pub last_more : (key : List ℕ) (last : Option Spot) (es later : List Entry) (e : Entry) → LastPassed key last es (e ∷ later) → IsUpTo e.0 key
    → LastPassed key (Some (e.1, e.2)) es later
last_more key None es later e h low =
    ((λ x among. subst (λ es. IsIn x es) (sym h) (inr among)), (e, subst (λ es. IsIn e es) (sym h) (inl refl), low, refl))
last_more key (Some spot) es later e h low = ((λ x among. h.0 x (inr among)), (e, h.0 e (inl refl), low, refl))
