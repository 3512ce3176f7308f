-- Entries that are read one after another: what is read so far, and what is left.
use Rattle.std.proofs.Common.{◌≡◌, ℕ, suc, ◌+◌, ◌-◌, ◌<◌, ◌≤◌, Bool, true, false, List, [], ◌∷◌, ◌++◌, length, Option, Some, None, refl, sym, ap, ◌∙◌, append_assoc, arith}
use Rattle.std.proofs.lemmas.List.{append-nil}
use Rattle.shore_logrec.specs.Reading.{◌>>=◌, Reader, entries_from, follows}

-- more entries behind some
abbrev behind_some : {A : Type 0} → List A → Option (List A × List ℕ) → Option (List A × List ℕ)
behind_some done None = None
behind_some done (Some x) = Some (done ++ x.0, x.1)

-- `at` of the entries are read, and the others are in `rest`, behind the last one
pub record AreLeft {A : Type 0} (read : Reader A) (before : A → A → Bool) (count : ℕ) (bytes : List ℕ) (done : List A) (last : Option A) (at : ℕ) (rest : List ℕ) : Type 0 where
  pub all : entries_from read before None count bytes ≡ behind_some done (entries_from read before last (count - at) rest)

nothing_more : {A : Type 0} (r : Option (List A × List ℕ)) → r ≡ behind_some [] r
nothing_more None = refl
nothing_more (Some x) = refl

pub left_at_first : {A : Type 0} (read : Reader A) (before : A → A → Bool) (count : ℕ) (bytes : List ℕ) → AreLeft read before count bytes [] None 0 bytes
left_at_first read before count bytes =
    let none : count - 0 ≡ count = omega arith in
    record { all = nothing_more (entries_from read before None count bytes) ∙ ap (λ (n : ℕ). behind_some [] (entries_from read before None n bytes)) (sym none) }

-- one that cannot be read, or does not rise, and none is
module _ {A : Type 0} (read : Reader A) (before : A → A → Bool) (count : ℕ) (bytes : List ℕ) (done : List A) (last : Option A) (at : ℕ) (rest : List ℕ) (left : AreLeft read before count bytes done last at rest) where
  one_left : at < count → count - at ≡ suc (count - (at + 1))
  one_left h = omega arith

  pub left_unread : at < count → read rest ≡ None → entries_from read before None count bytes ≡ None
  unfolding entries_from
  left_unread h none = rw (left.all, one_left h, none) refl

  pub left_falling : at < count → (x : A) (behind : List ℕ) → read rest ≡ Some (x, behind) → follows before last x ≡ false → entries_from read before None count bytes ≡ None
  unfolding entries_from
  left_falling h x behind one falls = rw (left.all, one_left h, one, falls) refl

  pub left_behind : at < count → (x : A) (behind : List ℕ) → read rest ≡ Some (x, behind) → follows before last x ≡ true
      → AreLeft read before count bytes (done ++ x ∷ []) (Some x) (at + 1) behind
  unfolding entries_from
  left_behind h x behind one rise = record { all = left.all ∙ rw (one_left h, one, rise) (one_more (entries_from read before (Some x) (count - (at + 1)) behind)) }
    where
      one_more : (r : Option (List A × List ℕ)) → behind_some done (r >>= λ y. Some (x ∷ y.0, y.1)) ≡ behind_some (done ++ x ∷ []) r
      one_more None = refl
      one_more (Some y) = ap (λ (l : List A). Some (l, y.1)) (sym (append_assoc done (x ∷ []) y.0))

  pub left_at_last : count ≤ at → entries_from read before None count bytes ≡ Some (done, rest)
  unfolding entries_from
  left_at_last h =
      let no_more : count - at ≡ 0 = omega arith in
      rw (left.all, no_more, append-nil done) refl
