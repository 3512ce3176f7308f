-- What holds at each place of a list, of what comes before the place and of what is there.
use Rattle.std.proofs.Common.{◌≡◌, ◌<◌, ℕ, List, Some, take}
use Rattle.std.specs.Prelude.{slice_get}

-- it holds at each place below a number
abbrev pub Below : {A : Type 0} → (List A → A → Type 0) → List A → ℕ → Type 0
Below {A} P xs i = (n : ℕ) (x : A) → n < i → slice_get xs n ≡ Some x → P (take n xs) x
