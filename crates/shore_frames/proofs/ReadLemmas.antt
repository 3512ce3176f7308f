-- Reading the texts of records, one after another.
use Rattle.std.proofs.Common.{◌≡◌, ℕ, ◌+◌, ◌<◌, ◌≤◌, List, [], ◌∷◌, ◌++◌, length, Err, Bool, true, false, IsTrue, refl, sym, ◌∙◌, ap, subst, arith, append_assoc, length-append}
use Rattle.std.proofs.lemmas.List.{append-nil}
use Rattle.shore_model.specs.declared.log_records.LogRecord.{LogRecord}
use Rattle.shore_logrec.specs.Text.{Fits, text, texts}
use Rattle.shore_logrec.proofs.TextLengths.{length-text}
use Rattle.shore_frames.specs.declared.reading.ReadError.{ReadError}
use Rattle.shore_frames.specs.declared.reading.ReadError.TheVariants.{Memory, NoText}
use Rattle.shore_frames.specs.Frames.{AreGroups, AreNumbered, joined}
use Rattle.shore_frames.specs.Reading.{Reads, ReadsOne}

pub AreNumbered-push : (n : ℕ) (rs : List LogRecord) (r : LogRecord) → AreNumbered n rs → Fits r → r.previous < n + length rs → AreNumbered n (rs ++ r ∷ [])
AreNumbered-push n [] r are fits below = (fits, omega arith, tt)
AreNumbered-push n (x ∷ rs) r are fits below = (are.0, are.1, AreNumbered-push (n + 1) rs r are.2 fits (omega arith))

AreNumbered-at : (n : ℕ) (rs : List LogRecord) (r : LogRecord) (more : List LogRecord) → AreNumbered n (rs ++ r ∷ more) → Fits r × (r.previous < n + length rs)
AreNumbered-at n [] r more are = (are.0, omega (arith, are.1))
AreNumbered-at n (x ∷ rs) r more are = let rest = AreNumbered-at (n + 1) rs r more are.2 in (rest.0, omega (arith, rest.1))

-- what is left of some texts, if there is anything left, begins with one
first_text : (more : List LogRecord) (rest : List ℕ) → 1 ≤ length rest → rest ≡ texts more → (r : LogRecord) × (others : List LogRecord) × (more ≡ r ∷ others) × (rest ≡ text r ++ texts others)
first_text [] rest some is = let none : length rest ≡ 0 = ap length is in absurd (omega arith)
first_text (r ∷ others) rest some is = (r, others, refl, is)

-- what is left of the texts of rs after those of the front
abbrev pub Left : List LogRecord → List LogRecord → List ℕ → Type 0
Left rs front rest = (more : List LogRecord) × (rs ≡ front ++ more) × (rest ≡ texts more)

-- one record on
pub goes_on : (first : ℕ) (front : List LogRecord) (rest after : List ℕ) (r : LogRecord) (rs : List LogRecord) → AreNumbered first rs → Left rs front rest → 1 ≤ length rest
    → ((d : LogRecord) (s : List ℕ) → Fits d → rest ≡ text d ++ s → (r ≡ d) × (after ≡ s)) → Left rs (front ++ r ∷ []) after × (r.previous < first + length front)
goes_on first front rest after r rs are left some only =
    let f = first_text left.0 rest some left.2 in
    let d = f.0 in
    let others = f.1 in
    let rs_is : rs ≡ front ++ d ∷ others = left.1 ∙ ap (λ (l : List LogRecord). front ++ l) f.2 in
    let fits = AreNumbered-at first front d others (subst (AreNumbered first) rs_is are) in
    let found = only d (texts others) fits.0 f.3 in
    ((others, rs_is ∙ ap (λ (x : LogRecord). front ++ x ∷ others) (sym found.0) ∙ sym (append_assoc front (r ∷ []) others), found.1), subst (λ (x : LogRecord). x.previous < first + length front) (sym found.0) fits.1)

-- an error in the midst of the texts of some records is that an allocation failed
pub fails : {X : Type 0} (one : X → LogRecord) (left_of : X → List ℕ) (e : ReadError) (first : ℕ) (front : List LogRecord) (rest : List ℕ) (rs : List LogRecord) → AreNumbered first rs → Left rs front rest → 1 ≤ length rest
    → ((d : LogRecord) (s : List ℕ) → Fits d → rest ≡ text d ++ s → ReadsOne one left_of (Err e) d s) → Reads (Err e) rs
fails one left_of Memory first front rest rs are left some only = tt
fails one left_of NoText first front rest rs are left some only =
    let f = first_text left.0 rest some left.2 in
    let rs_is : rs ≡ front ++ f.0 ∷ f.1 = left.1 ∙ ap (λ (l : List LogRecord). front ++ l) f.2 in
    only f.0 (texts f.1) (AreNumbered-at first front f.0 f.1 (subst (AreNumbered first) rs_is are)).0 f.3

pub ends : (rs front : List LogRecord) (rest : List ℕ) → length rest ≡ 0 → Left rs front rest → front ≡ rs
ends rs front rest none left = sym (left.1 ∙ ap (λ (l : List LogRecord). front ++ l) (nothing left.0 (sym (ap length left.2) ∙ none)) ∙ append-nil front)
  where
    nothing : (more : List LogRecord) → length (texts more) ≡ 0 → more ≡ []
    nothing [] is = refl
    nothing (r ∷ more) is = absurd (omega (arith, length-append (text r) (texts more), length-text r))

-- a test can't be true and false
pub not_both : {A : Type 0} (b : Bool) → IsTrue b → b ≡ false → A
not_both true t f = absurd cc
not_both false t f = absurd cc

pub AreNumbered-append : (n : ℕ) (xs ys : List LogRecord) → AreNumbered n xs → AreNumbered (n + length xs) ys → AreNumbered n (xs ++ ys)
AreNumbered-append n [] ys hx hy = subst (λ k. AreNumbered k ys) (omega arith) hy
AreNumbered-append n (x ∷ xs) ys hx hy = (hx.0, hx.1, AreNumbered-append (n + 1) xs ys hx.2 (subst (λ k. AreNumbered k ys) (omega arith) hy))

-- the records of all groups
pub joined_numbered : (n : ℕ) (gs : List (List LogRecord)) → AreGroups n gs → AreNumbered n (joined gs)
joined_numbered n [] are = tt
joined_numbered n (g ∷ gs) are = AreNumbered-append n g (joined gs) are.0.numbered (joined_numbered (n + length g) gs are.1)

-- each record has a byte at least
pub length-texts : (rs : List LogRecord) → length rs ≤ length (texts rs)
length-texts [] = omega arith
length-texts (r ∷ rs) = omega (arith, length-append (text r) (texts rs), length-text r, length-texts rs)
