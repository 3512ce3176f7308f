-- Readers and what they read: what is read is spelled so, and what is spelled so is read.
use Rattle.std.proofs.Common.{◌≡◌, ℕ, zero, suc, ◌+◌, ◌-◌, ◌^◌, ◌<◌, ◌≤◌, Bool, true, false, cond, eqb, ltb, List, [], ◌∷◌, ◌++◌, length, get_or, take, drop, Option, Some, None, refl, sym, ap, subst, ◌∙◌, append_assoc, arith, inl, inr}
use Rattle.std.proofs.lemmas.Bool.{cases_lt, eqb-true, ltb-false, le-ltb}
use Rattle.std.proofs.lemmas.List.{append-nil, nil_from_length, take_at, drop_at, take-append-drop, length-append, length-take, get_or_append_left, get_or-append_right, get_or_past}
use Rattle.byteorder.specs.Endian.{little_bytes, little_number}
use Rattle.shore_types.specs.declared.layout.TheConstants.{MAX_RECORD_BYTES}
use Rattle.shore_types.specs.Images.{Image}
use Rattle.shore_logrec.specs.Text.{rid_text, string_text, image_text, RidFits, ImageFits}
use Rattle.shore_logrec.specs.Reading.{◌>>=◌, Reader, pair_at, made_at, whole, byte_at, number_at, string_at, image_at, rid_at, rid_of}
use Rattle.shore_logrec.proofs.Numbers.{IsBytes, number-of_bytes, bytes-of_number, number_fits}
use Rattle.shore_logrec.proofs.TextLengths.{length-little_bytes}

-- what a reader takes is what `spell` writes of a value that fits, and the other way round
pub record IsReader {A : Type 0} (read : Reader A) (spell : A → List ℕ) (FitsSo : A → Type 0) : Type 0 where
  pub takes : (bytes : List ℕ) (a : A) (rest : List ℕ) → IsBytes bytes → read bytes ≡ Some (a, rest) → (bytes ≡ spell a ++ rest) × FitsSo a
  pub again : (a : A) (rest : List ℕ) → FitsSo a → read (spell a ++ rest) ≡ Some (a, rest)

-- ---- bytes, and steps that give a value

pub IsBytes-behind : (front rest bytes : List ℕ) → bytes ≡ front ++ rest → IsBytes bytes → IsBytes rest
IsBytes-behind front rest bytes parts fits i =
    let behind : length front + i - length front ≡ i = omega arith in
    let here : get_or bytes (length front + i) 0 ≡ get_or rest i 0 =
    ap (λ (l : List ℕ). get_or l (length front + i) 0) parts ∙ get_or-append_right front rest (length front) (length front + i) 0 refl (omega arith) ∙ ap (λ (k : ℕ). get_or rest k 0) behind in
    omega (arith, here, fits (length front + i))

pub IsBytes-front : (front rest : List ℕ) → IsBytes (front ++ rest) → IsBytes front
IsBytes-front front rest fits i =
    elim (cases_lt i (length front)) [
      | inl lt ↦ rw (← get_or_append_left front rest 0 i lt) (fits i)
      | inr le ↦ rw (get_or_past front i 0 le) (omega arith)
    ]

-- the value of a step that did not fail
pub bind_some : {A B : Type 0} (r : Option A) (f : A → Option B) (y : B) → (r >>= f) ≡ Some y → (x : A) × (r ≡ Some x) × (f x ≡ Some y)
bind_some (Some x) f y e = (x, refl, e)
bind_some None f y e = absurd cc

-- a test that did not fail
pub guard_some : {A : Type 0} (b : Bool) (x y : A) → cond b None (Some x) ≡ Some y → (b ≡ false) × (x ≡ y)
guard_some true x y e = absurd cc
guard_some false x y e = (refl, cc)

pub guard_kept : {A : Type 0} (b : Bool) (x y : A) → cond b (Some x) None ≡ Some y → (b ≡ true) × (x ≡ y)
guard_kept true x y e = (refl, cc)
guard_kept false x y e = absurd cc

abbrev found : {A : Type 0} → A → Option A
found x = Some x

pub some_is : {A : Type 0} (x y : A) → found x ≡ found y → x ≡ y
some_is x y e = cc

-- ---- readers out of readers

pub pair_reads : {A B : Type 0} (first : Reader A) (second : Reader B) (spell : A → List ℕ) (write : B → List ℕ) (P : A → Type 0) (Q : B → Type 0)
    → IsReader first spell P → IsReader second write Q → IsReader (pair_at first second) (λ x. spell x.0 ++ write x.1) (λ x. P x.0 × Q x.1)
pair_reads {A = A} {B = B} first second spell write P Q one two = record {
  takes = λ bytes a rest fits e.
      let x = bind_some (first bytes) (λ x. second x.1 >>= λ y. Some ((x.0, y.0), y.1)) (a, rest) e in
      let y = bind_some (second x.0.1) (λ y. Some ((x.0.0, y.0), y.1)) (a, rest) x.2 in
      let front = one.takes bytes x.0.0 x.0.1 fits x.1 in
      let behind = two.takes x.0.1 y.0.0 y.0.1 (IsBytes-behind (spell x.0.0) x.0.1 bytes front.0 fits) y.1 in
      let parts : bytes ≡ (spell x.0.0 ++ write y.0.0) ++ y.0.1 = front.0 ∙ ap (λ (l : List ℕ). spell x.0.0 ++ l) behind.0 ∙ sym (append_assoc (spell x.0.0) (write y.0.0) y.0.1) in
      let made : (A × B) × List ℕ = ((x.0.0, y.0.0), y.0.1) in
      subst (λ (v : (A × B) × List ℕ). (bytes ≡ (spell v.0.0 ++ write v.0.1) ++ v.1) × (P v.0.0 × Q v.0.1)) (some_is made (a, rest) y.2) (parts, (front.1, behind.1));
  again = λ a rest fits.
      ap (pair_at first second) (append_assoc (spell a.0) (write a.1) rest) ∙ rw (one.again a.0 (write a.1 ++ rest) fits.0, two.again a.1 rest fits.1) refl;
}

-- something that is made of a value, and that shows it
pub made_reads : {A B : Type 0} (make : A → B) (parts : B → A) (read : Reader A) (spell : A → List ℕ) (P : A → Type 0)
    → ((b : B) → make (parts b) ≡ b) → ((a : A) → parts (make a) ≡ a) → IsReader read spell P → IsReader (made_at make read) (λ b. spell (parts b)) (λ b. P (parts b))
made_reads {A = A} {B = B} make parts read spell P back forth one = record {
  takes = λ bytes b rest fits e.
      let x = bind_some (read bytes) (λ x. Some (make x.0, x.1)) (b, rest) e in
      let front = one.takes bytes x.0.0 x.0.1 fits x.1 in
      let made : B × List ℕ = (make x.0.0, x.0.1) in
      subst (λ (v : B × List ℕ). (bytes ≡ spell (parts v.0) ++ v.1) × P (parts v.0)) (some_is made (b, rest) x.2)
      (subst (λ (a : A). (bytes ≡ spell a ++ x.0.1) × P a) (sym (forth x.0.0)) front);
  again = λ b rest fits. rw (one.again (parts b) rest fits, back b) refl;
}

-- what is read whole
pub whole_takes : {A : Type 0} (read : Reader A) (spell : A → List ℕ) (P : A → Type 0) → IsReader read spell P
    → (bytes : List ℕ) (a : A) → IsBytes bytes → whole read bytes ≡ Some a → (bytes ≡ spell a) × P a
whole_takes {A = A} read spell P one bytes a fits e =
    let x = bind_some (read bytes) (λ x. cond (eqb (length x.1) 0) (Some x.0) None) a e in
    let g = guard_kept (eqb (length x.0.1) 0) x.0.0 a x.2 in
    let front = one.takes bytes x.0.0 x.0.1 fits x.1 in
    let nothing : x.0.1 ≡ [] = nil_from_length x.0.1 (eqb-true _ _ g.0) in
    let all : bytes ≡ spell x.0.0 = front.0 ∙ ap (λ (l : List ℕ). spell x.0.0 ++ l) nothing ∙ append-nil (spell x.0.0) in
    subst (λ (v : A). (bytes ≡ spell v) × P v) g.1 (all, front.1)

pub whole_again : {A : Type 0} (read : Reader A) (spell : A → List ℕ) (P : A → Type 0) → IsReader read spell P
    → (a : A) → P a → whole read (spell a) ≡ Some a
whole_again read spell P one a fits = ap (whole read) (sym (append-nil (spell a))) ∙ rw (one.again a [] fits) refl

-- ---- fields

pub byte_reads : IsReader byte_at (λ b. b ∷ []) (λ b. b < 256)
byte_reads = record { takes = byte_takes; again = λ b rest fits. refl }
  where
    byte_takes : (bytes : List ℕ) (b : ℕ) (rest : List ℕ) → IsBytes bytes → byte_at bytes ≡ Some (b, rest) → (bytes ≡ (b ∷ []) ++ rest) × (b < 256)
    byte_takes [] b rest fits e = absurd cc
    byte_takes (x ∷ bytes) b rest fits e =
        subst (λ (v : ℕ × List ℕ). (x ∷ bytes ≡ (v.0 ∷ []) ++ v.1) × (v.0 < 256)) (some_is (x, bytes) (b, rest) e) (refl, fits 0)

pub number_reads : (n : ℕ) → IsReader (number_at n) (little_bytes n) (λ x. x < 256 ^ n)
unfolding number_at
number_reads n = record {
  takes = λ bytes x rest fits e.
      let g = guard_some (ltb (length bytes) n) (little_number n bytes, drop n bytes) (x, rest) e in
      let long : n ≤ length bytes = ltb-false _ _ g.0 in
      let parts : bytes ≡ little_bytes n (little_number n bytes) ++ drop n bytes = rw (bytes-of_number n bytes fits long) (sym (take-append-drop n bytes)) in
      subst (λ (v : ℕ × List ℕ). (bytes ≡ little_bytes n v.0 ++ v.1) × (v.0 < 256 ^ n)) g.1 (parts, number_fits n bytes fits);
  again = λ x rest fits.
      let len = length-little_bytes n x in
      let long : ltb (length (little_bytes n x ++ rest)) n ≡ false = le-ltb _ _ (omega (arith, length-append (little_bytes n x) rest)) in
      rw (long, drop_at (little_bytes n x) rest n len, number-of_bytes n x rest fits) refl;
}

pub string_reads : (n : ℕ) → IsReader (string_at n) (string_text n) (λ s. length s < 256 ^ n)
unfolding string_at string_text
string_reads n = record {
  takes = λ bytes s rest fits e.
      let b = bind_some (number_at n bytes) (λ len. cond (ltb (length len.1) len.0) None (Some (take len.0 len.1, drop len.0 len.1))) (s, rest) e in
      let len : ℕ = b.0.0 in
      let behind : List ℕ = b.0.1 in
      let t = (number_reads n).takes bytes b.0.0 b.0.1 fits b.1 in
      let g = guard_some (ltb (length b.0.1) b.0.0) (take b.0.0 b.0.1, drop b.0.0 b.0.1) (s, rest) b.2 in
      let long : b.0.0 ≤ length b.0.1 = ltb-false _ _ g.0 in
      let size : length (take b.0.0 b.0.1) ≡ b.0.0 = omega (arith, length-take b.0.0 b.0.1) in
      let parts : bytes ≡ (little_bytes n b.0.0 ++ take b.0.0 b.0.1) ++ drop b.0.0 b.0.1 = t.0 ∙ ap (λ (l : List ℕ). little_bytes n b.0.0 ++ l) (sym (take-append-drop b.0.0 b.0.1)) ∙ sym (append_assoc (little_bytes n b.0.0) (take b.0.0 b.0.1) (drop b.0.0 b.0.1)) in
      let spelled : bytes ≡ (little_bytes n (length (take b.0.0 b.0.1)) ++ take b.0.0 b.0.1) ++ drop b.0.0 b.0.1 =
      subst (λ (k : ℕ). bytes ≡ (little_bytes n k ++ take b.0.0 b.0.1) ++ drop b.0.0 b.0.1) (sym size) parts in
      subst (λ (v : List ℕ × List ℕ). (bytes ≡ (little_bytes n (length v.0) ++ v.0) ++ v.1) × (length v.0 < 256 ^ n)) g.1 (spelled, omega (arith, size, t.1));
  again = λ s rest fits.
      let long : ltb (length (s ++ rest)) (length s) ≡ false = le-ltb _ _ (omega (arith, length-append s rest)) in
      ap (string_at n) (append_assoc (little_bytes n (length s)) s rest) ∙ rw ((number_reads n).again (length s) (s ++ rest) fits, long, take_at s rest (length s) refl, drop_at s rest (length s) refl) refl;
}

image_takes : (bytes : List ℕ) (image : Image) (rest : List ℕ) → IsBytes bytes → image_at bytes ≡ Some (image, rest) → (bytes ≡ image_text image ++ rest) × ImageFits image
unfolding image_at
image_takes [] image rest fits e = absurd cc
image_takes (zero ∷ bytes) image rest fits e =
    subst (λ (v : Image × List ℕ). (0 ∷ bytes ≡ image_text v.0 ++ v.1) × ImageFits v.0) (some_is (None, bytes) (image, rest) e) (refl, tt)
image_takes (suc zero ∷ bytes) image rest fits e =
    let b = bind_some (string_at 2 bytes) (λ s. cond (ltb MAX_RECORD_BYTES (length s.0)) None (Some (Some s.0, s.1))) (image, rest) e in
    let t = (string_reads 2).takes bytes b.0.0 b.0.1 (λ i. fits (suc i)) b.1 in
    let g = guard_some (ltb MAX_RECORD_BYTES (length b.0.0)) (Some b.0.0, b.0.1) (image, rest) b.2 in
    subst (λ (v : Image × List ℕ). (1 ∷ bytes ≡ image_text v.0 ++ v.1) × ImageFits v.0) g.1 (ap (λ (l : List ℕ). 1 ∷ l) t.0, ltb-false _ _ g.0)
image_takes (suc (suc flag) ∷ bytes) image rest fits e = absurd cc

image_again : (image : Image) (rest : List ℕ) → ImageFits image → image_at (image_text image ++ rest) ≡ Some (image, rest)
unfolding image_at
image_again None rest fits = refl
image_again (Some bytes) rest fits =
    let short : ltb MAX_RECORD_BYTES (length bytes) ≡ false = le-ltb _ _ fits in
    rw ((string_reads 2).again bytes rest (omega arith), short) refl

pub image_reads : IsReader image_at image_text ImageFits
image_reads = record { takes = image_takes; again = image_again }

pub rid_reads : IsReader rid_at rid_text RidFits
unfolding rid_at rid_text
rid_reads =
    let numbers = made_reads rid_of (λ r. ((r.page.store, r.page.page), r.slot)) (pair_at (pair_at (number_at 4) (number_at 4)) (number_at 2))
    (λ n. (little_bytes 4 n.0.0 ++ little_bytes 4 n.0.1) ++ little_bytes 2 n.1) (λ n. ((n.0.0 < 2 ^ 32) × (n.0.1 < 2 ^ 32)) × (n.1 < 2 ^ 16)) (λ r. refl) (λ n. refl)
    (pair_reads (pair_at (number_at 4) (number_at 4)) (number_at 2) (λ n. little_bytes 4 n.0 ++ little_bytes 4 n.1) (little_bytes 2) (λ n. (n.0 < 2 ^ 32) × (n.1 < 2 ^ 32)) (λ n. n < 2 ^ 16)
    (pair_reads (number_at 4) (number_at 4) (little_bytes 4) (little_bytes 4) (λ n. n < 2 ^ 32) (λ n. n < 2 ^ 32) (number_reads 4) (number_reads 4)) (number_reads 2)) in
    record {
      takes = λ bytes r rest fits e. let t = numbers.takes bytes r rest fits e in (t.0, record { store = t.1.0.0; page = t.1.0.1; slot = t.1.1 });
      again = λ r rest fits. numbers.again r rest ((fits.store, fits.page), fits.slot);
    }
