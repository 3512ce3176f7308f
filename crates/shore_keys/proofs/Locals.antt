-- What is read at the front of some bytes is read there whatever stands behind it.
use Rattle.std.proofs.Common.{◌≡◌, ℕ, zero, suc, ◌+◌, ◌^◌, ◌<◌, ◌≤◌, List, [], ◌∷◌, ◌++◌, length, take, drop, Bool, true, false, cond, Option, Some, None, refl, sym, ap, subst, ◌∙◌, append_assoc, arith}
use Rattle.std.specs.Prelude.{nat_lt, nat_le, nat_eq, option_map}
use Rattle.std.proofs.lemmas.Bool.{le-leb, le-ltb, leb-true, ltb-false}
use Rattle.std.proofs.lemmas.List.{drop_at, length-append, length-take-le, take-append-drop, take_at}
use Rattle.std.proofs.lemmas.Option.{same_Some, none-some}
use Rattle.byteorder.specs.Endian.{little_bytes, little_from, little_number}
use Rattle.byteorder.specs.Numbers.{little_from-append, little_from-take, little_number-reads_back}
use Rattle.shore_keys.specs.Nodes.{◌>>=◌, Entry, Fits, entry_at, entry_text, key_at, number_at}

-- the bytes that were read, and that they are read before any others
pub record Local {A : Type 0} (read : List ℕ → Option (A × List ℕ)) (bytes : List ℕ) (x : A) (rest : List ℕ) : Type 0 where
  pub raw : List ℕ
  pub is : bytes ≡ raw ++ rest
  pub again : (other : List ℕ) → read (raw ++ other) ≡ Some (x, other)

pub kept : {A : Type 0} (b : Bool) (x y : A) → cond b None (Some x) ≡ Some y → (b ≡ false) × (x ≡ y)
kept true x y e = absurd cc
kept false x y e = (refl, same_Some x y e)

kept_too : {A : Type 0} (b : Bool) (x y : A) → cond b (Some x) None ≡ Some y → (b ≡ true) × (x ≡ y)
kept_too false x y e = absurd cc
kept_too true x y e = (refl, same_Some x y e)

pub bound : {A B : Type 0} (o : Option A) (f : A → Option B) (y : B) → (o >>= f) ≡ Some y → (x : A) × (o ≡ Some x) × (f x ≡ Some y)
bound None f y e = absurd (none-some y e)
bound (Some x) f y e = (x, refl, e)

pub local-number : (n : ℕ) (bytes : List ℕ) (x : ℕ) (rest : List ℕ) → number_at n bytes ≡ Some (x, rest) → Local (number_at n) bytes x rest
unfolding number_at
local-number n bytes x rest e =
    let k = kept (nat_lt (length bytes) n) (little_number n bytes, drop n bytes) (x, rest) e in
    let long : n ≤ length bytes = ltb-false _ _ k.0 in
    let size : length (take n bytes) ≡ n = length-take-le n bytes long in
    record {
      raw = take n bytes;
      is = sym (take-append-drop n bytes) ∙ ap (λ r. take n bytes ++ r) (ap (λ (y : ℕ × List ℕ). y.1) k.1);
      again = λ other.
          let fits : n ≤ length (take n bytes ++ other) = let l = length-append (take n bytes) other in omega arith in
          let number : little_number n (take n bytes ++ other) ≡ x =
          little_from-append n (take n bytes) other (omega arith) ∙ little_from-take 0 n n bytes (omega arith) ∙ ap (λ (y : ℕ × List ℕ). y.0) k.1 in
          rw (le-ltb _ _ fits, number, drop_at (take n bytes) other n size) refl;
    }

pub local-key : (bytes key rest : List ℕ) → key_at bytes ≡ Some (key, rest) → Local key_at bytes key rest
unfolding key_at
local-key [] key rest e = absurd cc
local-key (n ∷ bytes) key rest e =
    let k = kept_too (nat_le n (length bytes)) (take n bytes, drop n bytes) (key, rest) e in
    let long : n ≤ length bytes = leb-true _ _ k.0 in
    let size : length (take n bytes) ≡ n = length-take-le n bytes long in
    record {
      raw = n ∷ take n bytes;
      is = ap (λ r. n ∷ r) (sym (take-append-drop n bytes) ∙ ap (λ r. take n bytes ++ r) (ap (λ (y : List ℕ × List ℕ). y.1) k.1));
      again = λ other.
          let fits : n ≤ length (take n bytes ++ other) = let l = length-append (take n bytes) other in omega arith in
          rw (le-leb _ _ fits, take_at (take n bytes) other n size, drop_at (take n bytes) other n size) (ap (λ (k : List ℕ). Some (k, other)) (ap (λ (y : List ℕ × List ℕ). y.0) k.1));
    }

pub local-entry : (bytes : List ℕ) (e : Entry) (rest : List ℕ) → entry_at bytes ≡ Some (e, rest) → Local entry_at bytes e rest
unfolding entry_at
local-entry bytes e rest is =
    let k = bound (key_at bytes) (λ k. number_at 4 k.1 >>= λ p. number_at 2 p.1 >>= λ s. Some ((k.0, p.0, s.0), s.1)) (e, rest) is in
    let p = bound (number_at 4 k.0.1) (λ p. number_at 2 p.1 >>= λ s. Some ((k.0.0, p.0, s.0), s.1)) (e, rest) k.2 in
    let s = bound (number_at 2 p.0.1) (λ s. Some ((k.0.0, p.0.0, s.0), s.1)) (e, rest) p.2 in
    let a = local-key bytes k.0.0 k.0.1 k.1 in
    let b = local-number 4 k.0.1 p.0.0 p.0.1 p.1 in
    let d = local-number 2 p.0.1 s.0.0 s.0.1 s.1 in
    let made = same_Some ((k.0.0, p.0.0, s.0.0), s.0.1) (e, rest) s.2 in
    record {
      raw = a.raw ++ (b.raw ++ d.raw);
      is = a.is ∙ ap (λ r. a.raw ++ r) (b.is ∙ ap (λ r. b.raw ++ r) (d.is ∙ ap (λ r. d.raw ++ r) (ap (λ (y : Entry × List ℕ). y.1) made)) ∙ sym (append_assoc b.raw d.raw rest)) ∙ sym (append_assoc a.raw (b.raw ++ d.raw) rest);
      again = λ other.
          let parts : (a.raw ++ (b.raw ++ d.raw)) ++ other ≡ a.raw ++ (b.raw ++ (d.raw ++ other)) = append_assoc a.raw (b.raw ++ d.raw) other ∙ ap (λ r. a.raw ++ r) (append_assoc b.raw d.raw other) in
          rw (parts, a.again (b.raw ++ (d.raw ++ other)), b.again (d.raw ++ other), d.again other) (ap (λ (e : Entry). Some (e, other)) (ap (λ (y : Entry × List ℕ). y.0) made));
    }

-- an entry that fits is read from its text
pub spelled-entry : (e : Entry) (other : List ℕ) → Fits e → entry_at (entry_text e ++ other) ≡ Some (e, other)
unfolding entry_at entry_text key_at number_at
spelled-entry e other fits =
    let text : List ℕ = little_bytes 4 e.1 ++ (little_bytes 2 e.2 ++ other) in
    let parts : (length e.0 ∷ (e.0 ++ (little_bytes 4 e.1 ++ little_bytes 2 e.2))) ++ other ≡ length e.0 ∷ (e.0 ++ text) =
    ap (λ r. length e.0 ∷ r) (append_assoc e.0 (little_bytes 4 e.1 ++ little_bytes 2 e.2) other ∙ ap (λ r. e.0 ++ r) (append_assoc (little_bytes 4 e.1) (little_bytes 2 e.2) other)) in
    let long : length e.0 ≤ length (e.0 ++ text) = let l = length-append e.0 text in omega arith in
    let page = little_number-reads_back 4 e.1 (little_bytes 2 e.2 ++ other) fits.page in
    let slot = little_number-reads_back 2 e.2 other fits.slot in
    let four : nat_lt (length text) 4 ≡ false = le-ltb _ _ (let l = length-append (little_bytes 4 e.1) (little_bytes 2 e.2 ++ other) in omega arith) in
    let two : nat_lt (length (little_bytes 2 e.2 ++ other)) 2 ≡ false = le-ltb _ _ (let l = length-append (little_bytes 2 e.2) other in omega arith) in
    ap entry_at parts ∙ rw (le-leb _ _ long, take_at e.0 text (length e.0) refl, drop_at e.0 text (length e.0) refl, four, page, two, slot) refl
