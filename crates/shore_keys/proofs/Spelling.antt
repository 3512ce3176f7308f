-- The bytes of entries, one after another, and where they are cut.
use Rattle.std.proofs.Common.{◌≡◌, ◌≢◌, ◌⊎◌, inl, inr, ℕ, zero, suc, ◌+◌, ◌-◌, ◌<◌, ◌≤◌, List, [], ◌∷◌, ◌++◌, length, Bool, true, false, cond, Option, Some, None, refl, sym, ap, subst, ◌∙◌, append_assoc, arith}
use Rattle.std.specs.Prelude.{option_map}
use Rattle.std.proofs.lemmas.List.{append-nil, length-append}
use Rattle.std.proofs.lemmas.Option.{same_Some, none-some}
use Rattle.shore_keys.specs.Cuts.{AllUpTo, IsBehind, IsCut, IsCutAt, Spells, place}
use Rattle.shore_keys.specs.Nodes.{◌>>=◌, Entry, Fits, entries_at, entry_at, entry_text}
use Rattle.shore_keys.specs.Orders.{IsUpTo, is_before}
use Rattle.shore_keys.specs.Trees.{Spot}
use Rattle.shore_keys.proofs.EntriesLeft.{First, Left, first_of}
use Rattle.shore_keys.proofs.Locals.{Local, local-entry, spelled-entry}

nothing-more : (o : Option (List Entry)) → o ≡ option_map (λ (later : List Entry). [] ++ later) o
nothing-more None = refl
nothing-more (Some later) = refl

pub spells-none : Spells [] []
spells-none n other = let none : length {A = Entry} [] + n ≡ n = omega arith in ap (λ (k : ℕ). entries_at k other) none ∙ nothing-more (entries_at n other)

pub spells-one : (raw : List ℕ) (e : Entry) → ((other : List ℕ) → entry_at (raw ++ other) ≡ Some (e, other)) → Spells raw (e ∷ [])
spells-one raw e again n other =
    let more : length (e ∷ []) + n ≡ suc n = omega arith in
    ap (λ (k : ℕ). entries_at k (raw ++ other)) more ∙ ap (λ (o : Option (Entry × List ℕ)). o >>= λ x. option_map (λ es. x.0 ∷ es) (entries_at n x.1)) (again other)

twice : (es fs : List Entry) (o : Option (List Entry)) → option_map (λ (l : List Entry). es ++ l) (option_map (λ (l : List Entry). fs ++ l) o) ≡ option_map (λ (l : List Entry). (es ++ fs) ++ l) o
twice es fs None = refl
twice es fs (Some l) = ap (λ (l : List Entry). Some l) (sym (append_assoc es fs l))

pub spells-join : (f g : List ℕ) (es fs : List Entry) → Spells f es → Spells g fs → Spells (f ++ g) (es ++ fs)
spells-join f g es fs a b n other =
    let count : length (es ++ fs) + n ≡ length es + (length fs + n) = let l = length-append es fs in omega arith in
    ap (λ (k : ℕ). entries_at k ((f ++ g) ++ other)) count ∙ ap (λ (r : List ℕ). entries_at (length es + (length fs + n)) r) (append_assoc f g other)
    ∙ a (length fs + n) (g ++ other) ∙ ap (option_map (λ (l : List Entry). es ++ l)) (b n other) ∙ twice es fs (entries_at n other)

pub spells-entry : (e : Entry) → Fits e → Spells (entry_text e) (e ∷ [])
spells-entry e fits = spells-one (entry_text e) e (λ other. spelled-entry e other fits)

-- all that is spelled, and nothing behind it
pub spelled : (front : List ℕ) (es : List Entry) (other : List ℕ) → Spells front es → entries_at (length es) (front ++ other) ≡ Some es
spelled front es other s =
    let none : length es ≡ length es + 0 = omega arith in
    ap (λ (k : ℕ). entries_at k (front ++ other)) none ∙ s 0 other ∙ ap (λ (l : List Entry). Some l) (append-nil es)

pub count-is : (n : ℕ) (bytes : List ℕ) (es : List Entry) → entries_at n bytes ≡ Some es → length es ≡ n
count-is zero bytes es e = ap length (sym (same_Some [] es e))
count-is (suc n) bytes es e =
    let f = first_of bytes n es e in
    ap length f.is ∙ ap (λ (k : ℕ). suc k) (count-is n f.behind f.later f.others)

-- ---- entries that are passed

one-more-up : (es : List Entry) (e : Entry) (key : List ℕ) → AllUpTo es key → IsUpTo e.0 key → AllUpTo (es ++ e ∷ []) key
one-more-up [] e key all low = (low, tt)
one-more-up (x ∷ xs) e key all low = (all.0, one-more-up xs e key all.1 low)

place-behind : (key : List ℕ) (spot : Spot) (below above : List Entry) → AllUpTo below key → place key spot (below ++ above) ≡ below ++ place key spot above
place-behind key spot [] above all = refl
place-behind key spot (e ∷ es) above all =
    ap (λ b. cond b ((key, spot.0, spot.1) ∷ (e ∷ (es ++ above))) (e ∷ place key spot (es ++ above))) all.0 ∙ ap (λ (l : List Entry). e ∷ l) (place-behind key spot es above all.1)

-- `at` entries are passed, their bytes are in front, and a test that each has passed
pub record Passed (Test : List Entry → Type 0) (body : List ℕ) (at : ℕ) (rest : List ℕ) (es later : List Entry) : Type 0 where
  pub below : List Entry
  pub front : List ℕ
  pub all : es ≡ below ++ later
  pub bytes : body ≡ front ++ rest
  pub spelled : Spells front below
  pub count : length below ≡ at
  pub test : Test below

pub passed-none : (Test : List Entry → Type 0) (body : List ℕ) (es : List Entry) → Test [] → Passed Test body 0 body es es
passed-none Test body es start = record { below = []; front = []; all = refl; bytes = refl; spelled = spells-none; count = refl; test = start }

pub passed-more : (Test : List Entry → Type 0) (body : List ℕ) (at : ℕ) (rest : List ℕ) (es later : List Entry) (e : Entry) (behind : List ℕ) → Passed Test body at rest es (e ∷ later)
    → entry_at rest ≡ Some (e, behind) → ((below : List Entry) → Test below → Test (below ++ e ∷ [])) → Passed Test body (at + 1) behind es later
passed-more Test body at rest es later e behind p one more =
    let l = local-entry rest e behind one in
    record {
      below = p.below ++ e ∷ [];
      front = p.front ++ l.raw;
      all = p.all ∙ sym (append_assoc p.below (e ∷ []) later);
      bytes = p.bytes ∙ ap (λ (r : List ℕ). p.front ++ r) l.is ∙ sym (append_assoc p.front l.raw behind);
      spelled = spells-join p.front l.raw p.below (e ∷ []) p.spelled (spells-one l.raw e l.again);
      count = length-append p.below (e ∷ []) ∙ ap (λ (k : ℕ). k + 1) p.count;
      test = more p.below p.test;
    }

-- ---- a cut at a key

abbrev pub UpTo : List ℕ → List Entry → Type 0
UpTo key es = AllUpTo es key

pub up-none : (key : List ℕ) → UpTo key []
up-none key = tt

pub up-more : (key : List ℕ) (e : Entry) → IsUpTo e.0 key → (below : List Entry) → UpTo key below → UpTo key (below ++ e ∷ [])
up-more key e low below all = one-more-up below e key all low

pub cut-before : (count : ℕ) (body key : List ℕ) (at : ℕ) (rest : List ℕ) (es later : List Entry) (e : Entry) → at < count → Passed (UpTo key) body at rest es (e ∷ later)
    → entries_at (count - at) rest ≡ Some (e ∷ later) → is_before key e.0 ≡ true → IsCutAt count body key es at rest
cut-before count body key at rest es later e few p others above = record {
  below = p.below;
  above = e ∷ later;
  all = p.all;
  few = omega arith;
  count_is = p.count;
  front = p.front;
  bytes = p.bytes;
  spelled = p.spelled;
  others = others;
  up = p.test;
  over = above;
  placed = λ spot. ap (place key spot) p.all ∙ place-behind key spot p.below (e ∷ later) p.test
      ∙ ap (λ (l : List Entry). p.below ++ l) (ap (λ b. cond b ((key, spot.0, spot.1) ∷ e ∷ later) (e ∷ place key spot later)) above);
}

pub cut-at-end : (count : ℕ) (body key : List ℕ) (at : ℕ) (rest : List ℕ) (es : List Entry) → entries_at count body ≡ Some es → Passed (UpTo key) body at rest es []
    → IsCutAt count body key es count rest
cut-at-end count body key at rest es e p =
    let same : es ≡ p.below = p.all ∙ append-nil p.below in
    let none : count - count ≡ 0 = omega arith in
    record {
      below = p.below;
      above = [];
      all = p.all;
      few = omega arith;
      count_is = ap length (sym same) ∙ count-is count body es e;
      front = p.front;
      bytes = p.bytes;
      spelled = p.spelled;
      others = ap (λ (n : ℕ). entries_at n rest) none;
      up = p.test;
      over = tt;
      placed = λ spot. ap (place key spot) p.all ∙ place-behind key spot p.below [] p.test;
    }

pub behind-all : (body : List ℕ) (at : ℕ) (rest : List ℕ) (es : List Entry) → Passed (λ below. Unit {0}) body at rest es [] → IsBehind es body (Some rest)
behind-all body at rest es p = (p.front, p.bytes, subst (Spells p.front) (sym (p.all ∙ append-nil p.below)) p.spelled)
