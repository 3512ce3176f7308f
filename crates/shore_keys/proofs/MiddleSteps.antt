-- The middle of the entries of a leaf, and the texts of its halves.
use Rattle.std.proofs.Common.{◌≡◌, ◌≢◌, ℕ, zero, suc, ◌+◌, ◌-◌, ◌/◌, ◌^◌, ◌<◌, ◌≤◌, List, [], ◌∷◌, ◌++◌, length, take, drop, Bool, true, false, cond, Option, Some, None, refl, sym, ap, subst, ◌∙◌, append_assoc, arith}
use Rattle.std.specs.Prelude.{nat_eq, nat_lt, option_map}
use Rattle.std.proofs.lemmas.Bool.{le-ltb}
use Rattle.std.proofs.lemmas.List.{drop_at, length-append}
use Rattle.std.proofs.lemmas.Option.{same_Some, none-some}
use Rattle.byteorder.specs.Endian.{little_bytes}
use Rattle.shore_keys.specs.Cuts.{IsBehind, Spells}
use Rattle.shore_keys.specs.Halves.{IsMiddleAt}
use Rattle.shore_keys.specs.Nodes.{◌>>=◌, Entry, Fits, Front, Node, as_right, entries_at, entry_at, entry_text, front_at, node_at, number_at, right_at}
use Rattle.shore_keys.specs.Trees.{Spot}
use Rattle.shore_keys.proofs.EntriesLeft.{First, first_of}
use Rattle.shore_keys.proofs.Fronts.{FrontText, front-text, node-text, number-again}
use Rattle.shore_keys.proofs.Locals.{local-entry, spelled-entry}
use Rattle.shore_keys.proofs.Spelling.{count-is, spelled}
use Rattle.shore_keys.proofs.Walks.{front_is}

-- the first of so many entries
pub record Parted (n : ℕ) (bytes : List ℕ) (es : List Entry) : Type 0 where
  pub front : List Entry
  pub behind : List Entry
  pub all : es ≡ front ++ behind
  pub read : entries_at n bytes ≡ Some front

pub parted : (n m : ℕ) (bytes : List ℕ) (es : List Entry) → entries_at (n + m) bytes ≡ Some es → Parted n bytes es
parted zero m bytes es e = record { front = []; behind = es; all = refl; read = refl }
parted (suc n) m bytes es e =
    let more : suc n + m ≡ suc (n + m) = omega arith in
    let f = first_of bytes (n + m) es (ap (λ (k : ℕ). entries_at k bytes) (sym more) ∙ e) in
    let p = parted n m f.behind f.later f.others in
    record {
      front = f.entry ∷ p.front;
      behind = p.behind;
      all = f.is ∙ ap (λ (l : List Entry). f.entry ∷ l) p.all;
      read = ap (λ (o : Option (Entry × List ℕ)). o >>= λ x. option_map (λ es. x.0 ∷ es) (entries_at n x.1)) f.one ∙ ap (option_map (λ (es : List Entry). f.entry ∷ es)) p.read;
    }

some_of : (xs es : List Entry) (o : Option (List Entry)) → option_map (λ (l : List Entry). xs ++ l) o ≡ Some es → (ys : List Entry) × (o ≡ Some ys) × (xs ++ ys ≡ es)
some_of xs es None e = absurd (none-some es e)
some_of xs es (Some ys) e = (ys, refl, same_Some (xs ++ ys) es e)

pub middle-is : (count at : ℕ) (body : List ℕ) (es : List Entry) → entries_at count body ≡ Some es → 2 ≤ count → at ≡ count / 2 → at < count → (xs : List Entry) → entries_at at body ≡ Some xs → (rest : List ℕ) → IsBehind xs body (Some rest)
    → (x : Entry × List ℕ) → entry_at rest ≡ Some x → IsMiddleAt count body es at rest x.0
middle-is count at body es e two half few xs read rest behind x one =
    let size : length xs ≡ at = count-is at body xs read in
    let total : length xs + (count - at) ≡ count = omega arith in
    let whole : entries_at (length xs + (count - at)) (behind.0 ++ rest) ≡ Some es = ap (λ (k : ℕ). entries_at k (behind.0 ++ rest)) total ∙ ap (entries_at count) (sym behind.1) ∙ e in
    let later = some_of xs es (entries_at (count - at) rest) (sym (behind.2 (count - at) rest) ∙ whole) in
    let some : count - at ≡ suc (count - at - 1) = omega arith in
    let f = first_of rest (count - at - 1) later.0 (ap (λ (k : ℕ). entries_at k rest) (sym some) ∙ later.1) in
    let same : (f.entry, f.behind) ≡ x = same_Some (f.entry, f.behind) x (sym f.one ∙ one) in
    let is : later.0 ≡ x.0 ∷ f.later = f.is ∙ ap (λ (y : Entry × List ℕ). y.0 ∷ f.later) same in
    record {
      front = xs;
      others = f.later;
      all = sym later.2 ∙ ap (λ (l : List Entry). xs ++ l) is;
      count_is = size;
      few = omega arith;
      two = two;
      half = half;
      bytes = behind.0;
      is = behind.1;
      spelled = behind.2;
      left = later.1 ∙ ap (λ (l : List Entry). Some l) is;
    }

pub middle-there : (count at : ℕ) (body : List ℕ) (es : List Entry) → entries_at count body ≡ Some es → at < count → (xs : List Entry) → entries_at at body ≡ Some xs → (rest : List ℕ) → IsBehind xs body (Some rest)
    → entry_at rest ≡ None → ⊥
middle-there count at body es e few xs read rest behind none =
    let size : length xs ≡ at = count-is at body xs read in
    let total : length xs + (count - at) ≡ count = omega arith in
    let whole : entries_at (length xs + (count - at)) (behind.0 ++ rest) ≡ Some es = ap (λ (k : ℕ). entries_at k (behind.0 ++ rest)) total ∙ ap (entries_at count) (sym behind.1) ∙ e in
    let later = some_of xs es (entries_at (count - at) rest) (sym (behind.2 (count - at) rest) ∙ whole) in
    let some : count - at ≡ suc (count - at - 1) = omega arith in
    let f = first_of rest (count - at - 1) later.0 (ap (λ (k : ℕ). entries_at k rest) (sym some) ∙ later.1) in
    none-some (f.entry, f.behind) (sym none ∙ f.one)

-- what is read is read whatever stands behind it
pub entries-more : (n : ℕ) (bytes : List ℕ) (es : List Entry) → entries_at n bytes ≡ Some es → (other : List ℕ) → entries_at n (bytes ++ other) ≡ Some es
entries-more zero bytes es e other = e
entries-more (suc n) bytes es e other =
    let f = first_of bytes n es e in
    let l = local-entry bytes f.entry f.behind f.one in
    let one : entry_at (bytes ++ other) ≡ Some (f.entry, f.behind ++ other) = ap (λ (b : List ℕ). entry_at (b ++ other)) l.is ∙ ap entry_at (append_assoc l.raw f.behind other) ∙ l.again (f.behind ++ other) in
    ap (λ (o : Option (Entry × List ℕ)). o >>= λ x. option_map (λ es. x.0 ∷ es) (entries_at n x.1)) one
    ∙ ap (option_map (λ (es : List Entry). f.entry ∷ es)) (entries-more n f.behind f.later f.others other) ∙ ap (λ (l : List Entry). Some l) (sym f.is)

-- the text of the right half
pub right-read : (bytes : List ℕ) (f : Front) (node : Node) → node_at bytes ≡ Some node → front_at bytes ≡ Some f → (head rest more text : List ℕ) (n : ℕ) (es : List Entry) → ((front : List ℕ) → bytes ≡ front ++ f.body → head ≡ front)
    → entries_at n rest ≡ Some es → n < 2 ^ 16 → text ≡ ((take 2 head ++ (little_bytes 2 n ++ drop 4 head)) ++ rest) ++ more → node_at text ≡ Some (record node { entries = es })
right-read bytes f node reads front head rest more text n es cuts others small made =
    let is = front-text bytes f front in
    let of = front_is bytes node f reads front in
    let whole : List ℕ = f.level ∷ is.has ∷ (is.count ++ is.right) in
    let same : head ≡ whole = cuts whole (is.is ∙ ap (λ (r : List ℕ). f.level ∷ is.has ∷ r) (sym (append_assoc is.count is.right f.body))) in
    let right : drop 4 whole ≡ is.right = drop_at is.count is.right 2 is.two in
    let text_is : text ≡ f.level ∷ is.has ∷ (little_bytes 2 n ++ (is.right ++ (rest ++ more))) =
    made ∙ ap (λ (h : List ℕ). ((take 2 h ++ (little_bytes 2 n ++ drop 4 h)) ++ rest) ++ more) same
    ∙ ap (λ (r : List ℕ). f.level ∷ is.has ∷ (((little_bytes 2 n ++ r) ++ rest) ++ more)) right
    ∙ ap (λ (r : List ℕ). f.level ∷ is.has ∷ r)
    (append_assoc (little_bytes 2 n ++ is.right) rest more ∙ append_assoc (little_bytes 2 n) is.right (rest ++ more)) in
    ap node_at text_is
    ∙ node-text (f.level ∷ is.has ∷ (little_bytes 2 n ++ (is.right ++ (rest ++ more)))) (record f { count = n; body = rest ++ more }) es (is.again n (rest ++ more) small) (entries-more n rest es others more)
    ∙ ap (λ (l : ℕ). Some (record { level = l; right = f.right; entries = es })) (sym of.level)
    ∙ ap (λ (r : Option Entry). Some (record { level = node.level; right = r; entries = es })) (sym of.right)

-- a node with a right neighbour
neighbour-front : (level : ℕ) (e : Entry) (n : ℕ) (body : List ℕ) → Fits e → n < 2 ^ 16 → front_at (level ∷ 1 ∷ (little_bytes 2 n ++ (entry_text e ++ body))) ≡ Some (record { level = level; right = Some e; count = n; body = body })
unfolding front_at right_at
neighbour-front level e n body fits small = rw (number-again n (entry_text e ++ body) small, spelled-entry e body fits) refl

pub left-read : (level : ℕ) (e : Entry) (n : ℕ) (first more text : List ℕ) (es : List Entry) → Fits e → n < 2 ^ 16 → Spells first es → length es ≡ n → text ≡ ((((level ∷ 1 ∷ []) ++ little_bytes 2 n) ++ entry_text e) ++ first) ++ more
    → node_at text ≡ Some (record { level = level; right = Some e; entries = es })
left-read level e n first more text es fits small spells count made =
    let text_is : text ≡ level ∷ 1 ∷ (little_bytes 2 n ++ (entry_text e ++ (first ++ more))) =
    made ∙ append_assoc (((level ∷ 1 ∷ []) ++ little_bytes 2 n) ++ entry_text e) first more ∙ append_assoc ((level ∷ 1 ∷ []) ++ little_bytes 2 n) (entry_text e) (first ++ more) in
    ap node_at text_is
    ∙ node-text (level ∷ 1 ∷ (little_bytes 2 n ++ (entry_text e ++ (first ++ more)))) (record { level = level; right = Some e; count = n; body = first ++ more }) es (neighbour-front level e n (first ++ more) fits small)
    (ap (λ (k : ℕ). entries_at k (first ++ more)) (sym count) ∙ spelled first es more spells)
