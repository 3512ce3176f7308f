-- A key that is taken out of entries that rise.
use Rattle.std.proofs.Common.{◌≡◌, ◌≢◌, ℕ, ◌+◌, ◌-◌, ◌<◌, ◌≤◌, ◌^◌, List, [], ◌∷◌, ◌++◌, length, take, drop, Bool, true, false, cond, Option, Some, None, refl, sym, ap, subst, ◌∙◌, append_assoc, arith}
use Rattle.std.specs.Prelude.{nat_eq, option_map}
use Rattle.std.specs.Cmp.Lexicographic.{pointwise}
use Rattle.std.proofs.lemmas.List.{append-nil, drop_at, length-append}
use Rattle.byteorder.specs.Endian.{little_bytes}
use Rattle.shore_keys.specs.Cuts.{IsFoundAt, Spells, drop_key, without}
use Rattle.shore_keys.specs.Maps.{with_at}
use Rattle.shore_keys.specs.Nodes.{Entry, Front, Node, entries_at, entry_at, front_at, node_at}
use Rattle.shore_keys.specs.Orders.{IsUpTo, is_before}
use Rattle.shore_keys.specs.Trees.{RiseBehind, RiseFrom, Spot, is_past, look_in}
use Rattle.shore_keys.proofs.Fronts.{FrontText, front-text, node-text}
use Rattle.shore_keys.proofs.KeyOrder.{before-trans, before-upto, upto-trans}
use Rattle.shore_keys.proofs.Locals.{local-entry}
use Rattle.shore_keys.proofs.MiddleSteps.{entries-more}
use Rattle.shore_keys.proofs.RisingHalves.{before-apart}
use Rattle.shore_keys.proofs.SameTexts.{look-other, look-same, other_texts, same_text, same_texts}
use Rattle.shore_keys.proofs.Spelling.{Passed}
use Rattle.shore_keys.proofs.Walks.{front_is}

-- ---- among entries that are passed

-- none of them has the key
abbrev pub NoneHas : List ℕ → List Entry → Type 0
NoneHas key [] = Unit {0}
NoneHas key (e ∷ es) = (e.0 ≢ key) × NoneHas key es

pub none-has-more : (key : List ℕ) (e : Entry) → e.0 ≢ key → (below : List Entry) → NoneHas key below → NoneHas key (below ++ e ∷ [])
none-has-more key e other [] none = (other, tt)
none-has-more key e other (x ∷ xs) none = (none.0, none-has-more key e other xs none.1)

none-looked : (key : List ℕ) (es : List Entry) → NoneHas key es → look_in es key ≡ None
none-looked key [] none = refl
none-looked key (e ∷ es) none = look-other e es key none.0 ∙ none-looked key es none.1

drop-behind : (key : List ℕ) (below : List Entry) (e : Entry) (later : List Entry) → NoneHas key below → e.0 ≡ key → drop_key key (below ++ e ∷ later) ≡ below ++ later
drop-behind key [] e later none same = ap (λ b. cond b later (e ∷ drop_key key later)) (ap (λ (k : List ℕ). pointwise nat_eq k key) same ∙ same_text key)
drop-behind key (x ∷ xs) e later none same =
    ap (λ b. cond b (xs ++ e ∷ later) (x ∷ drop_key key (xs ++ e ∷ later))) (other_texts x.0 key none.0) ∙ ap (λ (l : List Entry). x ∷ l) (drop-behind key xs e later none.1 same)

pub found-here : (count : ℕ) (body key : List ℕ) (at : ℕ) (rest : List ℕ) (es later : List Entry) (e : Entry) (behind : List ℕ) → at < count → Passed (NoneHas key) body at rest es (e ∷ later)
    → entries_at (count - (at + 1)) behind ≡ Some later → e.0 ≡ key → entry_at rest ≡ Some (e, behind) → IsFoundAt count body key es at rest behind
found-here count body key at rest es later e behind few p others same one = record {
  below = p.below;
  later = later;
  few = few;
  count_is = p.count;
  front = p.front;
  bytes = p.bytes;
  spelled = p.spelled;
  raw = (local-entry rest e behind one).raw;
  cut = (local-entry rest e behind one).is;
  others = others;
  dropped = ap (drop_key key) p.all ∙ drop-behind key p.below e later p.test same;
}

pub found-nowhere : (body key : List ℕ) (at : ℕ) (rest : List ℕ) (es : List Entry) → Passed (NoneHas key) body at rest es [] → look_in es key ≡ None
found-nowhere body key at rest es p = ap (λ (l : List Entry). look_in l key) (p.all ∙ append-nil p.below) ∙ none-looked key p.below p.test

-- ---- what the others have

later-others : (a k : List ℕ) (es : List Entry) (right : Option Entry) → is_before k a ≡ true → RiseBehind a es right → look_in es k ≡ None
later-others a k [] right h rise = refl
later-others a k (x ∷ xs) right h rise =
    let up : is_before k x.0 ≡ true = before-trans k a x.0 h (before-upto a x.0 rise.0) in
    look-other x xs k (λ same. before-apart k x.0 up (sym same)) ∙ later-others x.0 k xs right up rise.2

-- a key comes once
once : (a : List ℕ) (es : List Entry) (right : Option Entry) → RiseBehind a es right → look_in es a ≡ None
once a [] right rise = refl
once a (x ∷ xs) right rise = look-other x xs a (λ same. before-apart a x.0 rise.0 (sym same)) ∙ later-others x.0 a xs right rise.0 rise.2

module _ (key : List ℕ) (right : Option Entry) where
  looks-first : (e : Entry) (es : List Entry) (k : List ℕ) → look_in (drop_key key es) k ≡ with_at key None (look_in es) k → look_in es e.0 ≡ None → look_in (drop_key key (e ∷ es)) k ≡ with_at key None (look_in (e ∷ es)) k
  looks-first e es k later alone = of (pointwise nat_eq e.0 key) refl later alone
    where
      swap : (a b : Bool) → (a ≡ true → b ≡ true → ⊥) → (o : Option Spot) → cond a (Some (e.1, e.2)) (cond b None o) ≡ cond b None (cond a (Some (e.1, e.2)) o)
      swap true true clash o = absurd (clash refl refl)
      swap true false clash o = refl
      swap false true clash o = refl
      swap false false clash o = refl

      clash : false ≡ true → ⊥
      clash e = cc

      here : e.0 ≡ key → look_in es e.0 ≡ None → (b : Bool) → pointwise nat_eq key k ≡ b → look_in es k ≡ cond b None (look_in (e ∷ es) k)
      here same none true it = ap (λ (q : List ℕ). look_in es q) (sym (same_texts key k it) ∙ sym same) ∙ none
      here same none false it = sym (look-other e es k (λ q. clash (sym it ∙ ap (λ (z : List ℕ). pointwise nat_eq key z) (sym q ∙ same) ∙ same_text key)))

      of : (b : Bool) → pointwise nat_eq e.0 key ≡ b → look_in (drop_key key es) k ≡ with_at key None (look_in es) k → look_in es e.0 ≡ None
          → look_in (drop_key key (e ∷ es)) k ≡ with_at key None (look_in (e ∷ es)) k
      of true it later none = ap (λ b. look_in (cond b es (e ∷ drop_key key es)) k) it ∙ here (same_texts e.0 key it) none (pointwise nat_eq key k) refl
      of false it later none =
          ap (λ b. look_in (cond b es (e ∷ drop_key key es)) k) it
          ∙ ap (λ o. cond (pointwise nat_eq e.0 k) (Some (e.1, e.2)) o) later
          ∙ swap (pointwise nat_eq e.0 k) (pointwise nat_eq key k)
          (λ a b. clash (sym it ∙ subst (λ (z : List ℕ). pointwise nat_eq e.0 z ≡ true) (sym (same_texts key k b)) a)) (look_in es k)

  looks-later : (a : List ℕ) (es : List Entry) → RiseBehind a es right → (k : List ℕ) → look_in (drop_key key es) k ≡ with_at key None (look_in es) k
  looks-later a [] rise k = both (pointwise nat_eq key k)
    where
      both : (b : Bool) → ◌≡◌ {A = Option Spot} None (cond b None None)
      both true = refl
      both false = refl
  looks-later a (e ∷ es) rise k = looks-first e es k (looks-later e.0 es rise.2 k) (once e.0 es right rise.2)

  pub looks-dropped : (low : List ℕ) (es : List Entry) → RiseFrom low es right → (k : List ℕ) → look_in (drop_key key es) k ≡ with_at key None (look_in es) k
  looks-dropped low [] rise k = looks-later low [] tt k
  looks-dropped low (e ∷ es) rise k = looks-first e es k (looks-later e.0 es rise.2 k) (once e.0 es right rise.2)

  sooner : (a b : List ℕ) (es : List Entry) → is_before a b ≡ true → RiseBehind b es right → RiseBehind a es right
  sooner a b [] h rise = tt
  sooner a b (x ∷ xs) h rise = (before-trans a b x.0 h (before-upto b x.0 rise.0), rise.1, rise.2)

  rises-later : (a : List ℕ) (es : List Entry) → RiseBehind a es right → RiseBehind a (drop_key key es) right
  rises-later a [] rise = tt
  rises-later a (e ∷ es) rise = of (pointwise nat_eq e.0 key) refl (rises-later e.0 es rise.2)
    where
      of : (b : Bool) → pointwise nat_eq e.0 key ≡ b → RiseBehind e.0 (drop_key key es) right → RiseBehind a (drop_key key (e ∷ es)) right
      of true it later = subst (λ b. RiseBehind a (cond b es (e ∷ drop_key key es)) right) (sym it) (sooner a e.0 es rise.0 rise.2)
      of false it later = subst (λ b. RiseBehind a (cond b es (e ∷ drop_key key es)) right) (sym it) (rise.0, rise.1, later)

  from-later : (low a : List ℕ) (es : List Entry) → IsUpTo low a → RiseBehind a es right → RiseFrom low es right
  from-later low a [] up rise = tt
  from-later low a (x ∷ xs) up rise = (upto-trans low a x.0 up (before-upto a x.0 rise.0), rise.1, rise.2)

  pub rises-dropped : (low : List ℕ) (es : List Entry) → RiseFrom low es right → RiseFrom low (drop_key key es) right
  rises-dropped low [] rise = tt
  rises-dropped low (e ∷ es) rise = of (pointwise nat_eq e.0 key) refl
    where
      of : (b : Bool) → pointwise nat_eq e.0 key ≡ b → RiseFrom low (drop_key key (e ∷ es)) right
      of true it = subst (λ b. RiseFrom low (cond b es (e ∷ drop_key key es)) right) (sym it) (from-later low e.0 es rise.0 rise.2)
      of false it = subst (λ b. RiseFrom low (cond b es (e ∷ drop_key key es)) right) (sym it) (rise.0, rise.1, rises-later e.0 es rise.2)

-- ---- the text

some_of : (xs ys : List Entry) (o : Option (List Entry)) → o ≡ Some ys → option_map (λ (l : List Entry). xs ++ l) o ≡ Some (xs ++ ys)
some_of xs ys o e = ap (option_map (λ (l : List Entry). xs ++ l)) e

pub without-read : (bytes key : List ℕ) (f : Front) (node : Node) → node_at bytes ≡ Some node → front_at bytes ≡ Some f → (at : ℕ) (rest behind : List ℕ) → IsFoundAt f.count f.body key node.entries at rest behind
    → (head first more text : List ℕ) (n : ℕ) → ((front : List ℕ) → bytes ≡ front ++ f.body → head ≡ front) → ((front : List ℕ) → f.body ≡ front ++ rest → first ≡ front) → n ≡ f.count - 1 → n < 2 ^ 16
    → text ≡ (((take 2 head ++ (little_bytes 2 n ++ drop 4 head)) ++ first) ++ behind) ++ more → node_at text ≡ Some (without key node)
without-read bytes key f node reads front at rest behind found head first more text n cuts_head cuts_first less small made =
    let is = front-text bytes f front in
    let of = front_is bytes node f reads front in
    let whole : List ℕ = f.level ∷ is.has ∷ (is.count ++ is.right) in
    let same : head ≡ whole = cuts_head whole (is.is ∙ ap (λ (r : List ℕ). f.level ∷ is.has ∷ r) (sym (append_assoc is.count is.right f.body))) in
    let first_is : first ≡ found.front = cuts_first found.front found.bytes in
    let right : drop 4 whole ≡ is.right = drop_at is.count is.right 2 is.two in
    let tail : List ℕ = found.front ++ (behind ++ more) in
    let text_is : text ≡ f.level ∷ is.has ∷ (little_bytes 2 n ++ (is.right ++ tail)) =
    made ∙ ap (λ (h : List ℕ). (((take 2 h ++ (little_bytes 2 n ++ drop 4 h)) ++ first) ++ behind) ++ more) same
    ∙ ap (λ (r : List ℕ). f.level ∷ is.has ∷ ((((little_bytes 2 n ++ r) ++ first) ++ behind) ++ more)) right
    ∙ ap (λ (r : List ℕ). f.level ∷ is.has ∷ ((((little_bytes 2 n ++ is.right) ++ r) ++ behind) ++ more)) first_is
    ∙ ap (λ (r : List ℕ). f.level ∷ is.has ∷ r)
    (append_assoc ((little_bytes 2 n ++ is.right) ++ found.front) behind more ∙ append_assoc (little_bytes 2 n ++ is.right) found.front (behind ++ more) ∙ append_assoc (little_bytes 2 n) is.right tail) in
    let few = found.few in
    let count = found.count_is in
    let sum : n ≡ length found.below + (f.count - (at + 1)) = omega arith in
    let read : entries_at n tail ≡ Some (drop_key key node.entries) =
    ap (λ (k : ℕ). entries_at k tail) sum ∙ found.spelled (f.count - (at + 1)) (behind ++ more)
    ∙ some_of found.below found.later (entries_at (f.count - (at + 1)) (behind ++ more)) (entries-more (f.count - (at + 1)) behind found.later found.others more) ∙ ap (λ (l : List Entry). Some l) (sym found.dropped) in
    ap node_at text_is
    ∙ node-text (f.level ∷ is.has ∷ (little_bytes 2 n ++ (is.right ++ tail))) (record f { count = n; body = tail }) (drop_key key node.entries) (is.again n tail small) read
    ∙ ap (λ (l : ℕ). Some (record { level = l; right = f.right; entries = drop_key key node.entries })) (sym of.level)
    ∙ ap (λ (r : Option Entry). Some (record { level = node.level; right = r; entries = drop_key key node.entries })) (sym of.right)

-- it is as long as it was, if it is filled up
pub without-long : (bytes key : List ℕ) (f : Front) (node : Node) → front_at bytes ≡ Some f → (at : ℕ) (rest behind : List ℕ) → IsFoundAt f.count f.body key node.entries at rest behind
    → (head first more text : List ℕ) (n : ℕ) → ((front : List ℕ) → bytes ≡ front ++ f.body → head ≡ front) → ((front : List ℕ) → f.body ≡ front ++ rest → first ≡ front)
    → text ≡ (((take 2 head ++ (little_bytes 2 n ++ drop 4 head)) ++ first) ++ behind) ++ more
    → length more ≡ length bytes - length (((take 2 head ++ (little_bytes 2 n ++ drop 4 head)) ++ first) ++ behind) → length text ≡ length bytes
without-long bytes key f node front at rest behind found head first more text n cuts_head cuts_first made fill =
    let is = front-text bytes f front in
    let whole : List ℕ = f.level ∷ is.has ∷ (is.count ++ is.right) in
    let same : head ≡ whole = cuts_head whole (is.is ∙ ap (λ (r : List ℕ). f.level ∷ is.has ∷ r) (sym (append_assoc is.count is.right f.body))) in
    let first_is : first ≡ found.front = cuts_first found.front found.bytes in
    let right : drop 4 whole ≡ is.right = drop_at is.count is.right 2 is.two in
    let parts : List ℕ = ((take 2 head ++ (little_bytes 2 n ++ drop 4 head)) ++ first) ++ behind in
    let inner : List ℕ = ((little_bytes 2 n ++ is.right) ++ found.front) ++ behind in
    let parts_is : parts ≡ f.level ∷ is.has ∷ inner =
    ap (λ (h : List ℕ). ((take 2 h ++ (little_bytes 2 n ++ drop 4 h)) ++ first) ++ behind) same
    ∙ ap (λ (r : List ℕ). f.level ∷ is.has ∷ (((little_bytes 2 n ++ r) ++ first) ++ behind)) right
    ∙ ap (λ (r : List ℕ). f.level ∷ is.has ∷ (((little_bytes 2 n ++ is.right) ++ r) ++ behind)) first_is in
    let a = ap length parts_is in
    let heads : length (f.level ∷ is.has ∷ inner) ≡ 2 + length inner = omega arith in
    let b = length-append ((little_bytes 2 n ++ is.right) ++ found.front) behind in
    let c = length-append (little_bytes 2 n ++ is.right) found.front in
    let d = length-append (little_bytes 2 n) is.right in
    let e : length (little_bytes 2 n) ≡ 2 = refl in
    let g = ap length is.is in
    let front_long : length (f.level ∷ is.has ∷ (is.count ++ (is.right ++ f.body))) ≡ 2 + length (is.count ++ (is.right ++ f.body)) = omega arith in
    let h = length-append is.count (is.right ++ f.body) in
    let i = length-append is.right f.body in
    let j = ap length found.bytes ∙ length-append found.front rest in
    let k = ap length found.cut ∙ length-append found.raw behind in
    let two = is.two in
    let l = ap length made ∙ length-append parts more in
    omega arith
