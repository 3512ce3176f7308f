-- The transaction at an index of the table, between older ones and newer ones.
use Rattle.std.proofs.Common.{◌≡◌, inl, inr, ◌<◌, ℕ, zero, suc, List, [], ◌∷◌, ◌++◌, drop, length, map, set, take, reverse, Option, Some, refl, sym, ap, subst, ◌∙◌, arith}
use Rattle.std.specs.List.{All, HoldsAt, slice_get, slice_index_or}
use Rattle.std.specs.Option.{unwrap_or}
use Rattle.std.proofs.Math.Seq.{get_or-append_seam}
use Rattle.std.proofs.lemmas.List.{append_assoc, map-append, reverse-append, reverse-reverse}
use Rattle.std.proofs.lemmas.Option.{get_or_from_slice_get, none-some, slice_get_cases}
use Rattle.laws_lives.specs.Sessions as numbers
use Rattle.laws_lives.specs.Sessions.{EachOnce, SessionTxn}
use Rattle.laws_lives.specs.Views.{IsAmong}
use Rattle.shore_txn.specs.ActiveTxns as active
use Rattle.shore_txn.specs.ActiveTxns.{session_txns, undos_of}
use Rattle.shore_txn.specs.Txns.{as_session_txn, number_of}
use Rattle.shore_txn.specs.declared.active.ActiveTxn.{ActiveTxn}
use Rattle.shore_txn.specs.declared.txn.Txn.{Txn}
use Rattle.shore_txn.proofs.OneOfMany.{among_map, among_middle, among_parts, map_among, map_join, map_parts, once_apart}

-- ---- a list that has the oldest first, and the transactions of it, the newest first

pub txns_parts : (front back : List ActiveTxn) (a : ActiveTxn) → active.txns_of (front ++ a ∷ back) ≡ active.txns_of back ++ a.txn ∷ active.txns_of front
txns_parts front back a =
    let txn : ActiveTxn → Txn = λ a. a.txn in
    ap reverse (map_parts txn front back a) ∙ reverse-append (map txn front) (a.txn ∷ map txn back)
    ∙ ap (λ l. l ++ active.txns_of front) (reverse-append (a.txn ∷ []) (map txn back)) ∙ append_assoc (active.txns_of back) (a.txn ∷ []) (active.txns_of front)

pub txns_join : (front back : List ActiveTxn) → active.txns_of (front ++ back) ≡ active.txns_of back ++ active.txns_of front
txns_join front back =
    let txn : ActiveTxn → Txn = λ a. a.txn in
    ap reverse (map-append txn front back) ∙ reverse-append (map txn front) (map txn back)

-- ---- the one at an index

pub record IsAt (items : List ActiveTxn) (index : ℕ) (a : ActiveTxn) : Type 0 where
  pub is : slice_get items index ≡ Some a
  pub whole : items ≡ take index items ++ a ∷ drop (suc index) items
  pub put : (b : ActiveTxn) → set items index b ≡ take index items ++ b ∷ drop (suc index) items
  pub txns : active.txns_of items ≡ active.txns_of (drop (suc index) items) ++ a.txn ∷ active.txns_of (take index items)

parts_at : (items : List ActiveTxn) (index : ℕ) (a : ActiveTxn) → slice_get items index ≡ Some a
    → (items ≡ take index items ++ a ∷ drop (suc index) items) × ((b : ActiveTxn) → set items index b ≡ take index items ++ b ∷ drop (suc index) items)
parts_at [] index a is = absurd (none-some a is)
parts_at (x ∷ items) zero a is = let same : x ≡ a = ap (λ (o : Option ActiveTxn). unwrap_or o x) is in (ap (λ y. y ∷ items) same, λ b. refl)
parts_at (x ∷ items) (suc index) a is = let rest = parts_at items index a is in (ap (λ l. x ∷ l) rest.0, λ b. ap (λ l. x ∷ l) (rest.1 b))

pub is_at : (items : List ActiveTxn) (index : ℕ) (a : ActiveTxn) → slice_get items index ≡ Some a → IsAt items index a
is_at items index a is = let parts = parts_at items index a is in record {
  is = is;
  whole = parts.0;
  put = parts.1;
  txns = ap active.txns_of parts.0 ∙ txns_parts (take index items) (drop (suc index) items) a;
}

-- an index that is inside has one
pub one_at : (items : List ActiveTxn) (index : ℕ) → index < length items → (a : ActiveTxn) × IsAt items index a
one_at items index inside = elim (slice_get_cases items index).1 [
  | inl has ↦ (has.0, is_at items index has.0 has.2)
  | inr past ↦ absurd (omega (arith, inside, past.0))
]

module _ {items : List ActiveTxn} {index : ℕ} {a : ActiveTxn} (at : IsAt items index a) where
  pub read_at : (d : ActiveTxn) → slice_index_or items index d ≡ a
  read_at d = get_or_from_slice_get items index a d at.is

  pub holds_at : (P : ActiveTxn → Type 0) → HoldsAt P items index → P a
  holds_at P holds = subst P (read_at a) (holds a)

  pub active_there : IsAmong a items
  active_there = subst (IsAmong a) (sym at.whole) (among_middle (take index items) (drop (suc index) items) a)

  pub txn_there : IsAmong a.txn (active.txns_of items)
  txn_there = subst (IsAmong a.txn) (sym at.txns) (among_middle (active.txns_of (drop (suc index) items)) (active.txns_of (take index items)) a.txn)

  pub session_txn_there : IsAmong (as_session_txn a.txn) (undos_of items)
  session_txn_there = among_map as_session_txn a.txn (active.txns_of items) txn_there

-- ---- what holds of each transaction of a list

among_reverse : {A : Type 0} (x : A) (xs : List A) → IsAmong x (reverse xs) → IsAmong x xs
among_reverse x [] m = m
among_reverse {A} x (y ∷ xs) m =
    let parts : reverse (y ∷ xs) ≡ reverse xs ++ y ∷ [] = reverse-append (y ∷ []) xs in
    last (reverse xs) (among_reverse x xs) (subst (IsAmong x) parts m)
  where
    last : (ys : List A) → (IsAmong x ys → IsAmong x xs) → IsAmong x (ys ++ y ∷ []) → IsAmong x (y ∷ xs)
    last [] there (inl is) = inl is
    last [] there (inr none) = absurd none
    last (z ∷ ys) there (inl is) = inr (there (inl is))
    last (z ∷ ys) there (inr m) = last ys (λ n. there (inr n)) m

-- an element is at an index
index_of : {A : Type 0} (x : A) (xs : List A) → IsAmong x xs → (i : ℕ) × (slice_get xs i ≡ Some x) × (i < length xs)
index_of x [] m = absurd m
index_of x (y ∷ xs) (inl is) = (0, ap Some is, omega arith)
index_of x (y ∷ xs) (inr m) = let rest = index_of x xs m in let inside = rest.2 in (suc rest.0, rest.1, omega (arith, inside))

-- a transaction of the list is at an index
pub each_of : (P : Txn → Type 0) (items : List ActiveTxn) → All (λ a. P a.txn) items → (t : Txn) → IsAmong t (active.txns_of items) → P t
each_of P items all t m =
    let txn : ActiveTxn → Txn = λ a. a.txn in
    let a = map_among txn t items (among_reverse t (map txn items) m) in
    let i = index_of a.0 items a.1 in
    subst P (ap txn (get_or_from_slice_get items i.0 a.0 a.0 i.1) ∙ a.2) (all i.0 a.0 i.2)

-- one more, the newest
pub txns_more : (old mid new : List ActiveTxn) (a : ActiveTxn) → new ≡ mid ++ a ∷ [] → mid ≡ old → active.txns_of new ≡ a.txn ∷ active.txns_of old
txns_more old mid new a is same = ap active.txns_of is ∙ txns_parts mid [] a ∙ ap (λ l. a.txn ∷ active.txns_of l) same

-- .. which is at the end
pub read_last : (old mid new : List ActiveTxn) (a : ActiveTxn) (index : ℕ) → new ≡ mid ++ a ∷ [] → mid ≡ old → index ≡ length mid → slice_index_or new index a ≡ a
read_last old mid new a index is same last = ap (λ items. slice_index_or items index a) is ∙ ap (λ n. slice_index_or (mid ++ a ∷ []) n a) last ∙ get_or-append_seam mid a [] a

-- ---- the memory for a change more

reverse_among : {A : Type 0} (x : A) (xs : List A) → IsAmong x xs → IsAmong x (reverse xs)
reverse_among x xs m = among_reverse x (reverse xs) (subst (IsAmong x) (sym (reverse-reverse xs)) m)

pub number_among : (t : Txn) (ts : List Txn) → IsAmong t ts → IsAmong (number_of t) (numbers.txns_of (session_txns ts))
number_among t ts m = among_map (λ (a : SessionTxn). a.txn) (as_session_txn t) (session_txns ts) (among_map as_session_txn t ts m)

module _ {items : List ActiveTxn} {index : ℕ} {a : ActiveTxn} (at : IsAt items index a) (once : EachOnce (numbers.txns_of (undos_of items))) where
  abbrev newer : List Txn
  newer = active.txns_of (drop (suc index) items)

  abbrev older : List Txn
  older = active.txns_of (take index items)

  -- no other has its number
  others : (x : ActiveTxn) → IsAmong x (take index items ++ drop (suc index) items) → number_of x.txn ≡ number_of a.txn → ⊥
  others x m same =
      let number : SessionTxn → ℕ = λ a. a.txn in
      let txn : ActiveTxn → Txn = λ a. a.txn in
      let there : IsAmong x.txn (newer ++ older) =
      subst (IsAmong x.txn) (txns_join (take index items) (drop (suc index) items)) (reverse_among x.txn (map txn (take index items ++ drop (suc index) items)) (among_map txn x (take index items ++ drop (suc index) items) m)) in
      let parts : numbers.txns_of (undos_of items) ≡ numbers.txns_of (session_txns newer) ++ number_of a.txn ∷ numbers.txns_of (session_txns older) =
      ap (λ ts. numbers.txns_of (session_txns ts)) at.txns ∙ ap numbers.txns_of (map_parts as_session_txn newer older a.txn) ∙ map_parts number (session_txns newer) (session_txns older) (as_session_txn a.txn) in
      let joined : numbers.txns_of (session_txns (newer ++ older)) ≡ numbers.txns_of (session_txns newer) ++ numbers.txns_of (session_txns older) =
      ap numbers.txns_of (map_join as_session_txn newer older) ∙ map_join number (session_txns newer) (session_txns older) in
      once_apart (numbers.txns_of (session_txns newer)) (numbers.txns_of (session_txns older)) (number_of a.txn) (subst EachOnce parts once)
      (subst (λ n. IsAmong n (numbers.txns_of (session_txns newer) ++ numbers.txns_of (session_txns older))) same (subst (IsAmong (number_of x.txn)) joined (number_among x.txn (newer ++ older) there)))

  -- so what holds of a transaction at a number is of this one
  pub room_at : (Room : ActiveTxn → Type 0) (b : ActiveTxn) (number : ℕ) → number_of a.txn ≡ number → Room b → (x : ActiveTxn) → IsAmong x (set items index b) → number_of x.txn ≡ number → Room x
  room_at Room b number its room x m same = elim (among_parts x b (take index items) (drop (suc index) items) (subst (IsAmong x) (at.put b) m)) [
    | inl is ↦ subst Room is room
    | inr other ↦ absurd (others x other (same ∙ sym its))
  ]
