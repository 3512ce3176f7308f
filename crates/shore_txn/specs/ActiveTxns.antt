-- Transactions under way, as a list that has the newest first, and the places of their changes.
use Rattle.std.specs.Prelude.{◌≡◌, ◌/◌, ◌%◌, ◌+◌, ◌++◌, ◌∷◌, [], ℕ, List, Option, None, Some, false, length, map, reverse, slice_get, take, true}
use Rattle.std.specs.Coded.{×_prop, →_prop, Unit-prop}
use Rattle.laws_lives.specs.Sessions.{EachOnce, SessionTxn}
use Rattle.laws_lives.specs.UndoLists.{UndoList}
use Rattle.laws_lives.specs.Views.{IsAmong}
use Rattle.shore_txn.specs.declared.active.ActiveTxn.{ActiveTxn}
use Rattle.shore_txn.specs.declared.claims.TheConstants.{OWN_PLACES}
use Rattle.shore_txn.specs.declared.txn.Txn.{Txn}
use Rattle.shore_txn.specs.declared.txn_state.TxnState.TheVariants as state
use Rattle.shore_txn.specs.declared.undo.UndoEntry.{UndoEntry}
use Rattle.shore_txn.specs.Chains.{IsOfBucket}
use Rattle.shore_txn.specs.Places.{HasLinkRoom, buckets_in}
use Rattle.shore_txn.specs.Txns.{HasEntryRoom, IsOf, as_session_txn, decided_of, entries_of, first_of, global_of, last_of, marks_of, number_of, prepare_of, state_of}
use Rattle.shore_txn.specs.UndoEntries.{image_of}

-- the transactions of a list that has the oldest first: the newest first
abbrev pub txns_of : List ActiveTxn → List Txn
txns_of active = reverse (map (λ a. a.txn) active)

-- .. as the sessions have them
abbrev pub session_txns : List Txn → List SessionTxn
session_txns ts = map as_session_txn ts

abbrev pub undos_of : List ActiveTxn → List SessionTxn
undos_of active = session_txns (txns_of active)

-- no session is in two of them
abbrev pub AreApart : List Txn → Type 0
AreApart ts = (n : ℕ) (t u : Txn) → IsAmong t ts → IsAmong u ts → IsOf n t → IsOf n u → number_of t ≡ number_of u

-- that no element comes twice is a proposition
pub EachOnce-prop : {A : Type 0} (xs : List A) → IsProp (EachOnce xs)
EachOnce-prop [] = Unit-prop
EachOnce-prop (x ∷ xs) = ×_prop (→_prop (λ none. absurd none)) (EachOnce-prop xs)

-- their changes, those of the oldest first
abbrev pub all_changes : List Txn → List UndoEntry
all_changes [] = []
all_changes (t ∷ older) = all_changes older ++ entries_of t

-- ---- one of them changes

-- a transaction that has logged nothing
pub record IsBegun (number who : ℕ) (t : Txn) : Type 0 where
  pub txn : number_of t ≡ number
  pub session : t.session ≡ who
  pub seated : t.is_seated ≡ true
  pub last : last_of t ≡ 0
  pub first : first_of t ≡ 0
  pub entries : entries_of t ≡ []
  pub marks : marks_of t ≡ []
  pub state : state_of t ≡ state.Active
  pub global : global_of t ≡ None
  pub prepare : prepare_of t ≡ 0
  pub decided : decided_of t ≡ 0

-- .. that an open has found, with the number of its first record: no session is in it
pub record IsFound (number since : ℕ) (t : Txn) : Type 0 where
  pub txn : number_of t ≡ number
  pub session : t.session ≡ 0
  pub seated : t.is_seated ≡ false
  pub last : last_of t ≡ 0
  pub first : first_of t ≡ since
  pub entries : entries_of t ≡ []
  pub marks : marks_of t ≡ []
  pub state : state_of t ≡ state.Active
  pub global : global_of t ≡ None
  pub prepare : prepare_of t ≡ 0
  pub decided : decided_of t ≡ 0

-- the transaction of this number is another one then, and all others are as they were
pub record OneBecomes (number : ℕ) (Becomes : Txn → Txn → Type 0) (old new : List Txn) : Type 0 where
  pub newer : List Txn
  pub older : List Txn
  pub before : Txn
  pub after : Txn
  pub was : old ≡ newer ++ before ∷ older
  pub is : new ≡ newer ++ after ∷ older
  pub txn : number_of before ≡ number
  pub becomes : Becomes before after

-- the transaction of this number, with these changes, is taken out, and all others are as they were
pub record OneLeaves (number : ℕ) (changes : List UndoEntry) (old new : List Txn) : Type 0 where
  pub newer : List Txn
  pub older : List Txn
  pub one : Txn
  pub was : old ≡ newer ++ one ∷ older
  pub is : new ≡ newer ++ older
  pub txn : number_of one ≡ number
  pub entries : changes ≡ entries_of one

-- an undo list with one entry more
abbrev pub with_entry : UndoList → UndoEntry → UndoList
with_entry undo e = record { images = undo.images ++ image_of e ∷ []; marks = undo.marks; rolling = undo.rolling }

-- .. with one savepoint more
abbrev pub with_mark : UndoList → UndoList
with_mark undo = record { images = undo.images; marks = undo.marks ++ length undo.images ∷ []; rolling = undo.rolling }

-- .. that is back at a savepoint, as the rollback is complete
abbrev pub back_at : ℕ → UndoList → UndoList
back_at index undo = record { images = undo.images; marks = take (index + 1) undo.marks; rolling = None }

-- one list has what another has, and at some place something more
pub record HasMore {A : Type 0} (more old new : List A) : Type 0 where
  pub front : List A
  pub back : List A
  pub was : old ≡ front ++ back
  pub is : new ≡ front ++ (more ++ back)

-- a change more needs no memory
abbrev pub CanNote : ActiveTxn → Type 0
CanNote a = HasEntryRoom a.txn × HasLinkRoom a.chains

-- ---- places of their changes

-- A place has the index of a transaction in its upper half, and below it the place in the transaction's chains.
abbrev pub txn_index : ℕ → ℕ
txn_index place = place / OWN_PLACES

abbrev pub own_place : ℕ → ℕ
own_place place = place % OWN_PLACES

abbrev pub entries_if : Option ActiveTxn → List UndoEntry
entries_if None = []
entries_if (Some a) = entries_of a.txn

abbrev pub places_if : Option ActiveTxn → List ℕ
places_if None = []
places_if (Some a) = buckets_in a.chains

-- the changes up to a place: those of the older transactions, and those of its own so far
abbrev pub changes_to : List ActiveTxn → ℕ → ℕ → List UndoEntry
changes_to active index own = all_changes (txns_of (take index active)) ++ take own (entries_if (slice_get active index))

-- a place is one of a bucket's, or is none
pub record IsPlace (active : List ActiveTxn) (bucket place : ℕ) : Type 0 where
  pub some : own_place place ≡ 0 → place ≡ 0
  pub chain : IsOfBucket (places_if (slice_get active (txn_index place))) bucket (own_place place)
