-- Transactions as a checkpoint lists them.
use Rattle.std.specs.Prelude.{◌≡◌, ◌⊎◌, ◌<◌, ◌≤◌, ℕ, List, Bool, filter, map, nat_lt, reverse}
use Rattle.shore_model.specs.declared.log_records.LogTxn.{LogTxn}
use Rattle.laws_lives.specs.Views.{IsAmong}
use Rattle.shore_txn.specs.declared.txn.Txn.{Txn}
use Rattle.shore_txn.specs.TxnStates.{listed_state}
use Rattle.shore_txn.specs.Txns.{entries_of, first_of, last_of, number_of, prepare_of, state_of}
use Rattle.shore_txn.specs.UndoEntries.{first_number}

-- its entry in the table of a checkpoint: the newest of its changes is to be undone next
abbrev pub entry_of : Txn → LogTxn
entry_of t = record {
  txn = number_of t;
  state = listed_state (state_of t);
  first = first_of t;
  last = last_of t;
  undo_next = first_number (reverse (entries_of t));
  prepare = prepare_of t;
}

-- it has logged a record
abbrev pub has_logged : Txn → Bool
has_logged t = nat_lt 0 (first_of t)

-- the entries of those that have logged a record
abbrev pub entries_logged : List Txn → List LogTxn
entries_logged ts = map entry_of (filter has_logged ts)

-- it has logged a record, and its first has this number
abbrev pub BeginsAt : ℕ → Txn → Type 0
BeginsAt first t = (0 < first_of t) × (first_of t ≡ first)

-- The least of the first numbers of those that have logged a record: it is one of them. It is 0 if none has.
pub record IsLeastFirst (ts : List Txn) (least : ℕ) : Type 0 where
  pub below : (t : Txn) → IsAmong t ts → 0 < first_of t → (0 < least) × (least ≤ first_of t)
  pub one : (least ≡ 0) ⊎ ((t : Txn) × IsAmong t ts × BeginsAt least t)

-- the log is kept from its first record on: no other that has logged a record has logged one before it
pub record IsOldest (t : Txn) (ts : List Txn) : Type 0 where
  pub there : IsAmong t ts
  pub logged : 0 < first_of t
  pub least : (u : Txn) → IsAmong u ts → 0 < first_of u → first_of t ≤ first_of u
