-- A transaction of the table that is lent, and what the table is once it has become another.
use Rattle.std.proofs.Common.{◌≡◌, ℕ, List, set, sym, ap, subst, ◌∙◌}
use Rattle.std.specs.List.{HoldsAt, slice_index_or}
use Rattle.laws_lives.specs.Views.{IsAmong}
use Rattle.shore_txn.specs.ActiveTxns.{OneBecomes}
use Rattle.shore_txn.specs.Transactions.{AtSeat, IsSeatIn, txns_in, undos_in}
use Rattle.shore_txn.specs.ActiveTxns as active
use Rattle.shore_txn.specs.Txns.{as_session_txn, number_of}
use Rattle.shore_txn.specs.declared.active.ActiveTxn.{ActiveTxn}
use Rattle.shore_txn.specs.declared.seat.Seat.{Seat}
use Rattle.shore_txn.specs.declared.transactions.Transactions.{Transactions}
use Rattle.shore_txn.specs.declared.txn.Txn.{Txn}
use Rattle.shore_txn.proofs.ActiveLemmas.{IsAt, holds_at, read_at, session_txn_there, txn_there}
use Rattle.shore_txn.proofs.ActiveSteps.{AreKept, becomes_at, before_among, one_at_number}
use Rattle.shore_txn.proofs.Seats.{seat_one}

-- what holds of a table
pub kept_in : (table : Transactions) → AreKept (txns_in table) table.room.reserved table.next
kept_in table = record { sum = table.sum; numbers = table.numbers; sessions = table.sessions; below = table.below }

module _ (table : Transactions) (seat : Seat) (seated : IsSeatIn seat table) (lent : ActiveTxn) (read : lent ≡ slice_index_or table.active.items seat.index lent) where
  pub lent_among : IsAmong lent.txn (txns_in table)
  lent_among =
      let one = seat_one table seat seated in
      subst (λ (a : ActiveTxn). IsAmong a.txn (txns_in table)) (sym (read ∙ read_at one.1 lent)) (txn_there one.1)

  pub lent_there : IsAmong (as_session_txn lent.txn) (undos_in table)
  lent_there =
      let one = seat_one table seat seated in
      subst (λ (a : ActiveTxn). IsAmong (as_session_txn a.txn) (undos_in table)) (sym (read ∙ read_at one.1 lent)) (session_txn_there one.1)

  pub lent_number : number_of lent.txn ≡ seat.txn
  lent_number =
      let one = seat_one table seat seated in
      ap (λ (a : ActiveTxn). number_of a.txn) (read ∙ read_at one.1 lent) ∙ one.2

  pub lent_holds : (P : Txn → Type 0) → AtSeat seat table P → P lent.txn
  lent_holds P holds = holds lent.txn lent_among lent_number

  pub lent_becomes : (b : ActiveTxn) (Becomes : Txn → Txn → Type 0) → Becomes lent.txn b.txn → OneBecomes seat.txn Becomes (txns_in table) (active.txns_of (set table.active.items seat.index b))
  lent_becomes b Becomes becomes =
      let one = seat_one table seat seated in
      becomes_at one.1 b seat.txn Becomes one.2 (subst (λ (a : ActiveTxn). Becomes a.txn b.txn) (read ∙ read_at one.1 lent) becomes)

-- what holds at the index of a seat holds of its transaction
pub seat_holds : (table : Transactions) (seat : Seat) → IsSeatIn seat table → (index : ℕ) → seat.index ≡ index → (P : Txn → Type 0) → HoldsAt (λ a. P a.txn) table.active.items index → AtSeat seat table P
seat_holds table seat seated index same P holds t m number =
    let one = seat_one table seat seated in
    let at = subst (λ i. IsAt table.active.items i one.0) same one.1 in
    subst P (one_at_number (txns_in table) table.numbers one.0.txn t (txn_there one.1) m (one.2 ∙ sym number)) (holds_at at (λ a. P a.txn) holds)

-- the transaction that becomes another is the one at the seat
pub at_before : (table : Transactions) (seat : Seat) {Becomes : Txn → Txn → Type 0} {new : List Txn} (one : OneBecomes seat.txn Becomes (txns_in table) new) (P : Txn → Type 0) → AtSeat seat table P → P one.before
at_before table seat one P holds = holds one.before (before_among one) one.txn
