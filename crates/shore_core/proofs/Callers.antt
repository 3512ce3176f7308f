-- The transaction at a seat is one alone: what holds of it holds of each that has its number.
use Rattle.std.proofs.Common.{◌≡◌, ◌∙◌, sym, ap, subst, arith}
use Rattle.shore_model.specs.declared.sessions.SessionState.{SessionState}
use Rattle.laws_lives.specs.Sessions.{SessionTxn}
use Rattle.laws_lives.specs.Views.{IsAmong}
use Rattle.laws_calls.specs.States.{HasNoTxn, State}
use Rattle.shore_sessions.specs.Controls.{txns_in}
use Rattle.shore_sessions.specs.Standing.{HasControl}
use Rattle.shore_sessions.specs.declared.control.Control.{Control}
use Rattle.shore_sessions.proofs.SeatSteps.{seat_of}
use Rattle.shore_sessions.proofs.Seats.{one_there}
use Rattle.shore_txn.specs.ActiveTxns.{OneBecomes}
use Rattle.shore_txn.specs.Transactions as table
use Rattle.shore_txn.specs.Transactions.{AtSeat, IsSeatIn}
use Rattle.shore_txn.specs.Txns.{IsOf, number_of}
use Rattle.shore_txn.specs.declared.seat.Seat.{Seat}
use Rattle.shore_txn.specs.declared.transactions.Transactions.{Transactions}
use Rattle.shore_txn.specs.declared.txn.Txn.{Txn}
use Rattle.shore_txn.proofs.ActiveSteps.{one_at_number}
use Rattle.shore_txn.proofs.OneOfMany.{among_middle}
use Rattle.shore_txn.proofs.Seats.{seat_has}

pub at_seat : (txns : Transactions) (seat : Seat) (own : Txn) → IsAmong own (table.txns_in txns) → number_of own ≡ seat.txn → (P : Txn → Type 0) → P own → AtSeat seat txns P
at_seat txns seat own among number P holds t m same = subst P (one_at_number (table.txns_in txns) txns.numbers own t among m (number ∙ sym same)) holds

-- .. and of what it has become
pub at_becomes : (old new : Transactions) (seat : Seat) {Becomes : Txn → Txn → Type 0} (one : OneBecomes seat.txn Becomes (table.txns_in old) (table.txns_in new)) → number_of one.after ≡ number_of one.before
    → (P : Txn → Type 0) → P one.after → AtSeat seat new P
at_becomes old new seat one number P holds =
    at_seat new seat one.after (subst (IsAmong one.after) (sym one.is) (among_middle one.newer one.older one.after)) (number ∙ one.txn) P holds

-- the session of a seat is in its transaction, prepared or not
pub seat_taken : (control : Control) (seat : Seat) → IsSeatIn seat (txns_in control) → (s : State) → HasControl control s → AtSeat seat (txns_in control) (IsOf seat.session) → HasNoTxn s seat.session → ⊥
seat_taken control seat seated s was own none =
    let has = seat_has (txns_in control) seat seated in
    let t = one_there (txns_in control) has.0 has.1 in
    let number : number_of t.0 ≡ has.0.txn = ap (λ (a : SessionTxn). a.txn) t.2 in
    let in_it = seat_of (txns_in control) s.sessions was.txns.seats t.0 t.1 seat.session (own t.0 t.1 (number ∙ has.2)) in
    let zero : number_of t.0 ≡ 0 = ap (λ (p : SessionState). p.txn) (sym in_it ∙ none) in
    let some = t.0.some in
    omega (arith, zero, some)
