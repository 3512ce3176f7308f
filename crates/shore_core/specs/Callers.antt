-- Who calls, and about which transaction: the one at a seat is the caller's own, or one that it resolves.
use Rattle.std.specs.Prelude.{◌≡◌, ◌≢◌, ◌⊎◌, ℕ, List, None, false}
use Rattle.shore_types.specs.declared.faults.Fault.{Fault}
use Rattle.shore_types.specs.declared.faults.Fault.TheVariants as fault
use Rattle.shore_model.specs.declared.rollbacks.Rollback.{Rollback}
use Rattle.shore_model.specs.declared.rollbacks.Rollback.TheVariants.{Whole}
use Rattle.laws_lives.specs.Sessions.{SessionTxn}
use Rattle.laws_calls.specs.Resolves.{IsRollingBack, MayResolve}
use Rattle.laws_calls.specs.States.{HasPrepared, IsOfSession, State}
use Rattle.shore_txn.specs.Transactions.{AtSeat}
use Rattle.shore_txn.specs.TxnStates.{is_in_doubt}
use Rattle.shore_txn.specs.Txns.{IsOf, state_of}
use Rattle.shore_txn.specs.declared.seat.Seat.{Seat}
use Rattle.shore_txn.specs.declared.transactions.Transactions.{Transactions}
use Rattle.shore_sessions.specs.Seated.{CanResolve}

-- ---- the transaction at a seat

-- the session that calls is in it
abbrev pub IsOfCaller : Seat → Transactions → Type 0
IsOfCaller seat table = AtSeat seat table (IsOf seat.session)

-- it is not in doubt, so it may be rolled back
abbrev pub IsNotInDoubt : Seat → Transactions → Type 0
IsNotInDoubt seat table = AtSeat seat table (λ t. is_in_doubt (state_of t) ≡ false)

-- a resolve of the global id may decide it, or goes on with its rollback
abbrev pub IsToResolve : Seat → Transactions → State → List ℕ → Type 0
IsToResolve seat table s global = AtSeat seat table (λ t. CanResolve s t global)

-- ---- what its session may do

-- the session's transaction takes no more than what ends its rollback, which has begun; or it is prepared
abbrev pub IsNotOpen : State → ℕ → Fault → Type 0
IsNotOpen s session f =
    ((f ≡ fault.MustAbort) × ((a : SessionTxn) × IsOfSession s session a × (a.undo.rolling ≢ None))) ⊎ ((f ≡ fault.IsPrepared) × HasPrepared s session)

-- A call of the session may put the transaction's changes back in this rollback: the transaction is its own, or the call is a resolve that has decided so.
abbrev pub MayPutBack : State → ℕ → SessionTxn → Rollback → Type 0
MayPutBack s session a rollback =
    IsOfSession s session a ⊎ ((global : List ℕ) × MayResolve s session global × IsRollingBack s a global × (rollback ≡ Whole))
