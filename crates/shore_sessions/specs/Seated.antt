-- How a transaction of the table is that of its session, whether it is in doubt, and what a resolve has decided of it.
use Rattle.std.specs.Prelude.{◌≡◌, ◌==◌, ◌||◌, ◌⊎◌, ℕ, zero, suc, List, [], Bool, Option, None, Some, false, is_some, not, true, unwrap_or}
use Rattle.std.specs.List.{filter_map}
use Rattle.shore_model.specs.declared.calls.Outcome.TheVariants.{Abort}
use Rattle.shore_model.specs.declared.sessions.SessionState.{SessionState}
use Rattle.laws_lives.specs.Sessions.{ResolvedTxn, Sessions, in_use}
use Rattle.laws_lives.specs.Views.{IsAmong}
use Rattle.laws_calls.specs.Resolves.{IsResolvable, IsRollingBack}
use Rattle.laws_calls.specs.States.{State}
use Rattle.shore_txn.specs.Transactions as table
use Rattle.shore_txn.specs.TxnStates.{is_in_doubt}
use Rattle.shore_txn.specs.Txns.{IsOf, as_session_txn, decided_of, global_of, number_of, state_of}
use Rattle.shore_txn.specs.declared.transactions.Transactions.{Transactions}
use Rattle.shore_txn.specs.declared.txn.Txn.{Txn}

-- ---- whose it is

-- the state of the session that is in it: prepared, from its Prepare on
abbrev pub seat_as : Txn → SessionState
seat_as t = record { txn = number_of t; prepared = is_in_doubt (state_of t) }

-- The session that is in it, if one is, is in it by the sessions too, and no other is.
pub record IsSeated (s : Sessions) (t : Txn) : Type 0 where
  pub own : t.is_seated ≡ true → s.seats t.session ≡ seat_as t
  pub alone : (n : ℕ) → (s.seats n).txn ≡ number_of t → IsOf n t

-- ---- what is decided of it

-- a resolve has decided that it is rolled back
abbrev pub is_rolled : Txn → Bool
is_rolled t = not (decided_of t == 0)

-- It has a name if it is in doubt, or a resolve has decided that it is rolled back: then no session is in it, and it is in doubt no more.
pub record IsNamed (t : Txn) : Type 0 where
  pub named : is_some (global_of t) ≡ (is_in_doubt (state_of t) || is_rolled t)
  pub left : is_rolled t ≡ true → (t.is_seated ≡ false) × (is_in_doubt (state_of t) ≡ false)

-- .. as the sessions have it, by the number of its Rollback decided
abbrev pub rolled_as : ℕ → List ℕ → ℕ → Option ResolvedTxn
rolled_as number name zero = None
rolled_as number name (suc lsn) = Some record { txn = number; global = name; outcome = Abort }

abbrev pub as_rolled : Txn → Option ResolvedTxn
as_rolled t = rolled_as (number_of t) (unwrap_or (global_of t) []) (decided_of t)

-- those of the table, the newest first
abbrev pub rolled_in : Transactions → List ResolvedTxn
rolled_in txns = filter_map as_rolled (table.txns_in txns)

-- ---- by its name

-- no global id is in use for two transactions
abbrev pub NamesDiffer : Sessions → Type 0
NamesDiffer s = (p q : ℕ × List ℕ) → IsAmong p (in_use s) → IsAmong q (in_use s) → p.1 ≡ q.1 → p.0 ≡ q.0

-- a resolve of the global id may decide it, or goes on with its rollback
abbrev pub CanResolve : State → Txn → List ℕ → Type 0
CanResolve s t global =
    ((is_in_doubt (state_of t) ≡ true) × IsResolvable s (as_session_txn t) global)
    ⊎ ((is_in_doubt (state_of t) ≡ false) × IsRollingBack s (as_session_txn t) global)
