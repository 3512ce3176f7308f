-- Which session is in which transaction: one that is under way, neither in doubt nor decided by a resolve, is its session's, and a
-- session that is in a transaction is in such a one, or in one that is in doubt.
use Rattle.std.specs.Prelude.{◌≡◌, ◌⊎◌, ◌<◌, ℕ, List, map}
use Rattle.shore_model.specs.declared.sessions.SessionState.{SessionState}
use Rattle.shore_model.specs.Histories.{free}
use Rattle.laws_lives.specs.Sessions.{SessionTxn, Sessions, in_doubt_of, in_prepared, in_txn, resolved_of}
use Rattle.laws_lives.specs.Views.{IsAmong}

abbrev pub seat_of : SessionTxn → ℕ × ℕ
seat_of a = (a.session, a.txn)

-- the session is in the transaction, and it is not prepared
abbrev pub IsIn : List (ℕ × ℕ) → List ℕ → List ℕ → ℕ → ℕ → Type 0
IsIn active doubts resolved n t = IsAmong (n, t) active × (IsAmong t doubts → ⊥) × (IsAmong t resolved → ⊥)

pub record SeatsMatch (seats : ℕ → SessionState) (active : List (ℕ × ℕ)) (doubts resolved : List ℕ) : Type 0 where
  pub own : (n t : ℕ) → IsIn active doubts resolved n t → seats n ≡ in_txn t
  pub above : (n t : ℕ) → IsIn active doubts resolved n t → 0 < t
  pub there : (n : ℕ) → (seats n ≡ free) ⊎ (((t : ℕ) × IsIn active doubts resolved n t) ⊎ ((t : ℕ) × IsAmong t doubts × (seats n ≡ in_prepared t)))
  pub one : (m n : ℕ) → 0 < (seats m).txn → (seats m).txn ≡ (seats n).txn → m ≡ n

abbrev pub HasOwnSeats : Sessions → Type 0
HasOwnSeats s = SeatsMatch s.seats (map seat_of s.active) (in_doubt_of s) (resolved_of s)
