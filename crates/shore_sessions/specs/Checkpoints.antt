-- What ties the log to the transactions under way, so that a checkpoint may list them.
use Rattle.std.specs.Prelude.{ℕ}
use Rattle.laws_lives.specs.Doubts.{TracksDoubts}
use Rattle.laws_lives.specs.Sessions.{txns_of}
use Rattle.laws_lives.specs.Undo.{IsLoser}
use Rattle.laws_lives.specs.Views.{IsAmong}
use Rattle.laws_lives.specs.WholeLogs.{IsWholeLog}
use Rattle.laws_calls.specs.States.{State}

-- Those in the log that have not ended are the transactions under way, also one that has changed nothing and is rolled back by a resolve; and it has those
-- in doubt that the sessions have.
pub record TellsUnended (s : State) : Type 0 where
  pub whole : IsWholeLog s.log s.sessions
  pub doubts : TracksDoubts s.log s.sessions
  pub losers : (t : ℕ) → IsLoser s.log t → IsAmong t (txns_of s.sessions.active)
