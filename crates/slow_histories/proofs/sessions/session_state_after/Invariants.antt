use Rattle.std.proofs.Common.{◌≡◌, drop}
use Rattle.shore_model.specs.Histories.{session_state, free}
use Rattle.slow_histories.proofs.sessions.session_state_after.Given as goal

-- the state that the session has with what is left
abbrev pub invariant-loop-entry : goal.invariant-loop-entry
invariant-loop-entry l = session_state l.session l.stands (drop l.entry-index l.entries) ≡ session_state l.session free l.entries
