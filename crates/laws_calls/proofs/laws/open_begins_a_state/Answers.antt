use Rattle.laws_calls.proofs.SessionOpens.{sessions_after_open}
use Rattle.laws_calls.proofs.laws.open_begins_a_state.Goals as goal

pub returns : goal.returns
returns d o found s opened = sessions_after_open o found s opened
