use Rattle.laws_calls.proofs.WrongResumes.{goes_on_as_call}
use Rattle.laws_calls.proofs.progress.resumed_calls_go_on_as_calls.Goals as goal

pub returns : goal.returns
returns d g o found es s new session w at step k there of is may running quiet h = goes_on_as_call g o found es s k session w there of at is may running quiet step new h
