use Rattle.laws_calls.proofs.SessionDeciding.{call_comes_to_something}
use Rattle.laws_calls.proofs.progress.calls_come_to_something.Goals as goal

pub returns : goal.returns
returns d g o found es s session c k roomy = call_comes_to_something g s session o found es k roomy c
