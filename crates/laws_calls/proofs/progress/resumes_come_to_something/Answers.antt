use Rattle.laws_calls.proofs.SessionDeciding.{resume_comes_to_something}
use Rattle.laws_calls.proofs.progress.resumes_come_to_something.Goals as goal

pub returns : goal.returns
returns d g o found es s session k roomy = resume_comes_to_something g s session o found es k roomy
