use Rattle.laws_calls.proofs.SessionTells.{session_crash_keeps, session_crash_opens}
use Rattle.laws_calls.proofs.laws.crash_keeps_acknowledged_commits.Goals as goal

pub returns-clause-kept : goal.returns-clause-kept
returns-clause-kept d o found es s n k h = session_crash_keeps o found es s k n h

pub returns-clause-opens : goal.returns-clause-opens
returns-clause-opens d o found es s n k h = session_crash_opens o found es s k n h
