use Rattle.laws_lives.proofs.DoubtsShown.{told_is_shown}
use Rattle.laws_lives.proofs.LogDecisions.{event_decides, event_midst, open_decides, prefix_decides}
use Rattle.laws_lives.proofs.LogPrefixes.{tells_opening}
use Rattle.std.proofs.Common.{take}
use Rattle.laws_lives.proofs.sessions.log_prefixes_tell_decision_prefixes.Goals as goal

pub returns-clause-open : goal.returns-clause-open
returns-clause-open c o log opening stand = open_decides o log opening stand

pub returns-clause-each : goal.returns-clause-each
returns-clause-each c base o es old new e log k agree l t d moves = event_decides base o es old new e log k agree l t d moves

pub returns-clause-midst : goal.returns-clause-midst
returns-clause-midst c base o es old new e log k agree l t d moves none = event_midst base o es old new e log k agree l t d moves none

pub returns-clause-prefix : goal.returns-clause-prefix
returns-clause-prefix c base o es log n d least most =
    let h = prefix_decides base o es log n d least most in (h.0, h.1, h.2, tells_opening base o es (take n log) h.2)

pub returns-clause-shown : goal.returns-clause-shown
returns-clause-shown c base o es log lawful h = told_is_shown base o es log lawful h
