use Rattle.laws_heaps.proofs.LoggedLeft.{empty_texts, opened_is, texts_shown}
use Rattle.laws_heaps.proofs.logged.opened_heaps_have_what_was_left.Goals as goal

pub returns-clause-opened : goal.returns-clause-opened
returns-clause-opened g c = opened_is

pub returns-clause-shown : goal.returns-clause-shown
returns-clause-shown g c = texts_shown

pub returns-clause-empty : goal.returns-clause-empty
returns-clause-empty g c = empty_texts
