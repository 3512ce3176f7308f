use Rattle.laws_calls.proofs.WrongAnswers.{insert_above, insert_beyond, insert_elsewhere, insert_left_out, insert_outside, insert_over, insert_too_long, insert_unlockable, insert_unlocked, insert_unlogged, insert_without_place, insert_without_room}
use Rattle.laws_calls.proofs.answers.wrong_inserts_do_not_come.Goals as goal

pub returns-clause-above : goal.returns-clause-above
returns-clause-above d = insert_above

pub returns-clause-unlockable : goal.returns-clause-unlockable
returns-clause-unlockable d = insert_unlockable

pub returns-clause-unlocked : goal.returns-clause-unlocked
returns-clause-unlocked d = insert_unlocked

pub returns-clause-beyond : goal.returns-clause-beyond
returns-clause-beyond d = insert_beyond

pub returns-clause-over : goal.returns-clause-over
returns-clause-over d = insert_over

pub returns-clause-without_room : goal.returns-clause-without_room
returns-clause-without_room d = insert_without_room

pub returns-clause-without_place : goal.returns-clause-without_place
returns-clause-without_place d = insert_without_place

pub returns-clause-too_long : goal.returns-clause-too_long
returns-clause-too_long d = insert_too_long

pub returns-clause-elsewhere : goal.returns-clause-elsewhere
returns-clause-elsewhere d = insert_elsewhere

pub returns-clause-outside : goal.returns-clause-outside
returns-clause-outside d = insert_outside

pub returns-clause-left_out : goal.returns-clause-left_out
returns-clause-left_out d = insert_left_out

pub returns-clause-unlogged : goal.returns-clause-unlogged
returns-clause-unlogged d = insert_unlogged
