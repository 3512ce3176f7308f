use Rattle.laws_heaps.proofs.SettledSlots.{frame_number, framed_due, framed_whole}
use Rattle.laws_heaps.proofs.logged.frames_have_what_is_left.Goals as goal

pub returns-clause-number : goal.returns-clause-number
returns-clause-number g c = frame_number

pub returns-clause-due : goal.returns-clause-due
returns-clause-due g c = λ heap disk s p f store kept settled. framed_due heap disk s store settled p f kept

pub returns-clause-whole : goal.returns-clause-whole
returns-clause-whole g c = λ heap disk s p f store kept settled. framed_whole heap disk s store settled p f kept
