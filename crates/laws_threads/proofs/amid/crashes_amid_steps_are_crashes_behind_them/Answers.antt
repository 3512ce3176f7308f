use Rattle.laws_threads.proofs.Told.{behind_step}
use Rattle.laws_threads.proofs.amid.crashes_amid_steps_are_crashes_behind_them.Goals as goal

pub returns : goal.returns
returns c g m new e n left step lost = let b = behind_step g m new n left lost e step in (b.other, b.last, b.made, b.lost)
