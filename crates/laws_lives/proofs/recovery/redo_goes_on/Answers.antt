use Rattle.laws_lives.proofs.Redo.{redo_one}
use Rattle.laws_lives.proofs.recovery.redo_goes_on.Goals as goal

pub returns : goal.returns
returns c rs p n r page at h = redo_one rs p n r at page h
