use Rattle.shore_prog.proofs.forcing.flush.Goals as goal

pub returns-in-Nothing : goal.returns-in-Nothing
returns-in-Nothing c = (_, c.in-Nothing.ensures)
