-- What an Anchor record says of its checkpoint.
use Rattle.laws_checkpoints.specs.Checkpoints.{Checkpoint, cut_point}
use Rattle.shore_check.specs.declared.stage.Mark.{Mark}

abbrev pub mark_of : Checkpoint → Mark
mark_of c = record { checkpoint = c.begin; tail = cut_point c }
