use Rattle.shore_shared.specs.Told.{shown_by}
use Rattle.shore_shared.proofs.clients.done_by.Given as goal

abbrev pub ghosts-done_from : goal.ghosts-done_from
ghosts-done_from g a = record { first = shown_by a.session.ear a.session.seat }
