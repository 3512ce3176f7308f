use Rattle.shore_core.specs.Cores.{first_of}
use Rattle.test_threads.proofs.tests.life.live.Given as goal

abbrev pub ghosts-with_numbers : goal.ghosts-with_numbers
ghosts-with_numbers g a = record { first_number = first_of a.opened.core }
