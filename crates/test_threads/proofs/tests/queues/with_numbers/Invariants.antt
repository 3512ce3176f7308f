use Rattle.std.specs.Arc.{arc_value}
use Rattle.test_threads.proofs.tests.queues.with_numbers.Given as goal

abbrev pub ghosts-with_names : goal.ghosts-with_names
ghosts-with_names g a = record { queue = (arc_value a.channel).queue }
