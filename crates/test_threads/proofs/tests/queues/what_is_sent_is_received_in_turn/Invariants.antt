use Rattle.test_threads.proofs.tests.queues.what_is_sent_is_received_in_turn.Given as goal

abbrev pub ghosts-with_numbers : goal.ghosts-with_numbers
ghosts-with_numbers g a = record { first_number = 1 }
