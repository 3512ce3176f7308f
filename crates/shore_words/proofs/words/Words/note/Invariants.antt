use Rattle.shore_words.proofs.words.Words.note.Given as goal

abbrev pub ghosts-note_picked : goal.ghosts-note_picked
ghosts-note_picked a = record { entry = record { asked = a._asked.now.value; step = a._step.now } }
