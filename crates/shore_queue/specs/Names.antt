-- The name of no queue, and what its end is told of a log device.
use Rattle.crossbeam_queue.specs.SegTies.{SegId}
use Rattle.shore_log.specs.declared.tail.Told.{Told}

abbrev pub no_queue : {A : Type 0} → A → SegId A
no_queue a = record { web = (0, 0); heap = a }

-- Nothing: its records wait for no log device.
abbrev pub nothing_told : Told
nothing_told = record { entries = record { held = 0; room = 0 }; texts = record { held = 0; room = 0 }; aside = record { records = 0; bytes = 0 } }
