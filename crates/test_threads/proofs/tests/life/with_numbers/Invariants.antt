use Rattle.std.specs.Arc.{arc_value}
use Rattle.shore_core.specs.Cores.{geometry_of}
use Rattle.shore_disk.specs.Device.{size}
use Rattle.shore_disk.specs.MemDisk.{history_of}
use Rattle.shore_log.specs.Settled.{cut_of_log, records_of_log}
use Rattle.test_threads.proofs.tests.life.with_numbers.Given as goal

abbrev pub ghosts-with_names-B-Ledger : goal.ghosts-with_names-B-Ledger
ghosts-with_names-B-Ledger g a = record { name = a.queued.opened.blank.name; parts = a.queued.opened.blank.parts }

abbrev pub ghosts-with_names-B-Queued : goal.ghosts-with_names-B-Queued
ghosts-with_names-B-Queued g a = record { queue = (arc_value a.queued.channel).queue }

-- nothing is promised of devices: it is a test
abbrev pub ghosts-with_names-B-Named : goal.ghosts-with_names-B-Named
ghosts-with_names-B-Named g a =
    let o = a.queued.opened in record {
      table = o.words.table.shared.table_id;
      all = o.blank.parts;
      cut = cut_of_log o.log;
      before = records_of_log o.log;
      geometry = geometry_of o.core;
      log_bytes = size (history_of o.log.device);
      honest = λ start. ⊥;
    }
