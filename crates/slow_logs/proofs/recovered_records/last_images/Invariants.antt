use Rattle.std.proofs.Common.{◌≡◌, take}
use Rattle.shore_model.specs.Logs.{last_images}
use Rattle.slow_logs.proofs.recovered_records.last_images.Given as goal

abbrev pub invariant-loop-record : goal.invariant-loop-record
invariant-loop-record l = l.images ≡ last_images (take l.record-index l.records)
