use Rattle.std.proofs.Common.{◌≡◌, drop, map}
use Rattle.std.specs.Prelude.{filter}
use Rattle.std.specs.List.{filter_map}
use Rattle.std.specs.FinMap.{empty}
use Rattle.shore_model.specs.Records.{overlays}
use Rattle.shore_model.specs.Logs.{records_told, logged_writes, committed_in, is_in_doubt, prepare_of}
use Rattle.slow_logs.proofs.recovered_records.records_told.Given as goal

-- what is found so far, with the writes of those committed that are left
abbrev pub invariant-loop-record : goal.invariant-loop-record
invariant-loop-record l =
    overlays l.found (map (logged_writes l.records) (committed_in (drop l.record-index l.records)))
    ≡ overlays empty (map (logged_writes l.records) (committed_in l.records))

-- what is found so far, with the writes of those in doubt that are left
abbrev pub invariant-loop-record-2 : goal.invariant-loop-record-2
invariant-loop-record-2 l =
    overlays l.found (map (logged_writes l.records) (filter (λ t. is_in_doubt t l.records) (filter_map prepare_of (drop l.record-index l.records))))
    ≡ records_told l.records
