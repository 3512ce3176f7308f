-- What a log says of those in doubt, under the numbers of their Prepares.
use Rattle.std.specs.Prelude.{◌==◌, ◌+◌, ◌-◌, ℕ, List, Option, None, filter, if◌then◌else◌, not, option_and_then, nat_lt, option_map, slice_get}
use Rattle.shore_types.specs.declared.locking.Granule.{Granule}
use Rattle.shore_model.specs.declared.log_records.LogRecord.{LogRecord}
use Rattle.shore_model.specs.Logs.{is_over}
use Rattle.laws_lives.specs.Doubts.{LoggedDoubt, doubt_of, doubts_in}

-- what the record of this number says, if it is a Prepare
abbrev pub doubt_at : List LogRecord → ℕ → Option LoggedDoubt
doubt_at log n = if n == 0 then None else option_and_then doubt_of (slice_get log (n - 1))

-- its global id and its granules
abbrev pub said_at : List LogRecord → ℕ → Option (List ℕ × List Granule)
said_at log n = option_map (λ d. (d.global, d.granules)) (doubt_at log n)

-- Those in doubt that have not ended. Of a lawful log they are all, and of one of which nothing is cut off and that analysis takes; but where the front of a
-- transaction is cut off, it is not asked whether a Rollback decided comes before its End.
abbrev pub doubts_left : List LogRecord → List LoggedDoubt
doubts_left log = filter (λ d. not (is_over d.txn log)) (doubts_in log)

-- ---- in a log whose first records are cut off

-- what the record of this number says, if it is kept and is a Prepare
abbrev pub kept_doubt_at : ℕ → List LogRecord → ℕ → Option LoggedDoubt
kept_doubt_at cut kept n = if nat_lt cut n then option_and_then doubt_of (slice_get kept (n - (cut + 1))) else None

abbrev pub kept_said_at : ℕ → List LogRecord → ℕ → Option (List ℕ × List Granule)
kept_said_at cut kept n = option_map (λ d. (d.global, d.granules)) (kept_doubt_at cut kept n)
