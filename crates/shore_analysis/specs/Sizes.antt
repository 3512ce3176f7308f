-- How long the images and the global id of a record may be.
use Rattle.std.specs.Prelude.{◌≤◌, length}
use Rattle.shore_types.specs.Images.{image_len}
use Rattle.shore_types.specs.Versions.{record_limit, global_limit}
use Rattle.shore_types.specs.declared.versions.Version.{Version}
use Rattle.shore_model.specs.declared.log_records.Payload.{Payload}
use Rattle.shore_model.specs.declared.log_records.Payload.TheVariants.{Change, Compensation, Commit, End, Prepare, RollbackDecided, CheckpointBegin, CheckpointEnd, Anchor}

-- no longer than the version allows; the codec of records knows no version
abbrev pub HasSizes : Version → Payload → Type 0
HasSizes v (Change id was image) = (image_len was ≤ record_limit v) × (image_len image ≤ record_limit v)
HasSizes v (Compensation id image undo_next) = image_len image ≤ record_limit v
HasSizes v Commit = Unit {0}
HasSizes v End = Unit {0}
HasSizes v (Prepare global granules) = length global ≤ global_limit v
HasSizes v RollbackDecided = Unit {0}
HasSizes v CheckpointBegin = Unit {0}
HasSizes v (CheckpointEnd begin next txns dirty) = Unit {0}
HasSizes v (Anchor checkpoint tail) = Unit {0}
