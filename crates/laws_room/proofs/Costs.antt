-- What records cost, by the lengths of their texts.
use Rattle.std.proofs.Common.{◌≡◌, ◌+◌, ℕ, List, length, Some, None, arith}
use Rattle.std.specs.Prelude.{◌*◌}
use Rattle.shore_types.specs.declared.layout.TheConstants.{ENDING_COST}
use Rattle.shore_types.specs.declared.locking.Granule.{Granule}
use Rattle.shore_types.specs.Images.{Image}
use Rattle.shore_types.specs.declared.ids.Rid.{Rid}
use Rattle.shore_model.specs.declared.log_records.Payload.TheVariants.{Change, Compensation}
use Rattle.shore_logrec.specs.Text.{cost_of, image_text}
use Rattle.shore_logrec.proofs.TextLengths.{length-change_text, length-compensation_text, length-image_text, length-prepare_text}
use Rattle.laws_room.specs.LogRooms.{change_cost, compensation_cost, image_cost, prepare_cost}

image_bytes : (image : Image) → length (image_text image) ≡ image_cost image
image_bytes None = length-image_text None
image_bytes (Some bytes) = length-image_text (Some bytes)

pub change_bytes : (id : Rid) (before after : Image) → change_cost before after ≡ cost_of (Change id before after)
change_bytes id before after = omega (arith, length-change_text id before after, image_bytes before, image_bytes after)

pub compensation_bytes : (id : Rid) (image : Image) (undo_next : ℕ) → compensation_cost image ≡ cost_of (Compensation id image undo_next)
compensation_bytes id image undo_next = omega (arith, length-compensation_text id image undo_next, image_bytes image)

pub prepare_bytes : (global : List ℕ) (granules : List Granule) → prepare_cost global granules ≡ ENDING_COST + 5 + length global + 11 * length granules
prepare_bytes global granules = omega (arith, length-prepare_text global granules)
