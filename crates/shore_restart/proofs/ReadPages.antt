-- The pages that a restart may read.
use Rattle.std.proofs.Common.{◌≡◌, Option, Some, sym, subst}
use Rattle.std.specs.Prelude.{IsSomeAnd}
use Rattle.shore_types.specs.Images.{Image}
use Rattle.shore_types.specs.declared.ids.PageId.{PageId}
use Rattle.shore_types.specs.declared.ids.Rid.{Rid}
use Rattle.shore_model.specs.declared.log_records.LogRecord.{LogRecord}
use Rattle.shore_model.specs.Logs.{image_in}
use Rattle.shore_restart.specs.AnyPages.{IsOnPage}

-- a record with this image is on its page
pub on_page : (r : LogRecord) (e : Rid × Image) (p : PageId) → image_in r.payload ≡ Some e → p ≡ e.0.page → IsOnPage r p
on_page r e p says is = subst (λ (o : Option (Rid × Image)). IsSomeAnd o (λ x. p ≡ x.0.page)) (sym says) is
