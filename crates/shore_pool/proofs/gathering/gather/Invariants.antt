use Rattle.std.proofs.Common.{◌≡◌, take}
use Rattle.shore_dwrite.specs.Images.{HasRoomFor, numbers_of, texts_of, version_of}
use Rattle.shore_types.specs.declared.layout.TheConstants.{MAX_BATCH_PAGES}
use Rattle.shore_dwrite.specs.Shown.{AreTexts}
use Rattle.shore_pool.specs.FrameMaps.{frame_at}
use Rattle.shore_pool.specs.Pages.{HasText}
use Rattle.shore_pool.proofs.gathering.gather.Given as goal

abbrev pub invariant-loop-i : goal.invariant-loop-i
invariant-loop-i l = (numbers_of l.batch ≡ take l.i l.numbers) × AreTexts (version_of l.batch) (HasText (frame_at l.frames)) (take l.i l.numbers) (texts_of l.batch) × HasRoomFor l.batch MAX_BATCH_PAGES
    × (version_of l.batch ≡ version_of l.fn.batch)
