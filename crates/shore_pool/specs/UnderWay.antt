-- A batch of pages on its way to the volume, of which some of the four syncs are made.
use Rattle.std.specs.Prelude.{◌≡◌, ℕ, List, IsTrue, Option, is_some}
use Rattle.shore_disk.specs.declared.device.Disk.{Ghosts}
use Rattle.shore_dwrite.specs.declared.device.PageDev.{PageDev}
use Rattle.shore_dwrite.specs.Settled.{IsSettled}
use Rattle.shore_dwrite.specs.Shown.{AreTexts, overlaid}
use Rattle.shore_dwrite.specs.UnderWay.{IsOpened, IsPlaced, IsWritten}
use Rattle.shore_pool.specs.declared.amid.Amid.{Amid}
use Rattle.shore_pool.specs.declared.amid.Amid.TheVariants as amid
use Rattle.shore_pool.specs.declared.frame.Frame.{Frame}
use Rattle.shore_types.specs.declared.versions.Version.{Version}
use Rattle.shore_pool.specs.Pages.{HasText}

-- What a volume has that shows these texts of its pages: until the gate is opened as they were, from then on with those of the batch.
abbrev pub HoldsAmid : {D : Type 0} {G : Ghosts D} → Amid → PageDev D G → List ℕ → (ℕ → List ℕ) → List ℕ → List ℕ → Type 0
HoldsAmid amid.Rest dev front disk numbers texts = IsSettled dev front disk
HoldsAmid amid.Written dev front disk numbers texts = IsWritten dev front disk numbers texts
HoldsAmid amid.Opened dev front disk numbers texts = (pages : ℕ → List ℕ) × IsOpened dev front pages numbers texts × (disk ≡ overlaid dev.geometry.version numbers texts pages)
HoldsAmid amid.Placed dev front disk numbers texts = (pages : ℕ → List ℕ) × IsPlaced dev front pages numbers texts × (disk ≡ overlaid dev.geometry.version numbers texts pages)

-- What frames keep of it meanwhile. Until its gate is opened they are as its images: who changes one gives the batch up. From then on, until its images are in
-- place, each of its pages has a frame, since what stands in its place may be old.
abbrev pub AreHeld : Version → Amid → (ℕ → Option Frame) → List ℕ → List ℕ → Type 0
AreHeld v amid.Rest at numbers texts = Unit {0}
AreHeld v amid.Written at numbers texts = AreTexts v (HasText at) numbers texts
AreHeld v amid.Opened at numbers texts = AreTexts v (λ k text. IsTrue (is_some (at k))) numbers texts
AreHeld v amid.Placed at numbers texts = Unit {0}
