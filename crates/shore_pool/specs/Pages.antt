-- The pages of a volume as frames and the volume have them together: a page in a frame is the frame's, any other is what the volume has.
use Rattle.std.specs.Prelude.{◌≡◌, ◌≢◌, ◌⊎◌, ◌≤◌, ◌↔◌, ℕ, List, Option, Some, None, IsSomeAnd, All}
use Rattle.shore_types.specs.declared.ids.PageId.{PageId}
use Rattle.shore_types.specs.declared.layout.Geometry.{Geometry}
use Rattle.shore_types.specs.declared.versions.Version.{Version}
use Rattle.shore_types.specs.Images.{Image}
use Rattle.shore_types.specs.Layout.{HasPage}
use Rattle.shore_page.specs.Text.{IsPageText, images_of}
use Rattle.shore_dwrite.specs.Volumes.{page_number}
use Rattle.shore_pool.specs.declared.frame.Frame.{Frame}

-- the bytes are a text of the page in a frame
abbrev pub IsTextOf : Frame → List ℕ → Type 0
IsTextOf f text = IsPageText f.page.version text f.page.id f.page.number (images_of f.page.slots)

-- .. of the page in the frame of a number
abbrev pub HasText : (ℕ → Option Frame) → ℕ → List ℕ → Type 0
HasText at k text = IsSomeAnd (at k) (λ f. IsTextOf f text)

-- a page with this number and these images is in a frame, or has this text
abbrev pub IsPage : Version → Option Frame → List ℕ → PageId → ℕ → List Image → Type 0
IsPage v None text id number images = IsPageText v text id number images
IsPage v (Some f) text id number images = (f.page.id ≡ id) × (f.page.number ≡ number) × (images_of f.page.slots ≡ images)

module _ (at : ℕ → Option Frame) where
  -- each frame has the page of its number, of the volume's version
  abbrev pub AreInOrder : Geometry → Type 0
  AreInOrder g = (k : ℕ) (f : Frame) → at k ≡ Some f → HasPage g f.page.id × (page_number g f.page.id ≡ k) × (f.page.version ≡ g.version)

  -- a clean page is on the volume as it is in its frame, claims aside
  abbrev pub AreWritten : (ℕ → List ℕ) → Type 0
  AreWritten disk = (k : ℕ) (f : Frame) → at k ≡ Some f → f.recovery ≡ None → IsTextOf f (disk k)

  -- Each page of the volume is as it was, or as it is in its frame, with a number up to this one.
  abbrev pub MayBeLeft : ℕ → (ℕ → List ℕ) → (ℕ → List ℕ) → Type 0
  MayBeLeft durable disk left = (k : ℕ) → (left k ≡ disk k) ⊎ IsSomeAnd (at k) (λ f. (f.page.number ≤ durable) × IsTextOf f (left k))

  -- these pages have frames, with numbers up to this one
  abbrev pub AreUpTo : ℕ → List ℕ → Type 0
  AreUpTo durable numbers = All (λ k. IsSomeAnd (at k) (λ f. f.page.number ≤ durable)) numbers

-- a page that is dirty now was so before, in the same frame
abbrev pub WereDirty : (ℕ → Option Frame) → (ℕ → Option Frame) → Type 0
WereDirty at now = (k : ℕ) (f : Frame) → now k ≡ Some f → f.recovery ≢ None → at k ≡ Some f

-- .. and it was not written: the volume has it as it had it
abbrev pub StayUnwritten : (ℕ → Option Frame) → (ℕ → List ℕ) → (ℕ → Option Frame) → (ℕ → List ℕ) → Type 0
StayUnwritten at disk now left = (k : ℕ) (f : Frame) → now k ≡ Some f → f.recovery ≢ None → (at k ≡ Some f) × (left k ≡ disk k)

-- The pages are the same, wherever each of them is: those that have a frame now and those that had one.
abbrev pub SamePages : Version → (ℕ → Option Frame) → (ℕ → List ℕ) → (ℕ → Option Frame) → (ℕ → List ℕ) → Type 0
SamePages v at disk now left = (k : ℕ) (id : PageId) (number : ℕ) (images : List Image) → IsPage v (at k) (disk k) id number images ↔ IsPage v (now k) (left k) id number images
