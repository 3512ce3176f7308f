-- What a flush does to the frames of a pool.
use Rattle.std.specs.Prelude.{◌≡◌, ◌⊎◌, ◌<◌, ℕ, Bool, true, false, List, All, Contains, Some, length, option_map}
use Rattle.shore_disk.specs.declared.device.Disk.{Ghosts}
use Rattle.shore_dwrite.specs.Shown.{RiseFrom}
use Rattle.shore_types.specs.declared.layout.TheConstants.{MAX_BATCH_PAGES}
use Rattle.shore_pool.specs.declared.amid.Amid.{Amid}
use Rattle.shore_pool.specs.declared.amid.Amid.TheVariants as amid
use Rattle.shore_pool.specs.declared.frame.Frame.{Frame}
use Rattle.shore_pool.specs.declared.pool.Pool.{Pool}
use Rattle.shore_pool.specs.Batches.{AreDue}
use Rattle.shore_pool.specs.Changes.{settled}
use Rattle.shore_pool.specs.FrameMaps.{IsDue}
use Rattle.shore_pool.specs.Pages.{AreUpTo}
use Rattle.shore_pool.specs.Pools.{amid_of, batch_of, frame_at}

-- no page is dirty with a number up to this one
abbrev pub NoneDue : {D : Type 0} {G : Ghosts D} → Pool D G → ℕ → Type 0
NoneDue pool durable = (k : ℕ) (f : Frame) → frame_at pool k ≡ Some f → IsDue durable f → ⊥

-- each page that is due is one of these, or these are as many as a batch may have, and all before it
abbrev pub AreFirst : {D : Type 0} {G : Ghosts D} → Pool D G → ℕ → List ℕ → Type 0
AreFirst pool durable numbers = (k : ℕ) (f : Frame) → frame_at pool k ≡ Some f → IsDue durable f
    → Contains numbers k ⊎ ((length numbers ≡ MAX_BATCH_PAGES) × All (λ n. n < k) numbers)

-- So many pages were written, in the order of their numbers on the volume, and are clean now. None only if none was due.
pub record Flushes {D : Type 0} {G : Ghosts D} (old new : Pool D G) (durable count : ℕ) : Type 0 where
  pub pages : List ℕ
  pub count_is : length pages ≡ count
  pub rise : RiseFrom 0 pages
  pub due : AreDue old durable pages
  pub first : AreFirst old durable pages
  pub clean : (k : ℕ) → Contains pages k → frame_at new k ≡ option_map settled (frame_at old k)
  pub others : (k : ℕ) → (Contains pages k → ⊥) → frame_at new k ≡ frame_at old k
  pub none : count ≡ 0 → NoneDue old durable

-- A batch was begun of the first pages that are due. No frame has changed.
pub record Begins {D : Type 0} {G : Ghosts D} (old new : Pool D G) (durable : ℕ) : Type 0 where
  pub amid : amid_of new ≡ amid.Written
  pub rise : RiseFrom 0 (batch_of new)
  pub due : AreDue old durable (batch_of new)
  pub first : AreFirst old durable (batch_of new)
  pub frames : (k : ℕ) → frame_at new k ≡ frame_at old k

-- Its gate was opened: its pages are written, and clean, and no other frame has changed.
pub record Opens {D : Type 0} {G : Ghosts D} (old new : Pool D G) (durable : ℕ) : Type 0 where
  pub amid : amid_of new ≡ amid.Opened
  pub batch : batch_of new ≡ batch_of old
  pub durable_all : AreUpTo (frame_at old) durable (batch_of old)
  pub clean : (k : ℕ) → Contains (batch_of old) k → frame_at new k ≡ option_map settled (frame_at old k)
  pub others : (k : ℕ) → (Contains (batch_of old) k → ⊥) → frame_at new k ≡ frame_at old k

-- It was given up, since a page of it was not durable.
pub record GivesUp {D : Type 0} {G : Ghosts D} (old new : Pool D G) (durable : ℕ) : Type 0 where
  pub amid : amid_of new ≡ amid.Rest
  pub ahead : AreUpTo (frame_at old) durable (batch_of old) → ⊥
  pub frames : (k : ℕ) → frame_at new k ≡ frame_at old k

-- It has come so far, and no frame has changed.
pub record ComesTo {D : Type 0} {G : Ghosts D} (old new : Pool D G) (far : Amid) : Type 0 where
  pub amid : amid_of new ≡ far
  pub batch : batch_of new ≡ batch_of old
  pub frames : (k : ℕ) → frame_at new k ≡ frame_at old k

-- What a turn of a flush does, by how far the batch was. It has something to do unless none is under way and no page is due.
abbrev pub GoesOnFrom : {D : Type 0} {G : Ghosts D} → Amid → Pool D G → Pool D G → ℕ → Bool → Type 0
GoesOnFrom amid.Rest old new durable made = ((made ≡ true) × Begins old new durable) ⊎ ((made ≡ false) × NoneDue old durable × (new ≡ old))
GoesOnFrom amid.Written old new durable made = (made ≡ true) × (Opens old new durable ⊎ GivesUp old new durable)
GoesOnFrom amid.Opened old new durable made = (made ≡ true) × ComesTo old new amid.Placed
GoesOnFrom amid.Placed old new durable made = (made ≡ true) × ComesTo old new amid.Rest

abbrev pub GoesOn : {D : Type 0} {G : Ghosts D} → Pool D G → Pool D G → ℕ → Bool → Type 0
GoesOn old new durable made = GoesOnFrom (amid_of old) old new durable made
