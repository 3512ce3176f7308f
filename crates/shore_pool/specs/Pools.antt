-- What a pool holds over a volume, and what a call leaves of both.
use Rattle.std.specs.Prelude.{Contains, ◌≡◌, ◌≢◌, ◌⊎◌, ◌<◌, Bool, ℕ, List, Option, Some, None, IsSomeAnd, option_map}
use Rattle.shore_disk.specs.Device.{DeviceHistory}
use Rattle.shore_disk.specs.declared.device.Disk.{Ghosts}
use Rattle.shore_types.specs.declared.ids.PageId.{PageId}
use Rattle.shore_types.specs.declared.layout.Geometry.{Geometry}
use Rattle.shore_types.specs.Images.{Image}
use Rattle.shore_dwrite.specs.declared.device.PageDev.{PageDev}
use Rattle.shore_dwrite.specs.Settled as device
use Rattle.shore_dwrite.specs.Images.{numbers_of, texts_of}
use Rattle.shore_dwrite.specs.Shown.{ShowsBehind}
use Rattle.shore_dwrite.specs.Volumes.{page_number}
use Rattle.shore_pool.specs.declared.amid.Amid.{Amid}
use Rattle.shore_pool.specs.declared.amid.Amid.TheVariants as amid
use Rattle.shore_pool.specs.declared.frame.Frame.{Frame}
use Rattle.shore_pool.specs.declared.pool.Pool.{Pool}
use Rattle.shore_pool.specs.Changes.{settled}
use Rattle.shore_pool.specs.FrameMaps as frames
use Rattle.shore_pool.specs.FrameMaps.{AllDirty, IsChangedFirst, IsDue}
use Rattle.shore_pool.specs.Pages.{AreUpTo, AreWritten, IsPage, MayBeLeft, SamePages, StayUnwritten}
use Rattle.shore_pool.specs.UnderWay.{AreHeld, HoldsAmid}

abbrev pub geometry_of : {D : Type 0} {G : Ghosts D} → Pool D G → Geometry
geometry_of pool = device.geometry_of pool.device

abbrev pub device_of : {D : Type 0} {G : Ghosts D} → Pool D G → PageDev D G
device_of pool = pool.device

abbrev pub history_of : {D : Type 0} {G : Ghosts D} → Pool D G → DeviceHistory
history_of {G = G} pool = G.history (device.device_of pool.device)

-- whether what is said of the device's bytes holds of it
abbrev pub honesty_of : {D : Type 0} {G : Ghosts D} → Pool D G → Bool
honesty_of {G = G} pool = G.is_honest (device.device_of pool.device)

abbrev pub faults_of : {D : Type 0} {G : Ghosts D} → Pool D G → ℕ
faults_of {G = G} pool = G.faults (device.device_of pool.device)

-- the frame of the page of a number on the volume
abbrev pub frame_at : {D : Type 0} {G : Ghosts D} → Pool D G → ℕ → Option Frame
frame_at pool k = frames.frame_at pool.frames k

-- .. and of a page
abbrev pub frame_of : {D : Type 0} {G : Ghosts D} → Pool D G → PageId → Option Frame
frame_of pool id = frame_at pool (page_number (geometry_of pool) id)

-- how many pages have frames, and how many may have one
abbrev pub count_of : {D : Type 0} {G : Ghosts D} → Pool D G → ℕ
count_of pool = frames.count_of pool.frames

abbrev pub limit_of : {D : Type 0} {G : Ghosts D} → Pool D G → ℕ
limit_of pool = frames.limit_of pool.frames

-- how far its batch is, if one is under way, and the batch: the numbers of its pages, and their texts as they were when it began
abbrev pub amid_of : {D : Type 0} {G : Ghosts D} → Pool D G → Amid
amid_of pool = pool.amid

abbrev pub batch_of : {D : Type 0} {G : Ghosts D} → Pool D G → List ℕ
batch_of pool = numbers_of pool.batch

abbrev pub batch_texts_of : {D : Type 0} {G : Ghosts D} → Pool D G → List ℕ
batch_texts_of pool = texts_of pool.batch

-- The volume shows these texts of its pages behind this front, with the batch that is under way, and what is clean in the pool is among them.
pub record PoolHolds {D : Type 0} {G : Ghosts D} (pool : Pool D G) (front : List ℕ) (disk : ℕ → List ℕ) : Type 0 where
  pub settled : HoldsAmid pool.amid pool.device front disk (batch_of pool) (batch_texts_of pool)
  pub written : AreWritten (frame_at pool) disk
  pub held : AreHeld (geometry_of pool).version pool.amid (frame_at pool) (batch_of pool) (batch_texts_of pool)

-- a page in place, over these texts: its number and what is in its slots
abbrev pub HasInPlace : {D : Type 0} {G : Ghosts D} → Pool D G → (ℕ → List ℕ) → PageId → ℕ → List Image → Type 0
HasInPlace pool disk id number images =
    let k = page_number (geometry_of pool) id in
    IsPage (geometry_of pool).version (frame_at pool k) (disk k) id number images

-- What a call leaves that may have written pages back: all pages in place are what they were, and on the volume each is as it was, or
-- as it was in its frame, with a number up to this one. A page that is still dirty was not written: so what was written is dirty no more.
pub record WroteBack {D : Type 0} {G : Ghosts D} (old new : Pool D G) (durable : ℕ) (front : List ℕ) (disk : ℕ → List ℕ) : Type 0 where
  pub left : ℕ → List ℕ
  pub holds : PoolHolds new front left
  pub may : MayBeLeft (frame_at old) durable disk left
  pub same : SamePages (geometry_of old).version (frame_at old) disk (frame_at new) left
  pub unwritten : StayUnwritten (frame_at old) disk (frame_at new) left

-- .. and an image of the volume that a crash leaves in the midst of it: it shows such pages behind the same front
abbrev pub LeavesPages : {D : Type 0} {G : Ghosts D} → Pool D G → ℕ → List ℕ → (ℕ → List ℕ) → List ℕ → Type 0
LeavesPages pool durable front disk image = (left : ℕ → List ℕ) × ShowsBehind (geometry_of pool) front left image × MayBeLeft (frame_at pool) durable disk left

-- A frame is needed, and no page may leave its own: there is no clean one, and each has a number above this one. One has this number.
pub record NeedsForce {D : Type 0} {G : Ghosts D} (pool : Pool D G) (durable number : ℕ) : Type 0 where
  pub above : durable < number
  pub one : (k : ℕ) × IsSomeAnd (frame_at pool k) (λ f. f.page.number ≡ number)
  pub all : (k : ℕ) (f : Frame) → frame_at pool k ≡ Some f → (f.recovery ≢ None) × (durable < f.page.number)

-- a frame keeps its page and its claims, though it may have become clean, or it went
abbrev pub StaysOrGoes : Option Frame → Option Frame → Type 0
StaysOrGoes at now = (now ≡ at) ⊎ (now ≡ option_map settled at) ⊎ (now ≡ None)

-- so does each
abbrev pub StayOrGo : {D : Type 0} {G : Ghosts D} → Pool D G → Pool D G → Type 0
StayOrGo old new = (k : ℕ) → StaysOrGoes (frame_at old k) (frame_at new k)

-- A frame may be freed: it is clean; or none is clean, and of the pages with numbers up to this one its own was changed first.
abbrev pub MayBeFreed : {D : Type 0} {G : Ghosts D} → Pool D G → ℕ → Frame → Type 0
MayBeFreed pool durable f = (f.recovery ≡ None) ⊎ (AllDirty pool.frames × IsDue durable f × IsChangedFirst pool.frames durable f)

-- each frame that went was one of these
abbrev pub FreesInOrder : {D : Type 0} {G : Ghosts D} → Pool D G → Pool D G → ℕ → Type 0
FreesInOrder old new durable = (k : ℕ) (f : Frame) → frame_at old k ≡ Some f → frame_at new k ≡ None → MayBeFreed old durable f

-- the volume was written only if no frame was clean
abbrev pub WritesIfAllDirty : {D : Type 0} {G : Ghosts D} → Pool D G → Pool D G → Type 0
WritesIfAllDirty old new = (history_of new ≡ history_of old) ⊎ AllDirty old.frames

-- a batch goes on: neither it nor how far it is has changed
pub record KeepsBatch {D : Type 0} {G : Ghosts D} (old new : Pool D G) : Type 0 where
  pub amid : amid_of new ≡ amid_of old
  pub batch : batch_of new ≡ batch_of old

-- .. or it was given up, as nothing of it counted
abbrev pub KeepsBatchOrGivesUp : {D : Type 0} {G : Ghosts D} → Pool D G → Pool D G → Type 0
KeepsBatchOrGivesUp old new = (amid_of new ≡ amid_of old) ⊎ ((amid_of old ≡ amid.Written) × (amid_of new ≡ amid.Rest))

-- a batch under way has a page, its gate is shut, and it may be opened: each of its pages has a durable number
abbrev pub GoesOnWith : {D : Type 0} {G : Ghosts D} → Pool D G → ℕ → ℕ → Type 0
GoesOnWith pool number durable = (amid_of pool ≡ amid.Written) × Contains (batch_of pool) number × AreUpTo (frame_at pool) durable (batch_of pool)
