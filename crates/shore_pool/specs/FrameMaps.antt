-- The frames of a pool as a map from the numbers of pages.
use Rattle.std.specs.Prelude.{◌≡◌, ◌≢◌, ◌⊎◌, ◌<◌, ◌≤◌, ◌++◌, ℕ, zero, suc, List, [], Option, None, Some, Contains, IsSomeAnd, length, option_map, option_to_list, unwrap_or}
use Rattle.shore_model.specs.declared.log_records.DirtyPage.{DirtyPage}
use Rattle.slab.specs.Slab.{get, slab_len}
use Rattle.shore_pool.specs.declared.frame.Frame.{Frame}
use Rattle.shore_pool.specs.declared.frames.Frames.{Frames}
use Rattle.shore_pool.specs.Frames.{frame_in, key_at}

-- the frame of the page of a number
abbrev pub frame_at : Frames → ℕ → Option Frame
frame_at frames k = frame_in frames.slots frames.table.items k

-- .. and the key under which it is kept
abbrev pub key_of : Frames → ℕ → Option ℕ
key_of frames k = key_at frames.table.items k

-- how many there are, and how many there may be
abbrev pub count_of : Frames → ℕ
count_of frames = slab_len frames.slots

abbrev pub limit_of : Frames → ℕ
limit_of frames = frames.limit

-- how many pages the volume has
abbrev pub pages_of : Frames → ℕ
pages_of frames = length frames.table.items

-- as many frames, under the same limit, for the same volume
pub record KeepsShape (old new : Frames) : Type 0 where
  pub count : count_of new ≡ count_of old
  pub limit : limit_of new ≡ limit_of old
  pub pages : pages_of new ≡ pages_of old

abbrev pub SameFrames : Frames → Frames → Type 0
SameFrames old new = (k : ℕ) → frame_at new k ≡ frame_at old k

-- no frame is clean
abbrev pub AllDirty : Frames → Type 0
AllDirty frames = (k : ℕ) (f : Frame) → frame_at frames k ≡ Some f → f.recovery ≢ None

-- a key has no clean frame
abbrev pub IsNotClean : Frames → ℕ → Type 0
IsNotClean frames key = (f : Frame) → get frames.slots key ≡ Some f → f.recovery ≢ None

-- a dirty page with a number up to this one
abbrev pub IsDue : ℕ → Frame → Type 0
IsDue durable f = (f.recovery ≢ None) × (f.page.number ≤ durable)

-- no frame has such a page
abbrev pub NoneDue : Frames → ℕ → Type 0
NoneDue frames durable = (k : ℕ) (f : Frame) → frame_at frames k ≡ Some f → IsDue durable f → ⊥

-- .. nor has that of a key
abbrev pub IsNotDue : Frames → ℕ → ℕ → Type 0
IsNotDue frames durable key = (f : Frame) → get frames.slots key ≡ Some f → IsDue durable f → ⊥

-- .. nor has one of the pages from a number up to another
abbrev pub NoneDueIn : Frames → ℕ → ℕ → ℕ → Type 0
NoneDueIn frames durable from to = (k : ℕ) (f : Frame) → frame_at frames k ≡ Some f → from ≤ k → k < to → IsDue durable f → ⊥

-- the recovery number of a dirty page
abbrev pub recovery_of : Frame → ℕ
recovery_of f = unwrap_or f.recovery 0

-- no page that is due was changed before that of this frame, since each was clean
abbrev pub IsChangedFirst : Frames → ℕ → Frame → Type 0
IsChangedFirst frames durable first = (k : ℕ) (f : Frame) → frame_at frames k ≡ Some f → IsDue durable f → recovery_of first ≤ recovery_of f

-- .. nor was that of a key before this number
abbrev pub IsNotBefore : Frames → ℕ → ℕ → ℕ → Type 0
IsNotBefore frames durable recovery key = (f : Frame) → get frames.slots key ≡ Some f → IsDue durable f → recovery ≤ recovery_of f

-- the frame of a key has this recovery number
abbrev pub HasRecovery : Frames → ℕ → ℕ → Type 0
HasRecovery frames key recovery = (f : Frame) → get frames.slots key ≡ Some f → f.recovery ≡ Some recovery

-- the frame of a key is that of this page
abbrev pub IsOfNumber : Frames → ℕ → ℕ → Type 0
IsOfNumber frames key number = (f : Frame) → get frames.slots key ≡ Some f → f.number ≡ number

-- an entry of the table of dirty pages
abbrev pub dirty_page : Frame → ℕ → DirtyPage
dirty_page f recovery = record { page = f.page.id; recovery = recovery }

-- .. that is right
abbrev pub IsDirtyPage : Frames → DirtyPage → Type 0
IsDirtyPage frames entry = (k : ℕ) × IsSomeAnd (frame_at frames k) (λ f. (f.page.id ≡ entry.page) × (f.recovery ≡ Some entry.recovery))

-- each dirty page has its entry
abbrev pub HasDirty : Frames → List DirtyPage → Type 0
HasDirty frames list = (k : ℕ) (f : Frame) (recovery : ℕ) → frame_at frames k ≡ Some f → f.recovery ≡ Some recovery → Contains list (dirty_page f recovery)

-- the entry of a page in a frame, if it is dirty
abbrev pub dirty_entry : Option Frame → Option DirtyPage
dirty_entry None = None
dirty_entry (Some f) = option_map (dirty_page f) f.recovery

-- those of the first so many pages of the volume
abbrev pub dirty_below : (ℕ → Option Frame) → ℕ → List DirtyPage
dirty_below at zero = []
dirty_below at (suc n) = dirty_below at n ++ option_to_list (dirty_entry (at n))

-- none has a lower recovery number
abbrev pub IsDirtyFirst : Frames → DirtyPage → Type 0
IsDirtyFirst frames entry = (k : ℕ) (f : Frame) (recovery : ℕ) → frame_at frames k ≡ Some f → f.recovery ≡ Some recovery → entry.recovery ≤ recovery

-- .. of the first so many pages of the volume
abbrev pub IsDirtyFirstBelow : Frames → ℕ → DirtyPage → Type 0
IsDirtyFirstBelow frames count entry = (k : ℕ) (f : Frame) (recovery : ℕ) → k < count → frame_at frames k ≡ Some f → f.recovery ≡ Some recovery → entry.recovery ≤ recovery

-- all pages in frames are clean
abbrev pub NoneDirty : Frames → Type 0
NoneDirty frames = (k : ℕ) (f : Frame) → frame_at frames k ≡ Some f → f.recovery ≡ None

-- .. of the first so many pages of the volume
abbrev pub NoneDirtyBelow : Frames → ℕ → Type 0
NoneDirtyBelow frames count = (k : ℕ) (f : Frame) → k < count → frame_at frames k ≡ Some f → f.recovery ≡ None
