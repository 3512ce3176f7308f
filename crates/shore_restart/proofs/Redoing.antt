-- Redo of one record: a page that is fetched, and the record done on it if it is missing there.
use Rattle.std.proofs.Common.{◌≡◌, ◌≤◌, ◌<◌, ◌+◌, ◌-◌, ◌⊎◌, ℕ, List, [], ◌∷◌, ◌++◌, Bool, Option, Some, None, Result, Ok, Err, inl, inr, refl, sym, ap, subst, ◌∙◌, length, take, arith}
use Rattle.std.specs.Prelude.{IsSomeAnd, slice_get}
use Rattle.shore_types.specs.Images.{Image, image_len}
use Rattle.shore_types.specs.Layout.{HasPage, HasSlot}
use Rattle.shore_types.specs.declared.layout.Geometry.{Geometry}
use Rattle.shore_analysis.specs.KeptMeant.{AreMeantKept, SaysInBounds}
use Rattle.shore_analysis.specs.Meant.{Means}
use Rattle.shore_types.specs.declared.ids.PageId.{PageId}
use Rattle.shore_types.specs.declared.ids.Rid.{Rid}
use Rattle.shore_disk.specs.Device.{DeviceHistory, LeavesOnly}
use Rattle.shore_disk.specs.declared.device.Disk.{Ghosts}
use Rattle.shore_model.specs.declared.log_records.LogRecord.{LogRecord}
use Rattle.shore_model.specs.declared.log_records.Payload.{Payload}
use Rattle.shore_model.specs.declared.log_records.Payload.TheVariants as payload
use Rattle.shore_model.specs.Logs.{id_in, image_in}
use Rattle.shore_page.specs.Room.{Fits}
use Rattle.shore_page.specs.Slots.{Slot}
use Rattle.shore_pool.specs.declared.frame.Frame.{Frame}
use Rattle.shore_heap.specs.declared.heap.Heap.{Heap}
use Rattle.shore_heap.specs.Heaps.{frame_of, geometry_of, history_of}
use Rattle.laws_lives.specs.Pages.{redone_on_all}
use Rattle.laws_lives.specs.Recovery.{LeadsTo, RecoveryState, RedoRecord, after_redo}
use Rattle.laws_lives.proofs.Invariant.{event_kept}
use Rattle.laws_runs.specs.SlotCounts.{FitsBehind, slots_left}
use Rattle.laws_checkpoints.specs.RecoveryNumbers.{RecoveryNumbers, recovery_after}
use Rattle.laws_heaps.specs.HeapRecoveries.{HasRecoveries}
use Rattle.laws_heaps.proofs.Noted.{passed_noted, without_noted}
use Rattle.laws_heaps.proofs.Made.{passed_is, without_is}
use Rattle.laws_heaps.proofs.SettledSlots.{frame_number, framed_due}
use Rattle.shore_restart.specs.declared.errors.RestartError.{RestartError}
use Rattle.shore_restart.specs.Errors.{DoesNotFit}
use Rattle.laws_images.specs.Moments.{ShowsLeft}
use Rattle.shore_restart.specs.Standing.{Fetches, Notes, Redoes, Stands}
use Rattle.shore_disk.proofs.Moments.{started}
use Rattle.shore_restart.proofs.Noting.{notes_event, notes_on}
use Rattle.shore_restart.proofs.Paths.{none_lost_on, work_and}
use Rattle.shore_restart.proofs.Standing.{left_by, stands_left}

some_same : {A : Type 0} {o : Option A} {x y : A} → o ≡ Some x → o ≡ Some y → x ≡ y
some_same one two = cc

-- a record that is neither a Change nor a Compensation
abbrev pub IsOfNoImage : Payload → Type 0
IsOfNoImage (payload.Change id before after) = ⊥
IsOfNoImage (payload.Compensation id after undo_next) = ⊥
IsOfNoImage payload.Commit = Unit {0}
IsOfNoImage payload.End = Unit {0}
IsOfNoImage (payload.Prepare global granules) = Unit {0}
IsOfNoImage payload.RollbackDecided = Unit {0}
IsOfNoImage payload.CheckpointBegin = Unit {0}
IsOfNoImage (payload.CheckpointEnd begin next txns dirty) = Unit {0}
IsOfNoImage (payload.Anchor checkpoint tail) = Unit {0}

-- .. has no image
pub no_image : (p : Payload) → IsOfNoImage p → image_in p ≡ None
no_image (payload.Change id before after) none = absurd none
no_image (payload.Compensation id after undo_next) none = absurd none
no_image payload.Commit none = refl
no_image payload.End none = refl
no_image (payload.Prepare global granules) none = refl
no_image payload.RollbackDecided none = refl
no_image payload.CheckpointBegin none = refl
no_image (payload.CheckpointEnd begin next txns dirty) none = refl
no_image (payload.Anchor checkpoint tail) none = refl

-- .. and one that is either has the image behind it
pub has_image : (p : Payload) (id : Rid) (after : Image) → ((before : Image) × (p ≡ payload.Change id before after)) ⊎ ((undo_next : ℕ) × (p ≡ payload.Compensation id after undo_next)) → image_in p ≡ Some (id, after)
has_image p id after (inl change) = ap image_in change.1
has_image p id after (inr compensation) = ap image_in compensation.1

-- the id of a record that means what it has to lies in the geometry
pub id_meant : (g : Geometry) (before : List LogRecord) (t : ℕ) (p : Payload) (id : Rid) → Means g before t p → id_in p ≡ Some id → HasSlot g id
id_meant g before t (payload.Change there was image) id means is = let same : there ≡ id = cc in subst (HasSlot g) same means.0
id_meant g before t (payload.Compensation there image undo_next) id means is = let same : there ≡ id = cc in subst (HasSlot g) same means.0
id_meant g before t payload.Commit id means is = absurd cc
id_meant g before t payload.End id means is = absurd cc
id_meant g before t (payload.Prepare global granules) id means is = absurd cc
id_meant g before t payload.RollbackDecided id means is = absurd cc
id_meant g before t payload.CheckpointBegin id means is = absurd means
id_meant g before t (payload.CheckpointEnd begin next txns dirty) id means is = absurd means
id_meant g before t (payload.Anchor checkpoint tail) id means is = absurd means

-- .. so does that of a record in bounds
pub id_inside : (g : Geometry) (n : ℕ) (p : Payload) (id : Rid) → SaysInBounds g n p → id_in p ≡ Some id → HasSlot g id
id_inside g n (payload.Change there was image) id inside is = let same : there ≡ id = cc in subst (HasSlot g) same inside
id_inside g n (payload.Compensation there image undo_next) id inside is = let same : there ≡ id = cc in subst (HasSlot g) same inside
id_inside g n payload.Commit id inside is = absurd cc
id_inside g n payload.End id inside is = absurd cc
id_inside g n (payload.Prepare global granules) id inside is = absurd cc
id_inside g n payload.RollbackDecided id inside is = absurd cc
id_inside g n payload.CheckpointBegin id inside is = absurd cc
id_inside g n (payload.CheckpointEnd begin next txns dirty) id inside is = absurd cc
id_inside g n (payload.Anchor checkpoint tail) id inside is = absurd cc

pub meant_there : (g : Geometry) (log : List LogRecord) (n : ℕ) (r : LogRecord) (id : Rid) → AreMeantKept g 0 log → slice_get log n ≡ Some r → id_in r.payload ≡ Some id → HasSlot g id
meant_there g log n r id meant at is = id_inside g (0 + 1 + length (take n log)) r.payload id (meant n r at).now.bounds is

module _ {V : Type 0} {H : Ghosts V} where
  -- after a fetch that was answered the heap stands
  pub stood : (front : List ℕ) (old mid : Heap V H) (s : RecoveryState) → (f : Fetches (Ok tt) front old mid s) → (left : ℕ → List ℕ) × Stands front left mid f.later
  stood front old mid s f = elim f.stands [
    | inl refused ↦ absurd cc
    | inr stands ↦ (stands.0, stands.1)
  ]

  -- .. and the recovery numbers are noted
  pub stood_noted : (front : List ℕ) (old mid : Heap V H) (s : RecoveryState) → (f : Fetches (Ok tt) front old mid s) → Notes old mid s f.later
  stood_noted front old mid s f = elim f.stands [
    | inl refused ↦ absurd cc
    | inr stands ↦ stands.2
  ]

  -- the number of a page in a frame
  pub number_is : (front : List ℕ) (disk : ℕ → List ℕ) (heap : Heap V H) (s : RecoveryState) (p : PageId) (n : ℕ) → Stands front disk heap s → HasPage (geometry_of heap) p
      → IsSomeAnd (frame_of heap p) (λ f. n ≡ f.page.number) → n ≡ (s.in_place p).number
  number_is front disk heap s p n stands there is = at (frame_of heap p) refl is
    where
      at : (o : Option Frame) → frame_of heap p ≡ o → IsSomeAnd o (λ f. n ≡ f.page.number) → n ≡ (s.in_place p).number
      at None same none = absurd none
      at (Some f) same number = number ∙ frame_number heap disk s p f stands.store there same

  -- what fits behind the records done fits the frame of a page that has none above them
  pub fits_frame : (front : List ℕ) (disk : ℕ → List ℕ) (heap : Heap V H) (s : RecoveryState) (id : Rid) (bytes n : ℕ) → Stands front disk heap s → HasPage (geometry_of heap) id.page
      → IsSomeAnd (frame_of heap id.page) (λ f. n ≡ f.page.number) → (s.in_place id.page).number ≤ s.redone → Fits (geometry_of heap).version (slots_left (take s.redone s.log) id.page) id.slot bytes
      → IsSomeAnd (frame_of heap id.page) (λ f. Fits (geometry_of heap).version f.page.slots id.slot bytes)
  fits_frame front disk heap s id bytes n stands there is due fits = at (frame_of heap id.page) refl is
    where
      at : (o : Option Frame) → frame_of heap id.page ≡ o → IsSomeAnd o (λ f. n ≡ f.page.number) → IsSomeAnd o (λ f. Fits (geometry_of heap).version f.page.slots id.slot bytes)
      at None same none = absurd none
      at (Some f) same number =
          subst (λ (slots : List Slot). Fits (geometry_of heap).version slots id.slot bytes) (sym (framed_due heap disk s stands.store stands.settled id.page f stands.recoverable there same due)) fits

  module _ (front : List ℕ) (old mid : Heap V H) (s : RecoveryState) (r : LogRecord) (f : Fetches (Ok tt) front old mid s) where
    -- a record that was done on its page
    pub redone_behind : (new : Heap V H) (b : Bool) (left : ℕ → List ℕ) → slice_get s.log s.redone ≡ Some r → LeadsTo f.later RedoRecord (after_redo f.later r) → Stands front left new (after_redo f.later r) → history_of new ≡ history_of mid
        → geometry_of new ≡ geometry_of old → ((recovery : RecoveryNumbers) → HasRecoveries mid recovery → HasRecoveries new (recovery_after f.later RedoRecord recovery)) → Redoes (Ok b) front old new s
    redone_behind new b left next leads stands history same noted = record {
      later = after_redo f.later r;
      work = record {
        works = f.work.works ++ RedoRecord ∷ [];
        work = work_and s f.work.works f.later RedoRecord (after_redo f.later r) f.work.work tt leads;
        loses_none = none_lost_on f.work.works (RedoRecord ∷ []) f.work.loses_none (tt, tt);
        volume = subst (λ (h : DeviceHistory). LeavesOnly (history_of old) h (ShowsLeft (geometry_of old) front s)) (sym history) f.work.volume;
        left = left_by front left old new (after_redo f.later r) same stands;
      };
      log = f.same.log;
      durable = f.same.durable;
      done = (ap (λ (n : ℕ). n + 1) f.same.redone, left, stands);
      notes = notes_on old mid new s f.later (after_redo f.later r) (stood_noted front old mid s f) (notes_event mid new f.later RedoRecord (after_redo f.later r) tt tt leads noted);
      pages = λ x at.
          let it : r ≡ x = some_same next at in
          ap (λ (n : ℕ). redone_on_all (n + 1) r f.later.in_place) f.same.redone ∙ ap (redone_on_all (s.redone + 1) r) f.same.in_place ∙ ap (λ (q : LogRecord). redone_on_all (s.redone + 1) q s.in_place) it;
    }

    next_now : slice_get s.log s.redone ≡ Some r → slice_get f.later.log f.later.redone ≡ Some r
    next_now next = ap (λ (l : List LogRecord). slice_get l f.later.redone) f.same.log ∙ ap (slice_get s.log) f.same.redone ∙ next

    -- .. or that the page has
    pub passed_behind : (b : Bool) (id : Rid) (image : Image) → slice_get s.log s.redone ≡ Some r → image_in r.payload ≡ Some (id, image) → s.redone < (f.later.in_place id.page).number
        → geometry_of mid ≡ geometry_of old → Redoes (Ok b) front old mid s
    passed_behind b id image next says above geometry =
        let is = stood front old mid s f in
        let stands = is.1 in
        let same = f.same.redone in
        let m = passed_is mid is.0 f.later r id image stands.store (next_now next) says (omega (arith, above, same)) in
        redone_behind mid b is.0 next m.0 (record { store = m.1; settled = stands.settled; recoverable = event_kept f.later RedoRecord (after_redo f.later r) stands.recoverable m.0; slots = stands.slots; shows = stands.shows }) refl geometry
        (λ recovery has. passed_noted mid f.later recovery r id image has (next_now next) says (omega (arith, above, same)))

  -- a record that changes no page
  pub redone_without : (front : List ℕ) (disk : ℕ → List ℕ) (heap : Heap V H) (s : RecoveryState) (r : LogRecord) (b : Bool) → Stands front disk heap s → slice_get s.log s.redone ≡ Some r → image_in r.payload ≡ None
      → Redoes (Ok b) front heap heap s
  redone_without front disk heap s r b stands next none =
      let m = without_is heap disk s r stands.store next none in
      let now : Stands front disk heap (after_redo s r) = record { store = m.1; settled = stands.settled; recoverable = event_kept s RedoRecord (after_redo s r) stands.recoverable m.0; slots = stands.slots; shows = stands.shows } in
      record {
        later = after_redo s r;
        work = record {
          works = RedoRecord ∷ [];
          work = (tt, after_redo s r, m.0, refl);
          loses_none = (tt, tt);
          volume = started (history_of heap) (ShowsLeft (geometry_of heap) front s) (stands_left front disk heap s stands);
          left = stands_left front disk heap (after_redo s r) now;
        };
        log = refl;
        durable = refl;
        done = (refl, disk, now);
        notes = notes_event heap heap s RedoRecord (after_redo s r) tt tt m.0 (λ recovery has. (without_noted heap s recovery r has none).1 next);
        pages = λ x at. ap (λ (q : LogRecord). redone_on_all (s.redone + 1) q s.in_place) (some_same next at);
      }

  -- .. or of which the page has it
  pub passed_now : (front : List ℕ) (disk : ℕ → List ℕ) (heap : Heap V H) (s : RecoveryState) (r : LogRecord) (b : Bool) (id : Rid) (image : Image) → Stands front disk heap s → slice_get s.log s.redone ≡ Some r
      → image_in r.payload ≡ Some (id, image) → s.redone < (s.in_place id.page).number → Redoes (Ok b) front heap heap s
  passed_now front disk heap s r b id image stands next says above =
      let m = passed_is heap disk s r id image stands.store next says above in
      let now : Stands front disk heap (after_redo s r) = record { store = m.1; settled = stands.settled; recoverable = event_kept s RedoRecord (after_redo s r) stands.recoverable m.0; slots = stands.slots; shows = stands.shows } in
      record {
        later = after_redo s r;
        work = record {
          works = RedoRecord ∷ [];
          work = (tt, after_redo s r, m.0, refl);
          loses_none = (tt, tt);
          volume = started (history_of heap) (ShowsLeft (geometry_of heap) front s) (stands_left front disk heap s stands);
          left = stands_left front disk heap (after_redo s r) now;
        };
        log = refl;
        durable = refl;
        done = (refl, disk, now);
        notes = notes_event heap heap s RedoRecord (after_redo s r) tt tt m.0 (λ recovery has. passed_noted heap s recovery r id image has next says above);
        pages = λ x at. ap (λ (q : LogRecord). redone_on_all (s.redone + 1) q s.in_place) (some_same next at);
      }

  -- an error, behind a fetch or without one
  pub redo_stops : (A : Type 0) (front : List ℕ) (old mid : Heap V H) (s : RecoveryState) (result : Result (Unit {0}) RestartError) (error : RestartError) → Fetches result front old mid s
      → Redoes {A = A} (Err error) front old mid s
  redo_stops A front old mid s result error f = record { later = f.later; work = f.work; log = f.same.log; durable = f.same.durable; done = tt; notes = tt; pages = tt }

  -- a record that does not fit the frame does not fit behind the records before it
  pub does_not_fit : (front : List ℕ) (old mid : Heap V H) (s : RecoveryState) (r : LogRecord) → (f : Fetches (Ok tt) front old mid s) → (id : Rid) (image : Image) (number n : ℕ) → n ≡ s.redone + 1
      → slice_get s.log s.redone ≡ Some r → image_in r.payload ≡ Some (id, image) → (is : (left : ℕ → List ℕ) × Stands front left mid f.later) → HasPage (geometry_of mid) id.page
      → IsSomeAnd (frame_of mid id.page) (λ f. number ≡ f.page.number) → (f.later.in_place id.page).number ≤ s.redone
      → (IsSomeAnd (frame_of mid id.page) (λ f. Fits (geometry_of mid).version f.page.slots id.slot (image_len image)) → ⊥) → DoesNotFit (geometry_of mid).version s.log n
  does_not_fit front old mid s r f id image number n at next says is there framed due refuses =
      let one : n - 1 ≡ s.redone = omega (arith, at) in (
        omega (arith, at),
        (
          r,
          ap (slice_get s.log) one ∙ next,
          λ fits.
              let before : FitsBehind (geometry_of mid).version (take s.redone s.log) r.payload = subst (λ (k : ℕ). FitsBehind (geometry_of mid).version (take k s.log) r.payload) one fits in
              let room : Fits (geometry_of mid).version (slots_left (take s.redone s.log) id.page) id.slot (image_len image) = before (id, image) says in
              let same : take s.redone s.log ≡ take f.later.redone f.later.log = sym (ap (λ (k : ℕ). take k f.later.log) f.same.redone ∙ ap (take s.redone) f.same.log) in
              let low = f.same.redone in
              refuses (fits_frame front is.0 mid f.later id (image_len image) number is.1 there framed (omega (arith, due, low))
              (subst (λ (l : List LogRecord). Fits (geometry_of mid).version (slots_left l id.page) id.slot (image_len image)) same room)),
        ),
      )
