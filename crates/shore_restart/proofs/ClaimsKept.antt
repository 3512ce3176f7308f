-- A page is fetched and keeps a claim more: what the pages claim so far, and the work of the store that it is.
use Rattle.std.proofs.Common.{◌≡◌, ◌≢◌, ◌⊎◌, ◌≤◌, ◌++◌, ◌∷◌, [], ℕ, List, Bool, cond, Option, None, Some, Result, Ok, Err, inl, inr, refl, sym, ap, subst, ◌∙◌, map, arith}
use Rattle.std.specs.Prelude.{IsSomeAnd, OnOk, option_map}
use Rattle.shore_types.specs.Images.{Image, image_len}
use Rattle.shore_types.specs.Layout.{HasPage}
use Rattle.shore_types.specs.declared.ids.PageId.{PageId}
use Rattle.shore_types.specs.declared.layout.Geometry.{Geometry}
use Rattle.shore_types.specs.declared.versions.Version.{Version}
use Rattle.shore_disk.specs.Device.{DeviceHistory, LeavesOnly, may_leave}
use Rattle.shore_disk.specs.declared.device.Disk.{Ghosts}
use Rattle.shore_disk.proofs.Moments.{at_end, joined, widened}
use Rattle.shore_dwrite.specs.Volumes.{page_number}
use Rattle.shore_dwrite.proofs.Numbers.{one_page}
use Rattle.shore_page.specs.Room.{raised}
use Rattle.shore_page.specs.Slots.{Slot, settled, with_change}
use Rattle.shore_page.specs.Text.{images_of}
use Rattle.shore_pool.specs.declared.frame.Frame.{Frame}
use Rattle.shore_pool.specs.Changes as changes
use Rattle.shore_pool.specs.Changes.{reclaimed}
use Rattle.shore_pool.specs.Pages.{IsPage, SamePages}
use Rattle.shore_pool.specs.Pools.{PoolHolds, StaysOrGoes}
use Rattle.shore_heap.specs.declared.heap.Heap.{Heap}
use Rattle.shore_heap.specs.Contents.{AreBounds, CanKeep, ClaimsOfPages, FitIn, KeepWhatFits, claimed_by}
use Rattle.shore_heap.specs.Dirty.{SameDirt}
use Rattle.shore_heap.specs.Heaps as heaps
use Rattle.shore_heap.specs.Heaps.{FramesWere, IsFreshFrame, LeavesPages, StayInPlace, frame_at, frame_of, geometry_of, history_of}
use Rattle.shore_heap.proofs.Claimed.{images_kept}
use Rattle.shore_heap.proofs.Released.{images_claimed}
use Rattle.laws_heaps.specs.LoggedHeaps.{IsStoreOf, LeavesStore}
use Rattle.laws_heaps.proofs.DirtyTables.{numbers_unmoved}
use Rattle.laws_heaps.proofs.Flushes.{all_flushed, crash_leaves, left_amid, texts_left}
use Rattle.laws_heaps.proofs.LoggedLeft.{left_settled}
use Rattle.laws_heaps.proofs.Stores.{store_over}
use Rattle.laws_images.specs.Moments.{ShowsLeft}
use Rattle.laws_lives.specs.Recovery.{CrashMayLeave, IsRecoverable, RecoveryState}
use Rattle.laws_lives.specs.Pages.{LoggedPages}
use Rattle.laws_room.proofs.Leaving.{same_page}
use Rattle.shore_model.specs.declared.log_records.LogRecord.{LogRecord}
use Rattle.shore_txn.specs.UndoEntries.{claims_on}
use Rattle.shore_txn.specs.declared.undo.UndoEntry.{UndoEntry}
use Rattle.shore_txn.proofs.ClaimLemmas.{claims_append, claims_other}
use Rattle.shore_restart.specs.declared.errors.RestartError.{RestartError}
use Rattle.shore_restart.specs.GivenBack.{ClaimsSoFar, HaveRoom, Keeps, StandsSoFar}
use Rattle.shore_restart.specs.Standing.{Notes, SameInPlace, Worked}
use Rattle.shore_restart.proofs.Noting.{notes_on, pages_noted}
use Rattle.shore_restart.proofs.Paths.{none_lost_on, work_kept, work_on, works_lose_none}
use Rattle.shore_restart.proofs.RoomKept.{can_keep_there, could_keep, is_kept, kept_already}

-- ---- one page

images_same : (v : Version) (f : Frame) (text : List ℕ) (p : PageId) (all so_far : List (ℕ × ℕ)) (slots : List Slot) → slots ≡ map settled (images_of slots) → ClaimsSoFar v (Some f) text p all so_far slots → images_of f.page.slots ≡ images_of slots
images_same v f text p all so_far slots bare (inl claimed) =
    ap images_of claimed ∙ ap (λ (l : List Slot). images_of (claimed_by so_far l)) bare ∙ images_claimed so_far (images_of slots)
images_same v f text p all so_far slots bare (inr keeps) = images_kept v all slots f.page.slots keeps

module _ (v : Version) (text later : List ℕ) (p : PageId) (all so_far : List (ℕ × ℕ)) (slots : List Slot) (bare : slots ≡ map settled (images_of slots)) where
  abbrev Same : Option Frame → Option Frame → Type 0
  Same at now = (number : ℕ) (images : List Image) → IsPage v at text p number images → IsPage v now later p number images

  -- on the volume alone it has its text still
  alone : Same None None → ClaimsSoFar v None text p all so_far slots → ClaimsSoFar v None later p all so_far slots
  alone same (number, images, is, settled_is) = (number, images, same number images is, settled_is)

  -- .. and is written back as it was
  went : (f : Frame) → f.page.id ≡ p → Same (Some f) None → ClaimsSoFar v (Some f) text p all so_far slots → ClaimsSoFar v None later p all so_far slots
  went f own same claims =
      (f.page.number, images_of f.page.slots, same f.page.number (images_of f.page.slots) (own, refl, refl), bare ∙ ap (map settled) (sym (images_same v f text p all so_far slots bare claims)))

  pub stays_or_goes : (at now : Option Frame) → ((f : Frame) → at ≡ Some f → f.page.id ≡ p) → StaysOrGoes at now → Same at now → ClaimsSoFar v at text p all so_far slots → ClaimsSoFar v now later p all so_far slots
  stays_or_goes None now own (inl is) same claims =
      subst (λ (o : Option Frame). ClaimsSoFar v o later p all so_far slots) (sym is) (alone (subst (Same None) is same) claims)
  stays_or_goes None now own (inr (inl is)) same claims =
      subst (λ (o : Option Frame). ClaimsSoFar v o later p all so_far slots) (sym is) (alone (subst (Same None) is same) claims)
  stays_or_goes None now own (inr (inr is)) same claims =
      subst (λ (o : Option Frame). ClaimsSoFar v o later p all so_far slots) (sym is) (alone (subst (Same None) is same) claims)
  stays_or_goes (Some f) now own (inl is) same claims = subst (λ (o : Option Frame). ClaimsSoFar v o later p all so_far slots) (sym is) claims
  stays_or_goes (Some f) now own (inr (inl is)) same claims = subst (λ (o : Option Frame). ClaimsSoFar v o later p all so_far slots) (sym is) claims
  stays_or_goes (Some f) now own (inr (inr is)) same claims =
      subst (λ (o : Option Frame). ClaimsSoFar v o later p all so_far slots) (sym is) (went f (own f refl) (subst (Same (Some f)) is same) claims)

  -- as it was read it keeps what fits
  pub came : (at now : Option Frame) (last : ℕ) → ((f : Frame) → now ≡ Some f → f.page.version ≡ v) → at ≡ None → IsSomeAnd now (IsFreshFrame all last) → Same at now → ClaimsSoFar v at text p all so_far slots → ClaimsSoFar v now later p all so_far slots
  came (Some f) now last own none read same claims = cc
  came None None last own none read same claims = absurd read
  came None (Some f) last own none read same (number, images, is, settled_is) =
      let its = same number images is in
      inr (subst (λ (l : List Slot). KeepWhatFits v all l f.page.slots) (ap (map settled) its.2 ∙ sym settled_is)
      (subst (λ (w : Version). KeepWhatFits w all (map settled (images_of f.page.slots)) f.page.slots) (own f refl) read.slots))

-- ---- the claim of one more

module _ (v : Version) (older newer : List (ℕ × ℕ)) (c : ℕ × ℕ) (f : Frame) (text : List ℕ) (p : PageId) (slots : List Slot) (fit : FitIn v newer slots) where
  pub could : ClaimsSoFar v (Some f) text p (older ++ c ∷ newer) newer slots → CanKeep v f.page.slots c.0 c.1 → CanKeep v (claimed_by newer slots) c.0 c.1
  could (inl claimed) can = subst (λ (l : List Slot). CanKeep v l c.0 c.1) claimed can
  could (inr keeps) can = could_keep v older newer c slots f.page.slots fit keeps can

  pub can_there : ClaimsSoFar v (Some f) text p (older ++ c ∷ newer) newer slots → CanKeep v (claimed_by newer slots) c.0 c.1 → CanKeep v f.page.slots c.0 c.1
  can_there (inl claimed) can = subst (λ (l : List Slot). CanKeep v l c.0 c.1) (sym claimed) can
  can_there (inr keeps) can = can_keep_there v older newer c slots f.page.slots fit keeps can

  pub keeps_one : ClaimsSoFar v (Some f) text p (older ++ c ∷ newer) newer slots → CanKeep v f.page.slots c.0 c.1
      → ClaimsSoFar v (Some (reclaimed (raised c.1) c.0 f)) text p (older ++ c ∷ newer) (c ∷ newer) slots
  keeps_one (inl claimed) can = inl (ap (λ (l : List Slot). with_change (raised c.1) l c.0) claimed)
  keeps_one (inr keeps) can =
      inr (subst (λ (l : List Slot). KeepWhatFits v (older ++ c ∷ newer) slots l) (sym (kept_already c.1 f.page.slots c.0 (is_kept v older newer c slots f.page.slots fit keeps (could_keep v older newer c slots f.page.slots fit keeps can)))) keeps)

-- what may come back to a page by one change more, and those behind it
pub claims_here : (e : UndoEntry) (newer : List UndoEntry) → claims_on e.id.page (e ∷ newer) ≡ (e.id.slot, image_len e.before) ∷ claims_on e.id.page newer
claims_here e newer =
    ap (λ (b : Bool). cond b ((e.id.slot, image_len e.before) ∷ claims_on e.id.page newer) (claims_on e.id.page newer)) (same_page e.id.page)

pub claims_there : (p : PageId) (e : UndoEntry) (newer : List UndoEntry) → p ≢ e.id.page → claims_on p (e ∷ newer) ≡ claims_on p newer
claims_there p e newer apart = claims_append p (e ∷ []) newer ∙ ap (λ (l : List (ℕ × ℕ)). l ++ claims_on p newer) (claims_other p [] e apart)

-- ---- the store

module _ {V : Type 0} {H : Ghosts V} where
  -- pages may have been written back, which is work of the store
  pub record KeptStore (front : List ℕ) (old new : Heap V H) (s : RecoveryState) (left : ℕ → List ℕ) : Type 0 where
    pub later : RecoveryState
    pub work : Worked front old new s later
    pub same : SameInPlace s later
    pub volume : CrashMayLeave s later.volume
    pub store : IsStoreOf new left later
    pub recoverable : IsRecoverable later
    pub notes : Notes old new s later

  module _ (front : List ℕ) (disk : ℕ → List ℕ) (old new : Heap V H) (s : RecoveryState) (durable : ℕ) (store : IsStoreOf old disk s) (recoverable : IsRecoverable s) (low : durable ≤ s.durable)
      (leaves : LeavesOnly (history_of old) (history_of new) (LeavesPages old durable front disk)) where
    leaves_shown : LeavesOnly (history_of old) (history_of new) (ShowsLeft (geometry_of old) front s)
    leaves_shown = widened (history_of old) (history_of new) (LeavesPages old durable front disk) (ShowsLeft (geometry_of old) front s) leaves (λ c shown. left_amid old durable front disk s c store shown low)

    pub wrote : (left : ℕ → List ℕ) → geometry_of new ≡ geometry_of old → PoolHolds new.pool front left → StayInPlace old new durable disk left → KeptStore front old new s left
    wrote left same holds stay =
        let done = all_flushed old durable disk left s store low stay.may in
        let later : RecoveryState = record s { volume = done.volume } in
        let its : IsStoreOf new left later = store_over old new disk left s store same done.volume stay.same (texts_left old durable disk left s store low stay.may) in
        record {
          later = later;
          work = record {
            works = done.works;
            work = done.restarted;
            loses_none = works_lose_none s done.works later done.worked;
            volume = leaves_shown;
            left = λ c may. subst (λ (g : Geometry). ShowsLeft g front later c) same (later.volume, λ p. inl refl, left_settled new front left later c its holds may);
          };
          same = record { log = refl; durable = refl; redone = refl; in_place = refl };
          volume = crash_leaves old durable disk left s store low stay.may;
          store = its;
          recoverable = work_kept s done.works later recoverable done.restarted;
          notes = pages_noted old new durable front disk left s later store recoverable holds stay low same its (record { log = refl; durable = refl; redone = refl; in_place = refl });
        }

    pub stopped_there : Worked front old new s s
    stopped_there = record { works = []; work = refl; loses_none = tt; volume = leaves_shown; left = at_end (history_of old) (history_of new) (ShowsLeft (geometry_of old) front s) leaves_shown }

  -- what follows that leaves the calls of the device
  pub worked_on : (front : List ℕ) (old mid new : Heap V H) (s later : RecoveryState) → history_of new ≡ history_of mid → Worked front old mid s later → Worked front old new s later
  worked_on front old mid new s later same work = record {
    works = work.works;
    work = work.work;
    loses_none = work.loses_none;
    volume = subst (λ (h : DeviceHistory). LeavesOnly (history_of old) h (ShowsLeft (geometry_of old) front s)) (sym same) work.volume;
    left = λ c may. work.left c (subst (λ (h : DeviceHistory). may_leave h c) same may);
  }

  -- .. and its pages' numbers
  pub noted_on : (old mid new : Heap V H) (s later : RecoveryState) → SameDirt mid new → geometry_of new ≡ geometry_of mid → Notes old mid s later → Notes old new s later
  noted_on old mid new s later dirt geometry notes =
      notes_on old mid new s later later notes (λ a recovery has. ([], recovery, refl, numbers_unmoved mid new recovery has dirt geometry))

  -- what a crash leaves between two calls
  pub so_far_left : (front : List ℕ) (disk : ℕ → List ℕ) (heap : Heap V H) (s : RecoveryState) → IsStoreOf heap disk s → PoolHolds heap.pool front disk → (c : List ℕ) → may_leave (history_of heap) c
      → ShowsLeft (geometry_of heap) front s c
  so_far_left front disk heap s store holds c may = (s.volume, λ p. inl refl, left_settled heap front disk s c store holds may)

  -- one such work behind another
  pub keeps_then : {front : List ℕ} {old mid new : Heap V H} {s : RecoveryState} {result : Result (Unit {0}) RestartError} {First Then : (ℕ → List ℕ) → RecoveryState → Type 0} → geometry_of mid ≡ geometry_of old
      → (first : Keeps (Ok tt) front old mid s First) → Keeps result front mid new first.later Then → Keeps result front old new s Then
  keeps_then {front} {old} {mid} {new} {s} {result} geometry first then_on = record {
    later = then_on.later;
    work = record {
      works = first.work.works ++ then_on.work.works;
      work = work_on s first.work.works first.later then_on.work.works then_on.later first.work.work then_on.work.work;
      loses_none = none_lost_on first.work.works then_on.work.works first.work.loses_none then_on.work.loses_none;
      volume = joined (history_of old) (history_of mid) (history_of new) (ShowsLeft (geometry_of old) front s) first.work.volume
          (widened (history_of mid) (history_of new) (ShowsLeft (geometry_of mid) front first.later) (ShowsLeft (geometry_of old) front s) then_on.work.volume before);
      left = λ c may. subst (λ (g : Geometry). ShowsLeft g front then_on.later c) geometry (then_on.work.left c may);
    };
    same = record {
      log = then_on.same.log ∙ first.same.log;
      durable = then_on.same.durable ∙ first.same.durable;
      redone = then_on.same.redone ∙ first.same.redone;
      in_place = then_on.same.in_place ∙ first.same.in_place;
    };
    volume = left_before then_on.later.volume then_on.volume;
    stands = then_on.stands;
    notes = noted result then_on.notes (notes_on old mid new s first.later then_on.later first.notes);
  }
    where
      noted : {P Q : Type 0} (r : Result (Unit {0}) RestartError) → OnOk r P → (P → Q) → OnOk r Q
      noted (Ok done) is on = on is
      noted (Err e) is on = tt

      -- what a crash may leave then it might leave before
      left_before : (pages : LoggedPages) → CrashMayLeave first.later pages → CrashMayLeave s pages
      left_before pages may p = elim (may p) [
        | inl same ↦ elim (first.volume p) [
          | inl was ↦ inl (same ∙ was)
          | inr written ↦ inr (same ∙ written.0, written.1)
        ]
        | inr written ↦ inr (
          written.0 ∙ ap (λ (pages : LoggedPages). pages p) first.same.in_place,
          (let low = written.1 in let number = ap (λ (pages : LoggedPages). (pages p).number) first.same.in_place in let durable = first.same.durable in omega (arith, low, number, durable)),
        )
      ]

      before : (c : List ℕ) → ShowsLeft (geometry_of mid) front first.later c → ShowsLeft (geometry_of old) front s c
      before c (pages, may, leaves) =
          (pages, left_before pages may, subst (λ (g : Geometry). LeavesStore s.log g front pages c) geometry (subst (λ (log : List LogRecord). LeavesStore log (geometry_of mid) front pages c) first.same.log leaves))

  -- ---- the pages

  module _ (front : List ℕ) (disk left : ℕ → List ℕ) (old mid : Heap V H) (s : RecoveryState) (all so_far : ClaimsOfPages) (slots : PageId → List Slot) (stands : StandsSoFar all so_far slots front disk old s) (page : PageId)
      (there : HasPage (geometry_of old) page) (geometry : geometry_of mid ≡ geometry_of old) (same : SamePages (geometry_of old).version (frame_at old) disk (frame_at mid) left)
      (last : ℕ) (were : FramesWere all old mid page last) where
    abbrev number_in : PageId → ℕ
    number_in p = page_number (geometry_of old) p

    -- the frame of a page's number is the page's
    own_page : (p : PageId) → HasPage (geometry_of old) p → (f : Frame) → frame_of old p ≡ Some f → f.page.id ≡ p
    own_page p has f is = let order = old.pool.in_order (number_in p) f is in one_page (geometry_of old) f.page.id p order.0 has order.1

    at_mid : (p : PageId) → frame_of mid p ≡ frame_at mid (number_in p)
    at_mid p = ap (λ (g : Geometry). frame_at mid (page_number g p)) geometry

    -- a frame has what it had, though it may have become clean, or it goes; or its page was read
    step_at : (p : PageId) → HasPage (geometry_of old) p → (o : Option Frame) → frame_at mid (number_in p) ≡ o
        → StaysOrGoes (frame_at old (number_in p)) o ⊎ ((frame_at old (number_in p) ≡ None) × IsSomeAnd o (IsFreshFrame (all p) last))
    step_at p has None is = inl (inr (inr refl))
    step_at p has (Some f) is = elim (were (number_in p) f is) [
      | inl (h, was, inl kept) ↦ inl (inl (ap (λ (x : Frame). Some x) kept ∙ sym was))
      | inl (h, was, inr clean) ↦ inl (inr (inl (ap (λ (x : Frame). Some x) clean ∙ ap (option_map changes.settled) (sym was))))
      | inr (here, none, fresh) ↦
          let own : page ≡ p = sym (one_page (geometry_of old) p page has there here) in
          inr (none, subst (λ (q : PageId). IsFreshFrame (all q) last f) own fresh)
    ]

    pub fetched_claims : (p : PageId) → HasPage (geometry_of old) p → ClaimsSoFar (geometry_of old).version (frame_of mid p) (left (number_in p)) p (all p) (so_far p) (slots p)
    fetched_claims p has = subst (λ (o : Option Frame). ClaimsSoFar (geometry_of old).version o (left (number_in p)) p (all p) (so_far p) (slots p)) (sym (at_mid p)) (elim (step_at p has (frame_at mid (number_in p)) refl) [
      | inl step ↦
          stays_or_goes (geometry_of old).version (disk (number_in p)) (left (number_in p)) p (all p) (so_far p) (slots p) bare (frame_at old (number_in p)) (frame_at mid (number_in p)) (own_page p has) step
          (λ number images it. (same (number_in p) p number images).0 it) (stands.pages p has)
      | inr read ↦
          came (geometry_of old).version (disk (number_in p)) (left (number_in p)) p (all p) (so_far p) (slots p) bare (frame_at old (number_in p)) (frame_at mid (number_in p)) last
          (λ f is. (mid.pool.in_order (number_in p) f is).2 ∙ ap (λ (g : Geometry). g.version) geometry) read.0 read.1
          (λ number images it. (same (number_in p) p number images).0 it) (stands.pages p has)
    ])
      where
        bare : slots p ≡ map settled (images_of (slots p))
        bare = (stands.room p has).bare

    -- the heap stands with the same claims so far, over what is left
    pub stands_fetched : (kept : KeptStore front old mid s left) → PoolHolds mid.pool front left → heaps.bounds_of mid ≡ heaps.bounds_of old → StandsSoFar all so_far slots front left mid kept.later
    stands_fetched kept holds bounds = record {
      store = kept.store;
      recoverable = kept.recoverable;
      holds = holds;
      bounds = subst (λ (g : Geometry). AreBounds g (heaps.bounds_of mid) slots) (sym geometry) (subst (λ (free : List (List ℕ)). AreBounds (geometry_of old) free slots) (sym bounds) stands.bounds);
      room = λ p has. subst (λ (g : Geometry). HaveRoom g.version (so_far p) (slots p)) (sym geometry) (stands.room p (subst (λ (g : Geometry). HasPage g p) geometry has));
      pages = λ p has. subst (λ (g : Geometry). ClaimsSoFar g.version (frame_of mid p) (left (page_number g p)) p (all p) (so_far p) (slots p)) (sym geometry) (fetched_claims p (subst (λ (g : Geometry). HasPage g p) geometry has));
    }
