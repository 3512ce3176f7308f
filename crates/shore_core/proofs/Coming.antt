-- What a call that reads pages leaves of a state and of its store: others may have been written back.
use Rattle.laws_checkpoints.specs.CheckpointedStores.{CheckpointedStore}
use Rattle.std.proofs.Common.{◌≡◌, ◌⊎◌, ◌++◌, ◌∷◌, ◌∙◌, inl, inr, ℕ, List, [], Bool, Result, Ok, Err, IsErrAnd, MatchResult, true, false, refl, sym, ap, subst, length-append, map, option_map, ◌≤◌, arith}
use Rattle.shore_types.specs.declared.faults.Fault.{Fault}
use Rattle.shore_types.specs.declared.faults.Fault.TheVariants as fault
use Rattle.shore_model.specs.declared.log_records.LogRecord.{LogRecord}
use Rattle.shore_disk.specs.declared.device.Disk as disk
use Rattle.shore_disk.proofs.Moments.{at_end}
use Rattle.shore_log.specs.declared.tail.Tail as tail
use Rattle.shore_page.specs.Slots.{Slot, settled}
use Rattle.shore_page.specs.Text.{images_of}
use Rattle.shore_heap.specs.Contents.{AreKept, FitIn, claimed_by}
use Rattle.shore_txn.proofs.ActiveKept.{back_again, fit_again}
use Rattle.shore_heap.specs.Heaps as heaps
use Rattle.shore_heap.specs.Heaps.{KeepsSlots, LeavesPages, Shows}
use Rattle.laws_lives.specs.Pages.{LoggedPages}
use Rattle.laws_lives.specs.Recovery.{AppendRecord, CrashMayLeave, IsRecoverable, LeadsTo, RecoveryEvent, after_append}
use Rattle.laws_lives.proofs.Invariant.{event_kept}
use Rattle.laws_lives.proofs.Works.{all_work}
use Rattle.laws_heaps.proofs.Cleaned.{cleaned_by}
use Rattle.laws_heaps.proofs.DirtyTables.{numbers_unmoved}
use Rattle.laws_heaps.proofs.Flushes.{left_amid}
use Rattle.laws_heaps.proofs.Stores.{store_over}
use Rattle.laws_heaps.specs.LoggedHeaps.{LeavesStore}
use Rattle.shore_pool.specs.Pools.{PoolHolds}
use Rattle.shore_heap.specs.declared.heap.Heap.{Heap}
use Rattle.shore_heap.specs.Dirty.{SameDirt}
use Rattle.shore_heap.proofs.Showing.{shows_told}
use Rattle.shore_pool.proofs.Same.{pages_stay}
use Rattle.shore_pool.specs.Pages.{SamePages}
use Rattle.shore_txn.specs.declared.transactions.Transactions.{Transactions}
use Rattle.shore_types.specs.declared.ids.PageId.{PageId}
use Rattle.laws_calls.specs.States.{State, page_slots}
use Rattle.shore_txn.specs.Transactions.{kept_in, undos_in}
use Rattle.shore_txn.specs.Transactions as table
use Rattle.laws_room.specs.Claims.{Claimed, slots_of}
use Rattle.shore_core.specs.declared.core_calls.Core.{Core}
use Rattle.shore_core.specs.Cores.{CoreComesTo, FailsOver, IsBeside, IsIn, IsKept, IsKeptBehind, IsOver, IsSafe, control_of, durable_of, geometry_of, has_failed, heap_of, history_of, tail_of, txns_of, waiting_of}
use Rattle.shore_sessions.specs.declared.control.Control.{Control}
use Rattle.shore_sessions.specs.Controls.{txns_in}
use Rattle.shore_core.specs.Parts.{HasParts}
use Rattle.shore_core.specs.Stores.{IsHeapOf, WorksOn, append_to}
use Rattle.shore_core.proofs.Works.{works_led, works_then, works_to}
use Rattle.shore_core.specs.Replies.{MayLeave, OnlyReads, Stays}

-- a state runs, or has failed
pub runs_or_failed : (b : Bool) → (b ≡ false) ⊎ (b ≡ true)
runs_or_failed false = inl refl
runs_or_failed true = inr refl

pub never_both : {P : Type 0} (b : Bool) → b ≡ true → b ≡ false → P
never_both b fails works = absurd (clash (sym fails ∙ works))
  where
    clash : true ≡ false → ⊥
    clash e = cc

-- the store is the state's, if it was before such works
pub kept_after : (s : State) (store later : CheckpointedStore) (works : List RecoveryEvent) → IsKept s store → WorksOn store works later → later.store.log ≡ store.store.log → later.store.durable ≡ store.store.durable → IsKept s later
kept_after s store later works kept work log durable =
    let worked = all_work store.store works later.store kept.recoverable kept.redone (works_to store works later work) in
    record {
      stored = record { log = log ∙ kept.stored.log; durable = durable ∙ kept.stored.durable };
      redone = worked.redone;
      recoverable = worked.recoverable;
    }

-- Pages were written back: the store comes to another by that alone, and the heap has its pages and their recovery numbers.
pub written_back : {V : Type 0} {H : disk.Ghosts V} (old new : Heap V H) (seen : ℕ) (front : List ℕ) (disk left : ℕ → List ℕ) (store : CheckpointedStore) → IsHeapOf old disk store → IsRecoverable store.store
    → PoolHolds (heaps.pool_of new) front left → heaps.StayInPlace old new seen disk left → seen ≤ store.store.durable → heaps.geometry_of new ≡ heaps.geometry_of old
    → (works : List RecoveryEvent) × (later : CheckpointedStore) × WorksOn store works later × IsHeapOf new left later × (later.store.log ≡ store.store.log) × (later.store.durable ≡ store.store.durable)
written_back old new seen front disk left store over kept holds stay low geometry =
    let back = cleaned_by old new seen front disk left store over.pages over.recoveries kept holds stay low geometry in (
      back.0,
      back.1,
      works_led store back.0 back.1 back.2 back.3,
      record { pages = back.5; recoveries = back.6 },
      ap (λ (x : CheckpointedStore). x.store.log) back.7,
      ap (λ (x : CheckpointedStore). x.store.durable) back.7,
    )

-- nothing was done to it
pub kept_behind : (s : State) (store : CheckpointedStore) → IsKept s store → IsKeptBehind s store
kept_behind s store kept = record { works = []; after = store; work = refl; kept = kept }

module _ {T V : Type 0} {G : tail.Ghosts T} {H : disk.Ghosts V} where
  -- beside its pages the core is that of the state
  pub beside_same : (old new : Core T V G H) (before : List LogRecord) (s : State) → tail_of new ≡ tail_of old → control_of new ≡ control_of old → durable_of new ≡ durable_of old
      → has_failed new ≡ has_failed old → IsBeside before old s → IsBeside before new s
  beside_same old new before s tail control durable failed was = record {
    first = ap G.first tail ∙ was.first;
    parts =
        subst (λ t. HasParts t (waiting_of new) (durable_of new) (has_failed new) before s) (sym control)
        (subst (λ l. HasParts (control_of old) (G.records l) (durable_of new) (has_failed new) before s) (sym tail)
        (subst (λ d. HasParts (control_of old) (waiting_of old) d (has_failed new) before s) (sym durable)
        (subst (λ b. HasParts (control_of old) (waiting_of old) (durable_of old) b before s) (sym failed) was.parts)));
  }

  -- nothing was done
  pub comes_same : (new : Core T V G H) (front : List ℕ) (disk : ℕ → List ℕ) (before : List LogRecord) (s : State) (store : CheckpointedStore)
      → IsIn front disk before new s → IsOver disk new s store → CoreComesTo new front before store s
  comes_same new front disk before s store is over = record { left = disk; is_in = is; works = []; after = store; work = refl; over = over }

  -- a core that has failed is in each state beside
  pub comes_failed : (new : Core T V G H) (front : List ℕ) (before : List LogRecord) (s : State) (store : CheckpointedStore) → s.failed ≡ true
      → IsBeside before new s → IsKeptBehind s store → CoreComesTo new front before store s
  comes_failed new front before s store fails beside behind = record {
    left = λ k. [];
    is_in = record { beside = beside; pages = λ works. never_both s.failed fails works };
    works = behind.works;
    after = behind.after;
    work = behind.work;
    over = record { kept = behind.kept; pages = λ works. never_both s.failed fails works };
  }

  module _ (old new : Core T V G H) (front : List ℕ) (disk : ℕ → List ℕ) (before : List LogRecord) (s : State) (store : CheckpointedStore)
      (is : IsIn front disk before old s) (over : IsOver disk old s store) (reads : OnlyReads old new) where
    beside : IsBeside before new s
    beside = beside_same old new before s reads.tail reads.control reads.durable reads.failed is.beside

    pub read_failed : s.failed ≡ true → CoreComesTo new front before store s
    read_failed fails = comes_failed new front before s store fails beside (kept_behind s store over.kept)

    -- pages were written back, and all are in place as they were
    pub read_running : s.failed ≡ false → KeepsSlots (kept_in (txns_of old)) (heap_of old) (heap_of new) (durable_of old) front disk (page_slots s) → CoreComesTo new front before store s
    read_running works (left, shows, stay) =
        let durable : durable_of old ≡ store.store.durable = sym (over.kept.stored.durable ∙ is.beside.parts.durable_is) in
        let back = written_back (heap_of old) (heap_of new) (durable_of old) front disk left store (over.pages works) over.kept.recoverable shows.holds stay (omega (arith, durable)) reads.volume.geometry in
        record {
          left = left;
          is_in = record { beside = beside; pages = λ w. subst (λ (t : Control). Shows (kept_in (txns_in t)) (heap_of new) front left (page_slots s)) (sym reads.control) shows };
          works = back.0;
          after = back.1;
          work = back.2;
          over = record { kept = kept_after s store back.1 back.0 over.kept back.2 back.4 back.5; pages = λ w. back.3 };
        }

    -- the volume failed on the way: a crash leaves what it may have left in the midst
    fails_over : MayLeave old new → s.failed ≡ false → FailsOver new front s store
    unfolding kept_behind
    fails_over leaves works =
        let durable : durable_of old ≡ store.store.durable = sym (over.kept.stored.durable ∙ is.beside.parts.durable_is) in
        record {
          behind = kept_behind s store over.kept;
          left = λ image may.
              let amid = at_end (history_of old) (history_of new) (LeavesPages (heap_of old) (durable_of old) front disk) (leaves front disk (is.pages works).holds) image may in
              subst (λ g. (pages : LoggedPages) × CrashMayLeave store.store pages × LeavesStore store.store.log g front pages image) (sym reads.volume.geometry)
              (left_amid (heap_of old) (durable_of old) front disk store.store image (over.pages works).pages amid (omega (arith, durable)));
        }

    -- .. by a call that was not refused, or was for another reason than the device
    pub stays_read : MayLeave old new → {A : Type 0} (r : Result A Fault) → (s.failed ≡ false → MatchResult r (λ _. KeepsSlots (kept_in (txns_of old)) (heap_of old) (heap_of new) (durable_of old) front disk (page_slots s))
        (λ f. (f ≡ fault.Device) ⊎ KeepsSlots (kept_in (txns_of old)) (heap_of old) (heap_of new) (durable_of old) front disk (page_slots s))) → Stays new r front before s store
    stays_read leaves (Ok x) kept = elim (runs_or_failed s.failed) [ inl works ↦ read_running works (kept works) | inr fails ↦ read_failed fails ]
    stays_read leaves (Err f) kept = elim (runs_or_failed s.failed) [
      | inl works ↦ elim (kept works) [ inl device ↦ inl (device, beside, fails_over leaves works) | inr slots ↦ inr (read_running works slots) ]
      | inr fails ↦ inr (read_failed fails)
    ]

-- the pages of a safe state may leave their frames
pub pages_may_go : {T V : Type 0} {G : tail.Ghosts T} {H : disk.Ghosts V} (core : Core T V G H) (before : List LogRecord) (s : State) → IsBeside before core s → IsSafe (geometry_of core) s
    → AreKept (geometry_of core) (kept_in (txns_of core)) (page_slots s)
pages_may_go core before s was safe id has =
    let undos : undos_in (txns_of core) ≡ s.sessions.active = sym was.parts.stands.txns.active in
    let claimed = subst (λ us. Claimed (geometry_of core).version s.sessions.records us s.counts) (sym undos) safe.roomy.pages in
    subst (λ us. (slots_of s.sessions.records us id (s.counts id) ≡ claimed_by (kept_in (txns_of core) id) (map settled (images_of (slots_of s.sessions.records us id (s.counts id)))))
    × FitIn (geometry_of core).version (kept_in (txns_of core) id) (map settled (images_of (slots_of s.sessions.records us id (s.counts id))))) undos
    (back_again (geometry_of core).version (table.txns_in (txns_of core)) s.sessions.records s.counts id claimed, fit_again (geometry_of core).version (table.txns_in (txns_of core)) s.sessions.records s.counts id claimed)

-- ---- stays

module _ {T V : Type 0} {G : tail.Ghosts T} {H : disk.Ghosts V} (new : Core T V G H) (front : List ℕ) (before : List LogRecord) (s : State) (store : CheckpointedStore) where
  -- a call that was refused
  abbrev pub StaysRefused : Fault → Type 0
  StaysRefused f = ((f ≡ fault.Device) × IsBeside before new s × FailsOver new front s store) ⊎ CoreComesTo new front before store s

  pub stays_beside : (f : Fault) → StaysRefused f → IsBeside before new s
  stays_beside f (inl device) = device.1
  stays_beside f (inr comes) = comes.is_in.beside

  -- .. and not for the device
  pub stays_comes : (f : Fault) → (f ≡ fault.Device → ⊥) → StaysRefused f → CoreComesTo new front before store s
  stays_comes f other (inl device) = absurd (other device.0)
  stays_comes f other (inr comes) = comes

  -- a fault that is handed on
  pub stays_as : {A : Type 0} (r : Result A Fault) (f : Fault) → IsErrAnd r (λ e. e ≡ f) → StaysRefused f → Stays new r front before s store
  stays_as (Err e) f same stays = subst StaysRefused (sym same) stays
  stays_as (Ok x) f same stays = absurd same

-- a fault that is handed on is what it was
pub handed : {A : Type 0} (r : Result A Fault) (f other : Fault) → IsErrAnd r (λ e. e ≡ f) → f ≡ other → IsErrAnd r (λ e. e ≡ other)
handed (Err e) f other same is = same ∙ is
handed (Ok x) f other same is = absurd same

-- ---- a state and a store over the same pages

module _ {T V : Type 0} {G : tail.Ghosts T} {H : disk.Ghosts V} where
  -- the heap is the same, and the state has the same log
  pub over_as : (old new : Core T V G H) (disk : ℕ → List ℕ) (s later : State) (store : CheckpointedStore) → heap_of new ≡ heap_of old → later.log ≡ s.log → later.durable ≡ s.durable → later.failed ≡ s.failed
      → IsOver disk old s store → IsOver disk new later store
  over_as old new disk s later store heap log durable failed over = record {
    kept = record { stored = record { log = over.kept.stored.log ∙ sym log; durable = over.kept.stored.durable ∙ sym durable }; redone = over.kept.redone; recoverable = over.kept.recoverable };
    pages = λ works. subst (λ h. IsHeapOf h disk store) (sym heap) (over.pages (sym failed ∙ works));
  }

-- ---- one call after another

pub comes_then : {T V : Type 0} {G : tail.Ghosts T} {H : disk.Ghosts V} (mid new : Core T V G H) (front : List ℕ) (before : List LogRecord) (s later : State) (store : CheckpointedStore)
    → (one : CoreComesTo mid front before store s) → CoreComesTo new front before one.after later → CoreComesTo new front before store later
comes_then mid new front before s later store one two = record {
  left = two.left;
  is_in = two.is_in;
  works = one.works ++ two.works;
  after = two.after;
  work = works_then store one.after two.after one.works two.works one.work two.work;
  over = two.over;
}

-- a fault behind a call that was answered
pub stays_behind : {T V : Type 0} {G : tail.Ghosts T} {H : disk.Ghosts V} (mid new : Core T V G H) (front : List ℕ) (before : List LogRecord) (s later : State) (store : CheckpointedStore) (f : Fault)
    → (one : CoreComesTo mid front before store s) → StaysRefused new front before later one.after f → StaysRefused new front before later store f
stays_behind mid new front before s later store f one (inl device) =
    let behind = device.2.behind in
    inl (
      device.0,
      device.1,
      record {
        behind = record {
          works = one.works ++ behind.works;
          after = behind.after;
          work = works_then store one.after behind.after one.works behind.works one.work behind.work;
          kept = behind.kept;
        };
        left = device.2.left;
      },
    )
stays_behind mid new front before s later store f one (inr comes) = inr (comes_then mid new front before s later store one comes)

-- ---- a record

module _ {T V : Type 0} {G : tail.Ghosts T} {H : disk.Ghosts V} (new : Core T V G H) (front : List ℕ) (disk : ℕ → List ℕ) (before : List LogRecord) (s later : State) (store : CheckpointedStore) (r : LogRecord) where
  -- a record was appended, and done on its page
  pub comes_appended : IsKept s store → later.log ≡ s.log ++ r ∷ [] → later.durable ≡ s.durable → IsIn front disk before new later
      → (later.failed ≡ false → IsHeapOf (heap_of new) disk (append_to store r)) → CoreComesTo new front before store later
  comes_appended kept log durable is pages =
      let leads : LeadsTo store.store (AppendRecord r) (after_append store.store r) = (kept.redone, refl) in
      let long = length-append store.store.log (r ∷ []) in
      record {
        left = disk;
        is_in = is;
        works = AppendRecord r ∷ [];
        after = append_to store r;
        work = (tt, after_append store.store r, leads, refl);
        over = record {
          kept = record {
            stored = record { log = ap (λ l. l ++ r ∷ []) kept.stored.log ∙ sym log; durable = kept.stored.durable ∙ sym durable };
            redone = omega (arith, kept.redone, long);
            recoverable = event_kept store.store (AppendRecord r) (after_append store.store r) kept.recoverable leads;
          };
          pages = pages;
        };
      }

-- what a search of pages keeps, whose claims are those of a table that was lent
pub kept_lent : {A V : Type 0} {H : disk.Ghosts V} (old new : Heap V H) (r : Result A Fault) (durable : ℕ) (front : List ℕ) (disk : ℕ → List ℕ) (S : PageId → List Slot) (lent table : Transactions) → lent ≡ table
    → (Shows (kept_in lent) old front disk S → AreKept (heaps.geometry_of old) (kept_in lent) S
    → MatchResult r (λ _. KeepsSlots (kept_in lent) old new durable front disk S) (λ f. (f ≡ fault.Device) ⊎ KeepsSlots (kept_in lent) old new durable front disk S))
    → Shows (kept_in table) old front disk S → AreKept (heaps.geometry_of old) (kept_in table) S
    → MatchResult r (λ _. KeepsSlots (kept_in table) old new durable front disk S) (λ f. (f ≡ fault.Device) ⊎ KeepsSlots (kept_in table) old new durable front disk S)
kept_lent old new r durable front disk S lent table same kept =
    subst (λ (t : Transactions). Shows (kept_in t) old front disk S → AreKept (heaps.geometry_of old) (kept_in t) S
    → MatchResult r (λ _. KeepsSlots (kept_in t) old new durable front disk S) (λ f. (f ≡ fault.Device) ⊎ KeepsSlots (kept_in t) old new durable front disk S)) same kept

-- a table that keeps as much as another
pub pages_told : {V : Type 0} {H : disk.Ghosts V} (heap : Heap V H) (table new : Transactions) (front : List ℕ) (disk : ℕ → List ℕ) (S : PageId → List Slot)
    → ((p : PageId) → kept_in new p ≡ kept_in table p) → Shows (kept_in table) heap front disk S → Shows (kept_in new) heap front disk S
pages_told heap table new front disk S same shows = shows_told heap (kept_in table) (kept_in new) front disk S (λ p has none. same p) shows

-- the pages are the same, be they in frames or not, and no page has become dirty or clean
pub pages_same : {V : Type 0} {H : disk.Ghosts V} (old new : Heap V H) (disk : ℕ → List ℕ) (store : CheckpointedStore) → SamePages (heaps.geometry_of old).version (heaps.frame_at old) disk (heaps.frame_at new) disk → SameDirt old new
    → heaps.geometry_of new ≡ heaps.geometry_of old → IsHeapOf old disk store → IsHeapOf new disk store
pages_same old new disk store same dirt geometry over = record {
  pages = store_over old new disk disk store.store over.pages geometry store.store.volume same over.pages.volume;
  recoveries = numbers_unmoved old new store.recovery over.recoveries dirt geometry;
}

-- the frames are the same
pub same_store : {V : Type 0} {H : disk.Ghosts V} (old new : Heap V H) (disk : ℕ → List ℕ) (store : CheckpointedStore) → ((k : ℕ) → heaps.frame_at new k ≡ heaps.frame_at old k) → heaps.geometry_of new ≡ heaps.geometry_of old
    → IsHeapOf old disk store → IsHeapOf new disk store
same_store old new disk store frames geometry over = pages_same old new disk store (pages_stay (heaps.geometry_of old).version (heaps.frame_at old) (heaps.frame_at new) disk frames) (λ k. ap (λ o. option_map (λ f. f.recovery) o) (frames k)) geometry over
