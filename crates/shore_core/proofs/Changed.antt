-- The pages and the room of the log, when a transaction changes a record.
use Rattle.laws_checkpoints.specs.CheckpointedStores.{CheckpointedStore}
use Rattle.std.proofs.Common.{◌≡◌, ◌⊎◌, ◌≢◌, ◌+◌, ◌<◌, ◌≤◌, inl, inr, ℕ, List, Option, None, Some, IsSomeAnd, IsTrue, false, true, is_some, Result, Ok, Err, OnErr, OnOk, IsErrAnd, IfSome, length, max, option_map, refl, sym, ap, subst, ◌∙◌, arith}
use Rattle.std.specs.FinMap.{get}
use Rattle.shore_disk.specs.declared.device.Disk as disk
use Rattle.shore_log.specs.declared.tail.Tail as tail
use Rattle.shore_types.specs.declared.faults.Fault.{Fault}
use Rattle.shore_types.specs.declared.faults.Fault.TheVariants as fault
use Rattle.shore_types.specs.declared.ids.PageId.{PageId}
use Rattle.shore_types.specs.declared.ids.Rid.{Rid}
use Rattle.shore_types.specs.Images.{Image, image_len}
use Rattle.shore_types.specs.Layout.{HasPage}
use Rattle.shore_model.specs.declared.log_records.LogRecord.{LogRecord}
use Rattle.shore_model.specs.declared.log_records.Payload.TheVariants.{Change, Compensation}
use Rattle.shore_model.specs.Records.{Records}
use Rattle.shore_logrec.specs.Text.{ImageFits, cost_of}
use Rattle.shore_page.specs.Room.{Fits}
use Rattle.shore_page.specs.Slots.{with_image}
use Rattle.shore_heap.specs.declared.heap.Heap.{Heap}
use Rattle.shore_heap.specs.Contents.{ClaimsOfPages, with_slots}
use Rattle.shore_heap.specs.Heaps as heaps
use Rattle.shore_heap.specs.Heaps.{Shows, frame_of, geometry_of}
use Rattle.shore_types.specs.declared.layout.TheConstants.{MAX_RECORD_BYTES}
use Rattle.shore_types.specs.declared.versions.Version.{Version}
use Rattle.shore_dwrite.specs.Settled as settled_device
use Rattle.shore_dwrite.specs.Volumes.{page_number}
use Rattle.shore_heap.proofs.Bounds.{cases_page, slots_here, slots_other}
use Rattle.shore_heap.proofs.Showing.{shows_same, shows_told}
use Rattle.laws_lives.specs.Sessions.{SessionTxn}
use Rattle.laws_lives.specs.Views.{IsAmong}
use Rattle.laws_room.specs.Claims.{Claimed, Grows, NoOthers, SlotCounts}
use Rattle.laws_room.specs.LogRooms.{change_cost, compensation_cost}
use Rattle.laws_room.proofs.Costs.{change_bytes, compensation_bytes}
use Rattle.laws_room.proofs.Rooms.{change_others, change_slots}
use Rattle.laws_calls.specs.States.{State, page_slots}
use Rattle.shore_core.specs.declared.core_calls.Core.{Core}
use Rattle.shore_txn.specs.declared.transactions.Transactions.{Transactions}
use Rattle.shore_txn.specs.declared.txn.Txn.{Txn}
use Rattle.shore_txn.specs.declared.undo.UndoEntry.{UndoEntry}
use Rattle.shore_txn.specs.ActiveTxns.{OneBecomes}
use Rattle.shore_txn.specs.Transactions.{kept_in, txns_in}
use Rattle.shore_txn.specs.Txns.{IsAfterChange, IsAfterSavepoint, SameTxn, last_of}
use Rattle.shore_txn.proofs.ActiveOthers.{each_becomes}
use Rattle.shore_pool.specs.declared.frame.Frame.{Frame}
use Rattle.shore_page.specs.Slots.{Slot}
use Rattle.shore_core.specs.Cores.{CoreComesTo}
use Rattle.shore_sessions.specs.Standing.{changed}
use Rattle.shore_core.specs.Replies.{Changes}

-- the page of the id has slots up to the id's
abbrev pub grown : SlotCounts → Rid → SlotCounts
grown counts id p = elim (cases_page p id.page) [ inl same ↦ max (counts p) (id.slot + 1) | inr other ↦ counts p ]

pub grows : (counts : SlotCounts) (id : Rid) → Grows counts (grown counts id) id
grows counts id = record { here = here (cases_page id.page id.page); others = λ p apart. others p apart (cases_page p id.page) }
  where
    here : (w : (id.page ≡ id.page) ⊎ (id.page ≢ id.page)) → elim w [ inl same ↦ max (counts id.page) (id.slot + 1) | inr other ↦ counts id.page ] ≡ max (counts id.page) (id.slot + 1)
    here (inl same) = refl
    here (inr other) = absurd (other refl)

    others : (p : PageId) → p ≢ id.page → (w : (p ≡ id.page) ⊎ (p ≢ id.page)) → elim w [ inl same ↦ max (counts p) (id.slot + 1) | inr other ↦ counts p ] ≡ counts p
    others p apart (inl same) = absurd (apart same)
    others p apart (inr other) = refl

module _ (v : Version) {V : Type 0} {H : disk.Ghosts V} where
  pub pages_changed : (new : Heap V H) (K : ClaimsOfPages) (front : List ℕ) (disk : ℕ → List ℕ) (s : State) (a : SessionTxn) (id : Rid) (image : Image) (counts : SlotCounts)
      → Claimed v s.sessions.records s.sessions.active s.counts → IsAmong a s.sessions.active → NoOthers s.sessions.active a.txn id → Fits v (page_slots s id.page) id.slot (image_len image) → Grows s.counts counts id
      → Shows K new front disk (with_slots (page_slots s) id.page (λ slots. with_image slots id.slot image)) → Shows K new front disk (page_slots (changed s a id image counts))
  pages_changed new K front disk s a id image counts k among alone fits grows shows =
      shows_same new K front disk (with_slots (page_slots s) id.page (λ slots. with_image slots id.slot image)) (page_slots (changed s a id image counts)) each shows
    where
      each : (p : PageId) → HasPage (geometry_of new) p → page_slots (changed s a id image counts) p ≡ with_slots (page_slots s) id.page (λ slots. with_image slots id.slot image) p
      each p there = elim (cases_page p id.page) [
        | inl same ↦
            ap (page_slots (changed s a id image counts)) same
            ∙ change_slots _ s.sessions.records s.sessions.active s.counts k a among id image alone fits counts grows
            ∙ sym (slots_here (page_slots s) id.page (λ slots. with_image slots id.slot image))
            ∙ ap (with_slots (page_slots s) id.page (λ slots. with_image slots id.slot image)) (sym same)
        | inr other ↦
            change_others _ s.sessions.records s.sessions.active s.counts k a among id image alone fits counts grows p other
            ∙ sym (slots_other (page_slots s) id.page (λ slots. with_image slots id.slot image) p other)
      ]

  -- the claim of the change is told, on a page that is in its frame
  pub claim_told : (new : Heap V H) (table later : Transactions) (id : PageId) (front : List ℕ) (disk : ℕ → List ℕ) (S : PageId → List Slot) → IsTrue (is_some (frame_of new id))
      → ((p : PageId) → p ≢ id → kept_in later p ≡ kept_in table p) → Shows (kept_in table) new front disk S → Shows (kept_in later) new front disk S
  claim_told new table later id front disk S held elsewhere shows =
      shows_told new (kept_in table) (kept_in later) front disk S (λ p has none. elsewhere p (λ same. none_held (frame_of new id) held (ap (frame_of new) (sym same) ∙ none))) shows
    where
      none_held : (o : Option Frame) → IsTrue (is_some o) → o ≡ None → ⊥
      none_held (Some f) there e = absurd (some_none f e)
        where
          some_none : (f : Frame) → Some f ≡ None → ⊥
          some_none f e = cc
      none_held None there e = absurd (false_true there)
        where
          false_true : false ≡ true → ⊥
          false_true e = cc

-- what the record and its undo cost
pub costs_are : (R : Records) (id : Rid) (was image : Image) (logged undo : ℕ) → logged ≡ cost_of (Change id was image) → undo ≡ cost_of (Compensation id was 0) → get R id ≡ was
    → logged + undo ≡ change_cost (get R id) image + compensation_cost (get R id)
costs_are R id was image logged undo a b found =
    ap (λ n. n + undo) (a ∙ sym (change_bytes id was image)) ∙ ap (λ n. change_cost was image + n) (b ∙ sym (compensation_bytes id was 0))
    ∙ ap (λ (w : Image). change_cost w image + compensation_cost w) (sym found)

module _ (v : Version) {T V : Type 0} {G : tail.Ghosts T} {H : disk.Ghosts V} (new : Core T V G H) (front : List ℕ) (before : List LogRecord) (s : State) (store : CheckpointedStore) (a : SessionTxn)
    (id : Rid) (image : Image) where
  -- an allocation failed, and the state is as it was
  pub changes_none : (r : Result (Unit {0}) Fault) → IsErrAnd r (λ e. e ≡ fault.Memory) → CoreComesTo new front before store s → Changes v new a id image r front before s store
  changes_none (Err e) memory comes = (inl memory, comes)
  changes_none (Ok u) memory comes = absurd memory

pub image_short : (image : Image) → image_len image ≤ MAX_RECORD_BYTES → ImageFits image
image_short None short = tt
image_short (Some bytes) short = short

-- the length that was read of a short image is short
pub len_short : (image : Image) (n : Option ℕ) → n ≡ option_map length image → image_len image ≤ MAX_RECORD_BYTES → (x : ℕ) → n ≡ Some x → x ≤ MAX_RECORD_BYTES
len_short None n is short x some = absurd (none_some (sym is ∙ some))
  where
    none_some : None ≡ Some x → ⊥
    none_some clash = cc
len_short (Some bytes) n is short x some = subst (λ (o : Option ℕ). IfSome o (λ m. m ≤ MAX_RECORD_BYTES)) (sym is ∙ some) short

pub same_history : {V : Type 0} {H : disk.Ghosts V} (new old : Heap V H) → heaps.device_of new ≡ heaps.device_of old → heaps.history_of new ≡ heaps.history_of old
same_history {H = H} new old same = ap (λ d. H.history (settled_device.device_of d)) same

pub same_geometry : {V : Type 0} {H : disk.Ghosts V} (new old : Heap V H) → heaps.device_of new ≡ heaps.device_of old → geometry_of new ≡ geometry_of old
same_geometry new old same = ap (λ d. settled_device.geometry_of d) same

pub some_is : {A : Type 0} (P : A → Type 0) (o : Option A) → IsSomeAnd o P → IsTrue (is_some o)
some_is P (Some x) holds = refl
some_is P None holds = absurd holds

pub second_and : {A : Type 0} (P Q : A → Type 0) (o : Option A) → IsSomeAnd o (λ x. P x × Q x) → IsSomeAnd o Q
second_and P Q (Some x) holds = holds.1
second_and P Q None holds = absurd holds

-- a page that was in a frame is
pub held_still : {V : Type 0} {H : disk.Ghosts V} (P : Frame → Type 0) (new old : Heap V H) (id : PageId) → heaps.device_of new ≡ heaps.device_of old
    → ((k : ℕ) → is_some (heaps.frame_at new k) ≡ is_some (heaps.frame_at old k)) → IsSomeAnd (frame_of old id) P → IsTrue (is_some (frame_of new id))
held_still P new old id device held there =
    let here : is_some (frame_of new id) ≡ is_some (frame_of old id) = ap (λ g. is_some (heaps.frame_at new (page_number g id))) (same_geometry new old device) ∙ held (page_number (geometry_of old) id) in
    subst IsTrue (sym here) (some_is P (frame_of old id) there)

-- ---- the last numbers of the transactions

module _ (table new : Transactions) (next : ℕ) (earlier : (t : Txn) → IsAmong t (txns_in table) → last_of t < next) where
  -- memory was taken
  pub earlier_same : {number : ℕ} → OneBecomes number SameTxn (txns_in table) (txns_in new) → (t : Txn) → IsAmong t (txns_in new) → last_of t < next
  earlier_same one = each_becomes (λ t. last_of t < next) (λ t. last_of t < next) table.numbers earlier one (λ t other less. less) (λ less. omega (arith, one.becomes.last, less))

  -- a savepoint was set, or memory was taken
  pub earlier_marked : {A E : Type 0} (number : ℕ) (r : Result A E) → OnOk r (OneBecomes number IsAfterSavepoint (txns_in table) (txns_in new))
      → OnErr r (OneBecomes number SameTxn (txns_in table) (txns_in new)) → (t : Txn) → IsAmong t (txns_in new) → last_of t < next
  earlier_marked number (Ok x) one none =
      each_becomes (λ t. last_of t < next) (λ t. last_of t < next) table.numbers earlier one (λ t other less. less) (λ less. omega (arith, one.becomes.last, less))
  earlier_marked number (Err e) none one = earlier_same one

  -- a record was logged under the next number
  pub earlier_changed : {own : ℕ} {entry : UndoEntry} → OneBecomes own (λ old new. IsAfterChange old entry new) (txns_in table) (txns_in new) → entry.lsn ≡ next
      → (t : Txn) → IsAmong t (txns_in new) → last_of t < next + 1
  earlier_changed one number =
      each_becomes (λ t. last_of t < next) (λ t. last_of t < next + 1) table.numbers earlier one (λ t other less. omega (arith, less)) (λ less. omega (arith, one.becomes.last, number))
