-- What the passes of a restart find one behind another: the log as it was found, the table that it gives, and the pages that undo leaves.
use Rattle.std.proofs.Common.{◌≡◌, ◌⊎◌, ⊎_elim, inl, inr, ◌+◌, ◌-◌, ◌<◌, ◌≤◌, ◌++◌, ℕ, zero, suc, List, Option, None, Some, Result, Ok, Err, sym, ap, subst, ◌∙◌, length, drop, take, arith}
use Rattle.std.proofs.Math.Seq.{drop-append_seam}
use Rattle.std.proofs.lemmas.List.{drop-append-le}
use Rattle.shore_gate.specs.declared.anchors.Anchor.{Anchor}
use Rattle.std.specs.Prelude.{IfErr, IsErrAnd, slice_get}
use Rattle.shore_disk.specs.declared.device.Disk.{Ghosts}
use Rattle.shore_types.specs.Layout.{HasPage}
use Rattle.shore_types.specs.declared.faults.Fault.{Fault}
use Rattle.shore_types.specs.declared.ids.PageId.{PageId}
use Rattle.shore_types.specs.declared.ids.Rid.{Rid}
use Rattle.shore_types.specs.declared.layout.Geometry.{Geometry}
use Rattle.shore_types.specs.declared.versions.Version.{Version}
use Rattle.shore_model.specs.declared.log_records.LogRecord.{LogRecord}
use Rattle.shore_model.specs.Logs.{id_in}
use Rattle.laws_checkpoints.specs.Checkpoints.{end_among}
use Rattle.laws_lives.proofs.UndoRecords.{undone_grows}
use Rattle.shore_analysis.specs.Doubts.{doubts_left}
use Rattle.shore_analysis.specs.Padded.{padded}
use Rattle.laws_lives.specs.Recovery.{RecoveryState}
use Rattle.laws_lives.specs.Undo.{HasNoLosers}
use Rattle.laws_runs.specs.SlotCounts.{slots_left}
use Rattle.laws_heaps.proofs.SettledSlots.{shows_only, slots_done}
use Rattle.shore_analysis.specs.KeptMeant.{AreMeantKept}
use Rattle.shore_analysis.specs.KeptTables.{redo_table}
use Rattle.shore_analysis.specs.declared.kept_tables.RedoTable.{RedoTable}
use Rattle.shore_analysis.proofs.InTurn.{in_order_undone}
use Rattle.shore_analysis.proofs.Padding.{get_blank, get_number, length_padded}
use Rattle.shore_heap.specs.Heaps.{geometry_of}
use Rattle.shore_heap.specs.declared.heap.Heap.{Heap}
use Rattle.shore_log.specs.declared.device.LogDev.{LogDev}
use Rattle.shore_txn.specs.Transactions.{txns_in}
use Rattle.shore_txn.specs.declared.transactions.Transactions.{Transactions}
use Rattle.shore_restart.specs.declared.errors.RestartError.{RestartError}
use Rattle.shore_restart.specs.declared.errors.RestartError.TheVariants.{BadAnchor, BadRecord, Log, Memory, NoRoom, Page}
use Rattle.shore_restart.specs.declared.passes.Passed.{Passed}
use Rattle.shore_restart.specs.Anchors.{EndsBehind}
use Rattle.shore_restart.specs.AnyPages.{due_seen}
use Rattle.shore_restart.specs.Doubts.{changes_in_doubt, reserved_told}
use Rattle.shore_restart.specs.GivenBack.{AreGivenBack, CannotKeep, HasDoubts, PassesMove}
use Rattle.shore_restart.specs.Standing.{IsFound, Stands}
use Rattle.shore_restart.specs.Turns.{CannotUndo, IsMisfit, IsUndoneSoFar, TurnsFit, gone_on}
use Rattle.shore_restart.proofs.DoubtsAll.{changes_whole}
use Rattle.shore_restart.proofs.DoubtsKept.{same_reserved}
use Rattle.shore_restart.proofs.FoundStores.{nothing_moved, passes_stop}
use Rattle.shore_restart.proofs.KeptReads.{le_or_lt}
use Rattle.shore_restart.proofs.PageErrors.{err_with}
use Rattle.shore_restart.proofs.Redoing.{id_inside}
use Rattle.shore_restart.proofs.Unkept.{AreIn, are_told, entry_there, still_told, unkept}

-- ---- the log that was found

-- what is said of what was read is so of what the device has
pub found_as : (P : Geometry → ℕ → List LogRecord → Type 0) (g h : Geometry) (cut then : ℕ) (kept rs : List LogRecord) → h ≡ g → then ≡ cut → rs ≡ kept → P h then rs → P g cut kept
found_as P g h cut then kept rs geometry cuts same is =
    subst (λ (x : Geometry). P x cut kept) geometry (subst (λ (n : ℕ). P h n kept) cuts (subst (P h then) same is))

pub seen_by : (cut then : ℕ) (kept rs : List LogRecord) → then ≡ cut → rs ≡ kept → padded then rs ≡ padded cut kept
seen_by cut then kept rs cuts same = ap (λ (n : ℕ). padded n rs) cuts ∙ ap (padded cut) same

-- .. and the records that are due
pub due_by : (cut then checkpoint : ℕ) (kept rs : List LogRecord) (table : RedoTable) → then ≡ cut → rs ≡ kept → table ≡ redo_table (end_among checkpoint rs)
    → due_seen table then rs ≡ due_seen (redo_table (end_among checkpoint kept)) cut kept
due_by cut then checkpoint kept rs table cuts same is =
    ap (λ (t : RedoTable). due_seen t then rs) is ∙ ap (λ (n : ℕ). due_seen (redo_table (end_among checkpoint rs)) n rs) cuts ∙ ap (λ (l : List LogRecord). due_seen (redo_table (end_among checkpoint l)) cut l) same

-- its table, with another room
pub back_by : (log seen : List LogRecord) (old new : Transactions) → seen ≡ log → txns_in new ≡ txns_in old → HasDoubts seen old → HasDoubts log new
back_by log seen old new same txns back = subst (λ (l : List LogRecord). HasDoubts l new) same (subst (AreGivenBack seen (doubts_left seen)) (sym txns) back)

-- .. in which as much is reserved behind turns of undo
pub reserved_by : (log later : List LogRecord) (reserved then : ℕ) → IsUndoneSoFar log later → reserved ≡ reserved_told log → then ≡ reserved_told later → then ≡ reserved
reserved_by log later reserved then undone before behind = behind ∙ same_reserved log undone.0 later (in_order_undone log undone.0 later undone.1) ∙ sym before

-- what the kept records change lies in the geometry
pub in_seen : (g : Geometry) (cut : ℕ) (kept : List LogRecord) → AreMeantKept g cut kept → AreIn g (padded cut kept)
in_seen g cut kept meant n r id at is = ⊎_elim
    (λ low. absurd (no_id (ap (λ (o : Option LogRecord). id_or o) (sym (get_blank cut n kept (omega (arith, low))) ∙ at) ∙ is)))
    (λ high. id_inside g (cut + 1 + length (take (n - cut) kept)) r.payload id (meant (n - cut) r (there high)).now.bounds is)
    (le_or_lt (n + 1) cut)
  where
    id_or : Option LogRecord → Option Rid
    id_or None = None
    id_or (Some x) = id_in x.payload

    no_id : ◌≡◌ {A = Option Rid} None (Some id) → ⊥
    no_id none = cc

    there : cut < n + 1 → slice_get kept (n - cut) ≡ Some r
    there high =
        let back : n + 1 - 1 ≡ n = omega arith in
        let on : n + 1 - (cut + 1) ≡ n - cut = omega arith in
        ap (slice_get kept) (sym on) ∙ sym (get_number cut (n + 1) kept high) ∙ ap (slice_get (padded cut kept)) back ∙ at

-- the whole log has grown by the records that what is kept has grown by
drop_padded : (cut k : ℕ) (l : List LogRecord) → drop (cut + k) (padded cut l) ≡ drop k l
drop_padded zero k l = let same : 0 + k ≡ k = omega arith in ap (λ (n : ℕ). drop n l) same
drop_padded (suc n) k l = let same : suc n + k ≡ suc (n + k) = omega arith in ap (λ (m : ℕ). drop m (padded (suc n) l)) same ∙ drop_padded n k l

pub gone_whole : (whole later : List LogRecord) (cut : ℕ) (kept rest : List LogRecord) → cut ≤ length whole → drop cut whole ≡ kept → drop cut later ≡ rest → IsUndoneSoFar whole later
    → gone_on whole (padded cut kept) (padded cut rest) ≡ later
gone_whole whole later cut kept rest within same then undone =
    let grown = undone_grows whole undone.0 later (in_order_undone whole undone.0 later undone.1) in
    let xs = grown.0 in
    let rest_is : rest ≡ kept ++ xs = sym then ∙ ap (drop cut) grown.1 ∙ drop-append-le cut whole xs within ∙ ap (λ (l : List LogRecord). l ++ xs) same in
    let behind : drop (length (padded cut kept)) (padded cut rest) ≡ xs =
    ap (λ (n : ℕ). drop n (padded cut rest)) (length_padded cut kept) ∙ drop_padded cut (length kept) rest ∙ ap (drop (length kept)) rest_is ∙ drop-append_seam kept xs in
    ap (λ (l : List LogRecord). whole ++ l) behind ∙ sym grown.1

-- ---- the pages that undo leaves

module _ {V : Type 0} {H : Ghosts V} (front : List ℕ) (disk : ℕ → List ℕ) (heap : Heap V H) (s : RecoveryState) (stands : Stands front disk heap s) (redone : s.redone ≡ length s.log) where
  bare_left : (p : PageId) → HasPage (geometry_of heap) p → stands.slots p ≡ slots_left s.log p
  bare_left p has = shows_only heap disk s stands.store stands.settled front stands.slots stands.shows p has ∙ slots_done s p stands.recoverable (stands.store.done p) redone

  -- What finds no room there is an image that one in doubt may put back. What is kept of the store's log tells of them, behind the same turns.
  pub misfit_behind : (found seen : List LogRecord) (g : Geometry) (cut : ℕ) (kept : List LogRecord) (txns : Transactions) (n : ℕ) → IsUndoneSoFar found s.log → TurnsFit (geometry_of heap).version found s.log → HasNoLosers s.log
      → EndsBehind cut s.log → drop cut s.log ≡ kept → AreMeantKept g cut kept → IsUndoneSoFar seen (padded cut kept) → HasDoubts seen txns → geometry_of heap ≡ g → CannotKeep (geometry_of heap).version txns stands.slots n → IsMisfit (geometry_of heap).version found n
  misfit_behind found seen g cut kept txns n undone fit none ends same meant turns back geometry finds =
      let told = still_told seen turns.0 (padded cut kept) txns (in_order_undone seen turns.0 (padded cut kept) turns.1) (are_told seen txns back) in
      let whole : changes_in_doubt s.log ≡ changes_in_doubt (padded cut kept) =
      changes_whole g cut s.log ends (subst (AreMeantKept g cut) (sym same) meant) ∙ ap (λ (l : List LogRecord). changes_in_doubt (padded cut l)) same in
      inr (
        s.log,
        undone,
        fit,
        inr (
          none,
          unkept (geometry_of heap).version s.log txns (whole ∙ told) (geometry_of heap) stands.slots
              (λ e among. subst (λ (g : Geometry). HasPage g e.id.page) (sym geometry) (entry_there (geometry_of heap).version (padded cut kept) txns told g (in_seen g cut kept meant) e among)) bare_left n finds,
        ),
      )

pub misfit_turn : (v : Version) (found : List LogRecord) (n : ℕ) → (so_far : List LogRecord) × IsUndoneSoFar found so_far × TurnsFit v found so_far × CannotUndo v so_far n → IsMisfit v found n
misfit_turn v found n cannot = inr (cannot.0, cannot.1, cannot.2, inl cannot.3)

-- ---- before a device is called

module _ {L V : Type 0} {G : Ghosts L} {H : Ghosts V} (log_front front : List ℕ) (anchor : Anchor) (disk : ℕ → List ℕ) (log : LogDev L G) (heap : Heap V H) (s : RecoveryState) (found : IsFound log_front front anchor disk log heap s) where
  pub passes_none : (r : Result Passed RestartError) (e : RestartError) → r ≡ Err e → PassesMove r log_front front anchor log log heap heap s
  passes_none r e is = passes_stop log_front front anchor log heap s r e log heap (λ later. later ≡ s) is (nothing_moved log_front front anchor disk log heap s found r e (λ later. later ≡ s) is)

  pub passes_refused : (r : Result Passed RestartError) (e : RestartError) → IsErrAnd r (λ x. x ≡ e) → PassesMove r log_front front anchor log log heap heap s
  passes_refused r e is = passes_none r e (err_with r e is)

-- ---- errors that are of no device

abbrev pub IsOfNoDevice : RestartError → Type 0
IsOfNoDevice error = ((f : Fault) → error ≡ Page f → ⊥) × ((f : Fault) → error ≡ Log f → ⊥)

-- want of memory, or a record
pub by_record : {X : ℕ → Type 0} (e : RestartError) → (e ≡ Memory) ⊎ ((n : ℕ) × (e ≡ BadRecord n) × X n) → IsOfNoDevice e × (e ≡ NoRoom → ⊥)
by_record e (inl memory) = ((λ f is. let clash = sym memory ∙ is in absurd cc, λ f is. let clash = sym memory ∙ is in absurd cc), λ is. let clash = sym memory ∙ is in absurd cc)
by_record e (inr bad) = ((λ f is. let clash = sym bad.1 ∙ is in absurd cc, λ f is. let clash = sym bad.1 ∙ is in absurd cc), λ is. let clash = sym bad.1 ∙ is in absurd cc)

-- .. or of room
pub by_room : {X : Type 0} (e : RestartError) → (e ≡ Memory) ⊎ ((e ≡ NoRoom) × X) → IsOfNoDevice e × ((n : ℕ) → e ≡ BadRecord n → ⊥)
by_room e (inl memory) = ((λ f is. let clash = sym memory ∙ is in absurd cc, λ f is. let clash = sym memory ∙ is in absurd cc), λ n is. let clash = sym memory ∙ is in absurd cc)
by_room e (inr room) = ((λ f is. let clash = sym room.0 ∙ is in absurd cc, λ f is. let clash = sym room.0 ∙ is in absurd cc), λ n is. let clash = sym room.0 ∙ is in absurd cc)

pub no_anchor_room : {X : Type 0} (e : RestartError) → (e ≡ Memory) ⊎ ((e ≡ NoRoom) × X) → e ≡ BadAnchor → ⊥
no_anchor_room e (inl memory) is = let clash = sym memory ∙ is in cc
no_anchor_room e (inr room) is = let clash = sym room.0 ∙ is in cc

-- an error that was passed on, and is not such a one
pub no_page : {A : Type 0} (P : Fault → Type 0) (r : Result A RestartError) (e : RestartError) → IsErrAnd r (λ x. x ≡ e) → ((f : Fault) → e ≡ Page f → ⊥) → IfErr r (λ error. (f : Fault) → error ≡ Page f → P f)
no_page P (Ok x) e is none = tt
no_page P (Err x) e is none = λ f page. absurd (none f (sym is ∙ page))

pub no_record : {A : Type 0} (P : ℕ → Type 0) (r : Result A RestartError) (e : RestartError) → IsErrAnd r (λ x. x ≡ e) → ((n : ℕ) → e ≡ BadRecord n → ⊥) → IfErr r (λ error. (n : ℕ) → error ≡ BadRecord n → P n)
no_record P (Ok x) e is none = tt
no_record P (Err x) e is none = λ n bad. absurd (none n (sym is ∙ bad))
