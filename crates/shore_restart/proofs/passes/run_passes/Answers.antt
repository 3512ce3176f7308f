use Rattle.std.proofs.Common.{length, Ok, ◌≡◌, ◌+◌, ◌-◌, ◌<◌, ◌≤◌, ℕ, List, [], Err, true, false, inl, inr, refl, sym, ap, subst, ◌∙◌, drop, arith}
use Rattle.std.specs.Prelude.{IsPermutation, IsSome, filter}
use Rattle.shore_dwrite.proofs.Moves.{if_err}
use Rattle.shore_types.specs.Layout.{HasPage}
use Rattle.shore_types.specs.declared.faults.Fault.{Fault}
use Rattle.shore_types.specs.declared.faults.Fault.TheVariants as fault
use Rattle.shore_locks.specs.Tables.{Table}
use Rattle.shore_txn.specs.ActiveTxns.{all_changes}
use Rattle.shore_txn.specs.Transactions.{next_in, room_in, txns_in}
use Rattle.shore_txn.specs.declared.log_room.LogRoom.{LogRoom}
use Rattle.shore_txn.specs.declared.transactions.Transactions.{Transactions}
use Rattle.shore_types.specs.declared.layout.Geometry.{Geometry}
use Rattle.shore_model.specs.declared.log_records.LogRecord.{LogRecord}
use Rattle.shore_model.specs.declared.log_records.LogTxn.{LogTxn}
use Rattle.shore_model.specs.Logs.{IsTable, is_prepared}
use Rattle.shore_log.specs.Settled.{cut_of_log, records_of_log}
use Rattle.shore_heap.specs.Heaps.{faults_of, geometry_of}
use Rattle.laws_checkpoints.specs.Checkpoints.{end_among}
use Rattle.laws_checkpoints.specs.KeptTables.{IsKeptTable}
use Rattle.shore_analysis.specs.Doubts.{doubts_left}
use Rattle.shore_analysis.specs.AnchoredMeant.{AreMeantAnchored, IsFirstUnmeantAnchored}
use Rattle.shore_analysis.specs.KeptMeant.{AreMeantKept}
use Rattle.shore_analysis.specs.KeptTables.{AreKeptTables, IsNextKept}
use Rattle.shore_analysis.specs.Padded.{padded}
use Rattle.shore_analysis.proofs.InTurn.{in_order_undone}
use Rattle.shore_analysis.proofs.Padding.{length_padded}
use Rattle.shore_restart.specs.Anchors.{HasCheckpoint}
use Rattle.shore_restart.specs.declared.errors.RestartError.TheVariants.{BadAnchor, BadRecord, Memory, NoRoom, Page}
use Rattle.shore_restart.specs.Doubts.{AreEntriesOfDoubts, CanHold, CannotHold, reserved_told}
use Rattle.shore_restart.specs.GivenBack.{AreOfPage, CanKeepOn, CannotKeepOn, HasDoubts, HasLocksBack}
use Rattle.shore_restart.specs.Room.{HasSums, IsRoomBehind}
use Rattle.shore_restart.specs.Held.{IsHeld, IsPageFault, StaysHeld, WorksHeld}
use Rattle.shore_restart.specs.Standing.{log_faults, log_history, log_seen, stream_bytes_of}
use Rattle.shore_restart.specs.declared.passes.Passed.{Passed}
use Rattle.shore_restart.proofs.Causes.{no_log_cause}
use Rattle.shore_restart.proofs.LogErrors.{passed_log_cause}
use Rattle.shore_restart.specs.Turns.{IsBadRecord, IsMisfit, IsUndoneSoFar, LacksRoom, TurnsFit, gone_on}
use Rattle.shore_restart.specs.AnyPages.{AllFindRoom, AreOnPage, FindsNoRoomToUndo, IsBadOn, IsMisfitOn, MayBeUndoneOnPage, MayRead, NoneMisfitsOn, due_seen}
use Rattle.shore_restart.proofs.BadNumbers.{cannot_within, one_number, unmeant_within}
use Rattle.shore_restart.proofs.FoundStores.{all_durable, come_redone, come_undone, found_covered, found_to_redo, keep_done, keep_stops, passes_stop, redo_stopped}
use Rattle.shore_restart.proofs.HeldPages.{fault_back, fault_wider, held_behind, held_then}
use Rattle.shore_restart.proofs.PageErrors.{err_with, passed_cause}
use Rattle.shore_restart.proofs.Passing.{back_by, by_record, by_room, due_by, found_as, gone_whole, in_seen, misfit_behind, misfit_turn, no_anchor_room, no_page, no_record, passes_none, passes_refused, reserved_by, seen_by}
use Rattle.shore_restart.proofs.QuietLogs.{quiet_beside, quiet_err, quiet_of, quiet_other}
use Rattle.shore_restart.proofs.RedoStart.{due_long}
use Rattle.shore_restart.proofs.RoomLeft.{are_entries, as_many_doubts, none_left, none_numbered, none_reserved, room_reserved}
use Rattle.shore_restart.proofs.Undoing.{come_stop}
use Rattle.shore_restart.proofs.Unkept.{are_told, entry_behind, entry_in_doubt, entry_there, entry_within, kept_on, still_told, unkept_on}
use Rattle.shore_restart.proofs.WholeLogs.{whole_quiet}
use Rattle.shore_restart.proofs.passes.run_passes.Goals as goal

-- ---- the records

pub returns-in_err-kept-clause-moves : goal.returns-in_err-kept-clause-moves
returns-in_err-kept-clause-moves g c log_front front anchor disk s of_anchor found =
    passes_refused log_front front anchor disk c.args.log.now c.args.heap.now s found c.from_residual.result c.in_err-kept.field-0.0 c.from_residual.ensures.1

pub returns-in_err-kept-clause-bad : goal.returns-in_err-kept-clause-bad
returns-in_err-kept-clause-bad g c log_front front anchor disk s of_anchor found =
    no_record (λ n. IsBadRecord (geometry_of c.args.heap.now) (cut_of_log c.args.log.now) c.args.checkpoint (records_of_log c.args.log.now) s.log n) c.from_residual.result c.in_err-kept.field-0.0 c.from_residual.ensures.1 (λ n is. let clash = sym c.in_err-kept.ensures.refused ∙ is in absurd cc)

pub returns-in_err-kept-clause-bad_number : goal.returns-in_err-kept-clause-bad_number
returns-in_err-kept-clause-bad_number g c =
    no_record (λ n. ((cut_of_log c.args.log.now) < n) × (n ≤ length (log_seen c.args.log.now))) c.from_residual.result c.in_err-kept.field-0.0 c.from_residual.ensures.1 (λ n is. let clash = sym c.in_err-kept.ensures.refused ∙ is in absurd cc)

pub returns-in_err-kept-clause-any_bad : goal.returns-in_err-kept-clause-any_bad
returns-in_err-kept-clause-any_bad g c front first disk held =
    no_record (IsBadOn (geometry_of c.args.heap.now) first (cut_of_log c.args.log.now) c.args.checkpoint (records_of_log c.args.log.now)) c.from_residual.result c.in_err-kept.field-0.0 c.from_residual.ensures.1 (λ n is. let clash = sym c.in_err-kept.ensures.refused ∙ is in absurd cc)

pub returns-in_err-kept-clause-meant : goal.returns-in_err-kept-clause-meant
returns-in_err-kept-clause-meant g c =
    if_err c.from_residual.result c.from_residual.ensures.1 (λ error same some. absurd (some (same ∙ c.in_err-kept.ensures.refused)))

pub returns-in_err-kept-clause-device : goal.returns-in_err-kept-clause-device
returns-in_err-kept-clause-device g c log_front front anchor disk s of_anchor found =
    no_page (λ f. f ≡ fault.Device) c.from_residual.result c.in_err-kept.field-0.0 c.from_residual.ensures.1 (λ f is. let clash = sym c.in_err-kept.ensures.refused ∙ is in absurd cc)

pub returns-in_err-kept-clause-any_pages : goal.returns-in_err-kept-clause-any_pages
returns-in_err-kept-clause-any_pages g c front first disk held =
    no_page (IsPageFault (geometry_of c.args.heap.now) (MayRead (cut_of_log c.args.log.now) c.args.checkpoint (records_of_log c.args.log.now)) disk (length (log_seen c.args.log.now))) c.from_residual.result c.in_err-kept.field-0.0 c.from_residual.ensures.1 (λ f is. let clash = sym c.in_err-kept.ensures.refused ∙ is in absurd cc)

pub returns-in_err-kept-clause-log_device : goal.returns-in_err-kept-clause-log_device
returns-in_err-kept-clause-log_device g c log_front quiet =
    quiet_other log_front c.args.log.now c.args.log.now c.args.log.now (omega arith) c.from_residual.result c.in_err-kept.field-0.0 c.from_residual.ensures.1 (λ f is. let clash = sym c.in_err-kept.ensures.refused ∙ is in absurd cc) quiet (omega arith)

pub returns-in_err-kept-clause-no_room : goal.returns-in_err-kept-clause-no_room
returns-in_err-kept-clause-no_room g c =
    if_err c.from_residual.result c.from_residual.ensures.1 (λ error same is. let clash = sym c.in_err-kept.ensures.refused ∙ sym same ∙ is in absurd cc)

-- ---- the anchor

pub returns-then-not-is_whole-clause-moves : goal.returns-then-not-is_whole-clause-moves
returns-then-not-is_whole-clause-moves g c log_front front anchor disk s of_anchor found =
    passes_none log_front front anchor disk c.args.log.now c.args.heap.now s found (Err BadAnchor) BadAnchor refl

pub returns-then-not-is_whole-clause-meant : goal.returns-then-not-is_whole-clause-meant
returns-then-not-is_whole-clause-meant g c some =
    inl (refl, λ has. let yes = c.is_whole.ensures.1 (found_as (λ g cut kept. HasCheckpoint cut c.args.checkpoint kept) (geometry_of c.args.heap.now) (geometry_of c.args.heap.now) c.cut_off-cut.result (cut_of_log c.args.log.now) c.in_ok-kept.kept.now (records_of_log c.args.log.now) refl (sym c.cut_off-cut.ensures) (sym c.in_ok-kept.ensures.found) has) in let clash : true ≡ false = sym yes ∙ c.if-not-is_whole.true in cc)

pub returns-then-not-is_whole-clause-bad : goal.returns-then-not-is_whole-clause-bad
returns-then-not-is_whole-clause-bad g c log_front front anchor disk s of_anchor found n is =
    let clash : BadAnchor ≡ BadRecord n = is in absurd cc

pub returns-then-not-is_whole-clause-bad_number : goal.returns-then-not-is_whole-clause-bad_number
returns-then-not-is_whole-clause-bad_number g c n is =
    let clash : BadAnchor ≡ BadRecord n = is in absurd cc

pub returns-then-not-is_whole-clause-any_bad : goal.returns-then-not-is_whole-clause-any_bad
returns-then-not-is_whole-clause-any_bad g c front first disk held n is =
    let clash : BadAnchor ≡ BadRecord n = is in absurd cc

pub returns-then-not-is_whole-clause-no_room : goal.returns-then-not-is_whole-clause-no_room
returns-then-not-is_whole-clause-no_room g c is =
    let clash : BadAnchor ≡ NoRoom = is in absurd cc

pub returns-then-not-is_whole-clause-device : goal.returns-then-not-is_whole-clause-device
returns-then-not-is_whole-clause-device g c log_front front anchor disk s of_anchor found f is =
    let clash : BadAnchor ≡ Page f = is in absurd cc

pub returns-then-not-is_whole-clause-any_pages : goal.returns-then-not-is_whole-clause-any_pages
returns-then-not-is_whole-clause-any_pages g c front first disk held f page =
    absurd cc

pub returns-then-not-is_whole-clause-log_device : goal.returns-then-not-is_whole-clause-log_device
returns-then-not-is_whole-clause-log_device g c log_front quiet =
    quiet_beside log_front c.args.log.now c.args.log.now _ (λ f is. cc) quiet (omega arith)

-- ---- analysis

pub tables_of-requires : goal.tables_of-requires
tables_of-requires g c =
    let below = c.args.log.now.tail_number in let is = c.cut_off-cut.ensures in let some = c.args.log.now.gone_below in omega (arith, below, is, some)

pub returns-in_err-tables-clause-moves : goal.returns-in_err-tables-clause-moves
returns-in_err-tables-clause-moves g c log_front front anchor disk s of_anchor found =
    passes_refused log_front front anchor disk c.args.log.now c.args.heap.now s found c.from_residual-in_err-tables.result c.in_err-tables.field-0.0 c.from_residual-in_err-tables.ensures.1

pub returns-in_err-tables-clause-meant : goal.returns-in_err-tables-clause-meant
returns-in_err-tables-clause-meant g c =
    if_err c.from_residual-in_err-tables.result c.from_residual-in_err-tables.ensures.1 (λ error same some. elim c.in_err-tables.ensures.refused [
      | inl memory ↦ absurd (some (same ∙ memory))
      | inr bad ↦ inr ((found_as (λ g cut kept. HasCheckpoint cut c.args.checkpoint kept) (geometry_of c.args.heap.now) (geometry_of c.args.heap.now) (cut_of_log c.args.log.now) c.cut_off-cut.result (records_of_log c.args.log.now) c.in_ok-kept.kept.now refl c.cut_off-cut.ensures c.in_ok-kept.ensures.found (c.is_whole.ensures.0 c.if-not-is_whole.false)), λ is. let clash = sym bad.1 ∙ sym same ∙ is in cc, inr (bad.0, same ∙ bad.1, inl (found_as (λ g cut kept. IsFirstUnmeantAnchored g cut c.args.checkpoint kept bad.0) (geometry_of c.args.heap.now) c.geometry.result.now (cut_of_log c.args.log.now) c.cut_off-cut.result (records_of_log c.args.log.now) c.in_ok-kept.kept.now c.geometry.ensures c.cut_off-cut.ensures c.in_ok-kept.ensures.found (bad.2))))
    ])

pub returns-in_err-tables-clause-device : goal.returns-in_err-tables-clause-device
returns-in_err-tables-clause-device g c log_front front anchor disk s of_anchor found =
    no_page (λ f. f ≡ fault.Device) c.from_residual-in_err-tables.result c.in_err-tables.field-0.0 c.from_residual-in_err-tables.ensures.1 ((by_record c.in_err-tables.field-0.0 c.in_err-tables.ensures.refused).0.0)

pub returns-in_err-tables-clause-any_pages : goal.returns-in_err-tables-clause-any_pages
returns-in_err-tables-clause-any_pages g c front first disk held =
    no_page (IsPageFault (geometry_of c.args.heap.now) (MayRead (cut_of_log c.args.log.now) c.args.checkpoint (records_of_log c.args.log.now)) disk (length (log_seen c.args.log.now))) c.from_residual-in_err-tables.result c.in_err-tables.field-0.0 c.from_residual-in_err-tables.ensures.1 ((by_record c.in_err-tables.field-0.0 c.in_err-tables.ensures.refused).0.0)

pub returns-in_err-tables-clause-log_device : goal.returns-in_err-tables-clause-log_device
returns-in_err-tables-clause-log_device g c log_front quiet =
    quiet_other log_front c.args.log.now c.args.log.now c.args.log.now (omega arith) c.from_residual-in_err-tables.result c.in_err-tables.field-0.0 c.from_residual-in_err-tables.ensures.1 ((by_record c.in_err-tables.field-0.0 c.in_err-tables.ensures.refused).0.1) quiet (omega arith)

pub returns-in_err-tables-clause-bad : goal.returns-in_err-tables-clause-bad
returns-in_err-tables-clause-bad g c log_front front anchor disk s of_anchor found =
    if_err c.from_residual-in_err-tables.result c.from_residual-in_err-tables.ensures.1 (λ error same n is. elim c.in_err-tables.ensures.refused [
      | inl memory ↦ let clash = sym memory ∙ sym same ∙ is in absurd cc
      | inr bad ↦ inl (inl (subst (λ (k : ℕ). IsFirstUnmeantAnchored (geometry_of c.args.heap.now) (cut_of_log c.args.log.now) c.args.checkpoint (records_of_log c.args.log.now) k) (one_number bad.0 n (sym bad.1 ∙ sym same ∙ is)) (found_as (λ g cut kept. IsFirstUnmeantAnchored g cut c.args.checkpoint kept bad.0) (geometry_of c.args.heap.now) c.geometry.result.now (cut_of_log c.args.log.now) c.cut_off-cut.result (records_of_log c.args.log.now) c.in_ok-kept.kept.now c.geometry.ensures c.cut_off-cut.ensures c.in_ok-kept.ensures.found (bad.2))))
    ])

pub returns-in_err-tables-clause-any_bad : goal.returns-in_err-tables-clause-any_bad
returns-in_err-tables-clause-any_bad g c front first disk held =
    if_err c.from_residual-in_err-tables.result c.from_residual-in_err-tables.ensures.1 (λ error same n is. elim c.in_err-tables.ensures.refused [
      | inl memory ↦ let clash = sym memory ∙ sym same ∙ is in absurd cc
      | inr bad ↦ inl (inl (subst (λ (k : ℕ). IsFirstUnmeantAnchored (geometry_of c.args.heap.now) (cut_of_log c.args.log.now) c.args.checkpoint (records_of_log c.args.log.now) k) (one_number bad.0 n (sym bad.1 ∙ sym same ∙ is)) (found_as (λ g cut kept. IsFirstUnmeantAnchored g cut c.args.checkpoint kept bad.0) (geometry_of c.args.heap.now) c.geometry.result.now (cut_of_log c.args.log.now) c.cut_off-cut.result (records_of_log c.args.log.now) c.in_ok-kept.kept.now c.geometry.ensures c.cut_off-cut.ensures c.in_ok-kept.ensures.found (bad.2))))
    ])

pub returns-in_err-tables-clause-bad_number : goal.returns-in_err-tables-clause-bad_number
returns-in_err-tables-clause-bad_number g c =
    if_err c.from_residual-in_err-tables.result c.from_residual-in_err-tables.ensures.1 (λ error same n is. elim c.in_err-tables.ensures.refused [
      | inl memory ↦ let clash = sym memory ∙ sym same ∙ is in absurd cc
      | inr bad ↦
          let number : bad.0 ≡ n = one_number bad.0 n (sym bad.1 ∙ sym same ∙ is) in
          let within = unmeant_within (geometry_of c.args.heap.now) (cut_of_log c.args.log.now) c.args.checkpoint (records_of_log c.args.log.now) bad.0 (found_as (λ g cut kept. IsFirstUnmeantAnchored g cut c.args.checkpoint kept bad.0) (geometry_of c.args.heap.now) c.geometry.result.now (cut_of_log c.args.log.now) c.cut_off-cut.result (records_of_log c.args.log.now) c.in_ok-kept.kept.now c.geometry.ensures c.cut_off-cut.ensures c.in_ok-kept.ensures.found (bad.2)) in
          let some = within.0 in
          let most = within.1 in
          (omega (arith, number, some), omega (arith, number, most))
    ])

pub returns-in_err-tables-clause-no_room : goal.returns-in_err-tables-clause-no_room
returns-in_err-tables-clause-no_room g c =
    if_err c.from_residual-in_err-tables.result c.from_residual-in_err-tables.ensures.1 (λ error same is. absurd ((by_record c.in_err-tables.field-0.0 c.in_err-tables.ensures.refused).1 (sym same ∙ is)))

-- ---- those in doubt

pub returns-in_err-doubts-clause-moves : goal.returns-in_err-doubts-clause-moves
returns-in_err-doubts-clause-moves g c log_front front anchor disk s of_anchor found =
    passes_refused log_front front anchor disk c.args.log.now c.args.heap.now s found c.from_residual-in_err-doubts.result Memory c.from_residual-in_err-doubts.ensures.1

pub returns-in_err-doubts-clause-bad : goal.returns-in_err-doubts-clause-bad
returns-in_err-doubts-clause-bad g c log_front front anchor disk s of_anchor found =
    no_record (λ n. IsBadRecord (geometry_of c.args.heap.now) (cut_of_log c.args.log.now) c.args.checkpoint (records_of_log c.args.log.now) s.log n) c.from_residual-in_err-doubts.result Memory c.from_residual-in_err-doubts.ensures.1 (λ n is. cc)

pub returns-in_err-doubts-clause-bad_number : goal.returns-in_err-doubts-clause-bad_number
returns-in_err-doubts-clause-bad_number g c =
    no_record (λ n. ((cut_of_log c.args.log.now) < n) × (n ≤ length (log_seen c.args.log.now))) c.from_residual-in_err-doubts.result Memory c.from_residual-in_err-doubts.ensures.1 (λ n is. cc)

pub returns-in_err-doubts-clause-any_bad : goal.returns-in_err-doubts-clause-any_bad
returns-in_err-doubts-clause-any_bad g c front first disk held =
    no_record (IsBadOn (geometry_of c.args.heap.now) first (cut_of_log c.args.log.now) c.args.checkpoint (records_of_log c.args.log.now)) c.from_residual-in_err-doubts.result Memory c.from_residual-in_err-doubts.ensures.1 (λ n is. cc)

pub returns-in_err-doubts-clause-meant : goal.returns-in_err-doubts-clause-meant
returns-in_err-doubts-clause-meant g c =
    if_err c.from_residual-in_err-doubts.result c.from_residual-in_err-doubts.ensures.1 (λ error same some. absurd (some same))

pub returns-in_err-doubts-clause-device : goal.returns-in_err-doubts-clause-device
returns-in_err-doubts-clause-device g c log_front front anchor disk s of_anchor found =
    no_page (λ f. f ≡ fault.Device) c.from_residual-in_err-doubts.result Memory c.from_residual-in_err-doubts.ensures.1 (λ f is. cc)

pub returns-in_err-doubts-clause-any_pages : goal.returns-in_err-doubts-clause-any_pages
returns-in_err-doubts-clause-any_pages g c front first disk held =
    no_page (IsPageFault (geometry_of c.args.heap.now) (MayRead (cut_of_log c.args.log.now) c.args.checkpoint (records_of_log c.args.log.now)) disk (length (log_seen c.args.log.now))) c.from_residual-in_err-doubts.result Memory c.from_residual-in_err-doubts.ensures.1 (λ f is. cc)

pub returns-in_err-doubts-clause-log_device : goal.returns-in_err-doubts-clause-log_device
returns-in_err-doubts-clause-log_device g c log_front quiet =
    quiet_other log_front c.args.log.now c.args.log.now c.args.log.now (omega arith) c.from_residual-in_err-doubts.result Memory c.from_residual-in_err-doubts.ensures.1 (λ f is. cc) quiet (omega arith)

-- ---- their locks

pub locks_of-requires-clause-meant : goal.locks_of-requires-clause-meant
locks_of-requires-clause-meant g c =
    found_as AreMeantKept c.geometry-2.result.now c.geometry.result.now c.cut_off-cut.result c.cut_off-cut.result c.in_ok-kept.kept.now c.in_ok-kept.kept.now (c.geometry.ensures ∙ sym c.geometry-2.ensures) refl refl c.in_ok-tables.ensures.meant

pub locks_of-requires-clause-doubts : goal.locks_of-requires-clause-doubts
locks_of-requires-clause-doubts g c =
    let listed : IsKeptTable c.cut_off-cut.result c.in_ok-kept.kept.now c.as_slice.result.now = subst (IsKeptTable c.cut_off-cut.result c.in_ok-kept.kept.now) (sym c.as_slice.ensures) c.in_ok-tables.ensures.tables.txns in
    subst (AreEntriesOfDoubts (padded c.cut_off-cut.result c.in_ok-kept.kept.now)) (sym c.deref.ensures.value)
    (are_entries (padded c.cut_off-cut.result c.in_ok-kept.kept.now) c.in_ok-tables.tables.txns _ c.in_ok-tables.ensures.txns (subst (λ (txns : List LogTxn). IsPermutation (filter (λ e. is_prepared e.state) txns) c.in_ok-doubts.doubts.items) c.as_slice.ensures c.in_ok-doubts.ensures.entries)
    (c.in_ok-doubts.ensures.left_order c.geometry.result.now c.cut_off-cut.result c.in_ok-kept.kept.now c.in_ok-tables.ensures.meant listed))

pub returns-in_err-locks-clause-moves : goal.returns-in_err-locks-clause-moves
returns-in_err-locks-clause-moves g c log_front front anchor disk s of_anchor found =
    passes_refused log_front front anchor disk c.args.log.now c.args.heap.now s found c.from_residual-in_err-locks.result c.in_err-locks.field-0.0 c.from_residual-in_err-locks.ensures.1

pub returns-in_err-locks-clause-meant : goal.returns-in_err-locks-clause-meant
returns-in_err-locks-clause-meant g c =
    if_err c.from_residual-in_err-locks.result c.from_residual-in_err-locks.ensures.1 (λ error same some. elim c.in_err-locks.ensures.refused [
      | inl memory ↦ absurd (some (same ∙ memory))
      | inr bad ↦ inr ((found_as (λ g cut kept. HasCheckpoint cut c.args.checkpoint kept) (geometry_of c.args.heap.now) (geometry_of c.args.heap.now) (cut_of_log c.args.log.now) c.cut_off-cut.result (records_of_log c.args.log.now) c.in_ok-kept.kept.now refl c.cut_off-cut.ensures c.in_ok-kept.ensures.found (c.is_whole.ensures.0 c.if-not-is_whole.false)), λ is. let clash = sym bad.1 ∙ sym same ∙ is in cc, inr (bad.0, same ∙ bad.1, inr ((found_as (λ g cut kept. AreMeantAnchored g cut c.args.checkpoint kept) (geometry_of c.args.heap.now) c.geometry.result.now (cut_of_log c.args.log.now) c.cut_off-cut.result (records_of_log c.args.log.now) c.in_ok-kept.kept.now c.geometry.ensures c.cut_off-cut.ensures c.in_ok-kept.ensures.found (c.in_ok-tables.ensures.anchored)), found_as (λ g cut kept. CannotHold g.max_locks (padded cut kept) bad.0) (geometry_of c.args.heap.now) c.geometry-2.result.now (cut_of_log c.args.log.now) c.cut_off-cut.result (records_of_log c.args.log.now) c.in_ok-kept.kept.now c.geometry-2.ensures c.cut_off-cut.ensures c.in_ok-kept.ensures.found (bad.2))))
    ])

pub returns-in_err-locks-clause-device : goal.returns-in_err-locks-clause-device
returns-in_err-locks-clause-device g c log_front front anchor disk s of_anchor found =
    no_page (λ f. f ≡ fault.Device) c.from_residual-in_err-locks.result c.in_err-locks.field-0.0 c.from_residual-in_err-locks.ensures.1 ((by_record c.in_err-locks.field-0.0 c.in_err-locks.ensures.refused).0.0)

pub returns-in_err-locks-clause-any_pages : goal.returns-in_err-locks-clause-any_pages
returns-in_err-locks-clause-any_pages g c front first disk held =
    no_page (IsPageFault (geometry_of c.args.heap.now) (MayRead (cut_of_log c.args.log.now) c.args.checkpoint (records_of_log c.args.log.now)) disk (length (log_seen c.args.log.now))) c.from_residual-in_err-locks.result c.in_err-locks.field-0.0 c.from_residual-in_err-locks.ensures.1 ((by_record c.in_err-locks.field-0.0 c.in_err-locks.ensures.refused).0.0)

pub returns-in_err-locks-clause-log_device : goal.returns-in_err-locks-clause-log_device
returns-in_err-locks-clause-log_device g c log_front quiet =
    quiet_other log_front c.args.log.now c.args.log.now c.args.log.now (omega arith) c.from_residual-in_err-locks.result c.in_err-locks.field-0.0 c.from_residual-in_err-locks.ensures.1 ((by_record c.in_err-locks.field-0.0 c.in_err-locks.ensures.refused).0.1) quiet (omega arith)

pub returns-in_err-locks-clause-bad : goal.returns-in_err-locks-clause-bad
returns-in_err-locks-clause-bad g c log_front front anchor disk s of_anchor found =
    if_err c.from_residual-in_err-locks.result c.from_residual-in_err-locks.ensures.1 (λ error same n is. elim c.in_err-locks.ensures.refused [
      | inl memory ↦ let clash = sym memory ∙ sym same ∙ is in absurd cc
      | inr bad ↦ inl (inr ((found_as (λ g cut kept. AreMeantAnchored g cut c.args.checkpoint kept) (geometry_of c.args.heap.now) c.geometry.result.now (cut_of_log c.args.log.now) c.cut_off-cut.result (records_of_log c.args.log.now) c.in_ok-kept.kept.now c.geometry.ensures c.cut_off-cut.ensures c.in_ok-kept.ensures.found (c.in_ok-tables.ensures.anchored)), subst (λ (k : ℕ). CannotHold (geometry_of c.args.heap.now).max_locks (padded (cut_of_log c.args.log.now) (records_of_log c.args.log.now)) k) (one_number bad.0 n (sym bad.1 ∙ sym same ∙ is)) (found_as (λ g cut kept. CannotHold g.max_locks (padded cut kept) bad.0) (geometry_of c.args.heap.now) c.geometry-2.result.now (cut_of_log c.args.log.now) c.cut_off-cut.result (records_of_log c.args.log.now) c.in_ok-kept.kept.now c.geometry-2.ensures c.cut_off-cut.ensures c.in_ok-kept.ensures.found (bad.2))))
    ])

pub returns-in_err-locks-clause-any_bad : goal.returns-in_err-locks-clause-any_bad
returns-in_err-locks-clause-any_bad g c front first disk held =
    if_err c.from_residual-in_err-locks.result c.from_residual-in_err-locks.ensures.1 (λ error same n is. elim c.in_err-locks.ensures.refused [
      | inl memory ↦ let clash = sym memory ∙ sym same ∙ is in absurd cc
      | inr bad ↦ inl (inr ((found_as (λ g cut kept. AreMeantAnchored g cut c.args.checkpoint kept) (geometry_of c.args.heap.now) c.geometry.result.now (cut_of_log c.args.log.now) c.cut_off-cut.result (records_of_log c.args.log.now) c.in_ok-kept.kept.now c.geometry.ensures c.cut_off-cut.ensures c.in_ok-kept.ensures.found (c.in_ok-tables.ensures.anchored)), subst (λ (k : ℕ). CannotHold (geometry_of c.args.heap.now).max_locks (padded (cut_of_log c.args.log.now) (records_of_log c.args.log.now)) k) (one_number bad.0 n (sym bad.1 ∙ sym same ∙ is)) (found_as (λ g cut kept. CannotHold g.max_locks (padded cut kept) bad.0) (geometry_of c.args.heap.now) c.geometry-2.result.now (cut_of_log c.args.log.now) c.cut_off-cut.result (records_of_log c.args.log.now) c.in_ok-kept.kept.now c.geometry-2.ensures c.cut_off-cut.ensures c.in_ok-kept.ensures.found (bad.2))))
    ])

pub returns-in_err-locks-clause-bad_number : goal.returns-in_err-locks-clause-bad_number
returns-in_err-locks-clause-bad_number g c =
    if_err c.from_residual-in_err-locks.result c.from_residual-in_err-locks.ensures.1 (λ error same n is. elim c.in_err-locks.ensures.refused [
      | inl memory ↦ let clash = sym memory ∙ sym same ∙ is in absurd cc
      | inr bad ↦
          let number : bad.0 ≡ n = one_number bad.0 n (sym bad.1 ∙ sym same ∙ is) in
          let within = cannot_within (geometry_of c.args.heap.now) (geometry_of c.args.heap.now).max_locks (cut_of_log c.args.log.now) (records_of_log c.args.log.now) bad.0 (found_as (AreMeantKept) (geometry_of c.args.heap.now) c.geometry.result.now (cut_of_log c.args.log.now) c.cut_off-cut.result (records_of_log c.args.log.now) c.in_ok-kept.kept.now c.geometry.ensures c.cut_off-cut.ensures c.in_ok-kept.ensures.found (c.in_ok-tables.ensures.meant)) (found_as (λ g cut kept. CannotHold g.max_locks (padded cut kept) bad.0) (geometry_of c.args.heap.now) c.geometry-2.result.now (cut_of_log c.args.log.now) c.cut_off-cut.result (records_of_log c.args.log.now) c.in_ok-kept.kept.now c.geometry-2.ensures c.cut_off-cut.ensures c.in_ok-kept.ensures.found (bad.2)) in
          let some = within.0 in
          let most = within.1 in
          (omega (arith, number, some), omega (arith, number, most))
    ])

pub returns-in_err-locks-clause-no_room : goal.returns-in_err-locks-clause-no_room
returns-in_err-locks-clause-no_room g c =
    if_err c.from_residual-in_err-locks.result c.from_residual-in_err-locks.ensures.1 (λ error same is. absurd ((by_record c.in_err-locks.field-0.0 c.in_err-locks.ensures.refused).1 (sym same ∙ is)))

-- ---- the room of the log

pub room_of-requires : goal.room_of-requires
room_of-requires g c =
    c.in_ok-kept.ensures.fit

pub returns-in_default-clause-moves : goal.returns-in_default-clause-moves
returns-in_default-clause-moves g c log_front front anchor disk s of_anchor found =
    passes_none log_front front anchor disk c.args.log.now c.args.heap.now s found (Err NoRoom) NoRoom refl

pub returns-in_default-clause-meant : goal.returns-in_default-clause-meant
returns-in_default-clause-meant g c some =
    inr ((found_as (λ g cut kept. HasCheckpoint cut c.args.checkpoint kept) (geometry_of c.args.heap.now) (geometry_of c.args.heap.now) (cut_of_log c.args.log.now) c.cut_off-cut.result (records_of_log c.args.log.now) c.in_ok-kept.kept.now refl c.cut_off-cut.ensures c.in_ok-kept.ensures.found (c.is_whole.ensures.0 c.if-not-is_whole.false)), λ is. (let clash : NoRoom ≡ BadAnchor = is in cc), inl ((found_as (λ g cut kept. AreMeantAnchored g cut c.args.checkpoint kept) (geometry_of c.args.heap.now) c.geometry.result.now (cut_of_log c.args.log.now) c.cut_off-cut.result (records_of_log c.args.log.now) c.in_ok-kept.kept.now c.geometry.ensures c.cut_off-cut.ensures c.in_ok-kept.ensures.found (c.in_ok-tables.ensures.anchored)), (found_as (λ g cut kept. CanHold g.max_locks (doubts_left (padded cut kept))) (geometry_of c.args.heap.now) c.geometry-2.result.now (cut_of_log c.args.log.now) c.cut_off-cut.result (records_of_log c.args.log.now) c.in_ok-kept.kept.now c.geometry-2.ensures c.cut_off-cut.ensures c.in_ok-kept.ensures.found (c.in_ok-locks.ensures.hold))))

pub returns-in_default-clause-bad : goal.returns-in_default-clause-bad
returns-in_default-clause-bad g c log_front front anchor disk s of_anchor found n is =
    let clash : NoRoom ≡ BadRecord n = is in absurd cc

pub returns-in_default-clause-bad_number : goal.returns-in_default-clause-bad_number
returns-in_default-clause-bad_number g c n is =
    let clash : NoRoom ≡ BadRecord n = is in absurd cc

pub returns-in_default-clause-any_bad : goal.returns-in_default-clause-any_bad
returns-in_default-clause-any_bad g c front first disk held n is =
    let clash : NoRoom ≡ BadRecord n = is in absurd cc

pub returns-in_default-clause-no_room : goal.returns-in_default-clause-no_room
returns-in_default-clause-no_room g c is =
    let stream : c.stream_bytes.result ≡ stream_bytes_of c.args.log.now = (let as_long = c.args.log.now.as_long in let rest = c.stream_bytes.ensures in omega (arith, as_long, rest)) in
    subst (λ (n : ℕ). LacksRoom (cut_of_log c.args.log.now) (records_of_log c.args.log.now) n) stream (found_as (λ g cut kept. LacksRoom cut kept c.stream_bytes.result) (geometry_of c.args.heap.now) (geometry_of c.args.heap.now) (cut_of_log c.args.log.now) c.cut_off-cut.result (records_of_log c.args.log.now) c.in_ok-kept.kept.now refl c.cut_off-cut.ensures c.in_ok-kept.ensures.found (none_left c.cut_off-cut.result c.in_ok-kept.kept.now c.stream_bytes.result c.room_of.result c.in_default.is c.room_of.ensures.none))

pub returns-in_default-clause-device : goal.returns-in_default-clause-device
returns-in_default-clause-device g c log_front front anchor disk s of_anchor found f is =
    let clash : NoRoom ≡ Page f = is in absurd cc

pub returns-in_default-clause-any_pages : goal.returns-in_default-clause-any_pages
returns-in_default-clause-any_pages g c front first disk held f page =
    absurd cc

pub returns-in_default-clause-log_device : goal.returns-in_default-clause-log_device
returns-in_default-clause-log_device g c log_front quiet =
    quiet_beside log_front c.args.log.now c.args.log.now _ (λ f is. cc) quiet (omega arith)

-- ---- the table of those in doubt

pub txns_of-requires-clause-meant : goal.txns_of-requires-clause-meant
txns_of-requires-clause-meant g c =
    (c.geometry.result.now, c.in_ok-tables.ensures.meant)

pub txns_of-requires-clause-fit : goal.txns_of-requires-clause-fit
txns_of-requires-clause-fit g c =
    c.in_ok-kept.ensures.fit

pub txns_of-requires-clause-doubts : goal.txns_of-requires-clause-doubts
txns_of-requires-clause-doubts g c =
    let listed : IsKeptTable c.cut_off-cut.result c.in_ok-kept.kept.now c.as_slice.result.now = subst (IsKeptTable c.cut_off-cut.result c.in_ok-kept.kept.now) (sym c.as_slice.ensures) c.in_ok-tables.ensures.tables.txns in
    subst (AreEntriesOfDoubts (padded c.cut_off-cut.result c.in_ok-kept.kept.now)) (sym c.deref-2.ensures.value)
    (are_entries (padded c.cut_off-cut.result c.in_ok-kept.kept.now) c.in_ok-tables.tables.txns _ c.in_ok-tables.ensures.txns (subst (λ (txns : List LogTxn). IsPermutation (filter (λ e. is_prepared e.state) txns) c.in_ok-doubts.doubts.items) c.as_slice.ensures c.in_ok-doubts.ensures.entries)
    (c.in_ok-doubts.ensures.left_order c.geometry.result.now c.cut_off-cut.result c.in_ok-kept.kept.now c.in_ok-tables.ensures.meant listed))

pub txns_of-requires-clause-some : goal.txns_of-requires-clause-some
txns_of-requires-clause-some g c =
    c.in_ok-tables.ensures.tables.next.some

pub txns_of-requires-clause-next : goal.txns_of-requires-clause-next
txns_of-requires-clause-next g c =
    c.in_ok-tables.ensures.tables.next.above

pub txns_of-requires-clause-unreserved : goal.txns_of-requires-clause-unreserved
txns_of-requires-clause-unreserved g c =
    c.in-Some.ensures.some.reserved_is

pub txns_of-requires-clause-frame : goal.txns_of-requires-clause-frame
txns_of-requires-clause-frame g c =
    let frame = (c.room_of.ensures.none.0 (subst IsSome (sym c.in-Some.is) refl)).0 in
    let sums = c.in-Some.ensures.some in
    let stream = sums.stream in
    let kept = sums.kept_is in
    omega (arith, frame, stream, kept)

pub returns-in_err-txns-clause-moves : goal.returns-in_err-txns-clause-moves
returns-in_err-txns-clause-moves g c log_front front anchor disk s of_anchor found =
    passes_refused log_front front anchor disk c.args.log.now c.args.heap.now s found c.from_residual-in_err-txns.result c.in_err-txns.field-0.0 c.from_residual-in_err-txns.ensures.1

pub returns-in_err-txns-clause-bad : goal.returns-in_err-txns-clause-bad
returns-in_err-txns-clause-bad g c log_front front anchor disk s of_anchor found =
    no_record (λ n. IsBadRecord (geometry_of c.args.heap.now) (cut_of_log c.args.log.now) c.args.checkpoint (records_of_log c.args.log.now) s.log n) c.from_residual-in_err-txns.result c.in_err-txns.field-0.0 c.from_residual-in_err-txns.ensures.1 ((by_room c.in_err-txns.field-0.0 c.in_err-txns.ensures.refused).1)

pub returns-in_err-txns-clause-bad_number : goal.returns-in_err-txns-clause-bad_number
returns-in_err-txns-clause-bad_number g c =
    no_record (λ n. ((cut_of_log c.args.log.now) < n) × (n ≤ length (log_seen c.args.log.now))) c.from_residual-in_err-txns.result c.in_err-txns.field-0.0 c.from_residual-in_err-txns.ensures.1 ((by_room c.in_err-txns.field-0.0 c.in_err-txns.ensures.refused).1)

pub returns-in_err-txns-clause-any_bad : goal.returns-in_err-txns-clause-any_bad
returns-in_err-txns-clause-any_bad g c front first disk held =
    no_record (IsBadOn (geometry_of c.args.heap.now) first (cut_of_log c.args.log.now) c.args.checkpoint (records_of_log c.args.log.now)) c.from_residual-in_err-txns.result c.in_err-txns.field-0.0 c.from_residual-in_err-txns.ensures.1 ((by_room c.in_err-txns.field-0.0 c.in_err-txns.ensures.refused).1)

pub returns-in_err-txns-clause-device : goal.returns-in_err-txns-clause-device
returns-in_err-txns-clause-device g c log_front front anchor disk s of_anchor found =
    no_page (λ f. f ≡ fault.Device) c.from_residual-in_err-txns.result c.in_err-txns.field-0.0 c.from_residual-in_err-txns.ensures.1 ((by_room c.in_err-txns.field-0.0 c.in_err-txns.ensures.refused).0.0)

pub returns-in_err-txns-clause-any_pages : goal.returns-in_err-txns-clause-any_pages
returns-in_err-txns-clause-any_pages g c front first disk held =
    no_page (IsPageFault (geometry_of c.args.heap.now) (MayRead (cut_of_log c.args.log.now) c.args.checkpoint (records_of_log c.args.log.now)) disk (length (log_seen c.args.log.now))) c.from_residual-in_err-txns.result c.in_err-txns.field-0.0 c.from_residual-in_err-txns.ensures.1 ((by_room c.in_err-txns.field-0.0 c.in_err-txns.ensures.refused).0.0)

pub returns-in_err-txns-clause-log_device : goal.returns-in_err-txns-clause-log_device
returns-in_err-txns-clause-log_device g c log_front quiet =
    quiet_other log_front c.args.log.now c.args.log.now c.args.log.now (omega arith) c.from_residual-in_err-txns.result c.in_err-txns.field-0.0 c.from_residual-in_err-txns.ensures.1 ((by_room c.in_err-txns.field-0.0 c.in_err-txns.ensures.refused).0.1) quiet (omega arith)

pub returns-in_err-txns-clause-meant : goal.returns-in_err-txns-clause-meant
returns-in_err-txns-clause-meant g c =
    if_err c.from_residual-in_err-txns.result c.from_residual-in_err-txns.ensures.1 (λ error same some. inr ((found_as (λ g cut kept. HasCheckpoint cut c.args.checkpoint kept) (geometry_of c.args.heap.now) (geometry_of c.args.heap.now) (cut_of_log c.args.log.now) c.cut_off-cut.result (records_of_log c.args.log.now) c.in_ok-kept.kept.now refl c.cut_off-cut.ensures c.in_ok-kept.ensures.found (c.is_whole.ensures.0 c.if-not-is_whole.false)), λ is. no_anchor_room c.in_err-txns.field-0.0 c.in_err-txns.ensures.refused (sym same ∙ is), inl ((found_as (λ g cut kept. AreMeantAnchored g cut c.args.checkpoint kept) (geometry_of c.args.heap.now) c.geometry.result.now (cut_of_log c.args.log.now) c.cut_off-cut.result (records_of_log c.args.log.now) c.in_ok-kept.kept.now c.geometry.ensures c.cut_off-cut.ensures c.in_ok-kept.ensures.found (c.in_ok-tables.ensures.anchored)), (found_as (λ g cut kept. CanHold g.max_locks (doubts_left (padded cut kept))) (geometry_of c.args.heap.now) c.geometry-2.result.now (cut_of_log c.args.log.now) c.cut_off-cut.result (records_of_log c.args.log.now) c.in_ok-kept.kept.now c.geometry-2.ensures c.cut_off-cut.ensures c.in_ok-kept.ensures.found (c.in_ok-locks.ensures.hold)))))

pub returns-in_err-txns-clause-no_room : goal.returns-in_err-txns-clause-no_room
returns-in_err-txns-clause-no_room g c =
    let stream : c.stream_bytes.result ≡ stream_bytes_of c.args.log.now = (let as_long = c.args.log.now.as_long in let rest = c.stream_bytes.ensures in omega (arith, as_long, rest)) in
    if_err c.from_residual-in_err-txns.result c.from_residual-in_err-txns.ensures.1 (λ error same is. elim c.in_err-txns.ensures.refused [
      | inl memory ↦ let clash = sym memory ∙ sym same ∙ is in absurd cc
      | inr room ↦ subst (λ (n : ℕ). LacksRoom (cut_of_log c.args.log.now) (records_of_log c.args.log.now) n) stream (found_as (λ g cut kept. LacksRoom cut kept c.stream_bytes.result) (geometry_of c.args.heap.now) (geometry_of c.args.heap.now) (cut_of_log c.args.log.now) c.cut_off-cut.result (records_of_log c.args.log.now) c.in_ok-kept.kept.now refl c.cut_off-cut.ensures c.in_ok-kept.ensures.found
          (none_reserved c.cut_off-cut.result c.in_ok-kept.kept.now c.stream_bytes.result c.in-Some.room c.in-Some.ensures.some room.1))
    ])

-- ---- its numbers

pub returns-then-not-has_numbers-clause-moves : goal.returns-then-not-has_numbers-clause-moves
returns-then-not-has_numbers-clause-moves g c log_front front anchor disk s of_anchor found =
    passes_none log_front front anchor disk c.args.log.now c.args.heap.now s found (Err NoRoom) NoRoom refl

pub returns-then-not-has_numbers-clause-meant : goal.returns-then-not-has_numbers-clause-meant
returns-then-not-has_numbers-clause-meant g c some =
    inr ((found_as (λ g cut kept. HasCheckpoint cut c.args.checkpoint kept) (geometry_of c.args.heap.now) (geometry_of c.args.heap.now) (cut_of_log c.args.log.now) c.cut_off-cut.result (records_of_log c.args.log.now) c.in_ok-kept.kept.now refl c.cut_off-cut.ensures c.in_ok-kept.ensures.found (c.is_whole.ensures.0 c.if-not-is_whole.false)), λ is. (let clash : NoRoom ≡ BadAnchor = is in cc), inl ((found_as (λ g cut kept. AreMeantAnchored g cut c.args.checkpoint kept) (geometry_of c.args.heap.now) c.geometry.result.now (cut_of_log c.args.log.now) c.cut_off-cut.result (records_of_log c.args.log.now) c.in_ok-kept.kept.now c.geometry.ensures c.cut_off-cut.ensures c.in_ok-kept.ensures.found (c.in_ok-tables.ensures.anchored)), (found_as (λ g cut kept. CanHold g.max_locks (doubts_left (padded cut kept))) (geometry_of c.args.heap.now) c.geometry-2.result.now (cut_of_log c.args.log.now) c.cut_off-cut.result (records_of_log c.args.log.now) c.in_ok-kept.kept.now c.geometry-2.ensures c.cut_off-cut.ensures c.in_ok-kept.ensures.found (c.in_ok-locks.ensures.hold))))

pub returns-then-not-has_numbers-clause-bad : goal.returns-then-not-has_numbers-clause-bad
returns-then-not-has_numbers-clause-bad g c log_front front anchor disk s of_anchor found n is =
    let clash : NoRoom ≡ BadRecord n = is in absurd cc

pub returns-then-not-has_numbers-clause-bad_number : goal.returns-then-not-has_numbers-clause-bad_number
returns-then-not-has_numbers-clause-bad_number g c n is =
    let clash : NoRoom ≡ BadRecord n = is in absurd cc

pub returns-then-not-has_numbers-clause-any_bad : goal.returns-then-not-has_numbers-clause-any_bad
returns-then-not-has_numbers-clause-any_bad g c front first disk held n is =
    let clash : NoRoom ≡ BadRecord n = is in absurd cc

pub returns-then-not-has_numbers-clause-no_room : goal.returns-then-not-has_numbers-clause-no_room
returns-then-not-has_numbers-clause-no_room g c is =
    let stream : c.stream_bytes.result ≡ stream_bytes_of c.args.log.now = (let as_long = c.args.log.now.as_long in let rest = c.stream_bytes.ensures in omega (arith, as_long, rest)) in
    subst (λ (n : ℕ). LacksRoom (cut_of_log c.args.log.now) (records_of_log c.args.log.now) n) stream (found_as (λ g cut kept. LacksRoom cut kept c.stream_bytes.result) (geometry_of c.args.heap.now) (geometry_of c.args.heap.now) (cut_of_log c.args.log.now) c.cut_off-cut.result (records_of_log c.args.log.now) c.in_ok-kept.kept.now refl c.cut_off-cut.ensures c.in_ok-kept.ensures.found (none_numbered c.cut_off-cut.result c.in_ok-kept.kept.now c.stream_bytes.result c.in-Some.room c.in-Some.ensures.some c.room.result (subst (λ (room : LogRoom). HasSums c.in-Some.room.stream_bytes c.in-Some.room.kept (reserved_told (padded c.cut_off-cut.result c.in_ok-kept.kept.now)) room) (sym c.room.ensures) c.in_ok-txns.ensures.room) c.last.result (c.last.ensures ∙ ap (λ n. n + length (records_of_log c.args.log.now)) (sym c.cut_off-cut.ensures) ∙ ap (λ (l : List LogRecord). c.cut_off-cut.result + length l) (sym c.in_ok-kept.ensures.found)) (λ less. let yes = c.has_numbers.ensures.1 less in let clash : true ≡ false = sym yes ∙ c.if-not-has_numbers.true in cc)))

pub returns-then-not-has_numbers-clause-device : goal.returns-then-not-has_numbers-clause-device
returns-then-not-has_numbers-clause-device g c log_front front anchor disk s of_anchor found f is =
    let clash : NoRoom ≡ Page f = is in absurd cc

pub returns-then-not-has_numbers-clause-any_pages : goal.returns-then-not-has_numbers-clause-any_pages
returns-then-not-has_numbers-clause-any_pages g c front first disk held f page =
    absurd cc

pub returns-then-not-has_numbers-clause-log_device : goal.returns-then-not-has_numbers-clause-log_device
returns-then-not-has_numbers-clause-log_device g c log_front quiet =
    quiet_beside log_front c.args.log.now c.args.log.now _ (λ f is. cc) quiet (omega arith)

-- ---- redo

pub redo-requires-clause-few : goal.redo-requires-clause-few
redo-requires-clause-few g c =
    let below = c.args.log.now.tail_number in let is = c.cut_off-cut.ensures in let some = c.args.log.now.gone_below in omega (arith, below, is, some)

pub redo-requires-clause-meant : goal.redo-requires-clause-meant
redo-requires-clause-meant g c =
    found_as AreMeantKept (geometry_of c.args.heap.now) c.geometry.result.now c.cut_off-cut.result c.cut_off-cut.result c.in_ok-kept.kept.now c.in_ok-kept.kept.now c.geometry.ensures refl refl c.in_ok-tables.ensures.meant

pub returns-in_err-redone-clause-moves : goal.returns-in_err-redone-clause-moves
returns-in_err-redone-clause-moves g c log_front front anchor disk s of_anchor found =
    let is = err_with c.from_residual-in_err-redone.result c.in_err-redone.field-0.0 c.from_residual-in_err-redone.ensures.1 in
    passes_stop log_front front anchor c.args.log.now c.args.heap.now s c.from_residual-in_err-redone.result c.in_err-redone.field-0.0 c.args.log.now c.redo.new.heap (λ later. later ≡ later) is
    (redo_stopped log_front front anchor disk c.args.log.now c.args.heap.now s found c.redo.new.heap {A = ℕ} c.from_residual-in_err-redone.result c.in_err-redone.field-0.0 (λ later. later ≡ later) is
    (c.in_err-redone.ensures.redone front disk s found.stands (found_to_redo log_front front anchor disk c.args.log.now c.args.heap.now s found c.cut_off-cut.result c.args.checkpoint c.in_ok-kept.kept.now c.in_ok-tables.tables.redo of_anchor c.cut_off-cut.ensures c.in_ok-kept.ensures.found c.in_ok-tables.ensures.tables.redo) (log_history c.args.log.now) log_front anchor (found_covered log_front front anchor disk c.args.log.now c.args.heap.now s found)))

pub returns-in_err-redone-clause-bad : goal.returns-in_err-redone-clause-bad
returns-in_err-redone-clause-bad g c log_front front anchor disk s of_anchor found =
    if_err c.from_residual-in_err-redone.result c.from_residual-in_err-redone.ensures.1 (λ error same n is. inr (((found_as (λ g cut kept. AreMeantAnchored g cut c.args.checkpoint kept) (geometry_of c.args.heap.now) c.geometry.result.now (cut_of_log c.args.log.now) c.cut_off-cut.result (records_of_log c.args.log.now) c.in_ok-kept.kept.now c.geometry.ensures c.cut_off-cut.ensures c.in_ok-kept.ensures.found (c.in_ok-tables.ensures.anchored)), (found_as (λ g cut kept. CanHold g.max_locks (doubts_left (padded cut kept))) (geometry_of c.args.heap.now) c.geometry-2.result.now (cut_of_log c.args.log.now) c.cut_off-cut.result (records_of_log c.args.log.now) c.in_ok-kept.kept.now c.geometry-2.ensures c.cut_off-cut.ensures c.in_ok-kept.ensures.found (c.in_ok-locks.ensures.hold))), inl (c.in_err-redone.ensures.bad front disk s found.stands (found_to_redo log_front front anchor disk c.args.log.now c.args.heap.now s found c.cut_off-cut.result c.args.checkpoint c.in_ok-kept.kept.now c.in_ok-tables.tables.redo of_anchor c.cut_off-cut.ensures c.in_ok-kept.ensures.found c.in_ok-tables.ensures.tables.redo) n (sym same ∙ is))))

pub returns-in_err-redone-clause-meant : goal.returns-in_err-redone-clause-meant
returns-in_err-redone-clause-meant g c =
    if_err c.from_residual-in_err-redone.result c.from_residual-in_err-redone.ensures.1 (λ error same some. inr ((found_as (λ g cut kept. HasCheckpoint cut c.args.checkpoint kept) (geometry_of c.args.heap.now) (geometry_of c.args.heap.now) (cut_of_log c.args.log.now) c.cut_off-cut.result (records_of_log c.args.log.now) c.in_ok-kept.kept.now refl c.cut_off-cut.ensures c.in_ok-kept.ensures.found (c.is_whole.ensures.0 c.if-not-is_whole.false)), λ is. c.in_err-redone.ensures.others.2 (sym same ∙ is), inl ((found_as (λ g cut kept. AreMeantAnchored g cut c.args.checkpoint kept) (geometry_of c.args.heap.now) c.geometry.result.now (cut_of_log c.args.log.now) c.cut_off-cut.result (records_of_log c.args.log.now) c.in_ok-kept.kept.now c.geometry.ensures c.cut_off-cut.ensures c.in_ok-kept.ensures.found (c.in_ok-tables.ensures.anchored)), (found_as (λ g cut kept. CanHold g.max_locks (doubts_left (padded cut kept))) (geometry_of c.args.heap.now) c.geometry-2.result.now (cut_of_log c.args.log.now) c.cut_off-cut.result (records_of_log c.args.log.now) c.in_ok-kept.kept.now c.geometry-2.ensures c.cut_off-cut.ensures c.in_ok-kept.ensures.found (c.in_ok-locks.ensures.hold)))))

pub returns-in_err-redone-clause-no_room : goal.returns-in_err-redone-clause-no_room
returns-in_err-redone-clause-no_room g c =
    if_err c.from_residual-in_err-redone.result c.from_residual-in_err-redone.ensures.1 (λ error same is. absurd (c.in_err-redone.ensures.others.0 (sym same ∙ is)))

pub returns-in_err-redone-clause-device : goal.returns-in_err-redone-clause-device
returns-in_err-redone-clause-device g c log_front front anchor disk s of_anchor found =
    if_err c.from_residual-in_err-redone.result c.from_residual-in_err-redone.ensures.1 (λ error same f is. c.in_err-redone.ensures.device front disk s found.stands (found_to_redo log_front front anchor disk c.args.log.now c.args.heap.now s found c.cut_off-cut.result c.args.checkpoint c.in_ok-kept.kept.now c.in_ok-tables.tables.redo of_anchor c.cut_off-cut.ensures c.in_ok-kept.ensures.found c.in_ok-tables.ensures.tables.redo) f (sym same ∙ is))

pub returns-in_err-redone-clause-log_device : goal.returns-in_err-redone-clause-log_device
returns-in_err-redone-clause-log_device g c log_front quiet =
    quiet_other log_front c.args.log.now c.args.log.now c.args.log.now (omega arith) c.from_residual-in_err-redone.result c.in_err-redone.field-0.0 c.from_residual-in_err-redone.ensures.1 (λ f is. c.in_err-redone.ensures.others.1 f is) quiet (omega arith)

pub returns-in_err-redone-clause-bad_number : goal.returns-in_err-redone-clause-bad_number
returns-in_err-redone-clause-bad_number g c =
    if_err c.from_residual-in_err-redone.result c.from_residual-in_err-redone.ensures.1 (λ error same n is.
    let within = c.in_err-redone.ensures.bad_number n (sym same ∙ is) in
    let some = within.0 in
    let most = within.1 in
    let long = length_padded (cut_of_log c.args.log.now) (records_of_log c.args.log.now) in
    let cuts = c.cut_off-cut.ensures in
    let kept = ap length c.in_ok-kept.ensures.found in
    (omega (arith, some, cuts), omega (arith, most, long, cuts, kept)))

-- ---- undo

pub undo_all-requires : goal.undo_all-requires
undo_all-requires g c =
    let stream : c.stream_bytes.result ≡ stream_bytes_of c.args.log.now = (let as_long = c.args.log.now.as_long in let rest = c.stream_bytes.ensures in omega (arith, as_long, rest)) in
    let leaves = c.room_of.ensures.none.0 (subst IsSome (sym c.in-Some.is) refl) in
    let room = room_reserved c.cut_off-cut.result c.in_ok-kept.kept.now c.stream_bytes.result c.in-Some.room c.in-Some.ensures.some c.room.result (subst (λ (room : LogRoom). HasSums c.in-Some.room.stream_bytes c.in-Some.room.kept (reserved_told (padded c.cut_off-cut.result c.in_ok-kept.kept.now)) room) (sym c.room.ensures) c.in_ok-txns.ensures.room) c.last.result (c.last.ensures ∙ ap (λ n. n + length (records_of_log c.args.log.now)) (sym c.cut_off-cut.ensures) ∙ ap (λ (l : List LogRecord). c.cut_off-cut.result + length l) (sym c.in_ok-kept.ensures.found)) (c.has_numbers.ensures.0 c.if-not-has_numbers.false) leaves.1 c.in_ok-txns.ensures.holds in
    record {
      meant = found_as AreMeantKept (geometry_of c.redo.new.heap) c.geometry.result.now (cut_of_log c.args.log.now) c.cut_off-cut.result (records_of_log c.args.log.now) c.in_ok-kept.kept.now (c.geometry.ensures ∙ sym c.redo.ensures.volume.geometry) c.cut_off-cut.ensures c.in_ok-kept.ensures.found c.in_ok-tables.ensures.meant;
      losers = c.of-losers.ensures.table (log_seen c.args.log.now) (subst (λ (l : List LogRecord). IsTable l c.in_ok-tables.tables.txns) (seen_by (cut_of_log c.args.log.now) c.cut_off-cut.result (records_of_log c.args.log.now) c.in_ok-kept.kept.now c.cut_off-cut.ensures c.in_ok-kept.ensures.found) c.in_ok-tables.ensures.txns);
      room = subst (λ (room : LogRoom). IsRoomBehind (cut_of_log c.args.log.now) (records_of_log c.args.log.now) (stream_bytes_of c.args.log.now) room) (c.room.ensures ∙ sym c.room-room.ensures)
          (subst (λ (n : ℕ). IsRoomBehind (cut_of_log c.args.log.now) (records_of_log c.args.log.now) n c.room.result) stream
          (found_as (λ g cut kept. IsRoomBehind cut kept c.stream_bytes.result c.room.result) (geometry_of c.args.heap.now) (geometry_of c.args.heap.now) (cut_of_log c.args.log.now) c.cut_off-cut.result (records_of_log c.args.log.now) c.in_ok-kept.kept.now refl c.cut_off-cut.ensures c.in_ok-kept.ensures.found room));
    }

pub returns-in_err-undo_all-clause-moves : goal.returns-in_err-undo_all-clause-moves
returns-in_err-undo_all-clause-moves g c log_front front anchor disk s of_anchor found =
    let redoes = c.in_ok-redone.ensures.redone front disk s found.stands (found_to_redo log_front front anchor disk c.args.log.now c.args.heap.now s found c.cut_off-cut.result c.args.checkpoint c.in_ok-kept.kept.now c.in_ok-tables.tables.redo of_anchor c.cut_off-cut.ensures c.in_ok-kept.ensures.found c.in_ok-tables.ensures.tables.redo) (log_history c.args.log.now) log_front anchor (found_covered log_front front anchor disk c.args.log.now c.args.heap.now s found) in
    let redone = come_redone log_front front anchor disk c.args.log.now c.args.heap.now s found c.redo.new.heap c.in_ok-redone.redone redoes c.redo.ensures.volume.geometry in
    let come = redone.0 in
    let is = err_with c.from_residual-in_err-undo_all.result c.in_err-undo_all.field-0.0 c.from_residual-in_err-undo_all.ensures.1 in
    passes_stop log_front front anchor c.args.log.now c.args.heap.now s c.from_residual-in_err-undo_all.result c.in_err-undo_all.field-0.0 c.undo_all.new.log c.undo_all.new.heap (λ later. later ≡ later) is
    (come_stop log_front front anchor c.args.log.now c.args.heap.now s c.in_err-undo_all.field-0.0 c.from_residual-in_err-undo_all.result c.args.log.now c.undo_all.new.log c.redo.new.heap c.undo_all.new.heap _ (λ later. later ≡ later) come is
    (c.in_err-undo_all.ensures.moves log_front front anchor come.1.disk come.0 come.1.ready))

pub returns-in_err-undo_all-clause-bad : goal.returns-in_err-undo_all-clause-bad
returns-in_err-undo_all-clause-bad g c log_front front anchor disk s of_anchor found =
    let redoes = c.in_ok-redone.ensures.redone front disk s found.stands (found_to_redo log_front front anchor disk c.args.log.now c.args.heap.now s found c.cut_off-cut.result c.args.checkpoint c.in_ok-kept.kept.now c.in_ok-tables.tables.redo of_anchor c.cut_off-cut.ensures c.in_ok-kept.ensures.found c.in_ok-tables.ensures.tables.redo) (log_history c.args.log.now) log_front anchor (found_covered log_front front anchor disk c.args.log.now c.args.heap.now s found) in
    let redone = come_redone log_front front anchor disk c.args.log.now c.args.heap.now s found c.redo.new.heap c.in_ok-redone.redone redoes c.redo.ensures.volume.geometry in
    let come = redone.0 in
    let log_is = redone.1 in
    if_err c.from_residual-in_err-undo_all.result c.from_residual-in_err-undo_all.ensures.1 (λ error same n is. inr (
      ((found_as (λ g cut kept. AreMeantAnchored g cut c.args.checkpoint kept) (geometry_of c.args.heap.now) c.geometry.result.now (cut_of_log c.args.log.now) c.cut_off-cut.result (records_of_log c.args.log.now) c.in_ok-kept.kept.now c.geometry.ensures c.cut_off-cut.ensures c.in_ok-kept.ensures.found (c.in_ok-tables.ensures.anchored)), (found_as (λ g cut kept. CanHold g.max_locks (doubts_left (padded cut kept))) (geometry_of c.args.heap.now) c.geometry-2.result.now (cut_of_log c.args.log.now) c.cut_off-cut.result (records_of_log c.args.log.now) c.in_ok-kept.kept.now c.geometry-2.ensures c.cut_off-cut.ensures c.in_ok-kept.ensures.found (c.in_ok-locks.ensures.hold))),
      subst (λ (l : List LogRecord). IsMisfit (geometry_of c.args.heap.now).version l n) log_is
          (subst (λ (g : Geometry). IsMisfit g.version come.0.log n) c.redo.ensures.volume.geometry
          (misfit_turn (geometry_of c.redo.new.heap).version come.0.log n (c.in_err-undo_all.ensures.bad log_front front anchor come.1.disk come.0 come.1.ready n (sym same ∙ is)))),
    ))

pub returns-in_err-undo_all-clause-meant : goal.returns-in_err-undo_all-clause-meant
returns-in_err-undo_all-clause-meant g c =
    if_err c.from_residual-in_err-undo_all.result c.from_residual-in_err-undo_all.ensures.1 (λ error same some. inr ((found_as (λ g cut kept. HasCheckpoint cut c.args.checkpoint kept) (geometry_of c.args.heap.now) (geometry_of c.args.heap.now) (cut_of_log c.args.log.now) c.cut_off-cut.result (records_of_log c.args.log.now) c.in_ok-kept.kept.now refl c.cut_off-cut.ensures c.in_ok-kept.ensures.found (c.is_whole.ensures.0 c.if-not-is_whole.false)), λ is. c.in_err-undo_all.ensures.anchor (sym same ∙ is), inl ((found_as (λ g cut kept. AreMeantAnchored g cut c.args.checkpoint kept) (geometry_of c.args.heap.now) c.geometry.result.now (cut_of_log c.args.log.now) c.cut_off-cut.result (records_of_log c.args.log.now) c.in_ok-kept.kept.now c.geometry.ensures c.cut_off-cut.ensures c.in_ok-kept.ensures.found (c.in_ok-tables.ensures.anchored)), (found_as (λ g cut kept. CanHold g.max_locks (doubts_left (padded cut kept))) (geometry_of c.args.heap.now) c.geometry-2.result.now (cut_of_log c.args.log.now) c.cut_off-cut.result (records_of_log c.args.log.now) c.in_ok-kept.kept.now c.geometry-2.ensures c.cut_off-cut.ensures c.in_ok-kept.ensures.found (c.in_ok-locks.ensures.hold)))))

pub returns-in_err-undo_all-clause-device : goal.returns-in_err-undo_all-clause-device
returns-in_err-undo_all-clause-device g c log_front front anchor disk s of_anchor found =
    let redoes = c.in_ok-redone.ensures.redone front disk s found.stands (found_to_redo log_front front anchor disk c.args.log.now c.args.heap.now s found c.cut_off-cut.result c.args.checkpoint c.in_ok-kept.kept.now c.in_ok-tables.tables.redo of_anchor c.cut_off-cut.ensures c.in_ok-kept.ensures.found c.in_ok-tables.ensures.tables.redo) (log_history c.args.log.now) log_front anchor (found_covered log_front front anchor disk c.args.log.now c.args.heap.now s found) in
    let redone = come_redone log_front front anchor disk c.args.log.now c.args.heap.now s found c.redo.new.heap c.in_ok-redone.redone redoes c.redo.ensures.volume.geometry in
    let come = redone.0 in
    if_err c.from_residual-in_err-undo_all.result c.from_residual-in_err-undo_all.ensures.1 (λ error same f is. c.in_err-undo_all.ensures.device log_front front anchor come.1.disk come.0 come.1.ready f (sym same ∙ is))

pub returns-in_err-undo_all-clause-log_device : goal.returns-in_err-undo_all-clause-log_device
returns-in_err-undo_all-clause-log_device g c log_front quiet =
    quiet_err log_front c.args.log.now c.args.log.now c.undo_all.new.log (omega arith) c.from_residual-in_err-undo_all.result c.in_err-undo_all.field-0.0 c.from_residual-in_err-undo_all.ensures.1 (c.in_err-undo_all.ensures.log_device log_front quiet)

pub returns-in_err-undo_all-clause-no_room : goal.returns-in_err-undo_all-clause-no_room
returns-in_err-undo_all-clause-no_room g c =
    if_err c.from_residual-in_err-undo_all.result c.from_residual-in_err-undo_all.ensures.1 (λ error same is. inr (c.in_err-undo_all.ensures.no_room (sym same ∙ is)))

pub returns-in_err-undo_all-clause-bad_number : goal.returns-in_err-undo_all-clause-bad_number
returns-in_err-undo_all-clause-bad_number g c =
    if_err c.from_residual-in_err-undo_all.result c.from_residual-in_err-undo_all.ensures.1 (λ error same n is. c.in_err-undo_all.ensures.bad_number n (sym same ∙ is))

-- ---- what pages keep

pub set_room-requires : goal.set_room-requires
set_room-requires g c =
    record {
      reserved = reserved_by (log_seen c.args.log.now) (log_seen c.undo_all.new.log) (room_in c.in_ok-txns.txns).reserved c.undo_all.new.self.room.reserved c.in_ok-undo_all.ensures.undone
          (c.in_ok-txns.ensures.room.reserved_is ∙ ap reserved_told (seen_by (cut_of_log c.args.log.now) c.cut_off-cut.result (records_of_log c.args.log.now) c.in_ok-kept.kept.now c.cut_off-cut.ensures c.in_ok-kept.ensures.found)) c.in_ok-undo_all.ensures.undo.room.reserved;
    }

pub keep_claims-requires : goal.keep_claims-requires
keep_claims-requires g c =
    let back = back_by (log_seen c.args.log.now) (padded c.cut_off-cut.result c.in_ok-kept.kept.now) c.in_ok-txns.txns c.set_room.new.self (seen_by (cut_of_log c.args.log.now) c.cut_off-cut.result (records_of_log c.args.log.now) c.in_ok-kept.kept.now c.cut_off-cut.ensures c.in_ok-kept.ensures.found) c.set_room.ensures.txns c.in_ok-txns.ensures.back in
    record {
      there = λ e among. subst (λ (g : Geometry). HasPage g e.id.page) (sym (c.undo_all.ensures.volume.geometry ∙ c.redo.ensures.volume.geometry))
          (entry_there (geometry_of c.args.heap.now).version (log_seen c.args.log.now) c.set_room.new.self (are_told (log_seen c.args.log.now) c.set_room.new.self back) (geometry_of c.args.heap.now) (in_seen (geometry_of c.args.heap.now) (cut_of_log c.args.log.now) (records_of_log c.args.log.now) (found_as (AreMeantKept) (geometry_of c.args.heap.now) c.geometry.result.now (cut_of_log c.args.log.now) c.cut_off-cut.result (records_of_log c.args.log.now) c.in_ok-kept.kept.now c.geometry.ensures c.cut_off-cut.ensures c.in_ok-kept.ensures.found (c.in_ok-tables.ensures.meant))) e among);
    }

pub returns-in_err-keep_claims-clause-moves : goal.returns-in_err-keep_claims-clause-moves
returns-in_err-keep_claims-clause-moves g c log_front front anchor disk s of_anchor found =
    let redoes = c.in_ok-redone.ensures.redone front disk s found.stands (found_to_redo log_front front anchor disk c.args.log.now c.args.heap.now s found c.cut_off-cut.result c.args.checkpoint c.in_ok-kept.kept.now c.in_ok-tables.tables.redo of_anchor c.cut_off-cut.ensures c.in_ok-kept.ensures.found c.in_ok-tables.ensures.tables.redo) (log_history c.args.log.now) log_front anchor (found_covered log_front front anchor disk c.args.log.now c.args.heap.now s found) in
    let redone = come_redone log_front front anchor disk c.args.log.now c.args.heap.now s found c.redo.new.heap c.in_ok-redone.redone redoes c.redo.ensures.volume.geometry in
    let come = redone.0 in
    let log_is = redone.1 in
    let undone = come_undone log_front front anchor c.args.log.now c.args.heap.now s c.in_ok-undo_all.field-0 c.args.log.now c.undo_all.new.log c.redo.new.heap c.undo_all.new.heap come log_is
    (c.in_ok-undo_all.ensures.moves log_front front anchor come.1.disk come.0 come.1.ready) c.undo_all.ensures.volume.geometry in
    keep_stops log_front front anchor c.args.log.now c.args.heap.now s c.undo_all.new.log c.undo_all.new.heap c.keep_claims.new.heap undone c.set_room.new.self c.from_residual-in_err-keep_claims.result c.in_err-keep_claims.field-0.0 c.in_err-keep_claims.field-0.0 (err_with c.from_residual-in_err-keep_claims.result c.in_err-keep_claims.field-0.0 c.from_residual-in_err-keep_claims.ensures.1)
    (c.in_err-keep_claims.ensures.keeps front undone.0.1.disk undone.0.0 undone.0.1.ready.stands (all_durable log_front front anchor c.args.log.now c.args.heap.now s c.undo_all.new.log c.undo_all.new.heap undone c.last-2.result c.last-2.ensures).1)

pub returns-in_err-keep_claims-clause-bad : goal.returns-in_err-keep_claims-clause-bad
returns-in_err-keep_claims-clause-bad g c log_front front anchor disk s of_anchor found =
    let redoes = c.in_ok-redone.ensures.redone front disk s found.stands (found_to_redo log_front front anchor disk c.args.log.now c.args.heap.now s found c.cut_off-cut.result c.args.checkpoint c.in_ok-kept.kept.now c.in_ok-tables.tables.redo of_anchor c.cut_off-cut.ensures c.in_ok-kept.ensures.found c.in_ok-tables.ensures.tables.redo) (log_history c.args.log.now) log_front anchor (found_covered log_front front anchor disk c.args.log.now c.args.heap.now s found) in
    let redone = come_redone log_front front anchor disk c.args.log.now c.args.heap.now s found c.redo.new.heap c.in_ok-redone.redone redoes c.redo.ensures.volume.geometry in
    let come = redone.0 in
    let log_is = redone.1 in
    let undone = come_undone log_front front anchor c.args.log.now c.args.heap.now s c.in_ok-undo_all.field-0 c.args.log.now c.undo_all.new.log c.redo.new.heap c.undo_all.new.heap come log_is
    (c.in_ok-undo_all.ensures.moves log_front front anchor come.1.disk come.0 come.1.ready) c.undo_all.ensures.volume.geometry in
    let low = (all_durable log_front front anchor c.args.log.now c.args.heap.now s c.undo_all.new.log c.undo_all.new.heap undone c.last-2.result c.last-2.ensures) in
    let back = back_by (log_seen c.args.log.now) (padded c.cut_off-cut.result c.in_ok-kept.kept.now) c.in_ok-txns.txns c.set_room.new.self (seen_by (cut_of_log c.args.log.now) c.cut_off-cut.result (records_of_log c.args.log.now) c.in_ok-kept.kept.now c.cut_off-cut.ensures c.in_ok-kept.ensures.found) c.set_room.ensures.txns c.in_ok-txns.ensures.back in
    let log = c.undo_all.new.log in
    let at = undone.0.1.ready.at_rest in
    let same_cut : cut_of_log log ≡ (cut_of_log c.args.log.now) = ap (λ t. t.first - 1) c.undo_all.ensures.log.tail in
    let was = come.1.ready.at_rest in
    let turns : IsUndoneSoFar come.0.log undone.0.0.log = subst (λ (l : List LogRecord). IsUndoneSoFar l undone.0.0.log) (sym log_is) undone.2 in
    let grown : gone_on come.0.log (log_seen c.args.log.now) (log_seen log) ≡ undone.0.0.log =
    ap (λ (n : ℕ). gone_on come.0.log (log_seen c.args.log.now) (padded n (records_of_log log))) same_cut
    ∙ gone_whole come.0.log undone.0.0.log (cut_of_log c.args.log.now) (records_of_log c.args.log.now) (records_of_log log) was.ended.cuts.0 was.records (ap (λ (n : ℕ). drop n undone.0.0.log) (sym same_cut) ∙ at.records) turns in
    let fit = subst (λ (l : List LogRecord). TurnsFit (geometry_of c.undo_all.new.heap).version s.log l) grown
    (subst (λ (l : List LogRecord). TurnsFit (geometry_of c.undo_all.new.heap).version l (gone_on come.0.log (log_seen c.args.log.now) (log_seen log))) log_is
    (subst (λ (g : Geometry). TurnsFit g.version come.0.log (gone_on come.0.log (log_seen c.args.log.now) (log_seen log))) (sym c.undo_all.ensures.volume.geometry)
    (c.in_ok-undo_all.ensures.fits log_front front anchor come.1.disk come.0 come.1.ready))) in
    let quiet = whole_quiet (cut_of_log log) (records_of_log log) undone.0.0.log at.ended at.records c.in_ok-undo_all.ensures.done in
    if_err c.from_residual-in_err-keep_claims.result c.from_residual-in_err-keep_claims.ensures.1 (λ error same n is. inr (
      ((found_as (λ g cut kept. AreMeantAnchored g cut c.args.checkpoint kept) (geometry_of c.args.heap.now) c.geometry.result.now (cut_of_log c.args.log.now) c.cut_off-cut.result (records_of_log c.args.log.now) c.in_ok-kept.kept.now c.geometry.ensures c.cut_off-cut.ensures c.in_ok-kept.ensures.found (c.in_ok-tables.ensures.anchored)), (found_as (λ g cut kept. CanHold g.max_locks (doubts_left (padded cut kept))) (geometry_of c.args.heap.now) c.geometry-2.result.now (cut_of_log c.args.log.now) c.cut_off-cut.result (records_of_log c.args.log.now) c.in_ok-kept.kept.now c.geometry-2.ensures c.cut_off-cut.ensures c.in_ok-kept.ensures.found (c.in_ok-locks.ensures.hold))),
      subst (λ (g : Geometry). IsMisfit g.version s.log n) (c.undo_all.ensures.volume.geometry ∙ c.redo.ensures.volume.geometry)
          (misfit_behind front undone.0.1.disk c.undo_all.new.heap undone.0.0 undone.0.1.ready.stands undone.0.1.ready.redone s.log (log_seen c.args.log.now) (geometry_of c.undo_all.new.heap)
          (cut_of_log log) (records_of_log log) c.set_room.new.self n undone.2 fit quiet at.ended at.records c.in_ok-undo_all.ensures.undo.meant c.in_ok-undo_all.ensures.undone back refl
          (c.in_err-keep_claims.ensures.bad front undone.0.1.disk undone.0.0 undone.0.1.ready.stands low.1 n (sym same ∙ is))),
    ))

pub returns-in_err-keep_claims-clause-meant : goal.returns-in_err-keep_claims-clause-meant
returns-in_err-keep_claims-clause-meant g c =
    if_err c.from_residual-in_err-keep_claims.result c.from_residual-in_err-keep_claims.ensures.1 (λ error same some. inr ((found_as (λ g cut kept. HasCheckpoint cut c.args.checkpoint kept) (geometry_of c.args.heap.now) (geometry_of c.args.heap.now) (cut_of_log c.args.log.now) c.cut_off-cut.result (records_of_log c.args.log.now) c.in_ok-kept.kept.now refl c.cut_off-cut.ensures c.in_ok-kept.ensures.found (c.is_whole.ensures.0 c.if-not-is_whole.false)), λ is. c.in_err-keep_claims.ensures.others.2 (sym same ∙ is), inl ((found_as (λ g cut kept. AreMeantAnchored g cut c.args.checkpoint kept) (geometry_of c.args.heap.now) c.geometry.result.now (cut_of_log c.args.log.now) c.cut_off-cut.result (records_of_log c.args.log.now) c.in_ok-kept.kept.now c.geometry.ensures c.cut_off-cut.ensures c.in_ok-kept.ensures.found (c.in_ok-tables.ensures.anchored)), (found_as (λ g cut kept. CanHold g.max_locks (doubts_left (padded cut kept))) (geometry_of c.args.heap.now) c.geometry-2.result.now (cut_of_log c.args.log.now) c.cut_off-cut.result (records_of_log c.args.log.now) c.in_ok-kept.kept.now c.geometry-2.ensures c.cut_off-cut.ensures c.in_ok-kept.ensures.found (c.in_ok-locks.ensures.hold)))))

pub returns-in_err-keep_claims-clause-device : goal.returns-in_err-keep_claims-clause-device
returns-in_err-keep_claims-clause-device g c log_front front anchor disk s of_anchor found =
    let redoes = c.in_ok-redone.ensures.redone front disk s found.stands (found_to_redo log_front front anchor disk c.args.log.now c.args.heap.now s found c.cut_off-cut.result c.args.checkpoint c.in_ok-kept.kept.now c.in_ok-tables.tables.redo of_anchor c.cut_off-cut.ensures c.in_ok-kept.ensures.found c.in_ok-tables.ensures.tables.redo) (log_history c.args.log.now) log_front anchor (found_covered log_front front anchor disk c.args.log.now c.args.heap.now s found) in
    let redone = come_redone log_front front anchor disk c.args.log.now c.args.heap.now s found c.redo.new.heap c.in_ok-redone.redone redoes c.redo.ensures.volume.geometry in
    let come = redone.0 in
    let log_is = redone.1 in
    let undone = come_undone log_front front anchor c.args.log.now c.args.heap.now s c.in_ok-undo_all.field-0 c.args.log.now c.undo_all.new.log c.redo.new.heap c.undo_all.new.heap come log_is
    (c.in_ok-undo_all.ensures.moves log_front front anchor come.1.disk come.0 come.1.ready) c.undo_all.ensures.volume.geometry in
    let low = (all_durable log_front front anchor c.args.log.now c.args.heap.now s c.undo_all.new.log c.undo_all.new.heap undone c.last-2.result c.last-2.ensures) in
    if_err c.from_residual-in_err-keep_claims.result c.from_residual-in_err-keep_claims.ensures.1 (λ error same f is. c.in_err-keep_claims.ensures.device front undone.0.1.disk undone.0.0 undone.0.1.ready.stands low.0 low.1 f (sym same ∙ is))

pub returns-in_err-keep_claims-clause-no_room : goal.returns-in_err-keep_claims-clause-no_room
returns-in_err-keep_claims-clause-no_room g c =
    if_err c.from_residual-in_err-keep_claims.result c.from_residual-in_err-keep_claims.ensures.1 (λ error same is. absurd (c.in_err-keep_claims.ensures.others.0 (sym same ∙ is)))

pub returns-in_err-keep_claims-clause-log_device : goal.returns-in_err-keep_claims-clause-log_device
returns-in_err-keep_claims-clause-log_device g c log_front quiet =
    let on = quiet_of log_front c.args.log.now c.undo_all.new.log c.in_ok-undo_all.field-0 (c.in_ok-undo_all.ensures.log_device log_front quiet) in
    quiet_other log_front c.args.log.now c.args.log.now c.undo_all.new.log (omega arith) c.from_residual-in_err-keep_claims.result c.in_err-keep_claims.field-0.0 c.from_residual-in_err-keep_claims.ensures.1 (λ f is. c.in_err-keep_claims.ensures.others.1 f is) on.0 on.1

pub returns-in_err-keep_claims-clause-bad_number : goal.returns-in_err-keep_claims-clause-bad_number
returns-in_err-keep_claims-clause-bad_number g c =
    let back = back_by (log_seen c.args.log.now) (padded c.cut_off-cut.result c.in_ok-kept.kept.now) c.in_ok-txns.txns c.set_room.new.self (seen_by (cut_of_log c.args.log.now) c.cut_off-cut.result (records_of_log c.args.log.now) c.in_ok-kept.kept.now c.cut_off-cut.ensures c.in_ok-kept.ensures.found) c.set_room.ensures.txns c.in_ok-txns.ensures.back in
    let told = are_told (log_seen c.args.log.now) c.set_room.new.self back in
    if_err c.from_residual-in_err-keep_claims.result c.from_residual-in_err-keep_claims.ensures.1 (λ error same n is.
    let among = c.in_err-keep_claims.ensures.bad_number n (sym same ∙ is) in
    (entry_behind (geometry_of c.args.heap.now).version (log_seen c.args.log.now) c.set_room.new.self told (cut_of_log c.args.log.now) (records_of_log c.args.log.now) refl n among, (entry_within (geometry_of c.args.heap.now).version (log_seen c.args.log.now) c.set_room.new.self told n among).1))

-- ---- who failed

pub returns-in_err-redone-clause-volume_cause : goal.returns-in_err-redone-clause-volume_cause
returns-in_err-redone-clause-volume_cause g c =
    passed_cause Passed ℕ c.from_residual-in_err-redone.result c.in_err-redone.field-0.0 (faults_of c.args.heap.now) (faults_of c.args.heap.now) (faults_of c.redo.new.heap) refl c.from_residual-in_err-redone.ensures.1 c.in_err-redone.ensures.cause

pub returns-in_err-redone-clause-log_cause : goal.returns-in_err-redone-clause-log_cause
returns-in_err-redone-clause-log_cause g c =
    no_log_cause Passed c.from_residual-in_err-redone.result c.in_err-redone.field-0.0 (log_faults c.args.log.now) (log_faults c.args.log.now) refl c.from_residual-in_err-redone.ensures.1 (λ f is. c.in_err-redone.ensures.others.1 f is)

pub returns-in_err-undo_all-clause-volume_cause : goal.returns-in_err-undo_all-clause-volume_cause
returns-in_err-undo_all-clause-volume_cause g c =
    passed_cause Passed (Unit {0}) c.from_residual-in_err-undo_all.result c.in_err-undo_all.field-0.0 (faults_of c.args.heap.now) (faults_of c.redo.new.heap) (faults_of c.undo_all.new.heap) (c.in_ok-redone.ensures.cause.unreported (λ e. cc)) c.from_residual-in_err-undo_all.ensures.1 c.in_err-undo_all.ensures.volume_cause

pub returns-in_err-undo_all-clause-log_cause : goal.returns-in_err-undo_all-clause-log_cause
returns-in_err-undo_all-clause-log_cause g c =
    passed_log_cause Passed (Unit {0}) c.from_residual-in_err-undo_all.result c.in_err-undo_all.field-0.0 (log_faults c.args.log.now) (log_faults c.args.log.now) (log_faults c.undo_all.new.log) refl c.from_residual-in_err-undo_all.ensures.1 c.in_err-undo_all.ensures.log_cause

pub returns-in_err-keep_claims-clause-volume_cause : goal.returns-in_err-keep_claims-clause-volume_cause
returns-in_err-keep_claims-clause-volume_cause g c =
    passed_cause Passed (Unit {0}) c.from_residual-in_err-keep_claims.result c.in_err-keep_claims.field-0.0 (faults_of c.args.heap.now) (faults_of c.undo_all.new.heap) (faults_of c.keep_claims.new.heap) (c.in_ok-undo_all.ensures.volume_cause.unreported (λ e. cc) ∙ c.in_ok-redone.ensures.cause.unreported (λ e. cc)) c.from_residual-in_err-keep_claims.ensures.1 c.in_err-keep_claims.ensures.cause

pub returns-in_err-keep_claims-clause-log_cause : goal.returns-in_err-keep_claims-clause-log_cause
returns-in_err-keep_claims-clause-log_cause g c =
    no_log_cause Passed c.from_residual-in_err-keep_claims.result c.in_err-keep_claims.field-0.0 (log_faults c.args.log.now) (log_faults c.undo_all.new.log) (c.in_ok-undo_all.ensures.log_cause.unreported (λ e. cc)) c.from_residual-in_err-keep_claims.ensures.1 (λ f is. c.in_err-keep_claims.ensures.others.1 f is)

-- ---- the control

pub new-requires : goal.new-requires
new-requires g c =
    let limit : c.in_ok-locks.locks.limit ≡ (geometry_of c.args.heap.now).max_locks = c.in_ok-locks.ensures.back.limit_is ∙ ap (λ (g : Geometry). g.max_locks) c.geometry-2.ensures in
    let most = c.requires.limits.1 in
    record { few = omega (arith, limit, most) }

pub returns-clause-moves : goal.returns-clause-moves
returns-clause-moves g c log_front front anchor disk s of_anchor found =
    let redoes = c.in_ok-redone.ensures.redone front disk s found.stands (found_to_redo log_front front anchor disk c.args.log.now c.args.heap.now s found c.cut_off-cut.result c.args.checkpoint c.in_ok-kept.kept.now c.in_ok-tables.tables.redo of_anchor c.cut_off-cut.ensures c.in_ok-kept.ensures.found c.in_ok-tables.ensures.tables.redo) (log_history c.args.log.now) log_front anchor (found_covered log_front front anchor disk c.args.log.now c.args.heap.now s found) in
    let redone = come_redone log_front front anchor disk c.args.log.now c.args.heap.now s found c.redo.new.heap c.in_ok-redone.redone redoes c.redo.ensures.volume.geometry in
    let come = redone.0 in
    let log_is = redone.1 in
    let undone = come_undone log_front front anchor c.args.log.now c.args.heap.now s c.in_ok-undo_all.field-0 c.args.log.now c.undo_all.new.log c.redo.new.heap c.undo_all.new.heap come log_is
    (c.in_ok-undo_all.ensures.moves log_front front anchor come.1.disk come.0 come.1.ready) c.undo_all.ensures.volume.geometry in
    keep_done log_front front anchor c.args.log.now c.args.heap.now s c.undo_all.new.log c.undo_all.new.heap c.keep_claims.new.heap undone c.set_room.new.self c.in_ok-keep_claims.field-0 _ c.new.ensures.txns
    (c.in_ok-keep_claims.ensures.keeps front undone.0.1.disk undone.0.0 undone.0.1.ready.stands (all_durable log_front front anchor c.args.log.now c.args.heap.now s c.undo_all.new.log c.undo_all.new.heap undone c.last-2.result c.last-2.ensures).1)

pub returns-clause-doubts : goal.returns-clause-doubts
returns-clause-doubts g c =
    let back = back_by (log_seen c.args.log.now) (padded c.cut_off-cut.result c.in_ok-kept.kept.now) c.in_ok-txns.txns c.set_room.new.self (seen_by (cut_of_log c.args.log.now) c.cut_off-cut.result (records_of_log c.args.log.now) c.in_ok-kept.kept.now c.cut_off-cut.ensures c.in_ok-kept.ensures.found) c.set_room.ensures.txns c.in_ok-txns.ensures.back in
    let locks = found_as (λ g cut kept. HasLocksBack g.max_locks (padded cut kept) c.in_ok-locks.locks) (geometry_of c.args.heap.now) c.geometry-2.result.now (cut_of_log c.args.log.now) c.cut_off-cut.result (records_of_log c.args.log.now) c.in_ok-kept.kept.now c.geometry-2.ensures c.cut_off-cut.ensures c.in_ok-kept.ensures.found (c.in_ok-locks.ensures.back) in
    record {
      txns = subst (λ (t : Transactions). HasDoubts (log_seen c.args.log.now) t) (sym c.new.ensures.txns) back;
      locks = subst (λ (t : Table). HasLocksBack (geometry_of c.args.heap.now).max_locks (log_seen c.args.log.now) t) (sym c.new.ensures.locks) locks;
      waits = c.new.ensures.waits;
    }

pub returns-clause-next : goal.returns-clause-next
returns-clause-next g c =
    let next = subst (λ (l : List LogRecord). IsNextKept l (end_among c.args.checkpoint l) c.in_ok-tables.tables.next) c.in_ok-kept.ensures.found c.in_ok-tables.ensures.tables.next in
    subst (λ (t : Transactions). IsNextKept (records_of_log c.args.log.now) (end_among c.args.checkpoint (records_of_log c.args.log.now)) (next_in t)) (sym c.new.ensures.txns)
    (subst (λ (n : ℕ). IsNextKept (records_of_log c.args.log.now) (end_among c.args.checkpoint (records_of_log c.args.log.now)) n) (sym (c.set_room.ensures.next ∙ c.in_ok-txns.ensures.next)) next)

pub returns-clause-room : goal.returns-clause-room
returns-clause-room g c =
    subst (λ (t : Transactions). IsRoomBehind (cut_of_log c.undo_all.new.log) (records_of_log c.undo_all.new.log) (stream_bytes_of c.undo_all.new.log) (room_in t)) (sym c.new.ensures.txns)
    (subst (λ (room : LogRoom). IsRoomBehind (cut_of_log c.undo_all.new.log) (records_of_log c.undo_all.new.log) (stream_bytes_of c.undo_all.new.log) room) (sym c.set_room.ensures.room) c.in_ok-undo_all.ensures.undo.room)

pub returns-clause-report : goal.returns-clause-report
returns-clause-report g c =
    let tables : AreKeptTables (cut_of_log c.args.log.now) c.args.checkpoint (records_of_log c.args.log.now) c.in_ok-tables.tables = found_as (λ g cut kept. AreKeptTables cut c.args.checkpoint kept c.in_ok-tables.tables) (geometry_of c.args.heap.now) (geometry_of c.args.heap.now) (cut_of_log c.args.log.now) c.cut_off-cut.result (records_of_log c.args.log.now) c.in_ok-kept.kept.now refl c.cut_off-cut.ensures c.in_ok-kept.ensures.found (c.in_ok-tables.ensures.tables) in
    let long = ap length c.in_ok-kept.ensures.found in
    let most = c.in_ok-redone.ensures.most in
    let listed : IsKeptTable c.cut_off-cut.result c.in_ok-kept.kept.now c.as_slice.result.now = subst (IsKeptTable c.cut_off-cut.result c.in_ok-kept.kept.now) (sym c.as_slice.ensures) c.in_ok-tables.ensures.tables.txns in
    let many = as_many_doubts (padded c.cut_off-cut.result c.in_ok-kept.kept.now) c.in_ok-doubts.doubts.items (c.in_ok-doubts.ensures.left_order c.geometry.result.now c.cut_off-cut.result c.in_ok-kept.kept.now c.in_ok-tables.ensures.meant listed) in
    let same = ap (λ (l : List LogRecord). length (doubts_left l)) (seen_by (cut_of_log c.args.log.now) c.cut_off-cut.result (records_of_log c.args.log.now) c.in_ok-kept.kept.now c.cut_off-cut.ensures c.in_ok-kept.ensures.found) in
    record {
      read = long;
      redone = most;
      undone = (c.in_ok-tables.tables, tables, c.count-undone.ensures ∙ ap length c.of-losers.ensures.entries);
      in_doubt = omega (arith, many, same, c.len.ensures);
    }

pub returns-clause-missing : goal.returns-clause-missing
returns-clause-missing g c log_front front anchor disk s of_anchor found =
    c.in_ok-redone.ensures.missing front disk s found.stands (found_to_redo log_front front anchor disk c.args.log.now c.args.heap.now s found c.cut_off-cut.result c.args.checkpoint c.in_ok-kept.kept.now c.in_ok-tables.tables.redo of_anchor c.cut_off-cut.ensures c.in_ok-kept.ensures.found c.in_ok-tables.ensures.tables.redo)

pub returns-clause-taken : goal.returns-clause-taken
returns-clause-taken g c =
    ((found_as (λ g cut kept. AreMeantAnchored g cut c.args.checkpoint kept) (geometry_of c.args.heap.now) c.geometry.result.now (cut_of_log c.args.log.now) c.cut_off-cut.result (records_of_log c.args.log.now) c.in_ok-kept.kept.now c.geometry.ensures c.cut_off-cut.ensures c.in_ok-kept.ensures.found (c.in_ok-tables.ensures.anchored)), (found_as (λ g cut kept. CanHold g.max_locks (doubts_left (padded cut kept))) (geometry_of c.args.heap.now) c.geometry-2.result.now (cut_of_log c.args.log.now) c.cut_off-cut.result (records_of_log c.args.log.now) c.in_ok-kept.kept.now c.geometry-2.ensures c.cut_off-cut.ensures c.in_ok-kept.ensures.found (c.in_ok-locks.ensures.hold)))

pub returns-clause-anchored : goal.returns-clause-anchored
returns-clause-anchored g c =
    (found_as (λ g cut kept. HasCheckpoint cut c.args.checkpoint kept) (geometry_of c.args.heap.now) (geometry_of c.args.heap.now) (cut_of_log c.args.log.now) c.cut_off-cut.result (records_of_log c.args.log.now) c.in_ok-kept.kept.now refl c.cut_off-cut.ensures c.in_ok-kept.ensures.found (c.is_whole.ensures.0 c.if-not-is_whole.false))

pub returns-clause-log_device : goal.returns-clause-log_device
returns-clause-log_device g c log_front quiet =
    let on = quiet_of log_front c.args.log.now c.undo_all.new.log c.in_ok-undo_all.field-0 (c.in_ok-undo_all.ensures.log_device log_front quiet) in
    quiet_beside log_front c.args.log.now c.undo_all.new.log _ tt on.0 on.1

-- ---- whatever the pages hold

pub returns-in_err-redone-clause-any_pages : goal.returns-in_err-redone-clause-any_pages
returns-in_err-redone-clause-any_pages g c front first disk held =
    let long : c.cut_off-cut.result + length c.in_ok-kept.kept.now ≡ length (log_seen c.args.log.now) = sym (length_padded c.cut_off-cut.result c.in_ok-kept.kept.now) ∙ ap length (seen_by (cut_of_log c.args.log.now) c.cut_off-cut.result (records_of_log c.args.log.now) c.in_ok-kept.kept.now c.cut_off-cut.ensures c.in_ok-kept.ensures.found) in
    let before = subst (λ (n : ℕ). IsHeld front first disk c.args.heap.now [] n) (sym long) held in
    let w = subst (λ (n : ℕ). WorksHeld {A = ℕ} (Err c.in_err-redone.field-0.0) (AreOnPage (due_seen c.in_ok-tables.tables.redo c.cut_off-cut.result c.in_ok-kept.kept.now)) front first disk c.args.heap.now c.redo.new.heap n (due_seen c.in_ok-tables.tables.redo c.cut_off-cut.result c.in_ok-kept.kept.now) n) long (c.in_err-redone.ensures.any_pages front first disk before) in
    if_err c.from_residual-in_err-redone.result c.from_residual-in_err-redone.ensures.1 (λ error same f page.
    fault_wider (geometry_of c.args.heap.now) (AreOnPage (due_seen c.in_ok-tables.tables.redo c.cut_off-cut.result c.in_ok-kept.kept.now)) (MayRead (cut_of_log c.args.log.now) c.args.checkpoint (records_of_log c.args.log.now)) disk (length (log_seen c.args.log.now)) f
    (λ p on. inl (subst (λ (due : List LogRecord). AreOnPage due p) (due_by (cut_of_log c.args.log.now) c.cut_off-cut.result c.args.checkpoint (records_of_log c.args.log.now) c.in_ok-kept.kept.now c.in_ok-tables.tables.redo c.cut_off-cut.ensures c.in_ok-kept.ensures.found c.in_ok-tables.ensures.tables.redo) on)) (w.named f (sym same ∙ page)))

pub returns-in_err-undo_all-clause-any_pages : goal.returns-in_err-undo_all-clause-any_pages
returns-in_err-undo_all-clause-any_pages g c front first disk held =
    let long : c.cut_off-cut.result + length c.in_ok-kept.kept.now ≡ length (log_seen c.args.log.now) = sym (length_padded c.cut_off-cut.result c.in_ok-kept.kept.now) ∙ ap length (seen_by (cut_of_log c.args.log.now) c.cut_off-cut.result (records_of_log c.args.log.now) c.in_ok-kept.kept.now c.cut_off-cut.ensures c.in_ok-kept.ensures.found) in
    let many : length (due_seen c.in_ok-tables.tables.redo c.cut_off-cut.result c.in_ok-kept.kept.now) ≡ length (log_seen c.args.log.now) = due_long c.in_ok-tables.tables.redo c.cut_off-cut.result c.in_ok-kept.kept.now ∙ long in
    let before = subst (λ (n : ℕ). IsHeld front first disk c.args.heap.now [] n) (sym long) held in
    let w = subst (λ (n : ℕ). WorksHeld (Ok c.in_ok-redone.redone) (AreOnPage (due_seen c.in_ok-tables.tables.redo c.cut_off-cut.result c.in_ok-kept.kept.now)) front first disk c.args.heap.now c.redo.new.heap n (due_seen c.in_ok-tables.tables.redo c.cut_off-cut.result c.in_ok-kept.kept.now) n) long (c.in_ok-redone.ensures.any_pages front first disk before) in
    let s = w.stays in
    let there = subst (λ (n : ℕ). IsHeld front first s.left c.redo.new.heap (due_seen c.in_ok-tables.tables.redo c.cut_off-cut.result c.in_ok-kept.kept.now) n) (sym many) s.held in
    let undone = held_behind front first disk c.args.heap.now c.redo.new.heap (length (log_seen c.args.log.now)) (due_seen c.in_ok-tables.tables.redo c.cut_off-cut.result c.in_ok-kept.kept.now) (length (log_seen c.args.log.now)) s {A = Unit {0}} (Err c.in_err-undo_all.field-0.0) c.undo_all.new.heap (gone_on (due_seen c.in_ok-tables.tables.redo c.cut_off-cut.result c.in_ok-kept.kept.now) (log_seen c.args.log.now) (log_seen c.undo_all.new.log)) (length (log_seen c.undo_all.new.log)) c.redo.ensures.volume.geometry
    (subst (λ (n : ℕ). WorksHeld {A = Unit {0}} (Err c.in_err-undo_all.field-0.0) (MayBeUndoneOnPage (log_seen c.args.log.now)) front first s.left c.redo.new.heap c.undo_all.new.heap n (gone_on (due_seen c.in_ok-tables.tables.redo c.cut_off-cut.result c.in_ok-kept.kept.now) (log_seen c.args.log.now) (log_seen c.undo_all.new.log)) (length (log_seen c.undo_all.new.log))) many (c.in_err-undo_all.ensures.any_pages front first s.left (due_seen c.in_ok-tables.tables.redo c.cut_off-cut.result c.in_ok-kept.kept.now) many there)) in
    if_err c.from_residual-in_err-undo_all.result c.from_residual-in_err-undo_all.ensures.1 (λ error same f page.
    fault_wider (geometry_of c.args.heap.now) (MayBeUndoneOnPage (log_seen c.args.log.now)) (MayRead (cut_of_log c.args.log.now) c.args.checkpoint (records_of_log c.args.log.now)) disk (length (log_seen c.args.log.now)) f (λ p on. inr (inl on)) (undone.named f (sym same ∙ page)))

pub returns-in_err-keep_claims-clause-any_pages : goal.returns-in_err-keep_claims-clause-any_pages
returns-in_err-keep_claims-clause-any_pages g c front first disk held =
    let long : c.cut_off-cut.result + length c.in_ok-kept.kept.now ≡ length (log_seen c.args.log.now) = sym (length_padded c.cut_off-cut.result c.in_ok-kept.kept.now) ∙ ap length (seen_by (cut_of_log c.args.log.now) c.cut_off-cut.result (records_of_log c.args.log.now) c.in_ok-kept.kept.now c.cut_off-cut.ensures c.in_ok-kept.ensures.found) in
    let many : length (due_seen c.in_ok-tables.tables.redo c.cut_off-cut.result c.in_ok-kept.kept.now) ≡ length (log_seen c.args.log.now) = due_long c.in_ok-tables.tables.redo c.cut_off-cut.result c.in_ok-kept.kept.now ∙ long in
    let before = subst (λ (n : ℕ). IsHeld front first disk c.args.heap.now [] n) (sym long) held in
    let w = subst (λ (n : ℕ). WorksHeld (Ok c.in_ok-redone.redone) (AreOnPage (due_seen c.in_ok-tables.tables.redo c.cut_off-cut.result c.in_ok-kept.kept.now)) front first disk c.args.heap.now c.redo.new.heap n (due_seen c.in_ok-tables.tables.redo c.cut_off-cut.result c.in_ok-kept.kept.now) n) long (c.in_ok-redone.ensures.any_pages front first disk before) in
    let s = w.stays in
    let there = subst (λ (n : ℕ). IsHeld front first s.left c.redo.new.heap (due_seen c.in_ok-tables.tables.redo c.cut_off-cut.result c.in_ok-kept.kept.now) n) (sym many) s.held in
    let undone = held_then front first disk c.args.heap.now c.redo.new.heap (length (log_seen c.args.log.now)) (due_seen c.in_ok-tables.tables.redo c.cut_off-cut.result c.in_ok-kept.kept.now) (length (log_seen c.args.log.now)) s c.undo_all.new.heap (gone_on (due_seen c.in_ok-tables.tables.redo c.cut_off-cut.result c.in_ok-kept.kept.now) (log_seen c.args.log.now) (log_seen c.undo_all.new.log)) (length (log_seen c.undo_all.new.log)) c.redo.ensures.volume.geometry
    (subst (λ (n : ℕ). StaysHeld front first s.left c.redo.new.heap c.undo_all.new.heap n (gone_on (due_seen c.in_ok-tables.tables.redo c.cut_off-cut.result c.in_ok-kept.kept.now) (log_seen c.args.log.now) (log_seen c.undo_all.new.log)) (length (log_seen c.undo_all.new.log))) many (c.in_ok-undo_all.ensures.any_pages front first s.left (due_seen c.in_ok-tables.tables.redo c.cut_off-cut.result c.in_ok-kept.kept.now) many there).stays) in
    let last : c.last-2.result ≡ length (log_seen c.undo_all.new.log) = c.last-2.ensures ∙ sym (length_padded (cut_of_log c.undo_all.new.log) (records_of_log c.undo_all.new.log)) in
    let kept_there = subst (λ (n : ℕ). IsHeld front first undone.left c.undo_all.new.heap (gone_on (due_seen c.in_ok-tables.tables.redo c.cut_off-cut.result c.in_ok-kept.kept.now) (log_seen c.args.log.now) (log_seen c.undo_all.new.log)) n) (sym last) undone.held in
    let named = subst (λ (n : ℕ). (f : Fault) → c.in_err-keep_claims.field-0.0 ≡ Page f → IsPageFault (geometry_of c.undo_all.new.heap) (AreOfPage (all_changes (txns_in c.set_room.new.self))) undone.left n f) last (c.in_err-keep_claims.ensures.any_pages front first undone.left (gone_on (due_seen c.in_ok-tables.tables.redo c.cut_off-cut.result c.in_ok-kept.kept.now) (log_seen c.args.log.now) (log_seen c.undo_all.new.log)) kept_there) in
    let back = back_by (log_seen c.args.log.now) (padded c.cut_off-cut.result c.in_ok-kept.kept.now) c.in_ok-txns.txns c.set_room.new.self (seen_by (cut_of_log c.args.log.now) c.cut_off-cut.result (records_of_log c.args.log.now) c.in_ok-kept.kept.now c.cut_off-cut.ensures c.in_ok-kept.ensures.found) c.set_room.ensures.txns c.in_ok-txns.ensures.back in
    let told = are_told (log_seen c.args.log.now) c.set_room.new.self back in
    if_err c.from_residual-in_err-keep_claims.result c.from_residual-in_err-keep_claims.ensures.1 (λ error same f page.
    fault_wider (geometry_of c.args.heap.now) (AreOfPage (all_changes (txns_in c.set_room.new.self))) (MayRead (cut_of_log c.args.log.now) c.args.checkpoint (records_of_log c.args.log.now)) disk (length (log_seen c.args.log.now)) f (λ p on. inr (inr (entry_in_doubt (geometry_of c.args.heap.now).version (log_seen c.args.log.now) c.set_room.new.self told p on)))
    (fault_back (geometry_of c.args.heap.now) (geometry_of c.undo_all.new.heap) (AreOfPage (all_changes (txns_in c.set_room.new.self))) disk undone.left (length (log_seen c.args.log.now)) (length (log_seen c.undo_all.new.log)) f (c.undo_all.ensures.volume.geometry ∙ c.redo.ensures.volume.geometry) undone.bad (named f (sym same ∙ page))))

-- ---- .. and which record is named

pub returns-in_err-redone-clause-any_bad : goal.returns-in_err-redone-clause-any_bad
returns-in_err-redone-clause-any_bad g c front first disk held =
    let long : c.cut_off-cut.result + length c.in_ok-kept.kept.now ≡ length (log_seen c.args.log.now) = sym (length_padded c.cut_off-cut.result c.in_ok-kept.kept.now) ∙ ap length (seen_by (cut_of_log c.args.log.now) c.cut_off-cut.result (records_of_log c.args.log.now) c.in_ok-kept.kept.now c.cut_off-cut.ensures c.in_ok-kept.ensures.found) in
    let before = subst (λ (n : ℕ). IsHeld front first disk c.args.heap.now [] n) (sym long) held in
    if_err c.from_residual-in_err-redone.result c.from_residual-in_err-redone.ensures.1 (λ error same n is. inr (((found_as (λ g cut kept. AreMeantAnchored g cut c.args.checkpoint kept) (geometry_of c.args.heap.now) c.geometry.result.now (cut_of_log c.args.log.now) c.cut_off-cut.result (records_of_log c.args.log.now) c.in_ok-kept.kept.now c.geometry.ensures c.cut_off-cut.ensures c.in_ok-kept.ensures.found (c.in_ok-tables.ensures.anchored)), (found_as (λ g cut kept. CanHold g.max_locks (doubts_left (padded cut kept))) (geometry_of c.args.heap.now) c.geometry-2.result.now (cut_of_log c.args.log.now) c.cut_off-cut.result (records_of_log c.args.log.now) c.in_ok-kept.kept.now c.geometry-2.ensures c.cut_off-cut.ensures c.in_ok-kept.ensures.found (c.in_ok-locks.ensures.hold))), subst (λ (due : List LogRecord). IsMisfitOn (geometry_of c.args.heap.now) first (log_seen c.args.log.now) due n) (due_by (cut_of_log c.args.log.now) c.cut_off-cut.result c.args.checkpoint (records_of_log c.args.log.now) c.in_ok-kept.kept.now c.in_ok-tables.tables.redo c.cut_off-cut.ensures c.in_ok-kept.ensures.found c.in_ok-tables.ensures.tables.redo) (inl (c.in_err-redone.ensures.any_bad front first disk before n (sym same ∙ is)))))

pub returns-in_err-undo_all-clause-any_bad : goal.returns-in_err-undo_all-clause-any_bad
returns-in_err-undo_all-clause-any_bad g c front first disk held =
    let long : c.cut_off-cut.result + length c.in_ok-kept.kept.now ≡ length (log_seen c.args.log.now) = sym (length_padded c.cut_off-cut.result c.in_ok-kept.kept.now) ∙ ap length (seen_by (cut_of_log c.args.log.now) c.cut_off-cut.result (records_of_log c.args.log.now) c.in_ok-kept.kept.now c.cut_off-cut.ensures c.in_ok-kept.ensures.found) in
    let many : length (due_seen c.in_ok-tables.tables.redo c.cut_off-cut.result c.in_ok-kept.kept.now) ≡ length (log_seen c.args.log.now) = due_long c.in_ok-tables.tables.redo c.cut_off-cut.result c.in_ok-kept.kept.now ∙ long in
    let before = subst (λ (n : ℕ). IsHeld front first disk c.args.heap.now [] n) (sym long) held in
    let w = subst (λ (n : ℕ). WorksHeld (Ok c.in_ok-redone.redone) (AreOnPage (due_seen c.in_ok-tables.tables.redo c.cut_off-cut.result c.in_ok-kept.kept.now)) front first disk c.args.heap.now c.redo.new.heap n (due_seen c.in_ok-tables.tables.redo c.cut_off-cut.result c.in_ok-kept.kept.now) n) long (c.in_ok-redone.ensures.any_pages front first disk before) in
    let s = w.stays in
    let there = subst (λ (n : ℕ). IsHeld front first s.left c.redo.new.heap (due_seen c.in_ok-tables.tables.redo c.cut_off-cut.result c.in_ok-kept.kept.now) n) (sym many) s.held in
    let here = subst (λ (g : Geometry). AllFindRoom g first (due_seen c.in_ok-tables.tables.redo c.cut_off-cut.result c.in_ok-kept.kept.now)) (sym c.redo.ensures.volume.geometry) (c.in_ok-redone.ensures.any_fit front first disk before) in
    if_err c.from_residual-in_err-undo_all.result c.from_residual-in_err-undo_all.ensures.1 (λ error same n is.
    let bad = c.in_err-undo_all.ensures.any_bad front first s.left (due_seen c.in_ok-tables.tables.redo c.cut_off-cut.result c.in_ok-kept.kept.now) many there here n (sym same ∙ is) in
    inr (((found_as (λ g cut kept. AreMeantAnchored g cut c.args.checkpoint kept) (geometry_of c.args.heap.now) c.geometry.result.now (cut_of_log c.args.log.now) c.cut_off-cut.result (records_of_log c.args.log.now) c.in_ok-kept.kept.now c.geometry.ensures c.cut_off-cut.ensures c.in_ok-kept.ensures.found (c.in_ok-tables.ensures.anchored)), (found_as (λ g cut kept. CanHold g.max_locks (doubts_left (padded cut kept))) (geometry_of c.args.heap.now) c.geometry-2.result.now (cut_of_log c.args.log.now) c.cut_off-cut.result (records_of_log c.args.log.now) c.in_ok-kept.kept.now c.geometry-2.ensures c.cut_off-cut.ensures c.in_ok-kept.ensures.found (c.in_ok-locks.ensures.hold))), subst (λ (due : List LogRecord). IsMisfitOn (geometry_of c.args.heap.now) first (log_seen c.args.log.now) due n) (due_by (cut_of_log c.args.log.now) c.cut_off-cut.result c.args.checkpoint (records_of_log c.args.log.now) c.in_ok-kept.kept.now c.in_ok-tables.tables.redo c.cut_off-cut.ensures c.in_ok-kept.ensures.found c.in_ok-tables.ensures.tables.redo) (inr (bad.0, bad.1, subst (λ (g : Geometry). AllFindRoom g first (gone_on (due_seen c.in_ok-tables.tables.redo c.cut_off-cut.result c.in_ok-kept.kept.now) (log_seen c.args.log.now) bad.0)) c.redo.ensures.volume.geometry bad.2, inl (subst (λ (g : Geometry). FindsNoRoomToUndo g first bad.0 (gone_on (due_seen c.in_ok-tables.tables.redo c.cut_off-cut.result c.in_ok-kept.kept.now) (log_seen c.args.log.now) bad.0) n) c.redo.ensures.volume.geometry bad.3)))))

pub returns-in_err-keep_claims-clause-any_bad : goal.returns-in_err-keep_claims-clause-any_bad
returns-in_err-keep_claims-clause-any_bad g c front first disk held =
    let long : c.cut_off-cut.result + length c.in_ok-kept.kept.now ≡ length (log_seen c.args.log.now) = sym (length_padded c.cut_off-cut.result c.in_ok-kept.kept.now) ∙ ap length (seen_by (cut_of_log c.args.log.now) c.cut_off-cut.result (records_of_log c.args.log.now) c.in_ok-kept.kept.now c.cut_off-cut.ensures c.in_ok-kept.ensures.found) in
    let many : length (due_seen c.in_ok-tables.tables.redo c.cut_off-cut.result c.in_ok-kept.kept.now) ≡ length (log_seen c.args.log.now) = due_long c.in_ok-tables.tables.redo c.cut_off-cut.result c.in_ok-kept.kept.now ∙ long in
    let before = subst (λ (n : ℕ). IsHeld front first disk c.args.heap.now [] n) (sym long) held in
    let w = subst (λ (n : ℕ). WorksHeld (Ok c.in_ok-redone.redone) (AreOnPage (due_seen c.in_ok-tables.tables.redo c.cut_off-cut.result c.in_ok-kept.kept.now)) front first disk c.args.heap.now c.redo.new.heap n (due_seen c.in_ok-tables.tables.redo c.cut_off-cut.result c.in_ok-kept.kept.now) n) long (c.in_ok-redone.ensures.any_pages front first disk before) in
    let s = w.stays in
    let there = subst (λ (n : ℕ). IsHeld front first s.left c.redo.new.heap (due_seen c.in_ok-tables.tables.redo c.cut_off-cut.result c.in_ok-kept.kept.now) n) (sym many) s.held in
    let undone = held_then front first disk c.args.heap.now c.redo.new.heap (length (log_seen c.args.log.now)) (due_seen c.in_ok-tables.tables.redo c.cut_off-cut.result c.in_ok-kept.kept.now) (length (log_seen c.args.log.now)) s c.undo_all.new.heap (gone_on (due_seen c.in_ok-tables.tables.redo c.cut_off-cut.result c.in_ok-kept.kept.now) (log_seen c.args.log.now) (log_seen c.undo_all.new.log)) (length (log_seen c.undo_all.new.log)) c.redo.ensures.volume.geometry
    (subst (λ (n : ℕ). StaysHeld front first s.left c.redo.new.heap c.undo_all.new.heap n (gone_on (due_seen c.in_ok-tables.tables.redo c.cut_off-cut.result c.in_ok-kept.kept.now) (log_seen c.args.log.now) (log_seen c.undo_all.new.log)) (length (log_seen c.undo_all.new.log))) many (c.in_ok-undo_all.ensures.any_pages front first s.left (due_seen c.in_ok-tables.tables.redo c.cut_off-cut.result c.in_ok-kept.kept.now) many there).stays) in
    let last : c.last-2.result ≡ length (log_seen c.undo_all.new.log) = c.last-2.ensures ∙ sym (length_padded (cut_of_log c.undo_all.new.log) (records_of_log c.undo_all.new.log)) in
    let kept_there = subst (λ (n : ℕ). IsHeld front first undone.left c.undo_all.new.heap (gone_on (due_seen c.in_ok-tables.tables.redo c.cut_off-cut.result c.in_ok-kept.kept.now) (log_seen c.args.log.now) (log_seen c.undo_all.new.log)) n) (sym last) undone.held in
    let here = subst (λ (g : Geometry). AllFindRoom g first (due_seen c.in_ok-tables.tables.redo c.cut_off-cut.result c.in_ok-kept.kept.now)) (sym c.redo.ensures.volume.geometry) (c.in_ok-redone.ensures.any_fit front first disk before) in
    let fit = subst (λ (g : Geometry). AllFindRoom g first (gone_on (due_seen c.in_ok-tables.tables.redo c.cut_off-cut.result c.in_ok-kept.kept.now) (log_seen c.args.log.now) (log_seen c.undo_all.new.log))) c.redo.ensures.volume.geometry (c.in_ok-undo_all.ensures.any_fit front first s.left (due_seen c.in_ok-tables.tables.redo c.cut_off-cut.result c.in_ok-kept.kept.now) many there here) in
    let back = back_by (log_seen c.args.log.now) (padded c.cut_off-cut.result c.in_ok-kept.kept.now) c.in_ok-txns.txns c.set_room.new.self (seen_by (cut_of_log c.args.log.now) c.cut_off-cut.result (records_of_log c.args.log.now) c.in_ok-kept.kept.now c.cut_off-cut.ensures c.in_ok-kept.ensures.found) c.set_room.ensures.txns c.in_ok-txns.ensures.back in
    let later = log_seen c.undo_all.new.log in
    let turns = c.in_ok-undo_all.ensures.undone in
    let told = still_told (log_seen c.args.log.now) turns.0 later c.set_room.new.self (in_order_undone (log_seen c.args.log.now) turns.0 later turns.1) (are_told (log_seen c.args.log.now) c.set_room.new.self back) in
    if_err c.from_residual-in_err-keep_claims.result c.from_residual-in_err-keep_claims.ensures.1 (λ error same n is.
    let lacks = subst (λ (g : Geometry). CannotKeepOn g c.set_room.new.self first (gone_on (due_seen c.in_ok-tables.tables.redo c.cut_off-cut.result c.in_ok-kept.kept.now) (log_seen c.args.log.now) (log_seen c.undo_all.new.log)) n) (c.undo_all.ensures.volume.geometry ∙ c.redo.ensures.volume.geometry) (c.in_err-keep_claims.ensures.any_bad front first undone.left (gone_on (due_seen c.in_ok-tables.tables.redo c.cut_off-cut.result c.in_ok-kept.kept.now) (log_seen c.args.log.now) (log_seen c.undo_all.new.log)) kept_there n (sym same ∙ is)) in
    inr (((found_as (λ g cut kept. AreMeantAnchored g cut c.args.checkpoint kept) (geometry_of c.args.heap.now) c.geometry.result.now (cut_of_log c.args.log.now) c.cut_off-cut.result (records_of_log c.args.log.now) c.in_ok-kept.kept.now c.geometry.ensures c.cut_off-cut.ensures c.in_ok-kept.ensures.found (c.in_ok-tables.ensures.anchored)), (found_as (λ g cut kept. CanHold g.max_locks (doubts_left (padded cut kept))) (geometry_of c.args.heap.now) c.geometry-2.result.now (cut_of_log c.args.log.now) c.cut_off-cut.result (records_of_log c.args.log.now) c.in_ok-kept.kept.now c.geometry-2.ensures c.cut_off-cut.ensures c.in_ok-kept.ensures.found (c.in_ok-locks.ensures.hold))), subst (λ (due : List LogRecord). IsMisfitOn (geometry_of c.args.heap.now) first (log_seen c.args.log.now) due n) (due_by (cut_of_log c.args.log.now) c.cut_off-cut.result c.args.checkpoint (records_of_log c.args.log.now) c.in_ok-kept.kept.now c.in_ok-tables.tables.redo c.cut_off-cut.ensures c.in_ok-kept.ensures.found c.in_ok-tables.ensures.tables.redo) (inr (later, turns, fit, inr (c.in_ok-undo_all.ensures.done, unkept_on (geometry_of c.args.heap.now).version later c.set_room.new.self told (geometry_of c.args.heap.now) first (gone_on (due_seen c.in_ok-tables.tables.redo c.cut_off-cut.result c.in_ok-kept.kept.now) (log_seen c.args.log.now) (log_seen c.undo_all.new.log)) n lacks)))))

pub returns-clause-any_fit : goal.returns-clause-any_fit
returns-clause-any_fit g c front first disk held =
    let long : c.cut_off-cut.result + length c.in_ok-kept.kept.now ≡ length (log_seen c.args.log.now) = sym (length_padded c.cut_off-cut.result c.in_ok-kept.kept.now) ∙ ap length (seen_by (cut_of_log c.args.log.now) c.cut_off-cut.result (records_of_log c.args.log.now) c.in_ok-kept.kept.now c.cut_off-cut.ensures c.in_ok-kept.ensures.found) in
    let many : length (due_seen c.in_ok-tables.tables.redo c.cut_off-cut.result c.in_ok-kept.kept.now) ≡ length (log_seen c.args.log.now) = due_long c.in_ok-tables.tables.redo c.cut_off-cut.result c.in_ok-kept.kept.now ∙ long in
    let before = subst (λ (n : ℕ). IsHeld front first disk c.args.heap.now [] n) (sym long) held in
    let w = subst (λ (n : ℕ). WorksHeld (Ok c.in_ok-redone.redone) (AreOnPage (due_seen c.in_ok-tables.tables.redo c.cut_off-cut.result c.in_ok-kept.kept.now)) front first disk c.args.heap.now c.redo.new.heap n (due_seen c.in_ok-tables.tables.redo c.cut_off-cut.result c.in_ok-kept.kept.now) n) long (c.in_ok-redone.ensures.any_pages front first disk before) in
    let s = w.stays in
    let there = subst (λ (n : ℕ). IsHeld front first s.left c.redo.new.heap (due_seen c.in_ok-tables.tables.redo c.cut_off-cut.result c.in_ok-kept.kept.now) n) (sym many) s.held in
    let undone = held_then front first disk c.args.heap.now c.redo.new.heap (length (log_seen c.args.log.now)) (due_seen c.in_ok-tables.tables.redo c.cut_off-cut.result c.in_ok-kept.kept.now) (length (log_seen c.args.log.now)) s c.undo_all.new.heap (gone_on (due_seen c.in_ok-tables.tables.redo c.cut_off-cut.result c.in_ok-kept.kept.now) (log_seen c.args.log.now) (log_seen c.undo_all.new.log)) (length (log_seen c.undo_all.new.log)) c.redo.ensures.volume.geometry
    (subst (λ (n : ℕ). StaysHeld front first s.left c.redo.new.heap c.undo_all.new.heap n (gone_on (due_seen c.in_ok-tables.tables.redo c.cut_off-cut.result c.in_ok-kept.kept.now) (log_seen c.args.log.now) (log_seen c.undo_all.new.log)) (length (log_seen c.undo_all.new.log))) many (c.in_ok-undo_all.ensures.any_pages front first s.left (due_seen c.in_ok-tables.tables.redo c.cut_off-cut.result c.in_ok-kept.kept.now) many there).stays) in
    let last : c.last-2.result ≡ length (log_seen c.undo_all.new.log) = c.last-2.ensures ∙ sym (length_padded (cut_of_log c.undo_all.new.log) (records_of_log c.undo_all.new.log)) in
    let kept_there = subst (λ (n : ℕ). IsHeld front first undone.left c.undo_all.new.heap (gone_on (due_seen c.in_ok-tables.tables.redo c.cut_off-cut.result c.in_ok-kept.kept.now) (log_seen c.args.log.now) (log_seen c.undo_all.new.log)) n) (sym last) undone.held in
    let here = subst (λ (g : Geometry). AllFindRoom g first (due_seen c.in_ok-tables.tables.redo c.cut_off-cut.result c.in_ok-kept.kept.now)) (sym c.redo.ensures.volume.geometry) (c.in_ok-redone.ensures.any_fit front first disk before) in
    let fit = subst (λ (g : Geometry). AllFindRoom g first (gone_on (due_seen c.in_ok-tables.tables.redo c.cut_off-cut.result c.in_ok-kept.kept.now) (log_seen c.args.log.now) (log_seen c.undo_all.new.log))) c.redo.ensures.volume.geometry (c.in_ok-undo_all.ensures.any_fit front first s.left (due_seen c.in_ok-tables.tables.redo c.cut_off-cut.result c.in_ok-kept.kept.now) many there here) in
    let back = back_by (log_seen c.args.log.now) (padded c.cut_off-cut.result c.in_ok-kept.kept.now) c.in_ok-txns.txns c.set_room.new.self (seen_by (cut_of_log c.args.log.now) c.cut_off-cut.result (records_of_log c.args.log.now) c.in_ok-kept.kept.now c.cut_off-cut.ensures c.in_ok-kept.ensures.found) c.set_room.ensures.txns c.in_ok-txns.ensures.back in
    let later = log_seen c.undo_all.new.log in
    let turns = c.in_ok-undo_all.ensures.undone in
    let told = still_told (log_seen c.args.log.now) turns.0 later c.set_room.new.self (in_order_undone (log_seen c.args.log.now) turns.0 later turns.1) (are_told (log_seen c.args.log.now) c.set_room.new.self back) in
    let can = subst (λ (g : Geometry). CanKeepOn g c.set_room.new.self first (gone_on (due_seen c.in_ok-tables.tables.redo c.cut_off-cut.result c.in_ok-kept.kept.now) (log_seen c.args.log.now) later)) (c.undo_all.ensures.volume.geometry ∙ c.redo.ensures.volume.geometry) (c.in_ok-keep_claims.ensures.any_fit front first undone.left (gone_on (due_seen c.in_ok-tables.tables.redo c.cut_off-cut.result c.in_ok-kept.kept.now) (log_seen c.args.log.now) later) kept_there) in
    subst (λ (due : List LogRecord). NoneMisfitsOn (geometry_of c.args.heap.now) first (log_seen c.args.log.now) due later) (due_by (cut_of_log c.args.log.now) c.cut_off-cut.result c.args.checkpoint (records_of_log c.args.log.now) c.in_ok-kept.kept.now c.in_ok-tables.tables.redo c.cut_off-cut.ensures c.in_ok-kept.ensures.found c.in_ok-tables.ensures.tables.redo)
    (record { fit = c.in_ok-redone.ensures.any_fit front first disk before; undo_fits = fit; kept = kept_on (geometry_of c.args.heap.now).version later c.set_room.new.self told (geometry_of c.args.heap.now) first (gone_on (due_seen c.in_ok-tables.tables.redo c.cut_off-cut.result c.in_ok-kept.kept.now) (log_seen c.args.log.now) later) can })
