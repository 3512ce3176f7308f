-- Why a restart of what is kept of a log that may be opened is refused by its devices and by want of memory alone.
use Rattle.std.proofs.Common.{◌≡◌, inl, inr, ◌-◌, ◌≤◌, ◌+◌, ◌++◌, ◌∷◌, [], ℕ, List, length, take, drop, map, refl, sym, ap, subst, ◌∙◌}
use Rattle.std.proofs.lemmas.List.{drop-append-le, take-append-le}
use Rattle.shore_types.specs.declared.faults.Fault.{Fault}
use Rattle.shore_types.specs.declared.faults.Fault.TheVariants as fault
use Rattle.shore_types.specs.declared.layout.Geometry.{Geometry}
use Rattle.shore_gate.specs.Checks.{IsFromOutside}
use Rattle.shore_gate.specs.declared.anchors.Anchor.{Anchor}
use Rattle.shore_model.specs.declared.log_records.LogRecord.{LogRecord}
use Rattle.shore_model.specs.Logs.{Lawful}
use Rattle.laws_lives.specs.Doubts.{LoggedDoubt}
use Rattle.laws_lives.specs.Pages.{LoggedPages}
use Rattle.laws_lives.specs.Sessions.{EachOnce}
use Rattle.laws_lives.specs.Undo.{undo_record}
use Rattle.laws_lives.proofs.DoubtsShown.{doubts_once}
use Rattle.laws_lives.proofs.UndoRecords.{undone_lawful}
use Rattle.laws_calls.specs.States.{cost_of_log}
use Rattle.laws_checkpoints.specs.KeptLogs.{MayBeCut}
use Rattle.laws_checkpoints.proofs.Kept.{cut_longer}
use Rattle.laws_runs.specs.CheckpointedStates.{MayBeOpenedBehind}
use Rattle.laws_runs.specs.CheckpointSteps.{log_limit}
use Rattle.laws_runs.specs.RoomyLogs.{AreRoomy}
use Rattle.laws_runs.proofs.Opens.{undo_fits}
use Rattle.laws_runs.proofs.Prefixes.{whole_roomy}
use Rattle.laws_runs.proofs.Redoing.{each_fits}
use Rattle.laws_runs.proofs.RoomyMeant.{all_kept_meant, anchored_meant}
use Rattle.laws_runs.proofs.Undoing.{turns_are_roomy, undone_are_roomy}
use Rattle.laws_images.specs.StandsBehind.{anchored_by, kept_behind}
use Rattle.shore_analysis.proofs.InTurn.{in_order_undone}
use Rattle.shore_analysis.specs.Doubts.{doubts_left}
use Rattle.shore_analysis.specs.Padded.{padded}
use Rattle.shore_restart.specs.declared.errors.RestartError.{RestartError}
use Rattle.shore_restart.specs.declared.errors.RestartError.TheVariants as error
use Rattle.shore_restart.specs.Anchors.{HasCheckpoint}
use Rattle.shore_restart.specs.Doubts.{CanHold, IsTaken}
use Rattle.shore_restart.specs.Room.{LeavesRoom}
use Rattle.shore_restart.specs.Turns.{IsBadRecord, IsMisfit, IsUndoneSoFar, LacksRoom}
use Rattle.shore_restart.proofs.DoubtLaws.{held_if_stand, taken_or_refused}
use Rattle.shore_restart.proofs.DoubtsAll.{left_of_lawful}
use Rattle.shore_restart.proofs.WholeLogs.{whole_loser, whole_record}
use Rattle.shore_world.specs.Refusals.{cut_behind}
use Rattle.shore_world.proofs.CutRooms.{HasWhole, ends_behind, has_whole, leaves_room}
use Rattle.shore_world.proofs.KeptDoubts.{none_unkept}
use Rattle.shore_world.proofs.LeftDoubts.{left_behind}
use Rattle.shore_world.proofs.ShownPages.{begin_kept, cut_found, has_checkpoint}

module _ (g : Geometry) (ring_bytes : ℕ) (anchor : Anchor) (rs : List LogRecord) (pages : LoggedPages) (may : MayBeOpenedBehind g ring_bytes (anchored_by anchor) rs pages) where
  abbrev cut : ℕ
  cut = cut_behind anchor

  abbrev kept : List LogRecord
  kept = kept_behind anchor rs

  abbrev limit : ℕ
  limit = log_limit ring_bytes cut rs

  cuts : MayBeCut rs pages cut
  cuts = cut_found g ring_bytes anchor rs pages may

  -- a restart may work on what is kept
  pub is_taken : IsTaken g cut anchor.checkpoint kept
  is_taken = (
    anchored_meant g limit (length rs) rs may.opened.roomy may.opened.lawful pages cut cuts anchor.checkpoint (begin_kept g ring_bytes anchor rs pages may),
    subst (CanHold g.max_locks) (sym (left_behind rs may.opened.lawful pages cut cuts))
        (held_if_stand g rs g.max_locks (all_kept_meant g limit (length rs) rs may.opened.roomy may.opened.lawful) (may.opened.doubts, (whole_roomy g limit (length rs) rs may.opened.roomy).locks)),
  )

  -- ---- the log with some of the records of undo behind it

  roomy_so_far : (so_far : List LogRecord) → IsUndoneSoFar rs so_far → AreRoomy g limit (length rs) so_far
  roomy_so_far so_far undone = turns_are_roomy g limit (length rs) rs undone.0 so_far may.opened.roomy (in_order_undone rs undone.0 so_far undone.1)

  lawful_so_far : (so_far : List LogRecord) → IsUndoneSoFar rs so_far → Lawful so_far
  lawful_so_far so_far undone = undone_lawful rs undone.0 so_far (in_order_undone rs undone.0 so_far undone.1) may.opened.lawful

  once_so_far : (so_far : List LogRecord) → Lawful so_far → EachOnce (map (λ (d : LoggedDoubt). d.txn) (doubts_left so_far))
  once_so_far so_far lawful = subst (λ (ds : List LoggedDoubt). EachOnce (map (λ (d : LoggedDoubt). d.txn) ds)) (sym (left_of_lawful so_far lawful)) (doubts_once so_far lawful)

  -- each record means what it has to, and fits its page, as does what its undo brings back, and what the rollback of one in doubt may
  none_misfits : (n : ℕ) → IsMisfit g.version rs n → ⊥
  none_misfits n (inl (some, (r, at, misfit))) = misfit (each_fits g limit (length rs) rs may.opened.roomy (n - 1) r at)
  none_misfits n (inr (so_far, undone, fit, inl (t, loser, next, is, misfit))) = misfit (undo_fits g limit so_far t (whole_roomy g limit (length rs) so_far (roomy_so_far so_far undone)) loser)
  none_misfits n (inr (so_far, undone, fit, inr (ended, unkept))) =
      none_unkept g limit so_far (whole_roomy g limit (length rs) so_far (roomy_so_far so_far undone)) (once_so_far so_far (lawful_so_far so_far undone)) n unkept

  none_is_bad : (n : ℕ) → IsBadRecord g cut anchor.checkpoint kept rs n → ⊥
  none_is_bad n (inl refused) = taken_or_refused g cut anchor.checkpoint kept n is_taken refused
  none_is_bad n (inr (taken, misfit)) = none_misfits n misfit

  -- log and undo have room
  room_behind : (last : List LogRecord) → AreRoomy g limit (length rs) last → Lawful last → MayBeCut last pages cut → log_limit ring_bytes cut last ≡ limit → LeavesRoom cut (drop cut last) ring_bytes
  room_behind last k lawful its same = leaves_room last lawful pages cut its g ring_bytes (length rs) (subst (λ n. AreRoomy g n (length rs) last) (sym same) k) may.short

  lacks_no_room : LacksRoom cut kept ring_bytes → ⊥
  lacks_no_room (inl none) = none (room_behind rs may.opened.roomy may.opened.lawful cuts refl)
  lacks_no_room (inr (so_far, (turns, undone), (t, loser, none))) =
      let w : HasWhole pages cut rs turns so_far = has_whole pages cut turns rs may.opened.lawful cuts so_far undone in
      let lawful = undone_lawful rs turns w.last w.undone may.opened.lawful in
      let k = turns_are_roomy g limit (length rs) rs turns w.last may.opened.roomy w.undone in
      let ends = ends_behind w.last lawful pages cut w.may in
      let whole = whole_loser cut so_far w.last ends w.kept t loser in
      let r = undo_record w.last t in
      let more = w.last ++ r ∷ [] in
      let its : MayBeCut more pages cut = cut_longer w.last pages cut w.may (r ∷ []) in
      let front : take cut more ≡ take cut rs = take-append-le cut w.last (r ∷ []) w.may.within ∙ w.front in
      let same : drop cut more ≡ so_far ++ undo_record (padded cut so_far) t ∷ [] =
      drop-append-le cut w.last (r ∷ []) w.may.within ∙ ap (λ (l : List LogRecord). l ++ r ∷ []) w.kept ∙ ap (λ (x : LogRecord). so_far ++ x ∷ []) (whole_record cut so_far w.last ends w.kept t loser) in
      none (subst (λ (l : List LogRecord). LeavesRoom cut l ring_bytes) same
      (room_behind more (undone_are_roomy g limit (length rs) w.last t k whole) (undone_lawful w.last (t ∷ []) more (whole, refl) lawful) its (ap (λ (l : List LogRecord). ring_bytes + cost_of_log l) front)))

  -- so what it is refused with comes from outside
  pub refused_from_outside : 1 ≤ anchor.tail → (e : RestartError) (f : Fault) → (e ≡ error.BadAnchor → HasCheckpoint cut anchor.checkpoint kept → ⊥)
      → ((n : ℕ) → e ≡ error.BadRecord n → IsBadRecord g cut anchor.checkpoint kept rs n) → (e ≡ error.NoRoom → LacksRoom cut kept ring_bytes)
      → ((h : Fault) → e ≡ error.Page h → h ≡ fault.Device) → ((h : Fault) → e ≡ error.Log h → h ≡ fault.Device)
      → (e ≡ error.Memory → f ≡ fault.Memory) → ((h : Fault) → e ≡ error.Page h → f ≡ h) → ((h : Fault) → e ≡ error.Log h → f ≡ h) → IsFromOutside f
  refused_from_outside some error.Memory f lost bad room page force memory on_page on_log = inr (memory refl)
  refused_from_outside some error.NoRoom f lost bad room page force memory on_page on_log = absurd (lacks_no_room (room refl))
  refused_from_outside some error.BadAnchor f lost bad room page force memory on_page on_log = absurd (lost refl (has_checkpoint g ring_bytes anchor rs pages may some))
  refused_from_outside some (error.BadRecord n) f lost bad room page force memory on_page on_log = absurd (none_is_bad n (bad n refl))
  refused_from_outside some (error.Page h) f lost bad room page force memory on_page on_log = inl (on_page h refl ∙ page h refl)
  refused_from_outside some (error.Log h) f lost bad room page force memory on_page on_log = inl (on_log h refl ∙ force h refl)
