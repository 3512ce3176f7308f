-- What is kept of a log has the room that the whole log has, and the turns of undo behind it are those of the whole log.
use Rattle.std.proofs.Common.{◌≡◌, ◌≤◌, inl, inr, ℕ, List, [], ◌∷◌, ◌++◌, true, None, refl, sym, ap, subst, ◌∙◌, length, take, drop, map, arith}
use Rattle.std.specs.Prelude.{reverse}
use Rattle.std.proofs.lemmas.Bool.{true≢false}
use Rattle.std.proofs.lemmas.List.{drop-append-le, length-drop, take-append-le}
use Rattle.shore_types.specs.declared.layout.Geometry.{Geometry}
use Rattle.shore_types.specs.declared.layout.TheConstants.{MAX_LOG_BYTES}
use Rattle.shore_model.specs.declared.log_records.LogRecord.{LogRecord}
use Rattle.shore_model.specs.Logs.{Lawful, is_in_doubt, records_of, unanswered_in}
use Rattle.laws_lives.specs.Doubts.{LoggedDoubt, doubts_in, undo_in}
use Rattle.laws_lives.specs.Pages.{LoggedPages}
use Rattle.laws_lives.specs.Sessions.{EachOnce, SessionTxn}
use Rattle.laws_lives.specs.Undo.{IsUndoneTo, undo_record}
use Rattle.laws_lives.specs.Views.{IsAmong}
use Rattle.laws_lives.proofs.DoubtsShown.{doubts_once}
use Rattle.laws_lives.proofs.UndoRecords.{undone_lawful}
use Rattle.laws_checkpoints.specs.KeptLogs.{MayBeCut}
use Rattle.laws_checkpoints.proofs.Kept.{cut_longer, kept_unended}
use Rattle.laws_checkpoints.proofs.KeptDoubts.{doubt_all_kept, doubt_runs, image_pair}
use Rattle.laws_room.specs.LogRooms.{owed_by_all}
use Rattle.laws_runs.specs.CheckpointSteps.{log_limit}
use Rattle.laws_runs.specs.RoomyLogs.{AreRoomy}
use Rattle.laws_runs.proofs.MovedAnchors.{cost_in_parts}
use Rattle.laws_runs.proofs.Prefixes.{whole_roomy}
use Rattle.laws_runs.proofs.Undecided.{some_owe_no_more}
use Rattle.shore_analysis.specs.Doubts.{doubts_left}
use Rattle.shore_analysis.specs.Losers.{IsUndoneInOrder}
use Rattle.shore_analysis.specs.Padded.{padded}
use Rattle.shore_analysis.proofs.Padding.{padded-push, records_padded}
use Rattle.shore_restart.specs.Anchors.{EndsBehind}
use Rattle.shore_restart.specs.Doubts.{undo_told, undos_told}
use Rattle.shore_restart.specs.Room.{LeavesRoom}
use Rattle.shore_restart.proofs.DoubtLaws.{reserved_same}
use Rattle.shore_restart.proofs.DoubtsAll.{left_of_lawful}
use Rattle.shore_restart.proofs.DoubtsKept.{in_doubt_here}
use Rattle.shore_restart.proofs.LogTurns.{drop_padded}
use Rattle.shore_restart.proofs.WholeLogs.{whole_loser, whole_record}
use Rattle.shore_world.proofs.KeptDoubts.{doubts_of_log, doubts_told_once}
use Rattle.shore_world.proofs.LeftDoubts.{left_behind}

maps_alike : (f h : LoggedDoubt → SessionTxn) (ds : List LoggedDoubt) → ((d : LoggedDoubt) → IsAmong d ds → f d ≡ h d) → map f ds ≡ map h ds
maps_alike f h [] same = refl
maps_alike f h (d ∷ ds) same = ap (λ a. a ∷ map f ds) (same d (inl refl)) ∙ ap (λ rest. h d ∷ rest) (maps_alike f h ds (λ e there. same e (inr there)))

module _ (rs : List LogRecord) (lawful : Lawful rs) (pages : LoggedPages) (cut : ℕ) (may : MayBeCut rs pages cut) where
  abbrev pub seen : List LogRecord
  seen = padded cut (drop cut rs)

  -- whoever has a record that is cut off has ended, by what is kept too
  pub ends_behind : EndsBehind cut rs
  ends_behind = record {
    some = λ t doubt. (doubt_runs rs lawful pages cut may t doubt).0;
    cuts = (may.within, may.ended);
    none_runs = λ t some has runs. true≢false (sym (may.ended t some has) ∙ (kept_unended rs lawful pages cut may t runs).1);
  }

  -- ---- what those in doubt have reserved

  records_seen : (t : ℕ) → is_in_doubt t rs ≡ true → records_of t seen ≡ records_of t rs
  records_seen t doubt = records_padded t (doubt_runs rs lawful pages cut may t doubt).0 cut (drop cut rs) ∙ sym (doubt_all_kept rs lawful pages cut may t doubt).1

  undo_seen : (t : ℕ) → is_in_doubt t rs ≡ true → undo_in seen t ≡ undo_in rs t
  undo_seen t doubt = ap (λ (es : List (ℕ × LogRecord)). record { images = reverse (map image_pair (unanswered_in (reverse es))); marks = []; rolling = None }) (records_seen t doubt)

  undos_seen : undos_told seen ≡ undos_told rs
  undos_seen =
      ap (map (undo_told seen)) (left_behind rs lawful pages cut may)
      ∙ maps_alike (undo_told seen) (undo_told rs) (doubts_in rs)
      (λ d among. ap (λ undo. record { session = 0; txn = d.txn; undo = undo }) (undo_seen d.txn (in_doubt_here rs d among)))
      ∙ ap (map (undo_told rs)) (sym (left_of_lawful rs lawful))

  -- what is kept leaves room in a stream in which the whole log would, if what is cut off took no room of it
  pub leaves_room : (g : Geometry) (ring_bytes least : ℕ) → AreRoomy g (log_limit ring_bytes cut rs) least rs → ring_bytes ≤ MAX_LOG_BYTES → LeavesRoom cut (drop cut rs) ring_bytes
  leaves_room g ring_bytes least k short =
      let whole = whole_roomy g (log_limit ring_bytes cut rs) least rs k in
      let once = subst (λ (ds : List LoggedDoubt). EachOnce (map (λ (d : LoggedDoubt). d.txn) ds)) (sym (left_of_lawful rs lawful)) (doubts_once rs lawful) in
      let owed = some_owe_no_more rs whole.placed.undos whole.placed.undecided (undos_told rs) (doubts_told_once rs once) (doubts_of_log rs) in
      let same = ap owed_by_all undos_seen in
      let many = ap length (left_behind rs lawful pages cut may) in
      let reserved = reserved_same seen (doubts_left seen) in
      let sum = whole.room.sum in
      let fits = whole.room.fits in
      let numbers = whole.room.lsns in
      let parts = cost_in_parts rs cut in
      let within = may.within in
      let long = length-drop cut rs in
      record { frame = omega (arith, fits, sum, reserved, owed, same, many, parts); numbers = omega (arith, numbers, sum, reserved, owed, same, many, within, long); short = short }

-- ---- turns of undo

-- The whole log behind the same turns, of which the same is cut off.
pub record HasWhole (pages : LoggedPages) (cut : ℕ) (rs : List LogRecord) (turns : List ℕ) (so_far : List LogRecord) : Type 0 where
  pub last : List LogRecord
  pub undone : IsUndoneTo rs turns last
  pub kept : drop cut last ≡ so_far
  pub may : MayBeCut last pages cut
  pub front : take cut last ≡ take cut rs

pub has_whole : (pages : LoggedPages) (cut : ℕ) (turns : List ℕ) (rs : List LogRecord) → Lawful rs → MayBeCut rs pages cut → (so_far : List LogRecord) → IsUndoneInOrder (padded cut (drop cut rs)) turns (padded cut so_far)
    → HasWhole pages cut rs turns so_far
has_whole pages cut [] rs lawful may so_far same = record {
  last = rs;
  undone = refl;
  kept = sym (drop_padded cut (drop cut rs)) ∙ sym (ap (drop cut) same) ∙ drop_padded cut so_far;
  may = may;
  front = refl;
}
has_whole pages cut (t ∷ turns) rs lawful may so_far undone =
    let ends = ends_behind rs lawful pages cut may in
    let loser = whole_loser cut (drop cut rs) rs ends refl t undone.0 in
    let r = undo_record rs t in
    let same : padded cut (drop cut rs) ++ undo_record (padded cut (drop cut rs)) t ∷ [] ≡ padded cut (drop cut (rs ++ r ∷ [])) =
    ap (λ (x : LogRecord). padded cut (drop cut rs) ++ x ∷ []) (sym (whole_record cut (drop cut rs) rs ends refl t undone.0)) ∙ sym (padded-push cut (drop cut rs) r)
    ∙ ap (padded cut) (sym (drop-append-le cut rs (r ∷ []) may.within)) in
    let rest = has_whole pages cut turns (rs ++ r ∷ []) (undone_lawful rs (t ∷ []) (rs ++ r ∷ []) (loser, refl) lawful) (cut_longer rs pages cut may (r ∷ [])) so_far
    (subst (λ (l : List LogRecord). IsUndoneInOrder l turns (padded cut so_far)) same undone.2) in
    record { last = rest.last; undone = (loser, rest.undone); kept = rest.kept; may = rest.may; front = rest.front ∙ take-append-le cut rs (r ∷ []) may.within }
