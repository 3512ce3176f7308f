-- What those in doubt hold behind an open, by what is kept of the log, is what they hold by the whole log.
use Rattle.std.proofs.Common.{◌≡◌, ℕ, zero, suc, List, Bool, true, false, refl, sym, ap, subst, ◌∙◌, ⊎_elim, take}
use Rattle.std.specs.Prelude.{◌==◌, ◌&&◌, ◌||◌, drop, filter, not}
use Rattle.std.specs.List.{filter_map}
use Rattle.std.proofs.lemmas.Bool.{cases_Bool, true≢false}
use Rattle.shore_types.specs.declared.layout.Geometry.{Geometry}
use Rattle.shore_gate.specs.declared.anchors.Anchor.{Anchor}
use Rattle.shore_model.specs.declared.holds.Hold.{Hold}
use Rattle.shore_model.specs.declared.log_records.LogRecord.{LogRecord}
use Rattle.shore_model.specs.declared.log_records.Payload.{Payload}
use Rattle.shore_model.specs.declared.log_records.Payload.TheVariants.{CheckpointBegin}
use Rattle.shore_model.specs.Logs.{Lawful, has, is_commit, is_end, is_in_doubt, is_over, is_prepare, is_rollback}
use Rattle.shore_analysis.specs.Doubts.{doubts_left}
use Rattle.shore_analysis.specs.Padded.{padded}
use Rattle.shore_analysis.proofs.DoubtsLeft.{is_left, left_list}
use Rattle.shore_restart.specs.Doubts.{AreLocksOf}
use Rattle.laws_lives.specs.Doubts.{AreRestored, LoggedDoubt, doubt_of, doubts_in}
use Rattle.laws_lives.specs.Pages.{LoggedPages}
use Rattle.laws_lives.specs.Views.{IsAmong}
use Rattle.laws_lives.proofs.DoubtRecords.{filter_same}
use Rattle.laws_lives.proofs.WritersTold.{doubt_not_over}
use Rattle.laws_checkpoints.specs.Checkpoints.{cut_of}
use Rattle.laws_checkpoints.specs.KeptLogs.{MayBeCut}
use Rattle.laws_checkpoints.proofs.Kept.{has_split}
use Rattle.laws_checkpoints.proofs.KeptDoubts.{doubt_kept, doubts_kept}
use Rattle.laws_checkpoints.proofs.KeptOrders.{goes_in_order}
use Rattle.laws_runs.specs.CheckpointedStates.{MayBeOpenedBehind, found_behind}
use Rattle.laws_images.specs.StandsBehind.{anchored_by}
use Rattle.shore_world.specs.Opens.{log_kept}

-- ---- records of nobody in the front tell nothing of transactions

module _ (t : ℕ) where
  of_none : (b c : Bool) → (b && false || c) ≡ c
  of_none true c = refl
  of_none false c = refl

  has_behind : (p : Payload → Bool) → p CheckpointBegin ≡ false → (cut : ℕ) (kept : List LogRecord) → has p t (padded cut kept) ≡ has p t kept
  has_behind p none zero kept = refl
  has_behind p none (suc cut) kept =
      ap (λ b. (0 == t) && b || has p t (padded cut kept)) none ∙ of_none (0 == t) (has p t (padded cut kept)) ∙ has_behind p none cut kept

  over_behind : (cut : ℕ) (kept : List LogRecord) → is_over t (padded cut kept) ≡ is_over t kept
  over_behind cut kept = λ i. has_behind is_commit refl cut kept i || has_behind is_end refl cut kept i

  doubt_behind : (cut : ℕ) (kept : List LogRecord) → is_in_doubt t (padded cut kept) ≡ is_in_doubt t kept
  doubt_behind cut kept = λ i. has_behind is_prepare refl cut kept i && not (has_behind is_commit refl cut kept i) && not (has_behind is_rollback refl cut kept i)

prepares_behind : (cut : ℕ) (kept : List LogRecord) → filter_map doubt_of (padded cut kept) ≡ filter_map doubt_of kept
prepares_behind zero kept = refl
prepares_behind (suc cut) kept = prepares_behind cut kept

neither : (a b c d : Bool) → ((a || b) || (c || d)) ≡ false → (b || d) ≡ false
neither false false false false h = refl
neither false false false true h = h
neither false false true d h = absurd (true≢false h)
neither false true c d h = absurd (true≢false h)
neither true b c d h = absurd (true≢false h)

-- ---- those in doubt are the whole log's

module _ (rs : List LogRecord) (lawful : Lawful rs) (pages : LoggedPages) (cut : ℕ) (may : MayBeCut rs pages cut) where
  abbrev kept : List LogRecord
  kept = drop cut rs

  -- one who is in doubt by what is kept has not ended there
  kept_not_over : (t : ℕ) → is_in_doubt t kept ≡ true → is_over t kept ≡ false
  kept_not_over t doubt =
      let whole = doubt_not_over rs lawful t (sym (doubt_kept rs lawful pages cut may t) ∙ doubt) in
      neither (has is_commit t (take cut rs)) (has is_commit t kept) (has is_end t (take cut rs)) (has is_end t kept)
      ((λ i. sym (has_split t rs cut may.within is_commit) i || sym (has_split t rs cut may.within is_end) i) ∙ whole)

  left_is_in_doubt : (t : ℕ) → is_left (padded cut kept) t ≡ is_in_doubt t kept
  left_is_in_doubt t = (λ i. doubt_behind t cut kept i && not (over_behind t cut kept i)) ∙ ⊎_elim
      (λ doubt. (λ i. doubt i && not (kept_not_over t doubt i)) ∙ sym doubt)
      (λ none. ap (λ b. b && not (is_over t kept)) none ∙ sym none)
      (cases_Bool (is_in_doubt t kept))

  pub left_behind : doubts_left (padded cut kept) ≡ doubts_in rs
  left_behind =
      left_list (padded cut kept) ∙ ap (filter (λ d. is_left (padded cut kept) d.txn)) (prepares_behind cut kept)
      ∙ filter_same (λ d. is_left (padded cut kept) d.txn) (λ d. is_in_doubt d.txn kept) (filter_map doubt_of kept) (λ d among. left_is_in_doubt d.txn)
      ∙ doubts_kept rs lawful pages cut may

-- ---- their locks

-- locks of all of them are what a restart gives back
all_restored : (ds : List LoggedDoubt) (rs : List LogRecord) (held : List Hold) → ds ≡ doubts_in rs → AreLocksOf ds held → AreRestored rs held
all_restored ds rs held same h = record {
  each = λ lock has. let r = h.each lock has in (r.0, r.1, subst (IsAmong r.0) same r.2, r.3, r.4, r.5);
  all = λ d g d_is. h.all d g (subst (IsAmong d) (sym same) d_is);
  above = λ d g a d_is. h.above d g a (subst (IsAmong d) (sym same) d_is);
}

pub restored_behind : (g : Geometry) (ring_bytes : ℕ) (anchor : Anchor) (rs : List LogRecord) (pages : LoggedPages) → MayBeOpenedBehind g ring_bytes (anchored_by anchor) rs pages
    → (held : List Hold) → AreLocksOf (doubts_left (log_kept anchor rs)) held → AreRestored rs held
restored_behind g ring_bytes anchor rs pages may held locks =
    let goes = goes_in_order (found_behind (anchored_by anchor) rs pages) may.in_order in
    all_restored (doubts_left (log_kept anchor rs)) rs held (left_behind rs goes.lawful pages (cut_of (anchored_by anchor)) goes.may) locks
