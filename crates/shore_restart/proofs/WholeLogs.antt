-- What is kept of a log tells of its losers what the whole log does, if who has a record that is cut off has ended by both.
use Rattle.std.proofs.Common.{◌≡◌, ◌≢◌, ◌<◌, ⊎_elim, ℕ, List, [], ◌∷◌, ◌++◌, Bool, true, false, sym, ap, subst, ◌∙◌, drop, take, length-append, arith}
use Rattle.std.specs.Prelude.{◌||◌, reverse}
use Rattle.std.proofs.lemmas.Bool.{true≢false}
use Rattle.std.proofs.lemmas.List.{drop-append-le, take-append-le}
use Rattle.shore_model.specs.declared.log_records.LogRecord.{LogRecord}
use Rattle.shore_model.specs.declared.log_records.Payload.{Payload}
use Rattle.shore_model.specs.declared.unanswered_changes.UnansweredChange.{UnansweredChange}
use Rattle.shore_model.specs.Logs.{first_number, has, is_commit, is_end, is_in_doubt, is_over, is_prepare, is_rollback, records_of, unanswered, unanswered_in, undo_next_of}
use Rattle.laws_lives.specs.Undo.{HasNoLosers, IsLoser, undo_payload, undo_record}
use Rattle.laws_lives.proofs.EndedTxns.{over_other}
use Rattle.laws_lives.proofs.Writers.{never_true, same_or_not}
use Rattle.laws_checkpoints.specs.KeptLogs.{IsKeptUnended, has_record, kept_records_of}
use Rattle.laws_checkpoints.proofs.Kept.{has_kept, over_longer, records_kept}
use Rattle.shore_analysis.specs.Losers.{IsNextToUndo, NeedNotWait}
use Rattle.shore_analysis.specs.Padded.{padded}
use Rattle.shore_analysis.proofs.KeptRecords.{records-other}
use Rattle.shore_analysis.proofs.Padding.{has_padded, last_padded, over_padded, records_padded}
use Rattle.shore_analysis.proofs.Phases.{doubt-by, doubt_other}
use Rattle.shore_restart.specs.Anchors.{EndsBehind}
use Rattle.shore_restart.specs.declared.turns.Undo.{Undo}
use Rattle.shore_restart.specs.Turns.{IsUndoneSoFar, TakesTurn, gone_on}
use Rattle.shore_restart.proofs.LogTurns.{IsTurn, gone_more}
use Rattle.shore_restart.proofs.Undoing.{undone_and}

module _ (cut : ℕ) (kept whole : List LogRecord) (ends : EndsBehind cut whole) (same : drop cut whole ≡ kept) where
  abbrev seen : List LogRecord
  seen = padded cut kept

  -- ---- a transaction with no record that is cut off

  module _ (t : ℕ) (one : 0 < t) (none : has_record t (take cut whole) ≡ false) where
    pub records_same : records_of t whole ≡ records_of t seen
    records_same = records_kept t whole cut ends.cuts.0 none ∙ ap (kept_records_of cut t) same ∙ sym (records_padded t one cut kept)

    has_same : (p : Payload → Bool) → has p t whole ≡ has p t seen
    has_same p = has_kept t whole cut ends.cuts.0 p none ∙ ap (has p t) same ∙ sym (has_padded t one p cut kept)

    pub over_same : is_over t whole ≡ is_over t seen
    over_same = λ i. has_same is_commit i || has_same is_end i

    pub doubt_same : is_in_doubt t whole ≡ is_in_doubt t seen
    doubt_same = doubt-by seen whole t (has_same is_prepare) (has_same is_commit) (has_same is_rollback)

    pub unanswered_same : unanswered t whole ≡ unanswered t seen
    unanswered_same = ap (λ (es : List (ℕ × LogRecord)). unanswered_in (reverse es)) records_same

    record_same : undo_record whole t ≡ undo_record seen t
    record_same = ap (λ (es : List (ℕ × LogRecord)). record { txn = t; previous = first_number (reverse es); payload = undo_payload (unanswered_in (reverse es)) }) records_same

  -- ---- its losers

  -- one by what is kept has none
  pub none_front : (t : ℕ) → IsLoser seen t → has_record t (take cut whole) ≡ false
  none_front t loser = never_true (has_record t (take cut whole)) (λ some. ends.none_runs t loser.is_one some (subst (λ (rs : List LogRecord). IsKeptUnended cut rs t) (sym same) (record {
    is_one = loser.is_one;
    known = subst (λ (n : ℕ). 0 < n) (last_padded t loser.is_one cut kept) loser.known;
    not_over = sym (over_padded t loser.is_one cut kept) ∙ loser.not_over;
  })))

  pub whole_loser : (t : ℕ) → IsLoser seen t → IsLoser whole t
  whole_loser t loser =
      let none = none_front t loser in
      record {
        is_one = loser.is_one;
        known = subst (λ (es : List (ℕ × LogRecord)). 0 < first_number (reverse es)) (sym (records_same t loser.is_one none)) loser.known;
        not_over = over_same t loser.is_one none ∙ loser.not_over;
        not_in_doubt = doubt_same t loser.is_one none ∙ loser.not_in_doubt;
      }

  -- .. and one by the whole log neither
  none_before : (t : ℕ) → IsLoser whole t → has_record t (take cut whole) ≡ false
  none_before t loser = never_true (has_record t (take cut whole)) (λ some. true≢false (sym (ends.cuts.1 t loser.is_one some) ∙ loser.not_over))

  pub seen_loser : (t : ℕ) → IsLoser whole t → IsLoser seen t
  seen_loser t loser =
      let none = none_before t loser in
      record {
        is_one = loser.is_one;
        known = subst (λ (es : List (ℕ × LogRecord)). 0 < first_number (reverse es)) (records_same t loser.is_one none) loser.known;
        not_over = sym (over_same t loser.is_one none) ∙ loser.not_over;
        not_in_doubt = sym (doubt_same t loser.is_one none) ∙ loser.not_in_doubt;
      }

  pub whole_quiet : HasNoLosers seen → HasNoLosers whole
  whole_quiet none t loser = none t (seen_loser t loser)

  -- what is left to be undone of one
  pub whole_unanswered : (t : ℕ) → IsLoser seen t → unanswered t whole ≡ unanswered t seen
  whole_unanswered t loser = unanswered_same t loser.is_one (none_front t loser)

  pub whole_record : (t : ℕ) → IsLoser seen t → undo_record whole t ≡ undo_record seen t
  whole_record t loser = record_same t loser.is_one (none_front t loser)

  pub whole_next : (t : ℕ) → IsLoser seen t → IsNextToUndo seen t → IsNextToUndo whole t
  whole_next t loser next u other =
      let its = seen_loser u other in
      subst (λ (cs : List UnansweredChange). NeedNotWait (undo_next_of (unanswered t whole)) (undo_next_of cs)) (sym (whole_unanswered u its))
      (subst (λ (cs : List UnansweredChange). NeedNotWait (undo_next_of cs) (undo_next_of (unanswered u seen))) (sym (whole_unanswered t loser)) (next u its))

  -- so a turn of undo is one of the whole log
  pub whole_turn : (r : LogRecord) → IsTurn seen r → IsTurn whole r
  whole_turn r turn = record {
    loser = whole_loser r.txn turn.loser;
    next = whole_next r.txn turn.loser turn.next;
    is = turn.is ∙ sym (whole_record r.txn turn.loser);
  }

  -- .. and behind it what is kept tells the same
  pub ends_longer : (r : LogRecord) → IsLoser seen r.txn → EndsBehind cut (whole ++ r ∷ [])
  ends_longer r loser = record {
    cuts = (
      omega (arith, ends.cuts.0, length-append whole (r ∷ [])),
      λ t one has. over_longer t whole (r ∷ []) (ends.cuts.1 t one (before t has)),
    );
    none_runs = λ t one has runs. ⊎_elim
        (λ own. true≢false (sym (subst (λ (u : ℕ). has_record u (take cut whole) ≡ true) (sym own) (before t has)) ∙ none_front r.txn loser))
        (λ other. ends.none_runs t one (before t has) (ran t other (subst (λ (rs : List LogRecord). IsKeptUnended cut rs t) behind runs)))
        (same_or_not r.txn t);
    some = λ t doubt. ⊎_elim
        (λ own. subst (λ (u : ℕ). 0 < u) own loser.is_one)
        (λ other. ends.some t (sym (doubt_other whole r t other) ∙ doubt))
        (same_or_not r.txn t);
  }
    where
      before : (t : ℕ) → has_record t (take cut (whole ++ r ∷ [])) ≡ true → has_record t (take cut whole) ≡ true
      before t has = ap (has_record t) (sym (take-append-le cut whole (r ∷ []) ends.cuts.0)) ∙ has

      behind : drop cut (whole ++ r ∷ []) ≡ drop cut whole ++ r ∷ []
      behind = drop-append-le cut whole (r ∷ []) ends.cuts.0

      ran : (t : ℕ) → r.txn ≢ t → IsKeptUnended cut (drop cut whole ++ r ∷ []) t → IsKeptUnended cut (drop cut whole) t
      ran t ne later = record {
        is_one = later.is_one;
        known = subst (λ (es : List (ℕ × LogRecord)). 0 < first_number (reverse es)) (records-other cut (drop cut whole) r t ne) later.known;
        not_over = sym (over_other (drop cut whole) r t ne) ∙ later.not_over;
      }

-- ---- a turn of undo

module _ (cut : ℕ) (kept whole : List LogRecord) (ends : EndsBehind cut whole) (same : drop cut whole ≡ kept) (later : List LogRecord) (old new : Undo) (taken : TakesTurn (padded cut kept) later old new) where
  -- .. is one of the whole log, which has grown by the same record
  pub whole_taken : (found last : List LogRecord) → IsUndoneSoFar found whole → last ≡ gone_on whole (padded cut kept) later → IsUndoneSoFar found last
  whole_taken found last so_far grown =
      undone_and found whole last taken.loser so_far (whole_loser cut kept whole ends same taken.loser taken.is_one) (whole_next cut kept whole ends same taken.loser taken.is_one taken.next)
      (grown ∙ gone_more whole (padded cut kept) later (undo_record (padded cut kept) taken.loser) taken.logged
      ∙ ap (λ (x : LogRecord). whole ++ x ∷ []) (sym (whole_record cut kept whole ends same taken.loser taken.is_one)))
