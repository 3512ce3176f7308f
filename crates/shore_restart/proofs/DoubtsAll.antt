-- Those in doubt that have not ended are all in doubt, by a lawful log and by one that analysis takes; and by what is kept of a lawful log they are those of the whole.
use Rattle.std.proofs.Common.{◌≡◌, inl, inr, ℕ, zero, suc, List, [], ◌∷◌, ◌++◌, Bool, true, false, cond, refl, sym, ap, ◌∙◌, drop, take, take-append-drop}
use Rattle.std.specs.Prelude.{◌==◌, ◌||◌, filter, not}
use Rattle.std.specs.List.{filter_map}
use Rattle.std.proofs.lemmas.Bool.{eq-eqb, true≢false}
use Rattle.std.proofs.lemmas.List.Elements.{filter-append, filter_map-append}
use Rattle.shore_types.specs.declared.layout.Geometry.{Geometry}
use Rattle.shore_model.specs.declared.log_records.LogRecord.{LogRecord}
use Rattle.shore_model.specs.declared.log_records.Payload.{Payload}
use Rattle.shore_model.specs.declared.log_records.Payload.TheVariants.{Change, Compensation, Commit, End, Prepare, RollbackDecided, CheckpointBegin, CheckpointEnd, Anchor}
use Rattle.shore_model.specs.Logs.{Lawful, is_in_doubt, is_over, unanswered}
use Rattle.laws_lives.specs.Doubts.{LoggedDoubt, doubt_of, doubts_in}
use Rattle.laws_lives.specs.Views.{IsAmong}
use Rattle.laws_lives.proofs.Booleans.{or_right}
use Rattle.laws_lives.proofs.Writers.{never_true}
use Rattle.laws_lives.proofs.WritersTold.{doubt_not_over}
use Rattle.laws_checkpoints.specs.KeptLogs.{has_record}
use Rattle.shore_analysis.specs.Doubts.{doubts_left}
use Rattle.shore_analysis.specs.KeptMeant.{AreMeantKept}
use Rattle.shore_analysis.specs.Padded.{padded}
use Rattle.shore_analysis.proofs.DoubtsLeft.{is_left, is_left_by, left_is, left_list, left_unended}
use Rattle.shore_analysis.proofs.WholeRecords.{doubts_run}
use Rattle.shore_restart.specs.Anchors.{EndsBehind}
use Rattle.shore_restart.specs.Doubts.{changes_in_doubt, changes_of}
use Rattle.shore_restart.proofs.DoubtsKept.{in_doubt_here, same_lists}
use Rattle.shore_restart.proofs.DoubtsNamed.{left_here}
use Rattle.shore_restart.proofs.WholeLogs.{doubt_same, over_same, unanswered_same}

-- ---- nobody in doubt has ended

left_all : (log : List LogRecord) → ((t : ℕ) → is_in_doubt t log ≡ true → is_over t log ≡ false) → doubts_left log ≡ doubts_in log
left_all log runs = all (doubts_in log) (λ d among. ap not (runs d.txn (in_doubt_here log d among)))
  where
    all : (ds : List LoggedDoubt) → ((d : LoggedDoubt) → IsAmong d ds → not (is_over d.txn log) ≡ true) → filter (λ d. not (is_over d.txn log)) ds ≡ ds
    all [] each = refl
    all (d ∷ ds) each = ap (λ (b : Bool). cond b (d ∷ filter (λ e. not (is_over e.txn log)) ds) (filter (λ e. not (is_over e.txn log)) ds)) (each d (inl refl)) ∙ ap (λ (es : List LoggedDoubt). d ∷ es) (all ds (λ e later. each e (inr later)))

pub left_of_meant : (g : Geometry) (log : List LogRecord) → AreMeantKept g 0 log → doubts_left log ≡ doubts_in log
left_of_meant g log meant = left_all log (λ t doubt. (doubts_run g log meant t doubt).runs)

pub left_of_lawful : (log : List LogRecord) → Lawful log → doubts_left log ≡ doubts_in log
left_of_lawful log lawful = left_all log (doubt_not_over log lawful)

-- ---- by what is kept

doubts_padded : (cut : ℕ) (kept : List LogRecord) → filter_map doubt_of (padded cut kept) ≡ filter_map doubt_of kept
doubts_padded zero kept = refl
doubts_padded (suc n) kept = doubts_padded n kept

-- who has none of the records is none of those whose Prepares they are
none_picked : (q : ℕ → Bool) (rs : List LogRecord) → ((t : ℕ) → has_record t rs ≡ true → q t ≡ false) → filter (λ d. q d.txn) (filter_map doubt_of rs) ≡ []
none_picked q [] none = refl
none_picked q (r ∷ rs) none = by r.payload refl (none_picked q rs (λ t has. none t (or_right (r.txn == t) (has_record t rs) has)))
  where
    own : q r.txn ≡ false
    own = none r.txn (ap (λ (b : Bool). b || has_record r.txn rs) (eq-eqb r.txn r.txn refl))

    by : (p : Payload) → r.payload ≡ p → filter (λ d. q d.txn) (filter_map doubt_of rs) ≡ [] → filter (λ d. q d.txn) (filter_map doubt_of (r ∷ rs)) ≡ []
    by (Prepare global granules) is rest = λ i. picked i
      where
        picked : filter (λ d. q d.txn) (filter_map doubt_of (r ∷ rs)) ≡ []
        picked = ap (λ (p : Payload). filter (λ (d : LoggedDoubt). q d.txn) (filter_map doubt_of (record { txn = r.txn; previous = r.previous; payload = p } ∷ rs))) is
            ∙ ap (λ (b : Bool). cond b (record { txn = r.txn; global = global; granules = granules } ∷ filter (λ (d : LoggedDoubt). q d.txn) (filter_map doubt_of rs)) (filter (λ (d : LoggedDoubt). q d.txn) (filter_map doubt_of rs))) own ∙ rest
    by (Change id was image) is rest = ap (λ (p : Payload). filter (λ (d : LoggedDoubt). q d.txn) (filter_map doubt_of (record { txn = r.txn; previous = r.previous; payload = p } ∷ rs))) is ∙ rest
    by (Compensation id image undo_next) is rest = ap (λ (p : Payload). filter (λ (d : LoggedDoubt). q d.txn) (filter_map doubt_of (record { txn = r.txn; previous = r.previous; payload = p } ∷ rs))) is ∙ rest
    by Commit is rest = ap (λ (p : Payload). filter (λ (d : LoggedDoubt). q d.txn) (filter_map doubt_of (record { txn = r.txn; previous = r.previous; payload = p } ∷ rs))) is ∙ rest
    by End is rest = ap (λ (p : Payload). filter (λ (d : LoggedDoubt). q d.txn) (filter_map doubt_of (record { txn = r.txn; previous = r.previous; payload = p } ∷ rs))) is ∙ rest
    by RollbackDecided is rest = ap (λ (p : Payload). filter (λ (d : LoggedDoubt). q d.txn) (filter_map doubt_of (record { txn = r.txn; previous = r.previous; payload = p } ∷ rs))) is ∙ rest
    by CheckpointBegin is rest = ap (λ (p : Payload). filter (λ (d : LoggedDoubt). q d.txn) (filter_map doubt_of (record { txn = r.txn; previous = r.previous; payload = p } ∷ rs))) is ∙ rest
    by (CheckpointEnd begin next txns dirty) is rest = ap (λ (p : Payload). filter (λ (d : LoggedDoubt). q d.txn) (filter_map doubt_of (record { txn = r.txn; previous = r.previous; payload = p } ∷ rs))) is ∙ rest
    by (Anchor checkpoint tail) is rest = ap (λ (p : Payload). filter (λ (d : LoggedDoubt). q d.txn) (filter_map doubt_of (record { txn = r.txn; previous = r.previous; payload = p } ∷ rs))) is ∙ rest

module _ (g : Geometry) (cut : ℕ) (log : List LogRecord) (ends : EndsBehind cut log) (meant : AreMeantKept g cut (drop cut log)) where
  abbrev kept : List LogRecord
  kept = drop cut log

  abbrev seen : List LogRecord
  seen = padded cut kept

  seen_is_left : (t : ℕ) → is_left seen t ≡ true → is_left log t ≡ true
  seen_is_left t left =
      let u = left_unended g cut kept meant t left in
      let none = never_true (has_record t (take cut log)) (λ some. ends.none_runs t u.is_one some u) in
      let is = left_is seen t left in
      is_left_by log t (doubt_same cut kept log ends refl t u.is_one none ∙ is.0) (over_same cut kept log ends refl t u.is_one none ∙ is.1)

  is_left_seen : (t : ℕ) → is_left log t ≡ true → is_left seen t ≡ true
  is_left_seen t left =
      let is = left_is log t left in
      let one = ends.some t is.0 in
      let none = never_true (has_record t (take cut log)) (λ some. true≢false (sym (ends.cuts.1 t one some) ∙ is.1)) in
      is_left_by seen t (sym (doubt_same cut kept log ends refl t one none) ∙ is.0) (sym (over_same cut kept log ends refl t one none) ∙ is.1)

  both : (a b : Bool) → (a ≡ true → b ≡ true) → (b ≡ true → a ≡ true) → a ≡ b
  both true b there back = sym (there refl)
  both false true there back = back refl
  both false false there back = refl

  alike : (ds : List LoggedDoubt) → filter (λ d. is_left seen d.txn) ds ≡ filter (λ d. is_left log d.txn) ds
  alike [] = refl
  alike (d ∷ ds) =
      ap (λ (b : Bool). cond b (d ∷ filter (λ e. is_left seen e.txn) ds) (filter (λ e. is_left seen e.txn) ds)) (both (is_left seen d.txn) (is_left log d.txn) (seen_is_left d.txn) (is_left_seen d.txn))
      ∙ ap (λ (es : List LoggedDoubt). cond (is_left log d.txn) (d ∷ es) es) (alike ds)

  front_none : filter (λ d. is_left log d.txn) (filter_map doubt_of (take cut log)) ≡ []
  front_none = none_picked (is_left log) (take cut log) (λ t some. never_true (is_left log t) (λ left.
      let is = left_is log t left in true≢false (sym (ends.cuts.1 t (ends.some t is.0) some) ∙ is.1)))

  pub left_whole : doubts_left seen ≡ doubts_left log
  left_whole =
      left_list seen ∙ ap (filter (λ (d : LoggedDoubt). is_left seen d.txn)) (doubts_padded cut kept) ∙ alike (filter_map doubt_of kept)
      ∙ ap (λ (es : List LoggedDoubt). es ++ filter (λ (d : LoggedDoubt). is_left log d.txn) (filter_map doubt_of kept)) (sym front_none)
      ∙ sym (filter-append (λ (d : LoggedDoubt). is_left log d.txn) (filter_map doubt_of (take cut log)) (filter_map doubt_of kept))
      ∙ ap (filter (λ (d : LoggedDoubt). is_left log d.txn)) (sym (filter_map-append doubt_of (take cut log) kept) ∙ ap (filter_map doubt_of) (take-append-drop cut log))
      ∙ sym (left_list log)

  pub left_of_whole : Lawful log → doubts_left seen ≡ doubts_in log
  left_of_whole lawful = left_whole ∙ left_of_lawful log lawful

  -- what is to be undone of one of them
  pub unanswered_whole : (d : LoggedDoubt) → IsAmong d (doubts_left seen) → unanswered d.txn log ≡ unanswered d.txn seen
  unanswered_whole d among =
      let here = left_here seen d among in
      let u = left_unended g cut kept meant d.txn (is_left_by seen d.txn here.0 here.1) in
      unanswered_same cut kept log ends refl d.txn u.is_one (never_true (has_record d.txn (take cut log)) (λ some. ends.none_runs d.txn u.is_one some u))

  -- .. and of all
  pub changes_whole : changes_in_doubt log ≡ changes_in_doubt seen
  changes_whole = ap (changes_of log) (sym left_whole) ∙ same_lists seen log (doubts_left seen) unanswered_whole
