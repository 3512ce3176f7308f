-- Turns of undo leave those in doubt as they are: their records, their undo lists, and what is reserved for them.
use Rattle.std.proofs.Common.{◌≡◌, ◌≢◌, ◌⊎◌, inl, inr, ⊎_elim, ◌+◌, ◌++◌, ◌<◌, ◌≤◌, ℕ, List, [], ◌∷◌, Bool, true, false, cond, None, refl, sym, ap, subst, ◌∙◌, length, map, arith}
use Rattle.std.specs.Prelude.{filter, not, reverse}
use Rattle.std.specs.List.{filter_map, sum_by}
use Rattle.std.proofs.lemmas.Bool.{ltb-true, true≢false}
use Rattle.std.proofs.lemmas.List.{length-map}
use Rattle.std.proofs.lemmas.List.Elements.{recursion_from_All}
use Rattle.std.proofs.lemmas.List.Sums.{sum_by-cons}
use Rattle.shore_types.specs.declared.layout.Geometry.{Geometry}
use Rattle.shore_types.specs.declared.layout.TheConstants.{ENDING_COST, MAX_TRANSACTIONS}
use Rattle.shore_model.specs.declared.holds.Hold.{Hold}
use Rattle.shore_model.specs.declared.log_records.LogRecord.{LogRecord}
use Rattle.shore_model.specs.declared.log_records.LogTxn.{LogTxn}
use Rattle.shore_model.specs.declared.log_records.Payload.{Payload}
use Rattle.shore_model.specs.declared.log_records.Payload.TheVariants.{Anchor, Change, CheckpointBegin, CheckpointEnd, Commit, Compensation, End, Prepare, RollbackDecided}
use Rattle.shore_model.specs.declared.unanswered_changes.UnansweredChange.{UnansweredChange}
use Rattle.shore_model.specs.Logs.{first_number, has, is_commit, is_decision, is_in_doubt, is_over, is_prepare, is_prepared, is_rollback, last_of, prepare_number, records_of, unanswered, unanswered_in}
use Rattle.laws_lives.specs.Doubts.{LoggedDoubt, doubt_of, doubts_in, undo_in}
use Rattle.laws_lives.specs.Undo.{IsLoser, IsUndoneTo, undo_payload, undo_record}
use Rattle.laws_lives.specs.UndoLists.{UndoList}
use Rattle.laws_lives.specs.Views.{IsAmong}
use Rattle.laws_lives.proofs.DoubtLocks.{no_longer}
use Rattle.laws_lives.proofs.DoubtRecords.{among_filter, doubts_same}
use Rattle.laws_lives.proofs.EndedTxns.{over_other}
use Rattle.laws_lives.proofs.Lists.{mapped_one}
use Rattle.laws_lives.proofs.Numbers.{last_own, newest_other}
use Rattle.laws_lives.proofs.OneMore.{by_push, has-not_this, has-this}
use Rattle.laws_lives.proofs.Redo.{slice_get_last}
use Rattle.laws_lives.proofs.WritersTold.{in_doubt_parts}
use Rattle.laws_room.specs.LogRooms.{compensation_costs}
use Rattle.shore_analysis.specs.KeptMeant.{AreMeantKept, IsKeptCrowded}
use Rattle.shore_analysis.specs.Doubts.{doubts_left}
use Rattle.shore_analysis.specs.Meant.{AreMeantOf, IsMeant, Means}
use Rattle.shore_analysis.specs.Padded.{padded}
use Rattle.laws_checkpoints.specs.KeptTables.{IsKeptEntry, IsKeptTable}
use Rattle.shore_analysis.proofs.DoubtsLeft.{is_left_by, left_meant, left_runs}
use Rattle.shore_analysis.proofs.UndoneKept.{padded_table}
use Rattle.shore_analysis.proofs.Counted.{Among, cases_lt, doubt_listed}
use Rattle.shore_analysis.proofs.InOrder.{number_kept, number_new_own}
use Rattle.shore_analysis.proofs.MeantLogs.{before_last, by_own, in_doubt_prepared}
use Rattle.shore_analysis.proofs.OneMore.{prepare_known}
use Rattle.shore_analysis.proofs.Phases.{doubt-by, doubt_other, no_prepare, undoable_no_doubt}
use Rattle.shore_restart.proofs.DoubtsNamed.{doubts_once, left_here}
use Rattle.shore_restart.specs.Doubts.{AreLocksOf, changes_in_doubt, changes_of, owed_in, reserved_told}

undo_decides_none : (cs : List UnansweredChange) → is_decision (undo_payload cs) ≡ false
undo_decides_none [] = refl
undo_decides_none (c ∷ cs) = refl

pub in_doubt_here : (log : List LogRecord) (d : LoggedDoubt) → IsAmong d (doubts_in log) → is_in_doubt d.txn log ≡ true
in_doubt_here log d among = (among_filter (λ (d : LoggedDoubt). is_in_doubt d.txn log) d (filter_map doubt_of log) among).1

-- ---- one of them

-- it is in doubt still, and has no record more
pub record StaysInDoubt (log last : List LogRecord) (t : ℕ) : Type 0 where
  pub doubt : is_in_doubt t last ≡ true
  pub newest : reverse (records_of t last) ≡ reverse (records_of t log)

pub stays_in_doubt : (log : List LogRecord) (turns : List ℕ) (last : List LogRecord) → IsUndoneTo log turns last → (t : ℕ) → is_in_doubt t log ≡ true → StaysInDoubt log last t
stays_in_doubt log [] last undone t doubt = subst (λ (l : List LogRecord). StaysInDoubt log l t) (sym undone) (record { doubt = doubt; newest = refl })
stays_in_doubt log (u ∷ turns) last undone t doubt =
    let r = undo_record log u in
    let other : u ≢ t = λ same. true≢false (sym doubt ∙ ap (λ (n : ℕ). is_in_doubt n log) (sym same) ∙ undone.0.not_in_doubt) in
    let rest = stays_in_doubt (log ++ r ∷ []) turns last undone.1 t (doubt_other log r t other ∙ doubt) in
    record { doubt = rest.doubt; newest = rest.newest ∙ newest_other log r t other }

abbrev undo_by : List UnansweredChange → UndoList
undo_by cs = record { images = reverse (map (λ c. (c.id, c.before)) cs); marks = []; rolling = None }

-- ---- all of them

same_sums : (f g : LoggedDoubt → ℕ) (ds : List LoggedDoubt) → ((d : LoggedDoubt) → IsAmong d ds → f d ≡ g d) → sum_by f ds ≡ sum_by g ds
same_sums f g [] same = refl
same_sums f g (d ∷ ds) same =
    sum_by-cons f d ds ∙ ap (λ (n : ℕ). n + sum_by f ds) (same d (inl refl)) ∙ ap (λ (n : ℕ). g d + n) (same_sums f g ds (λ e later. same e (inr later))) ∙ sym (sum_by-cons g d ds)

pub same_lists : (log last : List LogRecord) (ds : List LoggedDoubt) → ((d : LoggedDoubt) → IsAmong d ds → unanswered d.txn last ≡ unanswered d.txn log) → changes_of last ds ≡ changes_of log ds
same_lists log last [] same = refl
same_lists log last (d ∷ ds) same =
    ap (λ (cs : List UnansweredChange). cs ++ changes_of last ds) (same d (inl refl)) ∙ ap (λ (cs : List UnansweredChange). unanswered d.txn log ++ cs) (same_lists log last ds (λ e later. same e (inr later)))

-- a turn of undo ends nobody who is in doubt
runs_still : (log : List LogRecord) (t : ℕ) → IsLoser log t → (d : LoggedDoubt) → IsAmong d (doubts_in log) → is_over d.txn (log ++ undo_record log t ∷ []) ≡ is_over d.txn log
runs_still log t loser d among =
    over_other log (undo_record log t) d.txn (λ same. true≢false (sym (in_doubt_here log d among) ∙ ap (λ (n : ℕ). is_in_doubt n log) (sym same) ∙ loser.not_in_doubt))

left_alike : (p q : LoggedDoubt → Bool) (ds : List LoggedDoubt) → ((d : LoggedDoubt) → IsAmong d ds → p d ≡ q d) → filter p ds ≡ filter q ds
left_alike p q [] same = refl
left_alike p q (d ∷ ds) same = ap (λ (b : Bool). cond b (d ∷ filter p ds) (filter p ds)) (same d (inl refl)) ∙ ap (λ (xs : List LoggedDoubt). cond (q d) (d ∷ xs) xs) (left_alike p q ds (λ e later. same e (inr later)))

doubts_stay : (log : List LogRecord) (turns : List ℕ) (last : List LogRecord) → IsUndoneTo log turns last → doubts_left last ≡ doubts_left log
doubts_stay log [] last undone = ap doubts_left undone
doubts_stay log (t ∷ turns) last undone =
    let more = log ++ undo_record log t ∷ [] in
    doubts_stay more turns last undone.1 ∙ ap (filter (λ (d : LoggedDoubt). not (is_over d.txn more))) (doubts_same log (undo_record log t) (undo_decides_none (unanswered t log)))
    ∙ left_alike (λ (d : LoggedDoubt). not (is_over d.txn more)) (λ (d : LoggedDoubt). not (is_over d.txn log)) (doubts_in log) (λ d among. ap not (runs_still log t undone.0 d among))

module _ (log : List LogRecord) (turns : List ℕ) (last : List LogRecord) (undone : IsUndoneTo log turns last) where
  pub same_doubts : doubts_left last ≡ doubts_left log
  same_doubts = doubts_stay log turns last undone

  stays : (d : LoggedDoubt) → IsAmong d (doubts_left log) → StaysInDoubt log last d.txn
  stays d among = stays_in_doubt log turns last undone d.txn (left_here log d among).0

  pub same_unanswered : (d : LoggedDoubt) → IsAmong d (doubts_left log) → unanswered d.txn last ≡ unanswered d.txn log
  same_unanswered d among = ap unanswered_in (stays d among).newest

  pub same_undo : (d : LoggedDoubt) → IsAmong d (doubts_left log) → undo_in last d.txn ≡ undo_in log d.txn
  same_undo d among = ap undo_by (same_unanswered d among)

  pub same_reserved : reserved_told last ≡ reserved_told log
  same_reserved =
      ap (sum_by (λ (d : LoggedDoubt). owed_in last d.txn)) same_doubts
      ∙ same_sums (λ (d : LoggedDoubt). owed_in last d.txn) (λ (d : LoggedDoubt). owed_in log d.txn) (doubts_left log)
      (λ d among. ap (λ (undo : UndoList). ENDING_COST + compensation_costs undo.images + ENDING_COST) (same_undo d among))

  pub same_changes : changes_in_doubt last ≡ changes_in_doubt log
  same_changes = ap (changes_of last) same_doubts ∙ same_lists log last (doubts_left log) same_unanswered

  pub same_locks : (held : List Hold) → AreLocksOf (doubts_left log) held → AreLocksOf (doubts_left last) held
  same_locks held are = subst (λ (ds : List LoggedDoubt). AreLocksOf ds held) (sym same_doubts) are

-- ---- the Prepare is the last record of one in doubt

module _ (g : Geometry) (log : List LogRecord) (r : LogRecord) (meant : IsMeant g log r) (doubt : is_in_doubt r.txn (log ++ r ∷ []) ≡ true) where
  parts : (has is_prepare r.txn (log ++ r ∷ []) ≡ true) × (has is_commit r.txn (log ++ r ∷ []) ≡ false) × (has is_rollback r.txn (log ++ r ∷ []) ≡ false)
  parts = in_doubt_parts (has is_prepare r.txn (log ++ r ∷ [])) (has is_commit r.txn (log ++ r ∷ [])) (has is_rollback r.txn (log ++ r ∷ [])) doubt

  none_undone : (p : Payload) → r.payload ≡ p → is_prepare p ≡ false → is_commit p ≡ false → is_rollback p ≡ false → is_in_doubt r.txn log ≡ false → ⊥
  none_undone p is prepares commits rolls none =
      let same = doubt-by log (log ++ r ∷ []) r.txn (has-not_this log r is_prepare r.txn (ap is_prepare is ∙ prepares)) (has-not_this log r is_commit r.txn (ap is_commit is ∙ commits))
      (has-not_this log r is_rollback r.txn (ap is_rollback is ∙ rolls)) in
      true≢false (sym doubt ∙ same ∙ none)

  prepares : (p : Payload) → r.payload ≡ p → Means g log r.txn p → is_prepare p ≡ true
  prepares (Prepare global granules) is says = refl
  prepares (Change id before after) is says = absurd (true≢false (sym parts.0 ∙ has-not_this log r is_prepare r.txn (ap is_prepare is) ∙ no_prepare r.txn log says.1))
  prepares (Compensation id after undo_next) is says = absurd (none_undone (Compensation id after undo_next) is refl refl refl (undoable_no_doubt r.txn log meant.not_over says.1.0))
  prepares Commit is says = absurd (true≢false (sym (has-this log r is_commit (ap is_commit is)) ∙ parts.1))
  prepares End is says = absurd (none_undone End is refl refl refl (undoable_no_doubt r.txn log meant.not_over says.0))
  prepares RollbackDecided is says = absurd (true≢false (sym (has-this log r is_rollback (ap is_rollback is)) ∙ parts.2))
  prepares CheckpointBegin is says = absurd says
  prepares (CheckpointEnd begin next txns dirty) is says = absurd says
  prepares (Anchor checkpoint tail) is says = absurd says

  own_last : last_of r.txn (log ++ r ∷ []) ≡ prepare_number r.txn (log ++ r ∷ [])
  own_last = last_own log r ∙ sym (number_new_own g log r meant (prepares r.payload refl meant.says))

-- of one whose records mean what they have to
prepared_last : (g : Geometry) (t : ℕ) (log : List LogRecord) → AreMeantOf g t log → is_in_doubt t log ≡ true → last_of t log ≡ prepare_number t log
prepared_last g t = by_own g t (λ log. is_in_doubt t log ≡ true → last_of t log ≡ prepare_number t log) (λ h. cc) own other
  where
    own : (log : List LogRecord) (r : LogRecord) → r.txn ≡ t → IsMeant g log r → (is_in_doubt t log ≡ true → last_of t log ≡ prepare_number t log) → is_in_doubt t (log ++ r ∷ []) ≡ true
        → last_of t (log ++ r ∷ []) ≡ prepare_number t (log ++ r ∷ [])
    own log r is meant known doubt =
        subst (λ (u : ℕ). last_of u (log ++ r ∷ []) ≡ prepare_number u (log ++ r ∷ [])) is
        (own_last g log r meant (ap (λ (u : ℕ). is_in_doubt u (log ++ r ∷ [])) is ∙ doubt))

    other : (log : List LogRecord) (r : LogRecord) → r.txn ≢ t → (is_in_doubt t log ≡ true → last_of t log ≡ prepare_number t log) → is_in_doubt t (log ++ r ∷ []) ≡ true
        → last_of t (log ++ r ∷ []) ≡ prepare_number t (log ++ r ∷ [])
    other log r ne known doubt =
        let before = sym (doubt_other log r t ne) ∙ doubt in
        ap first_number (newest_other log r t ne) ∙ known before
        ∙ sym (number_kept t log r (ltb-true 0 (prepare_number t log) (prepare_known t log ∙ in_doubt_prepared t log before)))

-- those that are left are whole in what is kept
pub last_is_prepare : (g : Geometry) (cut : ℕ) (kept : List LogRecord) → AreMeantKept g cut kept → (d : LoggedDoubt) → IsAmong d (doubts_left (padded cut kept))
    → last_of d.txn (padded cut kept) ≡ prepare_number d.txn (padded cut kept)
last_is_prepare g cut kept meant d among =
    let here = left_here (padded cut kept) d among in
    prepared_last g d.txn (padded cut kept) (left_meant g cut kept meant d.txn (is_left_by (padded cut kept) d.txn here.0 here.1)) here.0

-- ---- they are no more than there may be

among_some : (p : LogTxn → Bool) (t : ℕ) (es : List LogTxn) → Among t (filter p es) → IsAmong t (map (λ e. e.txn) es)
among_some p t [] a = absurd a
among_some p t (e ∷ es) a = by (p e) a (among_some p t es)
  where
    by : (b : Bool) → Among t (cond b (e ∷ filter p es) (filter p es)) → (Among t (filter p es) → IsAmong t (map (λ e. e.txn) es)) → IsAmong t (e.txn ∷ map (λ e. e.txn) es)
    by true (inl own) rest = inl own
    by true (inr later) rest = inr (rest later)
    by false later rest = inr (rest later)

-- so many entries of a table are no crowd
few_entries : (g : Geometry) (cut : ℕ) (txns : List LogTxn) (kept : List LogRecord) → AreMeantKept g cut kept → IsKeptTable cut kept txns → length txns ≤ MAX_TRANSACTIONS
few_entries g cut txns = by_push (λ kept. AreMeantKept g cut kept → IsKeptTable cut kept txns → length txns ≤ MAX_TRANSACTIONS) (λ meant table. none txns table) one_more
  where
    none : (es : List LogTxn) → IsKeptTable cut [] es → length es ≤ MAX_TRANSACTIONS
    none [] table = omega arith
    none (e ∷ es) table = absurd (let known = (recursion_from_All (IsKeptEntry cut []) (e ∷ es) table.each).0.unended.known in omega (arith, known))

    one_more : (kept : List LogRecord) (r : LogRecord) → (AreMeantKept g cut kept → IsKeptTable cut kept txns → length txns ≤ MAX_TRANSACTIONS) → AreMeantKept g cut (kept ++ r ∷ [])
        → IsKeptTable cut (kept ++ r ∷ []) txns → length txns ≤ MAX_TRANSACTIONS
    one_more kept r known meant table =
        let few = subst (λ (l : List LogRecord). IsKeptCrowded cut (l ++ r ∷ []) → ⊥) (before_last kept r) (meant (length kept) r (slice_get_last kept r)).few in
        ⊎_elim (λ few. few) (λ many. absurd (few (txns, table, many))) (few_or_many (length txns))
      where
        few_or_many : (n : ℕ) → (n ≤ MAX_TRANSACTIONS) ⊎ (MAX_TRANSACTIONS < n)
        few_or_many n = elim (cases_lt MAX_TRANSACTIONS n) [
          | inl many ↦ inr many
          | inr rest ↦ elim rest [ inl same ↦ inl (omega (arith, same)) | inr few ↦ inl (omega (arith, few)) ]
        ]

pub few_doubts : (g : Geometry) (cut : ℕ) (kept : List LogRecord) → AreMeantKept g cut kept → (txns : List LogTxn) → IsKeptTable cut kept txns → length (doubts_left (padded cut kept)) ≤ MAX_TRANSACTIONS
few_doubts g cut kept meant txns table =
    let log = padded cut kept in
    let inside : (t : ℕ) → IsAmong t (map (λ (d : LoggedDoubt). d.txn) (doubts_left log)) → IsAmong t (map (λ (e : LogTxn). e.txn) txns) = λ t among.
    let d = mapped_one (λ (d : LoggedDoubt). d.txn) t (doubts_left log) among in
    let here = left_here log d.0 d.1 in
    let doubt = ap (λ (u : ℕ). is_in_doubt u log) (sym d.2) ∙ here.0 in
    let over = ap (λ (u : ℕ). is_over u log) (sym d.2) ∙ here.1 in
    let runs = left_runs g cut kept meant t (is_left_by log t doubt over) in
    among_some (λ e. is_prepared e.state) t txns (doubt_listed log txns (padded_table cut kept txns table) t runs.some runs.known runs.runs doubt) in
    let fewer = no_longer (map (λ (d : LoggedDoubt). d.txn) (doubts_left log)) (map (λ (e : LogTxn). e.txn) txns) (doubts_once g cut kept meant) inside in
    let few = few_entries g cut txns kept meant table in
    omega (arith, fewer, few, length-map (doubts_left log) (λ (d : LoggedDoubt). d.txn), length-map txns (λ (e : LogTxn). e.txn))
