-- A whole log: what it leaves in place, and which records its transactions may append.
use Rattle.std.proofs.Common.{◌≡◌, ◌≢◌, ◌<◌, inl, inr, ⊎_elim, ℕ, List, [], ◌∷◌, ◌++◌, Bool, true, false, Some, refl, sym, ap, subst, ◌∙◌, arith, append_assoc}
use Rattle.std.specs.Prelude.{◌==◌, ◌&&◌, ◌||◌, not}
use Rattle.std.specs.FinMap.{get}
use Rattle.std.specs.List.{AllByRecursion}
use Rattle.std.proofs.lemmas.Bool.{eq-eqb, ne_eqb, cases_Bool, true≢false}
use Rattle.std.proofs.lemmas.List.Elements.{All-from_recursion}
use Rattle.shore_types.specs.Images.{Image}
use Rattle.shore_types.specs.declared.ids.Rid.{Rid}
use Rattle.shore_model.specs.declared.histories.Opening.{Opening}
use Rattle.shore_model.specs.declared.histories.Entry.{Entry}
use Rattle.shore_model.specs.declared.log_records.LogRecord.{LogRecord}
use Rattle.shore_model.specs.declared.log_records.Payload.{Payload}
use Rattle.shore_model.specs.declared.log_records.Payload.TheVariants.{Compensation}
use Rattle.shore_model.specs.Locks.{MayWrite}
use Rattle.shore_model.specs.Logs.{Lawful, LeavesFree, MayFollow, NoOtherChanged, has, id_in, image_of_record, is_commit, is_end, is_of_checkpoint, is_over, is_prepare, is_rollback, is_undoable, logged_writes, previous_of, unanswered}
use Rattle.laws_lives.proofs.OneMore.{has-not_its, id_itself, writes_none}
use Rattle.laws_lives.proofs.UndoRecords.{lawful_next}
use Rattle.laws_lives.proofs.Writers.{never_true, one_writer_at_most, same_or_not}
use Rattle.laws_lives.specs.Writers.{HasOneWriterAtMost, changes_id, is_this_id}
use Rattle.laws_lives.proofs.DoubtRecords.{DecidesNone, compensations_decide_none}
use Rattle.laws_lives.proofs.EndedTxns.{over_same}
use Rattle.laws_lives.proofs.LogSteps.{disjoint}
use Rattle.laws_lives.proofs.LoggedInPlace.{stand_logged}
use Rattle.laws_lives.proofs.UnansweredChanges.{compensation_answers, unanswered_other}
use Rattle.laws_lives.specs.LogTells.{IsLogAfter, MatchesUndo}
use Rattle.laws_lives.specs.Logged.{and_compensations, and_record, next_to_undo}
use Rattle.laws_lives.specs.Sessions.{Sessions, txns_of}
use Rattle.laws_lives.specs.Soundness.{IsSoundAfter}
use Rattle.laws_lives.specs.Views.{IsAmong}
use Rattle.laws_lives.specs.WholeLogs.{IsWholeLog}

-- ---- records in place

-- a record that names the id is a change of it
pub names_change : (id : Rid) (r : LogRecord) → id_in r.payload ≡ Some id → changes_id id r.payload ≡ true
names_change id r e = ap (is_this_id id) e ∙ id_itself id

module _ {o : Opening} {es : List Entry} {s : Sessions} {log : List LogRecord} (k : IsSoundAfter o es s) (l : IsLogAfter o es s log) (w : IsWholeLog log s) where
  -- without a writer what is committed stands there, and a writer's last image if there is one
  image_by_writer : (id : Rid) → HasOneWriterAtMost log id → image_of_record log id ≡ get s.records id
  image_by_writer id (inl none) =
      none.image ∙ ap (λ R. get R id) l.tells_serial.tells
      ∙ sym ((stand_logged k l).others id (λ t a. writes_none log t id (never_true (has (changes_id id) t log) (λ h. true≢false (sym (none.over t h) ∙ w.unended t a)))))
  image_by_writer id (inr one) =
      sym ((l.tells_serial.each one.0 (w.writers one.0 id one.1.changed one.1.not_over)).in_place id (image_of_record log id) one.1.written).0

  pub image_in_place : (id : Rid) → image_of_record log id ≡ get s.records id
  image_in_place id = image_by_writer id (one_writer_at_most log w.lawful id)

  -- a transaction under way that may write the id
  module _ (t : ℕ) (a : IsAmong t (txns_of s.active)) (id : Rid) (may : MayWrite s.held t id) where
    no_other_writes : HasOneWriterAtMost log id → (u : ℕ) → u ≢ t → has (changes_id id) u log ≡ true → is_over u log ≡ false → ⊥
    no_other_writes (inl none) u other h not_over = true≢false (sym (none.over u h) ∙ not_over)
    no_other_writes (inr one) u other h not_over =
        ⊎_elim
        (λ same. disjoint k l t u id (λ e. other (sym e)) may
        ((l.tells_serial.each u (w.writers u id h not_over)).in_place id (image_of_record log id)
        (ap (λ v. get (logged_writes log v) id) same ∙ one.1.written)).1)
        (λ others. true≢false (sym (one.1.others u others h) ∙ not_over))
        (same_or_not u one.0)

    other_is_over : (u : ℕ) → u ≢ t → has (changes_id id) u log ≡ true → is_over u log ≡ true
    other_is_over u other h =
        ⊎_elim (λ e. e) (λ e. absurd (no_other_writes (one_writer_at_most log w.lawful id) u other h e)) (cases_Bool (is_over u log))

    both_or : (a b c : Bool) → a ≡ true → b ≡ true → ((a && b) || c) ≡ true
    both_or true true c e f = refl
    both_or true false c e f = cc
    both_or false b c e f = cc

    or_second : (a b : Bool) → b ≡ true → (a || b) ≡ true
    or_second true b e = refl
    or_second false b e = e

    each_leaves : (rs : List LogRecord) → ((u : ℕ) → has (changes_id id) u rs ≡ true → has (changes_id id) u log ≡ true) → AllByRecursion (LeavesFree log t id) rs
    each_leaves [] h = tt
    each_leaves (r ∷ rs) h = (
      λ names other. other_is_over r.txn other
          (h r.txn (both_or (r.txn == r.txn) (changes_id id r.payload) (has (changes_id id) r.txn rs) (eq-eqb r.txn r.txn refl) (names_change id r names))),
      each_leaves rs (λ u e. h u (or_second ((r.txn == u) && changes_id id r.payload) (has (changes_id id) u rs) e)),
    )

    pub others_have_ended : NoOtherChanged log t id
    others_have_ended = All-from_recursion (LeavesFree log t id) log (each_leaves log (λ u e. e))

-- ---- records that a transaction appends before its end

-- the log with more records of t, none of them its end
pub record HasMoreOf (t : ℕ) (log more : List LogRecord) : Type 0 where
  pub lawful : Lawful more
  pub over : (u : ℕ) → is_over u more ≡ is_over u log
  pub others : (u : ℕ) → u ≢ t → unanswered u more ≡ unanswered u log
  pub changed : (u : ℕ) (id : Rid) → u ≢ t → has (changes_id id) u more ≡ has (changes_id id) u log

pub no_more : (t : ℕ) (log : List LogRecord) → Lawful log → HasMoreOf t log log
no_more t log lawful =
    record { lawful = lawful; over = λ u. refl; others = λ u other. refl; changed = λ u id other. refl }

pub one_more : (t : ℕ) (log more : List LogRecord) (p : Payload) → HasMoreOf t log more → is_commit p ≡ false → is_end p ≡ false
    → MayFollow more record { txn = t; previous = previous_of t more; payload = p } → HasMoreOf t log (and_record t more p)
one_more t log more p k no_commit no_end follows =
    let r : LogRecord = record { txn = t; previous = previous_of t more; payload = p } in
    record {
      lawful = lawful_next more r k.lawful follows;
      over = λ u. over_same more r no_commit no_end u ∙ k.over u;
      others = λ u other. unanswered_other u more r (λ e. other (sym e)) ∙ k.others u other;
      changed = λ u id other. has-not_its more r (changes_id id) u (λ e. other (sym e)) ∙ k.changed u id other;
    }

module _ (t : ℕ) (log : List LogRecord) (above : 0 < t) (not_over : is_over t log ≡ false) where
  pub is_of_txn : (p : Payload) → is_of_checkpoint p ≡ false → is_of_checkpoint p ≡ (t == 0)
  is_of_txn p e = e ∙ sym (ne_eqb t 0 (λ is. omega arith))

  -- it has no Prepare, or a Rollback decided
  module _ (undoable : is_undoable t log ≡ true) where
    still_undoable : (more : List LogRecord) → DecidesNone log more → is_undoable t more ≡ true
    still_undoable more none = ap (λ b. not b || has is_rollback t more) (none.prepares t) ∙ ap (λ b. not (has is_prepare t log) || b) (none.rollbacks t) ∙ undoable

    pub compensations_on : (kept images : List (Rid × Image)) → Lawful log → MatchesUndo log t (kept ++ images) → HasMoreOf t log (and_compensations t log images)
    compensations_on kept [] lawful h = no_more t log lawful
    compensations_on kept (e ∷ images) lawful h =
        let k = compensations_on (kept ++ e ∷ []) images lawful (subst (MatchesUndo log t) (sym (append_assoc kept (e ∷ []) images)) h) in
        let so_far = and_compensations t log images in
        let p : Payload = Compensation e.0 e.1 (next_to_undo t so_far) in
        one_more t log so_far p k refl refl record {
          of = is_of_txn p refl;
          previous = refl;
          not_over = k.over t ∙ not_over;
          says = (still_undoable so_far (compensations_decide_none t log images), compensation_answers t log kept images e h);
        }

    pub undoable_after : (images : List (Rid × Image)) → is_undoable t (and_compensations t log images) ≡ true
    undoable_after images = still_undoable (and_compensations t log images) (compensations_decide_none t log images)
