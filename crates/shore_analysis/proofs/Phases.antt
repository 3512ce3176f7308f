-- Which records of a transaction may follow: whether it has prepared, is in doubt, or has a Rollback decided.
use Rattle.std.proofs.Common.{◌≡◌, ◌≢◌, ⊎_elim, ◌+◌, ◌<◌, ℕ, List, [], ◌∷◌, ◌++◌, Bool, true, false, cond, refl, sym, ap, subst, ◌∙◌, length, arith}
use Rattle.std.specs.Prelude.{◌==◌, ◌&&◌, ◌||◌, not, IsTrue, reverse}
use Rattle.shore_types.specs.declared.layout.Geometry.{Geometry}
use Rattle.shore_model.specs.declared.log_records.LogRecord.{LogRecord}
use Rattle.shore_model.specs.declared.log_records.Payload.{Payload}
use Rattle.shore_model.specs.declared.log_records.Payload.TheVariants.{Change, Compensation, Commit, End, Prepare, RollbackDecided, CheckpointBegin, CheckpointEnd, Anchor}
use Rattle.shore_model.specs.declared.log_records.TxnState.TheVariants.{Active, Prepared, RollingBack}
use Rattle.shore_model.specs.Logs.{first_number, has, is_commit, is_end, is_in_doubt, is_over, is_prepare, is_prepared, is_rollback, is_undoable, is_unprepared, last_of, records_of}
use Rattle.laws_lives.specs.Undo.{IsLoser}
use Rattle.laws_lives.proofs.Booleans.{and_true, or_none, or_true}
use Rattle.laws_lives.proofs.OneMore.{has-more, has-not_its, has-not_this, has-push, has-this}
use Rattle.laws_lives.proofs.EndedTxns.{over_other, over_same}
use Rattle.laws_lives.proofs.Numbers.{last_own, newest_other}
use Rattle.laws_lives.proofs.Writers.{never_true, same_or_not}
use Rattle.shore_analysis.specs.declared.progress.Phase.{Phase}
use Rattle.shore_analysis.specs.declared.progress.Phase.TheVariants.{Decided, Free, InDoubt}
use Rattle.shore_analysis.specs.Meant.{AreMeant, AreMeantOf, IsMeant, Means}
use Rattle.shore_analysis.specs.Passes.{is_decided, is_doubtful, is_free, phase_of, state_after}
use Rattle.shore_analysis.specs.Tables.{is_undo, newest_is_undo, state_of}
use Rattle.shore_analysis.proofs.MeantLogs.{by_meant, by_own, in_doubt_prepared}

-- ---- by three tests: whether it has a Prepare, a Commit, a Rollback decided

abbrev doubt : Bool → Bool → Bool → Bool
doubt prepared committed rolled = prepared && not committed && not rolled

abbrev phase : Bool → Bool → Bool → Phase
phase prepared committed rolled = cond (doubt prepared committed rolled) InDoubt (cond (not prepared) Free Decided)

free_if : (p c r : Bool) → is_free (phase p c r) ≡ not p
free_if true true r = refl
free_if true false true = refl
free_if true false false = refl
free_if false c r = refl

doubtful_if : (p c r : Bool) → is_doubtful (phase p c r) ≡ doubt p c r
doubtful_if true true r = refl
doubtful_if true false true = refl
doubtful_if true false false = refl
doubtful_if false c r = refl

commit_if : (p c r : Bool) → not (is_decided (phase p c r)) ≡ (not p || doubt p c r)
commit_if true true r = refl
commit_if true false true = refl
commit_if true false false = refl
commit_if false c r = refl

undoable_if : (p c r : Bool) → c ≡ false → not (doubt p c r) ≡ (not p || r)
undoable_if true true r e = cc
undoable_if true false true e = refl
undoable_if true false false e = refl
undoable_if false c r e = refl

-- ---- of a transaction

module _ (t : ℕ) (log : List LogRecord) where
  pub free_is : is_free (phase_of t log) ≡ is_unprepared t log
  free_is = free_if (has is_prepare t log) (has is_commit t log) (has is_rollback t log)

  pub doubtful_is : is_doubtful (phase_of t log) ≡ is_in_doubt t log
  doubtful_is = doubtful_if (has is_prepare t log) (has is_commit t log) (has is_rollback t log)

  pub commit_is : not (is_decided (phase_of t log)) ≡ (is_unprepared t log || is_in_doubt t log)
  commit_is = commit_if (has is_prepare t log) (has is_commit t log) (has is_rollback t log)

  pub uncommitted : is_over t log ≡ false → has is_commit t log ≡ false
  uncommitted runs = (or_none (has is_commit t log) (has is_end t log) runs).0

  pub undoable_is : is_over t log ≡ false → not (is_in_doubt t log) ≡ is_undoable t log
  undoable_is runs = undoable_if (has is_prepare t log) (has is_commit t log) (has is_rollback t log) (uncommitted runs)

  pub undoable_no_doubt : is_over t log ≡ false → IsTrue (is_undoable t log) → is_in_doubt t log ≡ false
  undoable_no_doubt runs h = not_true (is_in_doubt t log) (undoable_is runs ∙ h)
    where
      not_true : (b : Bool) → not b ≡ true → b ≡ false
      not_true true e = cc
      not_true false e = refl

  pub loser_undoable : IsLoser log t → IsTrue (is_undoable t log)
  loser_undoable loser = sym (undoable_is loser.not_over) ∙ ap not loser.not_in_doubt

  pub unprepared_no_doubt : has is_prepare t log ≡ false → is_in_doubt t log ≡ false
  unprepared_no_doubt none = ap (λ b. b && not (has is_commit t log) && not (has is_rollback t log)) none

  pub no_prepare : IsTrue (is_unprepared t log) → has is_prepare t log ≡ false
  no_prepare h = not_true (has is_prepare t log) h
    where
      not_true : (b : Bool) → not b ≡ true → b ≡ false
      not_true true e = cc
      not_true false e = refl

pub doubt-by : (log more : List LogRecord) (t : ℕ) → has is_prepare t more ≡ has is_prepare t log → has is_commit t more ≡ has is_commit t log → has is_rollback t more ≡ has is_rollback t log
    → is_in_doubt t more ≡ is_in_doubt t log
doubt-by log more t p c r = λ i. doubt (p i) (c i) (r i)

-- whether another is in doubt stays as it is
pub doubt_other : (log : List LogRecord) (r : LogRecord) (u : ℕ) → r.txn ≢ u → is_in_doubt u (log ++ r ∷ []) ≡ is_in_doubt u log
doubt_other log r u ne = doubt-by log (log ++ r ∷ []) u (has-not_its log r is_prepare u ne) (has-not_its log r is_commit u ne) (has-not_its log r is_rollback u ne)

-- a state is that of one in doubt if its transaction is
pub prepared_is : (t : ℕ) (log : List LogRecord) → is_prepared (state_of t log) ≡ is_in_doubt t log
prepared_is t log = by (is_in_doubt t log) (newest_is_undo (reverse (records_of t log)))
  where
    by : (a b : Bool) → is_prepared (cond a Prepared (cond b RollingBack Active)) ≡ a
    by true b = refl
    by false true = refl
    by false false = refl

-- ---- in a log whose records mean what they have to

rollback_says : (g : Geometry) (log : List LogRecord) (t : ℕ) (p : Payload) → is_rollback p ≡ true → Means g log t p → is_in_doubt t log ≡ true
rollback_says g log t RollbackDecided e says = says
rollback_says g log t (Change id before after) e says = cc
rollback_says g log t (Compensation id after undo_next) e says = cc
rollback_says g log t Commit e says = cc
rollback_says g log t End e says = cc
rollback_says g log t (Prepare global granules) e says = cc
rollback_says g log t CheckpointBegin e says = cc
rollback_says g log t (CheckpointEnd begin next txns dirty) e says = cc
rollback_says g log t (Anchor checkpoint tail) e says = cc

-- a Prepare is the first of its transaction
pub prepare_free : (g : Geometry) (log : List LogRecord) (t : ℕ) (p : Payload) → is_prepare p ≡ true → Means g log t p → has is_prepare t log ≡ false
prepare_free g log t (Prepare global granules) e says = no_prepare t log says.1.0
prepare_free g log t (Change id before after) e says = cc
prepare_free g log t (Compensation id after undo_next) e says = cc
prepare_free g log t Commit e says = cc
prepare_free g log t End e says = cc
prepare_free g log t RollbackDecided e says = cc
prepare_free g log t CheckpointBegin e says = cc
prepare_free g log t (CheckpointEnd begin next txns dirty) e says = cc
prepare_free g log t (Anchor checkpoint tail) e says = cc

-- who has a Rollback decided has a Prepare
pub rolled_prepared : (g : Geometry) (t : ℕ) (log : List LogRecord) → AreMeantOf g t log → has is_rollback t log ≡ true → has is_prepare t log ≡ true
rolled_prepared g t = by_own g t (λ log. has is_rollback t log ≡ true → has is_prepare t log ≡ true) (λ h. cc) own other
  where
    own : (xs : List LogRecord) (r : LogRecord) → r.txn ≡ t → IsMeant g xs r → (has is_rollback t xs ≡ true → has is_prepare t xs ≡ true)
        → has is_rollback t (xs ++ r ∷ []) ≡ true → has is_prepare t (xs ++ r ∷ []) ≡ true
    own xs r is meant known h = ⊎_elim
        (λ before. has-more xs r is_prepare t (known before))
        (λ here.
        let rolled = (and_true (r.txn == t) (is_rollback r.payload) here).1 in
        let doubts : is_in_doubt r.txn xs ≡ true = rollback_says g xs r.txn r.payload rolled meant.says in
        has-more xs r is_prepare t (ap (λ u. has is_prepare u xs) (sym is) ∙ in_doubt_prepared r.txn xs doubts))
        (or_true (has is_rollback t xs) ((r.txn == t) && is_rollback r.payload) (sym (has-push xs r is_rollback t) ∙ h))

    other : (xs : List LogRecord) (r : LogRecord) → r.txn ≢ t → (has is_rollback t xs ≡ true → has is_prepare t xs ≡ true)
        → has is_rollback t (xs ++ r ∷ []) ≡ true → has is_prepare t (xs ++ r ∷ []) ≡ true
    other xs r ne known h = has-more xs r is_prepare t (known (sym (has-not_its xs r is_rollback t ne) ∙ h))

pub unrolled : (g : Geometry) (t : ℕ) (log : List LogRecord) → AreMeantOf g t log → has is_prepare t log ≡ false → has is_rollback t log ≡ false
unrolled g t log all none = never_true (has is_rollback t log) (λ rolled. let prepared = rolled_prepared g t log all rolled in cc)

-- ---- behind one record more of a transaction that has not ended

module _ (g : Geometry) (rs : List LogRecord) (r : LogRecord) (all : AreMeantOf g r.txn rs) (meant : IsMeant g rs r) where
  abbrev after : List LogRecord
  after = rs ++ r ∷ []

  abbrev t : ℕ
  t = r.txn

  by_three : (p c b : Bool) → has is_prepare t after ≡ p → has is_commit t after ≡ c → has is_rollback t after ≡ b → is_in_doubt t after ≡ doubt p c b
  by_three p c b x y z = λ i. doubt (x i) (y i) (z i)

  -- whether it is in doubt then
  doubt_then : (p : Payload) → r.payload ≡ p → Means g rs t p → is_commit p ≡ false → is_end p ≡ false → is_in_doubt t after ≡ is_prepare p
  doubt_then (Change id before image) e says no_commit no_end =
      unprepared_no_doubt t after (has-not_this rs r is_prepare t (ap is_prepare e) ∙ no_prepare t rs says.1)
  doubt_then (Compensation id image undo_next) e says no_commit no_end =
      by_three (has is_prepare t rs) (has is_commit t rs) (has is_rollback t rs) (has-not_this rs r is_prepare t (ap is_prepare e)) (has-not_this rs r is_commit t (ap is_commit e)) (has-not_this rs r is_rollback t (ap is_rollback e))
      ∙ undoable_no_doubt t rs meant.not_over says.1.0
  doubt_then Commit e says no_commit no_end = cc
  doubt_then End e says no_commit no_end = cc
  doubt_then (Prepare global granules) e says no_commit no_end =
      by_three true false false (has-this rs r is_prepare (ap is_prepare e)) (has-not_this rs r is_commit t (ap is_commit e) ∙ uncommitted t rs meant.not_over)
      (has-not_this rs r is_rollback t (ap is_rollback e) ∙ unrolled g t rs all (no_prepare t rs says.1.0))
  doubt_then RollbackDecided e says no_commit no_end =
      by_three (has is_prepare t after) (has is_commit t after) true refl refl (has-this rs r is_rollback (ap is_rollback e)) ∙ never (has is_prepare t after && not (has is_commit t after))
    where
      never : (b : Bool) → (b && false) ≡ false
      never true = refl
      never false = refl
  doubt_then CheckpointBegin e says no_commit no_end = absurd says
  doubt_then (CheckpointEnd begin next txns dirty) e says no_commit no_end = absurd says
  doubt_then (Anchor checkpoint tail) e says no_commit no_end = absurd says

state_by : (p : Payload) → state_after p ≡ cond (is_prepare p) Prepared (cond (is_undo p) RollingBack Active)
state_by (Change id before image) = refl
state_by (Compensation id image undo_next) = refl
state_by Commit = refl
state_by End = refl
state_by (Prepare global granules) = refl
state_by RollbackDecided = refl
state_by CheckpointBegin = refl
state_by (CheckpointEnd begin next txns dirty) = refl
state_by (Anchor checkpoint tail) = refl

pub state_then : (g : Geometry) (rs : List LogRecord) (r : LogRecord) → AreMeantOf g r.txn rs → IsMeant g rs r → is_commit r.payload ≡ false → is_end r.payload ≡ false
    → reverse (records_of r.txn (rs ++ r ∷ [])) ≡ (1 + length rs, r) ∷ reverse (records_of r.txn rs) → state_after r.payload ≡ state_of r.txn (rs ++ r ∷ [])
state_then g rs r all meant no_commit no_end newest =
    state_by r.payload
    ∙ sym (λ i. cond (doubt_then g rs r all meant r.payload refl meant.says no_commit no_end i) Prepared (cond (newest_is_undo (newest i)) RollingBack Active))

-- ---- who is in doubt

-- it is a transaction that has a record and has not ended
pub record IsUndecided (log : List LogRecord) (t : ℕ) : Type 0 where
  pub some : 0 < t
  pub known : 0 < last_of t log
  pub runs : is_over t log ≡ false

module _ (g : Geometry) (rs : List LogRecord) (r : LogRecord) (meant : IsMeant g rs r) where
  runs_own : (p : Payload) → r.payload ≡ p → Means g rs r.txn p → is_in_doubt r.txn (rs ++ r ∷ []) ≡ true → is_over r.txn (rs ++ r ∷ []) ≡ false
  runs_own Commit e says doubts =
      let committed : has is_commit r.txn (rs ++ r ∷ []) ≡ true = has-this rs r is_commit (ap is_commit e) in
      let none = (and_true (has is_prepare r.txn (rs ++ r ∷ [])) (not (has is_commit r.txn (rs ++ r ∷ []))) (and_true _ (not (has is_rollback r.txn (rs ++ r ∷ []))) doubts).0).1 in
      absurd (let off : not true ≡ true = sym (ap not committed) ∙ none in cc)
  runs_own End e says doubts =
      let none : is_in_doubt r.txn (rs ++ r ∷ []) ≡ false =
      doubt-by rs (rs ++ r ∷ []) r.txn (has-not_this rs r is_prepare r.txn (ap is_prepare e)) (has-not_this rs r is_commit r.txn (ap is_commit e)) (has-not_this rs r is_rollback r.txn (ap is_rollback e))
      ∙ undoable_no_doubt r.txn rs meant.not_over says.0 in
      absurd (let off : true ≡ false = sym doubts ∙ none in cc)
  runs_own (Change id before image) e says doubts = over_same rs r (ap is_commit e) (ap is_end e) r.txn ∙ meant.not_over
  runs_own (Compensation id image undo_next) e says doubts = over_same rs r (ap is_commit e) (ap is_end e) r.txn ∙ meant.not_over
  runs_own (Prepare global granules) e says doubts = over_same rs r (ap is_commit e) (ap is_end e) r.txn ∙ meant.not_over
  runs_own RollbackDecided e says doubts = over_same rs r (ap is_commit e) (ap is_end e) r.txn ∙ meant.not_over
  runs_own CheckpointBegin e says doubts = absurd says
  runs_own (CheckpointEnd begin next txns dirty) e says doubts = absurd says
  runs_own (Anchor checkpoint tail) e says doubts = absurd says

-- another's record leaves it so
pub undecided_other : (rs : List LogRecord) (r : LogRecord) (t : ℕ) → r.txn ≢ t → IsUndecided rs t → IsUndecided (rs ++ r ∷ []) t
undecided_other rs r t ne before = record {
  some = before.some;
  known = subst (λ es. 0 < first_number es) (sym (newest_other rs r t ne)) before.known;
  runs = over_other rs r t ne ∙ before.runs;
}

-- behind one record more
pub runs_behind : (g : Geometry) (rs : List LogRecord) (r : LogRecord) → IsMeant g rs r → ((t : ℕ) → is_in_doubt t rs ≡ true → IsUndecided rs t)
    → (t : ℕ) → is_in_doubt t (rs ++ r ∷ []) ≡ true → IsUndecided (rs ++ r ∷ []) t
runs_behind g rs r meant known t doubts = ⊎_elim
    (λ own.
    let number = last_own rs r in
    subst (IsUndecided (rs ++ r ∷ [])) own (record {
      some = meant.some;
      known = omega (arith, number);
      runs = runs_own g rs r meant r.payload refl meant.says (ap (λ u. is_in_doubt u (rs ++ r ∷ [])) own ∙ doubts);
    }))
    (λ ne. undecided_other rs r t ne (known t (sym (doubt_other rs r t ne) ∙ doubts)))
    (same_or_not r.txn t)

pub in_doubt_runs : (g : Geometry) (log : List LogRecord) → AreMeant g log → (t : ℕ) → is_in_doubt t log ≡ true → IsUndecided log t
in_doubt_runs g = by_meant g (λ log. (t : ℕ) → is_in_doubt t log ≡ true → IsUndecided log t) (λ t h. cc) (runs_behind g)
