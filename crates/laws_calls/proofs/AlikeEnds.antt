-- A rollback that was interrupted ends as one that was not.
use Rattle.std.proofs.Common.{◌≡◌, ◌≢◌, ◌++◌, ◌∷◌, ◌+◌, ◌<◌, ◌≤◌, ℕ, zero, suc, List, [], cond, None, refl, sym, ap, subst, ◌∙◌, arith, drop, length, take}
use Rattle.shore_types.specs.Images.{Image}
use Rattle.shore_types.specs.declared.ids.Rid.{Rid}
use Rattle.shore_model.specs.declared.calls.Answer.TheVariants.{WentBack}
use Rattle.shore_model.specs.declared.calls.Call.TheVariants as call
use Rattle.shore_model.specs.declared.log_records.LogRecord.{LogRecord}
use Rattle.shore_model.specs.declared.log_records.Payload.TheVariants.{Compensation, End}
use Rattle.shore_model.specs.Records.{Records}
use Rattle.shore_locks.specs.Grants.{released}
use Rattle.laws_lives.proofs.Lists.{take-take}
use Rattle.laws_lives.proofs.UndoLists.{laid_over-append}
use Rattle.shore_model.specs.declared.rollbacks.Rollback.TheVariants.{To, Whole}
use Rattle.laws_lives.specs.LogTells.{AreLogged}
use Rattle.laws_lives.specs.Logged.{and_compensations, and_record, and_rollback, next_to_undo}
use Rattle.laws_lives.specs.SessionSteps.{AnswerAbort, entries_by}
use Rattle.laws_lives.specs.Sessions.{SessionTxn, seated, with_undo, without_txn}
use Rattle.laws_lives.specs.UndoLists.{UndoList, images_since, mark_of, rolled_back, undo_rolled}
use Rattle.laws_calls.proofs.RollbackLinks.{one_logged}
use Rattle.laws_calls.proofs.Unwinding.{last_logged, last_previous, list_gone, list_twice, own_previous, same_mark}
use Rattle.laws_calls.specs.CallSteps.{aborted, with_requests}
use Rattle.laws_calls.specs.Rollbacks.{put_back, rolled}
use Rattle.laws_calls.specs.StateChanges.{answered}
use Rattle.laws_calls.specs.States.{State}
use Rattle.laws_calls.specs.Resolves.{rollback_done}

compensations-append : (t : ℕ) (log : List LogRecord) (xs ys : List (Rid × Image)) → and_compensations t log (xs ++ ys) ≡ and_compensations t (and_compensations t log ys) xs
compensations-append t log [] ys = refl
compensations-append t log (x ∷ xs) ys =
    ap (λ so_far. and_record t so_far (Compensation x.0 x.1 (next_to_undo t so_far))) (compensations-append t log xs ys)

drop-behind : {A : Type 0} (n : ℕ) (xs ys : List A) → n ≤ length xs → drop n (xs ++ ys) ≡ drop n xs ++ ys
drop-behind zero xs ys within = refl
drop-behind (suc n) [] ys within = absurd (omega arith)
drop-behind (suc n) (x ∷ xs) ys within = drop-behind n xs ys (omega arith)

take-before : {A : Type 0} (n : ℕ) (xs ys : List A) → n ≤ length xs → take n (xs ++ ys) ≡ take n xs
take-before zero xs ys within = refl
take-before (suc n) [] ys within = absurd (omega arith)
take-before (suc n) (x ∷ xs) ys within = ap (λ zs. x ∷ zs) (take-before n xs ys (omega arith))

module _ (s : State) (a : SessionTxn) (kept undone : List (Rid × Image)) (is : a.undo.images ≡ kept ++ undone) where
  abbrev R : Records
  R = s.sessions.records

  abbrev t : ℕ
  t = a.txn

  -- ---- an abort

  abbrev ended_by : Records → List SessionTxn → List LogRecord → State
  ended_by records xs log =
      with_requests (record s { sessions = seated s.sessions (entries_by s.sessions (AnswerAbort a)) (record s.sessions { records = records; active = xs }); log = log })
      (released a.txn s.locks.requests)

  module _ (above : 0 < a.txn) (logged : AreLogged s.log a.txn a.undo.images) where
    -- the log of the rest of the rollback is that of all
    same_log : undone ≢ [] → and_rollback t (and_compensations t s.log undone) kept ≡ and_rollback t s.log a.undo.images
    same_log some = by undone some is
      where
        by : (back : List (Rid × Image)) → back ≢ [] → a.undo.images ≡ kept ++ back → and_rollback t (and_compensations t s.log back) kept ≡ and_rollback t s.log a.undo.images
        by [] any at = absurd (any refl)
        by (e ∷ es) any at =
            let front = and_compensations t s.log es in
            let begun = and_compensations t s.log (e ∷ es) in
            let first = last_logged t s.log e.0 (one_logged _ kept e es (subst (AreLogged s.log t) at logged)) in
            let all : and_compensations t begun kept ≡ and_compensations t s.log a.undo.images = sym (compensations-append t s.log kept (e ∷ es)) ∙ ap (and_compensations t s.log) (sym at) in
            ap (λ b. cond b begun (and_record t (and_compensations t begun kept) End)) (own_previous t above front (Compensation e.0 e.1 (next_to_undo t front)))
            ∙ ap (λ l. and_record t l End) all
            ∙ sym (ap (λ b. cond b s.log (and_record t (and_compensations t s.log a.undo.images) End)) (last_previous t above s.log first))

    pub abort_alike : undone ≢ [] → aborted (put_back s a kept undone Whole) (rolled a kept Whole) ≡ aborted s a
    abort_alike some =
        let undo = undo_rolled a.undo kept Whole in
        let records : rolled_back (rolled_back R undone) kept ≡ rolled_back R a.undo.images = sym (laid_over-append R kept undone) ∙ ap (rolled_back R) (sym is) in
        ap (λ (x : Records). ended_by x (without_txn t (with_undo t undo s.sessions.active)) (and_rollback t (and_compensations t s.log undone) kept)) records
        ∙ ap (λ (x : List SessionTxn). ended_by (rolled_back R a.undo.images) x (and_rollback t (and_compensations t s.log undone) kept)) (list_gone t undo s.sessions.active)
        ∙ ap (λ (x : List LogRecord). ended_by (rolled_back R a.undo.images) (without_txn t s.sessions.active) x) (same_log some)

  -- ---- a rollback that a resolve has decided

  abbrev done_by : Records → List SessionTxn → List LogRecord → State
  done_by records xs log = with_requests (record s { sessions = record s.sessions { records = records; active = xs }; log = and_record t log End }) (released a.txn s.locks.requests)

  pub resolve_alike : rollback_done (put_back s a kept undone Whole) (rolled a kept Whole) ≡ rollback_done s a
  resolve_alike =
      let undo = undo_rolled a.undo kept Whole in
      let records : rolled_back (rolled_back R undone) kept ≡ rolled_back R a.undo.images = sym (laid_over-append R kept undone) ∙ ap (rolled_back R) (sym is) in
      let log : and_compensations t (and_compensations t s.log undone) kept ≡ and_compensations t s.log a.undo.images = sym (compensations-append t s.log kept undone) ∙ ap (and_compensations t s.log) (sym is) in
      ap (λ (x : Records). done_by x (without_txn t (with_undo t undo s.sessions.active)) (and_compensations t (and_compensations t s.log undone) kept)) records
      ∙ ap (λ (x : List SessionTxn). done_by (rolled_back R a.undo.images) x (and_compensations t (and_compensations t s.log undone) kept)) (list_gone t undo s.sessions.active)
      ∙ ap (λ (x : List LogRecord). done_by (rolled_back R a.undo.images) (without_txn t s.sessions.active) x) log

  -- ---- a way back

  abbrev left_by : Records → List SessionTxn → List LogRecord → State
  left_by records xs log = record s { sessions = record s.sessions { records = records; active = xs }; counts = s.counts; log = log }

  abbrev once_back : List (Rid × Image) → List ℕ → UndoList
  once_back xs ms = record { images = xs; marks = ms; rolling = None }

  module _ (n : ℕ) (less : n < length a.undo.marks) (least : mark_of a.undo n ≤ length kept) where
    abbrev undo : UndoList
    undo = undo_rolled a.undo kept (To n)

    since : images_since a.undo n ≡ images_since undo n ++ undone
    since =
        ap (drop (mark_of a.undo n)) is ∙ drop-behind (mark_of a.undo n) kept undone least
        ∙ ap (λ m. drop m kept ++ undone) (sym (same_mark a.undo kept n less))

    first_part : take (mark_of undo n) kept ≡ take (mark_of a.undo n) a.undo.images
    first_part = ap (λ m. take m kept) (same_mark a.undo kept n less) ∙ sym (ap (take (mark_of a.undo n)) is ∙ take-before (mark_of a.undo n) kept undone least)

    pub back_alike : answered (put_back s a kept undone (To n)) (rolled a kept (To n)) (call.BackTo n) WentBack s.counts ≡ answered s a (call.BackTo n) WentBack s.counts
    back_alike =
        let xs = s.sessions.active in
        let marks = take (n + 1) a.undo.marks in
        let records : rolled_back (rolled_back R undone) (images_since undo n) ≡ rolled_back R (images_since a.undo n) =
        sym (laid_over-append R (images_since undo n) undone) ∙ ap (rolled_back R) (sym since) in
        let log : and_compensations t (and_compensations t s.log undone) (images_since undo n) ≡ and_compensations t s.log (images_since a.undo n) =
        sym (compensations-append t s.log (images_since undo n) undone) ∙ ap (and_compensations t s.log) (sym since) in
        let list : once_back (take (mark_of undo n) kept) (take (n + 1) marks) ≡ once_back (take (mark_of a.undo n) a.undo.images) marks =
        ap (λ ys. once_back ys (take (n + 1) marks)) first_part ∙ ap (once_back (take (mark_of a.undo n) a.undo.images)) (take-take (n + 1) (n + 1) a.undo.marks (omega arith)) in
        let active : with_undo t (once_back (take (mark_of undo n) kept) (take (n + 1) marks)) (with_undo t undo xs) ≡ with_undo t (once_back (take (mark_of a.undo n) a.undo.images) marks) xs =
        list_twice t undo (once_back (take (mark_of undo n) kept) (take (n + 1) marks)) xs ∙ ap (λ (u : UndoList). with_undo t u xs) list in
        ap (λ (x : Records). left_by x (with_undo t (once_back (take (mark_of undo n) kept) (take (n + 1) marks)) (with_undo t undo xs)) (and_compensations t (and_compensations t s.log undone) (images_since undo n))) records
        ∙ ap (λ (x : List SessionTxn). left_by (rolled_back R (images_since a.undo n)) x (and_compensations t (and_compensations t s.log undone) (images_since undo n))) active
        ∙ ap (λ (x : List LogRecord). left_by (rolled_back R (images_since a.undo n)) (with_undo t (once_back (take (mark_of a.undo n) a.undo.images) marks) xs) x) log
