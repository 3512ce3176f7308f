-- What a rollback in steps stands on: lists of transactions whose undo list is changed, marks of savepoints that are left, and whether a transaction has
-- logged anything.
use Rattle.std.proofs.Common.{◌≡◌, ◌≢◌, ⊎_elim, inl, inr, ◌++◌, ◌∷◌, ◌+◌, ◌<◌, ◌≤◌, ℕ, suc, zero, List, [], true, false, cond, Some, refl, sym, ap, subst, ◌∙◌, append-nil, append_assoc, arith, drop, length, reverse, take}
use Rattle.std.specs.Prelude.{◌==◌, IsSome, not, slice_get, unwrap_or}
use Rattle.std.specs.FinMap.{get, get-empty}
use Rattle.std.proofs.lemmas.Bool.{eq-eqb, eqb-false, eqb-true, ne_eqb}
use Rattle.shore_types.specs.Ids.{rid_cmp}
use Rattle.shore_types.specs.Images.{Image}
use Rattle.shore_types.specs.declared.ids.Rid.{Rid}
use Rattle.shore_model.proofs.LogSteps.{newest-push}
use Rattle.shore_model.specs.declared.log_records.LogRecord.{LogRecord}
use Rattle.shore_model.specs.declared.log_records.Payload.{Payload}
use Rattle.shore_model.specs.declared.log_records.Payload.TheVariants.{Compensation, End}
use Rattle.shore_model.specs.Logs.{first_number, last_of, logged_writes, previous_of, records_of}
use Rattle.laws_lives.proofs.Lists.{drop-whole, length-take_within, slice_get-take, take-take}
use Rattle.laws_lives.proofs.LogTells.{logged_other}
use Rattle.laws_lives.proofs.Views.{not_some}
use Rattle.shore_model.specs.declared.rollbacks.Rollback.{Rollback}
use Rattle.shore_model.specs.declared.rollbacks.Rollback.TheVariants.{To, Whole}
use Rattle.laws_lives.specs.LogTells.{AreLogged}
use Rattle.laws_lives.specs.Logged.{and_compensations, and_record, and_rollback, next_to_undo}
use Rattle.laws_lives.specs.Sessions.{SessionTxn, with_undo, without_txn}
use Rattle.laws_lives.specs.UndoLists.{MayRoll, UndoList, images_since, least_kept, mark_of, marks_kept, undo_rolled}
use Rattle.laws_lives.specs.Views.{IsAmong}
use Rattle.laws_calls.proofs.Prefixes.{prefix_on, whole_prefix}
use Rattle.laws_calls.specs.CallHistories.{IsPrefix}

-- ---- a transaction with another undo list

abbrev pub with_list : SessionTxn → UndoList → SessionTxn
with_list a undo = record { session = a.session; txn = a.txn; undo = undo }

pub its_list : (a : SessionTxn) (undo : UndoList) (xs : List SessionTxn) → IsAmong a xs → IsAmong (with_list a undo) (with_undo a.txn undo xs)
its_list a undo [] h = absurd h
its_list a undo (x ∷ xs) h =
    elim (x.txn == a.txn) as (λ b. (x.txn == a.txn) ≡ b → IsAmong (with_list a undo) (cond b (with_list x undo) x ∷ with_undo a.txn undo xs)) [
      | true ↦ λ e. ⊎_elim (λ same. inl (ap (λ (y : SessionTxn). with_list y undo) same)) (λ later. inr (its_list a undo xs later)) h
      | false ↦ λ e. ⊎_elim (λ same. absurd (eqb-false x.txn a.txn e (ap (λ (y : SessionTxn). y.txn) same))) (λ later. inr (its_list a undo xs later)) h
    ] refl

-- the others keep theirs
pub other_list : (t : ℕ) (undo : UndoList) (b : SessionTxn) (xs : List SessionTxn) → IsAmong b xs → b.txn ≢ t → IsAmong b (with_undo t undo xs)
other_list t undo b [] h other = absurd h
other_list t undo b (x ∷ xs) h other =
    elim (x.txn == t) as (λ c. (x.txn == t) ≡ c → IsAmong b (cond c (with_list x undo) x ∷ with_undo t undo xs)) [
      | true ↦ λ e. ⊎_elim (λ same. absurd (other (ap (λ (y : SessionTxn). y.txn) (sym same) ∙ eqb-true x.txn t e))) (λ later. inr (other_list t undo b xs later other)) h
      | false ↦ λ e. ⊎_elim (λ same. inl same) (λ later. inr (other_list t undo b xs later other)) h
    ] refl

-- it is changed twice
pub list_twice : (t : ℕ) (first second : UndoList) (xs : List SessionTxn) → with_undo t second (with_undo t first xs) ≡ with_undo t second xs
list_twice t first second [] = refl
list_twice t first second (x ∷ xs) =
    elim (x.txn == t) as (λ b. (x.txn == t) ≡ b → with_undo t second (cond b (with_list x first) x ∷ with_undo t first xs) ≡ cond b (with_list x second) x ∷ with_undo t second xs) [
      | true ↦ λ e. ap (λ c. cond c (with_list x second) (with_list x first) ∷ with_undo t second (with_undo t first xs)) e ∙ ap (λ ys. with_list x second ∷ ys) (list_twice t first second xs)
      | false ↦ λ e. ap (λ c. cond c (with_list x second) x ∷ with_undo t second (with_undo t first xs)) e ∙ ap (λ ys. x ∷ ys) (list_twice t first second xs)
    ] refl

-- .. and then it goes
pub list_gone : (t : ℕ) (undo : UndoList) (xs : List SessionTxn) → without_txn t (with_undo t undo xs) ≡ without_txn t xs
list_gone t undo [] = refl
list_gone t undo (x ∷ xs) =
    elim (x.txn == t) as (λ b. (x.txn == t) ≡ b → without_txn t (cond b (with_list x undo) x ∷ with_undo t undo xs) ≡ cond (not b) (x ∷ without_txn t xs) (without_txn t xs)) [
      | true ↦ λ e. ap (λ c. cond (not c) (with_list x undo ∷ without_txn t (with_undo t undo xs)) (without_txn t (with_undo t undo xs))) e ∙ list_gone t undo xs
      | false ↦ λ e. ap (λ c. cond (not c) (x ∷ without_txn t (with_undo t undo xs)) (without_txn t (with_undo t undo xs))) e ∙ ap (λ ys. x ∷ ys) (list_gone t undo xs)
    ] refl

-- ---- marks that are left

either_mark : (n d f : ℕ) (ms : List ℕ) → n < length ms → unwrap_or (slice_get ms n) d ≡ unwrap_or (slice_get ms n) f
either_mark n d f [] less = absurd (omega arith)
either_mark zero d f (m ∷ ms) less = refl
either_mark (suc n) d f (m ∷ ms) less = either_mark n d f ms (omega arith)

module _ (undo : UndoList) (kept : List (Rid × Image)) where
  -- the mark of the savepoint that a rollback goes back to stays
  pub same_mark : (n : ℕ) → n < length undo.marks → mark_of (undo_rolled undo kept (To n)) n ≡ mark_of undo n
  same_mark n less =
      ap (λ m. unwrap_or m (length kept)) (slice_get-take n (n + 1) undo.marks (omega arith)) ∙ either_mark n (length kept) (length undo.images) undo.marks less

  pub same_least : (r : Rollback) → MayRoll undo r → least_kept (undo_rolled undo kept r) r ≡ least_kept undo r
  same_least Whole may = refl
  same_least (To n) may = same_mark n may.0

  left_marks : (n : ℕ) (ms : List ℕ) → n < length ms → n < length (take (n + 1) ms)
  left_marks n ms less = let long = length-take_within (n + 1) ms (omega arith) in omega arith

  pub may_roll_on : (r : Rollback) → MayRoll undo r → MayRoll (undo_rolled undo kept r) r
  may_roll_on Whole may = tt
  may_roll_on (To n) may = (left_marks n undo.marks may.0, inr refl)

  same_marks : (r : Rollback) (ms : List ℕ) → marks_kept r (marks_kept r ms) ≡ marks_kept r ms
  same_marks Whole ms = refl
  same_marks (To n) ms = take-take (n + 1) (n + 1) ms (omega arith)

  pub rolled_on : (r : Rollback) (less : List (Rid × Image)) → undo_rolled (undo_rolled undo kept r) less r ≡ undo_rolled undo less r
  rolled_on r less = ap (λ ms. record { images = less; marks = ms; rolling = Some r }) (same_marks r undo.marks)

-- ---- what a transaction has logged

by_push : {A : Type 0} (P : List A → Type 0) → P [] → ((xs : List A) (x : A) → P xs → P (xs ++ x ∷ [])) → (xs : List A) → P xs
by_push P none push xs = on [] none xs
  where
    on : (front : List _) → P front → (rest : List _) → P (front ++ rest)
    on front p [] = subst P (sym (append-nil front)) p
    on front p (x ∷ rest) = subst P (append_assoc front (x ∷ []) rest) (on (front ++ x ∷ []) (push front x p) rest)

module _ (t : ℕ) where
  -- who has logged an image has a last record
  pub last_logged : (log : List LogRecord) (id : Rid) → IsSome (get (logged_writes log t) id) → 0 < last_of t log
  last_logged log = by_push (λ log. (id : Rid) → IsSome (get (logged_writes log t) id) → 0 < last_of t log) (λ id h. absurd (not_some (get-empty rid_cmp id) h)) push log
    where
      push : (log : List LogRecord) (r : LogRecord) → ((id : Rid) → IsSome (get (logged_writes log t) id) → 0 < last_of t log)
          → (id : Rid) → IsSome (get (logged_writes (log ++ r ∷ []) t) id) → 0 < last_of t (log ++ r ∷ [])
      push log r before id h =
          elim (r.txn == t) as (λ b. (r.txn == t) ≡ b → 0 < last_of t (log ++ r ∷ [])) [
            | true ↦ λ e.
                let last : last_of t (log ++ r ∷ []) ≡ 1 + length log =
                ap first_number (newest-push t log r ∙ ap (λ b. cond b ((1 + length log, r) ∷ reverse (records_of t log)) (reverse (records_of t log))) e) in
                omega arith
            | false ↦ λ e.
                let last : last_of t (log ++ r ∷ []) ≡ last_of t log =
                ap first_number (newest-push t log r ∙ ap (λ b. cond b ((1 + length log, r) ∷ reverse (records_of t log)) (reverse (records_of t log))) e) in
                let some = before id (subst (λ W. IsSome (get W id)) (logged_other log r t (eqb-false r.txn t e)) h) in
                omega arith
          ] refl

  module _ (above : 0 < t) where
    pub last_previous : (log : List LogRecord) → 0 < last_of t log → (previous_of t log == 0) ≡ false
    last_previous log some =
        let last : previous_of t log ≡ last_of t log = ap (λ b. cond b 0 (last_of t log)) (ne_eqb t 0 (λ e. omega arith)) in
        ne_eqb (previous_of t log) 0 (λ e. omega arith)

    pub own_previous : (log : List LogRecord) (p : Payload) → (previous_of t (and_record t log p) == 0) ≡ false
    own_previous log p = last_previous (and_record t log p) (let e = last in omega arith)
      where
        r : LogRecord
        r = record { txn = t; previous = previous_of t log; payload = p }

        last : last_of t (and_record t log p) ≡ 1 + length log
        last = ap first_number (newest-push t log r ∙ ap (λ b. cond b ((1 + length log, r) ∷ reverse (records_of t log)) (reverse (records_of t log))) (eq-eqb t t refl))

    -- a rollback whose images are put back before it ends by its End
    pub rollback_ends : (log : List LogRecord) (e : Rid × Image) (es : List (Rid × Image)) → AreLogged log t (e ∷ es)
        → and_rollback t (and_compensations t log (e ∷ es)) [] ≡ and_rollback t log (e ∷ es)
    rollback_ends log e es logged =
        let all = and_compensations t log (e ∷ es) in
        let before = and_compensations t log es in
        ap (λ b. cond b all (and_record t all End)) (own_previous before (Compensation e.0 e.1 (next_to_undo t before)))
        ∙ sym (ap (λ b. cond b log (and_record t all End)) (last_previous log (last_logged log e.0 logged.0)))

-- ---- longer logs

pub compensations_on : (t : ℕ) (log : List LogRecord) (es : List (Rid × Image)) → IsPrefix log (and_compensations t log es)
compensations_on t log [] = whole_prefix log
compensations_on t log (e ∷ es) = prefix_on log (and_compensations t log es) (and_compensations t log (e ∷ es)) (compensations_on t log es) (_ ∷ [], refl)

pub rollback_on : (t : ℕ) (log : List LogRecord) (es : List (Rid × Image)) → IsPrefix log (and_rollback t log es)
rollback_on t log es =
    elim (previous_of t log == 0) as (λ b. IsPrefix log (cond b log (and_record t (and_compensations t log es) End))) [
      | true ↦ whole_prefix log
      | false ↦ prefix_on log (and_compensations t log es) (and_record t (and_compensations t log es) End) (compensations_on t log es) (_ ∷ [], refl)
    ]

-- ---- images since a savepoint

module _ (undo : UndoList) (n : ℕ) (less : n < length undo.marks) (within : mark_of undo n ≤ length undo.images) where
  abbrev pub front : List (Rid × Image)
  front = take (mark_of undo n) undo.images

  front_length : length front ≡ mark_of undo n
  front_length = length-take_within (mark_of undo n) undo.images within

  pub front_least : mark_of undo n ≤ length front
  front_least = let e = front_length in omega arith

  -- once they are put back, none is left
  pub none_since : images_since (undo_rolled undo front (To n)) n ≡ []
  none_since = ap (λ m. drop m front) (same_mark undo front n less ∙ sym front_length) ∙ drop-whole front

  pub front_whole : take (mark_of (undo_rolled undo front (To n)) n) front ≡ front
  front_whole = ap (λ m. take m front) (same_mark undo front n less) ∙ take-take (mark_of undo n) (mark_of undo n) undo.images (omega arith)
