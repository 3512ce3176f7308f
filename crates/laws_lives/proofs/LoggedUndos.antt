-- Each transaction under way has logged an image for each id that it has to put back, as the log grows.
use Rattle.std.proofs.Common.{◌≡◌, ⊎_elim, ◌++◌, ℕ, List, [], ◌∷◌, true, false, Option, Some, None, Result, Ok, Err, refl, sym, subst, take}
use Rattle.std.specs.Prelude.{◌==◌, IsSome}
use Rattle.std.specs.FinMap.{get, insert}
use Rattle.std.proofs.lemmas.Bool.{eqb-true, eqb-false}
use Rattle.shore_types.specs.Images.{Image}
use Rattle.shore_types.specs.declared.faults.Fault.{Fault}
use Rattle.shore_types.specs.declared.ids.Rid.{Rid}
use Rattle.shore_model.specs.declared.calls.Answer.{Answer}
use Rattle.shore_model.specs.declared.calls.Answer.TheVariants.{Inserted}
use Rattle.shore_model.specs.declared.calls.Call.{Call}
use Rattle.shore_model.specs.declared.calls.Call.TheVariants as call
use Rattle.shore_model.specs.declared.log_records.LogRecord.{LogRecord}
use Rattle.shore_model.specs.declared.log_records.Payload.{Payload}
use Rattle.shore_model.specs.declared.log_records.Payload.TheVariants.{Change, Compensation}
use Rattle.shore_model.specs.Logs.{image_in, logged_writes, previous_of, with_image}
use Rattle.shore_model.specs.Records.{Records, WriteSet}
use Rattle.laws_lives.proofs.Ids.{told_apart, wrote_here, wrote_there}
use Rattle.laws_lives.proofs.Lists.{recursion-push, recursion-take, recursion-weaker}
use Rattle.laws_lives.proofs.LogTells.{logged_other, logged_own}
use Rattle.laws_lives.specs.LogTells.{AreLogged}
use Rattle.laws_lives.specs.Logged.{and_compensations, and_record, log_after_answer, log_after_reply, next_to_undo}
use Rattle.laws_lives.specs.Sessions.{SessionTxn}
use Rattle.laws_lives.specs.UndoLists.{images_since, mark_of, undo_after, undo_after_answer}

-- ---- more records

image_still : (W : WriteSet) (o : Option (Rid × Image)) (id : Rid) → IsSome (get W id) → IsSome (get (with_image W o) id)
image_still W None id h = h
image_still W (Some e) id h =
    ⊎_elim (λ same. subst (λ q. IsSome (get (insert W e.0 e.1) q)) (sym same) (subst IsSome (sym (wrote_here W e.0 e.1)) refl))
    (λ other. subst IsSome (sym (wrote_there W e.0 e.1 id other)) h) (told_apart id e.0)

pub record_still : (u : ℕ) (log : List LogRecord) (r : LogRecord) (id : Rid) → IsSome (get (logged_writes log u) id)
    → IsSome (get (logged_writes (log ++ r ∷ []) u) id)
record_still u log r id h =
    elim (r.txn == u) as (λ b. (r.txn == u) ≡ b → IsSome (get (logged_writes (log ++ r ∷ []) u) id)) [
      | true ↦ λ e. subst (λ W. IsSome (get W id)) (sym (logged_own log r u (eqb-true r.txn u e))) (image_still (logged_writes log u) (image_in r.payload) id h)
      | false ↦ λ e. subst (λ W. IsSome (get W id)) (sym (logged_other log r u (eqb-false r.txn u e))) h
    ] refl

module _ (u : ℕ) (images : List (Rid × Image)) where
  pub still_logged : (log : List LogRecord) (r : LogRecord) → AreLogged log u images → AreLogged (log ++ r ∷ []) u images
  still_logged log r h =
      recursion-weaker (λ e. IsSome (get (logged_writes log u) e.0)) (λ e. IsSome (get (logged_writes (log ++ r ∷ []) u) e.0))
      (λ e some. record_still u log r e.0 some) images h

  with_record : (t : ℕ) (log : List LogRecord) (p : Payload) → AreLogged log u images → AreLogged (and_record t log p) u images
  with_record t log p h = still_logged log record { txn = t; previous = previous_of t log; payload = p } h

  pub with_compensations : (t : ℕ) (log : List LogRecord) (es : List (Rid × Image)) → AreLogged log u images → AreLogged (and_compensations t log es) u images
  with_compensations t log [] h = h
  with_compensations t log (e ∷ es) h =
      with_record t (and_compensations t log es) (Compensation e.0 e.1 (next_to_undo t (and_compensations t log es))) (with_compensations t log es h)

  module _ (log : List LogRecord) (R : Records) (a : SessionTxn) (h : AreLogged log u images) where
    with_insert : (s : ℕ) (bytes : List ℕ) (answer : Answer) → AreLogged (log_after_answer log R a (call.Insert s bytes) answer) u images
    with_insert s bytes (Inserted id) = with_record a.txn log (Change id (get R id) (Some bytes)) h
    with_insert s bytes _ = h

    with_answer : (c : Call) (answer : Answer) → AreLogged (log_after_answer log R a c answer) u images
    with_answer (call.Insert s bytes) answer = with_insert s bytes answer
    with_answer (call.Update id bytes) answer = with_record a.txn log (Change id (get R id) (Some bytes)) h
    with_answer (call.Delete id) answer = with_record a.txn log (Change id (get R id) None) h
    with_answer (call.BackTo n) answer = with_compensations a.txn log (images_since a.undo n) h
    with_answer _ answer = h

    pub with_reply : (c : Call) (reply : Result Answer Fault) → AreLogged (log_after_reply log R a c reply) u images
    with_reply c (Ok answer) = with_answer c answer
    with_reply c (Err fault) = h

-- ---- the transaction that they are of

module _ (log : List LogRecord) (R : Records) (a : SessionTxn) (h : AreLogged log a.txn a.undo.images) where
  own_change : (id : Rid) (image : Image) → AreLogged (and_record a.txn log (Change id (get R id) image)) a.txn (a.undo.images ++ (id, get R id) ∷ [])
  own_change id image =
      let r : LogRecord = record { txn = a.txn; previous = previous_of a.txn log; payload = Change id (get R id) image } in
      recursion-push (λ e. IsSome (get (logged_writes (log ++ r ∷ []) a.txn) e.0)) a.undo.images (id, get R id) (still_logged a.txn a.undo.images log r h)
      (subst (λ W. IsSome (get W id)) (sym (logged_own log r a.txn refl)) (subst IsSome (sym (wrote_here (logged_writes log a.txn) id image)) refl))

  own_insert : (s : ℕ) (bytes : List ℕ) (answer : Answer)
      → AreLogged (log_after_answer log R a (call.Insert s bytes) answer) a.txn (undo_after_answer R a.undo (call.Insert s bytes) answer).images
  own_insert s bytes (Inserted id) = own_change id (Some bytes)
  own_insert s bytes _ = h

  own_answer : (c : Call) (answer : Answer) → AreLogged (log_after_answer log R a c answer) a.txn (undo_after_answer R a.undo c answer).images
  own_answer (call.Insert s bytes) answer = own_insert s bytes answer
  own_answer (call.Update id bytes) answer = own_change id (Some bytes)
  own_answer (call.Delete id) answer = own_change id None
  own_answer (call.BackTo n) answer =
      with_compensations a.txn (take (mark_of a.undo n) a.undo.images) a.txn log (images_since a.undo n)
      (recursion-take (λ e. IsSome (get (logged_writes log a.txn) e.0)) (mark_of a.undo n) a.undo.images h)
  own_answer call.Savepoint answer = h
  own_answer _ answer = h

  pub own_reply : (c : Call) (reply : Result Answer Fault) → AreLogged (log_after_reply log R a c reply) a.txn (undo_after R a.undo c reply).images
  own_reply c (Ok answer) = own_answer c answer
  own_reply c (Err fault) = h
