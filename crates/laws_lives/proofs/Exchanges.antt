-- A transaction's calls with one reply more, and replies that change nothing of a transaction.
use Rattle.std.proofs.Common.{◌≡◌, ℕ, List, [], ◌∷◌, ◌++◌, Ok, Err, refl}
use Rattle.shore_types.specs.declared.faults.Fault.{Fault}
use Rattle.shore_types.specs.declared.faults.Fault.TheVariants.{NoRecord}
use Rattle.shore_model.specs.declared.calls.Answer.TheVariants.{Aborted, AreInDoubt, Committed, Prepared, Resolved}
use Rattle.shore_model.specs.declared.calls.Call.{Call}
use Rattle.shore_model.specs.declared.calls.Call.TheVariants as call
use Rattle.shore_model.specs.declared.calls.Exchange.{Exchange}
use Rattle.shore_model.specs.declared.calls.Outcome.{Outcome}
use Rattle.shore_model.specs.declared.progress.Progress.{Progress}
use Rattle.shore_model.specs.Alone.{MayRefuse, MayReply, MayReplyAll, after, after_reply}
use Rattle.shore_model.specs.Records.{Records}
use Rattle.laws_lives.specs.SessionSteps.{TellsNothing, exchange}

pub after-push : (p : Progress) (xs : List Exchange) (x : Exchange) → after p (xs ++ x ∷ []) ≡ after_reply (after p xs) x.call x.reply
after-push p [] x = refl
after-push p (y ∷ ys) x = after-push (after_reply p y.call y.reply) ys x

pub replies-push : (most : ℕ) (R : Records) (p : Progress) (xs : List Exchange) (x : Exchange) → MayReplyAll most R p xs → MayReply most R (after p xs) x.call x.reply
    → MayReplyAll most R p (xs ++ x ∷ [])
replies-push most R p [] x h m = (m, tt)
replies-push most R p (y ∷ ys) x h m = (h.0, replies-push most R (after_reply p y.call y.reply) ys x h.1 m)

-- it may come on all records, and a transaction that gets it has come no further
pub record IsQuiet (most : ℕ) (x : Exchange) : Type 0 where
  pub may : (R : Records) (p : Progress) → MayReply most R p x.call x.reply
  pub leaves : (p : Progress) → after_reply p x.call x.reply ≡ p

tells_nothing : (most : ℕ) (R : Records) (c : Call) (fault : Fault) → TellsNothing fault → MayRefuse most R c fault
tells_nothing most R c NoRecord h = absurd h
tells_nothing most R c _ h = tt

pub refusal_is_quiet : (most : ℕ) (c : Call) (fault : Fault) → TellsNothing fault → IsQuiet most (exchange c (Err fault))
refusal_is_quiet most c fault h = record { may = λ R p. tells_nothing most _ c fault h; leaves = λ p. refl }

pub commit_is_quiet : (most : ℕ) (ticket : ℕ) → IsQuiet most (exchange call.Commit (Ok (Committed ticket)))
commit_is_quiet most ticket = record { may = λ R p. (ticket, refl); leaves = λ p. refl }

pub abort_is_quiet : (most : ℕ) → IsQuiet most (exchange call.Abort (Ok Aborted))
abort_is_quiet most = record { may = λ R p. refl; leaves = λ p. refl }

pub prepare_is_quiet : (most : ℕ) (global : List ℕ) → IsQuiet most (exchange (call.Prepare global) (Ok Prepared))
prepare_is_quiet most global = record { may = λ R p. refl; leaves = λ p. refl }

pub resolve_is_quiet : (most : ℕ) (global : List ℕ) (outcome : Outcome) → IsQuiet most (exchange (call.Resolve global outcome) (Ok Resolved))
resolve_is_quiet most global outcome = record { may = λ R p. refl; leaves = λ p. refl }

pub in_doubt_is_quiet : (most : ℕ) (pairs : List (List ℕ × ℕ)) → IsQuiet most (exchange call.InDoubt (Ok (AreInDoubt pairs)))
in_doubt_is_quiet most pairs = record { may = λ R p. (pairs, refl); leaves = λ p. refl }
