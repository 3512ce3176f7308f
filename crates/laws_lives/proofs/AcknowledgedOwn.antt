-- What an event acknowledges is durable, and a decision of its manager.
use Rattle.std.proofs.Common.{◌≡◌, ◌≢◌, ◌≤◌, ◌<◌, ℕ, List, [], Bool, true, false, cond, map, refl, take, arith}
use Rattle.std.specs.Prelude.{◌↔◌}
use Rattle.std.specs.List.{AllByRecursion}
use Rattle.shore_model.specs.declared.calls.Outcome.{Outcome}
use Rattle.shore_model.specs.declared.calls.Outcome.TheVariants as outcome
use Rattle.shore_model.specs.declared.histories.Decision.TheVariants as decision
use Rattle.shore_model.specs.declared.histories.Entry.{Entry}
use Rattle.shore_model.specs.Histories.{commits_with, tickets}
use Rattle.shore_model.specs.Logs.{is_prepare}
use Rattle.laws_lives.proofs.Acknowledged.{IsUnresolved, NumbersAreNew, acknowledged_in, decision_is_own}
use Rattle.laws_lives.proofs.DoubtRecords.{none_of_it}
use Rattle.laws_lives.proofs.Lists.{among_map, recursion-weaker}
use Rattle.laws_lives.proofs.Tickets.{asked_commits_durable}
use Rattle.laws_lives.specs.LogPrefixes.{IsDecidedIn, decision_asked, decisions_in}
use Rattle.laws_lives.specs.ManagerSteps.{AnswersTruly}
use Rattle.laws_lives.specs.Recovery.{RecoveryState}
use Rattle.laws_lives.specs.SessionSteps.{AnswerPrepare, AnswerResolve, Ask, SessionEvent, StepsTo}
use Rattle.laws_lives.specs.Sessions.{ResolvedTxn, Sessions}
use Rattle.laws_lives.specs.Tickets.{AreTickets}
use Rattle.laws_lives.specs.Views.{IsAmong}

-- what an event acknowledges is durable, and a decision of this manager
pub acknowledges_own : (base floor : ℕ) (es : List Entry) (old new : Sessions) (store : RecoveryState) (e : SessionEvent) → NumbersAreNew base floor old store.log → base ≤ store.durable → AreTickets base store.log es
    → StepsTo old e new → AnswersTruly store.durable store.log e → AllByRecursion (λ d. IsAmong d (decisions_in base (take store.durable store.log))) (acknowledged_in es e)
acknowledges_own base floor es old new store (Ask ticket answer) k le given steps durable = of_answer answer durable.1
  where
    of_answer : (b : Bool) → (b ≡ true) ↔ (ticket ≤ store.durable)
        → AllByRecursion (λ d. IsAmong d (decisions_in base (take store.durable store.log))) (cond b (commits_with ticket (tickets es)) [])
    of_answer true is = asked_commits_durable base store.log ticket store.durable (tickets es) given (is.0 refl)
    of_answer false is = tt
acknowledges_own base floor es old new store (AnswerPrepare session t global) k le given steps durable =
    let own = k.preparing (record { txn = t; global = global; answered = false }) steps.0 refl in (
      decision_is_own base store.durable store.log (decision.Prepare t global) le
          (none_of_it is_prepare t (take base store.log) (recursion-weaker (λ r. r.txn < floor) (λ r. r.txn ≢ t) (λ r less same. omega arith) (take base store.log) k.old)) durable.0,
      tt,
    )
acknowledges_own base floor es old new store (AnswerResolve session r) k le given steps durable =
    (of_outcome r.outcome (k.resolved r.txn (resolved_among r old.resolving steps.0)) durable.0, tt)
  where
    resolved_among : (r : ResolvedTxn) (rs : List ResolvedTxn) → IsAmong r rs → IsAmong r.txn (map (λ r. r.txn) rs)
    resolved_among r rs h = among_map (λ (r : ResolvedTxn). r.txn) r rs h

    of_outcome : (o : Outcome) → IsUnresolved base store.log r.txn → IsDecidedIn (take store.durable store.log) (decision_asked r.txn o)
        → IsAmong (decision_asked r.txn o) (decisions_in base (take store.durable store.log))
    of_outcome outcome.Commit h is = decision_is_own base store.durable store.log (decision.Commit r.txn) le h.uncommitted is
    of_outcome outcome.Abort h is = decision_is_own base store.durable store.log (decision.RollBack r.txn) le h.not_rolled is
acknowledges_own base floor es old new store _ k le given steps durable = tt
