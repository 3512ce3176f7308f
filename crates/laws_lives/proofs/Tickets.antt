-- Each ticket that a manager has given is the number of its Commit record, and what is durable up to it has that commit.
use Rattle.std.proofs.Common.{◌≡◌, ◌≤◌, ◌+◌, ◌++◌, ℕ, zero, suc, List, [], ◌∷◌, true, false, cond, map, Some, None, Result, Ok, refl, sym, ap, subst, ◌∙◌, take, length, arith, append-nil, append_assoc, length-append}
use Rattle.std.proofs.Math.Seq.{take-length}
use Rattle.std.specs.Prelude.{◌==◌, filter}
use Rattle.std.specs.List.{AllByRecursion, cons_option}
use Rattle.std.proofs.lemmas.Bool.{eqb-true}
use Rattle.std.proofs.lemmas.List.Elements.{filter_map-append}
use Rattle.shore_types.specs.declared.faults.Fault.{Fault}
use Rattle.shore_model.specs.declared.calls.Answer.{Answer}
use Rattle.shore_model.specs.declared.calls.Answer.TheVariants.{Committed}
use Rattle.shore_model.specs.declared.histories.Decision.TheVariants as decision
use Rattle.shore_model.specs.declared.histories.Entry.{Entry}
use Rattle.shore_model.specs.declared.histories.Entry.TheVariants.{Decided}
use Rattle.shore_model.specs.declared.log_records.LogRecord.{LogRecord}
use Rattle.shore_model.specs.declared.log_records.Payload.TheVariants.{Commit}
use Rattle.shore_model.specs.declared.sessions.SessionState.{SessionState}
use Rattle.shore_model.specs.Histories.{commits_with, free, ticket_for, ticket_in, tickets}
use Rattle.shore_model.specs.Logs.{previous_of}
use Rattle.laws_lives.proofs.Acknowledged.{still_decided}
use Rattle.laws_lives.proofs.Lists.{recursion-push, recursion-weaker}
use Rattle.laws_lives.proofs.LogGrows.{event_grows}
use Rattle.laws_lives.proofs.LogPrefixes.{decisions_more}
use Rattle.laws_lives.proofs.SessionsAgree.{LeavesSession, reply_leaves}
use Rattle.laws_lives.proofs.Steps.{last_among}
use Rattle.laws_lives.specs.LogPrefixes.{decisions_in}
use Rattle.laws_lives.specs.Logged.{and_record, log_after}
use Rattle.laws_lives.specs.ManagerSteps.{TellsTicket}
use Rattle.laws_lives.specs.SessionSteps.{AnswerAbort, AnswerInDoubt, AnswerPrepare, AnswerResolve, AppendCommit, AppendPrepare, AppendResolve, AppendRollback, Ask, BeginTxn, Doom, EndRollback, GiveReply, MoveLocks, PutBack, RefuseCall, SessionEvent, StepsTo, entries_by}
use Rattle.laws_lives.specs.Sessions.{Sessions, in_txn}
use Rattle.laws_lives.specs.Tickets.{AreTickets, IsTicket}
use Rattle.laws_lives.specs.Views.{IsAmong}

-- ---- a longer log, and more entries

pub still_ticket : (base : ℕ) (log more : List LogRecord) (n t : ℕ) → IsTicket base log n t → IsTicket base (log ++ more) n t
still_ticket base log more n t h = record {
  before = h.before;
  previous = h.previous;
  after = h.after ++ more;
  there = ap (λ rs. rs ++ more) h.there ∙ append_assoc h.before (record { txn = t; previous = h.previous; payload = Commit } ∷ h.after) more;
  number = h.number;
  gained = h.gained;
}

pub still_tickets : (base : ℕ) (log more : List LogRecord) (es : List Entry) → AreTickets base log es → AreTickets base (log ++ more) es
still_tickets base log more es h =
    recursion-weaker (λ p. IsTicket base log p.0 p.1) (λ p. IsTicket base (log ++ more) p.0 p.1) (λ p. still_ticket base log more p.0 p.1) (tickets es) h

zero_not_one : zero ≡ suc zero → ⊥
zero_not_one e = cc

no_seat : free ≡ in_txn 1 → ⊥
no_seat e = zero_not_one (ap (λ (p : SessionState). p.txn) e)

pub no_ticket : (t : ℕ) (reply : Result Answer Fault) → LeavesSession reply → ticket_for t reply ≡ None
no_ticket t (Ok (Committed n)) leaves = absurd (no_seat (leaves.stays (in_txn 1)))
no_ticket t _ leaves = refl

module _ (base : ℕ) (log : List LogRecord) (es : List Entry) (h : AreTickets base log es) where
  pub none_more : (e : Entry) → ticket_in e ≡ None → AreTickets base log (es ++ e ∷ [])
  none_more e none =
      subst (AllByRecursion (λ p. IsTicket base log p.0 p.1))
      (sym (filter_map-append ticket_in es (e ∷ []) ∙ ap (λ o. tickets es ++ cons_option o []) none ∙ append-nil (tickets es))) h

  pub one_more : (e : Entry) (n t : ℕ) → ticket_in e ≡ Some (n, t) → IsTicket base log n t → AreTickets base log (es ++ e ∷ [])
  one_more e n t some is =
      subst (AllByRecursion (λ p. IsTicket base log p.0 p.1)) (sym (filter_map-append ticket_in es (e ∷ []) ∙ ap (λ o. tickets es ++ cons_option o []) some))
      (recursion-push (λ p. IsTicket base log p.0 p.1) (tickets es) (n, t) h is)

  no_entry : AreTickets base log (es ++ [])
  no_entry = subst (AreTickets base log) (sym (append-nil es)) h

-- a commit's ticket is the number of the record that it appends
pub event_tickets : (base durable : ℕ) (log : List LogRecord) (es : List Entry) (old new : Sessions) (e : SessionEvent) → base ≤ length log → StepsTo old e new → TellsTicket durable log e
    → AreTickets base log es → AreTickets base (log_after log old e) (es ++ entries_by old e)
event_tickets base durable log es old new e long steps answers h =
    let g = event_grows log old e in
    of_event e steps answers (subst (λ log. AreTickets base log es) (sym g.1) (still_tickets base log g.0 es h))
  where
    of_event : (e : SessionEvent) → StepsTo old e new → TellsTicket durable log e → AreTickets base (log_after log old e) es
        → AreTickets base (log_after log old e) (es ++ entries_by old e)
    of_event (MoveLocks held) m a k = no_entry base _ es k
    of_event (BeginTxn session) m a k = none_more base _ es k _ refl
    of_event (GiveReply b c reply) m a k = none_more base _ es k _ (no_ticket b.txn reply (reply_leaves old.slots old.held b.txn old.records _ c reply m.1 m.2))
    of_event (AppendCommit b n) m a k =
        let d : Entry = Decided (decision.Commit b.txn) in
        let mid = none_more base _ es k d refl in
        subst (AreTickets base (and_record b.txn log Commit)) (append_assoc es (d ∷ []) _)
        (one_more base _ (es ++ d ∷ []) mid _ n b.txn refl
        (record { before = log; previous = previous_of b.txn log; after = []; there = refl; number = a; gained = long }))
    of_event (PutBack b kept e r) m a k = no_entry base _ es k
    of_event (Doom b) m a k = no_entry base _ es k
    of_event (AnswerAbort b) m a k = none_more base _ es k _ refl
    of_event (Ask n b) m a k = none_more base _ es k _ refl
    of_event (RefuseCall session t c fault) m a k = none_more base _ es k _ refl
    of_event (AppendPrepare b global granules) m a k = none_more base _ es k _ refl
    of_event (AnswerPrepare session t global) m a k = none_more base _ es k _ refl
    of_event (AppendResolve b global) m a k = none_more base _ es k _ refl
    of_event (AppendRollback b global) m a k = none_more base _ es k _ refl
    of_event (EndRollback b) m a k = no_entry base _ es k
    of_event (AnswerResolve session r) m a k = none_more base _ es k _ refl
    of_event (AnswerInDoubt session t pairs) m a k = none_more base _ es k _ refl

-- ---- what is durable

-- the records up to a ticket have its commit, and so have more
pub ticket_decided : (base : ℕ) (log : List LogRecord) (n t durable : ℕ) → IsTicket base log n t → n ≤ durable → IsAmong (decision.Commit t) (decisions_in base (take durable log))
ticket_decided base log n t durable h within =
    let r : LogRecord = record { txn = t; previous = h.previous; payload = Commit } in
    let front : List LogRecord = h.before ++ r ∷ [] in
    let all : take (length front) front ≡ front = take-length front in
    let number = h.number in
    let long : length front ≡ length h.before + 1 = length-append h.before (r ∷ []) in
    let here : IsAmong (decision.Commit t) (decisions_in base front) =
    subst (IsAmong (decision.Commit t)) (sym (decisions_more base h.before r h.gained (decision.Commit t) refl)) (last_among (decision.Commit t) (decisions_in base h.before)) in
    subst (λ rs. IsAmong (decision.Commit t) (decisions_in base (take durable rs))) (append_assoc h.before (r ∷ []) h.after ∙ sym h.there)
    (still_decided base (length front) durable front h.after (decision.Commit t) (omega arith) (omega arith) (subst (λ rs. IsAmong (decision.Commit t) (decisions_in base rs)) (sym all) here))

-- all commits that have the ticket are durable, if its number is
pub asked_commits_durable : (base : ℕ) (log : List LogRecord) (n durable : ℕ) (ts : List (ℕ × ℕ)) → AllByRecursion (λ p. IsTicket base log p.0 p.1) ts → n ≤ durable
    → AllByRecursion (λ d. IsAmong d (decisions_in base (take durable log))) (commits_with n ts)
asked_commits_durable base log n durable [] h within = tt
asked_commits_durable base log n durable (p ∷ ts) h within =
    (elim (p.0 == n) as (λ b. (p.0 == n) ≡ b
    → AllByRecursion (λ d. IsAmong d (decisions_in base (take durable log))) (map (λ p. decision.Commit p.1) (cond b (p ∷ filter (λ p. p.0 == n) ts) (filter (λ p. p.0 == n) ts)))) [
      | true ↦ λ e. (ticket_decided base log p.0 p.1 durable h.0 (subst (λ m. m ≤ durable) (sym (eqb-true p.0 n e)) within), asked_commits_durable base log n durable ts h.1 within)
      | false ↦ λ e. asked_commits_durable base log n durable ts h.1 within
    ]) refl
