-- What is forced stays so with each step, and what is acknowledged is among it.
use Rattle.std.proofs.Common.{◌≡◌, inl, inr, ◌++◌, ◌∷◌, ℕ, List, [], Ok, Err, refl, sym, ap, subst, ◌∙◌, ◌+◌, append-nil, append_assoc, arith, length, length-append, take, ◌≤◌, Bool, true, false}
use Rattle.std.specs.Prelude.{Contains, ◌↔◌, All}
use Rattle.std.specs.List.{AllByRecursion, cons_option}
use Rattle.std.proofs.lemmas.List.Elements.{All-weaker, All-from_recursion, All-nil}
use Rattle.shore_types.specs.declared.layout.Geometry.{Geometry}
use Rattle.shore_model.specs.declared.calls.Answer.TheVariants.{Aborted, Began, Committed, AreInDoubt, Prepared}
use Rattle.shore_model.specs.declared.calls.Call.TheVariants as call
use Rattle.shore_model.specs.declared.histories.Decision.TheVariants as decision
use Rattle.shore_model.specs.declared.histories.Entry.{Entry}
use Rattle.shore_model.specs.declared.histories.Entry.TheVariants.{Decided, Exchanged, Asked}
use Rattle.shore_model.specs.Histories.{acknowledged, commits_with, tickets, acknowledged_by}
use Rattle.laws_lives.specs.LogPrefixes.{decisions_in}
use Rattle.laws_lives.specs.SessionSteps.{AnswerAbort, Ask, AppendCommit, BeginTxn, Doom, GiveReply, MoveLocks, PutBack, RefuseCall, SessionEvent, entries_by, exchange, AnswerInDoubt, AnswerPrepare, AnswerResolve, AppendPrepare, AppendResolve, AppendRollback, EndRollback}
use Rattle.laws_lives.specs.Sessions.{SessionTxn, in_prepared}
use Rattle.laws_calls.proofs.Acknowledged.{acknowledges_one, inner_asks_none, acknowledges_all, acknowledges_none}
use Rattle.laws_calls.proofs.Growing.{forced_grown, still_there, tickets_grown}
use Rattle.laws_calls.proofs.Links.{Goes, GoesBy, GoesQuietly, IsLeft, IsQuiet}
use Rattle.laws_calls.proofs.LeftWaits.{goes_on_log}
use Rattle.laws_calls.specs.CallHistories.{IsForced, IsPrefix, txn_of}
use Rattle.laws_calls.specs.StateChanges.{committed}
use Rattle.laws_calls.specs.CallSteps.{aborted, prepare_ended}
use Rattle.laws_calls.specs.States.{State, next_number}
use Rattle.shore_model.specs.declared.sessions.SessionState.{SessionState}
use Rattle.laws_lives.proofs.Tickets.{no_ticket, one_more, none_more, asked_commits_durable}
use Rattle.laws_lives.proofs.SessionsAgree.{reply_leaves}
use Rattle.laws_lives.proofs.Lists.{recursion-weaker, among_contained}
use Rattle.shore_model.specs.Logs.{previous_of}
use Rattle.laws_lives.specs.Views.{IsAmong}

-- no entry more
pub forced_on : (base : ℕ) (es : List Entry) (s new : State) → new.durable ≡ s.durable → IsPrefix s.log new.log → IsForced base es s → IsForced base es new
forced_on base es s new same on k =
    let longer : length new.log ≡ length s.log + length on.0 = ap length on.1 ∙ length-append s.log on.0 in
    let least = k.least in
    let most = k.most in
    record {
      least = omega (arith, least, same);
      most = omega (arith, most, same, longer);
      acknowledged_kept =
          All-weaker (Contains (decisions_in base (take s.durable s.log))) (Contains (decisions_in base (take new.durable new.log)))
          (λ d h. subst (λ n. Contains (decisions_in base (take n new.log)) d) (sym same) (still_there base s.durable s.log new.log d on k.most h).1) (acknowledged es) k.acknowledged_kept;
      tickets = tickets_grown base es s new on k.tickets;
    }

-- events that end no transaction acknowledge nothing
event_forced : (g : Geometry) (base : ℕ) (es : List Entry) (start s new : State) (e : SessionEvent) → IsQuiet start e → Goes g s e new → IsForced base es s
    → IsForced base (es ++ entries_by s.sessions e) new
event_forced g base es start s new (MoveLocks held) quiet h k =
    subst (λ (made : List Entry). IsForced base made new) (sym (append-nil es)) (forced_on base es s new h.durable (goes_on_log g s new (MoveLocks held) h) k)
event_forced g base es start s new (BeginTxn session) quiet h k =
    forced_grown base es (Exchanged session s.sessions.next_txn (exchange call.Begin (Ok (Began s.sessions.next_txn)))) s new h.durable (goes_on_log g s new (BeginTxn session) h) refl refl k
event_forced g base es start s new (GiveReply a c (Ok answer)) quiet h k =
    forced_grown base es (Exchanged a.session a.txn (exchange c (Ok answer))) s new h.durable (goes_on_log g s new (GiveReply a c (Ok answer)) h)
    (ap (λ d. cons_option d []) (inner_asks_none a.txn c h.moves.1)) (no_ticket a.txn (Ok answer) (reply_leaves s.sessions.slots s.sessions.held a.txn s.sessions.records _ c (Ok answer) h.moves.1 h.moves.2)) k
event_forced g base es start s new (GiveReply a c (Err f)) quiet h k =
    forced_grown base es (Exchanged a.session a.txn (exchange c (Err f))) s new h.durable (goes_on_log g s new (GiveReply a c (Err f)) h) refl refl k
event_forced g base es start s new (RefuseCall session t c f) quiet h k =
    forced_grown base es (Exchanged session t (exchange c (Err f))) s new h.durable (goes_on_log g s new (RefuseCall session t c f) h) refl refl k
event_forced g base es start s new (Doom a) quiet h k = absurd quiet
event_forced g base es start s new (PutBack a kept e r) quiet h k =
    subst (λ (made : List Entry). IsForced base made new) (sym (append-nil es)) (forced_on base es s new h.durable (goes_on_log g s new (PutBack a kept e r) h) k)
event_forced g base es start s new (AppendCommit a ticket) quiet h k = absurd quiet
event_forced g base es start s new (AnswerAbort a) quiet h k = absurd quiet
event_forced g base es start s new (Ask ticket answer) quiet h k = absurd quiet
event_forced g base es start s new (AppendPrepare a global granules) quiet h k = absurd quiet
event_forced g base es start s new (AnswerPrepare session t global) quiet h k = absurd quiet
event_forced g base es start s new (AppendResolve a global) quiet h k = absurd quiet
event_forced g base es start s new (AppendRollback a global) quiet h k = absurd quiet
event_forced g base es start s new (EndRollback a) quiet h k = absurd quiet
event_forced g base es start s new (AnswerResolve session r) quiet h k = absurd quiet
event_forced g base es start s new (AnswerInDoubt session t pairs) quiet h k =
    forced_grown base es (Exchanged session t (exchange call.InDoubt (Ok (AreInDoubt pairs)))) s new h.durable (goes_on_log g s new (AnswerInDoubt session t pairs) h) refl refl k

by_forced : (g : Geometry) (base : ℕ) (es : List Entry) (start s : State) (events : List SessionEvent) (new : State) (made : List Entry) → AllByRecursion (IsQuiet start) events → GoesBy g s events new made
    → IsForced base es s → IsForced base (es ++ made) new
by_forced g base es start s [] new made quiet h k =
    subst (IsForced base (es ++ made)) (sym h.0) (subst (λ (xs : List Entry). IsForced base xs s) (sym (append-nil es) ∙ ap (λ xs. es ++ xs) (sym h.1)) k)
by_forced g base es start s (e ∷ events) new made quiet h k =
    subst (λ (xs : List Entry). IsForced base xs new) (append_assoc es (entries_by s.sessions e) h.1 ∙ ap (λ xs. es ++ xs) (sym h.4))
    (by_forced g base (es ++ entries_by s.sessions e) start h.0 events new h.1 quiet.1 h.3 (event_forced g base es start s h.0 e quiet.0 h.2 k))

left_forced : (base session : ℕ) (es : List Entry) (s new : State) → IsLeft session s new → IsForced base es s → IsForced base es new
left_forced base session es s new (inl same) k = subst (IsForced base es) (sym same) k
left_forced base session es s new (inr (inl failed)) k =
    subst (IsForced base es) (sym failed) (record { least = k.least; most = k.most; acknowledged_kept = k.acknowledged_kept; tickets = k.tickets })
left_forced base session es s new (inr (inr waits)) k =
    subst (IsForced base es) (sym waits.is) (record { least = k.least; most = k.most; acknowledged_kept = k.acknowledged_kept; tickets = k.tickets })

pub quietly_forced : (g : Geometry) (session base : ℕ) (es : List Entry) (s new : State) (made : List Entry) → GoesQuietly g session s new made → IsForced base es s → IsForced base (es ++ made) new
quietly_forced g session base es s new made h k = left_forced base session (es ++ made) h.mid new h.left (by_forced g base es s s h.events h.mid made h.quiet h.goes k)

module _ (base : ℕ) (es : List Entry) (s : State) (k : IsForced base es s) where
  -- a commit is answered, and gives the number of its record
  pub commit_forced : (a : SessionTxn) → IsForced base (es ++ Decided (decision.Commit a.txn) ∷ Exchanged a.session a.txn (exchange call.Commit (Ok (Committed (next_number s)))) ∷ []) (committed s a)
  commit_forced a =
      let d : Entry = Decided (decision.Commit a.txn) in
      let x : Entry = Exchanged a.session a.txn (exchange call.Commit (Ok (Committed (next_number s)))) in
      let decided = forced_grown base es d s (committed s a) refl (_ ∷ [], refl) refl refl k in
      let least = k.least in
      let most = k.most in
      subst (λ made. IsForced base made (committed s a)) (append_assoc es (d ∷ []) (x ∷ [])) (record {
        least = decided.least;
        most = decided.most;
        acknowledged_kept = acknowledges_none (Contains (decisions_in base (take s.durable (committed s a).log))) (es ++ d ∷ []) decided.acknowledged_kept x refl;
        tickets = one_more base (committed s a).log (es ++ d ∷ []) decided.tickets x (next_number s) a.txn refl
            (record { before = s.log; previous = previous_of a.txn s.log; after = []; there = refl; number = omega arith; gained = omega (arith, least, most) });
      })

  pub abort_forced : (a : SessionTxn) (session t : ℕ) → IsPrefix s.log (aborted s a).log → IsForced base (es ++ Exchanged session t (exchange call.Abort (Ok Aborted)) ∷ []) (aborted s a)
  abort_forced a session t on = forced_grown base es (Exchanged session t (exchange call.Abort (Ok Aborted))) s (aborted s a) refl on refl refl k

  -- a prepare is answered whose record is durable
  pub prepare_forced : (session t : ℕ) (global : List ℕ) → s.sessions.seats session ≡ in_prepared t → Contains (decisions_in base (take s.durable s.log)) (decision.Prepare t global)
      → IsForced base (es ++ Exchanged session (txn_of s.sessions session) (exchange (call.Prepare global) (Ok Prepared)) ∷ []) (prepare_ended s session t global)
  prepare_forced session t global seat durable =
      let number : txn_of s.sessions session ≡ t = ap (λ (p : SessionState). p.txn) seat in
      record {
        least = k.least;
        most = k.most;
        acknowledged_kept =
            acknowledges_one (Contains (decisions_in base (take s.durable s.log))) es k.acknowledged_kept (Exchanged session (txn_of s.sessions session) (exchange (call.Prepare global) (Ok Prepared)))
            (decision.Prepare (txn_of s.sessions session) global) refl (subst (λ u. Contains (decisions_in base (take s.durable s.log)) (decision.Prepare u global)) (sym number) durable);
        tickets = none_more base s.log es k.tickets (Exchanged session (txn_of s.sessions session) (exchange (call.Prepare global) (Ok Prepared))) refl;
      }

  -- a ticket is asked for, and is durable or not
  pub ask_forced : (ticket : ℕ) (answer : Bool) → ((answer ≡ true) ↔ (ticket ≤ s.durable)) → IsForced base (es ++ Asked ticket answer ∷ []) s
  ask_forced ticket answer truly = record {
    least = k.least;
    most = k.most;
    acknowledged_kept = acknowledges_all (Contains (decisions_in base (take s.durable s.log))) es k.acknowledged_kept (Asked ticket answer) (its_commits answer (λ yes. truly.0 yes));
    tickets = none_more base s.log es k.tickets (Asked ticket answer) refl;
  }
    where
      its_commits : (b : Bool) → (b ≡ true → ticket ≤ s.durable) → All (Contains (decisions_in base (take s.durable s.log))) (acknowledged_by es (Asked ticket b))
      its_commits false within = All-nil (Contains (decisions_in base (take s.durable s.log)))
      its_commits true within = All-from_recursion (Contains (decisions_in base (take s.durable s.log))) (commits_with ticket (tickets es))
          (recursion-weaker (λ d. IsAmong d (decisions_in base (take s.durable s.log))) (Contains (decisions_in base (take s.durable s.log)))
          (λ d m. among_contained d (decisions_in base (take s.durable s.log)) m) (commits_with ticket (tickets es))
          (asked_commits_durable base s.log ticket s.durable (tickets es) k.tickets (within refl)))
