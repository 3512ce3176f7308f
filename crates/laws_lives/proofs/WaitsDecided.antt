-- Whoever waits for the answer of a prepare or of a resolve has its decision in the log.
use Rattle.std.proofs.Common.{◌≡◌, inl, inr, ⊎_elim, ◌++◌, ℕ, List, [], ◌∷◌, false, Some, refl, sym, ap, subst, ◌∙◌, map}
use Rattle.std.specs.Prelude.{◌==◌, not}
use Rattle.std.specs.List.{cons_option, filter_map}
use Rattle.std.proofs.lemmas.Bool.{true≢false}
use Rattle.std.proofs.lemmas.List.Elements.{filter_map-append}
use Rattle.shore_model.specs.declared.histories.Decision.{Decision}
use Rattle.shore_model.specs.declared.histories.Decision.TheVariants as decision
use Rattle.shore_model.specs.declared.histories.Entry.{Entry}
use Rattle.shore_model.specs.declared.histories.InDoubt.{InDoubt}
use Rattle.shore_model.specs.declared.histories.Opening.{Opening}
use Rattle.shore_model.specs.declared.log_records.LogRecord.{LogRecord}
use Rattle.shore_model.specs.declared.log_records.Payload.{Payload}
use Rattle.shore_model.specs.declared.log_records.Payload.TheVariants.{Commit, Prepare, RollbackDecided}
use Rattle.shore_model.specs.Logs.{previous_of}
use Rattle.laws_lives.proofs.Acknowledged.{among_kept, still_preparing}
use Rattle.laws_lives.proofs.DoubtRecords.{among_filter}
use Rattle.laws_lives.proofs.Lists.{among_append, among_left}
use Rattle.laws_lives.proofs.LogGrows.{GrowsTo, event_grows}
use Rattle.laws_lives.proofs.Steps.{last_among}
use Rattle.laws_lives.specs.LogPrefixes.{IsDecidedIn, decision_by, decision_in}
use Rattle.laws_lives.specs.Logged.{and_record, log_after}
use Rattle.laws_lives.specs.ManagerSteps.{decision_resolved}
use Rattle.laws_lives.specs.SessionSteps.{AnswerAbort, AnswerInDoubt, AnswerPrepare, AnswerResolve, AppendCommit, AppendPrepare, AppendResolve, AppendRollback, Ask, BeginTxn, Doom, EndRollback, GiveReply, MoveLocks, PutBack, RefuseCall, SessionEvent, StepsTo, entries_by}
use Rattle.laws_lives.specs.Sessions.{PreparedTxn, ResolvedTxn, Sessions, without_resolved}
use Rattle.laws_lives.specs.Soundness.{found_in_doubt}
use Rattle.laws_lives.specs.Views.{IsAmong}
use Rattle.laws_lives.specs.WholeLogs.{IsOpenOn, RunsWithLog}

pub record HaveDecisions (log : List LogRecord) (s : Sessions) : Type 0 where
  pub prepares : (p : PreparedTxn) → IsAmong p s.prepared → p.answered ≡ false → IsDecidedIn log (decision.Prepare p.txn p.global)
  pub resolves : (r : ResolvedTxn) → IsAmong r s.resolving → IsDecidedIn log (decision_resolved r)

still_in : (d : Decision) (log all : List LogRecord) → GrowsTo log all → IsDecidedIn log d → IsDecidedIn all d
still_in d log all g h =
    subst (λ rs. IsDecidedIn rs d) (sym g.1)
    (subst (IsAmong d) (sym (filter_map-append decision_in log g.0)) (among_left d (filter_map decision_in log) (filter_map decision_in g.0) h))

now_in : (t : ℕ) (log : List LogRecord) (p : Payload) (d : Decision) → decision_by t p ≡ Some d → IsDecidedIn (and_record t log p) d
now_in t log p d is =
    let r : LogRecord = record { txn = t; previous = previous_of t log; payload = p } in
    subst (IsAmong d) (sym (filter_map-append decision_in log (r ∷ []) ∙ ap (λ o. filter_map decision_in log ++ cons_option o []) is)) (last_among d (filter_map decision_in log))

resolved_kept : (t : ℕ) (r : ResolvedTxn) (rs : List ResolvedTxn) → IsAmong r (without_resolved t rs) → IsAmong r rs
resolved_kept t r rs h = (among_filter (λ r. not (t == r.txn)) r rs h).0

module _ (log : List LogRecord) (old : Sessions) (h : HaveDecisions log old) where
  as_before : (new : Sessions) (e : SessionEvent)
      → ((p : PreparedTxn) → IsAmong p new.prepared → p.answered ≡ false → IsAmong p old.prepared) → ((r : ResolvedTxn) → IsAmong r new.resolving → IsAmong r old.resolving)
      → HaveDecisions (log_after log old e) new
  as_before new e prepared resolving =
      let g = event_grows log old e in
      record {
        prepares = λ p m u. still_in _ log (log_after log old e) g (h.prepares p (prepared p m u) u);
        resolves = λ r m. still_in _ log (log_after log old e) g (h.resolves r (resolving r m));
      }

  pub still_have : (new : Sessions) (e : SessionEvent) → StepsTo old e new → HaveDecisions (log_after log old e) new
  still_have new (MoveLocks held) m = subst (HaveDecisions _) (sym m.3) (as_before _ (MoveLocks held) (λ p b u. b) (λ r b. b))
  still_have new (BeginTxn session) m = subst (HaveDecisions _) (sym m.1) (as_before _ (BeginTxn session) (λ p b u. b) (λ r b. b))
  still_have new (GiveReply b c reply) m = subst (HaveDecisions _) (sym m.4) (as_before _ (GiveReply b c reply) (λ p b u. b) (λ r b. b))
  still_have new (AppendCommit b ticket) m = subst (HaveDecisions _) (sym m.2) (as_before _ (AppendCommit b ticket) (λ p b u. b) (λ r b. b))
  still_have new (PutBack b kept e r) m = subst (HaveDecisions _) (sym m.4) (as_before _ (PutBack b kept e r) (λ p b u. b) (λ r b. b))
  still_have new (Doom b) m = subst (HaveDecisions _) (sym m.1) (as_before _ (Doom b) (λ p b u. b) (λ r b. b))
  still_have new (AnswerAbort b) m = subst (HaveDecisions _) (sym m.1) (as_before _ (AnswerAbort b) (λ p b u. b) (λ r b. b))
  still_have new (Ask ticket durable) m = subst (HaveDecisions _) (sym m) (as_before _ (Ask ticket durable) (λ p b u. b) (λ r b. b))
  still_have new (RefuseCall session t c fault) m = subst (HaveDecisions _) (sym m.2) (as_before _ (RefuseCall session t c fault) (λ p b u. b) (λ r b. b))
  still_have new (AppendPrepare b global granules) m =
      let e : SessionEvent = AppendPrepare b global granules in
      let g = event_grows log old e in
      subst (HaveDecisions _) (sym m.4) (record {
        prepares = λ p at u. ⊎_elim
            (λ before. still_in _ log (log_after log old e) g (h.prepares p before u))
            (λ now. ⊎_elim
            (λ same. subst (λ (p : PreparedTxn). IsDecidedIn (log_after log old e) (decision.Prepare p.txn p.global)) same (now_in b.txn log (Prepare global granules) (decision.Prepare b.txn global) refl))
            (λ no. absurd no) now)
            (among_append p old.prepared (record { txn = b.txn; global = global; answered = false } ∷ []) at);
        resolves = λ r at. still_in _ log (log_after log old e) g (h.resolves r at);
      })
  still_have new (AnswerPrepare session t global) m =
      subst (HaveDecisions _) (sym m.2) (as_before _ (AnswerPrepare session t global) (λ p at u. still_preparing t p old.prepared at u) (λ r b. b))
  still_have new (AppendResolve b global) m =
      let e : SessionEvent = AppendResolve b global in
      let g = event_grows log old e in
      subst (HaveDecisions _) (sym m.3) (record {
        prepares = λ p at u. still_in _ log (log_after log old e) g (h.prepares p (among_kept b.txn p old.prepared at) u);
        resolves = λ r at. ⊎_elim
            (λ same. subst (λ (r : ResolvedTxn). IsDecidedIn (log_after log old e) (decision_resolved r)) same (now_in b.txn log Commit (decision.Commit b.txn) refl))
            (λ later. still_in _ log (log_after log old e) g (h.resolves r later)) at;
      })
  still_have new (AppendRollback b global) m =
      let e : SessionEvent = AppendRollback b global in
      let g = event_grows log old e in
      subst (HaveDecisions _) (sym m.2) (record {
        prepares = λ p at u. still_in _ log (log_after log old e) g (h.prepares p (among_kept b.txn p old.prepared at) u);
        resolves = λ r at. ⊎_elim
            (λ same. subst (λ (r : ResolvedTxn). IsDecidedIn (log_after log old e) (decision_resolved r)) same (now_in b.txn log RollbackDecided (decision.RollBack b.txn) refl))
            (λ later. still_in _ log (log_after log old e) g (h.resolves r later)) at;
      })
  still_have new (EndRollback b) m = subst (HaveDecisions _) (sym m.2) (as_before _ (EndRollback b) (λ p b u. b) (λ r b. b))
  still_have new (AnswerResolve session r) m =
      subst (HaveDecisions _) (sym m.2) (as_before _ (AnswerResolve session r) (λ p b u. b) (λ q at. resolved_kept r.txn q old.resolving at))
  still_have new (AnswerInDoubt session t pairs) m = subst (HaveDecisions _) (sym m.2) (as_before _ (AnswerInDoubt session t pairs) (λ p b u. b) (λ r b. b))

-- at an open nobody waits
open_has_decisions : (o : Opening) (log : List LogRecord) (s : Sessions) → IsOpenOn o log s → HaveDecisions log s
open_has_decisions o log s h = record {
  prepares = λ p at u. absurd (answered p o.in_doubt (subst (IsAmong p) h.prepared at) u);
  resolves = λ r at. absurd (subst (IsAmong r) h.resolving at);
}
  where
    answered : (p : PreparedTxn) (ds : List InDoubt) → IsAmong p (map found_in_doubt ds) → p.answered ≡ false → ⊥
    answered p [] h u = h
    answered p (d ∷ ds) (inl e) u = true≢false (ap (λ (p : PreparedTxn). p.answered) e ∙ u)
    answered p (d ∷ ds) (inr later) u = answered p ds later u

all_have : (s : Sessions) (log : List LogRecord) (events : List SessionEvent) (es : List Entry) (last : Sessions) (all : List LogRecord) (made : List Entry) → HaveDecisions log s
    → RunsWithLog s log events es last all made → HaveDecisions all last
all_have s log [] es last all made h runs = subst (λ s. HaveDecisions all s) (sym runs.0) (subst (λ log. HaveDecisions log s) (sym runs.1) h)
all_have s log (e ∷ events) es last all made h runs =
    all_have runs.0 (log_after log s e) events (es ++ entries_by s e) last all made (still_have log s h runs.0 e runs.1) runs.2

pub run_has_decisions : (o : Opening) (found all : List LogRecord) (first last : Sessions) (events : List SessionEvent) (made : List Entry) → IsOpenOn o found first
    → RunsWithLog first found events [] last all made → HaveDecisions all last
run_has_decisions o found all first last events made opened runs = all_have first found events [] last all made (open_has_decisions o found first opened) runs
