-- Each event of a manager as events of its sessions, and what these keep.
use Rattle.std.proofs.Common.{◌≡◌, inl, inr, ⊎_elim, ◌++◌, ◌∷◌, ℕ, List, [], Ok, drop, refl, sym, ap, subst, ◌∙◌, arith, length, take, take-append-drop}
use Rattle.std.specs.Prelude.{Contains, Option, get_or}
use Rattle.std.specs.List.{AllByRecursion, filter_map}
use Rattle.shore_types.specs.Images.{Image}
use Rattle.shore_types.specs.declared.ids.Rid.{Rid}
use Rattle.std.proofs.lemmas.List.Elements.{Contains-append_cases, filter_map-append}
use Rattle.shore_types.specs.declared.layout.Geometry.{Geometry}
use Rattle.shore_model.specs.declared.calls.Call.{Call}
use Rattle.shore_model.specs.declared.calls.Call.TheVariants as call
use Rattle.shore_model.specs.declared.calls.Answer.TheVariants.{Aborted, Prepared, Resolved}
use Rattle.shore_model.specs.declared.histories.Decision.{Decision}
use Rattle.shore_model.specs.declared.histories.Decision.TheVariants as decision
use Rattle.shore_model.specs.declared.histories.Entry.{Entry}
use Rattle.shore_model.specs.declared.histories.Opening.{Opening}
use Rattle.shore_model.specs.declared.histories.Entry.TheVariants.{Exchanged}
use Rattle.shore_model.specs.declared.log_records.LogRecord.{LogRecord}
use Rattle.shore_model.specs.Records.{Records}
use Rattle.shore_model.specs.Requests.{held_by_all}
use Rattle.shore_locks.specs.Grants.{released}
use Rattle.laws_locks.proofs.Held.{released_moves}
use Rattle.laws_lives.proofs.Members.{txn_without}
use Rattle.laws_lives.specs.LogPrefixes.{decisions_in, IsDecidedIn, decision_in, decision_asked}
use Rattle.shore_model.specs.declared.rollbacks.Rollback.TheVariants.{Whole}
use Rattle.laws_lives.specs.LogTells.{AreLogged}
use Rattle.laws_lives.specs.Logged.{and_compensations, and_rollback}
use Rattle.laws_lives.specs.SessionSteps.{AnswerAbort, AppendCommit, MoveLocks, SessionEvent, StepsTo, entries_by, exchange, AnswerPrepare, AppendPrepare, AnswerResolve}
use Rattle.laws_lives.specs.Sessions.{SessionTxn, Sessions, with_undo, without_txn, seated, without_locks}
use Rattle.laws_lives.specs.UndoLists.{rolled_back, undo_rolled}
use Rattle.laws_lives.specs.Views.{IsAmong}
use Rattle.shore_model.specs.declared.step.Step.{Step}
use Rattle.laws_calls.proofs.Links.{ComesBy, Goes, GoesBy, IsDurable, IsLike, commit_goes, locks_go, quietly_comes, with_commit, with_prepare_told, prepare_told_goes, TellsNoTicket, no_tickets}
use Rattle.laws_calls.proofs.RefusalTells.{same_entry}
use Rattle.laws_calls.proofs.RollbackLinks.{abort_goes, all_put_backs, put_backs, with_abort}
use Rattle.laws_calls.proofs.RollingCalls.{backs_go, ends_under_way}
use Rattle.laws_calls.proofs.RollingPassages.{Aborts}
use Rattle.laws_calls.proofs.Unwinding.{its_list, list_gone, rollback_ends, with_list}
use Rattle.laws_calls.proofs.SessionStates.{its_wait, no_wait, waits_whole, prepare_is_durable}
use Rattle.laws_calls.proofs.Sessions.{AreSessionsAfter, event_keeps, its_txn, above_none, commit_seats, own_of}
use Rattle.laws_calls.proofs.StepPassages.{CallPasses, Commits, ResumePasses, resume_passes, IsPrepareTold, Prepares}
use Rattle.laws_calls.specs.CallHistories.{txn_of}
use Rattle.laws_calls.specs.Events.{IsStateAfter, entries_of_resume, entries_of_waiting}
use Rattle.laws_calls.specs.StateChanges.{wait_refused}
use Rattle.laws_calls.specs.CallSteps.{ResumesCall, ResumeStep, aborted, with_requests}
use Rattle.laws_calls.specs.Rollbacks.{put_back}
use Rattle.laws_calls.specs.LockedStates.{entries_of_resumed}
use Rattle.laws_calls.specs.States.{HasSeat, State, Waiting, next_number}
use Rattle.shore_model.specs.declared.sessions.SessionState.{SessionState}
use Rattle.laws_calls.specs.Prepares.{granules_in_ex}
use Rattle.laws_calls.proofs.PrepareSteps.{with_prepare, prepare_goes}
use Rattle.laws_calls.proofs.Told.{entries_told}
use Rattle.laws_calls.proofs.SessionResumes.{IsResolveTold}
use Rattle.laws_calls.specs.Resolves.{resolve_told}
use Rattle.laws_calls.proofs.UnderGlobal.{under_one, used_resolved}
use Rattle.laws_calls.proofs.ResolveEnds.{its_decision}
use Rattle.laws_calls.proofs.ResolveLinks.{told_goes}
use Rattle.laws_lives.specs.ManagerSteps.{decision_resolved}
use Rattle.shore_model.specs.declared.calls.Outcome.{Outcome}
use Rattle.shore_model.specs.declared.calls.Outcome.TheVariants as outcome

-- ---- decisions of a log

one_contained : {A : Type 0} (y x : A) → Contains (y ∷ []) x → y ≡ x
one_contained y x h =
    let zero_at : h.0 ≡ 0 = omega arith in
    ap (λ k. get_or (y ∷ []) k x) (sym zero_at) ∙ h.2

contained_among : {A : Type 0} (x : A) (xs : List A) → Contains xs x → IsAmong x xs
contained_among x [] h = absurd (omega arith)
contained_among x (y ∷ xs) h =
    ⊎_elim (λ one. inl (one_contained y x one)) (λ later. inr (contained_among x xs later)) (Contains-append_cases (y ∷ []) xs x h)

among_behind : {A : Type 0} (x : A) (xs ys : List A) → IsAmong x ys → IsAmong x (xs ++ ys)
among_behind x [] ys h = h
among_behind x (y ∷ xs) ys h = inr (among_behind x xs ys h)

-- a decision that a log has behind some records is one that it has
pub is_decided : (base : ℕ) (d : Decision) (log : List LogRecord) → Contains (decisions_in base log) d → IsDecidedIn log d
is_decided base d log h =
    let behind = contained_among d (decisions_in base log) h in
    let both = filter_map-append decision_in (take base log) (drop base log) in
    subst (λ rs. IsDecidedIn rs d) (take-append-drop base log)
    (subst (IsAmong d) (sym both) (among_behind d (filter_map decision_in (take base log)) (filter_map decision_in (drop base log)) behind))

-- what a resolve has decided is what it asks for
resolved_is_asked : (t : ℕ) (global : List ℕ) (x : Outcome) → decision_resolved (record { txn = t; global = global; outcome = x }) ≡ decision_asked t x
resolved_is_asked t global outcome.Commit = refl
resolved_is_asked t global outcome.Abort = refl

-- ---- any event

pub like_itself : (s : State) → IsLike s s
like_itself s = record { sessions = refl; log = refl; counts = refl; stream = refl }

-- nothing happens to the sessions
pub nothing_comes : (g : Geometry) (s new : State) → IsLike s new → ComesBy g s new []
nothing_comes g s new like = record { start = s; before = like_itself s; events = []; durable = tt; tickets = tt; mid = s; goes = (refl, refl); after = like }

module _ (g : Geometry) (o : Opening) (found : List LogRecord) (es : List Entry) (s : State) (k : IsStateAfter o found es s) where
  commit_comes : (session : ℕ) (new : State) (made : List Entry) → Commits s session new made → ComesBy g s new made
  commit_comes session new made h =
      let a = h.txn in
      let n = next_number s in
      let own = own_of k.sessions a h.of.0 in
      let appended = with_commit g s a in
      let mid = with_requests appended (released a.txn s.locks.requests) in
      subst (ComesBy g s new) (sym h.entries) (record {
        start = s;
        before = like_itself s;
        events = AppendCommit a n ∷ MoveLocks (held_by_all (released a.txn s.locks.requests)) ∷ [];
        durable = (tt, (tt, tt));
        tickets = (omega arith, (tt, tt));
        mid = mid;
        goes = (
          appended,
          [],
          commit_goes g s a own h.whole (commit_seats k.sessions.agree k.sessions.seats a n own.2.0),
          (
            mid,
            [],
            locks_go g appended (released a.txn s.locks.requests)
                (released_moves appended.sessions s.locks.requests a.txn (ap (without_locks a.txn) k.sessions.locks.held) k.sessions.locks.orderly k.sessions.locks.rooted k.sessions.locks.below
                (λ among. (txn_without a.txn a.txn s.sessions.active among).1 refl)),
            (refl, refl),
            refl,
          ),
          refl,
        );
        after = subst (IsLike mid) (sym h.is) (record { sessions = refl; log = refl; counts = refl; stream = refl });
      })

  prepare_call_comes : (session : ℕ) (new : State) (made : List Entry) → Prepares s session new made → ComesBy g s new made
  prepare_call_comes session new made h =
      let a = h.txn in
      let mid = with_prepare g o found es s k.sessions a h.of.0 h.whole h.global h.unused in
      subst (ComesBy g s new) (sym h.entries) (record {
        start = s;
        before = like_itself s;
        events = AppendPrepare a h.global (granules_in_ex s a) ∷ [];
        durable = (tt, tt);
        tickets = (tt, tt);
        mid = mid;
        goes = (mid, [], prepare_goes g o found es s k.sessions a h.of.0 h.whole h.global h.unused h.may, (refl, refl), refl);
        after = subst (IsLike mid) (sym h.is) (record { sessions = refl; log = refl; counts = refl; stream = refl });
      })

  -- ---- an abort is answered: its images are put back, the newest first, and then its locks go

  module _ (session : ℕ) (a : SessionTxn) (of : a.session ≡ session) (mem : HasSeat s.sessions a) where
    -- the states before and behind the locks, and the events between
    abbrev unlocked : State
    unlocked = with_requests (with_abort s a) (released a.txn s.locks.requests)

    abbrev unlocks_all : SessionEvent
    unlocks_all = MoveLocks (held_by_all (released a.txn s.locks.requests))

    unlocking : StepsTo (with_abort s a).sessions unlocks_all unlocked.sessions
    unlocking =
        released_moves (with_abort s a).sessions s.locks.requests a.txn (ap (without_locks a.txn) k.sessions.locks.held) k.sessions.locks.orderly k.sessions.locks.rooted k.sessions.locks.below
        (ends_under_way g o found es session a of s k.sessions mem)

    abbrev left_by : Records → List SessionTxn → List LogRecord → State
    left_by R xs log = record s {
      sessions = record (seated s.sessions (entries_by s.sessions (AnswerAbort a)) s.sessions) { records = R; active = xs; held = without_locks a.txn s.sessions.held };
      log = log;
    }

    abbrev abort_entry : Entry
    abort_entry = Exchanged a.session a.txn (exchange call.Abort (Ok Aborted))

    -- behind the abort its locks go
    then_unlocks : (start : State) (b : SessionTxn) → b.session ≡ a.session → b.txn ≡ a.txn → with_abort start b ≡ with_abort s a → Goes g start (AnswerAbort b) (with_abort start b)
        → GoesBy g start (AnswerAbort b ∷ unlocks_all ∷ []) unlocked (abort_entry ∷ [])
    then_unlocks start b session_is txn_is same goes = (
      with_abort s a,
      [],
      subst (Goes g start (AnswerAbort b)) same goes,
      (unlocked, [], locks_go g (with_abort s a) (released a.txn s.locks.requests) unlocking, (refl, refl), refl),
      ap (λ n. Exchanged n a.txn (exchange call.Abort (Ok Aborted)) ∷ []) (sym session_is) ∙ ap (λ t. Exchanged b.session t (exchange call.Abort (Ok Aborted)) ∷ []) (sym txn_is),
    )

    aborting : (events : List SessionEvent) → AllByRecursion (IsDurable s) events → AllByRecursion TellsNoTicket events → GoesBy g s events unlocked (abort_entry ∷ []) → ComesBy g s (aborted s a) (abort_entry ∷ [])
    aborting events durable none goes = record {
      start = s;
      before = like_itself s;
      events = events;
      durable = durable;
      tickets = no_tickets s.durable s.log events none;
      mid = unlocked;
      goes = goes;
      after = record { sessions = refl; log = refl; counts = refl; stream = refl };
    }

    -- nothing is to be put back
    aborts_at_once : a.undo.images ≡ [] → ComesBy g s (aborted s a) (abort_entry ∷ [])
    aborts_at_once none = aborting (AnswerAbort a ∷ unlocks_all ∷ []) (tt, (tt, tt)) (tt, (tt, tt)) (then_unlocks s a refl refl refl (abort_goes g s a (own_of k.sessions a mem) none))

    aborts_in_steps : (e : Rid × Image) (others : List (Rid × Image)) → a.undo.images ≡ e ∷ others → ComesBy g s (aborted s a) (abort_entry ∷ [])
    aborts_in_steps e others images =
        let undo = undo_rolled a.undo [] Whole in
        let its = with_list a undo in
        let unwound = put_back s a [] (e ∷ others) Whole in
        let logged : AreLogged s.log a.txn (e ∷ others) = subst (AreLogged s.log a.txn) images (k.sessions.log.undo_logged a mem.0) in
        let log : and_rollback a.txn (and_compensations a.txn s.log (e ∷ others)) [] ≡ and_rollback a.txn s.log a.undo.images =
        rollback_ends a.txn (above_none k.sessions a mem.0) s.log e others logged ∙ ap (and_rollback a.txn s.log) (sym images) in
        let same : with_abort unwound its ≡ with_abort s a =
        ap (λ (x : List LogRecord). left_by (rolled_back s.sessions.records (e ∷ others)) (without_txn a.txn (with_undo a.txn undo s.sessions.active)) x) log
        ∙ ap (λ (x : List SessionTxn). left_by (rolled_back s.sessions.records (e ∷ others)) x (and_rollback a.txn s.log a.undo.images)) (list_gone a.txn undo s.sessions.active)
        ∙ ap (λ (x : List (Rid × Image)). left_by (rolled_back s.sessions.records x) (without_txn a.txn s.sessions.active) (and_rollback a.txn s.log a.undo.images)) (sym images) in
        aborting (put_backs a [] e others Whole (AnswerAbort its ∷ unlocks_all ∷ []))
        (all_put_backs (IsDurable s) a (λ undo kept e r. tt) [] e others Whole (AnswerAbort its ∷ unlocks_all ∷ []) (tt, (tt, tt)))
        (all_put_backs TellsNoTicket a (λ undo kept e r. tt) [] e others Whole (AnswerAbort its ∷ unlocks_all ∷ []) (tt, (tt, tt)))
        (backs_go g o found es session a of s k.sessions mem Whole tt [] e others images (omega arith) (AnswerAbort its ∷ unlocks_all ∷ []) unlocked (abort_entry ∷ [])
        (then_unlocks unwound its refl refl same (abort_goes g unwound its (let own = own_of k.sessions a mem in (its_list a undo s.sessions.active own.0, own.1, own.2)) refl)))

    abort_leads : (xs : List (Rid × Image)) → a.undo.images ≡ xs → ComesBy g s (aborted s a) (abort_entry ∷ [])
    abort_leads [] none = aborts_at_once none
    abort_leads (e ∷ others) images = aborts_in_steps e others images

  abort_comes : (session : ℕ) (new : State) (made : List Entry) → Aborts s session new made → ComesBy g s new made
  abort_comes session new made h =
      let a = h.txn in
      let entry = same_entry a.session session a.txn (txn_of s.sessions session) (exchange call.Abort (Ok Aborted)) h.of.1 (sym (its_txn s.sessions a session h.of.0.1 h.of.1)) in
      subst (λ (x : State). ComesBy g s x made) (sym h.is)
      (subst (ComesBy g s (aborted s a)) (ap (λ (e : Entry). e ∷ []) entry ∙ sym h.entries) (abort_leads session a h.of.1 h.of.0 a.undo.images refl))

  -- a call that is no resolve, or one that is refused before it decides
  pub passed_comes : (session : ℕ) (c : Call) (step : Step) (new : State) → CallPasses g s session new (entries_told s session c step) → ComesBy g s new (entries_told s session c step)
  passed_comes session c step new (inl quiet) = quietly_comes g session s s new (entries_told s session c step) (like_itself s) quiet
  passed_comes session c step new (inr (inl commit)) = commit_comes session new (entries_told s session c step) commit
  passed_comes session c step new (inr (inr (inl abort))) = abort_comes session new (entries_told s session c step) abort
  passed_comes session c step new (inr (inr (inr prep))) = prepare_call_comes session new (entries_told s session c step) prep

  prepare_comes : (w : Waiting) → IsAmong w s.waiting → (new : State) (made : List Entry) → IsPrepareTold s w.session w.wait w.call new made → ComesBy g s new made
  prepare_comes w m new made h =
      let number : txn_of s.sessions w.session ≡ h.txn = ap (λ (p : SessionState). p.txn) h.preparing.1 in
      let told = with_prepare_told s w.session h.txn h.global in
      subst (ComesBy g s new) (ap (λ t. Exchanged w.session t (exchange (call.Prepare h.global) (Ok Prepared)) ∷ []) (sym number) ∙ sym h.entries) (record {
        start = s;
        before = like_itself s;
        events = AnswerPrepare w.session h.txn h.global ∷ [];
        durable = (
          is_decided (length found) (decision.Prepare h.txn h.global) (take s.durable s.log)
              (prepare_is_durable o found es s k w m h.number h.waits h.durable h.txn h.global h.preparing h.asks),
          tt,
        );
        tickets = (tt, tt);
        mid = told;
        goes = (told, [], prepare_told_goes g s w.session h.txn h.global h.preparing, (refl, refl), refl);
        after = subst (IsLike told) (sym h.is) (record { sessions = refl; log = refl; counts = refl; stream = refl });
      })

  resolve_told_comes : (w : Waiting) → IsAmong w s.waiting → (new : State) (made : List Entry) → IsResolveTold s w.session w.wait w.call new made → ComesBy g s new made
  resolve_told_comes w m new made h =
      let r = h.resolved in
      let told = resolve_told s w.session r in
      subst (ComesBy g s new)
      (ap (λ t. Exchanged w.session t (exchange (call.Resolve r.global r.outcome) (Ok Resolved)) ∷ []) (sym (under_one o es s.sessions k.sessions.agree r.txn r.global (used_resolved s.sessions r h.ended.0)))
      ∙ sym h.entries)
      (record {
        start = s;
        before = like_itself s;
        events = AnswerResolve w.session r ∷ [];
        durable = (
          is_decided (length found) (decision_resolved r) (take s.durable s.log)
              (its_decision o found es s k w m h.number h.waits h.durable r h.ended h.asks (decision_resolved r) (resolved_is_asked r.txn r.global r.outcome)),
          tt,
        );
        tickets = (tt, tt);
        mid = told;
        goes = (told, [], told_goes g s w.session r h.ended, (refl, refl), refl);
        after = subst (IsLike told) (sym h.is) (record { sessions = refl; log = refl; counts = refl; stream = refl });
      })

  session_resumed_comes : (w : Waiting) → IsAmong w s.waiting → (step : Step) (new : State) → ResumesCall g s w step new → ComesBy g s new (entries_of_resumed s w step)
  session_resumed_comes w m step new h = by (resume_passes g o found es s k.sessions w (waits_whole o found es s k w m) step new h)
    where
      by : ResumePasses g s w.session w.wait w.call new (entries_of_resumed s w step) → ComesBy g s new (entries_of_resumed s w step)
      by (inl same) = subst (ComesBy g s new) (sym same.1) (nothing_comes g s new (subst (IsLike s) (sym same.0) (like_itself s)))
      by (inr (inl on)) =
          quietly_comes g w.session s (wait_refused s w.session) new (entries_of_resumed s w step) (record { sessions = refl; log = refl; counts = refl; stream = refl }) on.on
      by (inr (inr (inl told))) = prepare_comes w m new (entries_of_resumed s w step) told
      by (inr (inr (inr told))) = resolve_told_comes w m new (entries_of_resumed s w step) told

  pub session_resume_comes : (session : ℕ) (step : Step) (new : State) → ResumeStep g s session step new → ComesBy g s new (entries_of_resume s session step)
  session_resume_comes session step new (inl h) =
      subst (λ (x : Option Waiting). ComesBy g s new (entries_of_waiting s x step)) (sym (no_wait session s.waiting h.0))
      (nothing_comes g s new (subst (IsLike s) (sym h.2) (like_itself s)))
  session_resume_comes session step new (inr h) =
      subst (λ (x : Option Waiting). ComesBy g s new (entries_of_waiting s x step)) (sym (its_wait session s.waiting h.0 k.waits.once h.1 h.2))
      (session_resumed_comes h.0 h.1 step new h.3)

-- ---- what events of the sessions keep

-- what holds of the sessions and the log
pub goes_keeps : (base : ℕ) (o : Opening) (es : List Entry) (g : Geometry) (s new : State) (e : SessionEvent) → AreSessionsAfter base o es s.sessions s.log → Goes g s e new
    → AreSessionsAfter base o (es ++ entries_by s.sessions e) new.sessions new.log
goes_keeps base o es g s new e k h =
    subst (AreSessionsAfter base o (es ++ entries_by s.sessions e) new.sessions) (sym h.log) (event_keeps base o es s.sessions new.sessions e s.log k h.moves)

pub like_keeps : (base : ℕ) (o : Opening) (es : List Entry) (s t : State) → IsLike s t → AreSessionsAfter base o es s.sessions s.log → AreSessionsAfter base o es t.sessions t.log
like_keeps base o es s t h k =
    subst (AreSessionsAfter base o es t.sessions) (sym h.log) (subst (λ (x : Sessions). AreSessionsAfter base o es x s.log) (sym h.sessions) k)
