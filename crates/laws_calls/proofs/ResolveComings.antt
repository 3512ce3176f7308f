-- A resolve comes by the events of its stages, and its answer by one.
use Rattle.std.proofs.Common.{◌≡◌, inl, inr, ◌++◌, ◌∷◌, ℕ, List, [], Ok, refl, sym, ap, subst, ◌∙◌, append-nil, arith, length, map, take}
use Rattle.std.specs.List.{AllByRecursion}
use Rattle.shore_types.specs.declared.faults.Fault.{Fault}
use Rattle.shore_types.specs.declared.ids.Rid.{Rid}
use Rattle.shore_types.specs.declared.layout.Geometry.{Geometry}
use Rattle.shore_types.specs.Images.{Image}
use Rattle.shore_model.specs.declared.calls.Answer.{Answer}
use Rattle.shore_model.specs.declared.calls.Answer.TheVariants.{Resolved}
use Rattle.shore_model.specs.declared.calls.Call.TheVariants as call
use Rattle.shore_model.specs.declared.calls.Outcome.{Outcome}
use Rattle.shore_model.specs.declared.calls.Outcome.TheVariants as outcome
use Rattle.shore_model.specs.declared.histories.Decision.TheVariants as decision
use Rattle.shore_model.specs.declared.histories.Entry.{Entry}
use Rattle.shore_model.specs.declared.histories.Entry.TheVariants.{Decided, Exchanged}
use Rattle.shore_model.specs.declared.histories.Opening.{Opening}
use Rattle.shore_model.specs.declared.log_records.LogRecord.{LogRecord}
use Rattle.shore_model.specs.declared.log_records.Payload.TheVariants as payload
use Rattle.shore_model.specs.declared.rollbacks.Rollback.TheVariants.{Whole}
use Rattle.shore_model.specs.declared.step.Step.{Step}
use Rattle.shore_model.specs.declared.step.Step.TheVariants.{Done, Nothing, Refused, Waits}
use Rattle.shore_model.specs.declared.step.Wait.{Wait}
use Rattle.shore_model.specs.Requests.{held_by_all}
use Rattle.shore_locks.specs.Grants.{released}
use Rattle.laws_locks.proofs.Held.{released_moves}
use Rattle.laws_lives.proofs.Members.{txn_without}
use Rattle.laws_lives.specs.Logged.{and_compensations, and_record}
use Rattle.laws_lives.specs.SessionSteps.{AnswerResolve, AppendResolve, AppendRollback, EndRollback, MoveLocks, SessionEvent, exchange, PutBack}
use Rattle.laws_lives.specs.Sessions.{SessionTxn, without_txn, without_locks}
use Rattle.laws_lives.specs.UndoLists.{undo_rolled, rolled_back, UndoList}
use Rattle.laws_calls.proofs.Comings.{is_decided, like_itself}
use Rattle.laws_calls.proofs.Links.{ComesBy, Goes, GoesBy, IsDurable, IsLike, left_like, locks_go, none_to_answer, TellsNoTicket, no_tickets, quiet_tickets}
use Rattle.laws_calls.proofs.ResolveLinks.{end_goes, resolve_goes, rollback_goes, told_goes, with_commit_resolved, with_end}
use Rattle.laws_calls.proofs.ResolveEnds.{no_seat, rolled_logged, rolled_resolved}
use Rattle.laws_calls.proofs.ResolveStates.{not_resolved, whole}
use Rattle.laws_calls.proofs.ResolveStays.{answer_made, made_by, answered_left, commit_made, durable_place, has_decided, its_place, made_before, refused_made, waits_made}
use Rattle.laws_calls.proofs.RollbackLinks.{all_put_backs, put_backs, put_backs_go}
use Rattle.laws_calls.proofs.StoppedRollbacks.{stopped_passes}
use Rattle.laws_calls.proofs.Unwinding.{its_list, list_gone, with_list}
use Rattle.laws_calls.specs.Events.{IsStateAfter}
use Rattle.laws_calls.specs.LockedStates.{entries_of_call}
use Rattle.laws_calls.specs.Resolves.{AbortsResolve, CommitsResolve, DecidesRollback, IsRollingBack, MayResolve, ResolvesTo, resolve_told, resolved_by_rollback, rollback_decided, rollback_done, rollback_number}
use Rattle.laws_calls.specs.CallSteps.{with_requests}
use Rattle.laws_calls.specs.Rollbacks.{put_back}
use Rattle.laws_calls.specs.States.{DoesNotWait, State}
use Rattle.laws_calls.proofs.Elements.{in_longer}
use Rattle.shore_model.specs.declared.rollbacks.Rollback.{Rollback}

-- ---- a rollback ends

abbrev unlocking_of : State → SessionTxn → SessionEvent
unlocking_of s a = MoveLocks (held_by_all (released a.txn s.locks.requests))

-- the events of it: each image is put back, the newest first, and then the locks go behind the End
abbrev ending_by : State → SessionTxn → List (Rid × Image) → List SessionEvent → List SessionEvent
ending_by s a [] later = EndRollback a ∷ unlocking_of s a ∷ later
ending_by s a (e ∷ others) later = put_backs a [] e others Whole (EndRollback (with_list a (undo_rolled a.undo [] Whole)) ∷ unlocking_of s a ∷ later)

abbrev ending_events : State → SessionTxn → List SessionEvent → List SessionEvent
ending_events s a later = ending_by s a a.undo.images later

module _ (g : Geometry) (o : Opening) (found : List LogRecord) (es : List Entry) (s : State) (k : IsStateAfter o found es s) (a : SessionTxn) (global : List ℕ) (rolls : IsRollingBack s a global) where
  abbrev unlocks : SessionEvent
  unlocks = MoveLocks (held_by_all (released a.txn s.locks.requests))

  abbrev done : State
  done = rollback_done s a

  unlocking : Goes g (with_end s a) unlocks done
  unlocking = locks_go g (with_end s a) (released a.txn s.locks.requests)
      (released_moves (with_end s a).sessions s.locks.requests a.txn (ap (without_locks a.txn) k.sessions.locks.held) k.sessions.locks.orderly k.sessions.locks.rooted k.sessions.locks.below
      (λ among. (txn_without a.txn a.txn s.sessions.active among).1 refl))

  -- behind the End the locks go, and then these
  then_unlocks : (start : State) (b : SessionTxn) (later : List SessionEvent) (new : State) (made : List Entry) → with_end start b ≡ with_end s a → Goes g start (EndRollback b) (with_end start b)
      → GoesBy g done later new made → GoesBy g start (EndRollback b ∷ unlocks ∷ later) new made
  then_unlocks start b later new made same goes rest = (with_end s a, made, subst (Goes g start (EndRollback b)) same goes, (done, made, unlocking, rest, refl), refl)

  ends_by : (xs : List (Rid × Image)) → a.undo.images ≡ xs → (later : List SessionEvent) (new : State) (made : List Entry) → GoesBy g done later new made → GoesBy g s (ending_by s a xs later) new made
  ends_by [] none later new made rest =
      then_unlocks s a later new made refl
      (end_goes g s a none (rolls.0, (rolled_logged o found es s k a global rolls).1) (rolled_resolved o found es s k a global rolls) k.sessions.single) rest
  ends_by (e ∷ others) images later new made rest =
      let undo = undo_rolled a.undo [] Whole in
      let its = with_list a undo in
      let unwound = put_back s a [] (e ∷ others) Whole in
      let ended : List (Rid × Image) → List SessionTxn → State = λ xs active. record s {
        sessions = record s.sessions { records = rolled_back s.sessions.records xs; active = active; held = without_locks a.txn s.sessions.held };
        log = and_record a.txn (and_compensations a.txn s.log xs) payload.End;
      } in
      let same : with_end unwound its ≡ with_end s a =
      ap (ended (e ∷ others)) (list_gone a.txn undo s.sessions.active) ∙ ap (λ xs. ended xs (without_txn a.txn s.sessions.active)) (sym images) in
      put_backs_go g s a rolls.0 (rolled_logged o found es s k a global rolls).1 (k.sessions.log.undo_logged a rolls.0) Whole tt [] e others images (omega arith)
      (EndRollback its ∷ unlocks ∷ later) new made
      (then_unlocks unwound its later new made same
      (end_goes g unwound its refl (its_list a undo s.sessions.active rolls.0, (rolled_logged o found es s k a global rolls).1) (rolled_resolved o found es s k a global rolls) k.sessions.single) rest)

  pub ending_goes : (later : List SessionEvent) (new : State) (made : List Entry) → GoesBy g done later new made → GoesBy g s (ending_events s a later) new made
  ending_goes later new made rest = ends_by a.undo.images refl later new made rest

  -- what holds of such events, and of those behind them, holds of all
  ending_all : (P : SessionEvent → Type 0) → ((undo : UndoList) (kept : List (Rid × Image)) (e : Rid × Image) (r : Rollback) → P (PutBack (with_list a undo) kept e r)) → ((b : SessionTxn) → P (EndRollback b))
      → P unlocks → (later : List SessionEvent) → AllByRecursion P later → AllByRecursion P (ending_events s a later)
  ending_all P backs ends moves later all = by a.undo.images
    where
      by : (xs : List (Rid × Image)) → AllByRecursion P (ending_by s a xs later)
      by [] = (ends a, (moves, all))
      by (e ∷ others) = all_put_backs P a backs [] e others Whole (EndRollback (with_list a (undo_rolled a.undo [] Whole)) ∷ unlocks ∷ later) (ends _, (moves, all))

  -- none of them but those behind it answers a decision
  pub ending_durable : (at : State) (later : List SessionEvent) → AllByRecursion (IsDurable at) later → AllByRecursion (IsDurable at) (ending_events s a later)
  ending_durable at later all = ending_all (IsDurable at) (λ undo kept e r. tt) (λ b. tt) tt later all

  -- .. or tells of a ticket
  pub ending_tells_none : (later : List SessionEvent) → AllByRecursion TellsNoTicket later → AllByRecursion TellsNoTicket (ending_events s a later)
  ending_tells_none later all = ending_all TellsNoTicket (λ undo kept e r. tt) (λ b. tt) tt later all

-- ---- a resolve

module _ (g : Geometry) (o : Opening) (found : List LogRecord) (es : List Entry) (s : State) (k : IsStateAfter o found es s) (session : ℕ) (global : List ℕ) (may : MayResolve s session global)
    (idle : DoesNotWait s session) where
  commit_comes : (wait : Wait) (new : State) → CommitsResolve s session global (Waits wait) new → ComesBy g s new (entries_of_call s session (call.Resolve global outcome.Commit) (Waits wait) new)
  commit_comes wait new h =
      let a = h.0 in
      let appended = with_commit_resolved s a global in
      let mid = with_requests appended (released a.txn s.locks.requests) in
      subst (ComesBy g s new) (commit_made g o found es s k session global may idle wait new h) (record {
        start = s;
        before = like_itself s;
        events = AppendResolve a global ∷ MoveLocks (held_by_all (released a.txn s.locks.requests)) ∷ [];
        durable = (tt, (tt, tt));
        tickets = (tt, (tt, tt));
        mid = mid;
        goes = (
          appended,
          [],
          resolve_goes g s a global h.1 (whole o found es s k a global h.1) (not_resolved o found es s k a global h.1),
          (
            mid,
            [],
            locks_go g appended (released a.txn s.locks.requests)
                (released_moves appended.sessions s.locks.requests a.txn (ap (without_locks a.txn) k.sessions.locks.held) k.sessions.locks.orderly k.sessions.locks.rooted k.sessions.locks.below
                (λ among. (txn_without a.txn a.txn s.sessions.active among).1 refl)),
            (refl, refl),
            refl,
          ),
          refl,
        );
        after = subst (IsLike mid) (sym h.3) (record { sessions = refl; log = refl; counts = refl; stream = refl });
      })

  -- the decision to roll back comes first, if it is made now
  abbrev deciding : (b : SessionTxn) (d : State) → DecidesRollback s global b d → List SessionEvent → List SessionEvent
  deciding b d (inl h) later = AppendRollback h.0 global ∷ later
  deciding b d (inr h) later = later

  decided_goes : (b : SessionTxn) (d : State) (by : DecidesRollback s global b d) (later : List SessionEvent) (new : State) (made : List Entry) → GoesBy g d later new made
      → GoesBy g s (deciding b d by later) new (map Decided (made_by s global b d by) ++ made)
  decided_goes b d (inl h) later new made rest = (rollback_decided s h.0 global, made, rollback_goes g s h.0 global h.1, subst (λ (x : State). GoesBy g x later new made) h.3 rest, refl)
  decided_goes b d (inr h) later new made rest = subst (λ (x : State). GoesBy g x later new made) h.1 rest

  deciding_durable : (b : SessionTxn) (d : State) (by : DecidesRollback s global b d) (later : List SessionEvent) → AllByRecursion (IsDurable s) later → AllByRecursion (IsDurable s) (deciding b d by later)
  deciding_durable b d (inl h) later all = (tt, all)
  deciding_durable b d (inr h) later all = all

  deciding_tells_none : (b : SessionTxn) (d : State) (by : DecidesRollback s global b d) (later : List SessionEvent) → AllByRecursion TellsNoTicket later → AllByRecursion TellsNoTicket (deciding b d by later)
  deciding_tells_none b d (inl h) later all = (tt, all)
  deciding_tells_none b d (inr h) later all = all

  waits_comes : (wait : Wait) (new : State) → AbortsResolve s session global (Waits wait) new → ComesBy g s new (entries_of_call s session (call.Resolve global outcome.Abort) (Waits wait) new)
  waits_comes wait new h =
      let d = has_decided g o found es s k session global h.0 h.1 h.2 in
      let mid = rollback_done h.1 h.0 in
      subst (ComesBy g s new) (append-nil (map Decided (made_by s global h.0 h.1 h.2)) ∙ waits_made g o found es s k session global may idle wait new h) (record {
        start = s;
        before = like_itself s;
        events = deciding h.0 h.1 h.2 (ending_events h.1 h.0 []);
        durable = deciding_durable h.0 h.1 h.2 (ending_events h.1 h.0 []) (ending_durable g o found (es ++ map Decided (made_by s global h.0 h.1 h.2)) h.1 d.stays h.0 global d.rolls s [] tt);
        tickets = no_tickets s.durable s.log (deciding h.0 h.1 h.2 (ending_events h.1 h.0 [])) (deciding_tells_none h.0 h.1 h.2 (ending_events h.1 h.0 [])
            (ending_tells_none g o found (es ++ map Decided (made_by s global h.0 h.1 h.2)) h.1 d.stays h.0 global d.rolls [] tt));
        mid = mid;
        goes = decided_goes h.0 h.1 h.2 (ending_events h.1 h.0 []) mid [] (ending_goes g o found (es ++ map Decided (made_by s global h.0 h.1 h.2)) h.1 d.stays h.0 global d.rolls [] mid [] (refl, refl));
        after = subst (IsLike mid) (sym h.3.2) (record { sessions = refl; log = refl; counts = refl; stream = refl });
      })

  refused_comes : (f : Fault) (new : State) → AbortsResolve s session global (Refused f) new → ComesBy g s new (entries_of_call s session (call.Resolve global outcome.Abort) (Refused f) new)
  refused_comes f new h =
      let d = has_decided g o found es s k session global h.0 h.1 h.2 in
      let stops = stopped_passes g o found (es ++ map Decided (made_by s global h.0 h.1 h.2)) h.1 d.stays h.0 d.rolls.0 (rolled_logged o found (es ++ map Decided (made_by s global h.0 h.1 h.2)) h.1 d.stays h.0 global d.rolls).1
      (no_seat o found (es ++ map Decided (made_by s global h.0 h.1 h.2)) h.1 d.stays h.0 global d.rolls) session (call.Resolve global outcome.Abort) f new h.3 in
      subst (ComesBy g s new) (refused_made g o found es s k session global may idle f new h) (record {
        start = s;
        before = like_itself s;
        events = deciding h.0 h.1 h.2 stops.events;
        durable = deciding_durable h.0 h.1 h.2 stops.events (none_to_answer s h.1 stops.events stops.quiet);
        tickets = no_tickets s.durable s.log (deciding h.0 h.1 h.2 stops.events) (deciding_tells_none h.0 h.1 h.2 stops.events (quiet_tickets h.1 stops.events stops.quiet));
        mid = stops.mid;
        goes = decided_goes h.0 h.1 h.2 stops.events stops.mid _ stops.goes;
        after = left_like session stops.mid new stops.left;
      })

  answer_comes : (answer : Answer) (new : State) → AbortsResolve s session global (Done answer) new → ComesBy g s new (entries_of_call s session (call.Resolve global outcome.Abort) (Done answer) new)
  answer_comes answer new h =
      let b = h.0 in
      let rolls = (made_before g o found es s k session global may idle answer new h).0 in
      let n = its_place g o found es s k session global may idle answer new h in
      let r = resolved_by_rollback b global in
      let ended = rollback_done s b in
      let mid = resolve_told ended session r in
      subst (ComesBy g s new) (answer_made g o found es s k session global may idle answer new h) (record {
        start = s;
        before = like_itself s;
        events = ending_events s b (AnswerResolve session r ∷ []);
        durable = ending_durable g o found es s k b global rolls s (AnswerResolve session r ∷ []) (
          is_decided (length found) (decision.RollBack b.txn) (take s.durable s.log)
              (in_longer (length found) (rollback_number b.txn s.log) s.durable s.log (decision.RollBack b.txn) (durable_place g o found es s k session global may idle answer new h) n.decided),
          tt,
        );
        tickets = no_tickets s.durable s.log (ending_events s b (AnswerResolve session r ∷ [])) (ending_tells_none g o found es s k b global rolls (AnswerResolve session r ∷ []) (tt, tt));
        mid = mid;
        goes = ending_goes g o found es s k b global rolls (AnswerResolve session r ∷ []) mid (Exchanged session b.txn (exchange (call.Resolve global outcome.Abort) (Ok Resolved)) ∷ [])
            (mid, [], told_goes g ended session r (rolls.1, λ among. (txn_without b.txn b.txn s.sessions.active among).1 refl), (refl, refl), refl);
        after = subst (IsLike mid) (sym (answered_left g o found es s k session global may idle answer new h)) (record { sessions = refl; log = refl; counts = refl; stream = refl });
      })

  pub resolve_comes : (asked : Outcome) (step : Step) (new : State) → ResolvesTo s session global asked step new → ComesBy g s new (entries_of_call s session (call.Resolve global asked) step new)
  resolve_comes outcome.Commit (Waits wait) new h = commit_comes wait new h
  resolve_comes outcome.Commit (Done answer) new h = absurd h
  resolve_comes outcome.Commit (Refused f) new h = absurd h
  resolve_comes outcome.Commit Nothing new h = absurd h
  resolve_comes outcome.Abort Nothing new h = absurd h.3
  resolve_comes outcome.Abort (Waits wait) new h = waits_comes wait new h
  resolve_comes outcome.Abort (Done answer) new h = answer_comes answer new h
  resolve_comes outcome.Abort (Refused f) new h = refused_comes f new h
