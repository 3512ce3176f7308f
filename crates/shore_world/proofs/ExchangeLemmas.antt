-- The calls and answers in a manager's history are those of its events.
use Rattle.std.proofs.Common.{◌≡◌, ◌≢◌, ◌⊎◌, inl, inr, ⊎_elim, ℕ, List, [], ◌∷◌, ◌++◌, Bool, true, false, cond, Option, None, Some, Err, length, map, refl, sym, ◌∙◌, ap, subst, append-nil}
use Rattle.std.specs.Prelude.{◌==◌}
use Rattle.std.specs.List.{cons_option}
use Rattle.std.proofs.lemmas.Bool.{eq-eqb, eqb-false, eqb-true, ne_eqb}
use Rattle.shore_types.specs.declared.faults.Fault.{Fault}
use Rattle.shore_types.specs.declared.faults.Fault.TheVariants.{Device}
use Rattle.shore_types.specs.declared.layout.Geometry.{Geometry}
use Rattle.shore_disk.specs.declared.device.Disk.{Ghosts}
use Rattle.shore_model.specs.declared.calls.Answer.{Answer}
use Rattle.shore_model.specs.declared.calls.Answer.TheVariants as answer
use Rattle.shore_model.specs.declared.calls.Call.{Call}
use Rattle.shore_model.specs.declared.calls.Call.TheVariants as call
use Rattle.shore_model.specs.declared.histories.Decision.{Decision}
use Rattle.shore_model.specs.declared.histories.Entry.{Entry}
use Rattle.shore_model.specs.declared.histories.Entry.TheVariants.{Decided, Exchanged}
use Rattle.shore_model.specs.declared.histories.Opening.{Opening}
use Rattle.shore_model.specs.declared.log_records.LogRecord.{LogRecord}
use Rattle.shore_model.specs.declared.step.Step.{Step}
use Rattle.shore_model.specs.declared.step.Step.TheVariants.{Done, Waits, Refused, Nothing}
use Rattle.shore_model.specs.declared.step.Wait.{Wait}
use Rattle.shore_model.specs.declared.step.Wait.TheVariants.{Durable, Lock}
use Rattle.shore_types.specs.declared.locking.Granule.{Granule}
use Rattle.shore_cycles.specs.declared.victims.Victim.{Victim}
use Rattle.laws_lives.specs.LogPrefixes.{decisions_in}
use Rattle.laws_lives.specs.SessionSteps.{exchange}
use Rattle.laws_lives.specs.Views.{IsAmong}
use Rattle.laws_calls.proofs.LockWaits.{MayWait, call_waits_have, event_waits_on, resume_waits_have}
use Rattle.laws_calls.proofs.SettledEnds.{idle_in, settled_call_ends}
use Rattle.laws_calls.specs.CallHistories.{txn_of}
use Rattle.laws_calls.specs.CallSteps.{CallStep, ResumeStep}
use Rattle.laws_calls.specs.Events.{Called, Forced, GaveUp, HasFailed, IsStateAfter, ManagerEvent, Resumed, TicketAsked, EventMoves, call_waiting, entries_of, entries_of_resume, entries_of_waiting}
use Rattle.laws_calls.specs.LockedStates.{decisions_made, entries_of_call, entries_of_resumed}
use Rattle.laws_calls.specs.GivingUp.{GiveUpStep}
use Rattle.laws_calls.specs.Settling.{SettledCall, SettledResume, Settles}
use Rattle.laws_calls.specs.States.{DoesNotWait, State, Waiting}
use Rattle.laws_runs.proofs.Checkpointing.{step_goes}
use Rattle.laws_runs.specs.CheckpointSteps.{CheckpointedMove, CheckpointedMoves, CheckpointedState, Checkpoints, Goes}
use Rattle.laws_runs.specs.CheckpointedStates.{IsAtCheckpoints}
use Rattle.laws_runs.specs.StoredRuns.{Manage, Tend}
use Rattle.shore_world.specs.declared.event.Event.{Event}
use Rattle.shore_world.specs.declared.event.Event.TheVariants as event
use Rattle.shore_world.specs.declared.world.World.{World}
use Rattle.shore_world.proofs.CheckpointLemmas.{moves_state, waits_kept}
use Rattle.shore_world.specs.EventMoves.{OfCheckpoint, OfManager, PlainMove, asked_by, failure_by, forced_by, moves_among, moves_by}
use Rattle.shore_world.specs.Exchanges.{AreLast, OfTicket, Telling, last_waited, telling_in, tellings_in, tellings_of, told_by, told_by_event, told_by_move, told_in, told_of, told_of_ticket, told_of_waiting, waited_after, waited_behind, waited_behind_event, waited_behind_move, waited_in, waits_behind}
use Rattle.shore_world.specs.Worlds.{Between, Runs}

abbrev pub Told : Type 0
Told = List Telling

abbrev pub Waited : Type 0
Waited = List (ℕ × Call)

-- what is told of a run's moves is what is told of its events
failure_tells : (ws : Waited) (f : Fault) (later : List PlainMove) → told_in ws (failure_by f ++ later) ≡ told_in ws later
failure_tells ws Device later = refl
failure_tells ws _ later = refl

forced_tells : (ws : Waited) (a : Answer) (later : List PlainMove) → told_in ws (forced_by a ++ later) ≡ told_in ws later
forced_tells ws (answer.Forced n) later = refl
forced_tells ws _ later = refl

asked_tells : (ws : Waited) (ticket : ℕ) (a : Answer) (later : List PlainMove) → told_in ws (asked_by ticket a ++ later) ≡ told_of_ticket ticket a ++ told_in ws later
asked_tells ws ticket (answer.IsDurable durable) later = refl
asked_tells ws ticket _ later = refl

pub event_tells : (ws : Waited) (e : Event) (step : Step) (later : List PlainMove)
    → told_in ws (moves_by e step ++ later) ≡ told_by ws e step ++ told_in (waited_behind ws e step) later
event_tells ws (event.Call session c) step later = refl
event_tells ws (event.Resume session) step later = refl
event_tells ws (event.GiveUp session) step later = refl
event_tells ws (event.Ask ticket) (Done a) later = asked_tells ws ticket a later
event_tells ws (event.Ask ticket) (Refused f) later = refl
event_tells ws (event.Ask ticket) (Waits wait) later = refl
event_tells ws (event.Ask ticket) Nothing later = refl
event_tells ws event.ForceStage (Done a) later = refl
event_tells ws event.ForceStage (Refused f) later = failure_tells ws f later
event_tells ws event.ForceStage (Waits wait) later = refl
event_tells ws event.ForceStage Nothing later = refl
event_tells ws event.ForceOpen (Done a) later = forced_tells ws a later
event_tells ws event.ForceOpen (Refused f) later = failure_tells ws f later
event_tells ws event.ForceOpen (Waits wait) later = refl
event_tells ws event.ForceOpen Nothing later = refl
event_tells ws event.FlushStep (Done a) later = refl
event_tells ws event.FlushStep (Refused f) later = failure_tells ws f later
event_tells ws event.FlushStep (Waits wait) later = refl
event_tells ws event.FlushStep Nothing later = refl
event_tells ws event.CheckpointStep step later = refl
event_tells ws event.CutTrail step later = refl

-- .. and so it is with the calls that wait
failure_waits : (ws : Waited) (f : Fault) (later : List PlainMove) → waited_in ws (failure_by f ++ later) ≡ waited_in ws later
failure_waits ws Device later = refl
failure_waits ws _ later = refl

forced_waits : (ws : Waited) (a : Answer) (later : List PlainMove) → waited_in ws (forced_by a ++ later) ≡ waited_in ws later
forced_waits ws (answer.Forced n) later = refl
forced_waits ws _ later = refl

asked_waits : (ws : Waited) (ticket : ℕ) (a : Answer) (later : List PlainMove) → waited_in ws (asked_by ticket a ++ later) ≡ waited_in ws later
asked_waits ws ticket (answer.IsDurable durable) later = refl
asked_waits ws ticket _ later = refl

pub event_waits : (ws : Waited) (e : Event) (step : Step) (later : List PlainMove) → waited_in ws (moves_by e step ++ later) ≡ waited_in (waited_behind ws e step) later
event_waits ws (event.Call session c) step later = refl
event_waits ws (event.Resume session) step later = refl
event_waits ws (event.GiveUp session) step later = refl
event_waits ws (event.Ask ticket) (Done a) later = asked_waits ws ticket a later
event_waits ws (event.Ask ticket) (Refused f) later = refl
event_waits ws (event.Ask ticket) (Waits wait) later = refl
event_waits ws (event.Ask ticket) Nothing later = refl
event_waits ws event.ForceStage (Done a) later = refl
event_waits ws event.ForceStage (Refused f) later = failure_waits ws f later
event_waits ws event.ForceStage (Waits wait) later = refl
event_waits ws event.ForceStage Nothing later = refl
event_waits ws event.ForceOpen (Done a) later = forced_waits ws a later
event_waits ws event.ForceOpen (Refused f) later = failure_waits ws f later
event_waits ws event.ForceOpen (Waits wait) later = refl
event_waits ws event.ForceOpen Nothing later = refl
event_waits ws event.FlushStep (Done a) later = refl
event_waits ws event.FlushStep (Refused f) later = failure_waits ws f later
event_waits ws event.FlushStep (Waits wait) later = refl
event_waits ws event.FlushStep Nothing later = refl
event_waits ws event.CheckpointStep step later = refl
event_waits ws event.CutTrail step later = refl

module _ {L V : Type 0} {G : Ghosts L} {H : Ghosts V} where
  between_tells : (old new : World L V G H) (ws : Waited) (failures later : List PlainMove) → Between old failures new → told_in ws (failures ++ later) ≡ told_in ws later
  between_tells old new ws [] later like = refl
  between_tells old new ws (OfManager HasFailed ∷ failures) later (mid, fails, rest) = between_tells mid new ws failures later rest
  between_tells old new ws (OfManager (Called session c step) ∷ failures) later between = absurd between
  between_tells old new ws (OfManager (Resumed session step) ∷ failures) later between = absurd between
  between_tells old new ws (OfManager (GaveUp session step) ∷ failures) later between = absurd between
  between_tells old new ws (OfManager (Forced n) ∷ failures) later between = absurd between
  between_tells old new ws (OfManager (TicketAsked ticket answer) ∷ failures) later between = absurd between
  between_tells old new ws (OfCheckpoint step ∷ failures) later between = absurd between

  between_waits : (old new : World L V G H) (ws : Waited) (failures later : List PlainMove) → Between old failures new → waited_in ws (failures ++ later) ≡ waited_in ws later
  between_waits old new ws [] later like = refl
  between_waits old new ws (OfManager HasFailed ∷ failures) later (mid, fails, rest) = between_waits mid new ws failures later rest
  between_waits old new ws (OfManager (Called session c step) ∷ failures) later between = absurd between
  between_waits old new ws (OfManager (Resumed session step) ∷ failures) later between = absurd between
  between_waits old new ws (OfManager (GaveUp session step) ∷ failures) later between = absurd between
  between_waits old new ws (OfManager (Forced n) ∷ failures) later between = absurd between
  between_waits old new ws (OfManager (TicketAsked ticket answer) ∷ failures) later between = absurd between
  between_waits old new ws (OfCheckpoint step ∷ failures) later between = absurd between

  pub runs_wait : (old : World L V G H) (ws : Waited) (events : List Event) (steps : List Step) (moves : List PlainMove) (new : World L V G H) → Runs old events steps moves new
      → waited_in ws moves ≡ waited_after ws events steps
  runs_wait old ws [] [] moves new between = ap (waited_in ws) (sym (append-nil moves)) ∙ between_waits old new ws moves [] between
  runs_wait old ws (e ∷ events) (step ∷ steps) moves new (start, mid, failures, later, between, made, rest, is) =
      ap (waited_in ws) is ∙ between_waits old start ws failures (moves_by e step ++ later) between ∙ event_waits ws e step later
      ∙ runs_wait mid (waited_behind ws e step) events steps later new rest
  runs_wait old ws [] (step ∷ steps) moves new runs = absurd runs
  runs_wait old ws (e ∷ events) [] moves new runs = absurd runs

  pub runs_told : (old : World L V G H) (ws : Waited) (events : List Event) (steps : List Step) (moves : List PlainMove) (new : World L V G H) → Runs old events steps moves new
      → told_in ws moves ≡ tellings_of ws events steps
  runs_told old ws [] [] moves new between = ap (told_in ws) (sym (append-nil moves)) ∙ between_tells old new ws moves [] between
  runs_told old ws (e ∷ events) (step ∷ steps) moves new (start, mid, failures, later, between, made, rest, is) =
      ap (told_in ws) is ∙ between_tells old start ws failures (moves_by e step ++ later) between ∙ event_tells ws e step later
      ∙ ap (λ (l : Told). told_by ws e step ++ l) (runs_told mid (waited_behind ws e step) events steps later new rest)
  runs_told old ws [] (step ∷ steps) moves new runs = absurd runs
  runs_told old ws (e ∷ events) [] moves new runs = absurd runs

-- ---- the calls that wait are those that began to

abbrev pub IsLastOf : Waited → ℕ → Call → Wait → Type 0
IsLastOf ws session c wait = last_waited session ws ≡ Some c

same_lock : (ws : Waited) (session : ℕ) (c : Call) (at later : Granule) → IsLastOf ws session c (Lock at) → IsLastOf ws session c (Lock later)
same_lock ws session c at later is = is

last_here : (ws : Waited) (session : ℕ) (c : Call) → last_waited session ((session, c) ∷ ws) ≡ Some c
last_here ws session c = ap (λ (b : Bool). cond b (Some c) (last_waited session ws)) (eq-eqb session session refl)

last_there : (ws : Waited) (session other : ℕ) (c : Call) → other ≢ session → last_waited other ((session, c) ∷ ws) ≡ last_waited other ws
last_there ws session other c differ = ap (λ (b : Bool). cond b (Some c) (last_waited other ws)) (ne_eqb session other (λ is. differ (sym is)))

-- a session that does not wait may begin to
begin_last : (ws : Waited) (s : State) (session : ℕ) (c : Call) → DoesNotWait s session → AreLast ws s → AreLast ((session, c) ∷ ws) s
begin_last ws s session c idle k w there = last_there ws session w.session c (idle w there) ∙ k w there

end_last : (ws : Waited) (s : State) (session : ℕ) (c : Call) → DoesNotWait s session → AreLast ((session, c) ∷ ws) s → AreLast ws s
end_last ws s session c idle k w there = sym (last_there ws session w.session c (idle w there)) ∙ k w there

may_begin : (g : Geometry) (ws : Waited) (session : ℕ) (c : Call) → MayWait g (IsLastOf ((session, c) ∷ ws)) session c
may_begin g ws session c = record {
  locks = λ at may. last_here ws session c;
  records = λ n. last_here ws session c;
}

-- a call of a session that waits changes nothing
same_or_idle : (g : Geometry) (s new : State) (session : ℕ) (c : Call) (step : Step) → SettledCall g s session c step new → (new ≡ s) ⊎ DoesNotWait s session
same_or_idle g s new session c step h = rounds h.first h.mid h.calls h.rounds h.settles
  where
    first_leaves : (first : Step) (mid : State) → CallStep g s session c first mid → (mid ≡ s) ⊎ DoesNotWait s session
    first_leaves first mid (inl h) = inl h.1
    first_leaves first mid (inr (inl h)) = inl h.2
    first_leaves first mid (inr (inr (inl h))) = inl h.3
    first_leaves first mid (inr (inr (inr (inl h)))) = inr h.1
    first_leaves first mid (inr (inr (inr (inr (inl h))))) = inr h.1
    first_leaves first mid (inr (inr (inr (inr (inr (inl h)))))) = inr h.1
    first_leaves first mid (inr (inr (inr (inr (inr (inr (inl h))))))) = inr h.1
    first_leaves first mid (inr (inr (inr (inr (inr (inr (inr h))))))) = inr h.1

    waited : (first : Step) (mid : State) (at : Granule) → first ≡ Waits (Lock at) → CallStep g s session c first mid → DoesNotWait s session
    waited first mid at is (inl h) = let clash : Waits (Lock at) ≡ Refused _ = sym is ∙ h.0 in absurd cc
    waited first mid at is (inr (inl h)) = let clash : Waits (Lock at) ≡ Refused _ = sym is ∙ h.1 in absurd cc
    waited first mid at is (inr (inr (inl h))) = let clash : Waits (Lock at) ≡ Refused _ = sym is ∙ h.2 in absurd cc
    waited first mid at is (inr (inr (inr (inl h)))) = h.1
    waited first mid at is (inr (inr (inr (inr (inl h))))) = h.1
    waited first mid at is (inr (inr (inr (inr (inr (inl h)))))) = h.1
    waited first mid at is (inr (inr (inr (inr (inr (inr (inl h))))))) = h.1
    waited first mid at is (inr (inr (inr (inr (inr (inr (inr h))))))) = h.1

    rounds : (first : Step) (mid : State) → CallStep g s session c first mid → (vs : List (List Victim)) → Settles g mid session first vs step new → (new ≡ s) ⊎ DoesNotWait s session
    rounds first mid calls [] h = ⊎_elim (λ same. inl (h.2 ∙ same)) (λ idle. inr idle) (first_leaves first mid calls)
    rounds first mid calls (v ∷ vs) h = inr (waited first mid h.1 h.4 calls)

some_same : (x y : Waiting) → Some x ≡ Some y → x ≡ y
some_same x y is = cc

-- the call that waits for a session is among those that wait, and is its
waits_not : (session : ℕ) (ws : List Waiting) → call_waiting session ws ≡ None → (w : Waiting) → IsAmong w ws → w.session ≢ session
waits_not session [] none w there = absurd there
waits_not session (x ∷ ws) none w there = test (x.session == session) refl none (λ found. waits_not session ws found w) there
  where
    test : (b : Bool) → (x.session == session) ≡ b → cond b (Some x) (call_waiting session ws) ≡ None → (call_waiting session ws ≡ None → IsAmong w ws → w.session ≢ session)
        → IsAmong w (x ∷ ws) → w.session ≢ session
    test true e found rest there = absurd cc
    test false e found rest (inl same) = λ is. eqb-false x.session session e (ap (λ (v : Waiting). v.session) same ∙ is)
    test false e found rest (inr later) = rest found later

waits_so : (session : ℕ) (ws : List Waiting) (w : Waiting) → call_waiting session ws ≡ Some w → IsAmong w ws × (w.session ≡ session)
waits_so session [] w some = absurd cc
waits_so session (x ∷ ws) w some = test (x.session == session) refl some (waits_so session ws w)
  where
    test : (b : Bool) → (x.session == session) ≡ b → cond b (Some x) (call_waiting session ws) ≡ Some w → (call_waiting session ws ≡ Some w → IsAmong w ws × (w.session ≡ session))
        → IsAmong w (x ∷ ws) × (w.session ≡ session)
    test true e is rest = let same : x ≡ w = some_same x w is in (inl same, ap (λ (v : Waiting). v.session) (sym same) ∙ eqb-true x.session session e)
    test false e is rest = let found = rest is in (inr found.0, found.1)

-- ---- one event

pub exchanges-append : (one two : List Entry) → tellings_in (one ++ two) ≡ tellings_in one ++ tellings_in two
exchanges-append [] two = refl
exchanges-append (e ∷ one) two = by (telling_in e) (exchanges-append one two)
  where
    by : (o : Option Telling) → tellings_in (one ++ two) ≡ tellings_in one ++ tellings_in two
        → cons_option o (tellings_in (one ++ two)) ≡ cons_option o (tellings_in one) ++ tellings_in two
    by None rest = rest
    by (Some x) rest = ap (λ (l : Told). x ∷ l) rest

-- decisions are no answers
none_told : (ds : List Decision) → tellings_in (map Decided ds) ≡ []
none_told [] = refl
none_told (d ∷ ds) = none_told ds

decides_alone : (s new : State) → tellings_in (decisions_made s new) ≡ []
decides_alone s new = none_told (decisions_in (length s.log) new.log)

module _ (g : Geometry) (o : Opening) (found : List LogRecord) (es : List Entry) (s : State) (k : IsStateAfter o found es s) (ws : Waited) (last : AreLast ws s) where
  begun : (session : ℕ) (c : Call) (step : Step) (new : State) → DoesNotWait s session → SettledCall g s session c step new → AreLast ((session, c) ∷ ws) new
  begun session c step new idle h =
      call_waits_have g (IsLastOf ((session, c) ∷ ws)) (same_lock ((session, c) ∷ ws)) s new session c (may_begin g ws session c) step h (begin_last ws s session c idle last)

  -- it was answered or refused
  ended : (session : ℕ) (c : Call) (step : Step) (new : State) → (DoesNotWait s session → DoesNotWait new session) → SettledCall g s session c step new → AreLast ws new
  ended session c step new ends h =
      ⊎_elim (λ same. subst (AreLast ws) (sym same) last) (λ idle. end_last ws new session c (ends idle) (begun session c step new idle h))
      (same_or_idle g s new session c step h)

  taken : (session : ℕ) (c : Call) (step : Step) (new : State) → ((f : Fault) → step ≢ Refused f) → SettledCall g s session c step new → DoesNotWait s session
  taken session c step new not_refused h = idle_in g o found es s k session c new step h.first h.mid not_refused h.calls h.rounds h.settles

  call_last : (session : ℕ) (c : Call) (step : Step) (new : State) → SettledCall g s session c step new → AreLast (waits_behind ws session c step) new
  call_last session c (Done answer) new h = ended session c (Done answer) new (λ idle. (settled_call_ends g o found es s k session c new (Done answer) idle h).idle tt) h
  call_last session c (Refused f) new h = ended session c (Refused f) new (λ idle. (settled_call_ends g o found es s k session c new (Refused f) idle h).idle tt) h
  call_last session c (Waits wait) new h = begun session c (Waits wait) new (taken session c (Waits wait) new (λ f is. let clash = is in absurd cc) h) h
  call_last session c Nothing new h = begun session c Nothing new (taken session c Nothing new (λ f is. let clash = is in absurd cc) h) h

  pub event_last : (e : ManagerEvent) (new : State) → EventMoves g s e new → AreLast (waited_behind_event ws e) new
  event_last (Called session c step) new h = call_last session c step new h.1
  event_last (Resumed session step) new h = resume_waits_have g (IsLastOf ws) (same_lock ws) s new session step h last
  event_last (GaveUp session step) new h = event_waits_on g (IsLastOf ws) (same_lock ws) s new (GaveUp session step) tt h last
  event_last (Forced n) new h = subst (AreLast ws) (sym h.2) last
  event_last HasFailed new h = subst (AreLast ws) (sym h) last
  event_last (TicketAsked ticket answer) new h = subst (AreLast ws) (sym h.1) last

  -- what it adds to the history tells what it told
  call_told : (session : ℕ) (c : Call) (step : Step) (new : State) → tellings_in (entries_of_call s session c step new) ≡ told_of session c step
  call_told session call.Commit (Done answer) new = refl
  call_told session _ (Done answer) new = refl
  call_told session c (Refused f) new =
      let told = Exchanged session (txn_of new.sessions session) (exchange c (Err f)) ∷ [] in
      exchanges-append (decisions_made s new) told ∙ ap (λ (l : Told). l ++ tellings_in told) (decides_alone s new)
  call_told session c (Waits (Durable n)) new = decides_alone s new
  call_told session c (Waits (Lock at)) new = refl
  call_told session c Nothing new = refl

  resumed_told : (w : Waiting) (step : Step) → tellings_in (entries_of_resumed s w step) ≡ told_of w.session w.call step
  resumed_told w (Done answer) = refl
  resumed_told w (Refused f) = refl
  resumed_told w (Waits wait) = refl
  resumed_told w Nothing = refl

  -- a session that does not wait has nothing to go on with
  pub nothing_waits : (session : ℕ) (step : Step) (new : State) → DoesNotWait s session → SettledResume g s session step new → step ≡ Nothing
  nothing_waits session step new idle (inl told) = absurd (idle told.waited told.there told.of)
  nothing_waits session step new idle (inr (inl (inl still, same))) = still.1
  nothing_waits session step new idle (inr (inl (inr goes, same))) = absurd (idle goes.0 goes.1 goes.2)
  nothing_waits session step new idle (inr (inr on)) = by on.first on.mid on.resumes on.rounds on.settles
    where
      by : (first : Step) (mid : State) → ResumeStep g s session first mid → (rounds : List (List Victim)) → Settles g mid session first rounds step new → step ≡ Nothing
      by first mid (inl still) [] h = h.1 ∙ still.1
      by first mid (inl still) (v ∷ vs) h = let clash : Waits (Lock h.1) ≡ Nothing = sym h.4 ∙ still.1 in absurd cc
      by first mid (inr goes) rounds h = absurd (idle goes.0 goes.1 goes.2)

  nothing_given_up : (session : ℕ) (step : Step) (new : State) → DoesNotWait s session → GiveUpStep s session step new → step ≡ Nothing
  nothing_given_up session step new idle (inl h) = absurd (idle h.waited h.there h.of)
  nothing_given_up session step new idle (inr h) = h.told

  -- a resume, or a wait that is taken back
  waiter_told : (session : ℕ) (step : Step) → (DoesNotWait s session → step ≡ Nothing)
      → tellings_in (entries_of_resume s session step) ≡ told_of_waiting session (last_waited session ws) step
  waiter_told session step idle = by (call_waiting session s.waiting) refl
    where
      told_nothing : (o : Option Call) → told_of_waiting session o Nothing ≡ []
      told_nothing None = refl
      told_nothing (Some c) = refl

      by : (o : Option Waiting) → call_waiting session s.waiting ≡ o → tellings_in (entries_of_waiting s o step) ≡ told_of_waiting session (last_waited session ws) step
      by None none =
          sym (told_nothing (last_waited session ws))
          ∙ ap (told_of_waiting session (last_waited session ws)) (sym (idle (λ w there. waits_not session s.waiting none w there)))
      by (Some w) some =
          let is = waits_so session s.waiting w some in
          let which : last_waited session ws ≡ Some w.call = ap (λ n. last_waited n ws) (sym is.1) ∙ last w is.0 in
          resumed_told w step ∙ ap (λ n. told_of n w.call step) is.1 ∙ ap (λ (o : Option Call). told_of_waiting session o step) (sym which)

  pub event_told : (e : ManagerEvent) (new : State) → EventMoves g s e new → tellings_in (entries_of s e new) ≡ told_by_event ws e
  event_told (Called session c step) new h = call_told session c step new
  event_told (Resumed session step) new h = waiter_told session step (λ idle. nothing_waits session step new idle h)
  event_told (GaveUp session step) new h = waiter_told session step (λ idle. nothing_given_up session step new idle h)
  event_told (Forced n) new h = refl
  event_told HasFailed new h = refl
  event_told (TicketAsked ticket answer) new h = refl

-- ---- any number of them

-- what the moves of a manager tell, and the calls that wait behind them
pub record HasTold (ws : Waited) (moves : List PlainMove) (last : State) (made : List Entry) : Type 0 where
  pub told : tellings_in made ≡ told_in ws moves
  pub waits : AreLast (waited_in ws moves) last

-- behind a step of a checkpoint they are the same
same_last : (ws : Waited) (s new : State) → new.waiting ≡ s.waiting → AreLast ws s → AreLast ws new
same_last ws s new same last w there = last w (subst (IsAmong w) same there)

module _ (g : Geometry) (ring_bytes : ℕ) (o : Opening) (found : List LogRecord) where
  pub have_told : (es : List Entry) (ws : Waited) (m : CheckpointedState) → IsAtCheckpoints g ring_bytes o found es m → AreLast ws m.state → (moves : List CheckpointedMove) (last : CheckpointedState)
      (made : List Entry) → CheckpointedMoves g m moves last made → HasTold ws (moves_among moves) last.state made
  have_told es ws m k are [] last made h = record { told = ap tellings_in h.1; waits = subst (λ (x : CheckpointedState). AreLast ws x.state) (sym h.0) are }
  have_told es ws m k are (Goes (Manage e works) ∷ moves) last made h =
      let new = h.0 in
      let s = m.state in
      let next = step_goes g ring_bytes o found es m k (Goes (Manage e works)) new h.2 in
      let rest = have_told (es ++ entries_of s e new.state) (waited_behind_event ws e) new next (event_last g o found es s k.under_way.state ws are e new.state h.2.0.0) moves last h.1 h.3 in
      record {
        told = ap tellings_in h.4 ∙ exchanges-append (entries_of s e new.state) h.1
            ∙ ap (λ (l : Told). l ++ tellings_in h.1) (event_told g o found es s k.under_way.state ws are e new.state h.2.0.0) ∙ ap (λ (l : Told). told_by_event ws e ++ l) rest.told;
        waits = rest.waits;
      }
  have_told es ws m k are (Goes (Tend works) ∷ moves) last made h =
      let new = h.0 in
      let next = step_goes g ring_bytes o found es m k (Goes (Tend works)) new h.2 in
      let rest = have_told (es ++ []) ws new next (subst (AreLast ws) (sym h.2.0.0) are) moves last h.1 h.3 in
      record { told = ap tellings_in h.4 ∙ rest.told; waits = rest.waits }
  have_told es ws m k are (Checkpoints step ∷ moves) last made h =
      let new = h.0 in
      let next = step_goes g ring_bytes o found es m k (Checkpoints step) new h.2 in
      let rest = have_told (es ++ []) ws new next (same_last ws m.state new.state (waits_kept m.state step new.state (moves_state m step new h.2)) are) moves last h.1 h.3 in
      record { told = ap tellings_in h.4 ∙ rest.told; waits = rest.waits }
