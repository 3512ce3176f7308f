-- Each step of a session as events of the sessions: a commit and its answer, and steps behind which each other call waits on.
use Rattle.std.proofs.Common.{◌≡◌, ◌⊎◌, inl, inr, ⊎_elim, ◌∷◌, ◌≤◌, ℕ, List, [], false, None, Ok, Err, refl, sym, ap, subst, ◌∙◌}
use Rattle.shore_types.specs.Versions.{slot_limit}
use Rattle.std.specs.Prelude.{IsSomeAnd, IsTrue, Option}
use Rattle.shore_types.specs.declared.faults.Fault.{Fault}
use Rattle.shore_types.specs.declared.faults.Fault.TheVariants as fault
use Rattle.shore_types.specs.declared.ids.Rid.{Rid}
use Rattle.shore_types.specs.declared.layout.Geometry.{Geometry}
use Rattle.shore_types.specs.declared.locking.Granule.{Granule}
use Rattle.shore_model.specs.declared.calls.Answer.{Answer}
use Rattle.shore_model.specs.declared.calls.Answer.TheVariants.{Committed, Prepared}
use Rattle.shore_model.specs.declared.calls.Call.{Call}
use Rattle.shore_model.specs.declared.calls.Call.TheVariants as call
use Rattle.shore_model.specs.declared.histories.Decision.TheVariants as decision
use Rattle.shore_model.specs.declared.histories.Entry.{Entry}
use Rattle.shore_model.specs.declared.histories.Opening.{Opening}
use Rattle.shore_model.specs.declared.histories.Entry.TheVariants.{Decided, Exchanged}
use Rattle.shore_model.specs.declared.log_records.LogRecord.{LogRecord}
use Rattle.laws_lives.specs.RepliesInPlace.{IsKnownAbsent}
use Rattle.laws_lives.specs.SessionSteps.{BeginTxn, TellsNothing, exchange, AnswerInDoubt}
use Rattle.laws_lives.specs.Sessions.{SessionTxn, IsUnused}
use Rattle.shore_model.specs.declared.step.Step.{Step}
use Rattle.shore_model.specs.declared.step.Step.TheVariants.{Done, Nothing, Refused, Waits}
use Rattle.shore_model.specs.declared.step.Wait.{Wait}
use Rattle.shore_model.specs.declared.step.Wait.TheVariants.{Durable, Lock}
use Rattle.laws_calls.proofs.Elements.{waits_on}
use Rattle.laws_calls.proofs.Links.{GoesQuietly, begin_goes, quietly_one, listing_goes}
use Rattle.laws_calls.proofs.Passing.{absence_passes, goes_on_passes, told_passes}
use Rattle.laws_calls.proofs.RefusalTells.{tells_or_none, prepare_tells}
use Rattle.laws_calls.proofs.RollingPassages.{Aborts, abort_refused_passes, back_passes, savepoint_passes}
use Rattle.laws_calls.proofs.SessionCalls.{names_no_slot}
use Rattle.laws_calls.proofs.SessionResumes.{WaitsWhole, same_entries, woken, IsResolveTold, is_resolve_told}
use Rattle.laws_calls.specs.CallHistories.{txn_of, answered_under}
use Rattle.laws_calls.specs.StateChanges.{committed, wait_refused, begun}
use Rattle.laws_calls.specs.Rollbacks.{TakesCall}
use Rattle.laws_calls.specs.CallSteps.{AbortStep, BeginStep, CommitStep, InnerStep, OpenStep, RefusesEarly, ResumesCall, ResumesWait, CallStep, InDoubtStep, OutsideStep, listed_in_doubt, IsPreparing, prepare_ended}
use Rattle.laws_calls.specs.LockedStates.{IsSessionsState, entries_of_resumed}
use Rattle.laws_calls.specs.States.{DoesNotWait, IsOfSession, State, Waiting, next_number}
use Rattle.laws_calls.proofs.Listings.{listing_steps}
use Rattle.laws_calls.specs.Prepares.{PrepareStep, MayPrepare, granules_in_ex, prepared}
use Rattle.laws_calls.proofs.Sessions.{its_txn}
use Rattle.laws_calls.proofs.Told.{entries_told}
use Rattle.laws_calls.proofs.Outside.{Resolving, early_tells}

-- ---- calls

-- a Commit goes last, and is answered
pub record Commits (s : State) (session : ℕ) (new : State) (made : List Entry) : Type 0 where
  pub txn : SessionTxn
  pub of : IsOfSession s session txn
  pub whole : txn.undo.rolling ≡ None
  pub idle : DoesNotWait s session
  pub is : new ≡ committed s txn
  pub entries : made ≡ Decided (decision.Commit txn.txn) ∷ Exchanged txn.session txn.txn (exchange call.Commit (Ok (Committed (next_number s)))) ∷ []

-- .. or a Prepare
pub record Prepares (s : State) (session : ℕ) (new : State) (made : List Entry) : Type 0 where
  pub txn : SessionTxn
  pub of : IsOfSession s session txn
  pub whole : txn.undo.rolling ≡ None
  pub idle : DoesNotWait s session
  pub global : List ℕ
  pub unused : IsUnused s.sessions global
  pub may : MayPrepare s txn global
  pub is : new ≡ prepared s txn global (granules_in_ex s txn)
  pub entries : made ≡ Decided (decision.Prepare txn.txn global) ∷ []

abbrev pub CallPasses : Geometry → State → ℕ → State → List Entry → Type 0
CallPasses g s session new made = GoesQuietly g session s new made ⊎ (Commits s session new made ⊎ (Aborts s session new made ⊎ Prepares s session new made))

module _ (g : Geometry) (o : Opening) (found : List LogRecord) (es : List Entry) (s : State) (k : IsSessionsState o found es s) (session : ℕ) where
  begin_passes : DoesNotWait s session → (step : Step) (new : State) → BeginStep s session step new → GoesQuietly g session s new (entries_told s session call.Begin step)
  begin_passes idle (Done answer) new h =
      subst (λ (n : State). GoesQuietly g session s n (entries_told s session call.Begin (Done answer))) (sym h.4)
      (subst (λ (x : Answer). GoesQuietly g session s (begun s session) (entries_told s session call.Begin (Done x))) (sym h.3)
      (quietly_one g session s (BeginTxn session) (begun s session) (begun s session) idle
      (begin_goes g s session h.0 h.1 h.2) (inl refl)))
  begin_passes idle (Waits wait) new h = absurd h
  begin_passes idle (Refused f) new h =
      told_passes g o found es session s new call.Begin f
      (⊎_elim (λ one. subst TellsNothing (sym one.0) tt) (λ more. ⊎_elim (λ two. subst TellsNothing (sym two.0) tt) (λ three. subst TellsNothing (sym three.0) tt) more) h.0) (inl h.1)
  begin_passes idle Nothing new h = absurd h

  pub commit_passes : (a : SessionTxn) → a.undo.rolling ≡ None → IsOfSession s session a → DoesNotWait s session → (step : Step) (new : State) → CommitStep s a step new
      → Commits s session new (entries_told s session call.Commit step)
  commit_passes a whole mem idle (Done answer) new h = record {
    txn = a;
    of = mem;
    whole = whole;
    idle = idle;
    is = h.1;
    entries =
        ap (λ x. entries_told s session call.Commit (Done x)) h.0
        ∙ ap (λ t. Decided (decision.Commit t) ∷ Exchanged session t (exchange call.Commit (Ok (Committed (next_number s)))) ∷ []) (its_txn s.sessions a session mem.0.1 mem.1)
        ∙ ap (λ n. Decided (decision.Commit a.txn) ∷ Exchanged n a.txn (exchange call.Commit (Ok (Committed (next_number s)))) ∷ []) (sym mem.1);
  }
  commit_passes a whole mem idle (Waits wait) new h = absurd h
  commit_passes a whole mem idle (Refused f) new h = absurd h
  commit_passes a whole mem idle Nothing new h = absurd h

  prepare_passes : (a : SessionTxn) → a.undo.rolling ≡ None → IsOfSession s session a → DoesNotWait s session → (global : List ℕ) (step : Step) (new : State) → PrepareStep g.version s a global step new
      → CallPasses g s session new (entries_told s session (call.Prepare global) step)
  prepare_passes a whole mem idle global (Waits wait) new h = inr (inr (inr (record {
    txn = a;
    of = mem;
    whole = whole;
    idle = idle;
    global = global;
    unused = h.1;
    may = h.2;
    is = h.4;
    entries =
        ap (λ w. entries_told s session (call.Prepare global) (Waits w)) h.3
        ∙ ap (λ t. Decided (decision.Prepare t global) ∷ []) (its_txn s.sessions a session mem.0.1 mem.1);
  })))
  prepare_passes a whole mem idle global (Refused f) new h = inl (told_passes g o found es session s new (call.Prepare global) f (prepare_tells g.version s a global f h.0) (inl h.1))
  prepare_passes a whole mem idle global (Done answer) new h = absurd h
  prepare_passes a whole mem idle global Nothing new h = absurd h

  early_passes : s.sessions.slots ≡ slot_limit g.version → (a : SessionTxn) → a.undo.rolling ≡ None → IsOfSession s session a → (c : Call) (f : Fault) → RefusesEarly g c f → GoesQuietly g session s s (Exchanged session (txn_of s.sessions session) (exchange c (Err f)) ∷ [])
  early_passes slots a whole mem c f h = ⊎_elim
      (λ nothing. told_passes g o found es session s s c f nothing (inl refl))
      (λ none.
      let names = names_no_slot g o found es s k session c (subst (RefusesEarly g c) none h) in
      subst (λ (x : Fault). GoesQuietly g session s s (Exchanged session (txn_of s.sessions session) (exchange c (Err x)) ∷ [])) (sym none)
      (absence_passes g o found es session a mem.1 whole s k mem.0 c names.inner
      (subst (λ (x : Option Rid). IsSomeAnd x (IsKnownAbsent s.sessions.slots s.sessions.held a.txn s.sessions.records)) (sym names.named) (inr (subst (λ n. n ≤ names.id.slot) (sym slots) names.beyond)))))
      (tells_or_none f)

  open_passes : s.failed ≡ false → (a : SessionTxn) → a.undo.rolling ≡ None → IsOfSession s session a → DoesNotWait s session → (c : Call) (step : Step) (new : State) → OpenStep g s a c step new
      → CallPasses g s session new (entries_told s session c step)
  open_passes running a whole mem idle c step new (inl h) =
      inl (subst (λ (n : State). GoesQuietly g session s n (entries_told s session c step)) (sym h.3)
      (subst (λ (x : Step). GoesQuietly g session s s (entries_told s session c x)) (sym h.2) (early_passes h.4 a whole mem c h.0 h.1)))
  open_passes running a whole mem idle c step new (inr (inl h)) =
      inl (goes_on_passes g o found es session a mem.1 whole s k mem.0 (k.locks.waits running a mem.0.0 (λ w m spared same. idle w m (same ∙ mem.1))) idle c step new h.1)
  open_passes running a whole mem idle c step new (inr (inr (inl h))) =
      inr (inl (subst (λ (x : Call). Commits s session new (entries_told s session x step)) (sym h.0) (commit_passes a whole mem idle step new h.1)))
  open_passes running a whole mem idle c step new (inr (inr (inr (inr h)))) =
      subst (λ (x : Call). CallPasses g s session new (entries_told s session x step)) (sym h.1) (prepare_passes a whole mem idle h.0 step new h.2)
  open_passes running a whole mem idle c step new (inr (inr (inr (inl h)))) =
      inl (subst (λ (x : Call). GoesQuietly g session s new (entries_told s session x step)) (sym h.0)
      (savepoint_passes g o found es session a mem.1 s k mem.0 idle whole step new h.1))

  abort_passes : (a : SessionTxn) → IsOfSession s session a → DoesNotWait s session → (step : Step) (new : State) → AbortStep s a step new
      → CallPasses g s session new (entries_told s session call.Abort step)
  abort_passes a mem idle (Done answer) new h =
      inr (inr (inl (record { txn = a; of = mem; idle = idle; is = h.1; entries = ap (λ (x : Answer). entries_told s session call.Abort (Done x)) h.0 })))
  abort_passes a mem idle (Refused f) new h = inl (abort_refused_passes g o found es session a mem.1 s k mem.0 idle f new h)
  abort_passes a mem idle (Waits wait) new h = absurd h
  abort_passes a mem idle Nothing new h = absurd h

  refused_passes : (c : Call) (step : Step) (new : State) (f : Fault) → TellsNothing f → step ≡ Refused f → new ≡ s → GoesQuietly g session s new (entries_told s session c step)
  refused_passes c step new f nothing is same =
      subst (λ (x : Step). GoesQuietly g session s new (entries_told s session c x)) (sym is) (told_passes g o found es session s new c f nothing (inl same))

  inner_passes : s.failed ≡ false → (a : SessionTxn) → IsOfSession s session a → DoesNotWait s session → (c : Call) (step : Step) (new : State) → InnerStep g s a c step new
      → CallPasses g s session new (entries_told s session c step)
  inner_passes running a mem idle c step new (inl h) = inl (refused_passes c step new fault.MustAbort tt h.2 h.3)
  inner_passes running a mem idle c step new (inr (inl h)) = open_passes running a h.0 mem idle c step new h.1
  inner_passes running a mem idle c step new (inr (inr (inl h))) =
      inl (subst (λ (x : Call). GoesQuietly g session s new (entries_told s session x step)) (sym h.1)
      (back_passes g o found es session a mem.1 s k mem.0 idle h.0 (subst (TakesCall a.undo) h.1 h.2) step new h.3))
  inner_passes running a mem idle c step new (inr (inr (inr h))) =
      subst (λ (x : Call). CallPasses g s session new (entries_told s session x step)) (sym h.0) (abort_passes a mem idle step new h.1)

  listing_passes : (step : Step) (new : State) → InDoubtStep s step new → GoesQuietly g session s new (entries_told s session call.InDoubt step)
  listing_passes (Done answer) new h =
      subst (λ (n : State). GoesQuietly g session s n (entries_told s session call.InDoubt (Done answer))) (sym h.1)
      (subst (λ (x : Answer). GoesQuietly g session s s (entries_told s session call.InDoubt (Done x))) (sym h.0)
      (quietly_one g session s (AnswerInDoubt session (txn_of s.sessions session) (listed_in_doubt s.sessions)) s s tt
      (listing_goes g s session (txn_of s.sessions session) (listed_in_doubt s.sessions) (listing_steps k session)) (inl refl)))
  listing_passes (Waits wait) new h = absurd h
  listing_passes (Refused f) new h = absurd h
  listing_passes Nothing new h = absurd h

  -- a resolve that begins goes on by its own stages
  outside_passes : (c : Call) (step : Step) (new : State) → OutsideStep s session c step new → GoesQuietly g session s new (entries_told s session c step) ⊎ Resolving s session c step new
  outside_passes c step new (inl h) = inl (subst (λ (x : Call). GoesQuietly g session s new (entries_told s session x step)) (sym h.0) (listing_passes step new h.1))
  outside_passes c step new (inr h) = ⊎_elim
      (λ early. inl (refused_passes c step new early.0 (early_tells s session h.0 h.1 early.0 early.1) early.2 early.3))
      (λ goes. inr (record { global = h.0; asked = h.1; is = h.2; may = goes.0; to = goes.1 })) h.3

  pub call_passes : (c : Call) (step : Step) (new : State) → CallStep g s session c step new
      → CallPasses g s session new (entries_told s session c step) ⊎ (Resolving s session c step new × DoesNotWait s session)
  call_passes c step new (inl h) = inl (inl (refused_passes c step new fault.Memory tt h.0 h.1))
  call_passes c step new (inr (inl h)) = inl (inl (refused_passes c step new fault.Failed tt h.1 h.2))
  call_passes c step new (inr (inr (inl h))) = inl (inl (refused_passes c step new fault.Busy tt h.2 h.3))
  call_passes c step new (inr (inr (inr (inl h)))) =
      inl (inl (subst (λ (x : Call). GoesQuietly g session s new (entries_told s session x step)) (sym h.2) (begin_passes h.1 step new h.3)))
  call_passes c step new (inr (inr (inr (inr (inl h))))) = inl (inl (refused_passes c step new fault.NoTransaction tt h.4 h.5))
  call_passes c step new (inr (inr (inr (inr (inr (inr (inl h))))))) = inl (inl (refused_passes c step new fault.IsPrepared tt h.4 h.5))
  call_passes c step new (inr (inr (inr (inr (inr (inr (inr h))))))) = ⊎_elim (λ quiet. inl (inl quiet)) (λ r. inr (r, h.1)) (outside_passes c step new h.2)
  call_passes c step new (inr (inr (inr (inr (inr (inl h)))))) = inl (inner_passes h.0 h.2.0 h.2.1 h.1 c step new h.2.2)

-- ---- going on

-- a prepare is answered, whose record is durable
pub record IsPrepareTold (s : State) (session : ℕ) (wait : Wait) (c : Call) (new : State) (made : List Entry) : Type 0 where
  pub number : ℕ
  pub waits : wait ≡ Durable number
  pub durable : number ≤ s.durable
  pub txn : ℕ
  pub global : List ℕ
  pub preparing : IsPreparing s.sessions session txn global
  pub asks : c ≡ call.Prepare global
  pub is : new ≡ prepare_ended s session txn global
  pub entries : made ≡ Exchanged session (txn_of s.sessions session) (exchange (call.Prepare global) (Ok Prepared)) ∷ []

-- the call waits no more: a device has failed, or it goes on behind its lock
pub record GoesOnQuietly (g : Geometry) (s : State) (session : ℕ) (wait : Wait) (new : State) (made : List Entry) : Type 0 where
  pub why : IsTrue s.failed ⊎ ((at : Granule) × (wait ≡ Lock at) × ((a : SessionTxn) × IsOfSession s session a))
  pub on : GoesQuietly g session (wait_refused s session) new made

-- or nothing is done
abbrev pub ResumePasses : Geometry → State → ℕ → Wait → Call → State → List Entry → Type 0
ResumePasses g s session wait c new made = ((new ≡ s) × (made ≡ [])) ⊎ (GoesOnQuietly g s session wait new made ⊎ (IsPrepareTold s session wait c new made ⊎ IsResolveTold s session wait c new made))

module _ (g : Geometry) (o : Opening) (found : List LogRecord) (es : List Entry) (s : State) (k : IsSessionsState o found es s) where
  prepare_told : (w : Waiting) (n : ℕ) (step : Step) (new : State)
      → (n ≤ s.durable) × (step ≡ Done Prepared) × ((t : ℕ) × (global : List ℕ) × IsPreparing s.sessions w.session t global × (w.call ≡ call.Prepare global) × (new ≡ prepare_ended s w.session t global))
      → IsPrepareTold s w.session (Durable n) w.call new (entries_of_resumed s (record { session = w.session; call = w.call; wait = Durable n; cycle = w.cycle }) step)
  prepare_told w n step new h = record {
    number = n;
    waits = refl;
    durable = h.0;
    txn = h.2.0;
    global = h.2.1;
    preparing = h.2.2;
    asks = h.2.3;
    is = h.2.4;
    entries =
        ap (entries_of_resumed s (record { session = w.session; call = w.call; wait = Durable n; cycle = w.cycle })) h.1
        ∙ ap (λ (c : Call). Exchanged w.session (answered_under s.sessions w.session c) (exchange c (Ok Prepared)) ∷ []) h.2.3;
  }

  wait_passes : (w : Waiting) (wait : Wait) → WaitsWhole s w.session wait → (step : Step) (new : State) → ResumesWait g s w wait step new
      → ResumePasses g s w.session wait w.call new (entries_of_resumed s (record { session = w.session; call = w.call; wait = wait; cycle = w.cycle }) step)
  wait_passes w (Durable n) whole step new (inl h) = inl (h.2, ap (entries_of_resumed s (record { session = w.session; call = w.call; wait = Durable n; cycle = w.cycle })) h.1)
  wait_passes w (Durable n) whole step new (inr (inl h)) = inr (inr (inl (prepare_told w n step new h)))
  wait_passes w (Durable n) whole step new (inr (inr h)) = inr (inr (inr (is_resolve_told s w n step new h)))
  wait_passes w (Lock at) whole step new h = ⊎_elim
      (λ still. inl (still.2, ap (entries_of_resumed s (record { session = w.session; call = w.call; wait = Lock at; cycle = w.cycle })) still.1))
      (λ free.
      inr (inl (record {
        why = inr (at, refl, (h.0, h.1));
        on =
            subst (λ made. GoesQuietly g w.session (wait_refused s w.session) new made) (same_entries g (wait_refused s w.session) h.0 w.session w.call at step new free.1)
            (goes_on_passes g o found es w.session h.0 h.1.1 (whole at h.0 refl h.1) (wait_refused s w.session) (woken g o found es s k h.0 w.session h.1 free.0) h.1.0 free.0
            (λ v m. (waits_on w.session v s.waiting m).1) w.call step new free.1);
      })))
      h.2

  pub resume_passes : (w : Waiting) → (w.cycle ≡ None → WaitsWhole s w.session w.wait) → (step : Step) (new : State) → ResumesCall g s w step new → ResumePasses g s w.session w.wait w.call new (entries_of_resumed s w step)
  resume_passes w whole step new (inl h) = inr (inl (record {
    why = inl h.0;
    on =
        subst (λ (x : Step). GoesQuietly g w.session (wait_refused s w.session) new (entries_of_resumed s w x)) (sym h.1)
        (told_passes g o found es w.session (wait_refused s w.session) new w.call fault.Failed tt (inl h.2));
  }))
  resume_passes w whole step new (inr h) = wait_passes w w.wait (whole h.2) step new h.1
