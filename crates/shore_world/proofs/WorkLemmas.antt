-- Steps do their work: what each step comes to, of a world that is a manager.
use Rattle.std.proofs.Common.{◌≡◌, ◌<◌, ◌≤◌, ◌⊎◌, ◌-◌, inl, inr, ⊎_elim, ℕ, List, [], ◌∷◌, ◌++◌, Bool, false, IsTrue, None, Option, Some, refl, sym, ap, subst, ◌∙◌, arith, length, take}
use Rattle.std.specs.Prelude.{◌==◌, ◌↔◌, IsSomeAnd}
use Rattle.std.specs.List.{AllByRecursion}
use Rattle.std.proofs.lemmas.Bool.{cases_Bool, eqb-false, eqb-true}
use Rattle.std.proofs.lemmas.List.Elements.{recursion_from_All}
use Rattle.shore_types.specs.declared.faults.Fault.{Fault}
use Rattle.shore_types.specs.declared.faults.Fault.TheVariants.{Deadlock, LogFull, Memory}
use Rattle.shore_types.specs.declared.layout.Geometry.{Geometry}
use Rattle.shore_types.specs.declared.layout.TheConstants.{LOG_FRONT_BYTES}
use Rattle.shore_types.specs.declared.locking.Granule.{Granule}
use Rattle.shore_disk.specs.Device.{size}
use Rattle.shore_disk.specs.declared.device.Disk.{Ghosts}
use Rattle.shore_model.specs.declared.calls.Answer.{Answer}
use Rattle.shore_model.specs.declared.calls.Answer.TheVariants.{Forced, Staged}
use Rattle.shore_model.specs.declared.calls.Call.{Call}
use Rattle.shore_model.specs.declared.histories.Entry.{Entry}
use Rattle.shore_model.specs.declared.histories.Opening.{Opening}
use Rattle.shore_model.specs.declared.step.Step.{Step}
use Rattle.shore_model.specs.declared.step.Step.TheVariants.{Done, Nothing, Refused, Waits}
use Rattle.shore_model.specs.declared.step.Wait.{Wait}
use Rattle.shore_model.specs.declared.step.Wait.TheVariants.{Durable, Lock}
use Rattle.shore_cycles.specs.declared.victims.Victim.{Victim}
use Rattle.shore_flush.specs.Flushes.{Flushes, NoneDue}
use Rattle.shore_heap.specs.Heaps.{pool_of}
use Rattle.shore_pool.specs.FrameMaps.{IsDue}
use Rattle.shore_pool.specs.Pools as pools
use Rattle.shore_pool.specs.declared.frame.Frame.{Frame}
use Rattle.shore_pool.specs.declared.pool.Pool.{Pool}
use Rattle.laws_lives.specs.Views.{IsAmong}
use Rattle.laws_calls.proofs.SettledWaits.{call_waits_at}
use Rattle.laws_calls.proofs.ToldCycles.{other_waits, own_waits}
use Rattle.laws_calls.proofs.WaitsThere.{call_nothing}
use Rattle.laws_calls.proofs.WrongResumes.{nothing_though_waiting}
use Rattle.laws_calls.specs.CallSteps.{CallStep, ResumeStep, ResumesWait, lock_waiting}
use Rattle.laws_calls.specs.Settling.{SettledCall, SettledResume, Settles}
use Rattle.laws_calls.specs.States.{DoesNotWait, State, Waiting}
use Rattle.laws_calls.specs.Victims.{TakesVictims}
use Rattle.laws_runs.specs.CheckpointedStates.{IsAtCheckpoints}
use Rattle.shore_core.specs.Cores.{heap_of}
use Rattle.shore_core.specs.Flushing.{FlushAnswers, FlushMoves}
use Rattle.shore_world.specs.declared.event.Event.{Event}
use Rattle.shore_world.specs.declared.event.Event.TheVariants as event
use Rattle.shore_world.specs.declared.world.World.{World}
use Rattle.shore_world.specs.Events.{IsServedEvent}
use Rattle.shore_world.specs.Exchanges.{waited_behind}
use Rattle.shore_world.specs.Promises.{FlushesIfAny, HasFailedStep, IsManagerOf, OpensIfAny, StagesIfAny}
use Rattle.shore_world.specs.Labels.{IsVolumeFront}
use Rattle.shore_world.proofs.LabelLemmas.{log_front_stays}
use Rattle.shore_world.specs.Worlds.{EventStep, ForceRefused, HasForceRoom, IsIdle, IsUnchanged, OpenRefused, Steps, before_in, durable_in, failed_in, geometry_in, history_in, last_in, stream_bytes_in}
use Rattle.shore_world.proofs.ExchangeLemmas.{nothing_waits}
use Rattle.shore_world.proofs.PromiseLemmas.{as_up, seen, stepped}
use Rattle.shore_world.proofs.LogParts.{log_long}
use Rattle.shore_world.proofs.StoredLemmas.{has_room}
use Rattle.shore_world.proofs.UnmovedLemmas.{none_waits}
use Rattle.shore_world.proofs.WorldLemmas.{some_stands}

-- ---- who comes to nothing waits for nothing

-- a call of the session waits
abbrev HasWaitingCall : State → ℕ → Type 0
HasWaitingCall s session = (w : Waiting) × IsAmong w s.waiting × (w.session ≡ session)

victims_leave_waiting : (session : ℕ) (s : State) (t : ℕ) (vs : List Victim) (new : State) → TakesVictims s t vs new → HasWaitingCall s session → HasWaitingCall new session
victims_leave_waiting session s t [] new h w = subst (λ (x : State). HasWaitingCall x session) (sym h) w
victims_leave_waiting session s t (v ∷ vs) new h w =
    victims_leave_waiting session h.0 t vs new h.2 (subst (λ (x : State). HasWaitingCall x session) (sym h.1.is) (⊎_elim
    (λ own.
    let is = eqb-true w.0.session h.1.txn.session own in
    (record { session = w.0.session; call = w.0.call; wait = w.0.wait; cycle = Some v.cycle }, own_waits h.1.txn.session v.cycle w.0 s.waiting w.1 is, w.2))
    (λ other. (w.0, other_waits h.1.txn.session v.cycle w.0 s.waiting w.1 (eqb-false w.0.session h.1.txn.session other), w.2))
    (cases_Bool (w.0.session == h.1.txn.session))))

waits_again : (g : Geometry) (s new : State) (session : ℕ) (at : Granule) (w : Waiting) → IsAmong w s.waiting → w.session ≡ session → (wait : Wait)
    → ResumesWait g s w wait (Waits (Lock at)) new → HasWaitingCall new session
waits_again g s new session at w there of (Durable n) (inl h) = let clash = h.1 in absurd cc
waits_again g s new session at w there of (Durable n) (inr (inl h)) = let clash = h.1 in absurd cc
waits_again g s new session at w there of (Durable n) (inr (inr h)) = let clash = h.1 in absurd cc
waits_again g s new session at w there of (Lock was) h = ⊎_elim
    (λ still. (w, subst (λ (x : State). IsAmong w x.waiting) (sym still.2) there, of))
    (λ goes. subst (λ (x : State). HasWaitingCall x session) (sym goes.1.5) (lock_waiting h.0 w.call goes.1.1, inl refl, h.1.1 ∙ of))
    h.2

resume_leaves_waiting : (g : Geometry) (s new : State) (session : ℕ) (at : Granule) → ResumeStep g s session (Waits (Lock at)) new → HasWaitingCall new session
resume_leaves_waiting g s new session at (inl h) = let clash = h.1 in absurd cc
resume_leaves_waiting g s new session at (inr (w, there, of, (inl failed))) = let clash = failed.1 in absurd cc
resume_leaves_waiting g s new session at (inr (w, there, of, (inr runs))) = waits_again g s new session at w there of w.wait runs.1

resume_to_nothing : (g : Geometry) (s new : State) (session : ℕ) → ResumeStep g s session Nothing new → DoesNotWait s session
resume_to_nothing g s new session (inl h) = h.0
resume_to_nothing g s new session (inr h) = absurd (nothing_though_waiting g s new session h.0 h.1 h.2 (inr h))

module _ (g : Geometry) (session : ℕ) where
  -- whose call waits does not come to nothing
  never_nothing : (s : State) (first : Step) (vs : List Victim) (rounds : List (List Victim)) (new : State) → HasWaitingCall s session → Settles g s session first (vs ∷ rounds) Nothing new → ⊥
  never_nothing s first vs rounds new w (a, at, broken, of, is, victims, (inl (over, (inl still)))) = let clash : Nothing ≡ Waits (Lock at) = still.2 ∙ is in cc
  never_nothing s first vs rounds new w (a, at, broken, of, is, victims, (inl (over, (inr (inl told))))) = let clash : Nothing ≡ Refused (Deadlock told.cycle) = told.told in cc
  never_nothing s first vs rounds new w (a, at, broken, of, is, victims, (inl (over, (inr (inr back))))) = let clash : Nothing ≡ Refused Memory = back.1.0 in cc
  never_nothing s first vs [] new w (a, at, broken, of, is, victims, (inr (next, mid, free, resumes, ends))) =
      let waits = victims_leave_waiting session s a.txn vs broken victims w in
      resume_to_nothing g broken mid session (subst (λ (x : Step). ResumeStep g broken session x mid) (sym ends.1) resumes) waits.0 waits.1 waits.2
  never_nothing s first vs (us ∷ rounds) new w (a, at, broken, of, is, victims, (inr (next, mid, free, resumes, ends))) =
      let anew : ResumeStep g broken session (Waits (Lock ends.1)) mid = subst (λ (x : Step). ResumeStep g broken session x mid) ends.4 resumes in
      never_nothing mid next us rounds new (resume_leaves_waiting g broken mid session ends.1 anew) ends

  call_to_nothing : (s new : State) (c : Call) → SettledCall g s session c Nothing new → ⊥
  call_to_nothing s new c h = by h.rounds h.settles
    where
      by : (rounds : List (List Victim)) → Settles g h.mid session h.first rounds Nothing new → ⊥
      by [] k = call_nothing g s h.mid session c (subst (λ (x : Step). CallStep g s session c x h.mid) (sym k.1) h.calls)
      by (vs ∷ rounds) k =
          let waits = call_waits_at g s session c h.first h.mid h.calls k.1 k.4 in
          never_nothing h.mid h.first vs rounds new (waits.waits.waited, waits.waits.there, waits.waits.of) k

  settled_to_nothing : (s new : State) → SettledResume g s session Nothing new → DoesNotWait s session
  settled_to_nothing s new (inl told) = let clash : Nothing ≡ Refused (Deadlock told.cycle) = told.told in absurd cc
  settled_to_nothing s new (inr (inl (step, same))) = resume_to_nothing g s new session step
  settled_to_nothing s new (inr (inr on)) = by on.rounds on.settles
    where
      by : (rounds : List (List Victim)) → Settles g on.mid session on.first rounds Nothing new → DoesNotWait s session
      by [] k = resume_to_nothing g s on.mid session (subst (λ (x : Step). ResumeStep g s session x on.mid) (sym k.1) on.resumes)
      by (vs ∷ rounds) k =
          let anew : ResumeStep g s session (Waits (Lock k.1)) on.mid = subst (λ (x : Step). ResumeStep g s session x on.mid) k.4 on.resumes in
          absurd (never_nothing on.mid on.first vs rounds new (resume_leaves_waiting g s on.mid session k.1 anew) k)

-- ---- a flush of some pages

some_due : {D : Type 0} {G : Ghosts D} (old new : Pool D G) (durable count : ℕ) → 0 < count → Flushes old new durable count → NoneDue old durable → ⊥
some_due old new durable count some h none = by h.pages h.count_is (recursion_from_All (λ k. IsSomeAnd (pools.frame_at old k) (IsDue durable)) h.pages h.due)
  where
    one : (k : ℕ) (o : Option Frame) → pools.frame_at old k ≡ o → IsSomeAnd o (IsDue durable) → ⊥
    one k None is due = due
    one k (Some f) is due = none k f is due

    by : (pages : List ℕ) → length pages ≡ count → AllByRecursion (λ k. IsSomeAnd (pools.frame_at old k) (IsDue durable)) pages → ⊥
    by [] is all = omega (arith, some, is)
    by (k ∷ pages) is all = one k (pools.frame_at old k) refl all.0

-- ---- of a manager

module _ {L V : Type 0} {G : Ghosts L} {H : Ghosts V} (w : World L V G H) (o : Opening) (es : List Entry) (ws : List (ℕ × Call)) (k : IsManagerOf w o es ws) where
  abbrev s : State
  s = k.now.state

  is_failed : IsTrue s.failed → IsTrue (failed_in w)
  is_failed failed = subst (λ (b : Bool). IsTrue b) (seen w o es ws k).failed failed

  is_running : s.failed ≡ false → failed_in w ≡ false
  is_running runs = sym (seen w o es ws k).failed ∙ runs

  -- the log has room for what waits
  room : HasForceRoom w
  room = record {
    log_front = k.log_front;
    kept = k.at.log;
    room = has_room (geometry_in w) (stream_bytes_in w) o k.found (take 512 k.log_front) k.front es w k.now (as_up w o es ws k);
  }

  not_idle : (n : ℕ) → w.log.staged ≡ None → durable_in w < n → n ≤ last_in w → IsIdle w → ⊥
  not_idle n none above within (inl staged) = some_stands w.log.staged staged none
  not_idle n none above within (inr durable) = omega (arith, above, within, durable)

  refused_so : (f : Fault) (later : State) → ForceRefused s f later → (Refused f ≡ Refused LogFull → ⊥) → HasFailedStep w (Refused f)
  refused_so f later (inl h) unfull = inl (is_failed h.0, ap (λ (x : Fault). Refused x) h.1)
  refused_so f later (inr (inl h)) unfull = inr (is_running h.0, ap (λ (x : Fault). Refused x) h.1)
  refused_so f later (inr (inr (runs, full, same))) unfull = absurd (unfull (ap (λ (x : Fault). Refused x) full))

  stages_so : (step : Step) (new : World L V G H) (later : State) → Steps w event.ForceStage step new → EventStep (geometry_in w) s event.ForceStage step later
      → HasFailedStep w step ⊎ StagesIfAny w step new
  stages_so (Done (Staged n)) new later one h =
      let staged = one.staged n refl refl in
      let above : durable_in w < n = subst (λ (m : ℕ). m < n) (seen w o es ws k).durable h.1 in
      let within : n ≤ last_in w = subst (λ (m : ℕ). n ≤ m) (log_long w s k.at.is_in.beside) h.2 in
      inr (inr (not_idle n staged.none_before above within, (n, refl, above, within, staged)))
  stages_so Nothing new later one h = inr (inl (one.idle refl refl, refl))
  stages_so (Refused f) new later one h = inl (refused_so f later h (λ full. one.full refl full room))
  stages_so step new later one h = absurd h

  pub stages : (step : Step) (new : World L V G H) → Steps w event.ForceStage step new → HasFailedStep w step ⊎ StagesIfAny w step new
  stages step new one = let went = stepped w o es ws k event.ForceStage step new tt one in stages_so step new went.on.manager.now.state one went.moves

  open_refused_so : (f : Fault) (later : State) → OpenRefused s f later → HasFailedStep w (Refused f)
  open_refused_so f later (inl h) = inl (is_failed h.0, ap (λ (x : Fault). Refused x) h.1)
  open_refused_so f later (inr h) = inr (is_running h.0, ap (λ (x : Fault). Refused x) h.1)

  opens_so : (step : Step) (new : World L V G H) (later : State) → durable_in new ≡ later.durable → Steps w event.ForceOpen step new
      → EventStep (geometry_in w) s event.ForceOpen step later → HasFailedStep w step ⊎ OpensIfAny w step new
  opens_so (Done (Forced n)) new later durable one h =
      inr (inr (
        n,
        refl,
        subst (λ (m : ℕ). m < n) (seen w o es ws k).durable h.1,
        subst (λ (m : ℕ). n ≤ m) (log_long w s k.at.is_in.beside) h.2,
        one.forced n refl refl,
        durable ∙ ap (λ (x : State). x.durable) h.3,
      ))
  opens_so Nothing new later durable one h = inr (inl (one.shut refl refl, refl))
  opens_so (Refused f) new later durable one h = inl (open_refused_so f later h)
  opens_so step new later durable one h = absurd h

  pub opens : (step : Step) (new : World L V G H) → Steps w event.ForceOpen step new → HasFailedStep w step ⊎ OpensIfAny w step new
  opens step new one =
      let went = stepped w o es ws k event.ForceOpen step new tt one in
      opens_so step new went.on.manager.now.state (sym (seen new o (es ++ went.on.made) (waited_behind ws event.ForceOpen step) went.on.manager).durable) one went.moves

  flushes_so : (step : Step) (new : World L V G H) (later : State) → FlushAnswers w.core step new.core → FlushMoves s step later → HasFailedStep w step ⊎ FlushesIfAny w step new
  flushes_so (Done answer) new later (count, some, is, flushes) h =
      inr (inr (some_due (pool_of (heap_of w.core)) (pool_of (heap_of new.core)) (durable_in w) count some flushes, (count, ap (λ (x : Answer). Done x) is, some, flushes)))
  flushes_so (Waits wait) new later answers h = absurd h
  flushes_so (Refused f) new later answers (inl h) = inl (inl (is_failed h.0, ap (λ (x : Fault). Refused x) h.1))
  flushes_so (Refused f) new later answers (inr (runs, device, is)) = inl (inr (is_running runs, ap (λ (x : Fault). Refused x) device))
  flushes_so Nothing new later answers h = inr (inl (answers.0, refl))

  pub flushes : (step : Step) (new : World L V G H) → Steps w event.FlushStep step new → HasFailedStep w step ⊎ FlushesIfAny w step new
  flushes step new one =
      let went = stepped w o es ws k event.FlushStep step new tt one in
      flushes_so step new went.on.manager.now.state (one.flushed refl).answers went.moves

  -- ---- nothing

  pub resumes_to_nothing : (session : ℕ) (step : Step) (new : World L V G H) → Steps w (event.Resume session) step new → (step ≡ Nothing) ↔ DoesNotWait s session
  resumes_to_nothing session step new one =
      let went = stepped w o es ws k (event.Resume session) step new tt one in
      let later = went.on.manager.now.state in (
        (λ nothing. settled_to_nothing (geometry_in w) session s later (subst (λ (x : Step). SettledResume (geometry_in w) s session x later) nothing went.moves)),
        (λ idle. nothing_waits (geometry_in w) o k.found es s k.under_way.under_way.state ws k.waited session step later idle went.moves),
      )

  pub calls_to_nothing : (session : ℕ) (c : Call) (new : World L V G H) → IsServedEvent (event.Call session c) → Steps w (event.Call session c) Nothing new → ⊥
  calls_to_nothing session c new served one =
      let went = stepped w o es ws k (event.Call session c) Nothing new served one in
      call_to_nothing (geometry_in w) session s went.on.manager.now.state c went.moves

  -- it is a manager of the same state
  abbrev IsSame : World L V G H → Type 0
  IsSame new = IsUnchanged w new × ((on : IsManagerOf new o es ws) × (on.now ≡ k.now))

  is_same : (new : World L V G H) → IsUnchanged w new → IsSame new
  is_same new same =
      let geometry : geometry_in new ≡ geometry_in w = ap (λ (p : Pool V H). pools.geometry_of p) same.pool in
      let long : stream_bytes_in new ≡ stream_bytes_in w = ap (λ (d : L). size (G.history d) - LOG_FRONT_BYTES) same.device in (
        same,
        (
          record {
            found = k.found;
            opening = k.opening;
            log_front = k.log_front;
            front = k.front;
            disk = k.disk;
            now = k.now;
            at = same.at k.log_front k.front k.disk k.now.state k.now.store k.at;
            log_labelled = log_front_stays (geometry_in w) (geometry_in new) (size (history_in w)) (size (history_in new)) k.log_front k.log_front geometry
                (ap (λ (d : L). size (G.history d)) same.device) refl k.log_labelled;
            volume_labelled = subst (λ (g : Geometry). IsVolumeFront g k.front) (sym geometry) k.volume_labelled;
            limit = k.limit ∙ ap (λ (g : Geometry). g.max_locks) (sym geometry);
            under_way = subst (λ (g : Geometry). IsAtCheckpoints g (stream_bytes_in new) o k.found es k.now) (sym geometry)
                (subst (λ n. IsAtCheckpoints (geometry_in w) n o k.found es k.now) (sym long) k.under_way);
            waited = k.waited;
            there = k.there;
            firsts = k.firsts;
            in_order = k.in_order;
          },
          refl,
        ),
      )

  pub stays_same : (e : Event) (new : World L V G H) → IsServedEvent e → Steps w e Nothing new → IsSame new
  stays_same (event.Call session c) new served one = absurd (calls_to_nothing session c new served one)
  stays_same (event.Resume session) new served one =
      is_same new (one.none session refl (none_waits w.core (before_in w s) s k.at.is_in.beside session ((resumes_to_nothing session Nothing new one).0 refl))).1
  stays_same (event.GiveUp session) new served one = is_same new (one.quiet tt refl)
  stays_same (event.Ask ticket) new served one = is_same new (one.quiet tt refl)
  stays_same event.ForceStage new served one = is_same new (one.quiet tt refl)
  stays_same event.ForceOpen new served one = is_same new (one.quiet tt refl)
  stays_same event.FlushStep new served one = is_same new (one.quiet tt refl)
  stays_same event.CheckpointStep new served one = is_same new (one.quiet tt refl)
  stays_same event.CutTrail new served one = is_same new (one.quiet tt refl)
