-- What comes to nothing has changed nothing.
use Rattle.std.proofs.Common.{◌≡◌, ◌≤◌, ◌++◌, ℕ, List, Bool, take, true, false, IsTrue, inl, inr, refl, sym, ◌∙◌, ap, subst, arith}
use Rattle.std.specs.Prelude.{◌↔◌}
use Rattle.shore_types.specs.declared.layout.Geometry.{Geometry}
use Rattle.shore_disk.specs.Device.{DeviceHistory, may_leave}
use Rattle.shore_disk.specs.declared.device.Disk.{Ghosts}
use Rattle.shore_disk.specs.Cause.{HasCause}
use Rattle.shore_types.specs.declared.faults.Fault.TheVariants.{Failed, NotQuiet}
use Rattle.shore_model.specs.declared.calls.Answer.TheVariants.{Cut, IsDurable}
use Rattle.shore_model.specs.declared.log_records.LogRecord.{LogRecord}
use Rattle.shore_model.specs.declared.step.Step.{Step}
use Rattle.shore_model.specs.declared.step.Step.TheVariants.{Done, Refused}
use Rattle.shore_log.specs.Settled.{cut_of_log, records_of_log}
use Rattle.shore_log.specs.declared.device.LogDev.{LogDev}
use Rattle.shore_pool.specs.Pools as pools
use Rattle.shore_pool.specs.declared.pool.Pool.{Pool}
use Rattle.shore_heap.specs.Heaps.{bounds_of, pool_of}
use Rattle.laws_calls.specs.CallSteps.{txn_count}
use Rattle.laws_calls.specs.States.{State}
use Rattle.laws_images.specs.Moments.{ShowsLeft}
use Rattle.laws_checkpoints.specs.CheckpointedStores.{CheckpointedStore}
use Rattle.laws_images.specs.StandsBehind.{anchored_by}
use Rattle.shore_check.specs.Stages as stages
use Rattle.shore_check.specs.declared.stage.Stage.{Stage}
use Rattle.shore_gate.specs.declared.anchors.Anchors.{Anchors}
use Rattle.shore_world.proofs.UnmovedLemmas.{same_in, same_over}
use Rattle.shore_core.specs.Replies.{Earns, NeedsForceIn, fault_at}
use Rattle.shore_core.specs.Trails.{AnswersCut, count_of}
use Rattle.shore_core.specs.Cores.{IsBeside, IsIn, IsOver, control_of, durable_of, faults_of, has_failed, heap_of, tail_of, waiting_of}
use Rattle.shore_world.specs.declared.event.Event.TheVariants as event
use Rattle.shore_world.specs.declared.world.World.{World}
use Rattle.shore_world.specs.Events.{ReadBy}
use Rattle.shore_world.specs.Worlds.{EventStep, IsInState, IsOverStore, IsUnchanged, Steps, SurvivesCrashes, anchors_in, before_in, durable_in, failed_in, geometry_in, list_in, report_in, volume_history_in}
use Rattle.shore_world.proofs.LogParts.{IsBesideOf}
use Rattle.shore_world.proofs.RunLemmas.{ask_is_no_cut, ask_is_no_flush, cut_is_no_ask, cut_is_no_flush, no_force, own_is_no_resume, same_ticket, same_volume}
use Rattle.shore_world.proofs.WorldLemmas.{kept_as_before, nothing_done, same_list}

-- ---- a world

module _ {L V : Type 0} {G : Ghosts L} {H : Ghosts V} where
  -- of which the parts that a crash may tell of are the same, and that is in the same states
  pub unchanged_of : (old new : World L V G H) → new.log.device ≡ old.log.device → pool_of (heap_of new.core) ≡ pool_of (heap_of old.core) → list_in new ≡ list_in old
      → durable_in new ≡ durable_in old → failed_in new ≡ failed_in old → new.log.staged ≡ old.log.staged → anchors_in new ≡ anchors_in old → new.stage ≡ old.stage → report_in new ≡ report_in old
      → ((front : List ℕ) → SurvivesCrashes old front → SurvivesCrashes new front)
      → ((front : List ℕ) (disk : ℕ → List ℕ) (s : State) → IsInState old front disk s → IsInState new front disk s)
      → ((disk : ℕ → List ℕ) (s : State) (store : CheckpointedStore) → IsOverStore old disk s store → IsOverStore new disk s store) → IsUnchanged old new
  unchanged_of old new device pool list durable failed staged anchors stage report kept is_in over =
      let geometry : geometry_in new ≡ geometry_in old = ap (λ (p : Pool V H). pools.geometry_of p) pool in
      let volume : volume_history_in new ≡ volume_history_in old = ap (λ (p : Pool V H). pools.history_of p) pool in
      record {
        at = λ log_front front disk s store at. record {
          is_in = is_in front disk s at.is_in;
          over = over disk s store at.over;
          log = kept log_front at.log;
          volume = λ c may. subst (λ (g : Geometry). ShowsLeft g front store.store c) (sym geometry) (at.volume c (subst (λ (h : DeviceHistory). may_leave h c) volume may));
          stage = subst (λ (t : Stage). stages.IsAt t store.stage) (sym stage) at.stage;
          anchored = at.anchored ∙ ap (λ (a : Anchors). anchored_by a.anchor) (sym anchors);
        };
        device = device;
        pool = pool;
        list = list;
        durable = durable;
        failed = failed;
        staged = staged;
        anchors = anchors;
        stage = stage;
        report = report;
      }

  pub unchanged_itself : (w : World L V G H) → IsUnchanged w w
  unchanged_itself w = record {
    at = λ log_front front disk s store at. at;
    device = refl;
    pool = refl;
    list = refl;
    durable = refl;
    failed = refl;
    staged = refl;
    anchors = refl;
    stage = refl;
    report = refl;
  }

  -- one with the same core and the same log device, and a checkpoint that has come as far
  pub unchanged_parts : (old new : World L V G H) → new.core ≡ old.core → new.log ≡ old.log → new.stage ≡ old.stage → report_in new ≡ report_in old → IsUnchanged old new
  unchanged_parts old new core log stage report =
      let list : list_in new ≡ list_in old =
      ap (λ (l : LogDev L G). records_of_log l ++ waiting_of new.core) log ∙ ap (λ c. records_of_log old.log ++ waiting_of c) core in
      unchanged_of old new (ap (λ (l : LogDev L G). l.device) log) (ap (λ c. pool_of (heap_of c)) core) list
      (ap durable_of core) (ap has_failed core) (ap (λ (l : LogDev L G). l.staged) log) (ap (λ (l : LogDev L G). l.anchors) log) stage report
      (kept_as_before old new log stage list (ap durable_of core) (λ run. sym (ap has_failed core) ∙ run))
      (λ front disk s is. subst (λ c. IsIn front disk (take (cut_of_log new.log) s.log ++ records_of_log new.log) c s) (sym core)
      (subst (λ (l : LogDev L G). IsIn front disk (take (cut_of_log l) s.log ++ records_of_log l) old.core s) (sym log) is))
      (λ disk s store over. subst (λ c. IsOver disk c s store) (sym core) over)

-- ---- a step of the flush

same_truth : (a b : Bool) → IsTrue a ↔ IsTrue b → a ≡ b
same_truth true true both = refl
same_truth true false both = sym (both.0 refl)
same_truth false true both = both.1 refl
same_truth false false both = refl

module _ {L V : Type 0} {G : Ghosts L} {H : Ghosts V} where
  pub flush_unchanged : (old new : World L V G H) → new.log ≡ old.log → new.stage ≡ old.stage → report_in new ≡ report_in old → tail_of new.core ≡ tail_of old.core → control_of new.core ≡ control_of old.core
      → durable_in new ≡ durable_in old → IsTrue (failed_in new) ↔ IsTrue (failed_in old) → pool_of (heap_of new.core) ≡ pool_of (heap_of old.core)
      → bounds_of (heap_of new.core) ≡ bounds_of (heap_of old.core) → IsUnchanged old new
  flush_unchanged old new log stage report tails control durable fails pool bounds =
      let failed = same_truth (failed_in new) (failed_in old) fails in
      let list = same_list (records_of_log old.log) (records_of_log new.log) old.core new.core (ap (λ (l : LogDev L G). records_of_log l) log) tails in
      unchanged_of old new (ap (λ (l : LogDev L G). l.device) log) pool list durable failed
      (ap (λ (l : LogDev L G). l.staged) log) (ap (λ (l : LogDev L G). l.anchors) log) stage report
      (kept_as_before old new log stage list durable (λ run. sym failed ∙ run))
      (λ front disk s is. same_in old.core new.core pool bounds tails control durable failed front disk (take (cut_of_log new.log) s.log ++ records_of_log new.log) s
      (subst (λ (l : LogDev L G). IsIn front disk (take (cut_of_log l) s.log ++ records_of_log l) old.core s) (sym log) is))
      (same_over old.core new.core pool bounds)

-- ---- an ask

-- it is answered, and that is all
module _ {L V : Type 0} {G : Ghosts L} {H : Ghosts V} (w : World L V G H) (ticket : ℕ) where
  answered_so : (answer : Bool) → ((answer ≡ true) ↔ (ticket ≤ durable_in w)) → Steps w (event.Ask ticket) (Done (IsDurable answer)) w
  answered_so answer is =
      no_force w w (event.Ask ticket) (Done (IsDurable answer)) tt refl refl
      (nothing_done w (event.Ask ticket) (Done (IsDurable answer)) (λ is. is) (ask_is_no_flush ticket)
      (λ s at. (subst (λ n. (answer ≡ true) ↔ (ticket ≤ n)) (sym at.parts.durable_is) is, refl)))
      (same_volume w.core w.core refl) (λ flush. absurd (ask_is_no_flush ticket flush)) (λ front disk holds. tt) (λ front disk holds. tt)
      (record { no_lower = omega arith; reported = λ told. absurd cc; unreported = λ other. refl }) (λ own nothing. let clash = nothing in absurd cc)
      (λ session resume. absurd (own_is_no_resume (event.Ask ticket) session tt resume))
      (λ n same. (answer, refl, subst (λ n. (answer ≡ true) ↔ (n ≤ durable_in w)) (same_ticket ticket n same) is, unchanged_itself w))
      (λ cut. absurd (ask_is_no_cut ticket cut))

  pub ask_steps : (step : Step) → (answer : Bool) × (step ≡ Done (IsDurable answer)) × ((answer ≡ true) ↔ (ticket ≤ durable_in w)) → Steps w (event.Ask ticket) step w
  ask_steps step (answer, same, is) = subst (λ (x : Step). Steps w (event.Ask ticket) x w) (sym same) (answered_so answer is)

-- ---- a cut of the trail

-- it is answered, and that is all
module _ {L V : Type 0} {G : Ghosts L} {H : Ghosts V} (w : World L V G H)
    (counts : (before : List LogRecord) (s : State) → IsBeside before w.core s → s.failed ≡ false → txn_count s ≡ count_of w.core) where
  cut_so : (step : Step) → ((s : State) → IsBesideOf w s → EventStep (geometry_in w) s event.CutTrail step s) → Earns w.core (ReadBy w.core event.CutTrail) (fault_at step)
      → NeedsForceIn w.core w.core (fault_at step) → HasCause (fault_at step) (faults_of w.core) (faults_of w.core) → AnswersCut w.core step → Steps w event.CutTrail step w
  cut_so step moves earned unforced cause answers =
      no_force w w event.CutTrail step tt refl refl (nothing_done w event.CutTrail step (λ is. is) cut_is_no_flush moves) (same_volume w.core w.core refl)
      (λ flush. absurd (cut_is_no_flush flush)) earned unforced cause (λ own nothing. unchanged_itself w)
      (λ session resume. absurd (own_is_no_resume event.CutTrail session tt resume)) (λ ticket ask. absurd (cut_is_no_ask ticket ask)) (λ cut. (answers, unchanged_itself w))

  pub cut_steps : (step : Step) → AnswersCut w.core step → Steps w event.CutTrail step w
  cut_steps step (inl (failed, same)) =
      subst (λ (x : Step). Steps w event.CutTrail x w) (sym same)
      (cut_so (Refused Failed) (λ s at. (inl (at.parts.failed_is ∙ failed, refl), refl)) (λ front disk holds d offset is. absurd cc) (λ front disk holds n is. absurd cc)
      (record { no_lower = omega arith; reported = λ told. absurd cc; unreported = λ other. refl }) (inl (failed, refl)))
  cut_steps step (inr (inl (running, none, same))) =
      subst (λ (x : Step). Steps w event.CutTrail x w) (sym same)
      (cut_so (Done Cut) (λ s at. let works = at.parts.failed_is ∙ running in (works, counts (before_in w s) s at works ∙ none, refl)) (λ front disk holds. tt) (λ front disk holds. tt)
      (record { no_lower = omega arith; reported = λ told. absurd cc; unreported = λ other. refl }) (inr (inl (running, none, refl))))
  cut_steps step (inr (inr (running, some, same))) =
      subst (λ (x : Step). Steps w event.CutTrail x w) (sym same)
      (cut_so (Refused NotQuiet) (λ s at. let works = at.parts.failed_is ∙ running in (inr (works, omega (arith, some, counts (before_in w s) s at works), refl), refl))
      (λ front disk holds d offset is. absurd cc) (λ front disk holds n is. absurd cc)
      (record { no_lower = omega arith; reported = λ told. absurd cc; unreported = λ other. refl }) (inr (inr (running, some, refl))))
