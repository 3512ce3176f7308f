-- What calls of the core that touch the volume alone make of a world: a call of a session, a wait that is taken back, and a step of the flush.
use Rattle.std.proofs.Common.{◌≡◌, inl, inr, ℕ, IsTrue, List, false, true, sym, ap, subst, ◌∙◌}
use Rattle.shore_disk.specs.declared.device.Disk.{Ghosts}
use Rattle.shore_log.specs.Settled.{cut_of_log, records_of_log}
use Rattle.shore_log.specs.declared.device.LogDev.{LogDev}
use Rattle.shore_model.specs.declared.calls.Call.{Call}
use Rattle.shore_model.specs.declared.log_records.LogRecord.{LogRecord}
use Rattle.laws_calls.specs.States.{State}
use Rattle.shore_model.specs.declared.step.Step.{Step}
use Rattle.laws_checkpoints.specs.CheckpointedStores.{CheckpointedStore}
use Rattle.shore_core.specs.Cores as cores
use Rattle.shore_core.specs.Cores.{IsKept, heap_of, tail_of, waiting_of}
use Rattle.shore_core.specs.Flushing.{AreFlushes, FlushSteps}
use Rattle.shore_core.specs.Replies.{GaveUp, InEach, MayLeave, Resumed, Stepped}
use Rattle.shore_world.specs.declared.event.Event.TheVariants as event
use Rattle.shore_world.specs.declared.world.World.{World}
use Rattle.shore_world.specs.Worlds.{EventMovesWorld, anchors_in, before_in, cut_in, durable_in, failed_in, geometry_in}
use Rattle.shore_world.proofs.GrowLemmas.{call_grows, failed_call_stays, failed_resume_keeps, flush_same, give_up_grows, given_up_same, kept_same, resume_grows}
use Rattle.shore_world.proofs.LogParts.{IsBesideOf, before_stays}
use Rattle.shore_world.proofs.RunLemmas.{call_is_no_flush, give_up_is_no_flush, resume_is_no_flush}
use Rattle.shore_world.proofs.VolumeLemmas.{comes_worked, comes_written, runs_or_failed, volume_alone, volume_written, written_flushes}
use Rattle.shore_world.proofs.WorldLemmas.{grown_kept, kept_as_before, same_list}

module _ {L V : Type 0} {G : Ghosts L} {H : Ghosts V} where
  -- what a core comes to beside the same log device is what its world does
  pub comes_beside : (old new : World L V G H) (s later : State) (front : List ℕ) (store : CheckpointedStore) → IsBesideOf old s → new.log ≡ old.log
      → cores.CoreComesTo new.core front (before_in old s) store later → cores.CoreComesTo new.core front (before_in new later) store later
  comes_beside old new s later front store is log comes =
      subst (λ (b : List LogRecord). cores.CoreComesTo new.core front b store later) (sym (before_stays old new s later is (waiting_of new.core) comes.is_in.beside.parts.log log)) comes

  same_cut : (old new : World L V G H) → new.log ≡ old.log → cut_in new ≡ cut_in old
  same_cut old new log = ap (λ (l : LogDev L G). cut_of_log l) log

  same_anchors : (old new : World L V G H) → new.log ≡ old.log → anchors_in new ≡ anchors_in old
  same_anchors old new log = ap (λ (l : LogDev L G). l.anchors) log

  -- a call of a session
  pub call_moves : (old new : World L V G H) (session : ℕ) (c : Call) (step : Step) → geometry_in new ≡ geometry_in old → new.log ≡ old.log → new.stage ≡ old.stage
      → InEach (λ front disk before s store. Stepped session c step old.core new.core front before s store) old.core
      → MayLeave old.core new.core → (IsTrue (failed_in old) → heap_of new.core ≡ heap_of old.core) → durable_in new ≡ durable_in old
      → EventMovesWorld old (event.Call session c) step new
  call_moves old new session c step geometry log stage steps leaves still durable = record {
    geometry = geometry;
    state = λ log_front front disk s store at safe may.
        let stepped = steps front disk (before_in old s) s store at.is_in safe at.over in
        let comes = comes_beside old new s stepped.later front store at.is_in.beside log stepped.comes in
        let grows = call_grows old new s stepped.later session c step at.is_in.beside comes.is_in.beside (same_cut old new log) stepped.moves durable in
        let kept = grown_kept old new log stage grows log_front at.log in
        let wrote = volume_written old new leaves still log_front front disk s store at in
        let anchors = same_anchors old new log in
        inl (record {
          beside = λ is. is;
          later = stepped.later;
          moves = stepped.moves;
          flushes = λ is. absurd (call_is_no_flush (event.Call session c) tt is);
          comes = elim (runs_or_failed s.failed) [
            | inl runs ↦ comes_worked old new geometry stage anchors log_front front disk s store at wrote kept stepped.later comes (stepped.fails (sym at.is_in.beside.parts.failed_is ∙ runs))
            | inr fails ↦
                comes_written old new geometry stage anchors log_front front disk s store at wrote kept stepped.later comes
                (λ failed. subst (λ (x : State). IsKept x store) (sym (failed_call_stays (geometry_in old) s session c step stepped.later stepped.moves fails)) at.over.kept)
          ];
        });
    any_moment = volume_alone old new (ap (λ (l : LogDev L G). G.history l.device) log) leaves still;
  }

  -- the resume of one
  pub resume_moves : (old new : World L V G H) (session : ℕ) (step : Step) → geometry_in new ≡ geometry_in old → new.log ≡ old.log → new.stage ≡ old.stage
      → InEach (λ front disk before s store. Resumed session step old.core new.core front before s store) old.core
      → MayLeave old.core new.core → (IsTrue (failed_in old) → heap_of new.core ≡ heap_of old.core) → durable_in new ≡ durable_in old
      → EventMovesWorld old (event.Resume session) step new
  resume_moves old new session step geometry log stage steps leaves still durable = record {
    geometry = geometry;
    state = λ log_front front disk s store at safe may.
        let resumed = steps front disk (before_in old s) s store at.is_in safe at.over in
        let comes = comes_beside old new s resumed.later front store at.is_in.beside log resumed.comes in
        let grows = resume_grows old new s resumed.later session step at.is_in.beside comes.is_in.beside (same_cut old new log) resumed.moves durable in
        let kept = grown_kept old new log stage grows log_front at.log in
        inl (record {
          beside = λ is. is;
          later = resumed.later;
          moves = resumed.moves;
          flushes = λ is. absurd (resume_is_no_flush session is);
          comes = comes_written old new geometry stage (same_anchors old new log) log_front front disk s store at (volume_written old new leaves still log_front front disk s store at) kept resumed.later comes
              (λ failed. kept_same s resumed.later store (failed_resume_keeps (geometry_in old) s session step resumed.later resumed.moves failed) at.over.kept);
        });
    any_moment = volume_alone old new (ap (λ (l : LogDev L G). G.history l.device) log) leaves still;
  }

  -- a wait that is to be taken back
  pub give_up_moves : (old new : World L V G H) (session : ℕ) (step : Step) → geometry_in new ≡ geometry_in old → new.log ≡ old.log → new.stage ≡ old.stage
      → InEach (λ front disk before s store. GaveUp session step old.core new.core front before s store) old.core
      → MayLeave old.core new.core → heap_of new.core ≡ heap_of old.core → durable_in new ≡ durable_in old
      → EventMovesWorld old (event.GiveUp session) step new
  give_up_moves old new session step geometry log stage steps leaves still durable = record {
    geometry = geometry;
    state = λ log_front front disk s store at safe may.
        let given = steps front disk (before_in old s) s store at.is_in safe at.over in
        let comes = comes_beside old new s given.later front store at.is_in.beside log given.comes in
        let same = given_up_same s session step given.later given.moves in
        let grows = give_up_grows old new s given.later session step at.is_in.beside comes.is_in.beside (same_cut old new log) given.moves durable in
        let kept = grown_kept old new log stage grows log_front at.log in
        inl (record {
          beside = λ is. is;
          later = given.later;
          moves = given.moves;
          flushes = λ is. absurd (give_up_is_no_flush session is);
          comes = comes_written old new geometry stage (same_anchors old new log) log_front front disk s store at (volume_written old new leaves (λ fails. still) log_front front disk s store at) kept
              given.later comes (λ failed. kept_same s given.later store same at.over.kept);
        });
    any_moment = volume_alone old new (ap (λ (l : LogDev L G). G.history l.device) log) leaves (λ fails. still);
  }

  -- a step of the flush
  pub flush_moves : (old new : World L V G H) (step : Step) → geometry_in new ≡ geometry_in old → new.log ≡ old.log → new.stage ≡ old.stage → tail_of new.core ≡ tail_of old.core
      → InEach (λ front disk before s store. FlushSteps step new.core front before s store) old.core
      → MayLeave old.core new.core → (IsTrue (failed_in old) → heap_of new.core ≡ heap_of old.core) → durable_in new ≡ durable_in old
      → (failed_in new ≡ false → failed_in old ≡ false) → EventMovesWorld old event.FlushStep step new
  flush_moves old new step geometry log stage tails steps leaves still durable running = record {
    geometry = geometry;
    state = λ log_front front disk s store at safe may.
        let stepped = steps front disk (before_in old s) s store at.is_in safe at.over in
        let come = subst (λ (b : List LogRecord). (comes : cores.CoreComesTo new.core front b store stepped.later) × AreFlushes comes.works)
        (sym (before_stays old new s stepped.later at.is_in.beside (waiting_of new.core) stepped.comes.is_in.beside.parts.log log)) (stepped.comes, stepped.flushes) in
        let list = same_list (records_of_log old.log) (records_of_log new.log) old.core new.core (ap (λ (l : LogDev L G). records_of_log l) log) tails in
        let kept = kept_as_before old new log stage list durable running log_front at.log in
        let wrote = volume_written old new leaves still log_front front disk s store at in
        let fails : stepped.later.failed ≡ true → IsKept stepped.later store = λ failed. kept_same s stepped.later store (flush_same s step stepped.later stepped.moves) at.over.kept in
        inl (record {
          beside = λ is. is;
          later = stepped.later;
          moves = stepped.moves;
          comes = comes_written old new geometry stage (same_anchors old new log) log_front front disk s store at wrote kept stepped.later come.0 fails;
          flushes = λ is. written_flushes old new geometry stage (same_anchors old new log) log_front front disk s store at wrote kept stepped.later come.0 fails come.1;
        });
    any_moment = volume_alone old new (ap (λ (l : LogDev L G). G.history l.device) log) leaves still;
  }
