use Rattle.std.proofs.Common.{◌≡◌, ◌⊎◌, ℕ, inl, inr, IsTrue, refl, sym, ap, subst}
use Rattle.std.specs.Prelude.{◌↔◌, IsErrAnd}
use Rattle.shore_types.specs.declared.faults.Fault.TheVariants as fault
use Rattle.shore_heap.specs.Heaps as heaps
use Rattle.shore_model.specs.declared.step.Step.{Step}
use Rattle.shore_core.specs.Cores.{has_failed}
use Rattle.shore_core.specs.Flushing.{FlushAnswers}
use Rattle.shore_core.specs.Replies.{fault_at}
use Rattle.shore_core.specs.Resumes.{NoneWaits}
use Rattle.shore_world.specs.declared.event.Event.TheVariants as event
use Rattle.shore_world.proofs.CallLemmas.{call_moves, flush_moves, give_up_moves, resume_moves}
use Rattle.shore_world.proofs.DumpLemmas.{never_true}
use Rattle.shore_world.proofs.RunLemmas.{checkpoint_is_no_ask, checkpoint_is_no_flush, checkpoint_is_no_open, checkpoint_is_no_stage, call_is_no_ask, call_is_no_cut, call_is_no_flush, call_is_no_resume, flush_asks_nothing, flush_faults, flush_is_no_ask, flush_is_no_cut, flush_says_nothing, force_is_no_ask, give_up_is_no_ask, give_up_is_no_cut, give_up_is_no_flush, log_cause, no_force, open_is_no_flush, open_is_no_stage, other_is_no_cut, own_is_no_resume, resume_is_no_ask, resume_is_no_cut, resume_is_no_flush, same_session, same_volume, stage_is_no_flush, stage_is_no_open}
use Rattle.shore_world.proofs.UnchangedLemmas.{ask_steps, cut_steps, flush_unchanged, unchanged_parts}
use Rattle.shore_world.proofs.WorldLemmas.{failed_runs}
use Rattle.shore_world.specs.Worlds.{failed_in}
use Rattle.shore_world.proofs.world.World.step.Goals as goal

-- what failed before, or never
or_none : {A : Type 0} → A ⊎ ⊥ → A
or_none (inl was) = was
or_none (inr never) = absurd never

pub returns-in-Call : goal.returns-in-Call
returns-in-Call g c =
    let old = c.args.self.now in
    let e = c.call.ensures in
    rw c.in-Call.is (
    no_force old _ _ _ tt refl refl (call_moves old _ _ _ _ e.serves.volume.geometry refl refl e.step e.serves.any_moment e.still e.serves.durable) e.serves.volume
    (λ is. absurd (call_is_no_flush (event.Call c.in-Call.session c.in-Call.call) tt is)) e.serves.damaged e.serves.forced e.serves.cause
    (λ own. absurd own) (λ session is. absurd (call_is_no_resume (event.Call c.in-Call.session c.in-Call.call) session tt is))
    (λ ticket is. absurd (call_is_no_ask (event.Call c.in-Call.session c.in-Call.call) ticket tt is))
    (λ is. absurd (call_is_no_cut (event.Call c.in-Call.session c.in-Call.call) tt is)))

pub returns-in-Resume : goal.returns-in-Resume
returns-in-Resume g c =
    let old = c.args.self.now in
    let e = c.resume.ensures in
    rw c.in-Resume.is (
    no_force old _ _ _ tt refl refl (resume_moves old _ _ _ e.serves.volume.geometry refl refl e.step e.serves.any_moment e.still e.serves.durable) e.serves.volume
    (λ is. absurd (resume_is_no_flush c.in-Resume.session is)) e.serves.damaged e.serves.forced e.serves.cause (λ own. absurd own)
    (λ session is idle.
    let nothing = e.none (subst (λ (n : ℕ). NoneWaits old.core n) (sym (same_session c.in-Resume.session session is)) idle) in
    (nothing.0, unchanged_parts old _ nothing.1 refl refl refl))
    (λ ticket is. absurd (resume_is_no_ask c.in-Resume.session ticket is)) (λ is. absurd (resume_is_no_cut c.in-Resume.session is)))

pub returns-in-GiveUp : goal.returns-in-GiveUp
returns-in-GiveUp g c =
    let old = c.args.self.now in
    let e = c.give_up.ensures in
    rw c.in-GiveUp.is (
    no_force old _ _ _ tt refl refl (give_up_moves old _ _ _ e.serves.volume.geometry refl refl e.step e.serves.any_moment e.heap e.serves.durable) e.serves.volume
    (λ is. absurd (give_up_is_no_flush c.in-GiveUp.session is)) e.serves.damaged e.serves.forced e.serves.cause
    (λ own nothing. unchanged_parts old _ (e.nothing nothing) refl refl refl)
    (λ session is. absurd (own_is_no_resume (event.GiveUp c.in-GiveUp.session) session tt is))
    (λ ticket is. absurd (give_up_is_no_ask c.in-GiveUp.session ticket is)) (λ is. absurd (give_up_is_no_cut c.in-GiveUp.session is)))

pub returns-in-Ask : goal.returns-in-Ask
returns-in-Ask g c = rw c.in-Ask.is (ask_steps c.args.self.now c.in-Ask.ticket c.ask.result c.ask.ensures.answered)

pub returns-in-CutTrail : goal.returns-in-CutTrail
returns-in-CutTrail g c = rw c.in-CutTrail.is (cut_steps c.args.self.now c.cut_trail.ensures.count c.cut_trail.result c.cut_trail.ensures.answers)

pub returns-in-ForceStage : goal.returns-in-ForceStage
returns-in-ForceStage g c =
    let e = c.force_stage.ensures in
    rw c.in-ForceStage.is (record {
      moves = e.moves;
      still = λ is. absurd is;
      volume = λ is. e.volume;
      unmoved = λ is. absurd is;
      anchors = inl e.anchors;
      same = same_volume _ _ e.volume;
      staged = λ n is done. e.staged n done;
      forced = λ n is done. absurd (stage_is_no_open is);
      idle = λ is nothing. e.idle nothing;
      shut = λ is nothing. absurd (stage_is_no_open is);
      quiet = λ own nothing. e.quiet nothing;
      none = λ session is. absurd (own_is_no_resume _ session tt is);
      asked = λ ticket is. absurd (force_is_no_ask _ ticket tt is);
      cut = λ is. absurd (other_is_no_cut _ (inl tt) is);
      full = λ is refused. e.full refused;
      flushed = λ is. absurd (stage_is_no_flush is);
      moved = λ is. absurd is;
      full_begin = λ is. absurd is;
      roomy_begin = λ n is. absurd is;
      no_memory = λ is. absurd is;
      force_no_memory = λ is memory. e.no_memory memory;
      report = e.report;
      damaged = e.damaged;
      unforced = e.unforced;
      cause = log_cause c.force_stage.result _ _ _ _ (ap heaps.faults_of e.volume) e.cause;
    })

pub returns-in-ForceOpen : goal.returns-in-ForceOpen
returns-in-ForceOpen g c =
    let e = c.force_open.ensures in
    rw c.in-ForceOpen.is (record {
      moves = e.moves;
      still = λ is. absurd is;
      volume = λ is. e.volume;
      unmoved = λ is. absurd is;
      anchors = inl e.anchors;
      same = same_volume _ _ e.volume;
      staged = λ n is. absurd (open_is_no_stage is);
      forced = λ n is done. e.forced n done;
      idle = λ is. absurd (open_is_no_stage is);
      shut = λ is nothing. e.shut nothing;
      quiet = λ own nothing. e.quiet nothing;
      none = λ session is. absurd (own_is_no_resume _ session tt is);
      asked = λ ticket is. absurd (force_is_no_ask _ ticket tt is);
      cut = λ is. absurd (other_is_no_cut _ (inl tt) is);
      full = λ is. absurd (open_is_no_stage is);
      flushed = λ is. absurd (open_is_no_flush is);
      moved = λ is. absurd is;
      full_begin = λ is. absurd is;
      roomy_begin = λ n is. absurd is;
      no_memory = λ is. absurd is;
      force_no_memory = λ is memory. e.no_memory memory;
      report = e.report;
      damaged = e.damaged;
      unforced = e.unforced;
      cause = log_cause c.force_open.result _ _ _ _ (ap heaps.faults_of e.volume) e.cause;
    })

pub returns-in-FlushStep : goal.returns-in-FlushStep
returns-in-FlushStep g c =
    let old = c.args.self.now in
    let e = c.flush_step.ensures in
    let faults = flush_faults old.core c.flush_step.new.self c.flush_step.result e.answers in
    rw c.in-FlushStep.is (
    no_force old _ _ _ tt refl refl
    (flush_moves old _ _ e.serves.volume.geometry refl refl e.tail e.step e.serves.any_moment e.still e.serves.durable (λ run. never_true (failed_in old) (λ before. failed_runs _ (e.fails.1 (inl before)) run)))
    e.serves.volume (λ is. record { answers = e.answers; written = e.written }) (flush_says_nothing old event.FlushStep _ faults) (flush_asks_nothing old _ faults) e.serves.cause
    (λ own nothing.
    let answers = subst (λ (x : Step). FlushAnswers old.core x c.flush_step.new.self) nothing e.answers in
    let fails = subst (λ (x : Step). IsTrue (has_failed c.flush_step.new.self) ↔ (IsTrue (has_failed old.core) ⊎ IsErrAnd (fault_at x) (λ f. f ≡ fault.Device))) nothing e.fails in
    flush_unchanged old _ refl refl refl e.tail e.control e.serves.durable ((λ yes. or_none (fails.0 yes)), (λ was. fails.1 (inl was))) answers.1 answers.2)
    (λ session is. absurd (own_is_no_resume event.FlushStep session tt is)) (λ ticket is. absurd (flush_is_no_ask ticket is)) (λ is. absurd (flush_is_no_cut is)))

pub returns-in-CheckpointStep : goal.returns-in-CheckpointStep
returns-in-CheckpointStep g c =
    let e = c.checkpoint_step.ensures in
    rw c.in-CheckpointStep.is (record {
      moves = e.moves;
      still = λ is. absurd is;
      volume = λ is. e.volume;
      unmoved = λ is. e.unmoved;
      anchors = elim e.anchors [ inl same ↦ inl same | inr moved ↦ inr (tt, moved) ];
      same = same_volume _ _ e.volume;
      staged = λ n is. absurd (checkpoint_is_no_stage is);
      forced = λ n is. absurd (checkpoint_is_no_open is);
      idle = λ is. absurd (checkpoint_is_no_stage is);
      shut = λ is. absurd (checkpoint_is_no_open is);
      quiet = λ own nothing. e.quiet nothing;
      none = λ session is. absurd (own_is_no_resume _ session tt is);
      asked = λ ticket is. absurd (checkpoint_is_no_ask ticket is);
      cut = λ is. absurd (other_is_no_cut _ (inr tt) is);
      full = λ is. absurd (checkpoint_is_no_stage is);
      flushed = λ is. absurd (checkpoint_is_no_flush is);
      moved = λ is done. e.moved done;
      full_begin = λ is refused. e.full refused;
      roomy_begin = λ n is done. e.roomy n done;
      no_memory = λ is begun memory. e.no_memory begun memory;
      force_no_memory = λ is. absurd is;
      report = e.report;
      damaged = e.damaged;
      unforced = e.unforced;
      cause = log_cause c.checkpoint_step.result _ _ _ _ (ap heaps.faults_of e.volume) e.cause;
    })
