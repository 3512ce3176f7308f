use Rattle.std.proofs.Common.{◌≡◌, inl, inr, refl, sym, ap, subst, ◌∙◌, arith}
use Rattle.shore_types.specs.declared.faults.Fault.{Fault}
use Rattle.shore_types.specs.declared.faults.Fault.TheVariants as fault
use Rattle.shore_model.specs.declared.calls.Answer.{Answer}
use Rattle.shore_model.specs.declared.step.Step.TheVariants.{Done, Nothing, Refused}
use Rattle.shore_check.specs.declared.stage.Begun.{Begun}
use Rattle.shore_check.specs.declared.stage.Ended.{Ended}
use Rattle.shore_check.specs.declared.stage.Named.{Named}
use Rattle.shore_check.specs.declared.stage.Stage.{Stage}
use Rattle.shore_check.specs.declared.stage.Stage.TheVariants as stage
use Rattle.laws_runs.specs.CheckpointSteps.{CheckpointMoves, awaited}
use Rattle.shore_check.specs.declared.stage.Mark.{Mark}
use Rattle.shore_core.specs.declared.checkpointing.CheckpointStep.TheVariants.{Made, Move}
use Rattle.shore_core.proofs.CheckpointFull.{begins_from, begun_none, ended_none, full_none, made_is, no_move}
use Rattle.shore_core.specs.Checkpointing.{KeepsFor, MayGoOn, with_store}
use Rattle.shore_core.specs.Cores.{told_of}
use Rattle.shore_core.proofs.core_calls.Core.checkpoint_step.Goals as goal

pub returns-then-self-clause-step : goal.returns-then-self-clause-step
returns-then-self-clause-step g c tail place groups holds front disk before s store is safe over kept may = record {
  later = with_store s store;
  moves = inl (is.beside.parts.failed_is ∙ c.if-self.true, refl, refl);
  comes = record { is_in = is; over = over; at = may.at };
}

pub returns-in-Resting-clause-step : goal.returns-in-Resting-clause-step
returns-in-Resting-clause-step g c tail place groups holds front disk before s store is safe over kept may =
    let may_begin = subst (λ (x : Stage). MayGoOn x (with_store s store)) (sym c.replace.ensures.value ∙ c.in-Resting.is) may in
    c.begin_checkpoint.ensures.step c.if-self.false tail place groups holds front disk before s store is safe over kept may_begin

pub returns-in-Begun-clause-step : goal.returns-in-Begun-clause-step
returns-in-Begun-clause-step g c tail place groups holds front disk before s store is safe over kept may =
    let may_end = subst (λ (x : Stage). MayGoOn x (with_store s store)) (sym c.replace.ensures.value ∙ c.in-Begun.is) may in
    c.end_checkpoint.ensures.step c.if-self.false front disk before s store is safe over may_end

pub returns-in-Ended-clause-step : goal.returns-in-Ended-clause-step
returns-in-Ended-clause-step g c tail place groups holds front disk before s store is safe over kept may =
    let may_name = subst (λ (x : Stage). MayGoOn x (with_store s store)) (sym c.replace.ensures.value ∙ c.in-Ended.is) may in
    c.name_checkpoint.ensures.step c.if-self.false front disk before s store is safe over may_name

pub returns-in-Some-clause-step : goal.returns-in-Some-clause-step
returns-in-Some-clause-step g c tail place groups holds front disk before s store is safe over kept may =
    let at = (subst (λ (x : Stage). MayGoOn x (with_store s store)) (sym c.replace.ensures.value ∙ c.in-Named.is) may).at in
    let durable = c.in-Some.ensures in (
      record {
        running = is.beside.parts.failed_is ∙ c.if-self.false;
        named = at.0;
        number = at.1;
        logged = at.2;
        durable = omega (arith, durable.0, at.3.number, is.beside.parts.durable_is, over.kept.stored.durable);
        says = durable.1 ∙ at.3.mark;
      },
      record { is_in = is; over = over; at = at },
    )

pub returns-in-None-clause-step : goal.returns-in-None-clause-step
returns-in-None-clause-step g c tail place groups holds front disk before s store is safe over kept may =
    let at = (subst (λ (x : Stage). MayGoOn x (with_store s store)) (sym c.replace.ensures.value ∙ c.in-Named.is) may).at in
    let later = c.in-None.ensures in
    record {
      later = with_store s store;
      moves = (is.beside.parts.failed_is ∙ c.if-self.false, omega (arith, later, at.3.number, ap awaited at.2, is.beside.parts.durable_is), refl);
      comes = record { is_in = is; over = over; at = at };
    }

pub returns-in-Some-clause-asked : goal.returns-in-Some-clause-asked
returns-in-Some-clause-asked g c mark is =
    let at = sym c.replace.ensures.value ∙ c.in-Named.is in
    (refl, sym at, (c.in-Named.named, at, sym c.in-Some.ensures.1 ∙ same_mark _ mark is, c.in-Some.ensures.0))
  where
    same_mark : (a b : Mark) → Move a ≡ Move b → a ≡ b
    same_mark a b is = cc

-- ---- what a begin finds of the log

pub returns-then-self-clause-full : goal.returns-then-self-clause-full
returns-then-self-clause-full g c tail place groups holds front disk before s store is safe over kept may says = absurd (other_fault says)
  where
    other_fault : Made (Refused fault.Failed) ≡ Made (Refused fault.LogFull) → ⊥
    other_fault says = cc

pub returns-then-self-clause-roomy : goal.returns-then-self-clause-roomy
returns-then-self-clause-roomy g c tail place groups holds front disk before s store is safe over kept may n says = absurd (not_done _ _ says)
  where
    not_done : (f : Fault) (a : Answer) → Made (Refused f) ≡ Made (Done a) → ⊥
    not_done f a says = cc

pub returns-in-Resting-clause-full : goal.returns-in-Resting-clause-full
returns-in-Resting-clause-full g c tail place groups holds front disk before s store is safe over kept may says =
    let may_begin = subst (λ (x : Stage). MayGoOn x (with_store s store)) (sym c.replace.ensures.value ∙ c.in-Resting.is) may in
    c.begin_checkpoint.ensures.full c.if-self.false tail place groups holds front disk before s store is safe over kept may_begin (made_is _ _ says)

pub returns-in-Resting-clause-roomy : goal.returns-in-Resting-clause-roomy
returns-in-Resting-clause-roomy g c tail place groups holds front disk before s store is safe over kept may n says =
    let may_begin = subst (λ (x : Stage). MayGoOn x (with_store s store)) (sym c.replace.ensures.value ∙ c.in-Resting.is) may in
    c.begin_checkpoint.ensures.roomy c.if-self.false tail place groups holds front disk before s store is safe over kept may_begin n (made_is _ _ says)

pub returns-in-Begun-clause-full : goal.returns-in-Begun-clause-full
returns-in-Begun-clause-full g c tail place groups holds front disk before s store is safe over kept may says =
    let may_end = subst (λ (x : Stage). MayGoOn x (with_store s store)) (sym c.replace.ensures.value ∙ c.in-Begun.is) may in
    let made = c.end_checkpoint.ensures.step c.if-self.false front disk before s store is safe over may_end in
    absurd (begun_none _ _ (may_end.at.1) (full_none (with_store s store) made.later (is.beside.parts.failed_is ∙ c.if-self.false) (subst (λ x. CheckpointMoves (with_store s store) x made.later) (made_is _ _ says) made.moves)))

pub returns-in-Begun-clause-roomy : goal.returns-in-Begun-clause-roomy
returns-in-Begun-clause-roomy g c tail place groups holds front disk before s store is safe over kept may n says =
    let may_end = subst (λ (x : Stage). MayGoOn x (with_store s store)) (sym c.replace.ensures.value ∙ c.in-Begun.is) may in
    let made = c.end_checkpoint.ensures.step c.if-self.false front disk before s store is safe over may_end in
    absurd (begun_none _ _ (may_end.at.1) (begins_from (with_store s store) made.later n (subst (λ x. CheckpointMoves (with_store s store) x made.later) (made_is _ _ says) made.moves)))

pub returns-in-Ended-clause-full : goal.returns-in-Ended-clause-full
returns-in-Ended-clause-full g c tail place groups holds front disk before s store is safe over kept may says =
    let may_name = subst (λ (x : Stage). MayGoOn x (with_store s store)) (sym c.replace.ensures.value ∙ c.in-Ended.is) may in
    let made = c.name_checkpoint.ensures.step c.if-self.false front disk before s store is safe over may_name in
    absurd (ended_none _ _ _ (may_name.at.2) (full_none (with_store s store) made.later (is.beside.parts.failed_is ∙ c.if-self.false) (subst (λ x. CheckpointMoves (with_store s store) x made.later) (made_is _ _ says) made.moves)))

pub returns-in-Ended-clause-roomy : goal.returns-in-Ended-clause-roomy
returns-in-Ended-clause-roomy g c tail place groups holds front disk before s store is safe over kept may n says =
    let may_name = subst (λ (x : Stage). MayGoOn x (with_store s store)) (sym c.replace.ensures.value ∙ c.in-Ended.is) may in
    let made = c.name_checkpoint.ensures.step c.if-self.false front disk before s store is safe over may_name in
    absurd (ended_none _ _ _ (may_name.at.2) (begins_from (with_store s store) made.later n (subst (λ x. CheckpointMoves (with_store s store) x made.later) (made_is _ _ says) made.moves)))

pub returns-in-Some-clause-full : goal.returns-in-Some-clause-full
returns-in-Some-clause-full g c tail place groups holds front disk before s store is safe over kept may says = absurd (no_move _ _ says)

pub returns-in-Some-clause-roomy : goal.returns-in-Some-clause-roomy
returns-in-Some-clause-roomy g c tail place groups holds front disk before s store is safe over kept may n says = absurd (no_move _ _ says)

pub returns-in-None-clause-full : goal.returns-in-None-clause-full
returns-in-None-clause-full g c tail place groups holds front disk before s store is safe over kept may says = absurd (not_nothing says)
  where
    not_nothing : Made Nothing ≡ Made (Refused fault.LogFull) → ⊥
    not_nothing says = cc

pub returns-in-None-clause-roomy : goal.returns-in-None-clause-roomy
returns-in-None-clause-roomy g c tail place groups holds front disk before s store is safe over kept may n says = absurd (not_nothing _ says)
  where
    not_nothing : (a : Answer) → Made Nothing ≡ Made (Done a) → ⊥
    not_nothing a says = cc

-- ---- where the anchor is to be moved next

resting_or_named : (s : Stage) (n : Named) → s ≡ stage.Resting → s ≡ stage.Named n → ⊥
resting_or_named s n at here = cc

begun_or_named : (s : Stage) (b : Begun) (n : Named) → s ≡ stage.Begun b → s ≡ stage.Named n → ⊥
begun_or_named s b n at here = cc

ended_or_named : (s : Stage) (e : Ended) (n : Named) → s ≡ stage.Ended e → s ≡ stage.Named n → ⊥
ended_or_named s e n at here = cc

pub returns-then-self-clause-asked_for : goal.returns-then-self-clause-asked_for
returns-then-self-clause-asked_for g c named at = inr (inl refl)

pub returns-in-Resting-clause-asked_for : goal.returns-in-Resting-clause-asked_for
returns-in-Resting-clause-asked_for g c named at = absurd (resting_or_named _ named (sym c.replace.ensures.value ∙ c.in-Resting.is) at)

pub returns-in-Begun-clause-asked_for : goal.returns-in-Begun-clause-asked_for
returns-in-Begun-clause-asked_for g c named at = absurd (begun_or_named _ _ named (sym c.replace.ensures.value ∙ c.in-Begun.is) at)

pub returns-in-Ended-clause-asked_for : goal.returns-in-Ended-clause-asked_for
returns-in-Ended-clause-asked_for g c named at = absurd (ended_or_named _ _ named (sym c.replace.ensures.value ∙ c.in-Ended.is) at)

pub returns-in-Some-clause-asked_for : goal.returns-in-Some-clause-asked_for
returns-in-Some-clause-asked_for g c named at = inr (inr (_, refl))

pub returns-in-None-clause-asked_for : goal.returns-in-None-clause-asked_for
returns-in-None-clause-asked_for g c named at = inl refl

-- ---- what is kept aside for it

pub returns-in-Resting-clause-aside : goal.returns-in-Resting-clause-aside
returns-in-Resting-clause-aside g c keeps kept = c.begin_checkpoint.ensures.aside keeps (subst (λ (x : Stage). KeepsFor x (told_of c.args.self.now)) (sym c.replace.ensures.value ∙ c.in-Resting.is) kept)

pub returns-in-Begun-clause-aside : goal.returns-in-Begun-clause-aside
returns-in-Begun-clause-aside g c keeps kept = c.end_checkpoint.ensures.aside (subst (λ (x : Stage). KeepsFor x (told_of c.args.self.now)) (sym c.replace.ensures.value ∙ c.in-Begun.is) kept)

pub returns-in-Ended-clause-aside : goal.returns-in-Ended-clause-aside
returns-in-Ended-clause-aside g c keeps kept = c.name_checkpoint.ensures.aside (subst (λ (x : Stage). KeepsFor x (told_of c.args.self.now)) (sym c.replace.ensures.value ∙ c.in-Ended.is) kept)

pub returns-in-Some-clause-aside : goal.returns-in-Some-clause-aside
returns-in-Some-clause-aside g c keeps kept = subst (λ (x : Stage). KeepsFor x (told_of c.args.self.now)) (sym c.replace.ensures.value ∙ c.in-Named.is) kept

pub returns-in-None-clause-aside : goal.returns-in-None-clause-aside
returns-in-None-clause-aside g c keeps kept = subst (λ (x : Stage). KeepsFor x (told_of c.args.self.now)) (sym c.replace.ensures.value ∙ c.in-Named.is) kept

pub returns-in-Resting-clause-idle : goal.returns-in-Resting-clause-idle
returns-in-Resting-clause-idle g c kept begun = absurd (begun (sym c.replace.ensures.value ∙ c.in-Resting.is))

pub returns-in-Begun-clause-idle : goal.returns-in-Begun-clause-idle
returns-in-Begun-clause-idle g c kept begun is =
    c.end_checkpoint.ensures.idle (subst (λ (x : Stage). KeepsFor x (told_of c.args.self.now)) (sym c.replace.ensures.value ∙ c.in-Begun.is) kept) (made_is _ _ is)

pub returns-in-Ended-clause-idle : goal.returns-in-Ended-clause-idle
returns-in-Ended-clause-idle g c kept begun is =
    c.name_checkpoint.ensures.idle (subst (λ (x : Stage). KeepsFor x (told_of c.args.self.now)) (sym c.replace.ensures.value ∙ c.in-Ended.is) kept) (made_is _ _ is)

pub returns-then-self-clause-idle : goal.returns-then-self-clause-idle
returns-then-self-clause-idle g c kept begun is = absurd (other_fault is)
  where
    other_fault : Made (Refused fault.Failed) ≡ Made (Refused fault.Memory) → ⊥
    other_fault is = cc

pub returns-in-Some-clause-idle : goal.returns-in-Some-clause-idle
returns-in-Some-clause-idle g c kept begun is = absurd (no_move _ _ is)

pub returns-in-None-clause-idle : goal.returns-in-None-clause-idle
returns-in-None-clause-idle g c kept begun is = absurd (not_nothing is)
  where
    not_nothing : Made Nothing ≡ Made (Refused fault.Memory) → ⊥
    not_nothing is = cc
