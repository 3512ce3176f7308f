use Rattle.std.proofs.Common.{◌≡◌, inl, inr, refl, sym, ap, subst, ◌∙◌, arith}
use Rattle.laws_checkpoints.specs.CheckpointedStores.{BeginLogged}
use Rattle.laws_checkpoints.specs.Checkpoints.{of_checkpoint}
use Rattle.laws_runs.specs.CheckpointSteps.{awaited, noted}
use Rattle.shore_model.specs.declared.log_records.Payload.TheVariants.{CheckpointBegin}
use Rattle.shore_types.specs.declared.faults.Fault.{Fault}
use Rattle.shore_types.specs.declared.faults.Fault.TheVariants as fault
use Rattle.shore_model.specs.declared.calls.Answer.{Answer}
use Rattle.shore_model.specs.declared.step.Step.TheVariants.{Done, Refused}
use Rattle.shore_check.specs.Stages.{IsAt}
use Rattle.shore_check.specs.declared.stage.Stage.{Stage}
use Rattle.shore_core.specs.Checkpointing.{KeepsFor, with_store}
use Rattle.shore_core.specs.Cores.{told_of}
use Rattle.shore_core.proofs.core_calls.Core.begin_checkpoint.Goals as goal

pub returns-in-Err-clause-step : goal.returns-in-Err-clause-step
returns-in-Err-clause-step g c running tail place groups holds front disk before s store is safe over kept may =
    let b = c.in-Err.ensures.begins running tail place groups holds front disk before s store is safe over kept may in
    let works = is.beside.parts.failed_is ∙ running in
    record {
      later = with_store s store;
      moves = inr (
        works,
        elim b.0 [
          | inl memory ↦ inl (memory, omega (arith, ap awaited may.at), refl)
          | inr full ↦ inr (inl (full.0, may.at, (full.1.0, full.1.1, full.1.2.now, full.1.3), refl))
        ],
      );
      comes = record { is_in = b.1; over = b.2; at = subst (λ x. IsAt x store.stage) (sym c.requires) may.at };
    }

pub returns-in-Ok-clause-step : goal.returns-in-Ok-clause-step
returns-in-Ok-clause-step g c running tail place groups holds front disk before s store is safe over kept may =
    let b = c.in-Ok.ensures.begins running tail place groups holds front disk before s store is safe over kept may in
    let works = is.beside.parts.failed_is ∙ running in
    record {
      later = noted (with_store s store) (of_checkpoint CheckpointBegin) (BeginLogged b.0);
      moves = (works, (b.0, b.1, may.at, b.2.now, b.3, b.4, refl));
      comes = record { is_in = b.6; over = b.7; at = (b.0, refl, b.5) };
    }

pub returns-in-Err-clause-full : goal.returns-in-Err-clause-full
returns-in-Err-clause-full g c running tail place groups holds front disk before s store is safe over kept may says =
    let b = c.in-Err.ensures.begins running tail place groups holds front disk before s store is safe over kept may in
    elim b.0 [ inl memory ↦ absurd (not_full _ memory says) | inr full ↦ full.1 ]
  where
    not_full : (f : Fault) → f ≡ fault.Memory → Refused f ≡ Refused fault.LogFull → ⊥
    not_full f memory says = cc

pub returns-in-Err-clause-roomy : goal.returns-in-Err-clause-roomy
returns-in-Err-clause-roomy g c running tail place groups holds front disk before s store is safe over kept may n says = absurd (not_done _ _ says)
  where
    not_done : (f : Fault) (a : Answer) → Refused f ≡ Done a → ⊥
    not_done f a says = cc

pub returns-in-Ok-clause-full : goal.returns-in-Ok-clause-full
returns-in-Ok-clause-full g c running tail place groups holds front disk before s store is safe over kept may says = absurd (not_refused _ _ says)
  where
    not_refused : (a : Answer) (f : Fault) → Done a ≡ Refused f → ⊥
    not_refused a f says = cc

pub returns-in-Ok-clause-roomy : goal.returns-in-Ok-clause-roomy
returns-in-Ok-clause-roomy g c running tail place groups holds front disk before s store is safe over kept may n says =
    let b = c.in-Ok.ensures.begins running tail place groups holds front disk before s store is safe over kept may in
    (b.0, b.1, b.2, b.3)

pub returns-in-Err-clause-aside : goal.returns-in-Err-clause-aside
returns-in-Err-clause-aside g c keeps kept = subst (λ (x : Stage). KeepsFor x (told_of c.try_begin.new.self)) (sym c.requires) (c.in-Err.ensures.none_kept ∙ kept)

pub returns-in-Ok-clause-aside : goal.returns-in-Ok-clause-aside
returns-in-Ok-clause-aside g c keeps kept = c.in-Ok.ensures.aside keeps
