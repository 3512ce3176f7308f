use Rattle.std.proofs.Common.{IsOk, ◌≡◌, ◌+◌, ◌-◌, ◌++◌, ◌∷◌, [], inl, inr, length, length-append, refl, sym, ap, subst, ◌∙◌, arith}
use Rattle.laws_lives.specs.Views.{IsAmong}
use Rattle.shore_model.specs.declared.log_records.Payload.TheVariants as payload
use Rattle.laws_checkpoints.specs.Checkpoints.{cut_point, of_checkpoint}
use Rattle.laws_checkpoints.specs.CheckpointedStores.{AnchorLogged}
use Rattle.laws_calls.specs.States.{next_number}
use Rattle.laws_runs.specs.CheckpointSteps.{CheckpointAnswers, awaited, noted, owed_to}
use Rattle.shore_model.specs.declared.calls.Answer.TheVariants.{Anchored}
use Rattle.shore_check.specs.declared.stage.Mark.{Mark}
use Rattle.shore_check.specs.Stages.{IsNamed}
use Rattle.shore_core.specs.Checkpointing.{with_store}
use Rattle.shore_check.proofs.Costs.{anchor_is}
use Rattle.shore_logrec.specs.Text.{text}
use Rattle.shore_log.specs.Told.{aside_for}
use Rattle.shore_log.specs.declared.tail.Aside.{Aside}
use Rattle.shore_log.specs.declared.tail.Told.{Told}
use Rattle.shore_core.specs.Cores.{control_of, durable_of, first_of, has_failed, told_of, waiting_of}
use Rattle.shore_core.proofs.CheckpointSteps.{holds_owed, logged_step, same_step}
use Rattle.shore_core.proofs.Tables.{next_is}
use Rattle.shore_core.proofs.Taking.{true_false}
use Rattle.shore_core.proofs.core_calls.Core.name_checkpoint.Goals as goal

pub returns-in_default-clause-step : goal.returns-in_default-clause-step
returns-in_default-clause-step g c running front disk before s store is safe over may =
    let k = may.at in
    let works = is.beside.parts.failed_is ∙ running in
    let later = c.in_default.ensures.is k.0 k.1 k.3 in
    same_step c.args.self.now _ front disk before s store is over _ _ refl refl refl refl refl refl (works, omega (arith, later, ap awaited k.2, is.beside.parts.durable_is), refl) k

pub returns-then-not-holds-clause-step : goal.returns-then-not-holds-clause-step
returns-then-not-holds-clause-step g c running front disk before s store is safe over may =
    let k = may.at in
    let owed = ap owed_to k.2 in
    absurd (true_false (sym (c.holds.ensures.1 (holds_owed c.args.self.now front disk before s store is may.room _ (omega arith) (omega (arith, owed)))) ∙ c.if-not-holds.true))

pub push_kept-requires-clause-previous : goal.push_kept-requires-clause-previous
push_kept-requires-clause-previous g c = omega (arith, c.in-Some.ensures.none_before, c.args.self.now.some_number)

pub invariant_of-self : goal.invariant_of-self
invariant_of-self g c =
    let old = c.args.self.now in
    let same = ap length c.in-Err.ensures.none_added in
    let first = c.push_kept.ensures.first in
    record {
      some_number = omega (arith, same, first, old.some_number);
      forced = omega (arith, same, first, old.forced);
      numbers = omega (arith, same, first, old.numbers);
      earlier = λ t m. omega (arith, same, first, old.earlier t m);
    }

pub invariant_of-self-2 : goal.invariant_of-self-2
invariant_of-self-2 g c =
    let old = c.args.self.now in
    let more = ap length c.in-Ok.ensures.added ∙ length-append (waiting_of old) (_ ∷ []) in
    let risen : g.T.Tail.first c.push_kept.new.self + length (g.T.Tail.records c.push_kept.new.self) ≡ first_of old + length (waiting_of old) + 1 = omega (arith, more, c.push_kept.ensures.first) in
    let holds = c.if-not-holds.ensures.0 refl in
    record {
      some_number = omega (arith, risen, old.some_number);
      forced = omega (arith, risen, old.forced);
      numbers = omega (arith, risen, holds.1, c.note_checkpoint.ensures.reserved);
      earlier = λ t m. omega (arith, risen, old.earlier t (subst (IsAmong t) c.note_checkpoint.ensures.txns m));
    }

pub returns-in-Err-clause-step : goal.returns-in-Err-clause-step
returns-in-Err-clause-step g c running front disk before s store is safe over may =
    let k = may.at in
    let works = is.beside.parts.failed_is ∙ running in
    let named = c.in-Some.ensures.is k.0 k.1 k.3 in
    same_step c.args.self.now _ front disk before s store is over _ _ refl c.push_kept.ensures.first c.in-Err.ensures.none_added refl refl refl
    (inr (works, inl (c.in-Err.ensures.refused, omega (arith, named.0, ap awaited k.2, is.beside.parts.durable_is), refl))) k

pub returns-clause-step : goal.returns-clause-step
returns-clause-step g c running front disk before s store is safe over may =
    let old = c.args.self.now in
    let k = may.at in
    let works = is.beside.parts.failed_is ∙ running in
    let named = c.in-Some.ensures.is k.0 k.1 k.3 in
    let mark = c.mark.ensures k.0 k.1 k.3 in
    let r = of_checkpoint (payload.Anchor k.0.begin (cut_point k.0)) in
    let number = c.in-Ok.ensures.number ∙ sym (next_is (control_of old) (waiting_of old) (durable_of old) (has_failed old) before s is.beside.parts (first_of old) is.beside.first 0) in
    let added = c.in-Ok.ensures.added ∙ ap (λ x. waiting_of old ++ x ∷ []) named.1 in
    logged_step old _ front disk before s store is over r (AnchorLogged k.0 (next_number s)) _ _ refl c.push_kept.ensures.first refl refl c.note_checkpoint.ensures.claims added refl
    (c.note_checkpoint.ensures.stands s r is.beside.parts.stands refl (sym (anchor_is k.0.begin (cut_point k.0)))) (
      works,
      subst (λ (m : Mark). CheckpointAnswers (with_store s store) (Anchored m.checkpoint m.tail) (noted (with_store s store) r (AnchorLogged k.0 (next_number s)))) (sym mark)
          (k.0, k.1, k.2, omega (arith, named.0, is.beside.parts.durable_is), refl, refl, refl),
    )
    (k.0, next_number s, refl, subst (λ n. IsNamed k.0 n c.named.result) number (c.named.ensures k.0 k.1 k.3))

-- ---- what is kept aside

pub returns-in-Err-clause-idle : goal.returns-in-Err-clause-idle
returns-in-Err-clause-idle g c keeps is =
    let clash = subst IsOk c.in-Err.is (c.push_kept.ensures.idle (omega (arith, ap (λ (a : Aside). a.records) keeps), omega (arith, ap (λ (a : Aside). a.bytes) keeps, c.in-Some.ensures.cost))) in absurd cc

pub returns-in-Err-clause-aside : goal.returns-in-Err-clause-aside
returns-in-Err-clause-aside g c keeps =
    let clash = subst IsOk c.in-Err.is (c.push_kept.ensures.idle (omega (arith, ap (λ (a : Aside). a.records) keeps), omega (arith, ap (λ (a : Aside). a.bytes) keeps, c.in-Some.ensures.cost))) in absurd cc

pub returns-in-Err-clause-told : goal.returns-in-Err-clause-told
returns-in-Err-clause-told g c = (ap (λ (t : Told). t.entries) c.in-Err.ensures.none_taken, ap (λ (t : Told). t.texts) c.in-Err.ensures.none_taken)

pub returns-clause-told : goal.returns-clause-told
returns-clause-told g c = (ap (λ (t : Told). t.entries) c.in-Ok.ensures.told, ap (λ (t : Told). t.texts) c.in-Ok.ensures.told)

pub returns-clause-aside : goal.returns-clause-aside
returns-clause-aside g c keeps =
    let old = (told_of c.args.self.now).aside in
    let len = length (text c.in-Some.record) in
    let records : old.records - 1 ≡ 0 = omega (arith, ap (λ (a : Aside). a.records) keeps) in
    let bytes : old.bytes - len ≡ 0 = omega (arith, ap (λ (a : Aside). a.bytes) keeps, c.in-Some.ensures.cost) in
    ap (λ (t : Told). t.aside) c.in-Ok.ensures.told ∙ (λ i. aside_for (records i) (bytes i))
