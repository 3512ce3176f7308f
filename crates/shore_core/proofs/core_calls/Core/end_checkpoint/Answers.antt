use Rattle.std.proofs.Common.{IsOk, ℕ, ◌≡◌, ◌+◌, ◌-◌, ◌*◌, ◌++◌, ◌∷◌, [], inl, inr, length, length-append, refl, sym, ap, subst, ◌∙◌, arith}
use Rattle.shore_frames.proofs.LoggedLemmas.{AreNumbered-test}
use Rattle.laws_lives.specs.Views.{IsAmong}
use Rattle.laws_checkpoints.specs.Checkpoints.{end_payload, of_checkpoint}
use Rattle.laws_checkpoints.specs.CheckpointedStores.{EndLogged}
use Rattle.laws_runs.specs.CheckpointSteps.{awaited, owed_to}
use Rattle.shore_check.proofs.Costs.{end_is}
use Rattle.shore_types.specs.declared.layout.TheConstants.{FRAME_SHARE}
use Rattle.shore_logrec.specs.Text.{text}
use Rattle.laws_checkpoints.specs.RingRooms.{ANCHOR_COST}
use Rattle.shore_log.specs.Told.{aside_for}
use Rattle.shore_log.specs.declared.tail.Aside.{Aside}
use Rattle.shore_log.specs.declared.tail.Told.{Told}
use Rattle.shore_core.specs.Cores.{control_of, durable_of, first_of, has_failed, told_of, waiting_of}
use Rattle.shore_core.proofs.CheckpointSteps.{holds_owed, logged_step, same_step}
use Rattle.shore_core.proofs.Tables.{next_is}
use Rattle.shore_core.proofs.Taking.{true_false}
use Rattle.shore_core.proofs.core_calls.Core.end_checkpoint.Goals as goal

pub returns-then-not-holds-clause-step : goal.returns-then-not-holds-clause-step
returns-then-not-holds-clause-step g c running front disk before s store is safe over may =
    let k = may.at in
    let cost = c.cost-cost.ensures k.0 (c.end-end.ensures.rest k.0 k.2) in
    let owed = ap owed_to k.1 in
    absurd (true_false (sym (c.holds.ensures.1 (holds_owed c.args.self.now front disk before s store is may.room _ (omega (arith, cost)) (omega (arith, cost, owed)))) ∙ c.if-not-holds.true))

pub refused-requires-clause-fits : goal.refused-requires-clause-fits
refused-requires-clause-fits g c = c.end-end.ensures.numbered

pub refused-requires-clause-costs : goal.refused-requires-clause-costs
refused-requires-clause-costs g c = c.end-end.ensures.cost.0 ∙ c.end-end.ensures.cost.1

pub push_kept-requires-clause-text : goal.push_kept-requires-clause-text
push_kept-requires-clause-text g c = c.end-end.ensures.fits

pub push_kept-requires-clause-previous : goal.push_kept-requires-clause-previous
push_kept-requires-clause-previous g c =
    let none = (AreNumbered-test 1 (c.end-end.result.0 ∷ []) c.end-end.ensures.numbered).1 in
    omega (arith, none, c.args.self.now.some_number)

pub invariant_of-self-in-Err-1 : goal.invariant_of-self-in-Err-1
invariant_of-self-in-Err-1 g c =
    let old = c.args.self.now in
    let same = ap length c.in-Err.ensures.none_added in
    let first = c.push_kept.ensures.first in
    record {
      some_number = omega (arith, same, first, old.some_number);
      forced = omega (arith, same, first, old.forced);
      numbers = omega (arith, same, first, old.numbers);
      earlier = λ t m. omega (arith, same, first, old.earlier t m);
    }

pub note_checkpoint-requires : goal.note_checkpoint-requires
note_checkpoint-requires g c = let holds = c.if-not-holds.ensures.0 refl in omega (arith, holds.0)

pub invariant_of-self : goal.invariant_of-self
invariant_of-self g c =
    let old = c.args.self.now in
    let more = ap length c.in-Ok.ensures.added ∙ length-append (waiting_of old) (_ ∷ []) in
    let risen : g.T.Tail.first c.push_kept.new.self + length (g.T.Tail.records c.push_kept.new.self) ≡ first_of old + length (waiting_of old) + 1 = omega (arith, more, c.push_kept.ensures.first) in
    let holds = c.if-not-holds.ensures.0 refl in
    record {
      some_number = omega (arith, risen, old.some_number);
      forced = omega (arith, risen, old.forced);
      numbers = omega (arith, risen, holds.1, c.note_checkpoint.ensures.reserved);
      earlier = λ t m. omega (arith, risen, old.earlier t (subst (IsAmong t) c.note_checkpoint.ensures.txns m));
    }

pub returns-in-Err-clause-step : goal.returns-in-Err-clause-step
returns-in-Err-clause-step g c running front disk before s store is safe over may =
    let k = may.at in
    let works = is.beside.parts.failed_is ∙ running in
    same_step c.args.self.now _ front disk before s store is over _ _ refl c.push_kept.ensures.first c.in-Err.ensures.none_added refl refl refl
    (inr (works, inl (c.in-Err.ensures.refused, omega (arith, ap awaited k.1), refl)))
    (k.0, k.1, c.refused-in-Err.ensures.is k.0 (c.end-end.ensures.rest k.0 k.2) (c.end-end.ensures.is k.0 k.2))

pub returns-in-Ok-clause-step : goal.returns-in-Ok-clause-step
returns-in-Ok-clause-step g c running front disk before s store is safe over may =
    let old = c.args.self.now in
    let k = may.at in
    let works = is.beside.parts.failed_is ∙ running in
    let rest = c.end-end.ensures.rest k.0 k.2 in
    let number = c.in-Ok.ensures.number ∙ sym (next_is (control_of old) (waiting_of old) (durable_of old) (has_failed old) before s is.beside.parts (first_of old) is.beside.first 0) in
    let added = c.in-Ok.ensures.added ∙ ap (λ r. waiting_of old ++ r ∷ []) (c.end-end.ensures.is k.0 k.2) in
    let cost = c.cost-cost.ensures k.0 rest ∙ sym (end_is k.0.begin k.0.next k.0.txns k.0.dirty) in
    logged_step old _ front disk before s store is over (of_checkpoint (end_payload k.0)) (EndLogged k.0 c.in-Ok.number) _ _ refl c.push_kept.ensures.first refl refl c.note_checkpoint.ensures.claims added refl
    (c.note_checkpoint.ensures.stands s (of_checkpoint (end_payload k.0)) is.beside.parts.stands refl cost)
    (works, (k.0, k.1, number, refl)) (k.0, c.in-Ok.number, refl, c.logged.ensures k.0 rest)

-- ---- what is kept aside

pub returns-then-not-holds-clause-aside : goal.returns-then-not-holds-clause-aside
returns-then-not-holds-clause-aside g c keeps =
    let cost : c.args.begun.end_cost ≡ c.refused.result.end_cost = omega (arith, c.refused.ensures.cost, c.end-end.ensures.cost.0) in
    keeps ∙ ap (λ (n : ℕ). aside_for 2 (n + ANCHOR_COST - FRAME_SHARE * 2)) cost

pub returns-in-Err-clause-idle : goal.returns-in-Err-clause-idle
returns-in-Err-clause-idle g c keeps is =
    let clash = subst IsOk c.in-Err.is (c.push_kept.ensures.idle (omega (arith, ap (λ (a : Aside). a.records) keeps), omega (arith, ap (λ (a : Aside). a.bytes) keeps, c.end-end.ensures.cost.1))) in absurd cc

pub returns-in-Err-clause-aside : goal.returns-in-Err-clause-aside
returns-in-Err-clause-aside g c keeps =
    let clash = subst IsOk c.in-Err.is (c.push_kept.ensures.idle (omega (arith, ap (λ (a : Aside). a.records) keeps), omega (arith, ap (λ (a : Aside). a.bytes) keeps, c.end-end.ensures.cost.1))) in absurd cc

pub returns-in-Err-clause-told : goal.returns-in-Err-clause-told
returns-in-Err-clause-told g c = (ap (λ (t : Told). t.entries) c.in-Err.ensures.none_taken, ap (λ (t : Told). t.texts) c.in-Err.ensures.none_taken)

pub returns-in-Ok-clause-told : goal.returns-in-Ok-clause-told
returns-in-Ok-clause-told g c = (ap (λ (t : Told). t.entries) c.in-Ok.ensures.told, ap (λ (t : Told). t.texts) c.in-Ok.ensures.told)

pub returns-in-Ok-clause-aside : goal.returns-in-Ok-clause-aside
returns-in-Ok-clause-aside g c keeps =
    let old = (told_of c.args.self.now).aside in
    let len = length (text c.end-end.result.0) in
    let records : old.records - 1 ≡ 1 = omega (arith, ap (λ (a : Aside). a.records) keeps) in
    let bytes : old.bytes - len ≡ ANCHOR_COST - FRAME_SHARE = omega (arith, ap (λ (a : Aside). a.bytes) keeps, c.end-end.ensures.cost.1) in
    ap (λ (t : Told). t.aside) c.in-Ok.ensures.told ∙ (λ i. aside_for (records i) (bytes i))
