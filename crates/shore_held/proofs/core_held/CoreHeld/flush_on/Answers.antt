use Rattle.std.proofs.Common.{◌≡◌, ◌≤◌, [], ◌∷◌, ◌++◌, length, arith, refl, sym, ap, subst, ◌∙◌, inl, inr, IsErrAnd, true≢false}
use Rattle.std.proofs.Math.Logic.{∥∥₁_map}
use Rattle.shore_types.specs.declared.faults.Fault.TheVariants as Fault
use Rattle.laws_calls.specs.Events.{HasFailed}
use Rattle.shore_model.specs.declared.step.Step.{Step}
use Rattle.shore_model.specs.declared.step.Step.TheVariants as step
use Rattle.shore_core.specs.Flushing.{FlushSteps}
use Rattle.shore_core.specs.Replies.{InEach, fault_at}
use Rattle.shore_world.specs.EventMoves.{OfManager}
use Rattle.shore_core.specs.Cores.{durable_of}
use Rattle.shore_held.specs.Comings.{HasComeBy, anchored_at}
use Rattle.shore_held.specs.Trails.{calls_in, moves_of}
use Rattle.shore_held.specs.declared.asked.Asked.TheVariants as Asked
use Rattle.shore_held.proofs.Aims.{aims_kept}
use Rattle.shore_held.proofs.Comings.{flush_failed, flushed}
use Rattle.shore_held.proofs.Trails.{calls_snoc, failure_told, long_snoc, moves_snoc, noted_still}
use Rattle.shore_held.proofs.core_held.CoreHeld.flush_on.Goals as goal

pub invariant_of-self : goal.invariant_of-self
invariant_of-self g c =
    let i = c.args.self.now in
    let new = c.flush_on-step.new.self in
    let did = c.flush_on-step.ensures in
    let e1 = c.and-self.ensures in
    let e2 = c.and-self-then-is_failure.ensures in
    let is : c.flush_on-step.result ≡ step.Refused Fault.Device = c.is_failure.ensures.0 c.if-is_failure.true in
    let trail : moves_of c.and-self.result.items c.and-self-then-is_failure.result.items ≡ moves_of i.asked.items i.stepped.items ++ OfManager HasFailed ∷ [] =
    (λ j. moves_of (e1 j) (e2 j)) ∙ moves_snoc i.asked.items i.stepped.items (Asked.Failed, 0) (step.Nothing, 0) i.as_many in
    record {
      come_by = λ start honest. ∥∥₁_map (i.come_by start honest) (λ h. subst (HasComeBy start g.B.Named.cut g.B.Named.before new i.stage (anchored_at i.seat.kept)) (sym trail)
          (flush_failed g.B.Named.cut g.B.Named.before i.core i.stage (anchored_at i.seat.kept) (moves_of i.asked.items i.stepped.items) h new did.serves.volume.geometry did.ring did.serves.any_moment did.still
          (subst (λ (s : Step). InEach (λ front disk before state store. FlushSteps s new front before state store) i.core) is did.step)));
      layout = did.serves.volume.geometry ∙ i.layout;
      ring = omega (arith, did.ring, i.ring);
      as_many = ap length e2 ∙ long_snoc i.asked.items i.stepped.items (Asked.Failed, 0) (step.Nothing, 0) i.as_many ∙ sym (ap length e1);
      keeps = i.keeps;
      durable_seen = subst (λ n. n ≤ i.seat.seen) (sym did.serves.durable) i.durable_seen;
      aims = aims_kept i.stage (durable_of i.core) (durable_of new) i.seat.kept i.seat.kept refl (omega (arith, did.serves.durable)) i.aims;
      counted = omega (arith, i.counted, calls_snoc i.asked.items (Asked.Failed, 0), ap calls_in e1);
      parts = i.parts;
      none_kept = i.none_kept;
      booked = (i.booked.0, i.booked.1 ∙ sym (noted_still i.asked.items _ i.stepped.items _ (Asked.Failed, 0) (step.Nothing, 0) i.as_many e1 e2 refl), i.booked.2);
      failing = λ _. failure_told i.asked.items _ (Asked.Failed, 0) e1 refl;
      fails = λ _. did.fails.1 (inr (subst (λ s. IsErrAnd (fault_at s) (λ f. f ≡ Fault.Device)) (sym is) refl));
    }

pub invariant_of-self-else-is_failure : goal.invariant_of-self-else-is_failure
invariant_of-self-else-is_failure g c =
    let i = c.args.self.now in
    let new = c.flush_on-step.new.self in
    let did = c.flush_on-step.ensures in
    let other : ¬ (c.flush_on-step.result ≡ step.Refused Fault.Device) = λ is. true≢false (sym (c.is_failure.ensures.1 is) ∙ c.if-is_failure.false) in
    record {
      come_by = λ start honest. ∥∥₁_map (i.come_by start honest)
          (λ h. flushed g.B.Named.cut g.B.Named.before i.core i.stage (anchored_at i.seat.kept) (moves_of i.asked.items i.stepped.items) h new did.serves.volume.geometry did.ring did.serves.any_moment did.still
          c.flush_on-step.result other did.step);
      layout = did.serves.volume.geometry ∙ i.layout;
      ring = omega (arith, did.ring, i.ring);
      as_many = i.as_many;
      keeps = i.keeps;
      durable_seen = subst (λ n. n ≤ i.seat.seen) (sym did.serves.durable) i.durable_seen;
      aims = aims_kept i.stage (durable_of i.core) (durable_of new) i.seat.kept i.seat.kept refl (omega (arith, did.serves.durable)) i.aims;
      counted = i.counted;
      parts = i.parts;
      none_kept = i.none_kept;
      booked = i.booked;
      failing = i.failing;
      fails = λ p. did.fails.1 (inl (i.fails p));
    }
