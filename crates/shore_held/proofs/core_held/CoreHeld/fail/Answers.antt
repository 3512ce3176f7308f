use Rattle.std.proofs.Common.{◌≡◌, ◌≤◌, [], ◌∷◌, ◌++◌, length, arith, refl, sym, ap, subst, ◌∙◌}
use Rattle.std.proofs.Math.Logic.{∥∥₁_map}
use Rattle.laws_calls.specs.Events.{HasFailed}
use Rattle.shore_heap.specs.Heaps as heaps
use Rattle.shore_model.specs.declared.step.Step.TheVariants as Step
use Rattle.shore_world.specs.EventMoves.{OfManager}
use Rattle.shore_core.specs.Cores.{durable_of}
use Rattle.shore_held.specs.Comings.{HasComeBy, anchored_at}
use Rattle.shore_held.specs.Trails.{calls_in, moves_of}
use Rattle.shore_held.specs.declared.asked.Asked.TheVariants as Asked
use Rattle.shore_held.proofs.Aims.{aims_kept}
use Rattle.shore_held.proofs.Comings.{failed}
use Rattle.shore_held.proofs.Trails.{calls_snoc, failure_told, long_snoc, moves_snoc, noted_still}
use Rattle.shore_held.proofs.core_held.CoreHeld.fail.Goals as goal

pub invariant_of-self : goal.invariant_of-self
invariant_of-self g c =
    let i = c.args.self.now in
    let new = c.fail.new.self in
    let e1 = c.and-self.ensures in
    let e2 = c.and-self-2.ensures in
    let trail : moves_of c.and-self.result.items c.and-self-2.result.items ≡ moves_of i.asked.items i.stepped.items ++ OfManager HasFailed ∷ [] =
    (λ j. moves_of (e1 j) (e2 j)) ∙ moves_snoc i.asked.items i.stepped.items (Asked.Failed, 0) (Step.Nothing, 0) i.as_many in
    record {
      come_by = λ start honest. ∥∥₁_map (i.come_by start honest) (λ h. subst (HasComeBy start g.B.Named.cut g.B.Named.before new i.stage (anchored_at i.seat.kept)) (sym trail)
          (failed g.B.Named.cut g.B.Named.before i.core i.stage (anchored_at i.seat.kept) (moves_of i.asked.items i.stepped.items) h new c.fail.ensures.heap c.fail.ensures.ring c.fail.ensures.failed));
      layout = ap heaps.geometry_of c.fail.ensures.heap ∙ i.layout;
      ring = omega (arith, c.fail.ensures.ring, i.ring);
      as_many = ap length e2 ∙ long_snoc i.asked.items i.stepped.items (Asked.Failed, 0) (Step.Nothing, 0) i.as_many ∙ sym (ap length e1);
      keeps = i.keeps;
      durable_seen = subst (λ n. n ≤ i.seat.seen) (sym c.fail.ensures.durable) i.durable_seen;
      aims = aims_kept i.stage (durable_of i.core) (durable_of new) i.seat.kept i.seat.kept refl (omega (arith, c.fail.ensures.durable)) i.aims;
      counted = omega (arith, i.counted, calls_snoc i.asked.items (Asked.Failed, 0), ap calls_in e1);
      parts = i.parts;
      none_kept = i.none_kept;
      booked = (
        ap (λ v. v.notes) c.tell_failure.ensures ∙ i.booked.0,
        ap (λ v. v.noted) c.tell_failure.ensures ∙ i.booked.1 ∙ sym (noted_still i.asked.items _ i.stepped.items _ (Asked.Failed, 0) (Step.Nothing, 0) i.as_many e1 e2 refl),
        ap (λ v. v.made) c.tell_failure.ensures ∙ i.booked.2,
      );
      failing = λ _. failure_told i.asked.items _ (Asked.Failed, 0) e1 refl;
      fails = λ _. c.fail.ensures.noted;
    }
