use Rattle.std.proofs.Common.{◌≡◌, ◌≤◌, [], ◌∷◌, ◌++◌, length, arith, refl, sym, ap, subst, ◌∙◌}
use Rattle.std.proofs.Math.Logic.{∥∥₁_map}
use Rattle.laws_calls.specs.Events.{Forced}
use Rattle.shore_heap.specs.Heaps as heaps
use Rattle.shore_model.specs.declared.step.Step.TheVariants as Step
use Rattle.shore_core.specs.Cores.{durable_of, last_of}
use Rattle.shore_world.specs.EventMoves.{OfManager}
use Rattle.shore_held.specs.Comings.{HasComeBy, anchored_at}
use Rattle.shore_held.specs.Trails.{calls_in, moves_of}
use Rattle.shore_held.specs.declared.asked.Asked.TheVariants as Asked
use Rattle.shore_held.proofs.Aims.{aims_kept}
use Rattle.shore_held.proofs.Comings.{told}
use Rattle.shore_held.proofs.Trails.{calls_snoc, failure_before, failure_stays, long_snoc, moves_snoc, noted_still}
use Rattle.shore_held.proofs.core_held.CoreHeld.learn.Goals as goal

pub invariant_of-self : goal.invariant_of-self
invariant_of-self g c =
    let i = c.args.self.now in
    let new = c.told.new.self in
    let n = c.least-durable.result in
    let e1 = c.and-self.ensures in
    let e2 = c.and-self-then-durable-last.ensures in
    let trail : moves_of c.and-self.result.items c.and-self-then-durable-last.result.items ≡ moves_of i.asked.items i.stepped.items ++ OfManager (Forced n) ∷ [] =
    (λ j. moves_of (e1 j) (e2 j)) ∙ moves_snoc i.asked.items i.stepped.items (Asked.Told n, 0) (Step.Nothing, 0) i.as_many in
    let more : durable_of i.core ≤ n = omega (arith, c.durable.ensures, c.if-durable-last.true) in
    let within : n ≤ last_of i.core = omega (arith, c.least-durable.ensures.second, c.last.ensures) in
    record {
      come_by = λ start honest. ∥∥₁_map (i.come_by start honest) (λ h. subst (HasComeBy start g.B.Named.cut g.B.Named.before new i.stage (anchored_at i.seat.kept)) (sym trail)
          (told g.B.Named.cut g.B.Named.before i.core i.stage (anchored_at i.seat.kept) (moves_of i.asked.items i.stepped.items) h new c.told.ensures.heap c.told.ensures.ring n more within c.told.ensures.told));
      layout = ap heaps.geometry_of c.told.ensures.heap ∙ i.layout;
      ring = omega (arith, c.told.ensures.ring, i.ring);
      as_many = ap length e2 ∙ long_snoc i.asked.items i.stepped.items (Asked.Told n, 0) (Step.Nothing, 0) i.as_many ∙ sym (ap length e1);
      keeps = i.keeps;
      durable_seen = omega (arith, c.told.ensures.durable, c.least-durable.ensures.first, c.requires);
      aims = aims_kept i.stage (durable_of i.core) (durable_of new) i.seat.kept i.seat.kept refl (omega (arith, c.told.ensures.durable, more)) i.aims;
      counted = omega (arith, i.counted, calls_snoc i.asked.items (Asked.Told n, 0), ap calls_in e1);
      parts = i.parts;
      none_kept = i.none_kept;
      booked = (i.booked.0, i.booked.1 ∙ sym (noted_still i.asked.items _ i.stepped.items _ (Asked.Told n, 0) (Step.Nothing, 0) i.as_many e1 e2 refl), i.booked.2);
      failing = λ p. failure_stays i.asked.items _ (Asked.Told n, 0) e1 (i.failing p);
      fails = λ p. c.told.ensures.running ∙ i.fails (failure_before i.asked.items _ (Asked.Told n, 0) e1 refl p);
    }
