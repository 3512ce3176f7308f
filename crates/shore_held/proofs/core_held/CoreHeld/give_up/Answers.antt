use Rattle.std.proofs.Common.{◌≡◌, ◌≤◌, ◌+◌, [], ◌∷◌, ◌++◌, length, arith, refl, sym, ap, subst, ◌∙◌, None, true≢false}
use Rattle.std.proofs.Math.Logic.{∥∥₁_map}
use Rattle.laws_calls.specs.Events.{GaveUp}
use Rattle.shore_model.specs.declared.step.Step.{Step}
use Rattle.shore_model.specs.declared.step.Step.TheVariants as made
use Rattle.shore_world.specs.EventMoves.{OfManager}
use Rattle.shore_core.specs.Cores.{durable_of}
use Rattle.shore_held.specs.Comings.{HasComeBy, anchored_at}
use Rattle.shore_held.specs.Trails.{calls_in, moves_of, noted_back, noted_in}
use Rattle.shore_held.specs.declared.asked.Asked.TheVariants as Asked
use Rattle.shore_held.proofs.Aims.{aims_kept}
use Rattle.shore_held.proofs.Comings.{given_up}
use Rattle.shore_held.proofs.Trails.{calls_snoc, failure_before, failure_stays, long_snoc, moves_snoc, noted_if_taken, noted_snoc, noted_still}
use Rattle.shore_held.proofs.core_held.CoreHeld.give_up.Goals as goal

pub invariant_of-self : goal.invariant_of-self
invariant_of-self g c =
    let i = c.args.self.now in
    let new = c.give_up-step.new.self in
    let session = c.args.session in
    let step = c.give_up-step.result in
    let is = c.give_up-step.ensures in
    let e1 = c.and-self.ensures in
    let e2 = c.and-self-2.ensures in
    let trail : moves_of c.and-self.result.items c.and-self-2.result.items ≡ moves_of i.asked.items i.stepped.items ++ OfManager (GaveUp session step) ∷ [] =
    (λ j. moves_of (e1 j) (e2 j)) ∙ moves_snoc i.asked.items i.stepped.items (Asked.GiveUp, session) (step, session) i.as_many in
    let none : step ≡ made.Nothing = c.is_nothing.ensures.0 c.if-is_nothing.true in
    record {
      come_by = λ start honest. ∥∥₁_map (i.come_by start honest) (λ h. subst (HasComeBy start g.B.Named.cut g.B.Named.before new i.stage (anchored_at i.seat.kept)) (sym trail)
          (given_up g.B.Named.cut g.B.Named.before i.core i.stage (anchored_at i.seat.kept) (moves_of i.asked.items i.stepped.items) h new session step is.serves.volume.geometry is.ring is.step is.serves.any_moment is.heap));
      layout = is.serves.volume.geometry ∙ i.layout;
      ring = omega (arith, is.ring, i.ring);
      as_many = ap length e2 ∙ long_snoc i.asked.items i.stepped.items (Asked.GiveUp, session) (step, session) i.as_many ∙ sym (ap length e1);
      keeps = i.keeps;
      durable_seen = subst (λ n. n ≤ i.seat.seen) (sym is.serves.durable) i.durable_seen;
      aims = aims_kept i.stage (durable_of i.core) (durable_of new) i.seat.kept i.seat.kept refl (omega (arith, is.serves.durable)) i.aims;
      counted = c.add.ensures.total ∙ ap (λ n. n + 1) i.counted ∙ sym (calls_snoc i.asked.items (Asked.GiveUp, session)) ∙ sym (ap calls_in e1);
      parts = i.parts;
      none_kept = i.none_kept;
      booked = (i.booked.0, i.booked.1 ∙ sym (noted_still i.asked.items _ i.stepped.items _ (Asked.GiveUp, session) (step, session) i.as_many e1 e2 (ap (noted_back session) none)), i.booked.2);
      failing = λ p. failure_stays i.asked.items _ (Asked.GiveUp, session) e1 (i.failing p);
      fails = λ p. is.failed ∙ i.fails (failure_before i.asked.items _ (Asked.GiveUp, session) e1 refl p);
    }

pub invariant_of-self-2 : goal.invariant_of-self-2
invariant_of-self-2 g c =
    let i = c.args.self.now in
    let new = c.give_up-step.new.self in
    let session = c.args.session in
    let step = c.give_up-step.result in
    let is = c.give_up-step.ensures in
    let e1 = c.and-self.ensures in
    let e2 = c.and-self-2.ensures in
    let trail : moves_of c.and-self.result.items c.and-self-2.result.items ≡ moves_of i.asked.items i.stepped.items ++ OfManager (GaveUp session step) ∷ [] =
    (λ j. moves_of (e1 j) (e2 j)) ∙ moves_snoc i.asked.items i.stepped.items (Asked.GiveUp, session) (step, session) i.as_many in
    let some : ¬ (step ≡ made.Nothing) = λ nothing. true≢false (sym (c.is_nothing.ensures.1 nothing) ∙ c.if-is_nothing.false) in
    let noted : (record { session = c.args.ear.now.session; heard = record { asked = c.of-none.result.value; step = step } } ∷ []) ≡ noted_back session step =
    (λ j. record { session = c.requires.ear.1 j; heard = record { asked = (c.of-none.ensures) j; step = step } } ∷ []) ∙ sym (noted_if_taken session step some) in
    record {
      come_by = λ start honest. ∥∥₁_map (i.come_by start honest) (λ h. subst (HasComeBy start g.B.Named.cut g.B.Named.before new i.stage (anchored_at i.seat.kept)) (sym trail)
          (given_up g.B.Named.cut g.B.Named.before i.core i.stage (anchored_at i.seat.kept) (moves_of i.asked.items i.stepped.items) h new session step is.serves.volume.geometry is.ring is.step is.serves.any_moment is.heap));
      layout = is.serves.volume.geometry ∙ i.layout;
      ring = omega (arith, is.ring, i.ring);
      as_many = ap length e2 ∙ long_snoc i.asked.items i.stepped.items (Asked.GiveUp, session) (step, session) i.as_many ∙ sym (ap length e1);
      keeps = i.keeps;
      durable_seen = subst (λ n. n ≤ i.seat.seen) (sym is.serves.durable) i.durable_seen;
      aims = aims_kept i.stage (durable_of i.core) (durable_of new) i.seat.kept i.seat.kept refl (omega (arith, is.serves.durable)) i.aims;
      counted = c.add.ensures.total ∙ ap (λ n. n + 1) i.counted ∙ sym (calls_snoc i.asked.items (Asked.GiveUp, session)) ∙ sym (ap calls_in e1);
      parts = i.parts;
      none_kept = i.none_kept;
      booked = (
        c.note.ensures.notes.0,
        c.note.ensures.notes.2 ∙ (λ j. i.booked.1 j ++ noted j) ∙ sym (noted_snoc i.asked.items i.stepped.items (Asked.GiveUp, session) (step, session) i.as_many) ∙ (λ j. noted_in (sym e1 j) (sym e2 j)),
        c.note.ensures.notes.1 ∙ i.booked.2,
      );
      failing = λ p. failure_stays i.asked.items _ (Asked.GiveUp, session) e1 (i.failing (sym c.note.ensures.notes.3 ∙ p));
      fails = λ p. is.failed ∙ i.fails (failure_before i.asked.items _ (Asked.GiveUp, session) e1 refl p);
    }
