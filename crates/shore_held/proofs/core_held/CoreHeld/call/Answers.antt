use Rattle.std.proofs.Common.{rules, ◌≡◌, ◌≤◌, ◌+◌, [], ◌∷◌, ◌++◌, length, arith, refl, sym, ap, subst, ◌∙◌, Some}
use Rattle.std.proofs.Math.Logic.{∥∥₁_map}
use Rattle.shore_model.specs.declared.calls.Call.{Call}
use Rattle.laws_calls.specs.Events.{Called}
use Rattle.shore_core.specs.Replies.{InEach, Stepped}
use Rattle.shore_world.specs.EventMoves.{OfManager}
use Rattle.shore_core.specs.Cores.{durable_of}
use Rattle.shore_held.specs.Comings.{HasComeBy, anchored_at}
use Rattle.shore_held.specs.Trails.{calls_in, moves_of, noted_in}
use Rattle.shore_held.specs.declared.asked.Asked.TheVariants as Asked
use Rattle.shore_held.proofs.Aims.{aims_kept}
use Rattle.shore_held.proofs.Comings.{called}
use Rattle.shore_held.proofs.Trails.{calls_snoc, failure_before, failure_stays, long_snoc, moves_snoc, noted_snoc}
use Rattle.shore_held.proofs.core_held.CoreHeld.call.Goals as goal

pub invariant_of-self : goal.invariant_of-self
invariant_of-self g c =
    let i = c.args.self.now in
    let new = c.call-step.new.self in
    let session = c.args.session in
    let step = c.call-step.result in
    let is = c.call-step.ensures in
    let asked_is : c.in-Call.call ≡ c.args.call = search rules in
    let same : c.with_snapshot-said.result.1 ≡ c.args.call = c.with_snapshot-said.ensures.1 ∙ asked_is in
    let e1 = c.and-self.ensures in
    let e2 = c.and-self-2.ensures in
    let trail : moves_of c.and-self.result.items c.and-self-2.result.items ≡ moves_of i.asked.items i.stepped.items ++ OfManager (Called session c.args.call step) ∷ [] =
    (λ j. moves_of (e1 j) (e2 j)) ∙ moves_snoc i.asked.items i.stepped.items (Asked.Call c.args.call, session) (step, session) i.as_many in
    let noted : (record { session = c.args.ear.now.session; heard = record { asked = c.with_snapshot-said.result.0.value; step = step } } ∷ []) ≡ (record { session = session; heard = record { asked = Some c.args.call; step = step } } ∷ []) =
    λ j. record { session = c.requires.ear.1 j; heard = record { asked = (c.with_snapshot-said.ensures.0 ∙ ap Some asked_is) j; step = step } } ∷ [] in
    record {
      come_by = λ start honest. ∥∥₁_map (i.come_by start honest) (λ h. subst (HasComeBy start g.B.Named.cut g.B.Named.before new i.stage (anchored_at i.seat.kept)) (sym trail)
          (called g.B.Named.cut g.B.Named.before i.core i.stage (anchored_at i.seat.kept) (moves_of i.asked.items i.stepped.items) h new session c.args.call step is.serves.volume.geometry is.ring c.requires.served
          (subst (λ (call : Call). InEach (λ front disk before s store. Stepped session call step i.core new front before s store) i.core) same is.step) is.serves.any_moment is.still));
      layout = is.serves.volume.geometry ∙ i.layout;
      ring = omega (arith, is.ring, i.ring);
      as_many = ap length e2 ∙ long_snoc i.asked.items i.stepped.items (Asked.Call c.args.call, session) (step, session) i.as_many ∙ sym (ap length e1);
      keeps = i.keeps;
      durable_seen = subst (λ n. n ≤ i.seat.seen) (sym is.serves.durable) i.durable_seen;
      aims = aims_kept i.stage (durable_of i.core) (durable_of new) i.seat.kept i.seat.kept refl (omega (arith, is.serves.durable)) i.aims;
      counted = c.add.ensures.total ∙ ap (λ n. n + 1) i.counted ∙ sym (calls_snoc i.asked.items (Asked.Call c.args.call, session)) ∙ sym (ap calls_in e1);
      parts = i.parts;
      none_kept = i.none_kept;
      booked = (
        c.note.ensures.notes.0,
        c.note.ensures.notes.2 ∙ (λ j. i.booked.1 j ++ noted j) ∙ sym (noted_snoc i.asked.items i.stepped.items (Asked.Call c.args.call, session) (step, session) i.as_many) ∙ (λ j. noted_in (sym e1 j) (sym e2 j)),
        c.note.ensures.notes.1 ∙ i.booked.2,
      );
      failing = λ p. failure_stays i.asked.items _ (Asked.Call c.args.call, session) e1 (i.failing (sym c.note.ensures.notes.3 ∙ p));
      fails = λ p. is.stays_failed (i.fails (failure_before i.asked.items _ (Asked.Call c.args.call, session) e1 refl p));
    }

pub returns-clause-step : goal.returns-clause-step
returns-clause-step g c =
    let asked_is : c.in-Call.call ≡ c.args.call = search rules in
    let same : c.with_snapshot-said.result.1 ≡ c.args.call = c.with_snapshot-said.ensures.1 ∙ asked_is in
    subst (λ (call : Call). InEach (λ front disk before s store. Stepped c.args.session call c.call-step.result c.args.self.now.core c.call-step.new.self front before s store) c.args.self.now.core)
    same c.call-step.ensures.step
