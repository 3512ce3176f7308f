use Rattle.std.proofs.Common.{rules, ◌≡◌, [], ◌∷◌, ◌++◌, length, arith, false, refl, sym, ap, subst, ◌∙◌}
use Rattle.std.proofs.Math.Logic.{∥∥₁_map, ∥∥₁_elim, ∥∥₁_prop}
use Rattle.shore_heap.specs.Heaps as heaps
use Rattle.shore_log.specs.PlainTails.{waiting_in}
use Rattle.shore_log.specs.Settled.{anchor_of}
use Rattle.shore_core.specs.declared.checkpointing.CheckpointStep.TheVariants as made
use Rattle.shore_world.proofs.MovingAnchors.{ready_settles}
use Rattle.shore_world.specs.EventMoves.{OfCheckpoint}
use Rattle.shore_held.specs.Comings.{HasComeBy, anchored_at}
use Rattle.shore_held.specs.Trails.{calls_in, moves_of}
use Rattle.shore_held.specs.declared.asked.Asked.TheVariants as Asked
use Rattle.shore_held.proofs.Aims.{never_aims}
use Rattle.shore_held.proofs.Checkpoints.{step_made}
use Rattle.shore_held.proofs.Trails.{calls_snoc, failure_before, failure_stays, long_snoc, moves_snoc, noted_still}
use Rattle.shore_held.proofs.checkpointing.make_step.Goals as goal

pub invariant_of-core : goal.invariant_of-core
invariant_of-core g c =
    let j = c.args.core.now in
    let i = c.held.invariant in
    let log = c.held.inside.log in
    let did = c.checkpoint_step.ensures in
    let new = c.checkpoint_step.new.self in
    let later = c.checkpoint_step.new.stage in
    let step = c.in-Made.step in
    let is : c.checkpoint_step.result ≡ made.Made step = search rules in
    let e1 = c.note.ensures.asked in
    let e2 = c.note.ensures.stepped in
    let runs : c.held.inside.failed ≡ false = ap (λ s. s.failed) c.held.view_is ∙ c.requires.running.0 in
    let trail : moves_of c.note.new.asked.items c.note.new.stepped.items ≡ moves_of j.asked.items j.stepped.items ++ OfCheckpoint step ∷ [] =
    (λ t. moves_of (e1 t) (e2 t)) ∙ moves_snoc j.asked.items j.stepped.items (Asked.Checkpoint, 0) (step, 0) j.as_many in
    record {
      come_by = λ start honest. ∥∥₁_elim (i.10 start honest) ∥∥₁_prop (λ k. ∥∥₁_map (j.come_by start honest) (λ h.
          subst (HasComeBy start g.B.Named.cut g.B.Named.before new later (anchored_at j.seat.kept)) (sym trail)
          (step_made g.B.Named.cut g.B.Named.before j.core j.stage (anchored_at j.seat.kept) (moves_of j.asked.items j.stepped.items) h log c.args.held.now (waiting_in c.held.inside.next)
          (sym (ap (λ s. s.anchors) c.held.view_is)) (sym (ap (λ s. s.cut) c.held.view_is)) (sym (ap (λ s. s.list) c.held.view_is)) (sym (ap (λ s. s.stable) c.held.view_is)) c.requires.met
          new later c.checkpoint_step.result step is did.heap did.ring did.running (λ p. did.no_move (is ∙ ap made.Made p)) did.failed
          (anchor_of log).tail (anchor_of log).tail_place (ready_settles log k.front (k.ready runs)).groups (ready_settles log k.front (k.ready runs)).holds did.step)));
      layout = ap heaps.geometry_of did.heap ∙ j.layout;
      ring = omega (arith, did.ring, j.ring);
      as_many = ap length e2 ∙ long_snoc j.asked.items j.stepped.items (Asked.Checkpoint, 0) (step, 0) j.as_many ∙ sym (ap length e1);
      keeps = j.keeps;
      durable_seen = omega (arith, did.durable, j.durable_seen);
      aims = never_aims j.seat.kept.aim c.requires.running.1;
      counted = omega (arith, j.counted, calls_snoc j.asked.items (Asked.Checkpoint, 0), ap calls_in e1);
      parts = j.parts;
      none_kept = j.none_kept;
      booked = (j.booked.0, j.booked.1 ∙ sym (noted_still j.asked.items _ j.stepped.items _ (Asked.Checkpoint, 0) (step, 0) j.as_many e1 e2 refl), j.booked.2);
      failing = λ p. failure_stays j.asked.items _ (Asked.Checkpoint, 0) e1 (j.failing p);
      fails = λ p. did.running ∙ j.fails (failure_before j.asked.items _ (Asked.Checkpoint, 0) e1 refl p);
    }
