use Rattle.std.proofs.Common.{◌≡◌, ◌≢◌, ℕ, List, Contains, Option, option_map, is_some, true, refl, sym, ap, subst, ◌∙◌}
use Rattle.shore_dwrite.specs.Images.{numbers_of, texts_of}
use Rattle.shore_dwrite.specs.Settled as settled_device
use Rattle.shore_pool.specs.declared.frame.Frame.{Frame}
use Rattle.shore_pool.specs.declared.frames.Frames.{Frames}
use Rattle.shore_pool.specs.Changes.{changed}
use Rattle.shore_pool.specs.FrameMaps as maps
use Rattle.shore_pool.specs.Pools.{amid_of, batch_of, batch_texts_of, frame_at}
use Rattle.shore_pool.proofs.Orders.{order_changed}
use Rattle.shore_pool.proofs.Same.{change_written}
use Rattle.shore_pool.proofs.UnderWay.{held_but, mapped_there}
use Rattle.shore_pool.proofs.pool.Pool.change.Goals as goal

pub invariant_of-self-clause-in_order : goal.invariant_of-self-clause-in_order
invariant_of-self-clause-in_order g c =
    let mid = c.give_up_with.new.self in
    order_changed (maps.frame_at mid.frames) (maps.frame_at c.change.new.self) (settled_device.geometry_of mid.device) c.number-number.result (changed c.args.lsn c.args.slot _) (λ f. refl) mid.in_order c.change.ensures.here c.change.ensures.others

pub returns-clause-kept : goal.returns-clause-kept
returns-clause-kept g c front disk had =
    let mid = c.give_up_with.new.self in
    let at = maps.frame_at mid.frames in
    let now = maps.frame_at c.change.new.self in
    let holds = c.give_up_with.ensures.kept front disk had in
    record {
      settled = holds.settled;
      written = change_written at now disk c.number-number.result c.args.lsn c.args.slot _ c.change.ensures.here c.change.ensures.others holds.written;
      held = held_but _ mid.amid at now (numbers_of mid.batch) (texts_of mid.batch) c.number-number.result c.change.ensures.others c.give_up_with.ensures.gone
          (λ is has there. subst (λ (o : Option Frame). is_some o ≡ true) (sym c.change.ensures.here) (mapped_there (changed c.args.lsn c.args.slot _) (at c.number-number.result) there)) holds.held;
    }

pub returns-clause-apart : goal.returns-clause-apart
returns-clause-apart g c out = ap amid_of (c.give_up_with.ensures.apart (subst (λ (k : ℕ). Contains (batch_of c.args.self.now) k → ⊥) (sym c.number-number.ensures.number) out))
