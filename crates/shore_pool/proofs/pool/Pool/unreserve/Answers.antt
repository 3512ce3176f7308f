use Rattle.std.proofs.Common.{refl}
use Rattle.shore_page.specs.Room.{lowered}
use Rattle.shore_dwrite.specs.Settled as settled_device
use Rattle.shore_pool.specs.Changes.{reclaimed}
use Rattle.shore_pool.specs.FrameMaps as maps
use Rattle.shore_pool.proofs.Orders.{order_changed}
use Rattle.shore_pool.proofs.Same.{claims_some, claims_stay, claims_text, claims_written}
use Rattle.shore_dwrite.specs.Images.{numbers_of, texts_of}
use Rattle.shore_pool.proofs.UnderWay.{held_stays}
use Rattle.shore_pool.proofs.pool.Pool.unreserve.Goals as goal

pub invariant_of-self-clause-in_order : goal.invariant_of-self-clause-in_order
invariant_of-self-clause-in_order g c =
    let old = c.args.self.now in
    order_changed (maps.frame_at old.frames) (maps.frame_at c.unreserve.new.self) (settled_device.geometry_of old.device) c.number-number.result (reclaimed (lowered c.args.bytes) c.args.slot) (λ f. refl) old.in_order c.unreserve.ensures.here c.unreserve.ensures.others

pub returns-clause-kept : goal.returns-clause-kept
returns-clause-kept g c front disk holds =
    let old = c.args.self.now in
    let at = maps.frame_at c.args.self.now.frames in
    let now = maps.frame_at c.unreserve.new.self in (
      record {
        settled = holds.settled;
        written = claims_written (settled_device.geometry_of c.args.self.now.device).version at now disk c.number-number.result c.args.slot (lowered c.args.bytes) (λ s. refl) c.unreserve.ensures.here c.unreserve.ensures.others holds.written;
        held = held_stays _ old.amid at now (numbers_of old.batch) (texts_of old.batch) holds.held
            (λ k text is has had. claims_text (settled_device.geometry_of c.args.self.now.device).version at now disk c.number-number.result c.args.slot (lowered c.args.bytes) (λ s. refl) c.unreserve.ensures.here c.unreserve.ensures.others k text had) (λ k is has there. claims_some (settled_device.geometry_of c.args.self.now.device).version at now disk c.number-number.result c.args.slot (lowered c.args.bytes) (λ s. refl) c.unreserve.ensures.here c.unreserve.ensures.others k there);
      },
      claims_stay (settled_device.geometry_of c.args.self.now.device).version at now disk c.number-number.result c.args.slot (lowered c.args.bytes) (λ s. refl) c.unreserve.ensures.here c.unreserve.ensures.others,
    )
