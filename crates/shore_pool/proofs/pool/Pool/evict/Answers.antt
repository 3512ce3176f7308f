use Rattle.std.proofs.Common.{◌≡◌, ◌≢◌, ◌∙◌, ℕ, List, Option, IsSomeAnd, None, Some, refl, sym, ap, subst}
use Rattle.shore_types.specs.declared.layout.Geometry.{Geometry}
use Rattle.shore_disk.specs.Device.{LeavesOnly}
use Rattle.shore_dwrite.specs.declared.device.PageDev.{PageDev}
use Rattle.shore_dwrite.specs.Images.{numbers_of, texts_of}
use Rattle.shore_dwrite.specs.Settled as settled_device
use Rattle.shore_pool.specs.declared.frame.Frame.{Frame}
use Rattle.shore_pool.specs.declared.frames.Frames.{Frames}
use Rattle.shore_pool.specs.FrameMaps as maps
use Rattle.shore_pool.specs.Pages.{AreInOrder, AreWritten, SamePages, StayUnwritten}
use Rattle.shore_pool.specs.Pools.{LeavesPages, frame_at, history_of}
use Rattle.shore_pool.proofs.Moments.{Leaves, as_it_was, while_shown}
use Rattle.shore_pool.proofs.Freeing.{frees_from}
use Rattle.shore_pool.proofs.Steps.{alike, kept_from, refusal_says, refused_from}
use Rattle.shore_pool.proofs.UnderWay.{held_same}
use Rattle.shore_pool.proofs.Unwritten.{none_written, were_gone}
use Rattle.shore_pool.proofs.pool.Pool.evict.Goals as goal

pub invariant_of-self-clause-in_order : goal.invariant_of-self-clause-in_order
invariant_of-self-clause-in_order g c =
    let old = c.args.self.now in
    let at = maps.frame_at old.frames in
    let same = alike at (maps.frame_at c.cold.new.self) c.cold.ensures.same in
    subst (λ (at : ℕ → Option Frame). AreInOrder at (settled_device.geometry_of old.device)) (sym same) old.in_order

pub free-requires-clause-clean : goal.free-requires-clause-clean
free-requires-clause-clean g c =
    let old = c.args.self.now in
    let at = maps.frame_at old.frames in
    let same = alike at (maps.frame_at c.cold.new.self) c.cold.ensures.same in
    subst (λ (it : Frames). IsSomeAnd (maps.frame_at it c.in-Some.number) (λ f. f.recovery ≡ None)) (sym c.let_go.ensures.frames)
    (subst (λ (now : ℕ → Option Frame). IsSomeAnd (now c.in-Some.number) (λ f. f.recovery ≡ None)) (sym same) c.in-Some.ensures.clean)

pub returns-in-Some-clause-kept : goal.returns-in-Some-clause-kept
returns-in-Some-clause-kept g c front disk holds =
    let old = c.args.self.now in
    let at = maps.frame_at old.frames in
    let same = alike at (maps.frame_at c.cold.new.self) c.cold.ensures.same in
    let mid = frame_at c.let_go.new.self in
    let is : mid ≡ at = ap (λ (it : Frames). maps.frame_at it) c.let_go.ensures.frames ∙ same in
    let freed = c.free.ensures.kept front disk (c.in_ok-let_go.ensures.kept front disk (record {
      settled = holds.settled;
      written = subst (λ (now : ℕ → Option Frame). AreWritten now disk) (sym same) holds.written;
      held = held_same _ old.amid at (maps.frame_at c.cold.new.self) (numbers_of old.batch) (texts_of old.batch) c.cold.ensures.same holds.held;
    })) in
    record {
      left = disk;
      holds = freed.0;
      may = as_it_was (settled_device.geometry_of old.device) at c.args.durable front disk;
      same = subst (λ (now : ℕ → Option Frame). SamePages (settled_device.geometry_of c.args.self.now.device).version now disk (frame_at c.free.new.self) disk) is
          (subst (λ (it : Geometry). SamePages it.version mid disk (frame_at c.free.new.self) disk) c.let_go.ensures.geometry freed.1);
      unwritten = subst (λ (now : ℕ → Option Frame). StayUnwritten now disk (frame_at c.free.new.self) disk) is
          (none_written (settled_device.geometry_of c.args.self.now.device).version mid (frame_at c.free.new.self) disk (were_gone (settled_device.geometry_of c.args.self.now.device).version mid (frame_at c.free.new.self) c.in-Some.number c.free.ensures.others c.free.ensures.gone));
    }

pub returns-in-Some-clause-any_moment : goal.returns-in-Some-clause-any_moment
returns-in-Some-clause-any_moment g c front disk holds =
    let old = c.args.self.now in
    let at = maps.frame_at old.frames in
    let same = alike at (maps.frame_at c.cold.new.self) c.cold.ensures.same in
    subst (λ (d : PageDev _ _). LeavesOnly (history_of old) (g.D.Disk.history (settled_device.device_of d)) (LeavesPages old c.args.durable front disk)) (sym c.free.ensures.device)
    (while_shown (settled_device.geometry_of old.device) at c.args.durable front disk _ _ (c.let_go.ensures.any_moment front disk (record {
      settled = holds.settled;
      written = subst (λ (now : ℕ → Option Frame). AreWritten now disk) (sym same) holds.written;
      held = held_same _ old.amid at (maps.frame_at c.cold.new.self) (numbers_of old.batch) (texts_of old.batch) c.cold.ensures.same holds.held;
    })))

pub returns-clause-kept : goal.returns-clause-kept
returns-clause-kept g c front disk holds =
    let old = c.args.self.now in
    let at = maps.frame_at old.frames in
    let same = alike at (maps.frame_at c.cold.new.self) c.cold.ensures.same in
    kept_from old _ c.steal.new.self refl same c.args.durable front disk c.steal.result
    (c.steal.ensures.kept front disk (record {
      settled = holds.settled;
      written = subst (λ (now : ℕ → Option Frame). AreWritten now disk) (sym same) holds.written;
      held = held_same _ old.amid at (maps.frame_at c.cold.new.self) (numbers_of old.batch) (texts_of old.batch) c.cold.ensures.same holds.held;
    }))

pub returns-clause-refused : goal.returns-clause-refused
returns-clause-refused g c =
    let old = c.args.self.now in
    let at = maps.frame_at old.frames in
    let same = alike at (maps.frame_at c.cold.new.self) c.cold.ensures.same in
    refused_from old _ same c.args.durable c.steal.result (c.steal.ensures.refused (subst (λ (now : ℕ → Option Frame). (k : ℕ) (f : Frame) → now k ≡ Some f → f.recovery ≢ None) (sym same) c.in_default.ensures.none))

pub returns-clause-any_moment : goal.returns-clause-any_moment
returns-clause-any_moment g c front disk holds =
    let old = c.args.self.now in
    let at = maps.frame_at old.frames in
    let same = alike at (maps.frame_at c.cold.new.self) c.cold.ensures.same in
    subst (λ (now : ℕ → Option Frame). LeavesOnly (history_of old) (history_of c.steal.new.self) (Leaves (settled_device.geometry_of old.device) now c.args.durable front disk)) same
    (c.steal.ensures.any_moment front disk (record {
      settled = holds.settled;
      written = subst (λ (now : ℕ → Option Frame). AreWritten now disk) (sym same) holds.written;
      held = held_same _ old.amid at (maps.frame_at c.cold.new.self) (numbers_of old.batch) (texts_of old.batch) c.cold.ensures.same holds.held;
    }))

pub returns-clause-unmoved : goal.returns-clause-unmoved
returns-clause-unmoved g c = refusal_says c.steal.result (λ fault still number is k. still number is k ∙ c.cold.ensures.same k) c.steal.ensures.unmoved

pub returns-in_err-let_go-clause-any_moment : goal.returns-in_err-let_go-clause-any_moment
returns-in_err-let_go-clause-any_moment g c front disk holds =
    let old = c.args.self.now in
    let at = maps.frame_at old.frames in
    let same = alike at (maps.frame_at c.cold.new.self) c.cold.ensures.same in
    while_shown (settled_device.geometry_of old.device) at c.args.durable front disk _ _ (c.let_go.ensures.any_moment front disk (record {
      settled = holds.settled;
      written = subst (λ (now : ℕ → Option Frame). AreWritten now disk) (sym same) holds.written;
      held = held_same _ old.amid at (maps.frame_at c.cold.new.self) (numbers_of old.batch) (texts_of old.batch) c.cold.ensures.same holds.held;
    }))

pub returns-clause-in_order : goal.returns-clause-in_order
returns-clause-in_order g c =
    let at = maps.frame_at c.args.self.now.frames in
    let same = alike at (maps.frame_at c.cold.new.self) c.cold.ensures.same in
    frees_from at (maps.frame_at c.cold.new.self) (frame_at c.steal.new.self) c.args.durable same
    (c.steal.ensures.oldest (subst (λ (frames : ℕ → Option Frame). (k : ℕ) (f : Frame) → frames k ≡ Some f → f.recovery ≢ None) (sym same) c.in_default.ensures.none))
