use Rattle.std.proofs.Common.{inl, inr, refl, sym, ap, subst, ◌∙◌}
use Rattle.shore_pool.specs.Pages.{SamePages}
use Rattle.shore_types.specs.declared.layout.Geometry.{Geometry}
use Rattle.std.proofs.lemmas.Bool.{cases_eq}
use Rattle.shore_disk.specs.Device.{LeavesOnly}
use Rattle.shore_dwrite.specs.declared.device.PageDev.{PageDev}
use Rattle.shore_dwrite.specs.Images.{numbers_of, texts_of}
use Rattle.shore_dwrite.specs.Settled as settled_device
use Rattle.shore_pool.specs.Pools.{LeavesPages, frame_at, history_of}
use Rattle.shore_pool.proofs.Moments.{while_still}
use Rattle.shore_pool.proofs.Freeing.{oldest_may, one_goes}
use Rattle.shore_pool.proofs.Same.{all_above, one_above, pages_on}
use Rattle.shore_pool.proofs.Unwritten.{none_written, unwritten_on, were_gone}
use Rattle.shore_pool.proofs.pool.Pool.steal.Goals as goal

pub write_with-requires : goal.write_with-requires
write_with-requires g c = c.in-Some.ensures.due

pub free-requires-clause-apart : goal.free-requires-clause-apart
free-requires-clause-apart g c opened has = c.in_ok-write_with.ensures.closed opened

pub free-requires-clause-clean : goal.free-requires-clause-clean
free-requires-clause-clean g c = c.in_ok-write_with.ensures.clean

pub returns-in-Some-clause-frames : goal.returns-in-Some-clause-frames
returns-in-Some-clause-frames g c k = elim (cases_eq k c.in-Some.number) [
  | inl same ↦ inr (inr (ap (frame_at c.free.new.self) same ∙ c.free.ensures.gone))
  | inr other ↦ elim (c.write_with.ensures.frames k) [
    | inl still ↦ inl (c.free.ensures.others k other ∙ still)
    | inr clean ↦ inr (inl (c.free.ensures.others k other ∙ clean))
  ]
]

pub returns-in-Some-clause-kept : goal.returns-in-Some-clause-kept
returns-in-Some-clause-kept g c front disk holds =
    let n = c.in-Some.number in
    let old = frame_at c.args.self.now in
    let now = frame_at c.write_with.new.self in
    let wrote = c.in_ok-write_with.ensures.kept front disk holds in
    let freed = c.free.ensures.kept front wrote.left wrote.holds in
    record {
      left = wrote.left;
      holds = freed.0;
      may = wrote.may;
      same = pages_on (settled_device.geometry_of c.args.self.now.device).version old now (frame_at c.free.new.self) disk wrote.left wrote.left wrote.same
          (subst (λ (it : Geometry). SamePages it.version now wrote.left (frame_at c.free.new.self) wrote.left) c.write_with.ensures.geometry freed.1);
      unwritten = unwritten_on old now (frame_at c.free.new.self) disk wrote.left wrote.left wrote.unwritten
          (none_written (settled_device.geometry_of c.args.self.now.device).version now (frame_at c.free.new.self) wrote.left (were_gone (settled_device.geometry_of c.args.self.now.device).version now (frame_at c.free.new.self) n c.free.ensures.others c.free.ensures.gone));
    }

pub returns-in-Some-clause-any_moment : goal.returns-in-Some-clause-any_moment
returns-in-Some-clause-any_moment g c front disk holds =
    let old = c.args.self.now in
    subst (λ (d : PageDev _ _). LeavesOnly (history_of old) (g.D.Disk.history (settled_device.device_of d)) (LeavesPages old c.args.durable front disk)) (sym c.free.ensures.device)
    (c.write_with.ensures.any_moment front disk holds)

pub returns-in-Some-any_number-clause-refused : goal.returns-in-Some-any_number-clause-refused
returns-in-Some-any_number-clause-refused g c dirty =
    let at = frame_at c.args.self.now in
    let number = c.in-Some-any_number.number in
    let one = c.in-Some-any_number.ensures.some in
    let all = all_above at c.args.durable dirty c.in_default.ensures.none in
    inr (number, refl, record { above = one_above at c.args.durable number one all; one = one; all = all })

pub returns-in-Some-any_number-clause-any_moment : goal.returns-in-Some-any_number-clause-any_moment
returns-in-Some-any_number-clause-any_moment g c front disk holds = while_still c.args.self.now.device (frame_at c.args.self.now) c.args.durable front disk (numbers_of c.args.self.now.batch) (texts_of c.args.self.now.batch) c.args.self.now.amid holds.settled

pub returns-in-None-clause-any_moment : goal.returns-in-None-clause-any_moment
returns-in-None-clause-any_moment g c front disk holds = while_still c.args.self.now.device (frame_at c.args.self.now) c.args.durable front disk (numbers_of c.args.self.now.batch) (texts_of c.args.self.now.batch) c.args.self.now.amid holds.settled

pub returns-in-Some-clause-oldest : goal.returns-in-Some-clause-oldest
returns-in-Some-clause-oldest g c dirty =
    one_goes c.args.self.now c.free.new.self c.args.durable c.in-Some.number
    (oldest_may c.args.self.now c.args.durable (frame_at c.args.self.now c.in-Some.number) dirty c.in-Some.ensures.due c.in-Some.ensures.first)
    (λ k other. elim (c.write_with.ensures.frames k) [
      | inl still ↦ inl (c.free.ensures.others k other ∙ still)
      | inr clean ↦ inr (c.free.ensures.others k other ∙ clean)
    ])
