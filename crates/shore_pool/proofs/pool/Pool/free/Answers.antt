use Rattle.std.proofs.Common.{◌≡◌, ℕ, List, Contains, IsSomeAnd, None, Option, inl, inr, sym, subst, ap, ◌∙◌}
use Rattle.shore_dwrite.specs.Images.{numbers_of, texts_of}
use Rattle.shore_dwrite.specs.Settled as settled_device
use Rattle.shore_pool.specs.declared.frame.Frame.{Frame}
use Rattle.shore_pool.specs.declared.frames.Frames.{Frames}
use Rattle.shore_pool.specs.FrameMaps as maps
use Rattle.shore_pool.specs.declared.amid.Amid.TheVariants as amid
use Rattle.shore_pool.specs.Pages.{SamePages}
use Rattle.shore_pool.proofs.Orders.{order_left}
use Rattle.shore_pool.proofs.Same.{page_goes, stay_or_go, there_is, written_stay}
use Rattle.shore_pool.proofs.UnderWay.{held_but}
use Rattle.shore_pool.proofs.pool.Pool.free.Goals as goal

pub remove-requires : goal.remove-requires
remove-requires g c = there_is (λ f. f.recovery ≡ None) (maps.frame_at c.give_up_with.new.self.frames c.args.number)
    (subst (λ (it : Frames). IsSomeAnd (maps.frame_at it c.args.number) (λ f. f.recovery ≡ None)) (sym c.give_up_with.ensures.frames) c.requires.clean)

pub invariant_of-self-clause-in_order : goal.invariant_of-self-clause-in_order
invariant_of-self-clause-in_order g c =
    let mid = c.give_up_with.new.self in
    let at = maps.frame_at mid.frames in
    let now = maps.frame_at c.remove.new.self in
    order_left at now (settled_device.geometry_of mid.device) mid.in_order (stay_or_go at now c.args.number c.remove.ensures.here c.remove.ensures.others)

pub returns-clause-kept : goal.returns-clause-kept
returns-clause-kept g c front disk had =
    let old = c.args.self.now in
    let mid = c.give_up_with.new.self in
    let at = maps.frame_at mid.frames in
    let now = maps.frame_at c.remove.new.self in
    let holds = c.give_up_with.ensures.kept front disk had in
    let clean : IsSomeAnd (at c.args.number) (λ f. f.recovery ≡ None) =
    subst (λ (it : Frames). IsSomeAnd (maps.frame_at it c.args.number) (λ f. f.recovery ≡ None)) (sym c.give_up_with.ensures.frames) c.requires.clean in (
      record {
        settled = holds.settled;
        written = written_stay at now disk (stay_or_go at now c.args.number c.remove.ensures.here c.remove.ensures.others) holds.written;
        held = held_but _ mid.amid at now (numbers_of mid.batch) (texts_of mid.batch) c.args.number c.remove.ensures.others c.give_up_with.ensures.gone
            (λ is has there. absurd (elim c.give_up_with.ensures.batch [
              | inl same ↦ c.requires.apart (sym same ∙ is) (subst (λ (l : List ℕ). Contains l c.args.number) c.give_up_with.ensures.same has)
              | inr given ↦ let clash : amid.Rest ≡ amid.Opened = sym given.1 ∙ is in cc
            ])) holds.held;
      },
      subst (λ (it : Frames). SamePages (settled_device.geometry_of c.args.self.now.device).version (maps.frame_at it) disk now disk) c.give_up_with.ensures.frames (page_goes (settled_device.geometry_of c.args.self.now.device).version at now disk c.args.number c.remove.ensures.others holds.written (λ f is. (old.in_order c.args.number f (sym (ap (λ (it : Frames). maps.frame_at it c.args.number) c.give_up_with.ensures.frames) ∙ is)).2) clean c.remove.ensures.here),
    )
