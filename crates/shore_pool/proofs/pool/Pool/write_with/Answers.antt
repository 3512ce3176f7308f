use Rattle.std.proofs.Common.{◌≡◌, ◌≤◌, ℕ, List, Contains, IsSomeAnd, IsTrue, Option, None, length, option_map, inl, inr, sym, ap, subst, ◌∙◌, arith}
use Rattle.shore_disk.specs.Device.{LeavesOnly}
use Rattle.shore_disk.proofs.Moments.{joined}
use Rattle.shore_types.specs.declared.layout.Geometry.{Geometry}
use Rattle.shore_dwrite.specs.Shown.{ShowsBehind}
use Rattle.shore_pool.specs.declared.amid.Amid.TheVariants as amid
use Rattle.shore_pool.specs.declared.frame.Frame.{Frame}
use Rattle.shore_pool.specs.declared.frames.Frames.{Frames}
use Rattle.shore_pool.specs.Batches.{AreDue}
use Rattle.shore_pool.specs.Changes.{settled}
use Rattle.shore_pool.specs.FrameMaps as maps
use Rattle.shore_pool.specs.FrameMaps.{IsDue}
use Rattle.shore_pool.specs.Pools.{LeavesPages, batch_of, frame_at, geometry_of, history_of}
use Rattle.shore_pool.proofs.Choices.{are_there, cases_contains, has_first, up_to}
use Rattle.shore_pool.proofs.Moments.{Leaves, while_left, while_shown}
use Rattle.shore_pool.proofs.Same.{settled_clean}
use Rattle.shore_pool.proofs.Syncs.{once_at_most}
use Rattle.shore_pool.proofs.Steps.{match_err, wrote_from, wrote_on}
use Rattle.shore_pool.proofs.pool.Pool.write_with.Goals as goal

pub open-requires : goal.open-requires
open-requires g c = (c.has_durable.ensures.yes c.if-has_durable.true).0

pub place-requires : goal.place-requires
place-requires g c = c.in_ok-open.ensures.opened

pub returns-in_err-open-clause-any_moment : goal.returns-in_err-open-clause-any_moment
returns-in_err-open-clause-any_moment g c front disk holds = c.open.ensures.any_moment front disk c.args.durable holds (c.has_durable.ensures.yes c.if-has_durable.true).2

pub returns-in_err-place-clause-any_moment : goal.returns-in_err-place-clause-any_moment
returns-in_err-place-clause-any_moment g c front disk holds =
    let old = c.args.self.now in
    let up = (c.has_durable.ensures.yes c.if-has_durable.true).2 in
    let w = c.in_ok-open.ensures.kept front disk c.args.durable holds up in
    joined _ _ _ (LeavesPages old c.args.durable front disk) (c.open.ensures.any_moment front disk c.args.durable holds up)
    (while_left (geometry_of old) (frame_at old) c.args.durable front disk w.left _ _ w.may
    (subst (λ (it : Geometry). LeavesOnly (history_of c.open.new.self) (history_of c.place.new.self) (ShowsBehind it front w.left)) c.open.ensures.geometry (c.place.ensures.any_moment front w.left w.holds)))

pub returns-then-has_durable-clause-any_moment : goal.returns-then-has_durable-clause-any_moment
returns-then-has_durable-clause-any_moment g c front disk holds =
    let old = c.args.self.now in
    let up = (c.has_durable.ensures.yes c.if-has_durable.true).2 in
    let w = c.in_ok-open.ensures.kept front disk c.args.durable holds up in
    joined _ _ _ (LeavesPages old c.args.durable front disk) (c.open.ensures.any_moment front disk c.args.durable holds up)
    (while_left (geometry_of old) (frame_at old) c.args.durable front disk w.left _ _ w.may
    (subst (λ (it : Geometry). LeavesOnly (history_of c.open.new.self) (history_of c.place.new.self) (ShowsBehind it front w.left)) c.open.ensures.geometry (c.place.ensures.any_moment front w.left w.holds)))

pub returns-then-has_durable-clause-kept : goal.returns-then-has_durable-clause-kept
returns-then-has_durable-clause-kept g c front disk holds =
    let w = c.in_ok-open.ensures.kept front disk c.args.durable holds (c.has_durable.ensures.yes c.if-has_durable.true).2 in
    wrote_on c.args.self.now c.open.new.self c.place.new.self c.args.durable front disk (ap (λ (it : Frames). maps.frame_at it) c.place.ensures.frames) w (c.in_ok-place.ensures.kept front w.left w.holds)

pub returns-then-has_durable-clause-clean : goal.returns-then-has_durable-clause-clean
returns-then-has_durable-clause-clean g c =
    let n = c.args.number in
    let has = (c.has_durable.ensures.yes c.if-has_durable.true).1 in
    subst (λ (it : Frames). IsSomeAnd (maps.frame_at it n) (λ f. f.recovery ≡ None)) (sym c.place.ensures.frames)
    (settled_clean (frame_at c.args.self.now n) (frame_at c.open.new.self n) (IsDue c.args.durable) c.requires (c.in_ok-open.ensures.clean n has))

pub returns-then-has_durable-clause-closed : goal.returns-then-has_durable-clause-closed
returns-then-has_durable-clause-closed g c opened = let clash : amid.Placed ≡ amid.Opened = sym c.in_ok-place.ensures.placed ∙ opened in cc

pub returns-in_err-open-clause-frames : goal.returns-in_err-open-clause-frames
returns-in_err-open-clause-frames g c k = inl (c.in_err-open.ensures.refused.1 k)

pub returns-in_err-place-clause-frames : goal.returns-in_err-place-clause-frames
returns-in_err-place-clause-frames g c k =
    let still = ap (λ (it : Frames). maps.frame_at it k) c.place.ensures.frames in
    elim (cases_contains (batch_of c.args.self.now) k) [
      | inl has ↦ inr (still ∙ c.in_ok-open.ensures.clean k has)
      | inr apart ↦ inl (still ∙ c.in_ok-open.ensures.others k apart)
    ]

pub returns-then-has_durable-clause-frames : goal.returns-then-has_durable-clause-frames
returns-then-has_durable-clause-frames g c k =
    let still = ap (λ (it : Frames). maps.frame_at it k) c.place.ensures.frames in
    elim (cases_contains (batch_of c.args.self.now) k) [
      | inl has ↦ inr (still ∙ c.in_ok-open.ensures.clean k has)
      | inr apart ↦ inl (still ∙ c.in_ok-open.ensures.others k apart)
    ]

pub returns-in_err-finish-clause-any_moment : goal.returns-in_err-finish-clause-any_moment
returns-in_err-finish-clause-any_moment g c front disk holds =
    let old = c.args.self.now in
    while_shown (geometry_of old) (frame_at old) c.args.durable front disk _ _ (c.finish.ensures.any_moment front disk holds)

pub write-requires-clause-rests : goal.write-requires-clause-rests
write-requires-clause-rests g c = c.in_ok-finish.ensures.ended

pub write-requires-clause-some : goal.write-requires-clause-some
write-requires-clause-some g c =
    let mid = c.finish.new.self in
    let n = c.args.number in
    let same : frame_at mid ≡ frame_at c.args.self.now = ap (λ (it : Frames). maps.frame_at it) c.finish.ensures.frames in
    let has = has_first mid n c.args.durable c.due-pages.result.items c.due-pages.ensures.first c.due-pages.ensures.least
    (subst (λ (at : ℕ → Option Frame). IsSomeAnd (at n) (IsDue c.args.durable)) (sym same) c.requires) in
    let some = has.1 in
    subst (λ (l : List ℕ). 1 ≤ length l) (sym c.deref.ensures.0) (omega (arith, some))

pub write-requires-clause-there : goal.write-requires-clause-there
write-requires-clause-there g c = are_there c.finish.new.self c.args.durable c.deref.result.now (subst (AreDue c.finish.new.self c.args.durable) (sym c.deref.ensures.0) c.due-pages.ensures.due)

pub returns-in_err-write-clause-any_moment : goal.returns-in_err-write-clause-any_moment
returns-in_err-write-clause-any_moment g c front disk holds =
    let old = c.args.self.now in
    let mid = c.finish.new.self in
    let same : frame_at mid ≡ frame_at old = ap (λ (it : Frames). maps.frame_at it) c.finish.ensures.frames in
    let up = up_to mid c.args.durable c.deref.result.now (subst (AreDue mid c.args.durable) (sym c.deref.ensures.0) c.due-pages.ensures.due) in
    joined _ _ _ (LeavesPages old c.args.durable front disk) (while_shown (geometry_of old) (frame_at old) c.args.durable front disk _ _ (c.finish.ensures.any_moment front disk holds))
    (subst (λ (at : ℕ → Option Frame). LeavesOnly (history_of mid) (history_of c.write.new.self) (Leaves (geometry_of old) at c.args.durable front disk)) same
    (subst (λ (it : Geometry). LeavesOnly (history_of mid) (history_of c.write.new.self) (Leaves it (frame_at mid) c.args.durable front disk)) c.finish.ensures.geometry
    (c.write.ensures.any_moment front disk c.args.durable (c.in_ok-finish.ensures.kept front disk holds) up)))

pub returns-clause-any_moment : goal.returns-clause-any_moment
returns-clause-any_moment g c front disk holds =
    let old = c.args.self.now in
    let mid = c.finish.new.self in
    let same : frame_at mid ≡ frame_at old = ap (λ (it : Frames). maps.frame_at it) c.finish.ensures.frames in
    let up = up_to mid c.args.durable c.deref.result.now (subst (AreDue mid c.args.durable) (sym c.deref.ensures.0) c.due-pages.ensures.due) in
    joined _ _ _ (LeavesPages old c.args.durable front disk) (while_shown (geometry_of old) (frame_at old) c.args.durable front disk _ _ (c.finish.ensures.any_moment front disk holds))
    (subst (λ (at : ℕ → Option Frame). LeavesOnly (history_of mid) (history_of c.write.new.self) (Leaves (geometry_of old) at c.args.durable front disk)) same
    (subst (λ (it : Geometry). LeavesOnly (history_of mid) (history_of c.write.new.self) (Leaves it (frame_at mid) c.args.durable front disk)) c.finish.ensures.geometry
    (c.write.ensures.any_moment front disk c.args.durable (c.in_ok-finish.ensures.kept front disk holds) up)))

pub returns-in_err-write-clause-kept : goal.returns-in_err-write-clause-kept
returns-in_err-write-clause-kept g c front disk holds =
    let old = c.args.self.now in
    let mid = c.finish.new.self in
    let same : frame_at mid ≡ frame_at old = ap (λ (it : Frames). maps.frame_at it) c.finish.ensures.frames in
    let up = up_to mid c.args.durable c.deref.result.now (subst (AreDue mid c.args.durable) (sym c.deref.ensures.0) c.due-pages.ensures.due) in
    match_err _ c.from_residual-in_err-write.result c.from_residual-in_err-write.ensures.1 (λ fault said. elim (c.in_err-write.ensures.kept front disk c.args.durable (c.in_ok-finish.ensures.kept front disk holds) up) [
      | inl device ↦ inl (said ∙ device)
      | inr w ↦ inr (wrote_from old mid c.write.new.self c.finish.ensures.geometry same c.args.durable front disk w)
    ])

pub returns-clause-kept : goal.returns-clause-kept
returns-clause-kept g c front disk holds =
    let old = c.args.self.now in
    let mid = c.finish.new.self in
    let same : frame_at mid ≡ frame_at old = ap (λ (it : Frames). maps.frame_at it) c.finish.ensures.frames in
    let up = up_to mid c.args.durable c.deref.result.now (subst (AreDue mid c.args.durable) (sym c.deref.ensures.0) c.due-pages.ensures.due) in
    wrote_from old mid c.write.new.self c.finish.ensures.geometry same c.args.durable front disk (c.in_ok-write.ensures.kept front disk c.args.durable (c.in_ok-finish.ensures.kept front disk holds) up)

pub returns-in_err-write-clause-frames : goal.returns-in_err-write-clause-frames
returns-in_err-write-clause-frames g c k = inl (c.in_err-write.ensures.refused.1 k ∙ ap (λ (it : Frames). maps.frame_at it k) c.finish.ensures.frames)

pub returns-clause-frames : goal.returns-clause-frames
returns-clause-frames g c k =
    let same = ap (λ (it : Frames). maps.frame_at it k) c.finish.ensures.frames in
    elim (cases_contains c.deref.result.now k) [
      | inl has ↦ inr (c.in_ok-write.ensures.clean k has ∙ ap (option_map settled) same)
      | inr apart ↦ inl (c.in_ok-write.ensures.others k apart ∙ same)
    ]

pub returns-clause-clean : goal.returns-clause-clean
returns-clause-clean g c =
    let mid = c.finish.new.self in
    let n = c.args.number in
    let same : frame_at mid ≡ frame_at c.args.self.now = ap (λ (it : Frames). maps.frame_at it) c.finish.ensures.frames in
    let due : IsSomeAnd (frame_at mid n) (IsDue c.args.durable) = subst (λ (at : ℕ → Option Frame). IsSomeAnd (at n) (IsDue c.args.durable)) (sym same) c.requires in
    let has = has_first mid n c.args.durable c.due-pages.result.items c.due-pages.ensures.first c.due-pages.ensures.least due in
    settled_clean (frame_at mid n) (frame_at c.write.new.self n) (IsDue c.args.durable) due (c.in_ok-write.ensures.clean n (subst (λ (l : List ℕ). Contains l n) (sym c.deref.ensures.0) has))

pub returns-clause-closed : goal.returns-clause-closed
returns-clause-closed g c opened = let clash : amid.Rest ≡ amid.Opened = sym c.in_ok-finish.ensures.ended ∙ sym c.write.ensures.amid ∙ opened in cc

pub returns-in_err-open-clause-syncs : goal.returns-in_err-open-clause-syncs
returns-in_err-open-clause-syncs g c honest goes =
    let once = once_at_most c.open.result (history_of c.args.self.now) (history_of c.open.new.self) (c.open.ensures.syncs honest) in
    omega (arith, once)

pub returns-in_err-place-clause-syncs : goal.returns-in_err-place-clause-syncs
returns-in_err-place-clause-syncs g c honest goes =
    let first = once_at_most c.open.result (history_of c.args.self.now) (history_of c.open.new.self) (c.open.ensures.syncs honest) in
    let second = once_at_most c.place.result (history_of c.open.new.self) (history_of c.place.new.self) (c.place.ensures.syncs (subst IsTrue (sym c.open.ensures.honest) honest)) in
    omega (arith, first, second)

pub returns-then-has_durable-clause-syncs : goal.returns-then-has_durable-clause-syncs
returns-then-has_durable-clause-syncs g c honest goes =
    let first = once_at_most c.open.result (history_of c.args.self.now) (history_of c.open.new.self) (c.open.ensures.syncs honest) in
    let second = once_at_most c.place.result (history_of c.open.new.self) (history_of c.place.new.self) (c.place.ensures.syncs (subst IsTrue (sym c.open.ensures.honest) honest)) in
    omega (arith, first, second)

pub returns-in_err-finish-clause-syncs : goal.returns-in_err-finish-clause-syncs
returns-in_err-finish-clause-syncs g c honest goes = absurd (c.has_durable.ensures.no c.if-has_durable.false goes)

pub returns-in_err-write-clause-syncs : goal.returns-in_err-write-clause-syncs
returns-in_err-write-clause-syncs g c honest goes = absurd (c.has_durable.ensures.no c.if-has_durable.false goes)

pub returns-clause-syncs : goal.returns-clause-syncs
returns-clause-syncs g c honest goes = absurd (c.has_durable.ensures.no c.if-has_durable.false goes)
