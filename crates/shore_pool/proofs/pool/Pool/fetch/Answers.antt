use Rattle.std.proofs.Common.{◌≡◌, ◌≤◌, ◌⊎◌, IsSomeAnd, ℕ, List, Option, None, refl, inl, inr, sym, ap, subst, ◌∙◌}
use Rattle.shore_disk.specs.Device.{DeviceHistory, LeavesOnly}
use Rattle.shore_types.specs.declared.faults.Device.TheVariants as Device
use Rattle.shore_types.specs.declared.faults.Fault.{Fault}
use Rattle.shore_types.specs.declared.layout.Geometry.{Geometry}
use Rattle.shore_page.specs.Text.{images_of, settled_page}
use Rattle.shore_dwrite.specs.Settled as settled_device
use Rattle.shore_dwrite.specs.Volumes.{HasNoPage, page_number, page_offset}
use Rattle.shore_dwrite.proofs.Moves.{if_err}
use Rattle.shore_pool.specs.declared.frame.Frame.{Frame}
use Rattle.shore_pool.specs.FrameMaps as maps
use Rattle.shore_pool.specs.Pages.{AreInOrder, AreWritten, SamePages}
use Rattle.shore_pool.specs.Pools.{LeavesPages, WroteBack, frame_at, frame_of, geometry_of, history_of}
use Rattle.shore_pool.proofs.Freeing.{frees_but, frees_from, writes_from}
use Rattle.shore_pool.proofs.Moments.{Leaves, as_it_was, while_still}
use Rattle.shore_pool.proofs.Same.{pages_stay}
use Rattle.shore_pool.proofs.Steps.{alike, force_from, left_alone, match_err, no_force, none_is, wrote_from, wrote_then}
use Rattle.shore_pool.proofs.Unwritten.{none_written, were_same}
use Rattle.shore_dwrite.specs.Images.{numbers_of, texts_of}
use Rattle.shore_pool.proofs.UnderWay.{held_same}
use Rattle.shore_pool.proofs.pool.Pool.fetch.Goals as goal

pub invariant_of-self-clause-in_order : goal.invariant_of-self-clause-in_order
invariant_of-self-clause-in_order g c =
    let old = c.args.self.now in
    let same = alike (maps.frame_at old.frames) (maps.frame_at c.touch.new.self) c.touch.ensures.same in
    subst (λ (at : ℕ → Option Frame). AreInOrder at (settled_device.geometry_of old.device)) (sym same) old.in_order

pub returns-then-touch-clause-kept : goal.returns-then-touch-clause-kept
returns-then-touch-clause-kept g c front disk holds =
    let old = c.args.self.now in
    let at = maps.frame_at old.frames in
    let now = maps.frame_at c.touch.new.self in
    let same = alike at now c.touch.ensures.same in
    record {
      left = disk;
      holds = record { settled = holds.settled; written = subst (λ (a : ℕ → Option Frame). AreWritten a disk) (sym same) holds.written; held = held_same _ old.amid (maps.frame_at old.frames) (maps.frame_at c.touch.new.self) (numbers_of old.batch) (texts_of old.batch) c.touch.ensures.same holds.held };
      may = as_it_was (settled_device.geometry_of old.device) at c.args.ends.now.durable front disk;
      same = pages_stay (settled_device.geometry_of c.args.self.now.device).version at now disk c.touch.ensures.same;
      unwritten = none_written (settled_device.geometry_of c.args.self.now.device).version at now disk (were_same (settled_device.geometry_of c.args.self.now.device).version at now c.touch.ensures.same);
    }

pub returns-then-touch-clause-any_moment : goal.returns-then-touch-clause-any_moment
returns-then-touch-clause-any_moment g c front disk holds = while_still c.args.self.now.device (frame_at c.args.self.now) c.args.ends.now.durable front disk (numbers_of c.args.self.now.batch) (texts_of c.args.self.now.batch) c.args.self.now.amid holds.settled

pub returns-in_err-make_room-clause-kept : goal.returns-in_err-make_room-clause-kept
returns-in_err-make_room-clause-kept g c front disk holds =
    let old = c.args.self.now in
    let same = alike (maps.frame_at old.frames) (maps.frame_at c.touch.new.self) c.touch.ensures.same in
    match_err (WroteBack old c.make_room.new.self c.args.ends.now.durable front disk) c.from_residual.result c.from_residual.ensures.1 (λ fault is. elim (c.in_err-make_room.ensures.kept front disk (record { settled = holds.settled; written = subst (λ (a : ℕ → Option Frame). AreWritten a disk) (sym same) holds.written; held = held_same _ old.amid (maps.frame_at old.frames) (maps.frame_at c.touch.new.self) (numbers_of old.batch) (texts_of old.batch) c.touch.ensures.same holds.held })) [
      | inl device ↦ inl (is ∙ device)
      | inr w ↦ inr (wrote_from old _ c.make_room.new.self refl same c.args.ends.now.durable front disk w)
    ])

pub returns-in_err-make_room-clause-refused : goal.returns-in_err-make_room-clause-refused
returns-in_err-make_room-clause-refused g c front disk holds =
    let old = c.args.self.now in
    let same = alike (maps.frame_at old.frames) (maps.frame_at c.touch.new.self) c.touch.ensures.same in
    if_err c.from_residual.result c.from_residual.ensures.1 (λ fault is. elim c.in_err-make_room.ensures.refused [
      | inl device ↦ inl (is ∙ device)
      | inr force ↦ inr (inr (inr (force.0, is ∙ force.1, force_from old _ same c.args.ends.now.durable force.0 force.2)))
    ])

pub returns-in_err-make_room-clause-any_moment : goal.returns-in_err-make_room-clause-any_moment
returns-in_err-make_room-clause-any_moment g c front disk holds =
    let old = c.args.self.now in
    let same = alike (maps.frame_at old.frames) (maps.frame_at c.touch.new.self) c.touch.ensures.same in
    subst (λ (a : ℕ → Option Frame). LeavesOnly (history_of old) (history_of c.make_room.new.self) (Leaves (settled_device.geometry_of old.device) a c.args.ends.now.durable front disk)) same
    (c.make_room.ensures.any_moment front disk (record { settled = holds.settled; written = subst (λ (a : ℕ → Option Frame). AreWritten a disk) (sym same) holds.written; held = held_same _ old.amid (maps.frame_at old.frames) (maps.frame_at c.touch.new.self) (numbers_of old.batch) (texts_of old.batch) c.touch.ensures.same holds.held }))

pub returns-in_err-read-clause-kept : goal.returns-in_err-read-clause-kept
returns-in_err-read-clause-kept g c front disk holds =
    let old = c.args.self.now in
    let same = alike (maps.frame_at old.frames) (maps.frame_at c.touch.new.self) c.touch.ensures.same in
    let w = c.in_ok-make_room.ensures.kept front disk (record { settled = holds.settled; written = subst (λ (a : ℕ → Option Frame). AreWritten a disk) (sym same) holds.written; held = held_same _ old.amid (maps.frame_at old.frames) (maps.frame_at c.touch.new.self) (numbers_of old.batch) (texts_of old.batch) c.touch.ensures.same holds.held }) in
    match_err (WroteBack old c.read.new.self c.args.ends.now.durable front disk) c.from_residual-in_err-read.result c.from_residual-in_err-read.ensures.1
    (λ fault is. inr (wrote_from old _ c.read.new.self refl same c.args.ends.now.durable front disk (wrote_then _ c.make_room.new.self c.read.new.self c.args.ends.now.durable front disk w c.read.ensures.dirty
    (let more = c.read.ensures.kept front w.left w.holds in (more.0, subst (λ (it : Geometry). SamePages it.version (frame_at c.make_room.new.self) w.left (frame_at c.read.new.self) w.left) c.make_room.ensures.geometry more.1)))))

pub returns-in_err-read-clause-refused : goal.returns-in_err-read-clause-refused
returns-in_err-read-clause-refused g c front disk holds =
    let old = c.args.self.now in
    let geometry = settled_device.geometry_of old.device in
    let at = maps.frame_at old.frames in
    let now = maps.frame_at c.touch.new.self in
    let same = alike at now c.touch.ensures.same in
    let id = c.args.id in
    let n = page_number geometry id in
    let w = c.in_ok-make_room.ensures.kept front disk (record { settled = holds.settled; written = subst (λ (a : ℕ → Option Frame). AreWritten a disk) (sym same) holds.written; held = held_same _ old.amid (maps.frame_at old.frames) (maps.frame_at c.touch.new.self) (numbers_of old.batch) (texts_of old.batch) c.touch.ensures.same holds.held }) in
    let none : at n ≡ None = ap at (sym c.number-number.ensures.number) ∙ none_is (at c.number-number.result) (sym c.touch.ensures.there ∙ c.if-touch.false) in
    let number_is : page_number (geometry_of c.make_room.new.self) id ≡ n = ap (λ (it : Geometry). page_number it id) c.make_room.ensures.geometry in
    let text_is : w.left (page_number (geometry_of c.make_room.new.self) id) ≡ disk n = ap w.left number_is ∙ left_alone now c.args.ends.now.durable disk w.left n w.may (c.touch.ensures.same n ∙ none) in
    if_err c.from_residual-in_err-read.result c.from_residual-in_err-read.ensures.1 (λ fault is. elim (c.in_err-read.ensures.refused front w.left w.holds) [
      | inl device ↦ inl (is ∙ device)
      | inr other ↦ elim other [
        | inl memory ↦ inr (inl (is ∙ memory))
        | inr damaged ↦ inr (inr (inl (
          is ∙ damaged.0 ∙ ap (λ (it : Geometry). Fault.Damaged Device.Volume (page_offset it.version (page_number it id))) c.make_room.ensures.geometry,
          subst (λ (text : List ℕ). HasNoPage (settled_device.geometry_of c.args.self.now.device).version text id c.args.ends.now.last) text_is
              (subst (λ (it : Geometry). HasNoPage it.version (w.left (page_number (geometry_of c.make_room.new.self) id)) id c.args.ends.now.last) c.make_room.ensures.geometry damaged.1),
          none,
        )))
      ]
    ])

pub returns-in_err-read-clause-any_moment : goal.returns-in_err-read-clause-any_moment
returns-in_err-read-clause-any_moment g c front disk holds =
    let old = c.args.self.now in
    let same = alike (maps.frame_at old.frames) (maps.frame_at c.touch.new.self) c.touch.ensures.same in
    let w = c.in_ok-make_room.ensures.kept front disk (record { settled = holds.settled; written = subst (λ (a : ℕ → Option Frame). AreWritten a disk) (sym same) holds.written; held = held_same _ old.amid (maps.frame_at old.frames) (maps.frame_at c.touch.new.self) (numbers_of old.batch) (texts_of old.batch) c.touch.ensures.same holds.held }) in
    subst (λ (h : DeviceHistory). LeavesOnly (history_of old) h (LeavesPages old c.args.ends.now.durable front disk)) (sym (c.read.ensures.history front w.left w.holds))
    (subst (λ (a : ℕ → Option Frame). LeavesOnly (history_of old) (history_of c.make_room.new.self) (Leaves (settled_device.geometry_of old.device) a c.args.ends.now.durable front disk)) same (c.make_room.ensures.any_moment front disk (record { settled = holds.settled; written = subst (λ (a : ℕ → Option Frame). AreWritten a disk) (sym same) holds.written; held = held_same _ old.amid (maps.frame_at old.frames) (maps.frame_at c.touch.new.self) (numbers_of old.batch) (texts_of old.batch) c.touch.ensures.same holds.held })))

pub returns-clause-read : goal.returns-clause-read
returns-clause-read g c front disk holds how =
    let old = c.args.self.now in
    let at = maps.frame_at old.frames in
    let same = alike at (maps.frame_at c.touch.new.self) c.touch.ensures.same in
    let w = c.in_ok-make_room.ensures.kept front disk (record { settled = holds.settled; written = subst (λ (a : ℕ → Option Frame). AreWritten a disk) (sym same) holds.written; held = held_same _ old.amid (maps.frame_at old.frames) (maps.frame_at c.touch.new.self) (numbers_of old.batch) (texts_of old.batch) c.touch.ensures.same holds.held }) in (
      ap at (sym c.number-number.ensures.number) ∙ none_is (at c.number-number.result) (sym c.touch.ensures.there ∙ c.if-touch.false),
      subst (λ (it : Geometry). IsSomeAnd (frame_of c.read.new.self c.args.id) (λ f. (f.page ≡ settled_page it.version c.args.id f.page.number (images_of f.page.slots)) × (f.page.number ≤ c.args.ends.now.last) × (f.recovery ≡ None))) c.make_room.ensures.geometry (c.in_ok-read.ensures.read front w.left w.holds),
    )

pub returns-clause-kept : goal.returns-clause-kept
returns-clause-kept g c front disk holds =
    let old = c.args.self.now in
    let same = alike (maps.frame_at old.frames) (maps.frame_at c.touch.new.self) c.touch.ensures.same in
    let w = c.in_ok-make_room.ensures.kept front disk (record { settled = holds.settled; written = subst (λ (a : ℕ → Option Frame). AreWritten a disk) (sym same) holds.written; held = held_same _ old.amid (maps.frame_at old.frames) (maps.frame_at c.touch.new.self) (numbers_of old.batch) (texts_of old.batch) c.touch.ensures.same holds.held }) in
    wrote_from old _ c.read.new.self refl same c.args.ends.now.durable front disk (wrote_then _ c.make_room.new.self c.read.new.self c.args.ends.now.durable front disk w c.read.ensures.dirty
    (let more = c.read.ensures.kept front w.left w.holds in (more.0, subst (λ (it : Geometry). SamePages it.version (frame_at c.make_room.new.self) w.left (frame_at c.read.new.self) w.left) c.make_room.ensures.geometry more.1)))

pub returns-clause-any_moment : goal.returns-clause-any_moment
returns-clause-any_moment g c front disk holds =
    let old = c.args.self.now in
    let same = alike (maps.frame_at old.frames) (maps.frame_at c.touch.new.self) c.touch.ensures.same in
    let w = c.in_ok-make_room.ensures.kept front disk (record { settled = holds.settled; written = subst (λ (a : ℕ → Option Frame). AreWritten a disk) (sym same) holds.written; held = held_same _ old.amid (maps.frame_at old.frames) (maps.frame_at c.touch.new.self) (numbers_of old.batch) (texts_of old.batch) c.touch.ensures.same holds.held }) in
    subst (λ (h : DeviceHistory). LeavesOnly (history_of old) h (LeavesPages old c.args.ends.now.durable front disk)) (sym (c.read.ensures.history front w.left w.holds))
    (subst (λ (a : ℕ → Option Frame). LeavesOnly (history_of old) (history_of c.make_room.new.self) (Leaves (settled_device.geometry_of old.device) a c.args.ends.now.durable front disk)) same (c.make_room.ensures.any_moment front disk (record { settled = holds.settled; written = subst (λ (a : ℕ → Option Frame). AreWritten a disk) (sym same) holds.written; held = held_same _ old.amid (maps.frame_at old.frames) (maps.frame_at c.touch.new.self) (numbers_of old.batch) (texts_of old.batch) c.touch.ensures.same holds.held })))

pub returns-in_err-make_room-clause-unmoved : goal.returns-in_err-make_room-clause-unmoved
returns-in_err-make_room-clause-unmoved g c front disk holds =
    if_err c.from_residual.result c.from_residual.ensures.1 (λ fault is number forced k. c.in_err-make_room.ensures.unmoved number (sym is ∙ forced) k ∙ c.touch.ensures.same k)

pub returns-in_err-read-clause-unmoved : goal.returns-in_err-read-clause-unmoved
returns-in_err-read-clause-unmoved g c front disk holds =
    let old = c.args.self.now in
    let same = alike (maps.frame_at old.frames) (maps.frame_at c.touch.new.self) c.touch.ensures.same in
    let w = c.in_ok-make_room.ensures.kept front disk (record { settled = holds.settled; written = subst (λ (a : ℕ → Option Frame). AreWritten a disk) (sym same) holds.written; held = held_same _ old.amid (maps.frame_at old.frames) (maps.frame_at c.touch.new.self) (numbers_of old.batch) (texts_of old.batch) c.touch.ensures.same holds.held }) in
    if_err c.from_residual-in_err-read.result c.from_residual-in_err-read.ensures.1 (λ fault is number forced. absurd (no_force _ _ number _ fault is (c.in_err-read.ensures.refused front w.left w.holds) forced))

pub returns-in_err-make_room-clause-writes : goal.returns-in_err-make_room-clause-writes
returns-in_err-make_room-clause-writes g c front disk holds rests =
    let old = c.args.self.now in
    let at = maps.frame_at old.frames in
    let now = maps.frame_at c.touch.new.self in
    writes_from at now (history_of old) (history_of c.make_room.new.self) (alike at now c.touch.ensures.same) (c.make_room.ensures.writes rests)

pub returns-in_err-read-clause-writes : goal.returns-in_err-read-clause-writes
returns-in_err-read-clause-writes g c front disk holds rests =
    let old = c.args.self.now in
    let same = alike (maps.frame_at old.frames) (maps.frame_at c.touch.new.self) c.touch.ensures.same in
    let w = c.in_ok-make_room.ensures.kept front disk (record { settled = holds.settled; written = subst (λ (a : ℕ → Option Frame). AreWritten a disk) (sym same) holds.written; held = held_same _ old.amid (maps.frame_at old.frames) (maps.frame_at c.touch.new.self) (numbers_of old.batch) (texts_of old.batch) c.touch.ensures.same holds.held }) in
    subst (λ (h : DeviceHistory). (h ≡ history_of old) ⊎ maps.AllDirty old.frames) (sym (c.read.ensures.history front w.left w.holds)) (writes_from (maps.frame_at old.frames) (maps.frame_at c.touch.new.self) (history_of old) (history_of c.make_room.new.self) same (c.make_room.ensures.writes rests))

pub returns-clause-writes : goal.returns-clause-writes
returns-clause-writes g c front disk holds rests =
    let old = c.args.self.now in
    let same = alike (maps.frame_at old.frames) (maps.frame_at c.touch.new.self) c.touch.ensures.same in
    let w = c.in_ok-make_room.ensures.kept front disk (record { settled = holds.settled; written = subst (λ (a : ℕ → Option Frame). AreWritten a disk) (sym same) holds.written; held = held_same _ old.amid (maps.frame_at old.frames) (maps.frame_at c.touch.new.self) (numbers_of old.batch) (texts_of old.batch) c.touch.ensures.same holds.held }) in
    subst (λ (h : DeviceHistory). (h ≡ history_of old) ⊎ maps.AllDirty old.frames) (sym (c.read.ensures.history front w.left w.holds)) (writes_from (maps.frame_at old.frames) (maps.frame_at c.touch.new.self) (history_of old) (history_of c.make_room.new.self) same (c.make_room.ensures.writes rests))

-- ---- what goes

pub returns-in_err-make_room-clause-in_order : goal.returns-in_err-make_room-clause-in_order
returns-in_err-make_room-clause-in_order g c =
    let at = maps.frame_at c.args.self.now.frames in
    let same = alike at (maps.frame_at c.touch.new.self) c.touch.ensures.same in
    frees_from at (maps.frame_at c.touch.new.self) (frame_at c.make_room.new.self) c.args.ends.now.durable same c.make_room.ensures.in_order

pub returns-in_err-read-clause-in_order : goal.returns-in_err-read-clause-in_order
returns-in_err-read-clause-in_order g c =
    let at = maps.frame_at c.args.self.now.frames in
    let same = alike at (maps.frame_at c.touch.new.self) c.touch.ensures.same in
    let made = frees_from at (maps.frame_at c.touch.new.self) (frame_at c.make_room.new.self) c.args.ends.now.durable same c.make_room.ensures.in_order in
    let number_is = ap (λ (it : Geometry). page_number it c.args.id) c.make_room.ensures.geometry in
    let none = ap at (number_is ∙ sym c.number-number.ensures.number) ∙ none_is (at c.number-number.result) (sym c.touch.ensures.there ∙ c.if-touch.false) in
    frees_but at (frame_at c.make_room.new.self) (frame_at c.read.new.self) c.args.ends.now.durable (page_number (geometry_of c.make_room.new.self) c.args.id) made none c.read.ensures.others

pub returns-clause-in_order : goal.returns-clause-in_order
returns-clause-in_order g c =
    let at = maps.frame_at c.args.self.now.frames in
    let same = alike at (maps.frame_at c.touch.new.self) c.touch.ensures.same in
    let made = frees_from at (maps.frame_at c.touch.new.self) (frame_at c.make_room.new.self) c.args.ends.now.durable same c.make_room.ensures.in_order in
    let number_is = ap (λ (it : Geometry). page_number it c.args.id) c.make_room.ensures.geometry in
    let none = ap at (number_is ∙ sym c.number-number.ensures.number) ∙ none_is (at c.number-number.result) (sym c.touch.ensures.there ∙ c.if-touch.false) in
    frees_but at (frame_at c.make_room.new.self) (frame_at c.read.new.self) c.args.ends.now.durable (page_number (geometry_of c.make_room.new.self) c.args.id) made none c.read.ensures.others
