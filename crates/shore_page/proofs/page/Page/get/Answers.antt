use Rattle.std.proofs.Common.{◌≡◌, ◌<◌, ◌≤◌, ℕ, List, None, Some, IfSome, Option, Bor, length, option_map, subst, sym, ap, ◌∙◌, arith}
use Rattle.shore_page.specs.Room.{HasRoom}
use Rattle.shore_page.proofs.RoomLemmas.{record_short}
use Rattle.std.specs.Option.{option_and_then}
use Rattle.std.proofs.lemmas.Option.{slice_get_past, slice_get-get_or}
use Rattle.shore_types.specs.Images.{Image}
use Rattle.shore_types.specs.Versions.{record_limit}
use Rattle.shore_page.specs.Slots.{PageState, Slot, image_at_slot}
use Rattle.shore_page.proofs.PageLemmas.{image_at-slots, length-slots}
use Rattle.shore_page.proofs.page.Page.get.Goals as goal

pub image-requires : goal.image-requires
image-requires c =
    omega (arith, c.slot_count.ensures.count, length-slots c.self.inside.text.images c.self.inside.claims.items c.self.invariant.same, ap (λ (p : PageState). length p.slots) c.self.view_is)

pub returns-then-slot-slot_count-clause-image : goal.returns-then-slot-slot_count-clause-image
returns-then-slot-slot_count-clause-image c =
    sym (ap (λ (o : Option Slot). option_and_then (λ (s : Slot). s.image) o) (slice_get_past c.args.self.now.slots c.args.slot (omega (arith, c.slot_count.ensures.count))))

pub returns-clause-image : goal.returns-clause-image
returns-clause-image c =
    let images = c.self.inside.text.images in
    let inside : c.args.slot < length images = omega (arith, c.slot_count.ensures.count, length-slots images c.self.inside.claims.items c.self.invariant.same, ap (λ (p : PageState). length p.slots) c.self.view_is) in
    c.image.ensures ∙ sym (ap (λ (o : Option Image). option_and_then (λ (image : Image). image) o) (slice_get-get_or images c.args.slot None inside))
    ∙ image_at-slots images c.self.inside.claims.items c.args.slot c.self.invariant.same ∙ ap (λ (p : PageState). image_at_slot p.slots c.args.slot) c.self.view_is

pub returns-clause-short : goal.returns-clause-short
returns-clause-short c = short c.image.result (returns-clause-image c)
  where
    room : HasRoom c.args.self.now.version c.args.self.now.slots
    room = subst (λ (p : PageState). HasRoom p.version p.slots) c.self.view_is c.self.invariant.kept.room

    short : (o : Option (Bor (List ℕ))) → option_map (λ (b : Bor (List ℕ)). b.now) o ≡ image_at_slot c.args.self.now.slots c.args.slot → IfSome o (λ b. length b.now ≤ record_limit c.args.self.now.version)
    short None is = tt
    short (Some b) is = record_short c.args.self.now.version c.args.self.now.slots c.args.slot b.now room (sym is)
