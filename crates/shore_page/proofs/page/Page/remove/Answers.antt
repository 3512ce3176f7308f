use Rattle.std.proofs.Common.{◌≡◌, ◌<◌, max, ℕ, List, length, None, sym, ap, subst, ◌∙◌, arith, vec_capacity}
use Rattle.std.proofs.Math.ListN.{set}
use Rattle.shore_types.specs.Images.{Image}
use Rattle.shore_page.specs.Slots.{Slot, PageState, with_change, with_image}
use Rattle.shore_page.specs.Room.{HasRoom, ChangesOne}
use Rattle.shore_page.specs.Layout.{PageImages, slots_of, HasClaims}
use Rattle.shore_page.proofs.RoomLemmas.{changes_one, with_slot_inside}
use Rattle.shore_page.proofs.PageLemmas.{page_of, image_kept, image_put, nothing_fits, same_but_slots, slot_inside}
use Rattle.shore_page.proofs.page.Page.remove.Goals as goal

pub clear-requires : goal.clear-requires
clear-requires c = slot_inside c.self.inside.text.images c.self.inside.claims.items c.args.self.now.slots c.args.slot c.self.invariant.same (ap (λ (p : PageState). p.slots) c.self.view_is) c.requires

pub invariant_of-self : goal.invariant_of-self
invariant_of-self c =
    let there = slot_inside c.self.inside.text.images c.self.inside.claims.items c.args.self.now.slots c.args.slot c.self.invariant.same (ap (λ (p : PageState). p.slots) c.self.view_is) c.requires in
    subst (λ (t : PageImages). HasClaims t.version t.images c.self.inside.claims.items (vec_capacity c.self.inside.claims) c.self.inside.claimed) (sym c.clear.ensures)
    (image_kept c.self.inside.text.version c.self.inside.text.images c.self.inside.claims.items (vec_capacity c.self.inside.claims) c.self.inside.claimed c.args.slot None c.self.invariant there (omega arith))

-- the slots that are left
left : (images : List Image) (cs : List ℕ) (now : List Slot) (i : ℕ) → length cs ≡ length images → slots_of images cs ≡ now → i < length now → slots_of (set images i None) cs ≡ with_image now i None
left images cs now i same is there =
    let within = slot_inside images cs now i same is there in
    image_put images cs i None same within (omega arith) ∙ ap (λ (l : List Slot). with_change (λ (s : Slot). record { image = None; claim = max s.claim 0 }) l i) (is ∙ sym (with_slot_inside now i there))

pub returns-clause-removed : goal.returns-clause-removed
returns-clause-removed c =
    ap (λ (t : PageImages). page_of t c.self.inside.claims.items) c.clear.ensures
    ∙ same_but_slots _ c.args.self.now _ _ c.self.view_is (left c.self.inside.text.images c.self.inside.claims.items c.args.self.now.slots c.args.slot c.self.invariant.same (ap (λ (p : PageState). p.slots) c.self.view_is) c.requires)

pub returns-clause-one : goal.returns-clause-one
returns-clause-one c =
    let room : HasRoom c.args.self.now.version c.args.self.now.slots = subst (λ (p : PageState). HasRoom p.version p.slots) c.self.view_is c.self.invariant.kept.room in
    let is : slots_of c.clear.new.self.images c.self.inside.claims.items ≡ with_image c.args.self.now.slots c.args.slot None =
    ap (λ (t : PageImages). slots_of t.images c.self.inside.claims.items) c.clear.ensures
    ∙ left c.self.inside.text.images c.self.inside.claims.items c.args.self.now.slots c.args.slot c.self.invariant.same (ap (λ (p : PageState). p.slots) c.self.view_is) c.requires in
    subst (λ (l : List Slot). ChangesOne c.args.self.now.version c.args.self.now.slots l c.args.slot None) (sym is) (changes_one c.args.self.now.version c.args.self.now.slots c.args.slot None room (nothing_fits c.args.self.now.version c.args.self.now.slots c.args.slot room c.requires))
