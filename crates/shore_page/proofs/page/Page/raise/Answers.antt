use Rattle.std.proofs.Common.{◌≡◌, ◌<◌, max, ℕ, List, length, get_or, sym, ap, subst, ◌∙◌, arith, vec_capacity}
use Rattle.std.proofs.Math.ListN.{set}
use Rattle.std.proofs.lemmas.List.{get_or_default}
use Rattle.shore_types.specs.Images.{Image}
use Rattle.shore_page.specs.Slots.{Slot, PageState, with_change, with_slot}
use Rattle.shore_page.specs.Room.{Fits, raised}
use Rattle.shore_page.specs.Layout.{slots_of}
use Rattle.shore_page.proofs.RoomLemmas.{with_slot_fits, length-with_slot}
use Rattle.shore_page.proofs.PageLemmas.{length-slots, claim_raised, slots_raised, same_but_slots}
use Rattle.shore_page.proofs.page.Page.raise.Goals as goal

-- the slot is there
here : (images : List Image) (cs : List ℕ) (old : List Slot) (i : ℕ) → length cs ≡ length images → slots_of images cs ≡ with_slot old i → i < length images
here images cs old i same is = omega (arith, length-with_slot old i, length-slots images cs same, ap (λ (l : List Slot). length l) is)

pub index-requires : goal.index-requires
index-requires c =
    let inside = here c.self.inside.text.images c.self.inside.claims.items c.args.self.now.slots c.args.slot c.self.invariant.same (ap (λ (p : PageState). p.slots) (c.self.view_is ∙ c.reach.ensures.reached)) in
    omega (arith, c.self.invariant.same, c.self.inside.claims.ok.0)

pub index_mut-requires : goal.index_mut-requires
index_mut-requires c =
    let inside = here c.self.inside.text.images c.self.inside.claims.items c.args.self.now.slots c.args.slot c.self.invariant.same (ap (λ (p : PageState). p.slots) (c.self.view_is ∙ c.reach.ensures.reached)) in
    omega (arith, c.self.invariant.same, c.self.inside.claims.ok.0)

pub invariant_of-self : goal.invariant_of-self
invariant_of-self c =
    let has = c.self.invariant in
    let images = c.self.inside.text.images in
    let cs = c.self.inside.claims.items in
    let old = c.args.self.now.slots in
    let is : slots_of images cs ≡ with_slot old c.args.slot = ap (λ (p : PageState). p.slots) (c.self.view_is ∙ c.reach.ensures.reached) in
    let inside = here images cs old c.args.slot has.same is in
    let claim : c.index.result.now ≡ get_or cs c.args.slot 0 = c.index.ensures ∙ get_or_default cs c.args.slot c.index.result.now 0 (omega (arith, has.same)) in
    let fits = subst (λ (p : PageState). Fits p.version p.slots c.args.slot c.args.bytes) (sym (c.self.view_is ∙ c.reach.ensures.reached)) (with_slot_fits c.args.self.now.version old c.args.slot c.args.bytes c.reach.ensures.room c.requires) in
    rw (c.max-raised.ensures, claim) (claim_raised c.self.inside.text.version images cs (vec_capacity c.self.inside.claims) c.self.inside.claimed c.args.slot c.args.bytes has inside fits)

pub returns : goal.returns
returns c =
    let has = c.self.invariant in
    let images = c.self.inside.text.images in
    let cs = c.self.inside.claims.items in
    let old = c.args.self.now.slots in
    let view = c.self.view_is ∙ c.reach.ensures.reached in
    let is : slots_of images cs ≡ with_slot old c.args.slot = ap (λ (p : PageState). p.slots) view in
    let inside = here images cs old c.args.slot has.same is in
    let claim : c.index.result.now ≡ get_or cs c.args.slot 0 = c.index.ensures ∙ get_or_default cs c.args.slot c.index.result.now 0 (omega (arith, has.same)) in
    let raise : c.max-raised.result ≡ max (get_or cs c.args.slot 0) c.args.bytes = c.max-raised.ensures ∙ ap (λ (n : ℕ). max n c.args.bytes) claim in
    record {
      raised = same_but_slots _ _ _ _ view (ap (λ (n : ℕ). slots_of images (set cs c.args.slot n)) raise ∙ slots_raised images cs c.args.slot c.args.bytes has.same inside
          ∙ ap (λ (l : List Slot). with_change (raised c.args.bytes) l c.args.slot) is);
      room = c.reach.ensures.room;
    }
