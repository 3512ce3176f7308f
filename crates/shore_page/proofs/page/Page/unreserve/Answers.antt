use Rattle.std.proofs.Common.{◌≡◌, max, min, ℕ, List, get_or, None, ap, ◌∙◌, arith, vec_capacity}
use Rattle.std.proofs.Math.ListN.{set}
use Rattle.std.proofs.lemmas.List.{get_or_default}
use Rattle.shore_page.specs.Slots.{Slot, PageState, with_change}
use Rattle.shore_types.specs.Images.{image_len}
use Rattle.shore_page.specs.Room.{lowered}
use Rattle.shore_page.specs.Layout.{slots_of}
use Rattle.shore_page.proofs.PageLemmas.{claim_at-slots, claim_lowered, slots_lowered, same_but_slots, slot_inside, claim_at-most}
use Rattle.shore_page.proofs.page.Page.unreserve.Goals as goal

pub record_len-requires : goal.record_len-requires
record_len-requires c = slot_inside c.self.inside.text.images c.self.inside.claims.items c.args.self.now.slots c.args.slot c.self.invariant.same (ap (λ (p : PageState). p.slots) c.self.view_is) c.requires

pub index-requires : goal.index-requires
index-requires c =
    let there = slot_inside c.self.inside.text.images c.self.inside.claims.items c.args.self.now.slots c.args.slot c.self.invariant.same (ap (λ (p : PageState). p.slots) c.self.view_is) c.requires in
    omega (arith, c.self.invariant.same, c.self.inside.claims.ok.0)

pub index_mut-requires : goal.index_mut-requires
index_mut-requires c =
    let there = slot_inside c.self.inside.text.images c.self.inside.claims.items c.args.self.now.slots c.args.slot c.self.invariant.same (ap (λ (p : PageState). p.slots) c.self.view_is) c.requires in
    omega (arith, c.self.invariant.same, c.self.inside.claims.ok.0)

pub overflow_sub-self-2 : goal.overflow_sub-self-2
overflow_sub-self-2 c =
    let has = c.self.invariant in
    let images = c.self.inside.text.images in
    let cs = c.self.inside.claims.items in
    let there = slot_inside images cs c.args.self.now.slots c.args.slot has.same (ap (λ (p : PageState). p.slots) c.self.view_is) c.requires in
    let claim : c.index.result.now ≡ get_or cs c.args.slot 0 = c.index.ensures ∙ get_or_default cs c.args.slot c.index.result.now 0 (omega (arith, has.same)) in
    omega (arith, claim, claim_at-slots images cs c.args.slot has.same, claim_at-most (slots_of images cs) c.args.slot, has.kept.sum)

pub invariant_of-self : goal.invariant_of-self
invariant_of-self c =
    let has = c.self.invariant in
    let images = c.self.inside.text.images in
    let cs = c.self.inside.claims.items in
    let there = slot_inside images cs c.args.self.now.slots c.args.slot has.same (ap (λ (p : PageState). p.slots) c.self.view_is) c.requires in
    let claim : c.index.result.now ≡ get_or cs c.args.slot 0 = c.index.ensures ∙ get_or_default cs c.args.slot c.index.result.now 0 (omega (arith, has.same)) in
    rw (c.min-lowered.ensures, c.max-kept.ensures, c.record_len.ensures.len, claim) (claim_lowered c.self.inside.text.version images cs (vec_capacity c.self.inside.claims) c.self.inside.claimed c.args.slot c.args.bytes has there)

pub returns : goal.returns
returns c =
    let has = c.self.invariant in
    let images = c.self.inside.text.images in
    let cs = c.self.inside.claims.items in
    let is : slots_of images cs ≡ c.args.self.now.slots = ap (λ (p : PageState). p.slots) c.self.view_is in
    let there = slot_inside images cs c.args.self.now.slots c.args.slot has.same is c.requires in
    let claim : c.index.result.now ≡ get_or cs c.args.slot 0 = c.index.ensures ∙ get_or_default cs c.args.slot c.index.result.now 0 (omega (arith, has.same)) in
    let kept : c.max-kept.result ≡ max c.args.bytes (image_len (get_or images c.args.slot None)) = c.max-kept.ensures ∙ ap (λ (n : ℕ). max c.args.bytes n) c.record_len.ensures.len in
    let lower : c.min-lowered.result ≡ min (get_or cs c.args.slot 0) (max c.args.bytes (image_len (get_or images c.args.slot None))) =
    c.min-lowered.ensures ∙ ap (λ (n : ℕ). min n c.max-kept.result) claim ∙ ap (λ (n : ℕ). min (get_or cs c.args.slot 0) n) kept in
    same_but_slots _ c.args.self.now _ _ c.self.view_is (ap (λ (n : ℕ). slots_of images (set cs c.args.slot n)) lower ∙ slots_lowered images cs c.args.slot c.args.bytes has.same there
    ∙ ap (λ (l : List Slot). with_change (lowered c.args.bytes) l c.args.slot) is)
