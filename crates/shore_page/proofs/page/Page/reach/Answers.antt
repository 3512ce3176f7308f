use Rattle.std.proofs.Common.{◌≡◌, ◌<◌, ◌≤◌, ◌+◌, ◌-◌, ◌*◌, ◌++◌, ℕ, List, length, replicate, None, refl, sym, ap, subst, ◌∙◌, arith, vec_capacity}
use Rattle.shore_types.specs.Versions.{sizes}
use Rattle.shore_page.specs.Slots.{PageState, with_slot}
use Rattle.shore_page.specs.Room.{free_bytes, HasRoom}
use Rattle.shore_page.specs.Layout.{PageImages, slots_of, HasClaims}
use Rattle.shore_page.proofs.RoomLemmas.{with_slot_inside}
use Rattle.shore_page.proofs.PageLemmas.{page_of, length-slots, records_room, reached, slots_reached, same_but_slots}
use Rattle.shore_page.proofs.page.Page.reach.Goals as goal

pub grow-requires : goal.grow-requires
grow-requires c =
    let has = c.self.invariant in
    let len = length-slots c.self.inside.text.images c.self.inside.claims.items has.same in
    let fits : 4 * (c.args.slot + 1 - length (slots_of c.self.inside.text.images c.self.inside.claims.items)) ≤ free_bytes c.self.inside.text.version (slots_of c.self.inside.text.images c.self.inside.claims.items) =
    subst (λ (p : PageState). 4 * (c.args.slot + 1 - length p.slots) ≤ free_bytes p.version p.slots) (sym c.self.view_is) c.requires in
    record {
      order = omega (arith, c.slot_count.ensures.count);
      room = omega (arith, records_room c.self.inside.text.version c.self.inside.text.images c.self.inside.claims.items _ c.self.inside.claimed has, c.slot_count.ensures.count);
    }

pub add_claims-requires : goal.add_claims-requires
add_claims-requires c =
    let has = c.self.invariant in
    let len = length-slots c.self.inside.text.images c.self.inside.claims.items has.same in
    let fits : 4 * (c.args.slot + 1 - length (slots_of c.self.inside.text.images c.self.inside.claims.items)) ≤ free_bytes c.self.inside.text.version (slots_of c.self.inside.text.images c.self.inside.claims.items) =
    subst (λ (p : PageState). 4 * (c.args.slot + 1 - length p.slots) ≤ free_bytes p.version p.slots) (sym c.self.view_is) c.requires in
    record {
      capacity = omega (arith, sizes, fits, len, has.reserved, records_room c.self.inside.text.version c.self.inside.text.images c.self.inside.claims.items _ c.self.inside.claimed has, c.slot_count.ensures.count);
      order = omega (arith, has.same, c.slot_count.ensures.count);
    }

pub invariant_of-self : goal.invariant_of-self
invariant_of-self c =
    let has = c.self.invariant in
    let images = c.self.inside.text.images in
    let cs = c.self.inside.claims.items in
    let fits : 4 * (c.args.slot + 1 - length (slots_of images cs)) ≤ free_bytes c.self.inside.text.version (slots_of images cs) =
    subst (λ (p : PageState). 4 * (c.args.slot + 1 - length p.slots) ≤ free_bytes p.version p.slots) (sym c.self.view_is) c.requires in
    let more = reached c.self.inside.text.version images cs (vec_capacity c.self.inside.claims) c.self.inside.claimed c.args.slot has (omega (arith, c.slot_count.ensures.count)) (omega (arith, length-slots images cs has.same)) in
    let claims : c.add_claims.new.claims.items ≡ cs ++ replicate (c.args.slot + 1 - length images) 0 = c.add_claims.ensures.claims ∙ ap (λ (n : ℕ). cs ++ replicate (c.args.slot + 1 - n) 0) has.same in
    subst (λ (t : PageImages). HasClaims t.version t.images c.add_claims.new.claims.items (vec_capacity c.add_claims.new.claims) c.self.inside.claimed) (sym c.grow.ensures)
    (subst (λ (l : List ℕ). HasClaims c.self.inside.text.version (images ++ replicate (c.args.slot + 1 - length images) None) l (vec_capacity c.add_claims.new.claims) c.self.inside.claimed) (sym claims)
    (subst (λ (n : ℕ). HasClaims c.self.inside.text.version (images ++ replicate (c.args.slot + 1 - length images) None) (cs ++ replicate (c.args.slot + 1 - length images) 0) n c.self.inside.claimed) (sym c.add_claims.ensures.capacity) more))

pub returns-then-slot-slot_count : goal.returns-then-slot-slot_count
returns-then-slot-slot_count c =
    let has = c.self.invariant in
    let images = c.self.inside.text.images in
    let cs = c.self.inside.claims.items in
    let claims : c.add_claims.new.claims.items ≡ cs ++ replicate (c.args.slot + 1 - length images) 0 = c.add_claims.ensures.claims ∙ ap (λ (n : ℕ). cs ++ replicate (c.args.slot + 1 - n) 0) has.same in
    record {
      reached = ap (λ (t : PageImages). page_of t c.add_claims.new.claims.items) c.grow.ensures
          ∙ same_but_slots _ c.args.self.now _ _ c.self.view_is (ap (λ (l : List ℕ). slots_of (images ++ replicate (c.args.slot + 1 - length images) None) l) claims ∙ slots_reached images cs c.args.slot has.same
          ∙ ap (λ (p : PageState). with_slot p.slots c.args.slot) c.self.view_is);
      room = subst (λ (p : PageState). HasRoom p.version p.slots) c.self.view_is has.kept.room;
    }

pub returns-else-slot-slot_count : goal.returns-else-slot-slot_count
returns-else-slot-slot_count c =
    let has = c.self.invariant in
    let there : c.args.slot < length c.args.self.now.slots =
    omega (arith, c.slot_count.ensures.count, length-slots c.self.inside.text.images c.self.inside.claims.items has.same, ap (λ (p : PageState). length p.slots) c.self.view_is) in
    record {
      reached = same_but_slots c.args.self.now c.args.self.now _ _ refl (sym (with_slot_inside c.args.self.now.slots c.args.slot there));
      room = subst (λ (p : PageState). HasRoom p.version p.slots) c.self.view_is has.kept.room;
    }
