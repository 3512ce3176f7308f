use Rattle.std.proofs.Common.{◌≡◌, ◌+◌, ◌++◌, ◌∷◌, [], ℕ, List, length, Some, sym, ap, subst, ◌∙◌, arith, vec_capacity}
use Rattle.shore_types.specs.Versions.{sizes}
use Rattle.shore_page.specs.Slots.{PageState, Slot, with_image}
use Rattle.shore_page.specs.Room.{ChangesOne, Fits, HasRoom}
use Rattle.shore_page.specs.Layout.{PageImages, slots_of, HasClaims}
use Rattle.shore_page.proofs.RoomLemmas.{changes_one}
use Rattle.shore_page.proofs.PageLemmas.{page_of, same_but_slots}
use Rattle.shore_page.proofs.AppendLemmas.{append_kept, append_room, slots_appended}
use Rattle.shore_page.proofs.page.Page.append.Goals as goal

pub push_reserved-requires : goal.push_reserved-requires
push_reserved-requires c =
    let has = c.self.invariant in
    let room = append_room c.self.inside.text.version c.self.inside.text.images c.self.inside.claims.items (vec_capacity c.self.inside.claims) c.self.inside.claimed (length c.args.bytes.now) has
    (subst (λ (p : PageState). Fits p.version p.slots (length p.slots) (length c.args.bytes.now)) (sym c.self.view_is) c.requires) in
    omega (arith, sizes, room, has.same, has.reserved, c.self.inside.claims.ok.0)

pub append-requires-clause-room : goal.append-requires-clause-room
append-requires-clause-room c =
    append_room c.self.inside.text.version c.self.inside.text.images c.self.inside.claims.items (vec_capacity c.self.inside.claims) c.self.inside.claimed (length c.args.bytes.now) c.self.invariant
    (subst (λ (p : PageState). Fits p.version p.slots (length p.slots) (length c.args.bytes.now)) (sym c.self.view_is) c.requires)

pub invariant_of-self : goal.invariant_of-self
invariant_of-self c =
    let fits = subst (λ (p : PageState). Fits p.version p.slots (length p.slots) (length c.args.bytes.now)) (sym c.self.view_is) c.requires in
    let kept = append_kept c.self.inside.text.version c.self.inside.text.images c.self.inside.claims.items (vec_capacity c.self.inside.claims) c.self.inside.claimed c.args.bytes.now c.self.invariant fits in
    subst (λ (t : PageImages). HasClaims t.version t.images c.push_reserved.new.self.items (vec_capacity c.push_reserved.new.self) (c.self.inside.claimed + length c.args.bytes.now)) (sym c.append.ensures)
    (subst (λ (l : List ℕ). HasClaims c.self.inside.text.version (c.self.inside.text.images ++ Some c.args.bytes.now ∷ []) l (vec_capacity c.push_reserved.new.self) (c.self.inside.claimed + length c.args.bytes.now)) (sym c.push_reserved.ensures.items)
    (subst (λ (n : ℕ). HasClaims c.self.inside.text.version (c.self.inside.text.images ++ Some c.args.bytes.now ∷ []) (c.self.inside.claims.items ++ length c.args.bytes.now ∷ []) n (c.self.inside.claimed + length c.args.bytes.now)) (sym c.push_reserved.ensures.capacity) kept))

pub returns-clause-put : goal.returns-clause-put
returns-clause-put c =
    let images = c.self.inside.text.images in
    let cs = c.self.inside.claims.items in
    ap (λ (t : PageImages). page_of t c.push_reserved.new.self.items) c.append.ensures
    ∙ same_but_slots _ c.args.self.now _ _ c.self.view_is
    (ap (λ (l : List ℕ). slots_of (images ++ Some c.args.bytes.now ∷ []) l) c.push_reserved.ensures.items ∙ slots_appended images cs c.args.bytes.now c.self.invariant.same
    ∙ ap (λ (p : PageState). with_image p.slots (length p.slots) (Some c.args.bytes.now)) c.self.view_is)

pub returns-clause-one : goal.returns-clause-one
returns-clause-one c =
    let images = c.self.inside.text.images in
    let cs = c.self.inside.claims.items in
    let new : slots_of c.append.new.self.images c.push_reserved.new.self.items ≡ with_image c.args.self.now.slots (length c.args.self.now.slots) (Some c.args.bytes.now) =
    ap (λ (t : PageImages). slots_of t.images c.push_reserved.new.self.items) c.append.ensures
    ∙ ap (λ (l : List ℕ). slots_of (images ++ Some c.args.bytes.now ∷ []) l) c.push_reserved.ensures.items ∙ slots_appended images cs c.args.bytes.now c.self.invariant.same
    ∙ ap (λ (p : PageState). with_image p.slots (length p.slots) (Some c.args.bytes.now)) c.self.view_is in
    subst (λ (l : List Slot). ChangesOne c.args.self.now.version c.args.self.now.slots l (length c.args.self.now.slots) (Some c.args.bytes.now)) (sym new)
    (changes_one c.args.self.now.version c.args.self.now.slots (length c.args.self.now.slots) (Some c.args.bytes.now) (subst (λ (p : PageState). HasRoom p.version p.slots) c.self.view_is c.self.invariant.kept.room) c.requires)
