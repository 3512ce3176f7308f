use Rattle.std.proofs.Common.{◌≡◌, ◌≤◌, ◌+◌, ◌*◌, ℕ, List, length, map, Option, Some, sym, ap, subst, ◌∙◌, vec_capacity}
use Rattle.std.proofs.lemmas.List.{length-map}
use Rattle.std.specs.Prelude.{IfSome}
use Rattle.shore_types.specs.declared.ids.PageId.{PageId}
use Rattle.shore_types.specs.declared.versions.Version.{Version}
use Rattle.shore_page.proofs.SlotsRead.{some_is}
use Rattle.shore_types.specs.Images.{Image, image_len}
use Rattle.shore_types.specs.Versions.{page_room, slot_limit}
use Rattle.shore_page.specs.Slots.{Slot, settled}
use Rattle.shore_page.specs.Text.{IsPageText, settled_page}
use Rattle.shore_page.specs.Layout.{PageImages, slots_of, record_bytes, HasClaims}
use Rattle.shore_page.proofs.PageLemmas.{page_of, images_of-slots, slots_settled, settled_kept, text_short, with_slots}
use Rattle.shore_page.proofs.page.Page.from_bytes.Goals as goal

pub returns-in_default-clause-only : goal.returns-in_default-clause-only
returns-in_default-clause-only c number images text =
    let there = c.in_ok-text.ensures.only number images text in
    absurd (c.in_default.not-Some (record { version = c.args.version; id = c.args.id; number = number; images = images }) there)

-- what was read
abbrev read : (v : Version) → PageId → List ℕ → PageImages → Type 0
read v id bytes t = (t.version ≡ v) × (t.id ≡ id) × IsPageText v bytes id t.number t.images

pub invariant_of-result : goal.invariant_of-result
invariant_of-result c =
    let text = c.in-Some.text in
    let found = subst (λ (o : Option PageImages). IfSome o (read c.args.version c.args.id c.args.bytes.now)) c.in-Some.is c.in_ok-text.ensures.found in
    let room = subst (λ (o : Option PageImages). IfSome o (λ page. 4 * length page.images + record_bytes page.images ≤ page_room c.args.version)) c.in-Some.is c.in_ok-text.ensures.room in
    let done = c.claim_records-claimed.ensures in
    subst (λ (v : Version). HasClaims v text.images c.claim_records-claimed.new.claims.items (vec_capacity c.claim_records-claimed.new.claims) c.claim_records-claimed.result) (sym found.0)
    (settled_kept c.args.version text.images c.claim_records-claimed.new.claims.items (vec_capacity c.claim_records-claimed.new.claims) c.claim_records-claimed.result done.claims done.sum (done.capacity ∙ ap slot_limit found.0) room
    (text_short c.args.version c.args.bytes.now c.args.id text.number text.images found.2))

-- claims of what the records have, as slots
slots_are : (images : List Image) (cs : List ℕ) → cs ≡ map image_len images → slots_of images cs ≡ map settled images
slots_are images cs is = ap (λ (l : List ℕ). slots_of images l) is ∙ slots_settled images

pub returns-clause-found : goal.returns-clause-found
returns-clause-found c =
    let text = c.in-Some.text in
    let found = subst (λ (o : Option PageImages). IfSome o (read c.args.version c.args.id c.args.bytes.now)) c.in-Some.is c.in_ok-text.ensures.found in
    let same : length c.claim_records-claimed.new.claims.items ≡ length text.images = ap (λ (l : List ℕ). length l) c.claim_records-claimed.ensures.claims ∙ length-map text.images image_len in
    (found.0, subst (λ (l : List Image). IsPageText c.args.version c.args.bytes.now c.args.id text.number l) (sym (images_of-slots text.images c.claim_records-claimed.new.claims.items same)) found.2)

pub returns-clause-only : goal.returns-clause-only
returns-clause-only c number images text =
    let is : c.in-Some.text ≡ record { version = c.args.version; id = c.args.id; number = number; images = images } = some_is _ _ (sym c.in-Some.is ∙ c.in_ok-text.ensures.only number images text) in
    ap (λ (l : List Slot). Some (with_slots (page_of c.in-Some.text c.claim_records-claimed.new.claims.items) l)) (slots_are c.in-Some.text.images c.claim_records-claimed.new.claims.items c.claim_records-claimed.ensures.claims)
    ∙ ap (λ (t : PageImages). Some (settled_page t.version t.id t.number t.images)) is
