use Rattle.std.proofs.Common.{◌≡◌, ◌≤◌, ◌+◌, ◌*◌, ℕ, List, length, Some, refl, sym, ap, subst, ◌∙◌, arith}
use Rattle.shore_types.specs.declared.versions.Version.{Version}
use Rattle.shore_types.specs.declared.ids.PageId.{PageId}
use Rattle.shore_page.specs.declared.reading.Header.{Header}
use Rattle.shore_types.specs.Images.{Image}
use Rattle.shore_types.specs.Versions.{page_room}
use Rattle.shore_page.specs.Text.{IsPageText}
use Rattle.shore_page.specs.Reading.{IsTable, images_in}
use Rattle.shore_page.specs.Layout.{PageImages, IsPageBytes, record_bytes}
use Rattle.shore_page.proofs.LayoutLemmas.{length-images}
use Rattle.shore_page.proofs.SlotsRead.{table_of_text, text_of_table, images_are, some_is}
use Rattle.shore_page.proofs.text.PageBytes.from_bytes.Goals as goal

pub returns-in_default-clause-only : goal.returns-in_default-clause-only
returns-in_default-clause-only c number images text =
    let there = c.in_default.ensures.only number (length images) text.header in
    absurd cc

pub returns-in_default-check_slots-clause-only : goal.returns-in_default-check_slots-clause-only
returns-in_default-check_slots-clause-only c number images text =
    let header : c.in-Some.header ≡ record { number = number; slots = length images } = some_is _ _ (c.in-Some.ensures.only number (length images) text.header) in
    let count : length images ≡ c.in-Some.header.slots = sym (ap (λ (h : Header). h.slots) header) in
    let none = c.in_default-check_slots.ensures.only (subst (λ (n : ℕ). IsTable c.args.version c.args.bytes.now n) count (table_of_text c.args.version c.args.bytes.now c.args.id number images text)) in
    absurd cc

pub invariant_of-result : goal.invariant_of-result
invariant_of-result c =
    subst (λ (b : List ℕ). IsPageBytes c.args.version b c.args.id c.in-Some.header.number c.in-Some.header.slots c.in-Some-check_slots.end c.full_slots-full.result) (sym c.in_ok-bytes.ensures.items)
    record { header = c.in-Some.ensures.found; laid_out = c.in-Some-check_slots.ensures.laid_out; filled = c.full_slots-full.ensures }

pub returns-clause-found : goal.returns-clause-found
returns-clause-found c =
    let slots = c.in-Some.header.slots in
    let text = text_of_table c.args.version c.args.bytes.now c.args.id c.in-Some.header.number slots (omega arith) c.in-Some.ensures.found c.in-Some-check_slots.ensures.laid_out.table in
    (refl, refl, subst (λ (b : List ℕ). IsPageText c.args.version c.args.bytes.now c.args.id c.in-Some.header.number (images_in c.args.version b slots)) (sym c.in_ok-bytes.ensures.items) text)

pub returns-clause-room : goal.returns-clause-room
returns-clause-room c =
    let slots = c.in-Some.header.slots in
    let room : 4 * length (images_in c.args.version c.args.bytes.now slots) + record_bytes (images_in c.args.version c.args.bytes.now slots) ≤ page_room c.args.version = omega (arith, c.in-Some-check_slots.ensures.room, length-images c.args.version c.args.bytes.now slots) in
    subst (λ (b : List ℕ). 4 * length (images_in c.args.version b slots) + record_bytes (images_in c.args.version b slots) ≤ page_room c.args.version) (sym c.in_ok-bytes.ensures.items) room

pub returns-clause-only : goal.returns-clause-only
returns-clause-only c number images text =
    let header : c.in-Some.header ≡ record { number = number; slots = length images } = some_is _ _ (c.in-Some.ensures.only number (length images) text.header) in
    let are : images_in c.args.version c.in_ok-bytes.bytes.items (length images) ≡ images = ap (λ (b : List ℕ). images_in c.args.version b (length images)) c.in_ok-bytes.ensures.items ∙ images_are c.args.version c.args.bytes.now c.args.id number images text in
    ap (λ (h : Header). Some (page c.args.version c.args.id h.number (images_in c.args.version c.in_ok-bytes.bytes.items h.slots))) header ∙ ap (λ (l : List Image). Some (page c.args.version c.args.id number l)) are
  where
    page : Version → PageId → ℕ → List Image → PageImages
    page v id number images = record { version = v; id = id; number = number; images = images }
