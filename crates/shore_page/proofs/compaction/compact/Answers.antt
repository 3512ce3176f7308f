use Rattle.std.proofs.Common.{◌≡◌, ℕ, ◌+◌, ◌≤◌, List, length, drop, refl, sym, ap, subst, ◌∙◌, arith}
use Rattle.std.proofs.Common.{drop_of_length-le}
use Rattle.std.specs.List.{between}
use Rattle.std.proofs.lemmas.Slice.{between_to_end}
use Rattle.std.proofs.lemmas.List.Edits.{length-between}
use Rattle.std.proofs.lemmas.List.{length-take-le}
use Rattle.shore_types.specs.Images.{Image, image_len}
use Rattle.shore_types.specs.declared.versions.Version.{Version}
use Rattle.shore_types.specs.Versions.{page_bytes}
use Rattle.shore_page.specs.Text.{table_of, offset_at, length_at, HasSlot}
use Rattle.shore_page.specs.Reading.{IsTable, images_in}
use Rattle.shore_page.specs.Layout.{record_bytes}
use Rattle.shore_page.proofs.SlotsRead.{image_short}
use Rattle.shore_page.proofs.SlotsWritten.{Written, written_none, written_more, written_laid_out, written_images, rest_more}
use Rattle.shore_page.proofs.LayoutLemmas.{length-images, entry_within}
use Rattle.shore_page.proofs.compaction.compact.Goals as goal

pub loop-slot-init : goal.loop-slot-init
loop-slot-init c = record {
  written = written_none c.args.version c.args.out.now c.copy_from_slice.new.self c.args.slots c.requires.whole;
  header = record { len = refl; same = λ position front. refl };
}

pub put_slot-offset-requires-clause-short : goal.put_slot-offset-requires-clause-short
put_slot-offset-requires-clause-short c =
    let copy = c.copy_from_slice.new.self in
    let same : copy ≡ c.args.out.now = c.copy_from_slice.ensures.after in
    let table = subst (λ (b : List ℕ). IsTable c.args.version b c.args.slots) (sym same) c.requires.laid_out in
    omega (arith, ap image_len c.image_at.ensures, image_short c.args.version copy c.args.slots c.loop-slot.slot (ap (λ (l : List ℕ). length l) same ∙ c.requires.whole) table c.loop-slot-test.true)

pub put_slot-offset-requires-clause-room : goal.put_slot-offset-requires-clause-room
put_slot-offset-requires-clause-room c =
    let copy = c.copy_from_slice.new.self in
    let same : copy ≡ c.args.out.now = c.copy_from_slice.ensures.after in
    let total : record_bytes (images_in c.args.version copy c.args.slots) ≡ record_bytes (images_in c.args.version c.args.out.now c.args.slots) = ap (λ (b : List ℕ). record_bytes (images_in c.args.version b c.args.slots)) same in
    omega (arith, ap image_len c.image_at.ensures, rest_more c.args.version copy c.args.slots c.loop-slot.slot c.loop-slot-test.true, c.loop-slot.invariant.written.rest, c.requires.room)

pub loop-slot-preserved : goal.loop-slot-preserved
loop-slot-preserved c =
    let copy = c.copy_from_slice.new.self in
    let slot = c.loop-slot.slot in
    let new = c.put_slot-offset.new.out in
    let same : copy ≡ c.args.out.now = c.copy_from_slice.ensures.after in
    let total : record_bytes (images_in c.args.version copy c.args.slots) ≡ record_bytes (images_in c.args.version c.args.out.now c.args.slots) = ap (λ (b : List ℕ). record_bytes (images_in c.args.version b c.args.slots)) same in
    let so_far = c.loop-slot.invariant in
    let keeps = c.put_slot-offset.ensures.keeps in
    record {
      written = written_more c.args.version c.loop-slot.out new copy c.args.slots slot c.loop-slot.offset c.put_slot-offset.result so_far.written c.loop-slot-test.true
          (omega (arith, rest_more c.args.version copy c.args.slots slot c.loop-slot-test.true, so_far.written.rest, c.requires.room)) keeps
          (c.put_slot-offset.ensures.end ∙ ap (λ (image : Image). c.loop-slot.offset + image_len image) c.image_at.ensures)
          (subst (λ (image : Image). HasSlot c.args.version new (table_of c.args.version c.args.slots) slot image) c.image_at.ensures c.put_slot-offset.ensures.slot)
          c.put_slot-offset.ensures.begins c.put_slot-offset.ensures.ends;
      header = record {
        len = keeps.len ∙ so_far.header.len;
        same = λ position front. keeps.below position (omega (arith, so_far.written.front)) ∙ so_far.header.same position front;
      };
    }

-- all slots are written when the loop ends
written_all : (v : Version) (out copy : List ℕ) (slots i offset : ℕ) → Written v out copy slots i offset → slots ≤ i → i ≤ slots → Written v out copy slots slots offset
written_all v out copy slots i offset written reached inside = let same : i ≡ slots = omega arith in subst (λ (n : ℕ). Written v out copy slots n offset) same written

end_is : (v : Version) (out copy : List ℕ) (slots offset : ℕ) → Written v out copy slots slots offset → offset ≡ 24 + record_bytes (images_in v copy slots)
end_is v out copy slots offset written =
    let none : record_bytes (drop slots (images_in v copy slots)) ≡ 0 = ap record_bytes (drop_of_length-le (images_in v copy slots) (omega (arith, length-images v copy slots))) in
    omega (arith, written.rest)

pub returns-clause-end : goal.returns-clause-end
returns-clause-end c =
    let copy = c.copy_from_slice.new.self in
    let same : copy ≡ c.args.out.now = c.copy_from_slice.ensures.after in
    end_is c.args.version c.loop-slot.out copy c.args.slots c.loop-slot.offset (written_all c.args.version _ _ _ _ _ c.loop-slot.invariant.written c.loop-slot-test.false c.loop-slot.auto.slot-end)
    ∙ ap (λ (b : List ℕ). 24 + record_bytes (images_in c.args.version b c.args.slots)) same

pub returns-clause-laid_out : goal.returns-clause-laid_out
returns-clause-laid_out c =
    let copy = c.copy_from_slice.new.self in
    let same : copy ≡ c.args.out.now = c.copy_from_slice.ensures.after in
    let written = written_all c.args.version _ _ _ _ _ c.loop-slot.invariant.written c.loop-slot-test.false c.loop-slot.auto.slot-end in
    let total : record_bytes (images_in c.args.version copy c.args.slots) ≡ record_bytes (images_in c.args.version c.args.out.now c.args.slots) = ap (λ (b : List ℕ). record_bytes (images_in c.args.version b c.args.slots)) same in
    written_laid_out c.args.version c.loop-slot.out copy c.args.slots c.loop-slot.offset written c.requires.few
    (omega (arith, end_is c.args.version c.loop-slot.out copy c.args.slots c.loop-slot.offset written, c.requires.room))

pub returns-clause-images : goal.returns-clause-images
returns-clause-images c =
    let copy = c.copy_from_slice.new.self in
    let same : copy ≡ c.args.out.now = c.copy_from_slice.ensures.after in
    written_images c.args.version c.loop-slot.out copy c.args.slots c.loop-slot.offset (written_all c.args.version _ _ _ _ _ c.loop-slot.invariant.written c.loop-slot-test.false c.loop-slot.auto.slot-end)
    ∙ ap (λ (b : List ℕ). images_in c.args.version b c.args.slots) same

pub image_at-requires-clause-within : goal.image_at-requires-clause-within
image_at-requires-clause-within c =
    let copy = c.copy_from_slice.new.self in
    let same : copy ≡ c.args.out.now = c.copy_from_slice.ensures.after in
    let table = subst (λ (b : List ℕ). IsTable c.args.version b c.args.slots) (sym same) c.requires.laid_out in
    omega (arith, entry_within c.args.version (table_of c.args.version c.args.slots) (offset_at c.args.version copy c.loop-slot.slot) (length_at c.args.version copy c.loop-slot.slot) (table.each c.loop-slot.slot c.loop-slot-test.true))
