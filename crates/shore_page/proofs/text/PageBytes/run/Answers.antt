use Rattle.std.proofs.Common.{◌≡◌, ◌≤◌, ◌+◌, ℕ, List, Some, length, sym, ap, subst, ◌∙◌, arith}
use Rattle.std.specs.List.{between}
use Rattle.shore_types.specs.Images.{Image}
use Rattle.shore_types.specs.Runs.{IsRun}
use Rattle.shore_types.specs.Versions.{page_bytes}
use Rattle.shore_page.specs.Text.{offset_at, length_at}
use Rattle.shore_page.specs.Reading.{images_in, slot_image}
use Rattle.shore_page.specs.Layout.{PageImages}
use Rattle.shore_page.proofs.LayoutLemmas.{image_some}
use Rattle.shore_page.proofs.RunLemmas.{nothing_run, slot_more}
use Rattle.std.proofs.lemmas.List.Edits.{length-between}
use Rattle.shore_page.proofs.text.PageBytes.run.Goals as goal

pub loop-slot-init : goal.loop-slot-init
loop-slot-init c = record { front = omega arith; inside = omega arith; run = nothing_run c.self.inside.version c.self.inside.bytes.items }

pub entry_at-entry-requires : goal.entry_at-entry-requires
entry_at-entry-requires c =
    let kept = c.self.invariant.laid_out in
    record { whole = ap (λ (l : List ℕ). length l) c.deref.ensures.value ∙ kept.whole; few = omega (arith, kept.few, c.loop-slot-test.true) }

pub loop-slot-preserved : goal.loop-slot-preserved
loop-slot-preserved c =
    let kept = c.self.invariant.laid_out in
    let items = c.self.inside.bytes.items in
    let slot = c.loop-slot.slot in
    let end = c.loop-slot.end in
    let old = c.loop-slot.invariant in
    let offset : offset_at c.self.inside.version items slot ≡ end = sym (c.entry_at-entry.ensures.offset ∙ ap (λ (b : List ℕ). offset_at c.self.inside.version b slot) c.deref.ensures.value) ∙ c.if-entry-end.false in
    let bytes : length_at c.self.inside.version items slot ≡ c.entry_at-entry.result.bytes = sym (c.entry_at-entry.ensures.bytes ∙ ap (λ (b : List ℕ). length_at c.self.inside.version b slot) c.deref.ensures.value) in
    let inside : end + c.entry_at-entry.result.bytes ≤ page_bytes c.self.inside.version = omega (arith, kept.ends slot c.loop-slot-test.true, kept.back, offset, bytes) in
    let there = between end (end + c.entry_at-entry.result.bytes) items in
    let count : length there ≡ c.entry_at-entry.result.bytes = length-between items end (end + c.entry_at-entry.result.bytes) (omega (arith, inside, kept.whole)) ∙ omega arith in
    let image : slot_image c.self.inside.version items slot ≡ Some there =
    image_some c.self.inside.version items there slot end old.front offset (bytes ∙ sym count) (ap (λ (n : ℕ). between end (end + n) items) count) in
    record {
      front = omega (arith, old.front);
      inside = inside;
      run = slot_more c.self.inside.version items slot end (end + c.entry_at-entry.result.bytes) old.front (omega arith) image old.run;
    }

pub returns : goal.returns
returns c =
    let items = c.self.inside.bytes.items in
    let slots : c.loop-slot.slot ≡ c.self.inside.slots = omega (arith, c.loop-slot-test.false, c.loop-slot.auto.slot-end) in
    let all = subst (λ (n : ℕ). IsRun (between 24 c.loop-slot.end items) (images_in c.self.inside.version items n)) slots c.loop-slot.invariant.run in
    subst (λ (p : PageImages). IsRun (between 24 c.loop-slot.end c.deref-2.result.now) p.images) c.self.view_is
    (subst (λ (b : List ℕ). IsRun (between 24 c.loop-slot.end b) (images_in c.self.inside.version items c.self.inside.slots)) (sym c.deref-2.ensures.value) all)
