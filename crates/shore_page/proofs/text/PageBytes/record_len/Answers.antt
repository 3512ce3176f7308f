use Rattle.std.proofs.Common.{◌≡◌, ◌<◌, ◌≤◌, ℕ, List, length, get_or, None, sym, ap, subst, ◌∙◌, arith}
use Rattle.shore_types.specs.declared.versions.Version.{Version}
use Rattle.shore_types.specs.Versions.{record_limit}
use Rattle.shore_types.specs.Images.{image_len}
use Rattle.shore_page.specs.Text.{table_of, offset_at, length_at}
use Rattle.shore_page.specs.Layout.{PageImages}
use Rattle.shore_page.proofs.LayoutLemmas.{length-images, get-images, entry_short}
use Rattle.shore_page.proofs.SlotsRead.{slot_bytes}
use Rattle.shore_page.proofs.text.PageBytes.record_len.Goals as goal

pub entry_at-requires : goal.entry_at-requires
entry_at-requires c =
    let kept = c.self.invariant.laid_out in
    let inside : c.args.slot < c.self.inside.slots = omega (arith, length-images c.self.inside.version c.self.inside.bytes.items c.self.inside.slots, ap (λ (p : PageImages). length p.images) c.self.view_is, c.requires) in
    record { whole = ap (λ (l : List ℕ). length l) c.deref.ensures.value ∙ kept.whole; few = omega (arith, kept.few) }

pub returns-clause-len : goal.returns-clause-len
returns-clause-len c =
    let kept = c.self.invariant.laid_out in
    let items = c.self.inside.bytes.items in
    let slots = c.self.inside.slots in
    let inside : c.args.slot < slots = omega (arith, length-images c.self.inside.version items slots, ap (λ (p : PageImages). length p.images) c.self.view_is, c.requires) in
    let len : c.entry_at.result.bytes ≡ length_at c.self.inside.version items c.args.slot = c.entry_at.ensures.bytes ∙ ap (λ (b : List ℕ). length_at c.self.inside.version b c.args.slot) c.deref.ensures.value in
    len ∙ sym (slot_bytes c.self.inside.version items (table_of c.self.inside.version slots) c.args.slot kept.whole (omega arith) (kept.table.each c.args.slot inside)) ∙ sym (ap image_len (get-images c.self.inside.version items slots c.args.slot inside))
    ∙ ap (λ (p : PageImages). image_len (get_or p.images c.args.slot None)) c.self.view_is

pub returns-clause-most : goal.returns-clause-most
returns-clause-most c =
    let version : c.self.inside.version ≡ c.args.self.now.version = ap (λ (p : PageImages). p.version) c.self.view_is in
    let kept = c.self.invariant.laid_out in
    let items = c.self.inside.bytes.items in
    let slots = c.self.inside.slots in
    let inside : c.args.slot < slots = omega (arith, length-images c.self.inside.version items slots, ap (λ (p : PageImages). length p.images) c.self.view_is, c.requires) in
    let len : c.entry_at.result.bytes ≡ length_at c.self.inside.version items c.args.slot = c.entry_at.ensures.bytes ∙ ap (λ (b : List ℕ). length_at c.self.inside.version b c.args.slot) c.deref.ensures.value in
    let short : c.entry_at.result.bytes ≤ record_limit c.self.inside.version =
    omega (arith, len, entry_short c.self.inside.version (table_of c.self.inside.version slots) (offset_at c.self.inside.version items c.args.slot) (length_at c.self.inside.version items c.args.slot) (kept.table.each c.args.slot inside)) in
    subst (λ (v : Version). c.entry_at.result.bytes ≤ record_limit v) version short
