use Rattle.std.proofs.Common.{◌≡◌, ℕ, ◌∙◌, sym, subst, arith}
use Rattle.shore_page.specs.Text.{offset_at}
use Rattle.shore_page.specs.Layout.{IsFreeSpace}
use Rattle.shore_page.proofs.WritingLemmas.{puts_nothing}
use Rattle.shore_page.proofs.LayoutLemmas.{free_in_place, none_laid_out, given_up_room, compacted_for}
use Rattle.shore_page.proofs.placing.place_for.Goals as goal

pub returns-then-len-entry-clause-free : goal.returns-then-len-entry-clause-free
returns-then-len-entry-clause-free c =
    let bytes = c.args.bytes.now in
    let is : c.entry_at-entry.result.offset ≡ offset_at c.args.version bytes c.args.slot = c.entry_at-entry.ensures.offset in
    subst (λ (o : ℕ). IsFreeSpace c.args.version bytes c.args.slots c.args.slot o c.args.len) (sym is)
    (free_in_place c.args.version bytes c.args.slots c.args.slot c.args.end c.args.len c.requires.laid_out c.requires.there (λ (e : offset_at c.args.version bytes c.args.slot ≡ 0). c.if-entry-ne0.true (is ∙ e)) (omega (arith, c.entry_at-entry.ensures.bytes)))

pub compact-end-requires : goal.compact-end-requires
compact-end-requires c =
    let laid_out = c.requires.laid_out in
    let puts = puts_nothing c.args.version c.args.bytes.now c.put_entry.new.out c.args.slots c.args.slot laid_out.whole laid_out.few c.requires.there c.put_entry.ensures.offset c.put_entry.ensures.length c.put_entry.ensures.beside in
    let mid = none_laid_out c.args.version c.args.bytes.now c.put_entry.new.out c.args.slots c.args.slot c.args.end laid_out c.requires.there puts in
    record {
      laid_out = mid.table;
      whole = mid.whole;
      few = laid_out.few;
      room = omega (arith, given_up_room c.args.version c.args.bytes.now c.put_entry.new.out c.args.slots c.args.slot c.args.end c.args.len laid_out c.requires.there puts c.requires.room);
    }

pub returns-clause-free : goal.returns-clause-free
returns-clause-free c =
    let laid_out = c.requires.laid_out in
    let puts = puts_nothing c.args.version c.args.bytes.now c.put_entry.new.out c.args.slots c.args.slot laid_out.whole laid_out.few c.requires.there c.put_entry.ensures.offset c.put_entry.ensures.length c.put_entry.ensures.beside in
    let done = c.compact-end.ensures in
    (compacted_for c.args.version c.args.bytes.now c.put_entry.new.out c.compact-end.new.out c.args.slots c.args.slot c.args.end c.compact-end.result c.args.len laid_out c.requires.there puts c.requires.room done.laid_out done.end done.images done.header).free

pub returns-clause-others : goal.returns-clause-others
returns-clause-others c =
    let laid_out = c.requires.laid_out in
    let puts = puts_nothing c.args.version c.args.bytes.now c.put_entry.new.out c.args.slots c.args.slot laid_out.whole laid_out.few c.requires.there c.put_entry.ensures.offset c.put_entry.ensures.length c.put_entry.ensures.beside in
    let done = c.compact-end.ensures in
    (compacted_for c.args.version c.args.bytes.now c.put_entry.new.out c.compact-end.new.out c.args.slots c.args.slot c.args.end c.compact-end.result c.args.len laid_out c.requires.there puts c.requires.room done.laid_out done.end done.images done.header).others

pub returns-clause-header : goal.returns-clause-header
returns-clause-header c =
    let laid_out = c.requires.laid_out in
    let puts = puts_nothing c.args.version c.args.bytes.now c.put_entry.new.out c.args.slots c.args.slot laid_out.whole laid_out.few c.requires.there c.put_entry.ensures.offset c.put_entry.ensures.length c.put_entry.ensures.beside in
    let done = c.compact-end.ensures in
    (compacted_for c.args.version c.args.bytes.now c.put_entry.new.out c.compact-end.new.out c.args.slots c.args.slot c.args.end c.compact-end.result c.args.len laid_out c.requires.there puts c.requires.room done.laid_out done.end done.images done.header).header
