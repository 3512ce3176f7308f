use Rattle.std.proofs.Common.{ℕ, ◌-◌, ◌*◌, subst}
use Rattle.shore_page.specs.Text.{table_of, offset_at}
use Rattle.shore_page.specs.Reading.{Follows}
use Rattle.shore_page.proofs.RisingLemmas.{rising_more, rising_all}
use Rattle.shore_page.proofs.reading.rising_end.Goals as goal

pub loop-slot-preserved : goal.loop-slot-preserved
loop-slot-preserved c =
    let bytes = c.args.bytes.now in
    let slot = c.loop-slot.slot in
    let table = table_of c.args.version c.args.slots in
    let end = c.loop-slot.end in
    let entry = c.entry_at.result in
    let at_table = subst (λ (n : ℕ). Follows c.args.version (n - 4 * c.args.slots) end entry.offset entry.bytes c.in-Some.behind) c.page_bytes.ensures.is c.in-Some.ensures in
    let follows = subst (λ (o : ℕ). Follows c.args.version table end o entry.bytes c.in-Some.behind) c.entry_at.ensures.offset at_table in
    let here = subst (λ (n : ℕ). Follows c.args.version table end (offset_at c.args.version bytes slot) n c.in-Some.behind) c.entry_at.ensures.bytes follows in
    record {
      rising = rising_more c.args.version bytes c.args.slots slot end c.in-Some.behind c.requires.whole c.requires.few c.loop-slot.invariant.rising here;
    }

pub returns-clause-laid_out : goal.returns-clause-laid_out
returns-clause-laid_out c = rising_all c.args.version _ _ _ _ c.loop-slot.invariant.rising c.loop-slot-test.false c.loop-slot.auto.slot-end c.requires.whole c.requires.few
