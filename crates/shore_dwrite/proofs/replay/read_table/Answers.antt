use Rattle.std.proofs.Common.{◌-◌, sym, ◌∙◌, arith}
use Rattle.shore_dwrite.proofs.ReadLemmas.{zero_all}
use Rattle.shore_dwrite.proofs.replay.read_table.Goals as goal

pub returns-clause-passed : goal.returns-clause-passed
returns-clause-passed c =
    let table = c.args.table.now in
    let count = c.cell_at-count.result in
    let has = c.in_ok-numbers.ensures.entries in
    record {
      whole = c.requires;
      count = sym (has.length_is ∙ c.cell_at-count.ensures);
      entries = has.entries;
      unused = λ i from low. zero_all table count (32 - count) i (sym c.in_ok-check_unused.ensures.verdict) (omega (arith, has.length_is)) (omega (arith, c.if-count-gt-MAX_BATCH_PAGES.false));
    }
