use Rattle.std.proofs.Common.{◌+◌, drop, sum, ap, sym, ◌∙◌, arith}
use Rattle.std.proofs.lemmas.List.{drop_more}
use Rattle.shore_gate.proofs.NumberLemmas.{sum-cons}
use Rattle.shore_gate.proofs.StoreLemmas.{store_passes}
use Rattle.shore_gate.proofs.labels.check_stores.Goals as goal

pub loop-pages-preserved : goal.loop-pages-preserved
loop-pages-preserved c =
    let i = c.loop-pages.pages-index in
    let stores = c.args.stores.now in
    let split = drop_more stores i 0 c.loop-pages-test.true in
    record {
      offset = omega arith;
      few = omega arith;
      left = omega (arith, ap sum split ∙ sum-cons _ (drop (i + 1) stores));
      same = sym (store_passes c.args.device c.loop-pages.offset c.loop-pages.total stores i c.from-total.result c.loop-pages-test.true c.from-total.ensures (omega arith) (omega arith)) ∙ c.loop-pages.invariant.same;
    }
