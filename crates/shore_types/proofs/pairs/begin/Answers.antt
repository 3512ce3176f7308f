use Rattle.std.proofs.Common.{◌≡◌, ◌-◌, suc, sym, ap, ◌∙◌, arith}
use Rattle.shore_types.specs.Pairs.{begin_in}
use Rattle.shore_types.proofs.PairLemmas.{begin_next}
use Rattle.shore_types.proofs.pairs.begin.Goals as goal

pub returns : goal.returns
returns c =
    let next : suc (c.args.index - 1) ≡ c.args.index = omega (arith, c.if-index-eq0.false) in
    sym (begin_next 0 c.args.ends.now (c.args.index - 1) c.index-ends-index.result (omega (arith, c.requires))) ∙ ap (λ n. begin_in 0 c.args.ends.now n) next
