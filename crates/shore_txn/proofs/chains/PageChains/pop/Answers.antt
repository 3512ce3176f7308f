use Rattle.std.proofs.Common.{sym, subst}
use Rattle.shore_txn.specs.Chains.{IsChained}
use Rattle.shore_txn.proofs.ChainLemmas.{chained_less}
use Rattle.shore_txn.proofs.chains.PageChains.pop.Goals as goal

pub invariant_of-self : goal.invariant_of-self
invariant_of-self c =
    let old = c.args.self.now in
    let links = c.take_last-link.new.self.items in
    record {
      chained = subst (IsChained links) (sym c.set_head.ensures)
          (chained_less links old.heads.items c.take_last-link.result (subst (λ were. IsChained were old.heads.items) c.take_last-link.ensures.items old.chained));
    }
