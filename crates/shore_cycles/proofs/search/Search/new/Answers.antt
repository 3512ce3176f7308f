use Rattle.std.proofs.Common.{refl, sym, subst, []}
use Rattle.shore_cycles.specs.Searching.{IsUnderWay}
use Rattle.shore_cycles.proofs.Searches.{under_way_first}
use Rattle.shore_cycles.proofs.search.Search.new.Goals as goal

pub returns : goal.returns
returns c = (
  refl,
  c.new.ensures.items,
  λ rs. subst (λ vs. IsUnderWay rs vs c.args.txn c.in_ok-new.field-0 0) (sym c.new.ensures.items)
      (subst (λ s. IsUnderWay rs [] c.args.txn s 0) (sym c.in_ok-new.ensures) (under_way_first rs [] c.args.txn refl)),
)
