use Rattle.std.proofs.Common.{sym, subst}
use Rattle.shore_cycles.specs.Searching.{IsUnderWay}
use Rattle.shore_cycles.proofs.search.find_cycle.Goals as goal

pub next_cycle-requires : goal.next_cycle-requires
next_cycle-requires c =
    subst (λ t. IsUnderWay c.args.table.now.requests c.in_ok-search.search.victims.items t c.in_ok-search.search.trail c.in_ok-search.search.index) (sym c.in_ok-search.ensures.0)
    (c.in_ok-search.ensures.2 c.args.table.now.requests)
