use Rattle.std.proofs.Common.{◌≡◌, ◌++◌, ap, sym, subst, ◌∙◌, arith, IsPermutation}
use Rattle.shore_nodes.specs.Tables.{Table}
use Rattle.shore_locks.proofs.Inventories.{all_below, below, more_below, none_below}
use Rattle.shore_locks.proofs.counted.Counted.all.Goals as goal

pub loop-head-init : goal.loop-head-init
loop-head-init c =
    subst (IsPermutation (below c.self.inside.nodes.heads 0 c.self.inside.nodes.requests)) (sym c.in_ok-requests.ensures.items)
    (none_below c.self.inside.nodes.heads c.self.inside.nodes.requests)

pub loop-head-preserved : goal.loop-head-preserved
loop-head-preserved c =
    more_below c.self.inside.nodes.heads c.loop-head.head c.self.inside.nodes.requests c.loop-head.requests.items c.append_walk.new.requests.items c.loop-head.invariant
    (c.in_ok-append_walk.ensures ∙ ap (λ xs. c.loop-head.requests.items ++ xs) c.crowd.ensures)

pub returns : goal.returns
returns c =
    let past : c.loop-head.head ≡ c.self.inside.nodes.heads = omega arith in
    subst (λ (t : Table). IsPermutation t.requests c.loop-head.requests.items) c.self.view_is
    (all_below c.self.inside.nodes.heads c.self.inside.nodes.requests c.loop-head.requests.items c.self.invariant.some
    (subst (λ n. IsPermutation (below c.self.inside.nodes.heads n c.self.inside.nodes.requests) c.loop-head.requests.items) past c.loop-head.invariant))
