use Rattle.std.proofs.Common.{◌+◌, ◌++◌, ◌∷◌, [], ℕ, List, take, set, sym, subst, arith}
use Rattle.shore_txn.specs.Chains.{AreHeads, buckets_of, link_at}
use Rattle.shore_txn.proofs.ChainLemmas.{bucket_read, few_read, heads_more, no_heads}
use Rattle.shore_txn.proofs.chains.heads_of.Goals as goal

pub loop-index-init : goal.loop-index-init
loop-index-init c = subst (AreHeads []) (sym (c.in_ok-heads.ensures.items_if_clones_equal (λ y is. is))) no_heads

pub loop-index-preserved : goal.loop-index-preserved
loop-index-preserved c =
    let links = c.args.links.now in
    let index = c.loop-index.index in
    let inside = c.loop-index-test.true in
    let bucket = (link_at links index).bucket in
    let read : List ℕ = buckets_of (take index links) in
    subst (λ bs. AreHeads bs (set c.loop-index.heads.items bucket (index + 1))) (sym (bucket_read links index inside))
    (subst (λ n. AreHeads (read ++ bucket ∷ []) (set c.loop-index.heads.items bucket (n + 1))) (few_read links index (omega (arith, inside)))
    (heads_more read c.loop-index.heads.items bucket c.loop-index.invariant (c.requires index inside)))
