use Rattle.shore_heap.proofs.TreeLemmas.{to_right, to_next, next_lower}
use Rattle.shore_heap.proofs.maxima.climb.Goals as goal

pub returns-then-tree-right-clause-reaches : goal.returns-then-tree-right-clause-reaches
returns-then-tree-right-clause-reaches c =
    to_right c.args.tree.now c.args.leaves c.args.first c.args.number c.requires.tree c.requires.first c.requires.last c.loop-node.node c.loop-node.invariant c.loop-node-test.true

pub loop-node-smaller : goal.loop-node-smaller
loop-node-smaller c =
    next_lower c.args.tree.now c.args.leaves c.args.first c.args.number c.requires.tree c.requires.first c.requires.last c.loop-node.node c.loop-node.invariant c.loop-node-test.true c.if-tree-right.false

pub loop-node-preserved : goal.loop-node-preserved
loop-node-preserved c =
    to_next c.args.tree.now c.args.leaves c.args.first c.args.number c.requires.tree c.requires.first c.requires.last c.loop-node.node c.loop-node.invariant c.loop-node-test.true c.if-tree-right.false
