use Rattle.std.proofs.Common.{arith}
use Rattle.shore_heap.proofs.TreeLemmas.{to_left_child, to_right_child, ends, is_node}
use Rattle.shore_heap.proofs.maxima.descend.Goals as goal

pub loop-node-preserved-then-tree-node : goal.loop-node-preserved-then-tree-node
loop-node-preserved-then-tree-node c =
    let node = is_node c.args.tree.now c.args.leaves c.args.first c.args.number c.loop-node.node c.requires.first c.loop-node.invariant.reaches in
    record {
      reaches = to_right_child c.args.tree.now c.args.leaves c.args.first c.args.number c.requires.tree c.requires.first c.requires.last c.loop-node.node c.loop-node.invariant.reaches c.loop-node-test.true c.if-tree-node.true;
      above = omega (arith, c.requires.tree.inner c.loop-node.node node.0 c.loop-node-test.true);
    }

pub loop-node-preserved : goal.loop-node-preserved
loop-node-preserved c = record {
  reaches = to_left_child c.args.tree.now c.args.leaves c.args.first c.args.number c.requires.tree c.requires.first c.requires.last c.loop-node.node c.loop-node.invariant.reaches c.loop-node-test.true;
  above = c.if-tree-node.false;
}

pub returns-clause-from : goal.returns-clause-from
returns-clause-from c =
    let at = ends c.args.tree.now c.args.leaves c.args.first c.args.number c.requires.tree c.requires.first c.requires.last c.loop-node.node c.loop-node-test.false c.loop-node.invariant.reaches in
    omega (arith, at.from)

pub returns-clause-passed : goal.returns-clause-passed
returns-clause-passed c =
    let at = ends c.args.tree.now c.args.leaves c.args.first c.args.number c.requires.tree c.requires.first c.requires.last c.loop-node.node c.loop-node-test.false c.loop-node.invariant.reaches in
    λ leaf from to. at.passed leaf from (omega arith)
