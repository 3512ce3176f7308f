use Rattle.shore_cycles.proofs.ReachedSteps.{earlier_within, path_on}
use Rattle.shore_cycles.proofs.reached.path_along.Goals as goal

pub loop-at-preserved : goal.loop-at-preserved
loop-at-preserved c = record {
  within = earlier_within c.args.steps.now c.loop-at.at c.index-steps-at-in-loop-at.result c.requires.leads c.loop-at-test.true c.loop-at.invariant.within;
  so_far = path_on c.args.steps.now c.loop-at.at c.args.index c.index-steps-at.result c.index-steps-at-in-loop-at.result c.loop-at.path.items c.push.new.self.items
      c.requires.leads c.loop-at-test.true c.loop-at.invariant.within c.loop-at.invariant.so_far c.in_ok-push.ensures.items;
}
