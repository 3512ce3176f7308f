use Rattle.std.proofs.Common.{◌≡◌, [], true, false}
use Rattle.crossbeam_queue.specs.SegTies.{IsSegPassOf}
use Rattle.shore_queue.specs.Queues.{ends}
use Rattle.test_threads.proofs.tests.queues.receive_all.Given as goal

abbrev pub invariant-loop : goal.invariant-loop
invariant-loop g l = (goal.iterator-loop g).can_next l.iterator' × (goal.iterator-loop g).is_finite l.iterator' × IsSegPassOf l.fn.channel.queue l.pass × (l.pass.me.view.client ≡ ends false true l.pass.me.view.client.sent l.pass.me.view.client.got)
