use Rattle.shore_prog.proofs.Counted.{counted_more}
use Rattle.shore_prog.proofs.crew.add_all.Goals as goal

pub loop-preserved : goal.loop-preserved
loop-preserved g c =
    let told = g.C.Client.told in
    let next = c.add_one.new.client in
    let one = c.in_default.ensures.counted in
    counted_more (g.C.Client.known c.loop.client).durable (g.C.Client.known next).durable c.in_default.ensures.known c.args.counting.now.record c.loop.counter (told c.loop.client) (told next) one.0 c.loop.invariant one.1 one.2
