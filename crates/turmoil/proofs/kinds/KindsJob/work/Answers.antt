use Rattle.turmoil.proofs.Counts.{counted_first, counted_more}
use Rattle.turmoil.proofs.kinds.KindsJob.work.Goals as goal

pub loop-turn-init : goal.loop-turn-init
loop-turn-init g c = counted_first (g.C.Client.known c.commits_of.new.client).durable c.args.number c.in_ok-commits_of.field-0 (g.C.Client.told c.commits_of.new.client) c.in_ok-commits_of.ensures

pub write_count-requires : goal.write_count-requires
write_count-requires g c =
    let t = c.in_ok-take_turn.ensures.told in
    counted_more (g.C.Client.known c.loop-turn.client).durable (g.C.Client.known c.take_turn.new.client).durable c.args.number c.loop-turn.notes.commits c.take_turn.new.notes.commits (g.C.Client.told c.loop-turn.client) t.0
    c.in_ok-take_turn.ensures.known c.loop-turn.invariant t.1 t.2

pub loop-turn-preserved : goal.loop-turn-preserved
loop-turn-preserved g c =
    let t = c.in_ok-take_turn.ensures.told in
    counted_more (g.C.Client.known c.loop-turn.client).durable (g.C.Client.known c.take_turn.new.client).durable c.args.number c.loop-turn.notes.commits c.take_turn.new.notes.commits (g.C.Client.told c.loop-turn.client) t.0
    c.in_ok-take_turn.ensures.known c.loop-turn.invariant t.1 t.2
