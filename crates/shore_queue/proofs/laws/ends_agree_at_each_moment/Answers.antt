use Rattle.std.proofs.Common.{◌≡◌, ◌++◌, sym, ◌∙◌, ap}
use Rattle.shore_queue.specs.Queues.{records_in}
use Rattle.shore_queue.proofs.laws.ends_agree_at_each_moment.Goals as goal

pub returns : goal.returns
returns c first items views sender receiver v w is at_sender at_receiver sends receives =
    let sent = ((is.each sender v at_sender).sends sends).1 in
    let got = ((is.each receiver w at_receiver).receives receives).1 in
    (records_in items, sent ∙ is.parts ∙ ap (λ l. l ++ records_in items) (sym got))
