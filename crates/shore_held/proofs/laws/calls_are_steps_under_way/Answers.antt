use Rattle.shore_held.proofs.Steps.{call_makes, flush_makes, give_up_makes, rests, resume_makes}
use Rattle.shore_held.proofs.laws.calls_are_steps_under_way.Goals as goal

pub returns-clause-none : goal.returns-clause-none
returns-clause-none g c start cut kept old stage anchored trail h = rests cut kept old stage anchored trail h

pub returns-clause-call : goal.returns-clause-call
returns-clause-call g c start cut kept old new stage anchored trail h session call step served each leaves durable still same =
    let m = call_makes cut kept old stage anchored trail h new durable leaves still same session call step served each in
    (m.plain, m.last, m.step, m.is)

pub returns-clause-resume : goal.returns-clause-resume
returns-clause-resume g c start cut kept old new stage anchored trail h session step each leaves durable still same =
    let m = resume_makes cut kept old stage anchored trail h new durable leaves still same session step each in
    (m.plain, m.last, m.step, m.is)

pub returns-clause-give_up : goal.returns-clause-give_up
returns-clause-give_up g c start cut kept old new stage anchored trail h session step each leaves durable still same =
    let m = give_up_makes cut kept old stage anchored trail h new durable leaves still same session step each in
    (m.plain, m.last, m.step, m.is)

pub returns-clause-flush : goal.returns-clause-flush
returns-clause-flush g c start cut kept old new stage anchored trail h step each leaves durable still same ring =
    let m = flush_makes cut kept old stage anchored trail h new durable leaves still same step ring each in
    (m.plain, m.last, m.step, m.is)
