use Rattle.std.proofs.Common.{length, sym, ap, subst, ◌∙◌, arith}
use Rattle.laws_lives.specs.Views.{IsAmong}
use Rattle.shore_core.specs.Cores.{txns_of}
use Rattle.shore_core.proofs.Unwinding.{HasCount, count_own, rolled_serves, rolling_first, rolls_done, rolls_on, rolls_refused, rolls_serves}
use Rattle.shore_core.proofs.Serving.{keeps_of, none_failed, serves_as}
use Rattle.shore_core.proofs.core_calls.Core.put_back.Goals as goal

pub loop-init : goal.loop-init
loop-init g c = rolling_first c.args.self.now c.args.seat.now c.args.rollback c.args.least c.requires.seated c.requires.unprepared (let below = c.args.self.now.forced in omega arith)

pub returns-in_err-put_back_newest-clause-unwinds : goal.returns-in_err-put_back_newest-clause-unwinds
returns-in_err-put_back_newest-clause-unwinds g c =
    let old = c.args.self.now in
    let counts : HasCount old c.args.seat.now (length c.undo-count.result.now) = λ s has a of. count_own (txns_of old) c.txn.result.now c.txn.ensures.there a (subst (IsAmong a) has.txns.active of.0) (of.1 ∙ sym c.txn.ensures.number) ∙ ap length (sym c.undo-count.ensures.entries) in
    rolls_refused old c.loop.self c.put_back_newest.new.self c.args.seat.now c.args.rollback c.args.least c.loop.counter (length c.undo-count.result.now) c.loop.invariant counts c.loop-test.true _ c.from_residual.result c.from_residual.ensures.1
    c.in_err-put_back_newest.ensures.put_back

pub returns-in_err-put_back_newest-clause-waits : goal.returns-in_err-put_back_newest-clause-waits
returns-in_err-put_back_newest-clause-waits g c = c.put_back_newest.ensures.waits ∙ c.loop.invariant.waits

pub loop-preserved : goal.loop-preserved
loop-preserved g c =
    let old = c.args.self.now in
    let counts : HasCount old c.args.seat.now (length c.undo-count.result.now) = λ s has a of. count_own (txns_of old) c.txn.result.now c.txn.ensures.there a (subst (IsAmong a) has.txns.active of.0) (of.1 ∙ sym c.txn.ensures.number) ∙ ap length (sym c.undo-count.ensures.entries) in
    let done = c.in_ok-put_back_newest.ensures in
    rolls_on old c.loop.self c.put_back_newest.new.self c.args.seat.now c.args.rollback c.args.least c.loop.counter (length c.undo-count.result.now) c.loop.invariant counts c.loop-test.true done.put_back done.rewinds done.longer done.seated done.unprepared done.waits done.memory (keeps_of done.serves done.failed)
    done.serves.any_moment (none_failed _ _ _ done.serves.cause) c.put_back_newest.ensures.ring

pub returns-clause-unwinds : goal.returns-clause-unwinds
returns-clause-unwinds g c =
    let old = c.args.self.now in
    let counts : HasCount old c.args.seat.now (length c.undo-count.result.now) = λ s has a of. count_own (txns_of old) c.txn.result.now c.txn.ensures.there a (subst (IsAmong a) has.txns.active of.0) (of.1 ∙ sym c.txn.ensures.number) ∙ ap length (sym c.undo-count.ensures.entries) in
    rolls_done old c.loop.self c.args.seat.now c.args.rollback c.args.least c.loop.counter (length c.undo-count.result.now) c.loop.invariant counts (omega (arith, c.loop-test.false)) (λ within. omega (arith, within, c.loop-test.false, c.loop.auto.counter-end))

pub returns-clause-waits : goal.returns-clause-waits
returns-clause-waits g c = c.loop.invariant.waits

pub put_back_newest-requires : goal.put_back_newest-requires
put_back_newest-requires g c = record { seated = c.loop.invariant.seated; unprepared = c.loop.invariant.unprepared }

pub returns-clause-seated : goal.returns-clause-seated
returns-clause-seated g c = c.loop.invariant.seated

pub returns-in_err-put_back_newest-clause-seated : goal.returns-in_err-put_back_newest-clause-seated
returns-in_err-put_back_newest-clause-seated g c = c.put_back_newest.ensures.seated

pub returns-in_err-put_back_newest-clause-serves : goal.returns-in_err-put_back_newest-clause-serves
returns-in_err-put_back_newest-clause-serves g c =
    rolls_serves c.args.self.now c.loop.self c.put_back_newest.new.self c.args.seat.now c.args.rollback c.args.least c.loop.counter c.loop.invariant c.from_residual.result
    (serves_as _ _ _ _ _ _ c.from_residual.ensures.1 c.in_err-put_back_newest.ensures.serves)

pub returns-clause-serves : goal.returns-clause-serves
returns-clause-serves g c = rolled_serves c.args.self.now c.loop.self c.args.seat.now c.args.rollback c.args.least c.loop.counter c.loop.invariant

pub returns-in_err-put_back_newest-clause-failed : goal.returns-in_err-put_back_newest-clause-failed
returns-in_err-put_back_newest-clause-failed g c = c.put_back_newest.ensures.failed ∙ c.loop.invariant.keeps.failed

pub returns-clause-failed : goal.returns-clause-failed
returns-clause-failed g c = c.loop.invariant.keeps.failed

pub returns-clause-unprepared : goal.returns-clause-unprepared
returns-clause-unprepared g c = c.loop.invariant.unprepared

pub returns-in_err-put_back_newest-clause-unprepared : goal.returns-in_err-put_back_newest-clause-unprepared
returns-in_err-put_back_newest-clause-unprepared g c = c.put_back_newest.ensures.unprepared

pub returns-clause-memory : goal.returns-clause-memory
returns-clause-memory g c = c.loop.invariant.memory

pub returns-in_err-put_back_newest-clause-memory : goal.returns-in_err-put_back_newest-clause-memory
returns-in_err-put_back_newest-clause-memory g c room = c.put_back_newest.ensures.memory (c.loop.invariant.memory room)

pub returns-clause-ring : goal.returns-clause-ring
returns-clause-ring g c = c.loop.invariant.ring

pub returns-in_err-put_back_newest-clause-ring : goal.returns-in_err-put_back_newest-clause-ring
returns-in_err-put_back_newest-clause-ring g c = c.put_back_newest.ensures.ring ∙ c.loop.invariant.ring
