use Rattle.std.proofs.Common.{◌<◌, ◌+◌, refl, sym, ◌∙◌, length, arith}
use Rattle.shore_locks.specs.declared.answers.Tried.TheVariants.{Granted, Full, Blocked}
use Rattle.shore_path.specs.Judging.{with_left}
use Rattle.shore_path.proofs.JudgedWays.{judged_on, judged_spared, judged_told}
use Rattle.shore_path.proofs.judging.judge_along.Goals as goal

pub returns-then-spares : goal.returns-then-spares
returns-then-spares c =
    let within : c.loop-granule.granule-index < length c.args.path.now = omega arith in
    judged_spared c.args.txn c.args.target.now c.args.mode (with_left c.args.table.now.requests c.args.left) c.args.path.now c.loop-granule.granule-index c.loop-granule.left c.loop-granule.invariant c.granule-item.result within c.granule-item.is
    c.request_for-own.result c.request_for-own.ensures c.spares.result c.spares.ensures c.if-spares.true

pub returns-in-Blocked : goal.returns-in-Blocked
returns-in-Blocked c =
    let within : c.loop-granule.granule-index < length c.args.path.now = omega arith in
    judged_told c.args.txn c.args.target.now c.args.mode (with_left c.args.table.now.requests c.args.left) c.args.path.now c.loop-granule.granule-index c.loop-granule.left c.loop-granule.invariant c.granule-item.result within c.granule-item.is
    c.request_for-own.result c.request_for-own.ensures c.spares.result c.spares.ensures c.if-spares.false
    c.asked_of-asked.result c.asked_of-asked.ensures (Blocked c.in-Blocked.holder) (λ new alike. sym c.in-Blocked.is ∙ c.judge_one.ensures.answer (length c.args.table.now.requests + c.args.left) new alike) (λ e. cc)

pub returns-in-Full : goal.returns-in-Full
returns-in-Full c =
    let within : c.loop-granule.granule-index < length c.args.path.now = omega arith in
    judged_told c.args.txn c.args.target.now c.args.mode (with_left c.args.table.now.requests c.args.left) c.args.path.now c.loop-granule.granule-index c.loop-granule.left c.loop-granule.invariant c.granule-item.result within c.granule-item.is
    c.request_for-own.result c.request_for-own.ensures c.spares.result c.spares.ensures c.if-spares.false
    c.asked_of-asked.result c.asked_of-asked.ensures Full (λ new alike. sym c.in-Full.is ∙ c.judge_one.ensures.answer (length c.args.table.now.requests + c.args.left) new alike) (λ e. cc)

pub loop-granule-preserved : goal.loop-granule-preserved
loop-granule-preserved c =
    let within : c.loop-granule.granule-index < length c.args.path.now = omega arith in
    judged_on c.args.txn c.args.target.now c.args.mode (with_left c.args.table.now.requests c.args.left) c.args.path.now c.loop-granule.granule-index c.loop-granule.left c.loop-granule.invariant c.granule-item.result within c.granule-item.is
    c.request_for-own.result c.request_for-own.ensures c.spares.result c.spares.ensures c.if-spares.false
    c.asked_of-asked.result c.asked_of-asked.ensures Granted (λ new alike. sym c.in-Granted.is ∙ c.judge_one.ensures.answer (length c.args.table.now.requests + c.args.left) new alike)
    c.judge_one.new.left refl (λ new alike. c.judge_one.ensures.left (length c.args.table.now.requests + c.args.left) new alike c.in-Granted.is)
