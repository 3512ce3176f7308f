use Rattle.std.proofs.Common.{reverse, subst}
use Rattle.shore_model.specs.Locks.{path}
use Rattle.shore_locks.specs.Tables.{Table}
use Rattle.shore_path.specs.Walks.{HasOutcome, walk}
use Rattle.shore_path.proofs.Passing.{comes_to_target}
use Rattle.shore_path.proofs.walk.walk.Goals as goal

pub returns-then-has_intentions : goal.returns-then-has_intentions
returns-then-has_intentions c =
    subst (λ (x : Table). HasOutcome x (walk c.args.on_conflict c.args.txn c.args.target.now c.args.mode x.limit (reverse (path c.args.target.now)) x.requests) c.ask.result c.ask.new.table) c.has_intentions.ensures.same
    (comes_to_target c.args.on_conflict c.args.txn c.args.target.now c.args.mode c.has_intentions.new.table c.ask.new.table c.ask.result (c.has_intentions.ensures.has c.if-has_intentions.true c.args.on_conflict)
    c.ask.ensures.answer c.ask.ensures.table)

pub returns : goal.returns
returns c =
    subst (λ (x : Table). HasOutcome x (walk c.args.on_conflict c.args.txn c.args.target.now c.args.mode x.limit (reverse (path c.args.target.now)) x.requests) c.go_down.result c.go_down.new.table) c.has_intentions.ensures.same
    c.go_down.ensures
