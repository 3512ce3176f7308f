use Rattle.std.proofs.Common.{arith}
use Rattle.shore_txn.proofs.ActivePlaces.{newest_read}
use Rattle.shore_txn.proofs.transactions.Transactions.newest_of_older.Goals as goal

pub overflow_mul-result : goal.overflow_mul-result
overflow_mul-result c =
    let read = newest_read c.args.self.now c.args.page.now c.args.count c.loop-index.index c.newest-newest.result c.index.result.now c.requires c.loop-index-test.true c.loop-index.invariant c.index.ensures c.newest-newest.ensures in
    omega (arith, read.fits)

pub overflow_add-result : goal.overflow_add-result
overflow_add-result c =
    let read = newest_read c.args.self.now c.args.page.now c.args.count c.loop-index.index c.newest-newest.result c.index.result.now c.requires c.loop-index-test.true c.loop-index.invariant c.index.ensures c.newest-newest.ensures in
    omega (arith, read.fits)

pub returns-then-newest-gt0-clause-chain : goal.returns-then-newest-gt0-clause-chain
returns-then-newest-gt0-clause-chain c =
    let read = newest_read c.args.self.now c.args.page.now c.args.count c.loop-index.index c.newest-newest.result c.index.result.now c.requires c.loop-index-test.true c.loop-index.invariant c.index.ensures c.newest-newest.ensures in
    read.place c.if-newest-gt0.true

pub returns-then-newest-gt0-clause-all : goal.returns-then-newest-gt0-clause-all
returns-then-newest-gt0-clause-all c =
    let read = newest_read c.args.self.now c.args.page.now c.args.count c.loop-index.index c.newest-newest.result c.index.result.now c.requires c.loop-index-test.true c.loop-index.invariant c.index.ensures c.newest-newest.ensures in
    read.tells c.if-newest-gt0.true

pub returns-then-newest-gt0-clause-below : goal.returns-then-newest-gt0-clause-below
returns-then-newest-gt0-clause-below c =
    let read = newest_read c.args.self.now c.args.page.now c.args.count c.loop-index.index c.newest-newest.result c.index.result.now c.requires c.loop-index-test.true c.loop-index.invariant c.index.ensures c.newest-newest.ensures in
    read.below

pub loop-index-preserved : goal.loop-index-preserved
loop-index-preserved c =
    let read = newest_read c.args.self.now c.args.page.now c.args.count c.loop-index.index c.newest-newest.result c.index.result.now c.requires c.loop-index-test.true c.loop-index.invariant c.index.ensures c.newest-newest.ensures in
    (omega (arith, c.loop-index.invariant.0), read.none (omega (arith, c.if-newest-gt0.false)))
