use Rattle.std.proofs.Common.{◌≡◌, Some, sym, ◌∙◌, arith}
use Rattle.shore_logrec.proofs.EntriesLeft.{left_at_first, left_at_last, left_behind, left_falling, left_unread}
use Rattle.shore_logrec.proofs.tables.entries_at.Goals as goal

pub loop-init : goal.loop-init
loop-init g c = rw c.new-entries.ensures (left_at_first g.T.Entry.reader g.T.Entry.before c.args.count c.args.bytes.now)

pub returns-in_default : goal.returns-in_default
returns-in_default g c =
    sym (left_unread g.T.Entry.reader g.T.Entry.before c.args.count c.args.bytes.now c.loop.entries c.loop.last c.loop.counter c.loop.rest.now c.loop.invariant c.loop-test.true
    (rw c.in_default.is at (sym c.at.ensures)))

pub returns-then-not-follows : goal.returns-then-not-follows
returns-then-not-follows g c =
    let found = c.in-Some.entry-1-own.given.0.0 in
    let same : Some (c.in-Some.entry, c.in-Some.behind) ≡ Some found = cc (c.in-Some.is, c.in-Some.entry-is) in
    sym (left_falling g.T.Entry.reader g.T.Entry.before c.args.count c.args.bytes.now c.loop.entries c.loop.last c.loop.counter c.loop.rest.now c.loop.invariant c.loop-test.true
    found.0 found.1.now (rw (c.in-Some.is ∙ same) at (sym c.at.ensures)) (sym c.follows.ensures ∙ c.if-not-follows.true))

pub loop-preserved : goal.loop-preserved
loop-preserved g c =
    let found = c.in-Some.entry-1-own.given.0.0 in
    let same : Some (c.in-Some.entry, c.in-Some.behind) ≡ Some found = cc (c.in-Some.is, c.in-Some.entry-is) in
    rw c.in_ok-push.ensures.ok
    (left_behind g.T.Entry.reader g.T.Entry.before c.args.count c.args.bytes.now c.loop.entries c.loop.last c.loop.counter c.loop.rest.now c.loop.invariant c.loop-test.true
    found.0 found.1.now (rw (c.in-Some.is ∙ same) at (sym c.at.ensures)) (sym c.follows.ensures ∙ c.if-not-follows.false))

pub returns : goal.returns
returns g c =
    sym (left_at_last g.T.Entry.reader g.T.Entry.before c.args.count c.args.bytes.now c.loop.entries c.loop.last c.loop.counter c.loop.rest.now c.loop.invariant c.loop-test.false)
