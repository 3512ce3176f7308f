use Rattle.std.proofs.Common.{rules, ◌≡◌, List, Some, refl, sym, ◌∙◌}
use Rattle.shore_keys.specs.Nodes.{Entry as Pair}
use Rattle.shore_keys.specs.Nodes.{entry_at}
use Rattle.shore_keys.proofs.EntriesLeft.{at_first, at_last, read_one, unread}
use Rattle.shore_keys.proofs.Spelling.{Passed, behind-all, passed-more, passed-none}
use Rattle.shore_keys.proofs.cuts.behind_all.Goals as goal

abbrev Any : List Pair → Type 0
Any below = Unit {0}

pub loop-init : goal.loop-init
loop-init c = at_first (Passed Any c.args.body.now 0 c.args.body.now) c.args.count c.args.body.now (λ es. passed-none Any c.args.body.now es tt)

pub returns-in_err-_entry : goal.returns-in_err-_entry
returns-in_err-_entry c = λ es e.
    absurd (unread (Passed Any c.args.body.now c.loop.counter c.loop.rest.now) c.args.count c.args.body.now c.loop.counter c.loop.rest.now c.loop.invariant c.loop-test.true (search rules) es e)

pub loop-preserved : goal.loop-preserved
loop-preserved c = λ es e.
    let found = c.entry_at.result in
    let one : entry_at c.loop.rest.now ≡ Some ((c.in_ok-_entry._entry.key.now, c.in_ok-_entry._entry.page, c.in_ok-_entry._entry.slot), c.in_ok-_entry.behind.now) = search rules in
    let l = read_one (Passed Any c.args.body.now c.loop.counter c.loop.rest.now) c.args.count c.args.body.now c.loop.counter c.loop.rest.now c.loop.invariant c.loop-test.true
    ((c.in_ok-_entry._entry.key.now, c.in_ok-_entry._entry.page, c.in_ok-_entry._entry.slot), c.in_ok-_entry.behind.now) one es e in
    (l.0, l.2, passed-more Any c.args.body.now c.loop.counter c.loop.rest.now es l.0 _ c.in_ok-_entry.behind.now l.1 one (λ below any. tt))

pub returns : goal.returns
returns c = λ es e.
    behind-all c.args.body.now c.loop.counter c.loop.rest.now es
    (at_last (Passed Any c.args.body.now c.loop.counter c.loop.rest.now) c.args.count c.args.body.now c.loop.counter c.loop.rest.now c.loop.invariant c.loop-test.false es e)
