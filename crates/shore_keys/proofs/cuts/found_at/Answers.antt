use Rattle.std.proofs.Common.{rules, ◌≡◌, ◌≢◌, List, Some, None, refl, sym, ◌∙◌}
use Rattle.shore_keys.specs.Nodes.{Entry as Pair}
use Rattle.shore_keys.specs.Nodes.{entry_at}
use Rattle.shore_keys.proofs.Drops.{NoneHas, found-here, found-nowhere, none-has-more}
use Rattle.shore_keys.proofs.EntriesLeft.{at_first, at_last, read_one, unread}
use Rattle.shore_keys.proofs.Spelling.{Passed, passed-more, passed-none}
use Rattle.shore_keys.proofs.cuts.found_at.Goals as goal

pub loop-at-init : goal.loop-at-init
loop-at-init c = at_first (Passed (NoneHas c.args.key.now) c.args.body.now 0 c.args.body.now) c.args.count c.args.body.now (λ es. passed-none (NoneHas c.args.key.now) c.args.body.now es tt)

pub returns-in_err-entry : goal.returns-in_err-entry
returns-in_err-entry c = λ es e.
    absurd (unread (Passed (NoneHas c.args.key.now) c.args.body.now c.loop-at.at c.loop-at.rest.now) c.args.count c.args.body.now c.loop-at.at c.loop-at.rest.now c.loop-at.invariant c.loop-at-test.true (search rules) es e)

pub returns-then-eq : goal.returns-then-eq
returns-then-eq c = λ es e.
    let entry : Pair = (c.in_ok-entry.entry.key.now, c.in_ok-entry.entry.page, c.in_ok-entry.entry.slot) in
    let one : entry_at c.loop-at.rest.now ≡ Some (entry, c.in_ok-entry.behind.now) = search rules in
    let l = read_one (Passed (NoneHas c.args.key.now) c.args.body.now c.loop-at.at c.loop-at.rest.now) c.args.count c.args.body.now c.loop-at.at c.loop-at.rest.now c.loop-at.invariant c.loop-at-test.true
    (entry, c.in_ok-entry.behind.now) one es e in
    let same : entry.0 ≡ c.args.key.now = search rules in
    found-here c.args.count c.args.body.now c.args.key.now c.loop-at.at c.loop-at.rest.now es l.0 entry c.in_ok-entry.behind.now c.loop-at-test.true l.1 l.2 same one

pub loop-at-preserved : goal.loop-at-preserved
loop-at-preserved c = λ es e.
    let entry : Pair = (c.in_ok-entry.entry.key.now, c.in_ok-entry.entry.page, c.in_ok-entry.entry.slot) in
    let one : entry_at c.loop-at.rest.now ≡ Some (entry, c.in_ok-entry.behind.now) = search rules in
    let l = read_one (Passed (NoneHas c.args.key.now) c.args.body.now c.loop-at.at c.loop-at.rest.now) c.args.count c.args.body.now c.loop-at.at c.loop-at.rest.now c.loop-at.invariant c.loop-at-test.true
    (entry, c.in_ok-entry.behind.now) one es e in
    let other : entry.0 ≢ c.args.key.now = search rules in
    (l.0, l.2, passed-more (NoneHas c.args.key.now) c.args.body.now c.loop-at.at c.loop-at.rest.now es l.0 entry c.in_ok-entry.behind.now l.1 one (none-has-more c.args.key.now entry other))

pub returns : goal.returns
returns c = λ es e.
    found-nowhere c.args.body.now c.args.key.now c.loop-at.at c.loop-at.rest.now es
    (at_last (Passed (NoneHas c.args.key.now) c.args.body.now c.loop-at.at c.loop-at.rest.now) c.args.count c.args.body.now c.loop-at.at c.loop-at.rest.now c.loop-at.invariant c.loop-at-test.false es e)
