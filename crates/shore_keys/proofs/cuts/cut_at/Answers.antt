use Rattle.std.proofs.Common.{rules, ◌≡◌, List, Some, true, refl, sym, ◌∙◌}
use Rattle.shore_keys.specs.Nodes.{Entry as Pair}
use Rattle.shore_keys.specs.Nodes.{entry_at}
use Rattle.shore_keys.specs.Orders.{IsUpTo, is_before}
use Rattle.shore_keys.proofs.EntriesLeft.{at_first, at_last, read_all, read_one, unread}
use Rattle.shore_keys.proofs.Spelling.{Passed, UpTo, cut-at-end, cut-before, passed-more, passed-none, up-more, up-none}
use Rattle.shore_keys.proofs.cuts.cut_at.Goals as goal

pub loop-at-init : goal.loop-at-init
loop-at-init c =
    at_first (Passed (UpTo c.args.key.now) c.args.body.now 0 c.args.body.now) c.args.count c.args.body.now (λ es. passed-none (UpTo c.args.key.now) c.args.body.now es (up-none c.args.key.now))

pub returns-in_err-entry : goal.returns-in_err-entry
returns-in_err-entry c = λ es e.
    absurd (unread (Passed (UpTo c.args.key.now) c.args.body.now c.loop-at.at c.loop-at.rest.now) c.args.count c.args.body.now c.loop-at.at c.loop-at.rest.now c.loop-at.invariant c.loop-at-test.true (search rules) es e)

pub returns-then-is_before : goal.returns-then-is_before
returns-then-is_before c = λ es e.
    let entry : Pair = (c.in_ok-entry.entry.key.now, c.in_ok-entry.entry.page, c.in_ok-entry.entry.slot) in
    let one : entry_at c.loop-at.rest.now ≡ Some (entry, c.in_ok-entry.behind.now) = search rules in
    let l = read_all (Passed (UpTo c.args.key.now) c.args.body.now c.loop-at.at c.loop-at.rest.now) c.args.count c.args.body.now c.loop-at.at c.loop-at.rest.now c.loop-at.invariant c.loop-at-test.true
    (entry, c.in_ok-entry.behind.now) one es e in
    let above : is_before c.args.key.now entry.0 ≡ true = search rules in
    cut-before c.args.count c.args.body.now c.args.key.now c.loop-at.at c.loop-at.rest.now es l.0 entry c.loop-at-test.true l.1 l.2 above

pub loop-at-preserved : goal.loop-at-preserved
loop-at-preserved c = λ es e.
    let entry : Pair = (c.in_ok-entry.entry.key.now, c.in_ok-entry.entry.page, c.in_ok-entry.entry.slot) in
    let one : entry_at c.loop-at.rest.now ≡ Some (entry, c.in_ok-entry.behind.now) = search rules in
    let l = read_one (Passed (UpTo c.args.key.now) c.args.body.now c.loop-at.at c.loop-at.rest.now) c.args.count c.args.body.now c.loop-at.at c.loop-at.rest.now c.loop-at.invariant c.loop-at-test.true
    (entry, c.in_ok-entry.behind.now) one es e in
    let low : IsUpTo entry.0 c.args.key.now = search rules in
    (l.0, l.2, passed-more (UpTo c.args.key.now) c.args.body.now c.loop-at.at c.loop-at.rest.now es l.0 entry c.in_ok-entry.behind.now l.1 one (up-more c.args.key.now entry low))

pub returns : goal.returns
returns c = λ es e.
    cut-at-end c.args.count c.args.body.now c.args.key.now c.loop-at.at c.loop-at.rest.now es e
    (at_last (Passed (UpTo c.args.key.now) c.args.body.now c.loop-at.at c.loop-at.rest.now) c.args.count c.args.body.now c.loop-at.at c.loop-at.rest.now c.loop-at.invariant c.loop-at-test.false es e)
