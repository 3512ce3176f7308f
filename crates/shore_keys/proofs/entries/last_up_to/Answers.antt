use Rattle.std.proofs.Common.{rules, ◌≡◌, ◌≢◌, ℕ, List, [], ◌∷◌, Ok, Some, None, refl, sym, ap, subst, ◌∙◌, false, true}
use Rattle.shore_keys.specs.Nodes.{Entry as Pair}
use Rattle.shore_keys.specs.Nodes.{entry_at}
use Rattle.shore_keys.specs.Orders.{IsUpTo, is_before}
use Rattle.shore_keys.proofs.EntriesLeft.{LastPassed, at_first, at_last, last_is, last_more, read_one, unread}
use Rattle.shore_keys.proofs.entries.last_up_to.Goals as goal

pub loop-init : goal.loop-init
loop-init c = at_first (LastPassed c.args.key.now None) c.args.count c.args.body.now (λ es. refl)

pub returns-in_err-entry : goal.returns-in_err-entry
returns-in_err-entry c = λ es e.
    absurd (unread (LastPassed c.args.key.now c.loop.last) c.args.count c.args.body.now c.loop.counter c.loop.rest.now c.loop.invariant c.loop-test.true (search rules) es e)

pub returns-then-is_before : goal.returns-then-is_before
returns-then-is_before c = λ es e.
    let entry : Pair = (c.in_ok-entry.entry.key.now, c.in_ok-entry.entry.page, c.in_ok-entry.entry.slot) in
    let one : entry_at c.loop.rest.now ≡ Some (entry, c.in_ok-entry.behind.now) = search rules in
    let l = read_one (LastPassed c.args.key.now c.loop.last) c.args.count c.args.body.now c.loop.counter c.loop.rest.now c.loop.invariant c.loop-test.true (entry, c.in_ok-entry.behind.now) one es e in
    let above : is_before c.args.key.now entry.0 ≡ true = search rules in
    last_is c.args.key.now c.loop.last es (entry ∷ l.0) l.1 (λ low. absurd cc)

pub loop-preserved : goal.loop-preserved
loop-preserved c = λ es e.
    let entry : Pair = (c.in_ok-entry.entry.key.now, c.in_ok-entry.entry.page, c.in_ok-entry.entry.slot) in
    let one : entry_at c.loop.rest.now ≡ Some (entry, c.in_ok-entry.behind.now) = search rules in
    let l = read_one (LastPassed c.args.key.now c.loop.last) c.args.count c.args.body.now c.loop.counter c.loop.rest.now c.loop.invariant c.loop-test.true (entry, c.in_ok-entry.behind.now) one es e in
    let low : IsUpTo entry.0 c.args.key.now = search rules in
    (l.0, l.2, last_more c.args.key.now c.loop.last es l.0 entry l.1 low)

pub returns : goal.returns
returns c = λ es e.
    last_is c.args.key.now c.loop.last es [] (at_last (LastPassed c.args.key.now c.loop.last) c.args.count c.args.body.now c.loop.counter c.loop.rest.now c.loop.invariant c.loop-test.false es e)
    (λ begins. begins)
