use Rattle.std.proofs.Common.{rules, ◌≡◌, ◌≢◌, ℕ, List, [], ◌∷◌, Ok, Some, None, refl, sym, ap, ◌∙◌}
use Rattle.shore_keys.specs.Nodes.{Entry as Pair}
use Rattle.shore_keys.specs.Nodes.{entry_at}
use Rattle.shore_keys.specs.Trees.{look_in}
use Rattle.shore_keys.proofs.EntriesLeft.{NotPassed, at_first, at_last, read_one, unread}
use Rattle.shore_keys.proofs.SameTexts.{look-other, look-same}
use Rattle.shore_keys.proofs.entries.found_in.Goals as goal

pub loop-init : goal.loop-init
loop-init c = at_first (NotPassed c.args.key.now) c.args.count c.args.body.now (λ es. refl)

pub returns-in_default : goal.returns-in_default
returns-in_default c = λ es e.
    absurd (unread (NotPassed c.args.key.now) c.args.count c.args.body.now c.loop.counter c.loop.rest.now c.loop.invariant c.loop-test.true (rw c.in_default.is at (sym c.entry_at.ensures)) es e)

pub returns-then-eq : goal.returns-then-eq
returns-then-eq c = λ es e.
    let entry : Pair = (c.in-Some.entry.key.now, c.in-Some.entry.page, c.in-Some.entry.slot) in
    let one : entry_at c.loop.rest.now ≡ Some (entry, c.in-Some.behind.now) = rw c.in-Some.is at (sym c.entry_at.ensures) in
    let l = read_one (NotPassed c.args.key.now) c.args.count c.args.body.now c.loop.counter c.loop.rest.now c.loop.invariant c.loop-test.true (entry, c.in-Some.behind.now) one es e in
    let same : entry.0 ≡ c.args.key.now = search rules in
    ap (λ o. Ok o) (sym (l.1 ∙ look-same entry l.0 c.args.key.now same))

pub loop-preserved : goal.loop-preserved
loop-preserved c = λ es e.
    let entry : Pair = (c.in-Some.entry.key.now, c.in-Some.entry.page, c.in-Some.entry.slot) in
    let one : entry_at c.loop.rest.now ≡ Some (entry, c.in-Some.behind.now) = rw c.in-Some.is at (sym c.entry_at.ensures) in
    let l = read_one (NotPassed c.args.key.now) c.args.count c.args.body.now c.loop.counter c.loop.rest.now c.loop.invariant c.loop-test.true (entry, c.in-Some.behind.now) one es e in
    let other : entry.0 ≢ c.args.key.now = search rules in
    (l.0, l.2, l.1 ∙ look-other entry l.0 c.args.key.now other)

pub returns : goal.returns
returns c = λ es e.
    ap (λ o. Ok o) (sym (at_last (NotPassed c.args.key.now) c.args.count c.args.body.now c.loop.counter c.loop.rest.now c.loop.invariant c.loop-test.false es e))
