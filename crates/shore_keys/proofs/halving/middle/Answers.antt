use Rattle.std.proofs.Common.{rules, ◌≡◌, ℕ, ◌+◌, ◌-◌, ◌<◌, ◌≤◌, ◌/◌, List, Some, None, refl, ap, ◌∙◌, arith}
use Rattle.shore_keys.specs.Cuts.{IsBehind}
use Rattle.shore_keys.specs.Nodes.{Entry as Pair}
use Rattle.shore_keys.specs.Nodes.{entries_at, entry_at}
use Rattle.shore_keys.proofs.MiddleSteps.{middle-is, middle-there, parted}
use Rattle.shore_keys.proofs.halving.middle.Goals as goal

pub returns-in_err-rest : goal.returns-in_err-rest
returns-in_err-rest c = λ es e.
    let count : ℕ = c.args.front.now.count in
    let body : List ℕ = c.args.front.now.body.now in
    let sum : count / 2 + (count - count / 2) ≡ count = omega arith in
    let p = parted (count / 2) (count - count / 2) body es (ap (λ (n : ℕ). entries_at n body) sum ∙ e) in
    let behind : IsBehind p.front body None = rw c.in_err-rest.was at (c.behind_all.ensures p.front p.read) in
    absurd behind

pub returns-in_err-entry : goal.returns-in_err-entry
returns-in_err-entry c = λ es e.
    let count : ℕ = c.args.front.now.count in
    let body : List ℕ = c.args.front.now.body.now in
    let two : 2 ≤ count = search rules in
    let few : count / 2 < count = omega arith in
    let sum : count / 2 + (count - count / 2) ≡ count = omega arith in
    let p = parted (count / 2) (count - count / 2) body es (ap (λ (n : ℕ). entries_at n body) sum ∙ e) in
    let behind : IsBehind p.front body (Some c.in_ok-rest.rest.now) = rw c.in_ok-rest.was at (c.behind_all.ensures p.front p.read) in
    let none : entry_at c.in_ok-rest.rest.now ≡ None = search rules in
    absurd (middle-there count (count / 2) body es e few p.front p.read c.in_ok-rest.rest.now behind none)

pub returns : goal.returns
returns c = λ es e.
    let count : ℕ = c.args.front.now.count in
    let body : List ℕ = c.args.front.now.body.now in
    let two : 2 ≤ count = search rules in
    let few : count / 2 < count = omega arith in
    let sum : count / 2 + (count - count / 2) ≡ count = omega arith in
    let p = parted (count / 2) (count - count / 2) body es (ap (λ (n : ℕ). entries_at n body) sum ∙ e) in
    let behind : IsBehind p.front body (Some c.in_ok-rest.rest.now) = rw c.in_ok-rest.was at (c.behind_all.ensures p.front p.read) in
    let entry : Pair = (c.in_ok-entry.entry.key.now, c.in_ok-entry.entry.page, c.in_ok-entry.entry.slot) in
    let one : entry_at c.in_ok-rest.rest.now ≡ Some (entry, c.in_ok-entry._behind.now) = search rules in
    middle-is count (count / 2) body es e two refl few p.front p.read c.in_ok-rest.rest.now behind (entry, c.in_ok-entry._behind.now) one
