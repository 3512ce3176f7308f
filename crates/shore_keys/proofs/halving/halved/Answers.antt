use Rattle.std.proofs.Common.{rules, ◌≡◌, ℕ, ◌-◌, ◌/◌, ◌<◌, ◌≤◌, List, ◌∷◌, Some, length, sym, ap, subst, ◌∙◌}
use Rattle.std.specs.Prelude.{option_map}
use Rattle.shore_keys.specs.Cuts.{Spells}
use Rattle.shore_keys.specs.Halves.{IsMiddle, IsMiddleAt}
use Rattle.shore_keys.specs.Nodes.{Entry as Pair}
use Rattle.shore_keys.specs.Nodes.{Front, entries_at, front_at}
use Rattle.shore_keys.proofs.MiddleSteps.{right-read}
use Rattle.shore_keys.proofs.Spelling.{count-is}
use Rattle.shore_keys.proofs.Walks.{front_is, no_front}
use Rattle.shore_keys.proofs.halving.halved.Goals as goal

pub returns-in_default : goal.returns-in_default
returns-in_default c = λ node e. absurd (no_front c.args.bytes.now node e (rw c.in_default.is at (sym c.front_at.ensures)))

pub returns-in_default-middle : goal.returns-in_default-middle
returns-in_default-middle c = λ node e.
    let f : Front = record {
      level = c.in-Some.front.level;
      right = option_map (λ e. (e.key.now, e.page, e.slot)) c.in-Some.front.right;
      count = c.in-Some.front.count;
      body = c.in-Some.front.body.now;
    } in
    let front : front_at c.args.bytes.now ≡ Some f = rw c.in-Some.is at (sym c.front_at.ensures) in
    let entries = (front_is c.args.bytes.now node f e front).entries in
    let few : f.count < 2 = rw c.in_default-middle.is at (c.middle.ensures node.entries entries) in
    subst (λ (n : ℕ). n < 2) (sym (count-is f.count f.body node.entries entries)) few

pub returns : goal.returns
returns c = λ node e.
    let f : Front = record {
      level = c.in-Some.front.level;
      right = option_map (λ e. (e.key.now, e.page, e.slot)) c.in-Some.front.right;
      count = c.in-Some.front.count;
      body = c.in-Some.front.body.now;
    } in
    let front : front_at c.args.bytes.now ≡ Some f = rw c.in-Some.is at (sym c.front_at.ensures) in
    let entry : Pair = (c.in-Some-middle.entry.key.now, c.in-Some-middle.entry.page, c.in-Some-middle.entry.slot) in
    let mid : IsMiddleAt f.count f.body node.entries c.in-Some-middle.half c.in-Some-middle.rest.now entry = rw c.in-Some-middle.is at (c.middle.ensures node.entries (front_is c.args.bytes.now node f e front).entries) in
    let n : ℕ = c.saturating_sub.result in
    let left : entries_at n c.in-Some-middle.rest.now ≡ Some (entry ∷ mid.others) = ap (λ (n : ℕ). entries_at n c.in-Some-middle.rest.now) (search rules) ∙ mid.left in
    let size : length node.entries ≡ f.count = count-is f.count f.body node.entries (front_is c.args.bytes.now node f e front).entries in
    record {
      front = mid.front;
      entry = entry;
      others = mid.others;
      all = mid.all;
      two = subst (λ (n : ℕ). 2 ≤ n) (sym size) mid.two;
      half = mid.count_is ∙ mid.half ∙ ap (λ (n : ℕ). n / 2) (sym size);
      key = c.in_ok-copied.ensures;
      right = right-read c.args.bytes.now f node e front c.before-2.result.now c.in-Some-middle.rest.now c.in_ok-right_text.ensures.0 c.in_ok-right_text.field-0 n (entry ∷ mid.others) c.before-2.ensures left (search rules)
          c.in_ok-right_text.ensures.1;
      count = mid.count_is;
      first = subst (λ (b : List ℕ). Spells b mid.front) (sym (c.in_ok-copied-2.ensures ∙ c.before-3.ensures mid.bytes mid.is)) mid.spelled;
    }
