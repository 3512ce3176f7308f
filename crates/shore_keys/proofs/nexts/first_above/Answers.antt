use Rattle.std.proofs.Common.{rules, ◌≡◌, ◌≢◌, ℕ, List, Some, None, Ok, Err, refl, sym, ap, subst, ◌∙◌}
use Rattle.std.specs.Prelude.{option_map}
use Rattle.shore_keys.specs.Cuts.{IsCut, IsCutAt}
use Rattle.shore_keys.specs.Nexts.{IsFirstAt}
use Rattle.shore_keys.specs.Nodes.{Entry as Pair}
use Rattle.shore_keys.specs.Nodes.{Front, entry_at, front_at}
use Rattle.shore_keys.proofs.NextSteps.{first-is, first-none, first-there}
use Rattle.shore_keys.proofs.Walks.{front_is, no_front}
use Rattle.shore_keys.proofs.nexts.first_above.Goals as goal

pub returns-in_default : goal.returns-in_default
returns-in_default c = λ node e. absurd (no_front c.args.bytes.now node e (rw c.in_default.is at (sym c.front_at.ensures)))

pub returns-in_default-cut_at : goal.returns-in_default-cut_at
returns-in_default-cut_at c = λ node e.
    let f : Front = record {
      level = c.in-Some.front.level;
      right = option_map (λ e. (e.key.now, e.page, e.slot)) c.in-Some.front.right;
      count = c.in-Some.front.count;
      body = c.in-Some.front.body.now;
    } in
    let front : front_at c.args.bytes.now ≡ Some f = rw c.in-Some.is at (sym c.front_at.ensures) in
    let none : IsCut f.count f.body c.args.key.now node.entries None = rw c.in_default-cut_at.is at (c.cut_at.ensures node.entries (front_is c.args.bytes.now node f e front).entries) in
    absurd none

pub returns-then-at-front : goal.returns-then-at-front
returns-then-at-front c = λ node e.
    let f : Front = record {
      level = c.in-Some.front.level;
      right = option_map (λ e. (e.key.now, e.page, e.slot)) c.in-Some.front.right;
      count = c.in-Some.front.count;
      body = c.in-Some.front.body.now;
    } in
    let front : front_at c.args.bytes.now ≡ Some f = rw c.in-Some.is at (sym c.front_at.ensures) in
    let cut : IsCutAt f.count f.body c.args.key.now node.entries c.in-Some-cut_at.at c.in-Some-cut_at.rest.now =
    rw c.in-Some-cut_at.is at (c.cut_at.ensures node.entries (front_is c.args.bytes.now node f e front).entries) in
    let end : c.in-Some-cut_at.at ≡ f.count = search rules in
    first-none f.count f.body c.args.key.now node.entries c.in-Some-cut_at.at c.in-Some-cut_at.rest.now cut end

pub returns-in_default-entry_at : goal.returns-in_default-entry_at
returns-in_default-entry_at c = λ node e.
    let f : Front = record {
      level = c.in-Some.front.level;
      right = option_map (λ e. (e.key.now, e.page, e.slot)) c.in-Some.front.right;
      count = c.in-Some.front.count;
      body = c.in-Some.front.body.now;
    } in
    let front : front_at c.args.bytes.now ≡ Some f = rw c.in-Some.is at (sym c.front_at.ensures) in
    let cut : IsCutAt f.count f.body c.args.key.now node.entries c.in-Some-cut_at.at c.in-Some-cut_at.rest.now =
    rw c.in-Some-cut_at.is at (c.cut_at.ensures node.entries (front_is c.args.bytes.now node f e front).entries) in
    let more : c.in-Some-cut_at.at ≢ f.count = search rules in
    absurd (first-there f.count f.body c.args.key.now node.entries c.in-Some-cut_at.at c.in-Some-cut_at.rest.now cut more (search rules))

pub returns : goal.returns
returns c = λ node e.
    let f : Front = record {
      level = c.in-Some.front.level;
      right = option_map (λ e. (e.key.now, e.page, e.slot)) c.in-Some.front.right;
      count = c.in-Some.front.count;
      body = c.in-Some.front.body.now;
    } in
    let front : front_at c.args.bytes.now ≡ Some f = rw c.in-Some.is at (sym c.front_at.ensures) in
    let cut : IsCutAt f.count f.body c.args.key.now node.entries c.in-Some-cut_at.at c.in-Some-cut_at.rest.now =
    rw c.in-Some-cut_at.is at (c.cut_at.ensures node.entries (front_is c.args.bytes.now node f e front).entries) in
    let more : c.in-Some-cut_at.at ≢ f.count = search rules in
    let entry : Pair = (c.in-Some-entry_at.entry.key.now, c.in-Some-entry_at.entry.page, c.in-Some-entry_at.entry.slot) in
    let one : entry_at c.in-Some-cut_at.rest.now ≡ Some (entry, c.in-Some-entry_at._behind.now) = search rules in
    let first : IsFirstAt node.entries c.args.key.now entry = first-is f.count f.body c.args.key.now node.entries c.in-Some-cut_at.at c.in-Some-cut_at.rest.now cut more (entry, c.in-Some-entry_at._behind.now) one in
    subst (λ (k : List ℕ). IsFirstAt node.entries c.args.key.now (k, c.in-Some-entry_at.entry.page, c.in-Some-entry_at.entry.slot)) (sym c.in_ok-found.ensures) first
