use Rattle.std.proofs.Common.{rules, ◌≡◌, ◌≢◌, ◌⊎◌, inl, inr, ℕ, ◌+◌, ◌-◌, ◌<◌, ◌≤◌, List, Some, None, length, drop, refl, sym, ap, ◌∙◌, arith}
use Rattle.std.specs.Prelude.{option_map}
use Rattle.std.proofs.lemmas.List.{take_rest}
use Rattle.shore_keys.specs.Cuts.{IsBehind, IsCut, IsCutAt, parts}
use Rattle.shore_keys.specs.Nodes.{Fits, Front, Node, entries_at, front_at}
use Rattle.shore_keys.proofs.Walks.{front_is, no_front}
use Rattle.shore_keys.proofs.Written.{no-room, written}
use Rattle.shore_keys.proofs.writing.with_entry.Goals.{then-tail-more-via-then-tail-more, then-tail-more-via-else-tail-more+then-front}
use Rattle.shore_keys.proofs.writing.with_entry.Goals as goal

pub returns-in_default : goal.returns-in_default
returns-in_default c = λ node e. absurd (no_front c.args.bytes.now node e (rw c.in_default.is at (sym c.front_at.ensures)))

pub returns-in_default-cut_at : goal.returns-in_default-cut_at
returns-in_default-cut_at c = λ node e.
    let f : Front = record {
      level = c.in-Some.front.level;
      right = option_map (λ e. (e.key.now, e.page, e.slot)) c.in-Some.front.right;
      count = c.in-Some.front.count;
      body = c.in-Some.front.body.now;
    } in
    let front : front_at c.args.bytes.now ≡ Some f = rw c.in-Some.is at (sym c.front_at.ensures) in
    let none : IsCut f.count f.body c.args.key.now node.entries None = rw c.in_default-cut_at.is at (c.cut_at.ensures node.entries (front_is c.args.bytes.now node f e front).entries) in
    absurd none

pub returns-in_default-behind_all : goal.returns-in_default-behind_all
returns-in_default-behind_all c = λ node e.
    let f : Front = record {
      level = c.in-Some.front.level;
      right = option_map (λ e. (e.key.now, e.page, e.slot)) c.in-Some.front.right;
      count = c.in-Some.front.count;
      body = c.in-Some.front.body.now;
    } in
    let front : front_at c.args.bytes.now ≡ Some f = rw c.in-Some.is at (sym c.front_at.ensures) in
    let cut : IsCutAt f.count f.body c.args.key.now node.entries c.in-Some-cut_at.at c.in-Some-cut_at.rest.now =
    rw c.in-Some-cut_at.is at (c.cut_at.ensures node.entries (front_is c.args.bytes.now node f e front).entries) in
    let others : entries_at c.saturating_sub.result c.in-Some-cut_at.rest.now ≡ Some cut.above = ap (λ (n : ℕ). entries_at n c.in-Some-cut_at.rest.now) (search rules) ∙ cut.others in
    let none : IsBehind cut.above c.in-Some-cut_at.rest.now None = rw c.in_default-behind_all.is at (c.behind_all.ensures cut.above others) in
    absurd none

pub returns-then-tail-more : goal.returns-then-tail-more
returns-then-tail-more c = λ node e.
    let f : Front = record {
      level = c.in-Some.front.level;
      right = option_map (λ e. (e.key.now, e.page, e.slot)) c.in-Some.front.right;
      count = c.in-Some.front.count;
      body = c.in-Some.front.body.now;
    } in
    let front : front_at c.args.bytes.now ≡ Some f = rw c.in-Some.is at (sym c.front_at.ensures) in
    let cut : IsCutAt f.count f.body c.args.key.now node.entries c.in-Some-cut_at.at c.in-Some-cut_at.rest.now =
    rw c.in-Some-cut_at.is at (c.cut_at.ensures node.entries (front_is c.args.bytes.now node f e front).entries) in
    let others : entries_at c.saturating_sub.result c.in-Some-cut_at.rest.now ≡ Some cut.above = ap (λ (n : ℕ). entries_at n c.in-Some-cut_at.rest.now) (search rules) ∙ cut.others in
    let behind : IsBehind cut.above c.in-Some-cut_at.rest.now (Some c.in-Some-behind_all.tail.now) = rw c.in-Some-behind_all.is at (c.behind_all.ensures cut.above others) in
    let short : (length c.in-Some-behind_all.tail.now < length c.args.key.now + 7) ⊎ (f.count ≡ 65535) =
    elim c.then-tail-more.branch [
      | then-tail-more-via-then-tail-more w ↦ inl (search rules)
      | then-tail-more-via-else-tail-more+then-front w ↦ inr (search rules)
    ] in
    no-room c.args.bytes.now c.args.key.now c.in-Some-cut_at.rest.now c.in-Some-behind_all.tail.now f node c.args.spot e front c.in-Some-cut_at.at cut behind short

pub returns : goal.returns
returns c = λ node e.
    let f : Front = record {
      level = c.in-Some.front.level;
      right = option_map (λ e. (e.key.now, e.page, e.slot)) c.in-Some.front.right;
      count = c.in-Some.front.count;
      body = c.in-Some.front.body.now;
    } in
    let front : front_at c.args.bytes.now ≡ Some f = rw c.in-Some.is at (sym c.front_at.ensures) in
    let cut : IsCutAt f.count f.body c.args.key.now node.entries c.in-Some-cut_at.at c.in-Some-cut_at.rest.now =
    rw c.in-Some-cut_at.is at (c.cut_at.ensures node.entries (front_is c.args.bytes.now node f e front).entries) in
    let others : entries_at c.saturating_sub.result c.in-Some-cut_at.rest.now ≡ Some cut.above = ap (λ (n : ℕ). entries_at n c.in-Some-cut_at.rest.now) (search rules) ∙ cut.others in
    let behind : IsBehind cut.above c.in-Some-cut_at.rest.now (Some c.in-Some-behind_all.tail.now) = rw c.in-Some-behind_all.is at (c.behind_all.ensures cut.above others) in
    written c.args.bytes.now c.args.key.now c.in-Some-cut_at.rest.now c.in-Some-behind_all.tail.now f node c.args.spot e front c.in-Some-cut_at.at cut behind
    c.before-head.result.now c.before-2.result.now c.before-3.result.now c.from_vec.result c.before-head.ensures c.before-2.ensures c.before-3.ensures
    (record { key = c.requires; page = search rules; slot = search rules }) (search rules) (search rules) (c.from_vec.ensures ∙ rw c.in_ok-text.was at c.assembled.ensures
    ∙ ap (λ (r : List ℕ). parts c.before-head.result.now (f.count + 1) c.before-2.result.now c.args.key.now c.args.spot c.before-3.result.now r) (take_rest c.in-Some-behind_all.tail.now (length c.args.key.now + 7)))
