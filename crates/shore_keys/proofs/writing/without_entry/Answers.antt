use Rattle.std.proofs.Common.{rules, ◌≡◌, ◌≢◌, ℕ, ◌-◌, ◌<◌, List, Some, None, refl, sym, ap, ◌∙◌}
use Rattle.std.specs.Prelude.{option_map}
use Rattle.shore_keys.specs.Cuts.{IsFoundAt, IsFoundIn}
use Rattle.shore_keys.specs.Nodes.{Front, front_at}
use Rattle.shore_keys.proofs.Drops.{without-long, without-read}
use Rattle.shore_keys.proofs.Walks.{front_is, no_front}
use Rattle.shore_keys.proofs.writing.without_entry.Goals as goal

pub returns-in_default : goal.returns-in_default
returns-in_default c = λ node e. absurd (no_front c.args.bytes.now node e (rw c.in_default.is at (sym c.front_at.ensures)))

pub returns-in_default-found_at : goal.returns-in_default-found_at
returns-in_default-found_at c = λ node e.
    let f : Front = record {
      level = c.in-Some.front.level;
      right = option_map (λ e. (e.key.now, e.page, e.slot)) c.in-Some.front.right;
      count = c.in-Some.front.count;
      body = c.in-Some.front.body.now;
    } in
    let front : front_at c.args.bytes.now ≡ Some f = rw c.in-Some.is at (sym c.front_at.ensures) in
    let none : IsFoundIn f.count f.body c.args.key.now node.entries None = rw c.in_default-found_at.is at (c.found_at.ensures node.entries (front_is c.args.bytes.now node f e front).entries) in
    λ damaged. none

pub returns : goal.returns
returns c = λ node e.
    let f : Front = record {
      level = c.in-Some.front.level;
      right = option_map (λ e. (e.key.now, e.page, e.slot)) c.in-Some.front.right;
      count = c.in-Some.front.count;
      body = c.in-Some.front.body.now;
    } in
    let front : front_at c.args.bytes.now ≡ Some f = rw c.in-Some.is at (sym c.front_at.ensures) in
    let found : IsFoundAt f.count f.body c.args.key.now node.entries c.in-Some-found_at._at c.in-Some-found_at.rest.now c.in-Some-found_at.behind.now =
    rw c.in-Some-found_at.is at (c.found_at.ensures node.entries (front_is c.args.bytes.now node f e front).entries) in
    let cut_head = c.before-2.ensures in
    let cut_first = c.before-3.ensures in (
      without-read c.args.bytes.now c.args.key.now f node e front c.in-Some-found_at._at c.in-Some-found_at.rest.now c.in-Some-found_at.behind.now found
          c.before-2.result.now c.before-3.result.now c.in_ok-text.ensures.0 c.in_ok-text.text c.saturating_sub.result cut_head cut_first (search rules) (search rules) c.in_ok-text.ensures.1,
      without-long c.args.bytes.now c.args.key.now f node front c.in-Some-found_at._at c.in-Some-found_at.rest.now c.in-Some-found_at.behind.now found
          c.before-2.result.now c.before-3.result.now c.in_ok-text.ensures.0 c.in_ok-text.text c.saturating_sub.result cut_head cut_first c.in_ok-text.ensures.1 c.in_ok-text.ensures.2,
    )
