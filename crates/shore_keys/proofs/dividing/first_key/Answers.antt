use Rattle.std.proofs.Common.{rules, ◌≡◌, ◌≢◌, ℕ, Some}
use Rattle.std.specs.Prelude.{option_map}
use Rattle.shore_keys.specs.Nodes.{Front, entry_at, front_at}
use Rattle.shore_keys.proofs.DivideSteps.{first-key-is}
use Rattle.shore_keys.proofs.dividing.first_key.Goals as goal

pub returns : goal.returns
returns c = λ node e.
    let f : Front = record {
      level = c.in_ok-front.front.level;
      right = option_map (λ e. (e.key.now, e.page, e.slot)) c.in_ok-front.front.right;
      count = c.in_ok-front.front.count;
      body = c.in_ok-front.front.body.now;
    } in
    let front : front_at c.args.bytes.now ≡ Some f = search rules in
    let some : f.count ≢ 0 = search rules in
    let one : entry_at f.body ≡ Some ((c.in_ok-entry.entry.key.now, c.in_ok-entry.entry.page, c.in_ok-entry.entry.slot), c.in_ok-entry._behind.now) = search rules in
    first-key-is c.args.bytes.now f node e front some ((c.in_ok-entry.entry.key.now, c.in_ok-entry.entry.page, c.in_ok-entry.entry.slot), c.in_ok-entry._behind.now) one
