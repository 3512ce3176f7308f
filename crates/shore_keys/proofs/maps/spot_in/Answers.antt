use Rattle.std.proofs.Common.{rules, ◌≡◌, Some, Ok, sym, ◌∙◌}
use Rattle.std.specs.Prelude.{option_map}
use Rattle.shore_keys.specs.Nodes.{Front, front_at}
use Rattle.shore_keys.proofs.Walks.{front_is, no_front}
use Rattle.shore_keys.proofs.maps.spot_in.Goals as goal

pub returns-in_default : goal.returns-in_default
returns-in_default c = λ node e. absurd (no_front c.args.bytes.now node e (rw c.in_default.is at (sym c.front_at.ensures)))

pub returns : goal.returns
returns c = λ node e.
    let f : Front = record {
      level = c.in-Some.front.level;
      right = option_map (λ e. (e.key.now, e.page, e.slot)) c.in-Some.front.right;
      count = c.in-Some.front.count;
      body = c.in-Some.front.body.now;
    } in
    let front : front_at c.args.bytes.now ≡ Some f = rw c.in-Some.is at (sym c.front_at.ensures) in
    c.found_in.ensures node.entries (front_is c.args.bytes.now node f e front).entries
