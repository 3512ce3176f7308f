use Rattle.std.proofs.Common.{rules, ◌≡◌, Some, sym}
use Rattle.std.specs.Prelude.{option_map}
use Rattle.shore_keys.specs.Nodes.{Front, front_at}
use Rattle.shore_keys.proofs.Walks.{front_is, no_front}
use Rattle.shore_keys.proofs.mending.level_of.Goals as goal

pub returns-in-Some : goal.returns-in-Some
returns-in-Some c = λ node e.
    let f : Front = record {
      level = c.in-Some.front.level;
      right = option_map (λ e. (e.key.now, e.page, e.slot)) c.in-Some.front.right;
      count = c.in-Some.front.count;
      body = c.in-Some.front.body.now;
    } in
    let front : front_at c.args.bytes.now ≡ Some f = rw c.in-Some.is at (sym c.front_at.ensures) in
    (front_is c.args.bytes.now node f e front).level

pub returns-in-None : goal.returns-in-None
returns-in-None c = λ node e. absurd (no_front c.args.bytes.now node e (rw c.in-None.is at (sym c.front_at.ensures)))
