use Rattle.std.proofs.Common.{rules, ◌≡◌, ◌≤◌, ◌+◌, ℕ, Bool, true, false, Some, None, length, refl, sym, ap}
use Rattle.std.specs.Prelude.{option_map}
use Rattle.shore_keys.specs.Cuts.{IsBehind, IsRoom, TailOf}
use Rattle.shore_keys.specs.Nodes.{Front, front_at}
use Rattle.shore_keys.proofs.PutSteps.{room-is}
use Rattle.shore_keys.proofs.Walks.{front_is, no_front}
use Rattle.shore_keys.proofs.puts.has_room.Goals as goal

pub returns-in-None : goal.returns-in-None
returns-in-None c = λ node e. absurd (no_front c.args.bytes.now node e (rw c.in-None.is at (sym c.front_at.ensures)))

pub returns-in-None-behind_all : goal.returns-in-None-behind_all
returns-in-None-behind_all c = λ node e.
    let f : Front = record {
      level = c.in-Some.front.level;
      right = option_map (λ e. (e.key.now, e.page, e.slot)) c.in-Some.front.right;
      count = c.in-Some.front.count;
      body = c.in-Some.front.body.now;
    } in
    let front : front_at c.args.bytes.now ≡ Some f = rw c.in-Some.is at (sym c.front_at.ensures) in
    let none : IsBehind node.entries f.body None = rw c.in-None-behind_all.is at (c.behind_all.ensures node.entries (front_is c.args.bytes.now node f e front).entries) in
    absurd none

pub returns-in-Some-behind_all : goal.returns-in-Some-behind_all
returns-in-Some-behind_all c = λ node e.
    let f : Front = record {
      level = c.in-Some.front.level;
      right = option_map (λ e. (e.key.now, e.page, e.slot)) c.in-Some.front.right;
      count = c.in-Some.front.count;
      body = c.in-Some.front.body.now;
    } in
    let front : front_at c.args.bytes.now ≡ Some f = rw c.in-Some.is at (sym c.front_at.ensures) in
    let behind : IsBehind node.entries f.body (Some c.in-Some-behind_all.tail.now) = rw c.in-Some-behind_all.is at (c.behind_all.ensures node.entries (front_is c.args.bytes.now node f e front).entries) in
    let t : TailOf c.args.bytes.now node = record { front = f; is = front; tail = c.in-Some-behind_all.tail.now; behind = behind } in
    room-is c.args.bytes.now node c.args.key.now t (length c.in-Some-behind_all.tail.now) (length c.args.key.now + 7) refl refl
