use Rattle.std.proofs.Common.{rules, ◌≡◌, ℕ, ◌/◌, ◌<◌, List, ◌∷◌, Some, None, length, refl, sym, ap, subst, ◌∙◌}
use Rattle.std.specs.Prelude.{option_map}
use Rattle.shore_keys.specs.Halves.{IsMiddleAt, IsMiddleKey}
use Rattle.shore_keys.specs.Nodes.{Entry as Pair}
use Rattle.shore_keys.specs.Nodes.{Front, front_at}
use Rattle.shore_keys.proofs.Spelling.{count-is}
use Rattle.shore_keys.proofs.Walks.{front_is, no_front}
use Rattle.shore_keys.proofs.halving.middle_key.Goals as goal

pub returns-in_err-front : goal.returns-in_err-front
returns-in_err-front c = λ node e. absurd (no_front c.args.bytes.now node e (rw c.in_err-front.was at (sym c.front_at.ensures)))

pub returns-in_err-_half : goal.returns-in_err-_half
returns-in_err-_half c = λ node e.
    let f : Front = record {
      level = c.in_ok-front.front.level;
      right = option_map (λ e. (e.key.now, e.page, e.slot)) c.in_ok-front.front.right;
      count = c.in_ok-front.front.count;
      body = c.in_ok-front.front.body.now;
    } in
    let front : front_at c.args.bytes.now ≡ Some f = rw c.in_ok-front.was at (sym c.front_at.ensures) in
    let entries = (front_is c.args.bytes.now node f e front).entries in
    let few : f.count < 2 = rw c.in_err-_half.was at (c.middle.ensures node.entries entries) in
    let none : c.from_residual-in_err-_half.result ≡ None = search rules in
    subst (λ o. IsMiddleKey node.entries (option_map (λ k. k.now) o)) (sym none) (subst (λ (n : ℕ). n < 2) (sym (count-is f.count f.body node.entries entries)) few)

pub returns : goal.returns
returns c = λ node e.
    let f : Front = record {
      level = c.in_ok-front.front.level;
      right = option_map (λ e. (e.key.now, e.page, e.slot)) c.in_ok-front.front.right;
      count = c.in_ok-front.front.count;
      body = c.in_ok-front.front.body.now;
    } in
    let front : front_at c.args.bytes.now ≡ Some f = rw c.in_ok-front.was at (sym c.front_at.ensures) in
    let entries = (front_is c.args.bytes.now node f e front).entries in
    let entry : Pair = (c.in_ok-_half.entry.key.now, c.in_ok-_half.entry.page, c.in_ok-_half.entry.slot) in
    let mid : IsMiddleAt f.count f.body node.entries c.in_ok-_half._half c.in_ok-_half._rest.now entry = rw c.in_ok-_half.was at (c.middle.ensures node.entries entries) in
    let size : length node.entries ≡ f.count = count-is f.count f.body node.entries entries in
    (mid.front, entry, mid.others, mid.all, mid.count_is ∙ mid.half ∙ ap (λ (n : ℕ). n / 2) (sym size), refl)
