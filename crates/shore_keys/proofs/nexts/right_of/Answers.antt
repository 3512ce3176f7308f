use Rattle.std.proofs.Common.{rules, ◌≡◌, ℕ, List, Option, Some, None, refl, sym, ap, ◌∙◌}
use Rattle.std.specs.Prelude.{option_map}
use Rattle.shore_types.specs.declared.ids.Rid.{Rid}
use Rattle.shore_keys.specs.Nodes.{Entry as Pair}
use Rattle.shore_keys.specs.Nodes.{Front, front_at}
use Rattle.shore_keys.specs.Trees.{child}
use Rattle.shore_keys.proofs.Walks.{front_is, no_front}
use Rattle.shore_keys.proofs.nexts.right_of.Goals as goal

pub returns-in_err-front : goal.returns-in_err-front
returns-in_err-front c = λ node e. absurd (no_front c.args.bytes.now node e (rw c.in_err-front.was at (sym c.front_at.ensures)))

pub returns-in_err-right : goal.returns-in_err-right
returns-in_err-right c = λ node e.
    let f : Front = record {
      level = c.in_ok-front.front.level;
      right = option_map (λ e. (e.key.now, e.page, e.slot)) c.in_ok-front.front.right;
      count = c.in_ok-front.front.count;
      body = c.in_ok-front.front.body.now;
    } in
    let front : front_at c.args.bytes.now ≡ Some f = rw c.in_ok-front.was at (sym c.front_at.ensures) in
    let none : f.right ≡ None = ap (option_map (λ e. (e.key.now, e.page, e.slot))) c.in_err-right.was in
    let nothing : ◌≡◌ {A = Option Rid} c.from_residual-in_err-right.result None = search rules in
    nothing ∙ ap (option_map (child c.args.store)) (sym ((front_is c.args.bytes.now node f e front).right ∙ none))

pub returns : goal.returns
returns c = λ node e.
    let f : Front = record {
      level = c.in_ok-front.front.level;
      right = option_map (λ e. (e.key.now, e.page, e.slot)) c.in_ok-front.front.right;
      count = c.in_ok-front.front.count;
      body = c.in_ok-front.front.body.now;
    } in
    let front : front_at c.args.bytes.now ≡ Some f = rw c.in_ok-front.was at (sym c.front_at.ensures) in
    let some : f.right ≡ Some (c.in_ok-right.right.key.now, c.in_ok-right.right.page, c.in_ok-right.right.slot) = ap (option_map (λ e. (e.key.now, e.page, e.slot))) c.in_ok-right.was in
    ap (λ (id : Rid). Some id) c.id_of.ensures ∙ ap (option_map (child c.args.store)) (sym ((front_is c.args.bytes.now node f e front).right ∙ some))
