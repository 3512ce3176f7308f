use Rattle.std.proofs.Common.{rules, ◌≡◌, ℕ, List, true, false, Option, Some, None, refl, sym, ap, subst, ◌∙◌}
use Rattle.std.specs.Prelude.{not, option_map}
use Rattle.shore_keys.specs.Nodes.{Entry as Pair}
use Rattle.shore_keys.specs.Nodes.{Front, front_at}
use Rattle.shore_keys.specs.Orders.{is_before}
use Rattle.shore_keys.specs.Trees.{is_past}
use Rattle.shore_keys.proofs.Walks.{front_is, no_front}
use Rattle.shore_keys.proofs.edges.crossed.Goals as goal

pub returns-in_default : goal.returns-in_default
returns-in_default c = λ node e. absurd (no_front c.args.bytes.now node e (rw c.in_default.is at (sym c.front_at.ensures)))

pub returns-in_default-right : goal.returns-in_default-right
returns-in_default-right c = λ node e.
    let f : Front = record {
      level = c.in-Some.front.level;
      right = option_map (λ e. (e.key.now, e.page, e.slot)) c.in-Some.front.right;
      count = c.in-Some.front.count;
      body = c.in-Some.front.body.now;
    } in
    let front : front_at c.args.bytes.now ≡ Some f = rw c.in-Some.is at (sym c.front_at.ensures) in
    let none : f.right ≡ None = ap (option_map (λ e. (e.key.now, e.page, e.slot))) c.in_default-right.is in
    ap (λ (o : Option Pair). is_past o c.args.key.now) ((front_is c.args.bytes.now node f e front).right ∙ none)

pub returns-then-is_before : goal.returns-then-is_before
returns-then-is_before c = λ node e.
    let f : Front = record {
      level = c.in-Some.front.level;
      right = option_map (λ e. (e.key.now, e.page, e.slot)) c.in-Some.front.right;
      count = c.in-Some.front.count;
      body = c.in-Some.front.body.now;
    } in
    let front : front_at c.args.bytes.now ≡ Some f = rw c.in-Some.is at (sym c.front_at.ensures) in
    let some : f.right ≡ Some (c.in-Some-right.right.key.now, c.in-Some-right.right.page, c.in-Some-right.right.slot) = ap (option_map (λ e. (e.key.now, e.page, e.slot))) c.in-Some-right.is in
    let below : is_before c.args.key.now c.in-Some-right.right.key.now ≡ true = sym c.is_before.ensures ∙ c.if-is_before.true in
    ap (λ (o : Option Pair). is_past o c.args.key.now) ((front_is c.args.bytes.now node f e front).right ∙ some) ∙ ap not below

pub returns : goal.returns
returns c = λ node e.
    let f : Front = record {
      level = c.in-Some.front.level;
      right = option_map (λ e. (e.key.now, e.page, e.slot)) c.in-Some.front.right;
      count = c.in-Some.front.count;
      body = c.in-Some.front.body.now;
    } in
    let front : front_at c.args.bytes.now ≡ Some f = rw c.in-Some.is at (sym c.front_at.ensures) in
    let some : f.right ≡ Some (c.in-Some-right.right.key.now, c.in-Some-right.right.page, c.in-Some-right.right.slot) = ap (option_map (λ e. (e.key.now, e.page, e.slot))) c.in-Some-right.is in
    let same : c.in_ok-first.first ≡ c.in-Some-right.right.key.now = c.in_ok-first.ensures in
    let above : is_before c.args.key.now c.in-Some-right.right.key.now ≡ false = sym c.is_before.ensures ∙ c.if-is_before.false in (
      (front_is c.args.bytes.now node f e front).right ∙ some ∙ ap (λ (k : List ℕ). Some (k, c.in-Some-right.right.page, c.in-Some-right.right.slot)) (sym same),
      ap (λ (k : List ℕ). is_before c.args.key.now k) same ∙ above,
    )
