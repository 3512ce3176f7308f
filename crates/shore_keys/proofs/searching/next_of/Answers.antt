use Rattle.std.proofs.Common.{rules, ◌≡◌, ◌≢◌, ℕ, List, Some, None, inl, inr, refl, sym, ap, subst, ◌∙◌}
use Rattle.std.specs.Prelude.{option_map, Option, IsSomeAnd}
use Rattle.shore_keys.specs.Nodes.{Entry as Pair}
use Rattle.shore_keys.specs.Nodes.{Front, front_at}
use Rattle.shore_keys.specs.Steps.{IsEntryUpTo, IsPast}
use Rattle.shore_keys.specs.Trees.{is_past}
use Rattle.shore_keys.proofs.Walks.{FrontOf, front_is, goes-by-entry, goes-past, no_front}
use Rattle.shore_keys.proofs.searching.next_of.Goals as goal

pub returns-in_default : goal.returns-in_default
returns-in_default c = λ node e. absurd (no_front c.args.bytes.now node e (rw c.in_default.is at (sym c.front_at.ensures)))

pub returns-in-Some-past : goal.returns-in-Some-past
returns-in-Some-past c = λ node e.
    let f : Front = record {
      level = c.in-Some.front.level;
      right = option_map (λ e. (e.key.now, e.page, e.slot)) c.in-Some.front.right;
      count = c.in-Some.front.count;
      body = c.in-Some.front.body.now;
    } in
    let front : front_at c.args.bytes.now ≡ Some f = rw c.in-Some.is at (sym c.front_at.ensures) in
    let is = front_is c.args.bytes.now node f e front in
    let past : IsPast f.right c.args.key.now (Some c.in-Some-past.spot) = rw c.in-Some-past.is at c.past.ensures in
    goes-past c.args.store node f c.args.key.now c.in-Some-past.spot c.id_of.result is past c.id_of.ensures

pub returns-then-front-eq0 : goal.returns-then-front-eq0
returns-then-front-eq0 c = λ node e.
    let f : Front = record {
      level = c.in-Some.front.level;
      right = option_map (λ e. (e.key.now, e.page, e.slot)) c.in-Some.front.right;
      count = c.in-Some.front.count;
      body = c.in-Some.front.body.now;
    } in
    let front : front_at c.args.bytes.now ≡ Some f = rw c.in-Some.is at (sym c.front_at.ensures) in
    let is = front_is c.args.bytes.now node f e front in
    let none : c.past.result ≡ None = search rules in
    let within : IsPast f.right c.args.key.now None = rw none at c.past.ensures in
    let zero : f.level ≡ 0 = search rules in
    (is.level ∙ zero, ap (λ right. is_past right c.args.key.now) is.right ∙ within)

pub returns-in-Some-last_up_to : goal.returns-in-Some-last_up_to
returns-in-Some-last_up_to c = λ node e.
    let f : Front = record {
      level = c.in-Some.front.level;
      right = option_map (λ e. (e.key.now, e.page, e.slot)) c.in-Some.front.right;
      count = c.in-Some.front.count;
      body = c.in-Some.front.body.now;
    } in
    let front : front_at c.args.bytes.now ≡ Some f = rw c.in-Some.is at (sym c.front_at.ensures) in
    let is = front_is c.args.bytes.now node f e front in
    let inner : f.level ≢ 0 = search rules in
    let last : IsEntryUpTo node.entries c.args.key.now (Some c.in-Some-last_up_to.spot) = rw c.in-Some-last_up_to.is at (c.last_up_to.ensures node.entries is.entries) in
    goes-by-entry c.args.store node c.args.key.now c.in-Some-last_up_to.spot c.id_of-in-Some-last_up_to.result (λ level. inner (sym is.level ∙ level)) last c.id_of-in-Some-last_up_to.ensures

pub returns-in-None : goal.returns-in-None
returns-in-None c = λ node e.
    let f : Front = record {
      level = c.in-Some.front.level;
      right = option_map (λ e. (e.key.now, e.page, e.slot)) c.in-Some.front.right;
      count = c.in-Some.front.count;
      body = c.in-Some.front.body.now;
    } in
    let front : front_at c.args.bytes.now ≡ Some f = rw c.in-Some.is at (sym c.front_at.ensures) in
    let is = front_is c.args.bytes.now node f e front in
    let inner : f.level ≢ 0 = search rules in
    let none : IsEntryUpTo node.entries c.args.key.now None = rw c.in-None.is at (c.last_up_to.ensures node.entries is.entries) in
    ((λ level. inner (sym is.level ∙ level)), none)
