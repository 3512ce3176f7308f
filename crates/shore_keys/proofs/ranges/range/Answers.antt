use Rattle.std.proofs.Common.{rules, ◌≡◌, ◌≢◌, ℕ, ◌+◌, ◌<◌, ◌≤◌, List, [], ◌∷◌, ◌++◌, length, Bool, true, false, Some, None, Result, Ok, Err, refl, sym, ap, subst, ◌∙◌, arith}
use Rattle.std.proofs.lemmas.List.{length-append}
use Rattle.shore_keys.specs.declared.refusals.Refusal.{Refusal}
use Rattle.shore_keys.specs.declared.refusals.Refusal.TheVariants.{Damaged, Memory}
use Rattle.shore_keys.specs.Exchanges.{GoesOn}
use Rattle.shore_keys.specs.Orders.{is_before}
use Rattle.shore_keys.specs.Ranges.{Gathers, Items, last_key}
use Rattle.shore_keys.proofs.RangeSteps.{last-more, range-ends, range-ends-below, range-full, range-goes, range-stops-behind, range-stops-next}
use Rattle.shore_keys.proofs.ranges.range.Goals as goal

other : Memory ≢ Damaged
other e = cc

pub returns-in_err-key : goal.returns-in_err-key
returns-in_err-key g c =
    range-stops-next c.args.map.now c.args.above.now c.args.below.now c.args.most c.from_residual-in_err-key.result c.loop-item.items.items _ _ c.loop-item.invariant.0 c.loop-item.at c.loop-item.invariant.1
    _ c.next.result (rw c.as_slice.ensures at c.next.ensures) c.in_err-key.field-0.0 (search rules) (search rules)

pub returns-in_default : goal.returns-in_default
returns-in_default g c =
    range-ends c.args.map.now c.args.above.now c.args.below.now c.args.most (Ok c.from_vec.result) c.loop-item.items.items _ _ c.loop-item.invariant.0 c.loop-item.at c.loop-item.invariant.1
    _ c.next.result (rw c.as_slice.ensures at c.next.ensures) (search rules) (ap (λ (l : Items). Ok l) c.from_vec.ensures)

pub returns-then-not-is_before : goal.returns-then-not-is_before
returns-then-not-is_before g c =
    let past : is_before c.in-Some.key c.args.below.now ≡ false = ap (λ (k : List ℕ). is_before k c.args.below.now) (sym c.as_slice-in-loop-item.ensures) ∙ sym c.is_before.ensures ∙ (search rules) in
    range-ends-below c.args.map.now c.args.above.now c.args.below.now c.args.most (Ok c.from_vec-then-not-is_before.result) c.loop-item.items.items _ _ c.loop-item.invariant.0 c.loop-item.at c.loop-item.invariant.1
    _ c.next.result (rw c.as_slice.ensures at c.next.ensures) (c.in-Some.key, c.in-Some.value) (search rules) past (ap (λ (l : Items). Ok l) c.from_vec-then-not-is_before.ensures)

pub returns-in_err-at-2 : goal.returns-in_err-at-2
returns-in_err-at-2 g c =
    range-stops-behind c.args.map.now c.args.above.now c.args.below.now c.args.most c.from_residual-in_err-at-2.result c.loop-item.items.items _ _ c.loop-item.invariant.0 c.loop-item.at c.loop-item.invariant.1
    _ c.next.result (rw c.as_slice.ensures at c.next.ensures) Memory (search rules) other

pub returns-in-Err : goal.returns-in-Err
returns-in-Err g c =
    range-stops-behind c.args.map.now c.args.above.now c.args.below.now c.args.most (Err Memory) c.loop-item.items.items _ _ c.loop-item.invariant.0 c.loop-item.at c.loop-item.invariant.1
    _ c.next.result (rw c.as_slice.ensures at c.next.ensures) Memory refl other

pub loop-item-preserved : goal.loop-item-preserved
loop-item-preserved g c =
    let same : c.push.new.self.items ≡ c.loop-item.items.items ++ (c.in-Some.key, c.in-Some.value) ∷ [] = search rules in
    let low : is_before c.in-Some.key c.args.below.now ≡ true = ap (λ (k : List ℕ). is_before k c.args.below.now) (sym c.as_slice-in-loop-item.ensures) ∙ sym c.is_before.ensures ∙ (search rules) in
    let copy : c.in_ok-at-2.at ≡ c.in-Some.key = search rules in
    let more : c.loop-item._item < c.args.most = search rules in (
      subst (λ (l : Items). GoesOn (Gathers c.args.map.now c.args.above.now c.args.below.now l) (g.C.Caller.trail c.args.client.now) (g.C.Caller.trail c.next.new.client)) (sym same)
          (range-goes c.args.map.now c.args.above.now c.args.below.now c.args.most (Ok []) c.loop-item.items.items _ _ c.loop-item.invariant.0 c.loop-item.at c.loop-item.invariant.1
          _ c.next.result (rw c.as_slice.ensures at c.next.ensures) (c.in-Some.key, c.in-Some.value) (search rules) low),
      copy ∙ sym (last-more c.args.above.now c.loop-item.items.items (c.in-Some.key, c.in-Some.value)) ∙ ap (last_key c.args.above.now) (sym same),
      ap length same ∙ length-append c.loop-item.items.items ((c.in-Some.key, c.in-Some.value) ∷ []) ∙ ap (λ (n : ℕ). n + 1) c.loop-item.invariant.2,
      omega (arith, more),
    )

pub returns : goal.returns
returns g c =
    let least : c.loop-item._item ≤ c.args.most = c.loop-item.invariant.3 in
    let all : c.args.most ≤ c.loop-item._item = search rules in
    let end : c.loop-item._item ≡ c.args.most = omega (arith, least, all) in
    range-full c.args.map.now c.args.above.now c.args.below.now c.args.most (Ok c.from_vec-2.result) c.loop-item.items.items _ _ c.loop-item.invariant.0 (c.loop-item.invariant.2 ∙ end) (ap (λ (l : Items). Ok l) c.from_vec-2.ensures)
