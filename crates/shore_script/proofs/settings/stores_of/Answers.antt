use Rattle.std.proofs.Common.{◌≡◌, ℕ, List, map, take, sym, ap, subst, ◌∙◌, add-one, Option}
use Rattle.std.proofs.Math.Seq.{take_all}
use Rattle.toml.specs.Data.{Data, array}
use Rattle.toml.specs.View.{array_view, items_of, items_view, view}
use Rattle.toml.specs.declared.value.Value.{Value}
use Rattle.shore_script.specs.Keys.{AreStores, whole}
use Rattle.shore_script.proofs.Values.{array-is, wholes-more}
use Rattle.shore_script.proofs.settings.stores_of.Goals as goal

pub loop-count-preserved : goal.loop-count-preserved
loop-count-preserved c =
    let values : List Value = c.deref-count-items.result.now in
    let i : ℕ = c.loop-count.count-index in
    let found = c.in-Some-short_number_in in
    let more = wholes-more values i c.count-item.result c.loop-count.stores found.pages c.loop-count-test.true c.count-item.is found.ensures c.loop-count.invariant in
    ap (λ (k : ℕ). items_view (take k values)) (add-one i) ∙ more ∙ ap (λ (l : List ℕ). items_of (map whole l)) (sym c.in_ok-push-in-Some-short_number_in.ensures.ok)

pub returns : goal.returns
returns c =
    let values : List Value = c.deref-count-items.result.now in
    let stores : List ℕ = c.loop-count.stores in
    let all : items_view values ≡ items_of (map whole stores) =
    ap (λ (l : List Value). items_view l) (sym (take_all c.loop-count.count-index values c.loop-count-test.false)) ∙ c.loop-count.invariant in
    let counts = array-is (view c.in-Some.value.now) (array_view c.in-Some-as_array.counts.now) (sym c.in-Some-as_array.ensures) in
    let whole_array = counts ∙ ap (λ (l : List Value). array (items_view l)) (sym c.deref-count-items.ensures.value) ∙ ap array all in
    subst (λ (o : Option Data). AreStores o stores) c.in-Some.ensures whole_array
