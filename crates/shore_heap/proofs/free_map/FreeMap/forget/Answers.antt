use Rattle.std.proofs.Common.{◌≡◌, ◌<◌, ◌+◌, ◌*◌, ℕ, List, length, sym, ap, subst, ◌∙◌, arith}
use Rattle.std.proofs.Math.ListN.{set}
use Rattle.std.proofs.lemmas.List.{with_items_is}
use Rattle.shore_heap.specs.Maxima.{IsGuarded, leaves_of}
use Rattle.shore_heap.proofs.LeafLemmas.{leaves-set, kept-set, length-leaves}
use Rattle.shore_heap.proofs.free_map.FreeMap.forget.Goals as goal

pub invariant_of-self : goal.invariant_of-self
invariant_of-self c =
    let pages = c.self.inside.pages in
    let whole = c.self.invariant.maxima.whole in
    let old : length c.deref_mut.result.now ≡ 2 * (pages + 1) = omega (arith, whole, ap (λ (l : List ℕ). length l) c.deref_mut.ensures.value) in
    let there : c.args.page < pages = omega (arith, length-leaves c.self.inside.tree.items pages whole, ap (λ (l : List ℕ). length l) c.self.view_is, c.requires) in
    let after = with_items_is c.self.inside.tree c.put.new.tree (omega (arith, old, c.put.ensures.tree.whole, c.deref_mut.ensures.len)) in
    let kept = subst (λ (l : List ℕ). IsGuarded l pages) (sym c.deref_mut.ensures.value) c.self.invariant in
    subst (λ (l : List ℕ). IsGuarded l pages) (sym after) (kept-set c.deref_mut.result.now c.put.new.tree pages c.args.page 12001 kept c.put.ensures.tree there (omega arith) c.put.ensures.here c.put.ensures.others)

pub returns : goal.returns
returns c =
    let pages = c.self.inside.pages in
    let whole = c.self.invariant.maxima.whole in
    let old : length c.deref_mut.result.now ≡ 2 * (pages + 1) = omega (arith, whole, ap (λ (l : List ℕ). length l) c.deref_mut.ensures.value) in
    let there : c.args.page < pages = omega (arith, length-leaves c.self.inside.tree.items pages whole, ap (λ (l : List ℕ). length l) c.self.view_is, c.requires) in
    let after = with_items_is c.self.inside.tree c.put.new.tree (omega (arith, old, c.put.ensures.tree.whole, c.deref_mut.ensures.len)) in
    ap (λ (l : List ℕ). leaves_of l pages) after ∙ leaves-set c.deref_mut.result.now c.put.new.tree pages c.args.page 12001 old c.put.ensures.tree.whole there c.put.ensures.here c.put.ensures.others
    ∙ ap (λ (l : List ℕ). set (leaves_of l pages) c.args.page 12001) c.deref_mut.ensures.value ∙ ap (λ (l : List ℕ). set l c.args.page 12001) c.self.view_is
