use Rattle.std.proofs.Common.{◌≡◌, ◌+◌, ◌*◌, ℕ, List, length, replicate, ap, ◌∙◌, arith}
use Rattle.std.proofs.lemmas.List.{with_items_is, length-replicate}
use Rattle.shore_heap.specs.Maxima.{leaves_of}
use Rattle.shore_heap.proofs.LeafLemmas.{leaves-guard, leaves-replicate}
use Rattle.shore_heap.proofs.free_map.FreeMap.new.Goals as goal

pub returns : goal.returns
returns c =
    let pages = c.args.pages in
    let items : c.in_ok-tree.tree.items ≡ replicate (2 * (pages + 1)) 12001 = c.in_ok-tree.ensures.items_if_clones_equal (λ a same. same) in
    let old : length c.deref_mut.result.now ≡ 2 * (pages + 1) = omega (arith, ap (λ (l : List ℕ). length l) (c.deref_mut.ensures.value ∙ items), length-replicate {A = ℕ} (2 * (pages + 1)) 12001) in
    let after = with_items_is c.in_ok-tree.tree c.put.new.tree (omega (arith, old, c.put.ensures.tree.whole, c.deref_mut.ensures.len)) in
    ap (λ (l : List ℕ). leaves_of l pages) after ∙ leaves-guard c.deref_mut.result.now c.put.new.tree pages old c.put.ensures.tree.whole c.put.ensures.others
    ∙ ap (λ (l : List ℕ). leaves_of l pages) (c.deref_mut.ensures.value ∙ items) ∙ leaves-replicate pages 12001
