use Rattle.std.proofs.Common.{◌≡◌, ◌<◌, ◌+◌, ◌*◌, min, ℕ, List, length, get_or, sym, ap, subst, ◌∙◌, arith}
use Rattle.std.proofs.Math.ListN.{set}
use Rattle.std.proofs.lemmas.List.{with_items_is, get_or_default}
use Rattle.shore_heap.specs.Maxima.{IsGuarded, leaves_of}
use Rattle.shore_heap.proofs.LeafLemmas.{leaves-set, kept-set, length-leaves, get-leaves}
use Rattle.shore_heap.proofs.free_map.FreeMap.refuse.Goals as goal

pub invariant_of-self : goal.invariant_of-self
invariant_of-self c =
    let pages = c.self.inside.pages in
    let whole = c.self.invariant.maxima.whole in
    let old : length c.deref_mut.result.now ≡ 2 * (pages + 1) = omega (arith, whole, ap (λ (l : List ℕ). length l) c.deref_mut.ensures.value) in
    let there : c.args.page < pages = omega (arith, length-leaves c.self.inside.tree.items pages whole, ap (λ (l : List ℕ). length l) c.self.view_is, c.requires) in
    let after = with_items_is c.self.inside.tree c.put.new.tree (omega (arith, old, c.put.ensures.tree.whole, c.deref_mut.ensures.len)) in
    let kept = subst (λ (l : List ℕ). IsGuarded l pages) (sym c.deref_mut.ensures.value) c.self.invariant in
    let bound : c.index.result.now ≡ get_or c.self.inside.tree.items (pages + 1 + c.args.page) 0 =
    c.index.ensures ∙ get_or_default c.self.inside.tree.items (pages + 1 + c.args.page) c.index.result.now 0 (omega (arith, whole)) in
    subst (λ (l : List ℕ). IsGuarded l pages) (sym after) (kept-set c.deref_mut.result.now c.put.new.tree pages c.args.page c.args.bytes kept c.put.ensures.tree there (omega (arith, bound, c.self.invariant.bounds c.args.page there, c.if-bytes-index.true)) c.put.ensures.here c.put.ensures.others)

pub returns-then-bytes-index : goal.returns-then-bytes-index
returns-then-bytes-index c =
    let pages = c.self.inside.pages in
    let whole = c.self.invariant.maxima.whole in
    let old : length c.deref_mut.result.now ≡ 2 * (pages + 1) = omega (arith, whole, ap (λ (l : List ℕ). length l) c.deref_mut.ensures.value) in
    let there : c.args.page < pages = omega (arith, length-leaves c.self.inside.tree.items pages whole, ap (λ (l : List ℕ). length l) c.self.view_is, c.requires) in
    let after = with_items_is c.self.inside.tree c.put.new.tree (omega (arith, old, c.put.ensures.tree.whole, c.deref_mut.ensures.len)) in
    let bound : c.index.result.now ≡ get_or c.args.self.now c.args.page 0 =
    c.index.ensures ∙ get_or_default c.self.inside.tree.items (pages + 1 + c.args.page) c.index.result.now 0 (omega (arith, whole))
    ∙ sym (get-leaves c.self.inside.tree.items pages c.args.page there) ∙ ap (λ (l : List ℕ). get_or l c.args.page 0) c.self.view_is in
    let lower : c.args.bytes ≡ min (get_or c.args.self.now c.args.page 0) c.args.bytes = omega (arith, bound, c.if-bytes-index.true) in
    ap (λ (l : List ℕ). leaves_of l pages) after ∙ leaves-set c.deref_mut.result.now c.put.new.tree pages c.args.page c.args.bytes old c.put.ensures.tree.whole there c.put.ensures.here c.put.ensures.others
    ∙ ap (λ (l : List ℕ). set (leaves_of l pages) c.args.page c.args.bytes) c.deref_mut.ensures.value ∙ ap (λ (l : List ℕ). set l c.args.page c.args.bytes) c.self.view_is
    ∙ ap (λ (n : ℕ). set c.args.self.now c.args.page n) lower
