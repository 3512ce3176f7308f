use Rattle.std.proofs.Common.{◌≡◌, ◌≤◌, ℕ, IfNone, IfSome, Option, None, Some, sym, subst, ◌∙◌, arith}
use Rattle.shore_disk.specs.declared.device.Disk.{Ghosts}
use Rattle.shore_heap.specs.Dirty.{IsDirtyFirst, IsDirtyIn, NoneDirty}
use Rattle.shore_heap.specs.Heaps.{frame_at}
use Rattle.shore_heap.specs.declared.heap.Heap.{Heap}
use Rattle.shore_model.specs.declared.log_records.DirtyPage.{DirtyPage}
use Rattle.shore_pool.specs.declared.frame.Frame.{Frame}
use Rattle.shore_txn.specs.Txns.{IsOf}
use Rattle.shore_txn.specs.declared.txn.Txn.{Txn}
use Rattle.shore_core.specs.Cores.{heap_of}
use Rattle.shore_core.specs.TailHolders.{IsSeated}
use Rattle.shore_core.proofs.core_calls.Core.tail_holder.Goals as goal

pages_later : {V : Type 0} {H : Ghosts V} (heap : Heap V H) (page : Option DirtyPage) (first : ℕ) → IfSome page (λ e. first ≤ e.recovery) → IfSome page (IsDirtyFirst heap) → IfNone page (NoneDirty heap)
    → (k : ℕ) (f : Frame) (recovery : ℕ) → frame_at heap k ≡ Some f → f.recovery ≡ Some recovery → first ≤ recovery
pages_later heap (Some e) first later least none k f recovery at dirty = let its = least k f recovery at dirty in omega (arith, later, its)
pages_later heap None first later least none k f recovery at dirty = let clash : Some recovery ≡ None = sym dirty ∙ none k f at in absurd cc

seated_in : (found : Option ℕ) (t : Txn) → IfSome found (λ session. IsOf session t) → IfNone found ((session : ℕ) → IsOf session t → ⊥) → IsSeated found t
seated_in None t some none = none
seated_in (Some session) t some none = some

pub returns-in-Some-before : goal.returns-in-Some-before
returns-in-Some-before g c =
    let heap = heap_of c.args.self.now in
    let found = c.in-Some-before.ensures.some in
    let first = c.first.ensures in
    record {
      dirty = subst (λ o. IfSome o (IsDirtyIn heap)) found.0 c.oldest_dirty-page.ensures.some;
      pages = subst (λ o. IfSome o (IsDirtyFirst heap)) found.0 c.oldest_dirty-page.ensures.least;
      txns = λ t m some. let least = c.in-Some.ensures.some.least t m some in let below = found.1 in omega (arith, first, least, below);
    }

pub returns-in-None-before : goal.returns-in-None-before
returns-in-None-before g c =
    let heap = heap_of c.args.self.now in
    let oldest = c.in-Some.oldest.now in
    let first = c.first.ensures in
    let again = c.first-in-None-before.ensures in
    record {
      held_by = oldest;
      oldest = c.in-Some.ensures.some;
      number = sym c.id.ensures.number;
      first_is = sym again;
      seated = seated_in c.seated.result oldest c.seated.ensures.some c.seated.ensures.none;
      pages = subst (λ n. (k : ℕ) (f : Frame) (recovery : ℕ) → frame_at heap k ≡ Some f → f.recovery ≡ Some recovery → n ≤ recovery) (first ∙ sym again)
          (pages_later heap c.oldest_dirty-page.result c.first.result c.in-None-before.ensures.none c.oldest_dirty-page.ensures.least c.oldest_dirty-page.ensures.none);
    }
