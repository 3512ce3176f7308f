use Rattle.std.proofs.Common.{◌≡◌, Option, Some, None, List, [], ℕ, length, map, refl, sym, ap, subst, ◌∙◌}
use Rattle.shore_types.specs.declared.ids.PageId.{PageId}
use Rattle.shore_types.specs.declared.layout.Geometry.{Geometry}
use Rattle.shore_dwrite.specs.Settled as settled_device
use Rattle.shore_dwrite.specs.Volumes.{page_number}
use Rattle.shore_page.specs.Slots.{Slot, settled}
use Rattle.shore_pool.specs.declared.frame.Frame.{Frame}
use Rattle.shore_pool.specs.Pools as pools
use Rattle.shore_heap.specs.Contents.{AreBounds, HasSlots, unclaimed}
use Rattle.shore_heap.proofs.Bounds.{bounds_unknown, lengths_unknown}
use Rattle.shore_heap.proofs.Frames.{Have}
use Rattle.shore_pool.proofs.UnderWay.{held_none, rests_at}
use Rattle.shore_heap.proofs.heap.Heap.new.Goals as goal

pub invariant_of-result : goal.invariant_of-result
invariant_of-result g c =
    let geometry : pools.geometry_of c.in_ok-pool.pool ≡ settled_device.geometry_of c.args.device = ap settled_device.geometry_of c.in_ok-pool.ensures.device in
    record { maps = ap (map length) c.in-Ok.ensures ∙ lengths_unknown _ ∙ ap (λ (g : Geometry). g.stores) (c.geometry.ensures ∙ sym geometry) }

pub returns-clause-shows : goal.returns-clause-shows
returns-clause-shows g c front disk number images is_settled texts =
    let pool = c.in_ok-pool.pool in
    let geometry : pools.geometry_of pool ≡ settled_device.geometry_of c.args.device = ap settled_device.geometry_of c.in_ok-pool.ensures.device in
    let S : PageId → List Slot = λ id. map settled (images id) in
    let have : Have (settled_device.geometry_of c.args.device) (pools.frame_at pool) disk unclaimed S =
    λ id has. subst (λ (o : Option Frame). HasSlots (settled_device.geometry_of c.args.device).version o (disk (page_number (settled_device.geometry_of c.args.device) id)) id [] (S id)) (sym (c.in_ok-pool.ensures.empty (page_number (settled_device.geometry_of c.args.device) id)))
    (number id, images id, texts id has, refl, tt) in
    let bounds : AreBounds c.geometry.result.now c.in-Ok.free.items S = subst (λ (l : List (List ℕ)). AreBounds c.geometry.result.now l S) (sym c.in-Ok.ensures) (bounds_unknown c.geometry.result.now S) in
    record {
      holds = record {
        settled = rests_at pool.amid pool.device front disk (pools.batch_of pool) (pools.batch_texts_of pool) c.in_ok-pool.ensures.rests (subst (λ d. settled_device.IsSettled d front disk) (sym c.in_ok-pool.ensures.device) is_settled);
        held = held_none _ pool.amid (pools.frame_at pool) (pools.batch_of pool) (pools.batch_texts_of pool) c.in_ok-pool.ensures.rests;
        written = λ k f there clean. let clash : None ≡ Some f = sym (c.in_ok-pool.ensures.empty k) ∙ there in absurd cc;
      };
      pages = subst (λ (it : Geometry). Have it (pools.frame_at pool) disk unclaimed S) (sym geometry) have;
      bounds = subst (λ (it : Geometry). AreBounds it c.in-Ok.free.items S) (c.geometry.ensures ∙ sym geometry) bounds;
    }
