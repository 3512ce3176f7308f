use Rattle.std.proofs.Common.{◌++◌, ◌∷◌, [], None, Some, option_to_list, ap, ◌∙◌}
use Rattle.std.proofs.lemmas.List.{append-nil}
use Rattle.shore_heap.proofs.Keeping.{keeps_none, keeps_one, told_on}
use Rattle.shore_heap.specs.Heaps.{geometry_of}
use Rattle.shore_heap.proofs.heap.Heap.keep_claims.Goals as goal

pub loop-place-init : goal.loop-place-init
loop-place-init g c =
    let from = g.C.Claims.kept_from c.args.claims.now c.args.id.now in
    record {
      chain = c.newest-place.ensures.chain;
      end = c.newest-place.ensures.end;
      so_far = ([], append-nil (from c.newest-place.result) ∙ c.newest-place.ensures.all, keeps_none c.args.id.now c.args.self.now);
    }

pub loop-place-preserved : goal.loop-place-preserved
loop-place-preserved g c =
    let id = c.args.id.now in
    let from = g.C.Claims.kept_from c.args.claims.now id in
    let older = from c.place-claim.result.older in
    let was = c.loop-place.invariant in
    let told = c.place-claim.ensures.kept ∙ ap (λ o. older ++ option_to_list o) c.in_default.is in
    record {
      chain = c.place-claim.ensures.chain;
      end = was.end;
      so_far = (was.so_far.0, told_on (g.C.Claims.kept c.args.claims.now id) older (from c.loop-place.place) was.so_far.0 None told was.so_far.1, was.so_far.2);
    }

pub loop-place-preserved-in-Some : goal.loop-place-preserved-in-Some
loop-place-preserved-in-Some g c =
    let id = c.args.id.now in
    let from = g.C.Claims.kept_from c.args.claims.now id in
    let older = from c.place-claim.result.older in
    let was = c.loop-place.invariant in
    let kept = c.keep.ensures in
    let told = c.place-claim.ensures.kept ∙ ap (λ o. older ++ option_to_list o) c.in-Some.is in
    record {
      chain = c.place-claim.ensures.chain;
      end = was.end;
      so_far = (
        (c.in-Some.slot, c.in-Some.bytes) ∷ was.so_far.0,
        told_on (g.C.Claims.kept c.args.claims.now id) older (from c.loop-place.place) was.so_far.0 (Some (c.in-Some.slot, c.in-Some.bytes)) told was.so_far.1,
        keeps_one id was.so_far.0 c.in-Some.slot c.in-Some.bytes c.args.self.now c.loop-place.self c.keep.new.self was.so_far.2 kept.device kept.limit kept.bounds kept.here kept.either kept.dirt kept.others kept.kept,
      );
    }
