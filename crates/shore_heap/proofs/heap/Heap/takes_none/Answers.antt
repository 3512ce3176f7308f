use Rattle.std.proofs.Common.{◌≡◌, ℕ, Option, Some, None, is_some, not, false, refl, ap, ◌∙◌, subst}
use Rattle.shore_pool.specs.Pools as pools
use Rattle.shore_heap.specs.Contents.{TakesNone}
use Rattle.shore_heap.proofs.Frames.{of_lent}
use Rattle.shore_heap.proofs.Rooms.{no_candidate}
use Rattle.shore_heap.specs.Heaps.{geometry_of}
use Rattle.shore_types.specs.declared.versions.Version.{Version}
use Rattle.shore_heap.proofs.OwnVersions.{own_version}
use Rattle.shore_heap.proofs.heap.Heap.takes_none.Goals as goal

none_there : (o : Option ℕ) → is_some o ≡ false → o ≡ None
none_there None is = refl
none_there (Some x) is = cc

pub returns-in-Some : goal.returns-in-Some
returns-in-Some g c is =
    let slots = c.in-Some.page.now.slots in
    let none = none_there c.candidate.result (c.is_none.ensures ∙ ap not is) in
    of_lent (λ slots. TakesNone (geometry_of c.args.self.now).version slots c.args.bytes) (pools.frame_of c.args.self.now.pool c.args.id.now) c.in-Some.page.now c.in-Some.ensures
    (subst (λ (v : Version). TakesNone v slots c.args.bytes) (own_version c.args.self.now.pool c.args.id.now c.in-Some.page.now c.in-Some.ensures)
    (no_candidate c.in-Some.page.now.version slots c.args.bytes (c.candidate.ensures.none none)))
