use Rattle.std.proofs.Common.{inr, None, IsSome, refl, sym, subst, ◌∙◌, inl, ◌<◌}
use Rattle.shore_types.specs.declared.locking.Granule.TheVariants.{Record}
use Rattle.shore_types.specs.declared.locking.Mode.TheVariants.{EX}
use Rattle.shore_model.specs.declared.calls.Call.TheVariants as call
use Rattle.shore_path.specs.Acquires.{IsReached}
use Rattle.shore_heap.specs.Heaps.{frame_of}
use Rattle.laws_calls.specs.CallSteps.{Finds}
use Rattle.shore_sessions.specs.Controls.{locks_in, txns_in}
use Rattle.shore_sessions.specs.Standing.{changed}
use Rattle.shore_core.specs.Callers.{IsOfCaller}
use Rattle.shore_core.specs.Cores.{IsSafe, geometry_of}
use Rattle.shore_core.proofs.Coming.{comes_then}
use Rattle.shore_core.proofs.Refusing.{delete_fault, delete_unlogged, gone_fits, map_some}
use Rattle.shore_core.proofs.Taking.{served_as}
use Rattle.shore_core.proofs.Serving.{as_aside, call_then, refused_as, refused_then}
use Rattle.laws_calls.specs.StateChanges.{MayChange}
use Rattle.shore_types.specs.declared.layout.Geometry.{Geometry}
use Rattle.shore_types.specs.Versions.{slot_limit}
use Rattle.shore_core.proofs.core_calls.Core.delete.Goals as goal

pub returns-in_err-find-clause-served : goal.returns-in_err-find-clause-served
returns-in_err-find-clause-served g c running front disk before s store is safe over a of locked =
    let old = c.args.self.now in
    served_as old _ front before s store a (call.Delete c.args.id) c.from_residual.result _ c.from_residual.ensures.1
    (delete_fault (geometry_of old) s a c.args.id _ (c.in_err-find.ensures.refused running front disk before s store is safe over))
    (c.in_err-find.ensures.stays front disk before s store is safe over)

pub change-requires-clause-own : goal.change-requires-clause-own
change-requires-clause-own g c = subst (λ k. IsOfCaller c.args.seat.now (txns_in k)) (sym c.in_ok-find.ensures.reads.control) c.requires.own

pub change-requires-clause-found : goal.change-requires-clause-found
change-requires-clause-found g c =
    map_some _ _ (frame_of c.find.new.self.heap c.args.id.page) (λ f h. (h, gone_fits (geometry_of c.find.new.self).version f.page.slots c.args.id.slot c.in_ok-find.field-0 (subst (λ (it : Geometry). c.args.id.slot < slot_limit it.version) (sym c.in_ok-find.ensures.reads.volume.geometry) c.requires.there.1) h)) c.in_ok-find.ensures.framed

pub returns-in_err-change-clause-served : goal.returns-in_err-change-clause-served
returns-in_err-change-clause-served g c running front disk before s store is safe over a of locked =
    let old = c.args.self.now in
    let reads = c.in_ok-find.ensures.reads in
    let comes = c.in_ok-find.ensures.stays front disk before s store is safe over in
    let there : Finds s c.args.id = subst IsSome (sym (c.in_ok-find.ensures.found running front disk before s store is safe over)) refl in
    let h = c.in_err-change.ensures.changed (reads.failed ∙ running) front comes.left before s comes.after comes.is_in (subst (λ it. IsSafe it s) (sym reads.volume.geometry) safe) comes.over a of
    (subst (λ it. IsReached (locks_in it).requests a.txn (Record c.args.id) EX) (sym reads.control) locked) in
    served_as old c.change.new.self front before s store a (call.Delete c.args.id) c.from_residual-in_err-change.result _ c.from_residual-in_err-change.ensures.1
    (delete_unlogged (geometry_of old) s a c.args.id there _ h.0)
    (inr (comes_then c.find.new.self c.change.new.self front before s s store comes h.1))

pub returns-clause-served : goal.returns-clause-served
returns-clause-served g c running front disk before s store is safe over a of locked =
    let reads = c.in_ok-find.ensures.reads in
    let comes = c.in_ok-find.ensures.stays front disk before s store is safe over in
    let there : Finds s c.args.id = subst IsSome (sym (c.in_ok-find.ensures.found running front disk before s store is safe over)) refl in
    let h = c.in_ok-change.ensures.changed (reads.failed ∙ running) front comes.left before s comes.after comes.is_in (subst (λ it. IsSafe it s) (sym reads.volume.geometry) safe) comes.over a of
    (subst (λ it. IsReached (locks_in it).requests a.txn (Record c.args.id) EX) (sym reads.control) locked) in
    record {
      later = changed s a c.args.id None h.0;
      serves = (there, refl, (h.0, subst (λ (it : Geometry). MayChange it.version s c.args.id None h.0) c.in_ok-find.ensures.reads.volume.geometry h.1, refl));
      comes = comes_then c.find.new.self c.change.new.self front before s (changed s a c.args.id None h.0) store comes h.2;
    }

pub returns-in_err-find-clause-serves : goal.returns-in_err-find-clause-serves
returns-in_err-find-clause-serves g c = refused_as _ _ _ _ _ _ c.from_residual.ensures.1 c.in_err-find.ensures.serves c.in_err-find.ensures.reads.failed

pub returns-in_err-change-clause-serves : goal.returns-in_err-change-clause-serves
returns-in_err-change-clause-serves g c =
    refused_then _ _ _ _ c.find.new.self _ _ _ _ c.from_residual-in_err-change.ensures.1 c.in_ok-find.ensures.serves c.in_ok-find.ensures.reads.failed c.change.ensures.no_call
    (elim c.in_err-change.ensures.refused [ inl memory ↦ as_aside _ _ memory tt | inr full ↦ as_aside _ _ full tt ])

pub returns-clause-serves : goal.returns-clause-serves
returns-clause-serves g c = call_then _ _ _ _ c.find.new.self _ _ _ c.in_ok-find.ensures.serves c.in_ok-find.ensures.reads.failed c.change.ensures.no_call tt refl
