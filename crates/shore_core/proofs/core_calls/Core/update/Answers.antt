use Rattle.std.proofs.Common.{inl, inr, Some, IsSome, length, refl, sym, ap, subst, ◌∙◌}
use Rattle.shore_types.specs.declared.locking.Granule.TheVariants.{Record}
use Rattle.shore_types.specs.declared.locking.Mode.TheVariants.{EX}
use Rattle.shore_model.specs.declared.calls.Call.TheVariants as call
use Rattle.shore_path.specs.Acquires.{IsReached}
use Rattle.shore_page.specs.Room.{Fits}
use Rattle.shore_heap.specs.Heaps.{frame_of}
use Rattle.shore_txn.specs.Transactions.{kept_in}
use Rattle.laws_calls.specs.CallSteps.{Finds}
use Rattle.laws_calls.specs.States.{page_slots}
use Rattle.shore_sessions.specs.Controls.{locks_in, txns_in}
use Rattle.shore_sessions.specs.Standing.{changed}
use Rattle.shore_core.specs.Callers.{IsOfCaller}
use Rattle.shore_core.specs.Cores.{IsSafe, geometry_of, txns_of}
use Rattle.shore_core.proofs.Coming.{comes_then}
use Rattle.shore_core.proofs.Refusing.{both_some, map_some, update_fault, update_unlogged}
use Rattle.shore_core.proofs.Taking.{served_as, true_false}
use Rattle.shore_core.proofs.Serving.{as_aside, call_then, nothing_called, refused_as, refused_then}
use Rattle.laws_calls.specs.StateChanges.{MayChange}
use Rattle.shore_types.specs.declared.layout.Geometry.{Geometry}
use Rattle.shore_core.proofs.core_calls.Core.update.Goals as goal

pub returns-in_err-find-clause-served : goal.returns-in_err-find-clause-served
returns-in_err-find-clause-served g c running front disk before s store is safe over a of locked =
    let old = c.args.self.now in
    served_as old _ front before s store a (call.Update c.args.id c.args.bytes) c.from_residual.result _ c.from_residual.ensures.1
    (update_fault (geometry_of old) s a c.args.id c.args.bytes _ (c.in_err-find.ensures.refused running front disk before s store is safe over))
    (c.in_err-find.ensures.stays front disk before s store is safe over)

pub returns-then-not-fits-clause-served : goal.returns-then-not-fits-clause-served
returns-then-not-fits-clause-served g c running front disk before s store is safe over a of locked =
    let comes = c.in_ok-find.ensures.stays front disk before s store is safe over in
    let shows = comes.is_in.pages (is.beside.parts.failed_is ∙ running) in
    let there : Finds s c.args.id = subst IsSome (sym (c.in_ok-find.ensures.found running front disk before s store is safe over)) refl in
    let len = ap length c.as_slice.ensures in
    record {
      later = s;
      serves = inr (
        inr (inl (
          refl,
          there,
          λ fits. true_false (sym ((c.fits.ensures.shown (kept_in (txns_of c.find.new.self)) front comes.left (page_slots s) shows).1 (subst (Fits (geometry_of c.find.new.self).version (page_slots s c.args.id.page) c.args.id.slot) (sym len) (subst (λ (it : Geometry). Fits it.version (page_slots s c.args.id.page) c.args.id.slot (length c.args.bytes)) (sym c.in_ok-find.ensures.reads.volume.geometry) fits))) ∙ c.if-not-fits.true),
        )),
        refl,
      );
      comes = inr comes;
    }

pub change-requires-clause-own : goal.change-requires-clause-own
change-requires-clause-own g c = subst (λ k. IsOfCaller c.args.seat.now (txns_in k)) (sym c.in_ok-find.ensures.reads.control) c.requires.own

pub change-requires-clause-found : goal.change-requires-clause-found
change-requires-clause-found g c =
    both_some _ _ (frame_of c.find.new.self.heap c.args.id.page) c.in_ok-find.ensures.framed
    (map_some _ _ (frame_of c.find.new.self.heap c.args.id.page) (λ f h. subst (Fits (geometry_of c.find.new.self).version f.page.slots c.args.id.slot) (ap length c.as_slice.ensures) h) (c.if-not-fits.ensures.framed.0 refl))

pub returns-in_err-change-clause-served : goal.returns-in_err-change-clause-served
returns-in_err-change-clause-served g c running front disk before s store is safe over a of locked =
    let old = c.args.self.now in
    let reads = c.in_ok-find.ensures.reads in
    let comes = c.in_ok-find.ensures.stays front disk before s store is safe over in
    let shows = comes.is_in.pages (is.beside.parts.failed_is ∙ running) in
    let there : Finds s c.args.id = subst IsSome (sym (c.in_ok-find.ensures.found running front disk before s store is safe over)) refl in
    let fits : Fits (geometry_of c.args.self.now).version (page_slots s c.args.id.page) c.args.id.slot (length c.args.bytes) = subst (λ (it : Geometry). Fits it.version (page_slots s c.args.id.page) c.args.id.slot (length c.args.bytes)) reads.volume.geometry (subst (Fits (geometry_of c.find.new.self).version (page_slots s c.args.id.page) c.args.id.slot) (ap length c.as_slice.ensures) ((c.if-not-fits.ensures.shown (kept_in (txns_of c.find.new.self)) front comes.left (page_slots s) shows).0 refl)) in
    let h = c.in_err-change.ensures.changed (reads.failed ∙ running) front comes.left before s comes.after comes.is_in (subst (λ it. IsSafe it s) (sym reads.volume.geometry) safe) comes.over a of
    (subst (λ it. IsReached (locks_in it).requests a.txn (Record c.args.id) EX) (sym reads.control) locked) in
    served_as old c.change.new.self front before s store a (call.Update c.args.id c.args.bytes) c.from_residual-in_err-change.result _ c.from_residual-in_err-change.ensures.1
    (update_unlogged (geometry_of old) s a c.args.id there c.args.bytes _ fits h.0)
    (inr (comes_then c.find.new.self c.change.new.self front before s s store comes h.1))

pub returns-clause-served : goal.returns-clause-served
returns-clause-served g c running front disk before s store is safe over a of locked =
    let reads = c.in_ok-find.ensures.reads in
    let comes = c.in_ok-find.ensures.stays front disk before s store is safe over in
    let there : Finds s c.args.id = subst IsSome (sym (c.in_ok-find.ensures.found running front disk before s store is safe over)) refl in
    let h = c.in_ok-change.ensures.changed (reads.failed ∙ running) front comes.left before s comes.after comes.is_in (subst (λ it. IsSafe it s) (sym reads.volume.geometry) safe) comes.over a of
    (subst (λ it. IsReached (locks_in it).requests a.txn (Record c.args.id) EX) (sym reads.control) locked) in
    record {
      later = changed s a c.args.id (Some c.args.bytes) h.0;
      serves = (there, refl, (h.0, subst (λ (it : Geometry). MayChange it.version s c.args.id (Some c.args.bytes) h.0) reads.volume.geometry h.1, refl));
      comes = comes_then c.find.new.self c.change.new.self front before s (changed s a c.args.id (Some c.args.bytes) h.0) store comes h.2;
    }

pub returns-in_err-find-clause-serves : goal.returns-in_err-find-clause-serves
returns-in_err-find-clause-serves g c = refused_as _ _ _ _ _ _ c.from_residual.ensures.1 c.in_err-find.ensures.serves c.in_err-find.ensures.reads.failed

pub returns-in_err-change-clause-serves : goal.returns-in_err-change-clause-serves
returns-in_err-change-clause-serves g c =
    refused_then _ _ _ _ c.find.new.self _ _ _ _ c.from_residual-in_err-change.ensures.1 c.in_ok-find.ensures.serves c.in_ok-find.ensures.reads.failed c.change.ensures.no_call
    (elim c.in_err-change.ensures.refused [ inl memory ↦ as_aside _ _ memory tt | inr full ↦ as_aside _ _ full tt ])

pub returns-clause-serves : goal.returns-clause-serves
returns-clause-serves g c = call_then _ _ _ _ c.find.new.self _ _ _ c.in_ok-find.ensures.serves c.in_ok-find.ensures.reads.failed c.change.ensures.no_call tt refl

pub returns-then-not-fits-clause-serves : goal.returns-then-not-fits-clause-serves
returns-then-not-fits-clause-serves g c = call_then _ _ _ _ c.find.new.self _ _ _ c.in_ok-find.ensures.serves c.in_ok-find.ensures.reads.failed (nothing_called _ _ refl refl refl refl) tt tt
