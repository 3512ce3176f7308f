use Rattle.std.proofs.Common.{refl}
use Rattle.shore_model.specs.declared.calls.Call.TheVariants as call
use Rattle.shore_core.proofs.Lookups.{get_fault, getu_fault, got, got_for_update}
use Rattle.shore_core.proofs.Taking.{served_as}
use Rattle.shore_core.specs.Cores.{geometry_of}
use Rattle.shore_core.proofs.Serving.{call_then, nothing_called, refused_as}
use Rattle.shore_core.proofs.core_calls.Core.get.Goals as goal

pub returns-in_err-bytes-clause-served : goal.returns-in_err-bytes-clause-served
returns-in_err-bytes-clause-served g c running front disk before s store is safe over a mem =
    let old = c.args.self.now in
    let why = c.in_err-bytes.ensures.refused running front disk before s store is safe over in
    let stays = c.in_err-bytes.ensures.stays front disk before s store is safe over in (
      served_as old _ front before s store a (call.Get c.args.id) c.from_residual.result _ c.from_residual.ensures.1 (get_fault (geometry_of old) s a c.args.id _ why) stays,
      served_as old _ front before s store a (call.GetForUpdate c.args.id) c.from_residual.result _ c.from_residual.ensures.1 (getu_fault (geometry_of old) s a c.args.id _ why) stays,
    )

pub returns-clause-served : goal.returns-clause-served
returns-clause-served g c running front disk before s store is safe over a mem =
    let old = c.args.self.now in
    let found = c.in_ok-bytes.ensures.found running front disk before s store is safe over in
    let stays = c.in_ok-bytes.ensures.stays front disk before s store is safe over in (
      record { later = s; serves = got (geometry_of old) s a c.args.id safe.roomy.pages.once mem _ found; comes = stays },
      record { later = s; serves = got_for_update (geometry_of old) s a c.args.id safe.roomy.pages.once mem _ found; comes = stays },
    )

pub returns-in_err-bytes-clause-serves : goal.returns-in_err-bytes-clause-serves
returns-in_err-bytes-clause-serves g c = refused_as _ _ _ _ _ _ c.from_residual.ensures.1 c.in_err-bytes.ensures.serves c.in_err-bytes.ensures.reads.failed

pub returns-clause-serves : goal.returns-clause-serves
returns-clause-serves g c = call_then _ _ _ _ c.find.new.self _ _ _ c.in_ok-bytes.ensures.serves c.in_ok-bytes.ensures.reads.failed (nothing_called _ _ refl refl refl refl) tt refl
