use Rattle.std.proofs.Common.{sym, ap, refl}
use Rattle.shore_model.specs.declared.calls.Answer.TheVariants.{Scanned}
use Rattle.shore_model.specs.declared.calls.Call.TheVariants as call
use Rattle.laws_calls.proofs.PlainReads.{scan_leaves}
use Rattle.shore_core.proofs.Lookups.{scan_fault}
use Rattle.shore_core.proofs.Taking.{served_as}
use Rattle.shore_core.specs.Cores.{geometry_of}
use Rattle.shore_core.proofs.Serving.{call_then, nothing_called, refused_as}
use Rattle.shore_core.proofs.core_calls.Core.scan.Goals as goal

pub returns-in_err-pairs-clause-served : goal.returns-in_err-pairs-clause-served
returns-in_err-pairs-clause-served g c running front disk before s plain is safe over a mem =
    let old = c.args.self.now in
    served_as old _ front before s plain a (call.Scan c.args.store) c.from_residual.result _ c.from_residual.ensures.1
    (scan_fault (geometry_of old) s a c.args.store _ (c.in_err-pairs.ensures.refused running front disk before s plain is safe over)) (c.in_err-pairs.ensures.stays front disk before s plain is safe over)

pub returns-clause-served : goal.returns-clause-served
returns-clause-served g c running front disk before s plain is safe over a mem = record {
  later = s;
  serves = (ap Scanned (c.in_ok-pairs.ensures.pairs running front disk before s plain is safe over), sym (scan_leaves s a safe.roomy.pages.once mem (Scanned c.in_ok-pairs.pairs) c.args.store));
  comes = c.in_ok-pairs.ensures.stays front disk before s plain is safe over;
}

pub returns-in_err-pairs-clause-serves : goal.returns-in_err-pairs-clause-serves
returns-in_err-pairs-clause-serves g c = refused_as _ _ _ _ _ _ c.from_residual.ensures.1 c.in_err-pairs.ensures.serves c.in_err-pairs.ensures.reads.failed

pub returns-clause-serves : goal.returns-clause-serves
returns-clause-serves g c = call_then _ _ _ _ c.pairs_of.new.self _ _ _ c.in_ok-pairs.ensures.serves c.in_ok-pairs.ensures.reads.failed (nothing_called _ _ refl refl refl refl) tt refl
