use Rattle.std.proofs.Common.{inl, inr, refl, ap, ◌∙◌}
use Rattle.shore_types.specs.declared.faults.Fault.TheVariants as fault
use Rattle.shore_model.specs.declared.calls.Answer.TheVariants.{AreInDoubt}
use Rattle.shore_model.specs.declared.calls.Call.TheVariants as call
use Rattle.shore_core.specs.Cores.{geometry_of}
use Rattle.shore_core.proofs.Coming.{comes_same}
use Rattle.shore_core.proofs.Decided.{names_apart}
use Rattle.shore_core.proofs.Serving.{call_still, refused_still}
use Rattle.shore_core.proofs.Taking.{replied_as}
use Rattle.shore_core.proofs.core_calls.Core.list_in_doubt.Goals as goal

pub returns-in_err-found-clause-replied : goal.returns-in_err-found-clause-replied
returns-in_err-found-clause-replied g c running front disk before s store is safe over idle =
    replied_as c.args.self.now c.args.self.now front before s store c.args.session call.InDoubt c.from_residual.result fault.Memory c.from_residual.ensures.1 (inl (refl, refl))
    (inr (comes_same c.args.self.now front disk before s store is over))

pub returns-in_err-found-clause-serves : goal.returns-in_err-found-clause-serves
returns-in_err-found-clause-serves g c = refused_still _ _ _ _ _ fault.Memory c.from_residual.ensures.1 refl refl refl refl tt

pub returns-clause-replied : goal.returns-clause-replied
returns-clause-replied g c running front disk before s store is safe over idle =
    let old = c.args.self.now in
    record {
      later = s;
      replies = inr (inr (inr (inr (inr (inr (inr (
        is.beside.parts.failed_is ∙ running,
        idle,
        inl (refl, (ap AreInDoubt (c.in_ok-found.ensures.listed s is.beside.parts.stands (names_apart (geometry_of old) s safe)), refl)),
      )))))));
      comes = comes_same old front disk before s store is over;
    }

pub returns-clause-serves : goal.returns-clause-serves
returns-clause-serves g c = call_still _ _ _ _ _ refl refl refl refl tt refl
