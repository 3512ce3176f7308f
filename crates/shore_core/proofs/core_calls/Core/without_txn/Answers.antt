use Rattle.std.proofs.Common.{refl, sym, subst, ◌∙◌}
use Rattle.shore_types.specs.declared.faults.Fault.TheVariants as fault
use Rattle.shore_model.specs.declared.calls.Call.{Call}
use Rattle.shore_model.specs.declared.calls.Call.TheVariants as call
use Rattle.shore_core.specs.Replies.{Called, Reads, ServesCall, forced_at}
use Rattle.shore_core.proofs.Opening.{needs_txn, replied_none}
use Rattle.shore_core.proofs.Settling.{refused_calls, replied_calls}
use Rattle.shore_core.proofs.Serving.{call_still}
use Rattle.shore_core.proofs.core_calls.Core.without_txn.Goals as goal

pub returns-in-Begin-clause-replied : goal.returns-in-Begin-clause-replied
returns-in-Begin-clause-replied g c running front disk before s store is safe over idle =
    subst (λ (it : Call). Called c.args.session it c.begin.result c.args.self.now c.begin.new.self front before s store) (sym c.in-Begin.is)
    (replied_calls c.args.self.now _ front before s store c.args.session call.Begin c.begin.result refl (c.begin.ensures.replied running front disk before s store is safe over idle))

pub returns-in_default-clause-replied : goal.returns-in_default-clause-replied
returns-in_default-clause-replied g c running front disk before s store is safe over idle =
    let old = c.args.self.now in
    refused_calls old _ front before s store c.args.session c.args.call.now _ fault.NoTransaction refl
    (replied_none old front disk before s store c.args.session c.args.call.now is over safe.after.sessions.seats (needs_txn c.args.call.now c.requires.own c.in_default.not-Begin) (is.beside.parts.failed_is ∙ running) idle c.requires.none)

pub returns-in-Begin-clause-serves : goal.returns-in-Begin-clause-serves
returns-in-Begin-clause-serves g c =
    subst (λ (it : Call). ServesCall (Reads it) (forced_at it c.args.self.now c.begin.new.self) c.begin.result c.args.self.now c.begin.new.self) (sym c.in-Begin.is) c.begin.ensures.serves

pub returns-in_default-clause-serves : goal.returns-in_default-clause-serves
returns-in_default-clause-serves g c = call_still _ _ _ _ _ refl refl refl refl tt tt
