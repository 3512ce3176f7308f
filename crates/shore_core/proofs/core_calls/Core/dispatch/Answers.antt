use Rattle.std.proofs.Common.{sym, subst, refl}
use Rattle.shore_model.specs.declared.calls.Call.{Call}
use Rattle.shore_model.specs.declared.calls.Call.TheVariants as call
use Rattle.shore_core.specs.Replies.{Called, Reads, ServesCall, forced_at}
use Rattle.shore_core.proofs.Opening.{own_call}
use Rattle.shore_core.proofs.Settling.{replied_calls}
use Rattle.shore_core.proofs.core_calls.Core.dispatch.Goals as goal

pub returns-in-Resolve-clause-replied : goal.returns-in-Resolve-clause-replied
returns-in-Resolve-clause-replied g c running front disk before s store is safe over idle =
    let at = call.Resolve c.in-Resolve.global c.in-Resolve.outcome in
    subst (λ (it : Call). Called c.args.session it c.resolve.result c.args.self.now c.resolve.new.self front before s store) (sym c.in-Resolve.is)
    (replied_calls c.args.self.now _ front before s store c.args.session at c.resolve.result refl (c.resolve.ensures.replied running front disk before s store is safe over idle))

pub returns-in-InDoubt-clause-replied : goal.returns-in-InDoubt-clause-replied
returns-in-InDoubt-clause-replied g c running front disk before s store is safe over idle =
    subst (λ (it : Call). Called c.args.session it c.list_in_doubt.result c.args.self.now c.args.self.now front before s store) (sym c.in-InDoubt.is)
    (replied_calls c.args.self.now _ front before s store c.args.session call.InDoubt c.list_in_doubt.result refl (c.list_in_doubt.ensures.replied running front disk before s store is safe over idle))

pub in_session-requires-clause-own : goal.in_session-requires-clause-own
in_session-requires-clause-own g c = own_call c.args.call (λ global asked. c.in_default.not-Resolve global asked) c.in_default.not-InDoubt

pub returns-in-Resolve-clause-serves : goal.returns-in-Resolve-clause-serves
returns-in-Resolve-clause-serves g c =
    subst (λ (it : Call). ServesCall (Reads it) (forced_at it c.args.self.now c.resolve.new.self) c.resolve.result c.args.self.now c.resolve.new.self) (sym c.in-Resolve.is) c.resolve.ensures.serves

pub returns-in-InDoubt-clause-serves : goal.returns-in-InDoubt-clause-serves
returns-in-InDoubt-clause-serves g c =
    subst (λ (it : Call). ServesCall (Reads it) (forced_at it c.args.self.now c.args.self.now) c.list_in_doubt.result c.args.self.now c.args.self.now) (sym c.in-InDoubt.is) c.list_in_doubt.ensures.serves
