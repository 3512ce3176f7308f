use Rattle.std.proofs.Common.{inl, inr, Err, refl, sym, subst, ◌∙◌}
use Rattle.shore_types.specs.declared.faults.Fault.TheVariants as fault
use Rattle.shore_model.specs.declared.calls.Call.{Call}
use Rattle.shore_model.specs.declared.calls.Call.TheVariants as call
use Rattle.shore_core.proofs.Callers.{seat_taken}
use Rattle.shore_core.specs.Cores.{control_of}
use Rattle.shore_core.specs.Replies.{Called, Reads, ServesCall, forced_at}
use Rattle.shore_core.proofs.Asking.{asks, forced_as_asked}
use Rattle.shore_core.proofs.Coming.{comes_same}
use Rattle.shore_core.proofs.Settling.{replied_calls}
use Rattle.shore_core.proofs.Serving.{call_still}
use Rattle.shore_core.proofs.core_calls.Core.in_txn.Goals as goal

pub returns-in-Begin-clause-replied : goal.returns-in-Begin-clause-replied
returns-in-Begin-clause-replied g c running front disk before s store is safe over idle =
    let old = c.args.self.now in
    let stands = is.beside.parts.stands in
    let session = c.args.seat.now.session in
    subst (λ (it : Call). Called session it (Err fault.AlreadyActive) old old front before s store) (sym c.in-Begin.is)
    (replied_calls old old front before s store session call.Begin (Err fault.AlreadyActive) refl (record {
      later = s;
      replies = inr (inr (inr (inl (is.beside.parts.failed_is ∙ running, idle, refl, (inl (refl, seat_taken (control_of old) c.args.seat.now c.requires.seated s stands c.requires.own), refl)))));
      comes = inr (comes_same old front disk before s store is over);
    }))

pub returns-in-Begin-clause-serves : goal.returns-in-Begin-clause-serves
returns-in-Begin-clause-serves g c =
    subst (λ (it : Call). ServesCall (Reads it) (forced_at it c.args.self.now c.args.self.now) (Err fault.AlreadyActive) c.args.self.now c.args.self.now) (sym c.in-Begin.is)
    (call_still _ _ _ _ _ refl refl refl refl tt tt)

pub returns-in-Commit-clause-replied : goal.returns-in-Commit-clause-replied
returns-in-Commit-clause-replied g c running front disk before s store is safe over idle =
    subst (λ (it : Call). Called c.args.seat.now.session it c.commit.result c.args.self.now c.commit.new.self front before s store) (sym c.in-Commit.is)
    (replied_calls c.args.self.now _ front before s store _ call.Commit c.commit.result refl (c.commit.ensures.replied running front disk before s store is safe over idle))

pub returns-in-Commit-clause-serves : goal.returns-in-Commit-clause-serves
returns-in-Commit-clause-serves g c =
    subst (λ (it : Call). ServesCall (Reads it) (forced_at it c.args.self.now c.commit.new.self) c.commit.result c.args.self.now c.commit.new.self) (sym c.in-Commit.is) c.commit.ensures.serves

pub returns-in-Prepare-clause-replied : goal.returns-in-Prepare-clause-replied
returns-in-Prepare-clause-replied g c running front disk before s store is safe over idle =
    subst (λ (it : Call). Called c.args.seat.now.session it c.prepare.result c.args.self.now c.prepare.new.self front before s store) (sym c.in-Prepare.is)
    (replied_calls c.args.self.now _ front before s store _ (call.Prepare c.in-Prepare.global) c.prepare.result refl (c.prepare.ensures.replied running front disk before s store is safe over idle))

pub returns-in-Prepare-clause-serves : goal.returns-in-Prepare-clause-serves
returns-in-Prepare-clause-serves g c =
    subst (λ (it : Call). ServesCall (Reads it) (forced_at it c.args.self.now c.prepare.new.self) c.prepare.result c.args.self.now c.prepare.new.self) (sym c.in-Prepare.is) c.prepare.ensures.serves

pub returns-in-Savepoint-clause-replied : goal.returns-in-Savepoint-clause-replied
returns-in-Savepoint-clause-replied g c running front disk before s store is safe over idle =
    subst (λ (it : Call). Called c.args.seat.now.session it c.savepoint.result c.args.self.now c.savepoint.new.self front before s store) (sym c.in-Savepoint.is)
    (replied_calls c.args.self.now _ front before s store _ call.Savepoint c.savepoint.result refl (c.savepoint.ensures.replied running front disk before s store is safe over idle))

pub returns-in-Savepoint-clause-serves : goal.returns-in-Savepoint-clause-serves
returns-in-Savepoint-clause-serves g c =
    subst (λ (it : Call). ServesCall (Reads it) (forced_at it c.args.self.now c.savepoint.new.self) c.savepoint.result c.args.self.now c.savepoint.new.self) (sym c.in-Savepoint.is) c.savepoint.ensures.serves

pub returns-in-BackTo-clause-replied : goal.returns-in-BackTo-clause-replied
returns-in-BackTo-clause-replied g c running front disk before s store is safe over idle =
    subst (λ (it : Call). Called c.args.seat.now.session it c.back_to.result c.args.self.now c.back_to.new.self front before s store) (sym c.in-BackTo.is)
    (replied_calls c.args.self.now _ front before s store _ (call.BackTo c.in-BackTo.index) c.back_to.result refl (c.back_to.ensures.replied running front disk before s store is safe over idle))

pub returns-in-BackTo-clause-serves : goal.returns-in-BackTo-clause-serves
returns-in-BackTo-clause-serves g c =
    subst (λ (it : Call). ServesCall (Reads it) (forced_at it c.args.self.now c.back_to.new.self) c.back_to.result c.args.self.now c.back_to.new.self) (sym c.in-BackTo.is) c.back_to.ensures.serves

pub returns-in-Abort-clause-replied : goal.returns-in-Abort-clause-replied
returns-in-Abort-clause-replied g c running front disk before s store is safe over idle =
    subst (λ (it : Call). Called c.args.seat.now.session it c.abort.result c.args.self.now c.abort.new.self front before s store) (sym c.in-Abort.is)
    (replied_calls c.args.self.now _ front before s store _ call.Abort c.abort.result refl (c.abort.ensures.replied running front disk before s store is safe over idle))

pub returns-in-Abort-clause-serves : goal.returns-in-Abort-clause-serves
returns-in-Abort-clause-serves g c =
    subst (λ (it : Call). ServesCall (Reads it) (forced_at it c.args.self.now c.abort.new.self) c.abort.result c.args.self.now c.abort.new.self) (sym c.in-Abort.is) c.abort.ensures.serves

pub returns-in_default-clause-replied : goal.returns-in_default-clause-replied
returns-in_default-clause-replied g c running front disk before s store is safe over idle =
    let calls = c.in_default in
    c.with_txn.ensures.replied (asks c.args.call c.requires.inner calls.not-Begin calls.not-Commit calls.not-Prepare calls.not-Savepoint calls.not-BackTo calls.not-Abort) running front disk before s store is safe over idle

pub returns-in_default-clause-serves : goal.returns-in_default-clause-serves
returns-in_default-clause-serves g c =
    let calls = c.in_default in
    let asked = asks c.args.call c.requires.inner calls.not-Begin calls.not-Commit calls.not-Prepare calls.not-Savepoint calls.not-BackTo calls.not-Abort in
    subst (λ at. ServesCall (Reads c.args.call) at c.with_txn.result c.args.self.now c.with_txn.new.self) (sym (forced_as_asked c.args.self.now c.with_txn.new.self c.args.call asked)) c.with_txn.ensures.serves
