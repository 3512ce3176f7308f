use Rattle.std.proofs.Common.{◌≢◌, inl, inr, All, Err, refl, sym, subst, ◌∙◌}
use Rattle.shore_types.specs.declared.faults.Fault.TheVariants as fault
use Rattle.shore_model.specs.declared.calls.Call.TheVariants as call
use Rattle.shore_model.specs.declared.calls.Outcome.{Outcome}
use Rattle.shore_model.specs.declared.calls.Outcome.TheVariants as outcome
use Rattle.laws_calls.specs.Resolves.{MayResolve}
use Rattle.laws_calls.specs.States.{DoesNotWait}
use Rattle.shore_sessions.specs.declared.waits.WaitingCall.{WaitingCall}
use Rattle.shore_core.specs.Cores.{geometry_of, waits_of}
use Rattle.shore_core.specs.Replies.{Reads, Replied, ServesCall, forced_at}
use Rattle.shore_core.proofs.Decided.{names_apart, resolve_refused}
use Rattle.shore_core.proofs.Serving.{call_still}
use Rattle.shore_core.proofs.Taking.{true_false}
use Rattle.shore_core.proofs.core_calls.Core.resolve.Goals as goal

pub returns-then-not-may_resolve-clause-replied : goal.returns-then-not-may_resolve-clause-replied
returns-then-not-may_resolve-clause-replied g c ready front disk before s store is safe over idle =
    let works = is.beside.parts.failed_is ∙ ready in
    resolve_refused c.args.self.now front disk before s store c.args.session c.args.global c.args.outcome is over works idle (Err fault.AlreadyActive) fault.AlreadyActive refl
    (inl (refl, λ may. true_false (sym ((c.may_resolve.ensures s is.beside.parts.stands safe.after.sessions.seats works idle).1 may) ∙ c.if-not-may_resolve.true))) refl

pub returns-in_default-clause-replied : goal.returns-in_default-clause-replied
returns-in_default-clause-replied g c ready front disk before s store is safe over idle =
    let works = is.beside.parts.failed_is ∙ ready in
    let may = (c.may_resolve.ensures s is.beside.parts.stands safe.after.sessions.seats works idle).0 c.if-not-may_resolve.false in
    resolve_refused c.args.self.now front disk before s store c.args.session c.args.global c.args.outcome is over works idle (Err fault.NoGlobalId) fault.NoGlobalId refl
    (inr (inl (refl, may, λ a its. c.in_default.ensures.none s a is.beside.parts.stands works (names_apart (geometry_of c.args.self.now) s safe) its))) refl

pub resolve_to_commit-requires-clause-free : goal.resolve_to_commit-requires-clause-free
resolve_to_commit-requires-clause-free g c = subst (λ n. All (λ (w : WaitingCall). w.session ≢ n) (waits_of c.args.self.now)) (sym c.in-Some.ensures.some.1) c.requires

pub resolve_to_abort-requires-clause-free : goal.resolve_to_abort-requires-clause-free
resolve_to_abort-requires-clause-free g c = subst (λ n. All (λ (w : WaitingCall). w.session ≢ n) (waits_of c.args.self.now)) (sym c.in-Some.ensures.some.1) c.requires

pub returns-in-Commit-clause-replied : goal.returns-in-Commit-clause-replied
returns-in-Commit-clause-replied g c ready front disk before s store is safe over idle =
    let old = c.args.self.now in
    let new = c.resolve_to_commit.new.self in
    let result = c.resolve_to_commit.result in
    let works = is.beside.parts.failed_is ∙ ready in
    let may = (c.may_resolve.ensures s is.beside.parts.stands safe.after.sessions.seats works idle).0 c.if-not-may_resolve.false in
    let of = c.in-Some.ensures.some.1 in
    subst (λ (o : Outcome). Replied c.args.session (call.Resolve c.args.global o) result old new front before s store) (sym c.in-Commit.is)
    (subst (λ n. Replied n (call.Resolve c.args.global outcome.Commit) result old new front before s store) of
    (c.resolve_to_commit.ensures.replied ready front disk before s store is safe over (subst (DoesNotWait s) (sym of) idle) (subst (λ n. MayResolve s n c.args.global) (sym of) may)
    (c.in-Some.ensures.can s is.beside.parts.stands works)))

pub returns-in-Abort-clause-replied : goal.returns-in-Abort-clause-replied
returns-in-Abort-clause-replied g c ready front disk before s store is safe over idle =
    let old = c.args.self.now in
    let new = c.resolve_to_abort.new.self in
    let result = c.resolve_to_abort.result in
    let works = is.beside.parts.failed_is ∙ ready in
    let may = (c.may_resolve.ensures s is.beside.parts.stands safe.after.sessions.seats works idle).0 c.if-not-may_resolve.false in
    let of = c.in-Some.ensures.some.1 in
    subst (λ (o : Outcome). Replied c.args.session (call.Resolve c.args.global o) result old new front before s store) (sym c.in-Abort.is)
    (subst (λ n. Replied n (call.Resolve c.args.global outcome.Abort) result old new front before s store) of
    (c.resolve_to_abort.ensures.replied ready front disk before s store is safe over (subst (DoesNotWait s) (sym of) idle) (subst (λ n. MayResolve s n c.args.global) (sym of) may)
    (c.in-Some.ensures.can s is.beside.parts.stands works)))

pub returns-then-not-may_resolve-clause-serves : goal.returns-then-not-may_resolve-clause-serves
returns-then-not-may_resolve-clause-serves g c = call_still _ _ _ _ _ refl refl refl refl tt tt

pub returns-in_default-clause-serves : goal.returns-in_default-clause-serves
returns-in_default-clause-serves g c = call_still _ _ _ _ _ refl refl refl refl tt tt

pub returns-in-Commit-clause-serves : goal.returns-in-Commit-clause-serves
returns-in-Commit-clause-serves g c =
    subst (λ (o : Outcome). ServesCall (Reads (call.Resolve c.args.global o)) (forced_at (call.Resolve c.args.global o) c.args.self.now c.resolve_to_commit.new.self) c.resolve_to_commit.result c.args.self.now c.resolve_to_commit.new.self)
    (sym c.in-Commit.is) c.resolve_to_commit.ensures.serves

pub returns-in-Abort-clause-serves : goal.returns-in-Abort-clause-serves
returns-in-Abort-clause-serves g c =
    subst (λ (o : Outcome). ServesCall (Reads (call.Resolve c.args.global o)) (forced_at (call.Resolve c.args.global o) c.args.self.now c.resolve_to_abort.new.self) c.resolve_to_abort.result c.args.self.now c.resolve_to_abort.new.self)
    (sym c.in-Abort.is) c.resolve_to_abort.ensures.serves
