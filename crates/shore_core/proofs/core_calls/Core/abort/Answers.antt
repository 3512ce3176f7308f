use Rattle.std.proofs.Common.{◌≢◌, inl, inr, List, All, refl, sym, subst, ◌∙◌, arith}
use Rattle.shore_types.specs.declared.layout.Geometry.{Geometry}
use Rattle.shore_model.specs.declared.rollbacks.Rollback.TheVariants.{Whole}
use Rattle.shore_sessions.proofs.ControlSteps.{seat_in_txn}
use Rattle.shore_sessions.specs.declared.waits.WaitingCall.{WaitingCall}
use Rattle.shore_core.specs.Cores.{CoreComesTo, IsSafe, control_of, geometry_of}
use Rattle.shore_model.specs.declared.calls.Call.TheVariants as call
use Rattle.shore_core.proofs.Opening.{replied_prepared}
use Rattle.shore_core.proofs.Coming.{comes_then}
use Rattle.shore_core.proofs.Rolling.{aborts_done, goes_on_from, still_own}
use Rattle.shore_core.proofs.RolledBack.{interrupted_replied, no_images, unended_replied}
use Rattle.shore_core.proofs.Serving.{as_aside, call_then, keeps_of, refused_as, refused_still, refused_then}
use Rattle.shore_core.proofs.core_calls.Core.abort.Goals as goal

pub returns-in_err-put_back-clause-replied : goal.returns-in_err-put_back-clause-replied
returns-in_err-put_back-clause-replied g c running front disk before s store is safe over idle =
    let old = c.args.self.now in
    let own = seat_in_txn (control_of old) c.args.seat.now c.requires.seated (λ t m at. (c.requires.own t m at, c.in_ok-check_unprepared.ensures.unprepared t m at)) s is.beside.parts.stands in
    interrupted_replied old c.put_back.new.self front before s store c.args.seat.now.session own.0 safe (is.beside.parts.failed_is ∙ running) idle Whole tt (inl own.1) 0 refl c.from_residual-in_err-put_back.result _ c.from_residual-in_err-put_back.ensures.1
    (c.in_err-put_back.ensures.unwinds running front disk before s store is safe over own.0 idle (own.1.0.0, own.2) (inl own.1) tt refl (omega arith))

pub end-requires-clause-free : goal.end-requires-clause-free
end-requires-clause-free g c = subst (λ (ws : List WaitingCall). All (λ w. w.session ≢ c.args.seat.now.session) ws) (sym c.put_back.ensures.waits) c.requires.free

pub returns-in_err-end-clause-replied : goal.returns-in_err-end-clause-replied
returns-in_err-end-clause-replied g c running front disk before s store is safe over idle =
    let old = c.args.self.now in
    let mid = c.put_back.new.self in
    let works = is.beside.parts.failed_is ∙ running in
    let own = seat_in_txn (control_of old) c.args.seat.now c.requires.seated (λ t m at. (c.requires.own t m at, c.in_ok-check_unprepared.ensures.unprepared t m at)) s is.beside.parts.stands in
    let h = c.in_ok-put_back.ensures.unwinds running front disk before s store is safe over own.0 idle (own.1.0.0, own.2) (inl own.1) tt refl (omega arith) in
    let comes = h.2 in
    let here = goes_on_from (geometry_of old) s safe c.args.seat.now.session own.0 works idle Whole tt (inl own.1) own.1.0.0 own.1.0.2 0 h.0 (omega arith) h.1 in
    let keeps = keeps_of c.in_ok-put_back.ensures.serves c.in_ok-put_back.ensures.failed in
    let ends = c.in_err-end.ensures.ended (keeps.failed ∙ running) front comes.left before h.0 comes.after comes.is_in (subst (λ (it : Geometry). IsSafe it h.0) (sym keeps.volume.geometry) here.stays_safe) comes.over
    here.its (still_own s h.0 c.args.seat.now.session own.0 here.its own.1 here.there here.number here.session_is here.seats) (here.number ∙ own.2) (no_images here.its.undo.images here.left) in
    unended_replied old c.end.new.self front before s store c.args.seat.now.session own.0 safe works idle Whole tt (inl own.1) 0 refl mid c.from_residual-in_err-end.result _ c.from_residual-in_err-end.ensures.1 h.0 h.1 comes ends.0 ends.1

pub returns-clause-replied : goal.returns-clause-replied
returns-clause-replied g c running front disk before s store is safe over idle =
    let old = c.args.self.now in
    let mid = c.put_back.new.self in
    let new = c.end.new.self in
    let works = is.beside.parts.failed_is ∙ running in
    let own = seat_in_txn (control_of old) c.args.seat.now c.requires.seated (λ t m at. (c.requires.own t m at, c.in_ok-check_unprepared.ensures.unprepared t m at)) s is.beside.parts.stands in
    let h = c.in_ok-put_back.ensures.unwinds running front disk before s store is safe over own.0 idle (own.1.0.0, own.2) (inl own.1) tt refl (omega arith) in
    let comes = h.2 in
    let here = goes_on_from (geometry_of old) s safe c.args.seat.now.session own.0 works idle Whole tt (inl own.1) own.1.0.0 own.1.0.2 0 h.0 (omega arith) h.1 in
    let keeps = keeps_of c.in_ok-put_back.ensures.serves c.in_ok-put_back.ensures.failed in
    let ends = c.in_ok-end.ensures.ended (keeps.failed ∙ running) front comes.left before h.0 comes.after comes.is_in (subst (λ (it : Geometry). IsSafe it h.0) (sym keeps.volume.geometry) here.stays_safe) comes.over
    here.its (still_own s h.0 c.args.seat.now.session own.0 here.its own.1 here.there here.number here.session_is here.seats) (here.number ∙ own.2) (no_images here.its.undo.images here.left) in
    record {
      later = _;
      replies = aborts_done (geometry_of old) s safe c.args.seat.now.session own.0 works idle own.1;
      comes = subst (CoreComesTo new front before store) (here.aborts refl) (comes_then mid new front before h.0 _ store comes ends);
    }

pub returns-in_err-put_back-clause-serves : goal.returns-in_err-put_back-clause-serves
returns-in_err-put_back-clause-serves g c = refused_as _ _ _ _ _ _ c.from_residual-in_err-put_back.ensures.1 c.in_err-put_back.ensures.serves c.in_err-put_back.ensures.failed

pub returns-in_err-end-clause-serves : goal.returns-in_err-end-clause-serves
returns-in_err-end-clause-serves g c =
    refused_then _ _ _ _ c.put_back.new.self _ _ _ _ c.from_residual-in_err-end.ensures.1 c.in_ok-put_back.ensures.serves c.in_ok-put_back.ensures.failed c.end.ensures.no_call
    (elim c.in_err-end.ensures.refused [ inl must ↦ as_aside _ _ must tt | inr memory ↦ as_aside _ _ memory tt ])

pub returns-clause-serves : goal.returns-clause-serves
returns-clause-serves g c = call_then _ _ _ _ c.put_back.new.self _ _ _ c.in_ok-put_back.ensures.serves c.in_ok-put_back.ensures.failed c.end.ensures.no_call tt refl

pub returns-in_err-check_unprepared-clause-replied : goal.returns-in_err-check_unprepared-clause-replied
returns-in_err-check_unprepared-clause-replied g c running front disk before s store is safe over idle =
    replied_prepared c.args.self.now front disk before s store c.args.seat.now.session call.Abort c.from_residual.result _ is over tt (is.beside.parts.failed_is ∙ running) idle
    c.from_residual.ensures.1 c.in_err-check_unprepared.ensures.refused.0 (c.in_err-check_unprepared.ensures.refused.1 s is.beside.parts.stands)

pub returns-in_err-check_unprepared-clause-serves : goal.returns-in_err-check_unprepared-clause-serves
returns-in_err-check_unprepared-clause-serves g c =
    refused_still _ _ _ _ _ _ c.from_residual.ensures.1 refl refl refl refl (as_aside _ _ c.in_err-check_unprepared.ensures.refused.0 tt)
