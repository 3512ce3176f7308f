use Rattle.std.proofs.Common.{◌≡◌, ◌≢◌, ◌+◌, ◌<◌, ◌≤◌, inl, inr, ℕ, List, All, Err, IsErrAnd, length, refl, sym, ap, subst, ◌∙◌}
use Rattle.shore_types.specs.declared.faults.Fault.{Fault}
use Rattle.shore_types.specs.declared.faults.Fault.TheVariants as fault
use Rattle.shore_types.specs.declared.layout.Geometry.{Geometry}
use Rattle.shore_types.specs.declared.layout.TheConstants.{LAST_OPENED}
use Rattle.shore_model.specs.declared.calls.Call.TheVariants as call
use Rattle.shore_model.specs.declared.calls.Outcome.TheVariants as outcome
use Rattle.shore_model.specs.declared.rollbacks.Rollback.TheVariants.{Whole}
use Rattle.shore_model.specs.declared.sessions.SessionState.{SessionState}
use Rattle.laws_lives.specs.Sessions.{ResolvedTxn}
use Rattle.laws_lives.specs.Views.{IsAmong}
use Rattle.laws_calls.specs.Resolves.{IsRollingBack, resolved_by_rollback, rollback_done, rollback_number}
use Rattle.shore_txn.specs.Transactions.{IsSeatIn, kept_in, room_in}
use Rattle.shore_txn.specs.Transactions as table
use Rattle.shore_txn.specs.Txns.{last_of}
use Rattle.shore_txn.specs.declared.transactions.Transactions.{Transactions}
use Rattle.shore_txn.specs.declared.txn.Txn.{Txn}
use Rattle.shore_sessions.specs.Standing.{IsLogged}
use Rattle.shore_sessions.specs.declared.waits.WaitingCall.{WaitingCall}
use Rattle.shore_sessions.proofs.Seats.{active_above}
use Rattle.shore_core.specs.Callers.{IsToResolve}
use Rattle.shore_core.specs.Cores.{IsSafe, first_of, geometry_of, txns_of, waiting_of}
use Rattle.shore_core.specs.Resolving.{ComesBut}
use Rattle.shore_core.proofs.Coming.{comes_then, over_as, stays_behind}
use Rattle.shore_core.proofs.Leaving.{comes_lacking}
use Rattle.shore_core.proofs.Moving.{in_moved}
use Rattle.shore_core.proofs.RolledBack.{no_images}
use Rattle.shore_core.proofs.Rolling.{goes_on_from}
use Rattle.shore_core.proofs.Serving.{as_aside, call_then, keeps_of, no_call_then, refused_as, refused_still, refused_then, serves_alone}
use Rattle.shore_core.proofs.Stopped.{decided_safe, may_put_back, no_call_behind, none_less, outside, rolls_back, serves_behind, still_idle, still_works, stopped_replied, through_replied}
use Rattle.shore_core.proofs.Tables.{each_among}
use Rattle.shore_core.proofs.Taking.{replied_as}
use Rattle.shore_core.proofs.core_calls.Core.resolve_to_abort.Goals as goal

pub invariant_of-self : goal.invariant_of-self
invariant_of-self g c =
    let old = c.args.self.now in
    let txns = sym c.reserve_wait.ensures.txns in
    let next = first_of old + length (waiting_of old) in
    record {
      some_number = old.some_number;
      forced = old.forced;
      numbers = subst (λ x. next + (room_in x).reserved ≤ LAST_OPENED) txns old.numbers;
      earlier = subst (λ x. (t : Txn) → IsAmong t (table.txns_in x) → last_of t < next) txns old.earlier;
    }

pub returns-in_err-reserve_wait-clause-replied : goal.returns-in_err-reserve_wait-clause-replied
returns-in_err-reserve_wait-clause-replied g c ready front disk before s store is safe over idle may to =
    replied_as c.args.self.now _ front before s store c.args.seat.now.session (call.Resolve c.args.global outcome.Abort) c.from_residual.result fault.Memory c.from_residual.ensures.1 (inl (refl, refl))
    (inr (comes_lacking c.args.self.now _ front disk before s store refl refl refl refl refl c.reserve_wait.ensures.txns (c.reserve_wait.ensures.stands s is.beside.parts.stands) is over))

pub decide_rollback-requires : goal.decide_rollback-requires
decide_rollback-requires g c = subst (IsSeatIn c.args.seat.now) (sym c.reserve_wait.ensures.txns) c.requires.seated

pub returns-in_err-decide_rollback-clause-replied : goal.returns-in_err-decide_rollback-clause-replied
returns-in_err-decide_rollback-clause-replied g c ready front disk before s store is safe over idle may to =
    let old = c.args.self.now in
    let to_first = subst (λ x. IsToResolve c.args.seat.now x s c.args.global) (sym c.reserve_wait.ensures.txns) to in
    let h = c.in_err-decide_rollback.ensures.decides ready front disk before s store
    (in_moved old _ front disk before s s store refl refl refl refl refl (λ p. ap (λ (x : Transactions). kept_in x p) c.reserve_wait.ensures.txns) (c.reserve_wait.ensures.stands s is.beside.parts.stands) refl refl refl (λ p. refl) is) safe (over_as old _ disk s s store refl refl refl refl over) c.args.global to_first in
    replied_as old _ front before s store c.args.seat.now.session (call.Resolve c.args.global outcome.Abort) c.from_residual-in_err-decide_rollback.result fault.Memory
    (subst (λ (x : Fault). IsErrAnd c.from_residual-in_err-decide_rollback.result (λ e. e ≡ x)) h.0 c.from_residual-in_err-decide_rollback.ensures.1) (inl (refl, refl))
    (inr h.1)

pub returns-in_err-put_back-clause-replied : goal.returns-in_err-put_back-clause-replied
returns-in_err-put_back-clause-replied g c ready front disk before s store is safe over idle may to =
    let old = c.args.self.now in
    let second = c.decide_rollback.new.self in
    let new = c.put_back.new.self in
    let it = geometry_of old in
    let session = c.args.seat.now.session in
    let global = c.args.global in
    let works = is.beside.parts.failed_is ∙ ready in
    let to_first = subst (λ x. IsToResolve c.args.seat.now x s global) (sym c.reserve_wait.ensures.txns) to in
    let h = c.in_ok-decide_rollback.ensures.decides ready front disk before s store
    (in_moved old _ front disk before s s store refl refl refl refl refl (λ p. ap (λ (x : Transactions). kept_in x p) c.reserve_wait.ensures.txns) (c.reserve_wait.ensures.stands s is.beside.parts.stands) refl refl refl (λ p. refl) is) safe (over_as old _ disk s s store refl refl refl refl over) global to_first in
    let b = h.0 in
    let d = h.1 in
    let by = h.2 in
    let two = h.4 in
    let keeps = c.decide_rollback.ensures.no_call.keeps in
    let safe_second = subst (λ (x : Geometry). IsSafe x d) (sym keeps.volume.geometry) (decided_safe it s safe session global works idle may b d by) in
    stopped_replied it s safe session global works idle may b d by old new front before store two.after refl
    (λ later f stays. stays_behind second new front before d later store f two stays)
    c.from_residual-in_err-put_back.result _ c.from_residual-in_err-put_back.ensures.1
    (c.in_err-put_back.ensures.unwinds (keeps.failed ∙ ready) front two.left before d two.after two.is_in safe_second two.over b (still_idle it s safe session global works idle may b d by) h.3
    (may_put_back it s safe session global works idle may b d by) tt refl (none_less _))

pub end-requires-clause-free : goal.end-requires-clause-free
end-requires-clause-free g c =
    subst (λ (ws : List WaitingCall). All (λ w. w.session ≢ c.args.seat.now.session) ws) (sym (c.put_back.ensures.waits ∙ c.decide_rollback.ensures.waits ∙ c.reserve_wait.ensures.waits)) c.requires.free

pub returns-in_err-end-clause-replied : goal.returns-in_err-end-clause-replied
returns-in_err-end-clause-replied g c ready front disk before s store is safe over idle may to =
    let old = c.args.self.now in
    let second = c.decide_rollback.new.self in
    let third = c.put_back.new.self in
    let new = c.end.new.self in
    let it = geometry_of old in
    let session = c.args.seat.now.session in
    let global = c.args.global in
    let works = is.beside.parts.failed_is ∙ ready in
    let to_first = subst (λ x. IsToResolve c.args.seat.now x s global) (sym c.reserve_wait.ensures.txns) to in
    let h = c.in_ok-decide_rollback.ensures.decides ready front disk before s store
    (in_moved old _ front disk before s s store refl refl refl refl refl (λ p. ap (λ (x : Transactions). kept_in x p) c.reserve_wait.ensures.txns) (c.reserve_wait.ensures.stands s is.beside.parts.stands) refl refl refl (λ p. refl) is) safe (over_as old _ disk s s store refl refl refl refl over) global to_first in
    let b = h.0 in
    let d = h.1 in
    let by = h.2 in
    let at = h.3 in
    let two = h.4 in
    let keeps = c.decide_rollback.ensures.no_call.keeps in
    let safe_d = decided_safe it s safe session global works idle may b d by in
    let safe_second = subst (λ (x : Geometry). IsSafe x d) (sym keeps.volume.geometry) safe_d in
    let idle_d = still_idle it s safe session global works idle may b d by in
    let works_d = still_works it s safe session global works idle may b d by in
    let puts = may_put_back it s safe session global works idle may b d by in
    let k = c.in_ok-put_back.ensures.unwinds (keeps.failed ∙ ready) front two.left before d two.after two.is_in safe_second two.over b idle_d at puts tt refl (none_less _) in
    let three = k.2 in
    let here = goes_on_from it d safe_d session b works_d idle_d Whole tt puts at.0 (active_above (txns_of second) d two.is_in.beside.parts.stands.txns b at.0) 0 k.0 (none_less 0) k.1 in
    let keeps_third = keeps_of c.in_ok-put_back.ensures.serves c.in_ok-put_back.ensures.failed in
    let safe_third = subst (λ (x : Geometry). IsSafe x k.0) (sym (keeps_third.volume.geometry ∙ keeps.volume.geometry)) here.stays_safe in
    let rolls = rolls_back it s safe session global works idle may b d by in
    let rolls_here : IsRollingBack k.0 here.its global = (
      here.there,
      subst (λ n. IsAmong (record { txn = n; global = global; outcome = outcome.Abort }) k.0.sessions.resolving) (sym here.number)
          (subst (IsAmong (resolved_by_rollback b global)) (sym here.resolving) rolls.1),
    ) in
    let ends = c.in_err-end.ensures.resolves (keeps_third.failed ∙ keeps.failed ∙ ready) front three.left before k.0 three.after three.is_in safe_third three.over here.its global (here.there, here.number ∙ at.1) rolls_here
    (no_images here.its.undo.images here.left) in
    stopped_replied it s safe session global works idle may b d by old new front before store two.after refl
    (λ later f stays. stays_behind second new front before d later store f two stays)
    c.from_residual-in_err-end.result _ c.from_residual-in_err-end.ensures.1
    (k.0, 0, k.1, none_less 0, inl ends.0, inr (comes_then third new front before k.0 k.0 two.after three ends.1))

pub answer_rollback-requires-clause-memory : goal.answer_rollback-requires-clause-memory
answer_rollback-requires-clause-memory g c = c.end.ensures.memory (c.put_back.ensures.memory (c.decide_rollback.ensures.memory c.in_ok-reserve_wait.ensures.memory))

pub answer_rollback-requires-clause-free : goal.answer_rollback-requires-clause-free
answer_rollback-requires-clause-free g c =
    subst (λ (ws : List WaitingCall). All (λ w. w.session ≢ c.args.seat.now.session) ws) (sym (c.end.ensures.waits ∙ c.put_back.ensures.waits ∙ c.decide_rollback.ensures.waits ∙ c.reserve_wait.ensures.waits)) c.requires.free

pub returns-clause-replied : goal.returns-clause-replied
returns-clause-replied g c ready front disk before s store is safe over idle may to =
    let old = c.args.self.now in
    let second = c.decide_rollback.new.self in
    let third = c.put_back.new.self in
    let fourth = c.end.new.self in
    let new = c.answer_rollback.new.self in
    let it = geometry_of old in
    let session = c.args.seat.now.session in
    let global = c.args.global in
    let works = is.beside.parts.failed_is ∙ ready in
    let to_first = subst (λ x. IsToResolve c.args.seat.now x s global) (sym c.reserve_wait.ensures.txns) to in
    let h = c.in_ok-decide_rollback.ensures.decides ready front disk before s store
    (in_moved old _ front disk before s s store refl refl refl refl refl (λ p. ap (λ (x : Transactions). kept_in x p) c.reserve_wait.ensures.txns) (c.reserve_wait.ensures.stands s is.beside.parts.stands) refl refl refl (λ p. refl) is) safe (over_as old _ disk s s store refl refl refl refl over) global to_first in
    let b = h.0 in
    let d = h.1 in
    let by = h.2 in
    let at = h.3 in
    let two = h.4 in
    let keeps = c.decide_rollback.ensures.no_call.keeps in
    let safe_d = decided_safe it s safe session global works idle may b d by in
    let safe_second = subst (λ (x : Geometry). IsSafe x d) (sym keeps.volume.geometry) safe_d in
    let idle_d = still_idle it s safe session global works idle may b d by in
    let works_d = still_works it s safe session global works idle may b d by in
    let puts = may_put_back it s safe session global works idle may b d by in
    let k = c.in_ok-put_back.ensures.unwinds (keeps.failed ∙ ready) front two.left before d two.after two.is_in safe_second two.over b idle_d at puts tt refl (none_less _) in
    let three = k.2 in
    let here = goes_on_from it d safe_d session b works_d idle_d Whole tt puts at.0 (active_above (txns_of second) d two.is_in.beside.parts.stands.txns b at.0) 0 k.0 (none_less 0) k.1 in
    let keeps_third = keeps_of c.in_ok-put_back.ensures.serves c.in_ok-put_back.ensures.failed in
    let safe_third = subst (λ (x : Geometry). IsSafe x k.0) (sym (keeps_third.volume.geometry ∙ keeps.volume.geometry)) here.stays_safe in
    let rolls = rolls_back it s safe session global works idle may b d by in
    let rolls_here : IsRollingBack k.0 here.its global = (
      here.there,
      subst (λ n. IsAmong (record { txn = n; global = global; outcome = outcome.Abort }) k.0.sessions.resolving) (sym here.number)
          (subst (IsAmong (resolved_by_rollback b global)) (sym here.resolving) rolls.1),
    ) in
    let ended = rollback_done k.0 here.its in
    let txn_is : here.its.txn ≡ c.id-txn.result = here.number ∙ at.1 ∙ sym c.txn-own.ensures.number ∙ sym c.id-txn.ensures.number in
    let r : ResolvedTxn = record { txn = c.id-txn.result; global = global; outcome = outcome.Abort } in
    let four : ComesBut r fourth front before three.after ended =
    subst (λ n. ComesBut (record { txn = n; global = global; outcome = outcome.Abort }) fourth front before three.after ended) txn_is
    (c.in_ok-end.ensures.resolves (keeps_third.failed ∙ keeps.failed ∙ ready) front three.left before k.0 three.after three.is_in safe_third three.over here.its global (here.there, here.number ∙ at.1) rolls_here
    (no_images here.its.undo.images here.left)) in
    let free_here = ap (λ (f : ℕ → SessionState). f session) here.seats ∙ outside it s safe session global works idle may b d by in
    let logged = each_among (IsLogged d.log) (table.txns_in (txns_of second)) two.is_in.beside.parts.stands.txns.each c.txn-own.result.now c.txn-own.ensures.among in
    let number_is = c.decided-decided.ensures ∙ logged.decided ∙ ap (λ n. rollback_number n d.log) (c.txn-own.ensures.number ∙ sym at.1) in
    through_replied it s safe session global works idle may b d by old new front before store three.after refl
    (λ later comes. comes_then second new front before d later store two (comes_then third new front before k.0 later two.after three comes))
    r (ap (λ n. record { txn = n; global = global; outcome = outcome.Abort }) (sym txn_is ∙ here.number)) ended (here.ends refl) c.decided-decided.result number_is
    fourth four c.answer_rollback.result (c.answer_rollback.ensures.answers front four.left before ended four.after four.is_in four.over free_here)

pub returns-in_err-reserve_wait-clause-serves : goal.returns-in_err-reserve_wait-clause-serves
returns-in_err-reserve_wait-clause-serves g c = refused_still _ _ _ _ _ fault.Memory c.from_residual.ensures.1 refl refl refl refl tt

pub returns-in_err-decide_rollback-clause-serves : goal.returns-in_err-decide_rollback-clause-serves
returns-in_err-decide_rollback-clause-serves g c =
    let old = c.args.self.now in
    let second = c.decide_rollback.new.self in
    let quiet = no_call_behind old _ second c.decide_rollback.ensures.no_call refl refl refl refl in
    refused_as {A = Unit {0}} _ _ old second _ _ c.from_residual-in_err-decide_rollback.ensures.1 (serves_alone _ second old second (Err _) quiet (as_aside _ _ c.in_err-decide_rollback.ensures.refused tt)) quiet.keeps.failed

pub returns-in_err-put_back-clause-serves : goal.returns-in_err-put_back-clause-serves
returns-in_err-put_back-clause-serves g c =
    let old = c.args.self.now in
    let second = c.decide_rollback.new.self in
    let quiet = no_call_behind old _ second c.decide_rollback.ensures.no_call refl refl refl refl in
    refused_as _ _ _ _ _ _ c.from_residual-in_err-put_back.ensures.1
    (serves_behind old second c.put_back.new.self quiet c.decide_rollback.ensures.heap c.decide_rollback.ensures.longer _ _ c.in_err-put_back.ensures.serves) (c.in_err-put_back.ensures.failed ∙ quiet.keeps.failed)

pub returns-in_err-end-clause-serves : goal.returns-in_err-end-clause-serves
returns-in_err-end-clause-serves g c =
    let old = c.args.self.now in
    let second = c.decide_rollback.new.self in
    let quiet = no_call_behind old _ second c.decide_rollback.ensures.no_call refl refl refl refl in
    refused_then _ _ _ _ c.put_back.new.self _ _ _ _ c.from_residual-in_err-end.ensures.1
    (serves_behind old second c.put_back.new.self quiet c.decide_rollback.ensures.heap c.decide_rollback.ensures.longer _ _ c.in_ok-put_back.ensures.serves) (c.in_ok-put_back.ensures.failed ∙ quiet.keeps.failed) c.end.ensures.no_call
    (elim c.in_err-end.ensures.refused [ inl must ↦ as_aside _ _ must tt | inr memory ↦ as_aside _ _ memory tt ])

pub returns-clause-serves : goal.returns-clause-serves
returns-clause-serves g c =
    let old = c.args.self.now in
    let second = c.decide_rollback.new.self in
    let quiet = no_call_behind old _ second c.decide_rollback.ensures.no_call refl refl refl refl in
    call_then _ _ _ _ c.put_back.new.self _ _ _
    (serves_behind old second c.put_back.new.self quiet c.decide_rollback.ensures.heap c.decide_rollback.ensures.longer _ _ c.in_ok-put_back.ensures.serves) (c.in_ok-put_back.ensures.failed ∙ quiet.keeps.failed)
    (no_call_then c.put_back.new.self c.end.new.self _ c.end.ensures.no_call c.answer_rollback.ensures.no_call) tt c.answer_rollback.ensures.plain
