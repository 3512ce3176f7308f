use Rattle.std.proofs.Common.{◌≡◌, true, false, sym, ap, ◌∙◌, refl}
use Rattle.shore_locks.specs.Tables.{Table, is_waiting}
use Rattle.shore_txn.specs.Txns.{as_session_txn}
use Rattle.shore_core.specs.Cores.{locks_of}
use Rattle.shore_core.proofs.Going.{asked_calls}
use Rattle.shore_core.proofs.Settling.{refused_calls}
use Rattle.shore_core.proofs.Opening.{inner_asks, replied_not_open}
use Rattle.shore_core.proofs.Taking.{true_false}
use Rattle.shore_core.proofs.Serving.{call_still, not_open_aside, refused_still}
use Rattle.shore_core.proofs.core_calls.Core.with_txn.Goals as goal

pub returns-in_err-own-clause-replied : goal.returns-in_err-own-clause-replied
returns-in_err-own-clause-replied g c asks running front disk before s store is safe over idle =
    refused_calls c.args.self.now _ front before s store c.args.seat.now.session c.args.call c.from_residual.result c.in_err-own.field-0.0 c.from_residual.ensures.1
    (replied_not_open c.args.self.now front disk before s store c.args.seat.now.session c.args.call c.from_residual.result c.in_err-own.field-0.0 is over (inner_asks c.args.call asks)
    (is.beside.parts.failed_is ∙ running) idle c.from_residual.ensures.1 (c.in_err-own.ensures.not_open s is.beside.parts.stands))

pub returns-then-is_waiting-clause-replied : goal.returns-then-is_waiting-clause-replied
returns-then-is_waiting-clause-replied g c asks running front disk before s store is safe over idle =
    let old = c.args.self.now in
    let works = is.beside.parts.failed_is ∙ running in
    let stands = is.beside.parts.stands in
    let a = as_session_txn c.in_ok-own.own.now in
    let its = c.in_ok-own.ensures.of_session s stands in
    let quiet : is_waiting a.txn s.locks.requests ≡ false = safe.after.sessions.locks.waits works a its.0.0 (λ w m spared same. idle w m (same ∙ its.1)) in
    let asked : true ≡ is_waiting a.txn s.locks.requests =
    c.if-is_waiting.ensures ∙ ap (λ t. is_waiting t (locks_of old).requests) c.id-txn.ensures.number ∙ ap (λ (table : Table). is_waiting a.txn table.requests) (sym stands.locks) in
    absurd (true_false (asked ∙ quiet))

pub returns-clause-replied : goal.returns-clause-replied
returns-clause-replied g c asks running front disk before s store is safe over idle =
    let old = c.args.self.now in
    let works = is.beside.parts.failed_is ∙ running in
    let a = as_session_txn c.in_ok-own.own.now in
    let its = c.in_ok-own.ensures.of_session s is.beside.parts.stands in
    asked_calls old _ front before s store a _ safe.roomy.slots c.args.seat.now.session c.args.call works idle its c.in_ok-own.ensures.whole
    (c.take_locks.ensures.asked asks running front disk before s store is safe over a its (sym c.id-txn.ensures.number) c.in_ok-own.ensures.whole)

pub returns-in_err-own-clause-serves : goal.returns-in_err-own-clause-serves
returns-in_err-own-clause-serves g c =
    refused_still _ _ _ _ _ _ c.from_residual.ensures.1 refl refl refl refl (not_open_aside _ c.in_err-own.ensures.refused)

pub returns-then-is_waiting-clause-serves : goal.returns-then-is_waiting-clause-serves
returns-then-is_waiting-clause-serves g c = call_still _ _ _ _ _ refl refl refl refl tt tt

pub returns-clause-serves : goal.returns-clause-serves
returns-clause-serves g c = c.take_locks.ensures.serves
