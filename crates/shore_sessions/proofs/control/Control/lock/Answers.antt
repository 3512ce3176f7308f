use Rattle.std.proofs.Common.{◌≡◌, sym, ap, subst, ◌∙◌}
use Rattle.shore_path.specs.Walks.{Outcome, acquired}
use Rattle.shore_path.specs.declared.answers.OnConflict.TheVariants as conflict
use Rattle.laws_locks.specs.CallLocks.{Asked}
use Rattle.laws_calls.specs.CallSteps.{behind_lock, lock_outcome, on_conflict_of, with_requests}
use Rattle.shore_txn.specs.Transactions.{AtSeat}
use Rattle.shore_txn.specs.Txns.{IsOf}
use Rattle.shore_sessions.specs.Controls.{locks_in}
use Rattle.shore_sessions.specs.Standing.{HasControl}
use Rattle.shore_sessions.proofs.TriedLocks.{tried_to}
use Rattle.shore_sessions.proofs.control.Control.lock.Goals as goal

pub returns-in-Refuse-clause-locks : goal.returns-in-Refuse-clause-locks
returns-in-Refuse-clause-locks c s o found es a call was state works its number refuses =
    let lock : Asked = record { granule = c.args.granule; mode = c.args.mode } in
    let tries : on_conflict_of call ≡ conflict.Refuse = refuses ∙ c.in-Refuse.is in
    let of_state : acquired conflict.Refuse s.locks c.args.txn lock.granule lock.mode ≡ lock_outcome s a call lock =
    ap (λ on. acquired on s.locks c.args.txn lock.granule lock.mode) (sym tries) ∙ ap (λ t. acquired (on_conflict_of call) s.locks t lock.granule lock.mode) (sym number) in
    let outcome : acquired conflict.Refuse (locks_in c.args.self.now) c.args.txn lock.granule lock.mode ≡ lock_outcome s a call lock =
    ap (λ table. acquired conflict.Refuse table c.args.txn lock.granule lock.mode) (sym was.locks) ∙ of_state in (
      behind_lock s a call lock,
      tried_to s a call lock tries c.acquire.result (c.acquire.ensures.answer ∙ ap (λ (o : Outcome). o.answer) outcome),
      subst (λ (o : Outcome). HasControl c.acquire.new.self (with_requests s o.requests)) of_state (c.acquire.ensures.stands s was),
    )

pub returns-in-Wait-clause-locks : goal.returns-in-Wait-clause-locks
returns-in-Wait-clause-locks c s o found es a call was state works its number waits =
    c.lock_or_wait.ensures.locks s o found es a call was state works its number (waits ∙ c.in-Wait.is)

pub returns-in-Refuse-clause-own : goal.returns-in-Refuse-clause-own
returns-in-Refuse-clause-own c own = subst (λ txns. AtSeat c.args.seat.now txns (IsOf c.args.seat.now.session)) (sym c.acquire.ensures.txns) own
