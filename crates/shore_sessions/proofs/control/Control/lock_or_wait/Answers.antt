use Rattle.std.proofs.Common.{◌≡◌, ◌≤◌, ⊎_elim, None, sym, ap, subst, ◌∙◌, false}
use Rattle.std.specs.Prelude.{Ok, Err, All, IfErr, ◌≢◌}
use Rattle.std.proofs.lemmas.Result.{err_from_is_err_and}
use Rattle.shore_types.specs.declared.layout.TheConstants.{MOST_MAX_LOCKS}
use Rattle.shore_locks.specs.Tables.{Table, is_waiting}
use Rattle.shore_path.specs.Acquires.{IsReached}
use Rattle.shore_path.specs.declared.answers.Acquired.TheVariants as acquire
use Rattle.shore_deadlock.specs.Locking.{Settles}
use Rattle.shore_deadlock.proofs.LetWaits.{lets_wait, waits_then}
use Rattle.laws_locks.specs.CallLocks.{Asked}
use Rattle.laws_calls.specs.LockRounds.{LocksTo}
use Rattle.shore_txn.specs.Transactions.{AtSeat, undos_in}
use Rattle.shore_txn.specs.Txns.{IsOf}
use Rattle.shore_sessions.specs.Calls.{names_of}
use Rattle.shore_sessions.specs.Controls.{locks_in, txns_in, waits_in}
use Rattle.shore_sessions.specs.Noting.{AreNoted, RefusesToLock, answer_of, told_cycle}
use Rattle.shore_sessions.specs.declared.waits.WaitingCall.{WaitingCall}
use Rattle.shore_sessions.proofs.LockRounds.{IsStart, settles_to}
use Rattle.shore_sessions.proofs.LockRefusals.{done_so, refuses_so}
use Rattle.shore_sessions.proofs.LockStarts.{starts, stands_for}
use Rattle.shore_sessions.proofs.Marks.{marked_but_others, marked_but_told}
use Rattle.shore_sessions.proofs.NotedVictims.{seat_named}
use Rattle.shore_sessions.proofs.TriedLocks.{waits_for_none}
use Rattle.shore_sessions.proofs.WaitSteps.{free_waits_not}
use Rattle.shore_sessions.proofs.control.Control.lock_or_wait.Goals as goal
use Rattle.shore_sessions.proofs.control.Control.lock_or_wait.Goals.{After-answer_of}

-- ---- at once

pub returns-in_err-acquire-clause-locks : goal.returns-in_err-acquire-clause-locks
returns-in_err-acquire-clause-locks c s o found es a call was state works its number may_wait =
    let f = c.in_err-acquire.field-0.0 in
    let asked : Asked = record { granule = c.args.granule; mode = c.args.mode } in
    let refused = err_from_is_err_and c.from_residual.result c.from_residual.ensures.1 in
    let is : c.from_residual.result ≡ Err f = refused.1 ∙ ap Err refused.2 in
    let ends = waits_for_none c.args.self.now c.acquire.new.self s a call asked c.args.txn (Err f) was number may_wait (λ at waits. cc)
    c.in_err-acquire.ensures.answer (c.acquire.ensures.stands s was) in
    (ends.0, subst (λ answer. LocksTo s a call asked answer ends.0) (sym is) ends.1, ends.2)

pub returns-in-Done-clause-locks : goal.returns-in-Done-clause-locks
returns-in-Done-clause-locks c s o found es a call was state works its number may_wait =
    waits_for_none c.args.self.now c.acquire.new.self s a call (record { granule = c.args.granule; mode = c.args.mode }) c.args.txn (Ok acquire.Done) was number may_wait (λ at waits. cc)
    (ap Ok (sym c.in-Done.is) ∙ c.in_ok-acquire.ensures.answer) (c.acquire.ensures.stands s was)

-- ---- behind a wait

pub settle-answer-requires : goal.settle-answer-requires
settle-answer-requires c = record {
  waiting = waits_then (locks_in c.args.self.now) c.args.txn c.args.granule c.args.mode c.acquire.new.self.locks
      (lets_wait (locks_in c.args.self.now) c.args.txn c.args.granule c.args.mode (Ok c.in_ok-acquire.field-0) c.acquire.new.self.locks c.tables_are_orderly.ensures c.requires.quiet
      (c.in_ok-acquire.ensures.answer, c.acquire.ensures.locks) c.in-Waiting.field-0 (ap Ok c.in-Waiting.is));
}

pub invariant_of-self : goal.invariant_of-self
invariant_of-self c =
    let settles = c.settle-answer.ensures.settles (locks_in c.args.self.now)
    (lets_wait (locks_in c.args.self.now) c.args.txn c.args.granule c.args.mode (Ok c.in_ok-acquire.field-0) c.acquire.new.self.locks c.tables_are_orderly.ensures c.requires.quiet
    (c.in_ok-acquire.ensures.answer, c.acquire.ensures.locks) c.in-Waiting.field-0 (ap Ok c.in-Waiting.is)) in
    record {
      few_locks = subst (λ n. n ≤ MOST_MAX_LOCKS) (sym settles.limit) c.args.self.now.few_locks;
      marked = c.note_let_through.ensures.marks
          (⊎_elim
          (λ others. marked_but_others c.acquire.new.self.waits c.settle-answer.new.table.requests c.settle-answer.new.let_through others)
          (λ told. marked_but_told c.acquire.new.self.waits c.acquire.new.self.locks.requests c.settle-answer.new.table.requests c.nobody-let_through.result c.settle-answer.new.let_through c.acquire.new.self.marked told)
          c.settle-answer.ensures.told);
    }

settled : (c : After-answer_of)
    → Settles (locks_in c.args.self.now) c.settle-answer.new.table c.args.txn c.args.granule c.args.mode c.settle-answer.result.answer c.settle-answer.result.victims.items
settled c =
    c.settle-answer.ensures.settles (locks_in c.args.self.now)
    (lets_wait (locks_in c.args.self.now) c.args.txn c.args.granule c.args.mode (Ok c.in_ok-acquire.field-0) c.acquire.new.self.locks c.tables_are_orderly.ensures c.requires.quiet
    (c.in_ok-acquire.ensures.answer, c.acquire.ensures.locks) c.in-Waiting.field-0 (ap Ok c.in-Waiting.is))

pub returns-in-Waiting-clause-seated : goal.returns-in-Waiting-clause-seated
returns-in-Waiting-clause-seated c =
    seat_named c.args.seat.now (txns_in c.args.self.now) (txns_in c.note_victims-told.new.self)
    (c.note_victims-told.ensures.keeps.names ∙ ap (λ txns. names_of (undos_in txns)) c.acquire.ensures.txns) c.requires.seated

pub returns-in_err-acquire-clause-own : goal.returns-in_err-acquire-clause-own
returns-in_err-acquire-clause-own c own = subst (λ txns. AtSeat c.args.seat.now txns (IsOf c.args.seat.now.session)) (sym c.acquire.ensures.txns) own

pub returns-in-Done-clause-own : goal.returns-in-Done-clause-own
returns-in-Done-clause-own c own = subst (λ txns. AtSeat c.args.seat.now txns (IsOf c.args.seat.now.session)) (sym c.acquire.ensures.txns) own

pub returns-in-Waiting-clause-own : goal.returns-in-Waiting-clause-own
returns-in-Waiting-clause-own c own =
    c.note_victims-told.ensures.keeps.own c.args.seat.now c.args.seat.now.session (subst (λ txns. AtSeat c.args.seat.now txns (IsOf c.args.seat.now.session)) (sym c.acquire.ensures.txns) own)

pub returns-in-Waiting-clause-reached : goal.returns-in-Waiting-clause-reached
returns-in-Waiting-clause-reached c done =
    subst (λ (x : Table). IsReached x.requests c.args.txn c.args.granule c.args.mode) (sym c.note_victims-told.ensures.keeps.locks)
    (c.settle-answer.ensures.done (done_so c.settle-answer.result.answer c.note_victims-told.result (sym c.answer_of.ensures ∙ done)))

pub returns-in-Waiting-clause-quiet : goal.returns-in-Waiting-clause-quiet
returns-in-Waiting-clause-quiet c never =
    subst (λ (x : Table). is_waiting c.args.txn x.requests ≡ false) (sym c.note_victims-told.ensures.keeps.locks)
    (c.settle-answer.ensures.quiet (λ at waits. never at (c.answer_of.ensures ∙ ap (λ answer. answer_of answer c.note_victims-told.result) waits)))

pub returns-in-Waiting-clause-refused : goal.returns-in-Waiting-clause-refused
returns-in-Waiting-clause-refused c =
    let answer = c.settle-answer.result.answer in
    let victims = c.settle-answer.result.victims.items in
    subst (λ r. IfErr r RefusesToLock) (ap (answer_of answer) (sym c.note_victims-told.ensures.told) ∙ sym c.answer_of.ensures)
    (refuses_so (locks_in c.args.self.now) c.settle-answer.new.table c.args.txn c.args.granule c.args.mode answer victims (settled c))

pub returns-in-Waiting-clause-locks : goal.returns-in-Waiting-clause-locks
returns-in-Waiting-clause-locks c s o found es a call was state works its number may_wait =
    let control = c.args.self.now in
    let answer = c.settle-answer.result.answer in
    let victims = c.settle-answer.result.victims.items in
    let asked : Asked = record { granule = c.args.granule; mode = c.args.mode } in
    let idle = free_waits_not (waits_in control) s was.waits c.args.seat.now.session c.requires.free in
    let start : IsStart a call asked may_wait s = starts o found es s state works a call asked may_wait its.0
    (subst (λ (x : Table). is_waiting a.txn x.requests ≡ false) (sym was.locks) (subst (λ t. is_waiting t (locks_in control).requests ≡ false) (sym number) c.requires.quiet))
    (λ w m same. idle w m (same ∙ its.1)) in
    let settles : Settles s.locks c.settle-answer.new.table a.txn c.args.granule c.args.mode answer victims =
    subst (λ t. Settles s.locks c.settle-answer.new.table t c.args.granule c.args.mode answer victims) (sym number)
    (subst (λ (x : Table). Settles x c.settle-answer.new.table c.args.txn c.args.granule c.args.mode answer victims) (sym was.locks) (settled c)) in
    let comes = settles_to a call asked may_wait s start answer victims c.settle-answer.new.table settles in
    let told : answer_of answer (told_cycle a.txn None victims) ≡ c.answer_of.result =
    ap (λ t. answer_of answer (told_cycle t None victims)) number ∙ ap (answer_of answer) (sym c.note_victims-told.ensures.told) ∙ sym c.answer_of.ensures in
    let noted : AreNoted c.args.seat.now.session c.args.txn s victims comes.new =
    subst (λ t. AreNoted c.args.seat.now.session t s victims comes.new) number (subst (λ n. AreNoted n a.txn s victims comes.new) its.1 comes.noted) in
    let stands = c.note_victims-told.ensures.stands s comes.new (stands_for control _ s was c.acquire.ensures.txns (c.note_let_through.ensures.calls ∙ c.acquire.ensures.waits))
    (subst (All (λ (w : WaitingCall). w.session ≢ c.args.seat.now.session)) (sym (c.note_let_through.ensures.calls ∙ c.acquire.ensures.waits)) c.requires.free) noted in (
      comes.new,
      subst (λ answered. LocksTo s a call asked answered comes.new) told comes.locks_to,
      record { txns = stands.txns; waits = stands.waits; resolving = stands.resolving; locks = comes.locks ∙ sym c.note_victims-told.ensures.keeps.locks },
    )
