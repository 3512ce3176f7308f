use Rattle.std.proofs.Common.{◌≡◌, ◌∙◌, ◌+◌, ◌++◌, ℕ, List, ap, arith, length, refl, sym}
use Rattle.shore_model.specs.declared.calls.Answer.TheVariants.{Committed}
use Rattle.shore_model.specs.declared.calls.Call.TheVariants.{Commit}
use Rattle.shore_model.specs.declared.log_records.LogRecord.{LogRecord}
use Rattle.shore_model.specs.declared.log_records.Payload.TheVariants as logged
use Rattle.shore_model.specs.declared.requests.Request.{Request}
use Rattle.shore_model.specs.declared.step.Step.TheVariants.{Done, Waits}
use Rattle.shore_locks.specs.Grants.{released}
use Rattle.shore_model.specs.Logs.{previous_of}
use Rattle.laws_lives.proofs.Lists.{length-push}
use Rattle.laws_lives.specs.Logged.{and_record}
use Rattle.laws_calls.specs.States.{State}
use Rattle.shore_world.specs.declared.event.Event.TheVariants as event
use Rattle.shore_world.specs.Exchanges.{waited_behind}
use Rattle.shore_world.specs.Worlds.{geometry_in}
use Rattle.shore_world.proofs.DecidedLemmas.{commit_answered, commit_ends, no_commit_waits}
use Rattle.shore_world.proofs.PromiseLemmas.{after, log_seen, seen, stepped}
use Rattle.shore_world.proofs.promises.calls.tickets_are_true.Goals as goal

one_ticket : (m n : ℕ) → Committed m ≡ Committed n → m ≡ n
one_ticket m n is = cc

pub returns-clause-commit : goal.returns-clause-commit
returns-clause-commit c d w new o es ws session ticket k one =
    let s = k.now.state in
    let went = stepped w o es ws k (event.Call session Commit) (Done (Committed ticket)) new tt one in
    let before = seen w o es ws k in
    let ws_now = waited_behind ws (event.Call session Commit) (Done (Committed ticket)) in
    let later = seen new o (es ++ went.on.made) ws_now went.on.manager in
    let its = commit_answered (geometry_in w) s went.on.manager.now.state session (Committed ticket) went.moves in
    let t = its.0.txn in
    let list : went.on.manager.now.state.log ≡ and_record t s.log logged.Commit = ap (λ (x : State). x.log) its.3 in
    let number : ticket ≡ 1 + length s.log = one_ticket ticket (1 + length s.log) its.2 in
    let long = ap (λ (l : List LogRecord). length l) list in
    let more = length-push s.log (record { txn = t; previous = previous_of t s.log; payload = logged.Commit }) in
    let last = log_seen new o (es ++ went.on.made) ws_now went.on.manager in (
      its.0,
      its.1,
      omega (arith, number, long, more, last),
      sym later.requests ∙ ap (λ (x : State). x.locks.requests) its.3 ∙ ap (λ (rs : List Request). released t rs) before.requests,
      (
        went.on,
        list,
        went.on.manager.under_way.under_way.state.sessions.agree.seats session
            ∙ commit_ends (geometry_in w) o k.found es s went.on.manager.now.state (after w o es ws k) session (Committed ticket) went.moves,
      ),
    )

pub returns-clause-waits : goal.returns-clause-waits
returns-clause-waits c d w new o es ws session wait k one =
    let went = stepped w o es ws k (event.Call session Commit) (Waits wait) new tt one in
    no_commit_waits (geometry_in w) k.now.state went.on.manager.now.state session wait went.moves

pub returns-clause-asked : goal.returns-clause-asked
returns-clause-asked c d w new o es ws ticket step k one = one.asked ticket refl
