use Rattle.std.proofs.Common.{◌≢◌, ◌++◌, ◌∙◌, ap, refl, subst, sym}
use Rattle.std.specs.Prelude.{All}
use Rattle.shore_model.specs.declared.calls.Answer.TheVariants.{Aborted, Committed}
use Rattle.shore_model.specs.declared.calls.Call.TheVariants.{Abort, Commit, Resolve}
use Rattle.shore_model.specs.declared.requests.Request.{Request}
use Rattle.shore_model.specs.declared.step.Step.TheVariants.{Done}
use Rattle.laws_calls.proofs.WrongResumes.{gone}
use Rattle.laws_calls.specs.States.{State}
use Rattle.shore_world.specs.declared.event.Event.TheVariants as event
use Rattle.shore_world.specs.Exchanges.{waited_behind}
use Rattle.shore_world.specs.Worlds.{geometry_in}
use Rattle.shore_world.proofs.DecidedLemmas.{abort_gives_back, commit_answered, resolve_gives_back}
use Rattle.shore_world.proofs.PromiseLemmas.{after, seen, stepped}
use Rattle.shore_world.proofs.promises.locks.locks_go_with_decisions.Goals as goal

pub returns-clause-resolve : goal.returns-clause-resolve
returns-clause-resolve c d w new o es ws session global asked step k one some =
    let s = k.now.state in
    let went = stepped w o es ws k (event.Call session (Resolve global asked)) step new tt one in
    let last = went.on.manager.now.state in
    let later = seen new o (es ++ went.on.made) (waited_behind ws (event.Call session (Resolve global asked)) step) went.on.manager in
    let its = resolve_gives_back (geometry_in w) s last session global asked step some went.moves in
    let t = its.txn.txn in (
      its.txn,
      (global, asked, refl, its.its),
      subst (All (λ (r : Request). r.txn ≢ t)) (sym its.requests ∙ later.requests) (gone t s.locks.requests (after w o es ws k).sessions.locks.orderly),
    )

pub returns-clause-commit : goal.returns-clause-commit
returns-clause-commit c d w new o es ws session ticket k one =
    let s = k.now.state in
    let went = stepped w o es ws k (event.Call session Commit) (Done (Committed ticket)) new tt one in
    let later = seen new o (es ++ went.on.made) (waited_behind ws (event.Call session Commit) (Done (Committed ticket))) went.on.manager in
    let its = commit_answered (geometry_in w) s went.on.manager.now.state session (Committed ticket) went.moves in
    let t = its.0.txn in
    let left = ap (λ (x : State). x.locks.requests) its.3 in
    (its.0, its.1, subst (All (λ (r : Request). r.txn ≢ t)) (sym left ∙ later.requests) (gone t s.locks.requests (after w o es ws k).sessions.locks.orderly))

pub returns-clause-abort : goal.returns-clause-abort
returns-clause-abort c d w new o es ws session k one =
    let s = k.now.state in
    let went = stepped w o es ws k (event.Call session Abort) (Done Aborted) new tt one in
    let later = seen new o (es ++ went.on.made) (waited_behind ws (event.Call session Abort) (Done Aborted)) went.on.manager in
    let its = abort_gives_back (geometry_in w) s went.on.manager.now.state session Aborted went.moves in
    let t = its.0.txn in
    (its.0, its.1, subst (All (λ (r : Request). r.txn ≢ t)) (sym its.2 ∙ later.requests) (gone t s.locks.requests (after w o es ws k).sessions.locks.orderly))
