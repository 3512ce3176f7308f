use Rattle.std.proofs.Common.{◌≡◌, ◌∙◌, ap, sym}
use Rattle.std.specs.Prelude.{Ok, is_some}
use Rattle.shore_locks.specs.LetThrough.{noted_all}
use Rattle.shore_locks.proofs.Tellings.{others_still}
use Rattle.shore_path.specs.declared.answers.Acquired.TheVariants as acquire
use Rattle.shore_deadlock.proofs.Lockings.{acquire_count, acquire_each, acquire_free, gentle_acquire, keeps_of}
use Rattle.shore_deadlock.proofs.Rounds.{acquires_so, ends_of, fewer_round, keeps_round, through_of}
use Rattle.shore_deadlock.proofs.locking.go_round.Goals as goal

pub break_wait-requires : goal.break_wait-requires
break_wait-requires c =
    let waits : c.acquire.result ≡ Ok (acquire.Waiting c.in-Ok-Waiting.field-0-0) = c.in-Ok-Waiting.is ∙ ap Ok c.in-Ok-Waiting.field-0-is in
    ap is_some (c.acquire.ensures.waiting c.in-Ok-Waiting.field-0-0 waits).2.waits

pub returns-in-Ok-Waiting-clause-ends : goal.returns-in-Ok-Waiting-clause-ends
returns-in-Ok-Waiting-clause-ends c =
    let waits : c.acquire.result ≡ Ok (acquire.Waiting c.in-Ok-Waiting.field-0-0) = c.in-Ok-Waiting.is ∙ ap Ok c.in-Ok-Waiting.field-0-is in
    ends_of c.args.table.now c.args.txn c.args.target.now c.args.mode c.in-Ok-Waiting.field-0-0 c.acquire.new.table.requests c.break_wait.new.table.requests c.args.victims.now.items c.break_wait.new.victims.items
    (acquires_so c.args.table.now c.args.txn c.args.target.now c.args.mode c.acquire.result (Ok (acquire.Waiting c.in-Ok-Waiting.field-0-0)) c.acquire.new.table waits
    c.acquire.ensures.as_asked)
    c.break_wait.result c.break_wait.ensures.ends c.break_wait.ensures.refused

pub returns-in-Ok-Waiting-clause-let_through : goal.returns-in-Ok-Waiting-clause-let_through
returns-in-Ok-Waiting-clause-let_through c =
    let waits : c.acquire.result ≡ Ok (acquire.Waiting c.in-Ok-Waiting.field-0-0) = c.in-Ok-Waiting.is ∙ ap Ok c.in-Ok-Waiting.field-0-is in
    through_of c.args.table.now c.args.txn c.args.target.now c.args.mode c.in-Ok-Waiting.field-0-0 c.acquire.new.table.requests c.break_wait.new.table.requests c.args.victims.now.items c.break_wait.new.victims.items
    (acquires_so c.args.table.now c.args.txn c.args.target.now c.args.mode c.acquire.result (Ok (acquire.Waiting c.in-Ok-Waiting.field-0-0)) c.acquire.new.table waits
    c.acquire.ensures.as_asked)
    c.break_wait.result c.break_wait.ensures.let_through

pub returns-in-Ok-Waiting-clause-fewer : goal.returns-in-Ok-Waiting-clause-fewer
returns-in-Ok-Waiting-clause-fewer c =
    let waits : c.acquire.result ≡ Ok (acquire.Waiting c.in-Ok-Waiting.field-0-0) = c.in-Ok-Waiting.is ∙ ap Ok c.in-Ok-Waiting.field-0-is in
    fewer_round c.args.txn c.args.table.now.requests c.acquire.new.table.requests c.break_wait.new.table.requests c.args.victims.now.items c.break_wait.new.victims.items c.break_wait.result
    c.tables_are_orderly-in-Ok-Waiting.ensures (ap is_some (c.acquire.ensures.waiting c.in-Ok-Waiting.field-0-0 waits).2.waits)
    (acquire_count c.args.txn c.args.target.now c.args.mode c.args.table.now c.acquire.new.table c.acquire.result c.tables_are_orderly.ensures c.requires c.acquire.ensures.as_asked)
    c.break_wait.ensures.let_through

pub returns-in-Ok-Waiting-clause-keeps : goal.returns-in-Ok-Waiting-clause-keeps
returns-in-Ok-Waiting-clause-keeps c =
    let waits : c.acquire.result ≡ Ok (acquire.Waiting c.in-Ok-Waiting.field-0-0) = c.in-Ok-Waiting.is ∙ ap Ok c.in-Ok-Waiting.field-0-is in
    keeps_round c.args.txn c.args.table.now.requests c.acquire.new.table.requests c.break_wait.new.table.requests c.args.victims.now.items c.break_wait.new.victims.items c.break_wait.result
    c.tables_are_orderly-in-Ok-Waiting.ensures
    (gentle_acquire c.args.txn c.args.table.now.requests c.acquire.new.table.requests c.acquire.ensures.none_weaker c.acquire.ensures.rooted c.acquire.ensures.others)
    (acquire_each c.args.txn c.args.target.now c.args.mode c.args.table.now c.acquire.new.table c.acquire.result c.tables_are_orderly.ensures c.requires c.acquire.ensures.as_asked)
    c.break_wait.ensures.ends c.break_wait.ensures.refused c.break_wait.ensures.let_through

pub returns-in-Ok-Done-clause-keeps : goal.returns-in-Ok-Done-clause-keeps
returns-in-Ok-Done-clause-keeps c =
    let done : c.acquire.result ≡ Ok acquire.Done = c.in-Ok-Done.is ∙ ap Ok c.in-Ok-Done.field-0-is in
    keeps_of c.args.txn c.args.table.now.requests c.acquire.new.table.requests
    (gentle_acquire c.args.txn c.args.table.now.requests c.acquire.new.table.requests c.acquire.ensures.none_weaker c.acquire.ensures.rooted c.acquire.ensures.others)
    (acquire_free c.args.txn c.args.target.now c.args.mode c.args.table.now c.acquire.new.table c.acquire.result c.tables_are_orderly.ensures c.requires c.acquire.ensures.as_asked
    (λ g is. (let both : Ok acquire.Done ≡ Ok (acquire.Waiting g) = sym done ∙ is in cc)))

pub returns-in-Err-clause-keeps : goal.returns-in-Err-clause-keeps
returns-in-Err-clause-keeps c =
    keeps_of c.args.txn c.args.table.now.requests c.acquire.new.table.requests
    (gentle_acquire c.args.txn c.args.table.now.requests c.acquire.new.table.requests c.acquire.ensures.none_weaker c.acquire.ensures.rooted c.acquire.ensures.others)
    (acquire_free c.args.txn c.args.target.now c.args.mode c.args.table.now c.acquire.new.table c.acquire.result c.tables_are_orderly.ensures c.requires c.acquire.ensures.as_asked
    (λ g is. (let both = sym c.in-Err.is ∙ is in cc)))

pub returns-in-Ok-Waiting-clause-told : goal.returns-in-Ok-Waiting-clause-told
returns-in-Ok-Waiting-clause-told c = λ others. let tells = c.break_wait.ensures.told in tells.2 ∙ ap (noted_all tells.0) others ∙ others_still tells.0
