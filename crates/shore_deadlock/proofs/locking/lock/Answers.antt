use Rattle.std.proofs.Common.{◌≡◌, inl, refl, ◌∙◌, ap, sym}
use Rattle.std.specs.Prelude.{Ok, Err, is_some}
use Rattle.shore_path.specs.declared.answers.Acquired.TheVariants as acquire
use Rattle.shore_deadlock.specs.Locking.{IsLetWait}
use Rattle.shore_deadlock.specs.declared.locking.Locked.TheVariants as locked
use Rattle.shore_deadlock.proofs.LetWaits.{keeps_at_once, lets_wait, others_at_once}
use Rattle.shore_deadlock.proofs.Rounds.{acquires_so}
use Rattle.shore_deadlock.proofs.locking.lock.Goals as goal
use Rattle.shore_deadlock.proofs.locking.lock.Goals.{After-settle}

pub settle-requires : goal.settle-requires
settle-requires c = record {
  waiting =
      let waits : c.acquire.result ≡ Ok (acquire.Waiting c.in-Ok-Waiting.field-0-0) = c.in-Ok-Waiting.is ∙ ap Ok c.in-Ok-Waiting.field-0-is in
      ap is_some (c.acquire.ensures.waiting c.in-Ok-Waiting.field-0-0 waits).2.waits;
}

let_wait : (c : After-settle) → IsLetWait c.args.table.now c.args.txn c.args.target c.args.mode c.acquire.new.table
let_wait c =
    lets_wait c.args.table.now c.args.txn c.args.target c.args.mode c.acquire.result c.acquire.new.table c.tables_are_orderly.ensures c.requires c.acquire.ensures.as_asked
    c.in-Ok-Waiting.field-0-0 (c.in-Ok-Waiting.is ∙ ap Ok c.in-Ok-Waiting.field-0-is)

pub returns-in-Ok-Waiting-clause-settles : goal.returns-in-Ok-Waiting-clause-settles
returns-in-Ok-Waiting-clause-settles c = c.settle.ensures.settles c.args.table.now (let_wait c)

pub returns-in-Ok-Waiting-clause-keeps : goal.returns-in-Ok-Waiting-clause-keeps
returns-in-Ok-Waiting-clause-keeps c = c.settle.ensures.keeps c.args.table.now (let_wait c)

pub returns-in-Ok-Waiting-clause-others : goal.returns-in-Ok-Waiting-clause-others
returns-in-Ok-Waiting-clause-others c = c.settle.ensures.others c.args.table.now (let_wait c)

pub returns-in-Ok-Done-clause-keeps : goal.returns-in-Ok-Done-clause-keeps
returns-in-Ok-Done-clause-keeps c =
    let done : c.acquire.result ≡ Ok acquire.Done = c.in-Ok-Done.is ∙ ap Ok c.in-Ok-Done.field-0-is in
    keeps_at_once c.args.table.now c.args.txn c.args.target c.args.mode c.acquire.result c.acquire.new.table c.tables_are_orderly.ensures c.requires c.acquire.ensures.as_asked
    (λ g is. (let both : Ok acquire.Done ≡ Ok (acquire.Waiting g) = sym done ∙ is in cc)) c.acquire.ensures.none_weaker c.acquire.ensures.rooted c.acquire.ensures.others

pub returns-in-Ok-Done-clause-others : goal.returns-in-Ok-Done-clause-others
returns-in-Ok-Done-clause-others c =
    let done : c.acquire.result ≡ Ok acquire.Done = c.in-Ok-Done.is ∙ ap Ok c.in-Ok-Done.field-0-is in
    others_at_once c.args.table.now c.args.txn c.args.target c.args.mode c.acquire.result c.acquire.new.table c.tables_are_orderly.ensures c.requires c.acquire.ensures.as_asked
    (Ok locked.Done) c.new.result.items c.new.ensures.items
    (acquires_so c.args.table.now c.args.txn c.args.target c.args.mode c.acquire.result (Ok acquire.Done) c.acquire.new.table done c.acquire.ensures.as_asked, refl)

pub returns-in-Err-clause-keeps : goal.returns-in-Err-clause-keeps
returns-in-Err-clause-keeps c =
    keeps_at_once c.args.table.now c.args.txn c.args.target c.args.mode c.acquire.result c.acquire.new.table c.tables_are_orderly.ensures c.requires c.acquire.ensures.as_asked
    (λ g is. (let both = sym c.in-Err.is ∙ is in cc)) c.acquire.ensures.none_weaker c.acquire.ensures.rooted c.acquire.ensures.others

pub returns-in-Err-clause-others : goal.returns-in-Err-clause-others
returns-in-Err-clause-others c =
    others_at_once c.args.table.now c.args.txn c.args.target c.args.mode c.acquire.result c.acquire.new.table c.tables_are_orderly.ensures c.requires c.acquire.ensures.as_asked
    (Err c.in-Err.fault) c.new-in-Err.result.items c.new-in-Err.ensures.items
    (inl (acquires_so c.args.table.now c.args.txn c.args.target c.args.mode c.acquire.result (Err c.in-Err.fault) c.acquire.new.table c.in-Err.is c.acquire.ensures.as_asked), refl)
