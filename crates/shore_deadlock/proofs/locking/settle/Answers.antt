use Rattle.std.proofs.Common.{inl, inr}
use Rattle.shore_deadlock.proofs.LetWaits.{first_gone, first_keeps, first_round_keeps, first_settles}
use Rattle.shore_deadlock.proofs.Lockings.{keeps_on}
use Rattle.shore_deadlock.proofs.Rounds.{gone_on, settled}
use Rattle.shore_deadlock.proofs.SparedRounds.{settled_grants}
use Rattle.shore_deadlock.proofs.locking.settle.Goals as goal

-- the first wait

pub returns-in-Some-clause-settles : goal.returns-in-Some-clause-settles
returns-in-Some-clause-settles c before waits =
    first_settles before c.args.txn c.args.target c.args.mode c.args.table.now waits c.tables_are_orderly.ensures c.break_wait.new.table c.break_wait.ensures.limit
    c.new-victims.result.items c.break_wait.new.victims.items c.new-victims.ensures.items c.in-Some.answer c.in-Some.ensures.ends c.in-Some.ensures.refused

pub returns-in-Some-clause-keeps : goal.returns-in-Some-clause-keeps
returns-in-Some-clause-keeps c before waits =
    first_keeps before c.args.txn c.args.target c.args.mode c.args.table.now waits c.tables_are_orderly.ensures c.break_wait.new.table c.break_wait.ensures.limit
    c.new-victims.result.items c.break_wait.new.victims.items c.new-victims.ensures.items c.in-Some.answer c.in-Some.ensures.ends c.in-Some.ensures.refused

pub returns-in-Some-clause-others : goal.returns-in-Some-clause-others
returns-in-Some-clause-others c before waits =
    settled_grants before c.break_wait.new.table c.args.txn c.args.target c.args.mode c.in-Some.answer c.break_wait.new.victims.items waits.orderly waits.quiet
    (returns-in-Some-clause-settles c before waits)

pub loop-answer-init : goal.loop-answer-init
loop-answer-init c = record {
  gone = λ before waits.
      first_gone before c.args.txn c.args.target c.args.mode c.args.table.now waits c.tables_are_orderly.ensures c.break_wait.new.table c.break_wait.ensures.limit
      c.new-victims.result.items c.break_wait.new.victims.items c.new-victims.ensures.items c.in_default.ensures.let_through;
  quiet = c.in_default.ensures.let_through.3;
  keeps = λ before waits.
      first_round_keeps before c.args.txn c.args.target c.args.mode c.args.table.now waits c.tables_are_orderly.ensures c.break_wait.new.table c.break_wait.ensures.limit
      c.new-victims.result.items c.break_wait.new.victims.items c.new-victims.ensures.items c.in_default.ensures.let_through;
  others = c.note_others.ensures;
}

-- the rounds after it

pub returns-in-Some-go_round-clause-settles : goal.returns-in-Some-go_round-clause-settles
returns-in-Some-go_round-clause-settles c before waits =
    let told = c.in-Some-go_round.ensures.ends in
    settled before c.args.txn c.args.target c.args.mode c.loop-answer.victims.items c.loop-answer.table c.in-Some-go_round.answer told.0 c.go_round.new.table c.go_round.new.victims.items
    (c.loop-answer.invariant.gone before waits) c.go_round.ensures.limit told.1 told.2

pub returns-in-Some-go_round-clause-keeps : goal.returns-in-Some-go_round-clause-keeps
returns-in-Some-go_round-clause-keeps c before waits =
    keeps_on c.args.txn before.requests c.loop-answer.table.requests c.go_round.new.table.requests (c.loop-answer.invariant.keeps before waits) c.go_round.ensures.keeps

pub returns-in-Some-go_round-clause-others : goal.returns-in-Some-go_round-clause-others
returns-in-Some-go_round-clause-others c before waits =
    settled_grants before c.go_round.new.table c.args.txn c.args.target c.args.mode c.in-Some-go_round.answer c.go_round.new.victims.items waits.orderly waits.quiet
    (returns-in-Some-go_round-clause-settles c before waits)

pub loop-answer-preserved : goal.loop-answer-preserved
loop-answer-preserved c =
    let told = c.in_default-go_round.ensures.let_through in
    record {
      gone = λ before waits.
          gone_on before c.args.txn c.args.target c.args.mode c.loop-answer.victims.items c.loop-answer.table told.0 c.go_round.new.table c.go_round.new.victims.items
          (c.loop-answer.invariant.gone before waits) c.go_round.ensures.limit told.1 told.2;
      quiet = told.1.quiet;
      keeps = λ before waits. keeps_on c.args.txn before.requests c.loop-answer.table.requests c.go_round.new.table.requests (c.loop-answer.invariant.keeps before waits) c.go_round.ensures.keeps;
      others = c.go_round.ensures.told c.loop-answer.invariant.others;
    }

-- ---- who is let through

pub returns-in-Some-clause-told : goal.returns-in-Some-clause-told
returns-in-Some-clause-told c = inr c.break_wait.ensures.told

pub returns-in-Some-go_round-clause-told : goal.returns-in-Some-go_round-clause-told
returns-in-Some-go_round-clause-told c = inl (c.go_round.ensures.told c.loop-answer.invariant.others)
