use Rattle.std.proofs.Common.{◌≡◌, false, refl, ap, sym, subst, ◌∙◌}
use Rattle.shore_locks.specs.Grants.{cancelled}
use Rattle.shore_locks.specs.Tables.{is_waiting}
use Rattle.shore_locks.proofs.Outcomes.{quiet_after_cancel}
use Rattle.shore_locks.proofs.Tellings.{told_on}
use Rattle.shore_cycles.proofs.Steps.{cancelled_keeps_quiet}
use Rattle.shore_deadlock.proofs.Lockings.{broken_quiet}
use Rattle.shore_deadlock.proofs.locking.break_wait.Goals as goal

pub returns-in-Ok-true-clause-quiet : goal.returns-in-Ok-true-clause-quiet
returns-in-Ok-true-clause-quiet c =
    let told = c.in-Ok-true.ensures.broken in
    λ never. broken_quiet c.args.txn c.args.table.now.requests told.0 c.break_for.new.table.requests c.tables_are_orderly.ensures told.1 (sym told.2 ∙ c.in-Ok-true.field-0-test)

pub returns-in-Some-clause-quiet : goal.returns-in-Some-clause-quiet
returns-in-Some-clause-quiet c = λ never. absurd (never c.in-Some.request.granule refl)

pub returns-in-Err-clause-quiet : goal.returns-in-Err-clause-quiet
returns-in-Err-clause-quiet c =
    let now : c.cancel.new.self.requests ≡ cancelled c.args.txn c.args.table.now.requests =
    ap (λ t. t.requests) c.cancel.ensures.table ∙ ap (λ t. cancelled c.args.txn t.requests) c.in-Err.ensures.refused.0 in
    λ never. subst (λ xs. is_waiting c.args.txn xs ≡ false) (sym now) (quiet_after_cancel c.args.txn c.args.table.now.requests c.tables_are_orderly.ensures)

pub returns-in-Err-clause-told : goal.returns-in-Err-clause-told
returns-in-Err-clause-told c =
    let rs = c.args.table.now.requests in
    let same : c.break_for.new.table.requests ≡ rs = ap (λ t. t.requests) c.in-Err.ensures.refused.0 in
    let now : c.cancel.new.self.requests ≡ cancelled c.args.txn rs =
    ap (λ t. t.requests) c.cancel.ensures.table ∙ ap (λ t. cancelled c.args.txn t.requests) c.in-Err.ensures.refused.0 in
    told_on rs c.break_for.new.table.requests c.cancel.new.self.requests c.args.let_through.now c.break_for.new.let_through c.cancel.new.let_through
    (λ u none. subst (λ xs. is_waiting u xs ≡ false) (sym same) none)
    (λ u none. subst (λ xs. is_waiting u xs ≡ false) (sym now)
    (cancelled_keeps_quiet rs c.args.txn u c.tables_are_orderly.ensures.one_each (subst (λ xs. is_waiting u xs ≡ false) same none)))
    c.break_for.ensures.told c.cancel.ensures.told
