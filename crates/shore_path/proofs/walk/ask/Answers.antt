use Rattle.std.proofs.Common.{◌≡◌, ap, false, subst, sym, ◌∙◌}
use Rattle.shore_locks.specs.Tables.{Table, is_waiting}
use Rattle.shore_path.specs.Walks.{of_request, of_try}
use Rattle.shore_path.specs.declared.answers.OnConflict.TheVariants.{Refuse, Wait}
use Rattle.shore_path.proofs.Passing.{quiet_at}
use Rattle.shore_path.proofs.walk.ask.Goals as goal

pub returns-in-Wait-clause-quiet : goal.returns-in-Wait-clause-quiet
returns-in-Wait-clause-quiet c done =
    subst (λ (x : Table). is_waiting c.args.txn x.requests ≡ false) (sym c.request-requested.ensures.table)
    (quiet_at Wait c.args.txn c.args.granule.now c.args.mode c.args.table.now c.tables_are_orderly.ensures c.requires
    (ap (of_request c.args.granule.now) (sym c.request-requested.ensures.answer) ∙ sym c.of_request.ensures ∙ done))

pub returns-in-Refuse-clause-quiet : goal.returns-in-Refuse-clause-quiet
returns-in-Refuse-clause-quiet c done =
    subst (λ (x : Table). is_waiting c.args.txn x.requests ≡ false) (sym c.try_request-tried.ensures.table)
    (quiet_at Refuse c.args.txn c.args.granule.now c.args.mode c.args.table.now c.tables_are_orderly.ensures c.requires
    (ap of_try (sym c.try_request-tried.ensures.answer) ∙ sym c.of_try.ensures ∙ done))
