use Rattle.std.proofs.Common.{◌++◌, ap, sym, ◌∙◌}
use Rattle.std.proofs.lemmas.List.{append-nil}
use Rattle.shore_cycles.specs.Blockers.{is_among}
use Rattle.shore_cycles.proofs.Idle.{none_refuse}
use Rattle.shore_cycles.proofs.blockers.list_waiters.Goals as goal

pub returns-then-not-may_have_conversions-clause-met : goal.returns-then-not-may_have_conversions-clause-met
returns-then-not-may_have_conversions-clause-met c =
    ap (λ ts. is_among ts c.args.sought) (sym (none_refuse c.args.waiter.now c.args.waiter.now.granule c.args.table.now.requests (c.may_have_conversions.ensures c.if-not-may_have_conversions.true)))

pub returns-then-not-may_have_conversions-clause-listed : goal.returns-then-not-may_have_conversions-clause-listed
returns-then-not-may_have_conversions-clause-listed c = λ no.
    sym (ap (λ ts. c.args.out.now.items ++ ts) (none_refuse c.args.waiter.now c.args.waiter.now.granule c.args.table.now.requests (c.may_have_conversions.ensures c.if-not-may_have_conversions.true)) ∙ append-nil c.args.out.now.items)
