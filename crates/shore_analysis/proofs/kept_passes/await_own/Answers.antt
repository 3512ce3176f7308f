use Rattle.std.proofs.Common.{[], ◌∷◌, cond, sym, ap, ◌∙◌}
use Rattle.std.specs.BTreeMap.{get}
use Rattle.std.specs.Ordering.{nat_cmp}
use Rattle.shore_analysis.specs.KeptPasses.{noted_all}
use Rattle.shore_analysis.proofs.KeptAwaits.{all_ok, on_ok}
use Rattle.shore_analysis.proofs.kept_passes.await_own.Goals as goal

pub returns-then-not-is_own : goal.returns-then-not-is_own
returns-then-not-is_own c t = sym (ap (λ b. noted_all (cond b (c.args.txn ∷ []) []) c.args.number t (get nat_cmp c.args.awaited.now t)) c.if-not-is_own.true)

pub returns : goal.returns
returns c = on_ok c.await_end.result
    (λ noted t. noted t ∙ sym (ap (λ b. noted_all (cond b (c.args.txn ∷ []) []) c.args.number t (get nat_cmp c.args.awaited.now t)) c.if-not-is_own.false)) (all_ok _ c.await_end.result c.await_end.ensures)
