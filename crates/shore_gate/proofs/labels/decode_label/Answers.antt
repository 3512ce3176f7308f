use Rattle.std.proofs.Common.{sym, ◌∙◌, subst, arith}
use Rattle.std.proofs.lemmas.Result.{err_from_is_err_and}
use Rattle.shore_gate.specs.Label.{HoldsLabel}
use Rattle.shore_gate.proofs.LabelLemmas.{label_is, verdict_holds, holds_label_at, only_memory}
use Rattle.shore_gate.proofs.labels.decode_label.Goals as goal

pub returns-in_err-version-clause-only : goal.returns-in_err-version-clause-only
returns-in_err-version-clause-only c label holds =
    let p = err_from_is_err_and c.from_residual.result c.from_residual.ensures.1 in
    rw (p.1, p.2) (only_memory c.args.device c.args.len c.args.bytes.now label c.in_err-version.field-0.0 c.in_err-version.ensures.refused holds)

pub returns-clause-found : goal.returns-clause-found
returns-clause-found c =
    let same = label_is c.args.len c.args.bytes.now c.in_ok-version.version c.u64_at.result c.u32_at.result c.from_vec.result c.in_ok-version.ensures.passed.1 c.u64_at.ensures c.u32_at.ensures (c.from_vec.ensures ∙ c.in_ok-version.ensures.passed.2) in
    subst (HoldsLabel c.args.device c.args.len c.args.bytes.now) (sym same)
    (verdict_holds c.args.device c.args.len c.args.bytes.now c.requires.whole (λ i. omega (arith, c.type_inv.bytes i)) c.in_ok-version.ensures.passed.0)

pub returns-clause-only : goal.returns-clause-only
returns-clause-only c label holds =
    label_is c.args.len c.args.bytes.now c.in_ok-version.version c.u64_at.result c.u32_at.result c.from_vec.result c.in_ok-version.ensures.passed.1 c.u64_at.ensures c.u32_at.ensures (c.from_vec.ensures ∙ c.in_ok-version.ensures.passed.2)
    ∙ holds_label_at c.args.device c.args.len c.args.bytes.now label holds
