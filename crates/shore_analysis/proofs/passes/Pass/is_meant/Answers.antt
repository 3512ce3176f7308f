use Rattle.std.proofs.Common.{◌≡◌, ◌<◌, Some, sym, ◌∙◌, arith}
use Rattle.std.proofs.lemmas.Bool.{eqb-true}
use Rattle.shore_types.specs.declared.layout.TheConstants.{LAST_TXN}
use Rattle.shore_analysis.specs.Passes.{progress_at}
use Rattle.shore_analysis.proofs.Answered.{last_named}
use Rattle.shore_analysis.proofs.MeantLogs.{meant_of}
use Rattle.shore_analysis.proofs.Progresses.{told}
use Rattle.shore_analysis.proofs.passes.Pass.is_meant.Goals as goal

pub returns-then-eq : goal.returns-then-eq
returns-then-eq c =
    let g = c.args.geometry.now in
    let before = c.args.before.now in
    let r = c.args.logged.now in
    let p = c.in-Some.progress in
    let one : 0 < r.txn = omega (arith, c.if-txn-eq0.false, c.txn.view_is) in
    let sizes = c.has_sizes.ensures.0 c.if-not-has_sizes.false in
    let number : r.txn < LAST_TXN = omega (arith, c.if-txn-ge-LAST_TXN.false, c.txn.view_is) in
    let is : Some p ≡ progress_at r.txn before = c.in-Some.ensures before c.requires.knows one in
    let tells = told r.txn before p is in
    let goes = c.means.ensures r.txn one (meant_of g before c.requires.meant r.txn) is in (
      λ h. record {
        some = one;
        number = number;
        previous = eqb-true r.previous p.last (sym c.eq.ensures ∙ c.if-eq.true) ∙ tells.last ∙ sym (last_named before r.txn one);
        not_over = tells.runs;
        sizes = sizes;
        says = goes.0 h;
      },
      λ m. goes.1 m.says,
    )

pub returns-then-not-has_sizes : goal.returns-then-not-has_sizes
returns-then-not-has_sizes c = (λ h. absurd cc, λ m. let yes = c.has_sizes.ensures.1 m.sizes in let no = c.if-not-has_sizes.true in absurd cc)
