use Rattle.std.proofs.Common.{◌≡◌, None, Some, sym, ap, subst, ◌∙◌}
use Rattle.std.specs.BTreeMap.{get}
use Rattle.std.specs.Ordering.{nat_cmp}
use Rattle.shore_model.specs.declared.log_records.LogRecord.{LogRecord}
use Rattle.shore_analysis.specs.declared.kept_passes.Standing.TheVariants.{Whole}
use Rattle.shore_analysis.specs.KeptPasses.{StandsAs}
use Rattle.shore_analysis.proofs.KeptStandings.{stands_cut_off, stands_whole}
use Rattle.shore_analysis.proofs.kept_passes.KeptPass.standing.Goals as goal

pub returns-in_default : goal.returns-in_default
returns-in_default c g before one knows =
    let pass = c.args.self.now in
    let none : get nat_cmp pass.running c.args.logged.now.txn ≡ None = sym (c.in_default.ensures.value ∙ ap (λ (r : LogRecord). get nat_cmp pass.running r.txn) c.logged.view_is) in
    c.standing_of_new.ensures g before one knows none

pub returns-then-is_cut_off : goal.returns-then-is_cut_off
returns-then-is_cut_off c g before one knows =
    let pass = c.args.self.now in
    let e = c.in-Some.entry.now in
    let here : get nat_cmp pass.running c.args.logged.now.txn ≡ Some e = sym (c.in-Some.ensures.value ∙ ap (λ (r : LogRecord). get nat_cmp pass.running r.txn) c.logged.view_is) in
    let off = sym c.is_cut_off.ensures ∙ c.if-is_cut_off.true in
    stands_cut_off g c.args.cut before c.args.logged.now one pass knows e here off

pub returns : goal.returns
returns c g before one knows =
    let pass = c.args.self.now in
    let e = c.in-Some.entry.now in
    let here : get nat_cmp pass.running c.args.logged.now.txn ≡ Some e = sym (c.in-Some.ensures.value ∙ ap (λ (r : LogRecord). get nat_cmp pass.running r.txn) c.logged.view_is) in
    let not_off = sym c.is_cut_off.ensures ∙ c.if-is_cut_off.false in
    subst (λ p. StandsAs g c.args.cut before c.args.logged.now (Whole p)) (sym c.progress_of.ensures)
    (stands_whole g c.args.cut before c.args.logged.now one pass knows e here not_off)
