use Rattle.std.proofs.Common.{drop, sym, subst, ap, ◌∙◌}
use Rattle.std.specs.Prelude.{All}
use Rattle.shore_logrec.specs.Text.{Fits}
use Rattle.shore_log.proofs.ForceLemmas.{kept_fit, kept_read}
use Rattle.shore_log.proofs.TextLemmas.{rest_is}
use Rattle.shore_log.proofs.device.LogDev.records.Goals as goal

pub returns-in-Some-clause-log : goal.returns-in-Some-clause-log
returns-in-Some-clause-log g c =
    let log = c.args.self.now in
    rest_is log.gone c.deref.result.now ∙ ap (drop log.gone) c.deref.ensures.value ∙ kept_read log c.in-Some.read c.in-Some.is

pub returns-in-Some-clause-fit : goal.returns-in-Some-clause-fit
returns-in-Some-clause-fit g c =
    let log = c.args.self.now in
    subst (All Fits) (sym (rest_is log.gone c.deref.result.now ∙ ap (drop log.gone) c.deref.ensures.value ∙ kept_read log c.in-Some.read c.in-Some.is)) (kept_fit log)
