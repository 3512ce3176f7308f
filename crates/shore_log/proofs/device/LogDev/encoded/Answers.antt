use Rattle.std.specs.Prelude.{All}
use Rattle.std.proofs.Common.{sym, subst}
use Rattle.std.proofs.lemmas.List.Elements.{All-take}
use Rattle.shore_logrec.specs.Text.{Fits}
use Rattle.shore_log.proofs.ForceLemmas.{behind_fit, slice_behind}
use Rattle.shore_log.proofs.device.LogDev.encoded.Goals as goal

pub encode_all-requires : goal.encode_all-requires
encode_all-requires g c =
    let log = c.args.self.now in
    All-take Fits c.args.count _ (subst (All Fits) (sym (slice_behind log c.args.passed c.in-Some.read c.deref.result.now c.in-Some.is c.deref.ensures.value)) (behind_fit log c.args.passed))
