use Rattle.std.proofs.Common.{◌≡◌, ◌<◌, length, arith}
use Rattle.std.proofs.lemmas.Bool.{lt-ltb, ltb-true}
use Rattle.shore_types.specs.declared.layout.TheConstants.{MAX_TRANSACTIONS}
use Rattle.shore_analysis.proofs.KeptCrowds.{as_many, too_many}
use Rattle.shore_analysis.proofs.kept_passes.KeptPass.is_crowded.Goals as goal

pub returns : goal.returns
returns c g cut before knows =
    let pass = c.args.self.now in
    let count : c.len.result ≡ length pass.running.entries = c.len.ensures.len in (
      λ h. let many : MAX_TRANSACTIONS < c.len.result = ltb-true MAX_TRANSACTIONS c.len.result h in too_many g cut before pass knows c.len.ensures.ordered (omega (arith, many, count)),
      λ crowded. let many = as_many g cut before pass knows c.len.ensures.ordered crowded in lt-ltb MAX_TRANSACTIONS c.len.result (omega (arith, many, count)),
    )
