use Rattle.std.proofs.Common.{sym, ap, ◌∙◌, cond, [], ◌∷◌}
use Rattle.std.specs.BTreeMap.{get}
use Rattle.std.specs.Ordering.{nat_cmp}
use Rattle.shore_analysis.specs.KeptMeant.{listed_cut_off, own_cut_off}
use Rattle.shore_analysis.specs.KeptPasses.{noted_all}
use Rattle.shore_analysis.proofs.KeptAwaits.{noted-append, on_ok}
use Rattle.shore_analysis.proofs.kept_passes.KeptPass.await_ends.Goals as goal

pub returns-clause-awaited : goal.returns-clause-awaited
returns-clause-awaited c g before knows m =
    let r = c.args.logged.now in
    let own = c.is_of_cut_off-is_own.ensures g before knows m in
    on_ok c.await_listed.result (λ listed t.
    listed t
    ∙ ap (noted_all (listed_cut_off c.args.cut r.payload) c.args.number t) (c.in_ok-await_own.ensures t ∙ ap (λ b. noted_all (cond b (r.txn ∷ []) []) c.args.number t (get nat_cmp c.args.self.now.awaited t)) own)
    ∙ sym (noted-append (own_cut_off c.args.cut before r) (listed_cut_off c.args.cut r.payload) c.args.number t (get nat_cmp c.args.self.now.awaited t))) c.await_listed.ensures
