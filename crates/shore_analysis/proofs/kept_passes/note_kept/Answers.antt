use Rattle.std.proofs.Common.{◌≡◌, ⊎_elim, Some, cond, false, ap, ◌∙◌, arith}
use Rattle.std.specs.Ordering.{nat_cmp}
use Rattle.std.specs.BTreeMap.{get, is_at}
use Rattle.shore_analysis.specs.KeptPasses.{entry_behind}
use Rattle.shore_analysis.proofs.KeptAwaits.{on_ok}
use Rattle.shore_analysis.proofs.KnownNext.{key_cases}
use Rattle.shore_analysis.proofs.kept_passes.note_kept.Goals as goal

pub returns-clause-nobody : goal.returns-clause-nobody
returns-clause-nobody c none =
    let r = c.args.logged.now in
    let old = c.args.running.now in
    let off : is_at (nat_cmp r.txn) 0 ≡ false = ⊎_elim (λ own. let zero = own.1 in absurd (omega (arith, zero, c.if-txn-eq0.false, c.txn.view_is))) (λ other. other.0) (key_cases r.txn 0) in
    on_ok c.go_on_behind.result (λ h. h ∙ ap (λ b. cond b (Some (entry_behind c.args.number r (get nat_cmp old r.txn))) (get nat_cmp old 0)) off ∙ none) (c.go_on_behind.ensures 0)
