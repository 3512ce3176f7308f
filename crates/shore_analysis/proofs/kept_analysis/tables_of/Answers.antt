use Rattle.std.proofs.Common.{◌≡◌, max, sym, subst, ap, ◌∙◌}
use Rattle.std.specs.Prelude.{All}
use Rattle.laws_checkpoints.specs.Checkpoints.{end_among}
use Rattle.laws_checkpoints.specs.KeptTables.{IsKeptTable}
use Rattle.shore_analysis.specs.KeptTables.{IsNextKept}
use Rattle.shore_analysis.specs.Tables.{state_of}
use Rattle.shore_analysis.proofs.KeptListed.{kept_states, kept_table, next_kept}
use Rattle.shore_analysis.proofs.kept_analysis.tables_of.Goals as goal

pub returns-clause-tables : goal.returns-clause-tables
returns-clause-tables c g cut knows all =
    let kept = c.args.kept.now in
    let pass = c.args.pass.now in
    let txns = sym c.in_ok-txns.ensures.listed in
    let ordered = c.list_txns.ensures.ordered in
    record {
      txns = subst (IsKeptTable cut kept) txns (kept_table g cut kept pass knows all ordered);
      states = subst (All (λ e. e.state ≡ state_of e.txn kept)) txns (kept_states g cut kept pass knows all ordered);
      redo = c.in_ok-redo.ensures.redo;
      next = subst (IsNextKept kept (end_among c.args.checkpoint kept)) (sym (c.max.ensures ∙ ap (λ n. max n pass.next) (c.next.view_is ∙ c.in_ok-redo.ensures.next))) (next_kept kept (end_among c.args.checkpoint kept) pass.next knows.next);
    }
