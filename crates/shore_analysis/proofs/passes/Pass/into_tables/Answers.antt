use Rattle.std.proofs.Common.{◌≡◌, sym, subst}
use Rattle.std.specs.Prelude.{All}
use Rattle.shore_model.specs.Logs.{IsTable}
use Rattle.shore_analysis.specs.Tables.{IsDirtyTable, state_of}
use Rattle.shore_analysis.proofs.Listed.{is_table, have_states, is_dirty_table}
use Rattle.shore_analysis.proofs.passes.Pass.into_tables.Goals as goal

pub returns : goal.returns
returns c g rs known meant =
    let pass = c.args.self in
    let txns = sym c.in_ok-list_txns.ensures.listed in
    record {
      txns = subst (IsTable rs) txns (is_table rs pass.running known.running c.list_txns.ensures.ordered);
      states = subst (All (λ e. e.state ≡ state_of e.txn rs)) txns (have_states rs pass.running known.running c.list_txns.ensures.ordered);
      dirty = subst (IsDirtyTable rs) (sym c.in_ok-list_pages.ensures.listed) (is_dirty_table rs pass.dirty known.dirty c.list_pages.ensures.ordered);
      next = known.next;
    }
