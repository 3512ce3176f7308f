use Rattle.std.proofs.Common.{List, subst, rules}
use Rattle.std.specs.Prelude.{IsPermutation}
use Rattle.std.proofs.lemmas.List.Sorted.{IsNonDecreasingBy-from_sort_by_key}
use Rattle.shore_model.specs.declared.log_records.LogTxn.{LogTxn}
use Rattle.shore_txn.specs.Transactions.{txns_in}
use Rattle.shore_txn.proofs.LogTables.{rising, same_entries}
use Rattle.shore_txn.proofs.transactions.Transactions.log_table.Goals as goal

pub returns-clause-each : goal.returns-clause-each
returns-clause-each c =
    same_entries c.args.self.now.active.items c.sort_unstable_by_key.new.self.items
    (subst (λ (es : List LogTxn). IsPermutation es c.sort_unstable_by_key.new.self.items) c.in_ok-table.ensures c.sort_unstable_by_key.ensures.permutation)

pub returns-clause-rising : goal.returns-clause-rising
returns-clause-rising c =
    let old = c.args.self.now in
    let found = c.sort_unstable_by_key.new.self.items in
    rising (txns_in old) found old.numbers
    (same_entries old.active.items found (subst (λ (es : List LogTxn). IsPermutation es found) c.in_ok-table.ensures c.sort_unstable_by_key.ensures.permutation))
    (IsNonDecreasingBy-from_sort_by_key (λ (e : LogTxn). e.txn) found c.sort_unstable_by_key.ensures.sorted (λ a r q k. search rules))
