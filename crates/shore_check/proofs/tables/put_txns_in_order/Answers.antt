use Rattle.std.proofs.Common.{◌≡◌, rules}
use Rattle.std.proofs.lemmas.Fn.{always_returns_same}
use Rattle.shore_model.specs.declared.log_records.LogTxn.{LogTxn}
use Rattle.shore_check.proofs.Sorting.{txns_rise}
use Rattle.shore_check.proofs.tables.put_txns_in_order.Goals as goal

pub returns-clause-rise : goal.returns-clause-rise
returns-clause-rise c =
    txns_rise c.args.txns.now.items c.sort_unstable_by_key.new.self.items c.sort_unstable_by_key.ensures.permutation
    (c.sort_unstable_by_key.ensures.sorted (λ (e : LogTxn). e.txn) (always_returns_same _ (λ a r. r ≡ a.0.now.txn) _ (λ a r q k. search rules)))
    c.requires.once c.requires.some
