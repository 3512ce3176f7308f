-- What a resolve has decided of the transactions of a table, once the table has changed.
use Rattle.std.proofs.Common.{◌≡◌, ◌∷◌, [], unwrap_or, ap, ◌∙◌}
use Rattle.std.specs.List.{cons_option, filter_map}
use Rattle.shore_txn.specs.Transactions as table
use Rattle.shore_txn.specs.Txns.{decided_of, global_of, number_of}
use Rattle.shore_txn.specs.declared.transactions.Transactions.{Transactions}
use Rattle.shore_txn.specs.declared.txn.Txn.{Txn}
use Rattle.shore_sessions.specs.Seated.{as_rolled, rolled_as, rolled_in}

pub rolled_unchanged : (old new : Transactions) → table.txns_in new ≡ table.txns_in old → rolled_in new ≡ rolled_in old
rolled_unchanged old new same = ap (filter_map as_rolled) same

-- one more, of which nothing is decided
pub rolled_more : (old new : Transactions) (t : Txn) → table.txns_in new ≡ t ∷ table.txns_in old → decided_of t ≡ 0 → rolled_in new ≡ rolled_in old
rolled_more old new t more none =
    ap (filter_map as_rolled) more ∙ ap (λ n. cons_option (rolled_as (number_of t) (unwrap_or (global_of t) []) n) (rolled_in old)) none
