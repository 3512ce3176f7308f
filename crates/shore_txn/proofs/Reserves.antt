-- What is reserved for the transactions of a list, one by one.
use Rattle.std.proofs.Common.{◌≡◌, ◌+◌, ◌*◌, ◌≤◌, inl, inr, ℕ, List, [], ◌∷◌, ◌++◌, length, ap, arith}
use Rattle.std.specs.List.{cons_option}
use Rattle.std.specs.Prelude.{unwrap_or}
use Rattle.shore_types.specs.declared.layout.TheConstants.{ENDING_COST}
use Rattle.laws_room.specs.LogRooms.{compensation_costs, owed_by_all}
use Rattle.laws_lives.specs.Sessions.{PreparedTxn}
use Rattle.laws_lives.specs.Views.{IsAmong}
use Rattle.shore_txn.specs.ActiveTxns.{session_txns}
use Rattle.shore_txn.specs.TxnStates.{second_ending}
use Rattle.shore_txn.specs.Txns.{entries_of, global_of, in_doubt_as, number_of, prepared_of, reserved_for, state_of}
use Rattle.shore_txn.specs.UndoEntries.{images_of}
use Rattle.shore_txn.specs.declared.txn.Txn.{Txn}
use Rattle.shore_txn.specs.declared.txn_state.TxnState.{TxnState}
use Rattle.shore_txn.specs.declared.txn_state.TxnState.TheVariants.{Active, Doomed, Prepared, Preparing, RollingBack}

abbrev pub reserved_for_all : List Txn → ℕ
reserved_for_all ts = owed_by_all (session_txns ts) + ENDING_COST * length (prepared_of ts)

-- one in doubt costs a second ending, and any other nothing
doubt_costs : (number : ℕ) (name : List ℕ) (state : TxnState) (rest : List PreparedTxn) → ENDING_COST * length (cons_option (in_doubt_as number name state) rest) ≡ second_ending state + ENDING_COST * length rest
doubt_costs number name Active rest = omega arith
doubt_costs number name Doomed rest = omega arith
doubt_costs number name (RollingBack rollback) rest = omega arith
doubt_costs number name Preparing rest = omega arith
doubt_costs number name Prepared rest = omega arith

pub first_reserved : (t : Txn) (ts : List Txn) → reserved_for_all (t ∷ ts) ≡ reserved_for t + reserved_for_all ts
first_reserved t ts = let doubt = doubt_costs (number_of t) (unwrap_or (global_of t) []) (state_of t) (prepared_of ts) in omega (arith, doubt)

pub reserved_parts : (newer older : List Txn) (t : Txn) → reserved_for_all (newer ++ t ∷ older) ≡ reserved_for_all (newer ++ older) + reserved_for t
reserved_parts [] older t = let first = first_reserved t older in omega (arith, first)
reserved_parts (x ∷ newer) older t =
    let rest = reserved_parts newer older t in
    let first = first_reserved x (newer ++ t ∷ older) in
    let less = first_reserved x (newer ++ older) in
    omega (arith, rest, first, less)

pub reserved_among : (t : Txn) (ts : List Txn) → IsAmong t ts → reserved_for t ≤ reserved_for_all ts
reserved_among t [] m = absurd m
reserved_among t (x ∷ ts) (inl is) = let same : reserved_for x ≡ reserved_for t = ap reserved_for is in let first = first_reserved x ts in omega (arith, same, first)
reserved_among t (x ∷ ts) (inr m) = let rest = reserved_among t ts m in let first = first_reserved x ts in omega (arith, rest, first)

-- one that has logged nothing owes its ending
pub reserved_begun : (t : Txn) → entries_of t ≡ [] → state_of t ≡ Active → reserved_for t ≡ ENDING_COST
reserved_begun t none active =
    let costs : compensation_costs (images_of (entries_of t)) ≡ 0 = ap (λ es. compensation_costs (images_of es)) none in
    let second : second_ending (state_of t) ≡ 0 = ap second_ending active in
    omega (arith, costs, second)
