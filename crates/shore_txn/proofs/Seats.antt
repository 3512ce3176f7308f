-- A seat leads to one transaction of the table, and does so as long as their numbers stay.
use Rattle.std.proofs.Common.{◌≡◌, ◌<◌, ℕ, List, [], ◌∷◌, Some, length, map, reverse, refl, sym, ap, subst, ◌∙◌, arith, vec_len}
use Rattle.std.specs.List.{slice_get}
use Rattle.std.specs.Option.{option_map}
use Rattle.std.proofs.lemmas.List.{length-map, reverse-append}
use Rattle.std.proofs.lemmas.Option.{same_Some, slice_get-map, slice_get_within}
use Rattle.laws_lives.specs.Sessions.{SessionTxn}
use Rattle.laws_lives.specs.Views.{IsAmong}
use Rattle.shore_txn.specs.ActiveTxns as active
use Rattle.shore_txn.specs.ActiveTxns.{OneBecomes}
use Rattle.shore_txn.specs.Transactions.{IsSeatIn, numbers_in, txns_in, undos_in}
use Rattle.shore_txn.specs.Txns.{as_session_txn, number_of}
use Rattle.shore_txn.specs.declared.active.ActiveTxn.{ActiveTxn}
use Rattle.shore_txn.specs.declared.seat.Seat.{Seat}
use Rattle.shore_txn.specs.declared.transactions.Transactions.{Transactions}
use Rattle.shore_txn.specs.declared.txn.Txn.{Txn}
use Rattle.shore_txn.proofs.ActiveLemmas.{IsAt, one_at, session_txn_there}
use Rattle.shore_txn.proofs.OneOfMany.{map_parts, map_with}

abbrev its_number : ActiveTxn → ℕ
its_number a = number_of a.txn

-- the numbers, as the table has its transactions
numbers_are : (items : List ActiveTxn) → reverse (map number_of (active.txns_of items)) ≡ map its_number items
numbers_are [] = refl
numbers_are (a ∷ items) =
    ap (λ ts. reverse (map number_of ts)) (reverse-append (a.txn ∷ []) (map (λ (x : ActiveTxn). x.txn) items))
    ∙ ap reverse (map_parts number_of (active.txns_of items) [] a.txn)
    ∙ reverse-append (map number_of (active.txns_of items)) (number_of a.txn ∷ [])
    ∙ ap (λ l. number_of a.txn ∷ l) (numbers_are items)

module _ (table : Transactions) (seat : Seat) (seated : IsSeatIn seat table) where
  there : slice_get (map its_number table.active.items) seat.index ≡ Some seat.txn
  there = ap (λ l. slice_get l seat.index) (sym (numbers_are table.active.items)) ∙ seated

  inside : seat.index < length table.active.items
  inside = subst (λ n. seat.index < n) (length-map table.active.items its_number) (slice_get_within (map its_number table.active.items) seat.index seat.txn there)

  pub seat_inside : seat.index < vec_len table.active
  seat_inside = omega (arith, inside)

  pub seat_one : (a : ActiveTxn) × IsAt table.active.items seat.index a × (number_of a.txn ≡ seat.txn)
  seat_one =
      let one = one_at table.active.items seat.index inside in (
        one.0,
        one.1,
        same_Some (number_of one.0.txn) seat.txn (sym (slice_get-map its_number table.active.items seat.index ∙ ap (option_map its_number) one.1.is) ∙ there),
      )

  -- so there is such a transaction
  pub seat_has : (a : SessionTxn) × IsAmong a (undos_in table) × (a.txn ≡ seat.txn)
  seat_has = let one = seat_one in (as_session_txn one.0.txn, session_txn_there one.1, one.2)

-- at an index is the transaction of a number
pub seat_found : (table : Transactions) (number index : ℕ) (a : ActiveTxn) → IsAt table.active.items index a → number_of a.txn ≡ number → slice_get (numbers_in table) index ≡ Some number
seat_found table number index a at its =
    ap (λ l. slice_get l index) (numbers_are table.active.items) ∙ slice_get-map its_number table.active.items index ∙ ap (option_map its_number) at.is ∙ ap Some its

-- ---- it stays right

pub seat_stays : (old new : Transactions) (seat : Seat) → map number_of (txns_in new) ≡ map number_of (txns_in old) → IsSeatIn seat old → IsSeatIn seat new
seat_stays old new seat same = subst (λ numbers. slice_get (reverse numbers) seat.index ≡ Some seat.txn) (sym same)

-- one transaction has become another of the same number
pub seat_becomes : (old new : Transactions) (seat : Seat) {number : ℕ} {Becomes : Txn → Txn → Type 0} → ((t u : Txn) → Becomes t u → number_of u ≡ number_of t)
    → OneBecomes number Becomes (txns_in old) (txns_in new) → IsSeatIn seat old → IsSeatIn seat new
seat_becomes old new seat same one =
    seat_stays old new seat (ap (map number_of) one.is ∙ sym (map_with number_of one.newer one.older one.before one.after (sym (same one.before one.after one.becomes))) ∙ sym (ap (map number_of) one.was))
