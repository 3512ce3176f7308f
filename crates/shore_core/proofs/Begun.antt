-- What a begin leaves of the table, be it refused or not.
use Rattle.std.proofs.Common.{◌≡◌, ◌+◌, ◌<◌, ◌≤◌, ◌∷◌, ⊎_elim, ℕ, Result, Ok, Err, OnOk, OnErr, ap, subst, ◌∙◌, arith}
use Rattle.shore_types.specs.declared.layout.TheConstants.{ENDING_COST}
use Rattle.laws_lives.specs.Views.{IsAmong}
use Rattle.shore_txn.specs.ActiveTxns.{IsBegun}
use Rattle.shore_txn.specs.Transactions.{IsUnchanged, next_in, room_in}
use Rattle.shore_txn.specs.Transactions as table
use Rattle.shore_txn.specs.Txns.{last_of, reserved_for}
use Rattle.shore_txn.proofs.Reserves.{first_reserved, reserved_begun, reserved_for_all}
use Rattle.shore_txn.specs.declared.log_room.LogRoom.{LogRoom}
use Rattle.shore_txn.specs.declared.transactions.Transactions.{Transactions}
use Rattle.shore_txn.specs.declared.txn.Txn.{Txn}

module _ {A E : Type 0} (old new : Transactions) (session : ℕ) where
  -- it reserves what an ending costs at most
  pub begun_reserved : (r : Result A E) → OnOk r ((t : Txn) × (table.txns_in new ≡ t ∷ table.txns_in old) × IsBegun (next_in old) session t) → OnErr r (IsUnchanged old new)
      → (room_in new).reserved ≤ (room_in old).reserved + ENDING_COST
  begun_reserved (Ok x) listed unchanged =
      let first : (room_in new).reserved ≡ reserved_for listed.0 + reserved_for_all (table.txns_in old) = new.sum ∙ ap reserved_for_all listed.1 ∙ first_reserved listed.0 (table.txns_in old) in
      let own = reserved_begun listed.0 listed.2.entries listed.2.state in
      let was : (room_in old).reserved ≡ reserved_for_all (table.txns_in old) = old.sum in
      omega (arith, first, own, was)
  begun_reserved (Err e) listed unchanged =
      let same = ap (λ (x : LogRoom). x.reserved) unchanged.room in
      omega (arith, same)

  -- and the new transaction has logged nothing
  pub begun_earlier : (r : Result A E) (n : ℕ) → 0 < n → OnOk r ((t : Txn) × (table.txns_in new ≡ t ∷ table.txns_in old) × IsBegun (next_in old) session t) → OnErr r (IsUnchanged old new)
      → ((t : Txn) → IsAmong t (table.txns_in old) → last_of t < n) → (t : Txn) → IsAmong t (table.txns_in new) → last_of t < n
  begun_earlier (Ok x) n some listed unchanged earlier t m = ⊎_elim
      (λ own. subst (λ (u : Txn). last_of u < n) own (let none = listed.2.last in omega (arith, none, some)))
      (λ older. earlier t older)
      (subst (IsAmong t) listed.1 m)
  begun_earlier (Err e) n some listed unchanged earlier t m = earlier t (subst (IsAmong t) unchanged.txns m)
