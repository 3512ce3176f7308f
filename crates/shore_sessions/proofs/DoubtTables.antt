-- Those in doubt of a table.
use Rattle.std.proofs.Common.{◌≡◌, ◌==◌, ℕ, [], true, false, unwrap_or, sym, ap, ◌∙◌}
use Rattle.std.specs.Prelude.{not}
use Rattle.std.specs.List.{AllByRecursion}
use Rattle.std.proofs.lemmas.Bool.{ne_eqb}
use Rattle.laws_lives.specs.Sessions.{PreparedTxn, SessionTxn, Sessions, in_txn, without_prepared}
use Rattle.laws_lives.specs.Views.{IsAmong}
use Rattle.shore_txn.specs.Transactions.{prepared_in, undos_in}
use Rattle.shore_txn.specs.Transactions as table
use Rattle.shore_txn.specs.Txns.{as_prepared, global_of, number_of, state_of}
use Rattle.shore_txn.specs.declared.transactions.Transactions.{Transactions}
use Rattle.shore_sessions.specs.Seated.{IsSeated}
use Rattle.shore_sessions.proofs.Lists.{filter_all}
use Rattle.shore_sessions.proofs.Permuted.{among_made}
use Rattle.shore_sessions.proofs.SeatSteps.{seat_told}
use Rattle.shore_sessions.proofs.Seats.{doubt_is}

-- without one whose session is in it, and which is therefore not in doubt, all are left
pub doubts_but : (txns : Transactions) (s : Sessions) → AllByRecursion (IsSeated s) (table.txns_in txns) → (a : SessionTxn) → IsAmong a (undos_in txns) → s.seats a.session ≡ in_txn a.txn
    → (number : ℕ) → a.txn ≡ number → without_prepared number (prepared_in txns) ≡ prepared_in txns
doubts_but txns s seats a m seat number at = filter_all (λ (p : PreparedTxn). not (number == p.txn)) (prepared_in txns) (λ p n.
    let t = among_made as_prepared p (table.txns_in txns) n in
    let doubt = doubt_is (number_of t.0) (unwrap_or (global_of t.0) []) (state_of t.0) p t.2 in
    ap not (ne_eqb number p.txn (λ same.
    let free = (seat_told txns s seats a m seat t.0 t.1 (doubt.txn ∙ sym same ∙ sym at)).1 in
    clash (sym doubt.doubt ∙ free))))
  where
    clash : true ≡ false → ⊥
    clash e = cc
