-- The transactions under way whose sessions are in them, by their names.
use Rattle.std.proofs.Common.{◌≡◌, ◌<◌, ◌==◌, ℕ, zero, suc, List, Bool, true, false, refl, sym, ap, subst, ◌∙◌, arith}
use Rattle.std.specs.Prelude.{◌&&◌, filter, not}
use Rattle.std.proofs.lemmas.Bool.{eq-eqb, eqb-false, eqb-true, ne_eqb}
use Rattle.shore_model.specs.declared.sessions.SessionState.{SessionState}
use Rattle.laws_lives.specs.Sessions.{SessionTxn, Sessions, in_txn}
use Rattle.laws_lives.specs.Views.{IsAmong}
use Rattle.laws_calls.specs.States.{HasSeat}
use Rattle.shore_txn.proofs.OneOfMany.{among_map, map_among}
use Rattle.shore_sessions.specs.Calls.{name_of, names_of}
use Rattle.shore_sessions.proofs.Lists.{among_filtered, among_passing}

-- the session is in the transaction, and that is not prepared
abbrev pub sits : Sessions → ℕ × ℕ → Bool
sits s n = ((s.seats n.0).txn == n.1) && (not (s.seats n.0).prepared && not (n.1 == 0))

abbrev pub sitting : Sessions → List (ℕ × ℕ)
sitting s = filter (sits s) (names_of s.active)

both : (x y : Bool) → (x && y) ≡ true → (x ≡ true) × (y ≡ true)
both true true is = (refl, refl)
both true false is = cc
both false y is = cc

both_so : (x y : Bool) → x ≡ true → y ≡ true → (x && y) ≡ true
both_so true y a b = b
both_so false y a b = cc

unturned : (b : Bool) → not b ≡ true → b ≡ false
unturned true is = cc
unturned false is = refl

above_none : (n : ℕ) → (n == 0) ≡ false → 0 < n
above_none zero is = absurd (eqb-false 0 0 is refl)
above_none (suc n) is = omega arith

state_is : (p : SessionState) (t : ℕ) → p.txn ≡ t → p.prepared ≡ false → p ≡ in_txn t
state_is p t txn unprepared = ap (λ n. record { txn = n; prepared = p.prepared }) txn ∙ ap (λ b. record { txn = t; prepared = b }) unprepared

-- such a name is that of a transaction with its seat
pub sitting_seat : (s : Sessions) (n : ℕ × ℕ) → IsAmong n (sitting s) → (b : SessionTxn) × HasSeat s b × (name_of b ≡ n)
sitting_seat s n m =
    let its = among_filtered (sits s) n (names_of s.active) m in
    let b = map_among name_of n s.active its.0 in
    let parts = both ((s.seats n.0).txn == n.1) (not (s.seats n.0).prepared && not (n.1 == 0)) its.1 in
    let rest = both (not (s.seats n.0).prepared) (not (n.1 == 0)) parts.1 in
    let in_it = state_is (s.seats n.0) n.1 (eqb-true (s.seats n.0).txn n.1 parts.0) (unturned (s.seats n.0).prepared rest.0) in (
      b.0,
      (
        b.1,
        subst (λ (x : ℕ × ℕ). s.seats x.0 ≡ in_txn x.1) (sym b.2) in_it,
        subst (λ (x : ℕ × ℕ). 0 < x.1) (sym b.2) (above_none n.1 (unturned (n.1 == 0) rest.1)),
      ),
      b.2,
    )

pub seat_sits : (s : Sessions) (b : SessionTxn) → HasSeat s b → IsAmong (name_of b) (sitting s)
seat_sits s b seat =
    let some = seat.2 in
    among_passing (sits s) (name_of b) (names_of s.active) (among_map name_of b s.active seat.0)
    (both_so ((s.seats b.session).txn == b.txn) (not (s.seats b.session).prepared && not (b.txn == 0)) (eq-eqb (s.seats b.session).txn b.txn (ap (λ (p : SessionState). p.txn) seat.1))
    (both_so (not (s.seats b.session).prepared) (not (b.txn == 0)) (ap (λ (p : SessionState). not p.prepared) seat.1) (ap not (ne_eqb b.txn 0 (λ none. omega (arith, some, none))))))
