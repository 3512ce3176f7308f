-- Which transaction a session is in, by the table and by the sessions.
use Rattle.std.proofs.Common.{◌≡◌, ◌⊎◌, inl, inr, ⊎_elim, ◌<◌, ℕ, List, [], None, Some, true, false, unwrap_or, refl, sym, subst, ap, ◌∙◌, arith}
use Rattle.std.proofs.lemmas.Option.{same_Some}
use Rattle.shore_model.specs.declared.sessions.SessionState.{SessionState}
use Rattle.laws_lives.specs.OwnSeats.{HasOwnSeats, IsIn}
use Rattle.laws_lives.specs.Sessions.{PreparedTxn, SessionTxn, in_doubt_of, resolved_of}
use Rattle.laws_lives.specs.Views.{IsAmong}
use Rattle.laws_calls.specs.States.{HasNoTxn, HasSeat, IsOfSession, State}
use Rattle.shore_txn.specs.Transactions.{HasNoTxnOf, prepared_in, undos_in}
use Rattle.shore_txn.specs.Transactions as table
use Rattle.shore_txn.specs.TxnStates.{is_in_doubt}
use Rattle.shore_txn.specs.Txns.{IsOf, as_prepared, as_session_txn, global_of, in_doubt_as, number_of, state_of}
use Rattle.shore_txn.specs.declared.transactions.Transactions.{Transactions}
use Rattle.shore_txn.specs.declared.txn.Txn.{Txn}
use Rattle.shore_txn.specs.declared.txn_state.TxnState.{TxnState}
use Rattle.shore_txn.specs.declared.txn_state.TxnState.TheVariants.{Active, Doomed, Prepared, Preparing, RollingBack}
use Rattle.shore_txn.proofs.OneOfMany.{map_among}
use Rattle.shore_sessions.specs.Calls.{name_of, names_of}
use Rattle.shore_sessions.specs.Standing.{HasTxns}
use Rattle.shore_sessions.proofs.Permuted.{among_made, permuted_among}
use Rattle.shore_sessions.proofs.SeatSteps.{its_seats, seat_told}

-- what one in doubt is, as the sessions have it
pub record IsDoubt (number : ℕ) (name : List ℕ) (state : TxnState) (p : PreparedTxn) : Type 0 where
  pub txn : number ≡ p.txn
  pub global : name ≡ p.global
  pub doubt : is_in_doubt state ≡ true
  pub answered : ((state ≡ Prepared) × (p.answered ≡ true)) ⊎ ((state ≡ Preparing) × (p.answered ≡ false))

pub doubt_is : (number : ℕ) (name : List ℕ) (state : TxnState) (p : PreparedTxn) → in_doubt_as number name state ≡ Some p → IsDoubt number name state p
doubt_is number name Active p is = absurd (never is)
  where
    never : None ≡ Some p → ⊥
    never e = cc
doubt_is number name Doomed p is = absurd (never is)
  where
    never : None ≡ Some p → ⊥
    never e = cc
doubt_is number name (RollingBack rollback) p is = absurd (never is)
  where
    never : None ≡ Some p → ⊥
    never e = cc
doubt_is number name Preparing p is =
    let same : record { txn = number; global = name; answered = false } ≡ p = same_Some (record { txn = number; global = name; answered = false }) p is in record {
      txn = ap (λ (x : PreparedTxn). x.txn) same;
      global = ap (λ (x : PreparedTxn). x.global) same;
      doubt = refl;
      answered = inr (refl, ap (λ (x : PreparedTxn). x.answered) (sym same));
    }
doubt_is number name Prepared p is =
    let same : record { txn = number; global = name; answered = true } ≡ p = same_Some (record { txn = number; global = name; answered = true }) p is in record {
      txn = ap (λ (x : PreparedTxn). x.txn) same;
      global = ap (λ (x : PreparedTxn). x.global) same;
      doubt = refl;
      answered = inl (refl, ap (λ (x : PreparedTxn). x.answered) (sym same));
    }

-- a transaction under way is one of the table
pub one_there : (txns : Transactions) (a : SessionTxn) → IsAmong a (undos_in txns) → (t : Txn) × IsAmong t (table.txns_in txns) × (as_session_txn t ≡ a)
one_there txns a m = map_among as_session_txn a (table.txns_in txns) m

module _ (txns : Transactions) (s : State) (was : HasTxns txns s) where
  pub active_there : (a : SessionTxn) → IsAmong a s.sessions.active → (t : Txn) × IsAmong t (table.txns_in txns) × (as_session_txn t ≡ a)
  active_there a m = one_there txns a (subst (IsAmong a) was.active m)

  pub active_above : (a : SessionTxn) → IsAmong a s.sessions.active → 0 < a.txn
  active_above a m =
      let t = active_there a m in
      let some = t.0.some in
      let number : number_of t.0 ≡ a.txn = ap (λ (b : SessionTxn). b.txn) t.2 in
      omega (arith, some, number)

  -- who is in one by the sessions is in it by the table
  pub seat_there : (a : SessionTxn) → HasSeat s.sessions a → (t : Txn) × IsAmong t (table.txns_in txns) × (as_session_txn t ≡ a) × IsOf a.session t × (is_in_doubt (state_of t) ≡ false)
  seat_there a seat =
      let t = active_there a seat.0 in
      let told = seat_told txns s.sessions was.seats a (subst (IsAmong a) was.active seat.0) seat.1 t.0 t.1 (ap (λ (b : SessionTxn). b.txn) t.2) in
      (t.0, t.1, t.2, told.0, told.1)

  pub in_none_of : (session : ℕ) → HasNoTxnOf session txns → (a : SessionTxn) → IsOfSession s session a → ⊥
  in_none_of session none a its = let t = seat_there a its.0 in none t.0 t.1 (subst (λ n. IsOf n t.0) its.1 t.3)

  -- one in doubt of the state is one of the table
  pub doubt_there : (p : PreparedTxn) → IsAmong p s.sessions.prepared → (t : Txn) × IsAmong t (table.txns_in txns) × IsDoubt (number_of t) (unwrap_or (global_of t) []) (state_of t) p
  doubt_there p m =
      let t = among_made as_prepared p (table.txns_in txns) (permuted_among s.sessions.prepared (prepared_in txns) was.prepared p m) in
      (t.0, t.1, doubt_is (number_of t.0) (unwrap_or (global_of t.0) []) (state_of t.0) p t.2)

  -- a session that is in none of the table is in none
  pub in_no_txn : HasOwnSeats s.sessions → (session : ℕ) → HasNoTxnOf session txns → HasNoTxn s session
  in_no_txn seats session none = ⊎_elim
      (λ out. out)
      (λ more. ⊎_elim (λ i. absurd (in_one i.0 i.1)) (λ d. absurd (in_doubt d.0 d.1 d.2)) more)
      (seats.there session)
    where
      -- nobody of the table has the number of the session's
      not_its : (t : Txn) → IsAmong t (table.txns_in txns) → (s.sessions.seats session).txn ≡ number_of t → ⊥
      not_its t m at = none t m ((its_seats txns s.sessions was.seats t m).alone session at)

      in_one : (t : ℕ) → IsIn (names_of s.sessions.active) (in_doubt_of s.sessions) (resolved_of s.sessions) session t → ⊥
      in_one t is =
          let a = map_among name_of (session, t) s.sessions.active is.0 in
          let u = active_there a.0 a.1 in
          not_its u.0 u.1 (ap (λ (p : SessionState). p.txn) (seats.own session t is) ∙ sym (ap (λ (b : SessionTxn). b.txn) u.2 ∙ ap (λ (n : ℕ × ℕ). n.1) a.2))

      in_doubt : (t : ℕ) → IsAmong t (in_doubt_of s.sessions) → s.sessions.seats session ≡ record { txn = t; prepared = true } → ⊥
      in_doubt t m at =
          let p = map_among (λ (p : PreparedTxn). p.txn) t s.sessions.prepared m in
          let u = doubt_there p.0 p.1 in
          not_its u.0 u.1 (ap (λ (p : SessionState). p.txn) at ∙ sym (u.2.txn ∙ p.2))
