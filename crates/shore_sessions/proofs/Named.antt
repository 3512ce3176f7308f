-- Who has a name, by the table and the calls that wait, and by the sessions.
use Rattle.std.proofs.Common.{◌≡◌, ◌≢◌, ◌⊎◌, inl, inr, ⊎_elim, ◌++◌, ℕ, List, [], Bool, Option, None, Some, true, false, is_some, unwrap_or, map, refl, sym, subst, ap, ◌∙◌, arith}
use Rattle.std.specs.Prelude.{◌||◌, ◌↔◌, nat_eq}
use Rattle.std.specs.Cmp.Lexicographic.{pointwise}
use Rattle.std.proofs.lemmas.Bool.{cases_Bool}
use Rattle.shore_model.specs.declared.calls.Call.TheVariants as call
use Rattle.shore_model.specs.declared.calls.Outcome.TheVariants as outcome
use Rattle.shore_model.specs.declared.sessions.SessionState.{SessionState}
use Rattle.laws_lives.specs.Sessions.{IsUnused, PreparedTxn, ResolvedTxn, SessionTxn, in_prepared, in_use, pair_of, pair_resolved, pairs_of, txns_of}
use Rattle.laws_lives.specs.Views.{IsAmong}
use Rattle.laws_lives.proofs.DoubtDecisions.{same_text}
use Rattle.laws_calls.proofs.UnderGlobal.{same_texts}
use Rattle.laws_calls.specs.Resolves.{IsResolvable, IsRollingBack, MayResolve}
use Rattle.laws_calls.specs.States.{HasNoTxn, State}
use Rattle.shore_txn.specs.Transactions.{AtSeat, IsSeatIn, prepared_in}
use Rattle.shore_txn.specs.Transactions as table
use Rattle.shore_txn.specs.TxnStates.{is_in_doubt}
use Rattle.shore_txn.specs.Txns.{IsOf, as_prepared, as_session_txn, global_of, in_doubt_as, number_of, state_of}
use Rattle.shore_txn.specs.declared.seat.Seat.{Seat}
use Rattle.shore_txn.specs.declared.transactions.Transactions.{Transactions}
use Rattle.shore_txn.specs.declared.txn.Txn.{Txn}
use Rattle.shore_txn.specs.declared.txn_state.TxnState.{TxnState}
use Rattle.shore_txn.specs.declared.txn_state.TxnState.TheVariants.{Active, Doomed, Prepared, Preparing, RollingBack}
use Rattle.shore_txn.proofs.ActiveSteps.{one_at_number}
use Rattle.shore_txn.proofs.OneOfMany.{all_among, among_map, map_among}
use Rattle.shore_txn.proofs.Seats.{seat_has}
use Rattle.shore_sessions.specs.Calls.{as_resolved, resolved_as, resolved_by}
use Rattle.shore_sessions.specs.Controls.{IsNameTaken, txns_in, waits_in}
use Rattle.shore_sessions.specs.Seated.{CanResolve, IsNamed, NamesDiffer, as_rolled, is_rolled, rolled_in, seat_as}
use Rattle.shore_sessions.specs.Standing.{HasControl, HasTxns}
use Rattle.shore_sessions.specs.declared.control.Control.{Control}
use Rattle.shore_sessions.proofs.Lists.{all_by_members, among_either, among_left, among_right}
use Rattle.shore_sessions.proofs.Permuted.{among_made, among_permuted, made_among, permuted_among}
use Rattle.shore_sessions.proofs.Rolled.{is_rolled_so, resolve_is, rolled_is}
use Rattle.shore_sessions.proofs.SeatSteps.{seat_of}
use Rattle.shore_sessions.proofs.Seats.{IsDoubt, doubt_there, one_there}

clash : true ≡ false → ⊥
clash e = cc

-- ---- one by one

abbrev its_name : Txn → List ℕ
its_name t = unwrap_or (global_of t) []

told_name : (t : Txn) (global : List ℕ) → global_of t ≡ Some global → its_name t ≡ global
told_name t global name = ap (λ g. unwrap_or g []) name

has_name : (o : Option (List ℕ)) (global : List ℕ) → is_some o ≡ true → unwrap_or o [] ≡ global → o ≡ Some global
has_name None global some is = absurd (clash (sym some))
has_name (Some name) global some is = ap Some is

either_true : (b c : Bool) → (b || c) ≡ true → (b ≡ true) ⊎ (c ≡ true)
either_true true c is = inl refl
either_true false c is = inr is

true_right : (b c : Bool) → c ≡ true → (b || c) ≡ true
true_right true c is = refl
true_right false c is = is

-- who is in doubt is one of those in doubt
doubt_as : (number : ℕ) (name : List ℕ) (state : TxnState) → is_in_doubt state ≡ true
    → (answered : Bool) × (in_doubt_as number name state ≡ Some record { txn = number; global = name; answered = answered }) × (state ≢ Preparing → answered ≡ true)
doubt_as number name Active doubt = absurd (clash (sym doubt))
doubt_as number name Doomed doubt = absurd (clash (sym doubt))
doubt_as number name (RollingBack rollback) doubt = absurd (clash (sym doubt))
doubt_as number name Preparing doubt = (false, refl, λ other. absurd (other refl))
doubt_as number name Prepared doubt = (true, refl, λ other. refl)

pub doubt_so : (t : Txn) → is_in_doubt (state_of t) ≡ true
    → (answered : Bool) × (as_prepared t ≡ Some record { txn = number_of t; global = its_name t; answered = answered }) × (state_of t ≢ Preparing → answered ≡ true)
doubt_so t doubt = doubt_as (number_of t) (its_name t) (state_of t) doubt

prepared_waits_not : (state : TxnState) → state ≡ Prepared → state ≢ Preparing
prepared_waits_not state is same = let both : Prepared ≡ Preparing = sym is ∙ same in cc

-- ---- the table and the sessions

-- at a seat of a name is a transaction that has it
pub seat_named : (txns : Transactions) (seat : Seat) (global : List ℕ) → IsSeatIn seat txns → AtSeat seat txns (λ t. global_of t ≡ Some global)
    → (t : Txn) × IsAmong t (table.txns_in txns) × (global_of t ≡ Some global)
seat_named txns seat global seated named =
    let has = seat_has txns seat seated in
    let t = one_there txns has.0 has.1 in
    (t.0, t.1, named t.0 t.1 (ap (λ (a : SessionTxn). a.txn) t.2 ∙ has.2))

module _ (txns : Transactions) (s : State) (was : HasTxns txns s) where
  its_names : (t : Txn) → IsAmong t (table.txns_in txns) → IsNamed t
  its_names t m = all_among IsNamed (table.txns_in txns) t was.names m

  -- who has a name is in doubt, or a rollback of it is decided
  named_so : (t : Txn) → IsAmong t (table.txns_in txns) → (global : List ℕ) → global_of t ≡ Some global → (is_in_doubt (state_of t) ≡ true) ⊎ (is_rolled t ≡ true)
  named_so t m global name = either_true (is_in_doubt (state_of t)) (is_rolled t) (sym (its_names t m).named ∙ ap is_some name)

  pub active_so : (t : Txn) → IsAmong t (table.txns_in txns) → IsAmong (as_session_txn t) s.sessions.active
  active_so t m = subst (IsAmong (as_session_txn t)) (sym was.active) (among_map as_session_txn t (table.txns_in txns) m)

  -- one in doubt is so in the state, under its name
  pub doubt_known : (t : Txn) → IsAmong t (table.txns_in txns) → (global : List ℕ) → global_of t ≡ Some global → is_in_doubt (state_of t) ≡ true
      → (answered : Bool) × IsAmong (record { txn = number_of t; global = global; answered = answered }) s.sessions.prepared × (state_of t ≢ Preparing → answered ≡ true)
  doubt_known t m global name doubt =
      let is = doubt_so t doubt in
      let p : List ℕ → PreparedTxn = λ g. record { txn = number_of t; global = g; answered = is.0 } in (
        is.0,
        subst (λ g. IsAmong (p g) s.sessions.prepared) (told_name t global name)
            (among_permuted s.sessions.prepared (prepared_in txns) was.prepared (p (its_name t)) (made_among as_prepared t (p (its_name t)) (table.txns_in txns) m is.1)),
        is.2,
      )

  rolled_known : (t : Txn) → IsAmong t (table.txns_in txns) → (global : List ℕ) → global_of t ≡ Some global → is_rolled t ≡ true
      → IsAmong (record { txn = number_of t; global = global; outcome = outcome.Abort }) (rolled_in txns)
  rolled_known t m global name rolled =
      made_among as_rolled t (record { txn = number_of t; global = global; outcome = outcome.Abort }) (table.txns_in txns) m
      (is_rolled_so t rolled ∙ ap (λ g. Some record { txn = number_of t; global = g; outcome = outcome.Abort }) (told_name t global name))

  -- .. and one of the state is so in the table
  pub doubt_named : (p : PreparedTxn) → IsAmong p s.sessions.prepared
      → (t : Txn) × IsAmong t (table.txns_in txns) × (global_of t ≡ Some p.global) × IsDoubt (number_of t) (its_name t) (state_of t) p
  doubt_named p m = let t = doubt_there txns s was p m in (t.0, t.1, has_name (global_of t.0) p.global (t.0.named t.2.doubt) t.2.global, t.2)

  rolled_named : (r : ResolvedTxn) → IsAmong r (rolled_in txns) → (t : Txn) × IsAmong t (table.txns_in txns) × (global_of t ≡ Some r.global) × (number_of t ≡ r.txn) × (is_rolled t ≡ true)
  rolled_named r m =
      let t = among_made as_rolled r (table.txns_in txns) m in
      let is = rolled_is t.0 r t.2 in
      let some : is_some (global_of t.0) ≡ true = (its_names t.0 t.1).named ∙ true_right (is_in_doubt (state_of t.0)) (is_rolled t.0) is.rolled in
      (t.0, t.1, has_name (global_of t.0) r.global some is.global, is.txn, is.rolled)

  -- ---- who may resolve it

  -- a session that is in a transaction of the table may resolve that alone
  pub may_by_name : (session : ℕ) (global : List ℕ) (t : Txn) → IsAmong t (table.txns_in txns) → IsOf session t → (global_of t ≡ Some global) ↔ MayResolve s session global
  may_by_name session global t m of = (λ name. inr (by_name name), λ may. ⊎_elim (λ out. absurd (not_out out)) its_own may)
    where
      its_seat : s.sessions.seats session ≡ seat_as t
      its_seat = seat_of txns s.sessions was.seats t m session of

      by_name : global_of t ≡ Some global → (n : ℕ) × (s.sessions.seats session ≡ in_prepared n) × IsAmong (n, global) (pairs_of s.sessions.prepared)
      by_name name = ⊎_elim
          (λ doubt.
          let p = doubt_known t m global name doubt in (
            number_of t,
            its_seat ∙ ap (λ b. record { txn = number_of t; prepared = b }) doubt,
            among_map pair_of (record { txn = number_of t; global = global; answered = p.0 }) s.sessions.prepared p.1,
          ))
          (λ rolled. absurd (clash (sym of.0 ∙ ((its_names t m).left rolled).0)))
          (named_so t m global name)

      not_out : HasNoTxn s session → ⊥
      not_out out = let some = t.some in let none : number_of t ≡ 0 = ap (λ (p : SessionState). p.txn) (sym its_seat ∙ out) in omega (arith, some, none)

      its_own : (n : ℕ) × (s.sessions.seats session ≡ in_prepared n) × IsAmong (n, global) (pairs_of s.sessions.prepared) → global_of t ≡ Some global
      its_own (n, seat, among) =
          let p = map_among pair_of (n, global) s.sessions.prepared among in
          let u = doubt_named p.0 p.1 in
          let number : number_of u.0 ≡ number_of t = u.3.txn ∙ ap (λ (x : ℕ × List ℕ). x.0) p.2 ∙ ap (λ (x : SessionState). x.txn) (sym seat ∙ its_seat) in
          let same : u.0 ≡ t = one_at_number (table.txns_in txns) txns.numbers u.0 t u.1 m number in
          ap global_of (sym same) ∙ u.2 ∙ ap (λ (x : ℕ × List ℕ). Some x.1) p.2

-- ---- with the calls that wait

module _ (control : Control) (s : State) (was : HasControl control s) (works : s.failed ≡ false) where
  abbrev txns : Transactions
  txns = txns_in control

  rolled_among : (r : ResolvedTxn) → IsAmong r (rolled_in txns) → IsAmong r s.sessions.resolving
  rolled_among r m =
      among_permuted s.sessions.resolving (rolled_in txns ++ resolved_by (waits_in control)) (was.resolving works) r
      (among_left r (rolled_in txns) (resolved_by (waits_in control)) m)

  waiting_among : (r : ResolvedTxn) → IsAmong r (resolved_by (waits_in control)) → IsAmong r s.sessions.resolving
  waiting_among r m =
      among_permuted s.sessions.resolving (rolled_in txns ++ resolved_by (waits_in control)) (was.resolving works) r
      (among_right r (rolled_in txns) (resolved_by (waits_in control)) m)

  resolving_either : (r : ResolvedTxn) → IsAmong r s.sessions.resolving → IsAmong r (rolled_in txns) ⊎ IsAmong r (resolved_by (waits_in control))
  resolving_either r m =
      among_either r (rolled_in txns) (resolved_by (waits_in control))
      (permuted_among s.sessions.resolving (rolled_in txns ++ resolved_by (waits_in control)) (was.resolving works) r m)

  in_use_resolving : (r : ResolvedTxn) → IsAmong r s.sessions.resolving → IsAmong (r.txn, r.global) (in_use s.sessions)
  in_use_resolving r m = among_right (r.txn, r.global) (pairs_of s.sessions.prepared) (map pair_resolved s.sessions.resolving) (among_map pair_resolved r s.sessions.resolving m)

  -- the name of a transaction of the table is in use for it
  named_used : (t : Txn) → IsAmong t (table.txns_in txns) → (global : List ℕ) → global_of t ≡ Some global → IsAmong (number_of t, global) (in_use s.sessions)
  named_used t m global name = ⊎_elim
      (λ doubt.
      let p = doubt_known txns s was.txns t m global name doubt in
      among_left (number_of t, global) (pairs_of s.sessions.prepared) (map pair_resolved s.sessions.resolving)
      (among_map pair_of (record { txn = number_of t; global = global; answered = p.0 }) s.sessions.prepared p.1))
      (λ rolled. in_use_resolving (record { txn = number_of t; global = global; outcome = outcome.Abort }) (rolled_among (record { txn = number_of t; global = global; outcome = outcome.Abort })
      (rolled_known txns s was.txns t m global name rolled)))
      (named_so txns s was.txns t m global name)

  taken_used : (global : List ℕ) → IsNameTaken control global → (t : ℕ) × IsAmong (t, global) (in_use s.sessions)
  taken_used global (inl (t, m, name)) = (number_of t, named_used t m global name)
  taken_used global (inr (w, asked, m, is)) =
      let r : ResolvedTxn = record { txn = w.txn; global = global; outcome = asked } in
      (w.txn, in_use_resolving r (waiting_among r (made_among as_resolved w r (waits_in control) m (ap (resolved_as w.txn) is))))

  used_taken : (p : ℕ × List ℕ) → IsAmong p (in_use s.sessions) → IsNameTaken control p.1
  used_taken p m = ⊎_elim
      (λ prepared.
      let q = map_among pair_of p s.sessions.prepared prepared in
      let t = doubt_named txns s was.txns q.0 q.1 in
      inl (t.0, t.1, t.2 ∙ ap (λ (x : ℕ × List ℕ). Some x.1) q.2))
      (λ resolving.
      let r = map_among pair_resolved p s.sessions.resolving resolving in ⊎_elim
      (λ rolled. let t = rolled_named txns s was.txns r.0 rolled in inl (t.0, t.1, t.2 ∙ ap (λ (x : ℕ × List ℕ). Some x.1) r.2))
      (λ waits.
      let w = among_made as_resolved r.0 (waits_in control) waits in
      inr (w.0, r.0.outcome, w.1, (resolve_is w.0.txn w.0.call r.0 w.2).1 ∙ ap (λ (x : ℕ × List ℕ). call.Resolve x.1 r.0.outcome) r.2))
      (resolving_either r.0 r.1))
      (among_either p (pairs_of s.sessions.prepared) (map pair_resolved s.sessions.resolving) m)

  -- so a name is taken just if it is in use
  pub taken_not_unused : (global : List ℕ) → IsNameTaken control global → IsUnused s.sessions global → ⊥
  taken_not_unused global taken unused =
      let t = taken_used global taken in
      clash (sym (same_text global) ∙ all_among (λ (p : ℕ × List ℕ). pointwise nat_eq global p.1 ≡ false) (in_use s.sessions) (t.0, global) unused t.1)

  pub free_unused : (global : List ℕ) → (IsNameTaken control global → ⊥) → IsUnused s.sessions global
  free_unused global free = all_by_members (λ (p : ℕ × List ℕ). pointwise nat_eq global p.1 ≡ false) (in_use s.sessions) (λ p m. ⊎_elim
      (λ same. absurd (free (subst (IsNameTaken control) (sym (same_texts global p.1 same)) (used_taken p m))))
      (λ differs. differs)
      (cases_Bool (pointwise nat_eq global p.1)))

  -- ---- which can be resolved

  -- .. is a transaction of the table, whose prepare is answered
  resolvable_named : (a : SessionTxn) (global : List ℕ) → IsResolvable s a global ⊎ IsRollingBack s a global
      → (t : Txn) × IsAmong t (table.txns_in txns) × (global_of t ≡ Some global) × (state_of t ≢ Preparing)
  resolvable_named a global (inl can) =
      let t = doubt_named txns s was.txns (record { txn = a.txn; global = global; answered = true }) can.1 in (
        t.0,
        t.1,
        t.2,
        ⊎_elim (λ answered. prepared_waits_not (state_of t.0) answered.0) (λ waits. absurd (clash waits.1)) t.3.answered,
      )
  resolvable_named a global (inr rolls) =
      let r : ResolvedTxn = record { txn = a.txn; global = global; outcome = outcome.Abort } in ⊎_elim
      (λ rolled.
      let t = rolled_named txns s was.txns r rolled in
      let left = ((its_names txns s was.txns t.0 t.1).left t.4).1 in
      (t.0, t.1, t.2, λ preparing. clash (sym (ap is_in_doubt preparing) ∙ left)))
      (λ waits.
      let w = among_made as_resolved r (waits_in control) waits in
      let number = (resolve_is w.0.txn w.0.call r w.2).0 in
      absurd ((was.waits.ended w.0 r w.1 w.2).0 (subst (λ n. IsAmong n (txns_of s.sessions.active)) (sym number) (among_map (λ (b : SessionTxn). b.txn) a s.sessions.active rolls.0))))
      (resolving_either r rolls.1)

  pub none_named : (a : SessionTxn) (global : List ℕ) → ((t : Txn) → IsAmong t (table.txns_in txns) → global_of t ≢ Some global) → IsResolvable s a global ⊎ IsRollingBack s a global → ⊥
  none_named a global none can = let t = resolvable_named a global can in none t.0 t.1 t.2

  -- it is not the one of this name whose prepare waits
  pub none_answered : NamesDiffer s.sessions → (u : Txn) → IsAmong u (table.txns_in txns) → (global : List ℕ) → global_of u ≡ Some global → state_of u ≡ Preparing
      → (a : SessionTxn) → IsResolvable s a global ⊎ IsRollingBack s a global → ⊥
  none_answered differ u m global name preparing a can =
      let t = resolvable_named a global can in
      let number : number_of t.0 ≡ number_of u = differ (number_of t.0, global) (number_of u, global) (named_used t.0 t.1 global t.2) (named_used u m global name) refl in
      let same : t.0 ≡ u = one_at_number (table.txns_in txns) txns.numbers t.0 u t.1 m number in
      t.3 (ap state_of same ∙ preparing)

  pub can_resolve : (t : Txn) → IsAmong t (table.txns_in txns) → (global : List ℕ) → global_of t ≡ Some global → state_of t ≢ Preparing → CanResolve s t global
  can_resolve t m global name other = ⊎_elim
      (λ doubt.
      let p = doubt_known txns s was.txns t m global name doubt in
      inl (doubt, (active_so txns s was.txns t m, subst (λ b. IsAmong (record { txn = number_of t; global = global; answered = b }) s.sessions.prepared) (p.2 other) p.1)))
      (λ rolled.
      let r : ResolvedTxn = record { txn = number_of t; global = global; outcome = outcome.Abort } in
      inr (((its_names txns s was.txns t m).left rolled).1, (active_so txns s was.txns t m, rolled_among r (rolled_known txns s was.txns t m global name rolled))))
      (named_so txns s was.txns t m global name)
