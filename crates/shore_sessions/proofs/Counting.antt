-- How many transactions there are: those of the table, and those whose resolves wait.
use Rattle.std.proofs.Common.{◌≡◌, ◌+◌, ◌++◌, ◌∷◌, ◌==◌, [], inl, inr, ⊎_elim, ℕ, List, Bool, true, false, cond, refl, sym, ap, subst, ◌∙◌, arith, length, suc}
use Rattle.std.specs.Prelude.{◌||◌, filter, not}
use Rattle.std.specs.List.{cons_option, list_any}
use Rattle.std.proofs.lemmas.Bool.{cases_Bool, eq-eqb, eqb-true}
use Rattle.std.proofs.lemmas.List.Elements.{filter-append}
use Rattle.std.proofs.lemmas.List.Sorted.{length_permutation}
use Rattle.shore_model.specs.declared.calls.Call.{Call}
use Rattle.shore_model.specs.declared.calls.Call.TheVariants as call
use Rattle.laws_lives.specs.Sessions.{ResolvedTxn, SessionTxn, txns_of}
use Rattle.laws_lives.specs.Views.{IsAmong}
use Rattle.laws_calls.specs.CallSteps.{ended_among, txn_count}
use Rattle.laws_calls.specs.States.{State}
use Rattle.shore_txn.specs.Transactions.{undos_in}
use Rattle.shore_txn.specs.Transactions as table
use Rattle.shore_txn.specs.Txns.{as_session_txn, number_of}
use Rattle.shore_txn.proofs.OneOfMany.{among_map}
use Rattle.shore_sessions.specs.Calls.{as_resolved, asks_resolve, is_resolve, resolved_as, resolved_by}
use Rattle.shore_sessions.specs.Controls.{txns_in, waits_in}
use Rattle.shore_sessions.specs.Seated.{as_rolled, rolled_in}
use Rattle.shore_sessions.specs.Standing.{HasControl}
use Rattle.shore_sessions.specs.declared.control.Control.{Control}
use Rattle.shore_sessions.specs.declared.waits.WaitingCall.{WaitingCall}
use Rattle.shore_sessions.proofs.Lists.{filter_all}
use Rattle.shore_sessions.proofs.Permuted.{among_made, filtered}
use Rattle.shore_sessions.proofs.Rolled.{resolve_is, rolled_is}

-- ---- calls

module _ (w : WaitingCall) (xs : List WaitingCall) (rs : List ResolvedTxn) (so_far : length xs ≡ length rs) where
  counted : (t : ℕ) (c : Call) → length (cond (asks_resolve c) (w ∷ xs) xs) ≡ length (cons_option (resolved_as t c) rs)
  counted t (call.Resolve global asked) = ap suc so_far
  counted t (call.Prepare global) = so_far
  counted t call.Begin = so_far
  counted t (call.Get id) = so_far
  counted t (call.GetForUpdate id) = so_far
  counted t (call.Insert store bytes) = so_far
  counted t (call.Update id bytes) = so_far
  counted t (call.Delete id) = so_far
  counted t (call.Scan store) = so_far
  counted t (call.Lock at mode) = so_far
  counted t (call.TryLock at mode) = so_far
  counted t call.Savepoint = so_far
  counted t (call.BackTo index) = so_far
  counted t call.Commit = so_far
  counted t call.Abort = so_far
  counted t call.InDoubt = so_far

pub resolves_count : (calls : List WaitingCall) → length (filter is_resolve calls) ≡ length (resolved_by calls)
resolves_count [] = refl
resolves_count (w ∷ ws) = counted w (filter is_resolve ws) (resolved_by ws) (resolves_count ws) w.txn w.call

-- ---- those that a resolve has decided

under_way : (t : ℕ) (active : List SessionTxn) → IsAmong t (txns_of active) → list_any (λ (a : SessionTxn). a.txn == t) active ≡ true
under_way t [] m = absurd m
under_way t (x ∷ xs) (inl same) = ap (λ b. b || list_any (λ (a : SessionTxn). a.txn == t) xs) (eq-eqb x.txn t same)
under_way t (x ∷ xs) (inr later) = ap (λ b. (x.txn == t) || b) (under_way t xs later) ∙ or_true (x.txn == t)
  where
    or_true : (b : Bool) → (b || true) ≡ true
    or_true true = refl
    or_true false = refl

not_under_way : (t : ℕ) (active : List SessionTxn) → (IsAmong t (txns_of active) → ⊥) → list_any (λ (a : SessionTxn). a.txn == t) active ≡ false
not_under_way t [] none = refl
not_under_way t (x ∷ xs) none =
    ap (λ b. (x.txn == t) || b) (not_under_way t xs (λ m. none (inr m))) ∙ ⊎_elim
    (λ same. absurd (none (inl (eqb-true x.txn t same))))
    (λ other. ap (λ b. b || false) other)
    (cases_Bool (x.txn == t))

none_pass : {A : Type 0} (p : A → Bool) (xs : List A) → ((x : A) → IsAmong x xs → p x ≡ false) → filter p xs ≡ []
none_pass p [] none = refl
none_pass p (x ∷ xs) none = ap (λ b. cond b (x ∷ filter p xs) (filter p xs)) (none x (inl refl)) ∙ none_pass p xs (λ y m. none y (inr m))

module _ (control : Control) (s : State) (was : HasControl control s) (works : s.failed ≡ false) where
  abbrev has_ended : ResolvedTxn → Bool
  has_ended r = not (list_any (λ (a : SessionTxn). a.txn == r.txn) s.sessions.active)

  rolled_not : (r : ResolvedTxn) → IsAmong r (rolled_in (txns_in control)) → has_ended r ≡ false
  rolled_not r m =
      let t = among_made as_rolled r (table.txns_in (txns_in control)) m in
      let there = among_map (λ (a : SessionTxn). a.txn) (as_session_txn t.0) (undos_in (txns_in control)) (among_map as_session_txn t.0 (table.txns_in (txns_in control)) t.1) in
      let number : number_of t.0 ≡ r.txn = (rolled_is t.0 r t.2).txn in
      ap not (under_way r.txn s.sessions.active (subst (λ (ts : List SessionTxn). IsAmong r.txn (txns_of ts)) (sym was.txns.active) (subst (λ n. IsAmong n (txns_of (undos_in (txns_in control)))) number there)))

  resolved_so : (r : ResolvedTxn) → IsAmong r (resolved_by (waits_in control)) → has_ended r ≡ true
  resolved_so r m =
      let w = among_made as_resolved r (waits_in control) m in
      ap not (not_under_way r.txn s.sessions.active (λ n. (was.waits.ended w.0 r w.1 w.2).0 (subst (λ k. IsAmong k (txns_of s.sessions.active)) (sym (resolve_is w.0.txn w.0.call r w.2).0) n)))

  ended_count : length (ended_among s.sessions.active s.sessions.resolving) ≡ length (resolved_by (waits_in control))
  ended_count =
      sym (length_permutation (filter has_ended s.sessions.resolving) (filter has_ended (rolled_in (txns_in control) ++ resolved_by (waits_in control)))
      (filtered has_ended s.sessions.resolving (rolled_in (txns_in control) ++ resolved_by (waits_in control)) (was.resolving works)))
      ∙ ap length (filter-append has_ended (rolled_in (txns_in control)) (resolved_by (waits_in control)))
      ∙ ap (λ rs. length (rs ++ filter has_ended (resolved_by (waits_in control)))) (none_pass has_ended (rolled_in (txns_in control)) rolled_not)
      ∙ ap length (filter_all has_ended (resolved_by (waits_in control)) resolved_so)

  pub count_is : length (undos_in (txns_in control)) + length (filter is_resolve (waits_in control)) ≡ txn_count s
  count_is =
      let active : length s.sessions.active ≡ length (undos_in (txns_in control)) = ap length was.txns.active in
      let ended = ended_count in
      let calls = resolves_count (waits_in control) in
      omega (arith, active, ended, calls)
