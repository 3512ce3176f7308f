-- A transaction that a resolve rolls back, and that has not ended, has its Rollback decided among the records since the open.
use Rattle.std.proofs.Common.{◌≡◌, ◌≢◌, ◌⊎◌, inl, inr, ⊎_elim, ◌∷◌, ℕ, zero, suc, List, [], Bool, true, false, cond, Option, None, Some, refl, sym, ap, subst, ◌∙◌, length, not}
use Rattle.std.specs.Prelude.{◌||◌, drop, filter, nat_eq}
use Rattle.std.specs.Cmp.Lexicographic.{pointwise}
use Rattle.std.specs.List.{AllByRecursion, cons_option, filter_map, list_any}
use Rattle.std.proofs.lemmas.Bool.{cases_Bool, eqb-true}
use Rattle.shore_model.specs.declared.histories.Decision.{Decision}
use Rattle.shore_model.specs.declared.histories.Decision.TheVariants as decision
use Rattle.shore_model.specs.declared.histories.Entry.{Entry}
use Rattle.shore_model.specs.declared.histories.Opening.{Opening}
use Rattle.shore_model.specs.declared.log_records.LogRecord.{LogRecord}
use Rattle.shore_model.specs.declared.log_records.Payload.{Payload}
use Rattle.shore_model.specs.declared.log_records.Payload.TheVariants as payload
use Rattle.shore_model.specs.Histories.{all_prepared, decisions, is_ended_by, is_undecided, last_under}
use Rattle.shore_model.specs.Logs.{commit_of, committed_in}
use Rattle.laws_lives.proofs.Lists.{among_map, mapped_one}
use Rattle.laws_lives.proofs.Members.{txn_among}
use Rattle.laws_lives.specs.LogPrefixes.{decision_by, decision_in, decisions_in}
use Rattle.laws_lives.specs.Sessions.{PreparedTxn, ResolvedTxn, SessionTxn, in_doubt_of, pair_of, pairs_of, txns_of}
use Rattle.laws_lives.specs.Views.{IsAmong}
use Rattle.laws_calls.proofs.UnderGlobal.{used_resolved}
use Rattle.laws_calls.specs.LockedStates.{IsSessionsState}
use Rattle.laws_calls.specs.Resolves.{IsRollingBack, resolved_by_rollback}
use Rattle.laws_calls.specs.States.{State}

-- ---- lists

from_filter : {A B : Type 0} (f : A → Option B) (y : B) (xs : List A) → IsAmong y (filter_map f xs) → (x : A) × IsAmong x xs × (f x ≡ Some y)
from_filter f y [] m = absurd m
from_filter {A} f y (x ∷ xs) m = by (f x) refl (λ n. let r = from_filter f y xs n in (r.0, inr r.1, r.2)) m
  where
    by : (o : _) → f x ≡ o → (IsAmong y (filter_map f xs) → (z : A) × IsAmong z (x ∷ xs) × (f z ≡ Some y)) → IsAmong y (cons_option o (filter_map f xs)) → (z : A) × IsAmong z (x ∷ xs) × (f z ≡ Some y)
    by None is rest n = rest n
    by (Some z) is rest n = ⊎_elim (λ own. (x, inl refl, is ∙ ap Some own)) rest n

to_filter : {A B : Type 0} (f : A → Option B) (x : A) (y : B) (xs : List A) → IsAmong x xs → f x ≡ Some y → IsAmong y (filter_map f xs)
to_filter f x y [] m is = absurd m
to_filter f x y (z ∷ xs) (inl same) is = subst (λ o. IsAmong y (cons_option o (filter_map f xs))) (sym (ap f same ∙ is)) (inl refl)
to_filter f x y (z ∷ xs) (inr later) is = by (f z) (to_filter f x y xs later is)
  where
    by : (o : _) → IsAmong y (filter_map f xs) → IsAmong y (cons_option o (filter_map f xs))
    by None m = m
    by (Some u) m = inr m

from_drop : {A : Type 0} (n : ℕ) (x : A) (xs : List A) → IsAmong x (drop n xs) → IsAmong x xs
from_drop zero x xs m = m
from_drop (suc n) x [] m = m
from_drop (suc n) x (y ∷ xs) m = inr (from_drop n x xs m)

none_at : (t : ℕ) (xs : List ℕ) → AllByRecursion (λ u. u ≢ t) xs → IsAmong t xs → ⊥
none_at t [] h m = m
none_at t (x ∷ xs) h (inl same) = h.0 same
none_at t (x ∷ xs) h (inr later) = none_at t xs h.1 later

any_at : {A : Type 0} (f : A → Bool) (xs : List A) → list_any f xs ≡ true → (x : A) × IsAmong x xs × (f x ≡ true)
any_at f [] e = cc
any_at {A} f (x ∷ xs) e = by (f x) refl (λ later. let r = any_at f xs later in (r.0, inr r.1, r.2)) e
  where
    by : (b : Bool) → f x ≡ b → (list_any f xs ≡ true → (z : A) × IsAmong z (x ∷ xs) × (f z ≡ true)) → (b || list_any f xs) ≡ true → (z : A) × IsAmong z (x ∷ xs) × (f z ≡ true)
    by true is rest h = (x, inl refl, is)
    by false is rest h = rest h

kept_by : {A : Type 0} (f : A → Bool) (x : A) (xs : List A) → IsAmong x xs → f x ≡ true → IsAmong x (filter f xs)
kept_by f x [] m is = absurd m
kept_by f x (y ∷ xs) (inl same) is = subst (λ b. IsAmong x (cond b (y ∷ filter f xs) (filter f xs))) (sym (ap f same ∙ is)) (inl same)
kept_by f x (y ∷ xs) (inr later) is = by (f y) (kept_by f x xs later is)
  where
    by : (b : Bool) → IsAmong x (filter f xs) → IsAmong x (cond b (y ∷ filter f xs) (filter f xs))
    by true m = inr m
    by false m = m

-- who was prepared last under a global id is among those that were prepared
last_among : (g : List ℕ) (t : ℕ) (ps : List (ℕ × List ℕ)) (start : Option ℕ) → last_under g start ps ≡ Some t → (start ≡ Some t) ⊎ ((name : List ℕ) × IsAmong (t, name) ps)
last_among g t [] start e = inl e
last_among g t (p ∷ ps) start e = ⊎_elim (λ first. by (pointwise nat_eq p.1 g) first) (λ later. inr (later.0, inr later.1)) (last_among g t ps (cond (pointwise nat_eq p.1 g) (Some p.0) start) e)
  where
    number : (u : ℕ) → Some u ≡ Some t → u ≡ t
    number u e = cc

    by : (b : Bool) → cond b (Some p.0) start ≡ Some t → (start ≡ Some t) ⊎ ((name : List ℕ) × IsAmong (t, name) (p ∷ ps))
    by true h = inr (p.1, inl (ap (λ (u : ℕ). (u, p.1)) (number p.0 h)))
    by false h = inl h

-- ---- decisions

commit_is : (r : LogRecord) (t : ℕ) → decision_in r ≡ Some (decision.Commit t) → commit_of r ≡ Some t
commit_is r t is = by r.payload r.txn is
  where
    by : (p : Payload) (u : ℕ) → decision_by u p ≡ Some (decision.Commit t) → commit_of (record { txn = u; previous = r.previous; payload = p }) ≡ Some t
    by payload.Commit u e = cc
    by payload.RollbackDecided u e = cc
    by (payload.Prepare global granules) u e = cc
    by (payload.Change id before image) u e = cc
    by (payload.Compensation id image undo_next) u e = cc
    by payload.End u e = cc
    by payload.CheckpointBegin u e = cc
    by (payload.CheckpointEnd begin next txns dirty) u e = cc
    by (payload.Anchor checkpoint tail) u e = cc

module _ (o : Opening) (found : List LogRecord) (es : List Entry) (s : State) (k : IsSessionsState o found es s) (r : ResolvedTxn) (there : IsAmong r s.sessions.resolving)
    (active : IsAmong r.txn (txns_of s.sessions.active)) where
  no_doubt : IsAmong r.txn (in_doubt_of s.sessions) → ⊥
  no_doubt = (k.doubts.rolled r.txn active (among_map (λ (q : ResolvedTxn). q.txn) r s.sessions.resolving there)).1

  pub rolled_uncommitted : IsAmong (decision.Commit r.txn) (decisions es) → ⊥
  rolled_uncommitted m =
      let at = from_filter decision_in (decision.Commit r.txn) _ (subst (IsAmong (decision.Commit r.txn)) k.decides.all m) in
      none_at r.txn (committed_in s.log) (k.log.tells_serial.uncommitted r.txn active)
      (to_filter commit_of at.0 r.txn s.log (from_drop (length found) at.0 s.log at.1) (commit_is at.0 r.txn at.2))

  decided : is_undecided (decisions es) r.txn ≡ false
  decided = ⊎_elim
      (λ undecided. absurd (still undecided))
      (λ done. done)
      (cases_Bool (is_undecided (decisions es) r.txn))
    where
      still : is_undecided (decisions es) r.txn ≡ true → ⊥
      still undecided = ⊎_elim
          (λ none. let clash : None ≡ Some r.txn = none in cc)
          (λ there. no_doubt (among_first there.0 (subst (IsAmong (r.txn, there.0)) k.agree.in_doubt
          (kept_by (λ (p : ℕ × List ℕ). is_undecided (decisions es) p.0) (r.txn, there.0) (all_prepared o.in_doubt (decisions es)) there.1 undecided))))
          (last_among r.global r.txn (all_prepared o.in_doubt (decisions es)) None (k.agree.under (r.txn, r.global) (used_resolved s.sessions r there)))
        where
          among_first : (name : List ℕ) → IsAmong (r.txn, name) (pairs_of s.sessions.prepared) → IsAmong r.txn (in_doubt_of s.sessions)
          among_first name m =
              let p = mapped_one (λ (x : PreparedTxn). pair_of x) (r.txn, name) s.sessions.prepared m in
              subst (λ t. IsAmong t (in_doubt_of s.sessions)) (ap (λ (q : ℕ × List ℕ). q.0) p.2) (among_map (λ (x : PreparedTxn). x.txn) p.0 s.sessions.prepared p.1)

  pub rolled_back_decided : IsAmong (decision.RollBack r.txn) (decisions_in (length found) s.log)
  rolled_back_decided =
      let ended : list_any (is_ended_by r.txn) (decisions es) ≡ true = not_false (list_any (is_ended_by r.txn) (decisions es)) decided in
      let d = any_at (is_ended_by r.txn) (decisions es) ended in
      subst (IsAmong (decision.RollBack r.txn)) k.decides.all (by d.0 d.1 d.2)
    where
      not_false : (b : Bool) → not b ≡ false → b ≡ true
      not_false true e = refl
      not_false false e = cc

      by : (d : Decision) → IsAmong d (decisions es) → is_ended_by r.txn d ≡ true → IsAmong (decision.RollBack r.txn) (decisions es)
      by (decision.Commit u) m e = absurd (rolled_uncommitted (subst (λ t. IsAmong (decision.Commit t) (decisions es)) (eqb-true u r.txn e) m))
      by (decision.RollBack u) m e = subst (λ t. IsAmong (decision.RollBack t) (decisions es)) (eqb-true u r.txn e) m
      by (decision.Prepare u name) m e = cc

-- .. one of which a call goes on with the rollback
pub rolled_decided : (o : Opening) (found : List LogRecord) (es : List Entry) (s : State) (k : IsSessionsState o found es s) (a : SessionTxn) (global : List ℕ) → IsRollingBack s a global
    → IsAmong (decision.RollBack a.txn) (decisions_in (length found) s.log)
rolled_decided o found es s k a global rolls = rolled_back_decided o found es s k (resolved_by_rollback a global) rolls.1 (txn_among a s.sessions.active rolls.0)
