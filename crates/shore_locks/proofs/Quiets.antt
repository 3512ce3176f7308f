-- Who does not wait does not begin to by what another asks for, gives up or is granted.
use Rattle.std.proofs.Common.{◌≡◌, ◌⊎◌, inl, inr, ⊎_elim, ℕ, List, [], ◌∷◌, ◌++◌, true, false, None, refl, ap, subst, sym, ◌∙◌}
use Rattle.std.specs.Prelude.{Bool, cond, filter, is_some, not}
use Rattle.shore_types.specs.declared.locking.Granule.{Granule}
use Rattle.shore_types.specs.declared.locking.Mode.{Mode}
use Rattle.shore_model.specs.declared.requests.Request.{Request}
use Rattle.shore_model.specs.Requests.{AreRequests, are_alike, placed_last, requests_by}
use Rattle.shore_nodes.specs.Tables.{is_waiting}
use Rattle.shore_locks.specs.Grants.{after_grant, asking, given_up, granted, passed, put, released, removed, replaced, taken_back, withdrawn}
use Rattle.shore_nodes.proofs.Counts.{AreRequests-passed, AreRequests-removed, AreRequests-stopped}
use Rattle.shore_nodes.proofs.Entering.{AreRequests-put, In-put, none_waits}
use Rattle.shore_nodes.proofs.Fits.{In-replaced, wants_nothing}
use Rattle.shore_nodes.proofs.Members.{either, In, In-append, In-filter}
use Rattle.shore_locks.proofs.Outcomes.{grant_pass_only_grants, nobody_wants}
use Rattle.shore_locks.proofs.Tables.{cond_false, cond_true}

-- no request of the transaction wants anything
abbrev IsIdle : ℕ → List Request → Type 0
IsIdle u rs = (q : Request) → In q rs → q.txn ≡ u → is_some q.wanted ≡ true → ⊥

in_either : (rs : List Request) (r q : Request) → In q (rs ++ r ∷ []) → In q rs ⊎ (q ≡ r)
in_either rs r q h = ⊎_elim (λ old. inl old) (λ new. ⊎_elim (λ same. inr (sym same)) (λ none. absurd none) new) (In-append rs (r ∷ []) q h)

idle_passed : (u : ℕ) (g : Granule) (rs : List Request) → AreRequests rs → IsIdle u rs → IsIdle u (passed g rs)
idle_passed u g rs one idle q h by wants =
    ⊎_elim (λ stood. idle q stood by wants) (λ was. wants_nothing q.wanted (ap (λ (x : Request). x.wanted) was.2) wants) (grant_pass_only_grants g rs one q h)

idle_filtered : (u : ℕ) (p : Request → Bool) (rs : List Request) → IsIdle u rs → IsIdle u (filter p rs)
idle_filtered u p rs idle q h = idle q (In-filter p rs q h).0

idle_put : (u : ℕ) (r : Request) (rs : List Request) → r.wanted ≡ None → IsIdle u rs → IsIdle u (put r rs)
idle_put u r rs still idle q h by wants = ⊎_elim (λ new. wants_nothing q.wanted (ap (λ (x : Request). x.wanted) new ∙ still) wants) (λ old. idle q old.0 by wants) (In-put r rs q h)

idle_stopped : (u : ℕ) (r : Request) (rs : List Request) → IsIdle u rs → IsIdle u (cond (is_some r.held) (replaced (withdrawn r) rs) (removed r rs))
idle_stopped u r rs idle =
    ⊎_elim
    (λ yes. subst (IsIdle u) (sym (cond_true (is_some r.held) (replaced (withdrawn r) rs) (removed r rs) yes))
    (λ q h by wants. ⊎_elim (λ same. wants_nothing q.wanted (ap (λ (x : Request). x.wanted) same) wants) (λ stood. idle q stood.0 by wants) (In-replaced (withdrawn r) rs q h)))
    (λ no. subst (IsIdle u) (sym (cond_false (is_some r.held) (replaced (withdrawn r) rs) (removed r rs) no)) (idle_filtered u (λ q. not (are_alike q r)) rs idle))
    (either (is_some r.held))

idle_given_up : (u : ℕ) (mine rs : List Request) → AreRequests rs → IsIdle u rs → IsIdle u (given_up mine rs)
idle_given_up u [] rs one idle = idle
idle_given_up u (r ∷ mine) rs one idle =
    let left = AreRequests-removed r rs one in
    idle_given_up u mine (passed r.granule (removed r rs)) (AreRequests-passed r.granule (removed r rs) left)
    (idle_passed u r.granule (removed r rs) left (idle_filtered u (λ q. not (are_alike q r)) rs idle))

pub quiet_granted : (t u : ℕ) (g : Granule) (mode : Mode) (rs : List Request) → AreRequests rs → is_waiting u rs ≡ false → is_waiting u (after_grant t g mode rs) ≡ false
quiet_granted t u g mode rs one quiet =
    let made = granted (asking t g mode rs) in
    nobody_wants u (after_grant t g mode rs) (idle_passed u g (put made rs) (AreRequests-put made rs one) (idle_put u made rs refl (none_waits u rs quiet)))

-- one request more, which wants nothing
pub quiet_alone : (u : ℕ) (r : Request) (rs : List Request) → r.wanted ≡ None → is_waiting u rs ≡ false → is_waiting u (rs ++ r ∷ []) ≡ false
quiet_alone u r rs still quiet =
    nobody_wants u (rs ++ r ∷ []) (λ q h by wants. ⊎_elim (λ old. none_waits u rs quiet q old by wants) (λ new. wants_nothing q.wanted (ap (λ (x : Request). x.wanted) new ∙ still) wants) (in_either rs r q h))

-- another begins to wait
pub quiet_placed : (t u : ℕ) (g : Granule) (mode : Mode) (rs : List Request) → (u ≡ t → ⊥) → is_waiting u rs ≡ false → is_waiting u (placed_last (asking t g mode rs) rs) ≡ false
quiet_placed t u g mode rs other quiet =
    nobody_wants u (placed_last (asking t g mode rs) rs) (λ q h by wants. ⊎_elim
    (λ old. none_waits u rs quiet q (In-filter (λ x. not (are_alike x (asking t g mode rs))) rs q old).0 by wants)
    (λ new. other (sym by ∙ ap (λ (x : Request). x.txn) new))
    (in_either (removed (asking t g mode rs) rs) (asking t g mode rs) q h))

pub quiet_taken_back : (u : ℕ) (r : Request) (rs : List Request) → AreRequests rs → is_waiting u rs ≡ false → is_waiting u (taken_back r rs) ≡ false
quiet_taken_back u r rs one quiet = nobody_wants u (taken_back r rs) (idle_passed u r.granule _ (AreRequests-stopped r rs one) (idle_stopped u r rs (none_waits u rs quiet)))

-- a request goes, with a grant pass over its queue
pub quiet_removed : (u : ℕ) (r : Request) (rs : List Request) → AreRequests rs → is_waiting u rs ≡ false → is_waiting u (passed r.granule (removed r rs)) ≡ false
quiet_removed u r rs one quiet = nobody_wants u (passed r.granule (removed r rs)) (idle_given_up u (r ∷ []) rs one (none_waits u rs quiet))

pub quiet_released : (t u : ℕ) (rs : List Request) → AreRequests rs → is_waiting u rs ≡ false → is_waiting u (released t rs) ≡ false
quiet_released t u rs one quiet = nobody_wants u (released t rs) (idle_given_up u (requests_by t rs) rs one (none_waits u rs quiet))
