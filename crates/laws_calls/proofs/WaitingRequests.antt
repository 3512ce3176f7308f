-- Which requests wait once others are granted, taken back or given up: some of those that waited before, each as it was.
use Rattle.std.proofs.Common.{◌≡◌, ◌≢◌, inl, inr, ⊎_elim, ℕ, List, [], ◌∷◌, Bool, true, false, cond, Option, Some, None, refl, sym, ap, ◌∙◌}
use Rattle.std.specs.Prelude.{◌⊎◌, Any, Contains, is_some, not}
use Rattle.std.proofs.lemmas.List.Elements.{All-contains}
use Rattle.shore_types.specs.declared.locking.Granule.{Granule}
use Rattle.shore_model.specs.declared.requests.Request.{Request}
use Rattle.shore_model.specs.Requests.{AreRequests, are_alike, requests_by}
use Rattle.shore_locks.specs.Grants.{cancelled, given_up, granted, passed, released, removed, replaced, taken_back_if, withdrawn}
use Rattle.shore_locks.specs.Orderly.{IsOrderly}
use Rattle.shore_locks.specs.Tables.{waiting_request}
use Rattle.shore_locks.proofs.Counts.{AreRequests-passed, AreRequests-removed, AreRequests-stopped}
use Rattle.shore_locks.proofs.Entering.{none_waits}
use Rattle.shore_locks.proofs.Fits.{In-replaced}
use Rattle.shore_locks.proofs.Members.{Contains-In, In, In-Contains, In-filter}
use Rattle.shore_locks.proofs.Outcomes.{grant_pass_only_grants}
use Rattle.shore_cycles.proofs.Steps.{waits_as}
use Rattle.shore_path.specs.Acquires.{OthersOnlyGranted}

-- each request that waits was there
abbrev pub NoneWaitsAnew : List Request → List Request → Type 0
NoneWaitsAnew rs new = (r : Request) → In r new → is_some r.wanted ≡ true → In r rs

wants_none : (r q : Request) → r ≡ q → q.wanted ≡ None → is_some r.wanted ≡ true → ⊥
wants_none r q is none wants = let clash : true ≡ false = sym wants ∙ ap (λ (x : Request). is_some x.wanted) is ∙ ap is_some none in cc

passed_none : (g : Granule) (rs : List Request) → AreRequests rs → NoneWaitsAnew rs (passed g rs)
passed_none g rs one r there wants =
    ⊎_elim (λ stood. stood) (λ was. absurd (wants_none r (granted was.0) was.2 refl wants)) (grant_pass_only_grants g rs one r there)

removed_none : (gone : Request) (rs : List Request) → NoneWaitsAnew rs (removed gone rs)
removed_none gone rs r there wants = (In-filter (λ q. not (are_alike q gone)) rs r there).0

stopped_none : (r : Request) (rs : List Request) (b : Bool) → NoneWaitsAnew rs (cond b (replaced (withdrawn r) rs) (removed r rs))
stopped_none r rs true q there wants = ⊎_elim (λ same. absurd (wants_none q (withdrawn r) same refl wants)) (λ stood. stood.0) (In-replaced (withdrawn r) rs q there)
stopped_none r rs false q there wants = removed_none r rs q there wants

taken_none : (o : Option Request) (rs : List Request) → AreRequests rs → NoneWaitsAnew rs (taken_back_if o rs)
taken_none None rs one r there wants = there
taken_none (Some r) rs one q there wants =
    let left = cond (is_some r.held) (replaced (withdrawn r) rs) (removed r rs) in
    stopped_none r rs (is_some r.held) q (passed_none r.granule left (AreRequests-stopped r rs one) q there wants) wants

pub cancelled_none : (t : ℕ) (rs : List Request) → AreRequests rs → NoneWaitsAnew rs (cancelled t rs)
cancelled_none t rs one = taken_none (waiting_request t rs) rs one

given_up_none : (mine rs : List Request) → AreRequests rs → NoneWaitsAnew rs (given_up mine rs)
given_up_none [] rs one r there wants = there
given_up_none (r ∷ mine) rs one q there wants =
    let left = AreRequests-removed r rs one in
    removed_none r rs q (passed_none r.granule (removed r rs) left q
    (given_up_none mine (passed r.granule (removed r rs)) (AreRequests-passed r.granule (removed r rs) left) q there wants) wants) wants

pub released_none : (t : ℕ) (rs : List Request) → AreRequests rs → NoneWaitsAnew rs (released t rs)
released_none t rs one = given_up_none (requests_by t rs) rs one

-- but for those of the one who asks
pub others_none : (rs new : List Request) (t : ℕ) → OthersOnlyGranted rs new t → (r : Request) → In r new → is_some r.wanted ≡ true → r.txn ≢ t → In r rs
others_none rs new t others r there wants other = by (All-contains (λ q. (q.txn ≡ t) ⊎ (Contains rs q ⊎ Any (λ p. q ≡ granted p) rs)) new r others (In-Contains new r there))
  where
    by : (r.txn ≡ t) ⊎ (Contains rs r ⊎ Any (λ p. r ≡ granted p) rs) → In r rs
    by (inl own) = absurd (other own)
    by (inr (inl stood)) = Contains-In rs r stood
    by (inr (inr made)) = absurd (wants_none r _ made.4 refl wants)

-- a request that waits is the one with which its transaction waits
pub found_waiting : (t : ℕ) (rs : List Request) → IsOrderly rs → (r : Request) → In r rs → r.txn ≡ t → is_some r.wanted ≡ true → waiting_request t rs ≡ Some r
found_waiting t rs orderly r there by wants = found (waiting_request t rs) refl
  where
    found : (o : Option Request) → waiting_request t rs ≡ o → o ≡ Some r
    found None none = absurd (none_waits t rs (ap is_some none) r there by wants)
    found (Some q) is =
        let w = waits_as t rs q is in
        ap Some (orderly.waits_once q r (In-Contains rs q w.there) (In-Contains rs r there) (w.by ∙ sym by) w.wants wants)
