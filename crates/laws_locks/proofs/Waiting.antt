-- Nobody but the one who asks begins to wait.
use Rattle.std.proofs.Common.{◌≡◌, ◌≢◌, ◌⊎◌, inl, inr, ⊎_elim, ℕ, List, [], ◌∷◌, true, false, Option, None, Some, refl, ap, sym, ◌∙◌, ◌<◌, arith}
use Rattle.std.specs.Prelude.{All, ◌==◌, ◌&&◌, Any, Contains, is_some, not}
use Rattle.std.proofs.lemmas.Bool.{cases_Bool}
use Rattle.std.proofs.lemmas.Bool.Decides.{Decides-eqb}
use Rattle.std.proofs.lemmas.List.Elements.{All-contains}
use Rattle.shore_model.specs.declared.requests.Request.{Request}
use Rattle.shore_model.specs.Requests.{AreRequests, are_alike, requests_by}
use Rattle.shore_types.specs.declared.locking.Granule.{Granule}
use Rattle.shore_locks.specs.Grants.{given_up, granted, passed, released, removed}
use Rattle.shore_locks.specs.Orderly.{IsOrderly}
use Rattle.shore_locks.specs.Tables.{is_waiting, waiting_request}
use Rattle.shore_locks.proofs.Answered.{only_grants}
use Rattle.shore_locks.proofs.Counts.{AreRequests-passed, AreRequests-removed}
use Rattle.shore_locks.proofs.Entering.{both_true, found_in, none_waits}
use Rattle.shore_locks.proofs.Members.{Contains-In, In, In-Contains, In-filter}
use Rattle.shore_path.specs.Acquires.{OthersOnlyGranted}

waiter_of : (u : ℕ) (rs : List Request) → is_waiting u rs ≡ true → (r : Request) × (waiting_request u rs ≡ Some r)
waiter_of u rs is = there (waiting_request u rs) refl is
  where
    there : (o : Option Request) → waiting_request u rs ≡ o → is_some o ≡ true → (r : Request) × (waiting_request u rs ≡ Some r)
    there None e is = absurd cc
    there (Some r) e is = (r, e)

still_quiet : (rs : List Request) (u t : ℕ) (r : Request) → u ≢ t → is_waiting u rs ≡ false → r.txn ≡ u → is_some r.wanted ≡ true
    → (r.txn ≡ t) ⊎ (Contains rs r ⊎ Any (λ q. r ≡ granted q) rs) → ⊥
still_quiet rs u t r other quiet by wants (inl own) = other (sym by ∙ own)
still_quiet rs u t r other quiet by wants (inr (inl there)) = none_waits u rs quiet r (Contains-In rs r there) by wants
still_quiet rs u t r other quiet by wants (inr (inr made)) =
    let none : is_some r.wanted ≡ false = ap (λ (q : Request). is_some q.wanted) made.4 in
    let clash : true ≡ false = sym wants ∙ none in
    absurd cc

-- who has no request that waits does not wait
quiet_by : (new : List Request) (u : ℕ) → ((r : Request) → In r new → r.txn ≡ u → is_some r.wanted ≡ true → ⊥) → is_waiting u new ≡ false
quiet_by new u none = ⊎_elim
    (λ waits.
    let found = waiter_of u new waits in
    let is = found_in (λ r. (r.txn == u) && is_some r.wanted) new found.0 found.1 in
    let both = both_true (found.0.txn == u) (is_some found.0.wanted) is.1 in
    absurd (none found.0 is.0 ((Decides-eqb found.0.txn u).0 both.0) both.1))
    (λ not_waiting. not_waiting)
    (cases_Bool (is_waiting u new))

pub others_stay_quiet : (rs new : List Request) (t u : ℕ) → OthersOnlyGranted rs new t → u ≢ t → is_waiting u rs ≡ false → is_waiting u new ≡ false
others_stay_quiet rs new t u others other quiet = quiet_by new u (λ r there by wants.
    still_quiet rs u t r other quiet by wants (All-contains (λ q. (q.txn ≡ t) ⊎ (Contains rs q ⊎ Any (λ p. q ≡ granted p) rs)) new r others (In-Contains new r there)))

-- ---- a release

granted_quiet : (rs : List Request) (u : ℕ) (r : Request) → is_waiting u rs ≡ false → r.txn ≡ u → is_some r.wanted ≡ true → Contains rs r ⊎ Any (λ q. r ≡ granted q) rs → ⊥
granted_quiet rs u r quiet by wants (inl there) = none_waits u rs quiet r (Contains-In rs r there) by wants
granted_quiet rs u r quiet by wants (inr made) =
    let none : is_some r.wanted ≡ false = ap (λ (q : Request). is_some q.wanted) made.4 in
    let clash : true ≡ false = sym wants ∙ none in
    absurd cc

passed_quiet : (rs : List Request) (g : Granule) (u : ℕ) → AreRequests rs → is_waiting u rs ≡ false → is_waiting u (passed g rs) ≡ false
passed_quiet rs g u one quiet = quiet_by (passed g rs) u (λ r there by wants.
    granted_quiet rs u r quiet by wants (All-contains (λ q. Contains rs q ⊎ Any (λ p. q ≡ granted p) rs) (passed g rs) r (only_grants rs g one) (In-Contains (passed g rs) r there)))

removed_quiet : (rs : List Request) (gone : Request) (u : ℕ) → is_waiting u rs ≡ false → is_waiting u (removed gone rs) ≡ false
removed_quiet rs gone u quiet = quiet_by (removed gone rs) u (λ r there by wants. none_waits u rs quiet r (In-filter (λ q. not (are_alike q gone)) rs r there).0 by wants)

given_up_quiet : (mine rs : List Request) (u : ℕ) → AreRequests rs → is_waiting u rs ≡ false → is_waiting u (given_up mine rs) ≡ false
given_up_quiet [] rs u one quiet = quiet
given_up_quiet (r ∷ mine) rs u one quiet =
    let left = AreRequests-removed r rs one in
    given_up_quiet mine (passed r.granule (removed r rs)) u (AreRequests-passed r.granule (removed r rs) left) (passed_quiet (removed r rs) r.granule u left (removed_quiet rs r u quiet))

pub released_stay_quiet : (rs : List Request) (t u : ℕ) → IsOrderly rs → is_waiting u rs ≡ false → is_waiting u (released t rs) ≡ false
released_stay_quiet rs t u orderly quiet = given_up_quiet (requests_by t rs) rs u orderly.one_each quiet

-- who has no request does not wait
pub newcomer_quiet : (rs : List Request) (n : ℕ) → All (λ r. r.txn < n) rs → is_waiting n rs ≡ false
newcomer_quiet rs n below = quiet_by rs n (λ r there by wants. let less = All-contains (λ q. q.txn < n) rs r below (In-Contains rs r there) in absurd (omega (arith, less, by)))
