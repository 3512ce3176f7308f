-- A transaction waits no more, or gives up all that it has: the intentions of those that are left stay.
use Rattle.std.proofs.Common.{◌≡◌, ◌≢◌, inl, inr, ⊎_elim, ℕ, List, [], ◌∷◌, Bool, true, false, Option, None, Some, refl, ap, sym, subst, ◌∙◌}
use Rattle.std.specs.Prelude.{not, cond, map, ◌==◌, ◌&&◌, is_some}
use Rattle.std.proofs.lemmas.Bool.Decides.{Decides-eqb}
use Rattle.shore_types.specs.declared.locking.Granule.{Granule}
use Rattle.shore_types.specs.declared.locking.Mode.{Mode}
use Rattle.shore_model.specs.declared.requests.Request.{Request}
use Rattle.shore_model.specs.Requests.{are_alike, AreRequests, requests_by}
use Rattle.shore_locks.specs.Grants.{cancelled, given_up, is_enough, passed, released, removed, replaced, taken_back_if, withdrawn}
use Rattle.shore_locks.specs.Laws.{of_others}
use Rattle.shore_locks.specs.Orderly.{IsOrderly}
use Rattle.shore_locks.specs.Tables.{waiting_request}
use Rattle.shore_locks.proofs.Members.{In, either, In-filter, filter-In}
use Rattle.shore_locks.proofs.Keys.{alike-Decides, only_one, AreRequests-replaced}
use Rattle.shore_locks.proofs.Counts.{AreRequests-removed}
use Rattle.shore_locks.proofs.Fits.{Fit, Fit-filter, Fit-passed, Fit-withdrawn, In-replaced, no_of}
use Rattle.shore_locks.proofs.Entering.{found_in}
use Rattle.shore_locks.proofs.LawLemmas.{released_own}
use Rattle.shore_locks.proofs.Tables.{fit_of, orderly_cancelled, orderly_given_up}
use Rattle.shore_path.specs.Acquires.{NoOtherWeaker, NoneWeaker}
use Rattle.shore_path.proofs.Holding.{enough_of, holder_of}
use Rattle.shore_path.proofs.Kept.{Each, still_enough}
use Rattle.shore_path.proofs.Moving.{Above, HasMode, Rooted, Stays, held_still, onto_replaced, rooted_after, rooted_passed, stays-on, stays-self, stays_onto, stays_passed}

stays_withdrawn : (P : ℕ → Type 0) (rs : List Request) (w : Request) → AreRequests rs → In w rs → Stays P rs (replaced (withdrawn w) rs)
stays_withdrawn P rs w one in_w =
    stays_onto P (withdrawn w) rs (replaced (withdrawn w) rs) (onto_replaced (withdrawn w) rs)
    (λ q h alike m e. subst (λ (x : Request). is_enough m x.held ≡ true) (only_one rs one q w h in_w alike) e)

mode_withdrawn : (w : Request) (m : Mode) → HasMode (withdrawn w) m → HasMode w m
mode_withdrawn w m has = ⊎_elim (λ held. inl held) (λ wanted. cc) has

rooted_withdrawn : (P : ℕ → Type 0) (rs : List Request) (w : Request) → AreRequests rs → In w rs → Rooted P rs → Rooted P (replaced (withdrawn w) rs)
rooted_withdrawn P rs w one in_w rooted =
    rooted_after P rs (replaced (withdrawn w) rs) (AreRequests-replaced (withdrawn w) rs one) (stays_withdrawn P rs w one in_w)
    (λ r h p m has. ⊎_elim
    (λ e.
    let p = subst P (ap (λ (x : Request). x.txn) e) p in
    let its = rooted w in_w p m (mode_withdrawn w m (subst (λ (x : Request). HasMode x m) e has)) in
    subst (λ (x : Request). Above rs x.txn x.granule m) (sym e) its)
    (λ o. rooted r o.0 p m has)
    (In-replaced (withdrawn w) rs r h))

-- no lock of those that are looked at goes with the request
abbrev Spares : (ℕ → Type 0) → Request → List Request → Type 0
Spares P r rs = (q : Request) → In q rs → P q.txn → are_alike q r ≡ true → (m : Mode) → is_enough m q.held ≡ true → ⊥

rooted_removed : (P : ℕ → Type 0) (r : Request) (rs : List Request) → AreRequests rs → Spares P r rs → Rooted P rs → Rooted P (removed r rs)
rooted_removed P r rs one spares rooted =
    rooted_after P rs (removed r rs) (AreRequests-removed r rs one)
    (λ q h p m e.
    let apart : are_alike q r ≡ false = ⊎_elim (λ yes. absurd (spares q h p yes m e)) (λ no. no) (either (are_alike q r)) in
    record { request = q; there = filter-In (λ x. not (are_alike x r)) rs q h (ap not apart); by = refl; at = refl; enough = e })
    (λ q h p m has. rooted q (In-filter (λ x. not (are_alike x r)) rs q h).0 p m has)

holds_none : (m : Mode) (held : Option Mode) → is_some held ≡ false → is_enough m held ≡ true → ⊥
holds_none m None none e = cc
holds_none m (Some k) none e = cc

rooted_stopped : (r : Request) (rs : List Request) (b : Bool) → is_some r.held ≡ b → Fit rs → In r rs → Rooted Each rs → Rooted Each (passed r.granule (cond b (replaced (withdrawn r) rs) (removed r rs)))
rooted_stopped r rs true is fit in_r rooted =
    rooted_passed Each r.granule (replaced (withdrawn r) rs) (Fit-withdrawn rs r fit in_r is) (rooted_withdrawn Each rs r fit.one in_r rooted)
rooted_stopped r rs false is fit in_r rooted =
    rooted_passed Each r.granule (removed r rs) (Fit-filter (λ q. not (are_alike q r)) rs fit)
    (rooted_removed Each r rs fit.one
    (λ q h p alike m e. holds_none m r.held is (subst (λ (x : Request). is_enough m x.held ≡ true) (only_one rs fit.one q r h in_r alike) e)) rooted)

rooted_taken_if : (o : Option Request) (rs : List Request) → Fit rs → ((r : Request) → o ≡ Some r → In r rs) → Rooted Each rs → Rooted Each (taken_back_if o rs)
rooted_taken_if None rs fit there rooted = rooted
rooted_taken_if (Some r) rs fit there rooted = rooted_stopped r rs (is_some r.held) refl fit (there r refl) rooted

pub rooted_cancelled : (t : ℕ) (rs : List Request) → IsOrderly rs → Rooted Each rs → Rooted Each (cancelled t rs)
rooted_cancelled t rs orderly rooted =
    rooted_taken_if (waiting_request t rs) rs (fit_of rs orderly) (λ r is. (found_in (λ r. (r.txn == t) && is_some r.wanted) rs r is).0) rooted

-- ---- a release: the others' intentions stay, and nothing of the transaction is left

rooted_given_up : (t : ℕ) (mine rs : List Request) → ((r : Request) → In r mine → r.txn ≡ t) → Fit rs → Rooted (λ u. u ≢ t) rs → Rooted (λ u. u ≢ t) (given_up mine rs)
rooted_given_up t [] rs its fit rooted = rooted
rooted_given_up t (r ∷ mine) rs its fit rooted =
    let left = Fit-filter (λ q. not (are_alike q r)) rs fit in
    rooted_given_up t mine (passed r.granule (removed r rs)) (λ q h. its q (inr h)) (Fit-passed r.granule (removed r rs) left)
    (rooted_passed (λ u. u ≢ t) r.granule (removed r rs) left
    (rooted_removed (λ u. u ≢ t) r rs fit.one (λ q h other alike m e. other (((alike-Decides q r).0 alike).0 ∙ its r (inl refl))) rooted))

In-map : {X Y : Type 0} (f : X → Y) (xs : List X) (x : X) → In x xs → In (f x) (map f xs)
In-map f [] x h = absurd h
In-map f (z ∷ xs) x h = ⊎_elim (λ e. inl (ap f e)) (λ t. inr (In-map f xs x t)) h

map-In : {X Y : Type 0} (f : X → Y) (xs : List X) (y : Y) → In y (map f xs) → (x : X) × In x xs × (f x ≡ y)
map-In f [] y h = absurd h
map-In f (z ∷ xs) y h = ⊎_elim (λ e. (z, inl refl, e)) (λ t. let r = map-In f xs y t in (r.0, inr r.1, r.2)) h

none_left : (t : ℕ) (rs : List Request) → AreRequests rs → (q : Request) → In q (released t rs) → q.txn ≡ t → ⊥
none_left t rs one q h by =
    let owned = subst (In (q.txn, q.granule)) (released_own rs t one) (In-map (λ (r : Request). (r.txn, r.granule)) (released t rs) q h) in
    let other = map-In (λ (r : Request). (r.txn, r.granule)) (of_others t rs) (q.txn, q.granule) owned in
    let not_its = no_of (other.0.txn == t) (In-filter (λ r. not (r.txn == t)) rs other.0 other.1).1 in
    let its = (Decides-eqb other.0.txn t).1 (ap (λ (k : ℕ × Granule). k.0) other.2 ∙ by) in
    cc

pub rooted_released : (t : ℕ) (rs : List Request) → IsOrderly rs → Rooted Each rs → Rooted Each (released t rs)
rooted_released t rs orderly rooted =
    let others = rooted_given_up t (requests_by t rs) rs (λ r h. (Decides-eqb r.txn t).0 (In-filter (λ x. x.txn == t) rs r h).1) (fit_of rs orderly) (λ r h other m has. rooted r h tt m has) in
    λ r h p m has. others r h (none_left t rs orderly.one_each r h) m has

-- ---- nobody's lock becomes weaker

stays_removed : (P : ℕ → Type 0) (r : Request) (rs : List Request) → Spares P r rs → Stays P rs (removed r rs)
stays_removed P r rs spares q h p m e =
    let apart : are_alike q r ≡ false = ⊎_elim (λ yes. absurd (spares q h p yes m e)) (λ no. no) (either (are_alike q r)) in
    record { request = q; there = filter-In (λ x. not (are_alike x r)) rs q h (ap not apart); by = refl; at = refl; enough = e }

stays_stopped : (r : Request) (rs : List Request) (b : Bool) → is_some r.held ≡ b → Fit rs → In r rs → Stays Each rs (passed r.granule (cond b (replaced (withdrawn r) rs) (removed r rs)))
stays_stopped r rs true is fit in_r =
    stays-on Each rs (replaced (withdrawn r) rs) (passed r.granule (replaced (withdrawn r) rs)) (stays_withdrawn Each rs r fit.one in_r)
    (stays_passed Each r.granule (replaced (withdrawn r) rs) (Fit-withdrawn rs r fit in_r is))
stays_stopped r rs false is fit in_r =
    stays-on Each rs (removed r rs) (passed r.granule (removed r rs))
    (stays_removed Each r rs (λ q h p alike m e. holds_none m r.held is (subst (λ (x : Request). is_enough m x.held ≡ true) (only_one rs fit.one q r h in_r alike) e)))
    (stays_passed Each r.granule (removed r rs) (Fit-filter (λ q. not (are_alike q r)) rs fit))

stays_taken_if : (o : Option Request) (rs : List Request) → Fit rs → ((r : Request) → o ≡ Some r → In r rs) → Stays Each rs (taken_back_if o rs)
stays_taken_if None rs fit there = stays-self Each rs
stays_taken_if (Some r) rs fit there = stays_stopped r rs (is_some r.held) refl fit (there r refl)

pub weaker_cancelled : (t : ℕ) (rs : List Request) → IsOrderly rs → NoneWeaker rs (cancelled t rs)
weaker_cancelled t rs orderly =
    still_enough rs (cancelled t rs) (orderly_cancelled t rs orderly).one_each
    (stays_taken_if (waiting_request t rs) rs (fit_of rs orderly) (λ r is. (found_in (λ r. (r.txn == t) && is_some r.wanted) rs r is).0))

stays_given_up : (t : ℕ) (mine rs : List Request) → ((r : Request) → In r mine → r.txn ≡ t) → Fit rs → Stays (λ u. u ≢ t) rs (given_up mine rs)
stays_given_up t [] rs its fit = stays-self (λ u. u ≢ t) rs
stays_given_up t (r ∷ mine) rs its fit =
    let left = Fit-filter (λ q. not (are_alike q r)) rs fit in
    stays-on (λ u. u ≢ t) rs (removed r rs) (given_up mine (passed r.granule (removed r rs)))
    (stays_removed (λ u. u ≢ t) r rs (λ q h other alike m e. other (((alike-Decides q r).0 alike).0 ∙ its r (inl refl))))
    (stays-on (λ u. u ≢ t) (removed r rs) (passed r.granule (removed r rs)) (given_up mine (passed r.granule (removed r rs)))
    (stays_passed (λ u. u ≢ t) r.granule (removed r rs) left)
    (stays_given_up t mine (passed r.granule (removed r rs)) (λ q h. its q (inr h)) (Fit-passed r.granule (removed r rs) left)))

pub weaker_released : (t : ℕ) (rs : List Request) → IsOrderly rs → NoOtherWeaker rs (released t rs) t
weaker_released t rs orderly u g m other e =
    enough_of u g m (released t rs) (orderly_given_up (requests_by t rs) rs orderly).one_each
    (held_still (λ v. v ≢ t) rs (released t rs) (stays_given_up t (requests_by t rs) rs (λ r h. (Decides-eqb r.txn t).0 (In-filter (λ x. x.txn == t) rs r h).1) (fit_of rs orderly))
    u g m other (holder_of u g m rs e))
