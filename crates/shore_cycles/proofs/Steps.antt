-- Edges and cycles when a transaction waits no more, gives up all, or asks.
use Rattle.std.proofs.Common.{ap, ⊎_elim, ◌≡◌, inl, ℕ, List, [], ◌∷◌, Bool, true, false, Option, None, Some, refl, sym}
use Rattle.std.specs.Prelude.{cond, filter, is_some, not, ◌&&◌, ◌==◌}
use Rattle.std.proofs.lemmas.Bool.Decides.{Decides-eqb}
use Rattle.shore_types.specs.declared.locking.Granule.{Granule}
use Rattle.shore_model.specs.declared.requests.Request.{Request}
use Rattle.shore_model.specs.Requests.{AreRequests, IsCycle, WaitsFor, are_alike, requests_by}
use Rattle.shore_locks.specs.Laws.{of_others}
use Rattle.shore_locks.specs.Orderly.{IsOrderly}
use Rattle.shore_locks.specs.Tables.{is_waiting, waiters_at, waiting_request}
use Rattle.shore_locks.specs.Grants.{cancelled, given_up, granted, passed, released, removed, replaced, taken_back_if, withdrawn}
use Rattle.shore_locks.proofs.Members.{In, In-filter}
use Rattle.shore_locks.proofs.Fits.{Fit, Fit-filter, Fit-passed, Fit-withdrawn, In-replaced, wants_nothing}
use Rattle.shore_locks.proofs.Entering.{both_true, found_in, none_waits}
use Rattle.shore_locks.proofs.Tables.{fit_of}
use Rattle.shore_locks.proofs.Counts.{AreRequests-passed, AreRequests-removed, AreRequests-stopped}
use Rattle.shore_locks.proofs.Outcomes.{nobody_wants, grant_pass_only_grants}
use Rattle.shore_cycles.proofs.Edges.{edge_of, waits-filtered, waits_of}
use Rattle.shore_cycles.proofs.Changes.{next_waits_not, others-removed, others-replaced, pass_adds_none, pass_goes, settled, waiter_wants}
use Rattle.shore_cycles.proofs.Walks.{cycle_apart, member_waits}

-- who waits for nothing waits for nobody
pub quiet_waits_not : (t : ℕ) (rs : List Request) → is_waiting t rs ≡ false → (u : ℕ) → WaitsFor rs t u → ⊥
quiet_waits_not t rs quiet u h = let e = edge_of rs t u h in none_waits t rs quiet e.waiter e.waiter_in e.by (waiter_wants rs t u e)

-- what holds of both holds of the one that is taken
either_way : (P : List Request → Type 0) (b : Bool) (xs ys : List Request) → (b ≡ true → P xs) → P ys → P (cond b xs ys)
either_way P true xs ys h k = h refl
either_way P false xs ys h k = k

-- the requests once one of them waits no more, before the pass
abbrev stopped : Request → List Request → List Request
stopped r rs = cond (is_some r.held) (replaced (withdrawn r) rs) (removed r rs)

Fit-stopped : (r : Request) (rs : List Request) → Fit rs → In r rs → Fit (stopped r rs)
Fit-stopped r rs fit there =
    either_way Fit (is_some r.held) (replaced (withdrawn r) rs) (removed r rs) (λ holds. Fit-withdrawn rs r fit there holds) (Fit-filter (λ q. not (are_alike q r)) rs fit)

-- what a waiting request is
pub record Waits (t : ℕ) (rs : List Request) (r : Request) : Type 0 where
  pub there : In r rs
  pub by : r.txn ≡ t
  pub wants : is_some r.wanted ≡ true

pub waits_as : (t : ℕ) (rs : List Request) (r : Request) → waiting_request t rs ≡ Some r → Waits t rs r
waits_as t rs r is =
    let f = found_in (λ q. (q.txn == t) && is_some q.wanted) rs r is in
    let both = both_true (r.txn == t) (is_some r.wanted) f.1 in
    record { there = f.0; by = (Decides-eqb r.txn t).0 both.0; wants = both.1 }

stop_adds_none : (t : ℕ) (rs : List Request) (r : Request) → Fit rs → Waits t rs r → (a b : ℕ) → WaitsFor (stopped r rs) a b → WaitsFor rs a b
stop_adds_none t rs r fit waits a b =
    either_way (λ xs. WaitsFor xs a b → WaitsFor rs a b) (is_some r.held) (replaced (withdrawn r) rs) (removed r rs)
    (λ holds. settled rs r (withdrawn r) fit waits.there waits.wants refl refl refl
    (λ x x_in at other refused. waits_of rs x.txn r.txn (record {
      apart = other;
      waiter = x;
      other = r;
      waiter_in = x_in;
      other_in = waits.there;
      by = refl;
      upon = refl;
      beside = sym at;
      why = inl refused;
    })) a b)
    (waits-filtered (λ q. not (are_alike q r)) rs a b)

taken_adds_none : (t : ℕ) (rs : List Request) → Fit rs → (o : Option Request) → waiting_request t rs ≡ o → (a b : ℕ) → WaitsFor (taken_back_if o rs) a b → WaitsFor rs a b
taken_adds_none t rs fit None is a b h = h
taken_adds_none t rs fit (Some r) is a b h =
    let waits = waits_as t rs r is in
    stop_adds_none t rs r fit waits a b (pass_adds_none r.granule (stopped r rs) (Fit-stopped r rs fit waits.there) a b h)

pub cancelled_adds_none : (rs : List Request) (t a b : ℕ) → IsOrderly rs → WaitsFor (cancelled t rs) a b → WaitsFor rs a b
cancelled_adds_none rs t a b orderly h = taken_adds_none t rs (fit_of rs orderly) (waiting_request t rs) refl a b h

given_adds_none : (mine rs : List Request) → Fit rs → (a b : ℕ) → WaitsFor (given_up mine rs) a b → WaitsFor rs a b
given_adds_none [] rs fit a b h = h
given_adds_none (r ∷ mine) rs fit a b h =
    let left = Fit-filter (λ q. not (are_alike q r)) rs fit in
    waits-filtered (λ q. not (are_alike q r)) rs a b
    (pass_adds_none r.granule (removed r rs) left a b (given_adds_none mine (passed r.granule (removed r rs)) (Fit-passed r.granule (removed r rs) left) a b h))

pub released_adds_none : (rs : List Request) (t a b : ℕ) → IsOrderly rs → WaitsFor (released t rs) a b → WaitsFor rs a b
released_adds_none rs t a b orderly h = given_adds_none (requests_by t rs) rs (fit_of rs orderly) a b h

-- ---- cycles that stay

-- a grant pass leaves each cycle: who is granted waits for nobody, and so is on none
pass_leaves_cycle : (g : Granule) (rs : List Request) (cycle : List ℕ) → Fit rs → IsCycle rs cycle → IsCycle (passed g rs) cycle
pass_leaves_cycle g rs cycle fit closed =
    pass_goes (λ xs. IsCycle xs cycle) g
    (λ xs w ws next so_far.
    cycle_apart w.txn xs (replaced (granted w) xs) (sym (others-replaced w.txn (granted w) xs refl)) cycle
    (λ member. let on = member_waits xs cycle w.txn so_far member in next_waits_not g xs w ws next on.0 on.1) so_far)
    (waiters_at g rs) rs fit refl closed

taken_leaves_cycle : (t : ℕ) (rs : List Request) (cycle : List ℕ) → Fit rs → (o : Option Request) → waiting_request t rs ≡ o → (In t cycle → ⊥) → IsCycle rs cycle → IsCycle (taken_back_if o rs) cycle
taken_leaves_cycle t rs cycle fit None is out closed = closed
taken_leaves_cycle t rs cycle fit (Some r) is out closed =
    let waits = waits_as t rs r is in
    let same : of_others t rs ≡ of_others t (stopped r rs) =
    either_way (λ xs. of_others t rs ≡ of_others t xs) (is_some r.held) (replaced (withdrawn r) rs) (removed r rs)
    (λ holds. sym (others-replaced t (withdrawn r) rs waits.by)) (sym (others-removed t r rs waits.by)) in
    pass_leaves_cycle r.granule (stopped r rs) cycle (Fit-stopped r rs fit waits.there) (cycle_apart t rs (stopped r rs) same cycle out closed)

-- a cycle that does not pass the one who waits no more stays
pub cancelled_leaves_cycle : (rs : List Request) (t : ℕ) (cycle : List ℕ) → IsOrderly rs → (In t cycle → ⊥) → IsCycle rs cycle → IsCycle (cancelled t rs) cycle
cancelled_leaves_cycle rs t cycle orderly out closed = taken_leaves_cycle t rs cycle (fit_of rs orderly) (waiting_request t rs) refl out closed

-- ---- who waits

-- no request of the transaction wants anything
abbrev IsIdle : ℕ → List Request → Type 0
IsIdle u rs = (q : Request) → In q rs → q.txn ≡ u → is_some q.wanted ≡ true → ⊥

idle_passed : (u : ℕ) (g : Granule) (rs : List Request) → AreRequests rs → IsIdle u rs → IsIdle u (passed g rs)
idle_passed u g rs one idle q h by wants =
    ⊎_elim (λ stood. idle q stood by wants) (λ was. wants_nothing q.wanted (ap (λ (x : Request). x.wanted) was.2) wants) (grant_pass_only_grants g rs one q h)

idle_filtered : (u : ℕ) (p : Request → Bool) (rs : List Request) → IsIdle u rs → IsIdle u (filter p rs)
idle_filtered u p rs idle q h = idle q (In-filter p rs q h).0

idle_stopped : (u : ℕ) (r : Request) (rs : List Request) → IsIdle u rs → IsIdle u (stopped r rs)
idle_stopped u r rs idle =
    either_way (IsIdle u) (is_some r.held) (replaced (withdrawn r) rs) (removed r rs)
    (λ holds q h by wants. ⊎_elim (λ same. wants_nothing q.wanted (ap (λ (x : Request). x.wanted) same) wants) (λ stood. idle q stood.0 by wants) (In-replaced (withdrawn r) rs q h))
    (idle_filtered u (λ q. not (are_alike q r)) rs idle)

idle_taken : (u : ℕ) (rs : List Request) (o : Option Request) → AreRequests rs → IsIdle u rs → IsIdle u (taken_back_if o rs)
idle_taken u rs None one idle = idle
idle_taken u rs (Some r) one idle = idle_passed u r.granule (stopped r rs) (AreRequests-stopped r rs one) (idle_stopped u r rs idle)

idle_given_up : (u : ℕ) (mine rs : List Request) → AreRequests rs → IsIdle u rs → IsIdle u (given_up mine rs)
idle_given_up u [] rs one idle = idle
idle_given_up u (r ∷ mine) rs one idle =
    let left = AreRequests-removed r rs one in
    idle_given_up u mine (passed r.granule (removed r rs)) (AreRequests-passed r.granule (removed r rs) left)
    (idle_passed u r.granule (removed r rs) left (idle_filtered u (λ q. not (are_alike q r)) rs idle))

-- a cancel and a release make nobody wait
pub cancelled_keeps_quiet : (rs : List Request) (t u : ℕ) → AreRequests rs → is_waiting u rs ≡ false → is_waiting u (cancelled t rs) ≡ false
cancelled_keeps_quiet rs t u one quiet = nobody_wants u (cancelled t rs) (idle_taken u rs (waiting_request t rs) one (none_waits u rs quiet))

pub released_keeps_quiet : (rs : List Request) (t u : ℕ) → AreRequests rs → is_waiting u rs ≡ false → is_waiting u (released t rs) ≡ false
released_keeps_quiet rs t u one quiet = nobody_wants u (released t rs) (idle_given_up u (requests_by t rs) rs one (none_waits u rs quiet))
