-- The request with which a transaction waits stays the same while victims' requests are taken back.
use Rattle.std.proofs.Common.{◌≡◌, ⊎_elim, ℕ, List, [], ◌∷◌, Bool, true, false, cond, Option, None, Some, refl, ap, sym, subst, ◌∙◌}
use Rattle.std.specs.Prelude.{Err, IsSome, Ok, is_some, not, reverse}
use Rattle.shore_types.specs.Locking.{level_of}
use Rattle.shore_types.specs.declared.faults.Fault.TheVariants.{BadMode}
use Rattle.shore_types.specs.declared.locking.Granule.{Granule}
use Rattle.shore_types.specs.declared.locking.Mode.{Mode}
use Rattle.shore_model.specs.Modes.{is_allowed}
use Rattle.shore_model.specs.declared.requests.Request.{Request}
use Rattle.shore_model.specs.Requests.{AreRequests, are_alike}
use Rattle.shore_locks.specs.Grants.{cancelled, removed, replaced, taken_back_if, withdrawn}
use Rattle.shore_locks.specs.Orderly.{IsOrderly}
use Rattle.shore_locks.specs.Tables.{Table, is_waiting, waiting_request}
use Rattle.shore_locks.proofs.Counts.{AreRequests-stopped}
use Rattle.shore_locks.proofs.Fits.{In-replaced, wants_nothing}
use Rattle.shore_locks.proofs.Members.{In, In-Contains, In-filter}
use Rattle.shore_locks.proofs.Outcomes.{grant_pass_only_grants}
use Rattle.shore_locks.proofs.Tables.{orderly_cancelled}
use Rattle.shore_model.specs.Locks.{path}
use Rattle.shore_path.specs.Walks.{Outcome, acquired, walk}
use Rattle.shore_path.specs.declared.answers.Acquired.TheVariants as acquire
use Rattle.shore_path.specs.declared.answers.OnConflict.TheVariants as conflict
use Rattle.shore_path.proofs.Acquiring.{told_waiting}
use Rattle.shore_cycles.specs.declared.victims.Victim.{Victim}
use Rattle.shore_cycles.specs.Cycles.{after_victims}
use Rattle.shore_deadlock.specs.Locking.{Acquires}
use Rattle.shore_cycles.proofs.Steps.{waits_as}

-- who waits once another's request is taken back waited before, with the same
stopped_back : (r : Request) (rs : List Request) (b : Bool) (q : Request) → is_some q.wanted ≡ true → In q (cond b (replaced (withdrawn r) rs) (removed r rs)) → In q rs
stopped_back r rs true q wants m = ⊎_elim (λ same. absurd (wants_nothing q.wanted (ap (λ (x : Request). x.wanted) same) wants)) (λ stood. stood.0) (In-replaced (withdrawn r) rs q m)
stopped_back r rs false q wants m = (In-filter (λ x. not (are_alike x r)) rs q m).0

taken_back : (rs : List Request) (o : Option Request) → AreRequests rs → (q : Request) → is_some q.wanted ≡ true → In q (taken_back_if o rs) → In q rs
taken_back rs None one q wants m = m
taken_back rs (Some r) one q wants m = ⊎_elim
    (λ stood. stopped_back r rs (is_some r.held) q wants stood)
    (λ was. absurd (wants_nothing q.wanted (ap (λ (x : Request). x.wanted) was.2) wants))
    (grant_pass_only_grants r.granule (cond (is_some r.held) (replaced (withdrawn r) rs) (removed r rs)) (AreRequests-stopped r rs one) q m)

waited_before : (vs : List Victim) (rs : List Request) → IsOrderly rs → (q : Request) → is_some q.wanted ≡ true → In q (after_victims vs rs) → In q rs
waited_before [] rs orderly q wants m = m
waited_before (v ∷ vs) rs orderly q wants m =
    taken_back rs (waiting_request v.txn rs) orderly.one_each q wants (waited_before vs (cancelled v.txn rs) (orderly_cancelled v.txn rs orderly) q wants m)

-- the request with which an acquire waits
abbrev outcome_by : Table → ℕ → Granule → Mode → Bool → Outcome
outcome_by table t target mode b = cond b (walk conflict.Wait t target mode table.limit (reverse (path target)) table.requests) (record { answer = Err BadMode; requests = table.requests })

waits_at : (table : Table) (t : ℕ) (target : Granule) (mode : Mode) → IsOrderly table.requests → is_waiting t table.requests ≡ false → (g : Granule)
    → (acquired conflict.Wait table t target mode).answer ≡ Ok (acquire.Waiting g) → (r : Request) × (waiting_request t (acquired conflict.Wait table t target mode).requests ≡ Some r) × (r.granule ≡ g)
waits_at table t target mode orderly quiet g = by (is_allowed (level_of target) mode)
  where
    by : (b : Bool) → (outcome_by table t target mode b).answer ≡ Ok (acquire.Waiting g) → (r : Request) × (waiting_request t (outcome_by table t target mode b).requests ≡ Some r) × (r.granule ≡ g)
    by true is =
        let out = outcome_by table t target mode true in
        let told = told_waiting conflict.Wait t target mode table (record { limit = table.limit; requests = out.requests }) out.answer orderly quiet (refl, refl) g is in
        (told.2.request, told.2.waits, told.2.at)
    by false is = cc

some_wanted : (r : Request) → is_some r.wanted ≡ true → IsSome r.wanted
some_wanted r wants = wants

-- who still waits behind victims waits where the acquire said
pub still_at : (table : Table) (t : ℕ) (target : Granule) (mode : Mode) → IsOrderly table.requests → is_waiting t table.requests ≡ false → (g : Granule) (waiting : List Request)
    → Acquires table t target mode (Ok (acquire.Waiting g)) waiting → IsOrderly waiting → (vs : List Victim) (r : Request) → waiting_request t (after_victims vs waiting) ≡ Some r → g ≡ r.granule
still_at table t target mode orderly quiet g waiting acquires then vs r is =
    let at = waits_at table t target mode orderly quiet g (ap (λ (o : Outcome). o.answer) acquires) in
    let first = subst (λ rs. waiting_request t rs ≡ Some at.0) (ap (λ (o : Outcome). o.requests) acquires) at.1 in
    let was = waits_as t waiting at.0 first in
    let now = waits_as t (after_victims vs waiting) r is in
    let there = waited_before vs waiting then r now.wants now.there in
    let same : at.0 ≡ r = then.waits_once at.0 r (In-Contains waiting at.0 was.there) (In-Contains waiting r there) (was.by ∙ sym now.by) (some_wanted at.0 was.wants) (some_wanted r now.wants) in
    sym at.2 ∙ ap (λ (x : Request). x.granule) same
