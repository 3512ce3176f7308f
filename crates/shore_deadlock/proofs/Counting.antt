-- How many requests of others wait: an acquire makes them no more, and a victim makes them fewer.
use Rattle.std.proofs.Common.{◌≡◌, ◌<◌, ◌≤◌, ◌+◌, ◌++◌, ⊎_elim, ℕ, List, [], ◌∷◌, Bool, true, false, Option, None, Some, refl, ap, sym, subst, ◌∙◌, length, reverse, arith}
use Rattle.std.specs.Prelude.{◌==◌, ◌&&◌, cond, filter, not, is_some, Err}
use Rattle.std.specs.List.{list_any}
use Rattle.std.proofs.lemmas.Bool.Decides.{Decides-eqb}
use Rattle.std.proofs.lemmas.List.{append-nil}
use Rattle.std.proofs.lemmas.List.Elements.{filter-append}
use Rattle.shore_types.specs.declared.faults.Fault.TheVariants as fault
use Rattle.shore_types.specs.declared.locking.Granule.{Granule}
use Rattle.shore_types.specs.declared.locking.Mode.{Mode}
use Rattle.shore_types.specs.Locking.{level_of}
use Rattle.shore_model.specs.declared.requests.Request.{Request}
use Rattle.shore_model.specs.Locks.{path}
use Rattle.shore_model.specs.Modes.{is_allowed}
use Rattle.shore_model.specs.Requests.{are_alike, placed_last}
use Rattle.shore_locks.specs.Grants.{asking, cancelled, granted, passed, put, removed, replaced, taken_back_if, withdrawn}
use Rattle.shore_locks.specs.Orderly.{IsOrderly}
use Rattle.shore_locks.specs.Tables.{Table, is_waiting, waiters_at, waiting_request}
use Rattle.shore_locks.proofs.Members.{In, either, filter-In, filter-all, filter-no, filter-swap}
use Rattle.shore_locks.proofs.Keys.{alike-self}
use Rattle.shore_locks.proofs.Passes.{filter_refused}
use Rattle.shore_locks.proofs.Fits.{Fit, Fit-filter, Fit-withdrawn}
use Rattle.shore_locks.proofs.Entering.{Fit-put, none_waits}
use Rattle.shore_locks.proofs.Others.{put_in_place, put_last}
use Rattle.shore_locks.proofs.Tables.{fit_of, orderly_cancelled}
use Rattle.shore_path.specs.declared.answers.OnConflict.{OnConflict}
use Rattle.shore_path.specs.Walks.{acquired, asked_of}
use Rattle.shore_path.proofs.Growing.{Fit-grant, quiet_grant}
use Rattle.shore_path.proofs.Walking.{EachCase, of_walk, walk_on}
use Rattle.shore_cycles.specs.declared.victims.Victim.{Victim}
use Rattle.shore_cycles.specs.Blockers.{is_victim}
use Rattle.shore_cycles.specs.Cycles.{AreVictims, IsVictim, after_victims}
use Rattle.shore_deadlock.specs.Locking.{others_waiting}
use Rattle.shore_deadlock.proofs.AcquireLemmas.{allowed_case}
use Rattle.shore_cycles.proofs.Changes.{pass_goes, waiter_wants}
use Rattle.shore_cycles.proofs.Edges.{clash, edge_of}
use Rattle.shore_cycles.proofs.Fewer.{as_many, fewer}
use Rattle.shore_cycles.proofs.Steps.{waits_as}
use Rattle.shore_cycles.proofs.VictimLemmas.{first_In, first_victim, later_spared}
use Rattle.shore_cycles.proofs.Walks.{member_waits}

-- ---- one request less

module _ {A : Type 0} (q : A → Bool) where
  all_of : (ys : List A) → filter (λ x. true) ys ≡ ys
  all_of ys = filter-all (λ x. true) ys (λ x h. refl)

  no_more : (ys : List A) → length (filter q ys) ≤ length ys
  no_more ys = let most = as_many (λ x. true) q (λ x h. refl) ys in let same = ap length (all_of ys) in omega arith

  one_less : (ys : List A) (y : A) → In y ys → q y ≡ false → length (filter q ys) < length ys
  one_less ys y there fails = let most = fewer (λ x. true) q (λ x h. refl) ys y there refl fails in let same = ap length (all_of ys) in omega arith

never_both : (b : Bool) → (b && false) ≡ false
never_both true = refl
never_both false = refl

-- a request of another that waits
abbrev counts : ℕ → Request → Bool
counts t r = not (r.txn == t) && is_some r.wanted

own_counts_not : (t : ℕ) (r : Request) → r.txn ≡ t → counts t r ≡ false
own_counts_not t r its = let own = (Decides-eqb r.txn t).1 its in rw own refl

idle_counts_not : (t : ℕ) (r : Request) → r.wanted ≡ None → counts t r ≡ false
idle_counts_not t r idle = ap (λ o. not (r.txn == t) && is_some o) idle ∙ never_both (not (r.txn == t))

-- ---- changes that make them no more

count_removed : (t : ℕ) (r : Request) (rs : List Request) → others_waiting t (removed r rs) ≤ others_waiting t rs
count_removed t r rs =
    let swap = ap length (filter-swap (counts t) (λ q. not (are_alike q r)) rs) in let less = no_more (λ q. not (are_alike q r)) (filter (counts t) rs) in omega arith

count_replaced : (t : ℕ) (r : Request) (rs : List Request) → counts t r ≡ false → others_waiting t (replaced r rs) ≤ others_waiting t rs
count_replaced t r rs out =
    let is = ap length (filter_refused (counts t) r out rs) in let less = no_more (λ q. not (are_alike q r)) (filter (counts t) rs) in omega arith

count_last : (t : ℕ) (r : Request) (rs : List Request) → counts t r ≡ false → others_waiting t (rs ++ r ∷ []) ≡ others_waiting t rs
count_last t r rs out = ap length (filter-append (counts t) rs (r ∷ []) ∙ ap (λ xs. filter (counts t) rs ++ xs) (filter-no (counts t) r [] out) ∙ append-nil (filter (counts t) rs))

count_placed : (t : ℕ) (r : Request) (rs : List Request) → counts t r ≡ false → others_waiting t (placed_last r rs) ≤ others_waiting t rs
count_placed t r rs out = let last = count_last t r (removed r rs) out in let less = count_removed t r rs in omega arith

count_put : (t : ℕ) (r : Request) (rs : List Request) → counts t r ≡ false → others_waiting t (put r rs) ≤ others_waiting t rs
count_put t r rs out =
    ⊎_elim
    (λ known. subst (λ xs. others_waiting t xs ≤ others_waiting t rs) (sym (put_in_place r rs known)) (count_replaced t r rs out))
    (λ none. subst (λ xs. others_waiting t xs ≤ others_waiting t rs) (sym (put_last r rs none)) (let last = count_last t r rs out in omega arith))
    (either (list_any (λ q. are_alike q r) rs))

count_passed : (t : ℕ) (g : Granule) (rs : List Request) → Fit rs → others_waiting t (passed g rs) ≤ others_waiting t rs
count_passed t g rs fit =
    pass_goes (λ xs. others_waiting t xs ≤ others_waiting t rs) g
    (λ xs w ws next so_far. let less = count_replaced t (granted w) xs (idle_counts_not t (granted w) refl) in omega arith)
    (waiters_at g rs) rs fit refl (omega arith)

module _ (c : OnConflict) (t : ℕ) (target : Granule) (mode : Mode) (limit : ℕ) where
  count_case : EachCase c t target mode limit (λ way rs out. Fit rs → is_waiting t rs ≡ false → others_waiting t out.requests ≤ others_waiting t rs)
  count_case = record {
    over = λ rs fit quiet. omega arith;
    spared = λ g below rs is fit quiet. omega arith;
    full = λ g below rs is fit quiet. omega arith;
    waits = λ g below rs o is stopped fit quiet. count_placed t (asking t g (asked_of target mode g) rs) rs (own_counts_not t (asking t g (asked_of target mode g) rs) refl);
    blocked = λ g below rs o is stopped fit quiet. omega arith;
    holds = λ g below rs enough rest fit quiet. rest fit quiet;
    grants = λ g below rs less room free rest fit quiet.
        let asked = asking t g (asked_of target mode g) rs in
        let more = rest (Fit-grant t g (asked_of target mode g) rs fit free) (quiet_grant limit t g (asked_of target mode g) rs fit.one quiet less room free) in
        let pass = count_passed t g (put (granted asked) rs) (Fit-put t g (asked_of target mode g) rs fit free) in
        let first = count_put t (granted asked) rs (idle_counts_not t (granted asked) refl) in
        omega (arith, more, pass, first);
  }

pub count_acquired : (c : OnConflict) (table : Table) (t : ℕ) (target : Granule) (mode : Mode) → Fit table.requests → is_waiting t table.requests ≡ false
    → others_waiting t (acquired c table t target mode).requests ≤ others_waiting t table.requests
count_acquired c table t target mode fit quiet =
    allowed_case (λ out. others_waiting t out.requests ≤ others_waiting t table.requests) (is_allowed (level_of target) mode)
    (walk_on c t target mode table.limit (reverse (path target)) table.requests) (record { answer = Err fault.BadMode; requests = table.requests })
    (of_walk c t target mode table.limit (λ way rs out. Fit rs → is_waiting t rs ≡ false → others_waiting t out.requests ≤ others_waiting t rs) (count_case c t target mode table.limit)
    (reverse (path target)) table.requests fit quiet)
    (omega arith)

-- ---- victims make them fewer

count_stopped : (t : ℕ) (r : Request) (rs : List Request) (b : Bool) → is_some r.held ≡ b → Fit rs → In r rs → counts t r ≡ true → others_waiting t (passed r.granule (cond b (replaced (withdrawn r) rs) (removed r rs))) < others_waiting t rs
count_stopped t r rs true is fit there it =
    let pass = count_passed t r.granule (replaced (withdrawn r) rs) (Fit-withdrawn rs r fit there is) in
    let swap = ap length (filter_refused (counts t) (withdrawn r) (idle_counts_not t (withdrawn r) refl) rs) in
    let less = one_less (λ q. not (are_alike q (withdrawn r))) (filter (counts t) rs) r (filter-In (counts t) rs r there it) (ap not (alike-self r)) in
    omega (arith, pass, swap, less)
count_stopped t r rs false is fit there it =
    let pass = count_passed t r.granule (removed r rs) (Fit-filter (λ q. not (are_alike q r)) rs fit) in
    let swap = ap length (filter-swap (counts t) (λ q. not (are_alike q r)) rs) in
    let less = one_less (λ q. not (are_alike q r)) (filter (counts t) rs) r (filter-In (counts t) rs r there it) (ap not (alike-self r)) in
    omega (arith, pass, swap, less)

count_taken : (t v : ℕ) (rs : List Request) (o : Option Request) → waiting_request v rs ≡ o → is_some o ≡ true → (v ≡ t → ⊥) → Fit rs → others_waiting t (taken_back_if o rs) < others_waiting t rs
count_taken t v rs None is some other fit = absurd (clash some refl)
count_taken t v rs (Some r) is some other fit =
    let waits = waits_as v rs r is in
    let apart : not (r.txn == t) ≡ true = ⊎_elim (λ own. absurd (other (sym waits.by ∙ (Decides-eqb r.txn t).0 own))) (λ no. ap not no) (either (r.txn == t)) in
    let wants = waits.wants in
    count_stopped t r rs (is_some r.held) refl fit waits.there (rw apart wants)

pub victim_waits : (rs : List Request) (t : ℕ) (v : Victim) → IsVictim rs t v → (u : ℕ) → In u v.cycle → is_waiting u rs ≡ true
victim_waits rs t v is u member =
    let next = member_waits rs v.cycle u is.stands.closed member in
    let e = edge_of rs u next.0 next.1 in
    ⊎_elim (λ busy. busy) (λ quiet. absurd (none_waits u rs quiet e.waiter e.waiter_in e.by (waiter_wants rs u next.0 e))) (either (is_waiting u rs))

pub count_victims : (t : ℕ) (vs : List Victim) (rs : List Request) → IsOrderly rs → AreVictims rs t vs → is_victim vs t ≡ false → others_waiting t (after_victims vs rs) + length vs ≤ others_waiting t rs
count_victims t [] rs orderly are spared = omega arith
count_victims t (v ∷ vs) rs orderly are spared =
    let other : v.txn ≡ t → ⊥ = λ same. clash (first_victim v vs t same) spared in
    let busy = victim_waits rs t v are.0 v.txn (first_In v.cycle v.txn are.0.stands.first) in
    let less : others_waiting t (cancelled v.txn rs) < others_waiting t rs = count_taken t v.txn rs (waiting_request v.txn rs) refl busy other (fit_of rs orderly) in
    let more = count_victims t vs (cancelled v.txn rs) (orderly_cancelled v.txn rs orderly) are.1 (later_spared v vs t spared) in
    omega (arith, less, more)
