-- Victims in turn: why they are right, why they end, and what they leave.
use Rattle.std.proofs.Common.{◌≡◌, ◌<◌, ◌≤◌, ◌++◌, inl, inr, ⊎_elim, ℕ, List, [], ◌∷◌, true, false, Some, refl, ap, sym, subst, ◌∙◌, length, take, drop}
use Rattle.std.specs.Prelude.{filter, not, ◌==◌, All, slice_get}
use Rattle.std.proofs.Math.ListN.{drop_of_length-le}
use Rattle.std.proofs.lemmas.Bool.Decides.{Decides-eqb}
use Rattle.std.proofs.lemmas.List.{take-append-drop}
use Rattle.shore_model.specs.declared.requests.Request.{Request}
use Rattle.shore_model.specs.Requests.{HasNoCycle, IsCycle, WaitsFor}
use Rattle.shore_locks.specs.Orderly.{IsOrderly}
use Rattle.shore_locks.specs.Grants.{cancelled}
use Rattle.shore_locks.proofs.Members.{In, All-In, Contains-In, In-All, In-Contains, In-left, In-right, either}
use Rattle.shore_locks.proofs.Fits.{any_of, found_any}
use Rattle.shore_locks.proofs.Outcomes.{quiet_after_cancel}
use Rattle.shore_locks.proofs.Tables.{orderly_cancelled}
use Rattle.shore_locks.specs.Tables.{is_waiting}
use Rattle.shore_cycles.specs.declared.victims.Victim.{Victim}
use Rattle.shore_cycles.specs.Blockers.{AreNoVictims, is_victim}
use Rattle.shore_cycles.specs.Cycles.{AreVictims, ComeOnce, IsOnEachCycle, IsOnNoCycle, IsOnNoCycleWithout, IsSimpleCycleFrom, IsVictim, after_victims}
use Rattle.shore_cycles.proofs.Edges.{edge_of, clash}
use Rattle.shore_cycles.proofs.Fewer.{fewer}
use Rattle.shore_cycles.proofs.Steps.{cancelled_adds_none, cancelled_keeps_quiet, cancelled_leaves_cycle, quiet_waits_not}
use Rattle.shore_cycles.proofs.Walks.{In_turned, cycle_as, cycle_turned, member_waits, once_turned}

-- ---- after victims

pub after_adds_none : (vs : List Victim) (rs : List Request) → IsOrderly rs → (a b : ℕ) → WaitsFor (after_victims vs rs) a b → WaitsFor rs a b
after_adds_none [] rs orderly a b h = h
after_adds_none (v ∷ vs) rs orderly a b h =
    cancelled_adds_none rs v.txn a b orderly (after_adds_none vs (cancelled v.txn rs) (orderly_cancelled v.txn rs orderly) a b h)

pub still_quiet : (vs : List Victim) (rs : List Request) (u : ℕ) → IsOrderly rs → is_waiting u rs ≡ false → is_waiting u (after_victims vs rs) ≡ false
still_quiet [] rs u orderly quiet = quiet
still_quiet (v ∷ vs) rs u orderly quiet = still_quiet vs (cancelled v.txn rs) u (orderly_cancelled v.txn rs orderly) (cancelled_keeps_quiet rs v.txn u orderly.one_each quiet)

-- a victim waits no more
pub victim_quiet : (vs : List Victim) (rs : List Request) (v : Victim) → IsOrderly rs → In v vs → is_waiting v.txn (after_victims vs rs) ≡ false
victim_quiet [] rs v orderly there = absurd there
victim_quiet (x ∷ vs) rs v orderly there =
    let then = orderly_cancelled x.txn rs orderly in
    ⊎_elim
    (λ same. subst (λ (y : Victim). is_waiting y.txn (after_victims (x ∷ vs) rs) ≡ false) same (still_quiet vs (cancelled x.txn rs) x.txn then (quiet_after_cancel x.txn rs orderly)))
    (λ later. victim_quiet vs (cancelled x.txn rs) v then later)
    there

pub victims_quiet : (vs : List Victim) (rs : List Request) → IsOrderly rs → All (λ v. is_waiting v.txn (after_victims vs rs) ≡ false) vs
victims_quiet vs rs orderly = All-In (λ v. is_waiting v.txn (after_victims vs rs) ≡ false) vs (λ v there. victim_quiet vs rs v orderly there)

victim_waits_not : (vs : List Victim) (rs : List Request) (v : Victim) → IsOrderly rs → In v vs → (u : ℕ) → WaitsFor (after_victims vs rs) v.txn u → ⊥
victim_waits_not vs rs v orderly there u h = quiet_waits_not v.txn (after_victims vs rs) (victim_quiet vs rs v orderly there) u h

pub first_victim : (v : Victim) (vs : List Victim) (u : ℕ) → v.txn ≡ u → is_victim (v ∷ vs) u ≡ true
first_victim v vs u same = any_of (λ x. x.txn == u) (v ∷ vs) v (inl refl) ((Decides-eqb v.txn u).1 same)

pub later_spared : (v : Victim) (vs : List Victim) (u : ℕ) → is_victim (v ∷ vs) u ≡ false → is_victim vs u ≡ false
later_spared v vs u spared =
    ⊎_elim
    (λ one. absurd (
    let f = found_any (λ (x : Victim). x.txn == u) vs one in
    let all = any_of (λ (x : Victim). x.txn == u) (v ∷ vs) f.0 (inr f.1) f.2 in
    clash all spared))
    (λ none. none) (either (is_victim vs u))

-- a cycle without victims stays after them
pub cycle_after : (vs : List Victim) (rs : List Request) (cycle : List ℕ) → IsOrderly rs → AreNoVictims vs cycle → IsCycle rs cycle → IsCycle (after_victims vs rs) cycle
cycle_after [] rs cycle orderly spared closed = closed
cycle_after (v ∷ vs) rs cycle orderly spared closed =
    let each : (u : ℕ) → In u cycle → is_victim (v ∷ vs) u ≡ false = λ u h. In-All (λ u. is_victim (v ∷ vs) u ≡ false) cycle u spared h in
    cycle_after vs (cancelled v.txn rs) cycle (orderly_cancelled v.txn rs orderly) (All-In (λ u. is_victim vs u ≡ false) cycle (λ u h. later_spared v vs u (each u h)))
    (cancelled_leaves_cycle rs v.txn cycle orderly
    (λ member. let one = first_victim v vs v.txn refl in let none = each v.txn member in clash one none) closed)

-- ---- one victim more

pub victims_more : (rs : List Request) (t : ℕ) (vs : List Victim) (v : Victim) → AreVictims rs t vs → IsVictim (after_victims vs rs) t v → AreVictims rs t (vs ++ v ∷ [])
victims_more rs t [] v are is = (is, tt)
victims_more rs t (x ∷ vs) v are is = (are.0, victims_more (cancelled x.txn rs) t vs v are.1 is)

-- a victim that was made of a cycle: the cycle is told from it on
pub record IsMadeOf (cycle : List ℕ) (v : Victim) : Type 0 where
  pub turned : (n : ℕ) × (n < length cycle) × (v.cycle ≡ drop n cycle ++ take n cycle)
  pub first : slice_get v.cycle 0 ≡ Some v.txn
  pub greatest : All (λ t. t ≤ v.txn) v.cycle

pub first_In : (ts : List ℕ) (t : ℕ) → slice_get ts 0 ≡ Some t → In t ts
first_In [] t is = cc
first_In (u ∷ us) t is = let same : u ≡ t = cc in inl same

pub is_victim_of : (rs : List Request) (t : ℕ) (vs : List Victim) (cycle : List ℕ) (v : Victim) → IsOrderly rs → IsSimpleCycleFrom rs t cycle → AreNoVictims vs cycle → IsMadeOf cycle v
    → IsVictim (after_victims vs rs) t v
is_victim_of rs t vs cycle v orderly simple spared made =
    let n = made.turned.0 in
    let whole : take n cycle ++ drop n cycle ≡ cycle = take-append-drop n cycle in
    let stands = cycle_after vs rs cycle orderly spared simple.closed in
    record {
      stands = record {
        closed = subst (IsCycle (after_victims vs rs)) (sym made.turned.2) (cycle_turned (after_victims vs rs) (take n cycle) (drop n cycle) (subst (IsCycle (after_victims vs rs)) (sym whole) stands));
        first = made.first;
        once = subst ComeOnce (sym made.turned.2) (once_turned (take n cycle) (drop n cycle) (subst ComeOnce (sym whole) simple.once));
      };
      passes = In-Contains v.cycle t (subst (In t) (sym made.turned.2) (In_turned (take n cycle) (drop n cycle) t (subst (In t) (sym whole) (first_In cycle t simple.first))));
      greatest = made.greatest;
    }

-- requests of transactions that are no victims
abbrev pub unharmed : List Victim → List Request → ℕ
unharmed vs rs = length (filter (λ (r : Request). not (is_victim vs r.txn)) rs)

spared_before : (vs : List Victim) (v : Victim) (u : ℕ) → not (is_victim (vs ++ v ∷ []) u) ≡ true → not (is_victim vs u) ≡ true
spared_before vs v u h =
    ⊎_elim
    (λ one. absurd (
    let f = found_any (λ (x : Victim). x.txn == u) vs one in
    let all = any_of (λ (x : Victim). x.txn == u) (vs ++ v ∷ []) f.0 (In-left vs (v ∷ []) f.0 f.1) f.2 in
    let gone : not (is_victim (vs ++ v ∷ []) u) ≡ false = ap not all in clash h gone))
    (λ none. ap not none) (either (is_victim vs u))

-- each victim makes them fewer
pub fewer_unharmed : (rs : List Request) (t : ℕ) (vs : List Victim) (cycle : List ℕ) (v : Victim) → IsSimpleCycleFrom rs t cycle → AreNoVictims vs cycle → IsMadeOf cycle v
    → unharmed (vs ++ v ∷ []) rs < unharmed vs rs
fewer_unharmed rs t vs cycle v simple spared made =
    let n = made.turned.0 in
    let member : In v.txn cycle =
    subst (In v.txn) (take-append-drop n cycle) (In_turned (drop n cycle) (take n cycle) v.txn (subst (In v.txn) made.turned.2 (first_In v.cycle v.txn made.first))) in
    let next = member_waits rs cycle v.txn simple.closed member in
    let e = edge_of rs v.txn next.0 next.1 in
    let before : is_victim vs e.waiter.txn ≡ false = subst (λ u. is_victim vs u ≡ false) (sym e.by) (In-All (λ u. is_victim vs u ≡ false) cycle v.txn spared member) in
    let after : is_victim (vs ++ v ∷ []) e.waiter.txn ≡ true =
    any_of (λ (x : Victim). x.txn == e.waiter.txn) (vs ++ v ∷ []) v (In-right vs (v ∷ []) v (inl refl)) ((Decides-eqb v.txn e.waiter.txn).1 (sym e.by)) in
    fewer (λ (r : Request). not (is_victim vs r.txn)) (λ (r : Request). not (is_victim (vs ++ v ∷ []) r.txn)) (λ r. spared_before vs v r.txn) rs e.waiter e.waiter_in (ap not before) (ap not after)

-- ---- what is left

-- once each victim of a list waits no more
pub all_gone : (vs items : List Victim) (n : ℕ) (now rs : List Request) → items ≡ vs → length items ≤ n → after_victims (drop n items) now ≡ after_victims items rs → now ≡ after_victims vs rs
all_gone vs items n now rs same past so_far = ap (λ xs. after_victims xs now) (sym (drop_of_length-le items past)) ∙ so_far ∙ ap (λ xs. after_victims xs rs) same

pub none_left : (rs : List Request) (t : ℕ) (vs : List Victim) → IsOrderly rs → IsOnNoCycleWithout vs rs t → IsOnNoCycle (after_victims vs rs) t
none_left rs t vs orderly all cycle closed passes =
    all cycle (cycle_as (after_victims vs rs) rs cycle (λ a b in_a in_b h. after_adds_none vs rs orderly a b h) closed) passes
    (All-In (λ u. is_victim vs u ≡ false) cycle (λ u member.
    ⊎_elim
    (λ one. absurd (
    let f = found_any (λ (x : Victim). x.txn == u) vs one in
    let next = member_waits (after_victims vs rs) cycle u closed member in
    victim_waits_not vs rs f.0 orderly f.1 next.0 (subst (λ x. WaitsFor (after_victims vs rs) x next.0) (sym ((Decides-eqb f.0.txn u).0 f.2)) next.1)))
    (λ none. none) (either (is_victim vs u))))

pub free_after : (rs : List Request) (t : ℕ) (vs : List Victim) → IsOrderly rs → IsOnNoCycleWithout vs rs t → IsOnEachCycle rs t → HasNoCycle (after_victims vs rs)
free_after rs t vs orderly all each cycle closed =
    none_left rs t vs orderly all cycle closed
    (each cycle (cycle_as (after_victims vs rs) rs cycle (λ a b in_a in_b h. after_adds_none vs rs orderly a b h) closed))

-- a victim that is the transaction itself ends all cycles that pass it
pub none_past : (rs : List Request) (t : ℕ) (vs : List Victim) (v : Victim) → v.txn ≡ t → IsOnNoCycleWithout (vs ++ v ∷ []) rs t
none_past rs t vs v same cycle closed passes spared =
    let one : is_victim (vs ++ v ∷ []) t ≡ true = any_of (λ (x : Victim). x.txn == t) (vs ++ v ∷ []) v (In-right vs (v ∷ []) v (inl refl)) ((Decides-eqb v.txn t).1 same) in
    let none : is_victim (vs ++ v ∷ []) t ≡ false = In-All (λ u. is_victim (vs ++ v ∷ []) u ≡ false) cycle t spared (Contains-In cycle t passes) in
    clash one none

-- what a search found, and the victim that was made of it
pub record IsChosen (rs : List Request) (t : ℕ) (vs : List Victim) (cycle : List ℕ) (v : Victim) : Type 0 where
  pub simple : IsSimpleCycleFrom rs t cycle
  pub spared : AreNoVictims vs cycle
  pub made : IsMadeOf cycle v

pub chosen_more : (rs : List Request) (t : ℕ) (vs : List Victim) (cycle : List ℕ) (v : Victim) → IsOrderly rs → AreVictims rs t vs → IsChosen rs t vs cycle v → AreVictims rs t (vs ++ v ∷ [])
chosen_more rs t vs cycle v orderly are chosen = victims_more rs t vs v are (is_victim_of rs t vs cycle v orderly chosen.simple chosen.spared chosen.made)
