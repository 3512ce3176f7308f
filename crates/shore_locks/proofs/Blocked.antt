-- Whoever waits in a table has somebody in the way: the first waiter of its queue is refused by a holder, and all others have a waiter ahead.
use Rattle.std.proofs.Common.{◌≡◌, ◌⊎◌, inl, inr, ⊎_elim, ◌++◌, ◌∷◌, ℕ, List, [], Bool, true, false, Option, None, Some, refl, sym, ap, subst, ◌∙◌}
use Rattle.std.specs.Prelude.{◌==◌, ◌&&◌, ◌||◌, IsSome, filter, is_some, not}
use Rattle.std.specs.Option.{option_map}
use Rattle.std.specs.List.{list_any}
use Rattle.std.proofs.lemmas.Bool.Decides.{Decides-eqb}
use Rattle.shore_types.specs.declared.locking.Granule.{Granule}
use Rattle.shore_types.specs.declared.locking.Mode.{Mode}
use Rattle.shore_types.specs.Locking.{same_granule}
use Rattle.shore_model.specs.declared.requests.Request.{Request}
use Rattle.shore_model.specs.declared.requests.Group.TheVariants.{Conversions, NewWaiters}
use Rattle.shore_model.specs.Requests.{WaitsFor, is_in_group, placed_last, requests_at}
use Rattle.shore_nodes.specs.Tables.{waiters_at, waiting_request}
use Rattle.shore_nodes.specs.Orderly.{IsOrderly, IsStopped}
use Rattle.shore_nodes.proofs.Members.{In, either, In-append, In-filter, In-left, In-right, filter-In}
use Rattle.shore_nodes.proofs.Keys.{same_granule-Decides}
use Rattle.shore_nodes.proofs.Fits.{Fit, found_any}
use Rattle.shore_nodes.proofs.Counts.{not_of}
use Rattle.shore_nodes.proofs.Entering.{both_true, found_in, found_none}
use Rattle.shore_locks.specs.Grants.{in_its_way, is_ahead, is_refused, is_stopped_by, obstacle, refuses}
use Rattle.shore_locks.proofs.Outcomes.{waits_for_one}
use Rattle.shore_locks.proofs.Tables.{fit_of}

stops : (same refused ahead : Bool) → same ≡ false → (refused ≡ true) ⊎ (ahead ≡ true) → (not same && (refused || ahead)) ≡ true
stops false true ahead apart h = refl
stops false false true apart h = refl
stops false false false apart h = ⊎_elim (λ e. cc) (λ e. cc) h
stops true refused ahead apart h = cc

goes_ahead : (wants holds mine : Bool) → wants ≡ true → (holds ≡ true) ⊎ (mine ≡ false) → (wants && (holds || not mine)) ≡ true
goes_ahead true true mine w h = refl
goes_ahead true false false w h = refl
goes_ahead true false true w h = ⊎_elim (λ e. cc) (λ e. cc) h
goes_ahead false holds mine w h = cc

opposite : {b : Bool} → b ≡ true → b ≡ false → ⊥
opposite is is_not = cc

none_of : (o : Option Request) → is_some o ≡ false → o ≡ None
none_of None e = refl
none_of (Some x) e = cc

-- the first of two lists is of the first list if that has one
front_of : (cs ns xs : List Request) (r x : Request) → cs ++ ns ≡ x ∷ xs → In r cs → In x cs
front_of [] ns xs r x are h = absurd h
front_of (c ∷ cs) ns xs r x are h = let same : c ≡ x = cc in inl same

module _ (rs : List Request) (orderly : IsOrderly rs) (t : ℕ) (r : Request) (is : waiting_request t rs ≡ Some r) where
  abbrev g : Granule
  g = r.granule

  abbrev queue : List Request
  queue = requests_at g rs

  abbrev conversions : List Request
  conversions = filter (is_in_group Conversions) queue

  abbrev others : List Request
  others = filter (is_in_group NewWaiters) queue

  -- it is the transaction's, and wants something
  there : In r rs
  there = (found_in (λ q. (q.txn == t) && is_some q.wanted) rs r is).0

  both : ((r.txn == t) ≡ true) × (is_some r.wanted ≡ true)
  both = both_true (r.txn == t) (is_some r.wanted) (found_in (λ q. (q.txn == t) && is_some q.wanted) rs r is).1

  by : r.txn ≡ t
  by = (Decides-eqb r.txn t).0 both.0

  in_queue : In r queue
  in_queue = filter-In (λ q. same_granule q.granule g) rs r there ((same_granule-Decides g g).1 refl)

  wants : is_some r.wanted ≡ true
  wants = both.1

  -- it stands among the waiters
  converts : is_some r.held ≡ true → In r conversions
  converts holds = filter-In (is_in_group Conversions) queue r in_queue (yes_both (is_some r.held) (is_some r.wanted) holds wants)
    where
      yes_both : (a b : Bool) → a ≡ true → b ≡ true → (a && b) ≡ true
      yes_both true true e f = refl
      yes_both true false e f = cc
      yes_both false b e f = cc

  begins : is_some r.held ≡ false → In r others
  begins none = filter-In (is_in_group NewWaiters) queue r in_queue (yes_both (is_some r.held) (is_some r.wanted) none wants)
    where
      yes_both : (a b : Bool) → a ≡ false → b ≡ true → (not a && b) ≡ true
      yes_both false true e f = refl
      yes_both false false e f = cc
      yes_both true b e f = cc

  waits_among : In r (waiters_at g rs)
  waits_among = ⊎_elim (λ holds. In-left conversions others r (converts holds)) (λ none. In-right conversions others r (begins none)) (either (is_some r.held))

  waiter : (x : Request) → In x (waiters_at g rs) → In x queue × (is_some x.wanted ≡ true)
  waiter x h = ⊎_elim
      (λ c. let f = In-filter (is_in_group Conversions) queue x c in (f.0, (both_true (is_some x.held) (is_some x.wanted) f.1).1))
      (λ n. let f = In-filter (is_in_group NewWaiters) queue x n in (f.0, (both_true (not (is_some x.held)) (is_some x.wanted) f.1).1))
      (In-append conversions others x h)

  module _ (none : obstacle r rs ≡ None) where
    clear : (x : Request) → In x queue → is_stopped_by r x ≡ false
    clear = found_none (is_stopped_by r) queue none

    -- it is the first waiter itself, whom a holder refuses
    its_own : (x : Request) → In x queue → is_some x.wanted ≡ true → x.txn ≡ t → IsStopped (x ∷ []) queue → ⊥
    its_own x among waits of stopped =
        let same : x ≡ r = Fit.once (fit_of rs orderly) x r (In-filter (λ q. same_granule q.granule g) rs x among).0 there (of ∙ sym by) waits wants in
        let stop = subst (λ y. IsStopped (y ∷ []) queue) same stopped in
        let f = found_any (refuses r) queue (not_of (list_any (refuses r) queue) stop) in
        let parts = both_true (not (f.0.txn == r.txn)) (is_refused r.wanted f.0.held) f.2 in
        opposite (stops (f.0.txn == r.txn) (is_refused r.wanted f.0.held) (is_ahead r f.0) (unnot (f.0.txn == r.txn) parts.0) (inl parts.1)) (clear f.0 f.1)
      where
        unnot : (b : Bool) → not b ≡ true → b ≡ false
        unnot true e = cc
        unnot false e = refl

    -- another is ahead of it
    anothers : (x : Request) (xs : List Request) → waiters_at g rs ≡ x ∷ xs → (x.txn == t) ≡ false → ⊥
    anothers x xs are other =
        let w = waiter x (subst (In x) (sym are) (inl refl)) in
        let apart : (x.txn == r.txn) ≡ false = ap (λ n. x.txn == n) by ∙ other in
        opposite (stops (x.txn == r.txn) (is_refused r.wanted x.held) (is_ahead r x) apart (inr (goes_ahead (is_some x.wanted) (is_some x.held) (is_some r.held) w.1 (ahead (either (is_some r.held)))))) (clear x w.0)
      where
        ahead : (is_some r.held ≡ true) ⊎ (is_some r.held ≡ false) → (is_some x.held ≡ true) ⊎ (is_some r.held ≡ false)
        ahead (inr new) = inr new
        ahead (inl holds) =
            let f = In-filter (is_in_group Conversions) queue x (front_of conversions others xs r x are (converts holds)) in
            inl (both_true (is_some x.held) (is_some x.wanted) f.1).0

    stuck : (ws : List Request) → waiters_at g rs ≡ ws → ⊥
    stuck [] are = subst (In r) are waits_among
    stuck (x ∷ xs) are = ⊎_elim
        (λ own. let w = waiter x (subst (In x) (sym are) (inl refl)) in its_own x w.0 w.1 ((Decides-eqb x.txn t).0 own) (subst (λ ws. IsStopped ws queue) are (orderly.none_left g)))
        (anothers x xs are)
        (either (x.txn == t))

  has_obstacle : is_some (obstacle r rs) ≡ true
  has_obstacle = ⊎_elim (λ yes. yes) (λ no. absurd (stuck (none_of (obstacle r rs) no) (waiters_at g rs) refl)) (either (is_some (obstacle r rs)))

  pub has_somebody : IsSome (in_its_way r rs)
  has_somebody = named (obstacle r rs) has_obstacle
    where
      named : (other : Option Request) → is_some other ≡ true → IsSome (option_map (λ o. o.txn) other)
      named None e = cc
      named (Some o) e = refl

-- Who is in the way of a request is one for whom it would wait.
pub somebody_awaited : (rs : List Request) (r : Request) (u : ℕ) → IsSome r.wanted → in_its_way r rs ≡ Some u → WaitsFor (placed_last r rs) r.txn u
somebody_awaited rs r u wants is = of_obstacle (obstacle r rs) refl is
  where
    asked : (wanted : Option Mode) → r.wanted ≡ wanted → (o : Request) → obstacle r rs ≡ Some o → WaitsFor (placed_last r rs) r.txn o.txn
    asked None e o h = let f : IsSome r.wanted = wants in cc
    asked (Some w) e o h = waits_for_one r rs w o e h

    of_obstacle : (other : Option Request) → obstacle r rs ≡ other → option_map (λ o. o.txn) other ≡ Some u → WaitsFor (placed_last r rs) r.txn u
    of_obstacle None e h = cc
    of_obstacle (Some o) e h = let same : o.txn ≡ u = cc in subst (WaitsFor (placed_last r rs) r.txn) same (asked r.wanted refl o e)
