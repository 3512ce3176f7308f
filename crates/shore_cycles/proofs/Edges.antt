-- Who waits for whom, request by request, and what other requests have to do with it.
use Rattle.std.proofs.Common.{◌≡◌, ◌++◌, ◌⊎◌, inl, inr, ⊎_elim, ℕ, List, [], ◌∷◌, Bool, true, false, refl, ap, sym, subst, ◌∙◌}
use Rattle.std.specs.Prelude.{filter, not, ◌==◌, ◌&&◌, Option, None, Some, is_some}
use Rattle.std.proofs.lemmas.Bool.Decides.{Decides-eqb}
use Rattle.std.proofs.lemmas.List.Elements.{filter-append}
use Rattle.shore_types.specs.declared.locking.Granule.{Granule}
use Rattle.shore_types.specs.declared.locking.Mode.{Mode}
use Rattle.shore_types.specs.Locking.{same_granule}
use Rattle.shore_model.specs.declared.requests.Request.{Request}
use Rattle.shore_model.specs.declared.requests.Group.{Group}
use Rattle.shore_model.specs.declared.requests.Group.TheVariants.{Holders, Conversions, NewWaiters}
use Rattle.shore_model.specs.Requests.{Before, IsBehind, IsRefusedBy, WaitsFor, WaitsIn, is_in_group, queue_at, requests_at}
use Rattle.shore_locks.specs.Laws.{of_others}
use Rattle.shore_locks.proofs.Members.{In, Contains-In, In-Contains, In-append, In-filter, In-left, In-right, either, filter-In, filter-no, filter-swap, filter-yes}
use Rattle.shore_locks.proofs.Keys.{same_granule-Decides}
use Rattle.shore_locks.proofs.Outcomes.{any_from}
use Rattle.shore_locks.proofs.Unawaited.{Before-filtered, some_of}

-- a test comes out one way
pub clash : {b : Bool} → b ≡ true → b ≡ false → ⊥
clash yes_is no_is = cc

-- ---- queues

abbrev pub group : Group → Granule → List Request → List Request
group gr g rs = filter (is_in_group gr) (requests_at g rs)

pub of_group : (gr : Group) (g : Granule) (rs : List Request) (q : Request) → In q (group gr g rs) → In q rs × (q.granule ≡ g)
of_group gr g rs q h =
    let here = In-filter (λ r. same_granule r.granule g) rs q (In-filter (is_in_group gr) (requests_at g rs) q h).0 in
    (here.0, (same_granule-Decides q.granule g).0 here.1)

pub In-queue : (g : Granule) (rs : List Request) (q : Request) → In q (queue_at g rs) → In q rs × (q.granule ≡ g)
In-queue g rs q h =
    ⊎_elim
    (λ x. ⊎_elim (of_group Holders g rs q) (of_group Conversions g rs q) (In-append (group Holders g rs) (group Conversions g rs) q x))
    (of_group NewWaiters g rs q)
    (In-append (group Holders g rs ++ group Conversions g rs) (group NewWaiters g rs) q h)

-- a request's group, by whether it holds and wants
grouped : (held wanted : Option Mode) → (not (is_some wanted) ≡ true) ⊎ (((is_some held && is_some wanted) ≡ true) ⊎ ((not (is_some held) && is_some wanted) ≡ true))
grouped held None = inl refl
grouped None (Some w) = inr (inr refl)
grouped (Some h) (Some w) = inr (inl refl)

pub queue-In : (g : Granule) (rs : List Request) (q : Request) → In q rs → q.granule ≡ g → In q (queue_at g rs)
queue-In g rs q there at =
    let here : In q (requests_at g rs) = filter-In (λ r. same_granule r.granule g) rs q there ((same_granule-Decides q.granule g).1 at) in
    ⊎_elim
    (λ a. In-left (group Holders g rs ++ group Conversions g rs) (group NewWaiters g rs) q (In-left (group Holders g rs) (group Conversions g rs) q (filter-In (is_in_group Holders) (requests_at g rs) q here a)))
    (⊎_elim
    (λ b. In-left (group Holders g rs ++ group Conversions g rs) (group NewWaiters g rs) q (In-right (group Holders g rs) (group Conversions g rs) q (filter-In (is_in_group Conversions) (requests_at g rs) q here b)))
    (λ d. In-right (group Holders g rs ++ group Conversions g rs) (group NewWaiters g rs) q (filter-In (is_in_group NewWaiters) (requests_at g rs) q here d)))
    (grouped q.held q.wanted)

-- ---- order

pub Before-filter : (p : Request → Bool) (xs : List Request) (a b : Request) → p a ≡ true → p b ≡ true → Before xs a b → Before (filter p xs) a b
Before-filter p [] a b pa pb h = h
Before-filter p (x ∷ xs) a b pa pb h =
    ⊎_elim
    (λ yes. subst (λ ys. Before ys a b) (sym (filter-yes p x xs yes))
    (⊎_elim (λ here. inl (here.0, In-Contains (filter p xs) b (filter-In p xs b (Contains-In xs b here.1) pb))) (λ later. inr (Before-filter p xs a b pa pb later)) h))
    (λ no. subst (λ ys. Before ys a b) (sym (filter-no p x xs no))
    (⊎_elim (λ here. absurd (let other : p a ≡ false = sym (ap p here.0) ∙ no in cc)) (λ later. Before-filter p xs a b pa pb later) h))
    (either (p x))

-- a queue of some of the requests
pub queue_at-filter : (p : Request → Bool) (g : Granule) (rs : List Request) → queue_at g (filter p rs) ≡ filter p (queue_at g rs)
queue_at-filter p g rs =
    let part : (gr : Group) → group gr g (filter p rs) ≡ filter p (group gr g rs) =
    λ gr. ap (filter (is_in_group gr)) (filter-swap (λ r. same_granule r.granule g) p rs) ∙ filter-swap (is_in_group gr) p (requests_at g rs) in
    (λ i. part Holders i ++ part Conversions i ++ part NewWaiters i)
    ∙ sym (filter-append p (group Holders g rs ++ group Conversions g rs) (group NewWaiters g rs) ∙ ap (λ ys. ys ++ filter p (group NewWaiters g rs)) (filter-append p (group Holders g rs) (group Conversions g rs)))

-- ---- edges

-- a transaction waits for another by these two requests
pub record Edge (rs : List Request) (t u : ℕ) : Type 0 where
  pub apart : t ≡ u → ⊥
  pub waiter : Request
  pub other : Request
  pub waiter_in : In waiter rs
  pub other_in : In other rs
  pub by : waiter.txn ≡ t
  pub upon : other.txn ≡ u
  pub beside : other.granule ≡ waiter.granule
  pub why : IsRefusedBy waiter other ⊎ IsBehind (queue_at waiter.granule rs) waiter other

pub edge_of : (rs : List Request) (t u : ℕ) → WaitsFor rs t u → Edge rs t u
edge_of rs t u h =
    let a = some_of (λ waiter. (waiter.txn ≡ t) × WaitsIn (queue_at waiter.granule rs) waiter u) rs h.1 in
    let b = some_of (λ other. (other.txn ≡ u) × (IsRefusedBy a.0 other ⊎ IsBehind (queue_at a.0.granule rs) a.0 other)) (queue_at a.0.granule rs) a.2.1 in
    let there = In-queue a.0.granule rs b.0 b.1 in
    record { apart = h.0; waiter = a.0; other = b.0; waiter_in = a.1; other_in = there.0; by = a.2.0; upon = b.2.0; beside = there.1; why = b.2.1 }

pub waits_of : (rs : List Request) (t u : ℕ) → Edge rs t u → WaitsFor rs t u
waits_of rs t u e = (
  e.apart,
  any_from (λ waiter. (waiter.txn ≡ t) × WaitsIn (queue_at waiter.granule rs) waiter u) rs e.waiter e.waiter_in (
    e.by,
    any_from (λ other. (other.txn ≡ u) × (IsRefusedBy e.waiter other ⊎ IsBehind (queue_at e.waiter.granule rs) e.waiter other)) (queue_at e.waiter.granule rs) e.other
        (queue-In e.waiter.granule rs e.other e.other_in e.beside) (e.upon, e.why),
  ),
)

-- some of the requests make no edge that all of them do not
pub waits-filtered : (p : Request → Bool) (rs : List Request) (t u : ℕ) → WaitsFor (filter p rs) t u → WaitsFor rs t u
waits-filtered p rs t u h =
    let e = edge_of (filter p rs) t u h in
    waits_of rs t u (record {
      apart = e.apart;
      waiter = e.waiter;
      other = e.other;
      by = e.by;
      upon = e.upon;
      beside = e.beside;
      waiter_in = (In-filter p rs e.waiter e.waiter_in).0;
      other_in = (In-filter p rs e.other e.other_in).0;
      why = ⊎_elim (λ refused. inl refused)
          (λ behind. inr (behind.0, behind.1, Before-filtered p (queue_at e.waiter.granule rs) e.other e.waiter (subst (λ qs. Before qs e.other e.waiter) (queue_at-filter p e.waiter.granule rs) behind.2)))
          e.why;
    })

not_of : (b : Bool) → (b ≡ true → ⊥) → not b ≡ true
not_of b never = ⊎_elim (λ yes. absurd (never yes)) (λ no. ap not no) (either b)

-- an edge of two others than a transaction is one without its requests
waits_without : (t : ℕ) (rs : List Request) (a b : ℕ) → (a ≡ t → ⊥) → (b ≡ t → ⊥) → WaitsFor rs a b → WaitsFor (of_others t rs) a b
waits_without t rs a b other_a other_b h =
    let e = edge_of rs a b h in
    let passes : (q : Request) → (q.txn ≡ t → ⊥) → not (q.txn == t) ≡ true = λ q other. not_of (q.txn == t) (λ yes. other ((Decides-eqb q.txn t).0 yes)) in
    let waiter_passes = passes e.waiter (λ same. other_a (sym e.by ∙ same)) in
    let other_passes = passes e.other (λ same. other_b (sym e.upon ∙ same)) in
    waits_of (of_others t rs) a b (record {
      apart = e.apart;
      waiter = e.waiter;
      other = e.other;
      by = e.by;
      upon = e.upon;
      beside = e.beside;
      waiter_in = filter-In (λ r. not (r.txn == t)) rs e.waiter e.waiter_in waiter_passes;
      other_in = filter-In (λ r. not (r.txn == t)) rs e.other e.other_in other_passes;
      why = ⊎_elim (λ refused. inl refused)
          (λ behind. inr (
            behind.0,
            behind.1,
            subst (λ qs. Before qs e.other e.waiter) (sym (queue_at-filter (λ r. not (r.txn == t)) e.waiter.granule rs))
                (Before-filter (λ r. not (r.txn == t)) (queue_at e.waiter.granule rs) e.other e.waiter other_passes waiter_passes behind.2),
          ))
          e.why;
    })

-- edges of two others stay if the requests of all others do
pub waits_apart : (t : ℕ) (rs new : List Request) → of_others t rs ≡ of_others t new → (a b : ℕ) → (a ≡ t → ⊥) → (b ≡ t → ⊥) → WaitsFor rs a b → WaitsFor new a b
waits_apart t rs new same a b other_a other_b h =
    waits-filtered (λ r. not (r.txn == t)) new a b (subst (λ xs. WaitsFor xs a b) same (waits_without t rs a b other_a other_b h))
