-- Nobody waits for a transaction none of whose requests is waited for.
use Rattle.std.proofs.Common.{◌≡◌, ◌++◌, ◌⊎◌, inl, inr, ⊎_elim, ℕ, List, [], ◌∷◌, Bool, true, false, Option, None, Some, refl, ap, sym, subst, ◌∙◌}
use Rattle.std.specs.Prelude.{filter, not, ◌&&◌, ◌==◌, is_some, All, Any, IsSomeAnd}
use Rattle.std.proofs.lemmas.Bool.Decides.{Decides-eqb}
use Rattle.std.proofs.lemmas.List.Elements.{All-cons, filter-append}
use Rattle.shore_types.specs.declared.locking.Granule.{Granule}
use Rattle.shore_types.specs.declared.locking.Mode.{Mode}
use Rattle.shore_types.specs.Locking.{same_granule}
use Rattle.shore_model.specs.declared.requests.Request.{Request}
use Rattle.shore_model.specs.declared.requests.Group.TheVariants.{Holders, Conversions, NewWaiters}
use Rattle.shore_model.specs.Modes.{grants}
use Rattle.shore_model.specs.Requests.{are_alike, AreRequests, Before, IsBehind, IsRefusedBy, WaitsFor, WaitsIn, is_in_group, queue_at, requests_at, requests_by}
use Rattle.shore_nodes.specs.Nodes.{queue_head}
use Rattle.shore_nodes.specs.Tables.{waiters_at}
use Rattle.shore_nodes.specs.Tallies.{crowd}
use Rattle.shore_nodes.proofs.Members.{In, either, In-All, In-Contains, In-append, In-filter, filter-In, Contains-In, In-left, In-right, filter-no, filter-yes}
use Rattle.shore_nodes.proofs.Keys.{AreRequests-filter, alike-Decides, alike-self, only_one, same_granule-Decides}
use Rattle.shore_locks.specs.Unawaited.{ComesLast, IsUnawaited}

-- ---- the last of a queue, by the last of its head

filter_within : (p q : Request → Bool) → ((x : Request) → p x ≡ true → q x ≡ true) → (xs : List Request) → filter p (filter q xs) ≡ filter p xs
filter_within p q more [] = refl
filter_within p q more (x ∷ xs) =
    ⊎_elim
    (λ mine. ap (filter p) (filter-yes q x xs (more x mine)) ∙ filter-yes p x (filter q xs) mine ∙ ap (λ ys. x ∷ ys) (filter_within p q more xs) ∙ sym (filter-yes p x xs mine))
    (λ other. ⊎_elim
    (λ yes. ap (filter p) (filter-yes q x xs yes) ∙ filter-no p x (filter q xs) other ∙ filter_within p q more xs ∙ sym (filter-no p x xs other))
    (λ no. ap (filter p) (filter-no q x xs no) ∙ filter_within p q more xs ∙ sym (filter-no p x xs other))
    (either (q x)))
    (either (p x))

at_of_crowd : (heads head : ℕ) (g : Granule) (rs : List Request) → head ≡ queue_head heads g → requests_at g (crowd heads head rs) ≡ requests_at g rs
at_of_crowd heads head g rs at =
    filter_within (λ r. same_granule r.granule g) (λ r. queue_head heads r.granule == head)
    (λ r here. (Decides-eqb (queue_head heads r.granule) head).1 (ap (queue_head heads) ((same_granule-Decides r.granule g).0 here) ∙ sym at)) rs

-- the last that stands at a granule's head is the last of its queue, if it is for it
pub last_at : (heads head : ℕ) (r last : Request) (rs xs : List Request) → head ≡ queue_head heads r.granule → crowd heads head rs ≡ xs ++ last ∷ [] → ((last.txn == r.txn) && same_granule last.granule r.granule) ≡ true → ComesLast rs r
last_at heads head r last rs xs at ends its =
    let both = (alike-Decides last r).0 its in (
      requests_at r.granule xs,
      last,
      sym (at_of_crowd heads head r.granule rs at)
          ∙ ap (requests_at r.granule) ends
          ∙ filter-append (λ q. same_granule q.granule r.granule) xs (last ∷ [])
          ∙ ap (λ ys. requests_at r.granule xs ++ ys) (filter-yes (λ q. same_granule q.granule r.granule) last [] ((same_granule-Decides last.granule r.granule).1 both.1)),
      both.0,
    )

-- ---- a queue behind one of it

pub Before-later : (xs ys : List Request) (a b : Request) → (In a xs → ⊥) → Before (xs ++ ys) a b → Before ys a b
Before-later [] ys a b none h = h
Before-later (x ∷ xs) ys a b none h = ⊎_elim (λ here. absurd (none (inl here.0))) (λ later. Before-later xs ys a b (λ t. none (inr t)) later) h

pub Before-filtered : (p : Request → Bool) (xs : List Request) (a b : Request) → Before (filter p xs) a b → Before xs a b
Before-filtered p [] a b h = h
Before-filtered p (x ∷ xs) a b h =
    ⊎_elim
    (λ yes. ⊎_elim (λ here. inl (here.0, In-Contains xs b (In-filter p xs b (Contains-In (filter p xs) b here.1)).0)) (λ later. inr (Before-filtered p xs a b later))
    (subst (λ ys. Before ys a b) (filter-yes p x xs yes) h))
    (λ no. inr (Before-filtered p xs a b (subst (λ ys. Before ys a b) (filter-no p x xs no) h)))
    (either (p x))

-- the last request comes once
once_last : (xs : List Request) (a : Request) → AreRequests (xs ++ a ∷ []) → In a xs → ⊥
once_last [] a one h = h
once_last (x ∷ xs) a one h =
    ⊎_elim
    (λ same. let yes : are_alike x a ≡ true = ap (λ y. are_alike y a) same ∙ alike-self a in let no = In-All (λ other. are_alike x other ≡ false) (xs ++ a ∷ []) a one.0 (In-right xs (a ∷ []) a (inl refl)) in cc)
    (λ later. once_last xs a one.1 later)
    h

none_behind_last : (xs : List Request) (a b : Request) → AreRequests (xs ++ a ∷ []) → Before (xs ++ a ∷ []) a b → ⊥
none_behind_last xs a b one h = ⊎_elim (λ here. Contains-In [] b here.1) (λ none. none) (Before-later xs (a ∷ []) a b (once_last xs a one) h)

-- ---- who waits for whom

wants_nothing : (held wanted : Option Mode) → is_some wanted ≡ true → not (is_some wanted) ≡ true → ⊥
wants_nothing held None wants none = cc
wants_nothing held (Some m) wants none = cc

holds_none : (held wanted : Option Mode) → held ≡ None → (is_some held && is_some wanted) ≡ true → ⊥
holds_none held wanted none both = let f : (is_some held && is_some wanted) ≡ false = ap (λ h. is_some h && is_some wanted) none in cc

-- a new request is behind others in its queue only as a new one among new ones
new_before : (g : Granule) (rs : List Request) (a b : Request) → a.held ≡ None → is_some a.wanted ≡ true → Before (queue_at g rs) a b → Before (requests_at g rs) a b
new_before g rs a b new wants h =
    Before-filtered (is_in_group NewWaiters) (requests_at g rs) a b
    (Before-later (filter (is_in_group Holders) (requests_at g rs) ++ filter (is_in_group Conversions) (requests_at g rs)) (filter (is_in_group NewWaiters) (requests_at g rs)) a b
    (λ there. ⊎_elim
    (λ holds. wants_nothing a.held a.wanted wants (In-filter (is_in_group Holders) (requests_at g rs) a holds).1)
    (λ converts. holds_none a.held a.wanted new (In-filter (is_in_group Conversions) (requests_at g rs) a converts).1)
    (In-append (filter (is_in_group Holders) (requests_at g rs)) (filter (is_in_group Conversions) (requests_at g rs)) a there))
    h)

-- who is refused wants something
pub wants_of : (wanted held : Option Mode) → IsSomeAnd wanted (λ asked. IsSomeAnd held (λ mode. grants mode asked ≡ false)) → is_some wanted ≡ true
wants_of None held h = absurd h
wants_of (Some m) held h = refl

holds_of : (wanted held : Option Mode) → held ≡ None → IsSomeAnd wanted (λ asked. IsSomeAnd held (λ mode. grants mode asked ≡ false)) → ⊥
holds_of None held none h = h
holds_of (Some asked) None none h = h
holds_of (Some asked) (Some mode) none h = cc

grouped : (held wanted : Option Mode) → is_some wanted ≡ true → ((is_some held && is_some wanted) ≡ true) ⊎ ((not (is_some held) && is_some wanted) ≡ true)
grouped held None wants = cc
grouped None (Some w) wants = inr refl
grouped (Some h) (Some w) wants = inl refl

waits_there : (g : Granule) (rs : List Request) (w : Request) → In w (requests_at g rs) → is_some w.wanted ≡ true → In w (waiters_at g rs)
waits_there g rs w there wants =
    ⊎_elim
    (λ converts. In-left (filter (is_in_group Conversions) (requests_at g rs)) (filter (is_in_group NewWaiters) (requests_at g rs)) w (filter-In (is_in_group Conversions) (requests_at g rs) w there converts))
    (λ new. In-right (filter (is_in_group Conversions) (requests_at g rs)) (filter (is_in_group NewWaiters) (requests_at g rs)) w (filter-In (is_in_group NewWaiters) (requests_at g rs) w there new))
    (grouped w.held w.wanted wants)

in_queue_at : (g : Granule) (rs : List Request) (q : Request) → In q (queue_at g rs) → In q (requests_at g rs)
in_queue_at g rs q h =
    ⊎_elim
    (λ x. ⊎_elim (λ a. (In-filter (is_in_group Holders) (requests_at g rs) q a).0) (λ b. (In-filter (is_in_group Conversions) (requests_at g rs) q b).0)
    (In-append (filter (is_in_group Holders) (requests_at g rs)) (filter (is_in_group Conversions) (requests_at g rs)) q x))
    (λ n. (In-filter (is_in_group NewWaiters) (requests_at g rs) q n).0)
    (In-append (filter (is_in_group Holders) (requests_at g rs) ++ filter (is_in_group Conversions) (requests_at g rs)) (filter (is_in_group NewWaiters) (requests_at g rs)) q h)

-- nobody stands behind a new request whose transaction comes last
none_behind_new : (g : Granule) (rs : List Request) (w o : Request) → AreRequests rs → In o (requests_at g rs) → o.held ≡ None → is_some o.wanted ≡ true → (xs : List Request) (last : Request) → requests_at g rs ≡ xs ++ last ∷ [] → last.txn ≡ o.txn
    → Before (queue_at g rs) o w → ⊥
none_behind_new g rs w o one o_at new wants xs last ends its before =
    let o_of = In-filter (λ r. same_granule r.granule g) rs o o_at in
    let last_of = In-filter (λ r. same_granule r.granule g) rs last (subst (In last) (sym ends) (In-right xs (last ∷ []) last (inl refl))) in
    let at : last.granule ≡ g = (same_granule-Decides last.granule g).0 last_of.1 in
    let o_is : o.granule ≡ g = (same_granule-Decides o.granule g).0 o_of.1 in
    let same : last ≡ o = only_one rs one last o last_of.0 o_of.0 ((alike-Decides last o).1 (its, at ∙ sym o_is)) in
    let ends_with : requests_at g rs ≡ xs ++ o ∷ [] = subst (λ q. requests_at g rs ≡ xs ++ q ∷ []) same ends in
    none_behind_last xs o w (subst AreRequests ends_with (AreRequests-filter (λ r. same_granule r.granule g) rs one)) (subst (λ qs. Before qs o w) ends_with (new_before g rs o w new wants before))

-- nobody waits by a request that is not waited for
none_by : (rs : List Request) (w o : Request) → AreRequests rs → In w rs → In o (requests_at w.granule rs) → IsUnawaited rs o → (IsRefusedBy w o ⊎ IsBehind (queue_at w.granule rs) w o) → ⊥
none_by rs w o one w_in o_at free why =
    let at : o.granule ≡ w.granule = (same_granule-Decides o.granule w.granule).0 (In-filter (λ r. same_granule r.granule w.granule) rs o o_at).1 in
    let w_at : In w (requests_at w.granule rs) = filter-In (λ r. same_granule r.granule w.granule) rs w w_in ((same_granule-Decides w.granule w.granule).1 refl) in
    let wants : is_some w.wanted ≡ true = ⊎_elim (λ refused. wants_of w.wanted o.held refused) (λ behind. behind.0) why in
    ⊎_elim
    (λ nobody. subst (In w) (subst (λ g. waiters_at g rs ≡ []) at nobody) (waits_there w.granule rs w w_at wants))
    (λ last. ⊎_elim
    (λ refused. holds_of w.wanted o.held last.0 refused)
    (λ behind. none_behind_new w.granule rs w o one o_at last.0 behind.1 last.1.0 last.1.1 (subst (λ g. requests_at g rs ≡ last.1.0 ++ last.1.1 ∷ []) at last.1.2) last.1.3 behind.2)
    why)
    free

pub some_of : {A : Type 0} (P : A → Type 0) (xs : List A) → Any P xs → (x : A) × In x xs × P x
some_of P xs h = (h.1, Contains-In xs h.1 (h.0, h.2, h.3), h.4)

pub nobody_waits_for : (rs : List Request) (t : ℕ) → AreRequests rs → All (IsUnawaited rs) (requests_by t rs) → (u : ℕ) → WaitsFor rs u t → ⊥
nobody_waits_for rs t one free u h =
    let a = some_of (λ waiter. (waiter.txn ≡ u) × WaitsIn (queue_at waiter.granule rs) waiter t) rs h.1 in
    let b = some_of (λ other. (other.txn ≡ t) × (IsRefusedBy a.0 other ⊎ IsBehind (queue_at a.0.granule rs) a.0 other)) (queue_at a.0.granule rs) a.2.1 in
    let o_at = in_queue_at a.0.granule rs b.0 b.1 in
    let o_in = (In-filter (λ r. same_granule r.granule a.0.granule) rs b.0 o_at).0 in
    none_by rs a.0 b.0 one a.1 o_at (In-All (IsUnawaited rs) (requests_by t rs) b.0 free (filter-In (λ r. r.txn == t) rs b.0 o_in ((Decides-eqb b.0.txn t).1 b.2.0))) b.2.1

-- one node more of a transaction's is looked at
pub looked_on : (rs : List Request) (t : ℕ) (r : Request) (xs : List Request) → (r.txn ≡ t → IsUnawaited rs r) → All (IsUnawaited rs) (requests_by t xs) → All (IsUnawaited rs) (requests_by t (r ∷ xs))
looked_on rs t r xs free rest =
    ⊎_elim
    (λ yes. subst (All (IsUnawaited rs)) (sym (filter-yes (λ q. q.txn == t) r xs yes)) (All-cons (IsUnawaited rs) r (requests_by t xs) (free ((Decides-eqb r.txn t).0 yes)) rest))
    (λ no. subst (All (IsUnawaited rs)) (sym (filter-no (λ q. q.txn == t) r xs no)) rest)
    (either (r.txn == t))
