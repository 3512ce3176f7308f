-- Grant passes: the waiters that are left, and what a pass keeps.
use Rattle.std.proofs.Common.{◌≡◌, ◌++◌, ⊎_elim, List, [], ◌∷◌, Bool, true, false, Option, None, Some, refl, ap, sym, subst, ◌∙◌, drop}
use Rattle.std.specs.Prelude.{filter, not, ◌&&◌, is_some, slice_get}
use Rattle.std.proofs.lemmas.List.Elements.{filter-append}
use Rattle.shore_types.specs.declared.locking.Granule.{Granule}
use Rattle.shore_types.specs.declared.locking.Mode.{Mode}
use Rattle.shore_types.specs.Locking.{same_granule}
use Rattle.shore_model.specs.declared.requests.Request.{Request}
use Rattle.shore_model.specs.declared.requests.Group.TheVariants.{Conversions, NewWaiters}
use Rattle.shore_model.specs.Requests.{are_alike, AreRequests, requests_at, is_in_group}
use Rattle.shore_nodes.specs.Tables.{waiters_at}
use Rattle.shore_nodes.specs.Grants.{replaced, removed, granted, granted_in_turn, passed, can_be_granted}
use Rattle.shore_nodes.proofs.Members.{In, either, In-All, In-filter, In-append, filter-yes, filter-no, filter-all}
use Rattle.shore_nodes.proofs.Keys.{in_place, in_place-yes, in_place-no, in_place-keys, only_one, alike-Decides, alike-swap, same_granule-Decides, AreRequests-filter, AreRequests-append}

not_true : {b : Bool} → b ≡ true → not b ≡ false
not_true e = ap not e

not_false : {b : Bool} → b ≡ false → not b ≡ true
not_false e = ap not e

-- a test that looks at keys alone commutes with a replacement
pub filter_by_key : (p : Request → Bool) (r : Request) → ((q : Request) → p (in_place r q) ≡ p q) → (rs : List Request) → filter p (replaced r rs) ≡ replaced r (filter p rs)
filter_by_key p r same [] = refl
filter_by_key p r same (q ∷ rs) =
    ⊎_elim
    (λ yes. filter-yes p (in_place r q) (replaced r rs) (same q ∙ yes) ∙ ap (λ xs. in_place r q ∷ xs) (filter_by_key p r same rs) ∙ sym (ap (replaced r) (filter-yes p q rs yes)))
    (λ no. filter-no p (in_place r q) (replaced r rs) (same q ∙ no) ∙ filter_by_key p r same rs ∙ sym (ap (replaced r) (filter-no p q rs no)))
    (either (p q))

pub requests_at-replaced : (g : Granule) (r : Request) (rs : List Request) → requests_at g (replaced r rs) ≡ replaced r (requests_at g rs)
requests_at-replaced g r rs = filter_by_key (λ q. same_granule q.granule g) r (λ q. ap (λ h. same_granule h g) ((in_place-keys r q).1)) rs

-- if a test refuses the new request, the one in whose place it is is gone
pub filter_refused : (p : Request → Bool) (r : Request) → p r ≡ false → (rs : List Request) → filter p (replaced r rs) ≡ removed r (filter p rs)
filter_refused p r refuse [] = refl
filter_refused p r refuse (q ∷ rs) =
    ⊎_elim
    (λ alike.
    filter-no p (in_place r q) (replaced r rs) (ap p (in_place-yes r q alike) ∙ refuse) ∙ filter_refused p r refuse rs
    ∙ ⊎_elim
    (λ yes. sym (ap (removed r) (filter-yes p q rs yes) ∙ filter-no (λ x. not (are_alike x r)) q (filter p rs) (not_true alike)))
    (λ refused. sym (ap (removed r) (filter-no p q rs refused)))
    (either (p q)))
    (λ apart. ⊎_elim
    (λ yes. filter-yes p (in_place r q) (replaced r rs) (ap p (in_place-no r q apart) ∙ yes)
    ∙ ap (λ x. x ∷ filter p (replaced r rs)) (in_place-no r q apart) ∙ ap (λ xs. q ∷ xs) (filter_refused p r refuse rs)
    ∙ sym (ap (removed r) (filter-yes p q rs yes) ∙ filter-yes (λ x. not (are_alike x r)) q (filter p rs) (not_false apart)))
    (λ refused. filter-no p (in_place r q) (replaced r rs) (ap p (in_place-no r q apart) ∙ refused) ∙ filter_refused p r refuse rs
    ∙ sym (ap (removed r) (filter-no p q rs refused)))
    (either (p q)))
    (either (are_alike q r))

quiet : (held wanted : Option Mode) → wanted ≡ None → (is_some held && is_some wanted) ≡ false
quiet None wanted e = refl
quiet (Some m) wanted e = ap is_some e

still : (held wanted : Option Mode) → wanted ≡ None → (not (is_some held) && is_some wanted) ≡ false
still (Some m) wanted e = refl
still None wanted e = ap is_some e

pub no_both : (held wanted : Option Mode) → (is_some held && is_some wanted) ≡ true → (not (is_some held) && is_some wanted) ≡ true → ⊥
no_both None wanted a b = cc
no_both (Some m) wanted a b = cc

wants_as_conversion : (held wanted : Option Mode) → (is_some held && is_some wanted) ≡ true → is_some wanted ≡ true
wants_as_conversion None wanted e = cc
wants_as_conversion (Some m) wanted e = e

wants_as_new : (held wanted : Option Mode) → (not (is_some held) && is_some wanted) ≡ true → is_some wanted ≡ true
wants_as_new (Some m) wanted e = cc
wants_as_new None wanted e = e

-- a request that wants nothing leaves the waiters
pub waiters_without : (g : Granule) (r : Request) (rs : List Request) → r.wanted ≡ None → waiters_at g (replaced r rs) ≡ removed r (waiters_at g rs)
waiters_without g r rs none =
    let no_conversion : is_in_group Conversions r ≡ false = quiet r.held r.wanted none in
    let not_new : is_in_group NewWaiters r ≡ false = still r.held r.wanted none in
    ap (λ xs. filter (is_in_group Conversions) xs ++ filter (is_in_group NewWaiters) xs) (requests_at-replaced g r rs)
    ∙ ap (λ xs. xs ++ filter (is_in_group NewWaiters) (replaced r (requests_at g rs))) (filter_refused (is_in_group Conversions) r no_conversion (requests_at g rs))
    ∙ ap (λ xs. removed r (filter (is_in_group Conversions) (requests_at g rs)) ++ xs) (filter_refused (is_in_group NewWaiters) r not_new (requests_at g rs))
    ∙ sym (filter-append (λ x. not (are_alike x r)) (filter (is_in_group Conversions) (requests_at g rs)) (filter (is_in_group NewWaiters) (requests_at g rs)))

pub In-waiters : (g : Granule) (rs : List Request) (w : Request) → In w (waiters_at g rs) → In w rs × (w.granule ≡ g) × (is_some w.wanted ≡ true)
In-waiters g rs w h =
    ⊎_elim
    (λ a. let x = In-filter (is_in_group Conversions) (requests_at g rs) w a in let y = In-filter (λ r. same_granule r.granule g) rs w x.0 in
    (y.0, (same_granule-Decides w.granule g).0 y.1, wants_as_conversion w.held w.wanted x.1))
    (λ b. let x = In-filter (is_in_group NewWaiters) (requests_at g rs) w b in let y = In-filter (λ r. same_granule r.granule g) rs w x.0 in
    (y.0, (same_granule-Decides w.granule g).0 y.1, wants_as_new w.held w.wanted x.1))
    (In-append (filter (is_in_group Conversions) (requests_at g rs)) (filter (is_in_group NewWaiters) (requests_at g rs)) w h)

pub AreRequests-waiters : (g : Granule) (rs : List Request) → AreRequests rs → AreRequests (waiters_at g rs)
AreRequests-waiters g rs one =
    let at_g = AreRequests-filter (λ r. same_granule r.granule g) rs one in
    AreRequests-append (filter (is_in_group Conversions) (requests_at g rs)) (filter (is_in_group NewWaiters) (requests_at g rs))
    (AreRequests-filter (is_in_group Conversions) (requests_at g rs) at_g) (AreRequests-filter (is_in_group NewWaiters) (requests_at g rs) at_g)
    (λ a b in_a in_b.
    let x = In-filter (is_in_group Conversions) (requests_at g rs) a in_a in
    let y = In-filter (is_in_group NewWaiters) (requests_at g rs) b in_b in
    ⊎_elim
    (λ alike. absurd (let same = only_one (requests_at g rs) at_g a b x.0 y.0 alike in
    no_both b.held b.wanted (subst (λ q. is_in_group Conversions q ≡ true) same x.1) y.1))
    (λ apart. apart)
    (either (are_alike a b)))

-- once the first waiter is granted, the others wait
pub first_granted : (g : Granule) (rs : List Request) (w : Request) (ws : List Request) → AreRequests rs → waiters_at g rs ≡ w ∷ ws → waiters_at g (replaced (granted w) rs) ≡ ws
first_granted g rs w ws one are =
    let r = granted w in
    let ones : AreRequests (w ∷ ws) = subst AreRequests are (AreRequests-waiters g rs one) in
    let alike : are_alike w (granted w) ≡ true = (alike-Decides w (granted w)).1 (refl, refl) in
    waiters_without g (granted w) rs refl
    ∙ ap (removed (granted w)) are
    ∙ filter-no (λ x. not (are_alike x (granted w))) w ws (not_true alike)
    ∙ filter-all (λ x. not (are_alike x (granted w))) ws (λ x h. not_false (alike-swap x (granted w) ∙ In-All (λ o. are_alike w o ≡ false) ws x ones.0 h))

pub first_of : {A : Type 0} (xs : List A) (x : A) → Some x ≡ slice_get xs 0 → xs ≡ x ∷ drop 1 xs
first_of [] x e = cc
first_of (y ∷ ys) x e = let same : x ≡ y = cc in ap (λ z. z ∷ ys) (sym same)

pub none_of : {A : Type 0} (xs : List A) → None ≡ slice_get xs 0 → xs ≡ []
none_of [] e = refl
none_of (y ∷ ys) e = cc

-- a pass goes on from its first grant
pub pass_on : (g : Granule) (rs : List Request) (w : Request) → AreRequests rs → Some w ≡ slice_get (waiters_at g rs) 0 → can_be_granted w (requests_at w.granule rs) ≡ true → passed g (replaced (granted w) rs) ≡ passed g rs
pass_on g rs w one is can =
    let are = first_of (waiters_at g rs) w is in
    ap (λ ws. granted_in_turn ws (replaced (granted w) rs)) (first_granted g rs w (drop 1 (waiters_at g rs)) one are)
    ∙ sym (ap (λ ws. granted_in_turn ws rs) are ∙ rw can refl)

pub pass_stops : (g : Granule) (rs : List Request) (w : Request) → Some w ≡ slice_get (waiters_at g rs) 0 → can_be_granted w (requests_at w.granule rs) ≡ false → passed g rs ≡ rs
pass_stops g rs w is cannot =
    let are = first_of (waiters_at g rs) w is in
    ap (λ ws. granted_in_turn ws rs) are ∙ rw cannot refl

pub pass_ends : (g : Granule) (rs : List Request) → None ≡ slice_get (waiters_at g rs) 0 → passed g rs ≡ rs
pass_ends g rs is = ap (λ ws. granted_in_turn ws rs) (none_of (waiters_at g rs) is)
