-- What a request, a try and a cancel answer and leave.
use Rattle.std.proofs.Common.{◌≡◌, ◌++◌, ◌⊎◌, inl, inr, ⊎_elim, ℕ, List, [], ◌∷◌, Bool, true, false, Option, None, Some, refl, ap, sym, subst, ◌∙◌}
use Rattle.std.specs.Prelude.{filter, not, cond, ◌&&◌, ◌||◌, ◌==◌, is_some, Any, find}
use Rattle.std.specs.List.{list_any}
use Rattle.std.proofs.lemmas.List.Elements.{filter-append}
use Rattle.std.proofs.lemmas.Bool.Decides.{Decides-eqb}
use Rattle.shore_types.specs.declared.locking.Granule.{Granule}
use Rattle.shore_types.specs.declared.locking.Mode.{Mode}
use Rattle.shore_types.specs.declared.locking.Mode.TheVariants.{IS, IX, SH, SIX, EX, UD}
use Rattle.shore_types.specs.Locking.{same_granule}
use Rattle.shore_model.specs.declared.requests.Request.{Request}
use Rattle.shore_model.specs.declared.requests.Group.{Group}
use Rattle.shore_model.specs.declared.requests.Group.TheVariants.{Holders, Conversions, NewWaiters}
use Rattle.shore_model.specs.Modes.{is_at_most}
use Rattle.shore_model.specs.Requests.{are_alike, AreRequests, Before, IsBehind, IsRefusedBy, WaitsFor, WaitsIn, is_in_group, placed_last, queue_at, requests_at}
use Rattle.shore_modes.proofs.ModeTables.{sup_least}
use Rattle.shore_nodes.specs.Tables.{is_waiting, mode_held, request_for, waiters_at, waiting_request}
use Rattle.shore_locks.specs.Grants.{after_grant, wanted_mode, asking, cancelled, granted, is_ahead, is_enough, is_refused, is_stopped_by, obstacle, passed, put, removed, replaced, taken_back, taken_back_if, withdrawn}
use Rattle.shore_nodes.specs.Orderly.{IsOrderly}
use Rattle.shore_nodes.proofs.Members.{In, either, In-filter, filter-In, Contains-In, In-Contains, In-left, In-right, filter-yes}
use Rattle.shore_nodes.proofs.Keys.{in_place-no, in_place-yes, alike-Decides, alike-self, only_one, same_granule-Decides}
use Rattle.shore_nodes.proofs.Fits.{In-replaced, pass_keeps, wants_nothing}
use Rattle.shore_nodes.proofs.Counts.{AreRequests-passed, AreRequests-stopped}
use Rattle.shore_nodes.proofs.Entering.{AreRequests-put, both_true, found_in, find_step, request_in}
use Rattle.shore_locks.proofs.LawLemmas.{refused_means}
use Rattle.shore_nodes.proofs.Others.{put_in_place, put_last}
use Rattle.shore_locks.proofs.Tables.{fit_of}
use Rattle.shore_nodes.proofs.Waiting.{refused_or_ahead}

first_of_two : {A : Type 0} (b : Bool) (x y : A) → b ≡ true → cond b x y ≡ x
first_of_two true x y e = refl
first_of_two false x y e = cc

second_of_two : {A : Type 0} (b : Bool) (x y : A) → b ≡ false → cond b x y ≡ y
second_of_two true x y e = cc
second_of_two false x y e = refl

pub any_from : {A : Type 0} (P : A → Type 0) (xs : List A) (x : A) → In x xs → P x → Any P xs
any_from P xs x h p = let c = In-Contains xs x h in (c.0, x, c.1, c.2, p)

before_across : (xs ys : List Request) (a b : Request) → In a xs → In b ys → Before (xs ++ ys) a b
before_across [] ys a b ha hb = absurd ha
before_across (x ∷ xs) ys a b ha hb =
    ⊎_elim (λ e. inl (e, In-Contains (xs ++ ys) b (In-right xs ys b hb))) (λ t. inr (before_across xs ys a b t hb)) ha

before_left : (xs ys : List Request) (a b : Request) → Before xs a b → Before (xs ++ ys) a b
before_left [] ys a b h = absurd h
before_left (x ∷ xs) ys a b h =
    ⊎_elim (λ e. inl (e.0, In-Contains (xs ++ ys) b (In-left xs ys b (Contains-In xs b e.1)))) (λ t. inr (before_left xs ys a b t)) h

before_right : (xs ys : List Request) (a b : Request) → Before ys a b → Before (xs ++ ys) a b
before_right [] ys a b h = h
before_right (x ∷ xs) ys a b h = inr (before_right xs ys a b h)

-- each request for a granule is in one of the groups of its queue
group_of : (held wanted : Option Mode) → (not (is_some wanted) ≡ true) ⊎ (((is_some held && is_some wanted) ≡ true) ⊎ ((not (is_some held) && is_some wanted) ≡ true))
group_of held None = inl refl
group_of None (Some w) = inr (inr refl)
group_of (Some h) (Some w) = inr (inl refl)

in_queue : (g : Granule) (rs : List Request) (q : Request) → In q (requests_at g rs) → In q (queue_at g rs)
in_queue g rs q h =
    let hs = filter (is_in_group Holders) (requests_at g rs) in
    let cs = filter (is_in_group Conversions) (requests_at g rs) in
    let ns = filter (is_in_group NewWaiters) (requests_at g rs) in
    ⊎_elim
    (λ a. In-left (filter (is_in_group Holders) (requests_at g rs) ++ filter (is_in_group Conversions) (requests_at g rs)) (filter (is_in_group NewWaiters) (requests_at g rs)) q
    (In-left (filter (is_in_group Holders) (requests_at g rs)) (filter (is_in_group Conversions) (requests_at g rs)) q (filter-In (is_in_group Holders) (requests_at g rs) q h a)))
    (⊎_elim
    (λ b. In-left (filter (is_in_group Holders) (requests_at g rs) ++ filter (is_in_group Conversions) (requests_at g rs)) (filter (is_in_group NewWaiters) (requests_at g rs)) q
    (In-right (filter (is_in_group Holders) (requests_at g rs)) (filter (is_in_group Conversions) (requests_at g rs)) q (filter-In (is_in_group Conversions) (requests_at g rs) q h b)))
    (λ d. In-right (filter (is_in_group Holders) (requests_at g rs) ++ filter (is_in_group Conversions) (requests_at g rs)) (filter (is_in_group NewWaiters) (requests_at g rs)) q
    (filter-In (is_in_group NewWaiters) (requests_at g rs) q h d)))
    (group_of q.held q.wanted)

-- a request in a group is behind all others of the group, if it is last
last_of_group : (group : Group) (g : Granule) (r : Request) (rs : List Request) (o : Request) → r.granule ≡ g → is_in_group group r ≡ true → In o (requests_at g (removed r rs)) → is_in_group group o ≡ true
    → Before (filter (is_in_group group) (requests_at g (placed_last r rs))) o r
last_of_group group g r rs o at mine there its =
    let here : requests_at g (placed_last r rs) ≡ requests_at g (removed r rs) ++ r ∷ [] =
    filter-append (λ q. same_granule q.granule g) (removed r rs) (r ∷ []) ∙ ap (λ xs. requests_at g (removed r rs) ++ xs) (filter-yes (λ q. same_granule q.granule g) r [] ((same_granule-Decides r.granule g).1 at)) in
    let parts : filter (is_in_group group) (requests_at g (placed_last r rs)) ≡ filter (is_in_group group) (requests_at g (removed r rs)) ++ r ∷ [] =
    ap (filter (is_in_group group)) here ∙ filter-append (is_in_group group) (requests_at g (removed r rs)) (r ∷ [])
    ∙ ap (λ xs. filter (is_in_group group) (requests_at g (removed r rs)) ++ xs) (filter-yes (is_in_group group) r [] mine) in
    subst (λ xs. Before xs o r) (sym parts)
    (before_across (filter (is_in_group group) (requests_at g (removed r rs))) (r ∷ []) o r (filter-In (is_in_group group) (requests_at g (removed r rs)) o there its) (inl refl))

in_group_last : (group : Group) (g : Granule) (r : Request) (rs : List Request) → r.granule ≡ g → is_in_group group r ≡ true → In r (filter (is_in_group group) (requests_at g (placed_last r rs)))
in_group_last group g r rs at mine =
    filter-In (is_in_group group) (requests_at g (placed_last r rs)) r
    (filter-In (λ q. same_granule q.granule g) (placed_last r rs) r (In-right (removed r rs) (r ∷ []) r (inl refl)) ((same_granule-Decides r.granule g).1 at)) mine

-- whether it wants a conversion or is new, those ahead of it are before it in the queue
ahead_before : (g : Granule) (r : Request) (rs : List Request) (o : Request) (held wanted mine : Option Mode) (w : Mode) → o.held ≡ held → o.wanted ≡ wanted → r.held ≡ mine → r.wanted ≡ Some w
    → r.granule ≡ g → In o (requests_at g (removed r rs)) → (is_some wanted && (is_some held || not (is_some mine))) ≡ true → Before (queue_at g (placed_last r rs)) o r
ahead_before g r rs o held None mine w eh ew em er at there ahead = absurd (let f : false ≡ true = ahead in cc)
ahead_before g r rs o (Some h) (Some v) (Some m) w eh ew em er at there ahead =
    before_left (filter (is_in_group Holders) (requests_at g (placed_last r rs)) ++ filter (is_in_group Conversions) (requests_at g (placed_last r rs))) (filter (is_in_group NewWaiters) (requests_at g (placed_last r rs))) o r
    (before_right (filter (is_in_group Holders) (requests_at g (placed_last r rs))) (filter (is_in_group Conversions) (requests_at g (placed_last r rs))) o r
    (last_of_group Conversions g r rs o at (rw (em, er) refl) there (rw (eh, ew) refl)))
ahead_before g r rs o (Some h) (Some v) None w eh ew em er at there ahead =
    let stays : In o (requests_at g (placed_last r rs)) = filter-In (λ q. same_granule q.granule g) (placed_last r rs) o (In-left (removed r rs) (r ∷ []) o (In-filter (λ q. same_granule q.granule g) (removed r rs) o there).0) (In-filter (λ q. same_granule q.granule g) (removed r rs) o there).1 in
    before_across (filter (is_in_group Holders) (requests_at g (placed_last r rs)) ++ filter (is_in_group Conversions) (requests_at g (placed_last r rs))) (filter (is_in_group NewWaiters) (requests_at g (placed_last r rs))) o r
    (In-right (filter (is_in_group Holders) (requests_at g (placed_last r rs))) (filter (is_in_group Conversions) (requests_at g (placed_last r rs))) o (filter-In (is_in_group Conversions) (requests_at g (placed_last r rs)) o stays (rw (eh, ew) refl)))
    (in_group_last NewWaiters g r rs at (rw (em, er) refl))
ahead_before g r rs o None (Some v) None w eh ew em er at there ahead =
    before_right (filter (is_in_group Holders) (requests_at g (placed_last r rs)) ++ filter (is_in_group Conversions) (requests_at g (placed_last r rs))) (filter (is_in_group NewWaiters) (requests_at g (placed_last r rs))) o r
    (last_of_group NewWaiters g r rs o at (rw (em, er) refl) there (rw (eh, ew) refl))
ahead_before g r rs o None (Some v) (Some m) w eh ew em er at there ahead = absurd (let f : false ≡ true = ahead in cc)

-- who is in the way of a request is one for whom it would wait
pub waits_for_one : (r : Request) (rs : List Request) (w : Mode) (o : Request) → r.wanted ≡ Some w → obstacle r rs ≡ Some o → WaitsFor (placed_last r rs) r.txn o.txn
waits_for_one r rs w o wants is =
    let g = r.granule in
    let f = found_in (is_stopped_by r) (requests_at g rs) o is in
    let cause = refused_or_ahead (o.txn == r.txn) (is_refused r.wanted o.held) (is_ahead r o) f.1 in
    let other : (o.txn == r.txn) ≡ false = ⊎_elim (λ x. x.0) (λ x. x.0) cause in
    let differ : (r.txn ≡ o.txn) → ⊥ = λ e. let yes = (Decides-eqb o.txn r.txn).1 (sym e) in cc in
    let apart : are_alike o r ≡ false = ⊎_elim (λ yes. absurd (differ (sym ((alike-Decides o r).0 yes).0))) (λ no. no) (either (are_alike o r)) in
    let at_g = In-filter (λ q. same_granule q.granule g) rs o f.0 in
    let left : In o (requests_at g (removed r rs)) = filter-In (λ q. same_granule q.granule g) (removed r rs) o (filter-In (λ q. not (are_alike q r)) rs o at_g.0 (ap not apart)) at_g.1 in
    let stays : In o (requests_at g (placed_last r rs)) =
    filter-In (λ q. same_granule q.granule g) (placed_last r rs) o (In-left (removed r rs) (r ∷ []) o (In-filter (λ q. same_granule q.granule g) (removed r rs) o left).0) at_g.1 in
    let mine : In r (placed_last r rs) = In-right (removed r rs) (r ∷ []) r (inl refl) in (
      differ,
      any_from (λ waiter. (waiter.txn ≡ r.txn) × WaitsIn (queue_at waiter.granule (placed_last r rs)) waiter o.txn) (placed_last r rs) r mine (
        refl,
        any_from (λ q. (q.txn ≡ o.txn) × (IsRefusedBy r q ⊎ IsBehind (queue_at g (placed_last r rs)) r q)) (queue_at g (placed_last r rs)) o
            (in_queue g (placed_last r rs) o stays) (
              refl,
              ⊎_elim
                  (λ x. inl (refused_means r.wanted o.held x.1))
                  (λ x. inr (
                    ap is_some wants,
                    (both_true (is_some o.wanted) (is_some o.held || not (is_some r.held)) x.1).0,
                    ahead_before g r rs o o.held o.wanted r.held w refl refl refl wants refl left x.1,
                  ))
                  cause,
            ),
      ),
    )

-- .. and of a transaction that asks
pub waits_for_obstacle : (t : ℕ) (g : Granule) (mode : Mode) (rs : List Request) (o : Request) → obstacle (asking t g mode rs) rs ≡ Some o → WaitsFor (placed_last (asking t g mode rs) rs) t o.txn
waits_for_obstacle t g mode rs o is = waits_for_one (asking t g mode rs) rs (wanted_mode (mode_held t g rs) mode) o refl is

pub kept_in_place : (r : Request) (xs : List Request) (h : Request) → In h xs → are_alike h r ≡ false → In h (replaced r xs)
kept_in_place r [] h there apart = there
kept_in_place r (x ∷ xs) h there apart =
    ⊎_elim (λ e. inl (in_place-no r x (subst (λ y. are_alike y r ≡ false) (sym e) apart) ∙ e)) (λ t. inr (kept_in_place r xs h t apart)) there

replaced_there : (r : Request) (xs : List Request) → list_any (λ q. are_alike q r) xs ≡ true → In r (replaced r xs)
replaced_there r [] has = cc
replaced_there r (x ∷ xs) has =
    ⊎_elim (λ yes. inl (in_place-yes r x yes)) (λ no. let rest : list_any (λ q. are_alike q r) xs ≡ true = rw no at has in inr (replaced_there r xs rest)) (either (are_alike x r))

pub put_there : (r : Request) (rs : List Request) → In r (put r rs)
put_there r rs =
    ⊎_elim (λ yes. subst (In r) (sym (put_in_place r rs yes)) (replaced_there r rs yes))
    (λ none. subst (In r) (sym (put_last r rs none)) (In-right rs (r ∷ []) r (inl refl))) (either (list_any (λ q. are_alike q r) rs))

-- each request after a pass stood before it, or is one of those that waited, granted
pub grant_pass_only_grants : (g : Granule) (rs : List Request) → AreRequests rs → (a : Request) → In a (passed g rs) → In a rs ⊎ ((q : Request) × In q rs × (a ≡ granted q))
grant_pass_only_grants g rs one =
    pass_keeps (λ xs. (a : Request) → In a xs → In a rs ⊎ ((q : Request) × In q rs × (a ≡ granted q))) g
    (λ xs w before ones in_w at wants can a in_a. ⊎_elim
    (λ e. ⊎_elim (λ stood. inr (w, stood, e)) (λ was. absurd (wants_nothing w.wanted (ap (λ (x : Request). x.wanted) was.2) wants)) (before w in_w))
    (λ o. before a o.0)
    (In-replaced (granted w) xs a in_a))
    (waiters_at g rs) rs one refl (λ a h. inl h)

-- a pass leaves a holder that wants nothing as it is
pub pass_keeps_holders : (g : Granule) (rs : List Request) (h : Request) → AreRequests rs → h.wanted ≡ None → In h rs → In h (passed g rs)
pass_keeps_holders g rs h one still in_h =
    pass_keeps (λ xs. In h xs) g
    (λ xs w there ones in_w at wants can.
    ⊎_elim
    (λ alike. absurd (let same = only_one xs ones h w there in_w alike in wants_nothing w.wanted (sym (ap (λ (x : Request). x.wanted) same) ∙ still) wants))
    (λ apart. kept_in_place (granted w) xs h there apart)
    (either (are_alike h w)))
    (waiters_at g rs) rs one refl in_h

enough_as_self : (m : Mode) → is_at_most m m ≡ true
enough_as_self IS = refl
enough_as_self IX = refl
enough_as_self SH = refl
enough_as_self SIX = refl
enough_as_self EX = refl
enough_as_self UD = refl

wanted_is_enough : (held : Option Mode) (mode : Mode) → is_at_most mode (wanted_mode held mode) ≡ true
wanted_is_enough None mode = enough_as_self mode
wanted_is_enough (Some h) mode = (sup_least h mode).right

-- what was granted at once is held in the mode, or in a stronger one
pub held_after_grant : (t : ℕ) (g : Granule) (mode : Mode) (rs : List Request) → AreRequests rs → is_enough mode (mode_held t g (after_grant t g mode rs)) ≡ true
held_after_grant t g mode rs one =
    let h = granted (asking t g mode rs) in
    let ones = AreRequests-put (granted (asking t g mode rs)) rs one in
    let there = pass_keeps_holders g (put (granted (asking t g mode rs)) rs) (granted (asking t g mode rs)) ones refl (put_there (granted (asking t g mode rs)) rs) in
    let found : request_for t g (after_grant t g mode rs) ≡ Some (granted (asking t g mode rs)) =
    request_in (after_grant t g mode rs) (AreRequests-passed g (put (granted (asking t g mode rs)) rs) ones) (granted (asking t g mode rs)) there in
    rw found (wanted_is_enough (mode_held t g rs) mode)

none_found : {A : Type 0} (p : A → Bool) (xs : List A) → ((x : A) → In x xs → p x ≡ false) → find p xs ≡ None
none_found p [] each = refl
none_found p (x ∷ xs) each = find_step p x xs (each x (inl refl)) ∙ none_found p xs (λ y h. each y (inr h))

-- if no request of the transaction wants anything it does not wait
pub nobody_wants : (t : ℕ) (rs : List Request) → ((q : Request) → In q rs → q.txn ≡ t → is_some q.wanted ≡ true → ⊥) → is_waiting t rs ≡ false
nobody_wants t rs none =
    ap is_some (none_found (λ r. (r.txn == t) && is_some r.wanted) rs (λ q h. ⊎_elim
    (λ yes. let p = both_true (q.txn == t) (is_some q.wanted) yes in absurd (none q h ((Decides-eqb q.txn t).0 p.0) p.1)) (λ no. no)
    (either ((q.txn == t) && is_some q.wanted))))

-- the rest, once a waiting request stopped waiting
rest_quiet : (t : ℕ) (rs : List Request) (r : Request) → IsOrderly rs → In r rs → r.txn ≡ t → is_some r.wanted ≡ true
    → (q : Request) → In q (cond (is_some r.held) (replaced (withdrawn r) rs) (removed r rs)) → q.txn ≡ t → is_some q.wanted ≡ true → ⊥
rest_quiet t rs r orderly in_r by wants q h q_by q_wants =
    let other : In q rs → are_alike q r ≡ false → ⊥ = λ in_q apart.
    let same = (fit_of rs orderly).once q r in_q in_r (q_by ∙ sym by) q_wants wants in
    let self : are_alike q r ≡ true = ap (λ x. are_alike x r) same ∙ alike-self r in cc in
    ⊎_elim
    (λ holds. ⊎_elim (λ e. wants_nothing q.wanted (ap (λ (x : Request). x.wanted) e) q_wants) (λ o. other o.0 o.1)
    (In-replaced (withdrawn r) rs q (subst (In q) (first_of_two (is_some r.held) (replaced (withdrawn r) rs) (removed r rs) holds) h)))
    (λ none. let x = In-filter (λ y. not (are_alike y r)) rs q (subst (In q) (second_of_two (is_some r.held) (replaced (withdrawn r) rs) (removed r rs) none) h) in
    other x.0 (⊎_elim (λ yes. absurd (let gone : not (are_alike q r) ≡ false = ap not yes in let kept : not (are_alike q r) ≡ true = x.1 in cc)) (λ no. no) (either (are_alike q r))))
    (either (is_some r.held))

quiet_after : (t : ℕ) (rs : List Request) → IsOrderly rs → (o : Option Request) → waiting_request t rs ≡ o → is_waiting t (taken_back_if o rs) ≡ false
quiet_after t rs orderly None is = ap is_some is
quiet_after t rs orderly (Some r) is =
    let f = found_in (λ x. (x.txn == t) && is_some x.wanted) rs r is in
    let p = both_true (r.txn == t) (is_some r.wanted) f.1 in
    let by = (Decides-eqb r.txn t).0 p.0 in
    let ones = AreRequests-stopped r rs orderly.one_each in
    nobody_wants t (taken_back r rs) (λ q h q_by q_wants. ⊎_elim
    (λ stood. rest_quiet t rs r orderly f.0 by p.1 q stood q_by q_wants)
    (λ was. wants_nothing q.wanted (ap (λ (x : Request). x.wanted) was.2) q_wants)
    (grant_pass_only_grants r.granule (cond (is_some r.held) (replaced (withdrawn r) rs) (removed r rs)) ones q h))

-- a transaction whose request was taken back waits no more
pub quiet_after_cancel : (t : ℕ) (rs : List Request) → IsOrderly rs → is_waiting t (cancelled t rs) ≡ false
quiet_after_cancel t rs orderly = quiet_after t rs orderly (waiting_request t rs) refl
