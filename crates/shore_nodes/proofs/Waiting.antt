-- A request begins to wait: nobody is left behind it or ahead of it who could be granted.
use Rattle.std.proofs.Common.{◌≡◌, ◌++◌, ◌⊎◌, inl, inr, ⊎_elim, ℕ, List, [], ◌∷◌, Bool, true, false, Option, None, Some, refl, ap, sym, subst, ◌∙◌}
use Rattle.std.specs.Prelude.{filter, not, ◌&&◌, ◌||◌, ◌==◌, is_some}
use Rattle.std.specs.List.{list_any}
use Rattle.std.proofs.lemmas.List.Elements.{filter-append}
use Rattle.std.proofs.lemmas.Bool.Decides.{Decides-eqb}
use Rattle.shore_types.specs.declared.locking.Granule.{Granule}
use Rattle.shore_types.specs.declared.locking.Mode.{Mode}
use Rattle.shore_types.specs.Locking.{same_granule}
use Rattle.shore_model.specs.declared.requests.Request.{Request}
use Rattle.shore_model.specs.declared.requests.Group.TheVariants.{Conversions, NewWaiters}
use Rattle.shore_model.specs.Requests.{are_alike, requests_at, placed_last, is_in_group}
use Rattle.shore_nodes.specs.Tables.{is_waiting, mode_held, request_for}
use Rattle.shore_nodes.specs.Grants.{removed, asking, can_be_granted, refuses, is_refused, is_stopped_by, is_ahead, obstacle}
use Rattle.shore_nodes.specs.Orderly.{IsStopped}
use Rattle.shore_nodes.proofs.Members.{In, either, In-filter, filter-In, In-left, In-right, filter-yes, filter-no, filter-all, filter-swap}
use Rattle.shore_nodes.proofs.Keys.{alike-Decides, same_granule-Decides}
use Rattle.shore_nodes.proofs.Fits.{Fit, any_of, found_any}
use Rattle.shore_nodes.proofs.Others.{NoneLeftAt, none_left_as, at_other_placed, requests_at-removed}
use Rattle.shore_nodes.proofs.Entering.{both_true, found_in, none_waits, request_in}

yes_of : (b : Bool) → not b ≡ false → b ≡ true
yes_of true e = refl
yes_of false e = cc

pub some_one : {A : Type 0} (o : Option A) → is_some o ≡ true → (x : A) × (o ≡ Some x)
some_one None e = cc
some_one (Some x) e = (x, refl)

-- what stops one waiter, at the head of a list of waiters
front_stopped : (xs ys queue : List Request) → ((w : Request) → In w xs → can_be_granted w queue ≡ false) → IsStopped ys queue → IsStopped (xs ++ ys) queue
front_stopped [] ys queue each rest = rest
front_stopped (w ∷ ws) ys queue each rest = each w (inl refl)

head_stopped : (xs ys queue : List Request) (w : Request) (ws : List Request) → xs ≡ w ∷ ws → IsStopped (xs ++ ys) queue → can_be_granted w queue ≡ false
head_stopped xs ys queue w ws are h = subst (λ zs. IsStopped (zs ++ ys) queue) are h

-- the tests of a queue's groups, by what is held and wanted
conversion_wants : (r : Request) → is_in_group Conversions r ≡ true → is_some r.wanted ≡ true
conversion_wants r e = (both_true (is_some r.held) (is_some r.wanted) e).1

new_wants : (r : Request) → is_in_group NewWaiters r ≡ true → is_some r.wanted ≡ true
new_wants r e = (both_true (not (is_some r.held)) (is_some r.wanted) e).1

ahead_of_conversion : (held wanted mine : Option Mode) → is_some mine ≡ true → (is_some wanted && (is_some held || not (is_some mine))) ≡ true → (is_some held && is_some wanted) ≡ true
ahead_of_conversion (Some h) (Some w) mine is e = refl
ahead_of_conversion (Some h) None mine is e = e
ahead_of_conversion None (Some w) (Some m) is e = e
ahead_of_conversion None (Some w) None is e = is
ahead_of_conversion None None mine is e = e

ahead_waits : (held wanted mine : Option Mode) → (is_some wanted && (is_some held || not (is_some mine))) ≡ true → ((is_some held && is_some wanted) ≡ true) ⊎ ((not (is_some held) && is_some wanted) ≡ true)
ahead_waits (Some h) (Some w) mine e = inl refl
ahead_waits None (Some w) mine e = inr refl
ahead_waits held None mine e = absurd (let f : false ≡ true = e in cc)

pub refused_or_ahead : (b c d : Bool) → (not b && (c || d)) ≡ true → ((b ≡ false) × (c ≡ true)) ⊎ ((b ≡ false) × (d ≡ true))
refused_or_ahead true c d e = cc
refused_or_ahead false true d e = inl (refl, refl)
refused_or_ahead false false d e = inr (refl, e)

both_of : (b c : Bool) → b ≡ false → c ≡ true → (not b && c) ≡ true
both_of true c e f = cc
both_of false c e f = f

module _ (t : ℕ) (g : Granule) (mode : Mode) (rs : List Request) (fit : Fit rs) (quiet : is_waiting t rs ≡ false) where
  abbrev begun : Request
  begun = asking t g mode rs

  abbrev queue : List Request
  queue = requests_at g rs

  abbrev after : List Request
  after = removed begun queue ++ begun ∷ []

  -- the transaction's request at the granule holds what the new one holds
  held_alike : (q : Request) → In q queue → are_alike q begun ≡ true → (q.txn ≡ t) × (begun.held ≡ q.held)
  held_alike q h alike =
      let key = (alike-Decides q begun).0 alike in
      let found = request_in rs fit.one q (In-filter (λ r. same_granule r.granule g) rs q h).0 in
      let here : request_for t g rs ≡ Some q = subst (λ u. request_for u g rs ≡ Some q) key.0 (subst (λ k. request_for q.txn k rs ≡ Some q) key.1 found) in
      (key.0, rw here refl)

  wants_apart : (p : Request → Bool) → ((r : Request) → p r ≡ true → is_some r.wanted ≡ true) → filter p (removed begun queue) ≡ filter p queue
  wants_apart p wants =
      filter-swap p (λ q. not (are_alike q begun)) queue
      ∙ filter-all (λ q. not (are_alike q begun)) (filter p queue)
      (λ q h. let x = In-filter p queue q h in let y = In-filter (λ r. same_granule r.granule g) rs q x.0 in
      ⊎_elim (λ alike. absurd (none_waits t rs quiet q y.0 (held_alike q x.0 alike).0 (wants q x.1))) (λ apart. ap not apart) (either (are_alike q begun)))

  -- who refused a waiter still does
  still_refused : (w : Request) → can_be_granted w queue ≡ false → can_be_granted w after ≡ false
  still_refused w e =
      let f = found_any (refuses w) queue (yes_of (list_any (refuses w) queue) e) in
      ap not (⊎_elim
      (λ alike. let k = held_alike f.0 f.1 alike in
      any_of (refuses w) after begun (In-right (removed begun queue) (begun ∷ []) begun (inl refl))
      (subst (λ u. (not (u == w.txn) && is_refused w.wanted begun.held) ≡ true) k.0
      (subst (λ held. (not (f.0.txn == w.txn) && is_refused w.wanted held) ≡ true) (sym k.1) f.2)))
      (λ apart. any_of (refuses w) after f.0 (In-left (removed begun queue) (begun ∷ []) f.0 (filter-In (λ q. not (are_alike q begun)) queue f.0 f.1 (ap not apart))) f.2)
      (either (are_alike f.0 begun)))

  -- who stops the new one, unless by waiting ahead of it, refuses it
  begun_stopped : (o : Request) → In o queue → is_stopped_by begun o ≡ true → (is_ahead begun o ≡ true → ⊥) → can_be_granted begun after ≡ false
  begun_stopped o h stops never =
      ⊎_elim
      (λ x.
      let apart : are_alike o begun ≡ false = ⊎_elim (λ alike. absurd (let yes = (Decides-eqb o.txn t).1 ((alike-Decides o begun).0 alike).0 in let other : (o.txn == t) ≡ false = x.0 in cc)) (λ no. no) (either (are_alike o begun)) in
      ap not (any_of (refuses begun) after o (In-left (removed begun queue) (begun ∷ []) o (filter-In (λ q. not (are_alike q begun)) queue o h (ap not apart)))
      (both_of (o.txn == t) (is_refused begun.wanted o.held) x.0 x.1)))
      (λ x. absurd (never x.1))
      (refused_or_ahead (o.txn == t) (is_refused begun.wanted o.held) (is_ahead begun o) stops)

  stopped_after : (cs ns : List Request) → filter (is_in_group Conversions) queue ≡ cs → filter (is_in_group NewWaiters) queue ≡ ns → IsStopped (cs ++ ns) queue
      → (o : Request) → In o queue → is_stopped_by begun o ≡ true → (held : Option Mode) → mode_held t g rs ≡ held
      → IsStopped ((cs ++ filter (is_in_group Conversions) (begun ∷ [])) ++ (ns ++ filter (is_in_group NewWaiters) (begun ∷ []))) after
  stopped_after (c ∷ cs) ns are_cs are_ns left o h stops held is = still_refused c left
  stopped_after [] ns are_cs are_ns left o h stops (Some m) is =
      let holds : is_some begun.held ≡ true = ap is_some is in
      let alone : filter (is_in_group Conversions) (begun ∷ []) ≡ begun ∷ [] = filter-yes (is_in_group Conversions) begun [] (rw is refl) in
      subst (λ xs. IsStopped (xs ++ (ns ++ filter (is_in_group NewWaiters) (begun ∷ []))) after) (sym alone)
      (begun_stopped o h stops (λ ahead. subst (In o) are_cs (filter-In (is_in_group Conversions) queue o h (ahead_of_conversion o.held o.wanted begun.held holds ahead))))
  stopped_after [] (n ∷ ns) are_cs are_ns left o h stops None is =
      let gone : filter (is_in_group Conversions) (begun ∷ []) ≡ [] = filter-no (is_in_group Conversions) begun [] (rw is refl) in
      subst (λ xs. IsStopped (xs ++ (n ∷ (ns ++ filter (is_in_group NewWaiters) (begun ∷ [])))) after) (sym gone) (still_refused n left)
  stopped_after [] [] are_cs are_ns left o h stops None is =
      let gone : filter (is_in_group Conversions) (begun ∷ []) ≡ [] = filter-no (is_in_group Conversions) begun [] (rw is refl) in
      let alone : filter (is_in_group NewWaiters) (begun ∷ []) ≡ begun ∷ [] = filter-yes (is_in_group NewWaiters) begun [] (rw is refl) in
      subst (λ xs. IsStopped (xs ++ filter (is_in_group NewWaiters) (begun ∷ [])) after) (sym gone)
      (subst (λ xs. IsStopped xs after) (sym alone)
      (begun_stopped o h stops (λ ahead. ⊎_elim
      (λ a. subst (In o) are_cs (filter-In (is_in_group Conversions) queue o h a))
      (λ b. subst (In o) are_ns (filter-In (is_in_group NewWaiters) queue o h b))
      (ahead_waits o.held o.wanted begun.held ahead))))

  queue_after : requests_at g (placed_last begun rs) ≡ after
  queue_after =
      filter-append (λ q. same_granule q.granule g) (removed begun rs) (begun ∷ [])
      ∙ ap (λ xs. xs ++ filter (λ (q : Request). same_granule q.granule g) (begun ∷ [])) (requests_at-removed g begun rs)
      ∙ ap (λ xs. removed begun queue ++ xs) (filter-yes (λ q. same_granule q.granule g) begun [] ((same_granule-Decides g g).1 refl))

  groups_after : (p : Request → Bool) → ((r : Request) → p r ≡ true → is_some r.wanted ≡ true) → filter p after ≡ filter p queue ++ filter p (begun ∷ [])
  groups_after p wants = filter-append p (removed begun queue) (begun ∷ []) ∙ ap (λ xs. xs ++ filter p (begun ∷ [])) (wants_apart p wants)

  stopped_here : (o : Request) → obstacle begun rs ≡ Some o → NoneLeftAt rs g → NoneLeftAt (placed_last begun rs) g
  stopped_here o is left =
      let f = found_in (is_stopped_by begun) queue o is in
      let then = stopped_after (filter (is_in_group Conversions) queue) (filter (is_in_group NewWaiters) queue) refl refl left o f.0 f.1 (mode_held t g rs) refl in
      subst (λ xs. IsStopped (filter (is_in_group Conversions) xs ++ filter (is_in_group NewWaiters) xs) xs) (sym queue_after)
      (subst (λ xs. IsStopped (xs ++ filter (is_in_group NewWaiters) after) after) (sym (groups_after (is_in_group Conversions) conversion_wants))
      (subst (λ xs. IsStopped ((filter (is_in_group Conversions) queue ++ filter (is_in_group Conversions) (begun ∷ [])) ++ xs) after) (sym (groups_after (is_in_group NewWaiters) new_wants)) then))

  pub none_left_placed : is_some (obstacle begun rs) ≡ true → ((h : Granule) → NoneLeftAt rs h) → (h : Granule) → NoneLeftAt (placed_last begun rs) h
  none_left_placed stopped left h =
      ⊎_elim
      (λ yes. let o = some_one (obstacle begun rs) stopped in
      subst (NoneLeftAt (placed_last begun rs)) ((same_granule-Decides g h).0 yes) (stopped_here o.0 o.1 (left g)))
      (λ no. none_left_as h (placed_last begun rs) rs (at_other_placed h begun rs (λ e. let f = (same_granule-Decides g h).1 e in let k : same_granule g h ≡ false = no in cc)) (left h))
      (either (same_granule g h))
