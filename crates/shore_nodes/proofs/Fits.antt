-- What holds of requests member by member, and which changes keep it.
use Rattle.std.proofs.Common.{◌≡◌, ◌⊎◌, inl, inr, ⊎_elim, List, [], ◌∷◌, Bool, true, false, Option, None, Some, refl, ap, sym, subst, ◌∙◌}
use Rattle.std.specs.Prelude.{filter, not, ◌&&◌, ◌||◌, ◌==◌, IsTrue, is_some}
use Rattle.std.specs.List.{list_any}
use Rattle.std.proofs.lemmas.Bool.Decides.{Decides-eqb}
use Rattle.shore_types.specs.declared.locking.Granule.{Granule}
use Rattle.shore_types.specs.declared.locking.Mode.{Mode}
use Rattle.shore_types.specs.Locking.{same_granule}
use Rattle.shore_model.specs.declared.requests.Request.{Request}
use Rattle.shore_model.specs.Modes.{coexist, grants}
use Rattle.shore_model.specs.Requests.{are_alike, AreRequests, requests_at, placed_last}
use Rattle.shore_modes.proofs.ModeTables.{coexist-swap, grants-coexist}
use Rattle.shore_nodes.specs.Tables.{waiters_at}
use Rattle.shore_nodes.specs.Grants.{replaced, removed, granted, withdrawn, granted_in_turn, passed, can_be_granted, refuses, is_refused}
use Rattle.shore_nodes.specs.Orderly.{IsOfUse, IsStopped, Rises}
use Rattle.shore_nodes.proofs.Members.{In, either, All-In, In-filter, filter-In, In-append}
use Rattle.shore_nodes.proofs.Keys.{in_place-yes, in_place-no, same_granule-Decides, AreRequests-filter, AreRequests-append, AreRequests-replaced}
use Rattle.shore_nodes.proofs.Passes.{In-waiters, first_granted}

-- what two holders hold is compatible
abbrev pub StandBoth : Option Mode → Option Mode → Type 0
StandBoth (Some m) (Some n) = IsTrue (coexist m n)
StandBoth _ _ = Unit {0}

pub StandBoth-swap : (a b : Option Mode) → StandBoth a b → StandBoth b a
StandBoth-swap (Some m) (Some n) h = coexist-swap m n h
StandBoth-swap None (Some n) h = tt
StandBoth-swap (Some m) None h = tt
StandBoth-swap None None h = tt

pub record Fit (rs : List Request) : Type 0 where
  pub one : AreRequests rs
  pub pairs : (a b : Request) → In a rs → In b rs → a.granule ≡ b.granule → (a.txn ≡ b.txn → ⊥) → StandBoth a.held b.held
  pub of_use : (a : Request) → In a rs → IsOfUse a
  pub rising : (a : Request) → In a rs → Rises a.held a.wanted
  pub once : (a b : Request) → In a rs → In b rs → a.txn ≡ b.txn → is_some a.wanted ≡ true → is_some b.wanted ≡ true → a ≡ b

-- a new request, and others that stood before
pub record Joins (rs : List Request) (r : Request) : Type 0 where
  pub of_use : IsOfUse r
  pub rising : Rises r.held r.wanted
  pub pairs : (q : Request) → In q rs → r.granule ≡ q.granule → (r.txn ≡ q.txn → ⊥) → StandBoth r.held q.held
  pub once : (q : Request) → In q rs → are_alike q r ≡ false → r.txn ≡ q.txn → is_some r.wanted ≡ true → is_some q.wanted ≡ true → ⊥

pub Fit-join : (rs new : List Request) (r : Request) → Fit rs → AreRequests new → Joins rs r
    → ((a : Request) → In a new → (a ≡ r) ⊎ (In a rs × (are_alike a r ≡ false))) → Fit new
Fit-join rs new r fit one joins from = record {
  one = one;
  pairs = λ a b in_a in_b g t.
      ⊎_elim
      (λ ra. ⊎_elim (λ rb. absurd (t (ap (λ (x : Request). x.txn) (ra ∙ sym rb))))
      (λ ob. subst (λ (x : Request). StandBoth x.held b.held) (sym ra)
      (joins.pairs b ob.0 (sym (ap (λ (x : Request). x.granule) ra) ∙ g) (λ e. t (ap (λ (x : Request). x.txn) ra ∙ e)))) (from b in_b))
      (λ oa. ⊎_elim
      (λ rb. subst (λ (x : Request). StandBoth a.held x.held) (sym rb)
      (StandBoth-swap r.held a.held (joins.pairs a oa.0 (sym (ap (λ (x : Request). x.granule) rb) ∙ sym g) (λ e. t (sym e ∙ sym (ap (λ (x : Request). x.txn) rb))))))
      (λ ob. fit.pairs a b oa.0 ob.0 g t) (from b in_b))
      (from a in_a);
  of_use = λ a h. ⊎_elim (λ e. subst IsOfUse (sym e) joins.of_use) (λ o. fit.of_use a o.0) (from a h);
  rising = λ a h. ⊎_elim (λ e. subst (λ (x : Request). Rises x.held x.wanted) (sym e) joins.rising) (λ o. fit.rising a o.0) (from a h);
  once = λ a b in_a in_b t wa wb.
      ⊎_elim
      (λ ra. ⊎_elim (λ rb. ra ∙ sym rb)
      (λ ob. absurd (joins.once b ob.0 ob.1 (sym (ap (λ (x : Request). x.txn) ra) ∙ t) (subst (λ (x : Request). is_some x.wanted ≡ true) ra wa) wb)) (from b in_b))
      (λ oa. ⊎_elim
      (λ rb. absurd (joins.once a oa.0 oa.1 (sym (ap (λ (x : Request). x.txn) rb) ∙ sym t) (subst (λ (x : Request). is_some x.wanted ≡ true) rb wb) wa))
      (λ ob. fit.once a b oa.0 ob.0 t wa wb) (from b in_b))
      (from a in_a);
}

pub Fit-filter : (p : Request → Bool) (rs : List Request) → Fit rs → Fit (filter p rs)
Fit-filter p rs fit = record {
  one = AreRequests-filter p rs fit.one;
  pairs = λ a b x y. fit.pairs a b (In-filter p rs a x).0 (In-filter p rs b y).0;
  of_use = λ a x. fit.of_use a (In-filter p rs a x).0;
  rising = λ a x. fit.rising a (In-filter p rs a x).0;
  once = λ a b x y. fit.once a b (In-filter p rs a x).0 (In-filter p rs b y).0;
}

pub In-replaced : (r : Request) (rs : List Request) (a : Request) → In a (replaced r rs) → (a ≡ r) ⊎ (In a rs × (are_alike a r ≡ false))
In-replaced r [] a h = absurd h
In-replaced r (q ∷ rs) a h =
    ⊎_elim
    (λ e. ⊎_elim
    (λ yes. inl (sym e ∙ in_place-yes r q yes))
    (λ no. let same : q ≡ a = sym (in_place-no r q no) ∙ e in inr (inl same, subst (λ x. are_alike x r ≡ false) same no))
    (either (are_alike q r)))
    (λ t. ⊎_elim (λ x. inl x) (λ x. inr (inr x.0, x.1)) (In-replaced r rs a t))
    h

apart_of : (r q : Request) → not (are_alike q r) ≡ true → are_alike q r ≡ false
apart_of r q e = ⊎_elim (λ yes. absurd (let f : not (are_alike q r) ≡ false = ap not yes in cc)) (λ no. no) (either (are_alike q r))

pub In-placed : (r : Request) (rs : List Request) (a : Request) → In a (placed_last r rs) → (a ≡ r) ⊎ (In a rs × (are_alike a r ≡ false))
In-placed r rs a h =
    ⊎_elim
    (λ x. let y = In-filter (λ q. not (are_alike q r)) rs a x in inr (y.0, apart_of r a y.1))
    (λ x. ⊎_elim (λ e. inl (sym e)) (λ none. absurd none) x)
    (In-append (removed r rs) (r ∷ []) a h)

pub AreRequests-placed : (r : Request) (rs : List Request) → AreRequests rs → AreRequests (placed_last r rs)
AreRequests-placed r rs one =
    AreRequests-append (removed r rs) (r ∷ []) (AreRequests-filter (λ q. not (are_alike q r)) rs one) (All-In (λ o. are_alike r o ≡ false) [] (λ x h. absurd h), tt)
    (λ a b in_a in_b. ⊎_elim (λ e. subst (λ x. are_alike a x ≡ false) e (apart_of r a (In-filter (λ q. not (are_alike q r)) rs a in_a).1)) (λ none. absurd none) in_b)

-- an element of which a test is true
pub any_of : {A : Type 0} (p : A → Bool) (xs : List A) (x : A) → In x xs → p x ≡ true → list_any p xs ≡ true
any_of p [] x h e = absurd h
any_of p (y ∷ ys) x h e =
    ⊎_elim (λ same. let e : p y ≡ true = ap p same ∙ e in rw e refl)
    (λ t. let rest = any_of p ys x t e in ⊎_elim (λ yes. rw yes refl) (λ no. rw no rest) (either (p y))) h

pub found_any : {A : Type 0} (p : A → Bool) (xs : List A) → list_any p xs ≡ true → (x : A) × In x xs × (p x ≡ true)
found_any p [] e = cc
found_any p (y ∷ ys) e =
    ⊎_elim (λ yes. (y, inl refl, yes))
    (λ no. let rest : list_any p ys ≡ true = rw no at e in let r = found_any p ys rest in (r.0, inr r.1, r.2)) (either (p y))

pub none_any : {A : Type 0} (p : A → Bool) (xs : List A) → list_any p xs ≡ false → (x : A) → In x xs → p x ≡ false
none_any p xs e x h = ⊎_elim (λ yes. absurd (let f = any_of p xs x h yes in cc)) (λ no. no) (either (p x))

pub granted_of : (b : Bool) → not b ≡ false → IsTrue b
granted_of true e = refl
granted_of false e = cc

pub no_of : (b : Bool) → not b ≡ true → b ≡ false
no_of true e = cc
no_of false e = refl

pub granted_first : (w : Request) (ws rs : List Request) → can_be_granted w (requests_at w.granule rs) ≡ true → granted_in_turn (w ∷ ws) rs ≡ granted_in_turn ws (replaced (granted w) rs)
granted_first w ws rs can = rw can refl

pub granted_none : (w : Request) (ws rs : List Request) → can_be_granted w (requests_at w.granule rs) ≡ false → granted_in_turn (w ∷ ws) rs ≡ rs
granted_none w ws rs cannot = rw cannot refl

refused_apart : (b c : Bool) → (not b && c) ≡ false → b ≡ false → c ≡ false
refused_apart b c e other = let f : (not b && c) ≡ c = rw other refl in sym f ∙ e

pub stands_as_granted : (wanted held : Option Mode) → is_refused wanted held ≡ false → StandBoth wanted held
stands_as_granted (Some asked) (Some held) e = coexist-swap held asked (grants-coexist held asked (granted_of (grants held asked) e))
stands_as_granted None (Some held) e = tt
stands_as_granted (Some asked) None e = tt
stands_as_granted None None e = tt

pub of_use_held : (held wanted : Option Mode) → is_some held ≡ true → IsTrue (is_some held || is_some wanted)
of_use_held None wanted e = cc
of_use_held (Some m) wanted e = refl

pub rises_none : (held : Option Mode) → Rises held None
rises_none None = tt
rises_none (Some m) = tt

pub wants_nothing : (wanted : Option Mode) → wanted ≡ None → is_some wanted ≡ true → ⊥
wants_nothing None n e = cc
wants_nothing (Some m) n e = cc

-- a waiter that can be granted joins the others
pub Joins-granted : (rs : List Request) (w : Request) → is_some w.wanted ≡ true → can_be_granted w (requests_at w.granule rs) ≡ true → Joins rs (granted w)
Joins-granted rs w wants can = record {
  of_use = of_use_held w.wanted None wants;
  rising = rises_none w.wanted;
  pairs = λ q in_q g t.
      let here : In q (requests_at w.granule rs) = filter-In (λ r. same_granule r.granule w.granule) rs q in_q ((same_granule-Decides q.granule w.granule).1 (sym g)) in
      let nobody : list_any (refuses w) (requests_at w.granule rs) ≡ false = no_of (list_any (refuses w) (requests_at w.granule rs)) can in
      let mild : refuses w q ≡ false = none_any (refuses w) (requests_at w.granule rs) nobody q here in
      let other : (q.txn == w.txn) ≡ false = ⊎_elim (λ yes. absurd (t (sym ((Decides-eqb q.txn w.txn).0 yes)))) (λ no. no) (either (q.txn == w.txn)) in
      stands_as_granted w.wanted q.held (refused_apart (q.txn == w.txn) (is_refused w.wanted q.held) mild other);
  once = λ q in_q apart t wants. absurd (wants_nothing None refl wants);
}

-- a request that waits no more joins the others as it held before
pub Joins-withdrawn : (rs : List Request) (w : Request) → Fit rs → In w rs → is_some w.held ≡ true → Joins rs (withdrawn w)
Joins-withdrawn rs w fit in_w holds = record {
  of_use = of_use_held w.held None holds;
  rising = rises_none w.held;
  pairs = λ q in_q g t. fit.pairs w q in_w in_q g t;
  once = λ q in_q apart t wants. absurd (wants_nothing None refl wants);
}

pub Fit-granted : (rs : List Request) (w : Request) → Fit rs → is_some w.wanted ≡ true → can_be_granted w (requests_at w.granule rs) ≡ true → Fit (replaced (granted w) rs)
Fit-granted rs w fit wants can =
    Fit-join rs (replaced (granted w) rs) (granted w) fit (AreRequests-replaced (granted w) rs fit.one) (Joins-granted rs w wants can) (In-replaced (granted w) rs)

pub Fit-withdrawn : (rs : List Request) (w : Request) → Fit rs → In w rs → is_some w.held ≡ true → Fit (replaced (withdrawn w) rs)
Fit-withdrawn rs w fit in_w holds =
    Fit-join rs (replaced (withdrawn w) rs) (withdrawn w) fit (AreRequests-replaced (withdrawn w) rs fit.one) (Joins-withdrawn rs w fit in_w holds) (In-replaced (withdrawn w) rs)

-- what a grant pass keeps, each of its grants keeps
pub pass_keeps : (P : List Request → Type 0) (g : Granule)
    → ((rs : List Request) (w : Request) → P rs → AreRequests rs → In w rs → w.granule ≡ g → is_some w.wanted ≡ true → can_be_granted w (requests_at w.granule rs) ≡ true → P (replaced (granted w) rs))
    → (ws rs : List Request) → AreRequests rs → waiters_at g rs ≡ ws → P rs → P (granted_in_turn ws rs)
pass_keeps P g step [] rs one are p = p
pass_keeps P g step (w ∷ ws) rs one are p =
    let here = In-waiters g rs w (subst (In w) (sym are) (inl refl)) in
    ⊎_elim
    (λ can. subst P (sym (granted_first w ws rs can))
    (pass_keeps P g step ws (replaced (granted w) rs) (AreRequests-replaced (granted w) rs one) (first_granted g rs w ws one are) (step rs w p one here.0 here.1 here.2 can)))
    (λ cannot. subst P (sym (granted_none w ws rs cannot)) p)
    (either (can_be_granted w (requests_at w.granule rs)))

pub Fit-passed : (g : Granule) (rs : List Request) → Fit rs → Fit (passed g rs)
Fit-passed g rs fit = pass_keeps Fit g (λ rs w fit one in_w at wants can. Fit-granted rs w fit wants can) (waiters_at g rs) rs fit.one refl fit

-- after a pass the first of those that still wait cannot be granted
pub pass_leaves_none : (g : Granule) (ws rs : List Request) → AreRequests rs → waiters_at g rs ≡ ws → IsStopped (waiters_at g (granted_in_turn ws rs)) (requests_at g (granted_in_turn ws rs))
pass_leaves_none g [] rs one are = subst (λ xs. IsStopped xs (requests_at g rs)) (sym are) tt
pass_leaves_none g (w ∷ ws) rs one are =
    let here = In-waiters g rs w (subst (In w) (sym are) (inl refl)) in
    ⊎_elim
    (λ can. subst (λ new. IsStopped (waiters_at g new) (requests_at g new)) (sym (granted_first w ws rs can))
    (pass_leaves_none g ws (replaced (granted w) rs) (AreRequests-replaced (granted w) rs one) (first_granted g rs w ws one are)))
    (λ cannot. subst (λ new. IsStopped (waiters_at g new) (requests_at g new)) (sym (granted_none w ws rs cannot))
    (subst (λ xs. IsStopped xs (requests_at g rs)) (sym are) (subst (λ h. can_be_granted w (requests_at h rs) ≡ false) here.1 cannot)))
    (either (can_be_granted w (requests_at w.granule rs)))
