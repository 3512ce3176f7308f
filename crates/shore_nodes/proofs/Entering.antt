-- A transaction's request comes into the list: it begins to wait, or it is granted at once.
use Rattle.std.proofs.Common.{◌++◌, ◌≡◌, ◌⊎◌, inl, inr, ⊎_elim, ℕ, List, [], ◌∷◌, Bool, true, false, Option, None, Some, refl, ap, sym, subst, ◌∙◌}
use Rattle.std.specs.Prelude.{not, ◌&&◌, ◌||◌, ◌==◌, is_some, find, IsTrue}
use Rattle.std.specs.List.{list_any}
use Rattle.std.specs.Option.{option_and_then, option_map}
use Rattle.std.proofs.lemmas.Bool.Decides.{Decides-eqb}
use Rattle.shore_types.specs.declared.locking.Granule.{Granule}
use Rattle.shore_types.specs.declared.locking.Mode.{Mode}
use Rattle.shore_types.specs.Locking.{same_granule}
use Rattle.shore_model.specs.declared.requests.Request.{Request}
use Rattle.shore_model.specs.Requests.{are_alike, AreRequests, requests_at, placed_last}
use Rattle.shore_modes.proofs.ModeTables.{sup_least}
use Rattle.shore_nodes.specs.Tables.{is_for, request_for, mode_held, waiting_request, is_waiting}
use Rattle.shore_nodes.specs.Grants.{removed, put, granted, asking, wanted_mode, is_refused, is_stopped_by, is_ahead, obstacle}
use Rattle.shore_nodes.specs.Orderly.{Rises}
use Rattle.shore_nodes.proofs.Members.{In, either, All-In, In-filter, filter-In, In-append}
use Rattle.shore_nodes.proofs.Keys.{alike-self, same_granule-Decides, only_one, AreRequests-append, AreRequests-replaced}
use Rattle.shore_nodes.proofs.Fits.{Fit, Fit-join, Joins, StandBoth, In-replaced, In-placed, AreRequests-placed, found_any, none_any, stands_as_granted, rises_none, of_use_held, wants_nothing}
use Rattle.shore_nodes.proofs.Others.{put_in_place, put_last, removed_none}

pub found_in : {A : Type 0} (p : A → Bool) (xs : List A) (x : A) → find p xs ≡ Some x → In x xs × (p x ≡ true)
found_in p [] x e = cc
found_in p (y ∷ ys) x e =
    ⊎_elim
    (λ yes. let here : Some y ≡ Some x = rw yes at e in let same : y ≡ x = cc in (inl same, sym (ap p same) ∙ yes))
    (λ other. let there : find p ys ≡ Some x = rw other at e in let r = found_in p ys x there in (inr r.0, r.1))
    (either (p y))

pub found_none : {A : Type 0} (p : A → Bool) (xs : List A) → find p xs ≡ None → (x : A) → In x xs → p x ≡ false
found_none p [] e x h = absurd h
found_none p (y ∷ ys) e x h =
    ⊎_elim
    (λ yes. absurd (let here : Some y ≡ None = rw yes at e in cc))
    (λ other. let there : find p ys ≡ None = rw other at e in ⊎_elim (λ same. sym (ap p same) ∙ other) (λ t. found_none p ys there x t) h)
    (either (p y))

pub find_step : {A : Type 0} (p : A → Bool) (x : A) (xs : List A) → p x ≡ false → find p (x ∷ xs) ≡ find p xs
find_step p x xs e = rw e refl

pub find_here : {A : Type 0} (p : A → Bool) (x : A) (xs : List A) → p x ≡ true → find p (x ∷ xs) ≡ Some x
find_here p x xs e = rw e refl

-- a request that is in the list is the one found
pub request_in : (rs : List Request) → AreRequests rs → (q : Request) → In q rs → request_for q.txn q.granule rs ≡ Some q
request_in [] one q h = absurd h
request_in (x ∷ xs) one q h =
    ⊎_elim
    (λ yes. find_here (is_for q.txn q.granule) x xs yes ∙ ap Some (only_one (x ∷ xs) one x q (inl refl) h yes))
    (λ other. find_step (is_for q.txn q.granule) x xs other
    ∙ ⊎_elim
    (λ same. absurd (let self = alike-self q in let not_self : are_alike q q ≡ false = subst (λ y. are_alike y q ≡ false) same other in cc))
    (λ t. request_in xs one.1 q t) h)
    (either (is_for q.txn q.granule x))

pub nothing : {A : Type 0} (o : Option A) → is_some o ≡ false → o ≡ None
nothing None e = refl
nothing (Some x) e = cc

both_false : (b c : Bool) → (b && c) ≡ false → b ≡ true → c ≡ true → ⊥
both_false true true e f g = cc
both_false true false e f g = cc
both_false false c e f g = cc

pub both_true : (b c : Bool) → (b && c) ≡ true → (b ≡ true) × (c ≡ true)
both_true true c e = (refl, e)
both_true false c e = cc

first_false : (b c d : Bool) → (not b && (c || d)) ≡ false → b ≡ false → c ≡ false
first_false true c d e f = cc
first_false false false d e f = refl
first_false false true d e f = cc

tt_for : (held : Option Mode) → StandBoth None held
tt_for None = tt
tt_for (Some m) = tt

pub held_in : (o : Option Request) (m : Mode) → option_and_then (λ (r : Request). r.held) o ≡ Some m → (e : Request) × (o ≡ Some e) × (e.held ≡ Some m)
held_in None m e = cc
held_in (Some r) m e = (r, refl, e)

pub rises_to_wanted : (held : Option Mode) (mode : Mode) → Rises held (Some (wanted_mode held mode))
rises_to_wanted None mode = tt
rises_to_wanted (Some h) mode = (sup_least h mode).left

wants_use : (held : Option Mode) (m : Mode) → IsTrue (is_some held || is_some (Some m))
wants_use None m = refl
wants_use (Some h) m = refl

-- the facts of a transaction's request that waits nowhere yet
pub none_waits : (t : ℕ) (rs : List Request) → is_waiting t rs ≡ false → (q : Request) → In q rs → q.txn ≡ t → is_some q.wanted ≡ true → ⊥
none_waits t rs quiet q in_q by wants =
    let nowhere : waiting_request t rs ≡ None = nothing (waiting_request t rs) quiet in
    let refuted = found_none (λ r. (r.txn == t) && is_some r.wanted) rs nowhere q in_q in
    both_false (q.txn == t) (is_some q.wanted) refuted ((Decides-eqb q.txn t).1 by) wants

stands_as_held : (t : ℕ) (g : Granule) (rs : List Request) → Fit rs → (q : Request) → In q rs → g ≡ q.granule → (t ≡ q.txn → ⊥) → (held : Option Mode) → mode_held t g rs ≡ held → StandBoth held q.held
stands_as_held t g rs fit q in_q at other None is = tt_for q.held
stands_as_held t g rs fit q in_q at other (Some m) is =
    let e = held_in (request_for t g rs) m is in
    let f = found_in (is_for t g) rs e.0 e.1 in
    let key = both_true (e.0.txn == t) (same_granule e.0.granule g) f.1 in
    let by = (Decides-eqb e.0.txn t).0 key.0 in
    let there = (same_granule-Decides e.0.granule g).0 key.1 in
    subst (λ held. StandBoth held q.held) e.2 (fit.pairs e.0 q f.0 in_q (there ∙ at) (λ same. other (sym by ∙ same)))

pub Joins-asking : (t : ℕ) (g : Granule) (mode : Mode) (rs : List Request) → Fit rs → is_waiting t rs ≡ false → Joins rs (asking t g mode rs)
Joins-asking t g mode rs fit quiet = record {
  of_use = wants_use (mode_held t g rs) (wanted_mode (mode_held t g rs) mode);
  rising = rises_to_wanted (mode_held t g rs) mode;
  pairs = λ q in_q at other. stands_as_held t g rs fit q in_q at other (mode_held t g rs) refl;
  once = λ q in_q apart by wants waits. none_waits t rs quiet q in_q (sym by) waits;
}

pub Fit-placed : (t : ℕ) (g : Granule) (mode : Mode) (rs : List Request) → Fit rs → is_waiting t rs ≡ false → Fit (placed_last (asking t g mode rs) rs)
Fit-placed t g mode rs fit quiet =
    Fit-join rs (placed_last (asking t g mode rs) rs) (asking t g mode rs) fit (AreRequests-placed (asking t g mode rs) rs fit.one) (Joins-asking t g mode rs fit quiet)
    (In-placed (asking t g mode rs) rs)

-- one for whom nobody is in the way joins as a holder
pub Joins-at_once : (t : ℕ) (g : Granule) (mode : Mode) (rs : List Request) → obstacle (asking t g mode rs) rs ≡ None → Joins rs (granted (asking t g mode rs))
Joins-at_once t g mode rs free = record {
  of_use = of_use_held (Some (wanted_mode (mode_held t g rs) mode)) None refl;
  rising = rises_none (Some (wanted_mode (mode_held t g rs) mode));
  pairs = λ q in_q at other.
      let here = filter-In (λ r. same_granule r.granule g) rs q in_q ((same_granule-Decides q.granule g).1 (sym at)) in
      let mild = found_none (is_stopped_by (asking t g mode rs)) (requests_at g rs) free q here in
      let apart : (q.txn == t) ≡ false = ⊎_elim (λ yes. absurd (other (sym ((Decides-eqb q.txn t).0 yes)))) (λ no. no) (either (q.txn == t)) in
      stands_as_granted (Some (wanted_mode (mode_held t g rs) mode)) q.held
      (first_false (q.txn == t) (is_refused (Some (wanted_mode (mode_held t g rs) mode)) q.held) (is_ahead (asking t g mode rs) q) mild apart);
  once = λ q in_q apart by wants waits. wants_nothing None refl wants;
}

pub In-put : (r : Request) (rs : List Request) (a : Request) → In a (put r rs) → (a ≡ r) ⊎ (In a rs × (are_alike a r ≡ false))
In-put r rs a h =
    ⊎_elim
    (λ yes. In-replaced r rs a (subst (In a) (put_in_place r rs yes) h))
    (λ none. ⊎_elim (λ x. inr (x, none_any (λ q. are_alike q r) rs none a x)) (λ x. ⊎_elim (λ e. inl (sym e)) (λ nowhere. absurd nowhere) x)
    (In-append rs (r ∷ []) a (subst (In a) (put_last r rs none) h)))
    (either (list_any (λ q. are_alike q r) rs))

pub AreRequests-put : (r : Request) (rs : List Request) → AreRequests rs → AreRequests (put r rs)
AreRequests-put r rs one =
    ⊎_elim
    (λ yes. subst AreRequests (sym (put_in_place r rs yes)) (AreRequests-replaced r rs one))
    (λ none. subst AreRequests (sym (put_last r rs none))
    (AreRequests-append rs (r ∷ []) one (All-In (λ o. are_alike r o ≡ false) [] (λ x h. absurd h), tt)
    (λ a b in_a in_b. ⊎_elim (λ e. subst (λ x. are_alike a x ≡ false) e (none_any (λ q. are_alike q r) rs none a in_a)) (λ nowhere. absurd nowhere) in_b)))
    (either (list_any (λ q. are_alike q r) rs))

pub Fit-put : (t : ℕ) (g : Granule) (mode : Mode) (rs : List Request) → Fit rs → obstacle (asking t g mode rs) rs ≡ None → Fit (put (granted (asking t g mode rs)) rs)
Fit-put t g mode rs fit free =
    Fit-join rs (put (granted (asking t g mode rs)) rs) (granted (asking t g mode rs)) fit (AreRequests-put (granted (asking t g mode rs)) rs fit.one)
    (Joins-at_once t g mode rs free) (In-put (granted (asking t g mode rs)) rs)

-- what is put if none alike is there goes last
pub put_after_removed : (r : Request) (rs : List Request) → put r (removed r rs) ≡ placed_last r rs
put_after_removed r rs =
    put_last r (removed r rs) (⊎_elim
    (λ yes. let f = found_any (λ q. are_alike q r) (removed r rs) yes in
    let gone = (In-filter (λ q. not (are_alike q r)) rs f.0 f.1).1 in absurd (let here : not (are_alike f.0 r) ≡ false = ap not f.2 in cc))
    (λ no. no) (either (list_any (λ q. are_alike q r) (removed r rs))))

-- one is found if and only if some pass
pub found_any_same : {A : Type 0} (p : A → Bool) (xs : List A) → is_some (find p xs) ≡ list_any p xs
found_any_same p [] = refl
found_any_same p (x ∷ xs) = ⊎_elim (λ yes. rw yes refl) (λ no. rw no (found_any_same p xs)) (either (p x))

-- a transaction has a node for the granule if one in the list is alike
pub known_as : (t : ℕ) (g : Granule) (mode : Mode) (rs : List Request) (r : Request) (known : Bool) → r ≡ asking t g mode rs → known ≡ is_some (request_for t g rs) → known ≡ list_any (λ q. are_alike q r) rs
known_as t g mode rs r known is found = found ∙ found_any_same (is_for t g) rs ∙ ap (λ x. list_any (λ q. are_alike q x) rs) (sym is)

pub some_from : {A B : Type 0} (f : A → B) (o : Option A) (y : B) → option_map f o ≡ Some y → is_some o ≡ true
some_from f None y e = cc
some_from f (Some x) y e = refl

-- if none is alike, one placed last comes last
pub placed_new : (r : Request) (rs : List Request) → list_any (λ q. are_alike q r) rs ≡ false → rs ++ r ∷ [] ≡ placed_last r rs
placed_new r rs none = ap (λ xs. xs ++ r ∷ []) (sym (removed_none r rs (λ q h. none_any (λ x. are_alike x r) rs none q h)))
