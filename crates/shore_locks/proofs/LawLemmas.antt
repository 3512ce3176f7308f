-- Laws over the list of requests.
use Rattle.std.proofs.Common.{◌≡◌, inl, ⊎_elim, ℕ, suc, List, [], ◌∷◌, Bool, true, false, Option, None, Some, refl, ap, sym, subst, ◌∙◌, drop}
use Rattle.std.specs.Prelude.{filter, not, ◌==◌, IsSomeAnd, slice_get}
use Rattle.std.specs.List.{list_any}
use Rattle.std.proofs.lemmas.Bool.Decides.{Decides-eqb}
use Rattle.shore_types.specs.declared.locking.Granule.{Granule}
use Rattle.shore_types.specs.declared.locking.Mode.{Mode}
use Rattle.shore_model.specs.declared.requests.Request.{Request}
use Rattle.shore_model.specs.Modes.{grants}
use Rattle.shore_model.specs.Requests.{are_alike, AreRequests, requests_at, requests_by}
use Rattle.shore_nodes.specs.Tables.{waiters_at}
use Rattle.shore_locks.specs.Grants.{can_be_granted, given_up, granted, granted_in_turn, is_refused, passed, refuses, released, removed, replaced}
use Rattle.shore_locks.specs.Laws.{FirstWaitersAreRefused, GrantsABeginning, of_others, owners}
use Rattle.shore_nodes.specs.Orderly.{IsOrderly, IsStopped}
use Rattle.shore_nodes.proofs.Members.{In, either, In-filter, filter-In, In-Contains, filter-yes, filter-no, filter-all, filter-swap}
use Rattle.shore_nodes.proofs.Keys.{in_place-keys, alike-Decides, AreRequests-replaced}
use Rattle.shore_nodes.proofs.Passes.{first_granted}
use Rattle.shore_nodes.proofs.Fits.{found_any, pass_keeps, granted_first, granted_none}
use Rattle.shore_nodes.proofs.Counts.{AreRequests-passed, AreRequests-removed, first_gone, not_of}
use Rattle.shore_nodes.proofs.Entering.{both_true}

no_from : (b : Bool) → not b ≡ true → b ≡ false
no_from true e = cc
no_from false e = refl

pub refused_means : (wanted held : Option Mode) → is_refused wanted held ≡ true → IsSomeAnd wanted (λ asked. IsSomeAnd held (λ mode. grants mode asked ≡ false))
refused_means (Some asked) (Some held) e = no_from (grants held asked) e
refused_means (Some asked) None e = cc
refused_means None (Some held) e = cc
refused_means None None e = cc

stopped_front : (ws queue : List Request) (w : Request) → slice_get ws 0 ≡ Some w → IsStopped ws queue → can_be_granted w queue ≡ false
stopped_front [] queue w e s = cc
stopped_front (x ∷ xs) queue w e s = let same : x ≡ w = cc in subst (λ y. can_be_granted y queue ≡ false) same s

pub first_refused : (rs : List Request) → IsOrderly rs → FirstWaitersAreRefused rs
first_refused rs orderly g w e =
    let stop = stopped_front (waiters_at g rs) (requests_at g rs) w e (orderly.none_left g) in
    let f = found_any (refuses w) (requests_at g rs) (not_of (list_any (refuses w) (requests_at g rs)) stop) in
    let parts = both_true (not (f.0.txn == w.txn)) (is_refused w.wanted f.0.held) f.2 in
    let there = In-Contains (requests_at g rs) f.0 f.1 in (
      there.0,
      f.0,
      there.1,
      there.2,
      (
        (λ same. let yes = (Decides-eqb f.0.txn w.txn).1 same in let other : not (f.0.txn == w.txn) ≡ false = ap not yes in cc),
        refused_means w.wanted f.0.held parts.1,
      ),
    )

beginning : (g : Granule) (ws rs : List Request) → AreRequests rs → waiters_at g rs ≡ ws → (n : ℕ) × (waiters_at g (granted_in_turn ws rs) ≡ drop n ws)
beginning g [] rs one are = (0, are)
beginning g (w ∷ ws) rs one are =
    ⊎_elim
    (λ can. let r = beginning g ws (replaced (granted w) rs) (AreRequests-replaced (granted w) rs one) (first_granted g rs w ws one are) in
    (suc r.0, ap (waiters_at g) (granted_first w ws rs can) ∙ r.1))
    (λ cannot. (0, ap (waiters_at g) (granted_none w ws rs cannot) ∙ are))
    (either (can_be_granted w (requests_at w.granule rs)))

pub pass_beginning : (rs : List Request) (g : Granule) → AreRequests rs → GrantsABeginning rs g
pass_beginning rs g one = beginning g (waiters_at g rs) rs one refl

owners-replaced : (r : Request) (rs : List Request) → owners (replaced r rs) ≡ owners rs
owners-replaced r [] = refl
owners-replaced r (q ∷ rs) = λ i. ((in_place-keys r q).0 i, (in_place-keys r q).1 i) ∷ owners-replaced r rs i

owners-passed : (g : Granule) (rs : List Request) → AreRequests rs → owners (passed g rs) ≡ owners rs
owners-passed g rs one =
    pass_keeps (λ xs. owners xs ≡ owners rs) g (λ xs w same ones in_w at wants can. owners-replaced (granted w) xs ∙ same) (waiters_at g rs) rs one refl refl

-- a test of keys keeps the owners that it passes
owners-filter : (p : Request → Bool) (q : ℕ × Granule → Bool) → ((r : Request) → p r ≡ q (r.txn, r.granule)) → (rs : List Request) → owners (filter p rs) ≡ filter q (owners rs)
owners-filter p q same [] = refl
owners-filter p q same (r ∷ rs) =
    ⊎_elim
    (λ yes. ap owners (filter-yes p r rs yes) ∙ ap (λ xs. (r.txn, r.granule) ∷ xs) (owners-filter p q same rs) ∙ sym (filter-yes q (r.txn, r.granule) (owners rs) (sym (same r) ∙ yes)))
    (λ other. ap owners (filter-no p r rs other) ∙ owners-filter p q same rs ∙ sym (filter-no q (r.txn, r.granule) (owners rs) (sym (same r) ∙ other)))
    (either (p r))

others_owners : (t : ℕ) (rs : List Request) → owners (of_others t rs) ≡ filter (λ k. not (k.0 == t)) (owners rs)
others_owners t rs = owners-filter (λ r. not (r.txn == t)) (λ k. not (k.0 == t)) (λ r. refl) rs

others_without : (t : ℕ) (r : Request) (rs : List Request) → r.txn ≡ t → of_others t (removed r rs) ≡ of_others t rs
others_without t r rs by =
    filter-swap (λ q. not (q.txn == t)) (λ q. not (are_alike q r)) rs
    ∙ filter-all (λ q. not (are_alike q r)) (of_others t rs)
    (λ q h. let apart = (In-filter (λ x. not (x.txn == t)) rs q h).1 in
    ap not (⊎_elim (λ yes. absurd (let its = (Decides-eqb q.txn t).1 (((alike-Decides q r).0 yes).0 ∙ by) in let gone : not (q.txn == t) ≡ false = ap not its in cc)) (λ other. other) (either (are_alike q r))))

gone_by : (t : ℕ) (mine rs : List Request) → AreRequests rs → requests_by t rs ≡ mine → owners (given_up mine rs) ≡ filter (λ k. not (k.0 == t)) (owners rs)
gone_by t [] rs one are =
    sym (ap owners (filter-all (λ r. not (r.txn == t)) rs (λ q h. ⊎_elim (λ its. absurd (subst (In q) are (filter-In (λ r. r.txn == t) rs q h its))) (λ other. ap not other) (either (q.txn == t)))))
    ∙ others_owners t rs
gone_by t (r ∷ mine) rs one are =
    let by : r.txn ≡ t = (Decides-eqb r.txn t).0 (In-filter (λ q. q.txn == t) rs r (subst (In r) (sym are) (inl refl))).1 in
    let first : Some r ≡ slice_get (requests_by t rs) 0 = ap (λ xs. slice_get xs 0) (sym are) in
    let left = first_gone t rs r one first ∙ ap (drop 1) are in
    gone_by t mine (passed r.granule (removed r rs)) (AreRequests-passed r.granule (removed r rs) (AreRequests-removed r rs one)) left
    ∙ ap (filter (λ k. not (k.0 == t))) (owners-passed r.granule (removed r rs) (AreRequests-removed r rs one))
    ∙ sym (others_owners t (removed r rs)) ∙ ap owners (others_without t r rs by) ∙ others_owners t rs

pub released_own : (rs : List Request) (t : ℕ) → AreRequests rs → owners (released t rs) ≡ owners (of_others t rs)
released_own rs t one = gone_by t (requests_by t rs) rs one refl ∙ sym (others_owners t rs)
