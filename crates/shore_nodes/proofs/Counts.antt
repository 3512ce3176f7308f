-- How many requests there are, and which a transaction has.
use Rattle.std.proofs.Common.{◌≡◌, ◌⊎◌, ◌≤◌, ◌<◌, inl, inr, ⊎_elim, ℕ, suc, List, [], ◌∷◌, Bool, true, false, Some, refl, ap, sym, subst, ◌∙◌, length, drop, arith}
use Rattle.std.specs.Prelude.{filter, not, cond, ◌&&◌, ◌==◌, is_some, slice_get, nat_lt}
use Rattle.std.specs.List.{list_any}
use Rattle.std.proofs.lemmas.List.{length-map, length_push}
use borrow.Author.Tests.{ltb-true}
use Rattle.std.proofs.lemmas.Bool.Decides.{Decides-eqb}
use Rattle.shore_types.specs.declared.locking.Granule.{Granule}
use Rattle.shore_model.specs.declared.requests.Request.{Request}
use Rattle.shore_model.specs.Requests.{are_alike, AreRequests, requests_by, placed_last}
use Rattle.shore_nodes.specs.Tables.{waiters_at, request_for}
use Rattle.shore_nodes.specs.Grants.{removed, replaced, put, granted, withdrawn, passed, taken_back, given_up, released}
use Rattle.shore_nodes.proofs.Members.{In, either, In-All, In-filter, filter-yes, filter-no, filter-all, filter-swap}
use Rattle.shore_nodes.proofs.Keys.{in_place, in_place-keys, alike-Decides, alike-self, alike-swap, AreRequests-filter, AreRequests-replaced}
use Rattle.shore_nodes.proofs.Passes.{filter_by_key, first_of}
use Rattle.shore_nodes.proofs.Fits.{pass_keeps}
use Rattle.shore_nodes.proofs.Others.{replaced_none, put_in_place, put_last}

pub not_of : (b : Bool) → not b ≡ false → b ≡ true
not_of true e = refl
not_of false e = cc

pub length-filter_most : {A : Type 0} (p : A → Bool) (xs : List A) → length (filter p xs) ≤ length xs
length-filter_most p [] = omega arith
length-filter_most p (x ∷ xs) =
    let rest = length-filter_most p xs in
    ⊎_elim (λ yes. let e = ap length (filter-yes p x xs yes) in omega arith) (λ no. let e = ap length (filter-no p x xs no) in omega arith) (either (p x))

pub length-replaced : (r : Request) (rs : List Request) → length (replaced r rs) ≡ length rs
length-replaced r rs = length-map rs (in_place r)

pub length-removed : (r : Request) (rs : List Request) → length (removed r rs) ≤ length rs
length-removed r rs = length-filter_most (λ q. not (are_alike q r)) rs

pub length-passed : (g : Granule) (rs : List Request) → AreRequests rs → length (passed g rs) ≡ length rs
length-passed g rs one =
    pass_keeps (λ xs. length xs ≡ length rs) g (λ xs w same ones in_w at wants can. length-replaced (granted w) xs ∙ same) (waiters_at g rs) rs one refl refl

pub AreRequests-passed : (g : Granule) (rs : List Request) → AreRequests rs → AreRequests (passed g rs)
AreRequests-passed g rs one =
    pass_keeps AreRequests g (λ xs w ones again in_w at wants can. AreRequests-replaced (granted w) xs ones) (waiters_at g rs) rs one refl one

pub AreRequests-removed : (r : Request) (rs : List Request) → AreRequests rs → AreRequests (removed r rs)
AreRequests-removed r rs one = AreRequests-filter (λ q. not (are_alike q r)) rs one

either_are : (b : Bool) (xs ys : List Request) → AreRequests xs → AreRequests ys → AreRequests (cond b xs ys)
either_are true xs ys h k = h
either_are false xs ys h k = k

either_short : (b : Bool) (xs ys : List Request) (n : ℕ) → length xs ≤ n → length ys ≤ n → length (cond b xs ys) ≤ n
either_short true xs ys n h k = h
either_short false xs ys n h k = k

pub AreRequests-stopped : (r : Request) (rs : List Request) → AreRequests rs → AreRequests (cond (is_some r.held) (replaced (withdrawn r) rs) (removed r rs))
AreRequests-stopped r rs one = either_are (is_some r.held) (replaced (withdrawn r) rs) (removed r rs) (AreRequests-replaced (withdrawn r) rs one) (AreRequests-removed r rs one)

pub length-stopped : (r : Request) (rs : List Request) → length (cond (is_some r.held) (replaced (withdrawn r) rs) (removed r rs)) ≤ length rs
length-stopped r rs =
    let a = length-replaced (withdrawn r) rs in
    either_short (is_some r.held) (replaced (withdrawn r) rs) (removed r rs) (length rs) (omega arith) (length-removed r rs)

pub length-taken_back : (r : Request) (rs : List Request) → AreRequests rs → length (taken_back r rs) ≤ length rs
length-taken_back r rs one =
    let now = length-passed r.granule (cond (is_some r.held) (replaced (withdrawn r) rs) (removed r rs)) (AreRequests-stopped r rs one) in
    let short = length-stopped r rs in
    omega (arith, now, short)

-- the first request of a transaction goes, and its others stay
others_by : (t : ℕ) (g : Granule) (rs : List Request) → AreRequests rs → ((q : Request) → In q (requests_by t rs) → q.granule ≡ g → ⊥) → requests_by t (passed g rs) ≡ requests_by t rs
others_by t g rs one elsewhere =
    pass_keeps (λ xs. requests_by t xs ≡ requests_by t rs) g
    (λ xs w same ones in_w at wants can.
    let not_its : (q : Request) → In q (requests_by t xs) → are_alike q (granted w) ≡ false =
    λ q h. ⊎_elim (λ yes. absurd (elsewhere q (subst (In q) same h) (((alike-Decides q (granted w)).0 yes).1 ∙ at))) (λ no. no) (either (are_alike q (granted w))) in
    filter_by_key (λ r. r.txn == t) (granted w) (λ q. ap (λ u. u == t) (in_place-keys (granted w) q).0) xs
    ∙ replaced_none (granted w) (requests_by t xs) not_its ∙ same)
    (waiters_at g rs) rs one refl refl

pub first_gone : (t : ℕ) (rs : List Request) (r : Request) → AreRequests rs → Some r ≡ slice_get (requests_by t rs) 0 → requests_by t (passed r.granule (removed r rs)) ≡ drop 1 (requests_by t rs)
first_gone t rs r one is =
    let are = first_of (requests_by t rs) r is in
    let mine = AreRequests-filter (λ q. q.txn == t) rs one in
    let ones : AreRequests (r ∷ drop 1 (requests_by t rs)) = subst AreRequests are mine in
    let apart : (q : Request) → In q (drop 1 (requests_by t rs)) → are_alike q r ≡ false = λ q h. alike-swap q r ∙ In-All (λ o. are_alike r o ≡ false) (drop 1 (requests_by t rs)) q ones.0 h in
    let left : requests_by t (removed r rs) ≡ drop 1 (requests_by t rs) =
    filter-swap (λ q. q.txn == t) (λ q. not (are_alike q r)) rs ∙ ap (removed r) are
    ∙ filter-no (λ q. not (are_alike q r)) r (drop 1 (requests_by t rs)) (ap not (alike-self r))
    ∙ filter-all (λ q. not (are_alike q r)) (drop 1 (requests_by t rs)) (λ q h. ap not (apart q h)) in
    let by : r.txn ≡ t = (Decides-eqb r.txn t).0 (In-filter (λ q. q.txn == t) rs r (subst (In r) (sym are) (inl refl))).1 in
    others_by t r.granule (removed r rs) (AreRequests-removed r rs one)
    (λ q h at.
    let q_by : q.txn ≡ t = (Decides-eqb q.txn t).0 (In-filter (λ x. x.txn == t) (removed r rs) q h).1 in
    let same = (alike-Decides q r).1 (q_by ∙ sym by, at) in
    let other = apart q (subst (In q) left h) in
    cc)
    ∙ left

pub release_on : (t : ℕ) (rs : List Request) (r : Request) → AreRequests rs → Some r ≡ slice_get (requests_by t rs) 0 → released t (passed r.granule (removed r rs)) ≡ released t rs
release_on t rs r one is =
    ap (λ mine. given_up mine (passed r.granule (removed r rs))) (first_gone t rs r one is) ∙ sym (ap (λ mine. given_up mine rs) (first_of (requests_by t rs) r is))

pub fewer_by : (t : ℕ) (rs : List Request) (r : Request) → AreRequests rs → Some r ≡ slice_get (requests_by t rs) 0 → length (requests_by t rs) ≡ suc (length (requests_by t (passed r.granule (removed r rs))))
fewer_by t rs r one is = ap length (first_of (requests_by t rs) r is) ∙ ap (λ xs. suc (length xs)) (sym (first_gone t rs r one is))

pub length-given_up : (mine rs : List Request) → AreRequests rs → length (given_up mine rs) ≤ length rs
length-given_up [] rs one = omega arith
length-given_up (r ∷ mine) rs one =
    let gone = AreRequests-removed r rs one in
    let then = length-given_up mine (passed r.granule (removed r rs)) (AreRequests-passed r.granule (removed r rs) gone) in
    let now = length-passed r.granule (removed r rs) gone in
    let short = length-removed r rs in
    omega (arith, then, now, short)

-- if a request of the transaction for the granule is there, one goes where it is placed last
pub length-removed_one : (r : Request) (rs : List Request) → is_some (request_for r.txn r.granule rs) ≡ true → suc (length (removed r rs)) ≤ length rs
length-removed_one r [] has = cc
length-removed_one r (q ∷ rs) has =
    ⊎_elim
    (λ yes. let e = ap length (filter-no (λ x. not (are_alike x r)) q rs (ap not yes)) in let most = length-removed r rs in omega arith)
    (λ other. let there : is_some (request_for r.txn r.granule rs) ≡ true = rw other at has in let rest = length-removed_one r rs there in
    let e = ap length (filter-yes (λ x. not (are_alike x r)) q rs (ap not other)) in omega arith)
    (either (are_alike q r))

pub length-placed : (r : Request) (rs : List Request) → length (placed_last r rs) ≡ suc (length (removed r rs))
length-placed r rs = let e = length_push (removed r rs) r in omega arith

pub has_one : (r : Request) (rs : List Request) → is_some (request_for r.txn r.granule rs) ≡ true → list_any (λ q. are_alike q r) rs ≡ true
has_one r [] has = has
has_one r (q ∷ rs) has =
    ⊎_elim (λ yes. rw yes refl) (λ other. let there : is_some (request_for r.txn r.granule rs) ≡ true = rw other at has in rw other (has_one r rs there)) (either (are_alike q r))

pub short_of : (b : Bool) (n limit : ℕ) → n ≤ limit → (not b && not (nat_lt n limit)) ≡ false → (b ≡ true) ⊎ (n < limit)
short_of true n limit most e = inl refl
short_of false n limit most e = inr (ltb-true n limit (not_of (nat_lt n limit) e))

-- there is room for a request, if the table is not full for it
pub length-placed_within : (r : Request) (rs : List Request) (limit : ℕ) → length rs ≤ limit → (not (is_some (request_for r.txn r.granule rs)) && not (nat_lt (length rs) limit)) ≡ false → length (placed_last r rs) ≤ limit
length-placed_within r rs limit most room =
    let e = length-placed r rs in
    ⊎_elim (λ has. let one = length-removed_one r rs has in omega arith) (λ short. let most = length-removed r rs in omega arith)
    (short_of (is_some (request_for r.txn r.granule rs)) (length rs) limit most room)

pub length-put_within : (r : Request) (rs : List Request) (limit : ℕ) → length rs ≤ limit → (not (is_some (request_for r.txn r.granule rs)) && not (nat_lt (length rs) limit)) ≡ false → length (put r rs) ≤ limit
length-put_within r rs limit most room =
    ⊎_elim
    (λ has. let e = ap length (put_in_place r rs (has_one r rs has)) in let f = length-replaced r rs in omega arith)
    (λ short. let f = length-replaced r rs in let g = length_push rs r in
    ⊎_elim (λ yes. let e = ap length (put_in_place r rs yes) in omega arith) (λ none. let e = ap length (put_last r rs none) in omega arith) (either (list_any (λ q. are_alike q r) rs)))
    (short_of (is_some (request_for r.txn r.granule rs)) (length rs) limit most room)
