-- All requests, collected head by head.
use Rattle.std.proofs.Common.{◌≡◌, ◌++◌, ◌<◌, ◌≤◌, ◌+◌, ℕ, List, [], ◌∷◌, Bool, true, false, ⊎_elim, refl, ap, sym, subst, ◌∙◌, arith, IsPermutation}
use Rattle.std.specs.Prelude.{◌==◌, ◌&&◌, not, filter, nat_lt}
use Rattle.std.proofs.lemmas.Bool.Decides.{Decides-eqb, Decides-ltb}
use Rattle.std.proofs.lemmas.List.Sorted.{IsPermutation-append_left, IsPermutation-filter_both, IsPermutation-refl, IsPermutation-trans}
use Rattle.shore_model.specs.declared.requests.Request.{Request}
use Rattle.shore_nodes.specs.Nodes.{queue_head}
use Rattle.shore_nodes.specs.Tallies.{crowd}
use Rattle.shore_nodes.proofs.Members.{either, filter-all, filter-no, filter-none, filter-yes}
use Rattle.shore_nodes.proofs.Spreads.{queue_small}

-- a filter of a filter
filter_twice : {A : Type 0} (p q both : A → Bool) → ((x : A) → (q x && p x) ≡ both x) → (xs : List A) → filter p (filter q xs) ≡ filter both xs
filter_twice p q both is [] = refl
filter_twice p q both is (x ∷ xs) =
    ⊎_elim
    (λ in_q. ap (filter p) (filter-yes q x xs in_q)
    ∙ ⊎_elim
    (λ in_p. filter-yes p x (filter q xs) in_p ∙ ap (λ ys. x ∷ ys) (filter_twice p q both is xs) ∙ sym (filter-yes both x xs (sym (is x) ∙ rw (in_q, in_p) refl)))
    (λ out. filter-no p x (filter q xs) out ∙ filter_twice p q both is xs ∙ sym (filter-no both x xs (sym (is x) ∙ rw (in_q, out) refl)))
    (either (p x)))
    (λ out. ap (filter p) (filter-no q x xs out) ∙ filter_twice p q both is xs ∙ sym (filter-no both x xs (sym (is x) ∙ rw out refl)))
    (either (q x))

no_less : (n h : ℕ) → h ≤ n → nat_lt n h ≡ false
no_less n h past = ⊎_elim (λ less. absurd (let l = (Decides-ltb n h).0 less in omega (arith, past, l))) (λ no_one. no_one) (either (nat_lt n h))

with_either : (P : Bool → Type 0) (b : Bool) → P true → P false → P b
with_either P true at_true at_false = at_true
with_either P false at_true at_false = at_false

less_still : (h n : ℕ) → (nat_lt n (h + 1) && nat_lt n h) ≡ nat_lt n h
less_still h n =
    ⊎_elim
    (λ less. let l = (Decides-ltb n h).0 less in let next : nat_lt n (h + 1) ≡ true = (Decides-ltb n (h + 1)).1 (omega (arith, l)) in rw (less, next) refl)
    (λ none. with_either (λ b. (b && nat_lt n h) ≡ nat_lt n h) (nat_lt n (h + 1)) (rw none refl) (rw none refl))
    (either (nat_lt n h))

less_new : (h n : ℕ) → (nat_lt n (h + 1) && not (nat_lt n h)) ≡ (n == h)
less_new h n =
    ⊎_elim
    (λ same.
    let at = (Decides-eqb n h).0 same in
    let alike : (n == h) ≡ true = same in
    let next : nat_lt n (h + 1) ≡ true = (Decides-ltb n (h + 1)).1 (omega (arith, at)) in
    let not_less : nat_lt n h ≡ false = no_less n h (omega (arith, at)) in
    rw (alike, next, not_less) refl)
    (λ other.
    let differs : (n == h) ≡ false = other in
    ⊎_elim
    (λ less.
    let before : nat_lt n h ≡ true = less in
    with_either (λ b. (b && not (nat_lt n h)) ≡ (n == h)) (nat_lt n (h + 1)) (rw (differs, before) refl) (rw differs refl))
    (λ none.
    let apart : (n ≡ h) → ⊥ = λ e. (let both : true ≡ false = sym ((Decides-eqb n h).1 e) ∙ differs in cc) in
    let least : (n < h) → ⊥ = λ l. (let both : true ≡ false = sym ((Decides-ltb n h).1 l) ∙ none in cc) in
    let past : nat_lt n (h + 1) ≡ false = no_less n (h + 1) (omega (arith, apart, least)) in
    rw (differs, past) refl)
    (either (nat_lt n h)))
    (either (n == h))

-- the requests for granules of the first heads
abbrev pub below : ℕ → ℕ → List Request → List Request
below heads h rs = filter (λ r. nat_lt (queue_head heads r.granule) h) rs

pub none_below : (heads : ℕ) (rs : List Request) → IsPermutation (below heads 0 rs) []
none_below heads rs = subst (λ xs. IsPermutation xs []) (sym (filter-none (λ r. nat_lt (queue_head heads r.granule) 0) rs (λ r i. no_less (queue_head heads r.granule) 0 (omega arith)))) (IsPermutation-refl [])

one_more : (heads h : ℕ) (rs : List Request) → IsPermutation (below heads (h + 1) rs) (below heads h rs ++ crowd heads h rs)
one_more heads h rs =
    subst (λ xs. IsPermutation (below heads (h + 1) rs) (xs ++ crowd heads h rs))
    (filter_twice (λ r. nat_lt (queue_head heads r.granule) h) (λ r. nat_lt (queue_head heads r.granule) (h + 1)) (λ r. nat_lt (queue_head heads r.granule) h) (λ r. less_still h (queue_head heads r.granule)) rs)
    (subst (λ ys. IsPermutation (below heads (h + 1) rs) (below heads h (below heads (h + 1) rs) ++ ys))
    (filter_twice (λ r. not (nat_lt (queue_head heads r.granule) h)) (λ r. nat_lt (queue_head heads r.granule) (h + 1)) (λ r. queue_head heads r.granule == h) (λ r. less_new h (queue_head heads r.granule)) rs)
    (IsPermutation-filter_both (λ r. nat_lt (queue_head heads r.granule) h) (λ r. not (nat_lt (queue_head heads r.granule) h)) (λ r. refl) (below heads (h + 1) rs)))

pub more_below : (heads h : ℕ) (rs items new : List Request) → IsPermutation (below heads h rs) items → new ≡ items ++ crowd heads h rs → IsPermutation (below heads (h + 1) rs) new
more_below heads h rs items new so_far is =
    subst (IsPermutation (below heads (h + 1) rs)) (sym is)
    (IsPermutation-trans _ _ _ (one_more heads h rs) (IsPermutation-append_left (crowd heads h rs) (below heads h rs) items so_far))

pub all_below : (heads : ℕ) (rs items : List Request) → 65 < heads → IsPermutation (below heads heads rs) items → IsPermutation rs items
all_below heads rs items some all =
    subst (λ xs. IsPermutation xs items)
    (filter-all (λ r. nat_lt (queue_head heads r.granule) heads) rs (λ r i. (Decides-ltb (queue_head heads r.granule) heads).1 (queue_small r.granule heads some))) all
