-- What a tally says of a waiter: those that it counts without the waiter's own hold grant what is wanted, or one of them does not.
use Rattle.std.proofs.Common.{◌≡◌, ⊎_elim, inl, inr, ℕ, List, [], ◌∷◌, Bool, true, false, Option, None, Some, refl, ap, sym, ◌∙◌, length, arith}
use Rattle.std.specs.Prelude.{filter, not, ◌==◌, ◌&&◌, ◌||◌, is_some, nat_lt}
use Rattle.std.specs.List.{list_any}
use Rattle.std.proofs.lemmas.Bool.{ltb-false}
use Rattle.std.proofs.lemmas.Bool.Decides.{Decides-eqb}
use Rattle.shore_types.specs.declared.locking.Granule.{Granule}
use Rattle.shore_types.specs.declared.locking.Mode.{Mode}
use Rattle.shore_types.specs.declared.locking.Mode.TheVariants.{IS, IX, SH, SIX, EX, UD}
use Rattle.shore_types.specs.Locking.{same_granule}
use Rattle.shore_model.specs.declared.requests.Request.{Request}
use Rattle.shore_model.specs.declared.requests.Group.{Group}
use Rattle.shore_model.specs.declared.requests.Group.TheVariants.{Holders, Conversions, NewWaiters}
use Rattle.shore_model.specs.Modes.{grants}
use Rattle.shore_model.specs.Requests.{AreRequests, are_alike, is_conversion, is_in_group, requests_at}
use Rattle.shore_nodes.specs.declared.tallies.Tally.{Tally}
use Rattle.shore_nodes.specs.Granting.{all_grant}
use Rattle.shore_nodes.specs.Grants.{can_be_granted, is_refused, refuses, removed}
use Rattle.shore_nodes.specs.Tallies.{Counts, allow, count_in, counted_allow, counted_grant, is_just, may_have, mode_number}
use Rattle.shore_nodes.proofs.Crowds.{none_counted, none_new_here, not_refused}
use Rattle.shore_nodes.proofs.Entering.{both_true}
use Rattle.shore_nodes.proofs.Fits.{no_of, none_any}
use Rattle.shore_nodes.proofs.Keys.{AreRequests-filter, alike-self, same_granule-Decides}
use Rattle.shore_nodes.proofs.Members.{In, In-filter, either, filter-In, filter-no, filter-none, filter-yes}
use Rattle.shore_nodes.proofs.NodeSteps.{none_of_any}
use Rattle.shore_nodes.proofs.Tallying.{ConvertingLess, HoldingLess, WaitingLess, counts_without}
use Rattle.shore_nodes.proofs.Waiting.{some_one}

-- nobody of a group is counted
none_more : (n : ℕ) → nat_lt 0 n ≡ false → n ≡ 0
none_more n e = let most = ltb-false 0 n e in omega (arith, most)

pub nobody_of : (group : Group) (tally : Tally) (rs : List Request) → Counts tally rs → may_have tally group ≡ false → filter (is_in_group group) rs ≡ []
nobody_of Holders tally rs counts none = cc
nobody_of Conversions tally rs counts none =
    filter-none (is_in_group Conversions) rs (λ q h. none_counted is_conversion rs (sym counts.converting ∙ none_more tally.converting none) q h)
nobody_of NewWaiters tally rs counts none =
    filter-none (is_in_group NewWaiters) rs (λ q h. none_new_here q.wanted q.held (none_counted (λ r. is_some r.wanted) rs (sym counts.waiting ∙ none_more tally.waiting none) q h))

zero_of : (a b : Bool) → (a || b) ≡ true → not b ≡ true → a ≡ true
zero_of true b e f = refl
zero_of false true e f = cc
zero_of false false e f = cc

none_held : (n : ℕ) (held asked : Mode) → counted_allow n held asked ≡ true → is_refused (Some asked) (Some held) ≡ true → n ≡ 0
none_held n held asked all_do bars = (Decides-eqb n 0).0 (zero_of (n == 0) (grants held asked) all_do bars)

six : (a b c d e f : Bool) → (((((a && b) && c) && d) && e) && f) ≡ true → (a ≡ true) × (b ≡ true) × (c ≡ true) × (d ≡ true) × (e ≡ true) × (f ≡ true)
six a b c d e f all =
    let u = both_true ((((a && b) && c) && d) && e) f all in
    let v = both_true (((a && b) && c) && d) e u.0 in
    let w = both_true ((a && b) && c) d v.0 in
    let x = both_true (a && b) c w.0 in
    let y = both_true a b x.0 in (y.0, y.1, x.1, w.1, v.1, u.1)

module _ (tally : Tally) (asked : Mode) where
  each_allows : counted_grant tally asked ≡ true → (m : Mode) → counted_allow (count_in tally m) m asked ≡ true
  each_allows all_do m =
      let all = six (counted_allow tally.is IS asked) (counted_allow tally.ix IX asked) (counted_allow tally.sh SH asked) (counted_allow tally.six SIX asked) (counted_allow tally.ex EX asked) (counted_allow tally.ud UD asked) all_do in
      elim m as (λ k. counted_allow (count_in tally k) k asked ≡ true) [
        | IS ↦ all.0
        | IX ↦ all.1
        | SH ↦ all.2
        | SIX ↦ all.3
        | EX ↦ all.4
        | UD ↦ all.5
      ]

  all_allow : ((m : Mode) → counted_allow (count_in tally m) m asked ≡ true) → counted_grant tally asked ≡ true
  all_allow each = λ i. ((((each IS i && each IX i) && each SH i) && each SIX i) && each EX i) && each UD i

just_is : (m held : Mode) → (mode_number held == mode_number m) ≡ true → held ≡ m
just_is IS IS e = refl
just_is IX IX e = refl
just_is SH SH e = refl
just_is SIX SIX e = refl
just_is EX EX e = refl
just_is UD UD e = refl
just_is _ _ e = cc

held_is : (m : Mode) (held : Option Mode) → is_just m held ≡ true → held ≡ Some m
held_is m None e = cc
held_is m (Some held) e = ap Some (just_is m held e)

or_true : (a b : Bool) → b ≡ true → (a || b) ≡ true
or_true true b e = refl
or_true false b e = e

both_ways : (a b : Bool) → (a ≡ true → b ≡ true) → (b ≡ true → a ≡ true) → a ≡ b
both_ways true b f g = sym (f refl)
both_ways false true f g = g refl
both_ways false false f g = refl

module _ (tally : Tally) (asked : Mode) (rs : List Request) (counts : Counts tally rs) where
  listed : counted_grant tally asked ≡ true → all_grant rs asked ≡ true
  listed all_do =
      ap not (none_of_any (λ q. is_refused (Some asked) q.held) rs (λ q h. not_refused asked q.held
      (λ m bars. none_counted (λ x. is_just m x.held) rs (sym (counts.holding m) ∙ none_held (count_in tally m) m asked (each_allows tally asked all_do m) bars) q h)))

  -- a mode that is refused is held by nobody
  nobody_holds : all_grant rs asked ≡ true → (m : Mode) → grants m asked ≡ false → count_in tally m ≡ 0
  nobody_holds all_do m bars =
      counts.holding m
      ∙ ap length (filter-none (λ x. is_just m x.held) rs (λ q h.
      ⊎_elim
      (λ just. absurd
      (let mild = none_any (λ x. is_refused (Some asked) x.held) rs (no_of (list_any (λ x. is_refused (Some asked) x.held) rs) all_do) q h in
      let refused : is_refused (Some asked) q.held ≡ true = ap (is_refused (Some asked)) (held_is m q.held just) ∙ ap not bars in
      let clash : true ≡ false = sym refused ∙ mild in cc))
      (λ other. other)
      (either (is_just m q.held))))

  counted : all_grant rs asked ≡ true → counted_grant tally asked ≡ true
  counted all_do =
      all_allow tally asked (λ m.
      ⊎_elim
      (λ free. or_true (count_in tally m == 0) (grants m asked) free)
      (λ bars. ap (λ b. b || grants m asked) ((Decides-eqb (count_in tally m) 0).1 (nobody_holds all_do m bars)))
      (either (grants m asked)))

  granted_alike : counted_grant tally asked ≡ all_grant rs asked
  granted_alike = both_ways (counted_grant tally asked) (all_grant rs asked) listed counted

-- a waiter is judged by the others
any_without : (k p : Request → Bool) (xs : List Request) → list_any (λ q. not (k q) && p q) xs ≡ list_any p (filter (λ q. not (k q)) xs)
any_without k p [] = refl
any_without k p (x ∷ xs) =
    ⊎_elim
    (λ yes. ap (λ b. (not b && p x) || list_any (λ q. not (k q) && p q) xs) yes ∙ any_without k p xs ∙ sym (ap (list_any p) (filter-no (λ q. not (k q)) x xs (ap not yes))))
    (λ no. ap (λ b. (not b && p x) || list_any (λ q. not (k q) && p q) xs) no ∙ ap (λ b. p x || b) (any_without k p xs) ∙ sym (ap (list_any p) (filter-yes (λ q. not (k q)) x xs (ap not no))))
    (either (k x))

any_same : (p q : Request → Bool) (xs : List Request) → ((x : Request) → In x xs → p x ≡ q x) → list_any p xs ≡ list_any q xs
any_same p q [] same = refl
any_same p q (x ∷ xs) same = λ i. same x (inl refl) i || any_same p q xs (λ y h. same y (inr h)) i

and_true : (a b : Bool) → b ≡ true → (a && b) ≡ a
and_true true b e = e
and_true false b e = refl

by_others : (w : Request) (asked : Mode) (xs : List Request) → w.wanted ≡ Some asked → ((q : Request) → In q xs → q.granule ≡ w.granule) → can_be_granted w xs ≡ all_grant (removed w xs) asked
by_others w asked xs wants at =
    ap not (any_same (refuses w) (λ q. not (are_alike q w) && is_refused (Some asked) q.held) xs
    (λ q h.
    let same : (q.txn == w.txn) ≡ are_alike q w = sym (and_true (q.txn == w.txn) (same_granule q.granule w.granule) ((same_granule-Decides q.granule w.granule).1 (at q h))) in
    ap (λ b. not b && is_refused w.wanted q.held) same ∙ ap (λ o. not (are_alike q w) && is_refused o q.held) wants)
    ∙ any_without (λ q. are_alike q w) (λ q. is_refused (Some asked) q.held) xs)

pub judged : (g : Granule) (w : Request) (rs : List Request) (tally gone : Tally) → AreRequests rs → In w rs → same_granule w.granule g ≡ true → is_some w.wanted ≡ true → Counts tally (requests_at g rs) → HoldingLess tally gone w → WaitingLess tally gone w → ConvertingLess tally gone w
    → can_be_granted w (requests_at w.granule rs) ≡ allow gone w.wanted
judged g w rs tally gone one there at wants counts less_holding less_waiting less_converting =
    let mode = some_one w.wanted wants in
    let here : w.granule ≡ g = (same_granule-Decides w.granule g).0 at in
    let left : Counts gone (removed w (requests_at g rs)) =
    counts_without tally gone w w (requests_at g rs) less_holding less_waiting less_converting counts (AreRequests-filter (λ q. same_granule q.granule g) rs one) (filter-In (λ q. same_granule q.granule g) rs w there at) (alike-self w) in
    ap (λ h. can_be_granted w (requests_at h rs)) here
    ∙ by_others w mode.0 (requests_at g rs) mode.1 (λ q i. (same_granule-Decides q.granule g).0 (In-filter (λ q. same_granule q.granule g) rs q i).1 ∙ sym here)
    ∙ sym (granted_alike gone mode.0 (removed w (requests_at g rs)) left)
    ∙ sym (ap (allow gone) mode.1)
