-- What a change for one granule leaves as it was at the others, and that afterwards nobody is left who could be granted.
use Rattle.std.proofs.Common.{◌≡◌, ◌++◌, inl, inr, ⊎_elim, List, [], ◌∷◌, Bool, true, false, refl, ap, sym, subst, ◌∙◌}
use Rattle.std.specs.Prelude.{filter, not}
use Rattle.std.specs.List.{list_any}
use Rattle.std.proofs.lemmas.List.{append-nil}
use Rattle.std.proofs.lemmas.List.Elements.{filter-append}
use Rattle.shore_types.specs.declared.locking.Granule.{Granule}
use Rattle.shore_types.specs.Locking.{same_granule}
use Rattle.shore_model.specs.declared.requests.Request.{Request}
use Rattle.shore_model.specs.declared.requests.Group.TheVariants.{Conversions, NewWaiters}
use Rattle.shore_model.specs.Requests.{are_alike, AreRequests, requests_at, placed_last, is_in_group}
use Rattle.shore_nodes.specs.Tables.{waiters_at}
use Rattle.shore_nodes.specs.Grants.{replaced, removed, put, granted, passed}
use Rattle.shore_nodes.specs.Orderly.{IsStopped}
use Rattle.shore_nodes.proofs.Members.{In, either, In-filter, filter-no, filter-all, filter-swap}
use Rattle.shore_nodes.proofs.Keys.{in_place-no, alike-Decides, same_granule-Decides}
use Rattle.shore_nodes.proofs.Passes.{requests_at-replaced}
use Rattle.shore_nodes.proofs.Fits.{pass_keeps, pass_leaves_none}

pub replaced_none : (r : Request) (rs : List Request) → ((q : Request) → In q rs → are_alike q r ≡ false) → replaced r rs ≡ rs
replaced_none r [] apart = refl
replaced_none r (q ∷ rs) apart =
    ap (λ x. x ∷ replaced r rs) (in_place-no r q (apart q (inl refl))) ∙ ap (λ xs. q ∷ xs) (replaced_none r rs (λ x h. apart x (inr h)))

pub removed_none : (r : Request) (rs : List Request) → ((q : Request) → In q rs → are_alike q r ≡ false) → removed r rs ≡ rs
removed_none r rs apart = filter-all (λ q. not (are_alike q r)) rs (λ q h. ap not (apart q h))

-- requests for different granules are not alike
apart_at : (g : Granule) (r : Request) (rs : List Request) → (r.granule ≡ g → ⊥) → (q : Request) → In q (requests_at g rs) → are_alike q r ≡ false
apart_at g r rs other q h =
    let at = (same_granule-Decides q.granule g).0 (In-filter (λ x. same_granule x.granule g) rs q h).1 in
    ⊎_elim (λ yes. absurd (other (sym ((alike-Decides q r).0 yes).1 ∙ at))) (λ no. no) (either (are_alike q r))

pub at_other_replaced : (g : Granule) (r : Request) (rs : List Request) → (r.granule ≡ g → ⊥) → requests_at g (replaced r rs) ≡ requests_at g rs
at_other_replaced g r rs other = requests_at-replaced g r rs ∙ replaced_none r (requests_at g rs) (apart_at g r rs other)

pub requests_at-removed : (g : Granule) (r : Request) (rs : List Request) → requests_at g (removed r rs) ≡ removed r (requests_at g rs)
requests_at-removed g r rs = filter-swap (λ q. same_granule q.granule g) (λ q. not (are_alike q r)) rs

pub at_other_removed : (g : Granule) (r : Request) (rs : List Request) → (r.granule ≡ g → ⊥) → requests_at g (removed r rs) ≡ requests_at g rs
at_other_removed g r rs other = requests_at-removed g r rs ∙ removed_none r (requests_at g rs) (apart_at g r rs other)

not_at : (g h : Granule) → (g ≡ h → ⊥) → same_granule g h ≡ false
not_at g h other = ⊎_elim (λ yes. absurd (other ((same_granule-Decides g h).0 yes))) (λ no. no) (either (same_granule g h))

pub at_other_last : (g : Granule) (r : Request) (rs : List Request) → (r.granule ≡ g → ⊥) → requests_at g (rs ++ r ∷ []) ≡ requests_at g rs
at_other_last g r rs other =
    filter-append (λ q. same_granule q.granule g) rs (r ∷ [])
    ∙ ap (λ xs. requests_at g rs ++ xs) (filter-no (λ q. same_granule q.granule g) r [] (not_at r.granule g other))
    ∙ append-nil (requests_at g rs)

pub at_other_placed : (g : Granule) (r : Request) (rs : List Request) → (r.granule ≡ g → ⊥) → requests_at g (placed_last r rs) ≡ requests_at g rs
at_other_placed g r rs other = at_other_last g r (removed r rs) other ∙ at_other_removed g r rs other

pub put_in_place : (r : Request) (rs : List Request) → list_any (λ q. are_alike q r) rs ≡ true → put r rs ≡ replaced r rs
put_in_place r rs e = rw e refl

pub put_last : (r : Request) (rs : List Request) → list_any (λ q. are_alike q r) rs ≡ false → put r rs ≡ rs ++ r ∷ []
put_last r rs e = rw e refl

pub at_other_put : (g : Granule) (r : Request) (rs : List Request) → (r.granule ≡ g → ⊥) → requests_at g (put r rs) ≡ requests_at g rs
at_other_put g r rs other =
    ⊎_elim (λ yes. ap (requests_at g) (put_in_place r rs yes) ∙ at_other_replaced g r rs other)
    (λ none. ap (requests_at g) (put_last r rs none) ∙ at_other_last g r rs other)
    (either (list_any (λ q. are_alike q r) rs))

pub at_other_passed : (g h : Granule) (rs : List Request) → AreRequests rs → (h ≡ g → ⊥) → requests_at g (passed h rs) ≡ requests_at g rs
at_other_passed g h rs one other =
    pass_keeps (λ xs. requests_at g xs ≡ requests_at g rs) h
    (λ xs w same ones in_w at wants can. at_other_replaced g (granted w) xs (λ e. other (sym at ∙ e)) ∙ same)
    (waiters_at h rs) rs one refl refl

-- nobody is left at a granule who could be granted
abbrev pub NoneLeftAt : List Request → Granule → Type 0
NoneLeftAt rs g = IsStopped (waiters_at g rs) (requests_at g rs)

not_both : (b : Bool) → b ≡ false → b ≡ true → ⊥
not_both b e f = cc

pub none_left_as : (g : Granule) (xs ys : List Request) → requests_at g xs ≡ requests_at g ys → NoneLeftAt ys g → NoneLeftAt xs g
none_left_as g xs ys same left = subst (λ queue. IsStopped (filter (is_in_group Conversions) queue ++ filter (is_in_group NewWaiters) queue) queue) (sym same) left

-- a pass at the granule that changed leaves nobody anywhere
pub none_left_passed : (h : Granule) (rs : List Request) → AreRequests rs → ((g : Granule) → (h ≡ g → ⊥) → NoneLeftAt rs g) → (g : Granule) → NoneLeftAt (passed h rs) g
none_left_passed h rs one others g =
    ⊎_elim
    (λ yes. subst (NoneLeftAt (passed h rs)) ((same_granule-Decides h g).0 yes) (pass_leaves_none h (waiters_at h rs) rs one refl))
    (λ no. let other = λ (e : h ≡ g). not_both (same_granule h g) no ((same_granule-Decides h g).1 e) in
    none_left_as g (passed h rs) rs (at_other_passed g h rs one other) (others g other))
    (either (same_granule h g))
