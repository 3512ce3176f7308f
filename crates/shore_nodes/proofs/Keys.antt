-- One request for a transaction and a granule: what is alike, and what changes in the list keep of it.
use Rattle.std.proofs.Common.{◌≡◌, ◌++◌, inl, inr, ⊎_elim, List, [], ◌∷◌, Bool, true, false, refl, ap, sym, subst, ◌∙◌}
use Rattle.std.specs.Bool.{Decides}
use Rattle.std.specs.Prelude.{filter, cond, All, ◌==◌, ◌&&◌}
use Rattle.std.proofs.lemmas.Bool.Decides.{Decides-eqb, Decides-and, Decides-like}
use Rattle.std.proofs.lemmas.List.Elements.{All-filter, All-head, All-tail, All-append, All-cons, All-nil}
use Rattle.shore_types.specs.declared.ids.PageId.{PageId}
use Rattle.shore_types.specs.declared.ids.Rid.{Rid}
use Rattle.shore_types.specs.declared.locking.Granule.{Granule}
use Rattle.shore_types.specs.declared.locking.Granule.TheVariants.{Volume, Store, Page, Record}
use Rattle.shore_types.specs.Locking.{same_granule}
use Rattle.shore_model.specs.declared.requests.Request.{Request}
use Rattle.shore_model.specs.Requests.{are_alike, AreRequests}
use Rattle.shore_nodes.specs.Grants.{replaced}
use Rattle.shore_nodes.proofs.Members.{In, either, In-All, All-In, filter-yes, filter-no}

page_of : (p q : PageId) → (p.store ≡ q.store) × (p.page ≡ q.page) → p ≡ q
page_of p q e i = record { store = e.0 i; page = e.1 i }

rid_of : (a b : Rid) → ((a.page.store ≡ b.page.store) × (a.page.page ≡ b.page.page)) × (a.slot ≡ b.slot) → a ≡ b
rid_of a b e i = record { page = record { store = e.0.0 i; page = e.0.1 i }; slot = e.1 i }

pub same_granule-Decides : (a b : Granule) → Decides (same_granule a b) (a ≡ b)
same_granule-Decides Volume Volume = (λ _. refl, λ _. refl)
same_granule-Decides (Store s) (Store t) = Decides-like (s == t) (ap Store) (λ e. cc) (Decides-eqb s t)
same_granule-Decides (Page p) (Page q) =
    Decides-like ((p.store == q.store) && (p.page == q.page)) (λ e. ap Page (page_of p q e)) (λ e. (cc, cc))
    (Decides-and (p.store == q.store) (p.page == q.page) (Decides-eqb p.store q.store) (Decides-eqb p.page q.page))
same_granule-Decides (Record a) (Record b) =
    Decides-like (((a.page.store == b.page.store) && (a.page.page == b.page.page)) && (a.slot == b.slot)) (λ e. ap Record (rid_of a b e)) (λ e. ((cc, cc), cc))
    (Decides-and ((a.page.store == b.page.store) && (a.page.page == b.page.page)) (a.slot == b.slot)
    (Decides-and (a.page.store == b.page.store) (a.page.page == b.page.page) (Decides-eqb a.page.store b.page.store) (Decides-eqb a.page.page b.page.page))
    (Decides-eqb a.slot b.slot))
same_granule-Decides _ _ = (λ e. cc, λ e. cc)

pub alike-Decides : (a b : Request) → Decides (are_alike a b) ((a.txn ≡ b.txn) × (a.granule ≡ b.granule))
alike-Decides a b = Decides-and (a.txn == b.txn) (same_granule a.granule b.granule) (Decides-eqb a.txn b.txn) (same_granule-Decides a.granule b.granule)

pub alike_by_keys : (a b c d : Request) → a.txn ≡ c.txn → a.granule ≡ c.granule → b.txn ≡ d.txn → b.granule ≡ d.granule → are_alike a b ≡ are_alike c d
alike_by_keys a b c d e f g h i = (e i == g i) && same_granule (f i) (h i)

pub alike-swap : (a b : Request) → are_alike a b ≡ are_alike b a
alike-swap a b =
    ⊎_elim
    (λ yes. let e = (alike-Decides a b).0 yes in yes ∙ sym ((alike-Decides b a).1 (sym e.0, sym e.1)))
    (λ no. ⊎_elim (λ yes. let e = (alike-Decides b a).0 yes in let f = (alike-Decides a b).1 (sym e.0, sym e.1) in f ∙ sym yes) (λ other. no ∙ sym other) (either (are_alike b a)))
    (either (are_alike a b))

pub alike-self : (a : Request) → are_alike a a ≡ true
alike-self a = (alike-Decides a a).1 (refl, refl)

-- those alike are one
pub only_one : (rs : List Request) → AreRequests rs → (a b : Request) → In a rs → In b rs → are_alike a b ≡ true → a ≡ b
only_one [] one a b in_a in_b alike = absurd in_a
only_one (r ∷ rs) one a b in_a in_b alike =
    ⊎_elim
    (λ ra. ⊎_elim (λ rb. sym ra ∙ rb)
    (λ tb. absurd (let apart = In-All (λ o. are_alike r o ≡ false) rs b one.0 tb in let e : are_alike r b ≡ true = subst (λ x. are_alike x b ≡ true) (sym ra) alike in cc)) in_b)
    (λ ta. ⊎_elim
    (λ rb. absurd (let apart = In-All (λ o. are_alike r o ≡ false) rs a one.0 ta in let e : are_alike r a ≡ true = subst (λ x. are_alike x a ≡ true) (sym rb) (alike-swap b a ∙ alike) in cc))
    (λ tb. only_one rs one.1 a b ta tb alike) in_b)
    in_a

pub AreRequests-filter : (p : Request → Bool) (rs : List Request) → AreRequests rs → AreRequests (filter p rs)
AreRequests-filter p [] one = one
AreRequests-filter p (r ∷ rs) one =
    ⊎_elim
    (λ yes. subst AreRequests (sym (filter-yes p r rs yes)) (All-filter p (λ o. are_alike r o ≡ false) rs one.0, AreRequests-filter p rs one.1))
    (λ no. subst AreRequests (sym (filter-no p r rs no)) (AreRequests-filter p rs one.1))
    (either (p r))

pub AreRequests-append : (xs ys : List Request) → AreRequests xs → AreRequests ys → ((a b : Request) → In a xs → In b ys → are_alike a b ≡ false) → AreRequests (xs ++ ys)
AreRequests-append [] ys one two apart = two
AreRequests-append (x ∷ xs) ys one two apart = (
  All-append (λ o. are_alike x o ≡ false) xs ys one.0 (All-In (λ o. are_alike x o ≡ false) ys (λ b h. apart x b (inl refl) h)),
  AreRequests-append xs ys one.1 two (λ a b ha hb. apart a b (inr ha) hb),
)

-- one in the place of another
abbrev pub in_place : Request → Request → Request
in_place r q = cond (are_alike q r) r q

pub in_place-yes : (r q : Request) → are_alike q r ≡ true → in_place r q ≡ r
in_place-yes r q e = rw e refl

pub in_place-no : (r q : Request) → are_alike q r ≡ false → in_place r q ≡ q
in_place-no r q e = rw e refl

pub in_place-keys : (r q : Request) → ((in_place r q).txn ≡ q.txn) × ((in_place r q).granule ≡ q.granule)
in_place-keys r q =
    ⊎_elim
    (λ yes. let e = (alike-Decides q r).0 yes in (ap (λ (x : Request). x.txn) (in_place-yes r q yes) ∙ sym e.0, ap (λ (x : Request). x.granule) (in_place-yes r q yes) ∙ sym e.1))
    (λ no. (ap (λ (x : Request). x.txn) (in_place-no r q no), ap (λ (x : Request). x.granule) (in_place-no r q no)))
    (either (are_alike q r))

apart_in_place : (r q : Request) (xs : List Request) → All (λ o. are_alike q o ≡ false) xs → All (λ o. are_alike (in_place r q) o ≡ false) (replaced r xs)
apart_in_place r q [] all = All-nil (λ o. are_alike (in_place r q) o ≡ false)
apart_in_place r q (x ∷ xs) all =
    All-cons (λ o. are_alike (in_place r q) o ≡ false) (in_place r x) (replaced r xs)
    (let k = in_place-keys r q in let l = in_place-keys r x in alike_by_keys (in_place r q) (in_place r x) q x k.0 k.1 l.0 l.1 ∙ All-head (λ o. are_alike q o ≡ false) x xs all)
    (apart_in_place r q xs (All-tail (λ o. are_alike q o ≡ false) x xs all))

pub AreRequests-replaced : (r : Request) (rs : List Request) → AreRequests rs → AreRequests (replaced r rs)
AreRequests-replaced r [] one = one
AreRequests-replaced r (q ∷ rs) one = (apart_in_place r q rs one.0, AreRequests-replaced r rs one.1)
