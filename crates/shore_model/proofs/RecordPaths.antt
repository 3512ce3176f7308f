-- Granules of one record's path.
use Rattle.std.proofs.Common.{◌≡◌, suc, List, [], ◌∷◌, ◌⊎◌, inl, inr, refl, sym, ap, subst, ◌∙◌, get_or, arith, ⊎_elim}
use Rattle.std.specs.Prelude.{Contains}
use Rattle.std.proofs.lemmas.List.Elements.{Contains-append_cases}
use Rattle.shore_types.specs.declared.ids.Rid.{Rid}
use Rattle.shore_types.specs.declared.locking.Granule.{Granule}
use Rattle.shore_types.specs.declared.locking.Granule.TheVariants.{Volume, Store, Page, Record}
use Rattle.shore_model.specs.Locks.{ancestors, path}

-- nothing is in the empty list
none_contained : {A : Type 0} (x : A) → Contains [] x → ⊥
none_contained x h = omega arith

one_contained : {A : Type 0} (y x : A) → Contains (y ∷ []) x → y ≡ x
one_contained y x h =
    let zero_at : h.0 ≡ 0 = omega arith in
    ap (λ k. get_or (y ∷ []) k x) (sym zero_at) ∙ h.2

cons_contained : {A : Type 0} (y : A) (ys : List A) (x : A) → Contains (y ∷ ys) x → (y ≡ x) ⊎ Contains ys x
cons_contained y ys x h = ⊎_elim (λ a. inl (one_contained y x a)) (λ b. inr b) (Contains-append_cases (y ∷ []) ys x h)

pub rest_contained : {A : Type 0} (y : A) (ys : List A) (x : A) → Contains ys x → Contains (y ∷ ys) x
rest_contained y ys x h = (suc h.0, omega arith, h.2)

pub head_contained : {A : Type 0} (y : A) (ys : List A) → Contains (y ∷ ys) y
head_contained y ys = (0, omega arith, refl)

-- what is in a list and is not its head is in the rest
pub not_head : {A : Type 0} (y : A) (ys : List A) (x : A) → (x ≡ y → ⊥) → Contains (y ∷ ys) x → Contains ys x
not_head y ys x differ h = ⊎_elim (λ e. absurd (differ (sym e))) (λ r. r) (cons_contained y ys x h)

-- a granule of a record's path, by its level
pub data OnPath (r : Rid) : Granule → Type 0 where
  at_record : OnPath r (Record r)
  at_page : OnPath r (Page r.page)
  at_store : OnPath r (Store r.page.store)
  at_volume : OnPath r Volume

pub on_path : (r : Rid) (g : Granule) → Contains (path (Record r)) g → OnPath r g
on_path r g h =
    ⊎_elim (λ e. subst (OnPath r) e at_record) (λ h.
    ⊎_elim (λ e. subst (OnPath r) e at_page) (λ h.
    ⊎_elim (λ e. subst (OnPath r) e at_store) (λ h.
    subst (OnPath r) (one_contained Volume g h) at_volume)
    (cons_contained (Store r.page.store) (Volume ∷ []) g h))
    (cons_contained (Page r.page) (Store r.page.store ∷ Volume ∷ []) g h))
    (cons_contained (Record r) (ancestors (Record r)) g h)

-- two granules of one path are one, or one lies in the other
pub ordered : (r : Rid) (a b : Granule) → OnPath r a → OnPath r b → (a ≡ b) ⊎ (Contains (ancestors b) a ⊎ Contains (ancestors a) b)
ordered r _ _ at_record at_record = inl refl
ordered r _ _ at_record at_page = inr (inr (0, omega arith, refl))
ordered r _ _ at_record at_store = inr (inr (1, omega arith, refl))
ordered r _ _ at_record at_volume = inr (inr (2, omega arith, refl))
ordered r _ _ at_page at_record = inr (inl (0, omega arith, refl))
ordered r _ _ at_page at_page = inl refl
ordered r _ _ at_page at_store = inr (inr (0, omega arith, refl))
ordered r _ _ at_page at_volume = inr (inr (1, omega arith, refl))
ordered r _ _ at_store at_record = inr (inl (1, omega arith, refl))
ordered r _ _ at_store at_page = inr (inl (0, omega arith, refl))
ordered r _ _ at_store at_store = inl refl
ordered r _ _ at_store at_volume = inr (inr (0, omega arith, refl))
ordered r _ _ at_volume at_record = inr (inl (2, omega arith, refl))
ordered r _ _ at_volume at_page = inr (inl (1, omega arith, refl))
ordered r _ _ at_volume at_store = inr (inl (0, omega arith, refl))
ordered r _ _ at_volume at_volume = inl refl
