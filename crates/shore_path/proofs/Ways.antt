-- The path of a granule from the root down.
use Rattle.std.proofs.Common.{◌≡◌, inl, inr, ⊎_elim, List, [], ◌∷◌, false, refl, subst, sym, reverse}
use Rattle.std.specs.List.{AllByRecursion}
use Rattle.shore_types.specs.declared.locking.Granule.{Granule}
use Rattle.shore_types.specs.declared.locking.Granule.TheVariants.{Volume, Store, Page, Record}
use Rattle.shore_types.specs.Locking.{same_granule}
use Rattle.shore_model.specs.Locks.{ancestors, path}
use Rattle.shore_locks.proofs.Members.{In}
use Rattle.shore_locks.proofs.Keys.{same_granule-Decides}

each_of : {A : Type 0} (Q : A → Type 0) (xs : List A) → AllByRecursion Q xs → (x : A) → In x xs → Q x
each_of Q [] all x h = absurd h
each_of Q (y ∷ ys) all x h = ⊎_elim (λ e. subst Q e all.0) (λ t. each_of Q ys all.1 x t) h

-- the last granule of a way is the target
abbrev pub EndsIn : Granule → List Granule → Type 0
EndsIn target [] = Unit {0}
EndsIn target (g ∷ []) = g ≡ target
EndsIn target (g ∷ h ∷ below) = EndsIn target (h ∷ below)

-- what a granule of the way lies in was walked before it, and is not the target
abbrev pub InOrder : Granule → List Granule → List Granule → Type 0
InOrder target walked [] = Unit {0}
InOrder target walked (g ∷ below) = ((a : Granule) → In a (ancestors g) → In a walked × (same_granule a target ≡ false)) × InOrder target (g ∷ walked) below

-- a way lies on the path
abbrev pub OnPathOf : Granule → List Granule → Type 0
OnPathOf target way = (g : Granule) → In g way → In g (path target)

pub ends : (target : Granule) → EndsIn target (reverse (path target))
ends Volume = refl
ends (Store s) = refl
ends (Page p) = refl
ends (Record r) = refl

order : (target : Granule) (walked : List Granule) (g : Granule) → AllByRecursion (λ a. In a walked × (same_granule a target ≡ false)) (ancestors g)
    → (a : Granule) → In a (ancestors g) → In a walked × (same_granule a target ≡ false)
order target walked g all = each_of (λ a. In a walked × (same_granule a target ≡ false)) (ancestors g) all

pub in_order : (target : Granule) → InOrder target [] (reverse (path target))
in_order Volume = (order Volume [] Volume tt, tt)
in_order (Store s) = (order (Store s) [] Volume tt, (order (Store s) (Volume ∷ []) (Store s) ((inl refl, refl), tt), tt))
in_order (Page p) = (
  order (Page p) [] Volume tt,
  (
    order (Page p) (Volume ∷ []) (Store p.store) ((inl refl, refl), tt),
    (order (Page p) (Store p.store ∷ Volume ∷ []) (Page p) ((inl refl, refl), ((inr (inl refl), refl), tt)), tt),
  ),
)
in_order (Record r) = (
  order (Record r) [] Volume tt,
  (
    order (Record r) (Volume ∷ []) (Store r.page.store) ((inl refl, refl), tt),
    (
      order (Record r) (Store r.page.store ∷ Volume ∷ []) (Page r.page) ((inl refl, refl), ((inr (inl refl), refl), tt)),
      (
        order (Record r) (Page r.page ∷ Store r.page.store ∷ Volume ∷ []) (Record r) ((inl refl, refl), ((inr (inl refl), refl), ((inr (inr (inl refl)), refl), tt))),
        tt,
      ),
    ),
  ),
)

pub on_path : (target : Granule) → OnPathOf target (reverse (path target))
on_path Volume = each_of (λ g. In g (path Volume)) (reverse (path Volume)) (inl refl, tt)
on_path (Store s) = each_of (λ g. In g (path (Store s))) (reverse (path (Store s))) (inr (inl refl), (inl refl, tt))
on_path (Page p) = each_of (λ g. In g (path (Page p))) (reverse (path (Page p))) (inr (inr (inl refl)), (inr (inl refl), (inl refl, tt)))
on_path (Record r) =
    each_of (λ g. In g (path (Record r))) (reverse (path (Record r))) (inr (inr (inr (inl refl))), (inr (inr (inl refl)), (inr (inl refl), (inl refl, tt))))

-- what lies on the path and is not the target is an ancestor
pub is_ancestor : (target g : Granule) → In g (path target) → same_granule g target ≡ false → In g (ancestors target)
is_ancestor target g h other = ⊎_elim (λ e. absurd (let yes = (same_granule-Decides g target).1 (sym e) in cc)) (λ t. t) h

-- the target ends its way
pub on_way : (target : Granule) → In target (reverse (path target))
on_way Volume = inl refl
on_way (Store s) = inr (inl refl)
on_way (Page p) = inr (inr (inl refl))
on_way (Record r) = inr (inr (inr (inl refl)))
