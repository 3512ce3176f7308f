-- What `==` of ids, and of pairs of an id and another value, says.
use Rattle.std.proofs.Common.{◌≡◌, ℕ, Bool, true, false, refl, ap}
use Rattle.std.specs.Prelude.{◌&&◌, ◌==◌}
use Rattle.std.specs.Bool.{Decides}
use Rattle.std.proofs.lemmas.Bool.Decides.{Decides-eqb}
use Rattle.shore_types.specs.declared.ids.Rid.{Rid}

pub Decides-and : (b c : Bool) {P Q : Type 0} → Decides b P → Decides c Q → Decides (b && c) (P × Q)
Decides-and true c p q = (λ h. (p.0 refl, q.0 h), λ h. q.1 h.1)
Decides-and false c p q = (λ h. cc, λ h. p.1 h.0)

pub Decides-same : {b : Bool} {P Q : Type 0} → Decides b P → (P → Q) → (Q → P) → Decides b Q
Decides-same d to back = (λ h. to (d.0 h), λ h. d.1 (back h))

abbrev pub rid_eq : Rid → Rid → Bool
rid_eq a b = ((a.page.store == b.page.store) && (a.page.page == b.page.page)) && (a.slot == b.slot)

pub rid_eq-Decides : (a b : Rid) → Decides (rid_eq a b) (a ≡ b)
rid_eq-Decides a b =
    Decides-same
    (Decides-and _ _ (Decides-and _ _ (Decides-eqb a.page.store b.page.store) (Decides-eqb a.page.page b.page.page)) (Decides-eqb a.slot b.slot))
    (λ h i. record { page = record { store = h.0.0 i; page = h.0.1 i }; slot = h.1 i })
    (λ e. ((ap (λ (r : Rid). r.page.store) e, ap (λ (r : Rid). r.page.page) e), ap (λ (r : Rid). r.slot) e))

abbrev pub end_eq : Rid × ℕ → Rid × ℕ → Bool
end_eq a b = rid_eq a.0 b.0 && (a.1 == b.1)

pub end_eq-Decides : (a b : Rid × ℕ) → Decides (end_eq a b) (a ≡ b)
end_eq-Decides a b =
    Decides-same (Decides-and _ _ (rid_eq-Decides a.0 b.0) (Decides-eqb a.1 b.1))
    (λ h i. (h.0 i, h.1 i))
    (λ e. (ap (λ p. p.0) e, ap (λ p. p.1) e))
