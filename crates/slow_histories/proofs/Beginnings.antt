-- Prefixes of a list of decisions.
use Rattle.std.proofs.Common.{◌≡◌, ℕ, List, Bool, ◌++◌, length, take, drop, sym, ap, subst, ◌∙◌, take-append-drop}
use Rattle.std.specs.Prelude.{IsTrue, All, Contains}
use Rattle.std.proofs.lemmas.Slice.Eq.{starts_is}
use Rattle.std.proofs.Math.Seq.{take-append_seam}
use Rattle.shore_model.specs.declared.histories.Decision.{Decision}
use Rattle.shore_model.specs.declared.histories.Entry.{Entry}
use Rattle.shore_model.specs.contracts.histories.DecisionPartialEq.TheImpl.{eq-value}
use Rattle.shore_model.specs.Histories.{decisions, acknowledged, Kept}
use Rattle.shore_model.proofs.Equalities.{decision_eq-Decides}
use Rattle.std.specs.List.{starts_with}

-- the test finds just the prefixes
pub begins : (ds kept : List Decision) (b : Bool) → b ≡ starts_with eq-value.it ds kept → (IsTrue b → (n : ℕ) × (kept ≡ take n ds)) × (((n : ℕ) × (kept ≡ take n ds)) → IsTrue b)
begins ds kept b is =
    let front = starts_is {E = eq-value.it} decision_eq-Decides ds kept b is in (
      λ yes. (length kept, sym (ap (take (length kept)) (front.0 yes) ∙ take-append_seam kept (drop (length kept) ds))),
      λ h. front.1 (drop h.0 ds) (sym (take-append-drop h.0 ds) ∙ ap (λ ks. ks ++ drop h.0 ds) (sym h.1)),
    )

-- "Kept" in its two parts
pub kept_iff : (es : List Entry) (kept made answered : List Decision) (b : Bool) → made ≡ decisions es → answered ≡ acknowledged es → (IsTrue b → ((n : ℕ) × (kept ≡ take n made)) × All (Contains kept) answered) × (((n : ℕ) × (kept ≡ take n made)) × All (Contains kept) answered → IsTrue b) → (IsTrue b → Kept es kept) × (Kept es kept → IsTrue b)
kept_iff es kept made answered b m t h = (
  λ yes. let p = h.0 yes in record {
    beginning = (p.0.0, p.0.1 ∙ ap (take p.0.0) m);
    acknowledged_kept = subst (All (Contains kept)) t p.1;
  },
  λ k. h.1 ((k.beginning.0, k.beginning.1 ∙ ap (take k.beginning.0) (sym m)), subst (All (Contains kept)) (sym t) k.acknowledged_kept),
)
