use Rattle.std.proofs.Common.{◌≡◌, ℕ, List, sym, ap, ◌∙◌}
use Rattle.std.specs.Prelude.{nat_eq}
use Rattle.std.proofs.lemmas.Bool.Decides.{Decides-eqb}
use Rattle.std.proofs.lemmas.Slice.Eq.{slice_eq-Decides}
use Rattle.shore_types.specs.Pairs.{pairs_in}
use Rattle.shore_types.proofs.Equalities.{end_eq, end_eq-Decides}
use Rattle.shore_types.proofs.PairLemmas.{same_parts}
use Rattle.shore_types.proofs.pairs.Pairs.equals.Goals as goal

pub returns-then-eq : goal.returns-then-eq
returns-then-eq c =
    let a = c.self.inside in
    let b = c.other.inside in
    let ends = slice_eq-Decides {E = end_eq} end_eq-Decides c.as_slice.result.now c.as_slice-2.result.now c.eq.result c.eq.ensures in
    let same_ends : a.ends.items ≡ b.ends.items = sym c.as_slice.ensures.value ∙ ends.0 c.if-eq.true ∙ c.as_slice-2.ensures.value in
    let bytes = slice_eq-Decides {E = nat_eq} Decides-eqb c.as_slice-then-eq.result.now c.as_slice-then-eq-2.result.now c.eq-then-eq.result c.eq-then-eq.ensures in (
      λ yes.
          let same_bytes : a.bytes.items ≡ b.bytes.items = sym c.as_slice-then-eq.ensures.value ∙ bytes.0 yes ∙ c.as_slice-then-eq-2.ensures.value in
          sym c.self.view_is ∙ ap (λ es. pairs_in a.bytes.items 0 es) same_ends ∙ ap (λ (l : List ℕ). pairs_in l 0 b.ends.items) same_bytes ∙ c.other.view_is,
      λ same.
          let parts = same_parts a.bytes.items b.bytes.items 0 a.ends.items b.ends.items c.self.invariant c.other.invariant (c.self.view_is ∙ same ∙ sym c.other.view_is) in
          bytes.1 (c.as_slice-then-eq.ensures.value ∙ parts.1 ∙ sym c.as_slice-then-eq-2.ensures.value),
    )

pub returns-else-eq : goal.returns-else-eq
returns-else-eq c =
    let a = c.self.inside in
    let b = c.other.inside in
    let ends = slice_eq-Decides {E = end_eq} end_eq-Decides c.as_slice.result.now c.as_slice-2.result.now c.eq.result c.eq.ensures in (
      λ yes. absurd cc,
      λ same.
          let parts = same_parts a.bytes.items b.bytes.items 0 a.ends.items b.ends.items c.self.invariant c.other.invariant (c.self.view_is ∙ same ∙ sym c.other.view_is) in
          ends.1 (c.as_slice.ensures.value ∙ parts.0 ∙ sym c.as_slice-2.ensures.value),
    )
