use Rattle.std.proofs.Common.{◌≡◌, ℕ, List, ◌∷◌, [], ◌++◌, sym, ap, subst, ◌∙◌, ◌*◌, ◌+◌, length, length-append, arith}
use Rattle.shore_types.specs.declared.versions.Version.{Version}
use Rattle.shore_types.specs.Versions.{page_bytes}
use Rattle.shore_dwrite.proofs.Products.{times_next}
use Rattle.shore_dwrite.specs.Shown.{IsBatchSoFar}
use Rattle.shore_dwrite.proofs.Growing.{grown}
use Rattle.shore_dwrite.proofs.images.PageImages.push.Goals as goal

pub returns-clause-goes_on : goal.returns-clause-goes_on
returns-clause-goes_on c g batch below of within is =
    let old = c.args.self.now in
    let number = c.args.number in
    let numbers_are : c.push_reserved.new.self.items ≡ old.numbers.items ++ number ∷ [] = c.push_reserved.ensures.items ∙ ap (λ (l : List ℕ). l ++ number ∷ []) c.reserve.ensures.items in
    let texts_are : c.extend_from_slice.new.self.items ≡ old.bytes.items ++ c.args.text.now = c.in_ok-extend_from_slice.ensures.items in
    subst (λ (l : List ℕ). IsBatchSoFar g l c.extend_from_slice.new.self.items) (sym numbers_are)
    (subst (IsBatchSoFar g (old.numbers.items ++ number ∷ [])) (sym texts_are) (grown g old.numbers.items old.bytes.items number c.args.text.now (old.as_many ∙ ap (λ (v : Version). page_bytes v * length old.numbers.items) of) (c.requires ∙ ap page_bytes of) batch below within is))

pub invariant_of-self-2 : goal.invariant_of-self-2
invariant_of-self-2 c =
    let old = c.args.self.now in
    let numbers_are : c.push_reserved.new.self.items ≡ old.numbers.items ++ c.args.number ∷ [] = c.push_reserved.ensures.items ∙ ap (λ (l : List ℕ). l ++ c.args.number ∷ []) c.reserve.ensures.items in
    let texts_are : c.extend_from_slice.new.self.items ≡ old.bytes.items ++ c.args.text.now = c.in_ok-extend_from_slice.ensures.items in
    let size = page_bytes old.version in
    let long : length c.push_reserved.new.self.items ≡ length old.numbers.items + 1 = omega (arith, ap length numbers_are, length-append old.numbers.items (c.args.number ∷ [])) in
    record {
      as_many =
          (omega (arith, ap length texts_are, length-append old.bytes.items c.args.text.now, old.as_many, c.requires, times_next size (length old.numbers.items)))
          ∙ ap (λ (n : ℕ). size * n) (sym long);
    }
