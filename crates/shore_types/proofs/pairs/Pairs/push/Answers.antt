use Rattle.std.proofs.Common.{◌≡◌, ◌+◌, ◌++◌, ◌∷◌, [], ℕ, List, sym, ap, subst, length, length-append, ◌∙◌, arith}
use Rattle.shore_types.specs.declared.ids.Rid.{Rid}
use Rattle.shore_types.specs.Pairs.{AreEnds, pairs_in}
use Rattle.shore_types.proofs.PairLemmas.{pushed_ends, pushed_pairs}
use Rattle.shore_types.proofs.pairs.Pairs.push.Goals as goal

pub invariant_of-self-2 : goal.invariant_of-self-2
invariant_of-self-2 c =
    let bytes = c.self.inside.bytes.items in
    let ends = c.self.inside.ends.items in
    let new = c.extend_from_slice.new.self.items in
    let long : length new ≡ length bytes + length c.args.bytes.now = ap length c.in_ok-extend_from_slice.ensures.items ∙ length-append bytes c.args.bytes.now in
    let count : c.len.result ≡ length new = omega (arith, c.len.ensures) in
    let all = pushed_ends 0 ends (length bytes) c.args.id (length new) c.self.invariant (omega (arith, long)) in
    subst (λ (es : List (Rid × ℕ)). AreEnds 0 es (length new))
    (sym (c.push_reserved.ensures.items ∙ ap (λ es. es ++ (c.args.id, c.len.result) ∷ []) c.reserve.ensures.items ∙ ap (λ (n : ℕ). ends ++ (c.args.id, n) ∷ []) count))
    all

pub returns-clause-ok : goal.returns-clause-ok
returns-clause-ok c =
    let bytes = c.self.inside.bytes.items in
    let ends = c.self.inside.ends.items in
    let new = c.extend_from_slice.new.self.items in
    let long : length new ≡ length bytes + length c.args.bytes.now = ap length c.in_ok-extend_from_slice.ensures.items ∙ length-append bytes c.args.bytes.now in
    let count : c.len.result ≡ length bytes + length c.args.bytes.now = omega (arith, c.len.ensures, long) in
    ap (λ es. pairs_in new 0 es) (c.push_reserved.ensures.items ∙ ap (λ es. es ++ (c.args.id, c.len.result) ∷ []) c.reserve.ensures.items ∙ ap (λ (n : ℕ). ends ++ (c.args.id, n) ∷ []) count)
    ∙ ap (λ (b : List ℕ). pairs_in b 0 (ends ++ (c.args.id, length bytes + length c.args.bytes.now) ∷ [])) c.in_ok-extend_from_slice.ensures.items
    ∙ pushed_pairs bytes c.args.bytes.now 0 ends c.args.id c.self.invariant
    ∙ ap (λ (l : List (Rid × List ℕ)). l ++ (c.args.id, c.args.bytes.now) ∷ []) c.self.view_is
