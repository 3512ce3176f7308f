use Rattle.std.proofs.Common.{◌≡◌, ◌<◌, ℕ, List, length, get_or, Some, slice_get, sym, ap, ◌∙◌, arith}
use Rattle.std.specs.List.{between}
use Rattle.std.proofs.lemmas.Option.{slice_get_past}
use Rattle.shore_types.specs.declared.ids.Rid.{Rid}
use Rattle.shore_types.specs.Pairs.{begin_in}
use Rattle.shore_types.proofs.PairLemmas.{begin_before, length_in, pair_at}
use Rattle.shore_types.proofs.pairs.Pairs.get.Goals as goal

pub returns-then-index-len : goal.returns-then-index-len
returns-then-index-len c =
    sym (slice_get_past c.args.self.now c.args.index (omega (arith, c.len.ensures, c.if-index-len.true, length_in c.self.inside.bytes.items 0 c.self.inside.ends.items, ap (λ (l : List (Rid × List ℕ)). length l) c.self.view_is)))

pub part-requires : goal.part-requires
part-requires c =
    let ends = c.self.inside.ends.items in
    let inside : c.args.index < length ends = omega (arith, c.len.ensures, c.if-index-len.false) in
    let bounds = begin_before 0 ends (length c.self.inside.bytes.items) c.args.index c.index.result.now c.self.invariant inside in
    let start : c.begin-from.result ≡ begin_in 0 ends c.args.index = c.begin-from.ensures ∙ ap (λ (es : List (Rid × ℕ)). begin_in 0 es c.args.index) c.deref.ensures.value in
    let end : c.index.result.now.1 ≡ (get_or ends c.args.index c.index.result.now).1 = ap (λ p. p.1) c.index.ensures in
    record {
      order = omega (arith, bounds.0, start, end);
      within = omega (arith, bounds.1, end, ap (λ (l : List ℕ). length l) c.deref-2.ensures.value);
    }

pub returns : goal.returns
returns c =
    let bytes = c.self.inside.bytes.items in
    let ends = c.self.inside.ends.items in
    let inside : c.args.index < length ends = omega (arith, c.len.ensures, c.if-index-len.false) in
    let start : c.begin-from.result ≡ begin_in 0 ends c.args.index = c.begin-from.ensures ∙ ap (λ (es : List (Rid × ℕ)). begin_in 0 es c.args.index) c.deref.ensures.value in
    ap (λ (l : List ℕ). Some (c.index.result.now.0, l)) (c.part.ensures ∙ ap (λ (b : List ℕ). between c.begin-from.result c.index.result.now.1 b) c.deref-2.ensures.value)
    ∙ ap (λ (n : ℕ). Some (c.index.result.now.0, between n c.index.result.now.1 bytes)) start
    ∙ ap (λ (p : Rid × ℕ). Some (p.0, between (begin_in 0 ends c.args.index) p.1 bytes)) c.index.ensures
    ∙ pair_at bytes 0 ends c.args.index c.index.result.now inside
    ∙ ap (λ (l : List (Rid × List ℕ)). slice_get l c.args.index) c.self.view_is
