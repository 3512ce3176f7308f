use Rattle.std.proofs.Common.{◌≡◌, ℕ, ◌+◌, ◌++◌, take, sym, ap, subst, ◌∙◌, Some, add-one}
use Rattle.std.proofs.Math.Seq.{take_all}
use Rattle.std.proofs.lemmas.Option.{slice_get-get_or}
use Rattle.std.specs.Io.KnownBytes.{Appends}
use Rattle.std.specs.Prelude.{slice_get}
use Rattle.shore_script.specs.Texts.{doubt_line, doubt_lines}
use Rattle.shore_script.proofs.Printing.{Appends-then, doubt_lines-more}
use Rattle.shore_script.proofs.render.doubts.Goals as goal

pub loop-one-preserved : goal.loop-one-preserved
loop-one-preserved g c =
    let found = c.args.found.now in
    let i : ℕ = c.loop-one.one-index in
    let one = c.one-item.result in
    let there : slice_get found i ≡ Some one = slice_get-get_or found i one c.loop-one-test.true ∙ ap Some (sym c.one-item.is) in
    let text : doubt_lines (take i found) ++ doubt_line one.0 one.1 ≡ doubt_lines (take (i + 1) found) =
    sym (doubt_lines-more found i one there) ∙ ap (λ (k : ℕ). doubt_lines (take k found)) (sym (add-one i)) in
    subst (Appends (g.W.Write.contents c.args.out.now) (g.W.Write.contents c.doubt.new.out)) text
    (Appends-then _ _ _ (doubt_lines (take i found)) (doubt_line one.0 one.1) c.loop-one.invariant c.in_ok-doubt.ensures)

pub returns : goal.returns
returns g c =
    let found = c.args.found.now in
    subst (λ l. Appends (g.W.Write.contents c.args.out.now) (g.W.Write.contents c.loop-one.out) (doubt_lines l)) (take_all c.loop-one.one-index found c.loop-one-test.false) c.loop-one.invariant
