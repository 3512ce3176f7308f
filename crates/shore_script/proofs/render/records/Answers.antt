use Rattle.std.proofs.Common.{◌≡◌, ℕ, ◌+◌, ◌≤◌, ◌++◌, take, length, sym, ap, subst, ◌∙◌, add-one}
use Rattle.std.proofs.Math.Seq.{take_all}
use Rattle.std.specs.Io.KnownBytes.{Appends}
use Rattle.std.specs.Prelude.{slice_get}
use Rattle.shore_script.specs.Texts.{record_lines, some_record_line}
use Rattle.shore_script.proofs.Printing.{Appends-then, record_lines-next}
use Rattle.shore_script.proofs.render.records.Goals as goal

pub loop-index-preserved : goal.loop-index-preserved
loop-index-preserved g c =
    let pairs = c.args.pairs.now in
    let i : ℕ = c.loop-index.index in
    let text : record_lines (take i pairs) ++ some_record_line (slice_get pairs i) ≡ record_lines (take (i + 1) pairs) =
    sym (record_lines-next pairs i) ∙ ap (λ (k : ℕ). record_lines (take k pairs)) (sym (add-one i)) in
    subst (Appends (g.W.Write.contents c.args.out.now) (g.W.Write.contents c.record_at.new.out)) text
    (Appends-then _ _ _ (record_lines (take i pairs)) (some_record_line (slice_get pairs i)) c.loop-index.invariant c.in_ok-record_at.ensures)

pub returns : goal.returns
returns g c =
    let pairs = c.args.pairs.now in
    let end : length pairs ≤ c.loop-index.index = subst (λ (n : ℕ). n ≤ c.loop-index.index) c.len-index-end.ensures c.loop-index-test.false in
    subst (λ l. Appends (g.W.Write.contents c.args.out.now) (g.W.Write.contents c.loop-index.out) (record_lines l)) (take_all c.loop-index.index pairs end) c.loop-index.invariant
