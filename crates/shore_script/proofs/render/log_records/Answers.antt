use Rattle.std.proofs.Common.{◌≡◌, ℕ, ◌+◌, ◌++◌, take, sym, ap, subst, ◌∙◌, Some, add-one}
use Rattle.std.proofs.Math.Seq.{take_all}
use Rattle.std.proofs.lemmas.Option.{slice_get-get_or}
use Rattle.std.specs.Io.KnownBytes.{Appends}
use Rattle.std.specs.Prelude.{slice_get}
use Rattle.shore_script.specs.Texts.{log_line, log_lines, next_number}
use Rattle.shore_script.proofs.Printing.{Appends-then, log_lines-more, number_after, number_after-more}
use Rattle.shore_script.proofs.render.log_records.Goals as goal

pub loop-record-preserved : goal.loop-record-preserved
loop-record-preserved g c =
    let records = c.args.records.now in
    let i : ℕ = c.loop-record.record-index in
    let logged = c.record-item.result in
    let inv = c.loop-record.invariant in
    let there : slice_get records i ≡ Some logged = slice_get-get_or records i logged c.loop-record-test.true ∙ ap Some (sym c.record-item.is) in
    let written = subst (λ (n : ℕ). Appends (g.W.Write.contents c.loop-record.out) (g.W.Write.contents c.log_record.new.out) (log_line n logged)) inv.number c.in_ok-log_record.ensures in
    let text : log_lines c.args.first (take i records) ++ log_line (number_after c.args.first i) logged ≡ log_lines c.args.first (take (i + 1) records) =
    sym (log_lines-more c.args.first records i logged there) ∙ ap (λ (k : ℕ). log_lines c.args.first (take k records)) (sym (add-one i)) in
    record {
      number = c.saturating_add-number.ensures ∙ ap (λ (n : ℕ). next_number n) inv.number ∙ sym (number_after-more c.args.first i) ∙ ap (number_after c.args.first) (sym (add-one i));
      lines = subst (Appends (g.W.Write.contents c.args.out.now) (g.W.Write.contents c.log_record.new.out)) text
          (Appends-then _ _ _ (log_lines c.args.first (take i records)) (log_line (number_after c.args.first i) logged) inv.lines written);
    }

pub returns-clause-lines : goal.returns-clause-lines
returns-clause-lines g c =
    let records = c.args.records.now in
    subst (λ l. Appends (g.W.Write.contents c.args.out.now) (g.W.Write.contents c.loop-record.out) (log_lines c.args.first l)) (take_all c.loop-record.record-index records c.loop-record-test.false) c.loop-record.invariant.lines
