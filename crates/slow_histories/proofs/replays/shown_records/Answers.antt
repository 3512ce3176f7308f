use Rattle.std.proofs.Common.{◌<◌, ◌+◌, ℕ, List, length, arith, drop, map, sym, ap, ◌∙◌}
use Rattle.shore_model.specs.Records.{overlay, overlays}
use Rattle.shore_model.specs.Histories.{History, writes_in}
use Rattle.shore_model.proofs.Steps.{at_place}
use Rattle.slow_histories.proofs.replays.shown_records.Goals as goal

pub loop-doubt-preserved : goal.loop-doubt-preserved
loop-doubt-preserved c =
    let h : History = record { opening = c.args.opening.now; entries = c.args.entries.now } in
    let rest = λ (ps : List (ℕ × List ℕ)). map (λ p. writes_in h p.0) ps in
    let items = c.as_slice-doubt-items.result.now in
    let i = c.loop-doubt.doubt-index in
    let within : i < length items = omega arith in
    ap (λ R. overlays R (rest (drop (i + 1) items))) (c.in_ok-records-2.ensures ∙ ap (overlay c.loop-doubt.records) c.in_ok-writes.ensures)
    ∙ ap (λ ps. overlays c.loop-doubt.records (rest ps)) (sym (at_place items i c.doubt-item.result within c.doubt-item.is))
    ∙ c.loop-doubt.invariant
