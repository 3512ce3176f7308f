use Rattle.std.proofs.Common.{◌≡◌, drop, map}
use Rattle.shore_model.specs.Records.{overlays}
use Rattle.shore_model.specs.Histories.{History, shown, writes_in}
use Rattle.slow_histories.proofs.replays.shown_records.Given as goal

-- the records so far, overlaid for those that are left
abbrev pub invariant-loop-doubt : goal.invariant-loop-doubt
invariant-loop-doubt l =
    let h : History = record { opening = l.opening; entries = l.entries } in
    overlays l.records (map (λ p. writes_in h p.0) (drop l.doubt-index l.doubt-items)) ≡ shown h l.decisions
