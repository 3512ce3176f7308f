use Rattle.std.proofs.Common.{◌≡◌, drop}
use Rattle.shore_model.specs.Alone.{after, start}
use Rattle.shore_model.specs.Histories.{calls_of}
use Rattle.slow_histories.proofs.replays.writes_of_txn.Given as goal

-- what the progress so far gives with what is left
abbrev pub invariant-loop-entry : goal.invariant-loop-entry
invariant-loop-entry l = after l.progress (calls_of l.txn (drop l.entry-index l.entries)) ≡ after start (calls_of l.txn l.entries)
