use Rattle.std.proofs.Common.{◌≡◌, ◌++◌, ℕ, List}
use Rattle.std.specs.Prelude.{take}
use Rattle.shore_model.specs.declared.log_records.LogRecord.{LogRecord}
use Rattle.shore_analysis.specs.KeptPasses.{KnowsEnds}
use Rattle.shore_analysis.proofs.kept_passes.KeptPass.note_rest.Given as goal

abbrev pub invariant-loop-logged : goal.invariant-loop-logged
invariant-loop-logged l = ((cut : ℕ) (before : List LogRecord) → KnowsEnds cut before l.fn.self → KnowsEnds cut (before ++ take l.logged-index l.rest) l.self)
    × (l.self.awaited ≡ l.fn.self.awaited)
