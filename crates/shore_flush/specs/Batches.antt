-- The pages of a batch that was chosen.
use Rattle.std.specs.Prelude.{ℕ, List}
use Rattle.shore_flush.specs.declared.flush.Batch.{Batch}

-- their numbers on the volume
abbrev pub pages_of : Batch → List ℕ
pages_of batch = batch.pages.items
