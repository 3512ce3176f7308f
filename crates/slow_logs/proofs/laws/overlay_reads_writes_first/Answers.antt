use Rattle.shore_model.proofs.Overlays.{get-overlay}
use Rattle.slow_logs.proofs.laws.overlay_reads_writes_first.Goals as goal

pub returns : goal.returns
returns c = get-overlay
