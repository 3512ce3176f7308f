use Rattle.laws_runs.proofs.Redoing.{each_fits}
use Rattle.laws_runs.proofs.bounds.redo_fits_pages.Goals as goal

pub returns : goal.returns
returns c g stream_bytes least log h = each_fits g stream_bytes least log h
