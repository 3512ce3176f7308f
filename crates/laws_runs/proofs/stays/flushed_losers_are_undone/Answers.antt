use Rattle.laws_runs.proofs.StolenPage.{stolen_page_is_undone}
use Rattle.laws_runs.proofs.stays.flushed_losers_are_undone.Goals as goal

pub returns : goal.returns
returns c g stream_bytes bytes store page limits short long most = stolen_page_is_undone g stream_bytes bytes store page limits short long most
