use Rattle.laws_calls.proofs.PreparedRuns.{abort_comes_through, commit_comes_through}
use Rattle.laws_calls.proofs.prepares.a_prepare_and_its_resolve_come_through.Goals as goal

pub returns : goal.returns
returns d g stream_bytes bytes store page short long =
    (commit_comes_through g stream_bytes bytes store page short long, abort_comes_through g stream_bytes bytes store page short long)
