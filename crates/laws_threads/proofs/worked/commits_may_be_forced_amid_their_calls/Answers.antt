use Rattle.laws_threads.proofs.WorkedCommit as worked
use Rattle.laws_threads.proofs.worked.commits_may_be_forced_amid_their_calls.Goals as goal

pub returns : goal.returns
returns c g stream_bytes bytes anchor store page short long first_anchor = (
  worked.m2 g stream_bytes bytes store page short long anchor first_anchor,
  worked.m3 g stream_bytes bytes store page short long anchor first_anchor,
  worked.made g stream_bytes bytes store page short long anchor first_anchor,
  worked.comes g stream_bytes bytes store page short long anchor first_anchor,
  worked.is_moment g stream_bytes bytes store page short long anchor first_anchor,
  worked.is_lost_amid g stream_bytes bytes store page short long anchor first_anchor,
  worked.decided g stream_bytes bytes store page short long anchor first_anchor,
  worked.not_before g stream_bytes bytes store page short long anchor first_anchor,
)
