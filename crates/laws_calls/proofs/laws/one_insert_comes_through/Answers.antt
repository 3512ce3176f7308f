use Rattle.laws_calls.proofs.SessionInsert.{session_comes_through}
use Rattle.laws_calls.proofs.laws.one_insert_comes_through.Goals as goal

pub returns : goal.returns
returns d g stream_bytes bytes store page short long = session_comes_through g stream_bytes bytes store page short long
