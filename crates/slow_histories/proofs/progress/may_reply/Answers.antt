use Rattle.slow_histories.proofs.progress.may_reply.Goals as goal

pub returns-in-Ok : goal.returns-in-Ok
returns-in-Ok c = rw c.in-Ok.is (rw c.in_ok-found.ensures at (rw c.as_slice.ensures at c.is_right.ensures))
