use Rattle.std.proofs.Common.{map, take}
use Rattle.shore_shared.specs.Told.{AreAllClaimed, shown_by}
use Rattle.shore_shared.proofs.serving.in_turn.Given as goal

abbrev pub invariant-loop-job : goal.invariant-loop-job
invariant-loop-job g l =
    AreAllClaimed g.J.Job.says (map (λ s. shown_by s.ear s.seat) l.fn.sessions.items) (take l.job-index l.jobs) (map (λ row. row.items) l.all.items) (map (λ s. shown_by s.ear s.seat) l.sessions.items)
