use Rattle.std.proofs.Common.{◌+◌, take, drop, length}
use Rattle.shore_path.proofs.JudgedWays.{Judged}
use Rattle.shore_path.proofs.judging.judge_along.Given as goal

abbrev pub invariant-loop-granule : goal.invariant-loop-granule
invariant-loop-granule l = Judged l.txn l.target l.mode (length l.table.requests + l.initial.left) l.left (take l.granule-index l.path) (drop l.granule-index l.path) l.table.requests
