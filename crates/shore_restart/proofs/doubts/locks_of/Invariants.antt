use Rattle.std.proofs.Common.{◌≡◌, map, take}
use Rattle.shore_model.specs.Requests.{held_by_all}
use Rattle.shore_path.specs.Restoring.{NobodyWaits}
use Rattle.shore_path.specs.Rooted.{AreRooted}
use Rattle.laws_lives.specs.Sessions.{EachOnce}
use Rattle.shore_restart.specs.Doubts.{AreLocksOf}
use Rattle.shore_analysis.specs.Padded.{padded}
use Rattle.shore_analysis.specs.Doubts.{doubts_left}
use Rattle.shore_restart.proofs.doubts.locks_of.Given as goal

abbrev pub invariant-loop-index : goal.invariant-loop-index
invariant-loop-index l = record {
  limit : l.locks.limit ≡ l.geometry.max_locks;
  nobody : NobodyWaits l.locks.requests;
  rooted : AreRooted l.locks.requests;
  held : AreLocksOf (take l.index (doubts_left (padded l.cut l.kept))) (held_by_all l.locks.requests);
  names : EachOnce (map (λ d. d.global) (take l.index (doubts_left (padded l.cut l.kept))));
}
