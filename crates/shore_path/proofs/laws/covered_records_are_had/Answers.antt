use Rattle.std.proofs.Common.{ap, length}
use Rattle.shore_path.specs.Walks.{Outcome}
use Rattle.shore_path.specs.Judging.{with_left}
use Rattle.shore_path.proofs.Intended.{covered_is_reached, covered_records}
use Rattle.shore_path.proofs.laws.covered_records_are_had.Goals as goal

pub returns-clause-had : goal.returns-clause-had
returns-clause-had c = covered_records

pub returns-clause-reached : goal.returns-clause-reached
returns-clause-reached c = covered_is_reached

pub returns-clause-free : goal.returns-clause-free
returns-clause-free c rs t id covers = ap (λ (o : Outcome). o.answer) (covered_records (with_left rs 4) t id covers)
