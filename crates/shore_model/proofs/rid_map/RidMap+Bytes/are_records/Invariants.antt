use Rattle.shore_model.specs.Records.{IsRecord}
use Rattle.shore_model.proofs.RecordLemmas.{SeenFrom}
use Rattle.shore_model.proofs.rid_map.RidMap+Bytes.are_records.Given as goal

abbrev pub invariant-loop-id : goal.invariant-loop-id
invariant-loop-id l = SeenFrom (λ e. IsRecord l.geometry e.0 e.1) l.initial.id-iterator l.id-iterator
