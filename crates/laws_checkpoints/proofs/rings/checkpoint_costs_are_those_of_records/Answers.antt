use Rattle.std.proofs.Common.{refl, arith}
use Rattle.laws_checkpoints.proofs.RingEvents.{anchor_bytes, end_bytes}
use Rattle.laws_checkpoints.proofs.rings.checkpoint_costs_are_those_of_records.Goals as goal

pub returns-clause-begin : goal.returns-clause-begin
returns-clause-begin c = refl

pub returns-clause-end : goal.returns-clause-end
returns-clause-end c begin next txns dirty = end_bytes begin next txns dirty

pub returns-clause-anchor : goal.returns-clause-anchor
returns-clause-anchor c checkpoint tail = anchor_bytes checkpoint tail

pub returns-clause-greatest : goal.returns-clause-greatest
returns-clause-greatest c = refl

pub returns-clause-fits : goal.returns-clause-fits
returns-clause-fits c txns pages few less = omega arith
