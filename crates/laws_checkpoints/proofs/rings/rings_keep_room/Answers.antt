use Rattle.std.proofs.Common.{arith}
use Rattle.laws_checkpoints.proofs.RingRooms.{ring_opens, ring_spares, ring_step, ring_steps}
use Rattle.laws_checkpoints.proofs.rings.rings_keep_room.Goals as goal

pub returns-clause-step : goal.returns-clause-step
returns-clause-step c r e new h go = ring_step r e new h go

pub returns-clause-steps : goal.returns-clause-steps
returns-clause-steps c r steps last h go = ring_steps r steps last h go

pub returns-clause-completes : goal.returns-clause-completes
returns-clause-completes c r h = let n = h.numbers in (h.fits, omega arith)

pub returns-clause-again : goal.returns-clause-again
returns-clause-again c room txns pages freed admits le = let l = admits.leaves in omega arith

pub returns-clause-opens : goal.returns-clause-opens
returns-clause-opens c doubts undos room h = ring_opens doubts undos room h

pub returns-clause-spares : goal.returns-clause-spares
returns-clause-spares c doubts undos r h ring = ring_spares doubts undos r h ring
