use Rattle.std.proofs.Common.{refl}
use Rattle.shore_txn.proofs.ActiveSteps.{becomes_so}
use Rattle.shore_sessions.specs.Controls.{txns_in, waits_in}
use Rattle.shore_sessions.proofs.ControlSteps.{resolving_kept}
use Rattle.shore_sessions.proofs.SeatSteps.{rolled_kept, same_seated}
use Rattle.shore_sessions.proofs.TxnSteps.{txns_same}
use Rattle.shore_sessions.proofs.control.Control.reserve_entry.Goals as goal

pub returns-clause-stands : goal.returns-clause-stands
returns-clause-stands c s was = let done = c.reserve_entry.ensures in record {
  txns = txns_same (txns_in c.args.self.now) c.reserve_entry.new.self s was.txns done.same done.undos done.doubts done.next done.room;
  waits = was.waits;
  resolving = resolving_kept (txns_in c.args.self.now) c.reserve_entry.new.self (waits_in c.args.self.now) (waits_in c.args.self.now) s s (rolled_kept (becomes_so same_seated done.same)) refl refl (λ f. f) was.resolving;
  locks = was.locks;
}
