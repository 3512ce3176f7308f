use Rattle.std.proofs.Common.{◌≡◌, ◌+◌, ◌≤◌, drop, length}
use Rattle.shore_types.specs.declared.layout.TheConstants.{LONGEST_FRAME}
use Rattle.shore_txn.specs.Transactions.{next_in, room_in, txns_in}
use Rattle.shore_restart.specs.GivenBack.{AreGivenBack}
use Rattle.shore_restart.specs.Room.{HasSums}
use Rattle.shore_restart.proofs.DoubtsBack.{owed_from}
use Rattle.shore_analysis.specs.Padded.{padded}
use Rattle.shore_analysis.specs.Doubts.{doubts_left}
use Rattle.shore_restart.proofs.doubts.txns_of.Given as goal

abbrev pub invariant-loop-index : goal.invariant-loop-index
invariant-loop-index l = record {
  within : l.index ≤ length l.doubts;
  back : AreGivenBack (padded l.cut l.kept) (drop l.index (doubts_left (padded l.cut l.kept))) (txns_in l.txns);
  next : next_in l.txns ≡ l.fn.next;
  room : HasSums l.fn.room.stream_bytes l.fn.room.kept (owed_from (padded l.cut l.kept) l.index) (room_in l.txns);
  holds : l.fn.room.kept + owed_from (padded l.cut l.kept) l.index + LONGEST_FRAME ≤ l.fn.room.stream_bytes;
}

abbrev pub decreases-loop-index : goal.decreases-loop-index
decreases-loop-index l = l.index
