use Rattle.std.proofs.Common.{◌≡◌, ◌+◌, ◌≤◌, take}
use Rattle.std.specs.BTreeMap.{get}
use Rattle.shore_types.specs.Ids.{rid_cmp}
use Rattle.shore_types.specs.declared.ids.Rid.{Rid}
use Rattle.shore_types.specs.declared.layout.TheConstants.{LONGEST_FRAME, MAX_RECORD_BYTES}
use Rattle.shore_page.specs.Undo.{longest}
use Rattle.laws_room.specs.Claims.{befores_in}
use Rattle.laws_room.specs.LogRooms.{compensation_costs}
use Rattle.shore_txn.specs.ActiveTxns.{OneBecomes}
use Rattle.shore_txn.specs.Transactions.{IsSeatIn, next_in, room_in, txns_in}
use Rattle.shore_restart.specs.Room.{HasSums}
use Rattle.shore_restart.proofs.ChangesBack.{HasSome, changes_to_undo, claim_in, told_images}
use Rattle.shore_analysis.specs.Padded.{padded}
use Rattle.shore_restart.proofs.doubts.restore_changes.Given as goal

abbrev pub invariant-loop-number : goal.invariant-loop-number
invariant-loop-number l = record {
  seated : IsSeatIn l.seat l.txns;
  so_far : OneBecomes l.seat.txn (HasSome (take l.number-index (changes_to_undo (padded l.cut l.kept) l.seat.txn))) (txns_in l.initial.txns) (txns_in l.txns);
  claims : (id : Rid) → claim_in (get rid_cmp l.claims) id ≡ longest (befores_in id (told_images (take l.number-index (changes_to_undo (padded l.cut l.kept) l.seat.txn))));
  short : (id : Rid) → claim_in (get rid_cmp l.claims) id ≤ MAX_RECORD_BYTES;
  next : next_in l.txns ≡ next_in l.initial.txns;
  room : HasSums (room_in l.initial.txns).stream_bytes (room_in l.initial.txns).kept
      ((room_in l.initial.txns).reserved + compensation_costs (told_images (take l.number-index (changes_to_undo (padded l.cut l.kept) l.seat.txn)))) (room_in l.txns);
  holds : (room_in l.txns).kept + (room_in l.txns).reserved + LONGEST_FRAME ≤ (room_in l.txns).stream_bytes;
}
