-- The first of those in doubt that finds no place is named by its Prepare.
use Rattle.std.proofs.Common.{◌≡◌, ◌≤◌, ◌+◌, ℕ, List, Some, length, map, take, drop}
use Rattle.std.specs.Prelude.{slice_get}
use Rattle.shore_types.specs.declared.layout.Geometry.{Geometry}
use Rattle.shore_model.specs.declared.log_records.LogRecord.{LogRecord}
use Rattle.shore_model.specs.declared.log_records.LogTxn.{LogTxn}
use Rattle.shore_model.specs.declared.requests.Request.{Request}
use Rattle.shore_model.specs.Requests.{held_by_all}
use Rattle.shore_locks.specs.Orderly.{IsOrderly}
use Rattle.laws_lives.specs.Doubts.{LoggedDoubt}
use Rattle.shore_analysis.specs.Doubts.{doubts_left}
use Rattle.shore_analysis.specs.Padded.{padded}
use Rattle.laws_lives.specs.Sessions.{EachOnce}
use Rattle.shore_analysis.specs.KeptMeant.{AreMeantKept}
use Rattle.shore_restart.specs.Doubts.{AreEntriesOfDoubts, AreLocksOf, CannotHold, HasNoPlace}
use Rattle.shore_restart.proofs.DoubtsHeld.{can_hold, once_front}
use Rattle.shore_restart.proofs.DoubtsNamed.{doubt_of_entry, doubts_once, split_here}

pub refused_here : (g : Geometry) (cut : ℕ) (kept : List LogRecord) (meant : AreMeantKept g cut kept) (es : List LogTxn) (are : AreEntriesOfDoubts (padded cut kept) es) (rs : List Request) (i : ℕ) (e : LogTxn) (here : slice_get es i ≡ Some e) (limit : ℕ)
    → IsOrderly rs → length rs ≤ limit → AreLocksOf (take i (doubts_left (padded cut kept))) (held_by_all rs) → EachOnce (map (λ d. d.global) (take i (doubts_left (padded cut kept))))
    → HasNoPlace limit (take i (doubts_left (padded cut kept))) (doubt_of_entry g cut kept meant es are i e here).doubt → CannotHold limit (padded cut kept) e.prepare
refused_here g cut kept meant es are rs i e here limit orderly within held names no_place =
    let its = doubt_of_entry g cut kept meant es are i e here in
    let ds = doubts_left (padded cut kept) in
    record {
      before = take i ds;
      doubt = its.doubt;
      later = drop (i + 1) ds;
      order = split_here ds i its.doubt its.at;
      number = its.number;
      first = can_hold (take i ds) rs held orderly limit within (once_front (λ (d : LoggedDoubt). d.txn) i ds (doubts_once g cut kept meant)) names;
      no_place = no_place;
    }
