-- The table of transactions, the records in place, how many slots the pages have, and the log's room: what one step does to them, whoever
-- makes it.
use Rattle.std.specs.Prelude.{◌≡◌, ℕ, List, Option, [], ◌∷◌, ◌++◌}
use Rattle.std.specs.FinMap.{get}
use Rattle.shore_types.specs.Images.{Image, image_len}
use Rattle.shore_types.specs.declared.ids.Rid.{Rid}
use Rattle.shore_types.specs.declared.layout.TheConstants.{ENDING_COST}
use Rattle.shore_types.specs.declared.versions.Version.{Version}
use Rattle.shore_model.specs.Records.{Records, put_image}
use Rattle.shore_page.specs.Room.{Fits}
use Rattle.shore_model.specs.declared.rollbacks.Rollback.{Rollback}
use Rattle.laws_lives.specs.SessionSteps.{SessionEvent, StepsTo}
use Rattle.laws_lives.specs.Sessions.{SessionTxn, Sessions, txns_of, with_undo, without_txn}
use Rattle.laws_lives.specs.UndoLists.{with_before_image}
use Rattle.laws_lives.specs.Views.{IsAmong}
use Rattle.laws_room.specs.Claims.{Claimed, NoOthers, SlotCounts, slots_of}
use Rattle.laws_room.specs.Events.{ChangeFitsPage, EventFits}
use Rattle.laws_room.specs.LogRooms.{Admits, ChangeAdmits, EventAdmits, HasLogRoom, LogRoom, RoomAfter, Takes, begun_room, changed_room, compensation_cost, ended_room, left_room, owed, undone_room}

pub record TxnTable : Type 0 where
  pub records : Records
  pub undos : List SessionTxn
  pub counts : SlotCounts
  pub room : LogRoom

-- pages and log have room for all that could be undone
pub record IsRoomy (v : Version) (spare doubts : ℕ) (s : TxnTable) : Type 0 where
  pub pages : Claimed v s.records s.undos s.counts
  pub log : HasLogRoom spare doubts s.undos s.room

pub data TableStep : Type 0 where
  -- a transaction enters the table
  EnterTxn : SessionTxn → TableStep
  -- a Change of it, and how many slots the pages have then
  MakeChange : SessionTxn → Rid → Image → SlotCounts → TableStep
  -- its savepoints change, or a rollback of it begins or is complete
  SetMarks : SessionTxn → List ℕ → Option Rollback → TableStep
  -- a Compensation of it: what is left of its undo list, the newest entry, and its savepoints and the rollback under way then
  UndoOne : SessionTxn → List (Rid × Image) → Rid × Image → List ℕ → Option Rollback → TableStep
  -- its Commit or its End
  EndTxn : SessionTxn → TableStep
  -- it leaves the table with nothing logged
  LeaveTable : SessionTxn → TableStep

-- When a step may come. Only a transaction that enters, and a Change, ask for room.
abbrev pub MayStep : Version → TxnTable → TableStep → Type 0
MayStep v s (EnterTxn a) = (a.undo.images ≡ []) × (IsAmong a.txn (txns_of s.undos) → ⊥) × Admits s.room ENDING_COST
MayStep v s (MakeChange a id image new) =
    IsAmong a s.undos × NoOthers s.undos a.txn id × ChangeFitsPage v s.records s.undos s.counts id image new × ChangeAdmits s.records id image s.room
MayStep v s (SetMarks a marks rolling) = IsAmong a s.undos
MayStep v s (UndoOne a kept e marks rolling) = IsAmong a s.undos × (a.undo.images ≡ kept ++ e ∷ [])
MayStep v s (EndTxn a) = IsAmong a s.undos
MayStep v s (LeaveTable a) = IsAmong a s.undos

abbrev pub stepped : TxnTable → TableStep → TxnTable
stepped s (EnterTxn a) = record s { undos = a ∷ s.undos; room = begun_room s.room }
stepped s (MakeChange a id image new) = record {
  records = put_image s.records id image;
  undos = with_undo a.txn (with_before_image s.records a.undo id) s.undos;
  counts = new;
  room = changed_room (get s.records id) image s.room;
}
stepped s (SetMarks a marks rolling) = record s { undos = with_undo a.txn record { images = a.undo.images; marks = marks; rolling = rolling } s.undos }
stepped s (UndoOne a kept e marks rolling) = record {
  records = put_image s.records e.0 e.1;
  undos = with_undo a.txn record { images = kept; marks = marks; rolling = rolling } s.undos;
  counts = s.counts;
  room = undone_room e.1 s.room;
}
stepped s (EndTxn a) = record s { undos = without_txn a.txn s.undos; room = ended_room (owed a) s.room }
stepped s (LeaveTable a) = record s { undos = without_txn a.txn s.undos; room = left_room (owed a) s.room }

-- A step that asks for no room has it: its page has room for what is put back, and the log for its record.
abbrev pub HasItsRoom : Version → ℕ → TxnTable → TableStep → Type 0
HasItsRoom v spare s (UndoOne a kept e marks rolling) =
    Fits v (slots_of s.records s.undos e.0.page (s.counts e.0.page)) e.0.slot (image_len e.1) × Takes spare s.room (compensation_cost e.1)
HasItsRoom v spare s (EndTxn a) = Takes spare s.room ENDING_COST
HasItsRoom v spare s (EnterTxn a) = Unit {0}
HasItsRoom v spare s (MakeChange a id image new) = Unit {0}
HasItsRoom v spare s (SetMarks a marks rolling) = Unit {0}
HasItsRoom v spare s (LeaveTable a) = Unit {0}

-- ---- steps of any transactions, one after another

abbrev pub MayStepAll : Version → TxnTable → List TableStep → Type 0
MayStepAll v s [] = Unit {0}
MayStepAll v s (step ∷ steps) = MayStep v s step × MayStepAll v (stepped s step) steps

abbrev pub stepped_all : TxnTable → List TableStep → TxnTable
stepped_all s [] = s
stepped_all s (step ∷ steps) = stepped_all (stepped s step) steps

abbrev pub AllHaveRoom : Version → ℕ → TxnTable → List TableStep → Type 0
AllHaveRoom v spare s [] = Unit {0}
AllHaveRoom v spare s (step ∷ steps) = HasItsRoom v spare s step × AllHaveRoom v spare (stepped s step) steps

-- the events of the sessions may come one after another, each with the room that it asks for; they lead to `last`, with these slots
-- and this room of the log
abbrev pub RunsWithRoom : Version → Sessions → SlotCounts → LogRoom → List SessionEvent → Sessions → SlotCounts → LogRoom → Type 0
RunsWithRoom v s counts room [] last c r = (last ≡ s) × (c ≡ counts) × (r ≡ room)
RunsWithRoom v s counts room (e ∷ events) last c r = (new : Sessions) × (later : SlotCounts) × (left : LogRoom)
    × StepsTo s e new × EventFits v s counts e later × EventAdmits s e room × RoomAfter s e room left × RunsWithRoom v new later left events last c r
