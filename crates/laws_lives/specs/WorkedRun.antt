-- Runs of two sessions, worked by hand, from an open on records o that have a and b. In the first, session 1 reads a and then reads it
-- again; in between session 2 changes b, deletes it, goes back to its savepoint before the delete, and commits first. In the others,
-- session 2 changes b and deletes it; then it aborts, or goes back to its savepoint before both and commits, and session 1 reads a in the
-- midst of that.
use Rattle.std.specs.Prelude.{ℕ, List, [], ◌∷◌, None, Ok, Some}
use Rattle.std.specs.FinMap.{get}
use Rattle.shore_types.specs.declared.ids.Rid.{Rid}
use Rattle.shore_types.specs.declared.locking.Granule.TheVariants.{Record}
use Rattle.shore_types.specs.declared.locking.Mode.TheVariants.{SH, EX}
use Rattle.shore_model.specs.declared.calls.Answer.TheVariants.{Deleted, Got, Saved, Updated, WentBack}
use Rattle.shore_model.specs.declared.calls.Call.TheVariants as call
use Rattle.shore_model.specs.declared.holds.Hold.{Hold}
use Rattle.shore_model.specs.Histories.{free}
use Rattle.shore_model.specs.Records.{Records, put_image}
use Rattle.shore_model.specs.declared.rollbacks.Rollback.TheVariants.{Whole, To}
use Rattle.laws_lives.specs.SessionSteps.{AnswerAbort, AppendCommit, BeginTxn, GiveReply, MoveLocks, PutBack, SessionEvent}
use Rattle.laws_lives.specs.Sessions.{SessionTxn, Sessions}
use Rattle.laws_lives.specs.UndoLists.{UndoList, nothing_to_undo}

abbrev pub just_opened : ℕ → Records → Sessions
just_opened slots o = record { slots = slots; records = o; active = []; held = []; next_txn = 1; seats = λ n. free; prepared = []; resolving = [] }

-- session 1 has transaction 1, and session 2 transaction 2, each with this undo list
abbrev pub reader : SessionTxn
reader = record { session = 1; txn = 1; undo = nothing_to_undo }

abbrev pub writer : UndoList → SessionTxn
writer undo = record { session = 2; txn = 2; undo = undo }

abbrev pub read_lock : ℕ → Rid → Hold
read_lock t id = record { txn = t; granule = Record id; mode = SH }

abbrev pub write_lock : ℕ → Rid → Hold
write_lock t id = record { txn = t; granule = Record id; mode = EX }

abbrev pub reads_and_writes : Rid → Rid → List Hold
reads_and_writes a b = read_lock 1 a ∷ write_lock 2 b ∷ []

-- the undo list of the writer after its update, at its savepoint, and after its delete
abbrev pub once_updated : Records → Rid → UndoList
once_updated o b = record { images = (b, get o b) ∷ []; marks = []; rolling = None }

abbrev pub once_saved : Records → Rid → UndoList
once_saved o b = record { images = (b, get o b) ∷ []; marks = 1 ∷ []; rolling = None }

abbrev pub once_deleted : Records → Rid → List ℕ → UndoList
once_deleted o b z = record { images = (b, get o b) ∷ (b, get (put_image o b (Some z)) b) ∷ []; marks = 1 ∷ []; rolling = None }

-- x is what a has, and z what session 2 writes to b
abbrev pub interleaved : Records → Rid → Rid → List ℕ → List ℕ → ℕ → List SessionEvent
interleaved o a b x z ticket =
    BeginTxn 1 ∷ BeginTxn 2 ∷ MoveLocks (reads_and_writes a b)
    ∷ GiveReply reader (call.Get a) (Ok (Got x))
    ∷ GiveReply (writer nothing_to_undo) (call.Update b z) (Ok Updated)
    ∷ GiveReply (writer (once_updated o b)) call.Savepoint (Ok (Saved 0))
    ∷ GiveReply (writer (once_saved o b)) (call.Delete b) (Ok Deleted)
    ∷ GiveReply (writer (once_deleted o b z)) (call.BackTo 0) (Ok WentBack)
    ∷ AppendCommit (writer (once_saved o b)) ticket
    ∷ GiveReply reader (call.Get a) (Ok (Got x))
    ∷ AnswerAbort reader ∷ []

-- the undo list of the writer after its update and its delete, with no savepoint, and in the midst of its abort
abbrev pub twice_changed : Records → Rid → List ℕ → UndoList
twice_changed o b z = record { images = (b, get o b) ∷ (b, get (put_image o b (Some z)) b) ∷ []; marks = []; rolling = None }

abbrev pub once_put_back : Records → Rid → UndoList
once_put_back o b = record { images = (b, get o b) ∷ []; marks = []; rolling = Some Whole }

abbrev pub abort_interrupted : Records → Rid → Rid → List ℕ → List ℕ → List SessionEvent
abort_interrupted o a b x z =
    BeginTxn 1 ∷ BeginTxn 2 ∷ MoveLocks (reads_and_writes a b)
    ∷ GiveReply (writer nothing_to_undo) (call.Update b z) (Ok Updated)
    ∷ GiveReply (writer (once_updated o b)) (call.Delete b) (Ok Deleted)
    ∷ PutBack (writer (twice_changed o b z)) ((b, get o b) ∷ []) (b, get (put_image o b (Some z)) b) Whole
    ∷ GiveReply reader (call.Get a) (Ok (Got x))
    ∷ AnswerAbort (writer (once_put_back o b)) ∷ AnswerAbort reader ∷ []

-- its undo list with a savepoint at first: at once, after its update, after its delete, and in the midst of its way back
abbrev pub saved_first : UndoList
saved_first = record { images = []; marks = 0 ∷ []; rolling = None }

abbrev pub saved_then_updated : Records → Rid → UndoList
saved_then_updated o b = record { images = (b, get o b) ∷ []; marks = 0 ∷ []; rolling = None }

abbrev pub saved_then_deleted : Records → Rid → List ℕ → UndoList
saved_then_deleted o b z = record { images = (b, get o b) ∷ (b, get (put_image o b (Some z)) b) ∷ []; marks = 0 ∷ []; rolling = None }

abbrev pub half_way_back : Records → Rid → UndoList
half_way_back o b = record { images = (b, get o b) ∷ []; marks = 0 ∷ []; rolling = Some (To 0) }

abbrev pub way_back_interrupted : Records → Rid → Rid → List ℕ → List ℕ → ℕ → List SessionEvent
way_back_interrupted o a b x z ticket =
    BeginTxn 1 ∷ BeginTxn 2 ∷ MoveLocks (reads_and_writes a b)
    ∷ GiveReply (writer nothing_to_undo) call.Savepoint (Ok (Saved 0))
    ∷ GiveReply (writer saved_first) (call.Update b z) (Ok Updated)
    ∷ GiveReply (writer (saved_then_updated o b)) (call.Delete b) (Ok Deleted)
    ∷ PutBack (writer (saved_then_deleted o b z)) ((b, get o b) ∷ []) (b, get (put_image o b (Some z)) b) (To 0)
    ∷ GiveReply reader (call.Get a) (Ok (Got x))
    ∷ GiveReply (writer (half_way_back o b)) (call.BackTo 0) (Ok WentBack)
    ∷ AppendCommit (writer saved_first) ticket ∷ AnswerAbort reader ∷ []
