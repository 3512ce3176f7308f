-- A run, and histories that no manager makes, worked by hand. All begin with an open on records o that have a, and the run's have b too; x and y are what stands there.
use Rattle.std.specs.Prelude.{ℕ, List, [], ◌∷◌, Ok}
use Rattle.shore_types.specs.declared.ids.Rid.{Rid}
use Rattle.shore_types.specs.declared.locking.Granule.TheVariants.{Record}
use Rattle.shore_model.specs.declared.calls.Answer.TheVariants.{Began, Committed, Got, Updated}
use Rattle.shore_model.specs.declared.calls.Call.TheVariants as call
use Rattle.shore_model.specs.declared.histories.Decision.TheVariants.{Commit, Prepare, RollBack}
use Rattle.shore_model.specs.declared.histories.Entry.{Entry}
use Rattle.shore_model.specs.declared.histories.Entry.TheVariants.{Decided, Exchanged}
use Rattle.shore_model.specs.Records.{Records}
use Rattle.laws_lives.specs.SessionSteps.{AnswerPrepare, AppendCommit, AppendPrepare, AppendResolve, BeginTxn, GiveReply, MoveLocks, SessionEvent, exchange}
use Rattle.laws_lives.specs.UndoLists.{nothing_to_undo}
use Rattle.laws_lives.specs.WorkedRun.{once_updated, reader, reads_and_writes, writer}

-- Session 2 changes b and prepares under a global id. Then session 1 reads a and commits, and a resolve commits what session 2 did.
abbrev pub commits_between : Records → Rid → Rid → List ℕ → List ℕ → List ℕ → ℕ → List SessionEvent
commits_between o a b x z global ticket =
    BeginTxn 1 ∷ BeginTxn 2 ∷ MoveLocks (reads_and_writes a b)
    ∷ GiveReply (writer nothing_to_undo) (call.Update b z) (Ok Updated)
    ∷ AppendPrepare (writer (once_updated o b)) global (Record b ∷ [])
    ∷ GiveReply reader (call.Get a) (Ok (Got x))
    ∷ AppendCommit reader ticket
    ∷ AnswerPrepare 2 2 global
    ∷ AppendResolve (writer (once_updated o b)) global ∷ []

-- ---- entries of transaction t, of session t

abbrev begins : ℕ → Entry
begins t = Exchanged t t (exchange call.Begin (Ok (Began t)))

abbrev reads : ℕ → Rid → List ℕ → Entry
reads t a bytes = Exchanged t t (exchange (call.Get a) (Ok (Got bytes)))

abbrev writes : ℕ → Rid → List ℕ → Entry
writes t a bytes = Exchanged t t (exchange (call.Update a bytes) (Ok Updated))

abbrev commits : ℕ → ℕ → List Entry → List Entry
commits t ticket rest = Decided (Commit t) ∷ Exchanged t t (exchange call.Commit (Ok (Committed ticket))) ∷ rest

-- ---- what no manager makes

-- Transaction 1 reads a, updates it to z and is prepared. 2 reads what stood there before, updates it to v, and commits. Then 1 is committed: the update of 2 is lost.
abbrev pub lost_update : Rid → List ℕ → List ℕ → List ℕ → List Entry
lost_update a x z v =
    begins 1 ∷ reads 1 a x ∷ writes 1 a z ∷ Decided (Prepare 1 []) ∷ begins 2 ∷ reads 2 a x ∷ writes 2 a v ∷ commits 2 1 (Decided (Commit 1) ∷ [])

-- 2 reads what 1 has written, and commits; then 1, which was prepared, is rolled back
abbrev pub read_too_soon : Rid → List ℕ → List Entry
read_too_soon a z = begins 1 ∷ writes 1 a z ∷ Decided (Prepare 1 []) ∷ begins 2 ∷ reads 2 a z ∷ commits 2 1 (Decided (RollBack 1) ∷ [])

-- 1 commits, and 2 reads what stood there before
abbrev pub read_too_late : Rid → List ℕ → List ℕ → List Entry
read_too_late a x z = begins 1 ∷ writes 1 a z ∷ commits 1 1 (begins 2 ∷ reads 2 a x ∷ commits 2 2 [])

-- 1 was prepared and is rolled back, and 2 reads what it wrote
abbrev pub read_though_undone : Rid → List ℕ → List Entry
read_though_undone a z = begins 1 ∷ writes 1 a z ∷ Decided (Prepare 1 []) ∷ Decided (RollBack 1) ∷ begins 2 ∷ reads 2 a z ∷ commits 2 1 []

-- 1 is prepared, and 2 writes where 1 has written and commits first. Nobody has read anything.
abbrev pub written_over : Rid → List ℕ → List ℕ → List Entry
written_over a z v = begins 1 ∷ writes 1 a z ∷ Decided (Prepare 1 []) ∷ begins 2 ∷ writes 2 a v ∷ commits 2 1 (Decided (Commit 1) ∷ [])
