-- The undo list of a transaction under way: what a rollback puts back, whole or down to a savepoint, at once or in steps, and what
-- makes it right.
use Rattle.std.specs.Prelude.{◌≡◌, ◌⊎◌, ◌<◌, ◌≤◌, ◌+◌, ℕ, List, [], ◌∷◌, ◌++◌, Option, None, Some, Result, Ok, Err, IsSome, drop, length, slice_get, take, unwrap_or}
use Rattle.std.specs.FinMap.{empty, get}
use Rattle.std.specs.List.{AllByRecursion}
use Rattle.shore_types.specs.Images.{Image}
use Rattle.shore_types.specs.declared.faults.Fault.{Fault}
use Rattle.shore_types.specs.declared.ids.Rid.{Rid}
use Rattle.shore_model.specs.declared.calls.Answer.{Answer}
use Rattle.shore_model.specs.declared.calls.Answer.TheVariants.{Inserted}
use Rattle.shore_model.specs.declared.calls.Call.{Call}
use Rattle.shore_model.specs.declared.calls.Call.TheVariants as call
use Rattle.shore_model.specs.declared.holds.Hold.{Hold}
use Rattle.shore_model.specs.declared.progress.Progress.{Progress}
use Rattle.shore_model.specs.Locks.{MayRead, MayWrite}
use Rattle.shore_model.specs.Records.{Records, WriteSet, laid_over, overlay, put_image}
use Rattle.shore_model.specs.declared.rollbacks.Rollback.{Rollback}
use Rattle.shore_model.specs.declared.rollbacks.Rollback.TheVariants.{Whole, To}

-- the before images of a transaction's changes, in the order of the changes; for each savepoint its mark: how many images there
-- were when it was set; and the rollback that has begun and is not complete, if there is one
pub record UndoList : Type 0 where
  pub images : List (Rid × Image)
  pub marks : List ℕ
  pub rolling : Option Rollback

abbrev pub nothing_to_undo : UndoList
nothing_to_undo = record { images = []; marks = []; rolling = None }

-- Records with images put back, from the last of the list to the first.
abbrev pub rolled_back : Records → List (Rid × Image) → Records
rolled_back R images = laid_over R images

-- the mark of a savepoint; an index that no savepoint has gives the length, so that nothing is undone
abbrev pub mark_of : UndoList → ℕ → ℕ
mark_of undo n = unwrap_or (slice_get undo.marks n) (length undo.images)

-- the before images of the changes since a savepoint
abbrev pub images_since : UndoList → ℕ → List (Rid × Image)
images_since undo n = drop (mark_of undo n) undo.images

-- ---- what a reply leaves

-- the records in place after a call that was answered
abbrev pub in_place_after_answer : Records → UndoList → Call → Answer → Records
in_place_after_answer R undo (call.Insert s bytes) (Inserted id) = put_image R id (Some bytes)
in_place_after_answer R undo (call.Insert s bytes) _ = R
in_place_after_answer R undo (call.Update id bytes) answer = put_image R id (Some bytes)
in_place_after_answer R undo (call.Delete id) answer = put_image R id None
in_place_after_answer R undo (call.BackTo n) answer = rolled_back R (images_since undo n)
in_place_after_answer R undo call.Begin answer = R
in_place_after_answer R undo (call.Get id) answer = R
in_place_after_answer R undo (call.GetForUpdate id) answer = R
in_place_after_answer R undo (call.Scan s) answer = R
in_place_after_answer R undo (call.Lock g mode) answer = R
in_place_after_answer R undo (call.TryLock g mode) answer = R
in_place_after_answer R undo call.Savepoint answer = R
in_place_after_answer R undo call.Commit answer = R
in_place_after_answer R undo call.Abort answer = R
in_place_after_answer R undo (call.Prepare global) answer = R
in_place_after_answer R undo (call.Resolve global outcome) answer = R
in_place_after_answer R undo call.InDoubt answer = R

-- a refused call leaves them as they were
abbrev pub in_place_after : Records → UndoList → Call → Result Answer Fault → Records
in_place_after R undo c (Ok answer) = in_place_after_answer R undo c answer
in_place_after R undo c (Err fault) = R

-- a change goes to the end of the undo list with the image that it finds
abbrev pub with_before_image : Records → UndoList → Rid → UndoList
with_before_image R undo id = record { images = undo.images ++ (id, get R id) ∷ []; marks = undo.marks; rolling = undo.rolling }

-- the undo list after a call that was answered
abbrev pub undo_after_answer : Records → UndoList → Call → Answer → UndoList
undo_after_answer R undo (call.Insert s bytes) (Inserted id) = with_before_image R undo id
undo_after_answer R undo (call.Insert s bytes) _ = undo
undo_after_answer R undo (call.Update id bytes) answer = with_before_image R undo id
undo_after_answer R undo (call.Delete id) answer = with_before_image R undo id
undo_after_answer R undo call.Savepoint answer = record { images = undo.images; marks = undo.marks ++ length undo.images ∷ []; rolling = undo.rolling }
undo_after_answer R undo (call.BackTo n) answer = record { images = take (mark_of undo n) undo.images; marks = take (n + 1) undo.marks; rolling = None }
undo_after_answer R undo call.Begin answer = undo
undo_after_answer R undo (call.Get id) answer = undo
undo_after_answer R undo (call.GetForUpdate id) answer = undo
undo_after_answer R undo (call.Scan s) answer = undo
undo_after_answer R undo (call.Lock g mode) answer = undo
undo_after_answer R undo (call.TryLock g mode) answer = undo
undo_after_answer R undo call.Commit answer = undo
undo_after_answer R undo call.Abort answer = undo
undo_after_answer R undo (call.Prepare global) answer = undo
undo_after_answer R undo (call.Resolve global outcome) answer = undo
undo_after_answer R undo call.InDoubt answer = undo

abbrev pub undo_after : Records → UndoList → Call → Result Answer Fault → UndoList
undo_after R undo c (Ok answer) = undo_after_answer R undo c answer
undo_after R undo c (Err fault) = undo

-- ---- a rollback in steps

-- a rollback of all may begin or go on at any time; one to a savepoint that is there begins if none is under way, and goes on if it is
-- the one that is
abbrev pub MayRoll : UndoList → Rollback → Type 0
MayRoll undo Whole = Unit {0}
MayRoll undo (To n) = (n < length undo.marks) × ((undo.rolling ≡ None) ⊎ (undo.rolling ≡ Some (To n)))

-- how many images it leaves once it is complete
abbrev pub least_kept : UndoList → Rollback → ℕ
least_kept undo Whole = 0
least_kept undo (To n) = mark_of undo n

-- the marks of the savepoints that are left as soon as it has begun
abbrev pub marks_kept : Rollback → List ℕ → List ℕ
marks_kept Whole marks = []
marks_kept (To n) marks = take (n + 1) marks

-- the undo list once it has come down to these images
abbrev pub undo_rolled : UndoList → List (Rid × Image) → Rollback → UndoList
undo_rolled undo kept r = record { images = kept; marks = marks_kept r undo.marks; rolling = Some r }

-- no rollback is under way, or one to a savepoint, and this answer completes it
abbrev pub MayGiveReply : UndoList → Call → Result Answer Fault → Type 0
MayGiveReply undo c reply =
    (undo.rolling ≡ None)
    ⊎ ((n : ℕ) × (answer : Answer) × (undo.rolling ≡ Some (To n)) × (c ≡ call.BackTo n) × (reply ≡ Ok answer))

-- ---- what a rollback comes to

-- Once the images beyond the mark are put back, the transaction sees as one that has written W.
pub record UndoesTo (held : List Hold) (now R : Records) (t : ℕ) (images : List (Rid × Image)) (mark : ℕ) (W : WriteSet) : Type 0 where
  pub within : mark ≤ length images
  pub view : (id : Rid) → MayRead held t id → get (rolled_back R (drop mark images)) id ≡ get (overlay now W) id
  pub locked : (id : Rid) → IsSome (get W id) → MayWrite held t id

-- it is so at the mark of each savepoint, with the write set that was saved there
abbrev pub UndoToSavepoints : List Hold → Records → Records → ℕ → List (Rid × Image) → List ℕ → List WriteSet → Type 0
UndoToSavepoints held now R t images [] [] = Unit {0}
UndoToSavepoints held now R t images (mark ∷ marks) (W ∷ Ws) =
    UndoesTo held now R t images mark W × UndoToSavepoints held now R t images marks Ws
UndoToSavepoints held now R t images [] (W ∷ Ws) = ⊥
UndoToSavepoints held now R t images (mark ∷ marks) [] = ⊥

-- no savepoint's mark is above that of a later one
abbrev pub AreRising : List ℕ → Type 0
AreRising [] = Unit {0}
AreRising (mark ∷ marks) = AllByRecursion (λ later. mark ≤ later) marks × AreRising marks

-- The undo list undoes a transaction that has come so far: whole, it leaves an empty write set, and down to a savepoint that is left
-- the one that was saved there. It changes nothing that the transaction may not write, so that no rollback needs a lock.
pub record CanUndo (held : List Hold) (now R : Records) (t : ℕ) (undo : UndoList) (p : Progress) : Type 0 where
  pub changed : AllByRecursion (λ e. MayWrite held t e.0) undo.images
  pub whole : UndoesTo held now R t undo.images 0 empty
  pub savepoints : UndoToSavepoints held now R t undo.images undo.marks (take (length undo.marks) p.saved)
  pub rise : AreRising undo.marks
  -- all savepoints are left unless a rollback is under way
  pub complete : undo.rolling ≡ None → length undo.marks ≡ length p.saved
