-- Who has changed a record and has not ended: in a lawful log one transaction at most, its writer. And what undo leaves at an id.
use Rattle.std.specs.Prelude.{◌≡◌, ◌⊎◌, ℕ, List, [], ◌∷◌, Bool, true, false, Option, None, Some, if◌then◌else◌}
use Rattle.std.specs.Ordering.{eq_by_cmp}
use Rattle.std.specs.FinMap.{get}
use Rattle.shore_types.specs.Ids.{rid_cmp}
use Rattle.shore_types.specs.Images.{Image}
use Rattle.shore_types.specs.declared.ids.Rid.{Rid}
use Rattle.shore_model.specs.declared.unanswered_changes.UnansweredChange.{UnansweredChange}
use Rattle.shore_model.specs.declared.log_records.LogRecord.{LogRecord}
use Rattle.shore_model.specs.declared.log_records.Payload.{Payload}
use Rattle.shore_model.specs.Logs.{id_in, image_of_record, has, is_over, logged_writes, unanswered}
use Rattle.laws_lives.specs.LogTells.{records_committed}

abbrev pub is_this_id : Rid → Option Rid → Bool
is_this_id id None = false
is_this_id id (Some other) = eq_by_cmp rid_cmp id other

-- the payload is a Change or a Compensation of the id
abbrev pub changes_id : Rid → Payload → Bool
changes_id id p = is_this_id id (id_in p)

-- what becomes of an image at the id by undo of these Changes, first to last
abbrev pub image_undone : Image → Rid → List UnansweredChange → Image
image_undone image id [] = image
image_undone image id (c ∷ cs) = image_undone (if eq_by_cmp rid_cmp id c.id then c.before else image) id cs

-- what the committed transactions leave at the id
abbrev pub image_committed : List LogRecord → Rid → Image
image_committed log id = get (records_committed log) id

-- whoever has changed the id has ended, and what is committed stands there
pub record HasNoWriter (log : List LogRecord) (id : Rid) : Type 0 where
  pub over : (t : ℕ) → has (changes_id id) t log ≡ true → is_over t log ≡ true
  pub image : image_of_record log id ≡ image_committed log id

-- Transaction t is the id's only writer: what t wrote last stands there, and undo of its unanswered Changes brings back what is committed.
pub record HasWriter (log : List LogRecord) (id : Rid) (t : ℕ) : Type 0 where
  pub not_over : is_over t log ≡ false
  pub changed : has (changes_id id) t log ≡ true
  pub others : (u : ℕ) → (u ≡ t → ⊥) → has (changes_id id) u log ≡ true → is_over u log ≡ true
  pub written : get (logged_writes log t) id ≡ Some (image_of_record log id)
  pub undoes : image_undone (image_of_record log id) id (unanswered t log) ≡ image_committed log id

abbrev pub HasOneWriterAtMost : List LogRecord → Rid → Type 0
HasOneWriterAtMost log id = HasNoWriter log id ⊎ ((t : ℕ) × HasWriter log id t)
