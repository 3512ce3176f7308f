-- What comes back by undo of the Changes since a savepoint, while other transactions go on.
use Rattle.std.specs.Prelude.{◌≡◌, ◌≤◌, ◌<◌, ◌-◌, ℕ, List, true, false, None, unwrap_or, length, take}
use Rattle.std.specs.FinMap.{get}
use Rattle.shore_types.specs.declared.ids.Rid.{Rid}
use Rattle.shore_model.specs.declared.log_records.LogRecord.{LogRecord}
use Rattle.shore_model.specs.declared.log_records.Payload.{Payload}
use Rattle.shore_model.specs.declared.log_records.Payload.TheVariants.{Compensation}
use Rattle.shore_model.specs.Records.{WriteSet}
use Rattle.shore_model.specs.Logs.{has, image_of_record, is_over, unanswered}
use Rattle.laws_lives.specs.Writers.{changes_id, image_committed, image_undone}

-- the id has no writer but t
abbrev pub HasNoOtherWriter : List LogRecord → ℕ → Rid → Type 0
HasNoOtherWriter log t id = (u : ℕ) → (u ≡ t → ⊥) → has (changes_id id) u log ≡ true → is_over u log ≡ true

-- W is what the transaction had written when so many of its Changes, the depth, were unanswered. Undo of the unanswered ones above that
-- depth brings W back, over what is committed by now.
pub record IsSavedAt (log : List LogRecord) (t : ℕ) (W : WriteSet) (depth : ℕ) : Type 0 where
  pub deep : depth ≤ length (unanswered t log)
  pub own : (id : Rid) → has (changes_id id) t log ≡ false → get W id ≡ None
  pub back : (id : Rid) → HasNoOtherWriter log t id
      → image_undone (image_of_record log id) id (take (length (unanswered t log) - depth) (unanswered t log)) ≡ unwrap_or (get W id) (image_committed log id)

-- a Compensation of t answers a Change above the depth
abbrev pub AnswersAbove : List LogRecord → ℕ → ℕ → Payload → Type 0
AnswersAbove log t depth (Compensation id image undo_next) = depth < length (unanswered t log)
AnswersAbove log t depth _ = Unit {0}
