-- Logs worked by hand: some that a restart may not take, since their records have room and the undo of a loser has none; and one that it may.
use Rattle.std.specs.Prelude.{◌++◌, ℕ, List, [], ◌∷◌, None, Some}
use Rattle.shore_types.specs.declared.ids.Rid.{Rid}
use Rattle.shore_model.specs.declared.log_records.LogRecord.{LogRecord}
use Rattle.shore_model.specs.declared.log_records.Payload.TheVariants.{Change, Commit, Compensation, End}
use Rattle.laws_calls.specs.WorkedRun.{first_id, first_page}

-- transaction 1 has inserted a record, and is not decided
abbrev pub inserted : List ℕ → List LogRecord
inserted bytes = record { txn = 1; previous = 0; payload = Change first_id None (Some bytes) } ∷ []

-- .. and has committed
abbrev pub committed : List ℕ → List LogRecord
committed bytes = inserted bytes ++ record { txn = 1; previous = 1; payload = Commit } ∷ []

-- .. or has been taken back by a restart, newest first, and has ended
abbrev pub taken_back : List ℕ → List LogRecord
taken_back bytes =
    inserted bytes ++ record { txn = 1; previous = 1; payload = Compensation first_id None 0 } ∷ record { txn = 1; previous = 2; payload = End } ∷ []

-- the two slots behind the first of the first page
abbrev pub second_id : Rid
second_id = record { page = first_page; slot = 1 }

abbrev pub third_id : Rid
third_id = record { page = first_page; slot = 2 }

-- Transaction 1 has deleted a record, and is not decided. Transaction 2 has inserted two others on its page, the first of them in the room that was
-- not kept for it.
abbrev pub room_taken : List ℕ → List ℕ → List ℕ → List LogRecord
room_taken old new other =
    record { txn = 1; previous = 0; payload = Change first_id (Some old) None }
    ∷ record { txn = 2; previous = 0; payload = Change second_id None (Some new) }
    ∷ record { txn = 2; previous = 2; payload = Change third_id None (Some other) } ∷ []
