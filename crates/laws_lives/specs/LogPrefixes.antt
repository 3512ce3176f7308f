-- What a crash may leave of the log, a prefix, and what that tells: the serial records of the decisions whose records it has, and those
-- whom these leave in doubt.
use Rattle.std.specs.Prelude.{◌≡◌, ◌≤◌, ℕ, List, Option, None, Some, drop, length, map, take}
use Rattle.std.specs.List.{filter_map}
use Rattle.shore_model.specs.declared.calls.Outcome.{Outcome}
use Rattle.shore_model.specs.declared.calls.Outcome.TheVariants as outcome
use Rattle.shore_model.specs.declared.histories.Decision.{Decision}
use Rattle.shore_model.specs.declared.histories.Decision.TheVariants as decision
use Rattle.shore_model.specs.declared.histories.Entry.{Entry}
use Rattle.shore_model.specs.declared.histories.Opening.{Opening}
use Rattle.shore_model.specs.declared.log_records.LogRecord.{LogRecord}
use Rattle.shore_model.specs.declared.log_records.Payload.{Payload}
use Rattle.shore_model.specs.declared.log_records.Payload.TheVariants.{Change, Compensation, Commit, End, Prepare, RollbackDecided, CheckpointBegin, CheckpointEnd, Anchor}
use Rattle.shore_model.specs.Histories.{decisions, in_doubt, serial}
use Rattle.shore_model.specs.Logs.{in_doubt_in}
use Rattle.shore_model.specs.Records.{WriteSet}
use Rattle.laws_lives.specs.Doubts.{DoubtsStand, HasWritten, doubts_in, pair_logged}
use Rattle.laws_lives.specs.LogTells.{records_committed}
use Rattle.laws_lives.specs.SessionSteps.{SessionEvent, MoveLocks, BeginTxn, GiveReply, AppendCommit, PutBack, Doom, AnswerAbort, Ask, RefuseCall, AppendPrepare, AnswerPrepare, AppendResolve, AppendRollback, EndRollback, AnswerResolve, AnswerInDoubt}
use Rattle.laws_lives.specs.Soundness.{written_by}
use Rattle.laws_lives.specs.Views.{IsAmong}

-- the decision that a record is
abbrev pub decision_by : ℕ → Payload → Option Decision
decision_by t Commit = Some (decision.Commit t)
decision_by t (Prepare global granules) = Some (decision.Prepare t global)
decision_by t RollbackDecided = Some (decision.RollBack t)
decision_by t (Change id before image) = None
decision_by t (Compensation id image undo_next) = None
decision_by t End = None
decision_by t CheckpointBegin = None
decision_by t (CheckpointEnd begin next txns dirty) = None
decision_by t (Anchor checkpoint tail) = None

abbrev pub decision_in : LogRecord → Option Decision
decision_in r = decision_by r.txn r.payload

-- the decisions that a list has gained since an open that found its first `base` records: its Commits, Prepares and Rollbacks decided
abbrev pub decisions_in : ℕ → List LogRecord → List Decision
decisions_in base log = filter_map decision_in (drop base log)

-- the decision's record is in the list
abbrev pub IsDecidedIn : List LogRecord → Decision → Type 0
IsDecidedIn log d = IsAmong d (filter_map decision_in log)

-- the decision of a resolve
abbrev pub decision_asked : ℕ → Outcome → Decision
decision_asked t outcome.Commit = decision.Commit t
decision_asked t outcome.Abort = decision.RollBack t

-- The list tells what its own decisions have made of the opening: the serial records, and those in doubt, with what they have written.
pub record TellsItsDecisions (base : ℕ) (o : Opening) (writes : ℕ → WriteSet) (log : List LogRecord) : Type 0 where
  pub committed : records_committed log ≡ serial writes o.records (decisions_in base log)
  pub in_doubt : map pair_logged (doubts_in log) ≡ in_doubt o.in_doubt (decisions_in base log)
  pub written : (t : ℕ) → IsAmong t (in_doubt_in log) → HasWritten log t (writes t)
  pub stand : DoubtsStand log

-- so does each prefix of it that has all that the open found
abbrev pub PrefixesTell : ℕ → Opening → (ℕ → WriteSet) → List LogRecord → Type 0
PrefixesTell base o writes log = (n : ℕ) → base ≤ n → n ≤ length log → TellsItsDecisions base o writes (take n log)

-- The list has gained the decisions of the history, and each prefix of it tells its own.
pub record LogDecides (base : ℕ) (o : Opening) (es : List Entry) (log : List LogRecord) : Type 0 where
  pub long : base ≤ length log
  pub all : decisions es ≡ decisions_in base log
  pub prefixes : PrefixesTell base o (written_by o es) log

-- the event appends no decision
abbrev pub DecidesNothing : SessionEvent → Type 0
DecidesNothing (MoveLocks held) = Unit {0}
DecidesNothing (BeginTxn session) = Unit {0}
DecidesNothing (GiveReply a c reply) = Unit {0}
DecidesNothing (AppendCommit a ticket) = ⊥
DecidesNothing (PutBack a kept e r) = Unit {0}
DecidesNothing (Doom a) = Unit {0}
DecidesNothing (AnswerAbort a) = Unit {0}
DecidesNothing (Ask ticket durable) = Unit {0}
DecidesNothing (RefuseCall session t c fault) = Unit {0}
DecidesNothing (AppendPrepare a global granules) = ⊥
DecidesNothing (AnswerPrepare session t global) = Unit {0}
DecidesNothing (AppendResolve a global) = ⊥
DecidesNothing (AppendRollback a global) = ⊥
DecidesNothing (EndRollback a) = Unit {0}
DecidesNothing (AnswerResolve session r) = Unit {0}
DecidesNothing (AnswerInDoubt session t pairs) = Unit {0}
