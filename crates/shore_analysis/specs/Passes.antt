-- What a pass over a log knows of the records behind it.
use Rattle.std.specs.Prelude.{◌≡◌, ◌==◌, ℕ, List, Bool, true, false, not, Option, None, Some, nat_lt, unwrap_or, ◌&&◌, ◌||◌, if◌then◌else◌}
use Rattle.std.specs.Ordering.{nat_cmp}
use Rattle.std.specs.BTreeMap.{get, is_at}
use Rattle.std.specs.BTreeSet.{contains}
use Rattle.shore_types.specs.Ids.{page_cmp}
use Rattle.shore_types.specs.declared.ids.PageId.{PageId}
use Rattle.shore_model.specs.declared.log_records.DirtyPage.{DirtyPage}
use Rattle.shore_model.specs.declared.log_records.LogRecord.{LogRecord}
use Rattle.shore_model.specs.declared.log_records.LogTxn.{LogTxn}
use Rattle.shore_model.specs.declared.log_records.Payload.{Payload}
use Rattle.shore_model.specs.declared.log_records.Payload.TheVariants.{Change, Compensation, Commit, End, Prepare, RollbackDecided, CheckpointBegin, CheckpointEnd, Anchor}
use Rattle.shore_model.specs.declared.log_records.TxnState.{TxnState}
use Rattle.shore_model.specs.declared.log_records.TxnState.TheVariants.{Active, Prepared, RollingBack}
use Rattle.shore_model.specs.Logs.{first_of, is_commit, is_end, is_in_doubt, is_over, is_prepare, is_prepared, is_unprepared, last_of, prepare_number, unanswered, undo_next_of}
use Rattle.shore_analysis.specs.declared.progress.Phase.{Phase}
use Rattle.shore_analysis.specs.declared.progress.Phase.TheVariants.{Decided, Free, InDoubt}
use Rattle.shore_analysis.specs.declared.progress.Progress.{Progress}
use Rattle.shore_analysis.specs.declared.passes.Pass.{Pass}
use Rattle.shore_analysis.specs.Tables.{IsNext, first_change, state_of}

-- a transaction has a record, and has not ended
abbrev pub is_running : ℕ → List LogRecord → Bool
is_running t rs = nat_lt 0 t && nat_lt 0 (last_of t rs) && not (is_over t rs)

-- its entry
abbrev pub entry_of : ℕ → List LogRecord → LogTxn
entry_of t rs = record {
  txn = t;
  state = state_of t rs;
  first = first_of t rs;
  last = last_of t rs;
  undo_next = undo_next_of (unanswered t rs);
  prepare = prepare_number t rs;
}

abbrev pub entry_at : ℕ → List LogRecord → Option LogTxn
entry_at t rs = if is_running t rs then Some (entry_of t rs) else None

-- the first record that changes a page
abbrev pub recovery_at : PageId → List LogRecord → Option ℕ
recovery_at p rs = if nat_lt 0 (first_change p rs) then Some (first_change p rs) else None

-- one record more changes a page: what was known of a page stays, and of another it is the first
abbrev pub noted : Bool → ℕ → Option ℕ → Option ℕ
noted here n (Some first) = Some first
noted true n None = Some n
noted false n None = None

-- the state of a transaction that has not ended, by its last record
abbrev pub state_after : Payload → TxnState
state_after (Change id before image) = Active
state_after (Compensation id image undo_next) = RollingBack
state_after Commit = Active
state_after End = Active
state_after (Prepare global granules) = Prepared
state_after RollbackDecided = RollingBack
state_after CheckpointBegin = Active
state_after (CheckpointEnd begin next txns dirty) = Active
state_after (Anchor checkpoint tail) = Active

-- the number of the Change to be undone next behind record n: a Prepare and a Rollback decided leave what was
abbrev pub undo_next_after : ℕ → Payload → ℕ → ℕ
undo_next_after n (Change id before image) was = n
undo_next_after n (Compensation id image undo_next) was = undo_next
undo_next_after n Commit was = 0
undo_next_after n End was = 0
undo_next_after n (Prepare global granules) was = was
undo_next_after n RollbackDecided was = was
undo_next_after n CheckpointBegin was = 0
undo_next_after n (CheckpointEnd begin next txns dirty) was = 0
undo_next_after n (Anchor checkpoint tail) was = 0

-- the number of a Prepare behind record n
abbrev pub prepare_after : ℕ → Payload → ℕ → ℕ
prepare_after n p was = if is_prepare p then n else was

-- a transaction whose first record has this number, before that record
abbrev pub begun : ℕ → ℕ → LogTxn
begun t n = record { txn = t; state = Active; first = n; last = 0; undo_next = 0; prepare = 0 }

-- the entry of a transaction that goes on by record n
abbrev pub entry_by : ℕ → Payload → LogTxn → LogTxn
entry_by n p e = record {
  txn = e.txn;
  state = state_after p;
  first = e.first;
  last = n;
  undo_next = undo_next_after n p e.undo_next;
  prepare = prepare_after n p e.prepare;
}

abbrev pub entry_after : ℕ → LogRecord → Option LogTxn → LogTxn
entry_after n r old = entry_by n r.payload (unwrap_or old (begun r.txn n))

-- what is known of its transaction behind a record, and of those that have ended
abbrev pub is_ending : Payload → Bool
is_ending p = is_commit p || is_end p

abbrev pub txn_after : ℕ → LogRecord → Option LogTxn → Option LogTxn
txn_after n r old = if is_ending r.payload then None else Some (entry_after n r old)

abbrev pub over_after : LogRecord → ℕ → Bool → Bool
over_after r t was = (is_ending r.payload && is_at (nat_cmp r.txn) t) || was

-- which records of a transaction may follow
abbrev pub phase_of : ℕ → List LogRecord → Phase
phase_of t rs = if is_in_doubt t rs then InDoubt else (if is_unprepared t rs then Free else Decided)

-- only its own changes may follow, or it may prepare
abbrev pub is_free : Phase → Bool
is_free Free = true
is_free InDoubt = false
is_free Decided = false

-- only a decision may follow
abbrev pub is_doubtful : Phase → Bool
is_doubtful Free = false
is_doubtful InDoubt = true
is_doubtful Decided = false

-- only its undo and its End may follow
abbrev pub is_decided : Phase → Bool
is_decided Free = false
is_decided InDoubt = false
is_decided Decided = true

-- its phase, by its entry
abbrev pub phase_by : LogTxn → Phase
phase_by e = if is_prepared e.state then InDoubt else (if e.prepare == 0 then Free else Decided)

abbrev pub progress_by : LogTxn → Progress
progress_by e = record { last = e.last; newest = e.undo_next; phase = phase_by e }

-- how far a transaction has come: the numbers of its last record and of its Change to be undone next, 0 if there are none, and its phase; and
-- nothing if it has ended
abbrev pub progress_at : ℕ → List LogRecord → Option Progress
progress_at t rs = if is_over t rs then None else Some (record { last = last_of t rs; newest = undo_next_of (unanswered t rs); phase = phase_of t rs })

-- the entry of a page
abbrev pub as_dirty : PageId × ℕ → DirtyPage
as_dirty e = record { page = e.0; recovery = e.1 }

pub record Knows (rs : List LogRecord) (pass : Pass) : Type 0 where
  pub running : (t : ℕ) → get nat_cmp pass.running t ≡ entry_at t rs
  pub over : (t : ℕ) → contains nat_cmp pass.over t ≡ is_over t rs
  pub dirty : (p : PageId) → get page_cmp pass.dirty p ≡ recovery_at p rs
  pub next : IsNext rs pass.next
