-- What holds of the sessions after a history, in two invariants side by side: that the history is sound, with what locks keep of
-- records; and that each session is in the transaction that the history gives it. What a run of events is.
use Rattle.std.specs.Prelude.{true, ◌≡◌, ◌≢◌, ◌<◌, ◌≤◌, ℕ, List, [], ◌∷◌, ◌++◌, Option, None, Some, All, IfSome, IsSome, map, unwrap_or}
use Rattle.std.specs.FinMap.{get}
use Rattle.std.specs.List.{AllByRecursion}
use Rattle.shore_types.specs.declared.ids.Rid.{Rid}
use Rattle.shore_model.specs.declared.histories.Decision.{Decision}
use Rattle.shore_model.specs.declared.histories.Decision.TheVariants as decision
use Rattle.shore_model.specs.declared.histories.Entry.{Entry}
use Rattle.shore_model.specs.declared.calls.Exchange.{Exchange}
use Rattle.shore_model.specs.declared.histories.InDoubt.{InDoubt}
use Rattle.shore_model.specs.declared.histories.Opening.{Opening}
use Rattle.shore_model.specs.declared.progress.Progress.{Progress}
use Rattle.shore_model.specs.Alone.{after, start, writes_of}
use Rattle.shore_model.specs.Histories.{History, IsHistory, Sound, all_prepared, began, calls_of, decisions, free, has_prepared, in_doubt, last_under, serial, session_state, writes_given}
use Rattle.shore_model.specs.Records.{Records, WriteSet}
use Rattle.laws_lives.specs.SessionSteps.{SessionEvent, StepsTo, entries_by}
use Rattle.laws_lives.specs.Sessions.{EachOnce, IsFree, PreparedTxn, SessionTxn, Sessions, in_doubt_of, in_use, pairs_of, txns_of}
use Rattle.laws_lives.specs.UndoLists.{CanUndo}
use Rattle.laws_lives.specs.Views.{IsAmong, Stand, StayRight}

-- ---- what a history says

-- an open that found these records, and none in doubt
abbrev pub opening_with : ℕ → Records → Opening
opening_with slots R = record { slots = slots; records = R; in_doubt = [] }

abbrev pub history_from : Opening → List Entry → History
history_from o es = record { opening = o; entries = es }

-- the write sets saved by a transaction with these calls; one that was found in doubt has none
abbrev pub saved_from : Option WriteSet → List Exchange → List WriteSet
saved_from None xs = (after start xs).saved
saved_from (Some W) xs = []

-- how far a transaction has come with these calls: one that was found in doubt has written what is given
abbrev pub progress_from : Option WriteSet → List Exchange → Progress
progress_from given xs = record { writes = unwrap_or given (writes_of xs); saved = saved_from given xs }

abbrev pub progress_in : Opening → List Entry → ℕ → Progress
progress_in o es t = progress_from (writes_given o.in_doubt t) (calls_of t es)

-- its write set
abbrev pub written_by : Opening → List Entry → ℕ → WriteSet
written_by o es t = (progress_in o es t).writes

-- the serial records after the entries
abbrev pub serial_after : Opening → List Entry → Records
serial_after o es = serial (written_by o es) o.records (decisions es)

-- the transaction that a decision decides
abbrev pub decided_txn : Decision → ℕ
decided_txn (decision.Commit t) = t
decided_txn (decision.Prepare t global) = t
decided_txn (decision.RollBack t) = t

-- ---- invariants

-- What stands in place for a transaction: what the history says that it wrote. If its rollback has begun, some of that is put back, and
-- the history does not say so; what stands for it then lies at ids that are left to put back.
pub record IsWriteSetOf (o : Opening) (es : List Entry) (a : SessionTxn) (W : WriteSet) : Type 0 where
  pub written : a.undo.rolling ≡ None → W ≡ written_by o es a.txn
  pub left : a.undo.rolling ≢ None → (id : Rid) → IsSome (get W id) → IsAmong id (map (λ e. e.0) a.undo.images)

-- The history is sound. Under the locks that are held the records in place stand as they must for the write sets that stand for those
-- under way, the replies of each transaction under way stay right, and its undo list undoes it.
pub record IsSoundAfter (o : Opening) (es : List Entry) (s : Sessions) : Type 0 where
  pub sound : Sound (history_from o es)
  pub standing : ℕ → WriteSet
  pub stands_for : (a : SessionTxn) → IsAmong a s.active → IsWriteSetOf o es a (standing a.txn)
  pub stand : Stand s.held (serial_after o es) s.records (txns_of s.active) standing
  pub replies : (t : ℕ) → IsAmong t (txns_of s.active) → StayRight o.slots s.held t (serial_after o es) (calls_of t es)
  pub undoes : (a : SessionTxn) → IsAmong a s.active → CanUndo s.held (serial_after o es) s.records a.txn a.undo (progress_in o es a.txn)
  -- a transaction under way is not decided, if it is not prepared
  pub undecided : (t : ℕ) → IsAmong t (txns_of s.active) → IsFree s t → AllByRecursion (λ d. decided_txn d ≢ t) (decisions es)
  -- the next number is above all that are under way, decided, called or hold a lock
  pub below : (t : ℕ) → IsAmong t (txns_of s.active) → t < s.next_txn
  pub decided : AllByRecursion (λ d. decided_txn d < s.next_txn) (decisions es)
  pub uncalled : (t : ℕ) → s.next_txn ≤ t → calls_of t es ≡ []
  pub unheld : All (λ h. h.txn < s.next_txn) s.held
  -- only one that is in doubt or was resolved may have been found in doubt
  pub own : (t : ℕ) → IsAmong t (txns_of s.active) → IsFree s t → writes_given o.in_doubt t ≡ None
  pub found_below : (t : ℕ) → s.next_txn ≤ t → writes_given o.in_doubt t ≡ None

-- The entries are a history, and by it each session is in its transaction, and those are in doubt that the state has as such.
pub record SessionsAgree (o : Opening) (es : List Entry) (s : Sessions) : Type 0 where
  pub slots : s.slots ≡ o.slots
  pub history : IsHistory (history_from o es)
  pub seats : (n : ℕ) → session_state n free es ≡ s.seats n
  -- a transaction comes once among those under way
  pub once : EachOnce (txns_of s.active)
  -- the next number is above 0, and above all that ever began or were found in doubt
  pub below : (n : ℕ) → (s.seats n).txn < s.next_txn
  pub found : All (λ d. d.txn < s.next_txn) o.in_doubt
  pub begun : All (λ e. IfSome (began e) (λ u. u < s.next_txn)) es
  pub some : 0 < s.next_txn
  pub in_doubt : in_doubt o.in_doubt (decisions es) ≡ pairs_of s.prepared
  pub turned : (t : ℕ) → IsAmong t (in_doubt_of s) → has_prepared o.in_doubt (decisions es) t ≡ true
  -- those in doubt are under way, and no rollback of them is
  pub under_way : (t : ℕ) → IsAmong t (in_doubt_of s) → IsAmong t (txns_of s.active)
  pub unrolled : (a : SessionTxn) → IsAmong a s.active → IsAmong a.txn (in_doubt_of s) → a.undo.rolling ≡ None
  -- a global id in use is that of the last that was prepared under it
  pub under : (p : ℕ × List ℕ) → IsAmong p (in_use s) → last_under p.1 None (all_prepared o.in_doubt (decisions es)) ≡ Some p.0
  pub used_below : (p : ℕ × List ℕ) → IsAmong p (in_use s) → p.0 < s.next_txn

-- ---- runs

-- one that was found in doubt
abbrev pub found_in_doubt : InDoubt → PreparedTxn
found_in_doubt d = record { txn = d.txn; global = d.global; answered = true }

-- A manager that was opened just now: no session is in a transaction, under way are those found in doubt, under their locks, with their changes in
-- place, and with undo lists that undo these.
pub record IsJustOpened (o : Opening) (s : Sessions) : Type 0 where
  pub slots : s.slots ≡ o.slots
  pub seats : (n : ℕ) → s.seats n ≡ free
  pub resolving : s.resolving ≡ []
  pub prepared : s.prepared ≡ map found_in_doubt o.in_doubt
  pub active : txns_of s.active ≡ map (λ d. d.txn) o.in_doubt
  pub once : EachOnce (txns_of s.active)
  pub unrolled : (a : SessionTxn) → IsAmong a s.active → a.undo.rolling ≡ None
  pub stand : Stand s.held o.records s.records (txns_of s.active) (written_by o [])
  pub undoes : (a : SessionTxn) → IsAmong a s.active → CanUndo s.held o.records s.records a.txn a.undo (progress_in o [] a.txn)
  -- global ids differ
  pub under : (p : ℕ × List ℕ) → IsAmong p (pairs_of s.prepared) → last_under p.1 None (pairs_of s.prepared) ≡ Some p.0
  pub some : 0 < s.next_txn
  pub found : All (λ d. d.txn < s.next_txn) o.in_doubt
  pub unheld : All (λ h. h.txn < s.next_txn) s.held

-- the events may come one after another; they lead to the state `last`, and the entries `es` become `made`
abbrev pub RunsTo : Sessions → List SessionEvent → List Entry → Sessions → List Entry → Type 0
RunsTo s [] es last made = (last ≡ s) × (made ≡ es)
RunsTo s (e ∷ events) es last made = (new : Sessions) × StepsTo s e new × RunsTo new events (es ++ entries_by s e) last made
