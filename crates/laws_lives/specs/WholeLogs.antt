-- What holds of the log while sessions work: it is lawful, and those in it that have not ended are the transactions under way.
use Rattle.std.specs.Prelude.{◌≡◌, ◌<◌, ◌++◌, ℕ, List, [], ◌∷◌, true, false, map}
use Rattle.std.specs.FinMap.{get}
use Rattle.std.specs.List.{AllByRecursion}
use Rattle.shore_types.specs.declared.ids.Rid.{Rid}
use Rattle.shore_model.specs.declared.histories.Entry.{Entry}
use Rattle.shore_model.specs.declared.log_records.LogRecord.{LogRecord}
use Rattle.shore_model.specs.declared.histories.Opening.{Opening}
use Rattle.shore_model.specs.Histories.{free}
use Rattle.shore_model.specs.Logs.{Lawful, has, image_of_record, is_over}
use Rattle.laws_lives.specs.Doubts.{AreRestored, DoubtsStand, IsOpeningOf, undo_in}
use Rattle.laws_lives.specs.Undo.{HasNoLosers}
use Rattle.laws_lives.specs.Writers.{changes_id}
use Rattle.laws_lives.specs.LogTells.{MatchesUndo}
use Rattle.laws_lives.specs.Logged.{log_after}
use Rattle.laws_lives.specs.SessionSteps.{SessionEvent, StepsTo, entries_by}
use Rattle.laws_lives.specs.Sessions.{EachOnce, SessionTxn, Sessions, txns_of}
use Rattle.laws_lives.specs.Soundness.{found_in_doubt}
use Rattle.laws_lives.specs.Views.{IsAmong}

pub record IsWholeLog (log : List LogRecord) (s : Sessions) : Type 0 where
  pub lawful : Lawful log
  -- a transaction with a change in the log, and no end, is under way
  pub writers : (t : ℕ) (id : Rid) → has (changes_id id) t log ≡ true → is_over t log ≡ false → IsAmong t (txns_of s.active)
  -- and none of those under way has an end in it
  pub unended : (t : ℕ) → IsAmong t (txns_of s.active) → is_over t log ≡ false
  pub above : (t : ℕ) → IsAmong t (txns_of s.active) → 0 < t
  -- those in doubt have their unanswered Changes in it, too
  pub undo_lists : (a : SessionTxn) → IsAmong a s.active → MatchesUndo log a.txn a.undo.images
  pub some : 0 < s.next_txn

-- The sessions are just opened on the log: nothing in it is to be undone but by those in doubt, who are as the log has them. What it tells is in
-- place, and no number comes again.
pub record IsOpenOn (o : Opening) (log : List LogRecord) (s : Sessions) : Type 0 where
  pub slots : s.slots ≡ o.slots
  pub records : (id : Rid) → get s.records id ≡ image_of_record log id
  pub seats : (n : ℕ) → s.seats n ≡ free
  pub resolving : s.resolving ≡ []
  pub prepared : s.prepared ≡ map found_in_doubt o.in_doubt
  pub active : txns_of s.active ≡ map (λ d. d.txn) o.in_doubt
  pub once : EachOnce (txns_of s.active)
  pub undo_lists : (a : SessionTxn) → IsAmong a s.active → a.undo ≡ undo_in log a.txn
  pub locks : AreRestored log s.held
  pub some : 0 < s.next_txn
  pub lawful : Lawful log
  pub doubts : DoubtsStand log
  pub opening : IsOpeningOf log o
  pub no_losers : HasNoLosers log
  pub below : AllByRecursion (λ r. r.txn < s.next_txn) log

-- the sessions run, and the log grows by what each event appends
abbrev pub RunsWithLog : Sessions → List LogRecord → List SessionEvent → List Entry → Sessions → List LogRecord → List Entry → Type 0
RunsWithLog s log [] es last all made = (last ≡ s) × (all ≡ log) × (made ≡ es)
RunsWithLog s log (e ∷ events) es last all made =
    (new : Sessions) × StepsTo s e new × RunsWithLog new (log_after log s e) events (es ++ entries_by s e) last all made
