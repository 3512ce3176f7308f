-- A log, a volume and the pages in place, step by step. A page may be written back while the transactions that changed it run (ARIES: steal),
-- and none has to be at a commit (no-force); the write-ahead rule alone says when. Power may be lost after any step.
use Rattle.std.specs.Prelude.{◌≡◌, ◌≤◌, ◌⊎◌, ◌+◌, ℕ, List, [], ◌∷◌, ◌++◌, length, take, slice_get, IsSomeAnd, if◌then◌else◌}
use Rattle.std.specs.Ordering.{eq_by_cmp}
use Rattle.shore_types.specs.Ids.{page_cmp}
use Rattle.shore_types.specs.declared.ids.PageId.{PageId}
use Rattle.shore_model.specs.declared.log_records.LogRecord.{LogRecord}
use Rattle.laws_lives.specs.Pages.{LoggedPage, LoggedPages, AreAsOfOwnNumbers, PagesLackNone, redone_on_all}

pub record RecoveryState : Type 0 where
  pub log : List LogRecord
  -- how many records are known to survive a crash
  pub durable : ℕ
  -- how many records are done on the pages in place
  pub redone : ℕ
  -- what a read of the volume gives
  pub volume : LoggedPages
  -- what the pool has, and the volume for a page that it does not have
  pub in_place : LoggedPages

abbrev pub with_page_written : LoggedPages → PageId → LoggedPage → LoggedPages
with_page_written pages p page = λ q. if eq_by_cmp page_cmp q p then page else pages q

-- A crash may leave these pages: each is the volume's, or the one in place if its number is durable (the write-ahead rule). A batch of
-- pages that is cut off leaves some of each kind.
abbrev pub CrashMayLeave : RecoveryState → LoggedPages → Type 0
CrashMayLeave s left = (p : PageId) → (left p ≡ s.volume p) ⊎ ((left p ≡ s.in_place p) × ((s.in_place p).number ≤ s.durable))

-- `LosePower n left begin`: n records survive, and these pages; the next restart begins its redo behind record `begin`
pub data RecoveryEvent : Type 0 where
  AppendRecord : LogRecord → RecoveryEvent
  RedoRecord : RecoveryEvent
  ForceLog : ℕ → RecoveryEvent
  FlushPage : PageId → RecoveryEvent
  LosePower : ℕ → LoggedPages → ℕ → RecoveryEvent

-- the next record is done on the pages in place
abbrev pub after_redo : RecoveryState → LogRecord → RecoveryState
after_redo s r = record s { redone = s.redone + 1; in_place = redone_on_all (s.redone + 1) r s.in_place }

-- a change in a run is a record appended, and then redone
abbrev pub after_append : RecoveryState → LogRecord → RecoveryState
after_append s r = after_redo (record s { log = s.log ++ r ∷ [] }) r

abbrev pub after_force : RecoveryState → ℕ → RecoveryState
after_force s n = record s { durable = n }

abbrev pub after_flush : RecoveryState → PageId → RecoveryState
after_flush s p = record s { volume = with_page_written s.volume p (s.in_place p) }

abbrev pub after_crash : RecoveryState → ℕ → LoggedPages → ℕ → RecoveryState
after_crash s n left begin = record { log = take n s.log; durable = n; redone = begin; volume = left; in_place = left }

-- A crash keeps at least what is durable, and may keep more. Redo may begin anywhere, if the pages that are left lack none before.
abbrev pub MayCrash : RecoveryState → ℕ → LoggedPages → ℕ → Type 0
MayCrash s n left begin = (s.durable ≤ n) × (n ≤ length s.log) × CrashMayLeave s left × PagesLackNone (take n s.log) begin left

-- the event may lead from one state to another
abbrev pub LeadsTo : RecoveryState → RecoveryEvent → RecoveryState → Type 0
LeadsTo s (AppendRecord r) new = (s.redone ≡ length s.log) × (new ≡ after_append s r)
LeadsTo s RedoRecord new = IsSomeAnd (slice_get s.log s.redone) (λ r. new ≡ after_redo s r)
LeadsTo s (ForceLog n) new = (s.durable ≤ n) × (n ≤ length s.log) × (new ≡ after_force s n)
LeadsTo s (FlushPage p) new = ((s.in_place p).number ≤ s.durable) × (new ≡ after_flush s p)
LeadsTo s (LosePower n left begin) new = MayCrash s n left begin × (new ≡ after_crash s n left begin)

abbrev pub LeadTo : RecoveryState → List RecoveryEvent → RecoveryState → Type 0
LeadTo s [] last = last ≡ s
LeadTo s (e ∷ events) last = (new : RecoveryState) × LeadsTo s e new × LeadTo new events last

-- the invariant
pub record IsRecoverable (s : RecoveryState) : Type 0 where
  pub durable : s.durable ≤ length s.log
  pub redone : s.redone ≤ length s.log
  pub volume : AreAsOfOwnNumbers s.log s.volume
  -- the log is never behind the volume
  pub ahead : (p : PageId) → (s.volume p).number ≤ s.durable
  -- a page in place may have records that are not redone yet
  pub in_place : PagesLackNone s.log s.redone s.in_place
