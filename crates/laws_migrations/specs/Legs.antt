-- A life that goes through migrations: legs, each over a pair of its own.
use Rattle.std.specs.Prelude.{◌≡◌, ◌≤◌, ◌<◌, ℕ, List, [], ◌∷◌, length, map}
use Rattle.shore_types.specs.Versions.{slot_limit}
use Rattle.shore_types.specs.declared.ids.PageId.{PageId}
use Rattle.shore_types.specs.declared.layout.Geometry.{Geometry}
use Rattle.shore_types.specs.declared.layout.TheConstants.{LAST_TXN}
use Rattle.shore_model.specs.declared.histories.InDoubt.{InDoubt}
use Rattle.shore_model.specs.declared.histories.Opening.{Opening}
use Rattle.shore_model.specs.declared.log_records.LogRecord.{LogRecord}
use Rattle.shore_model.specs.declared.log_records.LogTxn.{LogTxn}
use Rattle.shore_model.specs.Histories.{shown}
use Rattle.shore_model.specs.Lives.{IsLife, Span}
use Rattle.shore_model.specs.Logs.{IsTable, logged_writes}
use Rattle.laws_lives.specs.DirtyPages.{HasAllUpTo}
use Rattle.laws_lives.specs.Doubts.{LoggedDoubt, NeedMore, doubts_in}
use Rattle.laws_lives.specs.LogTells.{records_committed}
use Rattle.laws_lives.specs.Pages.{AreAsOfOwnNumbers, LoggedPages}
use Rattle.laws_lives.specs.Recovery.{RecoveryEvent}
use Rattle.laws_lives.specs.Soundness.{history_from}
use Rattle.laws_lives.specs.Undo.{HasNoLosers}
use Rattle.laws_checkpoints.specs.Checkpoints.{Anchored}
use Rattle.laws_checkpoints.specs.CheckpointedStores.{CheckpointedStore}
use Rattle.laws_runs.specs.CheckpointedStates.{found_behind}
use Rattle.laws_runs.specs.CheckpointedStays.{AreCheckpointedStays, CheckpointedStay, RestartsBehind, spans_of_stays}
use Rattle.laws_migrations.specs.Geometries.{MayMoveInto}
use Rattle.laws_migrations.specs.MigratedLogs.{IsRead, MigratedDoubt, migrated_anchor, migrated_log, migrated_work}
use Rattle.laws_migrations.specs.Rooms.{FitsRing}

-- its number and its name
abbrev pub named : InDoubt → ℕ × List ℕ
named d = (d.txn, d.global)

-- The next opening is like the last one: a page may have no fewer slots, the same records are committed, the same are in doubt under the same names, and with their changes the same is shown.
-- Their write sets need not be the same: an id that stands as before may be in one and not in the other.
pub record OpensAlike (last next : Opening) : Type 0 where
  pub slots : last.slots ≤ next.slots
  pub records : next.records ≡ last.records
  pub in_doubt : map named next.in_doubt ≡ map named last.in_doubt
  pub shows : shown (history_from next []) [] ≡ shown (history_from last []) []

-- what happened over one pair, and what the pair opens with to which it was migrated
pub record Leg : Type 0 where
  pub spans : List Span
  pub next : Opening

-- each leg is a life, and the next one begins with what it came to
abbrev pub IsLifeInLegs : Opening → List Leg → List Span → Opening → Type 0
IsLifeInLegs o [] spans last = IsLife o spans last
IsLifeInLegs o (leg ∷ legs) spans last = (mid : Opening) × IsLife o leg.spans mid × OpensAlike mid leg.next × IsLifeInLegs leg.next legs spans last

-- ---- legs over plain data

-- One leg, from what its pair began with: stays of the power, what the last crash left, a restart of it that came through, what the migration read there, and
-- the pair that it made: its geometry, the bytes of its stream, and its pages.
pub record MigratedLeg : Type 0 where
  pub stays : List CheckpointedStay
  pub anchor : Anchored
  pub left : List LogRecord
  pub left_pages : LoggedPages
  pub restart : List RecoveryEvent
  pub ready : CheckpointedStore
  pub next_txn : ℕ
  pub doubts : List MigratedDoubt
  pub txns : List LogTxn
  pub new_geometry : Geometry
  pub new_ring_bytes : ℕ
  pub new_pages : LoggedPages

-- the log that the migration read
abbrev pub old_log : MigratedLeg → List LogRecord
old_log leg = leg.ready.store.log

abbrev pub new_work : MigratedLeg → List LogRecord
new_work leg = migrated_work leg.next_txn (records_committed (old_log leg)) leg.doubts

abbrev pub new_log : MigratedLeg → List LogRecord
new_log leg = migrated_log leg.next_txn (records_committed (old_log leg)) leg.doubts leg.txns

abbrev pub new_anchor : MigratedLeg → Anchored
new_anchor leg = migrated_anchor leg.next_txn (records_committed (old_log leg)) leg.doubts

-- A migration ends the leg: its open's restart came through and left no loser, and what it read was written into a geometry that the pair may move into, over a ring
-- that it fits and with a lock table that holds the locks of those in doubt.
pub record IsMigrated (g : Geometry) (leg : MigratedLeg) : Type 0 where
  pub into : MayMoveInto g leg.new_geometry
  pub restarts : RestartsBehind (found_behind leg.anchor leg.left leg.left_pages) leg.restart leg.ready
  pub no_losers : HasNoLosers (old_log leg)
  pub read : IsRead (old_log leg) leg.next_txn leg.doubts
  pub table : IsTable (new_work leg) leg.txns
  pub as_of : AreAsOfOwnNumbers (new_work leg) leg.new_pages
  pub all_done : (p : PageId) → HasAllUpTo (new_work leg) p (leg.new_pages p) (length (new_work leg))
  pub number : leg.next_txn < LAST_TXN
  pub fits : FitsRing leg.new_ring_bytes leg.next_txn (records_committed (old_log leg)) leg.doubts leg.txns
  pub locks : NeedMore leg.new_geometry.max_locks (doubts_in (old_log leg)) → ⊥

-- what a log says of itself: the committed records, and those in doubt with what they have logged
abbrev pub doubt_logged : List LogRecord → LoggedDoubt → InDoubt
doubt_logged log d = record { txn = d.txn; global = d.global; writes = logged_writes log d.txn }

abbrev pub opening_logged : ℕ → List LogRecord → Opening
opening_logged slots log = record { slots = slots; records = records_committed log; in_doubt = map (doubt_logged log) (doubts_in log) }

-- what the pair opens with to which it was migrated
abbrev pub next_leg_opens : MigratedLeg → Opening
next_leg_opens leg = opening_logged (slot_limit leg.new_geometry.version) (new_log leg)

-- Legs one after another, each over the pair that the migration before it made; then stays over the last pair.
abbrev pub AreLegs : Geometry → ℕ → Opening → Anchored → List LogRecord → LoggedPages → List MigratedLeg → List CheckpointedStay → Anchored → List LogRecord → LoggedPages → Type 0
AreLegs g ring_bytes o a rs pages [] stays last_anchor last last_pages = AreCheckpointedStays g ring_bytes o a rs pages stays last_anchor last last_pages
AreLegs g ring_bytes o a rs pages (leg ∷ legs) stays last_anchor last last_pages =
    AreCheckpointedStays g ring_bytes o a rs pages leg.stays leg.anchor leg.left leg.left_pages
    × IsMigrated g leg
    × AreLegs leg.new_geometry leg.new_ring_bytes (next_leg_opens leg) (new_anchor leg) (new_log leg) leg.new_pages legs stays last_anchor last last_pages

-- what happened in each leg, and in the last one
abbrev pub legs_of : List LogRecord → List MigratedLeg → List Leg
legs_of rs [] = []
legs_of rs (leg ∷ legs) = record { spans = spans_of_stays rs leg.stays; next = next_leg_opens leg } ∷ legs_of (new_log leg) legs

abbrev pub last_spans : List LogRecord → List MigratedLeg → List CheckpointedStay → List Span
last_spans rs [] stays = spans_of_stays rs stays
last_spans rs (leg ∷ legs) stays = last_spans (new_log leg) legs stays
