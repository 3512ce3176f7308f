-- Paths of a restart: one behind another, and what a crash leaves at their ends.
use Rattle.std.proofs.Common.{◌≡◌, ◌≤◌, ℕ, List, [], ◌∷◌, ◌++◌, inl, inr, refl, sym, subst, length, take, arith}
use Rattle.shore_gate.specs.declared.anchors.Anchor.{Anchor}
use Rattle.shore_types.specs.declared.layout.Geometry.{Geometry}
use Rattle.shore_disk.specs.Device.{DeviceHistory, LeavesOnly, may_leave}
use Rattle.shore_disk.proofs.Moments.{started}
use Rattle.std.specs.List.{AllByRecursion}
use Rattle.laws_lives.specs.Recovery.{AppendRecord, FlushPage, ForceLog, LosePower, RecoveryEvent, RecoveryState, RedoRecord, IsRecoverable, LeadsTo}
use Rattle.laws_lives.specs.Restarts.{IsRestartStep, RestartsTo}
use Rattle.laws_lives.proofs.Invariant.{event_kept}
use Rattle.shore_model.specs.declared.log_records.LogRecord.{LogRecord}
use Rattle.shore_frames.specs.Frames.{GivesBehindFrom}
use Rattle.laws_lives.specs.ManagerSteps.{IsWork, WorksTo}
use Rattle.laws_runs.specs.CheckpointedStays.{LosesNoPower}
use Rattle.laws_images.specs.StandsBehind.{kept_behind}
use Rattle.laws_images.specs.Moments.{Moment, ShowsLeft}
use Rattle.laws_images.specs.MomentsBehind.{GivesKeptPrefix, IsCoveredBehind, PathBehind, RestartGoesOnBehind}

-- ---- work

pub work_on : (s : RecoveryState) (works : List RecoveryEvent) (mid : RecoveryState) (more : List RecoveryEvent) (last : RecoveryState)
    → RestartsTo s works mid → RestartsTo mid more last → RestartsTo s (works ++ more) last
work_on s [] mid more last one two = subst (λ (x : RecoveryState). RestartsTo x more last) one two
work_on s (e ∷ works) mid more last one two = (one.0, one.1, one.2, work_on one.1 works mid more last one.3 two)

-- one step more
pub work_and : (s : RecoveryState) (works : List RecoveryEvent) (mid : RecoveryState) (e : RecoveryEvent) (last : RecoveryState)
    → RestartsTo s works mid → IsRestartStep mid e → LeadsTo mid e last → RestartsTo s (works ++ e ∷ []) last
work_and s works mid e last one step leads = work_on s works mid (e ∷ []) last one (step, last, leads, refl)

pub work_kept : (s : RecoveryState) (works : List RecoveryEvent) (last : RecoveryState) → IsRecoverable s → RestartsTo s works last → IsRecoverable last
work_kept s [] last k work = subst IsRecoverable (sym work) k
work_kept s (e ∷ works) last k work = work_kept work.1 works last (event_kept s e work.1 k work.2) work.3

-- no power is lost in it
pub none_lost_on : (works more : List RecoveryEvent) → AllByRecursion LosesNoPower works → AllByRecursion LosesNoPower more → AllByRecursion LosesNoPower (works ++ more)
none_lost_on [] more one two = two
none_lost_on (e ∷ works) more one two = (one.0, none_lost_on works more one.1 two)

pub works_lose_none : (s : RecoveryState) (works : List RecoveryEvent) (last : RecoveryState) → WorksTo s works last → AllByRecursion LosesNoPower works
works_lose_none s [] last work = tt
works_lose_none s (e ∷ works) last work = (of_work e work.0, works_lose_none work.1 works last work.3)
  where
    of_work : (e : RecoveryEvent) → IsWork e → LosesNoPower e
    of_work (AppendRecord r) is = tt
    of_work RedoRecord is = tt
    of_work (ForceLog n) is = tt
    of_work (FlushPage p) is = tt
    of_work (LosePower n left begin) is = is

-- ---- paths

module _ (g : Geometry) (log_front front : List ℕ) (anchor : Anchor) where
  pub path_covered : (first : Moment) (moments : List Moment) (last : Moment) → PathBehind g log_front front anchor first moments last → IsCoveredBehind g log_front front anchor last
  path_covered first [] last path = subst (IsCoveredBehind g log_front front anchor) (sym path.0) path.1
  path_covered first (next ∷ moments) last path = path_covered next moments last path.1

  pub path_on : (first : Moment) (moments : List Moment) (mid : Moment) (more : List Moment) (last : Moment)
      → PathBehind g log_front front anchor first moments mid → PathBehind g log_front front anchor mid more last → PathBehind g log_front front anchor first (moments ++ more) last
  path_on first [] mid more last one two = subst (λ (m : Moment). PathBehind g log_front front anchor m more last) one.0 two
  path_on first (next ∷ moments) mid more last one two = (one.0, path_on next moments mid more last one.1 two)

  pub path_and : (first : Moment) (moments : List Moment) (mid last : Moment) → PathBehind g log_front front anchor first moments mid → RestartGoesOnBehind g log_front front anchor mid last
      → IsCoveredBehind g log_front front anchor last → PathBehind g log_front front anchor first (moments ++ last ∷ []) last
  path_and first moments mid last one step covered = path_on first moments mid (last ∷ []) last one (step, (refl, covered))

  -- work on the volume
  pub step_volume : (log old new : DeviceHistory) (s later : RecoveryState) (works : List RecoveryEvent) → AllByRecursion LosesNoPower works → ((c : List ℕ) → may_leave log c → GivesKeptPrefix log_front anchor s c)
      → RestartsTo s works later → LeavesOnly old new (ShowsLeft g front s)
      → RestartGoesOnBehind g log_front front anchor (record { log = log; volume = old; store = s }) (record { log = log; volume = new; store = later })
  step_volume log old new s later works none covered work leaves = record { works = works; work = work; loses_none = none; log = started log (GivesKeptPrefix log_front anchor s) covered; volume = leaves; one = inl refl }

  -- .. and on the log device
  pub step_log : (volume old new : DeviceHistory) (s later : RecoveryState) (works : List RecoveryEvent) → AllByRecursion LosesNoPower works → ((c : List ℕ) → may_leave volume c → ShowsLeft g front s c)
      → RestartsTo s works later → LeavesOnly old new (GivesKeptPrefix log_front anchor s)
      → RestartGoesOnBehind g log_front front anchor (record { log = old; volume = volume; store = s }) (record { log = new; volume = volume; store = later })
  step_log volume old new s later works none covered work leaves = record { works = works; work = work; loses_none = none; log = leaves; volume = started volume (ShowsLeft g front s) covered; one = inr refl }

-- a prefix of the log is one of the same log with as much durable
pub prefix_same : (log_front : List ℕ) (anchor : Anchor) (s later : RecoveryState) (c : List ℕ) → later.log ≡ s.log → later.durable ≡ s.durable → GivesKeptPrefix log_front anchor s c → GivesKeptPrefix log_front anchor later c
prefix_same log_front anchor s later c log durable gives =
    subst (λ (xs : List LogRecord). (n : ℕ) × (later.durable ≤ n) × (n ≤ length xs) × GivesBehindFrom log_front anchor.tail anchor.tail_place (kept_behind anchor (take n xs)) c) (sym log)
    (gives.0, omega (arith, gives.1, durable), gives.2, gives.3)
