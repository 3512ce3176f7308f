-- What a world is of which a device was told something that changes none of its bytes.
use Rattle.std.proofs.Common.{◌≡◌, ℕ, List}
use Rattle.shore_disk.specs.declared.device.Disk.{Ghosts}
use Rattle.laws_calls.specs.States.{State}
use Rattle.laws_checkpoints.specs.CheckpointedStores.{CheckpointedStore}
use Rattle.shore_core.specs.Cores as cores
use Rattle.shore_core.specs.Replies.{SameVolume}
use Rattle.shore_world.specs.declared.world.World.{World}
use Rattle.shore_world.specs.Worlds.{IsInState, IsLike, IsOverStore, SurvivesCrashes, anchors_in, durable_in, failed_in, history_in, list_in, report_in, volume_history_in}
use Rattle.shore_world.proofs.VolumeLemmas.{both_still, comes_unworked}

pub told_alone : {L V : Type 0} {G : Ghosts L} {H : Ghosts V} (old new : World L V G H) → history_in new ≡ history_in old → volume_history_in new ≡ volume_history_in old
    → SameVolume old.core new.core → ((front : List ℕ) (disk : ℕ → List ℕ) (s : State) → IsInState old front disk s → IsInState new front disk s)
    → ((disk : ℕ → List ℕ) (s : State) (store : CheckpointedStore) → IsOverStore old disk s store → IsOverStore new disk s store)
    → list_in new ≡ list_in old → durable_in new ≡ durable_in old → failed_in new ≡ failed_in old → new.log.staged ≡ old.log.staged
    → new.stage ≡ old.stage → anchors_in new ≡ anchors_in old → report_in new ≡ report_in old → cores.faults_of new.core ≡ cores.faults_of old.core
    → ((front : List ℕ) → SurvivesCrashes old front → SurvivesCrashes new front) → IsLike old new
told_alone old new log volume same state over list durable failed staged stage anchors report volume_faults kept = record {
  geometry = same.geometry;
  state = λ log_front front disk s store at safe.
      comes_unworked old new volume same.geometry stage anchors log_front front disk s store at s (state front disk s at.is_in) (over disk s store at.over) (kept log_front at.log);
  any_moment = both_still old new log volume;
  list = list;
  durable = durable;
  failed = failed;
  history = log;
  staged = staged;
  anchors = anchors;
  stage = stage;
  report = report;
  same = same;
  volume_faults = volume_faults;
  kept = kept;
}
