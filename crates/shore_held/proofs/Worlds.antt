-- A world that is at the state and the store of a manager under way has what is kept under both locks.
use Rattle.std.proofs.Common.{◌≡◌, None, false, ℕ, List, [], ◌++◌, length-append, take, drop, refl, sym, ◌∙◌, ap, subst, arith}
use Rattle.std.proofs.Math.Seq.{drop-append_seam}
use Rattle.shore_disk.specs.declared.device.Disk.{Ghosts}
use Rattle.shore_types.specs.declared.layout.Geometry.{Geometry}
use Rattle.shore_model.specs.declared.histories.Entry.{Entry}
use Rattle.shore_model.specs.declared.histories.Opening.{Opening}
use Rattle.shore_model.specs.declared.log_records.LogRecord.{LogRecord}
use Rattle.shore_log.specs.Settled.{anchor_of, cut_of_log, records_of_log}
use Rattle.laws_images.specs.Moments.{ShowsLeft}
use Rattle.laws_images.specs.StandsBehind.{anchored_by}
use Rattle.laws_runs.specs.CheckpointSteps.{CheckpointedState}
use Rattle.laws_runs.specs.CheckpointedStates.{IsAtCheckpoints}
use Rattle.shore_world.specs.declared.world.World.{World}
use Rattle.shore_world.specs.Worlds.{IsAt, SurvivesCrashes, before_in, cut_in, failed_in, geometry_in, stream_bytes_in}
use Rattle.shore_world.proofs.LogParts.{gone_long}
use Rattle.shore_held.specs.Comings.{HasComeBy}
use Rattle.shore_world.specs.Labels.{IsLogFront, IsVolumeFront}
use Rattle.shore_held.specs.Logs.{IsKept}
use Rattle.shore_held.proofs.KeptLogs.{kept_ready}

module _ {L V : Type 0} {G : Ghosts L} {H : Ghosts V} (w : World L V G H) (g : Geometry) (ring_bytes : ℕ) (opening : Opening) (found : List LogRecord) (es : List Entry) (m : CheckpointedState)
    (log_front front : List ℕ) (disk : ℕ → List ℕ) (at : IsAt w log_front front disk m.state m.store) (under_way : IsAtCheckpoints g ring_bytes opening found es m) (is : geometry_in w ≡ g) (long : stream_bytes_in w ≡ ring_bytes)
    (labelled : IsVolumeFront g front) where
  abbrev gone : List LogRecord
  gone = take (cut_in w) m.state.log

  -- its core has come by nothing
  pub comes_by_nothing : HasComeBy (record { opening = opening; found = found; earlier = es; first = m; front = front }) (cut_of_log w.log) (records_of_log w.log) w.core w.stage (anchored_by (anchor_of w.log)) []
  comes_by_nothing = record {
    geometry = g;
    is = is;
    ring_bytes = ring_bytes;
    ring = omega (arith, w.ring, long);
    began = under_way;
    plain = [];
    made = [];
    last = m;
    moves = (refl, refl);
    are = refl;
    before = before_in w m.state;
    cut_off = omega (arith, gone_long w m.state at.is_in.beside, length-append gone (records_of_log w.log));
    kept_is = ap (λ n. drop n (gone ++ records_of_log w.log)) (sym (gone_long w m.state at.is_in.beside)) ∙ drop-append_seam gone (records_of_log w.log);
    front = front;
    is_front = refl;
    labelled = labelled;
    disk = disk;
    is_in = at.is_in;
    over = at.over;
    volume = λ c may. subst (λ (x : Geometry). ShowsLeft x front m.store.store c) is (at.volume c may);
    at = at.stage;
    anchored_is = at.anchored;
  }

-- Its log device is kept, with a frame under way or without one; no move of its anchor has failed.
module _ {L V : Type 0} {G : Ghosts L} {H : Ghosts V} (w : World L V G H) (g : Geometry) (log_bytes : ℕ) (log_front : List ℕ) (labelled : IsLogFront g log_bytes log_front) (k : SurvivesCrashes w log_front)
    (running : failed_in w ≡ false) where
  pub keeps_log : IsKept g log_bytes w.log false (0, 0)
  keeps_log = kept_ready w.log w.log log_front labelled refl k.anchored false (k.ready running)
