-- What an open at the end of a life shows.
use Rattle.std.proofs.Common.{◌≡◌, ℕ, ◌-◌, List, [], refl, sym, ◌∙◌, ap, subst, take}
use Rattle.shore_types.specs.declared.layout.Geometry.{Geometry}
use Rattle.shore_types.specs.declared.layout.TheConstants.{LOG_FRONT_BYTES}
use Rattle.shore_types.specs.Versions.{slot_limit}
use Rattle.shore_disk.specs.Device.{DeviceHistory, seen, size}
use Rattle.shore_disk.specs.declared.device.Disk.{Ghosts}
use Rattle.shore_dwrite.specs.declared.places.TheConstants.{GATE_AT}
use Rattle.shore_gate.specs.declared.anchors.Anchor.{Anchor}
use Rattle.shore_model.specs.declared.histories.Opening.{Opening}
use Rattle.shore_model.specs.declared.log_records.LogRecord.{LogRecord}
use Rattle.shore_model.specs.Histories.{shown}
use Rattle.shore_model.specs.Locks.{Harmony, WellRooted}
use Rattle.shore_model.specs.Logs.{records_told}
use Rattle.shore_model.specs.Records.{scan_of}
use Rattle.shore_model.specs.Requests.{held_by_all}
use Rattle.laws_lives.specs.Pages.{LoggedPages}
use Rattle.laws_lives.specs.Views.{IsAmong}
use Rattle.laws_lives.proofs.Openings.{open_shows_found}
use Rattle.laws_lives.proofs.LifeSteps.{found_is_shown}
use Rattle.laws_lives.specs.Doubts.{IsOpeningOf}
use Rattle.laws_lives.specs.Soundness.{history_from}
use Rattle.laws_runs.specs.CheckpointSteps.{CheckpointedState}
use Rattle.laws_runs.specs.CheckpointedStates.{IsAtCheckpoints}
use Rattle.laws_runs.specs.StoredRuns.{IsOpenedOver}
use Rattle.laws_runs.proofs.OpenedBehind.{found_store, may_be_found}
use Rattle.laws_images.specs.StandsBehind.{StandsForBehind, anchored_by}
use Rattle.laws_orders.proofs.Moves.{opens_in_order}
use Rattle.shore_world.specs.declared.world.World.{World}
use Rattle.shore_world.specs.Lives.{DumpsShow}
use Rattle.shore_world.specs.Promises.{HasInDoubt, IsManagerOf}
use Rattle.shore_world.specs.Labels.{IsVolumeFront}
use Rattle.shore_world.proofs.LabelLemmas.{as_long, found_log_front, found_volume_front, log_front_stays}
use Rattle.shore_locks.specs.Tables.{Table}
use Rattle.shore_world.specs.Worlds.{geometry_in, history_in, requests_in, stream_bytes_in}
use Rattle.shore_world.specs.Opens.{HasOpened}
use Rattle.shore_world.proofs.PromiseLemmas.{in_harmony}
use Rattle.shore_world.proofs.LeftDoubts.{restored_behind}
use Rattle.shore_world.proofs.StoredLemmas.{IsUpAt, up_safe}
use Rattle.shore_world.proofs.StayLemmas.{came, no_losers, over_ready, redone, up_at}

module _ {L V : Type 0} {G : Ghosts L} {H : Ghosts V} (g : Geometry) (o : Opening) (anchor : Anchor) (rs : List LogRecord) (pages : LoggedPages) (opening : IsOpeningOf rs o) (sized : o.slots ≡ slot_limit g.version)
    (log volume : DeviceHistory) (stood : StandsForBehind g (size log) (size volume) anchor rs pages (seen log) (seen volume)) (w : World L V G H)
    (opens : HasOpened w g anchor log volume rs pages) where
  abbrev now : CheckpointedState
  now = record { state = opens.opened.first; store = opens.opened.ready }

  abbrev ring_bytes : ℕ
  ring_bytes = size log - LOG_FRONT_BYTES

  over : IsOpenedOver o opens.opened.ready.store opens.opened.first
  over = over_ready g (size log) (size volume) anchor rs pages log volume (refl, refl) stood w opens o opening sized

  up : IsUpAt g ring_bytes o rs (take 512 (take LOG_FRONT_BYTES (seen log))) (take GATE_AT (seen volume)) [] w now
  up = up_at g (size log) (size volume) anchor rs pages log volume (refl, refl) stood w opens o opening sized

  pub opened_manager : IsManagerOf w o [] []
  opened_manager = record {
    found = rs;
    opening = opening;
    log_front = take LOG_FRONT_BYTES (seen log);
    front = take GATE_AT (seen volume);
    disk = opens.opened.disk;
    now = now;
    at = opens.opened.at;
    log_labelled = log_front_stays g (geometry_in w) (size log) (size (history_in w)) (take LOG_FRONT_BYTES (seen log)) (take LOG_FRONT_BYTES (seen log)) up.geometry
        (as_long g.version (size log) (size (history_in w)) stood.front.long up.long) refl (found_log_front g anchor rs pages log volume stood);
    volume_labelled = subst (λ (x : Geometry). IsVolumeFront x (take GATE_AT (seen volume))) (sym up.geometry) (found_volume_front g anchor rs pages log volume stood);
    limit = ap (λ (t : Table). t.limit) opens.opened.at.is_in.beside.parts.stands.locks ∙ opens.opened.doubts.locks.limit_is ∙ ap (λ (x : Geometry). x.max_locks) (sym up.geometry);
    waited = λ w there. absurd (subst (IsAmong w) over.waiting there);
    there = λ session w there. absurd (subst (IsAmong w) over.waiting there);
    firsts = λ w there. absurd (subst (IsAmong w) over.waiting there);
    in_order = opens_in_order rs o stood.opened.opened.lawful opening;
    under_way = subst (λ (x : Geometry). IsAtCheckpoints x (stream_bytes_in w) o rs [] now) (sym up.geometry) (subst (λ n. IsAtCheckpoints g n o rs [] now) (sym up.long) up.under_way);
  }

  opened_in_doubt : HasInDoubt w o rs now.state
  opened_in_doubt = record {
    prepared = over.sessions.prepared;
    active = over.sessions.active;
    locks = restored_behind g ring_bytes anchor rs pages stood.opened (held_by_all (requests_in w)) opens.opened.doubts.locks.restored;
    nobody_waits = opens.opened.doubts.locks.nobody_waits;
  }

  pub opened_so : (k : IsManagerOf w o [] []) × HasInDoubt w o rs k.now.state
  unfolding opened_manager
  opened_so = (opened_manager, opened_in_doubt)

  -- what the log tells is what its opening shows
  pub opening_shown : records_told rs ≡ shown (history_from o []) []
  opening_shown = found_is_shown o (found_store g ring_bytes (anchored_by anchor) rs pages stood.opened) (may_be_found g ring_bytes (anchored_by anchor) rs pages stood.opened) opening

  pub opened_shows : DumpsShow w (records_told rs)
  opened_shows store pairs is =
      is (take GATE_AT (seen volume)) opens.opened.disk opens.opened.first opens.opened.ready opens.opened.at.is_in
      (up_safe g ring_bytes o rs (take 512 (take LOG_FRONT_BYTES (seen log))) (take GATE_AT (seen volume)) [] w now up) opens.opened.at.over
      ∙ ap (scan_of store)
      (open_shows_found o (found_store g ring_bytes (anchored_by anchor) rs pages stood.opened) opens.opened.works opens.opened.ready.store opens.opened.first.sessions
      (may_be_found g ring_bytes (anchored_by anchor) rs pages stood.opened) opening
      (came g (size log) (size volume) anchor rs pages log volume (refl, refl) stood w opens).restarts
      (redone g (size log) (size volume) anchor rs pages log volume (refl, refl) stood w opens)
      (no_losers g (size log) (size volume) anchor rs pages log volume (refl, refl) stood w opens) over.sessions)

  pub opened_in_harmony : Harmony (held_by_all (requests_in w)) × WellRooted (held_by_all (requests_in w))
  opened_in_harmony = in_harmony w o [] [] opened_manager
