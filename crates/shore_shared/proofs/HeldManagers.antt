-- What the core has come by under its lock is a manager's.
use Rattle.std.proofs.Common.{◌≡◌, ◌++◌, ℕ, List, map, ap, subst, ◌∙◌}
use Rattle.shore_check.specs.declared.stage.Stage.{Stage}
use Rattle.shore_disk.specs.declared.device.Disk as disk
use Rattle.shore_log.specs.declared.tail.Tail as tail
use Rattle.shore_model.specs.declared.log_records.LogRecord.{LogRecord}
use Rattle.shore_model.specs.Histories.{IsHistory, Sound}
use Rattle.shore_model.specs.Locks.{Harmony, WellRooted}
use Rattle.shore_model.specs.Logs.{logged_writes}
use Rattle.shore_model.specs.Records.{overlays}
use Rattle.shore_model.specs.Requests.{HasNoCycle, held_by_all}
use Rattle.laws_lives.proofs.InPlace.{is_overlaid}
use Rattle.laws_lives.proofs.LoggedInPlace.{stand_logged}
use Rattle.laws_lives.specs.Sessions.{txns_of}
use Rattle.laws_lives.specs.Soundness.{history_from, serial_after}
use Rattle.laws_calls.proofs.Rooted.{stay_rooted}
use Rattle.laws_calls.specs.Events.{IsStateAfter}
use Rattle.laws_checkpoints.specs.Checkpoints.{Anchored}
use Rattle.shore_core.specs.declared.core_calls.Core.{Core}
use Rattle.shore_core.specs.Cores.{locks_of}
use Rattle.shore_world.specs.EventMoves.{PlainMove}
use Rattle.shore_held.proofs.Comings.{under_way}
use Rattle.shore_held.specs.Comings.{Beginning, HasComeBy}

module _ {T V : Type 0} {G : tail.Ghosts T} {H : disk.Ghosts V} {start : Beginning} (cut : ℕ) (kept : List LogRecord) (core : Core T V G H) (stage : Stage) (anchored : Anchored) (trail : List PlainMove)
    (h : HasComeBy start cut kept core stage anchored trail) where
  after : IsStateAfter start.opening start.found (start.earlier ++ h.made) h.last.state
  after = (under_way cut kept core stage anchored trail h).under_way.state

  pub sound : IsHistory (history_from start.opening (start.earlier ++ h.made)) × Sound (history_from start.opening (start.earlier ++ h.made))
  sound = (after.sessions.agree.history, after.sessions.sound.sound)

  -- the requests of the state are the core's
  same : h.last.state.locks.requests ≡ (locks_of core).requests
  same i = (h.is_in.beside.parts.stands.locks i).requests

  held : h.last.state.sessions.held ≡ held_by_all (locks_of core).requests
  held = after.sessions.locks.held ∙ ap held_by_all same

  pub locks : Harmony (held_by_all (locks_of core).requests) × WellRooted (held_by_all (locks_of core).requests) × HasNoCycle (locks_of core).requests
  locks = (
    subst Harmony held after.sessions.sound.stand.harmony,
    subst WellRooted held (stay_rooted start.opening start.found (start.earlier ++ h.made) h.last.state after),
    subst HasNoCycle same (under_way cut kept core stage anchored trail h).under_way.no_cycle,
  )

  pub records : h.last.state.sessions.records
      ≡ overlays (serial_after start.opening (start.earlier ++ h.made)) (map (logged_writes h.last.state.log) (txns_of h.last.state.sessions.active))
  records = is_overlaid (stand_logged after.sessions.sound after.sessions.log)
