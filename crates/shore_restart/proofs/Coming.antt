-- Paths that have come to a store with both devices ready, and on from there: a page that is fetched, and a force of the log.
use Rattle.std.proofs.Common.{◌≡◌, ◌≤◌, ℕ, List, [], ◌∷◌, ◌++◌, Result, Ok, Err, inl, inr, refl, sym, ap, subst, ◌∙◌, length, drop, arith}
use Rattle.shore_gate.specs.declared.anchors.Anchor.{Anchor}
use Rattle.shore_types.specs.declared.layout.Geometry.{Geometry}
use Rattle.shore_disk.specs.Device.{LeavesOnly, may_leave}
use Rattle.shore_disk.specs.declared.device.Disk.{Ghosts}
use Rattle.shore_types.specs.declared.faults.Fault.TheVariants as fault
use Rattle.shore_log.specs.Settled.{cut_of_log}
use Rattle.shore_log.specs.declared.device.LogDev.{LogDev}
use Rattle.shore_heap.specs.declared.heap.Heap.{Heap}
use Rattle.shore_heap.specs.Heaps.{geometry_of, history_of}
use Rattle.laws_lives.specs.Recovery.{ForceLog, RecoveryState, after_force}
use Rattle.laws_lives.proofs.Invariant.{event_kept}
use Rattle.laws_heaps.proofs.Stores.{forced_is}
use Rattle.shore_restart.specs.declared.errors.RestartError.{RestartError}
use Rattle.shore_restart.specs.declared.errors.RestartError.TheVariants.{Page}
use Rattle.laws_images.specs.Moments.{Moment, ShowsLeft}
use Rattle.laws_images.specs.MomentsBehind.{PathBehind}
use Rattle.shore_restart.specs.Standing.{Fetches, Forces, IsAtRest, IsReady, Notes, RestartMoves, Stands, Worked, log_history, moment_of}
use Rattle.shore_restart.specs.Anchors.{EndsBehind}
use Rattle.shore_restart.proofs.Frames.{rest_left}
use Rattle.shore_restart.proofs.Noting.{notes_forced, notes_none, notes_on}
use Rattle.shore_restart.proofs.Paths.{path_and, path_covered, path_on, prefix_same, step_volume}
use Rattle.shore_restart.proofs.Standing.{stands_left}

-- ---- the log device

module _ {L : Type 0} {G : Ghosts L} where
  -- it has the records of another store too, if they are the same and as many of them are durable
  pub rest_same : (log_front : List ℕ) (anchor : Anchor) (log : LogDev L G) (s later : RecoveryState) → later.log ≡ s.log → later.durable ≡ s.durable → IsAtRest log_front anchor log s → IsAtRest log_front anchor log later
  rest_same log_front anchor log s later log_is durable rest = record {
    settled = rest.settled;
    none_staged = rest.none_staged;
    records = ap (drop (cut_of_log log)) log_is ∙ rest.records;
    ended = subst (EndsBehind (cut_of_log log)) (sym log_is) rest.ended;
    durable = durable ∙ rest.durable;
  }

module _ {V : Type 0} {H : Ghosts V} where
  -- a force leaves the heap what it stands for
  pub forced_stands : (front : List ℕ) (disk : ℕ → List ℕ) (heap : Heap V H) (s : RecoveryState) (n : ℕ) → Stands front disk heap s → s.durable ≤ n → n ≤ length s.log → Stands front disk heap (after_force s n)
  forced_stands front disk heap s n stands more within =
      let m = forced_is heap disk s n stands.store more within in
      record { store = m.1; settled = stands.settled; recoverable = event_kept s (ForceLog n) (after_force s n) stands.recoverable m.0; slots = stands.slots; shows = stands.shows }

-- ---- paths

module _ {L V : Type 0} {G : Ghosts L} {H : Ghosts V} (log_front front : List ℕ) (anchor : Anchor) (first_log : LogDev L G) (first : Heap V H) (s : RecoveryState) where
  -- a path has come from there to this store, both devices are ready, and the recovery numbers are those that it leads to
  pub record CameFrom (log : LogDev L G) (heap : Heap V H) (later : RecoveryState) : Type 0 where
    pub moments : List Moment
    pub path : PathBehind (geometry_of first) log_front front anchor (moment_of (log_history first_log) first s) moments (moment_of (log_history log) heap later)
    pub geometry : geometry_of heap ≡ geometry_of first
    pub disk : ℕ → List ℕ
    pub ready : IsReady log_front front anchor disk log heap later
    pub notes : Notes first heap s later

  abbrev start : Moment
  start = moment_of (log_history first_log) first s

  -- work on the volume behind it
  pub worked_on : (log : LogDev L G) (old new : Heap V H) (now later : RecoveryState) (came : CameFrom log old now) → Worked front old new now later → later.log ≡ now.log → later.durable ≡ now.durable
      → PathBehind (geometry_of first) log_front front anchor start (came.moments ++ moment_of (log_history log) new later ∷ []) (moment_of (log_history log) new later)
  worked_on log old new now later came work log_is durable =
      let covered = (path_covered (geometry_of first) log_front front anchor start came.moments (moment_of (log_history log) old now) came.path).log in
      let volume = subst (λ (g : Geometry). LeavesOnly (history_of old) (history_of new) (ShowsLeft g front now)) came.geometry work.volume in
      let end = subst (λ (g : Geometry). (c : List ℕ) → may_leave (history_of new) c → ShowsLeft g front later c) came.geometry work.left in
      path_and (geometry_of first) log_front front anchor start came.moments (moment_of (log_history log) old now) (moment_of (log_history log) new later) came.path
      (step_volume (geometry_of first) log_front front anchor (log_history log) (history_of old) (history_of new) now later work.works work.loses_none covered work.work volume)
      (record { log = λ c left. prefix_same log_front anchor now later c log_is durable (covered c left); volume = end })

  -- a fetch that was not stopped by the device
  pub came_fetched : (log : LogDev L G) (old new : Heap V H) (now : RecoveryState) (r : Result (Unit {0}) RestartError) (came : CameFrom log old now) (f : Fetches r front old new now) → (r ≡ Err (Page fault.Device) → ⊥)
      → geometry_of new ≡ geometry_of old → CameFrom log new f.later
  came_fetched log old new now r came f running geometry =
      let is : (left : ℕ → List ℕ) × Stands front left new f.later × Notes old new now f.later = elim f.stands [
        | inl refused ↦ absurd (running refused)
        | inr stands ↦ stands
      ] in
      record {
        moments = came.moments ++ moment_of (log_history log) new f.later ∷ [];
        path = worked_on log old new now f.later came f.work f.same.log f.same.durable;
        geometry = geometry ∙ came.geometry;
        disk = is.0;
        ready = record {
          at_rest = rest_same log_front anchor log now f.later f.same.log f.same.durable came.ready.at_rest;
          stands = is.1;
          redone = f.same.redone ∙ came.ready.redone ∙ ap length (sym f.same.log);
        };
        notes = notes_on first old new s now f.later came.notes is.2;
      }

  -- a force behind it
  pub came_forced : (old new : LogDev L G) (heap : Heap V H) (now : RecoveryState) (came : CameFrom old heap now) (f : Forces {A = Unit {0}} (Ok tt) (geometry_of first) log_front front anchor (history_of heap) old new now)
      → CameFrom new heap (after_force now f.durable)
  came_forced old new heap now came f =
      let all = f.done.0 in
      let most = came.ready.stands.recoverable.durable in
      let more : now.durable ≤ f.durable = omega (arith, all, most) in
      let within : f.durable ≤ length now.log = omega (arith, all) in
      record {
        moments = came.moments ++ f.moments;
        path = path_on (geometry_of first) log_front front anchor start came.moments (moment_of (log_history old) heap now) f.moments (moment_of (log_history new) heap (after_force now f.durable)) came.path f.path;
        geometry = came.geometry;
        disk = came.disk;
        ready = record { at_rest = f.done.1; stands = forced_stands front came.disk heap now f.durable came.ready.stands more within; redone = came.ready.redone };
        notes = notes_on first heap heap s now (after_force now f.durable) came.notes (notes_forced heap now f.durable more within);
      }

  -- at the beginning
  pub came_here : (disk : ℕ → List ℕ) → IsReady log_front front anchor disk first_log first s → CameFrom first_log first s
  came_here disk ready = record {
    moments = [];
    path = (refl, record { log = rest_left log_front anchor first_log s ready.at_rest; volume = stands_left front disk first s ready.stands });
    geometry = refl;
    disk = disk;
    ready = ready;
    notes = notes_none first s;
  }

  -- moves have come to where they have led
  pub came_of : {A : Type 0} (x : A) (log : LogDev L G) (heap : Heap V H) (Done : RecoveryState → Type 0) → geometry_of heap ≡ geometry_of first
      → (m : RestartMoves (Ok x) log_front front anchor first_log log first heap s Done) → CameFrom log heap m.later
  came_of x log heap Done geometry m = record { moments = m.moments; path = m.path; geometry = geometry; disk = m.done.1; ready = m.done.2; notes = m.notes }

  -- .. and are what has come there
  pub moves_of : {A : Type 0} (x : A) (log : LogDev L G) (heap : Heap V H) (later : RecoveryState) (Done : RecoveryState → Type 0) → CameFrom log heap later → Done later
      → RestartMoves (Ok x) log_front front anchor first_log log first heap s Done
  moves_of x log heap later Done came is = record { later = later; moments = came.moments; path = came.path; done = (is, came.disk, came.ready); notes = came.notes }

  -- stopped at a force
  pub force_stops : {A : Type 0} (e other : RestartError) (old new : LogDev L G) (heap : Heap V H) (later : RecoveryState) (Done : RecoveryState → Type 0) → (came : CameFrom old heap later)
      → Forces {A = Unit {0}} (Err other) (geometry_of first) log_front front anchor (history_of heap) old new later → RestartMoves {A = A} (Err e) log_front front anchor first_log new first heap s Done
  force_stops e other old new heap later Done came f = record {
    later = after_force later f.durable;
    moments = came.moments ++ f.moments;
    path = path_on (geometry_of first) log_front front anchor start came.moments (moment_of (log_history old) heap later) f.moments (moment_of (log_history new) heap (after_force later f.durable)) came.path f.path;
    done = tt;
    notes = tt;
  }

  -- a fetch, whatever it answers
  pub fetch_moves : (r : Result (Unit {0}) RestartError) (log : LogDev L G) (old new : Heap V H) (now : RecoveryState) (came : CameFrom log old now) → Fetches r front old new now → geometry_of new ≡ geometry_of old
      → now.log ≡ s.log → now.in_place ≡ s.in_place → RestartMoves r log_front front anchor first_log log first new s (λ later. (later.log ≡ s.log) × (later.in_place ≡ s.in_place))
  fetch_moves (Ok u) log old new now came f geometry log_is in_place =
      let c = came_fetched log old new now (Ok u) came f (λ is. cc) geometry in
      moves_of u log new f.later (λ later. (later.log ≡ s.log) × (later.in_place ≡ s.in_place)) c (f.same.log ∙ log_is, f.same.in_place ∙ in_place)
  fetch_moves (Err e) log old new now came f geometry log_is in_place = record {
    later = f.later;
    moments = came.moments ++ moment_of (log_history log) new f.later ∷ [];
    path = worked_on log old new now f.later came f.work f.same.log f.same.durable;
    done = tt;
    notes = tt;
  }

  -- moves from where it has come to
  module _ (log new_log : LogDev L G) (heap new : Heap V H) (now : RecoveryState) (came : CameFrom log heap now) where
    path_moved : (moments : List Moment) (later : RecoveryState) → PathBehind (geometry_of heap) log_front front anchor (moment_of (log_history log) heap now) moments (moment_of (log_history new_log) new later)
        → PathBehind (geometry_of first) log_front front anchor start (came.moments ++ moments) (moment_of (log_history new_log) new later)
    path_moved moments later path =
        path_on (geometry_of first) log_front front anchor start came.moments (moment_of (log_history log) heap now) moments (moment_of (log_history new_log) new later) came.path
        (subst (λ (g : Geometry). PathBehind g log_front front anchor (moment_of (log_history log) heap now) moments (moment_of (log_history new_log) new later)) came.geometry path)

    pub came_moved : {A : Type 0} (x : A) (Done : RecoveryState → Type 0) → (m : RestartMoves (Ok x) log_front front anchor log new_log heap new now Done) → geometry_of new ≡ geometry_of heap → CameFrom new_log new m.later
    came_moved x Done m geometry = record {
      moments = came.moments ++ m.moments;
      path = path_moved m.moments m.later m.path;
      geometry = geometry ∙ came.geometry;
      disk = m.done.1;
      ready = m.done.2;
      notes = notes_on first heap new s now m.later came.notes m.notes;
    }

    pub moves_stop : {A B : Type 0} (e other : RestartError) (Done Then : RecoveryState → Type 0) → RestartMoves {A = A} (Err e) log_front front anchor log new_log heap new now Done
        → RestartMoves {A = B} (Err other) log_front front anchor first_log new_log first new s Then
    moves_stop e other Done Then m = record { later = m.later; moments = came.moments ++ m.moments; path = path_moved m.moments m.later m.path; done = tt; notes = tt }
