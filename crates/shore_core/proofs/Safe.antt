-- A state is safe behind a lock that was asked for, if it was before.
use Rattle.laws_checkpoints.specs.CheckpointedStores.{CheckpointedStore}
use Rattle.std.proofs.Common.{◌≡◌, ◌≢◌, ℕ, ◌++◌, List, [], append-nil, Result, Ok, Err, false, refl, sym, ap, subst, ◌∙◌, arith}
use Rattle.shore_disk.specs.declared.device.Disk as disk
use Rattle.shore_disk.specs.Device.{size}
use Rattle.shore_log.specs.declared.tail.Tail as tail
use Rattle.shore_types.specs.Layout.{HasGranule, HasSlot}
use Rattle.shore_types.specs.declared.faults.Fault.{Fault}
use Rattle.shore_types.specs.declared.ids.Rid.{Rid}
use Rattle.shore_types.specs.declared.layout.Geometry.{Geometry}
use Rattle.shore_types.specs.declared.locking.Granule.{Granule}
use Rattle.shore_types.specs.declared.locking.Granule.TheVariants.{Record}
use Rattle.shore_types.specs.declared.locking.Mode.TheVariants.{EX}
use Rattle.shore_types.specs.declared.versions.Version.{Version}
use Rattle.shore_model.specs.Locks.{MayWrite}
use Rattle.shore_model.specs.declared.calls.Answer.TheVariants.{Deleted}
use Rattle.shore_model.specs.declared.calls.Call.{Call}
use Rattle.shore_model.specs.declared.calls.Call.TheVariants as call
use Rattle.shore_model.specs.declared.histories.Entry.{Entry}
use Rattle.shore_model.specs.declared.holds.Hold.{Hold}
use Rattle.shore_model.specs.declared.log_records.LogRecord.{LogRecord}
use Rattle.shore_model.specs.declared.requests.Request.{Request}
use Rattle.shore_locks.specs.Tables.{is_waiting}
use Rattle.shore_path.specs.Acquires.{IsReached}
use Rattle.shore_path.specs.declared.answers.Acquired.{Acquired}
use Rattle.shore_path.specs.declared.answers.Acquired.TheVariants as acquire
use Rattle.shore_path.specs.declared.answers.OnConflict.TheVariants.{Refuse}
use Rattle.laws_locks.specs.CallLocks.{Asked}
use Rattle.laws_locks.proofs.Held.{locked_of}
use Rattle.laws_room.specs.Claims.{NoOthers}
use Rattle.laws_lives.proofs.GranuleLocks.{permitted}
use Rattle.laws_lives.specs.GranuleLocks.{HasLock}
use Rattle.laws_lives.specs.Sessions.{SessionTxn}
use Rattle.shore_heap.specs.Heaps as heaps
use Rattle.shore_heap.specs.Heaps.{Shows}
use Rattle.shore_txn.specs.Transactions.{kept_in}
use Rattle.laws_runs.specs.RoomyStates.{HasLocksInBounds, LeavesRoomyLogs}
use Rattle.laws_calls.proofs.LeftWaits.{AreOlder, waits_left}
use Rattle.laws_calls.proofs.Sessions.{older_resolved}
use Rattle.laws_runs.proofs.LockBounds.{asked_bounds}
use Rattle.laws_calls.proofs.TakenLocks.{leaves, locked_state}
use Rattle.laws_calls.specs.CallHistories.{IsForced, IsRoomyState}
use Rattle.laws_calls.specs.CallSteps.{behind_lock, behind_place, lock_outcome, on_conflict_of, place_outcome, with_requests}
use Rattle.laws_calls.specs.LockedStates.{IsSessionsState}
use Rattle.laws_calls.specs.SessionWaits.{WaitsOfSessions}
use Rattle.laws_calls.specs.States.{HasSeat, State, page_slots}
use Rattle.shore_sessions.proofs.Alone.{writer_alone}
use Rattle.shore_sessions.specs.Standing.{HasControl}
use Rattle.shore_core.specs.declared.core_calls.Core.{Core}
use Rattle.shore_core.specs.Cores.{CoreComesTo, IsSafe, control_of, heap_of, txns_of}
use Rattle.shore_core.specs.Replies.{Keeps, OnlyLocks, acquire_as}
use Rattle.shore_core.proofs.Coming.{over_as}

-- an answer that is one of a call which may not wait
pub never_waits : (answer : Result Acquired Fault) (r : Result (Unit {0}) Fault) → answer ≡ acquire_as r → (at : Granule) → answer ≢ Ok (acquire.Waiting at)
never_waits answer (Ok done) is at waits = clash (sym is ∙ waits)
  where
    clash : ◌≡◌ {A = Result Acquired Fault} (Ok acquire.Done) (Ok (acquire.Waiting at)) → ⊥
    clash e = cc
never_waits answer (Err f) is at waits = clash (sym is ∙ waits)
  where
    clash : ◌≡◌ {A = Result Acquired Fault} (Err f) (Ok (acquire.Waiting at)) → ⊥
    clash e = cc

-- with other requests in the table all but its locks is the same
module _ (s : State) (rs : List Request) where
  waits_behind : (base : ℕ) → AreOlder s → WaitsOfSessions base s → WaitsOfSessions base (with_requests s rs)
  waits_behind base older = waits_left base s (with_requests s rs) older (record {
    waiting = refl;
    prepared = refl;
    seats = λ n t is. is;
    active = λ a mine. (a, mine, refl, refl, λ waits whole. whole);
    resolving = refl;
    txns = λ t there. there;
    older = λ t less there. there;
    next = omega arith;
    outside = λ w m t is. is;
    on = ([], sym (append-nil s.log));
    running = λ works. works;
  })

  forced_behind : (base : ℕ) (es : List Entry) → IsForced base es s → IsForced base es (with_requests s rs)
  forced_behind base es h = record { least = h.least; most = h.most; acknowledged_kept = h.acknowledged_kept; tickets = h.tickets }

  roomy_behind : (v : Version) → IsRoomyState v s → IsRoomyState v (with_requests s rs)
  roomy_behind v h = record { slots = h.slots; pages = h.pages; log = h.log }

  leaves_behind : (g : Geometry) (n : ℕ) → HasLocksInBounds g (with_requests s rs) → LeavesRoomyLogs g n s → LeavesRoomyLogs g n (with_requests s rs)
  leaves_behind g n locks h = record {
    as_long = h.as_long;
    prefixes = h.prefixes;
    counts = h.counts;
    whole = record { lawful = h.whole.lawful; writers = h.whole.writers; unended = h.whole.unended; above = h.whole.above; undo_lists = h.whole.undo_lists; some = h.whole.some };
    losers = h.losers;
    txns = h.txns;
    locks = locks;
  }

  pub safe_behind : (g : Geometry) (safe : IsSafe g s) → IsSessionsState safe.opening safe.found safe.entries (with_requests s rs) → HasLocksInBounds g (with_requests s rs) → IsSafe g (with_requests s rs)
  safe_behind g safe sessions locks = record {
    opening = safe.opening;
    found = safe.found;
    entries = safe.entries;
    after = record {
      sessions = sessions;
      waits = waits_behind _ (older_resolved safe.opening safe.found safe.entries s safe.after.sessions) safe.after.waits;
      forced = forced_behind _ safe.entries safe.after.forced;
      few = safe.after.few;
    };
    asks = safe.asks;
    roomy = roomy_behind g.version safe.roomy;
    stream_bytes = safe.stream_bytes;
    leaves = leaves_behind g safe.stream_bytes locks safe.leaves;
    inside = safe.inside;
  }

module _ (g : Geometry) (s : State) (safe : IsSafe g s) (a : SessionTxn) (mem : HasSeat s.sessions a) (quiet : is_waiting a.txn s.locks.requests ≡ false) where
  -- behind a call's lock, unless the call waits for it
  pub safe_behind_lock : (c : Call) (lock : Asked) → HasGranule g lock.granule → ((at : Granule) → (lock_outcome s a c lock).answer ≢ Ok (acquire.Waiting at)) → IsSafe g (behind_lock s a c lock)
  safe_behind_lock c lock there never =
      safe_behind s (lock_outcome s a c lock).requests g safe
      (locked_state safe.opening safe.found safe.entries s safe.after.sessions a mem quiet (on_conflict_of c) lock.granule lock.mode never)
      (asked_bounds g s (behind_lock s a c lock) (on_conflict_of c) a.txn lock.granule lock.mode refl there safe.leaves.locks)

  -- .. and behind that of an insert's place
  pub safe_behind_place : (id : Rid) → HasSlot g id → ((at : Granule) → (place_outcome s a id).answer ≢ Ok (acquire.Waiting at)) → IsSafe g (behind_place s a id)
  safe_behind_place id there never =
      safe_behind s (place_outcome s a id).requests g safe (locked_state safe.opening safe.found safe.entries s safe.after.sessions a mem quiet Refuse (Record id) EX never)
      (asked_bounds g s (behind_place s a id) Refuse a.txn (Record id) EX refl there safe.leaves.locks)

  -- .. which is reached
  pub place_reached : (id : Rid) → (place_outcome s a id).answer ≡ Ok acquire.Done → IsReached (place_outcome s a id).requests a.txn (Record id) EX
  place_reached id done = (leaves safe.opening safe.found safe.entries s safe.after.sessions a mem quiet Refuse (Record id) EX).done done

-- a core has asked for a lock, and all but its locks is the same
module _ {T V : Type 0} {G : tail.Ghosts T} {H : disk.Ghosts V} (mid new : Core T V G H) where
  pub comes_locked : OnlyLocks mid new → (front : List ℕ) (before : List LogRecord) (s : State) (store : CheckpointedStore) (rs : List Request)
      → (HasControl (control_of mid) s → HasControl (control_of new) (with_requests s rs)) → CoreComesTo mid front before store s → CoreComesTo new front before store (with_requests s rs)
  comes_locked same front before s store rs stands comes =
      let was = comes.is_in.beside in
      let shows = λ (works : s.failed ≡ false). subst (λ h. Shows (kept_in (txns_of mid)) h front comes.left (page_slots s)) (sym same.heap) (comes.is_in.pages works) in
      record {
        left = comes.left;
        is_in = record {
          beside = record {
            first = ap G.first same.tail ∙ was.first;
            parts = record {
              stands = stands was.parts.stands;
              log = was.parts.log ∙ ap (λ t. before ++ G.records t) (sym same.tail);
              durable_is = was.parts.durable_is ∙ sym same.durable;
              failed_is = was.parts.failed_is ∙ sym same.failed;
            };
          };
          pages = λ works. subst (λ t. Shows (kept_in t) (heap_of new) front comes.left (page_slots s)) (sym same.txns) (shows works);
        };
        works = comes.works;
        after = comes.after;
        work = comes.work;
        over = over_as mid new comes.left s (with_requests s rs) comes.after same.heap refl refl refl comes.over;
      }

  pub locks_keep : OnlyLocks mid new → Keeps mid new
  locks_keep same = record {
    volume = record {
      geometry = ap (λ h. heaps.geometry_of h) same.heap;
      honest = ap (λ h. heaps.honesty_of h) same.heap;
      size = ap (λ h. size (heaps.history_of h)) same.heap;
    };
    durable = same.durable;
    failed = same.failed;
    first = ap (λ t. (G.first t, G.told t)) same.tail;
  }

-- who has a record locked for writing is alone there
pub alone_in : (g : Geometry) (s : State) → IsSafe g s → (t : ℕ) (id : Rid) → IsReached s.locks.requests t (Record id) EX → NoOthers s.sessions.active t id
alone_in g s safe t id reached =
    let may : MayWrite s.sessions.held t id = permitted s.sessions.held t (call.Delete id) Deleted
    (subst (λ (held : List Hold). HasLock held t (Record id) EX) (sym safe.after.sessions.locks.held) (locked_of s.locks.requests t (Record id) EX reached)) in
    writer_alone safe.opening safe.entries s.sessions safe.after.sessions.sound t id may
