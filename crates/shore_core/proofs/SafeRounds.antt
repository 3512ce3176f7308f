-- A state is safe behind rounds of waits and of victims that let a lock through, if it was before; and log and pages are as they were.
use Rattle.std.proofs.Common.{◌≡◌, inl, inr, ◌∷◌, ℕ, List, [], Bool, true, false, cond, None, Some, Result, Ok, Err, refl, sym, ap, subst, ◌∙◌, arith}
use Rattle.std.specs.Prelude.{◌==◌}
use Rattle.shore_types.specs.declared.ids.PageId.{PageId}
use Rattle.shore_types.specs.declared.faults.Fault.{Fault}
use Rattle.shore_types.specs.declared.layout.Geometry.{Geometry}
use Rattle.shore_model.specs.declared.log_records.LogRecord.{LogRecord}
use Rattle.shore_page.specs.Slots.{Slot}
use Rattle.shore_model.specs.Records.{AreRecords}
use Rattle.shore_types.specs.declared.locking.Granule.{Granule}
use Rattle.shore_types.specs.declared.versions.Version.{Version}
use Rattle.shore_model.specs.declared.calls.Call.{Call}
use Rattle.shore_locks.specs.Tables.{is_waiting}
use Rattle.shore_path.specs.declared.answers.Acquired.{Acquired}
use Rattle.shore_path.specs.declared.answers.Acquired.TheVariants as acquire
use Rattle.shore_cycles.specs.Blockers.{is_victim}
use Rattle.shore_cycles.specs.declared.victims.Victim.{Victim}
use Rattle.laws_locks.specs.CallLocks.{Asked, lock_asked_by}
use Rattle.laws_room.proofs.Leaving.{marked_slots}
use Rattle.laws_lives.specs.Sessions.{SessionTxn}
use Rattle.laws_lives.specs.UndoLists.{undo_rolled}
use Rattle.shore_model.specs.declared.rollbacks.Rollback.TheVariants.{Whole}
use Rattle.laws_lives.specs.Views.{IsAmong}
use Rattle.laws_calls.proofs.LongerLogs.{victims_further}
use Rattle.laws_runs.proofs.LockBounds.{asked_bounds, asks_there, victims_bounds}
use Rattle.laws_runs.proofs.Running.{comes_leaving, later_leaving}
use Rattle.laws_calls.proofs.SessionRooms.{comes_roomy}
use Rattle.laws_calls.specs.CallHistories.{IsRoomyState}
use Rattle.laws_calls.specs.CallSteps.{MayAsk, lock_outcome, on_conflict_of}
use Rattle.laws_calls.specs.LockRounds.{EndsLock, IsBroken, LetThrough, LocksTo, waits_at}
use Rattle.laws_calls.specs.StateChanges.{wait_refused}
use Rattle.laws_calls.specs.States.{DoesNotWait, HasSeat, State, Waiting, page_slots}
use Rattle.laws_calls.specs.Victims.{TakesVictim, TakesVictims, with_cycle}
use Rattle.shore_core.specs.Cores.{IsSafe}
use Rattle.shore_core.proofs.Going.{safe_woken}
use Rattle.shore_core.proofs.Safe.{safe_behind_lock}
use Rattle.shore_core.proofs.Acquiring.{done_waits_not}
use Rattle.laws_calls.proofs.LockRounds.{MayLock, round_stays, woken_after}
use Rattle.laws_calls.proofs.VictimSteps.{victim_comes, victim_stays}

-- ---- log and pages

-- the log, what is durable of it, and the slots of each page with what they claim are the same, and a state that works goes on to
pub record HasSamePages (s new : State) : Type 0 where
  pub log : new.log ≡ s.log
  pub durable : new.durable ≡ s.durable
  pub failed : new.failed ≡ s.failed
  pub slots : (p : PageId) → page_slots new p ≡ page_slots s p

pub same_pages : (s : State) → HasSamePages s s
same_pages s = record { log = refl; durable = refl; failed = refl; slots = λ p. refl }

pub pages_then : (s mid new : State) → HasSamePages s mid → HasSamePages mid new → HasSamePages s new
pages_then s mid new h k = record { log = k.log ∙ h.log; durable = k.durable ∙ h.durable; failed = k.failed ∙ h.failed; slots = λ p. k.slots p ∙ h.slots p }

-- what pages and log are of a state
record PagesOf : Type 0 where
  pages_log : List LogRecord
  pages_durable : ℕ
  pages_failed : Bool
  pages_slots : PageId → List Slot

abbrev pages_of : State → PagesOf
pages_of s = record { pages_log = s.log; pages_durable = s.durable; pages_failed = s.failed; pages_slots = page_slots s }

-- another state with the same
with_pages : (s mid new : State) → HasSamePages s mid → pages_of new ≡ pages_of mid → HasSamePages s new
with_pages s mid new h same = record {
  log = ap (λ (x : PagesOf). x.pages_log) same ∙ h.log;
  durable = ap (λ (x : PagesOf). x.pages_durable) same ∙ h.durable;
  failed = ap (λ (x : PagesOf). x.pages_failed) same ∙ h.failed;
  slots = λ p. ap (λ (x : PagesOf). x.pages_slots p) same ∙ h.slots p;
}

victim_pages : (v : Version) (s : State) → IsRoomyState v s → (t : ℕ) (victim : Victim) (new : State) → TakesVictim s t victim new → HasSamePages s new
victim_pages v s roomy t victim new h =
    let b = h.txn in
    subst (HasSamePages s) (sym h.is) (record {
      log = refl;
      durable = refl;
      failed = refl;
      slots = λ p. marked_slots _ s.sessions.records s.sessions.active s.counts roomy.pages b h.active (undo_rolled b.undo b.undo.images Whole) refl p (s.counts p);
    })

-- ---- calls that wait

-- a call that waits with a cycle to be told waited before
told_before : (session : ℕ) (cycle : List ℕ) (w : Waiting) (ws : List Waiting) → IsAmong w (with_cycle session cycle ws) → (v : Waiting) × IsAmong v ws × (v.call ≡ w.call) × (v.wait ≡ w.wait)
told_before session cycle w [] there = absurd there
told_before session cycle w (x ∷ ws) there = by (x.session == session) there (λ later. told_before session cycle w ws later)
  where
    by : (b : Bool) → IsAmong w (cond b (record { session = x.session; call = x.call; wait = x.wait; cycle = Some cycle }) x ∷ with_cycle session cycle ws)
        → (IsAmong w (with_cycle session cycle ws) → (v : Waiting) × IsAmong v ws × (v.call ≡ w.call) × (v.wait ≡ w.wait)) → (v : Waiting) × IsAmong v (x ∷ ws) × (v.call ≡ w.call) × (v.wait ≡ w.wait)
    by b (inr later) rest = let v = rest later in (v.0, inr v.1, v.2, v.3)
    by true (inl same) rest = (x, inl refl, ap (λ (y : Waiting). y.call) same, ap (λ (y : Waiting). y.wait) same)
    by false (inl same) rest = (x, inl refl, ap (λ (y : Waiting). y.call) same, ap (λ (y : Waiting). y.wait) same)

-- ---- safe states

module _ (g : Geometry) where
  safe_victim : (s : State) (safe : IsSafe g s) (t : ℕ) (v : Victim) (new : State) → TakesVictim s t v new → IsSafe g new
  safe_victim s safe t v new h =
      let comes = victim_comes safe.opening safe.found safe.entries s safe.after g t v new h in
      let even = (victims_further s t (v ∷ []) new (new, h, refl)).durable in
      record {
        opening = safe.opening;
        found = safe.found;
        entries = safe.entries;
        after = victim_stays safe.opening safe.found safe.entries s safe.after t v new h;
        asks = λ w at there is.
            let was = told_before h.txn.session v.cycle w s.waiting (subst (λ (x : State). IsAmong w x.waiting) h.is there) in
            subst (MayAsk g) was.2 (safe.asks was.0 at was.1 (was.3 ∙ is));
        roomy = comes_roomy g safe.opening safe.found safe.entries s safe.after safe.roomy new [] comes;
        stream_bytes = safe.stream_bytes;
        leaves = later_leaving g safe.stream_bytes s.durable new (omega (arith, even)) (comes_leaving g safe.stream_bytes safe.opening safe.found s.durable safe.entries s new [] safe.after safe.roomy safe.leaves comes tt
            (victims_bounds g s t (v ∷ []) new (new, h, refl) safe.leaves.locks));
        inside = subst (λ (x : State). AreRecords g x.sessions.records) (sym h.is) safe.inside;
      }

  -- a safe state that comes of another, with the same log and pages
  pub record ComesSafely (s new : State) : Type 0 where
    pub safe : IsSafe g new
    pub same : HasSamePages s new

  victims_safe : (vs : List Victim) (s : State) → IsSafe g s → (t : ℕ) (new : State) → TakesVictims s t vs new → ComesSafely s new
  victims_safe [] s safe t new h = subst (ComesSafely s) (sym h) (record { safe = safe; same = same_pages s })
  victims_safe (v ∷ vs) s safe t new h =
      let rest = victims_safe vs h.0 (safe_victim s safe t v h.0 h.1) t new h.2 in
      record { safe = rest.safe; same = pages_then s h.0 new (victim_pages g.version s safe.roomy t v h.0 h.1) rest.same }

  module _ (a : SessionTxn) (c : Call) (lock : Asked) (asks : lock_asked_by c ≡ Some lock) (may : MayAsk g c) (whole : a.undo.rolling ≡ None) where
    safe_waits : (s : State) (safe : IsSafe g s) → MayLock safe.opening safe.found safe.entries a s → (at : Granule) → (lock_outcome s a c lock).answer ≡ Ok (acquire.Waiting at) → IsSafe g (waits_at s a c lock at)
    safe_waits s safe k at waits = record {
      opening = safe.opening;
      found = safe.found;
      entries = safe.entries;
      after = (round_stays g safe.opening safe.found safe.entries a c lock asks may whole s k at [] (waits_at s a c lock at) (record { waits = waits; victims = refl }) refl).0;
      asks = λ w at there is. elim there [ inl same ↦ subst (λ (x : Waiting). MayAsk g x.call) same may | inr older ↦ safe.asks w at older is ];
      roomy = record { slots = safe.roomy.slots; pages = safe.roomy.pages; log = safe.roomy.log };
      stream_bytes = safe.stream_bytes;
      leaves = record {
        as_long = safe.leaves.as_long;
        prefixes = safe.leaves.prefixes;
        counts = safe.leaves.counts;
        whole = record { lawful = safe.leaves.whole.lawful; writers = safe.leaves.whole.writers; unended = safe.leaves.whole.unended; above = safe.leaves.whole.above; undo_lists = safe.leaves.whole.undo_lists; some = safe.leaves.whole.some };
        losers = safe.leaves.losers;
        txns = safe.leaves.txns;
        locks = asked_bounds g s (waits_at s a c lock at) (on_conflict_of c) a.txn lock.granule lock.mode refl (asks_there g c lock may asks) safe.leaves.locks;
      };
      inside = safe.inside;
    }

    -- what is known of a state in which the lock is asked for
    pub record MayLockSafely (s : State) : Type 0 where
      pub safe : IsSafe g s
      pub active : HasSeat s.sessions a
      pub idle : DoesNotWait s a.session
      pub quiet : is_waiting a.txn s.locks.requests ≡ false
      pub running : s.failed ≡ false

    round_safe : (s : State) → MayLockSafely s → (at : Granule) (vs : List Victim) (broken : State) → IsBroken s a c lock at vs broken → is_victim vs a.txn ≡ false
        → is_waiting a.txn broken.locks.requests ≡ false → MayLockSafely (wait_refused broken a.session) × HasSamePages s (wait_refused broken a.session)
    round_safe s k at vs broken h none quiet =
        let may_lock : MayLock k.safe.opening k.safe.found k.safe.entries a s = record { after = k.safe.after; active = k.active; idle = k.idle; running = k.running } in
        let on = round_stays g k.safe.opening k.safe.found k.safe.entries a c lock asks may whole s may_lock at vs broken h none in
        let woken = woken_after g k.safe.opening k.safe.found k.safe.entries a c lock asks may whole broken on.0 on.1.active quiet on.1.failed in
        let waits = victims_safe vs (waits_at s a c lock at) (safe_waits s k.safe may_lock at h.waits) a.txn broken h.victims in (
          record { safe = safe_woken g broken waits.safe a.session a (on.1.active, refl) quiet; active = woken.active; idle = woken.idle; quiet = quiet; running = woken.running },
          record { log = waits.same.log; durable = waits.same.durable; failed = waits.same.failed; slots = waits.same.slots },
        )

    pub safe_through : (rounds : List (List Victim)) (s later : State) → MayLockSafely s → LetThrough s a c lock rounds later → MayLockSafely later × HasSamePages s later
    safe_through [] s later k h = subst (λ (x : State). MayLockSafely x × HasSamePages s x) (sym h) (k, same_pages s)
    safe_through (vs ∷ rounds) s later k h =
        let one = round_safe s k h.0 vs h.1 h.2 h.3 h.4 in
        let rest = safe_through rounds (wait_refused h.1 a.session) later one.0 h.5 in
        (rest.0, pages_then s (wait_refused h.1 a.session) later one.1 rest.1)

    -- ---- the lock as a whole

    -- the transaction under way, and the state in which its lock was asked for
    module _ (s : State) (k : MayLockSafely s) where
      -- victims that do not let it through
      broken_pages : (rounds : List (List Victim)) (later : State) → LetThrough s a c lock rounds later → (at : Granule) (vs : List Victim) (broken : State) → IsBroken later a c lock at vs broken
          → HasSamePages s broken
      broken_pages rounds later go at vs broken h =
          let on = safe_through rounds s later k go in
          let may_lock : MayLock on.0.safe.opening on.0.safe.found on.0.safe.entries a later = record { after = on.0.safe.after; active = on.0.active; idle = on.0.idle; running = on.0.running } in
          let waits = victims_safe vs (waits_at later a c lock at) (safe_waits later on.0.safe may_lock at h.waits) a.txn broken h.victims in
          pages_then s later broken on.1 (record { log = waits.same.log; durable = waits.same.durable; failed = waits.same.failed; slots = waits.same.slots })

      through_pages : (rounds : List (List Victim)) (later : State) → LetThrough s a c lock rounds later → HasSamePages s later
      through_pages rounds later go = (safe_through rounds s later k go).1

      pub locked_pages : (answer : Result Acquired Fault) (new : State) → LocksTo s a c lock answer new → HasSamePages s new
      locked_pages (Ok acquire.Done) new h = let on = through_pages h.rounds h.later h.go in with_pages s h.later new on (ap pages_of h.ends.1)
      locked_pages (Ok (acquire.Waiting at)) new h =
          with_pages s h.ends.1 new (broken_pages h.rounds h.later h.go at h.ends.0 h.ends.1 h.ends.2) (sym (ap pages_of h.ends.6))
      locked_pages (Err f) new h = ends h.ends
        where
          ends : EndsLock h.later a c lock (Err f) new → HasSamePages s new
          ends (inl refused) = with_pages s h.later new (through_pages h.rounds h.later h.go) (ap pages_of refused.1)
          ends (inr (inl own)) = with_pages s own.2 new (broken_pages h.rounds h.later h.go own.0 own.1 own.2 own.3) (ap pages_of own.7)
          ends (inr (inr short)) = with_pages s h.later new (through_pages h.rounds h.later h.go) (ap pages_of short.3)

      -- behind it the state is safe, and the transaction is as it was
      pub safe_locked : (new : State) → LocksTo s a c lock (Ok acquire.Done) new → IsSafe g new × HasSeat new.sessions a
      safe_locked new h =
          let on = safe_through h.rounds s h.later k h.go in
          subst (λ (x : State). IsSafe g x × HasSeat x.sessions a) (sym h.ends.1)
          (safe_behind_lock g h.later on.0.safe a on.0.active on.0.quiet c lock (asks_there g c lock may asks) (λ at waits. done_waits_not at (sym h.ends.0 ∙ waits)), on.0.active)

      pub still_active : (at : Granule) (new : State) → LocksTo s a c lock (Ok (acquire.Waiting at)) new → HasSeat new.sessions a
      still_active at new h =
          let on = (safe_through h.rounds s h.later k h.go).0 in
          let may_lock : MayLock on.safe.opening on.safe.found on.safe.entries a h.later = record { after = on.safe.after; active = on.active; idle = on.idle; running = on.running } in
          let stays = round_stays g on.safe.opening on.safe.found on.safe.entries a c lock asks may whole h.later may_lock at h.ends.0 h.ends.1 h.ends.2 h.ends.3 in
          subst (λ (x : State). HasSeat x.sessions a) h.ends.6 stays.1.active
