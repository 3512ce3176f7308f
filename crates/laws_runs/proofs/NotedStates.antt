-- A record of a checkpoint leaves a manager under way, if it has its room.
use Rattle.std.proofs.Common.{◌≡◌, inl, inr, ⊎_elim, ◌++◌, ◌+◌, ◌<◌, ◌≤◌, ℕ, List, [], ◌∷◌, Option, Some, None, true, refl, sym, ap, subst, ◌∙◌, length, arith}
use Rattle.std.proofs.lemmas.List.{length-append}
use Rattle.std.proofs.lemmas.List.Elements.{All-push}
use Rattle.shore_types.specs.declared.ids.PageId.{PageId}
use Rattle.shore_types.specs.declared.layout.Geometry.{Geometry}
use Rattle.shore_types.specs.declared.layout.TheConstants.{LAST_OPENED, LAST_TXN, LONGEST_FRAME}
use Rattle.shore_types.specs.declared.versions.Version.{Version}
use Rattle.shore_analysis.specs.Sizes.{HasSizes}
use Rattle.shore_model.specs.declared.histories.Entry.{Entry}
use Rattle.shore_model.specs.declared.histories.Opening.{Opening}
use Rattle.shore_model.specs.declared.log_records.LogRecord.{LogRecord}
use Rattle.shore_model.specs.declared.log_records.Payload.{Payload}
use Rattle.shore_model.specs.declared.log_records.Payload.TheVariants.{Anchor, CheckpointBegin, CheckpointEnd}
use Rattle.shore_model.specs.Logs.{MayFollow, is_of_checkpoint}
use Rattle.shore_logrec.specs.Text.{cost_of}
use Rattle.shore_analysis.specs.Meant.{AreGranules, IsInBounds, ListsInBounds, granules_in, next_in}
use Rattle.laws_lives.proofs.CheckpointRecords.{doubts_are, loser_stays, no_one, plain_of, stays_after, stays_decided, stays_tracked, stays_whole}
use Rattle.laws_lives.specs.Doubts.{NeedMore, doubts_in}
use Rattle.laws_lives.specs.Recovery.{IsRecoverable, RecoveryState, after_append}
use Rattle.laws_lives.specs.Sessions.{txns_of}
use Rattle.laws_lives.specs.Undo.{IsLoser}
use Rattle.laws_lives.specs.Views.{IsAmong}
use Rattle.laws_calls.proofs.LeftWaits.{decision_wait_on}
use Rattle.laws_calls.proofs.Rooms.{cost_pushed}
use Rattle.laws_calls.proofs.SessionForces.{forced_on}
use Rattle.laws_calls.proofs.TakenLocks.{sessions_of}
use Rattle.laws_calls.specs.CallHistories.{IsPrefix, IsRoomyState}
use Rattle.laws_calls.specs.Events.{IsStateAfter}
use Rattle.laws_calls.specs.LockedStates.{HasTrueLocks, IsSessionsState}
use Rattle.laws_calls.specs.SessionWaits.{WaitsOfSessions}
use Rattle.laws_calls.specs.States.{State, cost_of_log, log_room}
use Rattle.laws_runs.proofs.Prefixes.{push_roomy, whole_placed, whole_roomy}
use Rattle.laws_runs.proofs.Running.{names_none}
use Rattle.laws_runs.proofs.SlotCounts.{slot_count-push}
use Rattle.laws_runs.proofs.StateLosers.{state_is_roomy}
use Rattle.laws_runs.specs.CheckpointSteps.{with_record}
use Rattle.laws_runs.specs.RoomyLogs.{IsRoomyLog}
use Rattle.laws_runs.specs.RoomyStates.{LeavesRoomyLogs}
use Rattle.laws_runs.specs.SlotCounts.{slot_count, slots_behind}
use Rattle.laws_runs.specs.SoundStores.{IsUnderWay}
use Rattle.laws_runs.specs.StoredRuns.{StoredState}
use Rattle.std.proofs.lemmas.Bool.{true≢false}

-- the record has its room and its number, beside what is reserved and the longest frame
pub record HasItsRoom (s : State) (r : LogRecord) : Type 0 where
  pub fits : cost_of_log s.log + cost_of r.payload + (log_room s).reserved + LONGEST_FRAME ≤ s.stream_bytes
  pub number : length s.log + 1 + (log_room s).reserved < LAST_OPENED

no_granules : (p : Payload) → is_of_checkpoint p ≡ true → granules_in p ≡ []
no_granules CheckpointBegin h = refl
no_granules (CheckpointEnd begin next txns dirty) h = refl
no_granules (Anchor checkpoint tail) h = refl
no_granules _ h = cc

none_some : {A : Type 0} {x : A} → ◌≡◌ {A = Option A} None (Some x) → ⊥
none_some e = cc

-- ---- the state

module _ (o : Opening) (found : List LogRecord) (es : List Entry) (s : State) (k : IsStateAfter o found es s) (r : LogRecord) (follows : MayFollow s.log r) (its : is_of_checkpoint r.payload ≡ true) where
  abbrev pub new : State
  new = with_record r s

  goes_on : IsPrefix s.log new.log
  goes_on = (r ∷ [], refl)

  locks_stay : HasTrueLocks new
  locks_stay =
      let l = k.sessions.locks in
      record { held = l.held; orderly = l.orderly; rooted = l.rooted; below = l.below; waiters = l.waiters; waits = l.waits }

  sessions_stay : IsSessionsState o found es new
  sessions_stay =
      let c = k.sessions in
      record {
        sound = c.sound;
        agree = c.agree;
        seats = c.seats;
        log = stays_after s.log r its c.whole.lawful follows o es s.sessions c.whole.some c.log;
        whole = stays_whole s.log r its c.whole.lawful follows s.sessions c.whole;
        doubts = stays_tracked s.log r its c.whole.lawful follows s.sessions c.doubts;
        decides = stays_decided s.log r its c.whole.lawful follows (length found) o es c.decides;
        single = c.single;
        locks = locks_stay;
      }

  waits_stay : WaitsOfSessions (length found) new
  waits_stay = record {
    each = λ w m. ⊎_elim
        (λ c. inl (decision_wait_on (length found) s new w (λ t global h. h) (λ x h e out. (h, out)) goes_on c))
        (λ l. inr (record { txn = l.txn; active = l.active; of = l.of; whole = l.whole; at = l.at; is = l.is; lock = l.lock; asked = l.asked }))
        (k.waits.each w m);
    once = k.waits.once;
    prepares = k.waits.prepares;
    resolves = k.waits.resolves;
    resolve_once = k.waits.resolve_once;
  }

  pub noted_state : IsStateAfter o found es new
  noted_state = record { sessions = sessions_stay; waits = waits_stay; forced = forced_on (length found) es s new refl goes_on k.forced; few = k.few }

-- a record of a checkpoint has no image and no global id
no_sizes : (v : Version) (p : Payload) → is_of_checkpoint p ≡ true → HasSizes v p
no_sizes v CheckpointBegin its = tt
no_sizes v (CheckpointEnd begin next txns dirty) its = tt
no_sizes v (Anchor checkpoint tail) its = tt
no_sizes v _ its = absurd (true≢false (sym its))

-- ---- its room

module _ (v : Version) (s : State) (roomy : IsRoomyState v s) (r : LogRecord) (room : HasItsRoom s r) where
  pub noted_roomy : IsRoomyState v (with_record r s)
  noted_roomy =
      let cost = cost_pushed s.log r in
      let long = length-append s.log (r ∷ []) in
      let fits = room.fits in
      let number = room.number in
      let short = roomy.log.short in
      record {
        slots = roomy.slots;
        pages = roomy.pages;
        log = record { sum = refl; fits = omega (arith, cost, fits); lsns = omega (arith, long, number); short = omega (arith, cost, short) };
      }

module _ (g : Geometry) (stream_bytes : ℕ) (o : Opening) (found : List LogRecord) (es : List Entry) (m : StoredState) (k : IsUnderWay g stream_bytes o found es m) (r : LogRecord)
    (follows : MayFollow m.state.log r) (its : is_of_checkpoint r.payload ≡ true) (room : HasItsRoom m.state r) (next : next_in r.payload ≤ LAST_TXN) (lists : ListsInBounds g r.payload) where
  abbrev pub s : State
  s = m.state

  abbrev pub its_state : State
  its_state = with_record r s

  state_after : IsStateAfter o found es its_state
  state_after = noted_state o found es s k.state r follows its

  its_roomy : IsRoomyState g.version its_state
  its_roomy = noted_roomy g.version s k.roomy r room

  nobody : r.txn ≡ 0
  nobody = no_one s.log r its k.state.sessions.whole.lawful follows

  in_bounds : IsInBounds g r
  in_bounds =
      let none = nobody in
      let plain = plain_of r.payload its in
      record {
        number = omega (arith, none);
        next = next;
        sizes = no_sizes g.version r.payload its;
        lists = lists;
        id = λ id e. absurd (none_some (sym plain.id ∙ e));
        granules = subst (AreGranules g) (sym (no_granules r.payload its)) (names_none g);
      }

  counts_stay : (p : PageId) → its_state.counts p ≡ slot_count its_state.log p
  counts_stay p =
      let plain = plain_of r.payload its in
      k.leaves.counts p ∙ sym (slot_count-push s.log r p ∙ ap (λ i. slots_behind p i (slot_count s.log p)) plain.image)

  losers : (t : ℕ) → IsLoser its_state.log t → IsAmong t (txns_of s.sessions.active)
  losers t loser = k.leaves.losers t (loser_stays s.log r its nobody t loser.is_one loser)

  no_more : NeedMore g.max_locks (doubts_in s.log) → ⊥
  no_more = (whole_roomy g stream_bytes s.durable s.log k.leaves.prefixes).locks

  leaves_stay : LeavesRoomyLogs g stream_bytes its_state
  leaves_stay =
      let inside = All-push (IsInBounds g) s.log r (whole_placed g stream_bytes s.durable s.log k.leaves.prefixes).inside in_bounds in
      let few = k.state.few in
      let roomy : IsRoomyLog g stream_bytes its_state.log =
      subst (λ n. IsRoomyLog g n its_state.log) k.leaves.as_long (state_is_roomy g (length found) o es its_state (sessions_of o found es its_state state_after.sessions) its_roomy (omega (arith, few)) state_after.sessions.whole counts_stay inside losers
      (λ more. no_more (subst (NeedMore g.max_locks) (doubts_are s.log r its) more))) in
      record {
        as_long = k.leaves.as_long;
        prefixes = push_roomy g stream_bytes s.durable s.log r k.leaves.prefixes roomy;
        counts = counts_stay;
        whole = state_after.sessions.whole;
        losers = losers;
        txns = k.leaves.txns;
        locks = record { limit = k.leaves.locks.limit; within = k.leaves.locks.within; inside = k.leaves.locks.inside };
      }

  pub noted_under_way : (store : RecoveryState) → store ≡ after_append m.store r → IsRecoverable store → store.redone ≡ length store.log
      → IsUnderWay g stream_bytes o found es (record { state = its_state; store = store })
  noted_under_way store is recoverable redone = record {
    state = state_after;
    asks = k.asks;
    no_cycle = k.no_cycle;
    stored = record {
      log = ap (λ (x : RecoveryState). x.log) is ∙ ap (λ l. l ++ r ∷ []) k.stored.log;
      durable = ap (λ (x : RecoveryState). x.durable) is ∙ k.stored.durable;
    };
    roomy = its_roomy;
    leaves = leaves_stay;
    recoverable = recoverable;
    redone = redone;
  }
