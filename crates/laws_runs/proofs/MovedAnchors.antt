-- More room for the log, once more of it is cut off, leaves a manager under way.
use Rattle.std.proofs.Common.{◌≡◌, inl, inr, ⊎_elim, ◌+◌, ◌≤◌, ℕ, List, refl, sym, ap, ◌∙◌, take, drop, arith}
use Rattle.std.proofs.lemmas.List.{take-take}
use Rattle.std.proofs.lemmas.List.Sums.{sum_by-take-drop}
use Rattle.shore_types.specs.declared.layout.Geometry.{Geometry}
use Rattle.shore_types.specs.declared.layout.TheConstants.{MAX_LOG_BYTES}
use Rattle.shore_model.specs.declared.histories.Entry.{Entry}
use Rattle.shore_model.specs.declared.histories.Opening.{Opening}
use Rattle.shore_model.specs.declared.log_records.LogRecord.{LogRecord}
use Rattle.shore_logrec.specs.Text.{cost_of}
use Rattle.laws_calls.specs.CallHistories.{IsRoomyState}
use Rattle.laws_calls.specs.Events.{IsStateAfter}
use Rattle.laws_calls.specs.States.{State, cost_of_log}
use Rattle.laws_runs.specs.RoomyLogs.{AreRoomy, IsRoomyLog}
use Rattle.laws_runs.specs.SoundStores.{IsUnderWay}
use Rattle.laws_runs.specs.StoredRuns.{StoredState}

-- ---- what the records cost

pub cost_in_parts : (log : List LogRecord) (n : ℕ) → cost_of_log log ≡ cost_of_log (take n log) + cost_of_log (drop n log)
cost_in_parts log n = sym (sum_by-take-drop (λ (r : LogRecord). cost_of r.payload) log n)

-- a longer front costs what the shorter one does, and what is between
pub cost_between : (log : List LogRecord) (n m : ℕ) → n ≤ m → cost_of_log (take m log) ≡ cost_of_log (take n log) + cost_of_log (drop n (take m log))
cost_between log n m le = cost_in_parts (take m log) n ∙ ap (λ rs. cost_of_log rs + cost_of_log (drop n (take m log))) (take-take n m log le)

pub cost_of_more : (log : List LogRecord) (n m : ℕ) → n ≤ m → cost_of_log (take n log) ≤ cost_of_log (take m log)
cost_of_more log n m le = let e = cost_between log n m le in omega (arith, e)

pub cost_of_front : (log : List LogRecord) (n : ℕ) → cost_of_log (take n log) ≤ cost_of_log log
cost_of_front log n = let e = cost_in_parts log n in omega (arith, e)

-- ---- roomy logs

module _ (g : Geometry) (old new : ℕ) (more : old ≤ new) where
  pub roomier_log : (log : List LogRecord) → new ≤ cost_of_log log + MAX_LOG_BYTES → IsRoomyLog g old log → IsRoomyLog g new log
  roomier_log log most k =
      let fits = k.room.fits in
      record { placed = k.placed; room = record { sum = k.room.sum; fits = omega (arith, fits, more); lsns = k.room.lsns; short = most }; locks = k.locks }

  pub roomier : (least : ℕ) (log : List LogRecord) → ((n : ℕ) → least ≤ n → new ≤ cost_of_log (take n log) + MAX_LOG_BYTES) → AreRoomy g old least log → AreRoomy g new least log
  roomier least log most k = record { placed = k.placed; roomy = λ n from. roomier_log (take n log) (most n from) (k.roomy n from) }

-- ---- the state

abbrev pub with_stream : ℕ → State → State
with_stream n s = record s { stream_bytes = n }

module _ (o : Opening) (found : List LogRecord) (es : List Entry) (s : State) (k : IsStateAfter o found es s) (n : ℕ) where
  pub streamed_state : IsStateAfter o found es (with_stream n s)
  streamed_state =
      let c = k.sessions in
      let l = c.locks in
      let f = k.forced in
      record {
        sessions = record {
          sound = c.sound;
          agree = c.agree;
          seats = c.seats;
          log = c.log;
          whole = c.whole;
          doubts = c.doubts;
          decides = c.decides;
          single = c.single;
          locks = record { held = l.held; orderly = l.orderly; rooted = l.rooted; below = l.below; waiters = l.waiters; waits = l.waits };
        };
        waits = record {
          each = λ w m. ⊎_elim
              (λ d. inl (record { number = d.number; decision = d.decision; is = d.is; unanswered = d.unanswered; some = d.some; there = d.there; decided = d.decided }))
              (λ h. inr (record { txn = h.txn; active = h.active; of = h.of; whole = h.whole; at = h.at; is = h.is; lock = h.lock; asked = h.asked }))
              (k.waits.each w m);
          once = k.waits.once;
          prepares = k.waits.prepares;
          resolves = k.waits.resolves;
          resolve_once = k.waits.resolve_once;
        };
        forced = record { least = f.least; most = f.most; acknowledged_kept = f.acknowledged_kept; tickets = f.tickets };
        few = k.few;
      }

module _ (g : Geometry) (o : Opening) (found : List LogRecord) (es : List Entry) (m : StoredState) (k : IsUnderWay g m.state.stream_bytes o found es m) (n : ℕ) (more : m.state.stream_bytes ≤ n)
    (most : (i : ℕ) → m.state.durable ≤ i → n ≤ cost_of_log (take i m.state.log) + MAX_LOG_BYTES) where
  abbrev pub s : State
  s = with_stream n m.state

  streamed_roomy : IsRoomyState g.version s
  streamed_roomy =
      let fits = k.roomy.log.fits in
      let front = cost_of_front m.state.log m.state.durable in
      let all = most m.state.durable (omega arith) in
      record { slots = k.roomy.slots; pages = k.roomy.pages; log = record { sum = k.roomy.log.sum; fits = omega (arith, fits, more); lsns = k.roomy.log.lsns; short = omega (arith, front, all) } }

  pub streamed_under_way : IsUnderWay g n o found es (record { state = s; store = m.store })
  streamed_under_way = record {
    state = streamed_state o found es m.state k.state n;
    asks = k.asks;
    no_cycle = k.no_cycle;
    stored = record { log = k.stored.log; durable = k.stored.durable };
    roomy = streamed_roomy;
    leaves = record {
      as_long = refl;
      prefixes = roomier g m.state.stream_bytes n more m.state.durable m.state.log most k.leaves.prefixes;
      counts = k.leaves.counts;
      whole = k.leaves.whole;
      losers = k.leaves.losers;
      txns = k.leaves.txns;
      locks = record { limit = k.leaves.locks.limit; within = k.leaves.locks.within; inside = k.leaves.locks.inside };
    };
    recoverable = k.recoverable;
    redone = k.redone;
  }
