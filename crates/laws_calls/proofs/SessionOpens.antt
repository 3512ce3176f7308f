-- What an open leaves, with an empty lock table.
use Rattle.std.proofs.Common.{◌≡◌, ◌<◌, List, [], sym, ap, subst, arith, length, ◌≤◌, take, ◌≢◌, ℕ, ◌∷◌, map, true, inl, inr, ◌∙◌}
use Rattle.shore_model.specs.declared.histories.Opening.{Opening}
use Rattle.std.specs.Prelude.{Contains}
use Rattle.std.proofs.lemmas.List.Elements.{All-nil}
use Rattle.shore_model.specs.declared.log_records.LogRecord.{LogRecord}
use Rattle.laws_lives.specs.Views.{IsAmong}
use Rattle.laws_calls.specs.CallHistories.{IsOpened, HasGrantedLocks}
use Rattle.laws_calls.proofs.Waiters.{none_wait}
use Rattle.laws_calls.specs.LockedStates.{HasTrueLocks, IsSessionsState}
use Rattle.laws_calls.specs.Events.{IsStateAfter}
use Rattle.laws_calls.specs.States.{State}
use Rattle.laws_lives.proofs.LogDecisions.{open_decides}
use Rattle.laws_lives.proofs.SessionsAgree.{open_agrees}
use Rattle.laws_lives.proofs.Steps.{open_is_sound}
use Rattle.laws_lives.specs.LogPrefixes.{LogDecides, decisions_in}
use Rattle.laws_lives.specs.LogTells.{IsLogAfter}
use Rattle.std.specs.List.{AllByRecursion}
use Rattle.laws_lives.proofs.DoubtOpenings.{is_just_opened, open_has_log, open_is_whole_log, open_tracks_doubts}
use Rattle.laws_lives.proofs.OwnSeats.{open_seats}
use Rattle.laws_lives.specs.Doubts.{TracksDoubts}
use Rattle.laws_lives.specs.WholeLogs.{IsWholeLog}
use Rattle.laws_calls.specs.CallSteps.{ended_among}
use Rattle.std.proofs.lemmas.Bool.{true≢false}
use Rattle.laws_lives.specs.Sessions.{PreparedTxn, EachOnce, ResolvedTxn}
use Rattle.laws_lives.specs.Soundness.{found_in_doubt}
use Rattle.shore_model.specs.declared.histories.InDoubt.{InDoubt}

-- nobody asks for a lock
pub locks_of_open : (s : State) → HasGrantedLocks s → HasTrueLocks s
locks_of_open s h = record {
  held = h.held;
  orderly = h.orderly;
  rooted = h.rooted;
  below = h.below;
  waiters = none_wait s.locks.requests s.sessions h.nobody_waits;
  waits = λ running a there idle. h.nobody_waits a.txn;
}

pub sessions_begin : (o : Opening) (found : List LogRecord) (s : State) → IsOpened o found s → IsSessionsState o found [] s
sessions_begin o found s h =
    let just = is_just_opened o found s.sessions h.on in
    let log = h.log in
    record {
      sound = open_is_sound o s.sessions just;
      agree = open_agrees o s.sessions just;
      seats = open_seats o s.sessions just;
      log = subst (IsLogAfter o [] s.sessions) (sym log) (open_has_log o found s.sessions h.on);
      whole = subst (λ rs. IsWholeLog rs s.sessions) (sym log) (open_is_whole_log o found s.sessions h.on);
      doubts = subst (λ rs. TracksDoubts rs s.sessions) (sym log) (open_tracks_doubts o found s.sessions h.on);
      decides = subst (LogDecides (length found) o []) (sym log) (open_decides o found h.on.opening h.on.doubts);
      single = subst (λ rs. EachOnce (map (λ (r : ResolvedTxn). r.txn) rs)) (sym h.on.resolving) tt;
      locks = locks_of_open s h.locks;
    }

-- those who are found in doubt are answered
pub found_answered : (p : PreparedTxn) (ds : List InDoubt) → IsAmong p (map found_in_doubt ds) → p.answered ≡ true
found_answered p [] h = absurd h
found_answered p (d ∷ ds) (inl e) = ap (λ (p : PreparedTxn). p.answered) (sym e)
found_answered p (d ∷ ds) (inr later) = found_answered p ds later

pub sessions_after_open : (o : Opening) (found : List LogRecord) (s : State) → IsOpened o found s → IsStateAfter o found [] s
sessions_after_open o found s h =
    let durable = h.durable in
    let few = h.few in
    let resolving : length (ended_among s.sessions.active s.sessions.resolving) ≡ 0 = ap (λ rs. length (ended_among s.sessions.active rs)) h.on.resolving in
    record {
      sessions = sessions_begin o found s h;
      waits = record {
        each = λ w m. absurd (subst (IsAmong w) h.waiting m);
        once = λ v w m n same. absurd (subst (IsAmong v) h.waiting m);
        prepares = λ running p m e. absurd (true≢false (sym (found_answered p o.in_doubt (subst (IsAmong p) h.on.prepared m)) ∙ e));
        resolves = λ running r ended. absurd (subst (IsAmong r) h.on.resolving ended.0);
        resolve_once = λ v w global x y m n first second. absurd (subst (IsAmong v) h.waiting m);
      };
      forced = record {
        least = subst (λ n. length found ≤ n) (sym durable) (omega arith);
        most = subst (λ log. s.durable ≤ length log) (sym h.log) (omega arith);
        acknowledged_kept = All-nil (Contains (decisions_in (length found) (take s.durable s.log)));
        tickets = tt;
      };
      few = omega (arith, few, resolving);
    }

-- ---- opens that must not come

pub opened_undurable : (o : Opening) (found : List LogRecord) (s : State) → s.durable ≢ length found → IsOpened o found s → ⊥
opened_undurable o found s other h = other h.durable

pub opened_too_high : (o : Opening) (found : List LogRecord) (s : State) (n : ℕ) → 0 < n → AllByRecursion (λ r. r.txn < n) found → n < s.sessions.next_txn → IsOpened o found s
    → ⊥
opened_too_high o found s n some above less h = let le = h.least n some above in omega arith

pub opened_too_low : (r : LogRecord) (o : Opening) (found : List LogRecord) (s : State) → s.sessions.next_txn ≤ r.txn → IsOpened o (r ∷ found) s → ⊥
opened_too_low r o found s low h = let less = h.on.below.0 in omega arith
