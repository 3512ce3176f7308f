-- A lock that is asked for: what the sessions are behind it.
use Rattle.std.proofs.Common.{◌≡◌, ◌≢◌, inl, inr, ⊎_elim, ◌∷◌, ℕ, List, false, Ok, refl, sym, ap, subst, length, append-nil}
use Rattle.std.specs.Prelude.{◌==◌, ◌<◌, All}
use Rattle.std.proofs.lemmas.Bool.{cases_Bool, eqb-false, eqb-true}
use Rattle.shore_types.specs.declared.locking.Granule.{Granule}
use Rattle.shore_types.specs.declared.locking.Mode.{Mode}
use Rattle.shore_model.specs.declared.calls.Call.{Call}
use Rattle.shore_model.specs.declared.histories.Entry.{Entry}
use Rattle.shore_model.specs.declared.histories.Opening.{Opening}
use Rattle.shore_model.specs.declared.log_records.LogRecord.{LogRecord}
use Rattle.shore_model.specs.Requests.{held_by_all}
use Rattle.shore_locks.specs.Tables.{is_waiting}
use Rattle.shore_path.specs.declared.answers.Acquired.TheVariants as acquire
use Rattle.shore_path.specs.declared.answers.OnConflict.{OnConflict}
use Rattle.shore_path.specs.Walks.{Outcome, acquired}
use Rattle.laws_locks.specs.Acquires.{Leaves}
use Rattle.laws_locks.proofs.Acquired.{acquired_leaves}
use Rattle.laws_locks.proofs.Held.{moves_of, numbers_of}
use Rattle.laws_locks.proofs.Waiting.{others_stay_quiet}
use Rattle.laws_lives.proofs.Members.{txn_among}
use Rattle.laws_lives.specs.SessionSteps.{MoveLocks, StepsTo}
use Rattle.laws_lives.specs.Sessions.{SessionTxn, locks_moved}
use Rattle.laws_lives.specs.Views.{IsAmong}
use Rattle.laws_calls.proofs.Sessions.{AreSessionsAfter, event_keeps, one_member}
use Rattle.laws_calls.specs.CallSteps.{lock_waiting, with_requests}
use Rattle.laws_calls.specs.LockedStates.{AreUnderWay, HasTrueLocks, IsSessionsState}
use Rattle.laws_calls.specs.States.{AsksForNothing, HasSeat, State}
use Rattle.laws_calls.proofs.Waiters.{one_begins}

module _ (o : Opening) (found : List LogRecord) (es : List Entry) (s : State) (k : IsSessionsState o found es s) where
  pub sessions_of : AreSessionsAfter (length found) o es s.sessions s.log
  sessions_of = record { sound = k.sound; agree = k.agree; seats = k.seats; logged = k.log; whole = k.whole; doubts = k.doubts; decides = k.decides; single = k.single }

  pub state_of : (made : List Entry) (new : State) → AreSessionsAfter (length found) o made new.sessions new.log → HasTrueLocks new → IsSessionsState o found made new
  state_of made new h locks = record {
    sound = h.sound;
    agree = h.agree;
    seats = h.seats;
    log = h.logged;
    whole = h.whole;
    doubts = h.doubts;
    decides = h.decides;
    single = h.single;
    locks = locks;
  }

  module _ (a : SessionTxn) (mem : HasSeat s.sessions a) (quiet : is_waiting a.txn s.locks.requests ≡ false) (on_conflict : OnConflict) (at : Granule) (mode : Mode) where
    abbrev out : Outcome
    out = acquired on_conflict s.locks a.txn at mode

    pub leaves : Leaves s.locks.requests out a.txn at mode
    leaves = acquired_leaves on_conflict s.locks a.txn at mode k.locks.orderly quiet k.locks.rooted

    lows : All (λ r. r.txn < s.sessions.next_txn) out.requests
    lows = numbers_of s.locks.requests out.requests a.txn s.sessions.next_txn k.locks.below (k.sound.below a.txn (txn_among a s.sessions.active mem.0)) leaves.others

    pub moved : StepsTo s.sessions (MoveLocks (held_by_all out.requests)) (locks_moved s.sessions (held_by_all out.requests))
    moved = moves_of s.sessions s.locks.requests out.requests k.locks.held k.locks.orderly leaves.orderly leaves.rooted (λ t among g m. leaves.none_weaker t g m) lows

    pub sessions_behind : AreSessionsAfter (length found) o es (with_requests s out.requests).sessions s.log
    sessions_behind =
        subst (λ (made : List Entry). AreSessionsAfter (length found) o made (with_requests s out.requests).sessions s.log) (append-nil es)
        (event_keeps (length found) o es s.sessions (with_requests s out.requests).sessions (MoveLocks (held_by_all out.requests)) s.log sessions_of moved)

    -- another transaction that did not wait does not wait
    other_quiet : s.failed ≡ false → (b : SessionTxn) → IsAmong b s.sessions.active → b.txn ≢ a.txn → AsksForNothing s b.session → is_waiting b.txn out.requests ≡ false
    other_quiet running b there other idle = others_stay_quiet s.locks.requests out.requests a.txn b.txn leaves.others other (k.locks.waits running b there idle)

    under_way : AreUnderWay out.requests s.sessions
    under_way = one_begins s.locks.requests out.requests s.sessions a leaves.others mem k.locks.waiters

    pub locked_state : ((g : Granule) → out.answer ≢ Ok (acquire.Waiting g)) → IsSessionsState o found es (with_requests s out.requests)
    locked_state never = state_of es (with_requests s out.requests) sessions_behind (record {
      held = refl;
      orderly = leaves.orderly;
      rooted = leaves.rooted;
      below = lows;
      waiters = under_way;
      waits = λ running b there idle. ⊎_elim
          (λ own. subst (λ (t : ℕ). is_waiting t out.requests ≡ false) (sym (eqb-true b.txn a.txn own)) (leaves.quiet never))
          (λ other. other_quiet running b there (eqb-false b.txn a.txn other) idle)
          (cases_Bool (b.txn == a.txn));
    })

    -- its call waits
    pub waiting_state : (c : Call) (g : Granule) → IsSessionsState o found es (record (with_requests s out.requests) { waiting = lock_waiting a c g ∷ s.waiting })
    waiting_state c g = state_of es (record (with_requests s out.requests) { waiting = lock_waiting a c g ∷ s.waiting }) sessions_behind (record {
      held = refl;
      orderly = leaves.orderly;
      rooted = leaves.rooted;
      below = lows;
      waiters = under_way;
      waits = λ running b there idle.
          let other : b.txn ≢ a.txn = λ same. idle (lock_waiting a c g) (inl refl) refl (ap (λ (x : SessionTxn). x.session) (one_member k a b mem.0 there (sym same))) in
          other_quiet running b there other (λ w m. idle w (inr m));
    })
