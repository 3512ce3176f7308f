-- What a step of a manager is to its sessions: their events one after another, each with what it leaves of log, slots and room.
use Rattle.std.proofs.Common.{◌≡◌, ◌≢◌, ◌⊎◌, inl, inr, ◌++◌, ◌∷◌, ◌+◌, ◌<◌, ◌≤◌, ℕ, List, [], Bool, true, false, cond, None, Some, Ok, Err, refl, sym, ap, subst, ◌∙◌, append-nil, arith, length, map, take}
use Rattle.std.specs.Prelude.{◌==◌, ◌||◌, IsSome, not}
use Rattle.std.specs.FinMap.{get}
use Rattle.std.specs.List.{AllByRecursion, list_any}
use Rattle.std.specs.List.Sorted.{IsStrictlySortedBy}
use Rattle.std.proofs.lemmas.Bool.{eqb-false, eqb-true, ne_eqb}
use Rattle.shore_types.specs.Images.{Image}
use Rattle.shore_types.specs.Layout.{HasPage}
use Rattle.shore_types.specs.Locking.{granule_cmp}
use Rattle.shore_types.specs.declared.faults.Fault.{Fault}
use Rattle.shore_types.specs.declared.faults.Fault.TheVariants as fault
use Rattle.shore_types.specs.declared.ids.Rid.{Rid}
use Rattle.shore_types.specs.declared.layout.Geometry.{Geometry}
use Rattle.shore_types.specs.declared.layout.TheConstants.{LAST_TXN, MAX_TRANSACTIONS}
use Rattle.shore_types.specs.declared.locking.Granule.{Granule}
use Rattle.shore_model.specs.declared.calls.Answer.TheVariants.{Committed}
use Rattle.shore_model.specs.declared.calls.Call.{Call}
use Rattle.shore_model.specs.declared.calls.Call.TheVariants as call
use Rattle.shore_model.specs.declared.histories.Entry.{Entry}
use Rattle.shore_model.specs.declared.histories.Entry.TheVariants.{Exchanged}
use Rattle.shore_model.specs.declared.log_records.Payload.{Payload}
use Rattle.shore_model.specs.declared.log_records.Payload.TheVariants as payload
use Rattle.shore_model.specs.declared.requests.Request.{Request}
use Rattle.shore_model.specs.Logs.{logged_writes}
use Rattle.shore_model.specs.Requests.{held_by_all}
use Rattle.shore_nodes.proofs.Counts.{length-filter_most}
use Rattle.laws_locks.specs.CallLocks.{Asked, lock_asked_by}
use Rattle.laws_room.specs.Claims.{Grows}
use Rattle.laws_room.specs.Events.{EventFits}
use Rattle.laws_room.specs.LogRooms.{EventAdmits, LogRoom, RoomAfter, begun_room, ended_room, owed}
use Rattle.laws_lives.proofs.Lists.{length-push}
use Rattle.laws_lives.specs.Logged.{and_record, log_after}
use Rattle.laws_lives.specs.SessionSteps.{AnswerAbort, Ask, AnswerInDoubt, AnswerPrepare, AnswerResolve, AppendCommit, AppendPrepare, AppendResolve, AppendRollback, BeginTxn, Doom, EndRollback, GiveReply, IsOwn, MoveLocks, PutBack, RefuseCall, SessionEvent, StepsTo, entries_by, exchange}
use Rattle.laws_lives.specs.Sessions.{ResolvedTxn, SessionTxn, commit_appended, seated, with_undo, without_txn, prepare_answered}
use Rattle.laws_lives.specs.UndoLists.{UndoList, nothing_to_undo}
use Rattle.laws_lives.specs.Views.{IsAmong}
use Rattle.laws_calls.proofs.Rooms.{cost_pushed}
use Rattle.laws_calls.specs.StateChanges.{FitsAt, begun, with_failure}
use Rattle.laws_calls.specs.CallSteps.{ended_among, lock_waiting, txn_count, with_requests, IsPreparing}
use Rattle.laws_calls.specs.States.{DoesNotWait, HasNoTxn, HasSeat, MayBegin, State, Waiting, cost_of_log, log_room, next_number}
use Rattle.laws_lives.specs.LogPrefixes.{IsDecidedIn}
use Rattle.shore_model.specs.declared.histories.Decision.TheVariants as decision
use Rattle.laws_lives.specs.ManagerSteps.{TellsTicket, decision_resolved}
use Rattle.shore_model.specs.declared.log_records.LogRecord.{LogRecord}

-- ---- how many transactions there are

pub no_longer_without : (t : ℕ) (xs : List SessionTxn) → length (without_txn t xs) ≤ length xs
no_longer_without t xs = length-filter_most (λ (a : SessionTxn). not (a.txn == t)) xs

pub shorter_without : (a : SessionTxn) (xs : List SessionTxn) → IsAmong a xs → length (without_txn a.txn xs) + 1 ≤ length xs
shorter_without a [] there = absurd there
shorter_without a (x ∷ xs) there = by (x.txn == a.txn) refl there (λ later. shorter_without a xs later)
  where
    by : (b : Bool) → (x.txn == a.txn) ≡ b → IsAmong a (x ∷ xs) → (IsAmong a xs → length (without_txn a.txn xs) + 1 ≤ length xs)
        → length (cond (not b) (x ∷ without_txn a.txn xs) (without_txn a.txn xs)) + 1 ≤ length (x ∷ xs)
    by true e there rest = let less = no_longer_without a.txn xs in omega (arith, less)
    by false e (inl same) rest = absurd (eqb-false x.txn a.txn e (ap (λ (y : SessionTxn). y.txn) same))
    by false e (inr later) rest = let less = rest later in omega (arith, less)

-- one that is under way no more is not counted again, if no resolve has decided it
pub ended_without : (t : ℕ) (active : List SessionTxn) (rs : List ResolvedTxn) → (IsAmong t (map (λ r. r.txn) rs) → ⊥) → ended_among (without_txn t active) rs ≡ ended_among active rs
ended_without t active [] none = refl
ended_without t active (r ∷ rs) none =
    ap (λ b. cond (not b) (r ∷ ended_among (without_txn t active) rs) (ended_among (without_txn t active) rs)) (still_there active)
    ∙ ap (λ xs. cond (not (list_any (λ (a : SessionTxn). a.txn == r.txn) active)) (r ∷ xs) xs) (ended_without t active rs (λ later. none (inr later)))
  where
    other : (x : SessionTxn) → (x.txn == t) ≡ true → (x.txn == r.txn) ≡ false
    other x e = ne_eqb x.txn r.txn (λ same. none (inl (sym same ∙ eqb-true x.txn t e)))

    still_there : (xs : List SessionTxn) → list_any (λ (a : SessionTxn). a.txn == r.txn) (without_txn t xs) ≡ list_any (λ (a : SessionTxn). a.txn == r.txn) xs
    still_there [] = refl
    still_there (x ∷ xs) =
        elim (x.txn == t) as (λ b. (x.txn == t) ≡ b → list_any (λ (a : SessionTxn). a.txn == r.txn) (cond (not b) (x ∷ without_txn t xs) (without_txn t xs)) ≡ ((x.txn == r.txn) || list_any (λ (a : SessionTxn). a.txn == r.txn) xs)) [
          | true ↦ λ e. still_there xs ∙ ap (λ c. c || list_any (λ (a : SessionTxn). a.txn == r.txn) xs) (sym (other x e))
          | false ↦ λ e. ap (λ c. (x.txn == r.txn) || c) (still_there xs)
        ] refl

-- with another undo list it is still there
pub ended_with : (t : ℕ) (undo : UndoList) (active : List SessionTxn) (rs : List ResolvedTxn) → ended_among (with_undo t undo active) rs ≡ ended_among active rs
ended_with t undo active [] = refl
ended_with t undo active (r ∷ rs) =
    ap (λ b. cond (not b) (r ∷ ended_among (with_undo t undo active) rs) (ended_among (with_undo t undo active) rs)) (still_there active)
    ∙ ap (λ xs. cond (not (list_any (λ (a : SessionTxn). a.txn == r.txn) active)) (r ∷ xs) xs) (ended_with t undo active rs)
  where
    still_there : (xs : List SessionTxn) → list_any (λ (a : SessionTxn). a.txn == r.txn) (with_undo t undo xs) ≡ list_any (λ (a : SessionTxn). a.txn == r.txn) xs
    still_there [] = refl
    still_there (x ∷ xs) =
        elim (x.txn == t) as (λ b. list_any (λ (a : SessionTxn). a.txn == r.txn) (cond b (record { session = x.session; txn = x.txn; undo = undo }) x ∷ with_undo t undo xs) ≡ ((x.txn == r.txn) || list_any (λ (a : SessionTxn). a.txn == r.txn) xs)) [
          | true ↦ ap (λ c. (x.txn == r.txn) || c) (still_there xs)
          | false ↦ ap (λ c. (x.txn == r.txn) || c) (still_there xs)
        ]

-- beside one more there are no more of them
ended_beside : (x : SessionTxn) (active : List SessionTxn) (rs : List ResolvedTxn) → length (ended_among (x ∷ active) rs) ≤ length (ended_among active rs)
ended_beside x active [] = omega arith
ended_beside x active (r ∷ rs) =
    let rest = ended_beside x active rs in
    elim (x.txn == r.txn) as (λ b. length (cond (not (b || list_any (λ (a : SessionTxn). a.txn == r.txn) active)) (r ∷ ended_among (x ∷ active) rs) (ended_among (x ∷ active) rs))
    ≤ length (cond (not (list_any (λ (a : SessionTxn). a.txn == r.txn) active)) (r ∷ ended_among active rs) (ended_among active rs))) [
      | true ↦
          elim (list_any (λ (a : SessionTxn). a.txn == r.txn) active) as (λ c. length (ended_among (x ∷ active) rs) ≤ length (cond (not c) (r ∷ ended_among active rs) (ended_among active rs))) [
            | true ↦ rest
            | false ↦ omega (arith, rest)
          ]
      | false ↦
          elim (list_any (λ (a : SessionTxn). a.txn == r.txn) active) as (λ c. length (cond (not c) (r ∷ ended_among (x ∷ active) rs) (ended_among (x ∷ active) rs)) ≤ length (cond (not c) (r ∷ ended_among active rs) (ended_among active rs))) [
            | true ↦ rest
            | false ↦ omega (arith, rest)
          ]
    ]

-- ---- one event

-- the log goes on by a Commit
pub record Commits (s new : State) : Type 0 where
  pub txn : ℕ
  pub log : new.log ≡ and_record txn s.log payload.Commit
  pub counts : new.counts ≡ s.counts

-- .. or by the change of a record that is there, or on a page of the volume, where the image fits
pub record Changes (g : Geometry) (s new : State) : Type 0 where
  pub txn : ℕ
  pub id : Rid
  pub image : Image
  pub log : new.log ≡ and_record txn s.log (payload.Change id (get s.sessions.records id) image)
  pub inside : HasPage g id.page ⊎ IsSome (get s.sessions.records id)
  pub fits : FitsAt g.version s id image
  pub grows : Grows s.counts new.counts id

-- .. or by an End
pub record Ends (s new : State) : Type 0 where
  pub txn : ℕ
  pub log : new.log ≡ and_record txn s.log payload.End
  pub counts : new.counts ≡ s.counts

-- .. or by a Compensation at an id for which its transaction has logged an image
pub record Compensates (s new : State) : Type 0 where
  pub txn : ℕ
  pub id : Rid
  pub image : Image
  pub next : ℕ
  pub log : new.log ≡ and_record txn s.log (payload.Compensation id image next)
  pub logged : IsSome (get (logged_writes s.log txn) id)
  pub counts : new.counts ≡ s.counts

-- .. or by a Prepare, whose granules rise, or a Rollback decided
pub record Decides (s new : State) : Type 0 where
  pub txn : ℕ
  pub says : Payload
  pub decides : ((global : List ℕ) × (granules : List Granule) × (says ≡ payload.Prepare global granules) × IsStrictlySortedBy granule_cmp granules)
      ⊎ (says ≡ payload.RollbackDecided)
  pub log : new.log ≡ and_record txn s.log says
  pub counts : new.counts ≡ s.counts

-- one record at most, or log and slots stay
abbrev pub Writes : Geometry → State → State → Type 0
Writes g s new = ((new.log ≡ s.log) × (new.counts ≡ s.counts)) ⊎ (Commits s new ⊎ (Changes g s new ⊎ (Ends s new ⊎ (Compensates s new ⊎ Decides s new))))

-- the room of the log behind the event is this one
pub record HasRoomAfter (s : State) (e : SessionEvent) (new : State) : Type 0 where
  pub room : LogRoom
  pub after : RoomAfter s.sessions e (log_room s) room
  pub kept : room.kept ≡ cost_of_log new.log
  pub stream : room.stream_bytes ≡ new.stream_bytes
  pub last : room.last_lsn ≡ length new.log

-- the state goes on by an event of its sessions; the same calls wait
pub record Goes (g : Geometry) (s : State) (e : SessionEvent) (new : State) : Type 0 where
  pub moves : StepsTo s.sessions e new.sessions
  pub log : new.log ≡ log_after s.log s.sessions e
  pub durable : new.durable ≡ s.durable
  pub stream : new.stream_bytes ≡ s.stream_bytes
  pub waiting : new.waiting ≡ s.waiting
  pub failed : new.failed ≡ s.failed
  pub fits : EventFits g.version s.sessions s.counts e new.counts
  pub admits : EventAdmits s.sessions e (log_room s)
  pub room : HasRoomAfter s e new
  pub writes : Writes g s new
  pub few : txn_count s ≤ MAX_TRANSACTIONS → txn_count new ≤ MAX_TRANSACTIONS
  pub numbers : s.sessions.next_txn ≤ LAST_TXN → new.sessions.next_txn ≤ LAST_TXN

pub same_room : (s new : State) (e : SessionEvent) → new.log ≡ s.log → new.stream_bytes ≡ s.stream_bytes → RoomAfter s.sessions e (log_room s) (log_room s) → HasRoomAfter s e new
same_room s new e log stream after = record {
  room = log_room s;
  after = after;
  kept = ap cost_of_log (sym log);
  stream = sym stream;
  last = ap length (sym log);
}

module _ (g : Geometry) (s : State) where
  pub locks_go : (rs : List Request) → StepsTo s.sessions (MoveLocks (held_by_all rs)) (with_requests s rs).sessions → Goes g s (MoveLocks (held_by_all rs)) (with_requests s rs)
  locks_go rs moves = record {
    moves = moves;
    log = refl;
    durable = refl;
    stream = refl;
    waiting = refl;
    failed = refl;
    fits = refl;
    admits = tt;
    room = same_room s (with_requests s rs) (MoveLocks (held_by_all rs)) refl refl refl;
    writes = inl (refl, refl);
    few = λ few. few;
    numbers = λ most. most;
  }

  pub begin_goes : (session : ℕ) → HasNoTxn s session → txn_count s < MAX_TRANSACTIONS → MayBegin s → Goes g s (BeginTxn session) (begun s session)
  begin_goes session idle less may = record {
    moves = (idle, refl);
    log = refl;
    durable = refl;
    stream = refl;
    waiting = refl;
    failed = refl;
    fits = refl;
    admits = may.0;
    room = record { room = begun_room (log_room s); after = refl; kept = refl; stream = refl; last = refl };
    writes = inl (refl, refl);
    few = λ few. let fewer = ended_beside (record { session = session; txn = s.sessions.next_txn; undo = nothing_to_undo }) s.sessions.active s.sessions.resolving in omega (arith, less, fewer);
    numbers = λ most. let room = may.1 in omega (arith, room);
  }

  -- a refusal that is no word on records
  pub refusal_goes : (session t : ℕ) (c : Call) (f : Fault) → StepsTo s.sessions (RefuseCall session t c f) s.sessions → Goes g s (RefuseCall session t c f) s
  refusal_goes session t c f moves = record {
    moves = moves;
    log = refl;
    durable = refl;
    stream = refl;
    waiting = refl;
    failed = refl;
    fits = refl;
    admits = tt;
    room = same_room s s (RefuseCall session t c f) refl refl refl;
    writes = inl (refl, refl);
    few = λ few. few;
    numbers = λ most. most;
  }

  -- who is in doubt is told
  pub listing_goes : (session t : ℕ) (pairs : List (List ℕ × ℕ)) → StepsTo s.sessions (AnswerInDoubt session t pairs) s.sessions → Goes g s (AnswerInDoubt session t pairs) s
  listing_goes session t pairs moves = record {
    moves = moves;
    log = refl;
    durable = refl;
    stream = refl;
    waiting = refl;
    failed = refl;
    fits = refl;
    admits = tt;
    room = same_room s s (AnswerInDoubt session t pairs) refl refl refl;
    writes = inl (refl, refl);
    few = λ few. few;
    numbers = λ most. most;
  }

  -- a record is not there
  pub absence_goes : (a : SessionTxn) (c : Call) → StepsTo s.sessions (GiveReply a c (Err fault.NoRecord)) s.sessions → Goes g s (GiveReply a c (Err fault.NoRecord)) s
  absence_goes a c moves = record {
    moves = moves;
    log = refl;
    durable = refl;
    stream = refl;
    waiting = refl;
    failed = refl;
    fits = refl;
    admits = tt;
    room = same_room s s (GiveReply a c (Err fault.NoRecord)) refl refl refl;
    writes = inl (refl, refl);
    few = λ few. few;
    numbers = λ most. most;
  }

  module _ (a : SessionTxn) where
    -- a commit with its answer, before its locks go from the table
    abbrev pub with_commit : State
    with_commit = record s {
      sessions = seated s.sessions (Exchanged a.session a.txn (exchange call.Commit (Ok (Committed (next_number s)))) ∷ []) (commit_appended s.sessions a);
      log = and_record a.txn s.log payload.Commit;
    }

    pub commit_goes : IsOwn s.sessions a → a.undo.rolling ≡ None → with_commit.sessions ≡ seated s.sessions (entries_by s.sessions (AppendCommit a (next_number s))) (commit_appended s.sessions a)
        → Goes g s (AppendCommit a (next_number s)) with_commit
    commit_goes own whole seats = record {
      moves = (own, whole, seats);
      log = refl;
      durable = refl;
      stream = refl;
      waiting = refl;
      failed = refl;
      fits = refl;
      admits = tt;
      room = record {
        room = ended_room (owed a) (log_room s);
        after = refl;
        kept = let cost = cost_pushed s.log _ in sym cost;
        stream = refl;
        last = sym (length-push s.log _);
      };
      writes = inr (inl (record { txn = a.txn; log = refl; counts = refl }));
      few = λ few.
          let shorter = shorter_without a s.sessions.active own.0 in
          let same = ap length (ended_without a.txn s.sessions.active s.sessions.resolving own.2.1) in
          omega (arith, few, shorter, same);
      numbers = λ most. most;
    }

-- a ticket is asked for
pub ask_goes : (g : Geometry) (s : State) (ticket : ℕ) (answer : Bool) → Goes g s (Ask ticket answer) s
ask_goes g s ticket answer = record {
  moves = refl;
  log = refl;
  durable = refl;
  stream = refl;
  waiting = refl;
  failed = refl;
  fits = refl;
  admits = tt;
  room = same_room s s (Ask ticket answer) refl refl refl;
  writes = inl (refl, refl);
  few = λ few. few;
  numbers = λ most. most;
}

-- a prepare is answered
abbrev pub with_prepare_told : State → ℕ → ℕ → List ℕ → State
with_prepare_told s session t global = record s { sessions = seated s.sessions (entries_by s.sessions (AnswerPrepare session t global)) (prepare_answered s.sessions t) }

pub prepare_told_goes : (g : Geometry) (s : State) (session t : ℕ) (global : List ℕ) → IsPreparing s.sessions session t global
    → Goes g s (AnswerPrepare session t global) (with_prepare_told s session t global)
prepare_told_goes g s session t global mine = record {
  moves = (mine.0, mine.1, refl);
  log = refl;
  durable = refl;
  stream = refl;
  waiting = refl;
  failed = refl;
  fits = refl;
  admits = tt;
  room = same_room s (with_prepare_told s session t global) (AnswerPrepare session t global) refl refl refl;
  writes = inl (refl, refl);
  few = λ few. few;
  numbers = λ most. most;
}

-- ---- events one after another

-- they make these entries
abbrev pub GoesBy : Geometry → State → List SessionEvent → State → List Entry → Type 0
GoesBy g s [] new made = (new ≡ s) × (made ≡ [])
GoesBy g s (e ∷ events) new made = (mid : State) × (later : List Entry) × Goes g s e mid × GoesBy g mid events new later × (made ≡ entries_by s.sessions e ++ later)

-- a state with the same sessions, log, slots and numbers; others may wait in it, and it may have failed
pub record IsLike (s t : State) : Type 0 where
  pub sessions : t.sessions ≡ s.sessions
  pub log : t.log ≡ s.log
  pub counts : t.counts ≡ s.counts
  pub stream : t.stream_bytes ≡ s.stream_bytes

-- what is answered of a decision has its record among the durable ones
abbrev pub IsDurable : State → SessionEvent → Type 0
IsDurable s (Ask ticket answer) = Unit {0}
IsDurable s (MoveLocks held) = Unit {0}
IsDurable s (BeginTxn session) = Unit {0}
IsDurable s (GiveReply a c reply) = Unit {0}
IsDurable s (AppendCommit a ticket) = Unit {0}
IsDurable s (PutBack a kept e r) = Unit {0}
IsDurable s (Doom a) = Unit {0}
IsDurable s (AnswerAbort a) = Unit {0}
IsDurable s (RefuseCall session t c f) = Unit {0}
IsDurable s (AppendPrepare a global granules) = Unit {0}
IsDurable s (AnswerPrepare session t global) = IsDecidedIn (take s.durable s.log) (decision.Prepare t global)
IsDurable s (AppendResolve a global) = Unit {0}
IsDurable s (AppendRollback a global) = Unit {0}
IsDurable s (EndRollback a) = Unit {0}
IsDurable s (AnswerResolve session r) = IsDecidedIn (take s.durable s.log) (decision_resolved r)
IsDurable s (AnswerInDoubt session t pairs) = Unit {0}

-- the event tells of no ticket
abbrev pub TellsNoTicket : SessionEvent → Type 0
TellsNoTicket (AppendCommit a ticket) = ⊥
TellsNoTicket (Ask ticket answer) = ⊥
TellsNoTicket _ = Unit {0}

-- what tells of tickets is the first of the events, and true where so many records of this log are durable
abbrev pub TellTickets : ℕ → List LogRecord → List SessionEvent → Type 0
TellTickets durable log [] = Unit {0}
TellTickets durable log (e ∷ events) = TellsTicket durable log e × AllByRecursion TellsNoTicket events

-- a step, but for the calls that wait: events of the sessions lead from one state to the other
pub record ComesBy (g : Geometry) (s new : State) (made : List Entry) : Type 0 where
  pub start : State
  pub before : IsLike s start
  pub events : List SessionEvent
  pub durable : AllByRecursion (IsDurable s) events
  pub tickets : TellTickets s.durable s.log events
  pub mid : State
  pub goes : GoesBy g start events mid made
  pub after : IsLike mid new

-- ---- events behind which each call that waited waits on

-- no transaction is decided, ended or doomed, and no image of one is put back of whose session a call waits
abbrev pub IsQuiet : State → SessionEvent → Type 0
IsQuiet s (MoveLocks held) = Unit {0}
IsQuiet s (BeginTxn session) = DoesNotWait s session
IsQuiet s (GiveReply a c reply) = Unit {0}
IsQuiet s (RefuseCall session t c f) = Unit {0}
IsQuiet s (PutBack a kept e r) = (b : SessionTxn) (w : Waiting) → HasSeat s.sessions b → IsAmong w s.waiting → b.session ≡ w.session → b.txn ≢ a.txn
IsQuiet s (Doom a) = ⊥
IsQuiet s (AppendCommit a ticket) = ⊥
IsQuiet s (AnswerAbort a) = ⊥
IsQuiet s (Ask ticket answer) = ⊥
IsQuiet s (AppendPrepare a global granules) = ⊥
IsQuiet s (AnswerPrepare session t global) = ⊥
IsQuiet s (AppendResolve a global) = ⊥
IsQuiet s (AppendRollback a global) = ⊥
IsQuiet s (EndRollback a) = ⊥
IsQuiet s (AnswerResolve session r) = ⊥
IsQuiet s (AnswerInDoubt session t pairs) = Unit {0}

-- the call of a session begins to wait for a lock
pub record BeginsToWait (session : ℕ) (mid new : State) : Type 0 where
  pub txn : SessionTxn
  pub active : HasSeat mid.sessions txn
  pub of : txn.session ≡ session
  pub whole : txn.undo.rolling ≡ None
  pub idle : DoesNotWait mid session
  pub call : Call
  pub lock : Asked
  pub asked : lock_asked_by call ≡ Some lock
  pub at : Granule
  pub is : new ≡ record mid { waiting = lock_waiting txn call at ∷ mid.waiting }

-- what is left: that state, the failed one, or one in which the call waits
abbrev pub IsLeft : ℕ → State → State → Type 0
IsLeft session mid new = (new ≡ mid) ⊎ ((new ≡ with_failure mid) ⊎ BeginsToWait session mid new)

pub record GoesQuietly (g : Geometry) (session : ℕ) (s new : State) (made : List Entry) : Type 0 where
  pub events : List SessionEvent
  pub quiet : AllByRecursion (IsQuiet s) events
  pub mid : State
  pub goes : GoesBy g s events mid made
  pub left : IsLeft session mid new

module _ (g : Geometry) (session : ℕ) where
  -- one event
  pub quietly_one : (s : State) (e : SessionEvent) (mid new : State) → IsQuiet s e → Goes g s e mid → IsLeft session mid new → GoesQuietly g session s new (entries_by s.sessions e)
  quietly_one s e mid new quiet goes left = record { events = e ∷ []; quiet = (quiet, tt); mid = mid; goes = (mid, [], goes, (refl, refl), sym (append-nil (entries_by s.sessions e))); left = left }

  -- .. and before it locks move
  pub quietly_behind : (s : State) (rs : List Request) (new : State) (made : List Entry) → Goes g s (MoveLocks (held_by_all rs)) (with_requests s rs)
      → GoesQuietly g session (with_requests s rs) new made → GoesQuietly g session s new made
  quietly_behind s rs new made goes rest =
      record { events = MoveLocks (held_by_all rs) ∷ rest.events; quiet = (tt, rest.quiet); mid = rest.mid; goes = (with_requests s rs, made, goes, rest.goes, refl); left = rest.left }

  -- none
  pub quietly_none : (s new : State) → IsLeft session s new → GoesQuietly g session s new []
  quietly_none s new left = record { events = []; quiet = tt; mid = s; goes = (refl, refl); left = left }

-- what is left is like the state before
pub left_like : (session : ℕ) (mid new : State) → IsLeft session mid new → IsLike mid new
left_like session mid new (inl same) = subst (IsLike mid) (sym same) (record { sessions = refl; log = refl; counts = refl; stream = refl })
left_like session mid new (inr (inl failed)) = subst (IsLike mid) (sym failed) (record { sessions = refl; log = refl; counts = refl; stream = refl })
left_like session mid new (inr (inr waits)) = subst (IsLike mid) (sym waits.is) (record { sessions = refl; log = refl; counts = refl; stream = refl })

-- no decision is answered
pub none_to_answer : (s start : State) (events : List SessionEvent) → AllByRecursion (IsQuiet start) events → AllByRecursion (IsDurable s) events
none_to_answer s start [] quiet = tt
none_to_answer s start (e ∷ events) quiet = (none e quiet.0, none_to_answer s start events quiet.1)
  where
    none : (e : SessionEvent) → IsQuiet start e → IsDurable s e
    none (Ask ticket answer) quiet = tt
    none (MoveLocks held) quiet = tt
    none (BeginTxn session) quiet = tt
    none (GiveReply a c reply) quiet = tt
    none (AppendCommit a ticket) quiet = tt
    none (PutBack a kept e r) quiet = tt
    none (Doom a) quiet = tt
    none (AnswerAbort a) quiet = tt
    none (RefuseCall session t c f) quiet = tt
    none (AppendPrepare a global granules) quiet = tt
    none (AnswerPrepare session t global) quiet = absurd quiet
    none (AppendResolve a global) quiet = tt
    none (AppendRollback a global) quiet = tt
    none (EndRollback a) quiet = tt
    none (AnswerResolve session r) quiet = absurd quiet
    none (AnswerInDoubt session t pairs) quiet = tt

-- events that tell of none
pub no_tickets : (durable : ℕ) (log : List LogRecord) (events : List SessionEvent) → AllByRecursion TellsNoTicket events → TellTickets durable log events
no_tickets durable log [] none = tt
no_tickets durable log (e ∷ events) none = (tells_none e none.0, none.1)
  where
    tells_none : (e : SessionEvent) → TellsNoTicket e → TellsTicket durable log e
    tells_none (AppendCommit a ticket) none = absurd none
    tells_none (Ask ticket answer) none = absurd none
    tells_none _ none = tt

pub quiet_tickets : (start : State) (events : List SessionEvent) → AllByRecursion (IsQuiet start) events → AllByRecursion TellsNoTicket events
quiet_tickets start [] quiet = tt
quiet_tickets start (e ∷ events) quiet = (none e quiet.0, quiet_tickets start events quiet.1)
  where
    none : (e : SessionEvent) → IsQuiet start e → TellsNoTicket e
    none (AppendCommit a ticket) quiet = absurd quiet
    none (Ask ticket answer) quiet = absurd quiet
    none _ quiet = tt

pub quietly_comes : (g : Geometry) (session : ℕ) (s start new : State) (made : List Entry) → IsLike s start → GoesQuietly g session start new made → ComesBy g s new made
quietly_comes g session s start new made before h = record {
  start = start;
  before = before;
  events = h.events;
  durable = none_to_answer s start h.events h.quiet;
  mid = h.mid;
  goes = h.goes;
  after = left_like session h.mid new h.left;
  tickets = no_tickets s.durable s.log h.events (quiet_tickets start h.events h.quiet);
}
