-- The row of steps that a rollback makes: what holds before each of them, and what it comes to.
use Rattle.std.proofs.Common.{◌≡◌, ◌++◌, ◌∷◌, ◌+◌, ◌-◌, ◌<◌, ◌≤◌, inl, ℕ, List, [], append-nil, Result, Ok, Err, IsErrAnd, length, false, refl, sym, ap, subst, ◌∙◌, arith}
use Rattle.std.proofs.lemmas.List.{length-map}
use Rattle.shore_disk.specs.declared.device.Disk as disk
use Rattle.shore_log.specs.declared.tail.Tail as tail
use Rattle.shore_types.specs.Images.{Image}
use Rattle.shore_types.specs.declared.faults.Fault.{Fault}
use Rattle.shore_types.specs.declared.ids.Rid.{Rid}
use Rattle.shore_types.specs.declared.layout.Geometry.{Geometry}
use Rattle.laws_lives.specs.Sessions.{SessionTxn}
use Rattle.laws_lives.specs.UndoLists.{MayRoll, least_kept}
use Rattle.laws_lives.specs.Views.{IsAmong}
use Rattle.shore_model.specs.declared.rollbacks.Rollback.{Rollback}
use Rattle.laws_calls.specs.Rollbacks.{put_back}
use Rattle.laws_calls.specs.States.{DoesNotWait, State}
use Rattle.shore_sessions.specs.Controls.{HasWaitRoom}
use Rattle.shore_sessions.specs.Standing.{HasControl, IsAt}
use Rattle.shore_sessions.proofs.Seats.{active_above}
use Rattle.shore_txn.specs.Transactions.{IsSeatIn, room_in, undos_in}
use Rattle.shore_txn.specs.Txns.{as_session_txn, entries_of, number_of}
use Rattle.shore_txn.specs.UndoEntries.{image_of}
use Rattle.shore_txn.specs.declared.seat.Seat.{Seat}
use Rattle.shore_txn.specs.declared.transactions.Transactions.{Transactions}
use Rattle.shore_txn.specs.declared.txn.Txn.{Txn}
use Rattle.shore_core.specs.declared.core_calls.Core.{Core}
use Rattle.shore_core.specs.Callers.{IsNotInDoubt, MayPutBack}
use Rattle.shore_core.specs.Cores.{CoreComesTo, IsSafe, control_of, durable_of, faults_of, geometry_of, has_failed, last_of, txns_of, waits_of}
use Rattle.shore_core.specs.Replies.{InEach, Keeps, MayLeave, Serves}
use Rattle.shore_core.specs.Undoing.{IsDownTo, PutsBack, Rewinds, Unwinds}
use Rattle.shore_core.proofs.Coming.{comes_same, comes_then, stays_behind}
use Rattle.shore_core.proofs.Keeping.{keeps_then, nothing_leaves}
use Rattle.shore_core.proofs.Rewinding.{earned_rewound, forced_rewound, leaves_rewound, rewinds_none, rewinds_then}
use Rattle.shore_core.proofs.Rolling.{goes_on_from, split_last}
use Rattle.shore_core.proofs.Serving.{cause_aside, cause_then}
use Rattle.shore_core.proofs.Undoing.{own_is}

-- the entries of a transaction in the table are as many as its images
pub count_own : (table : Transactions) (own : Txn) → IsAmong (as_session_txn own) (undos_in table) → (a : SessionTxn) → IsAmong a (undos_in table) → a.txn ≡ number_of own → length a.undo.images ≡ length (entries_of own)
count_own table own there a among is = ap (λ (b : SessionTxn). length b.undo.images) (own_is table own there a among is) ∙ length-map (entries_of own) image_of

-- what is said of a transaction that may be rolled back so far
abbrev pub ForRollback : Seat → Rollback → ℕ → State → (SessionTxn → Type 0) → Type 0
ForRollback seat rollback least s P = (a : SessionTxn) → DoesNotWait s seat.session → IsAt seat s a → MayPutBack s seat.session a rollback → MayRoll a.undo rollback → least ≡ least_kept a.undo rollback
    → least ≤ length a.undo.images → P a

module _ {T V : Type 0} {G : tail.Ghosts T} {H : disk.Ghosts V} where
  -- the transaction at the seat has so many images
  abbrev pub HasCount : Core T V G H → Seat → ℕ → Type 0
  HasCount core seat count = (s : State) → HasControl (control_of core) s → (a : SessionTxn) → IsAt seat s a → length a.undo.images ≡ count

  -- the steps so far: each transaction of a safe state has come down by one image a step, and what else they keep
  pub record IsRolling (old now : Core T V G H) (seat : Seat) (rollback : Rollback) (least counter : ℕ) : Type 0 where
    pub come : has_failed old ≡ false → InEach (λ front disk before s store. ForRollback seat rollback least s (λ a.
        (mid : State) × IsDownTo s a rollback (length a.undo.images + least - counter) mid × CoreComesTo now front before store mid)) old
    pub from : least ≤ counter
    pub rewinds : Rewinds old now
    pub longer : last_of old ≤ last_of now
    pub told : durable_of old ≤ last_of old
    pub seated : IsSeatIn seat (txns_of now)
    pub unprepared : IsNotInDoubt seat (txns_of now)
    pub waits : waits_of now ≡ waits_of old
    pub memory : HasWaitRoom (control_of old) → HasWaitRoom (control_of now)
    pub keeps : Keeps old now
    pub leaves : MayLeave old now
    pub faults : faults_of now ≡ faults_of old
    pub ring : (room_in (txns_of now)).stream_bytes ≡ (room_in (txns_of old)).stream_bytes

  -- nothing is changed by none
  keeps_none : (core : Core T V G H) → Keeps core core
  keeps_none core = record { volume = record { geometry = refl; honest = refl; size = refl }; durable = refl; failed = refl; first = refl }

  pub rolling_first : (core : Core T V G H) (seat : Seat) (rollback : Rollback) (least : ℕ) → IsSeatIn seat (txns_of core) → IsNotInDoubt seat (txns_of core) → durable_of core ≤ last_of core → IsRolling core core seat rollback least least
  rolling_first core seat rollback least seated unprepared told = record {
    come = λ running front disk before s store is safe over a idle of puts_back may at within. (
      s,
      record { kept = a.undo.images; undone = []; images = sym (append-nil a.undo.images); left = omega arith; state = inl (refl, refl) },
      comes_same core front disk before s store is over,
    );
    from = omega arith;
    rewinds = rewinds_none core;
    longer = omega arith;
    told = told;
    seated = seated;
    unprepared = unprepared;
    waits = refl;
    memory = λ room. room;
    keeps = keeps_none core;
    leaves = nothing_leaves core;
    faults = refl;
    ring = refl;
  }

  -- one image that is put back
  abbrev pub StepPuts : Core T V G H → Core T V G H → Seat → Rollback → Result (Unit {0}) Fault → Type 0
  StepPuts now new seat rollback r = has_failed now ≡ false → InEach (λ front disk before s store. (a : SessionTxn) (kept : List (Rid × Image)) (e : Rid × Image) → IsAt seat s a
      → a.undo.images ≡ kept ++ e ∷ [] → PutsBack new a kept e rollback r front before s store) now

  module _ (old now new : Core T V G H) (seat : Seat) (rollback : Rollback) (least counter count : ℕ) (rolls : IsRolling old now seat rollback least counter) (counts : HasCount old seat count) (less : counter < count) where
    on_come : StepPuts now new seat rollback (Ok tt) → has_failed old ≡ false → InEach (λ front disk before s store. ForRollback seat rollback least s (λ a.
        (mid : State) × IsDownTo s a rollback (length a.undo.images + least - (counter + 1)) mid × CoreComesTo new front before store mid)) old
    on_come puts running front disk before s store is safe over a idle of puts_back may at within =
        let many : length a.undo.images ≡ count = counts s is.beside.parts.stands a of in
        let from = rolls.from in
        let n = length a.undo.images + least - counter in
        let m = length a.undo.images + least - (counter + 1) in
        let down = rolls.come running front disk before s store is safe over a idle of puts_back may at within in
        let comes = down.2 in
        let here = goes_on_from (geometry_of old) s safe seat.session a (is.beside.parts.failed_is ∙ running) idle rollback may puts_back of.0 (active_above (txns_of old) s is.beside.parts.stands.txns a of.0) n down.0 (omega (arith, at, many, less, from)) down.1 in
        let split = split_last here.its.undo.images m (here.left ∙ omega (arith, many, less, from)) in
        let h = puts (rolls.keeps.failed ∙ running) front comes.left before down.0 comes.after comes.is_in (subst (λ (it : Geometry). IsSafe it down.0) (sym rolls.keeps.volume.geometry) here.stays_safe) comes.over
        here.its split.0 split.1 (here.there, here.number ∙ of.1) split.2 in
        let later = put_back down.0 here.its split.0 (split.1 ∷ []) rollback in (
          later,
          subst (λ k. IsDownTo s a rollback k later) split.3 (here.next split.0 split.1 split.2),
          comes_then now new front before down.0 later store comes h.1,
        )

    pub rolls_on : StepPuts now new seat rollback (Ok tt) → Rewinds now new → last_of now ≤ last_of new → IsSeatIn seat (txns_of new) → IsNotInDoubt seat (txns_of new) → waits_of new ≡ waits_of now → (HasWaitRoom (control_of now) → HasWaitRoom (control_of new)) → Keeps now new → MayLeave now new → faults_of new ≡ faults_of now
        → (room_in (txns_of new)).stream_bytes ≡ (room_in (txns_of now)).stream_bytes
        → IsRolling old new seat rollback least (counter + 1)
    rolls_on puts rewinds longer seated unprepared waits memory keeps leaves faults ring =
        let from = rolls.from in
        let so_far = rolls.longer in
        record {
          come = on_come puts;
          from = omega arith;
          rewinds = rewinds_then old now rolls.keeps.volume.geometry rolls.keeps.durable new rolls.rewinds rewinds;
          longer = omega arith;
          told = rolls.told;
          seated = seated;
          unprepared = unprepared;
          waits = waits ∙ rolls.waits;
          memory = λ room. memory (rolls.memory room);
          keeps = keeps_then old now new rolls.keeps keeps;
          leaves = leaves_rewound old now rolls.keeps.volume.geometry rolls.keeps.durable new rolls.leaves rolls.rewinds leaves;
          faults = faults ∙ rolls.faults;
          ring = ring ∙ rolls.ring;
        }

    -- it was refused
    pub rolls_refused : (f : Fault) (r : Result (Unit {0}) Fault) → IsErrAnd r (λ e. e ≡ f) → StepPuts now new seat rollback (Err f) → has_failed old ≡ false
        → InEach (λ front disk before s store. ForRollback seat rollback least s (λ a. Unwinds new a rollback least r front before s store)) old
    rolls_refused f (Ok done) same puts running front disk before s store is safe over a idle of puts_back may at within = absurd same
    rolls_refused f (Err e) same puts running front disk before s store is safe over a idle of puts_back may at within =
        let many : length a.undo.images ≡ count = counts s is.beside.parts.stands a of in
        let from = rolls.from in
        let n = length a.undo.images + least - counter in
        let m = length a.undo.images + least - (counter + 1) in
        let down = rolls.come running front disk before s store is safe over a idle of puts_back may at within in
        let comes = down.2 in
        let here = goes_on_from (geometry_of old) s safe seat.session a (is.beside.parts.failed_is ∙ running) idle rollback may puts_back of.0 (active_above (txns_of old) s is.beside.parts.stands.txns a of.0) n down.0 (omega (arith, at, many, less, from)) down.1 in
        let split = split_last here.its.undo.images m (here.left ∙ omega (arith, many, less, from)) in
        let h = puts (rolls.keeps.failed ∙ running) front comes.left before down.0 comes.after comes.is_in (subst (λ (it : Geometry). IsSafe it down.0) (sym rolls.keeps.volume.geometry) here.stays_safe) comes.over
        here.its split.0 split.1 (here.there, here.number ∙ of.1) split.2 in
        subst (λ (x : Fault). Unwinds new a rollback least (Err x) front before s store) (sym same)
        (down.0, n, down.1, omega (arith, many, less, from), h.0, stays_behind now new front before down.0 down.0 store f comes h.1)

  -- what stands beside the steps so far, and one that was refused
  pub rolls_serves : (old now new : Core T V G H) (seat : Seat) (rollback : Rollback) (least counter : ℕ) → IsRolling old now seat rollback least counter → (r : Result (Unit {0}) Fault)
      → Serves (λ page. Unit {0}) new r now new → Serves (λ page. Unit {0}) new r old new
  rolls_serves old now new seat rollback least counter rolls r serves =
      let longer = rolls.longer in
      let told = rolls.told in
      record {
        volume = record {
          geometry = serves.volume.geometry ∙ rolls.keeps.volume.geometry;
          honest = serves.volume.honest ∙ rolls.keeps.volume.honest;
          size = serves.volume.size ∙ rolls.keeps.volume.size;
        };
        durable = serves.durable ∙ rolls.keeps.durable;
        first = serves.first ∙ rolls.keeps.first;
        any_moment = leaves_rewound old now rolls.keeps.volume.geometry rolls.keeps.durable new rolls.leaves rolls.rewinds serves.any_moment;
        damaged = earned_rewound old now rolls.keeps.volume.geometry rolls.keeps.durable longer (omega arith) (λ page. Unit {0}) r rolls.rewinds serves.damaged;
        forced = forced_rewound old now new r rolls.rewinds serves.forced;
        cause = cause_then r (faults_of old) (faults_of now) (faults_of new) rolls.faults serves.cause;
      }

  -- .. and beside all of them
  pub rolled_serves : (old now : Core T V G H) (seat : Seat) (rollback : Rollback) (least counter : ℕ) → IsRolling old now seat rollback least counter → Serves {A = Unit {0}} (λ page. Unit {0}) now (Ok tt) old now
  rolled_serves old now seat rollback least counter rolls = record {
    volume = rolls.keeps.volume;
    durable = rolls.keeps.durable;
    first = rolls.keeps.first;
    any_moment = rolls.leaves;
    damaged = λ front disk holds. tt;
    forced = λ front disk holds. tt;
    cause = cause_aside (Ok tt) (faults_of old) (faults_of now) rolls.faults tt;
  }

  -- all are put back
  pub rolls_done : (old now : Core T V G H) (seat : Seat) (rollback : Rollback) (least counter count : ℕ) → IsRolling old now seat rollback least counter → HasCount old seat count
      → count ≤ counter → (least ≤ count → counter ≡ count) → has_failed old ≡ false
      → InEach (λ front disk before s store. ForRollback seat rollback least s (λ a. Unwinds now a rollback least (Ok tt) front before s store)) old
  rolls_done old now seat rollback least counter count rolls counts all last running front disk before s store is safe over a idle of puts_back may at within =
      let many : length a.undo.images ≡ count = counts s is.beside.parts.stands a of in
      let down = rolls.come running front disk before s store is safe over a idle of puts_back may at within in
      let here : counter ≡ count = last (omega (arith, within, many)) in
      (down.0, subst (λ k. IsDownTo s a rollback k down.0) (omega (arith, many, here)) down.1, down.2)
