-- What a lock comes to in the table is what it comes to over plain data: round for round, and in a round victim for victim.
use Rattle.std.proofs.Common.{◌≡◌, ◌≢◌, inl, inr, ⊎_elim, ◌++◌, ℕ, List, [], ◌∷◌, Bool, true, false, cond, Option, None, Some, refl, ap, sym, subst, ◌∙◌, append_assoc}
use Rattle.std.specs.Prelude.{◌==◌, Result, Ok, Err, filter, if◌then◌else◌, is_some, not}
use Rattle.std.proofs.lemmas.List.{append-nil}
use Rattle.std.proofs.lemmas.Bool.{cases_Bool, eq-eqb, eqb-false, eqb-true, ne_eqb}
use Rattle.shore_types.specs.declared.faults.Fault.{Fault}
use Rattle.shore_types.specs.declared.faults.Fault.TheVariants as fault
use Rattle.shore_types.specs.declared.locking.Granule.{Granule}
use Rattle.shore_model.specs.declared.calls.Call.{Call}
use Rattle.shore_model.specs.declared.requests.Request.{Request}
use Rattle.shore_locks.specs.Grants.{cancelled}
use Rattle.shore_locks.specs.Orderly.{IsOrderly}
use Rattle.shore_locks.specs.Tables.{Table, is_waiting, waiting_request}
use Rattle.shore_locks.proofs.Fits.{found_any, any_of}
use Rattle.shore_path.specs.Walks.{Outcome, acquired}
use Rattle.shore_path.specs.declared.answers.Acquired.{Acquired}
use Rattle.shore_path.specs.declared.answers.Acquired.TheVariants as acquire
use Rattle.shore_path.specs.declared.answers.OnConflict.TheVariants as conflict
use Rattle.shore_deadlock.specs.declared.locking.Locked.{Locked}
use Rattle.shore_deadlock.specs.declared.locking.Locked.TheVariants as locked
use Rattle.shore_cycles.specs.declared.victims.Victim.{Victim}
use Rattle.shore_cycles.specs.Blockers.{is_victim}
use Rattle.shore_cycles.specs.Cycles.{AreVictims, IsOnNoCycle, after_victims}
use Rattle.shore_deadlock.specs.Locking as locking
use Rattle.shore_deadlock.specs.Locking.{Acquires, AreRounds, Ends, Settles}
use Rattle.shore_cycles.proofs.Steps.{quiet_waits_not}
use Rattle.shore_cycles.proofs.VictimLemmas.{first_In, first_victim, later_spared}
use Rattle.shore_cycles.proofs.Walks.{member_waits}
use Rattle.laws_locks.specs.CallLocks.{Asked}
use Rattle.laws_lives.specs.Sessions.{SessionTxn}
use Rattle.laws_lives.specs.UndoLists.{undo_rolled}
use Rattle.laws_lives.specs.Views.{IsAmong}
use Rattle.shore_model.specs.declared.rollbacks.Rollback.TheVariants.{Whole}
use Rattle.laws_calls.specs.CallSteps.{behind_lock, lock_outcome, lock_waiting, on_conflict_of, with_requests}
use Rattle.laws_calls.specs.LockRounds.{EndsLock, EndsWell, IsBroken, LetThrough, LocksTo, waits_at}
use Rattle.laws_calls.specs.StateChanges.{wait_refused}
use Rattle.laws_calls.specs.States.{DoesNotWait, HasSeat, State, Waiting, without_waiting}
use Rattle.laws_calls.specs.Victims.{TakesVictims}
use Rattle.shore_txn.proofs.OneOfMany.{map_among}
use Rattle.shore_sessions.specs.Calls.{name_of}
use Rattle.shore_sessions.specs.Noting.{AreNoted, IsNotable, answer_of, told_cycle, victim_noted}
use Rattle.shore_sessions.proofs.FairWaits.{IsFair, fair_asked, fair_victim, fair_woken}
use Rattle.shore_sessions.proofs.Sitting.{seat_sits, sits, sitting, sitting_seat}
use Rattle.shore_sessions.proofs.StillWaits.{still_at}
use Rattle.shore_sessions.proofs.WaitSteps.{names-with_undo}

opposite : {b : Bool} → b ≡ true → b ≡ false → ⊥
opposite is is_not = cc

-- ---- the cycle that is told

pub told_more : (t : ℕ) (o : Option (List ℕ)) (vs ws : List Victim) → told_cycle t o (vs ++ ws) ≡ told_cycle t (told_cycle t o vs) ws
told_more t o [] ws = refl
told_more t o (v ∷ vs) ws = told_more t (if v.txn == t then Some v.cycle else o) vs ws

first_spared : (v : Victim) (vs : List Victim) (t : ℕ) → is_victim (v ∷ vs) t ≡ false → (v.txn == t) ≡ false
first_spared v vs t spared = ⊎_elim (λ own. absurd (opposite (first_victim v vs t (eqb-true v.txn t own)) spared)) (λ other. other) (cases_Bool (v.txn == t))

-- none if it is no victim
told_spared : (t : ℕ) (o : Option (List ℕ)) (vs : List Victim) → is_victim vs t ≡ false → told_cycle t o vs ≡ o
told_spared t o [] spared = refl
told_spared t o (v ∷ vs) spared =
    ap (λ b. told_cycle t (if b then Some v.cycle else o) vs) (first_spared v vs t spared) ∙ told_spared t o vs (later_spared v vs t spared)

told_some : (t : ℕ) (cycle : List ℕ) (vs : List Victim) → (last : List ℕ) × (told_cycle t (Some cycle) vs ≡ Some last)
told_some t cycle [] = (cycle, refl)
told_some t cycle (v ∷ vs) = elim (v.txn == t) as (λ b. (last : List ℕ) × (told_cycle t (if b then Some v.cycle else Some cycle) vs ≡ Some last)) [
  | true ↦ told_some t v.cycle vs
  | false ↦ told_some t cycle vs
]

-- one if it is
pub told_victim : (t : ℕ) (o : Option (List ℕ)) (vs : List Victim) → is_victim vs t ≡ true → (last : List ℕ) × (told_cycle t o vs ≡ Some last)
told_victim t o [] is = absurd (opposite is refl)
told_victim t o (v ∷ vs) is = ⊎_elim
    (λ own. subst (λ b. (last : List ℕ) × (told_cycle t (if b then Some v.cycle else o) vs ≡ Some last)) (sym own) (told_some t v.cycle vs))
    (λ other. subst (λ b. (last : List ℕ) × (told_cycle t (if b then Some v.cycle else o) vs ≡ Some last)) (sym other) (told_victim t o vs (later other)))
    (cases_Bool (v.txn == t))
  where
    later : (v.txn == t) ≡ false → is_victim vs t ≡ true
    later other =
        let found = found_any (λ (x : Victim). x.txn == t) (v ∷ vs) is in
        ⊎_elim (λ (same : v ≡ found.0). absurd (opposite (ap (λ (x : Victim). x.txn == t) same ∙ found.2) other)) (λ m. any_of (λ (x : Victim). x.txn == t) vs found.0 m found.2) found.1

-- ---- what is noted does not depend on the locks

notes_unlocked : (session t : ℕ) (vs : List Victim) (s : State) (rs : List Request) (new : State) → AreNoted session t (with_requests s rs) vs new → AreNoted session t s vs new
notes_unlocked session t [] s rs new noted = (noted.0, noted.1)
notes_unlocked session t (v ∷ vs) s rs new noted = (
  noted.0,
  record { seat = (noted.1.seat.0, noted.1.seat.1, noted.1.seat.2); number = noted.1.number; own = noted.1.own; waits = noted.1.waits },
  notes_unlocked session t vs (victim_noted s noted.0 v.cycle) rs new noted.2,
)

-- ---- a lock

module _ (a : SessionTxn) (c : Call) (lock : Asked) (may_wait : on_conflict_of c ≡ conflict.Wait) where
  abbrev named : State → List (ℕ × ℕ)
  named s = sitting s.sessions

  -- with the call of the one who asks
  abbrev with_head : Waiting → State → State
  with_head h u = record u { waiting = h ∷ u.waiting }

  abbrev told_head : Waiting → List Victim → Waiting
  told_head h vs = record h { cycle = told_cycle a.txn h.cycle vs }

  without_head : (h : Waiting) (ws : List Waiting) → h.session ≡ a.session → ((w : Waiting) → IsAmong w ws → w.session ≢ a.session) → without_waiting a.session (h ∷ ws) ≡ ws
  without_head h ws own idle =
      ap (λ b. cond (not b) (h ∷ without_waiting a.session ws) (without_waiting a.session ws)) (eq-eqb h.session a.session own) ∙ all_others ws idle
    where
      all_others : (ws : List Waiting) → ((w : Waiting) → IsAmong w ws → w.session ≢ a.session) → without_waiting a.session ws ≡ ws
      all_others [] idle = refl
      all_others (w ∷ ws) idle =
          ap (λ b. cond (not b) (w ∷ without_waiting a.session ws) (without_waiting a.session ws)) (ne_eqb w.session a.session (idle w (inl refl)))
          ∙ ap (λ l. w ∷ l) (all_others ws (λ v m. idle v (inr m)))

  head_gone : (h : Waiting) (u : State) → h.session ≡ a.session → DoesNotWait u a.session → wait_refused (with_head h u) a.session ≡ u
  head_gone h u own idle = ap (λ (ws : List Waiting). record u { waiting = ws }) (without_head h u.waiting own idle)

  -- what victims leave, without the call of the one who asks
  record After (u : State) (h : Waiting) (vs : List Victim) : Type 0 where
    pub left : State
    pub takes : TakesVictims (with_head h u) a.txn vs (with_head (told_head h vs) left)
    pub fair : IsFair left.locks.requests (named left) (told_head h vs ∷ left.waiting)
    pub names : named left ≡ named u
    pub idle : DoesNotWait left a.session
    pub moved : left ≡ with_requests left left.locks.requests
    pub locks : left.locks ≡ record { limit = u.locks.limit; requests = after_victims vs u.locks.requests }
    pub noted : (later : List Victim) (new : State) → AreNoted a.session a.txn left later new → AreNoted a.session a.txn u (vs ++ later) new

  victims_go : (vs : List Victim) (u : State) (h : Waiting) → h.session ≡ a.session → DoesNotWait u a.session → u ≡ with_requests u u.locks.requests → IsAmong (name_of a) (named u)
      → IsFair u.locks.requests (named u) (h ∷ u.waiting) → AreVictims u.locks.requests a.txn vs → After u h vs
  victims_go [] u h own idle moved there fair are = record { left = u; takes = refl; fair = fair; names = refl; idle = idle; moved = moved; locks = refl; noted = λ later new noted. noted }
  victims_go (v ∷ vs) u h own idle moved there fair are =
      let rest = victims_go vs mid head own idle_then refl (subst (IsAmong (name_of a)) (sym names_then) there) fair_then
      (subst (λ t. AreVictims (cancelled t u.locks.requests) a.txn vs) (sym number) are.1) in
      record {
        left = rest.left;
        takes = (with_head head mid, record { txn = b; active = active; number = number; victim = are.0; is = ap (λ (x : Waiting). with_head x mid) (sym head_is) }, rest.takes);
        fair = rest.fair;
        names = rest.names ∙ names_then;
        idle = rest.idle;
        moved = rest.moved;
        locks = rest.locks ∙ ap (λ t. record { limit = u.locks.limit; requests = after_victims vs (cancelled t u.locks.requests) }) number;
        noted = λ later new noted. (b, notable, notes_unlocked a.session a.txn (vs ++ later) (victim_noted u b v.cycle) (cancelled b.txn u.locks.requests) new (rest.noted later new noted));
      }
    where
      waits : is_waiting v.txn u.locks.requests ≡ true
      waits = ⊎_elim (λ is. is)
          (λ quiet. let next = member_waits u.locks.requests v.cycle v.txn are.0.stands.closed (first_In v.cycle v.txn are.0.stands.first) in
          absurd (quiet_waits_not v.txn u.locks.requests quiet next.0 next.1))
          (cases_Bool (is_waiting v.txn u.locks.requests))

      its : (b : SessionTxn) × HasSeat u.sessions b × (b.txn ≡ v.txn)
      its =
          let name = fair.under v.txn waits in
          let one = sitting_seat u.sessions name.0 name.1 in
          (one.0, one.1, ap (λ (n : ℕ × ℕ). n.1) one.2 ∙ name.2)

      b : SessionTxn
      b = its.0

      seat : HasSeat u.sessions b
      seat = its.1

      active : IsAmong b u.sessions.active
      active = seat.0

      number : b.txn ≡ v.txn
      number = its.2

      named_b : IsAmong (name_of b) (named u)
      named_b = seat_sits u.sessions b seat

      mid : State
      mid = with_requests (victim_noted u b v.cycle) (cancelled b.txn u.locks.requests)

      names_then : named mid ≡ named u
      names_then = ap (filter (sits u.sessions)) (names-with_undo b.txn (undo_rolled b.undo b.undo.images Whole) u.sessions.active)

      head : Waiting
      head = record h { cycle = if v.txn == a.txn then Some v.cycle else h.cycle }

      noted_waiting : Waiting → Waiting
      noted_waiting w = if w.session == b.session then record { session = w.session; call = w.call; wait = w.wait; cycle = Some v.cycle } else w

      head_is : noted_waiting h ≡ head
      head_is = ⊎_elim
          (λ own_is. ap (λ x. if x then record { session = h.session; call = h.call; wait = h.wait; cycle = Some v.cycle } else h)
          (eq-eqb h.session b.session (own ∙ sym (fair.by_number (name_of b) (name_of a) named_b there (number ∙ eqb-true v.txn a.txn own_is))))
          ∙ ap (λ x. record h { cycle = if x then Some v.cycle else h.cycle }) (sym own_is))
          (λ other. ap (λ x. if x then record { session = h.session; call = h.call; wait = h.wait; cycle = Some v.cycle } else h)
          (ne_eqb h.session b.session (λ same. eqb-false v.txn a.txn other (sym number ∙ fair.by_session (name_of b) (name_of a) named_b there (sym same ∙ own))))
          ∙ ap (λ x. record h { cycle = if x then Some v.cycle else h.cycle }) (sym other))
          (cases_Bool (v.txn == a.txn))

      session_stays : (w : Waiting) → (noted_waiting w).session ≡ w.session
      session_stays w = elim (w.session == b.session) as (λ x. (if x then record { session = w.session; call = w.call; wait = w.wait; cycle = Some v.cycle } else w).session ≡ w.session) [ true ↦ refl | false ↦ refl ]

      idle_then : DoesNotWait mid a.session
      idle_then w m same = let was = map_among noted_waiting w u.waiting m in idle was.0 was.1 (sym (session_stays was.0) ∙ ap (λ (x : Waiting). x.session) was.2 ∙ same)

      fair_then : IsFair mid.locks.requests (named mid) (head ∷ mid.waiting)
      fair_then =
          subst (λ ns. IsFair mid.locks.requests ns (head ∷ mid.waiting)) (sym names_then)
          (subst (λ x. IsFair mid.locks.requests (named u) (x ∷ mid.waiting)) head_is (fair_victim u.locks.requests (named u) (h ∷ u.waiting) fair (name_of b) named_b v.cycle))

      notable : IsNotable a.session a.txn u v b
      notable = record {
        seat = seat;
        number = number;
        own = λ same. fair.by_number (name_of b) (name_of a) named_b there same;
        waits = λ other none. opposite (subst (λ t. is_waiting t u.locks.requests ≡ true) (sym number) waits)
            (fair.quiet (name_of b) named_b (λ w m asks same. ⊎_elim
            (λ first. other (fair.by_session (name_of b) (name_of a) named_b there (sym same ∙ ap (λ (x : Waiting). x.session) (sym first) ∙ own)))
            (λ later. none w later same) m));
      }

  -- ---- a round

  -- where a round begins: who asks does not wait
  pub record IsStart (s : State) : Type 0 where
    pub fair : IsFair s.locks.requests (named s) s.waiting
    pub there : IsAmong (name_of a) (named s)
    pub quiet : is_waiting a.txn s.locks.requests ≡ false
    pub idle : DoesNotWait s a.session

  outcome_is : (s : State) (answer : Result Acquired Fault) (rs : List Request) → Acquires s.locks a.txn lock.granule lock.mode answer rs → lock_outcome s a c lock ≡ record { answer = answer; requests = rs }
  outcome_is s answer rs acquires = ap (λ k. acquired k s.locks a.txn lock.granule lock.mode) may_wait ∙ acquires

  record Round (s : State) (g : Granule) (vs : List Victim) (new : List Request) : Type 0 where
    pub after : After (behind_lock s a c lock) (lock_waiting a c g) vs
    pub broken : IsBroken s a c lock g vs (with_head (told_head (lock_waiting a c g) vs) after.left)
    pub locks : after.left.locks ≡ record { limit = s.locks.limit; requests = new }
    pub gone : wait_refused (with_head (told_head (lock_waiting a c g) vs) after.left) a.session ≡ after.left

  round_go : (s : State) → IsStart s → (g : Granule) (waiting : List Request) (vs : List Victim) (new : List Request) → Acquires s.locks a.txn lock.granule lock.mode (Ok (acquire.Waiting g)) waiting
      → locking.IsBroken waiting a.txn vs new → Round s g vs new
  round_go s start g waiting vs new acquires broken =
      let out = outcome_is s (Ok (acquire.Waiting g)) waiting acquires in
      let requests : (lock_outcome s a c lock).requests ≡ waiting = ap (λ (o : Outcome). o.requests) out in
      let after = victims_go vs (behind_lock s a c lock) (lock_waiting a c g) refl start.idle refl start.there
      (fair_asked a.session a.txn (named s) start.there (on_conflict_of c) lock.granule lock.mode s.locks s.waiting (lock_waiting a c g) start.fair start.quiet refl refl)
      (subst (λ rs. AreVictims rs a.txn vs) (sym requests) broken.victims) in
      record {
        after = after;
        broken = record { waits = ap (λ (o : Outcome). o.answer) out; victims = after.takes };
        locks = after.locks ∙ ap (λ rs. record { limit = s.locks.limit; requests = after_victims vs rs }) requests ∙ ap (λ rs. record { limit = s.locks.limit; requests = rs }) (sym broken.after);
        gone = head_gone (told_head (lock_waiting a c g) vs) after.left refl after.idle;
      }

  -- the next round begins
  next_start : (s : State) → IsStart s → (g : Granule) (vs : List Victim) (new : List Request) (round : Round s g vs new) → is_waiting a.txn new ≡ false → IsStart round.after.left
  next_start s start g vs new round quiet =
      let there = subst (IsAmong (name_of a)) (sym round.after.names) start.there in
      let idle : is_waiting a.txn round.after.left.locks.requests ≡ false = subst (λ (x : Table). is_waiting a.txn x.requests ≡ false) (sym round.locks) quiet in
      record {
        fair = fair_woken a.session a.txn (named round.after.left) there round.after.left.locks.requests round.after.left.waiting (told_head (lock_waiting a c g) vs) round.after.fair idle refl;
        there = there;
        quiet = idle;
        idle = round.after.idle;
      }

  -- ---- rounds

  record Gone (s : State) (rounds : List (List Victim)) (before : List Victim) (mid : List Request) : Type 0 where
    pub later : State
    pub go : LetThrough s a c lock rounds later
    pub start : IsStart later
    pub locks : later.locks ≡ record { limit = s.locks.limit; requests = mid }
    pub noted : (vs : List Victim) (new : State) → AreNoted a.session a.txn later vs new → AreNoted a.session a.txn s (before ++ vs) new
    pub told : (vs : List Victim) → told_cycle a.txn None (before ++ vs) ≡ told_cycle a.txn None vs

  rounds_go : (rounds : List (List Victim)) (before : List Victim) (mid : List Request) (s : State) → IsStart s → AreRounds s.locks a.txn lock.granule lock.mode rounds before mid → Gone s rounds before mid
  rounds_go [] before mid s start go = record {
    later = s;
    go = refl;
    start = start;
    locks = ap (λ rs. record { limit = s.locks.limit; requests = rs }) go.0;
    noted = λ vs new noted. subst (λ l. AreNoted a.session a.txn s (l ++ vs) new) (sym go.1) noted;
    told = λ vs. ap (λ l. told_cycle a.txn None (l ++ vs)) go.1;
  }
  rounds_go (vs ∷ rounds) before mid s start go =
      let through = go.2 in
      let round = round_go s start through.round.granule through.round.waiting vs go.0 through.round.acquires through.round.broken in
      let left = round.after.left in
      let rest = rounds_go rounds go.1 mid left (next_start s start through.round.granule vs go.0 round through.quiet)
      (subst (λ (x : Table). AreRounds x a.txn lock.granule lock.mode rounds go.1 mid) (sym round.locks) go.3) in
      record {
        later = rest.later;
        go = (
          through.round.granule,
          with_head (told_head (lock_waiting a c through.round.granule) vs) left,
          round.broken,
          through.spared,
          subst (λ (x : Table). is_waiting a.txn x.requests ≡ false) (sym round.locks) through.quiet,
          subst (λ x. LetThrough x a c lock rounds rest.later) (sym round.gone) rest.go,
        );
        start = rest.start;
        locks = rest.locks ∙ ap (λ (x : Table). record { limit = x.limit; requests = mid }) round.locks;
        noted = λ ws new noted. subst (λ l. AreNoted a.session a.txn s l new) (sym (append_assoc vs go.1 ws) ∙ ap (λ l. l ++ ws) (sym go.4))
            (notes_unlocked a.session a.txn (vs ++ (go.1 ++ ws)) s (lock_outcome s a c lock).requests new (round.after.noted (go.1 ++ ws) new (rest.noted ws new noted)));
        told = λ ws.
            ap (λ l. told_cycle a.txn None (l ++ ws)) go.4 ∙ ap (told_cycle a.txn None) (append_assoc vs go.1 ws) ∙ told_more a.txn None vs (go.1 ++ ws)
            ∙ ap (λ o. told_cycle a.txn o (go.1 ++ ws)) (told_spared a.txn None vs through.spared) ∙ rest.told ws;
      }

  -- ---- the end

  record Ended (s : State) (answer : Result Locked Fault) (last : List Victim) (new : List Request) : Type 0 where
    pub left : State
    pub ends : EndsLock s a c lock (answer_of answer (told_cycle a.txn None last)) left
    pub locks : left.locks ≡ record { limit = s.locks.limit; requests = new }
    pub noted : AreNoted a.session a.txn s last left

  -- .. behind a round
  round_noted : (s : State) (g : Granule) (last : List Victim) (new : List Request) (round : Round s g last new) → AreNoted a.session a.txn s last round.after.left
  round_noted s g last new round =
      notes_unlocked a.session a.txn last s (lock_outcome s a c lock).requests round.after.left
      (subst (λ l. AreNoted a.session a.txn (behind_lock s a c lock) l round.after.left) (append-nil last)
      (round.after.noted [] round.after.left (round.after.left.locks.requests, round.after.moved)))

  -- .. with the lock, or refused
  answered_at_once : (s : State) (answer : Result Acquired Fault) (last : List Victim) (new : List Request) → Acquires s.locks a.txn lock.granule lock.mode answer new → last ≡ []
      → ((lock_outcome s a c lock).answer ≡ answer) × ((behind_lock s a c lock).locks ≡ record { limit = s.locks.limit; requests = new }) × AreNoted a.session a.txn s last (behind_lock s a c lock)
  answered_at_once s answer last new acquires none =
      let out = outcome_is s answer new acquires in (
        ap (λ (o : Outcome). o.answer) out,
        ap (λ (o : Outcome). record { limit = s.locks.limit; requests = o.requests }) out,
        subst (λ l. AreNoted a.session a.txn s l (behind_lock s a c lock)) (sym none) ((lock_outcome s a c lock).requests, refl),
      )

  -- .. waiting on
  waits_on : (s : State) → IsStart s → (g : Granule) (last : List Victim) (new : List Request) (round : locking.IsRound s.locks a.txn lock.granule lock.mode last new)
      → locking.AnswersBroken (locked.Waiting g) a.txn last new → Ended s (Ok (locked.Waiting g)) last new
  waits_on s start g last new is answers =
      let round = round_go s start is.granule is.waiting last new is.acquires is.broken in
      let left = round.after.left in
      let fair_at = fair_asked a.session a.txn (named s) start.there conflict.Wait lock.granule lock.mode s.locks s.waiting (lock_waiting a c is.granule) start.fair start.quiet refl refl in
      let orderly = subst IsOrderly (ap (λ (o : Outcome). o.requests) is.acquires) fair_at.orderly in
      let same : is.granule ≡ g = still_at s.locks a.txn lock.granule lock.mode start.fair.orderly start.quiet is.granule is.waiting is.acquires orderly last answers.1.0
      (subst (λ rs. waiting_request a.txn rs ≡ Some answers.1.0) is.broken.after answers.1.1) ∙ answers.1.2 in
      let spared : told_head (lock_waiting a c is.granule) last ≡ lock_waiting a c is.granule = ap (λ o. record (lock_waiting a c is.granule) { cycle = o }) (told_spared a.txn None last answers.0) in
      record {
        left = left;
        ends = subst (λ x. EndsWell s a c lock (acquire.Waiting x) left) same (
          last,
          with_head (told_head (lock_waiting a c is.granule) last) left,
          round.broken,
          answers.0,
          subst (λ (x : Table). is_waiting a.txn x.requests ≡ true) (sym round.locks) (ap is_some answers.1.1),
          subst (λ (x : Table). IsOnNoCycle x.requests a.txn) (sym round.locks) is.broken.broken,
          ap (λ h. with_head h left) spared,
        );
        locks = round.locks;
        noted = round_noted s is.granule last new round;
      }

  -- .. as a victim
  ends_told : (s : State) → IsStart s → (last : List Victim) (new : List Request) (round : locking.IsRound s.locks a.txn lock.granule lock.mode last new)
      → is_victim last a.txn ≡ true → Ended s (Ok locked.Deadlock) last new
  ends_told s start last new is victim =
      let round = round_go s start is.granule is.waiting last new is.acquires is.broken in
      let left = round.after.left in
      let told = told_victim a.txn None last victim in
      record {
        left = left;
        ends = subst (λ o. EndsLock s a c lock (answer_of (Ok locked.Deadlock) o) left) (sym told.1) (inr (inl (
          is.granule,
          last,
          with_head (told_head (lock_waiting a c is.granule) last) left,
          round.broken,
          told.0,
          refl,
          inl (ap (λ o. record (lock_waiting a c is.granule) { cycle = o }) told.1),
          sym round.gone,
        )));
        locks = round.locks;
        noted = round_noted s is.granule last new round;
      }

  -- .. short of memory
  ends_short : (s : State) → IsStart s → (f : Fault) (last : List Victim) (new : List Request) → f ≡ fault.Memory → locking.RanOut s.locks a.txn lock.granule lock.mode new → last ≡ []
      → Ended s (Err f) last new
  ends_short s start f last new memory ran none =
      let out = outcome_is s (Ok (acquire.Waiting ran.0)) ran.1 ran.2 in
      let rs = cancelled a.txn (lock_outcome s a c lock).requests in
      record {
        left = with_requests (wait_refused (waits_at s a c lock ran.0) a.session) rs;
        ends = inr (inr (ran.0, ap (λ (o : Outcome). o.answer) out, memory, refl));
        locks = ap (λ (o : Outcome). record { limit = s.locks.limit; requests = cancelled a.txn o.requests }) out ∙ ap (λ l. record { limit = s.locks.limit; requests = l }) (sym ran.3);
        noted = subst (λ l. AreNoted a.session a.txn s l (with_requests (wait_refused (waits_at s a c lock ran.0) a.session) rs)) (sym none)
            (rs, ap (λ (ws : List Waiting). record (with_requests s rs) { waiting = ws }) (without_head (lock_waiting a c ran.0) s.waiting refl start.idle));
      }

  ends_go : (s : State) → IsStart s → (answer : Result Locked Fault) (last : List Victim) (new : List Request) → Ends s.locks a.txn lock.granule lock.mode answer last new → Ended s answer last new
  ends_go s start (Ok locked.Done) last new ends =
      let at_once = answered_at_once s (Ok acquire.Done) last new ends.0 ends.1 in
      record { left = behind_lock s a c lock; ends = (at_once.0, refl); locks = at_once.1; noted = at_once.2 }
  ends_go s start (Ok (locked.Waiting g)) last new ends = waits_on s start g last new ends.0 ends.1
  ends_go s start (Ok locked.Deadlock) last new ends = ends_told s start last new ends.0 ends.1
  ends_go s start (Err f) last new (inl acquires, none) =
      let at_once = answered_at_once s (Err f) last new acquires none in
      record { left = behind_lock s a c lock; ends = inl (at_once.0, refl); locks = at_once.1; noted = at_once.2 }
  ends_go s start (Err f) last new (inr short, none) = ends_short s start f last new short.0 short.1 none

  -- ---- all of it

  -- the lock comes to this, and its victims are noted
  pub record Comes (s : State) (answer : Result Locked Fault) (victims : List Victim) (table : Table) : Type 0 where
    pub new : State
    pub locks_to : LocksTo s a c lock (answer_of answer (told_cycle a.txn None victims)) new
    pub locks : new.locks ≡ table
    pub noted : AreNoted a.session a.txn s victims new

  pub settles_to : (s : State) → IsStart s → (answer : Result Locked Fault) (victims : List Victim) (table : Table) → Settles s.locks table a.txn lock.granule lock.mode answer victims → Comes s answer victims table
  settles_to s start answer victims table settles =
      let gone = rounds_go settles.rounds settles.before settles.mid s start settles.go in
      let ended = ends_go gone.later gone.start answer settles.last table.requests
      (subst (λ (x : Table). Ends x a.txn lock.granule lock.mode answer settles.last table.requests) (sym gone.locks) settles.ends) in
      let told : told_cycle a.txn None settles.last ≡ told_cycle a.txn None victims = sym (ap (told_cycle a.txn None) settles.told ∙ gone.told settles.last) in
      record {
        new = ended.left;
        locks_to = record {
          rounds = settles.rounds;
          later = gone.later;
          go = gone.go;
          ends = subst (λ o. EndsLock gone.later a c lock (answer_of answer o) ended.left) told ended.ends;
        };
        locks =
            ended.locks ∙ ap (λ (x : Table). record { limit = x.limit; requests = table.requests }) gone.locks
            ∙ ap (λ n. record { limit = n; requests = table.requests }) (sym settles.limit);
        noted = subst (λ l. AreNoted a.session a.txn s l ended.left) (sym settles.told) (gone.noted settles.last ended.left ended.noted);
      }
