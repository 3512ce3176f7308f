-- The worked run with a victim: each event may come.
use Rattle.std.proofs.Common.{◌≡◌, ◌⊎◌, inl, inr, ⊎_elim, ◌≤◌, ℕ, List, [], ◌∷◌, true, Some, refl, ap, arith}
use Rattle.std.specs.Prelude.{Contains}
use Rattle.shore_types.specs.declared.layout.Geometry.{Geometry}
use Rattle.shore_types.specs.declared.faults.Fault.TheVariants.{Deadlock}
use Rattle.shore_types.specs.declared.locking.Granule.TheVariants.{Volume}
use Rattle.shore_types.specs.declared.locking.Mode.TheVariants.{EX, SH}
use Rattle.shore_types.specs.Versions.{slot_limit}
use Rattle.shore_model.specs.Requests.{IsRefusedBy, IsBehind, WaitsFor, WaitsIn, queue_at}
use Rattle.shore_model.specs.declared.calls.Answer.TheVariants.{Aborted, Began, Locked}
use Rattle.shore_model.specs.declared.calls.Call.TheVariants as call
use Rattle.shore_model.specs.declared.histories.Entry.{Entry}
use Rattle.shore_model.specs.declared.requests.Request.{Request}
use Rattle.shore_model.specs.declared.rollbacks.Rollback.TheVariants.{Whole}
use Rattle.shore_model.specs.declared.step.Step.TheVariants.{Done, Refused, Waits}
use Rattle.shore_model.specs.declared.step.Wait.TheVariants.{Lock}
use Rattle.shore_locks.proofs.Members.{All-In, Contains-In, In-Contains}
use Rattle.shore_locks.proofs.Outcomes.{any_from}
use Rattle.shore_locks.specs.Tables.{is_waiting}
use Rattle.shore_cycles.specs.Cycles.{IsVictim}
use Rattle.shore_cycles.specs.declared.victims.Victim.{Victim}
use Rattle.laws_locks.specs.CallLocks.{Asked}
use Rattle.laws_lives.specs.Sessions.{SessionTxn}
use Rattle.laws_lives.specs.UndoLists.{nothing_to_undo, undo_rolled}
use Rattle.laws_calls.proofs.SettledAtOnce.{at_once, lone_waiter_is_on_no_cycle, resumed_at_once, waits_alone, waits_at_once}
use Rattle.laws_calls.specs.CallHistories.{IsOpened}
use Rattle.laws_calls.specs.CallSteps.{CallStep, aborted, behind_lock, lock_waiting}
use Rattle.laws_calls.specs.Events.{Called, EventMoves, MovesMaking, Resumed}
use Rattle.laws_calls.specs.Settling.{SettledCall}
use Rattle.laws_calls.specs.StateChanges.{answered, wait_refused, begun}
use Rattle.laws_calls.specs.States.{DoesNotWait, HasNoTxn, State, Waiting}
use Rattle.laws_calls.specs.Victims.{TakesVictim, victim_taken}
use Rattle.laws_calls.specs.WorkedDeadlock.{a_deadlock, cycle_of_two, share_all, take_all, told_in_a_deadlock}
use Rattle.laws_calls.specs.WorkedRun.{opened_empty}
use Rattle.laws_lives.specs.Soundness.{opening_with}
use Rattle.laws_calls.proofs.EmptyOpens.{empty_is_opened}
use Rattle.std.specs.FinMap.{empty}

module _ (g : Geometry) (stream_bytes : ℕ) (long : 100000 ≤ stream_bytes) where
  -- ---- states

  abbrev opened : State
  opened = opened_empty (slot_limit g.version) stream_bytes

  abbrev begun_one : State
  begun_one = begun opened 1

  abbrev begun_two : State
  begun_two = begun begun_one 2

  abbrev one : SessionTxn
  one = record { session = 1; txn = 1; undo = nothing_to_undo }

  abbrev two : SessionTxn
  two = record { session = 2; txn = 2; undo = nothing_to_undo }

  abbrev share : Asked
  share = record { granule = Volume; mode = SH }

  abbrev all : Asked
  all = record { granule = Volume; mode = EX }

  abbrev one_shares : State
  one_shares = answered (behind_lock begun_two one share_all share) one share_all Locked begun_two.counts

  abbrev two_shares : State
  two_shares = answered (behind_lock one_shares two share_all share) two share_all Locked one_shares.counts

  abbrev two_waits : State
  two_waits = record (behind_lock two_shares two take_all all) { waiting = lock_waiting two take_all Volume ∷ [] }

  abbrev one_waits : State
  one_waits = record (behind_lock two_waits one take_all all) { waiting = lock_waiting one take_all Volume ∷ two_waits.waiting }

  abbrev victim : Victim
  victim = record { txn = 2; cycle = cycle_of_two }

  abbrev broken : State
  broken = victim_taken one_waits two cycle_of_two

  abbrev doomed_two : SessionTxn
  doomed_two = record { session = 2; txn = 2; undo = undo_rolled nothing_to_undo [] Whole }

  abbrev told : State
  told = wait_refused broken 2

  abbrev two_aborts : State
  two_aborts = aborted told doomed_two

  abbrev one_goes_on : State
  one_goes_on = behind_lock (wait_refused two_aborts 1) one take_all all

  abbrev one_has : State
  one_has = answered one_goes_on one take_all Locked one_goes_on.counts

  -- ---- the cycle

  abbrev of_two : Request
  of_two = record { txn = 2; granule = Volume; held = Some SH; wanted = Some EX }

  abbrev of_one : Request
  of_one = record { txn = 1; granule = Volume; held = Some SH; wanted = Some EX }

  abbrev rs : List Request
  rs = of_two ∷ of_one ∷ []

  both_wait : one_waits.locks.requests ≡ rs
  both_wait = refl

  two_for_one : WaitsFor rs 2 1
  two_for_one = (
    λ same. omega (arith, same),
    any_from (λ waiter. (waiter.txn ≡ 2) × WaitsIn (queue_at waiter.granule rs) waiter 1) rs of_two (inl refl) (
      refl,
      any_from (λ other. (other.txn ≡ 1) × (IsRefusedBy of_two other ⊎ IsBehind rs of_two other)) rs of_one (inr (inl refl)) (refl, inl refl),
    ),
  )

  one_for_two : WaitsFor rs 1 2
  one_for_two = (
    λ same. omega (arith, same),
    any_from (λ waiter. (waiter.txn ≡ 1) × WaitsIn (queue_at waiter.granule rs) waiter 2) rs of_one (inr (inl refl)) (
      refl,
      any_from (λ other. (other.txn ≡ 2) × (IsRefusedBy of_one other ⊎ IsBehind rs of_one other)) rs of_two (inl refl) (refl, inl refl),
    ),
  )

  abbrev of_the_other : List ℕ
  of_the_other = 1 ∷ []

  abbrev nobody : List ℕ
  nobody = []

  not_one : Contains of_the_other 2 → ⊥
  not_one h = ⊎_elim (λ same. omega (arith, same)) (λ later. later) (Contains-In of_the_other 2 h)

  is_victim : IsVictim rs 1 victim
  is_victim = record {
    stands = record { closed = (two_for_one, one_for_two); first = refl; once = (not_one, (λ h. Contains-In nobody 1 h, tt)) };
    passes = In-Contains cycle_of_two 1 (inr (inl refl));
    greatest = All-In (λ u. u ≤ 2) cycle_of_two (λ u. ⊎_elim (λ same. omega (arith, same)) (⊎_elim (λ same. omega (arith, same)) (λ none. absurd none)));
  }

  taken : TakesVictim one_waits 1 victim broken
  taken = record { txn = two; active = inl refl; number = refl; victim = is_victim; is = refl }

  -- ---- events

  is_opened : IsOpened (opening_with (slot_limit g.version) empty) [] opened
  is_opened = empty_is_opened (slot_limit g.version) stream_bytes

  begins_one : EventMoves g opened (Called 1 call.Begin (Done (Began 1))) begun_one
  begins_one = (tt, at_once g opened 1 call.Begin (Done (Began 1)) begun_one (inr (inr (inr (inl (refl, λ w m. absurd m, refl, (refl, omega arith, ((omega arith, omega arith), omega arith), refl, refl)))))) tt)

  begins_two : EventMoves g begun_one (Called 2 call.Begin (Done (Began 2))) begun_two
  begins_two = (tt, at_once g begun_one 2 call.Begin (Done (Began 2)) begun_two (inr (inr (inr (inl (refl, λ w m. absurd m, refl, (not_in, omega arith, ((omega arith, omega arith), omega arith), refl, refl)))))) tt)
    where
      not_in : HasNoTxn begun_one 2
      not_in = refl

  shares_one : EventMoves g begun_two (Called 1 share_all (Done Locked)) one_shares
  shares_one = (tt, at_once g begun_two 1 share_all (Done Locked) one_shares (inr (inr (inr (inr (inr (inl (refl, λ w m. absurd m, (one, ((inr (inl refl), refl, omega arith), refl), inr (inl (refl, inr (inl ((refl, tt), (behind_lock begun_two one share_all share, (share, refl, refl, refl), (refl, refl)))))))))))))) tt)

  shares_two : EventMoves g one_shares (Called 2 share_all (Done Locked)) two_shares
  shares_two = (tt, at_once g one_shares 2 share_all (Done Locked) two_shares (inr (inr (inr (inr (inr (inl (refl, λ w m. absurd m, (two, ((inl refl, refl, omega arith), refl), inr (inl (refl, inr (inl ((refl, tt), (behind_lock one_shares two share_all share, (share, refl, refl, refl), (refl, refl)))))))))))))) tt)

  called_two : CallStep g two_shares 2 take_all (Waits (Lock Volume)) two_waits
  called_two = inr (inr (inr (inr (inr (inl (refl, λ w m. absurd m, (two, ((inl refl, refl, omega arith), refl), inr (inl (refl, inr (inl ((refl, tt), (all, Volume, refl, refl, refl, refl))))))))))))

  two_alone : (u : ℕ) → is_waiting u two_waits.locks.requests ≡ true → u ≡ 2
  two_alone = waits_alone 2 two_waits.locks.requests (inl refl, (inr refl, tt))

  waits_two : EventMoves g two_shares (Called 2 take_all (Waits (Lock Volume))) two_waits
  waits_two = (tt, waits_at_once g two_shares 2 take_all Volume two_waits called_two two ((inl refl, refl, omega arith), refl) refl (lone_waiter_is_on_no_cycle two_waits.locks.requests 2 two_alone))

  called_one : CallStep g two_waits 1 take_all (Waits (Lock Volume)) one_waits
  called_one = inr (inr (inr (inr (inr (inl (refl, idle, (one, ((inr (inl refl), refl, omega arith), refl), inr (inl (refl, inr (inl ((refl, tt), (all, Volume, refl, refl, refl, refl))))))))))))
    where
      idle : DoesNotWait two_waits 1
      idle w m is = ⊎_elim (λ same. let other = ap (λ (x : Waiting). x.session) same in omega arith) (λ later. absurd later) m

  one_alone : (u : ℕ) → is_waiting u broken.locks.requests ≡ true → u ≡ 1
  one_alone = waits_alone 1 broken.locks.requests (inl refl, (inr refl, tt))

  -- it closes the cycle, the other is taken as the victim, and it waits on
  closes : SettledCall g two_waits 1 take_all (Waits (Lock Volume)) broken
  closes = record {
    first = Waits (Lock Volume);
    mid = one_waits;
    rounds = (victim ∷ []) ∷ [];
    calls = called_one;
    settles = (one, Volume, broken, ((inr (inl refl), refl, omega arith), refl), refl, (broken, taken, refl), inl (refl, inl (refl, lone_waiter_is_on_no_cycle broken.locks.requests 1 one_alone, refl, refl)));
  }

  waits_one : EventMoves g two_waits (Called 1 take_all (Waits (Lock Volume))) broken
  waits_one = (tt, closes)

  tells_two : EventMoves g broken (Resumed 2 (Refused (Deadlock cycle_of_two))) told
  tells_two = inl (record {
    running = refl;
    waited = record { session = 2; call = take_all; wait = Lock Volume; cycle = Some cycle_of_two };
    there = inr (inl refl);
    of = refl;
    cycle = cycle_of_two;
    victim = refl;
    told = refl;
    is = refl;
  })

  aborts_two : EventMoves g told (Called 2 call.Abort (Done Aborted)) two_aborts
  aborts_two = (tt, at_once g told 2 call.Abort (Done Aborted) two_aborts (inr (inr (inr (inr (inr (inl (refl, idle, (doomed_two, ((inl refl, refl, omega arith), refl), inr (inr (inr (refl, (refl, refl)))))))))))) tt)
    where
      idle : DoesNotWait told 2
      idle w m is = ⊎_elim (λ same. let other = ap (λ (x : Waiting). x.session) same in omega arith) (λ later. absurd later) m

  goes_on : EventMoves g two_aborts (Resumed 1 (Done Locked)) one_has
  goes_on =
      resumed_at_once g two_aborts 1 (Done Locked) one_has
      (inr (lock_waiting one take_all Volume, inl refl, refl, inr (refl, (one, ((inl refl, refl, omega arith), refl), inr (refl, (one_goes_on, (all, refl, refl, refl), (refl, refl)))), refl))) tt

  pub deadlock_comes_through : (last : State) × (made : List Entry) × IsOpened (opening_with (slot_limit g.version) empty) [] (opened_empty (slot_limit g.version) stream_bytes)
      × MovesMaking g (opened_empty (slot_limit g.version) stream_bytes) a_deadlock last made × (made ≡ told_in_a_deadlock)
      × (last.sessions.held ≡ record { txn = 1; granule = Volume; mode = EX } ∷ [])
  deadlock_comes_through = (
    one_has,
    told_in_a_deadlock,
    is_opened,
    (
      begun_one,
      _,
      begins_one,
      (
        begun_two,
        _,
        begins_two,
        (
          one_shares,
          _,
          shares_one,
          (
            two_shares,
            _,
            shares_two,
            (
              two_waits,
              _,
              waits_two,
              (broken, _, waits_one, (told, _, tells_two, (two_aborts, _, aborts_two, (one_has, _, goes_on, (refl, refl), refl), refl), refl), refl),
              refl,
            ),
            refl,
          ),
          refl,
        ),
        refl,
      ),
      refl,
    ),
    refl,
    refl,
  )
