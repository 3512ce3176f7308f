-- The worked run of two sessions: each event may come.
use Rattle.std.proofs.Common.{◌+◌, ◌≡◌, inl, inr, ⊎_elim, ◌≤◌, ℕ, List, [], ◌∷◌, Bool, true, false, Some, None, refl, ap, length, arith}
use Rattle.std.specs.FinMap.{empty, get, get-empty}
use Rattle.std.specs.Ordering.{eq_by_cmp}
use Rattle.std.proofs.lemmas.Map.Views.{tells_apart}
use Rattle.shore_types.specs.Ids.{exact_pages, page_cmp, rid_cmp}
use Rattle.shore_types.specs.Layout.{HasPage, HasStore}
use Rattle.shore_types.specs.declared.layout.Geometry.{Geometry}
use Rattle.shore_types.specs.declared.locking.Granule.TheVariants.{Record}
use Rattle.shore_types.specs.declared.locking.Mode.TheVariants.{SH}
use Rattle.shore_types.specs.Versions.{page_bytes-least, record_limit, record_limit-fits, record_limit-most, slot_limit, slot_limit-fills}
use Rattle.shore_model.specs.declared.calls.Answer.TheVariants.{Began, Committed, Got, Inserted}
use Rattle.shore_model.specs.declared.calls.Call.{Call}
use Rattle.shore_model.specs.declared.calls.Call.TheVariants as call
use Rattle.shore_model.specs.declared.histories.Entry.{Entry}
use Rattle.shore_locks.specs.Tables.{is_waiting}
use Rattle.laws_locks.specs.CallLocks.{Asked}
use Rattle.laws_room.proofs.Costs.{change_bytes}
use Rattle.laws_room.proofs.Leaving.{same_page}
use Rattle.laws_room.specs.Claims.{Grows, SlotCounts}
use Rattle.laws_room.specs.LogRooms.{image_cost}
use Rattle.laws_lives.proofs.Ids.{put_here}
use Rattle.laws_lives.specs.Sessions.{SessionTxn}
use Rattle.laws_lives.specs.UndoLists.{nothing_to_undo, with_before_image}
use Rattle.laws_calls.proofs.SettledAtOnce.{at_once, resumed_at_once, lone_waiter_is_on_no_cycle, waits_alone, waits_at_once}
use Rattle.shore_model.specs.declared.step.Step.TheVariants.{Done, Waits}
use Rattle.shore_model.specs.declared.step.Wait.TheVariants.{Lock}
use Rattle.laws_calls.specs.CallHistories.{IsOpened}
use Rattle.laws_calls.specs.Events.{Called, Resumed, EventMoves, MovesMaking}
use Rattle.laws_calls.specs.StateChanges.{FitsAt, MayChange, answered, committed, wait_refused, begun}
use Rattle.laws_calls.specs.CallSteps.{CallStep, IsPlaceOf, behind_lock, behind_place, lock_waiting}
use Rattle.laws_calls.specs.WorkedSessions.{told_to_two, two_sessions}
use Rattle.laws_calls.specs.Shapes.{store_lock, store_locked}
use Rattle.laws_calls.specs.States.{DoesNotWait, HasNoTxn, MayBegin, State, Waiting}
use Rattle.laws_calls.specs.WorkedRun.{first_id, first_page, opened_empty}
use Rattle.laws_lives.specs.Soundness.{opening_with}
use Rattle.laws_calls.proofs.EmptyOpens.{empty_is_opened}

-- one slot on the first page
abbrev one_if : Bool → ℕ
one_if true = 1
one_if false = 0

abbrev one_slot : SlotCounts
one_slot p = one_if (eq_by_cmp page_cmp p first_page)

module _ (g : Geometry) (stream_bytes : ℕ) (bytes : List ℕ) (store : HasStore g 0) (page : HasPage g first_page) (short : length bytes ≤ record_limit g.version) (long : 96000 + record_limit g.version ≤ stream_bytes) where
  -- ---- states

  abbrev opened : State
  opened = opened_empty (slot_limit g.version) stream_bytes

  abbrev begun_one : State
  begun_one = begun opened 1

  abbrev one : SessionTxn
  one = record { session = 1; txn = 1; undo = nothing_to_undo }

  abbrev insert : Call
  insert = call.Insert 0 bytes

  abbrev inserting : State
  inserting = store_locked begun_one one 0 bytes

  abbrev inserted : State
  inserted = answered (behind_place inserting one first_id) one insert (Inserted first_id) one_slot

  abbrev one_changed : SessionTxn
  one_changed = record { session = 1; txn = 1; undo = with_before_image empty nothing_to_undo first_id }

  abbrev begun_two : State
  begun_two = begun inserted 2

  abbrev two : SessionTxn
  two = record { session = 2; txn = 2; undo = nothing_to_undo }

  abbrev share : Asked
  share = record { granule = Record first_id; mode = SH }

  abbrev two_waits : State
  two_waits = record (behind_lock begun_two two (call.Get first_id) share) { waiting = lock_waiting two (call.Get first_id) (Record first_id) ∷ [] }

  abbrev one_commits : State
  one_commits = committed two_waits one_changed

  abbrev two_goes_on : State
  two_goes_on = behind_lock (wait_refused one_commits 2) two (call.Get first_id) share

  abbrev two_has : State
  two_has = answered two_goes_on two (call.Get first_id) (Got bytes) two_goes_on.counts

  -- ---- events

  is_opened : IsOpened (opening_with (slot_limit g.version) empty) [] opened
  is_opened = empty_is_opened (slot_limit g.version) stream_bytes

  begins_one : EventMoves g opened (Called 1 call.Begin (Done (Began 1))) begun_one
  begins_one = (tt, at_once g opened 1 call.Begin (Done (Began 1)) begun_one (inr (inr (inr (inl (refl, λ w m. absurd m, refl, (refl, omega arith, ((omega arith, omega arith), omega arith), refl, refl)))))) tt)

  fits : FitsAt g.version inserting first_id (Some bytes)
  fits = record { there = omega (arith, slot_limit-fills g.version, page_bytes-least g.version); most = short; room = omega (arith, short, record_limit-fits g.version) }

  nothing_there : get inserting.sessions.records first_id ≡ None
  nothing_there = get-empty rid_cmp first_id

  place : IsPlaceOf g inserting 1 0 bytes first_id
  place = record {
    serves = record { of_store = refl; inside = page; empty = nothing_there; reached = omega arith; fits = fits; free = refl };
    lowest = λ other before h. ⊎_elim (λ less. omega arith) (λ same. let less = same.1 in omega arith) before;
  }

  grows : Grows inserting.counts one_slot first_id
  grows = record {
    here = ap one_if (same_page first_page);
    others = λ p other.
        elim (eq_by_cmp page_cmp p first_page) as (λ b. eq_by_cmp page_cmp p first_page ≡ b → one_if b ≡ 0) [
          | true ↦ λ e. absurd (other (tells_apart exact_pages p first_page e))
          | false ↦ λ e. refl
        ] refl;
  }

  may : MayChange g.version (behind_place inserting one first_id) first_id (Some bytes) one_slot
  may = let before = ap image_cost nothing_there in let few = record_limit-most g.version in record { fits = fits; logs = (omega arith, omega arith); grows = grows }

  inserts : EventMoves g begun_one (Called 1 insert (Done (Inserted first_id))) inserted
  inserts = (
    tt,
    at_once g begun_one 1 insert (Done (Inserted first_id)) inserted (inr (inr (inr (inr (inr (inl (
      refl,
      λ w m. absurd m,
      (
        one,
        ((inl refl, refl, omega arith), refl),
        inr (inl (
          refl,
          inr (inl (
            (short, store),
            (inserting, (store_lock 0, refl, refl, refl), (first_id, (place, refl), refl, (one_slot, may, refl))),
          )),
        )),
      ),
    ))))))) tt,
  )

  begins_two : EventMoves g inserted (Called 2 call.Begin (Done (Began 2))) begun_two
  begins_two = (tt, at_once g inserted 2 call.Begin (Done (Began 2)) begun_two (inr (inr (inr (inl (refl, λ w m. absurd m, refl, (not_in, omega arith, room, refl, refl)))))) tt)
    where
      not_in : HasNoTxn inserted 2
      not_in = refl

      room : MayBegin inserted
      room = let before = ap image_cost nothing_there in let cost = change_bytes first_id (get inserting.sessions.records first_id) (Some bytes) in let few = record_limit-most g.version in ((omega arith, omega arith), omega arith)

  called_two : CallStep g begun_two 2 (call.Get first_id) (Waits (Lock (Record first_id))) two_waits
  called_two = inr (inr (inr (inr (inr (inl (
    refl,
    λ w m. absurd m,
    (
      two,
      ((inl refl, refl, omega arith), refl),
      inr (inl (
        refl,
        inr (inl (
          (page, omega (arith, slot_limit-fills g.version, page_bytes-least g.version)),
          (share, Record first_id, refl, refl, refl, refl),
        )),
      )),
    ),
  ))))))

  -- the first waits for nothing, so no victim is needed
  two_alone : (u : ℕ) → is_waiting u two_waits.locks.requests ≡ true → u ≡ 2
  two_alone = waits_alone 2 two_waits.locks.requests (inl refl, (inl refl, (inl refl, (inl refl, (inl refl, (inl refl, (inl refl, (inr refl, tt))))))))

  waits_two : EventMoves g begun_two (Called 2 (call.Get first_id) (Waits (Lock (Record first_id)))) two_waits
  waits_two = (
    tt,
    waits_at_once g begun_two 2 (call.Get first_id) (Record first_id) two_waits called_two two ((inl refl, refl, omega arith), refl) refl (lone_waiter_is_on_no_cycle two_waits.locks.requests 2 two_alone),
  )

  commits : EventMoves g two_waits (Called 1 call.Commit (Done (Committed 2))) one_commits
  commits = (tt, at_once g two_waits 1 call.Commit (Done (Committed 2)) one_commits (inr (inr (inr (inr (inr (inl (refl, idle, (one_changed, ((inr (inl refl), refl, omega arith), refl), inr (inl (refl, inr (inr (inl (refl, (refl, refl)))))))))))))) tt)
    where
      idle : DoesNotWait two_waits 1
      idle w m is = ⊎_elim (λ same. let other = ap (λ (x : Waiting). x.session) same in omega arith) (λ later. absurd later) m

  there : get two_goes_on.sessions.records first_id ≡ Some bytes
  there = put_here empty first_id (Some bytes)

  goes_on : EventMoves g one_commits (Resumed 2 (Done (Got bytes))) two_has
  goes_on =
      resumed_at_once g one_commits 2 (Done (Got bytes)) two_has (inr (
        lock_waiting two (call.Get first_id) (Record first_id),
        inl refl,
        refl,
        inr (
          refl,
          (
            two,
            ((inl refl, refl, omega arith), refl),
            inr (refl, (two_goes_on, (share, refl, refl, refl), ((bytes, there, refl), refl))),
          ),
          refl,
        ),
      )) tt

  pub two_come_through : (last : State) × (made : List Entry) × IsOpened (opening_with (slot_limit g.version) empty) [] (opened_empty (slot_limit g.version) stream_bytes)
      × MovesMaking g (opened_empty (slot_limit g.version) stream_bytes) (two_sessions bytes) last made × (made ≡ told_to_two bytes)
  two_come_through = (
    two_has,
    told_to_two bytes,
    is_opened,
    (
      begun_one,
      _,
      begins_one,
      (
        inserted,
        _,
        inserts,
        (
          begun_two,
          _,
          begins_two,
          (
            two_waits,
            _,
            waits_two,
            (
              one_commits,
              _,
              commits,
              (two_has, _, goes_on, (refl, refl), refl),
              refl,
            ),
            refl,
          ),
          refl,
        ),
        refl,
      ),
      refl,
    ),
    refl,
  )
