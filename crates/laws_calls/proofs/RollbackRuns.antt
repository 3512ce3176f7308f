-- The worked runs with a way back and with an abort: each event may come.
use Rattle.std.proofs.Common.{◌+◌, ◌≡◌, inl, inr, ⊎_elim, ◌≤◌, ℕ, List, [], ◌∷◌, ◌++◌, Bool, true, false, cond, max, Some, None, refl, sym, ap, subst, ◌∙◌, length, arith}
use Rattle.std.specs.FinMap.{empty, get, get-empty}
use Rattle.std.specs.Prelude.{IsSome}
use Rattle.std.specs.Ordering.{eq_by_cmp}
use Rattle.std.proofs.lemmas.Map.Views.{tells_apart}
use Rattle.shore_types.specs.Ids.{exact_pages, page_cmp, rid_cmp}
use Rattle.shore_types.specs.Images.{Image, image_len}
use Rattle.shore_types.specs.Layout.{HasPage, HasStore}
use Rattle.shore_types.specs.declared.faults.Fault.TheVariants as fault
use Rattle.shore_types.specs.declared.ids.Rid.{Rid}
use Rattle.shore_types.specs.declared.layout.Geometry.{Geometry}
use Rattle.shore_types.specs.declared.locking.Granule.TheVariants.{Record}
use Rattle.shore_types.specs.declared.locking.Mode.TheVariants.{EX}
use Rattle.shore_types.specs.Versions.{page_bytes-least, record_limit, record_limit-fits, record_limit-most, slot_limit, slot_limit-fills}
use Rattle.shore_model.specs.declared.calls.Answer.TheVariants.{Aborted, Began, Committed, Inserted, Saved, Updated, WentBack}
use Rattle.shore_model.specs.declared.calls.Call.{Call}
use Rattle.shore_model.specs.declared.calls.Call.TheVariants as call
use Rattle.shore_model.specs.declared.histories.Decision.TheVariants as decision
use Rattle.shore_model.specs.declared.histories.Entry.{Entry}
use Rattle.shore_model.specs.Histories.{acknowledged}
use Rattle.laws_locks.specs.CallLocks.{Asked}
use Rattle.shore_page.specs.Room.{Fits}
use Rattle.shore_page.specs.Undo.{longest}
use Rattle.laws_room.proofs.Costs.{change_bytes}
use Rattle.laws_room.proofs.Leaving.{same_page}
use Rattle.laws_room.proofs.Pages.{same_id}
use Rattle.laws_room.specs.Claims.{Grows, SlotCounts, befores_at, slots_of}
use Rattle.laws_room.specs.LogRooms.{image_cost}
use Rattle.laws_lives.proofs.Ids.{put_here}
use Rattle.shore_model.specs.declared.rollbacks.Rollback.TheVariants.{Whole}
use Rattle.laws_lives.specs.Sessions.{SessionTxn}
use Rattle.laws_lives.specs.UndoLists.{nothing_to_undo, undo_rolled, with_before_image}
use Rattle.laws_calls.proofs.SettledAtOnce.{at_once}
use Rattle.shore_model.specs.declared.step.Step.TheVariants.{Done, Refused}
use Rattle.laws_calls.proofs.Unwinding.{with_list}
use Rattle.laws_calls.specs.CallHistories.{IsOpened}
use Rattle.laws_calls.specs.CallSteps.{IsPlaceOf, aborted, behind_lock, behind_place}
use Rattle.laws_calls.specs.Events.{Called, Forced, EventMoves, MovesMaking, TicketAsked}
use Rattle.laws_calls.specs.Rollbacks.{TakesCall, put_back}
use Rattle.laws_calls.specs.Shapes.{store_lock, store_locked}
use Rattle.laws_calls.specs.StateChanges.{FitsAt, MayChange, answered, committed, with_durable, begun}
use Rattle.laws_calls.specs.States.{State}
use Rattle.laws_calls.specs.WorkedRollbacks.{abort_twice, back_and_commit}
use Rattle.laws_calls.specs.WorkedRun.{first_id, first_page, opened_empty}
use Rattle.laws_lives.specs.Soundness.{opening_with}
use Rattle.laws_calls.proofs.EmptyOpens.{empty_is_opened}

-- one slot on the first page
abbrev one_if : Bool → ℕ
one_if true = 1
one_if false = 0

abbrev one_slot : SlotCounts
one_slot p = one_if (eq_by_cmp page_cmp p first_page)

one_there : one_slot first_page ≡ 1
one_there = ap one_if (same_page first_page)

module _ (g : Geometry) (stream_bytes : ℕ) (bytes : List ℕ) (store : HasStore g 0) (page : HasPage g first_page) (short : length bytes ≤ record_limit g.version) (long : 96000 + record_limit g.version ≤ stream_bytes) where
  -- ---- a record is inserted

  abbrev opened : State
  opened = opened_empty (slot_limit g.version) stream_bytes

  abbrev pub begun_one : State
  begun_one = begun opened 1

  abbrev one : SessionTxn
  one = record { session = 1; txn = 1; undo = nothing_to_undo }

  abbrev insert : Call
  insert = call.Insert 0 bytes

  abbrev inserting : State
  inserting = store_locked begun_one one 0 bytes

  abbrev pub inserted : State
  inserted = answered (behind_place inserting one first_id) one insert (Inserted first_id) one_slot

  abbrev pub one_changed : SessionTxn
  one_changed = with_list one (with_before_image empty nothing_to_undo first_id)

  pub is_opened : IsOpened (opening_with (slot_limit g.version) empty) [] opened
  is_opened = empty_is_opened (slot_limit g.version) stream_bytes

  pub begins : EventMoves g opened (Called 1 call.Begin (Done (Began 1))) begun_one
  begins = (tt, at_once g opened 1 call.Begin (Done (Began 1)) begun_one (inr (inr (inr (inl (refl, λ w m. absurd m, refl, (refl, omega arith, ((omega arith, omega arith), omega arith), refl, refl)))))) tt)

  fits : FitsAt g.version inserting first_id (Some bytes)
  fits = record { there = omega (arith, slot_limit-fills g.version, page_bytes-least g.version); most = short; room = omega (arith, short, record_limit-fits g.version) }

  pub nothing_there : get inserting.sessions.records first_id ≡ None
  nothing_there = get-empty rid_cmp first_id

  place : IsPlaceOf g inserting 1 0 bytes first_id
  place = record {
    serves = record { of_store = refl; inside = page; empty = nothing_there; reached = omega arith; fits = fits; free = refl };
    lowest = λ other before h. ⊎_elim (λ less. omega arith) (λ same. let less = same.1 in omega arith) before;
  }

  grows : Grows inserting.counts one_slot first_id
  grows = record {
    here = one_there;
    others = λ p other.
        elim (eq_by_cmp page_cmp p first_page) as (λ b. eq_by_cmp page_cmp p first_page ≡ b → one_if b ≡ 0) [
          | true ↦ λ e. absurd (other (tells_apart exact_pages p first_page e))
          | false ↦ λ e. refl
        ] refl;
  }

  may : MayChange g.version (behind_place inserting one first_id) first_id (Some bytes) one_slot
  may = let before = ap image_cost nothing_there in let few = record_limit-most g.version in record { fits = fits; logs = (omega arith, omega arith); grows = grows }

  pub inserts : EventMoves g begun_one (Called 1 insert (Done (Inserted first_id))) inserted
  inserts = (
    tt,
    at_once g begun_one 1 insert (Done (Inserted first_id)) inserted (inr (inr (inr (inr (inr (inl (
      refl,
      λ w m. absurd m,
      (
        one,
        ((inl refl, refl, omega arith), refl),
        inr (inl (
          refl,
          inr (inl (
            (short, store),
            (inserting, (store_lock 0, refl, refl, refl), (first_id, (place, refl), refl, (one_slot, may, refl))),
          )),
        )),
      ),
    ))))))) tt,
  )

  pub inserted_there : get inserted.sessions.records first_id ≡ Some bytes
  inserted_there = put_here empty first_id (Some bytes)

  -- the images before the insert
  abbrev pub first_image : Image
  first_image = get inserting.sessions.records first_id

  abbrev pub images : List (Rid × Image)
  images = (first_id, first_image) ∷ []

  -- ---- an abort that is interrupted

  abbrev stopped : State
  stopped = put_back inserted one_changed [] (images) Whole

  abbrev one_stopped : SessionTxn
  one_stopped = with_list one (undo_rolled one_changed.undo [] Whole)

  abbrev over : State
  over = aborted stopped one_stopped

  stops : EventMoves g inserted (Called 1 call.Abort (Refused fault.Memory)) stopped
  stops = (
    tt,
    at_once g inserted 1 call.Abort (Refused fault.Memory) stopped (inr (inr (inr (inr (inr (inl (
      refl,
      λ w m. absurd m,
      (
        one_changed,
        ((inl refl, refl, omega arith), refl),
        inr (inr (inr (refl, (stopped, inr ([], images, some_images, refl, omega arith, refl), inl refl, refl)))),
      ),
    ))))))) tt,
  )
    where
      some_images : images ≡ [] → ⊥
      some_images e = cc

  not_taken : TakesCall one_stopped.undo (call.Get first_id) → ⊥
  not_taken (inl none) = cc
  not_taken (inr (inl abort)) = cc
  not_taken (inr (inr back)) = let clash = back.2 in cc

  must : EventMoves g stopped (Called 1 (call.Get first_id) (Refused fault.MustAbort)) stopped
  must = (tt, at_once g stopped 1 (call.Get first_id) (Refused fault.MustAbort) stopped (inr (inr (inr (inr (inr (inl (refl, λ w m. absurd m, (one_stopped, ((inl refl, refl, omega arith), refl), inl (tt, not_taken, refl, refl))))))))) tt)

  aborts : EventMoves g stopped (Called 1 call.Abort (Done Aborted)) over
  aborts = (tt, at_once g stopped 1 call.Abort (Done Aborted) over (inr (inr (inr (inr (inr (inl (refl, λ w m. absurd m, (one_stopped, ((inl refl, refl, omega arith), refl), inr (inr (inr (refl, (refl, refl)))))))))))) tt)

  pub abort_comes_through : (last : State) × (made : List Entry) × IsOpened (opening_with (slot_limit g.version) empty) [] (opened_empty (slot_limit g.version) stream_bytes) × MovesMaking g (opened_empty (slot_limit g.version) stream_bytes) (abort_twice bytes) last made
      × (get last.sessions.records first_id ≡ None) × (last.sessions.active ≡ []) × (last.locks.requests ≡ []) × (acknowledged made ≡ [])
  abort_comes_through = (
    over,
    _,
    is_opened,
    (begun_one, _, begins, (inserted, _, inserts, (stopped, _, stops, (stopped, _, must, (over, _, aborts, (refl, refl), refl), refl), refl), refl), refl),
    put_here inserted.sessions.records first_id first_image ∙ nothing_there,
    refl,
    refl,
    refl,
  )

  -- ---- a way back

  module _ (more : List ℕ) (also : length more ≤ record_limit g.version) (longer : 200000 ≤ stream_bytes) where
    abbrev saved : State
    saved = answered inserted one_changed call.Savepoint (Saved 0) inserted.counts

    abbrev one_saved : SessionTxn
    one_saved = with_list one (record { images = images; marks = 1 ∷ []; rolling = None })

    abbrev update : Call
    update = call.Update first_id more

    abbrev write_lock : Asked
    write_lock = record { granule = Record first_id; mode = EX }

    abbrev updating : State
    updating = behind_lock saved one_saved update write_lock

    abbrev updated : State
    updated = answered updating one_saved update Updated one_slot

    abbrev one_updated : SessionTxn
    one_updated = with_list one (with_before_image inserted.sessions.records one_saved.undo first_id)

    abbrev back : State
    back = answered updated one_updated (call.BackTo 0) WentBack one_slot

    abbrev one_back : SessionTxn
    one_back = with_list one (record { images = images; marks = 1 ∷ []; rolling = None })

    abbrev committing : State
    committing = committed back one_back

    abbrev forced : State
    forced = with_durable 4 committing

    saves : EventMoves g inserted (Called 1 call.Savepoint (Done (Saved 0))) saved
    saves = (tt, at_once g inserted 1 call.Savepoint (Done (Saved 0)) saved (inr (inr (inr (inr (inr (inl (refl, λ w m. absurd m, (one_changed, ((inl refl, refl, omega arith), refl), inr (inl (refl, inr (inr (inr (inl (refl, (omega arith, refl, refl))))))))))))))) tt)

    -- the one slot of the page has room for either record
    one_fits : (befores : ℕ) → befores ≤ record_limit g.version → Fits g.version (record { image = get inserted.sessions.records first_id; claim = max (image_len (get inserted.sessions.records first_id)) befores } ∷ []) 0 (length more)
    one_fits befores low =
        let here = ap image_len inserted_there in
        record { there = omega (arith, slot_limit-fills g.version, page_bytes-least g.version); most = also; room = omega (arith, here, short, also, low, record_limit-fits g.version) }

    low_befores : longest (befores_at first_id saved.sessions.active) ≤ record_limit g.version
    low_befores =
        let none = ap image_len nothing_there in
        let is : longest (befores_at first_id saved.sessions.active) ≡ 0 = same_befores ∙ ap (λ n. max n 0) none in
        omega (arith, is)
      where
        same_befores : longest (befores_at first_id saved.sessions.active) ≡ max (image_len first_image) 0
        same_befores = ap (λ b. longest (([] ++ cond b (first_image ∷ []) []) ++ [])) (same_id first_id)

    fits_again : FitsAt g.version updating first_id (Some more)
    fits_again =
        subst (λ n. Fits g.version (slots_of saved.sessions.records saved.sessions.active first_page n) 0 (length more)) (sym one_there)
        (one_fits (longest (befores_at first_id saved.sessions.active)) low_befores)

    again : MayChange g.version updating first_id (Some more) one_slot
    again =
        let before = ap image_cost nothing_there in
        let here = ap image_cost inserted_there in
        let cost = change_bytes first_id first_image (Some bytes) in
        let few = record_limit-most g.version in
        record {
          fits = fits_again;
          logs = (omega arith, omega (arith, before, here, cost, short, also, longer));
          grows = record { here = let there = one_there in omega (arith, there); others = λ p other. refl };
        }

    updates : EventMoves g saved (Called 1 update (Done Updated)) updated
    updates = (
      tt,
      at_once g saved 1 update (Done Updated) updated (inr (inr (inr (inr (inr (inl (
        refl,
        λ w m. absurd m,
        (
          one_saved,
          ((inl refl, refl, omega arith), refl),
          inr (inl (
            refl,
            inr (inl (
              (also, (page, omega (arith, slot_limit-fills g.version, page_bytes-least g.version))),
              (updating, (write_lock, refl, refl, refl), (some_there (get inserted.sessions.records first_id) inserted_there, refl, (one_slot, again, refl))),
            )),
          )),
        ),
      ))))))) tt,
    )
      where
        some_there : (o : Image) → o ≡ Some bytes → IsSome o
        some_there o e = cc

    goes_back : EventMoves g updated (Called 1 (call.BackTo 0) (Done WentBack)) back
    goes_back = (tt, at_once g updated 1 (call.BackTo 0) (Done WentBack) back (inr (inr (inr (inr (inr (inl (refl, λ w m. absurd m, (one_updated, ((inl refl, refl, omega arith), refl), inr (inr (inl (0, refl, inl refl, (omega arith, refl, refl)))))))))))) tt)

    commits : EventMoves g back (Called 1 call.Commit (Done (Committed 4))) committing
    commits = (tt, at_once g back 1 call.Commit (Done (Committed 4)) committing (inr (inr (inr (inr (inr (inl (refl, λ w m. absurd m, (one_back, ((inl refl, refl, omega arith), refl), inr (inl (refl, inr (inr (inl (refl, (refl, refl)))))))))))))) tt)

    forces : EventMoves g committing (Forced 4) forced
    forces = (omega arith, omega arith, refl)

    told : EventMoves g forced (TicketAsked 4 true) forced
    told = (((λ e. omega arith), (λ le. refl)), refl)

    pub goes_back_and_commits : (last : State) × (made : List Entry) × IsOpened (opening_with (slot_limit g.version) empty) [] (opened_empty (slot_limit g.version) stream_bytes)
        × MovesMaking g (opened_empty (slot_limit g.version) stream_bytes) (back_and_commit bytes more) last made
        × (get last.sessions.records first_id ≡ Some bytes) × (acknowledged made ≡ decision.Commit 1 ∷ [])
    goes_back_and_commits = (
      forced,
      _,
      is_opened,
      (
        begun_one,
        _,
        begins,
        (
          inserted,
          _,
          inserts,
          (saved, _, saves, (updated, _, updates, (back, _, goes_back, (committing, _, commits, (forced, _, forces, (forced, _, told, (refl, refl), refl), refl), refl), refl), refl), refl),
          refl,
        ),
        refl,
      ),
      put_here updated.sessions.records first_id (get inserted.sessions.records first_id) ∙ inserted_there,
      refl,
    )
