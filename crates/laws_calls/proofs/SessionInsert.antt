-- The worked run of one insert under locks: each event may come.
use Rattle.std.proofs.Common.{◌+◌, ◌≡◌, inl, inr, ⊎_elim, ◌≤◌, ℕ, List, [], ◌∷◌, ◌++◌, Bool, true, false, Some, None, refl, ap, length, arith}
use Rattle.std.specs.FinMap.{empty, get, get-empty}
use Rattle.std.specs.Ordering.{eq_by_cmp}
use Rattle.std.proofs.lemmas.Map.Views.{tells_apart}
use Rattle.shore_types.specs.Ids.{exact_pages, page_cmp, rid_cmp}
use Rattle.shore_types.specs.Layout.{HasPage, HasStore}
use Rattle.shore_types.specs.declared.layout.Geometry.{Geometry}
use Rattle.shore_types.specs.declared.locking.Granule.TheVariants as granule
use Rattle.shore_types.specs.declared.locking.Mode.TheVariants.{IX}
use Rattle.shore_types.specs.Versions.{page_bytes-least, record_limit, record_limit-fits, record_limit-most, slot_limit, slot_limit-fills}
use Rattle.laws_locks.specs.CallLocks.{Asked}
use Rattle.shore_model.specs.declared.calls.Answer.TheVariants.{Began, Committed, Inserted}
use Rattle.shore_model.specs.declared.calls.Call.TheVariants as call
use Rattle.shore_model.specs.declared.histories.Decision.TheVariants as decision
use Rattle.shore_model.specs.declared.histories.Entry.{Entry}
use Rattle.shore_model.specs.declared.log_records.Payload.TheVariants.{Change, Commit}
use Rattle.shore_model.specs.Histories.{acknowledged}
use Rattle.laws_calls.proofs.SettledAtOnce.{at_once}
use Rattle.shore_model.specs.declared.step.Step.TheVariants.{Done}
use Rattle.laws_room.proofs.Leaving.{same_page}
use Rattle.laws_room.specs.Claims.{Grows, SlotCounts}
use Rattle.laws_room.specs.LogRooms.{image_cost}
use Rattle.laws_lives.proofs.Ids.{put_here}
use Rattle.laws_lives.specs.Sessions.{SessionTxn}
use Rattle.laws_lives.specs.UndoLists.{nothing_to_undo, with_before_image}
use Rattle.laws_calls.specs.CallHistories.{IsOpened}
use Rattle.laws_calls.specs.Events.{Called, Forced, EventMoves, MovesMaking, entries_of, TicketAsked}
use Rattle.laws_calls.specs.StateChanges.{FitsAt, MayChange, answered, committed, with_durable, begun}
use Rattle.laws_calls.specs.CallSteps.{HasLocked, HasPlace, IsPlaceOf, behind_lock, behind_place}
use Rattle.laws_calls.specs.States.{State}
use Rattle.laws_calls.specs.WorkedRun.{first_id, first_page, one_insert, opened_empty}
use Rattle.laws_lives.specs.Soundness.{opening_with}
use Rattle.laws_calls.proofs.EmptyOpens.{empty_is_opened}

-- one slot on the first page
abbrev one_if : Bool → ℕ
one_if true = 1
one_if false = 0

abbrev one_slot : SlotCounts
one_slot p = one_if (eq_by_cmp page_cmp p first_page)

module _ (g : Geometry) (stream_bytes : ℕ) (bytes : List ℕ) (store : HasStore g 0) (page : HasPage g first_page) (short : length bytes ≤ record_limit g.version) (long : 96000 + record_limit g.version ≤ stream_bytes) where
  abbrev s0 : State
  s0 = opened_empty (slot_limit g.version) stream_bytes

  abbrev s1 : State
  s1 = begun s0 1

  abbrev a1 : SessionTxn
  a1 = record { session = 1; txn = 1; undo = nothing_to_undo }

  -- the store is locked, and then the place
  abbrev lock : Asked
  lock = record { granule = granule.Store 0; mode = IX }

  abbrev with_store : State
  with_store = behind_lock s1 a1 (call.Insert 0 bytes) lock

  abbrev with_place : State
  with_place = behind_place with_store a1 first_id

  abbrev s2 : State
  s2 = answered with_place a1 (call.Insert 0 bytes) (Inserted first_id) one_slot

  abbrev a2 : SessionTxn
  a2 = record { session = 1; txn = 1; undo = with_before_image empty nothing_to_undo first_id }

  abbrev s3 : State
  s3 = committed s2 a2

  abbrev s4 : State
  s4 = with_durable 2 s3

  is_opened : IsOpened (opening_with (slot_limit g.version) empty) [] s0
  is_opened = empty_is_opened (slot_limit g.version) stream_bytes

  fits : FitsAt g.version with_store first_id (Some bytes)
  fits = record { there = omega (arith, slot_limit-fills g.version, page_bytes-least g.version); most = short; room = omega (arith, short, record_limit-fits g.version) }

  nothing_there : get with_store.sessions.records first_id ≡ None
  nothing_there = get-empty rid_cmp first_id

  place : IsPlaceOf g with_store 1 0 bytes first_id
  place = record {
    serves = record { of_store = refl; inside = page; empty = nothing_there; reached = omega arith; fits = fits; free = refl };
    lowest = λ other before h. ⊎_elim (λ less. omega arith) (λ same. let less = same.1 in omega arith) before;
  }

  grows : Grows with_place.counts one_slot first_id
  grows = record {
    here = ap one_if (same_page first_page);
    others = λ p other.
        elim (eq_by_cmp page_cmp p first_page) as (λ b. eq_by_cmp page_cmp p first_page ≡ b → one_if b ≡ 0) [
          | true ↦ λ e. absurd (other (tells_apart exact_pages p first_page e))
          | false ↦ λ e. refl
        ] refl;
  }

  may : MayChange g.version with_place first_id (Some bytes) one_slot
  may = let before = ap image_cost nothing_there in let few = record_limit-most g.version in record { fits = fits; logs = (omega arith, omega arith); grows = grows }

  begins : EventMoves g s0 (Called 1 call.Begin (Done (Began 1))) s1
  begins = (tt, at_once g s0 1 call.Begin (Done (Began 1)) s1 (inr (inr (inr (inl (refl, λ w m. absurd m, refl, (refl, omega arith, ((omega arith, omega arith), omega arith), refl, refl)))))) tt)

  -- both locks are free
  has_store : HasLocked s1 a1 (call.Insert 0 bytes) with_store
  has_store = (lock, refl, refl, refl)

  has_place : HasPlace g with_store a1 0 bytes first_id
  has_place = (place, refl)

  inserts : EventMoves g s1 (Called 1 (call.Insert 0 bytes) (Done (Inserted first_id))) s2
  inserts = (
    tt,
    at_once g s1 1 (call.Insert 0 bytes) (Done (Inserted first_id)) s2 (inr (inr (inr (inr (inr (inl (refl, λ w m. absurd m, (a1, ((inl refl, refl, omega arith), refl), inr (inl (refl, inr (inl ((short, store), (with_store, has_store, (first_id, has_place, refl, (one_slot, may, refl))))))))))))))) tt,
  )

  commits : EventMoves g s2 (Called 1 call.Commit (Done (Committed 2))) s3
  commits = (tt, at_once g s2 1 call.Commit (Done (Committed 2)) s3 (inr (inr (inr (inr (inr (inl (refl, λ w m. absurd m, (a2, ((inl refl, refl, omega arith), refl), inr (inl (refl, inr (inr (inl (refl, (refl, refl)))))))))))))) tt)

  forces : EventMoves g s3 (Forced 2) s4
  forces = (omega arith, omega arith, refl)

  -- before the force the ticket is not durable, and then it is
  not_yet : EventMoves g s3 (TicketAsked 2 false) s3
  not_yet = (((λ e. let clash = e in absurd cc), (λ le. absurd (omega (arith, le)))), refl)

  told : EventMoves g s4 (TicketAsked 2 true) s4
  told = (((λ e. omega arith), (λ le. refl)), refl)

  abbrev made : List Entry
  made =
      entries_of s0 (Called 1 call.Begin (Done (Began 1))) s1 ++ entries_of s1 (Called 1 (call.Insert 0 bytes) (Done (Inserted first_id))) s2
      ++ entries_of s2 (Called 1 call.Commit (Done (Committed 2))) s3 ++ entries_of s3 (TicketAsked 2 false) s3 ++ entries_of s3 (Forced 2) s4
      ++ entries_of s4 (TicketAsked 2 true) s4 ++ []

  pub session_comes_through : (last : State) × (made : List Entry) × IsOpened (opening_with (slot_limit g.version) empty) [] (opened_empty (slot_limit g.version) stream_bytes)
      × MovesMaking g (opened_empty (slot_limit g.version) stream_bytes) (one_insert bytes) last made
      × (get last.sessions.records first_id ≡ Some bytes) × (acknowledged made ≡ decision.Commit 1 ∷ [])
  session_comes_through = (
    s4,
    made,
    is_opened,
    (s1, _, begins, (s2, _, inserts, (s3, _, commits, (s3, _, not_yet, (s4, _, forces, (s4, _, told, (refl, refl), refl), refl), refl), refl), refl), refl),
    put_here empty first_id (Some bytes),
    refl,
  )

  -- what the run leaves in the log
  pub session_leaves : session_comes_through.0.log
      ≡ record { txn = 1; previous = 0; payload = Change first_id None (Some bytes) } ∷ record { txn = 1; previous = 1; payload = Commit } ∷ []
  unfolding session_comes_through
  session_leaves =
      ap (λ before. record { txn = 1; previous = 0; payload = Change first_id before (Some bytes) } ∷ record { txn = 1; previous = 1; payload = Commit } ∷ []) nothing_there

  -- its first two events
  pub session_inserts : (begun : State) × (done : State) × EventMoves g (opened_empty (slot_limit g.version) stream_bytes) (Called 1 call.Begin (Done (Began 1))) begun
      × EventMoves g begun (Called 1 (call.Insert 0 bytes) (Done (Inserted first_id))) done × (begun.log ≡ []) × (begun.durable ≡ 0)
      × (done.log ≡ record { txn = 1; previous = 0; payload = Change first_id None (Some bytes) } ∷ []) × (done.durable ≡ 0)
  session_inserts =
      (s1, s2, begins, inserts, refl, refl, ap (λ before. record { txn = 1; previous = 0; payload = Change first_id before (Some bytes) } ∷ []) nothing_there, refl)
