-- The worked run of a commit that is forced while it is under way: each event may come, and such a moment with it.
use Rattle.std.proofs.Common.{◌+◌, ◌≡◌, inl, inr, ⊎_elim, ◌≤◌, ℕ, List, [], ◌∷◌, ◌++◌, Bool, true, false, Some, None, refl, sym, ap, length, take, arith}
use Rattle.std.specs.FinMap.{empty, get, get-empty}
use Rattle.std.specs.Ordering.{eq_by_cmp}
use Rattle.std.proofs.lemmas.List.Elements.{All-cons, All-nil}
use Rattle.std.proofs.lemmas.Map.Views.{tells_apart}
use Rattle.shore_types.specs.Ids.{exact_pages, page_cmp, rid_cmp}
use Rattle.shore_types.specs.Images.{Image}
use Rattle.shore_types.specs.Layout.{HasPage, HasStore}
use Rattle.shore_types.specs.declared.layout.Geometry.{Geometry}
use Rattle.shore_types.specs.Versions.{page_bytes-least, record_limit, record_limit-fits, record_limit-most, slot_limit, slot_limit-fills}
use Rattle.shore_types.specs.declared.locking.Granule.TheVariants as granule
use Rattle.shore_types.specs.declared.locking.Mode.TheVariants.{IX}
use Rattle.shore_gate.specs.declared.anchors.Anchor.{Anchor}
use Rattle.shore_model.specs.declared.calls.Answer.TheVariants.{Began, Committed, Inserted}
use Rattle.shore_model.specs.declared.calls.Call.TheVariants as call
use Rattle.shore_model.specs.declared.histories.Decision.TheVariants as decision
use Rattle.shore_model.specs.declared.histories.Entry.{Entry}
use Rattle.shore_model.specs.declared.log_records.LogRecord.{LogRecord}
use Rattle.shore_model.specs.declared.log_records.Payload.TheVariants.{Change}
use Rattle.shore_model.specs.declared.step.Step.TheVariants.{Done}
use Rattle.laws_room.proofs.Leaving.{same_page}
use Rattle.laws_room.specs.Claims.{Grows, SlotCounts}
use Rattle.laws_room.specs.LogRooms.{image_cost}
use Rattle.laws_lives.specs.LogPrefixes.{decisions_in}
use Rattle.laws_lives.specs.Pages.{empty_page}
use Rattle.laws_lives.specs.Recovery.{AppendRecord, after_append}
use Rattle.laws_lives.specs.Sessions.{SessionTxn}
use Rattle.laws_lives.specs.UndoLists.{nothing_to_undo, with_before_image}
use Rattle.laws_calls.proofs.SettledAtOnce.{at_once}
use Rattle.laws_calls.specs.CallSteps.{HasLocked, HasPlace, IsPlaceOf, behind_lock, behind_place}
use Rattle.laws_calls.specs.Events.{Called, EventMoves, entries_of}
use Rattle.laws_calls.specs.StateChanges.{FitsAt, MayChange, answered, begun, committed}
use Rattle.laws_calls.specs.States.{State}
use Rattle.laws_calls.specs.WorkedRun.{first_id, first_page, opened_empty}
use Rattle.laws_checkpoints.specs.Checkpoints.{not_anchored}
use Rattle.laws_checkpoints.specs.CheckpointedStores.{CheckpointedStore, formatted_store}
use Rattle.laws_checkpoints.specs.RecoveryNumbers.{recovery_after}
use Rattle.laws_images.specs.StandsBehind.{anchored_by}
use Rattle.laws_runs.specs.CheckpointSteps.{CheckpointedMoves, CheckpointedState, CheckpointedSteps}
use Rattle.laws_runs.specs.SoundStores.{IsLost}
use Rattle.laws_threads.specs.Amid.{IsLostAmid, IsMoment}
use Rattle.laws_threads.specs.WorkedCommit.{begun_and_inserted, commit_under_way, its_commit, its_insert}

-- one slot on the first page
abbrev one_if : Bool → ℕ
one_if true = 1
one_if false = 0

abbrev one_slot : SlotCounts
one_slot p = one_if (eq_by_cmp page_cmp p first_page)

abbrev with_appended : CheckpointedStore → LogRecord → CheckpointedStore
with_appended s r = record s { store = after_append s.store r; recovery = recovery_after s.store (AppendRecord r) s.recovery }

module _ (g : Geometry) (stream_bytes : ℕ) (bytes : List ℕ) (store : HasStore g 0) (page : HasPage g first_page) (short : length bytes ≤ record_limit g.version) (long : 96000 + record_limit g.version ≤ stream_bytes)
    (anchor : Anchor) (first_anchor : anchored_by anchor ≡ not_anchored) where
  -- ---- the states of the sessions

  abbrev s0 : State
  s0 = opened_empty (slot_limit g.version) stream_bytes

  abbrev s1 : State
  s1 = begun s0 1

  abbrev a1 : SessionTxn
  a1 = record { session = 1; txn = 1; undo = nothing_to_undo }

  abbrev with_store : State
  with_store = behind_lock s1 a1 (call.Insert 0 bytes) (record { granule = granule.Store 0; mode = IX })

  abbrev with_place : State
  with_place = behind_place with_store a1 first_id

  abbrev s2 : State
  s2 = answered with_place a1 (call.Insert 0 bytes) (Inserted first_id) one_slot

  abbrev a2 : SessionTxn
  a2 = record { session = 1; txn = 1; undo = with_before_image empty nothing_to_undo first_id }

  abbrev s3 : State
  s3 = committed s2 a2

  nothing_there : get with_store.sessions.records first_id ≡ None
  nothing_there = get-empty rid_cmp first_id

  fits : FitsAt g.version with_store first_id (Some bytes)
  fits = record { there = omega (arith, slot_limit-fills g.version, page_bytes-least g.version); most = short; room = omega (arith, short, record_limit-fits g.version) }

  place : IsPlaceOf g with_store 1 0 bytes first_id
  place = record {
    serves = record { of_store = refl; inside = page; empty = nothing_there; reached = omega arith; fits = fits; free = refl };
    lowest = λ other before h. ⊎_elim (λ less. omega arith) (λ same. let less = same.1 in omega arith) before;
  }

  grows : Grows with_place.counts one_slot first_id
  grows = record {
    here = ap one_if (same_page first_page);
    others = λ p other.
        elim (eq_by_cmp page_cmp p first_page) as (λ b. eq_by_cmp page_cmp p first_page ≡ b → one_if b ≡ 0) [
          | true ↦ λ e. absurd (other (tells_apart exact_pages p first_page e))
          | false ↦ λ e. refl
        ] refl;
  }

  may : MayChange g.version with_place first_id (Some bytes) one_slot
  may = let before = ap image_cost nothing_there in let few = record_limit-most g.version in record { fits = fits; logs = (omega arith, omega arith); grows = grows }

  begins : EventMoves g s0 (Called 1 call.Begin (Done (Began 1))) s1
  begins = (tt, at_once g s0 1 call.Begin (Done (Began 1)) s1 (inr (inr (inr (inl (refl, λ w m. absurd m, refl, (refl, omega arith, ((omega arith, omega arith), omega arith), refl, refl)))))) tt)

  has_store : HasLocked s1 a1 (call.Insert 0 bytes) with_store
  has_store = (record { granule = granule.Store 0; mode = IX }, refl, refl, refl)

  has_place : HasPlace g with_store a1 0 bytes first_id
  has_place = (place, refl)

  inserts : EventMoves g s1 (Called 1 (call.Insert 0 bytes) (Done (Inserted first_id))) s2
  inserts = (
    tt,
    at_once g s1 1 (call.Insert 0 bytes) (Done (Inserted first_id)) s2 (inr (inr (inr (inr (inr (inl (refl, λ w m. absurd m, (a1, ((inl refl, refl, omega arith), refl), inr (inl (refl, inr (inl ((short, store), (with_store, has_store, (first_id, has_place, refl, (one_slot, may, refl))))))))))))))) tt,
  )

  commits : EventMoves g s2 (Called 1 call.Commit (Done (Committed 2))) s3
  commits = (tt, at_once g s2 1 call.Commit (Done (Committed 2)) s3 (inr (inr (inr (inr (inr (inl (refl, λ w m. absurd m, (a2, ((inl refl, refl, omega arith), refl), inr (inl (refl, inr (inr (inl (refl, (refl, refl)))))))))))))) tt)

  -- ---- their stores

  logged : s2.log ≡ its_insert bytes ∷ []
  logged = ap (λ (before : Image). record { txn = 1; previous = 0; payload = Change first_id before (Some bytes) } ∷ []) nothing_there

  abbrev m0 : CheckpointedState
  m0 = record { state = s0; store = formatted_store }

  abbrev m1 : CheckpointedState
  m1 = record { state = s1; store = formatted_store }

  abbrev pub m2 : CheckpointedState
  m2 = record { state = s2; store = with_appended formatted_store (its_insert bytes) }

  abbrev pub m3 : CheckpointedState
  m3 = record { state = s3; store = with_appended m2.store its_commit }

  abbrev pub made : List Entry
  made = entries_of s0 (Called 1 call.Begin (Done (Began 1))) s1 ++ entries_of s1 (Called 1 (call.Insert 0 bytes) (Done (Inserted first_id))) s2 ++ []

  pub comes : CheckpointedMoves g m0 (begun_and_inserted bytes) m2 made
  comes = (
    m1,
    _,
    ((begins, refl, record { log = refl; durable = refl }), refl),
    (
      m2,
      _,
      ((inserts, (tt, m2.store.store, (refl, refl), refl), record { log = sym logged; durable = refl }), (m2.store.store, (refl, refl), refl)),
      (refl, refl),
      refl,
    ),
    refl,
  )

  commit_steps : CheckpointedSteps g m2 commit_under_way m3
  commit_steps = (
    (commits, (tt, m3.store.store, (refl, refl), refl), record { log = ap (λ (l : List LogRecord). l ++ its_commit ∷ []) (sym logged); durable = refl }),
    (m3.store.store, (refl, refl), refl),
  )

  pub is_moment : IsMoment g m2 commit_under_way m3 anchor 2 (2 ∷ [])
  is_moment = record {
    step = commit_steps;
    told = omega arith;
    sent = omega arith;
    seen_stable = All-cons (λ n. n ≤ 2) 2 [] (omega arith) (All-nil (λ n. n ≤ 2));
    anchored = inl first_anchor;
  }

  pub is_lost_amid : IsLostAmid m2 m3 2 (λ p. empty_page)
  is_lost_amid = record { least = omega arith; most = omega arith; shows = λ p. inl refl }

  pub decided : decisions_in 0 (take 2 m3.store.store.log) ≡ decision.Commit 1 ∷ []
  decided = refl

  pub not_before : IsLost m2.store.store 2 (λ p. empty_page) → ⊥
  not_before lost = let most = lost.most in absurd (omega (arith, most))
