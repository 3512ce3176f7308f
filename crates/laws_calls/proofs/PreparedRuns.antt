-- The worked runs with a prepare and its resolve: each event may come.
use Rattle.std.proofs.Common.{◌+◌, inl, inr, ◌≤◌, ℕ, List, [], ◌∷◌, Some, None, refl, ap, ◌∙◌, length, arith}
use Rattle.shore_types.specs.Layout.{HasPage, HasStore}
use Rattle.shore_types.specs.declared.layout.Geometry.{Geometry}
use Rattle.shore_types.specs.declared.locking.Granule.TheVariants.{Record}
use Rattle.shore_types.specs.declared.versions.Version.{Version}
use Rattle.shore_types.specs.declared.versions.Version.TheVariants.{One, Two}
use Rattle.shore_types.specs.Versions.{global_limit, record_limit, record_limit-most}
use Rattle.shore_model.specs.declared.calls.Answer.TheVariants.{Prepared, Resolved}
use Rattle.shore_model.specs.declared.calls.Call.TheVariants as call
use Rattle.shore_model.specs.declared.calls.Outcome.TheVariants as outcome
use Rattle.shore_model.specs.declared.histories.Decision.TheVariants as decision
use Rattle.shore_model.specs.declared.step.Step.TheVariants.{Done, Waits}
use Rattle.shore_model.specs.declared.step.Wait.TheVariants.{Durable}
use Rattle.laws_room.proofs.Costs.{change_bytes, prepare_bytes}
use Rattle.laws_room.specs.LogRooms.{image_cost}
use Rattle.laws_lives.proofs.Ids.{put_here}
use Rattle.laws_lives.specs.Sessions.{ResolvedTxn, SessionTxn}
use Rattle.shore_model.specs.declared.rollbacks.Rollback.TheVariants.{Whole}
use Rattle.laws_calls.proofs.PreparedGranules.{lists_one}
use Rattle.laws_calls.proofs.RollbackRuns.{begins, begun_one, first_image, inserted, inserted_there, inserts, is_opened, nothing_there, one_changed}
use Rattle.laws_calls.proofs.SettledAtOnce.{at_once, resumed_at_once}
use Rattle.laws_calls.specs.CallSteps.{prepare_ended}
use Rattle.laws_calls.specs.Events.{Called, EventMoves, Forced, Resumed}
use Rattle.laws_calls.specs.Prepares.{MayPrepare, granules_in_ex, prepared}
use Rattle.laws_calls.specs.Resolves.{resolve_committed, resolve_ended, rollback_decided, rollback_done}
use Rattle.laws_calls.specs.Rollbacks.{rolled}
use Rattle.laws_calls.specs.StateChanges.{decision_waiting, with_durable}
use Rattle.laws_calls.specs.States.{State}
use Rattle.laws_calls.specs.WorkedPrepares.{ResolvesThrough, short_name}
use Rattle.laws_calls.specs.WorkedRun.{first_id, first_page}

-- a short name is no longer than any version allows
names_fit : (v : Version) → 64 ≤ global_limit v
unfolding global_limit
names_fit One = omega arith
names_fit Two = omega arith

module _ (g : Geometry) (stream_bytes : ℕ) (bytes : List ℕ) (store : HasStore g 0) (page : HasPage g first_page) (short : length bytes ≤ record_limit g.version) (long : 96000 + record_limit g.version ≤ stream_bytes) where
  abbrev its : SessionTxn
  its = one_changed g stream_bytes bytes store page short long

  abbrev there : State
  there = inserted g stream_bytes bytes store page short long

  abbrev preparing : State
  preparing = prepared there its short_name (granules_in_ex there its)

  abbrev forced : State
  forced = with_durable 2 preparing

  abbrev in_doubt : State
  in_doubt = prepare_ended forced 1 1 short_name

  prepares : EventMoves g there (Called 1 (call.Prepare short_name) (Waits (Durable 2))) preparing
  prepares = (
    tt,
    at_once g there 1 (call.Prepare short_name) (Waits (Durable 2)) preparing (inr (inr (inr (inr (inr (inl (
      refl,
      λ w m. absurd m,
      (its, ((inl refl, refl, omega arith), refl), inr (inl (refl, inr (inr (inr (inr (short_name, refl, ((omega arith, omega (arith, names_fit g.version)), tt, room, refl, refl)))))))),
    ))))))) tt,
  )
    where
      room : MayPrepare there its short_name
      room =
          let before = ap image_cost (nothing_there g stream_bytes bytes store page short long) in
          let cost = change_bytes first_id (first_image g stream_bytes bytes store page short long) (Some bytes) in
          let count = lists_one there its (Record first_id) refl in
          let more = prepare_bytes short_name (granules_in_ex there its) in
          let few = record_limit-most g.version in
          (omega arith, omega arith)

  forces : EventMoves g preparing (Forced 2) forced
  forces = (omega arith, omega arith, refl)

  answers : EventMoves g forced (Resumed 1 (Done Prepared)) in_doubt
  answers = resumed_at_once g forced 1 (Done Prepared) in_doubt (inr (
    decision_waiting 1 (call.Prepare short_name) 2,
    inl refl,
    refl,
    inr (refl, inr (inl (omega arith, refl, (1, short_name, (inl refl, refl), refl, refl))), refl),
  )) tt

  -- ---- resolved to commit

  abbrev committing : State
  committing = resolve_committed in_doubt 2 its short_name

  abbrev committed : ResolvedTxn
  committed = record { txn = 1; global = short_name; outcome = outcome.Commit }

  abbrev commit_forced : State
  commit_forced = with_durable 3 committing

  abbrev commit_told : State
  commit_told = resolve_ended commit_forced 2 committed

  commits : EventMoves g in_doubt (Called 2 (call.Resolve short_name outcome.Commit) (Waits (Durable 3))) committing
  commits = (
    tt,
    at_once g in_doubt 2 (call.Resolve short_name outcome.Commit) (Waits (Durable 3)) committing (inr (inr (inr (inr (inr (inr (inr (
      refl,
      λ w m. absurd m,
      inr (short_name, outcome.Commit, refl, inr (inl refl, (its, (inl refl, inl refl), refl, refl))),
    )))))))) tt,
  )

  commit_forces : EventMoves g committing (Forced 3) commit_forced
  commit_forces = (omega arith, omega arith, refl)

  commit_answers : EventMoves g commit_forced (Resumed 2 (Done Resolved)) commit_told
  commit_answers = resumed_at_once g commit_forced 2 (Done Resolved) commit_told (inr (
    decision_waiting 2 (call.Resolve short_name outcome.Commit) 3,
    inl refl,
    refl,
    inr (refl, inr (inr (omega arith, refl, (committed, (inl refl, λ m. m), refl, refl))), refl),
  )) tt

  pub commit_comes_through : ResolvesThrough g stream_bytes bytes outcome.Commit (Some bytes) (decision.Commit 1)
  commit_comes_through = (
    commit_told,
    _,
    is_opened g stream_bytes bytes store page short long,
    (
      begun_one g stream_bytes bytes store page short long,
      _,
      begins g stream_bytes bytes store page short long,
      (
        there,
        _,
        inserts g stream_bytes bytes store page short long,
        (preparing, _, prepares, (forced, _, forces, (in_doubt, _, answers, (committing, _, commits, (commit_forced, _, commit_forces, (commit_told, _, commit_answers, (refl, refl), refl), refl), refl), refl), refl), refl),
        refl,
      ),
      refl,
    ),
    inserted_there g stream_bytes bytes store page short long,
    refl,
    refl,
    refl,
    refl,
    refl,
  )

  -- ---- resolved to roll back

  abbrev its_rolled : SessionTxn
  its_rolled = rolled its its.undo.images Whole

  abbrev decided : State
  decided = rollback_decided in_doubt its short_name

  abbrev undone : State
  undone = record (rollback_done decided its_rolled) { waiting = decision_waiting 2 (call.Resolve short_name outcome.Abort) 3 ∷ [] }

  abbrev rolled_back : ResolvedTxn
  rolled_back = record { txn = 1; global = short_name; outcome = outcome.Abort }

  abbrev undo_forced : State
  undo_forced = with_durable 3 undone

  abbrev undo_told : State
  undo_told = resolve_ended undo_forced 2 rolled_back

  aborts : EventMoves g in_doubt (Called 2 (call.Resolve short_name outcome.Abort) (Waits (Durable 3))) undone
  aborts = (
    tt,
    at_once g in_doubt 2 (call.Resolve short_name outcome.Abort) (Waits (Durable 3)) undone (inr (inr (inr (inr (inr (inr (inr (
      refl,
      λ w m. absurd m,
      inr (short_name, outcome.Abort, refl, inr (inl refl, (its_rolled, decided, inl (its, (inl refl, inl refl), refl, refl), (omega arith, refl, refl)))),
    )))))))) tt,
  )

  undo_forces : EventMoves g undone (Forced 3) undo_forced
  undo_forces = (omega arith, omega arith, refl)

  undo_answers : EventMoves g undo_forced (Resumed 2 (Done Resolved)) undo_told
  undo_answers = resumed_at_once g undo_forced 2 (Done Resolved) undo_told (inr (
    decision_waiting 2 (call.Resolve short_name outcome.Abort) 3,
    inl refl,
    refl,
    inr (refl, inr (inr (omega arith, refl, (rolled_back, (inl refl, λ m. m), refl, refl))), refl),
  )) tt

  pub abort_comes_through : ResolvesThrough g stream_bytes bytes outcome.Abort None (decision.RollBack 1)
  abort_comes_through = (
    undo_told,
    _,
    is_opened g stream_bytes bytes store page short long,
    (
      begun_one g stream_bytes bytes store page short long,
      _,
      begins g stream_bytes bytes store page short long,
      (
        there,
        _,
        inserts g stream_bytes bytes store page short long,
        (preparing, _, prepares, (forced, _, forces, (in_doubt, _, answers, (undone, _, aborts, (undo_forced, _, undo_forces, (undo_told, _, undo_answers, (refl, refl), refl), refl), refl), refl), refl), refl),
        refl,
      ),
      refl,
    ),
    put_here there.sessions.records first_id (first_image g stream_bytes bytes store page short long) ∙ nothing_there g stream_bytes bytes store page short long,
    refl,
    refl,
    refl,
    refl,
    refl,
  )
