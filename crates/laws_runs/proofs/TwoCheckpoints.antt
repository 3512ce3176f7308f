-- Two checkpoints over an empty store: the move of the second frees what the first has logged.
use Rattle.std.proofs.Common.{◌≡◌, ◌+◌, ◌<◌, ◌≤◌, ◌^◌, ℕ, List, [], ◌∷◌, refl, arith}
use Rattle.std.specs.List.Sorted.{IsStrictlySortedBy}
use Rattle.std.proofs.lemmas.List.Elements.{All-cons, All-nil}
use Rattle.shore_types.specs.declared.layout.Geometry.{Geometry}
use Rattle.shore_types.specs.Versions.{slot_limit}
use Rattle.shore_model.specs.declared.log_records.LogRecord.{LogRecord}
use Rattle.shore_model.specs.declared.log_records.Payload.TheVariants.{Anchor, CheckpointBegin}
use Rattle.shore_model.specs.Logs.{IsEntry, IsListed, IsTable}
use Rattle.shore_logrec.specs.Text.{CheckpointFits, DirtyFits, TxnFits, cost_of, dirty_cmp}
use Rattle.laws_lives.specs.Recovery.{after_force}
use Rattle.laws_calls.specs.StateChanges.{with_durable}
use Rattle.laws_calls.specs.States.{cost_of_log}
use Rattle.laws_calls.specs.WorkedRun.{opened_empty}
use Rattle.laws_checkpoints.proofs.RingEvents.{anchor_bytes, end_bytes}
use Rattle.laws_checkpoints.specs.Checkpoints.{Anchored, Checkpoint, end_payload, of_checkpoint}
use Rattle.laws_checkpoints.specs.CheckpointedStores.{AnchorLogged, AreTablesNow, BeginLogged, EndLogged, formatted_store}
use Rattle.laws_runs.specs.CheckpointSteps.{CheckpointedMoves, CheckpointedState, IsAdmitted, IsCheckpointNow, moved_to, noted}
use Rattle.laws_runs.specs.WorkedCheckpoints.{two_checkpoints}

none_rise : IsStrictlySortedBy dirty_cmp []
unfolding IsStrictlySortedBy
none_rise = tt

-- a checkpoint that finds nothing
abbrev of_nothing : ℕ → Checkpoint
of_nothing begin = record { begin = begin; next = 1; txns = []; dirty = [] }

-- the anchor that it moves to
abbrev anchored_at : ℕ → Anchored
anchored_at n = record { checkpoint = n; tail = n }

abbrev forced : ℕ → CheckpointedState → CheckpointedState
forced n m = record { state = with_durable n m.state; store = record m.store { store = after_force m.store.store n } }

-- its records
abbrev its_begin : LogRecord
its_begin = of_checkpoint CheckpointBegin

abbrev its_end : ℕ → LogRecord
its_end begin = of_checkpoint (end_payload (of_nothing begin))

abbrev its_anchor : ℕ → LogRecord
its_anchor begin = of_checkpoint (Anchor begin begin)

abbrev first_records : List LogRecord
first_records = its_begin ∷ its_end 1 ∷ its_anchor 1 ∷ []

costs : cost_of_log first_records ≡ 138
costs =
    let begin : cost_of CheckpointBegin ≡ 34 = refl in
    let end = end_bytes 1 1 [] [] in
    let anchor = anchor_bytes 1 1 in
    omega (arith, begin, end, anchor)

nobody_yet : IsTable [] []
nobody_yet = record { rising = refl; each = All-nil (IsEntry []); every = All-nil (IsListed [] []) }

nobody_still : IsTable first_records []
nobody_still = record {
  rising = refl;
  each = All-nil (IsEntry first_records);
  every = All-cons (IsListed first_records []) its_begin (its_end 1 ∷ its_anchor 1 ∷ []) (λ one runs. absurd (omega (arith, one)))
      (All-cons (IsListed first_records []) (its_end 1) (its_anchor 1 ∷ []) (λ one runs. absurd (omega (arith, one)))
      (All-cons (IsListed first_records []) (its_anchor 1) [] (λ one runs. absurd (omega (arith, one))) (All-nil (IsListed first_records []))));
}

module _ (g : Geometry) (stream_bytes : ℕ) (long : 100000 ≤ stream_bytes) where
  abbrev pub at_first : CheckpointedState
  at_first = record { state = opened_empty (slot_limit g.version) stream_bytes; store = formatted_store }

  abbrev first_begun : CheckpointedState
  first_begun = noted at_first its_begin (BeginLogged (of_nothing 1))

  abbrev first_ended : CheckpointedState
  first_ended = noted first_begun (its_end 1) (EndLogged (of_nothing 1) 2)

  abbrev first_named : CheckpointedState
  first_named = noted (forced 2 first_ended) (its_anchor 1) (AnchorLogged (of_nothing 1) 3)

  abbrev first_moved : CheckpointedState
  first_moved = moved_to (forced 3 first_named) (anchored_at 1)

  abbrev second_begun : CheckpointedState
  second_begun = noted first_moved its_begin (BeginLogged (of_nothing 4))

  abbrev second_ended : CheckpointedState
  second_ended = noted second_begun (its_end 4) (EndLogged (of_nothing 4) 5)

  abbrev second_named : CheckpointedState
  second_named = noted (forced 5 second_ended) (its_anchor 4) (AnchorLogged (of_nothing 4) 6)

  abbrev pub second_moved : CheckpointedState
  second_moved = moved_to (forced 6 second_named) (anchored_at 4)

  nothing_fits : (begin : ℕ) → begin < 2 ^ 64 → CheckpointFits begin 1 [] []
  nothing_fits begin short = record {
    begin_fits = short;
    next_fits = omega arith;
    few_txns = omega arith;
    txns_fit = All-nil TxnFits;
    txns_rise = refl;
    few_pages = omega arith;
    pages_fit = All-nil DirtyFits;
    pages_rise = none_rise;
  }

  first_tables : AreTablesNow at_first.store 1 [] []
  first_tables = record { txns_now = nobody_yet; above = All-nil (λ r. r.txn < 1); dirty_now = record { each = tt; every = λ p some. absurd (omega (arith, some)) } }

  first_now : IsCheckpointNow at_first (of_nothing 1) 1
  first_now = record {
    begin = refl;
    next = refl;
    tables = first_tables;
    fits = nothing_fits 1 (omega arith);
    no_lower = omega arith;
    forced = omega arith;
    no_higher = omega arith;
  }

  first_admitted : IsAdmitted at_first (of_nothing 1) 1
  first_admitted = record { numbers = omega arith; fits = omega (arith, long); leaves = omega (arith, long) }

  second_tables : AreTablesNow first_moved.store 1 [] []
  second_tables = record {
    txns_now = nobody_still;
    above = All-cons (λ r. r.txn < 1) its_begin (its_end 1 ∷ its_anchor 1 ∷ []) (omega arith)
        (All-cons (λ r. r.txn < 1) (its_end 1) (its_anchor 1 ∷ []) (omega arith) (All-cons (λ r. r.txn < 1) (its_anchor 1) [] (omega arith) (All-nil (λ r. r.txn < 1))));
    dirty_now = record { each = tt; every = λ p some. absurd (omega (arith, some)) };
  }

  second_now : IsCheckpointNow first_moved (of_nothing 4) 4
  second_now = record {
    begin = refl;
    next = refl;
    tables = second_tables;
    fits = nothing_fits 4 (omega arith);
    no_lower = omega arith;
    forced = omega arith;
    no_higher = omega arith;
  }

  second_admitted : IsAdmitted first_moved (of_nothing 4) 4
  second_admitted = let cost = costs in record { numbers = omega arith; fits = omega (arith, long, cost); leaves = omega (arith, long, cost) }

  pub two_made : CheckpointedMoves g at_first two_checkpoints second_moved []
  two_made = (
    first_begun,
    [],
    (refl, (of_nothing 1, 1, refl, first_now, first_admitted, refl, refl)),
    (
      first_ended,
      [],
      (refl, (of_nothing 1, refl, refl, refl)),
      (
        forced 2 first_ended,
        [],
        (
          ((omega arith, omega arith, refl), (tt, after_force first_ended.store.store 2, (omega arith, omega arith, refl), refl), record { log = refl; durable = refl }),
          (after_force first_ended.store.store 2, (omega arith, omega arith, refl), refl),
        ),
        (
          first_named,
          [],
          (refl, (of_nothing 1, 2, refl, omega arith, refl, refl, refl)),
          (
            forced 3 first_named,
            [],
            (
              ((omega arith, omega arith, refl), (tt, after_force first_named.store.store 3, (omega arith, omega arith, refl), refl), record { log = refl; durable = refl }),
              (after_force first_named.store.store 3, (omega arith, omega arith, refl), refl),
            ),
            (
              first_moved,
              [],
              (refl, (anchored_at 1, (of_nothing 1, 3, refl, omega arith, refl, omega arith, omega arith), refl)),
              (
                second_begun,
                [],
                (refl, (of_nothing 4, 4, refl, second_now, second_admitted, refl, refl)),
                (
                  second_ended,
                  [],
                  (refl, (of_nothing 4, refl, refl, refl)),
                  (
                    forced 5 second_ended,
                    [],
                    (
                      ((omega arith, omega arith, refl), (tt, after_force second_ended.store.store 5, (omega arith, omega arith, refl), refl), record { log = refl; durable = refl }),
                      (after_force second_ended.store.store 5, (omega arith, omega arith, refl), refl),
                    ),
                    (
                      second_named,
                      [],
                      (refl, (of_nothing 4, 5, refl, omega arith, refl, refl, refl)),
                      (
                        forced 6 second_named,
                        [],
                        (
                          ((omega arith, omega arith, refl), (tt, after_force second_named.store.store 6, (omega arith, omega arith, refl), refl), record { log = refl; durable = refl }),
                          (after_force second_named.store.store 6, (omega arith, omega arith, refl), refl),
                        ),
                        (
                          second_moved,
                          [],
                          (refl, (anchored_at 4, (of_nothing 4, 6, refl, omega arith, refl, omega arith, omega arith), refl)),
                          (refl, refl),
                          refl,
                        ),
                        refl,
                      ),
                      refl,
                    ),
                    refl,
                  ),
                  refl,
                ),
                refl,
              ),
              refl,
            ),
            refl,
          ),
          refl,
        ),
        refl,
      ),
      refl,
    ),
    refl,
  )

  pub is_freed : second_moved.state.stream_bytes ≡ stream_bytes + 138
  is_freed = let cost = costs in omega (arith, cost)
