-- The worked runs of a checkpoint.
use Rattle.std.proofs.Common.{◌≡◌, inl, inr, ⊎_elim, ◌<◌, ℕ, zero, suc, List, [], ◌∷◌, ◌++◌, true, false, cond, None, Some, refl, sym, ap, subst, take, arith}
use Rattle.std.specs.Prelude.{◌==◌, ◌&&◌, nat_lt, unwrap_or}
use Rattle.std.specs.FinMap.{get-empty}
use Rattle.std.specs.Ordering.{eq_by_cmp}
use Rattle.std.proofs.lemmas.Bool.{true≢false}
use Rattle.std.proofs.lemmas.List.Elements.{All-cons, All-nil}
use Rattle.shore_types.specs.Ids.{page_cmp, rid_cmp}
use Rattle.shore_types.specs.declared.ids.PageId.{PageId}
use Rattle.shore_model.specs.declared.log_records.LogRecord.{LogRecord}
use Rattle.shore_model.specs.declared.log_records.Payload.TheVariants.{Anchor, CheckpointBegin}
use Rattle.shore_model.specs.Logs.{IsEntry, IsListed, IsTable, MayFollow}
use Rattle.laws_lives.specs.Recovery.{AppendRecord, FlushPage, ForceLog, RecoveryEvent, RecoveryState, after_append, after_flush, after_force}
use Rattle.laws_checkpoints.specs.CheckpointedStores.{AnchorLogged, AreTablesNow, BeginLogged, CheckpointStage, CheckpointedLeadTo, CheckpointedStore, EndLogged, NoCheckpoint, begun_now, formatted_store}
use Rattle.laws_checkpoints.specs.Checkpoints.{Checkpoint, end_payload, of_checkpoint}
use Rattle.laws_checkpoints.specs.MeantBehind.{AreMeantBehind, IsCutOff, IsMeantBehind}
use Rattle.laws_checkpoints.specs.RecoveryNumbers.{recovery_after}
use Rattle.laws_checkpoints.specs.WorkedCheckpoint.{across_the_tail, committed, first_page, flushed_and_checkpointed, inserted, of_nothing, slot_of_page}

abbrev stepped : CheckpointedStore → RecoveryEvent → RecoveryState → CheckpointedStore
stepped s e next = record s { store = next; recovery = recovery_after s.store e s.recovery }

abbrev logged : CheckpointedStore → LogRecord → CheckpointStage → CheckpointedStore
logged s r stage = record s { store = after_append s.store r; stage = stage }

unwrap : {A : Type 0} {x y : A} → Some x ≡ Some y → x ≡ y
unwrap e = cc

module _ (bytes : List ℕ) where
  insert_follows : MayFollow [] (inserted 0 0 bytes)
  insert_follows = record { of = refl; previous = refl; not_over = refl; says = (refl, sym (ap (λ o. unwrap_or o None) (get-empty rid_cmp (slot_of_page 0))), All-nil _) }

  commit_follows : MayFollow (inserted 0 0 bytes ∷ []) (committed 1)
  commit_follows = record { of = refl; previous = refl; not_over = refl; says = refl }

  abbrev changes : List LogRecord
  changes = inserted 0 0 bytes ∷ committed 1 ∷ []

  nobody_listed : IsTable changes []
  nobody_listed = record {
    rising = refl;
    each = All-nil (IsEntry changes);
    every = All-cons (IsListed changes []) (inserted 0 0 bytes) (committed 1 ∷ []) (λ one runs. cc)
        (All-cons (IsListed changes []) (committed 1) [] (λ one runs. cc) (All-nil (IsListed changes [])));
  }

  abbrev with_insert : CheckpointedStore
  with_insert = stepped formatted_store (AppendRecord (inserted 0 0 bytes)) (after_append formatted_store.store (inserted 0 0 bytes))

  abbrev with_commit : CheckpointedStore
  with_commit = stepped with_insert (AppendRecord (committed 1)) (after_append with_insert.store (committed 1))

  abbrev with_force : CheckpointedStore
  with_force = stepped with_commit (ForceLog 2) (after_force with_commit.store 2)

  abbrev with_flush : CheckpointedStore
  with_flush = stepped with_force (FlushPage first_page) (after_flush with_force.store first_page)

  abbrev with_begin : CheckpointedStore
  with_begin = logged with_flush (of_checkpoint CheckpointBegin) (BeginLogged (begun_now with_flush.store 2 [] []))

  abbrev with_end : CheckpointedStore
  with_end = logged with_begin (of_checkpoint (end_payload (of_nothing 3))) (EndLogged (of_nothing 3) 4)

  abbrev end_forced : CheckpointedStore
  end_forced = stepped with_end (ForceLog 4) (after_force with_end.store 4)

  abbrev with_anchor : CheckpointedStore
  with_anchor = logged end_forced (of_checkpoint (Anchor 3 3)) (AnchorLogged (of_nothing 3) 5)

  abbrev anchor_forced : CheckpointedStore
  anchor_forced = stepped with_anchor (ForceLog 5) (after_force with_anchor.store 5)

  abbrev pub anchor_moved : CheckpointedStore
  anchor_moved = record anchor_forced { stage = NoCheckpoint; anchored = record { checkpoint = 3; tail = 3 } }

  -- the one page that was changed is flushed
  none_dirty : (p : PageId) → 0 < with_flush.recovery p → ⊥
  none_dirty p =
      elim (eq_by_cmp page_cmp p first_page) as (λ b. 0 < cond b 0 (cond ((b && nat_lt 0 1) && (0 == 0)) 1 0) → ⊥) [
        | true ↦ λ some. omega arith
        | false ↦ λ some. omega arith
      ]

  tables_now : AreTablesNow with_flush 2 [] []
  tables_now = record {
    txns_now = nobody_listed;
    above = All-cons (λ r. r.txn < 2) (inserted 0 0 bytes) (committed 1 ∷ []) (omega arith) (All-cons (λ r. r.txn < 2) (committed 1) [] (omega arith) (All-nil (λ r. r.txn < 2)));
    dirty_now = record { each = tt; every = λ p some. absurd (none_dirty p some) };
  }

  pub made : CheckpointedLeadTo formatted_store (flushed_and_checkpointed bytes) anchor_moved
  made = (
    with_insert,
    ((insert_follows, refl), after_append formatted_store.store (inserted 0 0 bytes), (refl, refl), refl),
    (
      with_commit,
      ((commit_follows, refl), after_append with_insert.store (committed 1), (refl, refl), refl),
      (
        with_force,
        (tt, after_force with_commit.store 2, (omega arith, omega arith, refl), refl),
        (
          with_flush,
          (tt, after_flush with_force.store first_page, (omega arith, refl), refl),
          (
            with_begin,
            (refl, refl, tables_now, refl),
            (
              with_end,
              (of_nothing 3, refl, refl, refl),
              (
                end_forced,
                (tt, after_force with_end.store 4, (omega arith, omega arith, refl), refl),
                (
                  with_anchor,
                  (of_nothing 3, 4, refl, omega arith, refl, refl),
                  (
                    anchor_forced,
                    (tt, after_force with_anchor.store 5, (omega arith, omega arith, refl), refl),
                    (
                      anchor_moved,
                      (of_nothing 3, 5, refl, omega arith, omega arith, omega arith, refl),
                      refl,
                    ),
                  ),
                ),
              ),
            ),
          ),
        ),
      ),
    ),
  )

  -- ---- a transaction across the tail

  abbrev kept : List LogRecord
  kept = across_the_tail bytes

  abbrev listing : Checkpoint
  listing = record { begin = 4; next = 2; txns = []; dirty = record { page = first_page; recovery = 2 } ∷ [] }

  -- its first kept record names record 1
  its_front : IsCutOff 1 kept 1
  its_front = record { some = omega arith; below = omega arith }

  insert_meant : IsMeantBehind 1 kept [] (inserted 1 1 bytes)
  insert_meant = record {
    of = refl;
    not_over = refl;
    means = inr (inl (record { is_one = omega arith; cut_off = its_front; previous = λ some. absurd (omega arith); ended = refl }));
  }

  commit_meant : IsMeantBehind 1 kept (inserted 1 1 bytes ∷ []) (committed 2)
  commit_meant = record {
    of = refl;
    not_over = refl;
    means = inr (inl (record { is_one = omega arith; cut_off = its_front; previous = λ some. refl; ended = refl }));
  }

  abbrev of_txn : List LogRecord
  of_txn = inserted 1 1 bytes ∷ committed 2 ∷ []

  begin_meant : IsMeantBehind 1 kept of_txn (of_checkpoint CheckpointBegin)
  begin_meant = record { of = refl; not_over = refl; means = inr (inr (record { is_none = refl; previous = refl; says = tt })) }

  end_meant : IsMeantBehind 1 kept (of_txn ++ of_checkpoint CheckpointBegin ∷ []) (of_checkpoint (end_payload listing))
  end_meant = record {
    of = refl;
    not_over = refl;
    means = inr (inr (record {
      is_none = refl;
      previous = refl;
      says = record {
        some = omega arith;
        begins = λ inside. refl;
        rising = refl;
        each = All-nil _;
        every = All-cons (IsListed of_txn []) (inserted 1 1 bytes) (committed 2 ∷ []) (λ one runs. cc) (All-cons (IsListed of_txn []) (committed 2) [] (λ one runs. cc) (All-nil (IsListed of_txn [])));
        above = All-cons (λ r. r.txn < 2) (inserted 1 1 bytes) (committed 2 ∷ []) (omega arith) (All-cons (λ r. r.txn < 2) (committed 2) [] (omega arith) (All-nil (λ r. r.txn < 2)));
      };
    }));
  }

  anchor_meant : IsMeantBehind 1 kept (of_txn ++ of_checkpoint CheckpointBegin ∷ of_checkpoint (end_payload listing) ∷ []) (of_checkpoint (Anchor 4 2))
  anchor_meant = record { of = refl; not_over = refl; means = inr (inr (record { is_none = refl; previous = refl; says = tt })) }

  pub crossed : AreMeantBehind 1 kept
  crossed zero r at = subst (IsMeantBehind 1 kept []) (unwrap at) insert_meant
  crossed (suc zero) r at = subst (IsMeantBehind 1 kept (take 1 kept)) (unwrap at) commit_meant
  crossed (suc (suc zero)) r at = subst (IsMeantBehind 1 kept (take 2 kept)) (unwrap at) begin_meant
  crossed (suc (suc (suc zero))) r at = subst (IsMeantBehind 1 kept (take 3 kept)) (unwrap at) end_meant
  crossed (suc (suc (suc (suc zero)))) r at = subst (IsMeantBehind 1 kept (take 4 kept)) (unwrap at) anchor_meant
  crossed (suc (suc (suc (suc (suc n))))) r at = cc

  -- without the Commit it would be undone, and a record of it is missing
  pub missed : AreMeantBehind 1 (inserted 1 1 bytes ∷ []) → ⊥
  missed h = ⊎_elim
      (λ whole. let names = whole.previous in omega arith)
      (λ rest. ⊎_elim (λ off. true≢false (sym off.ended)) (λ no_one. let none = no_one.is_none in omega arith) rest)
      (h 0 (inserted 1 1 bytes) refl).means
