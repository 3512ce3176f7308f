-- Each event keeps a checkpointed store in order.
use Rattle.std.proofs.Common.{◌≡◌, ◌⊎◌, inl, inr, ◌+◌, List, [], ◌∷◌, Option, Some, None, refl, sym, ap, subst, arith}
use Rattle.std.specs.Prelude.{slice_get, IsSomeAnd}
use Rattle.shore_model.specs.declared.log_records.LogRecord.{LogRecord}
use Rattle.shore_model.specs.Logs.{image_in}
use Rattle.laws_lives.specs.Pages.{empty_page}
use Rattle.laws_lives.specs.Recovery.{AppendRecord, FlushPage, ForceLog, IsRecoverable, LeadsTo, LosePower, RecoveryEvent, RedoRecord, after_redo}
use Rattle.laws_lives.proofs.Invariant.{event_kept}
use Rattle.laws_lives.proofs.Redo.{empty_page_stands, lacks_none_yet}
use Rattle.laws_checkpoints.specs.CheckpointedStores.{BeginCheckpoint, CheckpointedEvent, CheckpointedLeadTo, CheckpointedLeadsTo, CheckpointedStore, CrashStore, EndCheckpoint, MoveAnchor, NameCheckpoint, StoreEvent, formatted_store}
use Rattle.laws_checkpoints.specs.RecoveryNumbers.{noted_next, noted_on, recovery_after}
use Rattle.laws_checkpoints.specs.StoresInOrder.{IsInOrder, IsStageRight}
use Rattle.laws_checkpoints.proofs.CheckpointSteps.{order_begun, order_ended, order_moved, order_named}
use Rattle.laws_checkpoints.proofs.Crashes.{begin_at, lacks_none, order_crashed}
use Rattle.laws_checkpoints.proofs.StoreEvents.{order_flushed, order_forced, order_redone, other_appended}

pub order_kept : (s : CheckpointedStore) (e : CheckpointedEvent) (new : CheckpointedStore) → IsInOrder s → CheckpointedLeadsTo s e new → IsInOrder new
order_kept s (StoreEvent (AppendRecord r)) new k h =
    subst IsInOrder (sym h.3) (subst (λ next. IsInOrder (record s { store = next; recovery = recovery_after s.store (AppendRecord r) s.recovery })) (sym h.2.1) (other_appended s k r h.2.0 h.0.0 h.0.1))
order_kept s (StoreEvent RedoRecord) new k h = by_next (slice_get s.store.log s.store.redone) refl h.2
  where
    by_next : (o : Option LogRecord) → slice_get s.store.log s.store.redone ≡ o → IsSomeAnd o (λ r. h.1 ≡ after_redo s.store r) → IsInOrder new
    by_next None at is = absurd is
    by_next (Some r) at is =
        let same : (λ p. noted_on (s.store.redone + 1) (image_in r.payload) p (s.store.in_place p) (s.recovery p)) ≡ recovery_after s.store RedoRecord s.recovery =
        ap (λ o p. noted_next (s.store.redone + 1) o p (s.store.in_place p) (s.recovery p)) (sym at) in
        subst IsInOrder (sym h.3)
        (subst (λ next. IsInOrder (record s { store = next; recovery = recovery_after s.store RedoRecord s.recovery })) (sym is)
        (subst (λ recovery. IsInOrder (record s { store = after_redo s.store r; recovery = recovery })) same
        (order_redone s k r at (subst IsRecoverable is (event_kept s.store RedoRecord h.1 k.recoverable h.2)))))
order_kept s (StoreEvent (ForceLog n)) new k h =
    subst IsInOrder (sym h.3) (subst (λ next. IsInOrder (record s { store = next; recovery = s.recovery })) (sym h.2.2) (order_forced s k n h.2.0 h.2.1))
order_kept s (StoreEvent (FlushPage q)) new k h =
    subst IsInOrder (sym h.3) (subst (λ next. IsInOrder (record s { store = next; recovery = recovery_after s.store (FlushPage q) s.recovery })) (sym h.2.1) (order_flushed s k q h.2.0))
order_kept s (StoreEvent (LosePower n left begin)) new k h = absurd h.0
order_kept s (BeginCheckpoint next txns dirty) new k h = subst IsInOrder (sym h.3) (order_begun s k next txns dirty h.1 h.2)
order_kept s EndCheckpoint new k h = subst IsInOrder (sym h.3) (order_ended s k h.0 h.2 (subst (IsStageRight s) h.1 k.stage_right))
order_kept s NameCheckpoint new k h = subst IsInOrder (sym h.5) (order_named s k h.0 h.1 h.4 (subst (IsStageRight s) h.2 k.stage_right))
order_kept s (MoveAnchor tail) new k h = subst IsInOrder (sym h.6) (order_moved s k h.0 h.1 tail (subst (IsStageRight s) h.2 k.stage_right) h.3 h.4 h.5)
order_kept s (CrashStore n left) new k h = subst IsInOrder (sym h.3) (order_crashed s k n left h.0 h.1 h.2)

pub orders_kept : (s : CheckpointedStore) (events : List CheckpointedEvent) (last : CheckpointedStore) → IsInOrder s → CheckpointedLeadTo s events last → IsInOrder last
orders_kept s [] last k h = subst IsInOrder (sym h) k
orders_kept s (e ∷ events) last k h = orders_kept h.0 events last (order_kept s e h.0 k h.1) h.2

pub order_first : IsInOrder formatted_store
order_first = record {
  recoverable = record { durable = omega arith; redone = omega arith; volume = empty_page_stands; ahead = λ p. omega arith; in_place = λ p. lacks_none_yet [] p empty_page (empty_page_stands p) };
  lawful = λ n r at. cc;
  has_redone = λ p n r e lt. absurd (omega arith);
  recoveries = record { clean = λ p none. refl; dirty = λ p some. absurd (omega arith); changed = λ p some. absurd (omega arith); kept = λ p some. absurd (omega arith) };
  ends = λ n r begin next txns dirty at. cc;
  anchor = inl refl;
  stage_right = tt;
  redone = omega arith;
}

-- ---- as the store alone moves

pub store_moves : (s : CheckpointedStore) (e : CheckpointedEvent) (new : CheckpointedStore) → IsInOrder s → CheckpointedLeadsTo s e new
    → (new.store ≡ s.store) ⊎ ((m : RecoveryEvent) × LeadsTo s.store m new.store)
store_moves s (StoreEvent m) new k h = inr (m, subst (LeadsTo s.store m) (sym (ap (λ (x : CheckpointedStore). x.store) h.3)) h.2)
store_moves s (BeginCheckpoint next txns dirty) new k h = inr (AppendRecord _, (h.1, ap (λ (x : CheckpointedStore). x.store) h.3))
store_moves s EndCheckpoint new k h = inr (AppendRecord _, (h.2, ap (λ (x : CheckpointedStore). x.store) h.3))
store_moves s NameCheckpoint new k h = inr (AppendRecord _, (h.4, ap (λ (x : CheckpointedStore). x.store) h.5))
store_moves s (MoveAnchor tail) new k h = inl (ap (λ (x : CheckpointedStore). x.store) h.6)
store_moves s (CrashStore n left) new k h =
    inr (LosePower n left (begin_at s k n left h.0 h.1 h.2), ((h.0, h.1, h.2, lacks_none s k n left h.0 h.1 h.2), ap (λ (x : CheckpointedStore). x.store) h.3))
