-- What a loss of power leaves of a store in order may be opened behind its anchor, and behind the one that a move makes.
use Rattle.std.proofs.Common.{◌≡◌, inl, inr, ◌+◌, ◌≤◌, ℕ, List, sym, ap, subst, ◌∙◌, take, arith}
use Rattle.std.proofs.lemmas.List.{length-take-le, take-take}
use Rattle.shore_types.specs.declared.layout.Geometry.{Geometry}
use Rattle.shore_types.specs.declared.layout.TheConstants.{MAX_LOG_BYTES}
use Rattle.shore_model.specs.declared.histories.Entry.{Entry}
use Rattle.shore_model.specs.declared.histories.Opening.{Opening}
use Rattle.shore_model.specs.declared.log_records.LogRecord.{LogRecord}
use Rattle.laws_lives.specs.Pages.{LoggedPages}
use Rattle.laws_calls.specs.States.{cost_of_log}
use Rattle.laws_checkpoints.proofs.Crashes.{crashed, order_crashed}
use Rattle.laws_checkpoints.specs.Checkpoints.{Anchored, cut_of, end_among, redo_behind}
use Rattle.laws_checkpoints.specs.CheckpointedStores.{CheckpointedStore, NoCheckpoint}
use Rattle.laws_checkpoints.specs.StoresInOrder.{IsInOrder}
use Rattle.laws_runs.proofs.Checkpointing.{anchor_moved, cut_durable}
use Rattle.laws_runs.proofs.SoundStores.{left_may_be_opened}
use Rattle.laws_runs.proofs.UnderWay.{under_way_sound}
use Rattle.laws_runs.specs.CheckpointSteps.{CheckpointedState, log_limit, moved_to, stored_in}
use Rattle.laws_runs.specs.CheckpointedStates.{IsAtCheckpoints, MayBeAnchored, MayBeOpenedBehind, found_behind}
use Rattle.laws_runs.specs.SoundStores.{IsLost, IsSoundStore, MayBeOpened}

module _ (g : Geometry) (ring_bytes : ℕ) (short : ring_bytes ≤ MAX_LOG_BYTES) (s : CheckpointedStore) (k : IsInOrder s)
    (sound : IsSoundStore g (log_limit ring_bytes (cut_of s.anchored) s.store.log) s.store) (n : ℕ) (left : LoggedPages) (lost : IsLost s.store n left) where
  same_limit : log_limit ring_bytes (cut_of s.anchored) s.store.log ≡ log_limit ring_bytes (cut_of s.anchored) (take n s.store.log)
  same_limit =
      let cut = cut_durable s k in
      let least = lost.least in
      ap (λ rs. ring_bytes + cost_of_log rs) (sym (take-take (cut_of s.anchored) n s.store.log (omega (arith, cut, least))))

  is_found : crashed s k n left lost.least lost.most lost.shows ≡ found_behind s.anchored (take n s.store.log) left
  is_found = ap (λ durable. record {
    store = record { log = take n s.store.log; durable = durable; redone = redo_behind (end_among s.anchored.checkpoint (take n s.store.log)); volume = left; in_place = left };
    recovery = λ p. 0;
    stage = NoCheckpoint;
    anchored = s.anchored;
  }) (sym (length-take-le n s.store.log lost.most))

  pub crash_leaves : MayBeOpenedBehind g ring_bytes s.anchored (take n s.store.log) left
  crash_leaves = record {
    opened = subst (λ limit. MayBeOpened g limit (take n s.store.log) left) same_limit
        (left_may_be_opened g (log_limit ring_bytes (cut_of s.anchored) s.store.log) s.store sound n left lost);
    in_order = subst IsInOrder is_found (order_crashed s k n left lost.least lost.most lost.shows);
    short = short;
  }

module _ (g : Geometry) (ring_bytes : ℕ) (o : Opening) (found : List LogRecord) (es : List Entry) where
  -- the store of a manager under way is sound over as much more as is cut off
  sound_behind : (m : CheckpointedState) → IsAtCheckpoints g ring_bytes o found es m → IsSoundStore g (log_limit ring_bytes (cut_of m.store.anchored) m.store.store.log) m.store.store
  sound_behind m k =
      subst (λ limit. IsSoundStore g limit m.store.store) (k.limit ∙ ap (log_limit ring_bytes (cut_of m.store.anchored)) (sym k.under_way.stored.log))
      (under_way_sound g m.state.stream_bytes o found es (stored_in m) k.under_way)

  module _ (m : CheckpointedState) (k : IsAtCheckpoints g ring_bytes o found es m) (n : ℕ) (left : LoggedPages) (lost : IsLost m.store.store n left) where
    left_behind : MayBeOpenedBehind g ring_bytes m.store.anchored (take n m.store.store.log) left
    left_behind = crash_leaves g ring_bytes k.short m.store k.in_order (sound_behind m k) n left lost

    pub leaves_behind : (a : Anchored) → MayBeAnchored m.store a → MayBeOpenedBehind g ring_bytes a (take n m.store.store.log) left
    leaves_behind a (inl same) = subst (λ x. MayBeOpenedBehind g ring_bytes x (take n m.store.store.log) left) (sym same) left_behind
    leaves_behind a (inr next) =
        let moved = anchor_moved g ring_bytes o found es m k a next in
        crash_leaves g ring_bytes k.short (moved_to m a).store moved.in_order (sound_behind (moved_to m a) moved) n left lost
