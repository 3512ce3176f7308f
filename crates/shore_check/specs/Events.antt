-- What each step of a checkpoint leaves of a store.
use Rattle.std.specs.Prelude.{◌+◌, ℕ, length}
use Rattle.shore_model.specs.declared.log_records.Payload.TheVariants.{Anchor, CheckpointBegin}
use Rattle.laws_lives.specs.Recovery.{after_append}
use Rattle.laws_checkpoints.specs.Checkpoints.{Checkpoint, cut_point, end_payload, of_checkpoint}
use Rattle.laws_checkpoints.specs.CheckpointedStores.{AnchorLogged, BeginLogged, CheckpointedStore, EndLogged, NoCheckpoint}

abbrev pub after_begin : CheckpointedStore → Checkpoint → CheckpointedStore
after_begin s c = record s { store = after_append s.store (of_checkpoint CheckpointBegin); stage = BeginLogged c }

abbrev pub after_end : CheckpointedStore → Checkpoint → CheckpointedStore
after_end s c = record s { store = after_append s.store (of_checkpoint (end_payload c)); stage = EndLogged c (length s.store.log + 1) }

abbrev pub after_name : CheckpointedStore → Checkpoint → CheckpointedStore
after_name s c = record s { store = after_append s.store (of_checkpoint (Anchor c.begin (cut_point c))); stage = AnchorLogged c (length s.store.log + 1) }

abbrev pub after_move : CheckpointedStore → Checkpoint → ℕ → CheckpointedStore
after_move s c tail = record s { stage = NoCheckpoint; anchored = record { checkpoint = c.begin; tail = tail } }
