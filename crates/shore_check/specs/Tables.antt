-- The tables of a checkpoint's End, and the lists that they are made of.
use Rattle.std.specs.Prelude.{◌≡◌, ◌<◌, ◌≤◌, ℕ, List, All, IsPermutation, length, map}
use Rattle.std.specs.List.{IsDistinct}
use Rattle.std.specs.Ordering.{eq_by_cmp, nat_cmp}
use Rattle.shore_types.specs.declared.layout.TheConstants.{MAX_POOL_FRAMES, MAX_TRANSACTIONS}
use Rattle.shore_types.specs.Ids.{page_cmp}
use Rattle.shore_model.specs.declared.log_records.DirtyPage.{DirtyPage}
use Rattle.shore_model.specs.declared.log_records.LogTxn.{LogTxn}
use Rattle.shore_model.specs.Logs.{IsEntry, IsListed}
use Rattle.laws_checkpoints.specs.Checkpoints.{Checkpoint}
use Rattle.laws_checkpoints.specs.CheckpointedStores.{CheckpointedStore}
use Rattle.laws_checkpoints.specs.RecoveryNumbers.{IsDirtyTableOf}

-- transactions in any order, each once
pub record AreTxns (txns : List LogTxn) : Type 0 where
  pub few : length txns ≤ MAX_TRANSACTIONS
  pub some : All (λ e. 0 < e.txn) txns
  pub once : IsDistinct (eq_by_cmp nat_cmp) (map (λ e. e.txn) txns)

-- pages in any order, each once
pub record ArePages (dirty : List DirtyPage) : Type 0 where
  pub few : length dirty ≤ MAX_POOL_FRAMES
  pub once : IsDistinct (eq_by_cmp page_cmp) (map (λ d. d.page) dirty)

-- the checkpoint that begins with this number, with these entries in its tables
pub record Takes (number next : ℕ) (txns : List LogTxn) (dirty : List DirtyPage) (c : Checkpoint) : Type 0 where
  pub begin : c.begin ≡ number
  pub next_txn : c.next ≡ next
  pub txns_taken : IsPermutation txns c.txns
  pub pages_taken : IsPermutation dirty c.dirty

-- the lists are of the store as it is now: its transactions that have not ended, a number above all, and its dirty pages
pub record AreListedNow (s : CheckpointedStore) (next : ℕ) (txns : List LogTxn) (dirty : List DirtyPage) : Type 0 where
  pub each : All (IsEntry s.store.log) txns
  pub every : All (IsListed s.store.log txns) s.store.log
  pub above : All (λ r. r.txn < next) s.store.log
  pub dirty_now : IsDirtyTableOf s.recovery dirty
