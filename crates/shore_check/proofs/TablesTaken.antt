-- The tables that a checkpoint takes are right of the store as it is then.
use Rattle.std.proofs.Common.{◌≡◌, inl, inr, ⊎_elim, ◌<◌, ◌+◌, ◌∙◌, ℕ, suc, zero, List, [], ◌∷◌, refl, ap, length, arith}
use Rattle.std.specs.Prelude.{All, Any, slice_index_or}
use Rattle.std.specs.List.Sorted.{IsPermutation}
use Rattle.std.proofs.lemmas.List.Elements.{All-from_recursion, recursion_from_All}
use Rattle.std.proofs.lemmas.List.Sorted.{All-permutation, Contains-permutation}
use Rattle.shore_types.specs.declared.ids.PageId.{PageId}
use Rattle.shore_model.specs.declared.log_records.DirtyPage.{DirtyPage}
use Rattle.shore_model.specs.declared.log_records.LogRecord.{LogRecord}
use Rattle.shore_model.specs.declared.log_records.LogTxn.{LogTxn}
use Rattle.shore_model.specs.Logs.{IsEntry, IsListed, Lists}
use Rattle.laws_checkpoints.specs.Checkpoints.{Checkpoint}
use Rattle.laws_checkpoints.specs.CheckpointedStores.{AreTablesNow, CheckpointedStore, begun_now}
use Rattle.laws_checkpoints.specs.RecoveryNumbers.{IsDirtyTableOf, ListsPage, RecoveryNumbers}
use Rattle.shore_check.specs.declared.stage.Begun.{Begun}
use Rattle.shore_check.specs.Stages.{IsBegun}
use Rattle.shore_check.specs.Tables.{AreListedNow, Takes}

-- ---- who is listed stays listed in another order

any_permutation : {X : Type 0} (P : X → Type 0) (xs ys : List X) → IsPermutation xs ys → Any P xs → Any P ys
any_permutation P xs ys moved any = let there = Contains-permutation xs ys any.1 moved (any.0, any.2, any.3) in (there.0, any.1, there.1, there.2, any.4)

lists_txn : (xs ys : List LogTxn) (t : ℕ) → IsPermutation xs ys → Lists xs t → Lists ys t
unfolding Lists
lists_txn xs ys t moved any = any_permutation (λ e. e.txn ≡ t) xs ys moved any

all_listed : (log : List LogRecord) (xs ys : List LogTxn) → IsPermutation xs ys → All (IsListed log xs) log → All (IsListed log ys) log
all_listed log xs ys moved all k r within some runs = lists_txn xs ys (slice_index_or log k r).txn moved (all k r within some runs)

any_of_page : (p : PageId) (ds : List DirtyPage) → ListsPage p ds → Any (λ d. d.page ≡ p) ds
any_of_page p [] none = absurd none
any_of_page p (d ∷ ds) lists =
    ⊎_elim (λ here. (0, d, omega arith, refl, here))
    (λ later. let any = any_of_page p ds later in let within = any.2 in (suc any.0, any.1, omega arith, any.3, any.4)) lists

page_listed : (p : PageId) (ds : List DirtyPage) (k : ℕ) (d : DirtyPage) → k < length ds → (slice_index_or ds k d).page ≡ p → ListsPage p ds
page_listed p [] k d within is = absurd (omega (arith, within))
page_listed p (e ∷ ds) zero d within is = inl is
page_listed p (e ∷ ds) (suc k) d within is = inr (page_listed p ds k d (omega (arith, within)) is)

lists_page : (xs ys : List DirtyPage) (p : PageId) → IsPermutation xs ys → ListsPage p xs → ListsPage p ys
lists_page xs ys p moved lists =
    let any = any_permutation (λ d. d.page ≡ p) xs ys moved (any_of_page p xs lists) in
    page_listed p ys any.0 any.1 any.2 (ap (λ (d : DirtyPage). d.page) any.3 ∙ any.4)

dirty_taken : (recovery : RecoveryNumbers) (xs ys : List DirtyPage) → IsPermutation xs ys → IsDirtyTableOf recovery xs → IsDirtyTableOf recovery ys
dirty_taken recovery xs ys moved table = record {
  each = recursion_from_All (λ d. (0 < d.recovery) × (d.recovery ≡ recovery d.page)) ys (
      All-permutation (λ d. (0 < d.recovery) × (d.recovery ≡ recovery d.page)) xs ys moved
      (All-from_recursion (λ d. (0 < d.recovery) × (d.recovery ≡ recovery d.page)) xs table.each)
      );
  every = λ p dirty. lists_page xs ys p moved (table.every p dirty);
}

pub tables_now : (s : CheckpointedStore) (number next : ℕ) (txns : List LogTxn) (dirty : List DirtyPage) (c : Checkpoint) (b : Begun) → AreListedNow s next txns dirty
    → Takes number next txns dirty c → IsBegun c b → AreTablesNow s next c.txns c.dirty
tables_now s number next txns dirty c b listed takes begun = record {
  txns_now = record {
    rising = begun.fits.txns_rise;
    each = All-permutation (IsEntry s.store.log) txns c.txns takes.txns_taken listed.each;
    every = all_listed s.store.log txns c.txns takes.txns_taken listed.every;
  };
  above = listed.above;
  dirty_now = dirty_taken s.recovery dirty c.dirty takes.pages_taken listed.dirty_now;
}

-- the checkpoint is that which begins now
pub begun_is : (s : CheckpointedStore) (next : ℕ) (txns : List LogTxn) (dirty : List DirtyPage) (c : Checkpoint) → Takes (length s.store.log + 1) next txns dirty c
    → c ≡ begun_now s.store next c.txns c.dirty
begun_is s next txns dirty c takes = λ i. record { begin = takes.begin i; next = takes.next_txn i; txns = c.txns; dirty = c.dirty }
