-- The first End of a checkpoint, found from the front.
use Rattle.std.proofs.Common.{◌≡◌, ◌+◌, ◌<◌, ℕ, List, [], ◌∷◌, true, false, Option, None, Some, refl, sym, ap, subst, ◌∙◌, take, arith, Result, Ok, Err}
use Rattle.std.specs.Prelude.{IfOk, IsSomeAnd, is_some, slice_get}
use Rattle.shore_model.specs.declared.log_records.LogRecord.{LogRecord}
use Rattle.shore_model.specs.declared.log_records.DirtyPage.{DirtyPage}
use Rattle.shore_model.specs.declared.log_records.LogTxn.{LogTxn}
use Rattle.shore_model.specs.declared.log_records.Payload.{Payload}
use Rattle.shore_model.specs.declared.log_records.Payload.TheVariants.{CheckpointEnd}
use Rattle.laws_lives.proofs.Redo.{take_next}
use Rattle.laws_checkpoints.specs.Checkpoints.{Checkpoint, end_among, end_in, or_next_end}
use Rattle.laws_checkpoints.proofs.Ends.{end_among-append, end_more, end_says, end_whole}
use Rattle.shore_analysis.specs.AnchoredMeant.{IsAnchoredEnd}

module _ (checkpoint : ℕ) (kept : List LogRecord) where
  -- a record that is no such End is passed
  pub passed : (i : ℕ) (r : LogRecord) → slice_get kept i ≡ Some r → is_some (end_in checkpoint r.payload) ≡ false → end_among checkpoint (take i kept) ≡ None
      → end_among checkpoint (take (i + 1) kept) ≡ None
  passed i r at other none =
      ap (end_among checkpoint) (take_next kept i r at) ∙ end_among-append checkpoint (take i kept) (r ∷ []) ∙ ap (λ o. or_next_end o (end_among checkpoint (r ∷ []))) none ∙ by (end_in checkpoint r.payload) other
    where
      by : (o : Option Checkpoint) → is_some o ≡ false → or_next_end o None ≡ None
      by None h = refl
      by (Some c) h = cc

  module _ (i : ℕ) (r : LogRecord) (c : Checkpoint) (at : slice_get kept i ≡ Some r) (of : IsAnchoredEnd checkpoint kept i r c) where
    with_it : end_among checkpoint (take (i + 1) kept) ≡ Some c
    with_it =
        ap (end_among checkpoint) (take_next kept i r at) ∙ end_among-append checkpoint (take i kept) (r ∷ []) ∙ ap (λ o. or_next_end o (end_among checkpoint (r ∷ []))) of.first ∙ ap (λ o. or_next_end o None) of.its

    pub found : end_among checkpoint kept ≡ Some c
    found = end_whole checkpoint kept (i + 1) c with_it

    -- none behind it is the first
    pub no_later : (n : ℕ) (q : LogRecord) (d : Checkpoint) → i < n → IsAnchoredEnd checkpoint kept n q d → ⊥
    no_later n q d lt later = let both : None ≡ Some c = sym later.first ∙ end_more checkpoint kept (i + 1) n c (omega (arith, lt)) with_it in cc

-- ---- results

pub if_ok : {A B : Type 0} {P Q : A → Type 0} (r : Result A B) → ((x : A) → P x → Q x) → IfOk r P → IfOk r Q
if_ok (Ok x) f h = f x h
if_ok (Err e) f h = tt

pub end_of : (o : Option Checkpoint) → is_some o ≡ true → (c : Checkpoint) × (o ≡ Some c)
end_of None h = cc
end_of (Some c) h = (c, refl)

pub one_end : {c d : Checkpoint} → Some c ≡ Some d → c ≡ d
one_end h = cc

pub listed_by : (b : ℕ) (p : Payload) (begin next : ℕ) (txns : List LogTxn) (dirty : List DirtyPage) (c : Checkpoint) → p ≡ CheckpointEnd begin next txns dirty → end_in b p ≡ Some c → txns ≡ c.txns
listed_by b p begin next txns dirty c is its = let both : CheckpointEnd begin next txns dirty ≡ CheckpointEnd c.begin c.next c.txns c.dirty = sym is ∙ (end_says b p c its).0 in cc

-- what is said of the record at a place holds of the one that is read there
pub at_read : (P : LogRecord → Type 0) (kept : List LogRecord) (n : ℕ) (r : LogRecord) → slice_get kept n ≡ Some r → IsSomeAnd (slice_get kept n) P → P r
at_read P kept n r at h = subst (λ o. IsSomeAnd o P) at h
