-- Kept records as they are read by their numbers: as those of a log with a record of nobody in the place of each that is cut off.
use Rattle.std.proofs.Common.{◌≡◌, ◌⊎◌, ⊎_elim, inl, inr, ◌<◌, ◌≤◌, ◌-◌, ◌+◌, ℕ, zero, suc, List, Option, None, Some, refl, sym, ap, subst, ◌∙◌, arith}
use Rattle.std.specs.Prelude.{All, IfNone, slice_get}
use Rattle.std.specs.List.{AllByRecursion}
use Rattle.std.proofs.lemmas.List.Elements.{All-from_recursion, recursion_from_All}
use Rattle.shore_types.specs.Images.{Image}
use Rattle.shore_types.specs.declared.ids.Rid.{Rid}
use Rattle.shore_model.specs.declared.log_records.LogRecord.{LogRecord}
use Rattle.shore_model.specs.declared.log_records.Payload.{Payload}
use Rattle.shore_model.specs.declared.log_records.Payload.TheVariants.{Change, Compensation, Commit, End, Prepare, RollbackDecided, CheckpointBegin, CheckpointEnd, Anchor}
use Rattle.shore_model.specs.Logs.{image_in}
use Rattle.shore_logrec.specs.Text.{Fits}
use Rattle.shore_analysis.specs.Padded.{blank, padded}
use Rattle.shore_analysis.proofs.Padding.{get_blank, get_number}
use Rattle.shore_restart.specs.Doubts.{IsChangeAt}

pub none_or : {A : Type 0} (P : Type 0) (o : Option A) → P → IfNone o P
none_or P None p = p
none_or P (Some x) p = tt

pub le_or_lt : (a b : ℕ) → (a ≤ b) ⊎ (b < a)
le_or_lt zero b = inl (omega arith)
le_or_lt (suc a) zero = inr (omega arith)
le_or_lt (suc a) (suc b) = ⊎_elim (λ le. inl (omega (arith, le))) (λ lt. inr (omega (arith, lt))) (le_or_lt a b)

abbrev pub IsNoChange : Payload → Type 0
IsNoChange (Change id before after) = ⊥
IsNoChange (Compensation id after undo_next) = Unit {0}
IsNoChange Commit = Unit {0}
IsNoChange End = Unit {0}
IsNoChange (Prepare global granules) = Unit {0}
IsNoChange RollbackDecided = Unit {0}
IsNoChange CheckpointBegin = Unit {0}
IsNoChange (CheckpointEnd begin next txns dirty) = Unit {0}
IsNoChange (Anchor checkpoint tail) = Unit {0}

module _ (cut : ℕ) (kept : List LogRecord) (n : ℕ) where
  -- a record that is there
  pub read_there : (r : LogRecord) → (n ≤ cut → ⊥) → (cut < n → Some r ≡ slice_get kept (n - (cut + 1))) → (0 < n) × (slice_get (padded cut kept) (n - 1) ≡ Some r)
  read_there r behind at = ⊎_elim
      (λ le. absurd (behind le))
      (λ lt. (omega (arith, lt), get_number cut n kept lt ∙ sym (at lt)))
      (le_or_lt n cut)

  -- none is there
  pub read_none : (cut < n → ◌≡◌ {A = Option LogRecord} None (slice_get kept (n - (cut + 1)))) → (id : Rid) (before : Image) → IsChangeAt (padded cut kept) n id before → ⊥
  read_none at id before (some, (r, after, here, says)) = ⊎_elim
      (λ le.
      let off : n - 1 < cut = omega (arith, le, some) in
      let same : Some blank ≡ Some r = sym (get_blank cut (n - 1) kept off) ∙ here in
      let clash : image_or (Some blank) ≡ image_or (Some r) = ap image_or same in
      let is : image_in r.payload ≡ Some (id, after) = ap image_in says in
      none_some (clash ∙ is))
      (λ lt. let clash : ◌≡◌ {A = Option LogRecord} None (Some r) = at lt ∙ sym (get_number cut n kept lt) ∙ here in cc)
      (le_or_lt n cut)
    where
      image_or : Option LogRecord → Option (Rid × Image)
      image_or None = None
      image_or (Some x) = image_in x.payload

      none_some : {A : Type 0} {x : A} → None ≡ Some x → ⊥
      none_some is = cc

  -- one is there that changes nothing
  pub read_other : (r : LogRecord) → (n ≤ cut → ⊥) → (cut < n → Some r ≡ slice_get kept (n - (cut + 1))) → IsNoChange r.payload → (id : Rid) (before : Image) → IsChangeAt (padded cut kept) n id before → ⊥
  read_other r behind at none id before (some, (x, after, here, says)) =
      let there = read_there r behind at in
      let one : r ≡ x = unwrap r x (sym there.1 ∙ here) in
      subst IsNoChange (ap (λ (y : LogRecord). y.payload) one ∙ says) none
    where
      unwrap : (a b : LogRecord) → Some a ≡ Some b → a ≡ b
      unwrap a b is = cc

-- a record of nobody has a text
pub fit_padded : (cut : ℕ) (kept : List LogRecord) → All Fits kept → All Fits (padded cut kept)
fit_padded cut kept fit = All-from_recursion Fits (padded cut kept) (all cut (recursion_from_All Fits kept fit))
  where
    blank_fits : Fits blank
    blank_fits = record { owner = (refl, refl); txn_fits = omega arith; previous_fits = omega arith; payload_fits = tt }

    all : (n : ℕ) → AllByRecursion Fits kept → AllByRecursion Fits (padded n kept)
    all zero each = each
    all (suc n) each = (blank_fits, all n each)
