-- The first kept record that does not mean what it has to behind an anchor: by what each has to mean, and by whom the anchored checkpoint's End lists.
use Rattle.std.proofs.Common.{◌≡◌, ⊎_elim, ◌+◌, ◌-◌, ◌<◌, ℕ, List, Option, None, Some, All, refl, sym, subst, arith}
use Rattle.std.specs.Prelude.{IfNone, IfSome, IsSomeAnd, slice_get}
use Rattle.shore_types.specs.declared.layout.Geometry.{Geometry}
use Rattle.shore_model.specs.declared.log_records.LogRecord.{LogRecord}
use Rattle.laws_checkpoints.specs.Checkpoints.{Checkpoint}
use Rattle.shore_analysis.specs.AnchoredMeant.{AreMeantAnchored, HasEndedSince, IsAnchoredEnd, IsFirstUnmeantAnchored, MayBeAnchored}
use Rattle.shore_analysis.specs.KeptMeant.{AreMeantKept, IsFirstUnmeantKept, MayBeKept}
use Rattle.shore_analysis.specs.KeptPasses.{IsFirstOf, ListsEnded, ListsUnended}
use Rattle.shore_analysis.proofs.KeptFound.{no_later}

module _ (g : Geometry) (cut checkpoint : ℕ) (kept : List LogRecord) where
  -- the records before this number mean what they have to
  abbrev AreMeantBefore : ℕ → Type 0
  AreMeantBefore k = (n : ℕ) (r : LogRecord) → cut + 1 + n < k → slice_get kept n ≡ Some r → MayBeKept g cut kept n r

  module _ (k : ℕ) (bad : ListsUnended cut checkpoint kept k) where
    none_before : (n : ℕ) (r : LogRecord) (c : Checkpoint) → cut + 1 + n < k → slice_get kept n ≡ Some r → IsAnchoredEnd checkpoint kept n r c → ⊥
    none_before n r c lt at of = by (slice_get kept bad.place) bad.here
      where
        by : (o : Option LogRecord) → IsSomeAnd o (λ q. (d : Checkpoint) × IsAnchoredEnd checkpoint kept bad.place q d × (All (HasEndedSince cut kept) d.txns → ⊥)) → ⊥
        by None h = h
        by (Some q) h = let is = bad.number_is in no_later checkpoint kept n r c at of bad.place q h.0 (omega (arith, lt, is)) h.1

    -- the End lists one that has not ended, and each record before it is as it has to be
    by_end : AreMeantBefore k → IsFirstUnmeantAnchored g cut checkpoint kept k
    by_end meant =
        let is = bad.number_is in
        let at : bad.place ≡ k - (cut + 1) = omega (arith, is) in
        record {
          behind = omega (arith, is);
          before = λ n r lt there. record { meant = meant n r lt there; since = λ c of. absurd (none_before n r c lt there of) };
          here = subst (λ i. IsSomeAnd (slice_get kept i) (λ r. MayBeAnchored g cut checkpoint kept i r → ⊥)) at (may_not (slice_get kept bad.place) bad.here);
        }
      where
        may_not : (o : Option LogRecord) → IsSomeAnd o (λ q. (d : Checkpoint) × IsAnchoredEnd checkpoint kept bad.place q d × (All (HasEndedSince cut kept) d.txns → ⊥))
            → IsSomeAnd o (λ r. MayBeAnchored g cut checkpoint kept bad.place r → ⊥)
        may_not None h = h
        may_not (Some r) h = λ may. h.2 (may.since h.0 h.1)

  -- a record does not mean what it has to, and the End is not before it, or lists those alone that have ended
  by_first : (m : ℕ) → IsFirstUnmeantKept g cut kept m
      → ((n : ℕ) (r : LogRecord) (c : Checkpoint) → cut + 1 + n < m → slice_get kept n ≡ Some r → IsAnchoredEnd checkpoint kept n r c → All (HasEndedSince cut kept) c.txns)
      → IsFirstUnmeantAnchored g cut checkpoint kept m
  by_first m first since = record {
    behind = first.behind;
    before = λ n r lt at. record { meant = first.before n r lt at; since = λ c of. since n r c lt at of };
    here = may_not (m - (cut + 1)) (slice_get kept (m - (cut + 1))) first.here;
  }
    where
      may_not : (i : ℕ) (o : Option LogRecord) → IsSomeAnd o (λ r. MayBeKept g cut kept i r → ⊥) → IsSomeAnd o (λ r. MayBeAnchored g cut checkpoint kept i r → ⊥)
      may_not i None h = h
      may_not i (Some r) h = λ may. h may.meant

  pub first_unmeant : (unmeant unended : Option ℕ) → IfNone unmeant (AreMeantKept g cut kept) → IfSome unmeant (IsFirstUnmeantKept g cut kept)
      → IfNone unended (ListsEnded cut checkpoint kept) → IfSome unended (ListsUnended cut checkpoint kept) → (number : ℕ) → IsFirstOf unmeant unended (Some number)
      → IsFirstUnmeantAnchored g cut checkpoint kept number
  first_unmeant None unended meant first ended bad number is =
      by_end number (subst (λ o. IfSome o (ListsUnended cut checkpoint kept)) (sym is) bad) (λ n r lt at. meant n r at)
  first_unmeant (Some m) None meant first ended bad number is =
      subst (IsFirstUnmeantAnchored g cut checkpoint kept) (sym is) (by_first m first (λ n r c lt at of. ended n r c at of))
  first_unmeant (Some m) (Some k) meant first ended bad number is = ⊎_elim
      (λ earlier.
      let less = earlier.0 in
      subst (IsFirstUnmeantAnchored g cut checkpoint kept) (sym earlier.1) (by_end k bad (λ n r lt at. first.before n r (omega (arith, lt, less)) at)))
      (λ later.
      let most = later.0 in
      subst (IsFirstUnmeantAnchored g cut checkpoint kept) (sym later.1) (by_first m first (λ n r c lt at of. absurd (none_before k bad n r c (omega (arith, lt, most)) at of))))
      is

  pub all_anchored : (unmeant unended : Option ℕ) → IfNone unmeant (AreMeantKept g cut kept) → IfNone unended (ListsEnded cut checkpoint kept) → IsFirstOf unmeant unended None
      → AreMeantAnchored g cut checkpoint kept
  all_anchored None unended meant ended is = λ n r at.
      record { meant = meant n r at; since = λ c of. (subst (λ o. IfNone o (ListsEnded cut checkpoint kept)) (sym is) ended) n r c at of }
  all_anchored (Some m) unended meant ended is = absurd is

pub none_first : {P : Type 0} (unmeant unended : Option ℕ) → IfNone unmeant P → IsFirstOf unmeant unended None → P
none_first None unended told is = told
none_first (Some m) unended told is = absurd is

-- none is refused then
pub none_unmeant : (g : Geometry) (cut checkpoint : ℕ) (kept : List LogRecord) (n : ℕ) → AreMeantAnchored g cut checkpoint kept → IsFirstUnmeantAnchored g cut checkpoint kept n → ⊥
none_unmeant g cut checkpoint kept n all bad = by (slice_get kept (n - (cut + 1))) refl bad.here
  where
    by : (o : Option LogRecord) → slice_get kept (n - (cut + 1)) ≡ o → IsSomeAnd o (λ r. MayBeAnchored g cut checkpoint kept (n - (cut + 1)) r → ⊥) → ⊥
    by None at h = h
    by (Some r) at h = h (all (n - (cut + 1)) r at)
