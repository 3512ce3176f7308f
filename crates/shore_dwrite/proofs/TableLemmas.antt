-- The cells of a table as it is written.
use Rattle.std.proofs.Common.{◌≡◌, ◌≢◌, inl, inr, ℕ, ◌+◌, ◌-◌, ◌*◌, ◌<◌, ◌≤◌, List, length, take, drop, replicate, slice_get, Some, sym, ap, ◌∙◌, arith}
use Rattle.std.proofs.lemmas.List.{drop-take, drop-replicate, take-replicate}
use Rattle.std.proofs.lemmas.Bool.{cases_lt}
use Rattle.std.proofs.lemmas.Option.{slice_get_within, get_or_from_slice_get}
use Rattle.std.proofs.lemmas.Slice.{take-put_mid_below, drop-put_mid}
use borrow.Rule.Slice.PartMut.{put_mid}
use Rattle.byteorder.specs.Endian.{little_number}
use Rattle.shore_dwrite.specs.Tables.{IsTable, cell}

-- a cell beside the one that was written
pub cell_beside : (table bytes : List ℕ) (i j k : ℕ) → 4 * i + 4 ≤ length table → k ≡ 4 → length bytes ≡ 4 → j ≢ i → cell j (put_mid (4 * i) k table bytes) ≡ cell j table
cell_beside table bytes i j k fits four long other = elim (cases_lt j i) [
  | inl before ↦
      ap (little_number 4) (sym (drop-take (4 * j) 4 new) ∙ ap (drop (4 * j)) (take-put_mid_below (4 * i) k table bytes (4 * j + 4) (omega arith) (omega arith)) ∙ drop-take (4 * j) 4 table)
  | inr behind ↦ ap (λ (l : List ℕ). little_number 4 (take 4 l)) (drop-put_mid (4 * i) k table bytes (4 * j) (omega arith) (omega arith) (omega arith))
]
  where
    new : List ℕ
    new = put_mid (4 * i) k table bytes

-- a table of which the first entries are written
pub record HasFirst (table numbers : List ℕ) (written : ℕ) : Type 0 where
  pub whole : length table ≡ 132
  pub count : cell 0 table ≡ length numbers
  pub entries : (i k : ℕ) → i < written → slice_get numbers i ≡ Some k → cell (i + 1) table ≡ k
  pub unused : (i : ℕ) → written ≤ i → i < 32 → cell (i + 1) table ≡ 0

cell_zero : (i : ℕ) → i < 33 → cell i (replicate 132 0) ≡ 0
cell_zero i low =
    ap (λ (l : List ℕ). little_number 4 (take 4 l)) (drop-replicate (4 * i) 132 0) ∙ ap (little_number 4) (take-replicate 4 (132 - 4 * i) 0 (omega arith))

pub first_none : (table numbers : List ℕ) → length table ≡ 132 → cell 0 table ≡ length numbers
    → ((j : ℕ) → j ≢ 0 → cell j table ≡ cell j (replicate 132 0)) → HasFirst table numbers 0
first_none table numbers whole count others = record {
  whole = whole;
  count = count;
  entries = λ i k before got. absurd (omega arith);
  unused = λ i from low. others (i + 1) (omega arith) ∙ cell_zero (i + 1) (omega arith);
}

pub first_more : (old new numbers : List ℕ) (written k : ℕ) → HasFirst old numbers written → slice_get numbers written ≡ Some k
    → length new ≡ length old → cell (written + 1) new ≡ k → ((j : ℕ) → j ≢ written + 1 → cell j new ≡ cell j old) → HasFirst new numbers (written + 1)
first_more old new numbers written k so_far got len here others = record {
  whole = len ∙ so_far.whole;
  count = others 0 (omega arith) ∙ so_far.count;
  entries = λ i n before is. elim (cases_lt i written) [
    | inl less ↦ others (i + 1) (omega arith) ∙ so_far.entries i n less is
    | inr from ↦
        let same : i ≡ written = omega arith in
        ap (λ (j : ℕ). cell (j + 1) new) same ∙ here ∙ sym (get_or_from_slice_get numbers written k 0 got)
        ∙ get_or_from_slice_get numbers written n 0 (ap (slice_get numbers) (sym same) ∙ is)
  ];
  unused = λ i from low. others (i + 1) (omega arith) ∙ so_far.unused i (omega arith) low;
}

pub first_all : (table numbers : List ℕ) (written : ℕ) → written ≡ length numbers → HasFirst table numbers written → IsTable table numbers
first_all table numbers written all so_far = record {
  whole = so_far.whole;
  count = so_far.count;
  entries = λ i k got. so_far.entries i k (omega (arith, slice_get_within numbers i k got)) got;
  unused = λ i from low. so_far.unused i (omega arith) low;
}
