-- A write of a page in place.
use Rattle.std.proofs.Common.{◌≡◌, ◌≢◌, inl, inr, ℕ, ◌+◌, ◌≤◌, List, Contains, length, refl, sym, subst, ◌∙◌, arith}
use Rattle.std.proofs.lemmas.Bool.{cases_lt}
use Rattle.shore_types.specs.declared.versions.Version.{Version}
use Rattle.shore_types.specs.Versions.{page_bytes, pages_begin}
use Rattle.shore_disk.specs.Device.{overwritten, Torn}
use Rattle.shore_dwrite.specs.Differences.{DiffersInPages}
use Rattle.shore_dwrite.specs.Volumes.{part, page_at, page_offset}
use Rattle.shore_dwrite.proofs.Overwrites.{length-overwritten, take_below, drop_above, part_here, part_front, part_rest}
use Rattle.shore_dwrite.proofs.Products.{times_below}

module _ (v : Version) (image bytes : List ℕ) (k : ℕ) (long : length bytes ≡ page_bytes v) (fits : page_offset v k + page_bytes v ≤ length image) where
  pub page_here : page_at v (overwritten image (page_offset v k) bytes) k ≡ bytes
  page_here = subst (λ (n : ℕ). part (page_offset v k) n (overwritten image (page_offset v k) bytes) ≡ bytes) long (part_here image (page_offset v k) bytes (omega arith))

  pub page_beside : (j : ℕ) → j ≢ k → page_at v (overwritten image (page_offset v k) bytes) j ≡ page_at v image j
  page_beside j other = elim (cases_lt j k) [
    | inl before ↦ (let below = times_below (page_bytes v) j k before in part_front (overwritten image (page_offset v k) bytes) image (page_offset v k) (page_offset v j) (page_bytes v) (take_below image (page_offset v k) bytes (page_offset v k) (omega arith) (omega arith)) (omega (arith, below)))
    | inr behind ↦ (let below = times_below (page_bytes v) k j (omega arith) in part_rest (overwritten image (page_offset v k) bytes) image (page_offset v k + page_bytes v) (page_offset v j) (page_bytes v) (drop_above image (page_offset v k) bytes (page_offset v k + page_bytes v) (omega arith) (omega arith)) (omega (arith, below)))
  ]

pub differs_none : (v : Version) (numbers base : List ℕ) → DiffersInPages v numbers base base
differs_none v numbers base = record { len = refl; front = refl; others = λ k none. refl }

pub differs_more : (v : Version) (numbers base image bytes : List ℕ) (k : ℕ) → Contains numbers k → page_offset v k + page_bytes v ≤ length base → length bytes ≡ page_bytes v
    → DiffersInPages v numbers base image → DiffersInPages v numbers base (overwritten image (page_offset v k) bytes)
differs_more v numbers base image bytes k is_one fits long so_far = record {
  len = length-overwritten image (page_offset v k) bytes (omega (arith, so_far.len)) ∙ so_far.len;
  front = take_below image (page_offset v k) bytes (pages_begin v) (omega arith) (omega (arith, so_far.len)) ∙ so_far.front;
  others = λ j none. page_beside v image bytes k long (omega (arith, so_far.len)) j (λ same. none (subst (Contains numbers) (sym same) is_one)) ∙ so_far.others j none;
}

-- a page's write that a crash cuts short
pub differs_torn : (v : Version) (numbers base : List ℕ) (k : ℕ) → Contains numbers k → page_offset v k + page_bytes v ≤ length base → (c d : List ℕ)
    → DiffersInPages v numbers base d → Torn (page_offset v k) (page_bytes v) d c → DiffersInPages v numbers base c
differs_torn v numbers base k is_one fits c d so_far (inl same) = subst (DiffersInPages v numbers base) (sym same) so_far
differs_torn v numbers base k is_one fits c d so_far (inr torn) = subst (DiffersInPages v numbers base) (sym torn.2) (differs_more v numbers base d torn.0 k is_one fits torn.1 so_far)
