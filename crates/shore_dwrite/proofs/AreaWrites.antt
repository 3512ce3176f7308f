-- The table and the images of a batch written behind the gate.
use Rattle.std.proofs.Common.{◌≡◌, inl, inr, ℕ, ◌+◌, ◌*◌, ◌≤◌, List, length, Result, Ok, Err, OnOk, refl, sym, ap, subst, ◌∙◌, arith}
use Rattle.shore_types.specs.declared.versions.Version.{Version}
use Rattle.shore_types.specs.Versions.{page_bytes, pages_begin, pages_begin-is}
use Rattle.shore_disk.specs.Device.{DeviceHistory, Torn, overwritten, seen, wrote, noted, Writes, Syncs, LeavesOnly, Stands}
use Rattle.shore_dwrite.specs.Differences.{DiffersInArea, HasImages}
use Rattle.shore_dwrite.specs.Tables.{IsTable}
use Rattle.shore_dwrite.specs.Volumes.{part}
use Rattle.shore_dwrite.proofs.Moves.{write_more, stands_still, synced_stands}
use Rattle.shore_dwrite.proofs.Overwrites.{length-overwritten, take_below, drop_above, part_here, part_front}

pub area_none : (v : Version) (base : List ℕ) → DiffersInArea v base base
area_none v base = record { len = refl; front = refl; pages = refl }

pub area_more : (v : Version) (base image bytes : List ℕ) (at : ℕ) → 4100 ≤ at → at + length bytes ≤ pages_begin v → pages_begin v ≤ length base → DiffersInArea v base image → DiffersInArea v base (overwritten image at bytes)
area_more v base image bytes at low high long so_far = record {
  len = length-overwritten image at bytes (omega (arith, so_far.len)) ∙ so_far.len;
  front = take_below image at bytes 4100 low (omega (arith, so_far.len)) ∙ so_far.front;
  pages = drop_above image at bytes (pages_begin v) high (omega (arith, so_far.len)) ∙ so_far.pages;
}

pub area_torn : (v : Version) (base : List ℕ) (at n : ℕ) → 4100 ≤ at → at + n ≤ pages_begin v → pages_begin v ≤ length base → (c d : List ℕ) → DiffersInArea v base d → Torn at n d c → DiffersInArea v base c
area_torn v base at n low high long c d so_far (inl same) = subst (DiffersInArea v base) (sym same) so_far
area_torn v base at n low high long c d so_far (inr torn) = subst (DiffersInArea v base) (sym torn.2) (area_more v base d torn.0 at low (omega (arith, torn.1)) long so_far)

module _ (v : Version) (old : DeviceHistory) (base : List ℕ) (stands : Stands old base) (long : pages_begin v ≤ length base) where
  -- over one write in the area more
  pub moments_more : {E : Type 0} (now new : DeviceHistory) (at : ℕ) (bytes : List ℕ) (r : Result Unit E) → 4100 ≤ at → at + length bytes ≤ pages_begin v
      → LeavesOnly old now (DiffersInArea v base) → Writes at bytes r now new → LeavesOnly old new (DiffersInArea v base)
  moments_more now new at bytes r low high so_far writes = write_more old now new (DiffersInArea v base) at bytes r so_far writes (area_torn v base at (length bytes) low high long)

  pub moments_none : LeavesOnly old old (DiffersInArea v base)
  moments_none = stands_still old base (DiffersInArea v base) stands (area_none v base)

  pub area_written : {E : Type 0} (one two new : DeviceHistory) (table numbers bytes : List ℕ) (r : Result Unit E) → IsTable table numbers → length bytes ≤ 32 * page_bytes v
      → one ≡ noted old (wrote 4100 table) → two ≡ noted one (wrote 8192 bytes) → Syncs r two new → OnOk r ((image : List ℕ) × Stands new image × HasImages v base image numbers bytes)
  area_written one two new table numbers bytes (Err e) is_table short first second syncs = tt
  area_written one two new table numbers bytes (Ok u) is_table short first second syncs =
      let begin : pages_begin v ≡ 8192 + 32 * page_bytes v = pages_begin-is v in
      let with_table = overwritten base 4100 table in
      let image = overwritten with_table 8192 bytes in
      let read : seen two ≡ image =
      ap seen second ∙ ap (λ (h : DeviceHistory). overwritten (seen h) 8192 bytes) first ∙ ap (λ (b : List ℕ). overwritten (overwritten b 4100 table) 8192 bytes) stands.read in
      let one_differs : DiffersInArea v base with_table = area_more v base base table 4100 (omega (arith, begin)) (omega (arith, begin, is_table.whole)) long (area_none v base) in
      let differs : DiffersInArea v base image = area_more v base with_table bytes 8192 (omega (arith, begin)) (omega (arith, begin)) long one_differs in
      let table_here : part 4100 132 with_table ≡ table = subst (λ (n : ℕ). part 4100 n with_table ≡ table) is_table.whole (part_here base 4100 table (omega (arith, begin))) in
      let stays : part 4100 132 image ≡ part 4100 132 with_table = part_front image with_table 8192 4100 132 (take_below with_table 8192 bytes 8192 (omega (arith, begin)) (omega (arith, begin, one_differs.len))) (omega (arith, begin)) in (
        image,
        subst (Stands new) read (synced_stands two new syncs),
        record {
          differs = differs;
          table = subst (λ (t : List ℕ). IsTable t numbers) (sym (stays ∙ table_here)) is_table;
          texts = part_here with_table 8192 bytes (omega (arith, begin, one_differs.len));
        },
      )
