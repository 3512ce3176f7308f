-- The pages of a batch written in place, one after another.
use Rattle.std.proofs.Common.{◌≡◌, inl, inr, ℕ, zero, suc, ◌+◌, ◌-◌, ◌*◌, ◌<◌, ◌≤◌, List, [], ◌∷◌, Contains, All, length, take, drop, slice_get, get_or, Some, Result, Ok, Err, OnOk, refl, sym, ap, subst, ◌∙◌, arith}
use Rattle.std.proofs.lemmas.Bool.{cases_lt}
use Rattle.std.proofs.lemmas.Option.{get_or_from_slice_get, slice_get_within}
use Rattle.std.proofs.lemmas.List.{length-take-le, length-drop}
use Rattle.std.proofs.lemmas.List.Elements.{All-get_or}
use Rattle.shore_types.specs.declared.versions.Version.{Version}
use Rattle.shore_types.specs.Versions.{page_bytes, pages_begin}
use Rattle.shore_disk.specs.Device.{DeviceHistory, Torn, overwritten, seen, wrote, noted, Writes, Syncs, LeavesOnly, Stands}
use Rattle.shore_dwrite.specs.Differences.{DiffersInPages, HasPages}
use Rattle.shore_dwrite.specs.Shown.{RiseFrom}
use Rattle.shore_dwrite.specs.Volumes.{part, page_at, page_offset}
use Rattle.shore_dwrite.proofs.Moves.{write_more, stands_still, synced_stands}
use Rattle.shore_dwrite.proofs.PageWrites.{page_here, page_beside, differs_none, differs_more, differs_torn}
use Rattle.shore_dwrite.proofs.Products.{times_below, times_next}

-- the first so many are written
pub record WroteFirst (v : Version) (old now : DeviceHistory) (numbers texts base : List ℕ) (written : ℕ) : Type 0 where
  pub moments : LeavesOnly old now (DiffersInPages v numbers base)
  pub differs : DiffersInPages v numbers base (seen now)
  pub each : (i k : ℕ) → i < written → slice_get numbers i ≡ Some k → page_at v (seen now) k ≡ part (page_bytes v * i) (page_bytes v) texts

pub wrote_none : (v : Version) (h : DeviceHistory) (numbers texts base : List ℕ) → Stands h base → WroteFirst v h h numbers texts base 0
wrote_none v h numbers texts base stands = record {
  moments = stands_still h base (DiffersInPages v numbers base) stands (differs_none v numbers base);
  differs = subst (DiffersInPages v numbers base) (sym stands.read) (differs_none v numbers base);
  each = λ i k before got. absurd (omega arith);
}

least : (low : ℕ) (numbers : List ℕ) (i a : ℕ) → RiseFrom low numbers → slice_get numbers i ≡ Some a → low ≤ a
least low (k ∷ ks) zero a rise got = omega (arith, rise.0, get_or_from_slice_get (k ∷ ks) 0 a 0 got)
least low (k ∷ ks) (suc i) a rise got = omega (arith, rise.0, least (k + 1) ks i a rise.1 got)
least low [] i a rise got = absurd (omega (arith, slice_get_within [] i a got))

rise_apart : (low : ℕ) (numbers : List ℕ) (i j a b : ℕ) → RiseFrom low numbers → slice_get numbers i ≡ Some a → slice_get numbers j ≡ Some b → i < j → a < b
rise_apart low [] i j a b rise got_a got_b before = absurd (omega (arith, slice_get_within [] i a got_a))
rise_apart low (k ∷ ks) zero zero a b rise got_a got_b before = absurd (omega arith)
rise_apart low (k ∷ ks) zero (suc j) a b rise got_a got_b before = omega (arith, least (k + 1) ks j b rise.1 got_b, get_or_from_slice_get (k ∷ ks) 0 a 0 got_a)
rise_apart low (k ∷ ks) (suc i) zero a b rise got_a got_b before = absurd (omega arith)
rise_apart low (k ∷ ks) (suc i) (suc j) a b rise got_a got_b before = rise_apart (k + 1) ks i j a b rise.1 got_a got_b (omega arith)

pub is_contained : (numbers : List ℕ) (i k : ℕ) → slice_get numbers i ≡ Some k → Contains numbers k
is_contained numbers i k got = (i, slice_get_within numbers i k got, get_or_from_slice_get numbers i k k got)

pub wrote_torn : (v : Version) → {E : Type 0} (old now new : DeviceHistory) (numbers texts base bytes : List ℕ) (written k at : ℕ) (r : Result Unit E) → WroteFirst v old now numbers texts base written → slice_get numbers written ≡ Some k
    → page_offset v k + page_bytes v ≤ length base → length bytes ≡ page_bytes v → at ≡ page_offset v k → Writes at bytes r now new → LeavesOnly old new (DiffersInPages v numbers base)
wrote_torn v old now new numbers texts base bytes written k at r so_far got fits long at_is writes =
    write_more old now new (DiffersInPages v numbers base) (page_offset v k) bytes r so_far.moments (subst (λ (n : ℕ). Writes n bytes r now new) at_is writes)
    (λ c d is torn. differs_torn v numbers base k (is_contained numbers written k got) fits c d is (subst (λ (n : ℕ). Torn (page_offset v k) n d c) long torn))

pub wrote_more : (v : Version) (old now new : DeviceHistory) (numbers texts base bytes : List ℕ) (written k at : ℕ) → WroteFirst v old now numbers texts base written → slice_get numbers written ≡ Some k → RiseFrom 0 numbers
    → page_offset v k + page_bytes v ≤ length base → length bytes ≡ page_bytes v → bytes ≡ part (page_bytes v * written) (page_bytes v) texts → at ≡ page_offset v k → new ≡ noted now (wrote at bytes) → WroteFirst v old new numbers texts base (written + 1)
wrote_more v old now new numbers texts base bytes written k place so_far got rise fits long bytes_are at_is wrote_is =
    let read = seen now in
    let at = page_offset v k in
    let is : new ≡ noted now (wrote at bytes) = wrote_is ∙ ap (λ (n : ℕ). noted now (wrote n bytes)) at_is in
    let within : at + page_bytes v ≤ length read = omega (arith, so_far.differs.len) in
    record {
      moments = wrote_torn v {E = Unit {0}} old now new numbers texts base bytes written k at (Ok tt) so_far got fits long refl is;
      differs = subst (λ (h : DeviceHistory). DiffersInPages v numbers base (seen h)) (sym is) (differs_more v numbers base read bytes k (is_contained numbers written k got) fits long so_far.differs);
      each = λ i n before got_n. subst (λ (h : DeviceHistory). page_at v (seen h) n ≡ part (page_bytes v * i) (page_bytes v) texts) (sym is) (elim (cases_lt i written) [
        | inl less ↦ page_beside v read bytes k long within n (λ same. absurd (omega (arith, rise_apart 0 numbers i written n k rise got_n got less))) ∙ so_far.each i n less got_n
        | inr from ↦
            let last : i ≡ written = omega arith in
            let same : n ≡ k = sym (get_or_from_slice_get numbers i n 0 got_n) ∙ ap (λ (j : ℕ). get_or numbers j 0) last ∙ get_or_from_slice_get numbers written k 0 got in
            ap (page_at v (overwritten read at bytes)) same ∙ page_here v read bytes k long within ∙ bytes_are ∙ ap (λ (j : ℕ). part (page_bytes v * j) (page_bytes v) texts) (sym last)
      ]);
    }

pub wrote_all : (v : Version) (old now : DeviceHistory) (numbers texts base : List ℕ) (written : ℕ) → length numbers ≤ written → WroteFirst v old now numbers texts base written → HasPages v base (seen now) numbers texts
wrote_all v old now numbers texts base written all so_far = record {
  differs = so_far.differs;
  each = λ i k got. so_far.each i k (omega (arith, slice_get_within numbers i k got)) got;
}

-- the page of a batch at an index is on the volume
pub page_fits : (v : Version) (numbers base : List ℕ) (i count : ℕ) → i < length numbers → All (λ k. k < count) numbers → length base ≡ pages_begin v + page_bytes v * count → page_offset v (get_or numbers i 0) + page_bytes v ≤ length base
page_fits v numbers base i count inside on_volume long = omega (arith, times_below (page_bytes v) (get_or numbers i 0) count (All-get_or (λ (k : ℕ). k < count) numbers i 0 inside on_volume))

-- its text, of a size that is a page's
pub text_is : (v : Version) (size : ℕ) → size ≡ page_bytes v → (texts : List ℕ) (i : ℕ) → take (size * (i + 1) - size * i) (drop (size * i) texts) ≡ part (page_bytes v * i) (page_bytes v) texts
text_is v size is texts i =
    let n : page_bytes v * (i + 1) - page_bytes v * i ≡ page_bytes v = omega (arith, times_next (page_bytes v) i) in
    ap (λ (n : ℕ). take (n * (i + 1) - n * i) (drop (n * i) texts)) is ∙ ap (λ (n : ℕ). take n (drop (page_bytes v * i) texts)) n

pub length-text : (v : Version) (size : ℕ) → size ≡ page_bytes v → (texts : List ℕ) (i count : ℕ) → length texts ≡ page_bytes v * count → i < count → length (take (size * (i + 1) - size * i) (drop (size * i) texts)) ≡ page_bytes v
length-text v size is texts i count long inside =
    ap length (text_is v size is texts i) ∙ length-take-le (page_bytes v) (drop (page_bytes v * i) texts) (omega (arith, length-drop (page_bytes v * i) texts, times_below (page_bytes v) i count inside))

-- a sync that answers Ok, behind the last page
pub wrote_and_synced : (v : Version) → {E : Type 0} (old now new : DeviceHistory) (numbers texts base : List ℕ) (written : ℕ) (r : Result Unit E) → length numbers ≤ written → WroteFirst v old now numbers texts base written → Syncs r now new
    → OnOk r ((image : List ℕ) × Stands new image × HasPages v base image numbers texts)
wrote_and_synced v old now new numbers texts base written (Ok u) all so_far syncs = (seen now, synced_stands now new syncs, wrote_all v old now numbers texts base written all so_far)
wrote_and_synced v old now new numbers texts base written (Err e) all so_far syncs = tt
