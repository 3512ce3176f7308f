-- A batch that gets one page more.
use Rattle.std.proofs.Common.{◌≡◌, ℕ, ◌+◌, ◌*◌, ◌<◌, ◌≤◌, List, [], ◌∷◌, ◌++◌, All, length, drop, sym, subst, arith}
use Rattle.std.proofs.lemmas.List.{take-append-le, drop-append-le, take_all, length-drop}
use Rattle.std.proofs.lemmas.List.Elements.{All-head, All-tail, All-push}
use Rattle.shore_types.specs.declared.layout.Geometry.{Geometry}
use Rattle.shore_types.specs.declared.versions.Version.{Version}
use Rattle.shore_types.specs.Versions.{page_bytes}
use Rattle.shore_dwrite.specs.Shown.{AreTexts, IsBatchSoFar, RiseFrom}
use Rattle.shore_dwrite.specs.Volumes.{IsImageOf, page_count}
use Rattle.shore_dwrite.proofs.Products.{times_suc}

-- one number more, above them all
pub rise_on : (low : ℕ) (numbers : List ℕ) (k : ℕ) → RiseFrom low numbers → All (λ n. n < k) numbers → low ≤ k → RiseFrom low (numbers ++ k ∷ [])
rise_on low [] k rise below from = (from, tt)
rise_on low (n ∷ numbers) k rise below from =
    let less : n < k = All-head (λ m. m < k) n numbers below in
    (rise.0, rise_on (n + 1) numbers k rise.1 (All-tail (λ m. m < k) n numbers below) (omega arith))

-- one text more, behind the others
pub texts_on : (v : Version) (P : ℕ → List ℕ → Type 0) (numbers bytes : List ℕ) (k : ℕ) (text : List ℕ) → length bytes ≡ page_bytes v * length numbers → length text ≡ page_bytes v
    → AreTexts v P numbers bytes → P k text → AreTexts v P (numbers ++ k ∷ []) (bytes ++ text)
texts_on v P [] [] k text long whole are is = (subst (P k) (sym (take_all (page_bytes v) text (omega arith))) is, tt)
texts_on v P [] (b ∷ bytes) k text long whole are is = absurd (omega arith)
texts_on v P (n ∷ numbers) bytes k text long whole are is = (let more = times_suc (page_bytes v) (length numbers) in (
  subst (P n) (sym (take-append-le (page_bytes v) bytes text (omega (arith, more)))) are.0,
  subst (AreTexts v P (numbers ++ k ∷ [])) (sym (drop-append-le (page_bytes v) bytes text (omega (arith, more)))) (texts_on v P numbers (drop (page_bytes v) bytes) k text (omega (arith, more, length-drop (page_bytes v) bytes)) whole are.1 is),
))

pub grown : (g : Geometry) (numbers bytes : List ℕ) (k : ℕ) (text : List ℕ) → length bytes ≡ page_bytes g.version * length numbers → length text ≡ page_bytes g.version
    → IsBatchSoFar g numbers bytes → All (λ n. n < k) numbers → k < page_count g → IsImageOf g k text → IsBatchSoFar g (numbers ++ k ∷ []) (bytes ++ text)
grown g numbers bytes k text long whole batch below within is = record {
  rise = rise_on 0 numbers k batch.rise below (omega arith);
  on_volume = All-push (λ n. n < page_count g) numbers k batch.on_volume within;
  images = texts_on g.version (IsImageOf g) numbers bytes k text long whole batch.images is;
}
