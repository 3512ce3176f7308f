-- The images of an area, as they are checked one after another.
use Rattle.std.proofs.Common.{◌≡◌, ℕ, zero, suc, ◌+◌, ◌*◌, ◌<◌, ◌≤◌, List, [], ◌∷◌, length, take, drop, get_or, sym, inl, inr, ap, subst, ◌∙◌, arith}
use Rattle.std.proofs.lemmas.Bool.{cases_lt}
use Rattle.std.proofs.lemmas.List.{drop-drop}
use Rattle.shore_types.specs.declared.layout.Geometry.{Geometry}
use Rattle.shore_types.specs.declared.versions.Version.{Version}
use Rattle.shore_types.specs.Versions.{page_bytes}
use Rattle.shore_dwrite.specs.Checks.{IsFirstBad}
use Rattle.shore_dwrite.specs.Shown.{AreImages}
use Rattle.shore_dwrite.specs.Volumes.{IsImageOf, part}
use Rattle.shore_dwrite.proofs.Products.{times_none, times_suc}

-- the first so many are texts of their pages
abbrev pub AreFirst : Geometry → List ℕ → List ℕ → ℕ → Type 0
AreFirst g numbers bytes n = (i : ℕ) → i < n → IsImageOf g (get_or numbers i 0) (part (page_bytes g.version * i) (page_bytes g.version) bytes)

shifted : (v : Version) (bytes : List ℕ) (i : ℕ) → part (page_bytes v * suc i) (page_bytes v) bytes ≡ part (page_bytes v * i) (page_bytes v) (drop (page_bytes v) bytes)
shifted v bytes i =
    let n : page_bytes v * suc i ≡ page_bytes v + page_bytes v * i = sym (times_suc (page_bytes v) i) in
    ap (λ (m : ℕ). take (page_bytes v) (drop m bytes)) n ∙ ap (take (page_bytes v)) (sym (drop-drop (page_bytes v * i) (page_bytes v) bytes))

behind : (g : Geometry) (k : ℕ) (numbers bytes : List ℕ) (n : ℕ) → AreFirst g (k ∷ numbers) bytes (suc n) → AreFirst g numbers (drop (page_bytes g.version) bytes) n
behind g k numbers bytes n are i low = subst (IsImageOf g (get_or numbers i 0)) (shifted g.version bytes i) (are (suc i) (omega arith))

at_first : (g : Geometry) (k : ℕ) (numbers bytes : List ℕ) → IsImageOf g (get_or (k ∷ numbers) 0 0) (part (page_bytes g.version * 0) (page_bytes g.version) bytes) → IsImageOf g k (take (page_bytes g.version) bytes)
at_first g k numbers bytes is = subst (λ (n : ℕ). IsImageOf g k (part n (page_bytes g.version) bytes)) (times_none (page_bytes g.version)) is

pub first_all : (g : Geometry) (numbers bytes : List ℕ) (n : ℕ) → length numbers ≤ n → AreFirst g numbers bytes n → AreImages g numbers bytes
first_all g [] bytes n all are = tt
first_all g (k ∷ numbers) bytes zero all are = absurd (omega arith)
first_all g (k ∷ numbers) bytes (suc n) all are = (at_first g k numbers bytes (are 0 (omega arith)), first_all g numbers (drop (page_bytes g.version) bytes) n (omega arith) (behind g k numbers bytes n are))

pub first_more : (g : Geometry) (numbers bytes : List ℕ) (n k : ℕ) (text : List ℕ) → AreFirst g numbers bytes n → k ≡ get_or numbers n 0 → text ≡ part (page_bytes g.version * n) (page_bytes g.version) bytes → IsImageOf g k text → AreFirst g numbers bytes (n + 1)
first_more g numbers bytes n k text are k_is text_is is i low = elim (cases_lt i n) [
  | inl less ↦ are i less
  | inr from ↦
      let last : n ≡ i = omega arith in
      subst (λ (m : ℕ). IsImageOf g (get_or numbers m 0) (part (page_bytes g.version * m) (page_bytes g.version) bytes)) last (subst (λ (m : ℕ). IsImageOf g m (part (page_bytes g.version * n) (page_bytes g.version) bytes)) k_is (subst (IsImageOf g k) text_is is))
]

pub first_bad : (g : Geometry) (numbers bytes : List ℕ) (n k : ℕ) (text : List ℕ) → n < length numbers → AreFirst g numbers bytes n → k ≡ get_or numbers n 0 → text ≡ part (page_bytes g.version * n) (page_bytes g.version) bytes → (IsImageOf g k text → ⊥) → IsFirstBad g numbers bytes n
first_bad g [] bytes n k text inside are k_is text_is bad = absurd (omega arith)
first_bad g (m ∷ numbers) bytes zero k text inside are k_is text_is bad = λ is. bad (subst (λ (j : ℕ). IsImageOf g j text) (sym k_is) (subst (IsImageOf g m) (sym (text_is ∙ ap (λ (n : ℕ). part n (page_bytes g.version) bytes) (times_none (page_bytes g.version)))) is))
first_bad g (m ∷ numbers) bytes (suc n) k text inside are k_is text_is bad =
    (at_first g m numbers bytes (are 0 (omega arith)), first_bad g numbers (drop (page_bytes g.version) bytes) n k text (omega arith) (behind g m numbers bytes n are) k_is (text_is ∙ shifted g.version bytes n) bad)
