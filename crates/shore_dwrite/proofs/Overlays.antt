-- Pages with images laid over them.
use Rattle.std.proofs.Common.{◌≡◌, inl, inr, ℕ, zero, suc, ◌+◌, ◌*◌, Bool, List, [], ◌∷◌, Contains, length, take, drop, slice_get, Some, if◌then◌else◌, refl, sym, ap, subst, ◌∙◌, arith}
use Rattle.std.proofs.lemmas.Bool.{cases_eq, eq-eqb, ne_eqb}
use Rattle.std.proofs.lemmas.List.{drop-take, drop-drop}
use Rattle.shore_types.specs.declared.layout.Geometry.{Geometry}
use Rattle.shore_types.specs.declared.versions.Version.{Version}
use Rattle.shore_types.specs.Versions.{page_bytes}
use Rattle.shore_dwrite.specs.Checks.{IsFirstBad}
use Rattle.shore_dwrite.specs.Shown.{AreImages, overlaid}
use Rattle.shore_dwrite.specs.Volumes.{part, IsImageOf}
use Rattle.shore_dwrite.proofs.Overwrites.{take_again}
use Rattle.shore_dwrite.proofs.Products.{times_none, times_suc}

-- one who is in a list but not at its front
not_contained : (n k : ℕ) (ns : List ℕ) → (n ≡ k → ⊥) → (Contains ns k → ⊥) → Contains (n ∷ ns) k → ⊥
not_contained n k ns other none (zero, inside, is) = other is
not_contained n k ns other none (suc i, inside, is) = none (i, omega arith, is)

laid_here : (v : Version) (n k : ℕ) (ns bytes : List ℕ) (pages : ℕ → List ℕ) → n ≡ k → overlaid v (n ∷ ns) bytes pages k ≡ take (page_bytes v) bytes
laid_here v n k ns bytes pages is = ap (λ (b : Bool). if b then take (page_bytes v) bytes else overlaid v ns (drop (page_bytes v) bytes) pages k) (eq-eqb n k is)

laid_behind : (v : Version) (n k : ℕ) (ns bytes : List ℕ) (pages : ℕ → List ℕ) → (n ≡ k → ⊥) → overlaid v (n ∷ ns) bytes pages k ≡ overlaid v ns (drop (page_bytes v) bytes) pages k
laid_behind v n k ns bytes pages other = ap (λ (b : Bool). if b then take (page_bytes v) bytes else overlaid v ns (drop (page_bytes v) bytes) pages k) (ne_eqb n k other)

-- bytes that begin with others, of some pages' length
take_text : (v : Version) (all texts : List ℕ) (n : ℕ) → take (page_bytes v + n) all ≡ texts → take (page_bytes v) all ≡ take (page_bytes v) texts
take_text v all texts n is = sym (take_again (page_bytes v) (page_bytes v + n) all (omega arith)) ∙ ap (take (page_bytes v)) is

drop_text : (v : Version) (all texts : List ℕ) (n : ℕ) → take (page_bytes v + n) all ≡ texts → take n (drop (page_bytes v) all) ≡ drop (page_bytes v) texts
drop_text v all texts n is = sym (drop-take (page_bytes v) n all) ∙ ap (drop (page_bytes v)) is

-- only the images count of the bytes that hold them, and of the pages only those that no image is of
pub laid_alike : (v : Version) (ns all texts : List ℕ) (pages others : ℕ → List ℕ) (k : ℕ) → take (page_bytes v * length ns) all ≡ texts → ((Contains ns k → ⊥) → pages k ≡ others k)
    → overlaid v ns all pages k ≡ overlaid v ns texts others k
laid_alike v [] all texts pages others k is same = same (λ has. absurd (omega (arith, has.1)))
laid_alike v (n ∷ ns) all texts pages others k is same =
    let more : take (page_bytes v + page_bytes v * length ns) all ≡ texts = is_more all texts ns is in
    elim (cases_eq n k) [
      | inl here ↦ laid_here v n k ns all pages here ∙ take_text v all texts (page_bytes v * length ns) more ∙ sym (laid_here v n k ns texts others here)
      | inr other ↦
          laid_behind v n k ns all pages other
          ∙ laid_alike v ns (drop (page_bytes v) all) (drop (page_bytes v) texts) pages others k (drop_text v all texts (page_bytes v * length ns) more) (λ none. same (not_contained n k ns other none))
          ∙ sym (laid_behind v n k ns texts others other)
    ]
  where
    is_more : (all texts ns : List ℕ) → take (page_bytes v * suc (length ns)) all ≡ texts → take (page_bytes v + page_bytes v * length ns) all ≡ texts
    is_more all texts ns is =
        let n = times_suc (page_bytes v) (length ns) in
        ap (λ (m : ℕ). take m all) n ∙ is

pub images_alike : (g : Geometry) (ns all texts : List ℕ) → take (page_bytes g.version * length ns) all ≡ texts → AreImages g ns texts → AreImages g ns all
images_alike g [] all texts is are = tt
images_alike g (n ∷ ns) all texts is are =
    let length_is = times_suc (page_bytes g.version) (length ns) in
    let more : take (page_bytes g.version + page_bytes g.version * length ns) all ≡ texts = ap (λ (m : ℕ). take m all) length_is ∙ is in
    (subst (IsImageOf g n) (sym (take_text g.version all texts (page_bytes g.version * length ns) more)) are.0, images_alike g ns (drop (page_bytes g.version) all) (drop (page_bytes g.version) texts) (drop_text g.version all texts (page_bytes g.version * length ns) more) are.1)

-- pages that were put in place are those that were laid over
pub laid_in_place : (v : Version) (ns texts : List ℕ) (placed pages : ℕ → List ℕ) (k : ℕ) → ((i n : ℕ) → slice_get ns i ≡ Some n → placed n ≡ part (page_bytes v * i) (page_bytes v) texts)
    → ((Contains ns k → ⊥) → placed k ≡ pages k) → placed k ≡ overlaid v ns texts pages k
laid_in_place v [] texts placed pages k each same = same (λ has. absurd (omega (arith, has.1)))
laid_in_place v (n ∷ ns) texts placed pages k each same = elim (cases_eq n k) [
  | inl here ↦ ap placed (sym here) ∙ each 0 n refl ∙ ap (λ (m : ℕ). part m (page_bytes v) texts) (times_none (page_bytes v)) ∙ sym (laid_here v n k ns texts pages here)
  | inr other ↦
      laid_in_place v ns (drop (page_bytes v) texts) placed pages k (λ i m got. each (suc i) m got ∙ shifted texts i) (λ none. same (not_contained n k ns other none)) ∙ sym (laid_behind v n k ns texts pages other)
]
  where
    shifted : (texts : List ℕ) (i : ℕ) → part (page_bytes v * suc i) (page_bytes v) texts ≡ part (page_bytes v * i) (page_bytes v) (drop (page_bytes v) texts)
    shifted texts i =
        let n : page_bytes v * suc i ≡ page_bytes v + page_bytes v * i = sym (times_suc (page_bytes v) i) in
        ap (λ (m : ℕ). take (page_bytes v) (drop m texts)) n ∙ ap (take (page_bytes v)) (sym (drop-drop (page_bytes v * i) (page_bytes v) texts))

more : (v : Version) (all texts ns : List ℕ) → take (page_bytes v * suc (length ns)) all ≡ texts → take (page_bytes v + page_bytes v * length ns) all ≡ texts
more v all texts ns is =
    let n = times_suc (page_bytes v) (length ns) in
    ap (λ (m : ℕ). take m all) n ∙ is

-- .. also of the first image that is none
pub bad_alike : (g : Geometry) (ns all texts : List ℕ) (i : ℕ) → take (page_bytes g.version * length ns) all ≡ texts → IsFirstBad g ns texts i → IsFirstBad g ns all i
bad_alike g [] all texts i is bad = bad
bad_alike g (n ∷ ns) all texts zero is bad = λ has. bad (subst (IsImageOf g n) (take_text g.version all texts (page_bytes g.version * length ns) (more g.version all texts ns is)) has)
bad_alike g (n ∷ ns) all texts (suc i) is bad =
    let longer = more g.version all texts ns is in
    (subst (IsImageOf g n) (sym (take_text g.version all texts (page_bytes g.version * length ns) longer)) bad.0, bad_alike g ns (drop (page_bytes g.version) all) (drop (page_bytes g.version) texts) i (drop_text g.version all texts (page_bytes g.version * length ns) longer) bad.1)
