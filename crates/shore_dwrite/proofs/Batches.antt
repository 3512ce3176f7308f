-- What a volume shows while a batch is written.
use Rattle.std.proofs.Common.{◌≡◌, ◌≢◌, ◌⊎◌, inl, inr, ℕ, ◌+◌, ◌*◌, ◌<◌, ◌≤◌, List, [], ◌∷◌, Contains, length, take, drop, refl, sym, ap, subst, ◌∙◌, arith}
use Rattle.std.proofs.Math.Nat.{mul-le-mul_left}
use Rattle.std.proofs.lemmas.Bool.{cases_eq}
use Rattle.shore_disk.specs.Device.{overwritten, Torn}
use Rattle.shore_gate.specs.declared.gates.TheConstants.{OPEN}
use Rattle.shore_types.specs.declared.layout.Geometry.{Geometry}
use Rattle.shore_types.specs.Versions.{page_bytes, pages_begin, pages_begin-is}
use Rattle.shore_dwrite.specs.Differences.{DiffersInArea, DiffersInPages, HasImages, HasPages}
use Rattle.shore_dwrite.specs.Shown.{AreInPlace, IsBatch, IsShut, ShowsBehind, ShowsEither, overlaid}
use Rattle.shore_dwrite.specs.Tables.{IsTable}
use Rattle.shore_dwrite.specs.UnderWay as under_way
use Rattle.shore_dwrite.specs.Volumes.{page_at, page_count, page_offset, part}
use Rattle.shore_dwrite.proofs.Overlays.{laid_alike, images_alike, laid_in_place}
use Rattle.shore_dwrite.proofs.Overwrites.{take_below, take_less, drop_above, part_here, part_front, part_rest}

one_byte : (bytes : List ℕ) → length bytes ≡ 1 → (b : ℕ) × (bytes ≡ b ∷ [])
one_byte [] is = absurd (omega arith)
one_byte (b ∷ []) is = (b, refl)
one_byte (b ∷ d ∷ bytes) is = absurd (omega arith)

-- a byte alone is that of an open gate, or it isn't
any_gate : (bytes : List ℕ) → length bytes ≡ 1 → (bytes ≡ OPEN ∷ []) ⊎ (bytes ≢ OPEN ∷ [])
any_gate bytes one = elim (cases_eq (one_byte bytes one).0 OPEN) [
  | inl same ↦ inl ((one_byte bytes one).1 ∙ ap (λ (b : ℕ). b ∷ []) same)
  | inr other ↦ inr (λ is. other (ap (λ (l : List ℕ). head l) (sym (one_byte bytes one).1 ∙ is)))
]
  where
    head : List ℕ → ℕ
    head [] = 0
    head (b ∷ rest) = b

module _ (g : Geometry) (front : List ℕ) (pages : ℕ → List ℕ) (numbers texts : List ℕ) (batch : IsBatch g numbers texts) (long : length texts ≡ page_bytes g.version * length numbers) where
  abbrev pub laid : ℕ → List ℕ
  laid = overlaid g.version numbers texts pages

  abbrev pub IsLaid : List ℕ → Type 0
  IsLaid = under_way.IsLaid g front pages numbers texts

  begins : pages_begin g.version ≡ 8192 + 32 * page_bytes g.version
  begins = pages_begin-is g.version

  -- the texts end before the first page in place
  texts_short : 8192 + length texts ≤ pages_begin g.version
  texts_short =
      let most : page_bytes g.version * length numbers ≤ page_bytes g.version * 32 = mul-le-mul_left (page_bytes g.version) batch.most in
      omega (arith, begins, most, long)

  texts_long : (image : List ℕ) → part 8192 (length texts) image ≡ texts → take (page_bytes g.version * length numbers) (drop 8192 image) ≡ texts
  texts_long image is = ap (λ (n : ℕ). take n (drop 8192 image)) (sym long) ∙ is

  pub laid_shows : (image : List ℕ) → IsLaid image → part 4096 1 image ≡ OPEN ∷ [] → ShowsBehind g front laid image
  laid_shows image is opened = (
    is.front_is,
    inr (
      numbers,
      record {
        is_open = opened;
        table = is.table;
        batch = record {
          some = batch.some;
          most = batch.most;
          rise = batch.rise;
          on_volume = batch.on_volume;
          images = images_alike g numbers (drop 8192 image) texts (texts_long image is.texts_are) batch.images;
        };
      },
      λ k within. laid_alike g.version numbers (drop 8192 image) texts (page_at g.version image) pages k (texts_long image is.texts_are) (is.others k within),
    ),
  )

  module _ (base : List ℕ) (front_is : take 4096 base ≡ front) (shut : IsShut base) (in_place : AreInPlace g base pages) where
    pub area_in_place : (image : List ℕ) → DiffersInArea g.version base image → AreInPlace g image pages
    area_in_place image differs k within = part_rest image base (pages_begin g.version) (page_offset g.version k) (page_bytes g.version) differs.pages (omega arith) ∙ in_place k within

    -- while the area is written
    pub area_shows : (image : List ℕ) → DiffersInArea g.version base image → ShowsBehind g front pages image
    area_shows image differs = (
      take_less image base 4096 4100 differs.front (omega arith) ∙ front_is,
      inl (λ opened. shut (sym (part_front image base 4100 4096 1 differs.front (omega arith)) ∙ opened), area_in_place image differs),
    )

    -- with its images, before the gate is opened and after
    pub area_laid : (image : List ℕ) → HasImages g.version base image numbers texts → IsLaid image
    area_laid image has = record {
      front_is = (area_shows image has.differs).0;
      table = has.table;
      texts_are = has.texts;
      others = λ k within none. area_in_place image has.differs k within;
    }

  -- one byte written into the gate, of an image of a volume
  module _ (image bytes : List ℕ) (one : length bytes ≡ 1) (fits : 8192 ≤ length image) where
    abbrev pub gated : List ℕ
    gated = overwritten image 4096 bytes

    pub gate_is : part 4096 1 gated ≡ bytes
    gate_is = subst (λ (n : ℕ). part 4096 n gated ≡ bytes) one (part_here image 4096 bytes (omega arith))

    front_stays : take 4096 gated ≡ take 4096 image
    front_stays = take_below image 4096 bytes 4096 (omega arith) (omega arith)

    rest_stays : drop 4097 gated ≡ drop 4097 image
    rest_stays = drop_above image 4096 bytes 4097 (omega arith) (omega arith)

    pub page_stays : (k : ℕ) → page_at g.version gated k ≡ page_at g.version image k
    page_stays k = part_rest gated image 4097 (page_offset g.version k) (page_bytes g.version) rest_stays (omega (arith, begins))

    pub gated_laid : IsLaid image → IsLaid gated
    gated_laid is = record {
      front_is = front_stays ∙ is.front_is;
      table = subst (λ (t : List ℕ). IsTable t numbers) (sym (part_rest gated image 4097 4100 132 rest_stays (omega arith))) is.table;
      texts_are = part_rest gated image 4097 8192 (length texts) rest_stays (omega arith) ∙ is.texts_are;
      others = λ k within none. page_stays k ∙ is.others k within none;
    }

    -- shut, it has in place what was there
    pub shut_has : (others : ℕ → List ℕ) → take 4096 image ≡ front → bytes ≢ OPEN ∷ [] → AreInPlace g image others → (take 4096 gated ≡ front) × IsShut gated × AreInPlace g gated others
    shut_has others front_is is_shut in_place = (front_stays ∙ front_is, λ opened. is_shut (sym gate_is ∙ opened), λ k within. page_stays k ∙ in_place k within)

  -- the gate's byte may be any while it is written
  pub gate_shows : (others : ℕ → List ℕ) (image c : List ℕ) → 8192 ≤ length image → IsLaid image → AreInPlace g image others → ShowsEither g front others laid image → Torn 4096 1 image c → ShowsEither g front others laid c
  gate_shows others image c fits is in_place now (inl same) = subst (ShowsEither g front others laid) (sym same) now
  gate_shows others image c fits is in_place now (inr torn) = subst (ShowsEither g front others laid) (sym torn.2) (elim (any_gate torn.0 torn.1) [
    | inl opened ↦ inr (laid_shows (overwritten image 4096 torn.0) (gated_laid image torn.0 torn.1 fits is) (gate_is image torn.0 torn.1 fits ∙ opened))
    | inr shut ↦ let has = shut_has image torn.0 torn.1 fits others is.front_is shut in_place in inl (has.0, inl (has.1, has.2))
  ])

  -- while the pages are written in place, and after
  pub pages_laid : (image c : List ℕ) → IsLaid image → DiffersInPages g.version numbers image c → IsLaid c
  pages_laid image c is differs = record {
    front_is = take_less c image 4096 (pages_begin g.version) differs.front (omega (arith, begins)) ∙ is.front_is;
    table = subst (λ (t : List ℕ). IsTable t numbers) (sym (part_front c image (pages_begin g.version) 4100 132 differs.front (omega (arith, begins)))) is.table;
    texts_are = part_front c image (pages_begin g.version) 8192 (length texts) differs.front (omega (arith, texts_short)) ∙ is.texts_are;
    others = λ k within none. differs.others k none ∙ is.others k within none;
  }

  pub gate_of_pages : (image c : List ℕ) → DiffersInPages g.version numbers image c → part 4096 1 c ≡ part 4096 1 image
  gate_of_pages image c differs = part_front c image (pages_begin g.version) 4096 1 differs.front (omega (arith, begins))

  pub pages_in_place : (image c : List ℕ) → IsLaid image → HasPages g.version image c numbers texts → AreInPlace g c laid
  pages_in_place image c is has k within = laid_in_place g.version numbers texts (page_at g.version c) pages k has.each (λ none. has.differs.others k none ∙ is.others k within none)
