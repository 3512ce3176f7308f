-- What a crash leaves at each moment of a replay.
use Rattle.std.proofs.Common.{◌≡◌, inl, inr, ℕ, suc, ◌*◌, ◌<◌, ◌≤◌, List, [], ◌∷◌, length, take, drop, get_or, refl, sym, ap, ◌∙◌, arith}
use Rattle.std.proofs.lemmas.Option.{slice_get-get_or}
use Rattle.shore_disk.specs.Device.{DeviceHistory, overwritten, TornFrom, LeavesOnly, Stands}
use Rattle.shore_disk.proofs.Moments.{joined, widened}
use Rattle.shore_gate.specs.declared.gates.TheConstants.{OPEN, CLOSED}
use Rattle.shore_types.specs.declared.layout.Geometry.{Geometry}
use Rattle.shore_types.specs.Versions.{page_bytes, pages_begin, pages_begin-is}
use Rattle.shore_dwrite.specs.Checks.{HasRead}
use Rattle.shore_dwrite.specs.Differences.{DiffersInPages, HasPages}
use Rattle.shore_dwrite.specs.Shown.{AreInPlace, HasArea, IsBatch, IsShut, Shows, ShowsBehind, ShowsEither, overlaid}
use Rattle.shore_dwrite.specs.Tables.{IsTable}
use Rattle.shore_dwrite.specs.Volumes.{page_at, page_count, part}
use Rattle.shore_dwrite.proofs.Batches.{IsLaid, laid_shows, gate_shows, shut_has, pages_laid, gate_of_pages, pages_in_place}
use Rattle.shore_dwrite.proofs.BatchMoments.{torn_from_stands}
use Rattle.shore_dwrite.proofs.Overlays.{images_alike, laid_alike}

-- two lists that agree at each place are one
same_lists : (xs ys : List ℕ) → length xs ≡ length ys → ((i : ℕ) → i < length xs → get_or xs i 0 ≡ get_or ys i 0) → xs ≡ ys
same_lists [] [] long each = refl
same_lists [] (y ∷ ys) long each = absurd (omega arith)
same_lists (x ∷ xs) [] long each = absurd (omega arith)
same_lists (x ∷ xs) (y ∷ ys) long each =
    let first : x ≡ y = each 0 (omega arith) in
    let rest : xs ≡ ys = same_lists xs ys (omega arith) (λ i inside. each (suc i) (omega arith)) in
    cc (first, rest)

-- a table is that of one list of pages
one_table : (table a b : List ℕ) → IsTable table a → IsTable table b → a ≡ b
one_table table a b is_a is_b =
    let long : length a ≡ length b = sym is_a.count ∙ is_b.count in
    same_lists a b long (λ i inside.
    sym (is_a.entries i (get_or a i 0) (slice_get-get_or a i 0 inside)) ∙ is_b.entries i (get_or b i 0) (slice_get-get_or b i 0 (omega (arith, long))))

-- pages that are the same are shown alike
shows_same : (g : Geometry) (front : List ℕ) (a b : ℕ → List ℕ) (image : List ℕ) → ((k : ℕ) → k < page_count g → a k ≡ b k) → ShowsBehind g front a image → ShowsBehind g front b image
shows_same g front a b image same (is, inl shut) = (is, inl (shut.0, λ k within. shut.1 k within ∙ same k within))
shows_same g front a b image same (is, inr opened) = (is, inr (opened.0, opened.1, λ k within. opened.2 k within ∙ same k within))

module _ (g : Geometry) (front : List ℕ) (pages : ℕ → List ℕ) (numbers texts : List ℕ) (batch : IsBatch g numbers texts) (long : length texts ≡ page_bytes g.version * length numbers) (start : DeviceHistory)
    (image : List ℕ) (front_is : take 4096 image ≡ front) (fits : pages_begin g.version ≤ length image) (read : HasRead image numbers texts) (named : List ℕ) (area : HasArea g image named)
    (shown : (k : ℕ) → k < page_count g → overlaid g.version named (drop 8192 image) (page_at g.version image) k ≡ pages k) where
  is_laid : IsLaid g front (page_at g.version image) numbers texts batch long image
  is_laid = record { front_is = front_is; table = read.table; texts_are = read.texts_are; others = λ k within none. refl }

  abbrev laid : ℕ → List ℕ
  laid = overlaid g.version numbers texts (page_at g.version image)

  -- what was read is what is shown
  same : (k : ℕ) → k < page_count g → laid k ≡ pages k
  same k within =
      let one : named ≡ numbers = one_table (part 4100 132 image) named numbers area.table read.table in
      let all : take (page_bytes g.version * length numbers) (drop 8192 image) ≡ texts = ap (λ (n : ℕ). take n (drop 8192 image)) (sym long) ∙ read.texts_are in
      sym (laid_alike g.version numbers (drop 8192 image) texts (page_at g.version image) (page_at g.version image) k all (λ none. refl)) ∙ ap (λ (ns : List ℕ). overlaid g.version ns (drop 8192 image) (page_at g.version image) k) (sym one) ∙ shown k within

  laid_by : (c : List ℕ) → DiffersInPages g.version numbers image c → ShowsBehind g front laid c
  laid_by c differs = laid_shows g front (page_at g.version image) numbers texts batch long c (pages_laid g front (page_at g.version image) numbers texts batch long image c is_laid differs) (gate_of_pages g front (page_at g.version image) numbers texts batch long image c differs ∙ area.is_open)

  shows_by : (c : List ℕ) → DiffersInPages g.version numbers image c → ShowsBehind g front pages c
  shows_by c differs = shows_same g front laid pages c same (laid_by c differs)

  pub while_replayed : (now : DeviceHistory) → LeavesOnly start now (DiffersInPages g.version numbers image) → LeavesOnly start now (ShowsBehind g front pages)
  while_replayed now moments = widened start now (DiffersInPages g.version numbers image) (ShowsBehind g front pages) moments shows_by

  module _ (placed : List ℕ) (has : HasPages g.version image placed numbers texts) where
    placed_fits : 8192 ≤ length placed
    placed_fits = omega (arith, has.differs.len, pages_begin-is g.version)

    placed_is_laid : IsLaid g front (page_at g.version image) numbers texts batch long placed
    placed_is_laid = pages_laid g front (page_at g.version image) numbers texts batch long image placed is_laid has.differs

    are_placed : AreInPlace g placed laid
    are_placed = pages_in_place g front (page_at g.version image) numbers texts batch long image placed is_laid has

    either_way : (c : List ℕ) → ShowsEither g front laid laid c → ShowsBehind g front pages c
    either_way c (inl shows) = shows_same g front laid pages c same shows
    either_way c (inr shows) = shows_same g front laid pages c same shows

    pub while_shut : (three four : DeviceHistory) → LeavesOnly start three (ShowsBehind g front pages) → Stands three placed → LeavesOnly three four (TornFrom 4096 1 three) → LeavesOnly start four (ShowsBehind g front pages)
    while_shut three four before stands moments = joined start three four (ShowsBehind g front pages) before (widened three four (TornFrom 4096 1 three) (ShowsBehind g front pages) moments (λ c torn.
        either_way c (gate_shows g front (page_at g.version image) numbers texts batch long laid placed c placed_fits placed_is_laid are_placed (inr (laid_by placed has.differs)) (torn_from_stands three placed 4096 1 c stands torn))))

    abbrev pub closed : List ℕ
    closed = overwritten placed 4096 (CLOSED ∷ [])

    pub replayed : (take 4096 closed ≡ front) × IsShut closed × AreInPlace g closed pages
    replayed =
        let has = shut_has g front (page_at g.version image) numbers texts batch long placed (CLOSED ∷ []) refl placed_fits laid placed_is_laid.front_is (λ is. absurd (omega (arith, ap head is))) are_placed in
        (has.0, has.1, λ k within. has.2 k within ∙ same k within)
      where
        head : List ℕ → ℕ
        head [] = 0
        head (b ∷ rest) = b

-- behind a shut gate the pages that are shown are in place
pub shut_in_place : (g : Geometry) (image : List ℕ) (pages : ℕ → List ℕ) → Shows g image pages → IsShut image → AreInPlace g image pages
shut_in_place g image pages (inl shows) shut = shows.1
shut_in_place g image pages (inr shows) shut = absurd (shut shows.1.is_open)

-- behind an open one there is an area
pub area_of : (g : Geometry) (image : List ℕ) (pages : ℕ → List ℕ) → Shows g image pages → part 4096 1 image ≡ OPEN ∷ []
    → (named : List ℕ) × HasArea g image named × ((k : ℕ) → k < page_count g → overlaid g.version named (drop 8192 image) (page_at g.version image) k ≡ pages k)
area_of g image pages (inl shows) opened = absurd (shows.0 opened)
area_of g image pages (inr shows) opened = shows

-- what was read of an open area is in order
pub area_read : (g : Geometry) (numbers texts image : List ℕ) → IsBatch g numbers texts → length texts ≡ page_bytes g.version * length numbers → HasRead image numbers texts
    → part 4096 1 image ≡ OPEN ∷ [] → HasArea g image numbers
area_read g numbers texts image batch long read opened =
    let all : take (page_bytes g.version * length numbers) (drop 8192 image) ≡ texts = ap (λ (n : ℕ). take n (drop 8192 image)) (sym long) ∙ read.texts_are in
    record {
      is_open = opened;
      table = read.table;
      batch = record {
        some = batch.some;
        most = batch.most;
        rise = batch.rise;
        on_volume = batch.on_volume;
        images = images_alike g numbers (drop 8192 image) texts all batch.images;
      };
    }

-- the gate's byte, as it is read
pub gate_read : (bytes : List ℕ) → length bytes ≡ 1 → bytes ≡ get_or bytes 0 0 ∷ []
gate_read [] one = absurd (omega arith)
gate_read (b ∷ []) one = refl
gate_read (b ∷ d ∷ bytes) one = absurd (omega arith)

pub gate_shut : (bytes : List ℕ) → (get_or bytes 0 0 ≡ OPEN → ⊥) → bytes ≡ OPEN ∷ [] → ⊥
gate_shut bytes other is = other (ap (λ (l : List ℕ). get_or l 0 0) is)
