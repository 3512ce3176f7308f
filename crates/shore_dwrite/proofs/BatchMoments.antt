-- What a crash leaves at each moment of a batch's four steps.
use Rattle.std.proofs.Common.{◌≡◌, inl, inr, ℕ, ◌*◌, ◌≤◌, List, [], ◌∷◌, length, take, refl, ap, subst, ◌∙◌, arith}
use Rattle.shore_disk.specs.Device.{DeviceHistory, overwritten, Torn, TornFrom, LeavesOnly, Stands}
use Rattle.shore_disk.proofs.Moments.{widened}
use Rattle.shore_gate.specs.declared.gates.TheConstants.{OPEN, CLOSED}
use Rattle.shore_types.specs.declared.layout.Geometry.{Geometry}
use Rattle.shore_types.specs.Versions.{page_bytes}
use Rattle.shore_dwrite.specs.Differences.{DiffersInArea, DiffersInPages, HasPages}
use Rattle.shore_dwrite.specs.Shown.{AreInPlace, IsBatch, IsShut, ShowsBehind, ShowsEither, overlaid}
use Rattle.shore_dwrite.specs.Volumes.{part}
use Rattle.shore_dwrite.proofs.Batches.{IsLaid, laid_shows, area_shows, gated_laid, gate_is, gate_shows, shut_has, pages_laid, gate_of_pages, pages_in_place}

-- from what a crash may have left to what stood
pub torn_from_stands : (h : DeviceHistory) (image : List ℕ) (at n : ℕ) (c : List ℕ) → Stands h image → TornFrom at n h c → Torn at n image c
torn_from_stands h image at n c stands torn = subst (λ d. Torn at n d c) (stands.only torn.0 torn.1) torn.2

module _ (g : Geometry) (front : List ℕ) (pages : ℕ → List ℕ) (numbers texts : List ℕ) (batch : IsBatch g numbers texts) (long : length texts ≡ page_bytes g.version * length numbers) where
  -- the area is written
  pub while_area : (base : List ℕ) → take 4096 base ≡ front → IsShut base → AreInPlace g base pages → (start now : DeviceHistory) → LeavesOnly start now (DiffersInArea g.version base)
      → LeavesOnly start now (ShowsBehind g front pages)
  while_area base front_is shut in_place start now moments =
      widened start now (DiffersInArea g.version base) (ShowsBehind g front pages) moments (λ c differs. area_shows g front pages numbers texts batch long base front_is shut in_place c differs)

  module _ (image : List ℕ) (fits : 8192 ≤ length image) (laid : IsLaid g front pages numbers texts batch long image) where
    -- the gate is opened
    pub while_opened : IsShut image → AreInPlace g image pages → (one two : DeviceHistory) → Stands one image → LeavesOnly one two (TornFrom 4096 1 one)
        → LeavesOnly one two (ShowsEither g front pages (overlaid g.version numbers texts pages))
    while_opened shut in_place one two stands moments = widened one two (TornFrom 4096 1 one) (ShowsEither g front pages (overlaid g.version numbers texts pages)) moments (λ c torn.
        gate_shows g front pages numbers texts batch long pages image c fits laid in_place (inl (laid.front_is, inl (shut, in_place))) (torn_from_stands one image 4096 1 c stands torn))

    pub opened_laid : IsLaid g front pages numbers texts batch long (overwritten image 4096 (OPEN ∷ []))
    opened_laid = gated_laid g front pages numbers texts batch long image (OPEN ∷ []) refl fits laid

    pub opened_gate : part 4096 1 (overwritten image 4096 (OPEN ∷ [])) ≡ OPEN ∷ []
    opened_gate = gate_is g front pages numbers texts batch long image (OPEN ∷ []) refl fits

    module _ (opened : part 4096 1 image ≡ OPEN ∷ []) where
      -- behind an open gate pages are written in place
      pub while_in_place : (two three : DeviceHistory) → LeavesOnly two three (DiffersInPages g.version numbers image) → LeavesOnly two three (ShowsBehind g front (overlaid g.version numbers texts pages))
      while_in_place two three moments = widened two three (DiffersInPages g.version numbers image) (ShowsBehind g front (overlaid g.version numbers texts pages)) moments (λ c differs.
          laid_shows g front pages numbers texts batch long c (pages_laid g front pages numbers texts batch long image c laid differs)
          (gate_of_pages g front pages numbers texts batch long image c differs ∙ opened))

      pub placed_has : (c : List ℕ) → HasPages g.version image c numbers texts
          → IsLaid g front pages numbers texts batch long c × (part 4096 1 c ≡ OPEN ∷ []) × AreInPlace g c (overlaid g.version numbers texts pages)
      placed_has c has = (
        pages_laid g front pages numbers texts batch long image c laid has.differs,
        gate_of_pages g front pages numbers texts batch long image c has.differs ∙ opened,
        pages_in_place g front pages numbers texts batch long image c laid has,
      )

      -- the gate is shut over pages in place
      same_either : (c : List ℕ) → ShowsEither g front (overlaid g.version numbers texts pages) (overlaid g.version numbers texts pages) c → ShowsBehind g front (overlaid g.version numbers texts pages) c
      same_either c (inl shows) = shows
      same_either c (inr shows) = shows

      pub while_closed : AreInPlace g image (overlaid g.version numbers texts pages) → (three four : DeviceHistory) → Stands three image → LeavesOnly three four (TornFrom 4096 1 three)
          → LeavesOnly three four (ShowsBehind g front (overlaid g.version numbers texts pages))
      while_closed placed three four stands moments = widened three four (TornFrom 4096 1 three) (ShowsBehind g front (overlaid g.version numbers texts pages)) moments (λ c torn.
          same_either c (gate_shows g front pages numbers texts batch long (overlaid g.version numbers texts pages) image c fits laid placed
          (inr (laid_shows g front pages numbers texts batch long image laid opened)) (torn_from_stands three image 4096 1 c stands torn)))

    pub closed_has : AreInPlace g image (overlaid g.version numbers texts pages)
        → (take 4096 (overwritten image 4096 (CLOSED ∷ [])) ≡ front) × IsShut (overwritten image 4096 (CLOSED ∷ [])) × AreInPlace g (overwritten image 4096 (CLOSED ∷ [])) (overlaid g.version numbers texts pages)
    closed_has placed = shut_has g front pages numbers texts batch long image (CLOSED ∷ []) refl fits (overlaid g.version numbers texts pages) laid.front_is (λ is. absurd (omega (arith, ap head is))) placed
      where
        head : List ℕ → ℕ
        head [] = 0
        head (b ∷ rest) = b
