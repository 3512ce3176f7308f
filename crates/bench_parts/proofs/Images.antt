-- Images of the pages of a volume with one store.
use Rattle.std.proofs.Common.{◌≡◌, ℕ, ◌<◌, List, [], ◌∷◌, sum, sym, subst, arith}
use Rattle.std.specs.Prelude.{IsSomeAnd, slice_get}
use Rattle.shore_types.specs.Images.{Image}
use Rattle.shore_types.specs.declared.ids.PageId.{PageId}
use Rattle.shore_types.specs.declared.layout.Geometry.{Geometry}
use Rattle.shore_page.specs.Text.{IsPageText}
use Rattle.shore_dwrite.specs.Volumes.{IsImageOf}

pub image_is : (g : Geometry) (page lsn : ℕ) (id : PageId) (text : List ℕ) (images : List Image) → g.stores ≡ 32 ∷ [] → id ≡ record { store = 0; page = page } → page < 32
    → IsPageText g.version text id lsn images → IsImageOf g page text
image_is g page lsn id text images stores is within reads = record {
  id = record { store = 0; page = page };
  there = subst (λ (s : List ℕ). IsSomeAnd (slice_get s 0) (λ pages. page < pages)) (sym stores) within;
  number = omega arith;
  lsn = lsn;
  images = images;
  text = subst (λ (i : PageId). IsPageText g.version text i lsn images) is reads;
}

pub within_is : (g : Geometry) (page : ℕ) → g.stores ≡ 32 ∷ [] → page < 32 → page < sum g.stores
within_is g page stores within = subst (λ (s : List ℕ). page < sum s) (sym stores) within
