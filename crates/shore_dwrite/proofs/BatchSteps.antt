-- From each step of a batch to the next.
use Rattle.std.proofs.Common.{◌≡◌, inl, inr, ℕ, List, [], ◌∷◌, sym, ◌∙◌, arith}
use Rattle.shore_disk.specs.Device.{DeviceHistory, LeavesOnly}
use Rattle.shore_disk.proofs.Moments.{widened}
use Rattle.shore_types.specs.declared.layout.Geometry.{Geometry}
use Rattle.shore_types.specs.declared.versions.Version.{Version}
use Rattle.shore_gate.specs.declared.gates.TheConstants.{OPEN}
use Rattle.shore_dwrite.specs.Differences.{DiffersInArea}
use Rattle.shore_dwrite.specs.Shown.{IsShut, ShowsBehind, ShowsEither}
use Rattle.shore_dwrite.proofs.Overwrites.{part_front}

-- the gate stays shut while the area is written
pub written_shut : (v : Version) (base image : List ℕ) → IsShut base → DiffersInArea v base image → IsShut image
written_shut v base image shut differs = λ opened. shut (sym (part_front image base 4100 4096 1 differs.front (omega arith)) ∙ opened)

module _ (g : Geometry) (front : List ℕ) (pages others : ℕ → List ℕ) where
  -- what shows the pages shows those or others
  pub first_of : (a b : DeviceHistory) → LeavesOnly a b (ShowsBehind g front pages) → LeavesOnly a b (ShowsEither g front pages others)
  first_of a b moments = widened a b (ShowsBehind g front pages) (ShowsEither g front pages others) moments (λ c shows. inl shows)

  pub second_of : (a b : DeviceHistory) → LeavesOnly a b (ShowsBehind g front others) → LeavesOnly a b (ShowsEither g front pages others)
  second_of a b moments = widened a b (ShowsBehind g front others) (ShowsEither g front pages others) moments (λ c shows. inr shows)
