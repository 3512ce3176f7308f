use Rattle.std.proofs.Common.{◌≡◌, ◌<◌, ◌∷◌, [], All, length}
use Rattle.shore_dwrite.specs.Images.{numbers_of, texts_of, version_of}
use Rattle.shore_dwrite.specs.Shown.{IsBatchSoFar}
use Rattle.shore_types.specs.declared.layout.Geometry.{Geometry}
use Rattle.shore_types.specs.declared.versions.Version.TheVariants.{One}
use Rattle.bench_parts.proofs.volumes.all_pages.Given as goal

abbrev pub invariant-loop-page : goal.invariant-loop-page
invariant-loop-page l = record {
  so_far : (g : Geometry) → g.stores ≡ 32 ∷ [] → g.version ≡ One → IsBatchSoFar g (numbers_of l.images) (texts_of l.images);
  below : All (λ k. k < l.page) (numbers_of l.images);
  count : length (numbers_of l.images) ≡ l.page;
  version : version_of l.images ≡ One;
}
