use Rattle.std.proofs.Common.{◌≡◌, ◌+◌, ◌*◌, length}
use Rattle.shore_types.specs.Versions.{pages_begin, page_bytes}
use Rattle.shore_types.specs.declared.versions.Version.TheVariants.{One}
use Rattle.bench_parts.proofs.layout.volume.Given as goal

abbrev pub invariant-loop-page : goal.invariant-loop-page
invariant-loop-page l = record {
  length : length l.bytes.items ≡ pages_begin One + page_bytes One * l.page;
}
