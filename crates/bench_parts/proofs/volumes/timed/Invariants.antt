use Rattle.std.proofs.Common.{◌≡◌}
use Rattle.shore_dwrite.specs.Settled.{geometry_of}
use Rattle.bench_parts.proofs.volumes.timed.Given as goal

abbrev pub invariant-loop-round : goal.invariant-loop-round
invariant-loop-round l = record {
  same : geometry_of l.dev ≡ geometry_of l.initial.dev;
}
