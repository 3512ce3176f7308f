use Rattle.std.proofs.Common.{◌≡◌}
use Rattle.shore_pool.specs.Pools.{geometry_of}
use Rattle.bench_parts.proofs.pools.rounds_of.Given as goal

abbrev pub invariant-loop-round : goal.invariant-loop-round
invariant-loop-round l = record {
  same : geometry_of l.pool ≡ geometry_of l.initial.pool;
}
