use Rattle.bench_parts.proofs.volumes.measured.Goals as goal

pub timed-requires-clause-batch : goal.timed-requires-clause-batch
timed-requires-clause-batch c = c.in_ok-images.ensures.batch _ c.in_ok-dev.ensures.stores c.in_ok-dev.ensures.version
