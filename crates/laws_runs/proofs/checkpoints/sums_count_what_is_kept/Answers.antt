use Rattle.laws_runs.proofs.KeptRooms.{admits_kept, begin_kept, kept_admits, kept_begin, kept_fits}
use Rattle.laws_runs.proofs.checkpoints.sums_count_what_is_kept.Goals as goal

pub returns-clause-fits : goal.returns-clause-fits
returns-clause-fits c g ring_bytes o found es m k = kept_fits g ring_bytes o found es m k

pub returns-clause-calls : goal.returns-clause-calls
returns-clause-calls c g ring_bytes o found es m need k = (admits_kept g ring_bytes o found es m k need, kept_admits g ring_bytes o found es m k need)

pub returns-clause-begins : goal.returns-clause-begins
returns-clause-begins c g ring_bytes o found es m check kept_from k =
    (begin_kept g ring_bytes o found es m k check kept_from, kept_begin g ring_bytes o found es m k check kept_from)
