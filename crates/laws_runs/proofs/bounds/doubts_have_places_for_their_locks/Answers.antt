use Rattle.laws_runs.proofs.bounds.doubts_have_places_for_their_locks.Goals as goal

pub returns-clause-left : goal.returns-clause-left
returns-clause-left c g stream_bytes least n log le k more = (k.roomy n le).locks more

pub returns-clause-crash : goal.returns-clause-crash
returns-clause-crash c g stream_bytes n s h kept more = (h.prefixes.roomy n kept.0).locks more
