use Rattle.laws_runs.proofs.Prefixes.{later_roomy, left_roomy, whole_roomy}
use Rattle.laws_runs.proofs.bounds.prefixes_stay_roomy.Goals as goal

pub returns-clause-prefix : goal.returns-clause-prefix
returns-clause-prefix c g stream_bytes least n log le h = left_roomy g stream_bytes least log n le h

pub returns-clause-later : goal.returns-clause-later
returns-clause-later c g stream_bytes least more log le h = later_roomy g stream_bytes least more log le h

pub returns-clause-whole : goal.returns-clause-whole
returns-clause-whole c g stream_bytes least log h = whole_roomy g stream_bytes least log h
