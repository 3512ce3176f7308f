use Rattle.laws_runs.proofs.RoomyMeant.{all_kept_meant, anchored_meant, kept_meant}
use Rattle.laws_runs.proofs.bounds.roomy_logs_are_meant.Goals as goal

pub returns-clause-whole : goal.returns-clause-whole
returns-clause-whole c g stream_bytes least log k lawful = all_kept_meant g stream_bytes least log k lawful

pub returns-clause-kept : goal.returns-clause-kept
returns-clause-kept c g stream_bytes least log volume cut k lawful may = kept_meant g stream_bytes least log k lawful volume cut may

pub returns-clause-anchored : goal.returns-clause-anchored
returns-clause-anchored c g stream_bytes least log volume cut checkpoint k lawful may place = anchored_meant g stream_bytes least log k lawful volume cut may checkpoint place
