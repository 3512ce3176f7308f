use Rattle.laws_checkpoints.proofs.KeptDoubts.{doubt_all_kept, doubt_kept, doubts_kept, numbers_kept, prepare_kept, restored_both, stand_both, undo_of_doubt}
use Rattle.laws_checkpoints.proofs.cut_logs.cut_logs_keep_doubts.Goals as goal

pub returns-clause-one : goal.returns-clause-one
returns-clause-one c log volume cut t lawful may = doubt_kept log lawful volume cut may t

pub returns-clause-list : goal.returns-clause-list
returns-clause-list c log volume cut lawful may = (doubts_kept log lawful volume cut may, numbers_kept log lawful volume cut may)

pub returns-clause-whole : goal.returns-clause-whole
returns-clause-whole c log volume cut t lawful may doubt = doubt_all_kept log lawful volume cut may t doubt

pub returns-clause-prepare : goal.returns-clause-prepare
returns-clause-prepare c log volume cut t lawful may doubt = prepare_kept log lawful volume cut may t doubt

pub returns-clause-undo : goal.returns-clause-undo
returns-clause-undo c log volume cut t lawful may doubt = undo_of_doubt log lawful volume cut may t doubt

pub returns-clause-stand : goal.returns-clause-stand
returns-clause-stand c log volume cut lawful may = stand_both log lawful volume cut may

pub returns-clause-restored : goal.returns-clause-restored
returns-clause-restored c log volume cut held lawful may = restored_both log lawful volume cut may held
