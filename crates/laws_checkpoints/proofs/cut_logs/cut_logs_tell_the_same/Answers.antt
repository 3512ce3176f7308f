use Rattle.laws_checkpoints.proofs.Kept.{all_kept, cut_flushed, cut_longer, kept_losers, kept_unended, losers_kept, undo_kept, unended_kept}
use Rattle.laws_checkpoints.proofs.Lists.{get-drop}
use Rattle.laws_checkpoints.proofs.cut_logs.cut_logs_tell_the_same.Goals as goal

pub returns-clause-record : goal.returns-clause-record
returns-clause-record c log cut k = get-drop log cut k

pub returns-clause-all : goal.returns-clause-all
returns-clause-all c log volume cut t may one runs = all_kept log volume cut may t one runs

pub returns-clause-unended : goal.returns-clause-unended
returns-clause-unended c log volume cut t lawful may one = (unended_kept log lawful volume cut may t one, kept_unended log lawful volume cut may t)

pub returns-clause-losers : goal.returns-clause-losers
returns-clause-losers c log volume cut t lawful may = (losers_kept log lawful volume cut may t, kept_losers log lawful volume cut may t)

pub returns-clause-undo : goal.returns-clause-undo
returns-clause-undo c log volume cut t may l = undo_kept log volume cut t may l

pub returns-clause-longer : goal.returns-clause-longer
returns-clause-longer c log more volume cut may = cut_longer log volume cut may more

pub returns-clause-flushed : goal.returns-clause-flushed
returns-clause-flushed c log volume cut p page may h = cut_flushed log volume cut may p page h
