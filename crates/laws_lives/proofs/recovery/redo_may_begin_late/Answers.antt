use Rattle.laws_lives.proofs.DirtyPages.{covers_cut, covers_flushed, covers_longer, lacks_none_one_by_one, redo_may_begin, redo_may_skip}
use Rattle.laws_lives.proofs.recovery.redo_may_begin_late.Goals as goal

pub returns-clause-begins : goal.returns-clause-begins
returns-clause-begins c log begin dirty pages covers = redo_may_begin log begin dirty pages covers

pub returns-clause-skips : goal.returns-clause-skips
returns-clause-skips c log p n sure page le h = redo_may_skip log p n sure page le h

pub returns-clause-longer : goal.returns-clause-longer
returns-clause-longer c log more begin dirty pages covers = covers_longer log begin dirty pages covers more

pub returns-clause-flushed : goal.returns-clause-flushed
returns-clause-flushed c log begin dirty pages p page n covers le h = covers_flushed log begin dirty pages covers p page n le h

pub returns-clause-cut : goal.returns-clause-cut
returns-clause-cut c log begin dirty pages n covers le numbers most = covers_cut log begin dirty pages covers n le numbers most

pub returns-clause-one_by_one : goal.returns-clause-one_by_one
returns-clause-one_by_one c log p page n le own all = lacks_none_one_by_one log p page n le own all
