use Rattle.std.proofs.Common.{arith}
use Rattle.laws_lives.specs.DirtyPages.{surely_on_page}
use Rattle.laws_checkpoints.proofs.PageTables.{covers_right, lacked_behind, passed_over, right_flushed, right_front, right_longer, right_redone}
use Rattle.laws_checkpoints.proofs.checkpoints.redo_passes_over_pages.Goals as goal

pub returns-clause-over : goal.returns-clause-over
returns-clause-over c log begin dirty pages p n r right at lt = passed_over log p n r at (pages p) (surely_on_page begin dirty p) (right p) lt

pub returns-clause-lacks : goal.returns-clause-lacks
returns-clause-lacks c log begin dirty pages p n r e right at is here low = lacked_behind log p (pages p) (surely_on_page begin dirty p) n r e (right p) at is here low

pub returns-clause-covers : goal.returns-clause-covers
returns-clause-covers c log begin dirty pages within own right = covers_right log begin dirty pages right (omega arith) own

pub returns-clause-redone : goal.returns-clause-redone
returns-clause-redone c log begin dirty pages n r right = right_redone log begin dirty pages right n r

pub returns-clause-longer : goal.returns-clause-longer
returns-clause-longer c log more begin dirty pages within right = right_longer log begin dirty pages right (omega arith) more

pub returns-clause-cut : goal.returns-clause-cut
returns-clause-cut c log begin n dirty pages right = right_front log begin dirty pages right n

pub returns-clause-flushed : goal.returns-clause-flushed
returns-clause-flushed c log begin dirty pages p page right h = right_flushed log begin dirty pages right p page h
