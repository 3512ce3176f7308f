use Rattle.shore_world.proofs.PromiseLemmas.{doubts_under_way, dumps, dumps_standing, each_there, each_unended, losers_under_way, under_way_not_over}
use Rattle.shore_world.proofs.promises.devices.records_are_in_place.Goals as goal

pub returns-clause-shown : goal.returns-clause-shown
returns-clause-shown c d w o es ws k = dumps w o es ws k

pub returns-clause-unended : goal.returns-clause-unended
returns-clause-unended c d w o es ws k = each_unended w o es ws k

pub returns-clause-all : goal.returns-clause-all
returns-clause-all c d w o es ws session t k is some = each_there w o es ws k session t is some

pub returns-clause-doubts : goal.returns-clause-doubts
returns-clause-doubts c d w o es ws t global k there = doubts_under_way w o es ws k t global there

pub returns-clause-not_over : goal.returns-clause-not_over
returns-clause-not_over c d w o es ws t k there = under_way_not_over w o es ws k t there

pub returns-clause-losers : goal.returns-clause-losers
returns-clause-losers c d w o es ws t k loser = losers_under_way w o es ws k t loser

pub returns-clause-standing : goal.returns-clause-standing
returns-clause-standing c d w o es ws k = dumps_standing w o es ws k
