use Rattle.shore_world.proofs.PreparedLemmas.{all_listed, each_listed, listed_rising}
use Rattle.shore_world.proofs.promises.calls.those_in_doubt_are_listed.Goals as goal

pub returns-clause-each : goal.returns-clause-each
returns-clause-each c d w new o es ws session t global pairs k one there = each_listed w o es ws k session t global pairs new one there

pub returns-clause-all : goal.returns-clause-all
returns-clause-all c d w new o es ws session t global pairs k one there = all_listed w o es ws k session t global pairs new one there

pub returns-clause-rising : goal.returns-clause-rising
returns-clause-rising c d w new o es ws session pairs k one = listed_rising w o es ws k session pairs new one
