use Rattle.std.proofs.Common.{List, ℕ, subst, arith}
use Rattle.shore_page.specs.Writing.{Writes}
use Rattle.shore_page.proofs.WritingLemmas.{number_written, number_beside}
use Rattle.shore_page.proofs.writing.put_u64.Goals as goal

pub returns-clause-here : goal.returns-clause-here
returns-clause-here c = number_written c.args.out.now c.put.new.out c.args.position 8 c.args.number (subst (λ (w : List ℕ). Writes c.args.out.now c.put.new.out c.args.position w) c.write_u64.ensures c.put.ensures) (omega arith)

pub returns-clause-beside : goal.returns-clause-beside
returns-clause-beside c = number_beside c.args.out.now c.put.new.out c.args.position 8 c.args.number (subst (λ (w : List ℕ). Writes c.args.out.now c.put.new.out c.args.position w) c.write_u64.ensures c.put.ensures)
