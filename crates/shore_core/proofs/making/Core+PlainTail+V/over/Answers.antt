use Rattle.std.proofs.Common.{length, ap, arith}
use Rattle.shore_core.proofs.making.Core+PlainTail+V.over.Goals as goal

pub invariant_of-result : goal.invariant_of-result
invariant_of-result g c =
    let first = c.new.ensures.first in
    let none = ap length c.new.ensures.waiting in
    record {
      some_number = omega (arith, first);
      forced = omega (arith, first, none, c.requires.durable);
      numbers = omega (arith, first, none, c.requires.few);
      earlier = λ t m. omega (arith, first, none, c.requires.earlier t m);
    }

pub returns-clause-over : goal.returns-clause-over
returns-clause-over g c disk s store kept pages = record { kept = kept; pages = λ works. pages }
