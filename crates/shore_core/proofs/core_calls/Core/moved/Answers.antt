use Rattle.std.proofs.Common.{refl, subst, arith}
use Rattle.laws_lives.specs.Views.{IsAmong}
use Rattle.shore_core.proofs.CheckpointSteps.{in_moved, over_moved}
use Rattle.shore_core.proofs.core_calls.Core.moved.Goals as goal

pub invariant_of-self : goal.invariant_of-self
invariant_of-self g c =
    let old = c.args.self.now in
    record {
      some_number = old.some_number;
      forced = old.forced;
      numbers = omega (arith, c.note_cut.ensures.reserved, old.numbers);
      earlier = λ t m. old.earlier t (subst (IsAmong t) c.note_cut.ensures.txns m);
    }

pub returns-clause-step : goal.returns-clause-step
returns-clause-step g c front disk before s store is safe over a works next frees within =
    let old = c.args.self.now in
    let stands = c.note_cut.ensures.stands s is.beside.parts.stands within in
    record {
      moves = (works, (a, next, refl));
      comes = record {
        is_in = in_moved old _ front disk before s store is over a c.args.freed refl refl refl refl refl c.note_cut.ensures.claims stands frees;
        over = over_moved old _ front disk before s store is over a c.args.freed refl refl refl refl refl c.note_cut.ensures.claims stands frees;
        at = refl;
      };
    }
