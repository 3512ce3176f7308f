use Rattle.std.proofs.Common.{sym, subst, ◌∙◌, refl}
use Rattle.shore_core.specs.Cores.{CoreComesTo}
use Rattle.shore_core.proofs.Coming.{stays_comes}
use Rattle.shore_core.proofs.Taking.{comes_noted, stays_after, true_false}
use Rattle.shore_core.proofs.core_calls.Core.note_failure.Goals.{in-Device, in-Device-2, in_default}
use Rattle.shore_core.proofs.core_calls.Core.note_failure.Goals as goal

pub returns-then-matches-clause-left : goal.returns-then-matches-clause-left
returns-then-matches-clause-left g c front before s store stays =
    elim c.match-matches.branch [
      | in_default w ↦ absurd (true_false (sym c.if-matches.true ∙ w.matches-is))
      | in-Device w ↦ comes_noted c.args.self.now _ front before s store c.args.fault.now refl refl refl refl w.in-Device.is stays
      | in-Device-2 w ↦ comes_noted c.args.self.now _ front before s store c.args.fault.now refl refl refl refl w.in-Device.is stays
    ]

pub returns-else-matches-clause-left : goal.returns-else-matches-clause-left
returns-else-matches-clause-left g c front before s store stays =
    let old = c.args.self.now in
    elim c.match-matches.branch [
      | in_default w ↦
          subst (CoreComesTo old front before store) (sym (stays_after s c.args.fault.now w.in_default.not-Device w.in_default.not-Damaged))
          (stays_comes old front before s store c.args.fault.now w.in_default.not-Device stays)
      | in-Device w ↦ absurd (true_false (sym w.matches-is ∙ c.if-matches.false))
      | in-Device-2 w ↦ absurd (true_false (sym w.matches-is ∙ c.if-matches.false))
    ]
