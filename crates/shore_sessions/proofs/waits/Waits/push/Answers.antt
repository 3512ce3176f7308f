use Rattle.std.proofs.Common.{ap, sym, ◌∙◌}
use Rattle.std.specs.Prelude.{slice_get}
use Rattle.shore_sessions.specs.Waits.{calls_in}
use Rattle.shore_sessions.proofs.Marks.{marked_more}
use Rattle.shore_sessions.proofs.waits.Waits.push.Goals as goal

pub returns-clause-marks : goal.returns-clause-marks
returns-clause-marks c = λ rs marked new n w at lock gone.
    ap (λ xs. slice_get xs n) c.push_reserved-2.ensures.items
    ∙ marked_more rs (calls_in c.args.self.now) c.args.self.now.let_through.items c.args.call c.args.is_let_through c.args.self.now.alike marked new n w
    (sym (ap (λ xs. slice_get xs n) c.push_reserved.ensures.items) ∙ at) lock gone
