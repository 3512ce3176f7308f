use Rattle.std.proofs.Common.{ap, arith, sym, ◌∙◌}
use Rattle.shore_nodes.specs.LetThrough.{noted}
use Rattle.shore_nodes.proofs.LetThrough.{no_place}
use Rattle.shore_nodes.proofs.let_through.LetThrough.note.Goals as goal

pub returns-else-self-lt-MOST_TOLD : goal.returns-else-self-lt-MOST_TOLD
returns-else-self-lt-MOST_TOLD c =
    c.note_others.ensures ∙ sym (no_place c.args.txn c.self.inside.count c.self.inside.txns c.self.invariant (λ less. let full = c.if-self-lt-MOST_TOLD.false in omega (arith, full, less))) ∙ ap (noted c.args.txn) c.self.view_is
