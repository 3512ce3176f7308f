use Rattle.std.proofs.Common.{inl, inr}
use Rattle.shore_analysis.proofs.UndoneKept.{padded_table}
use Rattle.shore_restart.proofs.passes.tables_of.Goals as goal

pub returns-in-Ok-clause-txns : goal.returns-in-Ok-clause-txns
returns-in-Ok-clause-txns c = padded_table c.args.cut c.args.kept.now c.in-Ok.tables.txns c.in-Ok.ensures.tables.txns

pub returns-in-Err-clause-refused : goal.returns-in-Err-clause-refused
returns-in-Err-clause-refused c = elim c.refusal.ensures [
  | inl memory ↦ inl memory.1
  | inr unlawful ↦ inr (unlawful.0, unlawful.2, c.in-Err.ensures.unlawful unlawful.0 unlawful.1)
]
