use Rattle.std.proofs.Common.{inl, inr, arith}
use Rattle.shore_restart.proofs.Ends.{any_ends, ends_any}
use Rattle.shore_restart.proofs.anchored.is_whole.Goals as goal

pub returns-then-has_begin : goal.returns-then-has_begin
returns-then-has_begin c =
    let begin = c.has_begin.ensures.0 c.if-has_begin.true in
    let less = begin.0 in (
      λ ends. inr (record { inside = omega (arith, less); begins = begin.1; ends = any_ends c.args.checkpoint c.args.kept.now (c.has_end.ensures.0 ends) }),
      λ whole. elim whole [
        | inl none ↦ absurd (omega (arith, none, less))
        | inr is ↦ c.has_end.ensures.1 (ends_any c.args.checkpoint c.args.kept.now is.ends)
      ],
    )
