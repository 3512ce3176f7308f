use Rattle.std.proofs.Common.{ℕ, List, inl, inr, length, ap, arith}
use Rattle.shore_flush.proofs.flush.choose.Goals as goal

pub returns-clause-first : goal.returns-clause-first
returns-clause-first g c k f is due = c.due.ensures.first k f is due (omega arith)

pub returns-clause-none : goal.returns-clause-none
returns-clause-none g c empty k f is due =
    let none = ap (λ (l : List ℕ). length l) empty in
    elim (c.due.ensures.first k f is due (omega arith)) [
      | inl (i, inside, at) ↦ omega (arith, inside, none)
      | inr (long, below) ↦ omega (arith, long, none)
    ]
