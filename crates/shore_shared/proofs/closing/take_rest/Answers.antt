use Rattle.std.proofs.Common.{⊎_elim, length, length-append, ap, arith}
use Rattle.shore_shared.proofs.closing.take_rest.Goals as goal

-- Either all came, or more than were sent.
pub returns-clause-all : goal.returns-clause-all
returns-clause-all g c =
    let r = c.requires in
    let old = c.args.held.now in
    ⊎_elim
    (λ empty. omega (arith, ap length empty.1, length-append old.met empty.0, ap length r.met))
    (λ more. omega (
      arith,
      more,
      c.last.ensures,
      c.last-2.ensures,
      c.saturating_sub-sent.ensures,
      r.last,
      ap length r.follows.parts,
      length-append g.B.Named.before old.got,
      length-append r.follows.gone old.list,
      r.follows.cut_off,
    ))
    c.in_ok-take_all.ensures.all
