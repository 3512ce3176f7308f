use Rattle.std.proofs.Common.{arith}
use Rattle.laws_room.proofs.laws.cuts_leave_room.Goals as goal

pub returns-clause-admits : goal.returns-clause-admits
returns-clause-admits c room cut need less short = (
  λ h. let fits = h.1 in (h.0, omega arith),
  λ h. let fits = h.1 in (h.0, omega arith),
)

pub returns-clause-takes : goal.returns-clause-takes
returns-clause-takes c spare cost cut room less short = (
  λ h. let fits = h.1 in (h.0, omega arith, h.2),
  λ h. let fits = h.1 in (h.0, omega arith, h.2),
)

pub returns-clause-has : goal.returns-clause-has
returns-clause-has c spare doubts cut undos room less short = (
  λ h. let fits = h.fits in let most = h.short in record { sum = h.sum; fits = omega arith; lsns = h.lsns; short = omega arith },
  λ h. let fits = h.fits in let most = h.short in record { sum = h.sum; fits = omega arith; lsns = h.lsns; short = omega arith },
)

pub returns-clause-more : goal.returns-clause-more
returns-clause-more c spare doubts freed undos room h most =
    let fits = h.fits in record { sum = h.sum; fits = omega arith; lsns = h.lsns; short = most }
