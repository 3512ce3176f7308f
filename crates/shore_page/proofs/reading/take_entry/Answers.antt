use Rattle.std.proofs.Common.{◌-◌, refl, arith}
use Rattle.shore_page.proofs.reading.take_entry.Goals as goal

pub returns-clause-free : goal.returns-clause-free
returns-clause-free c done = c.mark.ensures.free done (c.args.table - 24) (let lies = c.if-not-lies.ensures.0 refl in omega (arith, lies.before_table, lies.behind_header))
