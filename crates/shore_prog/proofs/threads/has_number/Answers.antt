use Rattle.shore_prog.proofs.threads.has_number.Goals as goal

pub returns-in-Some-clause-number : goal.returns-in-Some-clause-number
returns-in-Some-clause-number c =
    let shown = c.in_ok-dump_part.ensures.shown in
    let found = c.in-Some.ensures in (c.in-Some.bytes, (_, _, found.0, found.1, shown, found.2, found.3), c.is_number.ensures)
