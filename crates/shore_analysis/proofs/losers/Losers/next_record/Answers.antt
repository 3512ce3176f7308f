use Rattle.std.proofs.Common.{refl}
use Rattle.shore_analysis.proofs.KeptWholes.{none_is_cut, whole_is_kept}
use Rattle.shore_analysis.proofs.losers.Losers.next_record.Goals as goal

pub returns-clause-undoes : goal.returns-clause-undoes
returns-clause-undoes c g turns log meant undone h =
    let found = c.args.found.now in
    c.next_record_behind.ensures.undoes g found turns log (none_is_cut found) refl (whole_is_kept g found meant) undone h
