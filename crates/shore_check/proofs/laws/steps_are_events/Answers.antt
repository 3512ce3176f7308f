use Rattle.std.proofs.Common.{◌+◌, ap, length, refl}
use Rattle.shore_check.specs.Events.{after_begin}
use Rattle.shore_check.proofs.TablesTaken.{begun_is, tables_now}
use Rattle.shore_check.proofs.laws.steps_are_events.Goals as goal

pub returns-clause-tables : goal.returns-clause-tables
returns-clause-tables c s number next txns dirty k b listed takes begun = tables_now s number next txns dirty k b listed takes begun

pub returns-clause-begins : goal.returns-clause-begins
returns-clause-begins c s next txns dirty k b rests redone listed takes begun =
    let is = begun_is s next txns dirty k takes in
    ((rests, redone, tables_now s (length s.store.log + 1) next txns dirty k b listed takes begun, ap (after_begin s) is), (k, refl, begun))
