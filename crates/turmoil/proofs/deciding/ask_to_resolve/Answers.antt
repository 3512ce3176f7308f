use Rattle.std.proofs.Common.{◌∙◌, List, [], ◌∷◌, Ok, ap}
use Rattle.shore_model.specs.declared.calls.Call.TheVariants as Call
use Rattle.shore_model.specs.declared.calls.Exchange.{Exchange}
use Rattle.turmoil.proofs.Counts.{answered_decision, refused_decision}
use Rattle.turmoil.specs.Counts.{name_of}
use Rattle.turmoil.proofs.deciding.ask_to_resolve.Goals as goal

pub returns-in-Resolved-clause-told : goal.returns-in-Resolved-clause-told
returns-in-Resolved-clause-told g c =
    let asked : List Exchange = record { call = Call.Resolve c.in_ok-name.name c.args.outcome; reply = c.call.result } ∷ [] in
    (asked, c.call.ensures.told, answered_decision (name_of c.args.number c.args.turn) c.args.outcome c.in_ok-name.ensures (c.in-Ok.is ∙ ap Ok c.in-Resolved.is))

pub returns-in-Err-clause-told : goal.returns-in-Err-clause-told
returns-in-Err-clause-told g c =
    let asked : List Exchange = record { call = Call.Resolve c.in_ok-name.name c.args.outcome; reply = c.call.result } ∷ [] in
    (asked, c.call.ensures.told, λ p q. refused_decision (name_of c.args.number c.args.turn) c.args.outcome c.call.result c.in-Err.fault c.in_ok-name.ensures c.in-Err.is p)
