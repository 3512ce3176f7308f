use Rattle.std.proofs.Common.{◌∙◌, List, [], ◌∷◌, Ok, ap}
use Rattle.shore_model.specs.declared.calls.Call.TheVariants as Call
use Rattle.shore_model.specs.declared.calls.Exchange.{Exchange}
use Rattle.turmoil.proofs.Counts.{refused_adds}
use Rattle.turmoil.proofs.kinds.ask_to_commit.Goals as goal

pub returns-in-Committed-clause-told : goal.returns-in-Committed-clause-told
returns-in-Committed-clause-told g c =
    let last : List Exchange = record { call = Call.Commit; reply = c.call.result } ∷ [] in
    (last, c.call.ensures.told, λ known le. (c.in-Committed.first, le, ap (λ r. record { call = Call.Commit; reply = r } ∷ []) (c.in-Ok.is ∙ ap Ok c.in-Committed.is)))

pub returns-in-Err-clause-told : goal.returns-in-Err-clause-told
returns-in-Err-clause-told g c =
    let last : List Exchange = record { call = Call.Commit; reply = c.call.result } ∷ [] in
    (last, c.call.ensures.told, λ p. refused_adds c.call.result c.in-Err.fault c.in-Err.is p.0)
