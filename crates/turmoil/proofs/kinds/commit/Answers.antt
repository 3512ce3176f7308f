use Rattle.std.proofs.Common.{List, [], ◌∷◌, ap, refl}
use Rattle.shore_model.specs.declared.calls.Call.TheVariants as Call
use Rattle.shore_model.specs.declared.calls.Exchange.{Exchange}
use Rattle.turmoil.proofs.Commits.{refused_commit}
use Rattle.turmoil.proofs.Counts.{nothing_added}
use Rattle.turmoil.proofs.kinds.commit.Goals as goal

pub returns-in-Ok-clause-told : goal.returns-in-Ok-clause-told
returns-in-Ok-clause-told g c =
    let k = c.in-Ok.ensures.told in
    let last : List Exchange = record { call = Call.Commit; reply = k.0 } ∷ [] in
    (last, k.1, (refl, (c.in-Ok.field-0, c.in-Ok.ensures.durable, ap (λ r. record { call = Call.Commit; reply = r } ∷ []) k.2)))

pub returns-in-Err-clause-told : goal.returns-in-Err-clause-told
returns-in-Err-clause-told g c =
    let k = c.in-Err.ensures.told in
    let last : List Exchange = record { call = Call.Commit; reply = k.0 } ∷ [] in
    (last, k.1, (refl, λ p q. nothing_added last (refused_commit k.0 c.in-Err.fault k.2 p q)))
