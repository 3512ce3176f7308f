use Rattle.std.proofs.Common.{◌++◌, ◌∙◌, [], ◌∷◌, ap}
use Rattle.shore_model.specs.declared.calls.Call.TheVariants as Call
use Rattle.turmoil.proofs.Commits.{got_number}
use Rattle.turmoil.proofs.clients.number_at.Goals as goal

pub returns : goal.returns
returns g c = (
  c.in-Some.ensures.0,
  c.call.ensures.told ∙ ap (λ r. g.C.Client.told c.args.client.now ++ record { call = Call.Get c.args.id; reply = r } ∷ [])
      (got_number c.in-Some.has c.in_ok-bytes.was c.in-Got.is c.as_slice.ensures c.in-Some.ensures.1),
)
