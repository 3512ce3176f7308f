use Rattle.std.proofs.Common.{rules, [], ◌∷◌, ◌∙◌, Ok, ap}
use Rattle.shore_model.specs.declared.calls.Call.TheVariants as Call
use Rattle.bank.proofs.transfers.begin.Goals as goal

pub returns-in_err-call-clause-told : goal.returns-in_err-call-clause-told
returns-in_err-call-clause-told g c = (record { call = Call.Begin; reply = c.call.result } ∷ [], c.call.ensures.told, (tt, tt), search rules)

pub returns-clause-told : goal.returns-clause-told
returns-clause-told g c = (
  record { call = Call.Begin; reply = c.call.result } ∷ [],
  c.call.ensures.told,
  (tt, tt),
  (c.in-Began.field-0, ap (λ r. record { call = Call.Begin; reply = r } ∷ []) (c.in_ok-call.was ∙ ap Ok c.in-Began.is)),
)
