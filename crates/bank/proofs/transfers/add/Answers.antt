use Rattle.std.proofs.Common.{rules, ◌+◌, ◌%◌, ◌^◌, ◌∙◌, [], ◌∷◌, Ok, ap, refl, arith}
use Rattle.shore_model.specs.declared.calls.Call.TheVariants as Call
use Rattle.bank.specs.Claims.{account}
use Rattle.bank.proofs.Claims.{added_by, adding, got_amount, told_both}
use Rattle.bank.proofs.transfers.add.Goals as goal

pub returns-in_err-bytes-clause-told : goal.returns-in_err-bytes-clause-told
returns-in_err-bytes-clause-told g c = (record { call = Call.GetForUpdate (account c.args.slot); reply = c.call.result } ∷ [], c.call.ensures.told, (tt, tt), search rules)

pub returns-in_err-call-clause-told : goal.returns-in_err-call-clause-told
returns-in_err-call-clause-told g c = (
  adding c.args.slot c.call.result c.in_ok-text_of.field-0 c.call-2.result,
  told_both (g.C.Client.told c.args.client.now) (record { call = Call.GetForUpdate (account c.args.slot); reply = c.call.result } ∷ [])
      (record { call = Call.Update (account c.args.slot) c.in_ok-text_of.field-0; reply = c.call-2.result } ∷ []) c.call.ensures.told c.call-2.ensures.told,
  (tt, (tt, tt)),
  search rules,
)

pub returns-in_default-2 : goal.returns-in_default-2
returns-in_default-2 g c = record {
  told = (
    adding c.args.slot c.call.result c.in_ok-text_of.field-0 c.call-2.result,
    told_both (g.C.Client.told c.args.client.now) (record { call = Call.GetForUpdate (account c.args.slot); reply = c.call.result } ∷ [])
        (record { call = Call.Update (account c.args.slot) c.in_ok-text_of.field-0; reply = c.call-2.result } ∷ []) c.call.ensures.told c.call-2.ensures.told,
    (tt, (tt, tt)),
    tt,
  );
  known = omega (arith, c.call.ensures.known.0, c.call-2.ensures.known.0);
}

pub returns-clause-told : goal.returns-clause-told
returns-clause-told g c = (
  adding c.args.slot c.call.result c.in_ok-text_of.field-0 c.call-2.result,
  told_both (g.C.Client.told c.args.client.now) (record { call = Call.GetForUpdate (account c.args.slot); reply = c.call.result } ∷ [])
      (record { call = Call.Update (account c.args.slot) c.in_ok-text_of.field-0; reply = c.call-2.result } ∷ []) c.call.ensures.told c.call-2.ensures.told,
  (tt, (tt, tt)),
  (
    c.in-Some.before,
    c.in-Some.ensures.0,
    refl,
    added_by c.args.slot c.in-Some.before ((c.in-Some.before + c.args.amount) % 2 ^ 64)
        (got_amount c.in-Some.before c.in_ok-bytes.was c.in-Got.is c.as_slice.ensures c.in-Some.ensures.1) c.in_ok-text_of.ensures (c.in_ok-call.was ∙ ap Ok c.in-Updated.is),
  ),
)
