use Rattle.std.proofs.Common.{◌++◌, List, [], ◌∷◌, ap, refl}
use Rattle.shore_model.specs.declared.calls.Call.TheVariants as Call
use Rattle.shore_model.specs.declared.calls.Exchange.{Exchange}
use Rattle.bank.proofs.Claims.{nothing_both, told_both}
use Rattle.bank.proofs.transfers.take_turn.Goals as goal

pub returns-in_ok-call-in-Err-Deadlock-clause-told : goal.returns-in_ok-call-in-Err-Deadlock-clause-told
returns-in_ok-call-in-Err-Deadlock-clause-told g c =
    let t = c.in-Err-Deadlock.ensures.told in
    let is = c.in-Err-Deadlock.field-0-is in
    let last : List Exchange = record { call = Call.Abort; reply = c.call.result } ∷ [] in
    (t.0 ++ last, told_both (g.C.Client.told c.args.client.now) t.0 last t.1 c.call.ensures.told, (c.in_ok-call-in-Err-Deadlock.field-0, (nothing_both t.0 last (t.2 (λ e. cc (e, is)) (λ e. cc (e, is))) (tt, tt), t.0, ap (λ r. t.0 ++ record { call = Call.Abort; reply = r } ∷ []) c.in_ok-call-in-Err-Deadlock.was)))

pub returns-in-Err-LogFull-clause-told : goal.returns-in-Err-LogFull-clause-told
returns-in-Err-LogFull-clause-told g c =
    let t = c.in-Err-LogFull.ensures.told in
    let is = c.in-Err-LogFull.field-0-is in
    let last : List Exchange = record { call = Call.Abort; reply = c.call-ended.result } ∷ [] in
    (t.0 ++ last, told_both (g.C.Client.told c.args.client.now) t.0 last t.1 c.call-ended.ensures.told, (c.call-ended.result, (nothing_both t.0 last (t.2 (λ e. cc (e, is)) (λ e. cc (e, is))) (tt, tt), t.0, refl)))
