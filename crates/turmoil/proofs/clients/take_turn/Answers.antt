use Rattle.std.proofs.Common.{◌++◌, List, [], ◌∷◌, inl}
use Rattle.shore_model.specs.declared.calls.Call.TheVariants as Call
use Rattle.shore_model.specs.declared.calls.Exchange.{Exchange}
use Rattle.turmoil.proofs.Commits.{rolled_back, told_both}
use Rattle.turmoil.proofs.clients.take_turn.Goals as goal

pub returns-in_ok-call-in-Err-Deadlock-clause-told : goal.returns-in_ok-call-in-Err-Deadlock-clause-told
returns-in_ok-call-in-Err-Deadlock-clause-told g c =
    let t = c.in-Err-Deadlock.ensures.told in
    let is = c.in-Err-Deadlock.field-0-is in
    let last : List Exchange = record { call = Call.Abort; reply = c.call.result } ∷ [] in
    let none = t.2.1 (λ e. cc (e, is)) (λ e. cc (e, is)) in
    (t.0 ++ last, told_both (g.C.Client.told c.args.client.now) t.0 last t.1 c.call.ensures.told, inl (t.2.0, rolled_back t.0 c.call.result none))

pub returns-in-Err-LogFull-clause-told : goal.returns-in-Err-LogFull-clause-told
returns-in-Err-LogFull-clause-told g c =
    let t = c.in-Err-LogFull.ensures.told in
    let is = c.in-Err-LogFull.field-0-is in
    let last : List Exchange = record { call = Call.Abort; reply = c.call-ended.result } ∷ [] in
    let none = t.2.1 (λ e. cc (e, is)) (λ e. cc (e, is)) in
    (t.0 ++ last, told_both (g.C.Client.told c.args.client.now) t.0 last t.1 c.call-ended.ensures.told, inl (t.2.0, rolled_back t.0 c.call-ended.result none))
