use Rattle.std.proofs.Common.{◌++◌, ◌+◌, ◌%◌, ◌^◌, ◌<◌, List, [], ◌∷◌, ap, inl, inr, arith}
use Rattle.shore_model.specs.declared.calls.Call.TheVariants as Call
use Rattle.shore_model.specs.declared.calls.Exchange.{Exchange}
use Rattle.turmoil.proofs.Commits.{at_err, committed_by, counts_by, nothing_then, refused_commit, nothing_both, rolled_back, told_both}
use Rattle.turmoil.proofs.clients.transaction.Goals as goal

pub returns-in_err-call-clause-told : goal.returns-in_err-call-clause-told
returns-in_err-call-clause-told g c =
    let n = c.transfer.ensures.nothing in
    let last : List Exchange = record { call = Call.Abort; reply = c.call.result } ∷ [] in (
      n.0 ++ last,
      told_both (g.C.Client.told c.args.client.now) n.0 last n.1 c.call.ensures.told,
      at_err c.from_residual-in_err-call.result _ _ c.from_residual-in_err-call.ensures.0 (λ f. (c.transfer.ensures.same, λ p q. nothing_both n.0 last n.2 (tt, tt))),
    )

pub returns-in_err-add-clause-told : goal.returns-in_err-add-clause-told
returns-in_err-add-clause-told g c =
    let n = nothing_then (g.C.Client.told c.args.client.now) c.transfer.ensures.nothing c.add.ensures.nothing in
    (n.0, n.1, at_err c.from_residual-in_err-add.result _ _ c.from_residual-in_err-add.ensures.0 (λ f. (c.transfer.ensures.same, λ p q. n.2)))

pub returns-then-turn-eq0-clause-told : goal.returns-then-turn-eq0-clause-told
returns-then-turn-eq0-clause-told g c =
    let n = c.transfer.ensures.nothing in
    let last : List Exchange = record { call = Call.Abort; reply = c.call.result } ∷ [] in
    (n.0 ++ last, told_both (g.C.Client.told c.args.client.now) n.0 last n.1 c.call.ensures.told, inl (c.transfer.ensures.same, rolled_back n.0 c.call.result n.2))

pub returns-in-Err-clause-told : goal.returns-in-Err-clause-told
returns-in-Err-clause-told g c =
    let n = nothing_then (g.C.Client.told c.args.client.now) c.transfer.ensures.nothing c.add.ensures.nothing in
    let k = c.in-Err.ensures.told in
    let last : List Exchange = record { call = Call.Commit; reply = k.0 } ∷ [] in
    (n.0 ++ last, told_both (g.C.Client.told c.args.client.now) n.0 last n.1 k.1, (c.transfer.ensures.same, λ p q. nothing_both n.0 last n.2 (refused_commit k.0 c.in-Err.fault k.2 p q)))

pub returns-in-Ok-clause-told : goal.returns-in-Ok-clause-told
returns-in-Ok-clause-told g c =
    let told = g.C.Client.told c.args.client.now in
    let l = c.in_ok-transfer.ensures.left in
    let w = c.in_ok-add.ensures.adds in
    let k = c.in-Ok.ensures.told in
    let last : List Exchange = record { call = Call.Commit; reply = k.0 } ∷ [] in
    let small : c.args.turn % 8 < 8 = omega (arith) in (
      (l.0 ++ w.0) ++ last,
      told_both told (l.0 ++ w.0) last (told_both told l.0 w.0 l.1 w.1) k.1,
      inr (
        ap (λ x. (x + 1) % 2 ^ 64) c.transfer.ensures.same,
        committed_by c.args.number (g.C.Client.known c.commit_durable.new.self).durable c.in-Ok.field-0 l.0 w.0 l.2 l.3 (counts_by c.args.number (c.args.turn % 8) w.0 c.counter.result c.counter.ensures small w.2)
            c.in-Ok.ensures.durable k.2,
      ),
    )
