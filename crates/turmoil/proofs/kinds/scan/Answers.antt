use Rattle.std.proofs.Common.{◌++◌, zero, List, [], ◌∷◌, arith}
use Rattle.shore_model.specs.declared.calls.Call.TheVariants as Call
use Rattle.shore_model.specs.declared.calls.Exchange.{Exchange}
use Rattle.turmoil.proofs.Commits.{at_err, nothing_both, nothing_then, told_both}
use Rattle.turmoil.proofs.Counts.{counted_after, counted_then, none_counted, nothing_added}
use Rattle.turmoil.proofs.kinds.scan.Goals as goal

pub returns-in_err-sum_of_all-clause-told : goal.returns-in_err-sum_of_all-clause-told
returns-in_err-sum_of_all-clause-told g c =
    let n = c.sum_of_all.ensures.left in
    (n.0, n.1, at_err c.from_residual.result _ _ c.from_residual.ensures.0 (λ f. none_counted c.args.notes.now.commits n.0 f n.2))

pub returns-in_err-call-clause-told : goal.returns-in_err-call-clause-told
returns-in_err-call-clause-told g c =
    let told = g.C.Client.told c.args.client.now in
    let n = c.sum_of_all.ensures.left in
    let last : List Exchange = record { call = Call.Abort; reply = c.call.result } ∷ [] in
    (n.0 ++ last, told_both told n.0 last n.1 c.call.ensures.told, at_err c.from_residual-in_err-call.result _ _ c.from_residual-in_err-call.ensures.0 (λ f. none_counted c.args.notes.now.commits (n.0 ++ last) f (nothing_both n.0 last n.2 (tt, tt))))

pub returns-then-turn-eq0-clause-told : goal.returns-then-turn-eq0-clause-told
returns-then-turn-eq0-clause-told g c =
    let told = g.C.Client.told c.args.client.now in
    let n = c.sum_of_all.ensures.left in
    let last : List Exchange = record { call = Call.Abort; reply = c.call.result } ∷ [] in
    (n.0 ++ last, told_both told n.0 last n.1 c.call.ensures.told, (zero, omega (arith), nothing_added (n.0 ++ last) (nothing_both n.0 last n.2 (tt, tt))))

pub returns-in_err-give-clause-told : goal.returns-in_err-give-clause-told
returns-in_err-give-clause-told g c =
    let told = g.C.Client.told c.args.client.now in
    let n = c.sum_of_all.ensures.left in
    let m = nothing_then told (n.0, n.1, n.2) c.give.ensures.nothing in
    (m.0, m.1, at_err c.from_residual-in_err-give.result _ _ c.from_residual-in_err-give.ensures.0 (λ f. none_counted c.args.notes.now.commits m.0 f m.2))

pub returns-clause-told : goal.returns-clause-told
returns-clause-told g c =
    let told = g.C.Client.told c.args.client.now in
    let known = (g.C.Client.known c.commit.new.client).durable in
    let h = counted_then c.args.number told c.sum_of_all.ensures.left c.in_ok-give.ensures.counts in
    let k = c.commit.ensures.told in
    let a = counted_after c.args.number known c.args.notes.now.commits c.commit.new.notes.commits told k.0 c.commit.result h k.1 k.2 in
    ((h.0 ++ h.1) ++ k.0, a.0, a.1)
