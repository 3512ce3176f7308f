use Rattle.std.proofs.Common.{◌++◌, List, [], ◌∷◌}
use Rattle.shore_model.specs.declared.calls.Call.TheVariants as Call
use Rattle.shore_model.specs.declared.calls.Exchange.{Exchange}
use Rattle.turmoil.proofs.Commits.{at_err, left_by, left_then, nothing_by, nothing_then}
use Rattle.turmoil.proofs.Counts.{counted_after, counted_then, none_counted}
use Rattle.turmoil.proofs.kinds.hold.Goals as goal

pub returns-in_err-call-clause-told : goal.returns-in_err-call-clause-told
returns-in_err-call-clause-told g c =
    let begun : List Exchange = record { call = Call.Begin; reply = c.call.result } ∷ [] in
    (begun, c.call.ensures.told, at_err c.from_residual.result _ _ c.from_residual.ensures.0 (λ f. none_counted c.args.notes.now.commits begun f (tt, tt)))

pub returns-in_err-change_twice_and_go_back-clause-told : goal.returns-in_err-change_twice_and_go_back-clause-told
returns-in_err-change_twice_and_go_back-clause-told g c =
    let told = g.C.Client.told c.args.client.now in
    let n = nothing_then told (nothing_by told (record { call = Call.Begin; reply = c.call.result }) tt c.call.ensures.told) c.change_twice_and_go_back.ensures.nothing in
    (n.0, n.1, at_err c.from_residual-in_err-change_twice_and_go_back.result _ _ c.from_residual-in_err-change_twice_and_go_back.ensures.0 (λ f. none_counted c.args.notes.now.commits n.0 f n.2))

pub returns-in_err-give-clause-told : goal.returns-in_err-give-clause-told
returns-in_err-give-clause-told g c =
    let told = g.C.Client.told c.args.client.now in
    let n = nothing_then told (nothing_by told (record { call = Call.Begin; reply = c.call.result }) tt c.call.ensures.told) c.change_twice_and_go_back.ensures.nothing in
    let m = nothing_then told n c.give.ensures.nothing in
    (m.0, m.1, at_err c.from_residual-in_err-give.result _ _ c.from_residual-in_err-give.ensures.0 (λ f. none_counted c.args.notes.now.commits m.0 f m.2))

pub returns-clause-told : goal.returns-clause-told
returns-clause-told g c =
    let told = g.C.Client.told c.args.client.now in
    let known = (g.C.Client.known c.commit.new.client).durable in
    let left = left_then told (left_by told (record { call = Call.Begin; reply = c.call.result }) tt tt c.call.ensures.told) c.in_ok-change_twice_and_go_back.ensures.left in
    let h = counted_then c.args.number told left c.in_ok-give.ensures.counts in
    let k = c.commit.ensures.told in
    let a = counted_after c.args.number known c.args.notes.now.commits c.commit.new.notes.commits told k.0 c.commit.result h k.1 k.2 in
    ((h.0 ++ h.1) ++ k.0, a.0, a.1)
