use Rattle.std.proofs.Common.{◌≢◌, ◌≤◌, ◌++◌, List, [], ◌∷◌}
use Rattle.shore_types.specs.declared.faults.Fault.TheVariants as Fault
use Rattle.shore_model.specs.declared.calls.Call.TheVariants as Call
use Rattle.shore_model.specs.declared.calls.Exchange.{Exchange}
use Rattle.turmoil.proofs.Commits.{at_err}
use Rattle.turmoil.proofs.Counts.{awaited, committed_after, nothing_added}
use Rattle.turmoil.proofs.kinds.give_durably.Goals as goal

pub returns-in_err-begin_and_give-clause-told : goal.returns-in_err-begin_and_give-clause-told
returns-in_err-begin_and_give-clause-told g c =
    let n = c.begin_and_give.ensures.nothing in
    (n.0, n.1, at_err c.from_residual.result _ _ c.from_residual.ensures.0 (λ f p. nothing_added n.0 n.2))

pub returns-clause-told : goal.returns-clause-told
returns-clause-told g c =
    let told = g.C.Client.told c.args.client.now in
    let known = (g.C.Client.known c.commit_durable.new.self).durable in
    let h = c.in_ok-begin_and_give.ensures.counts in
    let k = c.commit_durable.ensures.told in
    let last : List Exchange = record { call = Call.Commit; reply = k.0 } ∷ [] in
    let a = committed_after c.args.number known told (λ ticket. ticket ≤ known) (λ f. (f ≢ Fault.Device) × (f ≢ Fault.NotQuiet)) last c.commit_durable.result h k.1 (awaited _ known k.0 c.commit_durable.result k.2 c.commit_durable.ensures.durable) in
    ((h.0 ++ h.1) ++ last, a.0, a.1)
