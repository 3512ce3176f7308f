use Rattle.std.proofs.Common.{◌++◌, List, [], ◌∷◌, refl}
use Rattle.shore_model.specs.declared.calls.Call.TheVariants as Call
use Rattle.shore_model.specs.declared.calls.Exchange.{Exchange}
use Rattle.turmoil.proofs.Commits.{at_err, told_both}
use Rattle.turmoil.proofs.Counts.{decided_counts, none_both, none_counted, nothing_added, refused_none}
use Rattle.turmoil.specs.Counts.{name_of}
use Rattle.turmoil.proofs.deciding.decide.Goals as goal

pub returns-in_err-begin_and_give-clause-told : goal.returns-in_err-begin_and_give-clause-told
returns-in_err-begin_and_give-clause-told g c =
    let n = c.begin_and_give.ensures.nothing in
    (n.0, n.1, at_err c.from_residual.result _ _ c.from_residual.ensures.0 (λ f. none_counted c.args.notes.now.commits n.0 f n.2))

pub returns-in_err-name_of-clause-told : goal.returns-in_err-name_of-clause-told
returns-in_err-name_of-clause-told g c =
    let n = c.begin_and_give.ensures.nothing in
    (n.0, n.1, at_err c.from_residual-in_err-name_of.result _ _ c.from_residual-in_err-name_of.ensures.0 (λ f. none_counted c.args.notes.now.commits n.0 f n.2))

pub returns-in_err-call-clause-told : goal.returns-in_err-call-clause-told
returns-in_err-call-clause-told g c =
    let told = g.C.Client.told c.args.client.now in
    let n = c.begin_and_give.ensures.nothing in
    let asked : List Exchange = record { call = Call.Prepare c.in_ok-name_of.field-0; reply = c.call.result } ∷ [] in
    (n.0 ++ asked, told_both told n.0 asked n.1 c.call.ensures.told, at_err c.from_residual-in_err-call.result _ _ c.from_residual-in_err-call.ensures.0 (λ f. (refl, λ p q. none_both n.0 asked (nothing_added n.0 n.2) (tt, tt))))

pub returns-in-Ok-clause-told : goal.returns-in-Ok-clause-told
returns-in-Ok-clause-told g c =
    let told = g.C.Client.told c.args.client.now in
    let known = (g.C.Client.known c.resolve.new.client).durable in
    let h = c.in_ok-begin_and_give.ensures.counts in
    let r = c.in-Ok.ensures.told in
    decided_counts c.args.number known c.args.notes.now.commits c.note.new.notes.commits told (name_of c.args.number c.args.turn) c.outcome_of-outcome.result c.call.result h r.0 c.call.ensures.told c.in_ok-name_of.ensures c.in_ok-call.was
    r.1 r.2 c.note.ensures

pub returns-in-Err-clause-told : goal.returns-in-Err-clause-told
returns-in-Err-clause-told g c =
    let told = g.C.Client.told c.args.client.now in
    let n = c.begin_and_give.ensures.nothing in
    let asked : List Exchange = record { call = Call.Prepare c.in_ok-name_of.field-0; reply = c.call.result } ∷ [] in
    let r = c.in-Err.ensures.told in (
      (n.0 ++ asked) ++ r.0,
      told_both told (n.0 ++ asked) r.0 (told_both told n.0 asked n.1 c.call.ensures.told) r.1,
      (refl, λ p q. none_both (n.0 ++ asked) r.0 (none_both n.0 asked (nothing_added n.0 n.2) (tt, tt)) (refused_none (name_of c.args.number c.args.turn) c.outcome_of-outcome.result r.0 (r.2 p q))),
    )
