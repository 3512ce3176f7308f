use Rattle.std.proofs.Common.{◌≡◌, ◌+◌, List, [], ◌∷◌, ◌++◌, take, sym, ap, ◌∙◌, subst, append-nil, append_assoc, arith}
use Rattle.std.proofs.lemmas.List.{take_all, take_more}
use Rattle.shore_model.specs.declared.step.Step.{Step}
use Rattle.shore_world.specs.declared.event.Event.{Event}
use Rattle.shore_world.specs.Worlds.{Runs}
use Rattle.shore_world.specs.EventMoves.{PlainMove, all_moves}
use Rattle.shore_world.proofs.RunLemmas.{all_further, no_event, one_more}
use Rattle.shore_world.proofs.world.World.run.Goals as goal

pub returns-clause-runs : goal.returns-clause-runs
returns-clause-runs g c =
    let r = c.loop-event.invariant.runs in (
      r.0,
      r.1 ∙ ap (λ (l : List Step). l ++ r.0) c.reserve.ensures.items,
      subst (λ (l : List Event). Runs c.args.self.now l r.0 (all_moves l r.0) c.loop-event.self) (take_all c.loop-event.event-index c.args.events.now c.loop-event-test.false) r.2,
    )

pub loop-event-init : goal.loop-event-init
loop-event-init g c = record {
  room = omega (arith, c.in_ok-reserve.ensures.ok);
  runs = ([], sym (append-nil c.reserve.new.self.items), no_event c.args.self.now);
}

pub loop-event-preserved : goal.loop-event-preserved
loop-event-preserved g c =
    let r = c.loop-event.invariant.runs in
    let i = c.loop-event.event-index in
    let xs = c.args.events.now in
    let longer : take (i + 1) xs ≡ take i xs ++ c.event-item.result ∷ [] =
    take_more xs i c.event-item.result c.loop-event-test.true ∙ ap (λ (e : Event). take i xs ++ e ∷ []) (sym c.event-item.is) in
    record {
      room = omega (arith, c.loop-event.invariant.room, c.push_reserved.ensures.len, c.push_reserved.ensures.capacity, c.loop-event-test.true);
      runs = (
        r.0 ++ c.step_of-step.result ∷ [],
        c.push_reserved.ensures.items ∙ ap (λ (l : List Step). l ++ c.step_of-step.result ∷ []) r.1 ∙ append_assoc c.reserve.new.self.items r.0 (c.step_of-step.result ∷ []),
        subst (λ (l : List Event). Runs c.args.self.now l (r.0 ++ c.step_of-step.result ∷ []) (all_moves l (r.0 ++ c.step_of-step.result ∷ [])) c.step_of-step.new.self) (sym longer)
            (subst (λ (moves : List PlainMove). Runs c.args.self.now (take i xs ++ c.event-item.result ∷ []) (r.0 ++ c.step_of-step.result ∷ []) moves c.step_of-step.new.self)
            (sym (all_further _ _ _ _ _ _ _ r.2)) (one_more _ _ _ _ _ _ _ _ r.2 c.step_of-step.ensures)),
      );
    }
