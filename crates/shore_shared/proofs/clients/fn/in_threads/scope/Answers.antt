use Rattle.std.proofs.Common.{◌≡◌, ◌+◌, ◌∙◌, ◌++◌, ◌∷◌, [], ℕ, All, IfOk, ap, append-nil, arith, length, map, refl, rules, subst, sym, vec_len}
use Rattle.std.proofs.lemmas.List.Elements.{All-push, All-same}
use Rattle.shore_shared.specs.Told.{AreClaimed, IsClaimed, numbered, shown_by}
use Rattle.shore_shared.proofs.Telling.{if_ok, nothing_left, ok_of, spawned}
use Rattle.shore_shared.proofs.clients.fn.in_threads.scope.Goals as goal

pub spawn_with-answer-requires-clause-keeps : goal.spawn_with-answer-requires-clause-keeps
spawn_with-answer-requires-clause-keeps g c ls within r kept =
    if_ok r.1 _ _ (λ done is.
    subst (λ x. IsClaimed (g.J.Job.says x c.len-number.result done) (shown_by c.of-in-loop-session.result.value.ear c.of-in-loop-session.result.value.seat) (shown_by r.0.ear r.0.seat)) (sym c.of.ensures)
    (subst (λ s. IsClaimed (g.J.Job.says c.captures.job.now c.len-number.result done) (shown_by s.ear s.seat) (shown_by r.0.ear r.0.seat)) (sym c.of-in-loop-session.ensures) is))
    kept

pub loop-session-preserved : goal.loop-session-preserved
loop-session-preserved g c =
    let was = c.loop-session.invariant in
    let s = c.in-Some.session in
    let rest = c.next.new.self.rest.items in
    let steps = c.in-Some.ensures.steps.0 in
    let long : length c.loop-session.session-iterator.rest.items ≡ length rest + 1 = omega (arith, ap length steps) in
    let one = ok_of c.spawn_with-answer.result c.started.result _ _ _ c.spawn_with-answer.ensures.ok c.started.ensures.ok c.started.ensures.err c.in_default-started.is in
    let h = one.0 in
    let said = one.1 in
    let grown = one.2 in
    let here : (h.promise.number, shown_by h.promise.began.value.ear h.promise.began.value.seat) ≡ (vec_len c.loop-session.threads, shown_by s.ear s.seat) =
    ap (λ p. (p.number, shown_by p.began.value.ear p.began.value.seat)) said ∙ (λ i. (c.len-number.ensures i, shown_by (c.of-in-loop-session.ensures i).ear (c.of-in-loop-session.ensures i).seat)) in (
      omega (arith, grown.1, was.0, long),
      omega (arith, c.started.ensures.room, was.1),
      was.2,
      was.3,
      was.4,
      λ nil. (
        (λ i. map (λ x. (x.promise.number, shown_by x.promise.began.value.ear x.promise.began.value.seat)) (grown.0 i) ++ numbered (grown.1 i) (map (λ x. shown_by x.ear x.seat) rest))
            ∙ spawned (λ x. (x.promise.number, shown_by x.promise.began.value.ear x.promise.began.value.seat)) c.loop-session.threads.items h (vec_len c.loop-session.threads) (shown_by s.ear s.seat) (map (λ x. shown_by x.ear x.seat) rest) here
            ∙ (λ i. map (λ x. (x.promise.number, shown_by x.promise.began.value.ear x.promise.began.value.seat)) c.loop-session.threads.items ++ numbered (vec_len c.loop-session.threads) (map (λ x. shown_by x.ear x.seat) (sym steps i)))
            ∙ (was.5 nil).0,
        All-same (λ x. x.promise.job.value ≡ c.captures.job.now) _ _ grown.0 (All-push (λ x. x.promise.job.value ≡ c.captures.job.now) _ h (was.5 nil).1 (ap (λ p. p.job.value) said ∙ c.of.ensures)),
      ),
    )

pub returns : goal.returns
returns g c =
    let was = c.loop-session.invariant in
    let none : length c.loop-session.session-iterator.rest.items ≡ 0 = search rules in
    let nil : vec_len c.loop-session.back ≡ 0 = search rules in
    record {
      back = omega (arith, c.joined-back.ensures.back, was.0, none, ap vec_len c.of-all.ensures);
      claimed =
          subst (λ v. IfOk c.joined-back.result.1 (λ all. AreClaimed (g.J.Job.says c.captures.job.now) 0 (map (λ s. shown_by s.ear s.seat) v.items) all.items (map (λ s. shown_by s.ear s.seat) c.joined-back.result.0.items)))
          c.of-all.ensures
          (c.joined-back.ensures.claimed (map (λ s. shown_by s.ear s.seat) c.of-all.result.value.items) nil
          (nothing_left (λ s. shown_by s.ear s.seat) c.loop-session.session-iterator.rest.items (vec_len c.loop-session.threads) _ _ none (was.5 nil).0) (was.5 nil).1);
    }
