use Rattle.std.proofs.Common.{◌≡◌, ◌+◌, ◌∙◌, ℕ, suc, All, IsNone, ap, arith, length, map, refl, rules, subst, sym}
use Rattle.shore_shared.specs.Told.{IsClaimed, shown_by}
use Rattle.shore_shared.proofs.Telling.{is_ok, joined_end, joined_next, map_snoc}
use Rattle.shore_shared.proofs.clients.joined.Goals as goal

pub loop-thread-preserved-in-Ok : goal.loop-thread-preserved-in-Ok
loop-thread-preserved-in-Ok g c =
    let was = c.loop-thread.invariant in
    let h = c.in-Some.thread in
    let session = c.join-session.result.0 in
    let steps = c.in-Some.ensures.steps.0 in
    let long : length c.loop-thread.thread-iterator.rest.items ≡ length c.next.new.self.rest.items + 1 = omega (arith, ap length steps) in (
      omega (arith, c.put.ensures.len, c.put.ensures.room, was.0, long),
      omega (arith, c.put-in-Ok.ensures.len, c.put-in-Ok.ensures.room, was.1, long),
      omega (arith, c.put.ensures.len, was.2, long),
      λ first nil same jobs none.
          let j = was.3 first nil same jobs none in
          let each = subst (All (λ x. x.promise.job.value ≡ c.args.job.now)) steps j.0 in
          let claim = is_ok c.join-session.result.1 c.in-Ok.it
          (λ it. IsClaimed (g.J.Job.says h.promise.job.value h.promise.number it) (shown_by h.promise.began.value.ear h.promise.began.value.seat) (shown_by session.ear session.seat)) c.in-Ok.is c.join-session.ensures in (
            λ k d low. each (suc k) d (omega (arith, low)),
            joined_next _ g.J.Job.says (λ x. x.promise.job.value) c.args.job.now first h _ _ _ _ c.in-Ok.it _ _ (shown_by session.ear session.seat) steps c.put-in-Ok.ensures.items
                (ap (map (λ s. shown_by s.ear s.seat)) c.put.ensures.items ∙ map_snoc (λ s. shown_by s.ear s.seat) c.loop-thread.back.items session) (each 0 h (omega arith)) claim j.1,
          ),
    )

pub returns-in-None-refused-clause-claimed : goal.returns-in-None-refused-clause-claimed
returns-in-None-refused-clause-claimed g c = λ first nil same jobs.
    let none : length c.loop-thread.thread-iterator.rest.items ≡ 0 = search rules in
    joined_end _ _ first _ _ _ none (c.loop-thread.invariant.3 first nil same jobs (subst IsNone (sym c.in-None-refused.is) refl)).1
