use Rattle.std.proofs.Common.{◌≡◌, ◌+◌, ◌∙◌, ap, arith, length, map, vec_len}
use Rattle.std.proofs.lemmas.List.{length-map}
use Rattle.shore_shared.specs.Told.{shown_by}
use Rattle.shore_shared.proofs.Telling.{if_ok, session_made}
use Rattle.shore_shared.proofs.serving.with_sessions.Goals as goal

pub loop-number-preserved : goal.loop-number-preserved
loop-number-preserved g c =
    let was = c.loop-number.invariant in
    let s = c.in-Some.session in
    let is_next : s.number ≡ c.loop-number.number + 1 = c.is_next_of-is_next.ensures.0 c.if-not-is_next.false in (
      omega (arith, c.in-Ok-push.ensures.len, was.0),
      omega (arith, c.in-Ok-push.ensures.capacity, was.1),
      session_made (λ x. shown_by x.ear x.seat) c.loop-number.sessions.items c.push.new.self.items s c.loop-number.number c.in-Ok-push.ensures.items (omega (arith, c.loop-number.sessions.ok, was.0)) was.2 (s.listens.1 ∙ is_next) c.in-Some.ensures.heard,
    )

pub returns : goal.returns
returns g c =
    let was = c.loop-number.invariant in
    let low = c.loop-number-test.false in
    let high = c.loop-number.auto.number-end in
    if_ok c.with_workers.result.1 _ _
    (λ all is. (map (λ s. shown_by s.ear s.seat) c.loop-number.sessions.items, (length-map c.loop-number.sessions.items (λ s. shown_by s.ear s.seat) ∙ omega (arith, c.loop-number.sessions.ok, was.0, low, high)), was.2, is))
    c.with_workers.ensures
