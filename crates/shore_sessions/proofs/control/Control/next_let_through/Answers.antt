use Rattle.std.proofs.Common.{◌≡◌, true, false, length, sym, ◌∙◌, arith}
use Rattle.shore_sessions.specs.Controls.{waits_in}
use Rattle.shore_sessions.proofs.MarkedControls.{call_at, none_past_it, none_up_to}
use Rattle.shore_sessions.proofs.control.Control.next_let_through.Goals as goal

pub returns-then-is_let_through-clause-some : goal.returns-then-is_let_through-clause-some
returns-then-is_let_through-clause-some c =
    let it = call_at (waits_in c.args.self.now) c.in-Some.place c.in-Some.ensures.some.1 in
    (it.0, it.1, (c.is_let_through.ensures it.0 it.1).0 c.if-is_let_through.true)

pub returns-then-is_let_through-clause-first : goal.returns-then-is_let_through-clause-first
returns-then-is_let_through-clause-first c =
    let so_far = c.loop-place.invariant.1 in
    let from = c.in-Some.ensures.some.0 in
    (omega (arith, so_far, from), none_up_to c.args.self.now c.args.from c.loop-place.next c.in-Some.place c.loop-place.invariant.0 c.in-Some.ensures.first)

pub loop-place-preserved : goal.loop-place-preserved
loop-place-preserved c =
    let so_far = c.loop-place.invariant.1 in
    let from = c.in-Some.ensures.some.0 in (
      none_past_it c.args.self.now c.args.from c.in-Some.place
          (none_up_to c.args.self.now c.args.from c.loop-place.next c.in-Some.place c.loop-place.invariant.0 c.in-Some.ensures.first)
          (λ w at through. let f : true ≡ false = sym ((c.is_let_through.ensures w at).1 through) ∙ c.if-is_let_through.false in cc),
      omega (arith, so_far, from),
    )

pub returns-clause-none : goal.returns-clause-none
returns-clause-none c = none_up_to c.args.self.now c.args.from c.loop-place.next (length (waits_in c.args.self.now)) c.loop-place.invariant.0 c.in_default.ensures.none
