use Rattle.std.proofs.Common.{◌≡◌, ◌<◌, ℕ, Option, Some, None, IfNone, is_some, true, false, inl, inr, sym, subst, ◌∙◌, arith}
use Rattle.std.proofs.lemmas.Bool.{cases_lt}
use Rattle.shore_pool.specs.declared.frame.Frame.{Frame}
use Rattle.shore_pool.specs.FrameMaps.{IsDue, frame_at}
use Rattle.shore_pool.proofs.Indexes.{frame_within}
use Rattle.shore_pool.proofs.frames.Frames.next_due.Goals as goal

if_none : (P : Type 0) (o : Option ℕ) → is_some o ≡ false → IfNone o P → P
if_none P None is p = p
if_none P (Some k) is p = let clash : true ≡ false = is in absurd cc

pub loop-place-init : goal.loop-place-init
loop-place-init c k f is low high due = absurd (omega (arith, low, high))

pub loop-place-preserved : goal.loop-place-preserved
loop-place-preserved c k f is low high due =
    let place = c.loop-place.place in
    let at = frame_at c.args.self.now in
    let none = if_none ((f : Frame) → at place ≡ Some f → IsDue c.args.durable f → ⊥) c.due_in-due.result (sym c.is_some.ensures ∙ c.if-is_some.false) c.due_in-due.ensures.none in
    elim (cases_lt k place) [
      | inl before ↦ c.loop-place.invariant k f is low before due
      | inr after ↦
          let here : k ≡ place = omega (arith, after, high) in
          none f (subst (λ (j : ℕ). at j ≡ Some f) here is) due
    ]

pub returns-clause-none : goal.returns-clause-none
returns-clause-none c k f is low due =
    let old = c.args.self.now in
    let within : k < c.len-place-end.result = omega (arith, frame_within old.slots old.table.items k f is, c.len-place-end.ensures) in
    c.loop-place.invariant k f is low (omega (arith, within, c.loop-place-test.false)) due
