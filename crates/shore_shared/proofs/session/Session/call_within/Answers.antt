use Rattle.std.proofs.Common.{◌≡◌, ◌⊎◌, ◌≤◌, ◌<◌, ◌+◌, [], ◌∷◌, inl, inr, ⊎_elim, Some, None, false, true≢false, refl, sym, ap, subst, ◌∙◌, arith}
use Rattle.shore_types.specs.declared.faults.Fault.TheVariants as fault
use Rattle.shore_model.specs.declared.step.Step.{Step}
use Rattle.shore_model.specs.declared.step.Step.TheVariants as made
use Rattle.shore_shared.specs.Heard.{AwaitsLock, AwaitsLog, HasLooked, asked_behind}
use Rattle.shore_shared.proofs.Hearing.{HasMade, IsAbout, IsFirst, answered, begins, gone_on, goes_on, has_heard, looked, looked_on, made_first, none_behind, refused_over, untold}
use Rattle.shore_shared.proofs.session.Session.call_within.Goals.{in-Some-number_awaited+else-not-wait_for, in_default+then-waits_for_lock, then-is_refused, else-is_refused}
use Rattle.shore_shared.proofs.session.Session.call_within.Goals as goal

pub loop-init : goal.loop-init
loop-init g c =
    let f = c.first_step-step.ensures in
    let old = c.args.self.now in
    let new = c.first_step-step.new.self in
    let first : IsFirst c.args.call old.ear new.ear c.first_step-step.result = ⊎_elim (λ x. inl x.1) (λ x. inr (x.0, x.2)) f.made in (
      tt,
      tt,
      f.same.0,
      looked old.seat new.seat f.same.1,
      ⊎_elim (λ x. omega (arith, x.0)) (λ x. omega (arith, x.1)) f.made,
      ⊎_elim (λ x. inr (omega (arith, x.0))) (λ x. inl x.0) f.made,
      made_first c.args.call old.ear old.ear new.ear c.first_step-step.result (begins c.args.call old.ear) first,
      refl,
    )

pub returns-else-waits_for_lock-clause-heard : goal.returns-else-waits_for_lock-clause-heard
returns-else-waits_for_lock-clause-heard g c = answered c.loop.self.seat.failed c.args.call c.args.self.now.ear c.loop.self.ear c.loop.step c.answer_of.result c.loop.invariant.6 c.answer_of.ensures.answered

pub returns-else-waits_for_lock-clause-refused : goal.returns-else-waits_for_lock-clause-refused
returns-else-waits_for_lock-clause-refused g c =
    refused_over c.loop.self.seat.failed c.args.call c.args.self.now.ear c.loop.self.ear c.answer_of.result (answered c.loop.self.seat.failed c.args.call c.args.self.now.ear c.loop.self.ear c.loop.step c.answer_of.result c.loop.invariant.6 c.answer_of.ensures.answered)

pub loop-preserved : goal.loop-preserved
loop-preserved g c =
    let call = c.args.call in
    let old = c.args.self.now in
    let was = c.loop.self in
    let m = c.match-number_awaited.self in
    let n = c.if-is_refused.self in
    let inv = c.loop.invariant in
    let mid : (m.number ≡ was.number) × HasLooked was.seat m.seat × (m.share.amount ≡ was.share.amount) × (m.ear ≡ was.ear)
    × (AwaitsLog c.loop.step ⊎ AwaitsLock c.loop.step) = elim c.match-number_awaited.branch [
      | in-Some-number_awaited+else-not-wait_for w ↦ (
        ap (λ s. s.number) w.self-is ∙ w.wait_for.ensures.same.0,
        subst (λ s. HasLooked was.seat s.seat) (sym w.self-is) w.wait_for.ensures.seat,
        ap (λ s. s.share.amount) w.self-is ∙ ap (λ x. x.amount) w.wait_for.ensures.same.1,
        ap (λ s. s.ear) w.self-is ∙ w.wait_for.ensures.same.2,
        inl w.in-Some-number_awaited.ensures.some,
      )
      | in_default+then-waits_for_lock w ↦ (
        ap (λ s. s.number) w.self-is,
        looked was.seat m.seat (ap (λ s. s.seat) w.self-is),
        ap (λ s. s.share.amount) w.self-is,
        ap (λ s. s.ear) w.self-is,
        inr (w.waits_for_lock.ensures.0 w.if-waits_for_lock.true),
      )
    ] in
    let on = goes_on call old.ear was.ear c.loop.step inv.6 mid.4 in
    let about : IsAbout call old.ear m.ear (asked_behind call c.loop.step) = (on.0, on.1, mid.3 ∙ on.2) in
    let next : (n.number ≡ m.number) × (n.seat ≡ m.seat) × (((c.if-is_refused.step ≡ made.Refused fault.Memory) × (n.share.amount ≡ m.share.amount)) ⊎ (m.share.amount < n.share.amount))
    × HasMade call old.ear n.ear c.if-is_refused.step = elim c.if-is_refused.branch [
      | then-is_refused w ↦
          let refused = c.is_refused.ensures.0 w.if-is_refused.true in
          let again : IsAbout call old.ear m.ear (Some call) = subst (λ (s : Step). IsAbout call old.ear m.ear (asked_behind call s)) refused.1 about in
          let first : IsFirst call m.ear w.first_step.new.self.ear w.first_step.result =
          ⊎_elim (λ x. inl (x.1 ∙ (λ i. has_heard m.ear (record { asked = Some (inv.7 i); step = w.first_step.result } ∷ [])))) (λ x. inr (x.0, x.2)) w.first_step.ensures.made in (
            ap (λ s. s.number) w.self-is ∙ w.first_step.ensures.same.0,
            ap (λ s. s.seat) w.self-is ∙ w.first_step.ensures.same.1,
            ⊎_elim (λ x. inr (omega (arith, ap (λ s. s.share.amount) w.self-is, x.0))) (λ x. inl (w.step-is ∙ x.0, ap (λ s. s.share.amount) w.self-is ∙ x.1)) w.first_step.ensures.made,
            subst (λ s. HasMade call old.ear s.ear c.if-is_refused.step) (sym w.self-is)
                (subst (λ (s : Step). HasMade call old.ear w.first_step.new.self.ear s) (sym w.step-is) (made_first call old.ear m.ear w.first_step.new.self.ear w.first_step.result again first)),
          )
      | else-is_refused w ↦
          let none = none_behind call c.loop.step mid.4 (λ f. true≢false (sym (c.is_refused.ensures.1 f) ∙ w.if-is_refused.false)) in
          let further : IsAbout call old.ear m.ear None = subst (λ next. IsAbout call old.ear m.ear next) none about in (
            ap (λ s. s.number) w.self-is ∙ w.go_on.ensures.same.0,
            ap (λ s. s.seat) w.self-is ∙ w.go_on.ensures.same.1,
            inr (omega (arith, ap (λ s. s.share.amount) w.self-is, w.go_on.ensures.same.2)),
            subst (λ s. HasMade call old.ear s.ear c.if-is_refused.step) (sym w.self-is)
                (subst (λ (s : Step). HasMade call old.ear w.go_on.new.self.ear s) (sym w.step-is) (gone_on call old.ear m.ear w.go_on.new.self.ear w.go_on.result further w.go_on.ensures.heard)),
          )
    ] in (
      tt,
      tt,
      next.0 ∙ mid.0 ∙ inv.2,
      subst (HasLooked old.seat) (sym next.1) (looked_on old.seat was.seat m.seat inv.3 mid.1),
      ⊎_elim (λ x. omega (arith, x.1, mid.2, inv.4)) (λ x. omega (arith, x, mid.2, inv.4)) next.2,
      ⊎_elim (λ x. inl x.0) (λ x. inr (omega (arith, x, mid.2, inv.4))) next.2,
      next.3,
      inv.7,
    )
