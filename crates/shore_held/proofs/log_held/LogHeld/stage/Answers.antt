use Rattle.std.proofs.Common.{rules, ◌≡◌, ◌⊎◌, ◌+◌, ◌-◌, ◌++◌, true≢false, true, false, length, take, refl, sym, ap, subst, ◌∙◌, ⊎_elim, append-nil, arith, [], inl, inr, Bool, None, Result, Ok, Err, length-append}
use Rattle.std.proofs.lemmas.List.{length-take-le, take-append-drop}
use Rattle.std.proofs.Math.Logic.{∥∥₁_map}
use Rattle.shore_log.specs.PlainTails.{told_in, waiting_in}
use Rattle.shore_log.specs.Settled.{cut_of_log, records_of_log, stable, waiting}
use Rattle.shore_world.proofs.WorldLemmas.{none_staged}
use Rattle.shore_held.proofs.KeptLogs.{forced_left, kept_left, kept_longer, kept_running, kept_torn, stable_leaves}
use Rattle.shore_held.proofs.Rooms.{forced_same, free_same, is_spelled, no_place, same_fault, textless_same}
use Rattle.shore_held.proofs.Staging.{counted_some, kept_staged, none_counts, none_unless, not_staged, stage_leaves, staged_fits, staged_some}
use Rattle.shore_held.specs.Logs.{HasNoPlace, LeavesHeld, LeavesStable, LogState, aside_of, count_of, free_of, textless_of}
use Rattle.shore_held.proofs.log_held.LogHeld.stage.Goals as goal

abbrev answered : {E : Type 0} → Result Bool E → Bool
answered (Ok is) = is
answered (Err fault) = true

one_or_other : (b : Bool) → (b ≡ true) ⊎ (b ≡ false)
one_or_other true = inl refl
one_or_other false = inr refl

-- The parts of the invariant: the queue's name, the pass and its view, what follows, the next number, the first number, the teller, its tail, what it told, what is kept.
pub invariant_of-self : goal.invariant_of-self
invariant_of-self g c =
    let runs : c.self.inside.failed ≡ false = search rules in
    let i = c.self.invariant in
    let old = c.self.inside.log in
    let new = c.stage.new.self in
    let is = c.stage.ensures in (
      i.0,
      i.1,
      i.2,
      search rules,
      search rules,
      i.5,
      i.6,
      search rules,
      search rules,
      is.size ∙ i.9,
      λ start honest. ∥∥₁_map (i.10 start honest) (λ k.
          kept_staged old new c.self.inside.failed runs k is.tail.1 c.in-Ok.field-0 (λ last. take (last - (cut_of_log old + old.forced)) (waiting old)) (λ none. is.nothing (c.in-Ok.is ∙ ap Ok none))
          c.in-Ok.ensures.staged (λ some. is.nothing (is.under_way some))),
      λ _. i.11 runs,
      λ ready. is.knows (told_in c.self.inside.next) (i.12 ready),
    )

pub invariant_of-self-in-Err : goal.invariant_of-self-in-Err
invariant_of-self-in-Err g c =
    let runs : c.self.inside.failed ≡ false = search rules in
    let i = c.self.invariant in
    let old = c.self.inside.log in
    let new = c.stage.new.self in
    let is = c.stage.ensures in
    let fails = c.is_device-self-inside in (
      i.0,
      i.1,
      i.2,
      search rules,
      search rules,
      i.5,
      i.6,
      search rules,
      search rules,
      is.size ∙ i.9,
      λ start honest. ∥∥₁_map (i.10 start honest) (λ k.
          ⊎_elim
          (λ device. kept_torn old new k.front k.labelled is.tail.1 k.anchored fails.result (λ isnt. true≢false (sym (fails.ensures.1 device) ∙ isnt)) is.same.1 is.same.0
          (stable_leaves old (g.L.Disk.history new.device) k.front (stage_leaves old new k.front (k.ready runs) is.any_moment (λ some. is.nothing (is.under_way some)))))
          (λ stays. kept_longer old new fails.result (kept_running old c.self.inside.failed fails.result runs k) stays.1 stays.0 [] (is.same.0 ∙ sym (append-nil (records_of_log old))))
          c.in-Err.ensures.refused),
      λ _. i.11 runs,
      λ ready. is.knows (told_in c.self.inside.next) (i.12 ready),
    )

-- ---- at any moment

-- no call was made
pub returns-then-self-clause-any_moment : goal.returns-then-self-clause-any_moment
returns-then-self-clause-any_moment g c start honest =
    let log = c.self.inside.log in
    let waits = waiting_in c.self.inside.next in
    ∥∥₁_map (c.self.invariant.10 start honest) (λ k.
    subst (λ (s : LogState). LeavesHeld g.B.Named.geometry g.B.Named.log_bytes s s.history) c.self.view_is
    (k.front, k.labelled, k.anchored.long, k.anchored.counts, kept_left log c.self.inside.failed waits k))

pub returns-in-Ok-clause-any_moment : goal.returns-in-Ok-clause-any_moment
returns-in-Ok-clause-any_moment g c start honest =
    let runs : c.self.inside.failed ≡ false = search rules in
    let log = c.self.inside.log in
    let new = c.stage.new.self in
    let later = g.L.Disk.history new.device in
    let is = c.stage.ensures in
    ∥∥₁_map (c.self.invariant.10 start honest) (λ k.
    subst (λ (s : LogState). LeavesHeld g.B.Named.geometry g.B.Named.log_bytes s later) c.self.view_is (
      k.front,
      k.labelled,
      k.anchored.long,
      k.anchored.counts,
      forced_left log (waiting_in c.self.inside.next) c.self.inside.seat.anchor.aim later k.front
          (stable_leaves log later k.front (stage_leaves log new k.front (k.ready runs) is.any_moment (λ some. is.nothing (is.under_way some)))),
    ))

pub returns-in-Err-clause-any_moment : goal.returns-in-Err-clause-any_moment
returns-in-Err-clause-any_moment g c start honest =
    let runs : c.self.inside.failed ≡ false = search rules in
    let log = c.self.inside.log in
    let new = c.stage.new.self in
    let later = g.L.Disk.history new.device in
    let is = c.stage.ensures in
    ∥∥₁_map (c.self.invariant.10 start honest) (λ k.
    subst (λ (s : LogState). LeavesHeld g.B.Named.geometry g.B.Named.log_bytes s later) c.self.view_is (
      k.front,
      k.labelled,
      k.anchored.long,
      k.anchored.counts,
      forced_left log (waiting_in c.self.inside.next) c.self.inside.seat.anchor.aim later k.front
          (stable_leaves log later k.front (stage_leaves log new k.front (k.ready runs) is.any_moment (λ some. is.nothing (is.under_way some)))),
    ))

-- .. which is what was durable
pub returns-in-Ok-clause-leaves : goal.returns-in-Ok-clause-leaves
returns-in-Ok-clause-leaves g c running start honest =
    let runs : c.self.inside.failed ≡ false = search rules in
    let log = c.self.inside.log in
    let new = c.stage.new.self in
    let is = c.stage.ensures in
    ∥∥₁_map (c.self.invariant.10 start honest) (λ k.
    subst (λ (s : LogState). LeavesStable g.B.Named.geometry g.B.Named.log_bytes s (g.L.Disk.history new.device)) c.self.view_is
    (k.front, k.labelled, k.anchored.long, k.anchored.counts, stage_leaves log new k.front (k.ready runs) is.any_moment (λ some. is.nothing (is.under_way some))))

pub returns-in-Err-clause-leaves : goal.returns-in-Err-clause-leaves
returns-in-Err-clause-leaves g c running start honest =
    let runs : c.self.inside.failed ≡ false = search rules in
    let log = c.self.inside.log in
    let new = c.stage.new.self in
    let is = c.stage.ensures in
    ∥∥₁_map (c.self.invariant.10 start honest) (λ k.
    subst (λ (s : LogState). LeavesStable g.B.Named.geometry g.B.Named.log_bytes s (g.L.Disk.history new.device)) c.self.view_is
    (k.front, k.labelled, k.anchored.long, k.anchored.counts, stage_leaves log new k.front (k.ready runs) is.any_moment (λ some. is.nothing (is.under_way some))))

-- ---- what it answers

pub returns-in-Ok-clause-unaimed : goal.returns-in-Ok-clause-unaimed
returns-in-Ok-clause-unaimed g c =
    let runs : c.self.inside.failed ≡ false = search rules in
    ap (λ s. s.aim) (sym c.self.view_is) ∙ c.self.invariant.11 runs

pub returns-in-Err-clause-refused : goal.returns-in-Err-clause-refused
returns-in-Err-clause-refused g c =
    let runs : c.self.inside.failed ≡ false = search rules in
    let fails = c.is_device-self-inside in
    let waits = waiting_in c.self.inside.next in
    let is = c.stage.ensures in
    ⊎_elim inl (λ stays. ⊎_elim (λ device. inl (fails.ensures.0 device)) (λ isnt. inr ((λ i. record {
      anchors = stays.0.anchors i;
      cut = (stays.0.tail i).first - 1;
      list = is.same.0 i ++ waits;
      waits = waits;
      stable = is.same.1 i;
      staged = count_of (stays.0.under_way i);
      got = c.self.inside.pass.me.view.client.got;
      met = c.self.inside.pass.me.view.client.sent;
      told = c.self.inside.seat.told;
      aim = c.self.inside.seat.anchor.aim;
      failed = (isnt ∙ sym runs) i;
      free = free_same c.self.inside.log c.stage.new.self stays.0.tail stays.0.head is.size i;
      textless = textless_same c.self.inside.log c.stage.new.self is.same.0 (forced_same c.self.inside.log c.stage.new.self is.same.1) is.list is.spelled i;
      aside = aside_of c.self.inside.ready (told_in c.self.inside.next);
      faults = g.L.Disk.faults (stays.1 i);
      history = g.L.Disk.history (stays.1 i);
    }) ∙ c.self.view_is)) (one_or_other fails.result)) c.in-Err.ensures.refused

pub returns-in-Ok-clause-under_way : goal.returns-in-Ok-clause-under_way
returns-in-Ok-clause-under_way g c some =
    let log = c.self.inside.log in
    let there = counted_some log.staged (omega (arith, some, ap (λ s. s.staged) c.self.view_is)) in
    let same = c.stage.ensures.nothing (c.stage.ensures.under_way there) in
    ap (λ l. record {
      anchors = l.anchors;
      cut = cut_of_log l;
      list = records_of_log l ++ waiting_in c.self.inside.next;
      waits = waiting_in c.self.inside.next;
      stable = stable l;
      staged = count_of l.staged;
      got = c.self.inside.pass.me.view.client.got;
      met = c.self.inside.pass.me.view.client.sent;
      told = c.self.inside.seat.told;
      aim = c.self.inside.seat.anchor.aim;
      failed = c.self.inside.failed;
      free = free_of l;
      textless = textless_of l.read (l.count - l.forced);
      aside = aside_of c.self.inside.ready (told_in c.self.inside.next);
      faults = g.L.Disk.faults l.device;
      history = g.L.Disk.history l.device;
    }) same ∙ c.self.view_is

-- Where none is staged nothing waits.
pub returns-in-Ok-clause-none : goal.returns-in-Ok-clause-none
returns-in-Ok-clause-none g c is =
    let old = c.self.inside.log in
    let new = c.stage.new.self in
    let waits = waiting_in c.self.inside.next in
    let did = c.stage.ensures in
    let none = none_staged new c.is_staged.result c.is_staged.ensures (ap answered is) in
    let still : old.staged ≡ None = not_staged old.staged (λ some. ap (λ l. l.staged) (sym (did.nothing (did.under_way some))) ∙ none) in
    let nothing = c.in-Ok.is ∙ ap Ok (none_unless c.in-Ok.field-0 _ (c.in-Ok.ensures.frame still) (λ last frame. let clash = sym none ∙ frame in absurd cc)) in
    let all = sym (take-append-drop old.forced (records_of_log old)) ∙ ap (λ l. stable old ++ l) (did.none_waits still nothing) ∙ append-nil (stable old) in
    (none_counts new.staged none, ap (λ l. l ++ waits) (did.same.0 ∙ all ∙ sym did.same.1))

pub returns-in-Ok-clause-staged : goal.returns-in-Ok-clause-staged
returns-in-Ok-clause-staged g c is =
    let new = c.stage.new.self in
    let some = c.is_staged.ensures.0 (ap answered is) in
    let forced = length-take-le new.forced (records_of_log new) new.forced_inside in (
      staged_some new.staged new.staged_some some,
      let most = staged_fits new.staged new.forced (length (records_of_log new)) new.staged_waits new.forced_inside in
          omega (arith, most, forced, length-append (records_of_log new) (waiting_in c.self.inside.next)),
    )

-- ---- why it may be refused

pub returns-in-Err-clause-full : goal.returns-in-Err-clause-full
returns-in-Err-clause-full g c is = subst HasNoPlace c.self.view_is (no_place c.self.inside.log _ refl refl refl (c.in-Err.ensures.full (same_fault _ _ is)))

pub returns-in-Err-clause-idle : goal.returns-in-Err-clause-idle
returns-in-Err-clause-idle g c none is = c.in-Err.ensures.idle (is_spelled c.self.inside.log (ap (λ s. s.textless) c.self.view_is ∙ none)) (same_fault _ _ is)
