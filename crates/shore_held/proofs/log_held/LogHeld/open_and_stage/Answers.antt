use Rattle.std.proofs.Common.{rules, ◌≡◌, ◌↔◌, ◌+◌, ◌++◌, ◌⊎◌, [], List, true≢false, true, false, length, refl, sym, ap, subst, ◌∙◌, arith, Ok, Err, None, Result, length-append}
use Rattle.std.specs.Prelude.{IfSome, IsSome}
use Rattle.std.specs.Result.{is_err}
use Rattle.std.proofs.lemmas.List.{length-take-le}
use Rattle.std.proofs.Math.Logic.{∥∥₁_map}
use Rattle.shore_log.specs.PlainTails.{told_in, waiting_in}
use Rattle.shore_log.specs.Settled.{HasNoFrameRoom, IsSettledFrom, IsStagedFrom, records_of_log, stable, waiting}
use Rattle.shore_held.proofs.KeptLogs.{forced_left, kept_left, kept_running, kept_torn}
use Rattle.shore_held.proofs.Rooms.{is_spelled, none_or_full}
use Rattle.shore_held.proofs.Staging.{if_ok, kept_opened_on, none_counted, none_where, on_err, on_some, open_leaves, staged_fits}
use Rattle.shore_held.specs.Logs.{LeavesHeld, LogState}
use Rattle.shore_held.proofs.log_held.LogHeld.open_and_stage.Goals as goal

-- The device has failed.
pub invariant_of-self : goal.invariant_of-self
invariant_of-self g c =
    let runs : c.self.inside.failed ≡ false = search rules in
    let i = c.self.invariant in
    let old = c.self.inside.log in
    let new = c.open_and_stage-opened.new.self in
    let answer = c.open_and_stage-opened.result in
    let is = c.open_and_stage-opened.ensures in
    let fails = c.is_err-self-inside.ensures.value ∙ ap is_err c.in_err-opened.was in (
      i.0,
      i.1,
      i.2,
      search rules,
      search rules,
      i.5,
      i.6,
      search rules,
      search rules,
      is.size ∙ i.9,
      λ start honest. ∥∥₁_map (i.10 start honest) (λ k.
          kept_torn old new k.front k.labelled is.tail.1 k.anchored c.is_err-self-inside.result (λ isnt. true≢false (sym fails ∙ isnt)) (on_err answer _ _ c.in_err-opened.was is.unforced) is.same
          (open_leaves old new k.front (k.ready runs) is.any_moment (λ none. let clash = subst IsSome none (on_err answer _ _ c.in_err-opened.was is.waited) in absurd cc))),
      λ running. absurd (true≢false (sym fails ∙ running)),
      λ ready. is.knows (told_in c.self.inside.next) (i.12 ready),
    )

-- .. or it has not.
pub invariant_of-self-2 : goal.invariant_of-self-2
invariant_of-self-2 g c =
    let runs : c.self.inside.failed ≡ false = search rules in
    let i = c.self.invariant in
    let old = c.self.inside.log in
    let new = c.open_and_stage-opened.new.self in
    let answer = c.open_and_stage-opened.result in
    let n = c.in_ok-opened.field-0 in
    let was = c.in_ok-opened.was in
    let is = c.open_and_stage-opened.ensures in
    let fails = c.is_err-self-inside.result in
    let isnt : fails ≡ false = c.is_err-self-inside.ensures.value ∙ ap is_err was in (
      i.0,
      i.1,
      i.2,
      search rules,
      search rules,
      i.5,
      i.6,
      search rules,
      search rules,
      is.size ∙ i.9,
      λ start honest. ∥∥₁_map (i.10 start honest) (λ k.
          kept_opened_on old new fails isnt (kept_running old c.self.inside.failed fails runs k) is.tail.1
          (λ none. is.nothing (was ∙ ap Ok (none_where n old.staged (if_ok answer n _ was is.opened) none)))
          (λ tail place front group s. if_ok answer n (λ _. new.staged ≡ None → IsSettledFrom tail place new front) was (is.alone tail place front group s))
          (λ tail place front group s. if_ok answer n _ was (is.staged tail place front group s))),
      λ _. i.11 runs,
      λ ready. is.knows (told_in c.self.inside.next) (i.12 ready),
    )

-- ---- at any moment

-- no call was made
pub returns-then-self-clause-any_moment : goal.returns-then-self-clause-any_moment
returns-then-self-clause-any_moment g c start honest =
    let log = c.self.inside.log in
    let waits = waiting_in c.self.inside.next in
    ∥∥₁_map (c.self.invariant.10 start honest) (λ k.
    subst (λ (s : LogState). LeavesHeld g.B.Named.geometry g.B.Named.log_bytes s s.history) c.self.view_is
    (k.front, k.labelled, k.anchored.long, k.anchored.counts, kept_left log c.self.inside.failed waits k))

pub returns-clause-any_moment : goal.returns-clause-any_moment
returns-clause-any_moment g c start honest =
    let runs : c.self.inside.failed ≡ false = search rules in
    let log = c.self.inside.log in
    let new = c.open_and_stage-opened.new.self in
    let answer = c.open_and_stage-opened.result in
    let n = c.in_ok-opened.field-0 in
    let was = c.in_ok-opened.was in
    let is = c.open_and_stage-opened.ensures in
    ∥∥₁_map (c.self.invariant.10 start honest) (λ k.
    subst (λ (s : LogState). LeavesHeld g.B.Named.geometry g.B.Named.log_bytes s (g.L.Disk.history new.device)) c.self.view_is (
      k.front,
      k.labelled,
      k.anchored.long,
      k.anchored.counts,
      forced_left log (waiting_in c.self.inside.next) c.self.inside.seat.anchor.aim (g.L.Disk.history new.device) k.front
          (open_leaves log new k.front (k.ready runs) is.any_moment (λ none. is.nothing (was ∙ ap Ok (none_where n log.staged (if_ok answer n _ was is.opened) none)))),
    ))

pub returns-in_err-opened-clause-any_moment : goal.returns-in_err-opened-clause-any_moment
returns-in_err-opened-clause-any_moment g c start honest =
    let runs : c.self.inside.failed ≡ false = search rules in
    let log = c.self.inside.log in
    let new = c.open_and_stage-opened.new.self in
    let answer = c.open_and_stage-opened.result in
    let is = c.open_and_stage-opened.ensures in
    ∥∥₁_map (c.self.invariant.10 start honest) (λ k.
    subst (λ (s : LogState). LeavesHeld g.B.Named.geometry g.B.Named.log_bytes s (g.L.Disk.history new.device)) c.self.view_is (
      k.front,
      k.labelled,
      k.anchored.long,
      k.anchored.counts,
      forced_left log (waiting_in c.self.inside.next) c.self.inside.seat.anchor.aim (g.L.Disk.history new.device) k.front
          (open_leaves log new k.front (k.ready runs) is.any_moment (λ none. let clash = subst IsSome none (on_err answer _ _ c.in_err-opened.was is.waited) in absurd cc)),
    ))

-- ---- what is staged then

pub returns-clause-staged : goal.returns-clause-staged
returns-clause-staged g c is =
    let new = c.open_and_stage-opened.new.self in
    let most = staged_fits new.staged new.forced (length (records_of_log new)) new.staged_waits new.forced_inside in
    omega (arith, most, length-take-le new.forced (records_of_log new) new.forced_inside, length-append (records_of_log new) (waiting_in c.self.inside.next))

pub returns-clause-goes_on : goal.returns-clause-goes_on
returns-clause-goes_on g c none is unstaged =
    let new = c.open_and_stage-opened.new.self in
    let n = c.in_ok-opened.field-0 in
    let was = c.in_ok-opened.was in
    let some : c.is_some.result ≡ true = cc in
    let spelled = is_spelled c.self.inside.log (ap (λ s. s.textless) c.self.view_is ∙ none) in
    let goes = on_some n _ (sym c.is_some.ensures ∙ some) (if_ok c.open_and_stage-opened.result n _ was (c.open_and_stage-opened.ensures.goes_on spelled)) in
    none_or_full new _ refl refl refl (goes (none_counted new.staged new.staged_some unstaged))
