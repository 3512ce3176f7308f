use Rattle.std.proofs.Common.{rules, ◌≡◌, true≢false, true, false, ap, subst, ◌∙◌, Ok}
use Rattle.std.specs.Prelude.{IsSome}
use Rattle.std.proofs.Math.Logic.{∥∥₁_map}
use Rattle.shore_log.specs.PlainTails.{told_in, waiting_in}
use Rattle.shore_held.proofs.KeptLogs.{forced_left, kept_left, kept_torn}
use Rattle.shore_held.proofs.Staging.{kept_opened, none_where, open_leaves}
use Rattle.shore_held.specs.Logs.{LeavesHeld, LogState}
use Rattle.shore_held.proofs.log_held.LogHeld.open.Goals as goal

pub invariant_of-self : goal.invariant_of-self
invariant_of-self g c =
    let runs : c.self.inside.failed ≡ false = search rules in
    let i = c.self.invariant in
    let old = c.self.inside.log in
    let new = c.open_staged.new.self in
    let is = c.open_staged.ensures in (
      i.0,
      i.1,
      i.2,
      search rules,
      search rules,
      i.5,
      i.6,
      search rules,
      search rules,
      is.size ∙ i.9,
      λ start honest. ∥∥₁_map (i.10 start honest) (λ k.
          kept_opened old new c.self.inside.failed runs k is.tail.1 (λ none. is.nothing (c.in-Ok.is ∙ ap Ok (none_where c.in-Ok.durable old.staged c.in-Ok.ensures.opened none)))
          (λ tail place front group staged. (c.in-Ok.ensures.settled tail place front group staged).0) c.in-Ok.ensures.none_staged),
      λ _. i.11 runs,
      λ ready. is.knows (told_in c.self.inside.next) (i.12 ready),
    )

pub invariant_of-self-in-Err : goal.invariant_of-self-in-Err
invariant_of-self-in-Err g c =
    let runs : c.self.inside.failed ≡ false = search rules in
    let i = c.self.invariant in
    let old = c.self.inside.log in
    let new = c.open_staged.new.self in
    let is = c.open_staged.ensures in (
      i.0,
      i.1,
      i.2,
      search rules,
      search rules,
      i.5,
      i.6,
      search rules,
      search rules,
      is.size ∙ i.9,
      λ start honest. ∥∥₁_map (i.10 start honest) (λ k.
          kept_torn old new k.front k.labelled is.tail.1 k.anchored true true≢false c.in-Err.ensures.unforced is.same
          (open_leaves old new k.front (k.ready runs) is.any_moment (λ none. let clash = subst IsSome none c.in-Err.ensures.waited in absurd cc))),
      λ running. absurd (true≢false running),
      λ ready. is.knows (told_in c.self.inside.next) (i.12 ready),
    )

-- ---- at any moment

-- no call was made
pub returns-then-self-clause-any_moment : goal.returns-then-self-clause-any_moment
returns-then-self-clause-any_moment g c start honest =
    let log = c.self.inside.log in
    let waits = waiting_in c.self.inside.next in
    ∥∥₁_map (c.self.invariant.10 start honest) (λ k.
    subst (λ (s : LogState). LeavesHeld g.B.Named.geometry g.B.Named.log_bytes s s.history) c.self.view_is
    (k.front, k.labelled, k.anchored.long, k.anchored.counts, kept_left log c.self.inside.failed waits k))

pub returns-in-Ok-clause-any_moment : goal.returns-in-Ok-clause-any_moment
returns-in-Ok-clause-any_moment g c start honest =
    let runs : c.self.inside.failed ≡ false = search rules in
    let log = c.self.inside.log in
    let new = c.open_staged.new.self in
    let is = c.open_staged.ensures in
    ∥∥₁_map (c.self.invariant.10 start honest) (λ k.
    subst (λ (s : LogState). LeavesHeld g.B.Named.geometry g.B.Named.log_bytes s (g.L.Disk.history new.device)) c.self.view_is (
      k.front,
      k.labelled,
      k.anchored.long,
      k.anchored.counts,
      forced_left log (waiting_in c.self.inside.next) c.self.inside.seat.anchor.aim (g.L.Disk.history new.device) k.front
          (open_leaves log new k.front (k.ready runs) is.any_moment (λ none. is.nothing (c.in-Ok.is ∙ ap Ok (none_where c.in-Ok.durable log.staged c.in-Ok.ensures.opened none)))),
    ))

pub returns-in-Err-clause-any_moment : goal.returns-in-Err-clause-any_moment
returns-in-Err-clause-any_moment g c start honest =
    let runs : c.self.inside.failed ≡ false = search rules in
    let log = c.self.inside.log in
    let new = c.open_staged.new.self in
    let is = c.open_staged.ensures in
    ∥∥₁_map (c.self.invariant.10 start honest) (λ k.
    subst (λ (s : LogState). LeavesHeld g.B.Named.geometry g.B.Named.log_bytes s (g.L.Disk.history new.device)) c.self.view_is (
      k.front,
      k.labelled,
      k.anchored.long,
      k.anchored.counts,
      forced_left log (waiting_in c.self.inside.next) c.self.inside.seat.anchor.aim (g.L.Disk.history new.device) k.front
          (open_leaves log new k.front (k.ready runs) is.any_moment (λ none. let clash = subst IsSome none c.in-Err.ensures.waited in absurd cc)),
    ))
