use Rattle.std.proofs.Common.{◌≡◌, ◌+◌, ◌≤◌, ◌++◌, length, length-append, take, arith, ap, sym, subst, ◌∙◌}
use Rattle.std.proofs.Math.Logic.{∥∥₁_map}
use Rattle.std.proofs.lemmas.List.{length-take-le, take-append-le}
use Rattle.shore_log.specs.PlainTails.{waiting_in}
use Rattle.shore_log.specs.Settled.{records_of_log}
use Rattle.shore_held.proofs.KeptLogs.{kept_left}
use Rattle.shore_held.proofs.Staging.{still_leaves}
use Rattle.shore_held.specs.Logs.{Follows, LeavesHeld, LeavesStable, LogState}
use Rattle.shore_held.proofs.log_held.LogHeld.has_failed.Goals as goal

pub returns-clause-few : goal.returns-clause-few
returns-clause-few g c =
    let log = c.self.inside.log in
    let forced = length-take-le log.forced (records_of_log log) log.forced_inside in
    let inside = log.forced_inside in
    subst (λ (s : LogState). length s.stable + length s.waits ≤ length s.list) c.self.view_is
    (omega (arith, forced, inside, length-append (records_of_log log) (waiting_in c.self.inside.next)))

pub returns-clause-first : goal.returns-clause-first
returns-clause-first g c =
    let log = c.self.inside.log in
    let same = log.anchored.0 in
    let some = log.gone_below in
    subst (λ (s : LogState). s.anchors.anchor.tail ≡ s.cut + 1) c.self.view_is (omega (arith, same, some))

pub returns-clause-told : goal.returns-clause-told
returns-clause-told g c = subst (λ (s : LogState). s.told ≤ s.cut + length s.stable) c.self.view_is c.self.invariant.8

pub returns-clause-follows : goal.returns-clause-follows
returns-clause-follows g c = subst (λ (s : LogState). Follows g.B.Named.cut g.B.Named.before s.got s.cut s.list) c.self.view_is c.self.invariant.3

-- What is durable is the first of what it has.
pub returns-clause-stable : goal.returns-clause-stable
returns-clause-stable g c =
    let log = c.self.inside.log in
    let rs = records_of_log log in
    let long = length-take-le log.forced rs log.forced_inside in
    subst (λ (s : LogState). s.stable ≡ take (length s.stable) s.list) c.self.view_is
    (sym (ap (λ n. take n (rs ++ waiting_in c.self.inside.next)) long ∙ take-append-le log.forced rs (waiting_in c.self.inside.next) log.forced_inside))

pub returns-clause-left : goal.returns-clause-left
returns-clause-left g c start honest =
    let log = c.self.inside.log in
    ∥∥₁_map (c.self.invariant.10 start honest) (λ k.
    subst (λ (s : LogState). LeavesHeld g.B.Named.geometry g.B.Named.log_bytes s s.history) c.self.view_is
    (k.front, k.labelled, k.anchored.long, k.anchored.counts, kept_left log c.self.inside.failed (waiting_in c.self.inside.next) k))

pub returns-clause-unaimed : goal.returns-clause-unaimed
returns-clause-unaimed g c runs = ap (λ s. s.aim) (sym c.self.view_is) ∙ c.self.invariant.11 (ap (λ s. s.failed) c.self.view_is ∙ runs)

-- .. and as long as it has not failed just what is durable
pub returns-clause-stays : goal.returns-clause-stays
returns-clause-stays g c running start honest =
    let log = c.self.inside.log in
    let runs = ap (λ s. s.failed) c.self.view_is ∙ running in
    ∥∥₁_map (c.self.invariant.10 start honest) (λ k.
    subst (λ (s : LogState). LeavesStable g.B.Named.geometry g.B.Named.log_bytes s s.history) c.self.view_is
    (k.front, k.labelled, k.anchored.long, k.anchored.counts, still_leaves log k.front (k.ready runs)))
