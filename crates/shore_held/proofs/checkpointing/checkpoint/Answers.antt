use Rattle.std.proofs.Common.{rules, ◌≡◌, ◌≤◌, inl, inr, false, List, [], ◌∷◌, ◌++◌, sym, ap, subst, ◌∙◌}
use Rattle.std.proofs.Math.Logic.{∥∥₁_map}
use Rattle.shore_check.specs.declared.stage.Mark.{Mark}
use Rattle.shore_disk.specs.Device.{DeviceHistory}
use Rattle.shore_gate.specs.declared.anchors.Anchors.{Anchors}
use Rattle.shore_model.specs.declared.log_records.LogRecord.{LogRecord}
use Rattle.shore_core.specs.Cores.{durable_of, has_failed}
use Rattle.shore_words.specs.declared.rule.Known.{Known}
use Rattle.shore_held.specs.Logs.{LeavesByMove, known_in}
use Rattle.shore_held.specs.declared.asked.Asked.TheVariants as Asked
use Rattle.shore_held.proofs.Trails.{goes_then}
use Rattle.shore_held.proofs.checkpointing.checkpoint.Goals as goal

-- A step is in the trail behind what was learned.
pub returns-in-Made-clause-noted : goal.returns-in-Made-clause-noted
returns-in-Made-clause-noted g c =
    let j = c.args.core.now in
    let from = c.meeting.new.core in
    let mid = c.learn.new.self in
    let new = c.make_step.new.core in
    let asked : from.asked.items ≡ j.asked.items = search rules in
    let stepped : from.stepped.items ≡ j.stepped.items = search rules in
    let noted = c.make_step.ensures.noted c.in-Made.step c.in-Made.is in
    λ _. goes_then j.asked.items from.asked.items mid.asked.items new.asked.items ((Asked.Checkpoint, 0) ∷ []) j.stepped.items from.stepped.items mid.stepped.items new.stepped.items ((c.in-Made.step, 0) ∷ [])
    asked stepped c.learn.ensures.trail noted.0 noted.1

-- So is a move, before which nothing was noted but that.
pub returns-clause-noted : goal.returns-clause-noted
returns-clause-noted g c =
    let j = c.args.core.now in
    let from = c.meeting.new.core in
    let mid = c.learn.new.self in
    let new = c.move_anchor.new.core in
    let asked : from.asked.items ≡ j.asked.items = search rules in
    let stepped : from.stepped.items ≡ j.stepped.items = search rules in
    let left = c.make_step.ensures.left c.in-Move.mark c.in-Move.is in
    let noted = c.move_anchor.ensures.noted in
    λ _. goes_then j.asked.items from.asked.items mid.asked.items new.asked.items ((Asked.Checkpoint, 0) ∷ []) j.stepped.items from.stepped.items mid.stepped.items new.stepped.items
    ((c.move_anchor.result, 0) ∷ []) asked stepped c.learn.ensures.trail (noted.0 ∙ ap (λ l. l ++ (Asked.Checkpoint, 0) ∷ []) left.2) (noted.1 ∙ ap (λ l. l ++ (c.move_anchor.result, 0) ∷ []) left.3)

-- What has not failed knows of no move that has.
pub make_step-requires-clause-running : goal.make_step-requires-clause-running
make_step-requires-clause-running g c =
    let runs : c.meeting.new.held.failed ≡ false = search rules in
    let m = c.meeting.ensures in
    let kept : c.learn.new.self.seat.kept ≡ known_in c.meeting.new.held = ap (λ v. v.kept) c.learn.ensures.same.3 ∙ m.core_seat.2 ∙ m.one_anchor.0 ∙ ap known_in (sym m.same_log) in
    (runs, ap (λ (k : Known). k.aim) kept ∙ c.has_failed.ensures.unaimed runs)

pub move_anchor-requires-clause-running : goal.move_anchor-requires-clause-running
move_anchor-requires-clause-running g c =
    let runs : c.meeting.new.held.failed ≡ false = search rules in
    let m = c.meeting.ensures in
    let left = c.make_step.ensures.left c.in-Move.mark c.in-Move.is in
    let kept : c.learn.new.self.seat.kept ≡ known_in c.meeting.new.held = ap (λ v. v.kept) c.learn.ensures.same.3 ∙ m.core_seat.2 ∙ m.one_anchor.0 ∙ ap known_in (sym m.same_log) in
    (ap has_failed left.1 ∙ left.0, runs, ap (λ v. v.kept.aim) c.make_step.ensures.same.2 ∙ ap (λ (k : Known). k.aim) kept ∙ c.has_failed.ensures.unaimed runs)

-- Only the move calls the log device.
pub returns-then-has_failed-clause-any_moment : goal.returns-then-has_failed-clause-any_moment
returns-then-has_failed-clause-any_moment g c start honest = inl (search rules)

pub returns-in-Made-clause-any_moment : goal.returns-in-Made-clause-any_moment
returns-in-Made-clause-any_moment g c start honest = inl (search rules)

pub returns-clause-any_moment : goal.returns-clause-any_moment
returns-clause-any_moment g c start honest =
    let from = c.meeting.new.held in
    let anchors : from.anchors ≡ c.args.held.now.anchors = search rules in
    let stable : from.stable ≡ c.args.held.now.stable = search rules in
    let history : from.history ≡ c.args.held.now.history = search rules in
    let stage : c.learn.new.self.stage ≡ c.args.core.now.stage = search rules in
    let left = c.make_step.ensures.left c.in-Move.mark c.in-Move.is in
    let stays = c.make_step.ensures.stays c.in-Move.mark c.in-Move.is in
    inr (
      left.4.0,
      sym stage ∙ sym stays ∙ left.4.1,
      subst (λ d. left.4.0.number ≤ d) (sym (c.move_anchor.ensures.durable.0 ∙ ap durable_of left.1)) left.4.3,
      ∥∥₁_map (c.move_anchor.ensures.any_moment start honest) (λ m.
          subst (λ (x : Mark). LeavesByMove g.B.Named.geometry g.B.Named.log_bytes c.args.held.now.anchors c.args.held.now.stable (x.checkpoint, x.tail) c.args.held.now.history c.move_anchor.new.held.history) (sym left.4.2)
          (subst (λ (x : Anchors × List LogRecord × DeviceHistory). LeavesByMove g.B.Named.geometry g.B.Named.log_bytes x.0 x.1 (c.in-Move.mark.checkpoint, c.in-Move.mark.tail) x.2 c.move_anchor.new.held.history)
          (λ i. (anchors i, stable i, history i)) m)),
    )
