use Rattle.std.proofs.Common.{◌≡◌, ◌⊎◌, inl, inr, ◌-◌, ◌<◌, ◌++◌, ℕ, List, Bool, IsTrue, true, false, length, length-drop, take, refl, sym, ◌∙◌, ap, subst, arith}
use Rattle.shore_types.specs.declared.faults.Fault.TheVariants as fault
use Rattle.shore_types.specs.declared.layout.Geometry.{Geometry}
use Rattle.shore_disk.specs.Device.{LeavesOnly}
use Rattle.shore_model.specs.declared.log_records.LogRecord.{LogRecord}
use Rattle.shore_model.specs.declared.step.Step.{Step}
use Rattle.shore_model.specs.declared.step.Step.TheVariants.{Refused}
use Rattle.shore_check.specs.declared.stage.Mark.{Mark}
use Rattle.shore_check.specs.declared.stage.Stage.{Stage}
use Rattle.shore_frames.specs.declared.reading.FrameAt.{FrameAt}
use Rattle.shore_log.specs.Settled.{IsLeftByMove, cut_of_log, next_anchor, records_of_log, stable}
use Rattle.shore_log.specs.declared.device.LogDev.{LogDev}
use Rattle.shore_log.specs.declared.tail.Told.{Told}
use Rattle.shore_core.specs.declared.checkpointing.CheckpointStep.{CheckpointStep}
use Rattle.shore_core.specs.declared.checkpointing.CheckpointStep.TheVariants.{Made, Move}
use Rattle.shore_core.specs.Checkpointing.{IsFullFor, IsRoomyFor, KeepsFor}
use Rattle.shore_core.specs.Cores.{IsIn, IsOver, IsSafe, durable_of, geometry_of, heap_of, told_of, waiting_of}
use Rattle.shore_core.proofs.CheckpointFull.{made_is}
use Rattle.shore_world.specs.declared.event.Event.TheVariants as event
use Rattle.shore_world.specs.Worlds.{EventMovesWorld, anchors_in, durable_in, failed_in, history_in, list_in}
use Rattle.shore_world.proofs.KnownRooms.{knows_alike, knows_as}
use Rattle.shore_world.proofs.LogParts.{in_same}
use Rattle.shore_world.proofs.WorldLemmas.{length-stable}
use Rattle.shore_world.proofs.MadeSteps.{each_begin, made_moves}
use Rattle.shore_world.proofs.MovingAnchors.{MakesMove, MayBeMoved, has_moved, moves_failed, moves_made, never_refused, there_is_next}
use Rattle.shore_world.proofs.UnchangedLemmas.{unchanged_parts}
use Rattle.shore_world.proofs.VolumeLemmas.{runs_or_failed}
use Rattle.shore_world.proofs.world.World.checkpoint_step.Goals as goal

-- what is not refused as after a failure has none
no_failure : (b : Bool) (r : CheckpointStep) → (IsTrue b → r ≡ Made (Refused fault.Failed)) → (r ≡ Made (Refused fault.Failed) → ⊥) → b ≡ false
no_failure b r refused isnt = elim (runs_or_failed b) [ inl runs ↦ runs | inr fails ↦ absurd (isnt (refused fails)) ]

full_is_no_failure : (step : Step) → step ≡ Refused fault.LogFull → Made step ≡ Made (Refused fault.Failed) → ⊥
full_is_no_failure step full failed = absurd cc

move_is_no_failure : (mark : Mark) → Move mark ≡ Made (Refused fault.Failed) → ⊥
move_is_no_failure mark is = absurd cc

not_both : (b : Bool) → b ≡ true → b ≡ false → ⊥
not_both b on off = let clash : true ≡ false = sym on ∙ off in absurd cc

pub invariant_of-self-in-Ok : goal.invariant_of-self-in-Ok
invariant_of-self-in-Ok g c =
    let old = c.args.self.now in
    let log = c.move_anchor.new.self in
    let m = c.in-Move.ensures in
    let k = c.moved.ensures in
    let a = c.move_anchor.ensures in
    let lost = c.in-Ok.ensures.lost in
    let asked = m.asked c.in-Move.mark refl in
    let fewer = length-drop (cut_of_log log - cut_of_log old.log) (records_of_log old.log) in
    record {
      numbers = omega (arith, k.first, m.first, old.numbers, ap length lost.records, fewer, lost.rises, lost.last, length-stable old.log, old.log.forced_inside);
      durable_agrees = omega (arith, k.durable, m.durable, old.durable_agrees, lost.last);
      ring = omega (arith, old.ring, k.ring, m.ring, a.size);
      knows = knows_as log (told_of c.checkpoint_step-made.new.self) (told_of c.moved.new.self) k.told
          (knows_alike log (told_of old.core) (told_of c.checkpoint_step-made.new.self) m.told (a.knows (told_of old.core) old.knows));
      spelled = a.spelled old.spelled;
      aside = subst (λ (x : Stage). KeepsFor x (told_of c.moved.new.self)) (sym k.resting)
          (ap (λ (t : Told). t.aside) (k.told ∙ ap told_of asked.0) ∙ subst (λ (x : Stage). KeepsFor x (told_of old.core)) asked.2.1 old.aside);
    }

pub invariant_of-self-in-Err-1 : goal.invariant_of-self-in-Err-1
invariant_of-self-in-Err-1 g c =
    let old = c.args.self.now in
    let log = c.move_anchor.new.self in
    let m = c.in-Move.ensures in
    let a = c.in-Err.ensures in
    let cut = ap (λ (t : FrameAt). t.first - 1) a.not_moved.1 in
    let forced : stable log ≡ stable old.log = ap (λ n. take n (records_of_log log)) a.same.1 ∙ ap (take old.log.forced) a.same.0 in
    record {
      numbers = omega (arith, m.first, old.numbers, cut, ap length a.same.0);
      durable_agrees = omega (arith, m.durable, old.durable_agrees, cut, ap length forced);
      ring = omega (arith, old.ring, m.ring, c.move_anchor.ensures.size);
      knows = knows_alike log (told_of old.core) (told_of c.checkpoint_step-made.new.self) m.told (c.move_anchor.ensures.knows (told_of old.core) old.knows);
      spelled = c.move_anchor.ensures.spelled old.spelled;
      aside = m.aside refl old.aside;
    }

pub returns-in-Made-clause-moves : goal.returns-in-Made-clause-moves
returns-in-Made-clause-moves g c =
    let m = c.in-Made.ensures in
    made_moves c.args.self.now _ c.in-Made.step refl m.heap m.running (λ is. m.no_move (ap Made is)) (λ fails. let r = m.failed fails in (made_is _ _ r.0, r.1, r.2)) refl m.step

pub returns-in-Made-clause-moved : goal.returns-in-Made-clause-moved
returns-in-Made-clause-moved g c done = absurd (c.in-Made.ensures.no_move (ap Made done))

pub returns-in-Made-clause-quiet : goal.returns-in-Made-clause-quiet
returns-in-Made-clause-quiet g c nothing = let same = c.in-Made.ensures.quiet (ap Made nothing) in unchanged_parts c.args.self.now _ same.0 refl same.1 refl

pub returns-in-Made-clause-full : goal.returns-in-Made-clause-full
returns-in-Made-clause-full g c full =
    let m = c.in-Made.ensures in
    each_begin c.args.self.now (no_failure _ (Made c.in-Made.step) (λ fails. (m.failed fails).0) (full_is_no_failure c.in-Made.step full)) IsFullFor
    (λ tail place groups holds front disk before s store is safe over kept may. m.full tail place groups holds front disk before s store is safe over kept may (ap Made full))

pub returns-in-Made-clause-roomy : goal.returns-in-Made-clause-roomy
returns-in-Made-clause-roomy g c n done =
    let m = c.in-Made.ensures in
    each_begin c.args.self.now (no_failure _ (Made c.in-Made.step) (λ fails. (m.failed fails).0) (λ is. let clash = sym done ∙ made_is _ _ is in absurd cc)) IsRoomyFor
    (λ tail place groups holds front disk before s store is safe over kept may. m.roomy tail place groups holds front disk before s store is safe over kept may n (ap Made done))

pub returns-then-not-may_move-clause-moves : goal.returns-then-not-may_move-clause-moves
returns-then-not-may_move-clause-moves g c =
    let old = c.args.self.now in
    let m = c.in-Move.ensures in
    let mark = c.in-Move.mark in
    let asked = m.asked mark refl in
    let of = asked.2 in
    let durable : durable_of c.checkpoint_step-made.new.self ≡ durable_in old = m.durable in
    never_refused old mark of.0 of.1 of.2 of.3 _ (Refused fault.Failed)
    (λ may. not_both _ (c.may_move.ensures.1 (may.later, omega (arith, may.within, durable), may.kept, may.below, may.last)) c.if-not-may_move.true)
    (unchanged_parts old _ asked.0 refl asked.1 refl)

pub returns-in-Ok-clause-moves : goal.returns-in-Ok-clause-moves
returns-in-Ok-clause-moves g c =
    let old = c.args.self.now in
    let m = c.in-Move.ensures in
    let mark = c.in-Move.mark in
    let asked = m.asked mark refl in
    let of = asked.2 in
    let running = no_failure (failed_in old) (Move mark) (λ fails. (m.failed fails).0) (move_is_no_failure mark) in
    let a = c.in-Ok.ensures in
    let k = c.moved.ensures in
    moves_made old mark of.0 of.1 of.2 of.3 _ running (k.heap ∙ m.heap) a.any_moment c.in-Ok.freed c.moved.result k.moved (k.running ∙ m.running)
    a.moved a.settled a.staged a.anchored a.freed a.lost
    (subst (MakesMove c.in-Ok.freed c.moved.result c.moved.new.stage c.moved.new.self) asked.0 k.step)

pub returns-in-Ok-clause-moved : goal.returns-in-Ok-clause-moved
returns-in-Ok-clause-moved g c done =
    let of = (c.in-Move.ensures.asked c.in-Move.mark refl).2 in
    has_moved c.args.self.now c.in-Move.mark of.0 of.1 of.2 of.3 _ c.in-Ok.ensures.moved c.in-Ok.ensures.cut

pub returns-in-Ok-clause-unmoved : goal.returns-in-Ok-clause-unmoved
returns-in-Ok-clause-unmoved g c =
    let of = (c.in-Move.ensures.asked c.in-Move.mark refl).2 in
    inr (there_is_next c.args.self.now c.in-Move.mark of.0 of.1 of.2 of.3)

pub returns-in-Err-clause-moves : goal.returns-in-Err-clause-moves
returns-in-Err-clause-moves g c =
    let old = c.args.self.now in
    let m = c.in-Move.ensures in
    let mark = c.in-Move.mark in
    let asked = m.asked mark refl in
    let of = asked.2 in
    let running = no_failure (failed_in old) (Move mark) (λ fails. (m.failed fails).0) (move_is_no_failure mark) in
    let a = c.in-Err.ensures in
    let r = c.refuse.ensures in
    let log = c.move_anchor.new.self in
    let device = a.only_device in
    let records : records_of_log log ≡ records_of_log old.log = a.same.0 in
    let cut = ap (λ (t : FrameAt). t.first - 1) a.not_moved.1 in
    let forced : stable log ≡ stable old.log = ap (λ n. take n (records_of_log log)) a.same.1 ∙ ap (take old.log.forced) records in
    let list = ap (λ (l : List LogRecord). l ++ waiting_of c.checkpoint_step-made.new.self) records ∙ ap (λ x. records_of_log old.log ++ waiting_of x) asked.0 in
    subst (λ (x : Step). EventMovesWorld old event.CheckpointStep x c.refuse.new.self) (sym (r.refused ∙ ap Refused device))
    (moves_failed old mark of.0 of.1 of.2 of.3 c.refuse.new.self running (r.heap ∙ m.heap)
    (λ tail place front s anchored. subst (λ (l : LogDev g.row.L.Denot g.L.Disk). LeavesOnly (history_in old) (g.L.Disk.history l.device) (IsLeftByMove (anchors_in old) (next_anchor old.log mark.checkpoint mark.tail) front (stable old.log)))
    (sym r.log) (a.any_moment tail place front s anchored))
    (r.failed device) (r.stage ∙ asked.1) (ap (λ (l : LogDev g.row.L.Denot g.L.Disk). l.anchors) r.log ∙ a.not_moved.0) (ap (λ (l : LogDev g.row.L.Denot g.L.Disk). l.tail) r.log ∙ a.not_moved.1)
    (ap (λ (l : LogDev g.row.L.Denot g.L.Disk). l.frames.items) r.log ∙ ap (λ f. f.items) a.index.0)
    (r.list ∙ list) (ap (λ (l : LogDev g.row.L.Denot g.L.Disk). stable l) r.log ∙ forced) (r.durable ∙ m.durable)
    (λ front disk s store is over safe. r.state device front disk s store
    (subst (λ x. IsIn front disk (take (cut_of_log log) s.log ++ records_of_log log) x s) (sym asked.0) (in_same old.log log old.core cut records front disk s is))
    (subst (λ x. IsSafe (geometry_of x) s) (sym asked.0) safe) (subst (λ x. IsOver disk x s store) (sym asked.0) over)))

pub returns-in-Err-clause-moved : goal.returns-in-Err-clause-moved
returns-in-Err-clause-moved g c done = let clash = sym c.refuse.ensures.refused ∙ done in absurd cc

pub returns-in-Err-clause-unmoved : goal.returns-in-Err-clause-unmoved
returns-in-Err-clause-unmoved g c =
    let of = (c.in-Move.ensures.asked c.in-Move.mark refl).2 in
    inr (there_is_next c.args.self.now c.in-Move.mark of.0 of.1 of.2 of.3)

-- ---- a checkpoint that has begun takes no memory

pub returns-in-Made-clause-no_memory : goal.returns-in-Made-clause-no_memory
returns-in-Made-clause-no_memory g c begun memory = c.in-Made.ensures.idle c.args.self.now.aside begun (ap Made memory)

pub returns-then-not-may_move-clause-no_memory : goal.returns-then-not-may_move-clause-no_memory
returns-then-not-may_move-clause-no_memory g c begun memory = absurd cc

pub returns-in-Ok-clause-no_memory : goal.returns-in-Ok-clause-no_memory
returns-in-Ok-clause-no_memory g c begun memory = let clash = sym c.moved.ensures.moved ∙ memory in absurd cc

pub returns-in-Err-clause-no_memory : goal.returns-in-Err-clause-no_memory
returns-in-Err-clause-no_memory g c begun memory = let clash = sym (ap Refused c.in-Err.ensures.only_device) ∙ sym c.refuse.ensures.refused ∙ memory in absurd cc
