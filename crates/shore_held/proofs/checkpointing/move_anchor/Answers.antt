use Rattle.std.proofs.Common.{rules, ◌≡◌, ◌+◌, ◌-◌, ℕ, [], ◌∷◌, ◌++◌, length, length-append, take, arith, refl, sym, ap, subst, ◌∙◌, IsTrue, true, false, true≢false}
use Rattle.std.proofs.Math.Logic.{∥∥₁_map, ∥∥₁_elim, ∥∥₁_prop}
use Rattle.shore_heap.specs.Heaps as heaps
use Rattle.shore_types.specs.declared.faults.Fault.TheVariants as Fault
use Rattle.shore_gate.specs.Anchor.{other_of}
use Rattle.shore_gate.specs.Moves.{moved}
use Rattle.shore_gate.specs.declared.anchors.Anchors.{Anchors}
use Rattle.shore_log.specs.PlainTails.{told_in, waiting_in}
use Rattle.shore_log.specs.Settled.{anchor_of, cut_of_log, next_anchor, records_of_log, stable}
use Rattle.shore_model.specs.declared.step.Step.TheVariants as Step
use Rattle.shore_world.proofs.MovingAnchors.{ready_settles}
use Rattle.shore_world.specs.EventMoves.{OfCheckpoint}
use Rattle.shore_held.specs.Comings.{anchored_at}
use Rattle.laws_checkpoints.specs.Checkpoints.{Anchored}
use Rattle.shore_held.specs.Logs.{IsKept, LeavesByMove, LogState, known_in}
use Rattle.shore_held.specs.Trails.{calls_in, moves_of}
use Rattle.shore_held.specs.declared.asked.Asked.TheVariants as Asked
use Rattle.shore_check.specs.declared.stage.Mark.{Mark}
use Rattle.shore_words.specs.declared.rule.Known.{Known}
use Rattle.shore_held.proofs.Aims.{never_aims}
use Rattle.shore_held.proofs.Checkpoints.{anchor_moved, come_as, may_be_moved, move_failed}
use Rattle.shore_held.proofs.Following.{follows_cut, follows_same}
use Rattle.shore_held.proofs.KeptLogs.{kept_moved, kept_unmoved, label_stays, lost_front, next_bounds, ready_moved}
use Rattle.shore_held.proofs.Trails.{calls_snoc, failure_before, failure_stays, long_snoc, moves_snoc, noted_still}
use Rattle.shore_held.proofs.checkpointing.move_anchor.Goals as goal

-- It never comes to this over honest devices.
pub invariant_of-core : goal.invariant_of-core
invariant_of-core g c =
    let j = c.args.core.now in
    let n = c.requires.next in
    let refused : c.may_move.result ≡ false = search rules in
    let e1 = c.note.ensures.asked in
    let e2 = c.note.ensures.stepped in
    record {
      come_by = λ start honest. ∥∥₁_map (j.come_by start honest) (λ h. absurd (true≢false (sym (c.may_move.ensures.1
          (may_be_moved g.B.Named.cut g.B.Named.before j.core j.stage (anchored_at j.seat.kept) (moves_of j.asked.items j.stepped.items) h c.held.inside.log c.args.held.now (waiting_in c.held.inside.next)
          (sym (ap (λ s. s.anchors) c.held.view_is)) (sym (ap (λ s. s.cut) c.held.view_is)) (sym (ap (λ s. s.list) c.held.view_is)) (sym (ap (λ s. s.stable) c.held.view_is)) c.requires.met
          c.args.mark n.0 n.1 n.2 n.3)) ∙ refused)));
      layout = j.layout;
      ring = j.ring;
      as_many = ap length e2 ∙ long_snoc j.asked.items j.stepped.items (Asked.Checkpoint, 0) (Step.Refused Fault.Failed, 0) j.as_many ∙ sym (ap length e1);
      keeps = j.keeps;
      durable_seen = j.durable_seen;
      aims = j.aims;
      counted = omega (arith, j.counted, calls_snoc j.asked.items (Asked.Checkpoint, 0), ap calls_in e1);
      parts = j.parts;
      none_kept = j.none_kept;
      booked = (j.booked.0, j.booked.1 ∙ sym (noted_still j.asked.items _ j.stepped.items _ (Asked.Checkpoint, 0) (Step.Refused Fault.Failed, 0) j.as_many e1 e2 refl), j.booked.2);
      failing = λ p. failure_stays j.asked.items _ (Asked.Checkpoint, 0) e1 (j.failing p);
      fails = λ p. j.fails (failure_before j.asked.items _ (Asked.Checkpoint, 0) e1 refl p);
    }

-- The anchor has moved. What the core keeps:
pub invariant_of-core-in-Ok : goal.invariant_of-core-in-Ok
invariant_of-core-in-Ok g c =
    let i = c.held.invariant in
    let j = c.args.core.now in
    let log = c.held.inside.log in
    let n = c.requires.next in
    let allowed : IsTrue c.may_move.result = search rules in
    let may = c.may_move.ensures.0 allowed in
    let did = c.moved-step.ensures in
    let step = c.moved-step.result in
    let e1 = c.note-in-Ok.ensures.asked in
    let e2 = c.note-in-Ok.ensures.stepped in
    let runs : c.held.inside.failed ≡ false = ap (λ s. s.failed) c.held.view_is ∙ c.requires.running.1 in
    let trail : moves_of c.note-in-Ok.new.asked.items c.note-in-Ok.new.stepped.items ≡ moves_of j.asked.items j.stepped.items ++ OfCheckpoint step ∷ [] =
    (λ t. moves_of (e1 t) (e2 t)) ∙ moves_snoc j.asked.items j.stepped.items (Asked.Checkpoint, 0) (step, 0) j.as_many in
    let seen = ap (λ v. v.seen) c.move_anchor-in-Ok.ensures.seat in
    let tail : c.cut_off-tail.result + 1 ≡ (anchor_of c.move_anchor.new.self).tail = omega (arith, c.cut_off-tail.ensures, c.move_anchor.new.self.anchored.0, c.move_anchor.new.self.gone_below) in
    let aim : c.move_anchor-in-Ok.new.seat.kept.aim ≡ (0, 0) = ap (λ v. v.kept.aim) c.move_anchor-in-Ok.ensures.seat ∙ ap (λ (k : Known). k.aim) (sym c.move_anchor-in-Ok.ensures.one) ∙ c.requires.running.2 in
    let kept : anchored_at c.move_anchor-in-Ok.new.seat.kept ≡ record { checkpoint = c.args.mark.checkpoint; tail = (anchor_of c.move_anchor.new.self).tail } =
    ap (λ v. anchored_at v.kept) c.move_anchor-in-Ok.ensures.seat ∙ (λ t. record { checkpoint = c.args.mark.checkpoint; tail = tail t }) in
    record {
      come_by = λ start honest. ∥∥₁_elim (i.10 start honest) ∥∥₁_prop (λ k. ∥∥₁_map (j.come_by start honest) (λ h.
          let settled = ready_settles log k.front (k.ready runs) in
          come_as g.B.Named.cut g.B.Named.before c.moved-step.new.self c.moved-step.new.stage (record { checkpoint = c.args.mark.checkpoint; tail = (anchor_of c.move_anchor.new.self).tail }) (anchored_at c.move_anchor-in-Ok.new.seat.kept)
          (moves_of j.asked.items j.stepped.items ++ OfCheckpoint step ∷ []) (moves_of c.note-in-Ok.new.asked.items c.note-in-Ok.new.stepped.items) kept trail
          (anchor_moved g.B.Named.cut g.B.Named.before j.core j.stage (anchored_at j.seat.kept) (moves_of j.asked.items j.stepped.items) h log c.args.held.now (waiting_in c.held.inside.next)
          (sym (ap (λ s. s.anchors) c.held.view_is)) (sym (ap (λ s. s.cut) c.held.view_is)) (sym (ap (λ s. s.list) c.held.view_is)) (sym (ap (λ s. s.stable) c.held.view_is)) c.requires.met c.args.mark n.0 n.1 n.2 n.3 may.2
          c.moved-step.new.self c.moved-step.new.stage step c.move_anchor.new.self c.in-Ok.freed c.requires.running.0 did.heap did.ring
          (c.in-Ok.ensures.freed (anchor_of log).tail (anchor_of log).tail_place settled.groups settled.holds) did.moved did.step)));
      layout = ap heaps.geometry_of did.heap ∙ j.layout;
      ring = omega (arith, did.ring, j.ring);
      as_many = ap length e2 ∙ long_snoc j.asked.items j.stepped.items (Asked.Checkpoint, 0) (step, 0) j.as_many ∙ sym (ap length e1);
      keeps = ap (λ v. v.keeps) c.move_anchor-in-Ok.ensures.seat;
      durable_seen = omega (arith, did.durable, j.durable_seen, c.move_anchor-in-Ok.ensures.seen, seen);
      aims = never_aims c.move_anchor-in-Ok.new.seat.kept.aim aim;
      counted = omega (arith, j.counted, calls_snoc j.asked.items (Asked.Checkpoint, 0), ap calls_in e1);
      parts = j.parts;
      none_kept = j.none_kept;
      booked = (j.booked.0, j.booked.1 ∙ sym (noted_still j.asked.items _ j.stepped.items _ (Asked.Checkpoint, 0) (step, 0) j.as_many e1 e2 refl), j.booked.2);
      failing = λ p. failure_stays j.asked.items _ (Asked.Checkpoint, 0) e1 (j.failing p);
      fails = λ p. did.running ∙ j.fails (failure_before j.asked.items _ (Asked.Checkpoint, 0) e1 refl p);
    }

-- .. and the log device's lock:
pub invariant_of-held : goal.invariant_of-held
invariant_of-held g c =
    let i = c.held.invariant in
    let old = c.held.inside.log in
    let new = c.move_anchor.new.self in
    let waits = waiting_in c.held.inside.next in
    let lost = lost_front old new c.in-Ok.ensures.lost waits in
    let runs : c.held.inside.failed ≡ false = ap (λ s. s.failed) c.held.view_is ∙ c.requires.running.1 in
    let tail : c.cut_off-tail.result + 1 ≡ (anchor_of new).tail = omega (arith, c.cut_off-tail.ensures, new.anchored.0, new.gone_below) in
    let teller = c.move_anchor-in-Ok.ensures.teller in
    let known : c.move_anchor-in-Ok.new.self.anchor ≡ record { checkpoint = c.args.mark.checkpoint; tail = c.cut_off-tail.result + 1; aim = c.held.inside.seat.anchor.aim } = ap (λ v. v.anchor) teller in (
      i.0,
      i.1,
      i.2,
      follows_cut g.B.Named.cut g.B.Named.before c.held.inside.pass.me.view.client.got (cut_of_log old) (cut_of_log new) (records_of_log old ++ waits) lost.0 (records_of_log new ++ waits) lost.1 lost.3 i.3,
      omega (arith, i.4, lost.3, ap length lost.1, length-append (records_of_log old) waits, length-append lost.0 (records_of_log new ++ waits), length-append (records_of_log new) waits),
      i.5,
      ap (λ v. v.tells) teller ∙ i.6,
      known ∙ (λ t. record { checkpoint = ap (λ (a : Anchors). a.anchor.checkpoint) (sym c.in-Ok.ensures.moved) t; tail = tail t; aim = ap (λ (k : Known). k.aim) (sym known) t }),
      omega (arith, i.8, c.in-Ok.ensures.lost.last, ap (λ v. v.told) teller),
      c.move_anchor.ensures.size ∙ i.9,
      λ start honest. ∥∥₁_map (i.10 start honest) (λ k.
          let ready = k.ready runs in
          kept_moved old new c.held.inside.failed (moved old.anchors (anchor_of new) k.front)
          (label_stays k.front _ (other_of old.anchors.slot) k.anchored.long k.labelled)
          (c.in-Ok.ensures.anchored (anchor_of old).tail (anchor_of old).tail_place k.front (ready_settles old k.front ready) k.anchored)
          (ready_moved old new (moved old.anchors (anchor_of new) k.front) k.front ready (c.in-Ok.ensures.settled (anchor_of old).tail (anchor_of old).tail_place k.front) (c.in-Ok.ensures.staged (anchor_of old).tail (anchor_of old).tail_place k.front) c.in-Ok.ensures.lost.staged)),
      λ running. ap (λ (k : Known). k.aim) known ∙ i.11 running,
      λ ready. c.move_anchor.ensures.knows (told_in c.held.inside.next) (i.12 ready),
    )

-- The device has failed in the move. What the core keeps:
pub invariant_of-core-in-Err : goal.invariant_of-core-in-Err
invariant_of-core-in-Err g c =
    let j = c.args.core.now in
    let log = c.held.inside.log in
    let n = c.requires.next in
    let allowed : IsTrue c.may_move.result = search rules in
    let may = c.may_move.ensures.0 allowed in
    let did = c.fail.ensures in
    let step = Step.Refused c.in-Err.fault in
    let e1 = c.note-in-Err.ensures.asked in
    let e2 = c.note-in-Err.ensures.stepped in
    let trail : moves_of c.note-in-Err.new.asked.items c.note-in-Err.new.stepped.items ≡ moves_of j.asked.items j.stepped.items ++ OfCheckpoint step ∷ [] =
    (λ t. moves_of (e1 t) (e2 t)) ∙ moves_snoc j.asked.items j.stepped.items (Asked.Checkpoint, 0) (step, 0) j.as_many in
    let teller = c.fail_move.ensures in
    let known : c.fail_move.new.seat.kept ≡ record j.seat.kept { aim = (c.args.mark.checkpoint, c.args.mark.tail) } =
    ap (λ v. v.kept) teller.seat ∙ ap (λ (k : Known). record k { aim = (c.args.mark.checkpoint, c.args.mark.tail) }) (sym teller.one) in
    let seen = ap (λ v. v.seen) teller.seat in
    record {
      come_by = λ start honest. ∥∥₁_map (j.come_by start honest) (λ h.
          come_as g.B.Named.cut g.B.Named.before c.fail.new.self j.stage (anchored_at j.seat.kept) (anchored_at c.fail_move.new.seat.kept)
          (moves_of j.asked.items j.stepped.items ++ OfCheckpoint step ∷ []) (moves_of c.note-in-Err.new.asked.items c.note-in-Err.new.stepped.items) (ap anchored_at known) trail
          (move_failed g.B.Named.cut g.B.Named.before j.core j.stage (anchored_at j.seat.kept) (moves_of j.asked.items j.stepped.items) h log c.args.held.now (waiting_in c.held.inside.next)
          (sym (ap (λ s. s.anchors) c.held.view_is)) (sym (ap (λ s. s.cut) c.held.view_is)) (sym (ap (λ s. s.list) c.held.view_is)) (sym (ap (λ s. s.stable) c.held.view_is)) c.requires.met c.args.mark n.0 n.1 n.2 n.3 may.2
          c.fail.new.self step c.requires.running.0 did.heap did.ring (ap Step.Refused c.in-Err.ensures.only_device) did.failed));
      layout = ap heaps.geometry_of did.heap ∙ j.layout;
      ring = omega (arith, did.ring, j.ring);
      as_many = ap length e2 ∙ long_snoc j.asked.items j.stepped.items (Asked.Checkpoint, 0) (step, 0) j.as_many ∙ sym (ap length e1);
      keeps = ap (λ v. v.keeps) teller.seat;
      durable_seen = omega (arith, did.durable, j.durable_seen, teller.seen, seen);
      aims = λ _. ∣ record {
        named = n.0;
        at = n.1;
        is = ap (λ (k : Known). k.aim) known ∙ ap (λ (m : Mark). (m.checkpoint, m.tail)) (sym n.2);
        logged = let low = n.3 in omega (arith, low, did.durable);
      } ∣₁;
      counted = omega (arith, j.counted, calls_snoc j.asked.items (Asked.Checkpoint, 0), ap calls_in e1);
      parts = j.parts;
      none_kept = j.none_kept;
      booked = (j.booked.0, j.booked.1 ∙ sym (noted_still j.asked.items _ j.stepped.items _ (Asked.Checkpoint, 0) (step, 0) j.as_many e1 e2 refl), j.booked.2);
      failing = λ p. failure_stays j.asked.items _ (Asked.Checkpoint, 0) e1 (j.failing p);
      fails = λ _. did.noted;
    }

-- .. and the log device's lock:
pub invariant_of-held-in-Err : goal.invariant_of-held-in-Err
invariant_of-held-in-Err g c =
    let i = c.held.invariant in
    let old = c.held.inside.log in
    let new = c.move_anchor.new.self in
    let waits = waiting_in c.held.inside.next in
    let got = c.held.inside.pass.me.view.client.got in
    let same = c.in-Err.ensures.same in
    let unmoved = c.in-Err.ensures.not_moved in
    let cut : cut_of_log new ≡ cut_of_log old = ap (λ t. t.first - 1) unmoved.1 in
    let forced : stable new ≡ stable old = λ t. take (same.1 t) (same.0 t) in
    let teller = c.fail_move.ensures.teller in
    let known : c.fail_move.new.self.anchor ≡ record c.held.inside.seat.anchor { aim = (c.args.mark.checkpoint, c.args.mark.tail) } = ap (λ v. v.anchor) teller in
    let aim : c.fail_move.new.self.anchor.aim ≡ (c.args.mark.checkpoint, c.args.mark.tail) = ap (λ (k : Known). k.aim) known in
    let allowed : IsTrue c.may_move.result = search rules in
    let may = c.may_move.ensures.0 allowed in
    let runs : c.held.inside.failed ≡ false = ap (λ s. s.failed) c.held.view_is ∙ c.requires.running.1 in (
      i.0,
      i.1,
      i.2,
      follows_same g.B.Named.cut g.B.Named.before got got (cut_of_log old) (cut_of_log new) (records_of_log old ++ waits) (records_of_log new ++ waits) refl cut (ap (λ l. l ++ waits) same.0) i.3,
      omega (arith, i.4, cut, ap length same.0),
      i.5,
      ap (λ v. v.tells) teller ∙ i.6,
      known ∙ (λ t. record {
        checkpoint = (ap (λ (k : Known). k.checkpoint) i.7 ∙ ap (λ (a : Anchors). a.anchor.checkpoint) (sym unmoved.0)) t;
        tail = (ap (λ (k : Known). k.tail) i.7 ∙ ap (λ (a : Anchors). a.anchor.tail) (sym unmoved.0)) t;
        aim = sym aim t;
      }),
      omega (arith, i.8, cut, ap length forced, ap (λ v. v.told) teller),
      c.move_anchor.ensures.size ∙ i.9,
      λ start honest. ∥∥₁_map (i.10 start honest) (λ k.
          let ready = k.ready runs in
          subst (IsKept g.B.Named.geometry g.B.Named.log_bytes new true) (sym aim)
          (kept_unmoved old new true true≢false k.front k.labelled k.anchored may.2 unmoved.0 unmoved.1 c.in-Err.ensures.index.0 forced
          (c.move_anchor.ensures.any_moment (anchor_of old).tail (anchor_of old).tail_place k.front (ready_settles old k.front ready) k.anchored))),
      λ running. absurd (true≢false running),
      λ ready. c.move_anchor.ensures.knows (told_in c.held.inside.next) (i.12 ready),
    )

pub returns-in-Ok-clause-lost : goal.returns-in-Ok-clause-lost
returns-in-Ok-clause-lost g c =
    let view = c.held.view_is in
    let lost = lost_front c.held.inside.log c.move_anchor.new.self c.in-Ok.ensures.lost (waiting_in c.held.inside.next) in
    (lost.0, ap (λ s. s.list) (sym view) ∙ lost.1, ap (λ s. s.stable) (sym view) ∙ lost.2, lost.3 ∙ ap (λ s. s.cut + length lost.0) view)

pub returns-in-Err-clause-lost : goal.returns-in-Err-clause-lost
returns-in-Err-clause-lost g c =
    let view = c.held.view_is in
    let same = c.in-Err.ensures.same in
    let cut : cut_of_log c.move_anchor.new.self ≡ cut_of_log c.held.inside.log = ap (λ t. t.first - 1) c.in-Err.ensures.not_moved.1 in (
      [],
      ap (λ s. s.list) (sym view) ∙ ap (λ l. l ++ waiting_in c.held.inside.next) (sym same.0),
      ap (λ s. s.stable) (sym view) ∙ (λ t. take (sym same.1 t) (sym same.0 t)),
      omega (arith, cut, ap (λ s. s.cut) view),
    )

-- ---- the anchor is one on both sides

pub returns-then-not-may_move-clause-one_anchor : goal.returns-then-not-may_move-clause-one_anchor
returns-then-not-may_move-clause-one_anchor g c =
    let met = c.requires.met in
    let none : c.args.held.now.aim ≡ (0, 0) = ap (λ s. s.aim) (sym c.held.view_is) ∙ c.held.invariant.11 (ap (λ s. s.failed) c.held.view_is ∙ c.requires.running.1) in
    let known : c.args.core.now.seat.kept ≡ known_in c.args.held.now = λ t. record {
      checkpoint = ap (λ (a : Anchored). a.checkpoint) met.anchored_is t;
      tail = ap (λ (a : Anchored). a.tail) met.anchored_is t;
      aim = (c.requires.running.2 ∙ sym none) t;
    } in
    (known, met.first)

pub returns-in-Ok-clause-one_anchor : goal.returns-in-Ok-clause-one_anchor
returns-in-Ok-clause-one_anchor g c =
    let new = c.move_anchor.new.self in
    let same = new.anchored.0 in
    let some = new.gone_below in
    let tail : c.cut_off-tail.result + 1 ≡ (anchor_of new).tail = omega (arith, c.cut_off-tail.ensures, same, some) in (
      ap (λ v. v.kept) c.move_anchor-in-Ok.ensures.seat ∙ (λ t. record {
        checkpoint = ap (λ (a : Anchors). a.anchor.checkpoint) (sym c.in-Ok.ensures.moved) t;
        tail = tail t;
        aim = ap (λ v. v.anchor.aim) (sym c.move_anchor-in-Ok.ensures.teller) t;
      }),
      omega (arith, same, some),
    )

pub returns-in-Err-clause-one_anchor : goal.returns-in-Err-clause-one_anchor
returns-in-Err-clause-one_anchor g c =
    let i = c.held.invariant in
    let new = c.move_anchor.new.self in
    let same = new.anchored.0 in
    let some = new.gone_below in
    let unmoved = c.in-Err.ensures.not_moved in (
      ap (λ v. v.kept) c.fail_move.ensures.seat ∙ (λ t. record {
        checkpoint = (ap (λ (k : Known). k.checkpoint) i.7 ∙ ap (λ (a : Anchors). a.anchor.checkpoint) (sym unmoved.0)) t;
        tail = (ap (λ (k : Known). k.tail) i.7 ∙ ap (λ (a : Anchors). a.anchor.tail) (sym unmoved.0)) t;
        aim = ap (λ v. v.anchor.aim) (sym c.fail_move.ensures.teller) t;
      }),
      omega (arith, same, some),
    )

-- .. and so is a move of it that failed
pub returns-in-Ok-clause-unaimed : goal.returns-in-Ok-clause-unaimed
returns-in-Ok-clause-unaimed g c isnt = ap (λ v. v.anchor.aim) c.move_anchor-in-Ok.ensures.teller ∙ ap (λ s. s.aim) c.held.view_is

pub returns-in-Err-clause-unaimed : goal.returns-in-Err-clause-unaimed
returns-in-Err-clause-unaimed g c isnt = absurd (isnt (ap Step.Refused c.in-Err.ensures.only_device))

pub returns-in-Err-clause-aimed : goal.returns-in-Err-clause-aimed
returns-in-Err-clause-aimed g c is =
    let n = c.requires.next in
    let allowed : IsTrue c.may_move.result = search rules in
    let may = c.may_move.ensures.0 allowed in
    let did = c.fail.ensures in
    let aim : c.fail_move.new.self.anchor.aim ≡ (c.args.mark.checkpoint, c.args.mark.tail) = ap (λ v. v.anchor.aim) c.fail_move.ensures.teller in
    let low = may.2 in
    let logged = n.3 in (
      refl,
      omega (arith, low, ap (λ (x : ℕ × ℕ). x.1) aim),
      record { named = n.0; at = n.1; is = aim ∙ ap (λ (m : Mark). (m.checkpoint, m.tail)) (sym n.2); logged = omega (arith, logged, did.durable) },
    )

-- ---- at any moment

pub returns-then-not-may_move-clause-any_moment : goal.returns-then-not-may_move-clause-any_moment
returns-then-not-may_move-clause-any_moment g c start honest =
    let j = c.args.core.now in
    let n = c.requires.next in
    let refused : c.may_move.result ≡ false = search rules in
    ∥∥₁_map (j.come_by start honest) (λ h. absurd (true≢false (sym (c.may_move.ensures.1
    (may_be_moved g.B.Named.cut g.B.Named.before j.core j.stage (anchored_at j.seat.kept) (moves_of j.asked.items j.stepped.items) h c.held.inside.log c.args.held.now (waiting_in c.held.inside.next)
    (sym (ap (λ s. s.anchors) c.held.view_is)) (sym (ap (λ s. s.cut) c.held.view_is)) (sym (ap (λ s. s.list) c.held.view_is)) (sym (ap (λ s. s.stable) c.held.view_is)) c.requires.met
    c.args.mark n.0 n.1 n.2 n.3)) ∙ refused)))

pub returns-in-Ok-clause-any_moment : goal.returns-in-Ok-clause-any_moment
returns-in-Ok-clause-any_moment g c start honest =
    let old = c.held.inside.log in
    let mark = c.args.mark in
    let later = g.L.Disk.history c.move_anchor.new.self.device in
    let allowed : IsTrue c.may_move.result = search rules in
    let may = c.may_move.ensures.0 allowed in
    let runs : c.held.inside.failed ≡ false = ap (λ s. s.failed) c.held.view_is ∙ c.requires.running.1 in
    let bounds = next_bounds old mark.checkpoint mark.tail may.2 in
    ∥∥₁_map (c.held.invariant.10 start honest) (λ k.
    subst (λ (s : LogState). LeavesByMove g.B.Named.geometry g.B.Named.log_bytes s.anchors s.stable (mark.checkpoint, mark.tail) s.history later) c.held.view_is (
      k.front,
      k.labelled,
      k.anchored.long,
      k.anchored.counts,
      (
        next_anchor old mark.checkpoint mark.tail,
        record { checkpoint = refl; rises = bounds.0; below = bounds.1 },
        c.move_anchor.ensures.any_moment (anchor_of old).tail (anchor_of old).tail_place k.front (ready_settles old k.front (k.ready runs)) k.anchored,
      ),
    ))

pub returns-in-Err-clause-any_moment : goal.returns-in-Err-clause-any_moment
returns-in-Err-clause-any_moment g c start honest =
    let old = c.held.inside.log in
    let mark = c.args.mark in
    let later = g.L.Disk.history c.move_anchor.new.self.device in
    let allowed : IsTrue c.may_move.result = search rules in
    let may = c.may_move.ensures.0 allowed in
    let runs : c.held.inside.failed ≡ false = ap (λ s. s.failed) c.held.view_is ∙ c.requires.running.1 in
    let bounds = next_bounds old mark.checkpoint mark.tail may.2 in
    ∥∥₁_map (c.held.invariant.10 start honest) (λ k.
    subst (λ (s : LogState). LeavesByMove g.B.Named.geometry g.B.Named.log_bytes s.anchors s.stable (mark.checkpoint, mark.tail) s.history later) c.held.view_is (
      k.front,
      k.labelled,
      k.anchored.long,
      k.anchored.counts,
      (
        next_anchor old mark.checkpoint mark.tail,
        record { checkpoint = refl; rises = bounds.0; below = bounds.1 },
        c.move_anchor.ensures.any_moment (anchor_of old).tail (anchor_of old).tail_place k.front (ready_settles old k.front (k.ready runs)) k.anchored,
      ),
    ))
