use Rattle.std.proofs.Common.{inl, inr, ◌<◌, ◌≤◌, ◌-◌, ◌++◌, List, length, Ok, refl, sym, ◌∙◌, ap, subst, arith, length-append}
use Rattle.shore_disk.specs.Device.{LeavesOnly}
use Rattle.shore_heap.specs.Heaps as heaps
use Rattle.shore_model.specs.declared.log_records.LogRecord.{LogRecord}
use Rattle.shore_frames.specs.Frames.{GivesWithOrWithoutFrom}
use Rattle.shore_frames.specs.declared.reading.FrameAt.{FrameAt}
use Rattle.shore_log.specs.Settled.{cut_of_log, records_of_log, stable}
use Rattle.shore_log.specs.declared.device.LogDev.{LogDev}
use Rattle.laws_calls.specs.StateChanges.{with_durable, with_failure}
use Rattle.shore_log.specs.PlainTails.{told_in}
use Rattle.shore_log.specs.declared.tail.PlainTail.{PlainTail}
use Rattle.shore_sessions.specs.Controls.{txns_in}
use Rattle.shore_sessions.specs.declared.control.Control.{Control}
use Rattle.shore_txn.specs.Transactions.{room_in}
use Rattle.shore_core.specs.Cores.{told_of, waiting_of}
use Rattle.shore_core.proofs.LearningRoom.{in_learned, over_learned}
use Rattle.shore_world.specs.declared.event.Event.TheVariants.{ForceOpen}
use Rattle.shore_world.specs.Worlds.{before_in}
use Rattle.shore_world.proofs.KnownRooms.{keeps_as, knows_as}
use Rattle.shore_world.proofs.LogParts.{in_same, log_long}
use Rattle.shore_world.proofs.RunLemmas.{open_is_no_flush}
use Rattle.shore_world.proofs.UnchangedLemmas.{unchanged_parts}
use Rattle.shore_world.proofs.WorldLemmas.{failed_runs, force_moves, none_more, nothing_done, opening_gate, same_list, some_stands, unmoved}
use Rattle.shore_world.proofs.world.World.force_open.Goals as goal

pub invariant_of-self : goal.invariant_of-self
invariant_of-self g c =
    let old = c.args.self.now in
    let o = c.open_staged.ensures in
    let cut = ap (λ (f : FrameAt). f.first - 1) o.tail.0 in
    record {
      numbers = omega (arith, old.numbers, cut, ap length o.same);
      durable_agrees = omega (arith, old.durable_agrees, cut, ap length c.in-Err.ensures.unforced);
      ring = omega (arith, old.ring, o.size);
      knows = o.knows (told_of old.core) old.knows;
      spelled = o.spelled old.spelled;
      aside = old.aside;
    }

pub invariant_of-self-2 : goal.invariant_of-self-2
invariant_of-self-2 g c =
    let old = c.args.self.now in
    let o = c.open_staged.ensures in
    let t = c.told.ensures in
    let same = c.learn_left.ensures.same in
    let cut = ap (λ (f : FrameAt). f.first - 1) o.tail.0 in
    let durable = rw c.in-Some.is at c.in-Ok.ensures.durable in
    record {
      numbers = omega (arith, same.first, t.first, old.numbers, cut, ap length o.same);
      durable_agrees = omega (arith, same.durable, t.durable, c.number-number.ensures, durable);
      ring = omega (arith, old.ring, t.ring, ap (λ (k : Control). (room_in (txns_in k)).stream_bytes) same.control, o.size);
      knows = c.learn_left.ensures.knows
          (knows_as c.open_staged.new.self (told_of old.core) (told_of c.told.new.self) (ap (λ (x : PlainTail). told_in x) t.tail) (o.knows (told_of old.core) old.knows));
      spelled = o.spelled old.spelled;
      aside = keeps_as old.stage (told_of old.core) (told_of c.learn_left.new.self) (c.learn_left.ensures.aside ∙ ap (λ (x : PlainTail). (told_in x).aside) t.tail) old.aside;
    }

pub returns-then-has_failed-clause-moves : goal.returns-then-has_failed-clause-moves
returns-then-has_failed-clause-moves g c =
    nothing_done c.args.self.now ForceOpen _ (λ is. is) open_is_no_flush (λ s is. inl (is.parts.failed_is ∙ sym c.has_failed.ensures ∙ c.if-has_failed.true, refl, refl))

pub returns-in_default-clause-moves : goal.returns-in_default-clause-moves
returns-in_default-clause-moves g c =
    let old = c.args.self.now in
    let running = sym c.has_failed.ensures ∙ c.if-has_failed.false in
    let unchanged = c.open_staged.ensures.nothing (c.in-Ok.is ∙ ap (λ n. Ok n) c.in_default.is) in
    let same = c.open_staged.ensures.same in
    force_moves old _ ForceOpen _ (λ is. is) open_is_no_flush refl refl (record { stage = refl; anchors = c.open_staged.ensures.tail.1 })
    (unmoved old _ unchanged refl (none_more old _ (ap (λ (l : List LogRecord). l ++ waiting_of old.core) same) refl (λ r. r)))
    (λ front disk s store is over safe. record {
      later = s;
      moves = (is.beside.parts.failed_is ∙ running, refl);
      is_in = in_same old.log c.open_staged.new.self old.core (ap (λ (l : LogDev g.row.L.Denot g.L.Disk). cut_of_log l) unchanged) same front disk s is;
      told = inl over;
    })

pub returns-in-Err-clause-moves : goal.returns-in-Err-clause-moves
returns-in-Err-clause-moves g c =
    let old = c.args.self.now in
    let new = c.refuse.new.self in
    let running = sym c.has_failed.ensures ∙ c.if-has_failed.false in
    let device = c.in-Err.ensures.only_device in
    let same = c.open_staged.ensures.same in
    let r = c.refuse.ensures in
    let list = r.list ∙ ap (λ (l : List LogRecord). l ++ waiting_of old.core) same in
    let anchors = ap (λ (l : LogDev g.row.L.Denot g.L.Disk). l.anchors) r.log ∙ c.open_staged.ensures.tail.1 in
    let cut = ap (λ (t : FrameAt). t.first - 1) c.open_staged.ensures.tail.0 in
    let log = opening_gate old new running (some_stands old.log.staged c.in-Err.ensures.waited) list anchors
    (λ tail place front group s. subst (λ (l : LogDev g.row.L.Denot g.L.Disk). LeavesOnly (g.L.Disk.history old.log.device) (g.L.Disk.history l.device) (GivesWithOrWithoutFrom front tail place (stable old.log) group)) (sym r.log)
    (c.open_staged.ensures.any_moment tail place front group s))
    (λ tail place front group s. inl (ap (λ (l : LogDev g.row.L.Denot g.L.Disk). stable l) r.log ∙ c.in-Err.ensures.unforced, failed_runs _ (r.failed device))) in
    rw r.refused (
    force_moves old new ForceOpen _ (λ is. is) open_is_no_flush (ap heaps.geometry_of r.heap) (ap heaps.history_of r.heap) (record { stage = r.stage; anchors = anchors }) log
    (λ front disk s store is over safe.
    let failed = r.state device front disk s store (in_same old.log c.open_staged.new.self old.core cut same front disk s is) safe over in
    record {
      later = with_failure s;
      moves = inr (is.beside.parts.failed_is ∙ running, device, refl);
      is_in = failed.0;
      told = inl failed.1;
    }))

pub returns-clause-moves : goal.returns-clause-moves
returns-clause-moves g c =
    let old = c.args.self.now in
    let running = sym c.has_failed.ensures ∙ c.if-has_failed.false in
    let grown = rw c.in-Some.is at c.in-Ok.ensures.grown in
    let n = c.number-number.result in
    let number = c.number-number.ensures in
    let same = c.open_staged.ensures.same in
    let anchors = c.open_staged.ensures.tail.1 in
    let cut = ap (λ (t : FrameAt). t.first - 1) c.open_staged.ensures.tail.0 in
    let learned = c.learn_left.ensures.same in
    let heap = learned.heap ∙ c.told.ensures.heap in
    force_moves old _ ForceOpen _ (λ is. is) open_is_no_flush (ap heaps.geometry_of heap) (ap heaps.history_of heap) (record { stage = refl; anchors = anchors })
    (opening_gate old _ running (some_stands old.log.staged (c.in-Ok.ensures.opened.0 (rw c.in-Some.is refl)))
    (ap (λ (l : List LogRecord). records_of_log c.open_staged.new.self ++ l) learned.waiting ∙ same_list _ _ old.core c.told.new.self same c.told.ensures.tail) anchors
    c.open_staged.ensures.any_moment (λ tail place front group s. inr ((c.in-Ok.ensures.settled tail place front group s).0, c.in-Ok.ensures.none_staged)))
    (λ front disk s store is over safe.
    let told = c.told.ensures.told front disk (before_in old s) s store is safe over in
    let parts = is.beside.parts in
    let stored = over.kept.stored in
    let long = log_long old s is.beside in
    let later : s.durable < n = omega (arith, parts.durable_is, old.durable_agrees, number, grown.0) in
    let within : n ≤ length s.log = omega (arith, number, grown.1, cut, ap length same, long, length-append (records_of_log old.log) (waiting_of old.core)) in
    let stored_later : store.store.durable ≤ n = omega (arith, stored.durable, later) in
    let stored_within : n ≤ length store.store.log = omega (arith, ap length stored.log, within) in
    record {
      later = with_durable n s;
      moves = (parts.failed_is ∙ running, later, within, refl);
      is_in = in_same old.log c.open_staged.new.self c.learn_left.new.self cut same front disk (with_durable n s)
          (in_learned c.told.new.self c.learn_left.new.self learned front disk (before_in old s) (with_durable n s) told.0);
      told = inr (n, stored_later, stored_within, over_learned c.told.new.self c.learn_left.new.self learned disk (with_durable n s) _ told.1);
    })

pub returns-in_default-clause-quiet : goal.returns-in_default-clause-quiet
returns-in_default-clause-quiet g c nothing =
    unchanged_parts c.args.self.now _ refl (c.open_staged.ensures.nothing (c.in-Ok.is ∙ ap (λ n. Ok n) c.in_default.is)) refl refl
