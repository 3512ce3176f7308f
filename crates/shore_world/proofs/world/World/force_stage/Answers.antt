use Rattle.std.proofs.Common.{◌≡◌, inl, inr, ℕ, ◌-◌, ◌+◌, ◌≤◌, ◌++◌, [], List, None, length, take, append-nil, Ok, Err, refl, sym, ◌∙◌, ap, subst, arith, length-append, length-drop}
use Rattle.shore_disk.specs.Device.{LeavesOnly, size}
use Rattle.shore_gate.specs.declared.anchors.Anchors.{Anchors}
use Rattle.shore_heap.specs.Heaps as heaps
use Rattle.shore_types.specs.declared.layout.Geometry.{Geometry}
use Rattle.shore_types.specs.declared.faults.Fault.TheVariants.{LogFull}
use Rattle.shore_model.specs.declared.log_records.LogRecord.{LogRecord}
use Rattle.shore_frames.specs.Frames.{GivesBehindFrom}
use Rattle.shore_frames.specs.declared.reading.FrameAt.{FrameAt}
use Rattle.shore_log.specs.Settled.{IsSettledFrom, IsStagedFrom, cut_of_log, records_of_log, waiting, stable}
use Rattle.shore_log.specs.declared.device.LogDev.{LogDev}
use Rattle.laws_calls.specs.StateChanges.{with_failure}
use Rattle.laws_calls.specs.States.{State, cost_of_log}
use Rattle.shore_core.specs.Cores.{IsSafe, told_of, waiting_of}
use Rattle.shore_world.specs.declared.event.Event.TheVariants.{ForceStage}
use Rattle.shore_world.specs.declared.world.World.{World}
use Rattle.shore_world.specs.Worlds.{IsInState, IsOverStore, anchor_in, cut_in, durable_in, failed_in, forced_in, list_in}
use Rattle.shore_world.proofs.LogParts.{gone_long, in_at, in_same, log_long}
use Rattle.shore_world.proofs.RunLemmas.{stage_is_no_flush}
use Rattle.shore_world.proofs.KnownRooms.{keeps_as}
use Rattle.shore_world.proofs.UnchangedLemmas.{unchanged_itself, unchanged_of}
use Rattle.shore_world.proofs.WorldLemmas.{LogMoves, SameCheckpoint, failed_runs, force_moves, handed, has_staged, is_some_and, length-stable, none_staged, not_left, nothing_done, ready_settled, staging}
use Rattle.shore_restart.proofs.Rooms.{cost_append, frame_has_room}
use Rattle.shore_world.proofs.ForceLemmas.{other_is_no_device, refused_is}
use Rattle.shore_world.proofs.world.World.force_stage.Goals as goal

pub invariant_of-self : goal.invariant_of-self
invariant_of-self g c =
    let old = c.args.self.now in
    let h = c.hand_over.ensures in
    let st = c.stage.ensures in
    let cut = ap (λ (t : FrameAt). t.first - 1) st.tail.0 in
    record {
      numbers = omega (arith, h.numbers, ap length st.same.0, cut);
      durable_agrees = omega (arith, h.durable, old.durable_agrees, h.cut, cut, ap length h.still.2, ap length st.same.1);
      ring = omega (arith, old.ring, h.ring, ap (λ d. size (g.L.Disk.history d)) h.still.0, st.size);
      knows = st.knows (told_of c.hand_over.new.self) h.knows;
      spelled = st.spelled h.spelled;
      aside = keeps_as old.stage (told_of old.core) (told_of c.hand_over.new.self) h.aside old.aside;
    }

pub returns-then-has_failed-clause-moves : goal.returns-then-has_failed-clause-moves
returns-then-has_failed-clause-moves g c =
    nothing_done c.args.self.now ForceStage _ (λ is. is) stage_is_no_flush (λ s is. inl (is.parts.failed_is ∙ sym c.has_failed.ensures ∙ c.if-has_failed.true, refl, refl))

pub returns-then-is_staged-clause-moves : goal.returns-then-is_staged-clause-moves
returns-then-is_staged-clause-moves g c =
    nothing_done c.args.self.now ForceStage _ (λ is. is) stage_is_no_flush (λ s is. (is.parts.failed_is ∙ sym c.has_failed.ensures ∙ c.if-has_failed.false, refl))

pub returns-in-Ok-None-clause-moves : goal.returns-in-Ok-None-clause-moves
returns-in-Ok-None-clause-moves g c =
    let old = c.args.self.now in
    let mid = c.hand_over.new.log in
    let none = none_staged old.log c.is_staged.result c.is_staged.ensures c.if-is_staged.false in
    let running = sym c.has_failed.ensures ∙ c.if-has_failed.false in
    let h = c.hand_over.ensures in
    let unchanged = c.stage.ensures.nothing (c.in-Ok-None.is ∙ ap (λ n. Ok n) c.in-Ok-None.field-0-is) in
    let same = c.stage.ensures.same.0 in
    let anchors = c.stage.ensures.tail.1 ∙ h.anchors in
    force_moves old _ ForceStage _ (λ is. is) stage_is_no_flush (ap heaps.geometry_of h.heap) (ap heaps.history_of h.heap) (record { stage = refl; anchors = anchors })
    (handed old _ running (ap (λ (l : LogDev g.row.L.Denot g.L.Disk). l.device) unchanged ∙ h.still.0)
    (ap (λ (l : List LogRecord). l ++ waiting_of c.hand_over.new.self) same ∙ h.list) (c.stage.ensures.same.1 ∙ h.still.2) anchors none
    (ap (λ (l : LogDev g.row.L.Denot g.L.Disk). l.staged) unchanged ∙ h.still.1)
    (λ tail place front s. subst (λ (l : LogDev g.row.L.Denot g.L.Disk). IsSettledFrom tail place l front) (sym unchanged) (h.settled tail place front s)))
    (λ front disk s store is over safe. record {
      later = s;
      moves = (is.beside.parts.failed_is ∙ running, refl);
      is_in = in_same mid c.stage.new.self c.hand_over.new.self (ap (λ (l : LogDev g.row.L.Denot g.L.Disk). cut_of_log l) unchanged) same front disk s
          (in_at mid c.hand_over.new.self (cut_in old) h.cut front disk s (h.state front disk (take (cut_in old) s.log) s (gone_long old s is.beside) is));
      told = inl (h.over disk s store over);
    })

pub returns-in-Ok-Some-clause-moves : goal.returns-in-Ok-Some-clause-moves
returns-in-Ok-Some-clause-moves g c =
    let old = c.args.self.now in
    let mid = c.hand_over.new.log in
    let none = none_staged old.log c.is_staged.result c.is_staged.ensures c.if-is_staged.false in
    let running = sym c.has_failed.ensures ∙ c.if-has_failed.false in
    let h = c.hand_over.ensures in
    let still = h.still in
    let same = c.stage.ensures.same.0 in
    let number = c.in-Ok-Some.number in
    let longest = rw c.in-Ok-Some.field-0-is at (c.in-Ok-Some.ensures.longest (still.1 ∙ none)) in
    let forced = length-stable mid in
    let counted = ap length still.2 in
    let all : length (records_of_log mid) ≤ length (list_in old) = omega (arith, ap length h.list, length-append (records_of_log mid) (waiting_of c.hand_over.new.self)) in
    let anchors = c.stage.ensures.tail.1 ∙ h.anchors in
    let cut = ap (λ (t : FrameAt). t.first - 1) c.stage.ensures.tail.0 in
    force_moves old _ ForceStage _ (λ is. is) stage_is_no_flush (ap heaps.geometry_of h.heap) (ap heaps.history_of h.heap) (record { stage = refl; anchors = anchors })
    (staging old _ mid running none still.0 still.1 still.2 (ap (λ (l : List LogRecord). l ++ waiting_of c.hand_over.new.self) same ∙ h.list) (c.stage.ensures.same.1 ∙ still.2) anchors h.settled c.stage.ensures.any_moment
    (λ front s run. inr (
      take (number - (cut_of_log mid + mid.forced)) (waiting mid),
      subst (λ (a : Anchors). IsStagedFrom a.anchor.tail a.anchor.tail_place c.stage.new.self front (take (number - (cut_of_log mid + mid.forced)) (waiting mid))) (sym anchors)
          (rw c.in-Ok-Some.field-0-is at (c.in-Ok-Some.ensures.staged (anchor_in old).tail (anchor_in old).tail_place front s (still.1 ∙ none))),
    )))
    (λ front disk s store is over safe.
    let parts = is.beside.parts in
    let long = log_long old s is.beside in
    record {
      later = s;
      moves = (
        parts.failed_is ∙ running,
        omega (arith, parts.durable_is, old.durable_agrees, forced, counted, h.cut, longest.0),
        omega (arith, long, all, h.cut, longest.0, longest.1.within, length-drop mid.forced (records_of_log mid)),
        refl,
      );
      is_in = in_same mid c.stage.new.self c.hand_over.new.self cut same front disk s
          (in_at mid c.hand_over.new.self (cut_in old) h.cut front disk s (h.state front disk (take (cut_in old) s.log) s (gone_long old s is.beside) is));
      told = inl (h.over disk s store over);
    })

pub returns-in-Err-clause-moves : goal.returns-in-Err-clause-moves
returns-in-Err-clause-moves g c =
    let old = c.args.self.now in
    let new = c.refuse.new.self in
    let mid = c.hand_over.new.log in
    let none = none_staged old.log c.is_staged.result c.is_staged.ensures c.if-is_staged.false in
    let running = sym c.has_failed.ensures ∙ c.if-has_failed.false in
    let h = c.hand_over.ensures in
    let still = h.still in
    let r = c.refuse.ensures in
    let same = c.stage.ensures.same.0 in
    let geometry = ap heaps.geometry_of r.heap ∙ ap heaps.geometry_of h.heap in
    let volume = ap heaps.history_of r.heap ∙ ap heaps.history_of h.heap in
    let list = r.list ∙ ap (λ (l : List LogRecord). l ++ waiting_of c.hand_over.new.self) same ∙ h.list in
    let stays = ap (λ (l : LogDev g.row.L.Denot g.L.Disk). stable l) r.log ∙ c.stage.ensures.same.1 ∙ still.2 in
    let anchors = ap (λ (l : LogDev g.row.L.Denot g.L.Disk). l.anchors) r.log ∙ c.stage.ensures.tail.1 ∙ h.anchors in
    let cut = ap (λ (t : FrameAt). t.first - 1) c.stage.ensures.tail.0 in
    let checkpoint : SameCheckpoint old new = record { stage = r.stage; anchors = anchors } in
    rw r.refused (elim c.in-Err.ensures.others [
      | inl device ↦
          force_moves old new ForceStage _ (λ is. is) stage_is_no_flush geometry volume checkpoint
          (staging old new mid running none still.0 still.1 still.2 list stays anchors h.settled
          (λ tail place front s waits. subst (λ (l : LogDev g.row.L.Denot g.L.Disk). LeavesOnly (g.L.Disk.history mid.device) (g.L.Disk.history l.device) (GivesBehindFrom front tail place (stable mid))) (sym r.log)
          (c.stage.ensures.any_moment tail place front s waits))
          (λ front s run. absurd (failed_runs _ (r.failed device) run)))
          (λ front disk s store is over safe.
          let failed = r.state device front disk s store
          (in_same mid c.stage.new.self c.hand_over.new.self cut same front disk s (in_at mid c.hand_over.new.self (cut_in old) h.cut front disk s (h.state front disk (take (cut_in old) s.log) s (gone_long old s is.beside) is)))
          (subst (λ (x : Geometry). IsSafe x s) (sym (ap heaps.geometry_of h.heap)) safe) (h.over disk s store over) in
          record {
            later = with_failure s;
            moves = inr (inl (is.beside.parts.failed_is ∙ running, device, refl));
            is_in = failed.0;
            told = inl failed.1;
          })
      | inr (inl memory) ↦ absurd (c.in-Err.ensures.idle h.spelled (ap Err memory))
      | inr (inr full) ↦
          let isnt = other_is_no_device _ (inr full) in
          let whole = r.other isnt in
          let kept = not_left c.in-Err.ensures.refused isnt in
          force_moves old new ForceStage _ (λ is. is) stage_is_no_flush geometry volume checkpoint
          (handed old new running (ap (λ (l : LogDev g.row.L.Denot g.L.Disk). l.device) r.log ∙ kept.1 ∙ still.0)
          list stays anchors none
          (ap (λ (l : LogDev g.row.L.Denot g.L.Disk). l.staged) r.log ∙ kept.0.under_way ∙ still.1)
          (λ tail place front s. subst (λ (l : LogDev g.row.L.Denot g.L.Disk). IsSettledFrom tail place l front) (sym r.log) (kept.0.settled tail place front (h.settled tail place front s))))
          (λ front disk s store is over safe. record {
            later = s;
            moves = inr (inr (is.beside.parts.failed_is ∙ running, full, refl));
            is_in = subst (λ (w : World g.row.L.Denot g.row.V.Denot g.L.Disk g.V.Disk). IsInState w front disk s) (sym whole)
                (in_same mid c.stage.new.self c.hand_over.new.self cut same front disk s (in_at mid c.hand_over.new.self (cut_in old) h.cut front disk s (h.state front disk (take (cut_in old) s.log) s (gone_long old s is.beside) is)));
            told = inl (subst (λ (w : World g.row.L.Denot g.row.V.Denot g.L.Disk g.V.Disk). IsOverStore w disk s store) (sym whole) (h.over disk s store over));
          })
    ])

pub returns-in-Err-clause-full : goal.returns-in-Err-clause-full
returns-in-Err-clause-full g c refused has_room =
    let old = c.args.self.now in
    let front = has_room.log_front in
    let mid = c.hand_over.new.log in
    let none = none_staged old.log c.is_staged.result c.is_staged.ensures c.if-is_staged.false in
    let running = sym c.has_failed.ensures ∙ c.if-has_failed.false in
    let settled = c.hand_over.ensures.settled (anchor_in old).tail (anchor_in old).tail_place front (ready_settled old front none (has_room.kept.ready running)) in
    let fault : c.in-Err.fault ≡ LogFull = refused_is _ _ _ c.refuse.ensures.refused refused in
    let full = c.in-Err.ensures.full (ap (λ f. Err f) fault) in
    let room = frame_has_room mid front settled full.count full.some full.longest.within in
    let whole = ap cost_of_log c.hand_over.ensures.list in
    let longer = cost_append (records_of_log mid) (waiting_of c.hand_over.new.self) in
    omega (arith, room, full.full, has_room.room, whole, longer, mid.as_long, ap (λ d. size (g.L.Disk.history d)) c.hand_over.ensures.still.0)

pub returns-in-Ok-Some-clause-staged : goal.returns-in-Ok-Some-clause-staged
returns-in-Ok-Some-clause-staged g c n is =
    let old = c.args.self.now in
    let mid = c.hand_over.new.log in
    let h = c.hand_over.ensures in
    let none = none_staged old.log c.is_staged.result c.is_staged.ensures c.if-is_staged.false in
    let running = sym c.has_failed.ensures ∙ c.if-has_failed.false in
    let still = h.still in
    let waits : mid.staged ≡ None = still.1 ∙ none in
    let number = c.in-Ok-Some.number in
    let same : number ≡ n = cc is in
    let longest = rw c.in-Ok-Some.field-0-is at (c.in-Ok-Some.ensures.longest waits) in
    let frame = rw c.in-Ok-Some.field-0-is at (c.in-Ok-Some.ensures.frame waits) in
    let forced : forced_in old ≡ mid.forced = sym (ap length still.2) ∙ length-stable mid in
    let emptied : waiting_of c.hand_over.new.self ≡ [] = h.emptied in
    let list : (records_of_log mid) ≡ list_in old =
    sym (append-nil (records_of_log mid)) ∙ sym (ap (λ (l : List LogRecord). (records_of_log mid) ++ l) emptied) ∙ h.list in
    let count : number - (cut_of_log mid + mid.forced) ≡ n - durable_in old = omega (arith, same, old.durable_agrees, forced, h.cut) in
    has_staged old _ mid n number none same forced list (number - (cut_of_log mid + mid.forced)) count longest.1 (is_some_and _ _ _ frame refl)
    (λ front k. rw c.in-Ok-Some.field-0-is at (c.in-Ok-Some.ensures.staged (anchor_in old).tail (anchor_in old).tail_place front
    (h.settled (anchor_in old).tail (anchor_in old).tail_place front (ready_settled old front none (k.ready running))) waits))

pub returns-in-Ok-None-clause-idle : goal.returns-in-Ok-None-clause-idle
returns-in-Ok-None-clause-idle g c nothing =
    let old = c.args.self.now in
    let mid = c.hand_over.new.log in
    let none = none_staged old.log c.is_staged.result c.is_staged.ensures c.if-is_staged.false in
    let h = c.hand_over.ensures in
    let waits : waiting mid ≡ [] = c.stage.ensures.none_waits (h.still.1 ∙ none) (c.in-Ok-None.is ∙ ap (λ n. Ok n) c.in-Ok-None.field-0-is) in
    inr (omega (
      arith,
      old.durable_agrees,
      h.cut,
      ap length h.list,
      length-append (records_of_log mid) (waiting_of c.hand_over.new.self),
      ap length h.emptied,
      ap length waits,
      length-drop mid.forced (records_of_log mid),
      length-stable mid,
      ap length h.still.2,
      mid.forced_inside,
    ))

pub returns-then-is_staged-clause-quiet : goal.returns-then-is_staged-clause-quiet
returns-then-is_staged-clause-quiet g c nothing = unchanged_itself c.args.self.now

pub returns-in-Ok-None-clause-quiet : goal.returns-in-Ok-None-clause-quiet
returns-in-Ok-None-clause-quiet g c nothing =
    let old = c.args.self.now in
    let mid = c.hand_over.new.log in
    let none = none_staged old.log c.is_staged.result c.is_staged.ensures c.if-is_staged.false in
    let running = sym c.has_failed.ensures ∙ c.if-has_failed.false in
    let h = c.hand_over.ensures in
    let unchanged = c.stage.ensures.nothing (c.in-Ok-None.is ∙ ap (λ n. Ok n) c.in-Ok-None.field-0-is) in
    let same = c.stage.ensures.same.0 in
    let staged = ap (λ (l : LogDev g.row.L.Denot g.L.Disk). l.staged) unchanged ∙ h.still.1 in
    let device = ap (λ (l : LogDev g.row.L.Denot g.L.Disk). l.device) unchanged ∙ h.still.0 in
    let list = ap (λ (l : List LogRecord). l ++ waiting_of c.hand_over.new.self) same ∙ h.list in
    let anchors = c.stage.ensures.tail.1 ∙ h.anchors in
    let moves = handed old _ running device list (c.stage.ensures.same.1 ∙ h.still.2) anchors none staged
    (λ tail place front s. subst (λ (l : LogDev g.row.L.Denot g.L.Disk). IsSettledFrom tail place l front) (sym unchanged) (h.settled tail place front s)) in
    unchanged_of old _ device (ap heaps.pool_of h.heap) list h.durable h.running staged anchors refl refl moves.kept
    (λ front disk s is. in_same mid c.stage.new.self c.hand_over.new.self (ap (λ (l : LogDev g.row.L.Denot g.L.Disk). cut_of_log l) unchanged) same front disk s
    (in_at mid c.hand_over.new.self (cut_in old) h.cut front disk s (h.state front disk (take (cut_in old) s.log) s (gone_long old s is.beside) is))) h.over

pub returns-in-Err-clause-no_memory : goal.returns-in-Err-clause-no_memory
returns-in-Err-clause-no_memory g c memory =
    let fault = refused_is _ _ _ c.refuse.ensures.refused memory in
    c.in-Err.ensures.idle c.hand_over.ensures.spelled (ap (λ f. Err f) fault)
