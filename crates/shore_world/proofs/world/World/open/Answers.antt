use Rattle.std.proofs.Common.{◌≡◌, ◌-◌, inl, inr, ℕ, List, Err, Ok, arith, IsTrue, length, take, refl, sym, ◌∙◌, ap, subst}
use Rattle.shore_types.specs.Versions.{least_log-least}
use Rattle.shore_types.specs.Layout.{LocksInLimits}
use Rattle.shore_types.specs.declared.faults.Device.TheVariants.{Log as DeviceLog}
use Rattle.shore_types.specs.declared.faults.Fault.TheVariants.{Damaged}
use Rattle.shore_types.specs.declared.layout.Geometry.{Geometry}
use Rattle.shore_disk.specs.Device.{DeviceHistory, seen, size}
use Rattle.shore_gate.specs.Anchor.{offset_of}
use Rattle.shore_gate.specs.declared.anchors.Anchors.{Anchors}
use Rattle.shore_dwrite.specs.Checks.{RefusesArea}
use Rattle.shore_dwrite.specs.Settled as pages_of
use Rattle.shore_dwrite.specs.Shown.{Shows}
use Rattle.shore_fronts.specs.Causes.{HasCauseOfPair}
use Rattle.shore_fronts.specs.Pairs.{HaveFronts}
use Rattle.shore_heap.specs.Heaps as heaps
use Rattle.shore_frames.specs.Frames.{GivesFrom}
use Rattle.shore_frames.specs.Offsets.{IsBadAt, IsFrameOf}
use Rattle.shore_frames.specs.declared.reading.FrameAt.{FrameAt}
use Rattle.shore_log.specs.Settled.{IsSettledFrom, cut_of_log, device_of, fault_of, records_of_log}
use Rattle.shore_model.specs.declared.log_records.LogRecord.{LogRecord}
use Rattle.shore_core.specs.Cores.{control_of, heap_of, waiting_of}
use Rattle.shore_sessions.specs.Controls.{txns_in}
use Rattle.shore_sessions.specs.declared.control.Control.{Control}
use Rattle.shore_txn.specs.Transactions.{room_in}
use Rattle.laws_images.specs.Moments.{Moment}
use Rattle.laws_images.specs.MomentsBehind.{PathBehind}
use Rattle.laws_images.specs.StandsBehind.{anchored_by, kept_behind}
use Rattle.laws_runs.specs.CheckpointedStates.{found_behind}
use Rattle.shore_analysis.proofs.Padding.{length_padded}
use Rattle.shore_restart.specs.GivenBack.{HasDoubtsBack}
use Rattle.shore_restart.specs.Reports.{IsReportOf}
use Rattle.shore_restart.specs.Room.{LeavesRoom}
use Rattle.shore_restart.specs.Standing.{log_seen, stream_bytes_of}
use Rattle.shore_restart.specs.Turns.{IsUndoneSoFar, LacksRoom}
use Rattle.shore_restart.specs.Opened.{OpensIn}
use Rattle.shore_world.specs.OpenedVolumes as volumes
use Rattle.shore_world.specs.Opens.{log_kept}
use Rattle.shore_world.specs.Refusals.{cut_behind}
use Rattle.shore_world.specs.declared.world.World.{World}
use Rattle.shore_world.proofs.AreaLemmas.{shown_not_refused}
use Rattle.shore_world.proofs.OpenedInOrder.{in_order_at, with_none}
use Rattle.shore_world.proofs.LogsLeft.{quiet_of, settled_left}
use Rattle.shore_world.proofs.OpenLemmas.{no_device, outside_or_not, pair_still_after, still_after, told_of}
use Rattle.shore_world.proofs.OpenPaths.{counting, found, goes_on, have_fronts, log_read, replay_at, restart_outside, seen_is, shown, shown_at, stopped, texts, texts_at, volume_read, volume_replayed}
use Rattle.shore_world.proofs.OpenedLemmas.{opened_at, opens_learned, seen_left}
use Rattle.shore_world.proofs.RestartNames.{names_of}
use Rattle.shore_world.proofs.WorldLemmas.{anchored_same}
use Rattle.shore_world.proofs.ShownPages.{found_over, shown_by, texts_shown, texts_told, told_images}
use Rattle.shore_world.proofs.world.World.open.Goals as goal

pub restart-requires : goal.restart-requires
restart-requires g c = record { limits = subst LocksInLimits (sym (c.in-Ok-open_volume.ensures.geometry ∙ c.in-Ok.ensures.limits.1)) c.in-Ok.ensures.limits.0.1 }

pub invariant_of-result : goal.invariant_of-result
invariant_of-result g c =
    let e = c.in-Ok-restart.ensures in
    let log = c.restart.new.log in
    let long = length_padded (cut_of_log log) (records_of_log log) in
    let same = c.learn_room.ensures.same in
    record {
      numbers = omega (arith, e.numbers.0, long, same.first);
      durable_agrees = same.durable ∙ e.numbers.1;
      ring = omega (arith, e.ring, log.as_long, ap (λ (t : Control). (room_in (txns_in t)).stream_bytes) same.control);
      knows = c.learn_room.ensures.knows e.waiting (e.spelled c.in-Ok-open.ensures.none_waits.0);
      spelled = e.spelled c.in-Ok-open.ensures.none_waits.0;
      aside = c.learn_room.ensures.aside e.waiting (e.spelled c.in-Ok-open.ensures.none_waits.0);
    }

pub returns-in-Ok-restart-clause-fronts : goal.returns-in-Ok-restart-clause-fronts
returns-in-Ok-restart-clause-fronts g c of_log of_volume =
    let log = g.L.Disk.history c.args.log in
    let volume = g.V.Disk.history c.args.volume in
    let geometry = ap heaps.geometry_of c.learn_room.ensures.same.heap ∙ c.in-Ok-restart.ensures.volume.geometry ∙ c.in-Ok-open_volume.ensures.geometry ∙ c.in-Ok.ensures.limits.1 in
    let anchors = c.restart.ensures.log.anchors ∙ c.in-Ok-open.ensures.anchors in
    subst (λ (x : Geometry). HaveFronts x c.restart.new.log.anchors log volume) (sym geometry)
    (subst (λ (a : Anchors). HaveFronts c.in-Ok.fronts.geometry a log volume) (sym anchors) (c.in-Ok.ensures.found of_log of_volume).0)

pub returns-in-Ok-restart-clause-geometry : goal.returns-in-Ok-restart-clause-geometry
returns-in-Ok-restart-clause-geometry g c of_log of_volume geometry counting fronts =
    let only = c.in-Ok.ensures.only of_log of_volume geometry counting fronts in (
      ap heaps.geometry_of c.learn_room.ensures.same.heap ∙ c.in-Ok-restart.ensures.volume.geometry ∙ c.in-Ok-open_volume.ensures.geometry ∙ c.in-Ok.ensures.limits.1 ∙ only.0,
      c.restart.ensures.log.anchors ∙ c.in-Ok-open.ensures.anchors ∙ only.1,
    )

pub returns-in-Err-clause-refused : goal.returns-in-Err-clause-refused
returns-in-Err-clause-refused g c of_log of_volume =
    elim (c.in-Err.ensures.refused of_log of_volume) [
      | inl outside ↦ inl outside
      | inr bad ↦ inr (inl bad)
    ]

pub returns-in-Err-open-clause-refused : goal.returns-in-Err-open-clause-refused
returns-in-Err-open-clause-refused g c of_log of_volume =
    let later = subst IsTrue (sym c.read_fronts.ensures.honest.0) of_log in
    let same : seen (g.L.Disk.history c.read_fronts.new.log) ≡ seen (g.L.Disk.history c.args.log) = (c.in-Ok.ensures.log_behind of_log).stands.read in
    let anchor = c.in-Ok.fronts.anchors.anchor in
    elim c.in-Err-open.ensures.refused [
      | inl device ↦ inl (inl device)
      | inr (inl memory) ↦ inl (inr memory)
      | inr (inr bad) ↦ inr (inr (
        c.in-Ok.fronts.geometry,
        c.in-Ok.fronts.anchors,
        (c.in-Ok.ensures.found of_log of_volume).0,
        inl (
          bad.0,
          bad.1,
          subst (λ (i : List ℕ). IsBadAt anchor.tail anchor.tail_place i bad.0) same
              (c.in-Err-open.ensures.damaged later (omega (arith, c.in-Ok.ensures.long.0.0, c.read_fronts.ensures.size.0, least_log-least c.in-Ok.fronts.geometry.version)) (omega (arith, c.in-Ok.ensures.long.0.1, c.read_fronts.ensures.size.0))
              (c.in-Ok.ensures.counts of_log).limits bad.0 bad.1),
        ),
      ))
    ]

pub returns-in-Err-open_volume-clause-refused : goal.returns-in-Err-open_volume-clause-refused
returns-in-Err-open_volume-clause-refused g c of_log of_volume =
    let volume_later = subst IsTrue (sym c.read_fronts.ensures.honest.1) of_volume in
    elim (c.in-Err-open_volume.ensures.refused volume_later _ ((c.in-Ok.ensures.volume_behind of_volume).stands)) [
      | inl outside ↦ inl outside
      | inr bad ↦ inr (inr (
        c.in-Ok.fronts.geometry,
        c.in-Ok.fronts.anchors,
        (c.in-Ok.ensures.found of_log of_volume).0,
        inr (inl (bad.0, subst (λ (x : Geometry). RefusesArea x (seen (g.V.Disk.history c.args.volume)) c.in-Err-open_volume.fault) c.in-Ok.ensures.limits.1 bad.1)),
      ))
    ]

pub returns-in-Err-clause-along : goal.returns-in-Err-clause-along
returns-in-Err-clause-along g c of_log of_volume geometry anchor rs pages stood =
    inl (c.read_fronts.ensures.log_before of_log, c.read_fronts.ensures.volume_before of_volume)

pub returns-in-Err-clause-stands : goal.returns-in-Err-clause-stands
returns-in-Err-clause-stands g c of_log of_volume geometry anchor rs pages stood =
    let log = g.L.Disk.history c.args.log in
    let volume = g.V.Disk.history c.args.volume in
    let log_image = seen log in
    let volume_image = seen volume in
    c.in-Err.ensures.only of_log of_volume geometry (counting geometry (size log) (size volume) anchor rs pages log_image volume_image stood) (have_fronts geometry (size log) (size volume) anchor rs pages log_image volume_image stood log volume refl refl refl refl)

pub returns-in-Err-open-clause-along : goal.returns-in-Err-open-clause-along
returns-in-Err-open-clause-along g c of_log of_volume geometry anchor rs pages stood =
    let log = g.L.Disk.history c.args.log in
    let volume = g.V.Disk.history c.args.volume in
    let log_image = seen log in
    let volume_image = seen volume in
    let later = subst IsTrue (sym c.read_fronts.ensures.honest.0) of_log in
    let log_behind = g.L.Disk.history c.read_fronts.new.log in
    let volume_behind = g.V.Disk.history c.read_fronts.new.volume in
    let log_barred = c.in-Ok.ensures.log_behind of_log in
    let volume_barred = c.in-Ok.ensures.volume_behind of_volume in
    stopped geometry anchor log volume rs pages stood log_behind volume_behind (log_barred, volume_barred) g.L.Disk g.V.Disk c.in-Err-open.fault c.in-Err-open.log c.read_fronts.new.volume
    (log_read geometry (size log) (size volume) anchor rs pages log_image volume_image stood log_behind volume_behind log_barred.stands volume_barred.stands _ (c.in-Err-open.ensures.same later))
    (volume_read geometry (size log) (size volume) anchor rs pages log_image volume_image stood log_behind volume_behind log_barred.stands volume_barred.stands _ refl)

pub returns-in-Err-open-clause-stands : goal.returns-in-Err-open-clause-stands
returns-in-Err-open-clause-stands g c of_log of_volume geometry anchor rs pages stood =
    let log = g.L.Disk.history c.args.log in
    let volume = g.V.Disk.history c.args.volume in
    let log_image = seen log in
    let volume_image = seen volume in
    let later = subst IsTrue (sym c.read_fronts.ensures.honest.0) of_log in
    let same : seen (g.L.Disk.history c.read_fronts.new.log) ≡ log_image = (c.in-Ok.ensures.log_behind of_log).stands.read in
    let only = c.in-Ok.ensures.only of_log of_volume geometry (counting geometry (size log) (size volume) anchor rs pages log_image volume_image stood) (have_fronts geometry (size log) (size volume) anchor rs pages log_image volume_image stood log volume refl refl refl refl) in
    c.in-Err-open.ensures.undamaged later (omega (arith, c.in-Ok.ensures.long.0.1, c.read_fronts.ensures.size.0)) (c.in-Ok.ensures.counts of_log).limits (kept_behind anchor rs)
    (subst (λ (a : Anchors). GivesFrom a.anchor.tail a.anchor.tail_place (kept_behind anchor rs) (seen (g.L.Disk.history c.read_fronts.new.log))) (sym only.1)
    (subst (GivesFrom anchor.tail anchor.tail_place (kept_behind anchor rs)) (sym same) stood.log))

pub returns-in-Err-open_volume-clause-along : goal.returns-in-Err-open_volume-clause-along
returns-in-Err-open_volume-clause-along g c of_log of_volume geometry anchor rs pages stood =
    let log = g.L.Disk.history c.args.log in
    let volume = g.V.Disk.history c.args.volume in
    let log_image = seen log in
    let volume_image = seen volume in
    let log_behind = g.L.Disk.history c.read_fronts.new.log in
    let volume_behind = g.V.Disk.history c.read_fronts.new.volume in
    let log_later = subst IsTrue (sym c.read_fronts.ensures.honest.0) of_log in
    let later = subst IsTrue (sym c.read_fronts.ensures.honest.1) of_volume in
    let log_barred = c.in-Ok.ensures.log_behind of_log in
    let volume_barred = c.in-Ok.ensures.volume_behind of_volume in
    let log_held = log_barred.stands in
    let held = volume_barred.stands in
    let only = c.in-Ok.ensures.only of_log of_volume geometry (counting geometry (size log) (size volume) anchor rs pages log_image volume_image stood) (have_fronts geometry (size log) (size volume) anchor rs pages log_image volume_image stood log volume refl refl refl refl) in
    let at : c.in-Ok.fronts.of_pages ≡ geometry = c.in-Ok.ensures.limits.1 ∙ only.0 in
    stopped geometry anchor log volume rs pages stood log_behind volume_behind (log_barred, volume_barred) g.L.Disk g.V.Disk c.in-Err-open_volume.fault c.into_device.result c.in-Err-open_volume.volume
    (log_read geometry (size log) (size volume) anchor rs pages log_image volume_image stood log_behind volume_behind log_held held (g.L.Disk.history c.into_device.result) (ap g.L.Disk.history c.into_device.ensures ∙ c.in-Ok-open.ensures.same log_later))
    (volume_replayed geometry (size log) (size volume) anchor rs pages log_image volume_image stood log_behind volume_behind log_held held (g.V.Disk.history c.in-Err-open_volume.volume)
    (replay_at geometry (size log) (size volume) anchor rs pages log_image volume_image stood c.in-Ok.fronts.of_pages at volume_behind (g.V.Disk.history c.in-Err-open_volume.volume)
    (c.in-Err-open_volume.ensures.any_moment later volume_image (texts geometry (size log) (size volume) anchor rs pages log_image volume_image stood) held (shown_at geometry (size log) (size volume) anchor rs pages log_image volume_image stood c.in-Ok.fronts.of_pages at))))

pub returns-in-Err-open_volume-clause-stands : goal.returns-in-Err-open_volume-clause-stands
returns-in-Err-open_volume-clause-stands g c of_log of_volume geometry anchor rs pages stood =
    let log = g.L.Disk.history c.args.log in
    let volume = g.V.Disk.history c.args.volume in
    let log_image = seen log in
    let volume_image = seen volume in
    let later = subst IsTrue (sym c.read_fronts.ensures.honest.1) of_volume in
    let held = (c.in-Ok.ensures.volume_behind of_volume).stands in
    let only = c.in-Ok.ensures.only of_log of_volume geometry (counting geometry (size log) (size volume) anchor rs pages log_image volume_image stood) (have_fronts geometry (size log) (size volume) anchor rs pages log_image volume_image stood log volume refl refl refl refl) in
    let at : c.in-Ok.fronts.of_pages ≡ geometry = c.in-Ok.ensures.limits.1 ∙ only.0 in
    elim (c.in-Err-open_volume.ensures.refused later volume_image held) [
      | inl outside ↦ outside
      | inr bad ↦ absurd (shown_not_refused geometry volume_image (texts geometry (size log) (size volume) anchor rs pages log_image volume_image stood) c.in-Err-open_volume.fault (shown geometry (size log) (size volume) anchor rs pages log_image volume_image stood) bad.0
          (subst (λ (x : Geometry). RefusesArea x volume_image c.in-Err-open_volume.fault) at bad.1))
    ]

pub returns-in-Ok-restart-clause-along : goal.returns-in-Ok-restart-clause-along
returns-in-Ok-restart-clause-along g c of_log of_volume geometry anchor rs pages stood =
    let log = g.L.Disk.history c.args.log in
    let volume = g.V.Disk.history c.args.volume in
    let log_image = seen log in
    let volume_image = seen volume in
    let log_behind = g.L.Disk.history c.read_fronts.new.log in
    let volume_behind = g.V.Disk.history c.read_fronts.new.volume in
    let log_later = subst IsTrue (sym c.read_fronts.ensures.honest.0) of_log in
    let later = subst IsTrue (sym c.read_fronts.ensures.honest.1) of_volume in
    let log_barred = c.in-Ok.ensures.log_behind of_log in
    let volume_barred = c.in-Ok.ensures.volume_behind of_volume in
    let log_held = log_barred.stands in
    let held = volume_barred.stands in
    let only = c.in-Ok.ensures.only of_log of_volume geometry (counting geometry (size log) (size volume) anchor rs pages log_image volume_image stood) (have_fronts geometry (size log) (size volume) anchor rs pages log_image volume_image stood log volume refl refl refl refl) in
    let at : c.in-Ok.fronts.of_pages ≡ geometry = c.in-Ok.ensures.limits.1 ∙ only.0 in
    let dev = c.in-Ok-open.log in
    let heap = c.in-Ok-open_volume.heap in
    let waits = c.in-Ok-open.ensures.none_waits in
    let settled = c.in-Ok-open.ensures.settled log_later log_image log_held in
    let gives : GivesFrom c.in-Ok.fronts.anchors.anchor.tail c.in-Ok.fronts.anchors.anchor.tail_place (kept_behind anchor rs) log_image → records_of_log dev ≡ kept_behind anchor rs =
    λ its. c.in-Ok-open.ensures.only log_later (kept_behind anchor rs) (subst (GivesFrom c.in-Ok.fronts.anchors.anchor.tail c.in-Ok.fronts.anchors.anchor.tail_place (kept_behind anchor rs)) (sym log_held.read) its) in
    let shows = c.in-Ok-open_volume.ensures.shows later volume_image (texts geometry (size log) (size volume) anchor rs pages log_image volume_image stood) (λ p. (pages p).number) (told_images rs pages) held
    (shown_at geometry (size log) (size volume) anchor rs pages log_image volume_image stood c.in-Ok.fronts.of_pages at) (texts_at geometry (size log) (size volume) anchor rs pages log_image volume_image stood c.in-Ok.fronts.of_pages at) in
    let heap_at : heaps.geometry_of heap ≡ geometry = c.in-Ok-open_volume.ensures.geometry ∙ at in
    let is = found geometry (size log) (size volume) anchor rs pages log_image volume_image stood c.in-Ok.fronts.anchors only.1 dev heap settled waits gives heap_at c.in-Ok-open_volume.ensures.none shows in
    let named = ap (λ (a : Anchors). a.anchor.checkpoint) only.1 in
    let of_dev = log_read geometry (size log) (size volume) anchor rs pages log_image volume_image stood log_behind volume_behind log_held held (g.L.Disk.history dev.device) (c.in-Ok-open.ensures.same log_later) in
    let of_heap = volume_replayed geometry (size log) (size volume) anchor rs pages log_image volume_image stood log_behind volume_behind log_held held (heaps.history_of heap)
    (replay_at geometry (size log) (size volume) anchor rs pages log_image volume_image stood c.in-Ok.fronts.of_pages at volume_behind (heaps.history_of heap)
    (c.in-Ok-open_volume.ensures.any_moment later volume_image (texts geometry (size log) (size volume) anchor rs pages log_image volume_image stood) held (shown_at geometry (size log) (size volume) anchor rs pages log_image volume_image stood c.in-Ok.fronts.of_pages at))) in
    let went = c.in-Ok-restart.ensures.restarts (take 4096 log_image) (take 4096 volume_image) anchor (texts geometry (size log) (size volume) anchor rs pages log_image volume_image stood) (found_behind (anchored_by anchor) rs pages).store named is in
    let same = c.learn_room.ensures.same in
    let end : Moment = record { log = g.L.Disk.history c.restart.new.log.device; volume = heaps.history_of (heap_of c.learn_room.new.self); store = went.ready.store } in
    let path = subst (λ (h : DeviceHistory). PathBehind (heaps.geometry_of heap) (take 4096 log_image) (take 4096 volume_image) anchor
    (record { log = g.L.Disk.history dev.device; volume = heaps.history_of heap; store = (found_behind (anchored_by anchor) rs pages).store }) went.moments
    (record { log = g.L.Disk.history c.restart.new.log.device; volume = h; store = went.ready.store })) (sym (ap heaps.history_of same.heap)) went.path in
    let on = subst (λ (x : Geometry). PathBehind x (take 4096 log_image) (take 4096 volume_image) anchor
    (record { log = g.L.Disk.history dev.device; volume = heaps.history_of heap; store = (found_behind (anchored_by anchor) rs pages).store }) went.moments end) heap_at path in
    let way = goes_on geometry anchor log volume rs pages stood log_behind volume_behind (log_barred, volume_barred) (g.L.Disk.history dev.device) (heaps.history_of heap) of_dev of_heap went.moments end on in
    let opens = went.opens stood.opened.opened.lawful in
    let seen_before = seen_is geometry (size log) (size volume) anchor rs pages log_image volume_image stood c.in-Ok.fronts.anchors only.1 dev heap settled waits gives heap_at c.in-Ok-open_volume.ensures.none shows in
    let anchors = c.restart.ensures.log.anchors ∙ c.in-Ok-open.ensures.anchors ∙ only.1 in
    record {
      way = way;
      opened = opened_at geometry (size log - 4096) anchor rs pages stood.opened went.works went.ready went.behind _ (take 4096 log_image) (take 4096 volume_image) opens.3
          (ap (λ (a : Anchors). a.anchor) anchors) opens.4 (opens_learned geometry.version c.in-Ok-restart.core c.learn_room.new.self same _ _ _ _ _ _ _
          (subst (λ (x : Geometry). OpensIn x.version (cut_of_log c.restart.new.log) anchor.checkpoint c.in-Ok-restart.core (take 4096 volume_image) opens.4 rs (stream_bytes_of c.restart.new.log) went.ready) heap_at opens.5))
          (ap heaps.geometry_of same.heap ∙ c.in-Ok-restart.ensures.volume.geometry ∙ heap_at) opens.0 opens.1
          (anchored_same dev c.restart.new.log c.restart.ensures.log.anchors (take 4096 log_image) (c.in-Ok-open.ensures.anchored log_later log_image log_held (c.in-Ok.ensures.counts of_log))) refl
          (subst (λ (t : Control). HasDoubtsBack geometry.max_locks (log_kept anchor rs) t) (sym same.control)
          (subst (λ (l : List LogRecord). HasDoubtsBack geometry.max_locks l (control_of c.in-Ok-restart.core)) seen_before
          (subst (λ (x : Geometry). HasDoubtsBack x.max_locks (log_seen dev) (control_of c.in-Ok-restart.core)) heap_at c.in-Ok-restart.ensures.doubts)));
      undone = subst (IsUndoneSoFar (log_kept anchor rs)) (seen_left anchor (take 4096 log_image) c.restart.new.log went.ready.store opens.3)
          (subst (λ (l : List LogRecord). IsUndoneSoFar l (log_seen c.restart.new.log)) seen_before c.in-Ok-restart.ensures.undone);
    }

pub returns-in-Ok-restart-clause-redone : goal.returns-in-Ok-restart-clause-redone
returns-in-Ok-restart-clause-redone g c of_log of_volume geometry anchor rs pages stood =
    let log = g.L.Disk.history c.args.log in
    let volume = g.V.Disk.history c.args.volume in
    let log_image = seen log in
    let volume_image = seen volume in
    let log_later = subst IsTrue (sym c.read_fronts.ensures.honest.0) of_log in
    let later = subst IsTrue (sym c.read_fronts.ensures.honest.1) of_volume in
    let log_held = (c.in-Ok.ensures.log_behind of_log).stands in
    let held = (c.in-Ok.ensures.volume_behind of_volume).stands in
    let only = c.in-Ok.ensures.only of_log of_volume geometry (counting geometry (size log) (size volume) anchor rs pages log_image volume_image stood) (have_fronts geometry (size log) (size volume) anchor rs pages log_image volume_image stood log volume refl refl refl refl) in
    let at : c.in-Ok.fronts.of_pages ≡ geometry = c.in-Ok.ensures.limits.1 ∙ only.0 in
    let dev = c.in-Ok-open.log in
    let heap = c.in-Ok-open_volume.heap in
    let waits = c.in-Ok-open.ensures.none_waits in
    let settled = c.in-Ok-open.ensures.settled log_later log_image log_held in
    let gives : GivesFrom c.in-Ok.fronts.anchors.anchor.tail c.in-Ok.fronts.anchors.anchor.tail_place (kept_behind anchor rs) log_image → records_of_log dev ≡ kept_behind anchor rs =
    λ its. c.in-Ok-open.ensures.only log_later (kept_behind anchor rs) (subst (GivesFrom c.in-Ok.fronts.anchors.anchor.tail c.in-Ok.fronts.anchors.anchor.tail_place (kept_behind anchor rs)) (sym log_held.read) its) in
    let shows = c.in-Ok-open_volume.ensures.shows later volume_image (texts geometry (size log) (size volume) anchor rs pages log_image volume_image stood) (λ p. (pages p).number) (told_images rs pages) held
    (shown_at geometry (size log) (size volume) anchor rs pages log_image volume_image stood c.in-Ok.fronts.of_pages at) (texts_at geometry (size log) (size volume) anchor rs pages log_image volume_image stood c.in-Ok.fronts.of_pages at) in
    let heap_at : heaps.geometry_of heap ≡ geometry = c.in-Ok-open_volume.ensures.geometry ∙ at in
    let is = found geometry (size log) (size volume) anchor rs pages log_image volume_image stood c.in-Ok.fronts.anchors only.1 dev heap settled waits gives heap_at c.in-Ok-open_volume.ensures.none shows in
    let named = ap (λ (a : Anchors). a.anchor.checkpoint) only.1 in
    c.in-Ok-restart.ensures.missing (take 4096 log_image) (take 4096 volume_image) anchor (texts geometry (size log) (size volume) anchor rs pages log_image volume_image stood) (found_behind (anchored_by anchor) rs pages).store named is

pub returns-clause-along : goal.returns-clause-along
returns-clause-along g c of_log of_volume geometry anchor rs pages stood =
    let log = g.L.Disk.history c.args.log in
    let volume = g.V.Disk.history c.args.volume in
    let log_image = seen log in
    let volume_image = seen volume in
    let log_behind = g.L.Disk.history c.read_fronts.new.log in
    let volume_behind = g.V.Disk.history c.read_fronts.new.volume in
    let log_later = subst IsTrue (sym c.read_fronts.ensures.honest.0) of_log in
    let later = subst IsTrue (sym c.read_fronts.ensures.honest.1) of_volume in
    let log_barred = c.in-Ok.ensures.log_behind of_log in
    let volume_barred = c.in-Ok.ensures.volume_behind of_volume in
    let log_held = log_barred.stands in
    let held = volume_barred.stands in
    let only = c.in-Ok.ensures.only of_log of_volume geometry (counting geometry (size log) (size volume) anchor rs pages log_image volume_image stood) (have_fronts geometry (size log) (size volume) anchor rs pages log_image volume_image stood log volume refl refl refl refl) in
    let at : c.in-Ok.fronts.of_pages ≡ geometry = c.in-Ok.ensures.limits.1 ∙ only.0 in
    let dev = c.in-Ok-open.log in
    let heap = c.in-Ok-open_volume.heap in
    let waits = c.in-Ok-open.ensures.none_waits in
    let settled = c.in-Ok-open.ensures.settled log_later log_image log_held in
    let gives : GivesFrom c.in-Ok.fronts.anchors.anchor.tail c.in-Ok.fronts.anchors.anchor.tail_place (kept_behind anchor rs) log_image → records_of_log dev ≡ kept_behind anchor rs =
    λ its. c.in-Ok-open.ensures.only log_later (kept_behind anchor rs) (subst (GivesFrom c.in-Ok.fronts.anchors.anchor.tail c.in-Ok.fronts.anchors.anchor.tail_place (kept_behind anchor rs)) (sym log_held.read) its) in
    let shows = c.in-Ok-open_volume.ensures.shows later volume_image (texts geometry (size log) (size volume) anchor rs pages log_image volume_image stood) (λ p. (pages p).number) (told_images rs pages) held
    (shown_at geometry (size log) (size volume) anchor rs pages log_image volume_image stood c.in-Ok.fronts.of_pages at) (texts_at geometry (size log) (size volume) anchor rs pages log_image volume_image stood c.in-Ok.fronts.of_pages at) in
    let heap_at : heaps.geometry_of heap ≡ geometry = c.in-Ok-open_volume.ensures.geometry ∙ at in
    let is = found geometry (size log) (size volume) anchor rs pages log_image volume_image stood c.in-Ok.fronts.anchors only.1 dev heap settled waits gives heap_at c.in-Ok-open_volume.ensures.none shows in
    let named = ap (λ (a : Anchors). a.anchor.checkpoint) only.1 in
    let of_dev = log_read geometry (size log) (size volume) anchor rs pages log_image volume_image stood log_behind volume_behind log_held held (g.L.Disk.history dev.device) (c.in-Ok-open.ensures.same log_later) in
    let of_heap = volume_replayed geometry (size log) (size volume) anchor rs pages log_image volume_image stood log_behind volume_behind log_held held (heaps.history_of heap)
    (replay_at geometry (size log) (size volume) anchor rs pages log_image volume_image stood c.in-Ok.fronts.of_pages at volume_behind (heaps.history_of heap)
    (c.in-Ok-open_volume.ensures.any_moment later volume_image (texts geometry (size log) (size volume) anchor rs pages log_image volume_image stood) held (shown_at geometry (size log) (size volume) anchor rs pages log_image volume_image stood c.in-Ok.fronts.of_pages at))) in
    let went = c.in-Err-restart.ensures.restarts (take 4096 log_image) (take 4096 volume_image) anchor (texts geometry (size log) (size volume) anchor rs pages log_image volume_image stood) (found_behind (anchored_by anchor) rs pages).store named is in
    let end : Moment = record { log = g.L.Disk.history c.restart.new.log.device; volume = heaps.history_of c.in-Err-restart.heap; store = went.ready.store } in
    let on = subst (λ (x : Geometry). PathBehind x (take 4096 log_image) (take 4096 volume_image) anchor
    (record { log = g.L.Disk.history dev.device; volume = heaps.history_of heap; store = (found_behind (anchored_by anchor) rs pages).store }) went.moments end) heap_at went.path in
    let way = goes_on geometry anchor log volume rs pages stood log_behind volume_behind (log_barred, volume_barred) (g.L.Disk.history dev.device) (heaps.history_of heap) of_dev of_heap went.moments end on in
    inr (
      way,
      sym (ap g.L.Disk.history c.into_device-in-Err-restart-2.ensures),
      sym (ap g.V.Disk.history (c.into_device-volume.ensures ∙ ap pages_of.device_of c.into_device-in-Err-restart.ensures)),
    )

pub returns-clause-stands : goal.returns-clause-stands
returns-clause-stands g c of_log of_volume geometry anchor rs pages stood =
    let log = g.L.Disk.history c.args.log in
    let volume = g.V.Disk.history c.args.volume in
    let log_image = seen log in
    let volume_image = seen volume in
    let log_later = subst IsTrue (sym c.read_fronts.ensures.honest.0) of_log in
    let later = subst IsTrue (sym c.read_fronts.ensures.honest.1) of_volume in
    let log_held = (c.in-Ok.ensures.log_behind of_log).stands in
    let held = (c.in-Ok.ensures.volume_behind of_volume).stands in
    let only = c.in-Ok.ensures.only of_log of_volume geometry (counting geometry (size log) (size volume) anchor rs pages log_image volume_image stood) (have_fronts geometry (size log) (size volume) anchor rs pages log_image volume_image stood log volume refl refl refl refl) in
    let at : c.in-Ok.fronts.of_pages ≡ geometry = c.in-Ok.ensures.limits.1 ∙ only.0 in
    let dev = c.in-Ok-open.log in
    let heap = c.in-Ok-open_volume.heap in
    let waits = c.in-Ok-open.ensures.none_waits in
    let settled = c.in-Ok-open.ensures.settled log_later log_image log_held in
    let gives : GivesFrom c.in-Ok.fronts.anchors.anchor.tail c.in-Ok.fronts.anchors.anchor.tail_place (kept_behind anchor rs) log_image → records_of_log dev ≡ kept_behind anchor rs =
    λ its. c.in-Ok-open.ensures.only log_later (kept_behind anchor rs) (subst (GivesFrom c.in-Ok.fronts.anchors.anchor.tail c.in-Ok.fronts.anchors.anchor.tail_place (kept_behind anchor rs)) (sym log_held.read) its) in
    let shows = c.in-Ok-open_volume.ensures.shows later volume_image (texts geometry (size log) (size volume) anchor rs pages log_image volume_image stood) (λ p. (pages p).number) (told_images rs pages) held
    (shown_at geometry (size log) (size volume) anchor rs pages log_image volume_image stood c.in-Ok.fronts.of_pages at) (texts_at geometry (size log) (size volume) anchor rs pages log_image volume_image stood c.in-Ok.fronts.of_pages at) in
    let heap_at : heaps.geometry_of heap ≡ geometry = c.in-Ok-open_volume.ensures.geometry ∙ at in
    let is = found geometry (size log) (size volume) anchor rs pages log_image volume_image stood c.in-Ok.fronts.anchors only.1 dev heap settled waits gives heap_at c.in-Ok-open_volume.ensures.none shows in
    let named = ap (λ (a : Anchors). a.anchor.checkpoint) only.1 in
    let e = c.in-Err-restart.ensures in
    let f = c.fault_of-fault.ensures in
    restart_outside geometry (size log) (size volume) anchor rs pages log_image volume_image stood c.in-Ok.fronts.anchors only.1 dev heap settled waits gives heap_at c.in-Ok-open_volume.ensures.none shows
    (c.in-Ok-open.ensures.size ∙ c.read_fronts.ensures.size.0) c.in-Err-restart.error c.fault_of-fault.result e.meant
    (e.bad (take 4096 log_image) (take 4096 volume_image) anchor (texts geometry (size log) (size volume) anchor rs pages log_image volume_image stood) (found_behind (anchored_by anchor) rs pages).store named is) e.no_room
    (e.device (take 4096 log_image) (take 4096 volume_image) anchor (texts geometry (size log) (size volume) anchor rs pages log_image volume_image stood) (found_behind (anchored_by anchor) rs pages).store named is)
    (e.log_device (take 4096 log_image) (quiet_of c.in-Ok.fronts.anchors.anchor.tail c.in-Ok.fronts.anchors.anchor.tail_place dev (take 4096 log_image) settled waits.0)).named
    f.memory f.page f.force

pub returns-in-Ok-restart-clause-report : goal.returns-in-Ok-restart-clause-report
returns-in-Ok-restart-clause-report g c of_log kept gives =
    let log_later = subst IsTrue (sym c.read_fronts.ensures.honest.0) of_log in
    let same : seen (g.L.Disk.history c.read_fronts.new.log) ≡ seen (g.L.Disk.history c.args.log) = (c.in-Ok.ensures.log_behind of_log).stands.read in
    let anchors : c.restart.new.log.anchors ≡ c.in-Ok.fronts.anchors = c.restart.ensures.log.anchors ∙ c.in-Ok-open.ensures.anchors in
    let its = subst (λ (a : Anchors). GivesFrom a.anchor.tail a.anchor.tail_place kept (seen (g.L.Disk.history c.args.log))) anchors gives in
    let list : records_of_log c.in-Ok-open.log ≡ kept =
    c.in-Ok-open.ensures.only log_later kept (subst (GivesFrom c.in-Ok.fronts.anchors.anchor.tail c.in-Ok.fronts.anchors.anchor.tail_place kept) (sym same) its) in
    let cut : cut_of_log c.in-Ok-open.log ≡ c.in-Ok.fronts.anchors.anchor.tail - 1 =
    ap (λ n. n - 1) (sym c.in-Ok-open.log.anchored.0 ∙ ap (λ (a : Anchors). a.anchor.tail) c.in-Ok-open.ensures.anchors) in
    subst (λ (a : Anchors). IsReportOf (a.anchor.tail - 1) a.anchor.checkpoint kept c.in-Ok-restart.report) (sym anchors)
    (subst (λ n. IsReportOf n c.in-Ok.fronts.anchors.anchor.checkpoint kept c.in-Ok-restart.report) cut
    (subst (λ (l : List LogRecord). IsReportOf (cut_of_log c.in-Ok-open.log) c.in-Ok.fronts.anchors.anchor.checkpoint l c.in-Ok-restart.report) list c.in-Ok-restart.ensures.report))

pub returns-in-Ok-restart-clause-frames : goal.returns-in-Ok-restart-clause-frames
returns-in-Ok-restart-clause-frames g c = ap heaps.limit_of c.learn_room.ensures.same.heap ∙ c.in-Ok-restart.ensures.volume.frames ∙ c.in-Ok-open_volume.ensures.limit

pub returns-in-Ok-restart-clause-in_order : goal.returns-in-Ok-restart-clause-in_order
returns-in-Ok-restart-clause-in_order g c of_log of_volume =
    let log_later = subst IsTrue (sym c.read_fronts.ensures.honest.0) of_log in
    let later = subst IsTrue (sym c.read_fronts.ensures.honest.1) of_volume in
    let volume_image = seen (g.V.Disk.history c.args.volume) in
    let same : seen (g.L.Disk.history c.read_fronts.new.log) ≡ seen (g.L.Disk.history c.args.log) = (c.in-Ok.ensures.log_behind of_log).stands.read in
    let held = (c.in-Ok.ensures.volume_behind of_volume).stands in
    let shown = c.in-Ok-open_volume.ensures.in_order later volume_image held in
    let dev = c.in-Ok-open.log in
    let heap = c.in-Ok-open_volume.heap in
    let kept = records_of_log dev in
    let is_held = c.in-Ok-open_volume.ensures.held later volume_image shown.0 held shown.1 (length (log_seen dev)) in
    let e = c.in-Ok-restart.ensures in
    let same_core = c.learn_room.ensures.same in
    let anchors : c.restart.new.log.anchors ≡ c.in-Ok.fronts.anchors = c.restart.ensures.log.anchors ∙ c.in-Ok-open.ensures.anchors in
    in_order_at (heaps.geometry_of heap) (heaps.geometry_of (heap_of c.learn_room.new.self)) (sym (ap heaps.geometry_of same_core.heap ∙ e.volume.geometry)) c.in-Ok.fronts.anchors.anchor c.restart.new.log.anchors.anchor (ap (λ (a : Anchors). a.anchor) (sym anchors))
    (cut_of_log dev) (ap (λ n. n - 1) (sym dev.anchored.0 ∙ ap (λ (a : Anchors). a.anchor.tail) c.in-Ok-open.ensures.anchors)) (cut_of_log c.restart.new.log) (ap (λ (t : FrameAt). t.first - 1) c.restart.ensures.log.tail)
    (g.L.Disk.history c.args.log) (g.V.Disk.history c.args.volume) kept (records_of_log c.restart.new.log) (waiting_of c.learn_room.new.self) (same_core.waiting ∙ e.waiting)
    (subst (GivesFrom c.in-Ok.fronts.anchors.anchor.tail c.in-Ok.fronts.anchors.anchor.tail_place kept) same (c.in-Ok-open.ensures.found log_later)) e.anchored e.taken shown.0
    (subst (λ (x : Geometry). Shows x volume_image shown.0) (sym c.in-Ok-open_volume.ensures.geometry) shown.1) (e.any_fit (take 4096 volume_image) shown.0 shown.0 is_held)

pub returns-in-Ok-restart-clause-room : goal.returns-in-Ok-restart-clause-room
returns-in-Ok-restart-clause-room g c =
    let new = c.restart.new.log in
    subst (λ (rs : List LogRecord). LeavesRoom (cut_of_log new) rs (stream_bytes_of new)) (with_none (records_of_log new) (waiting_of c.learn_room.new.self) (c.learn_room.ensures.same.waiting ∙ c.in-Ok-restart.ensures.waiting)) c.in-Ok-restart.ensures.room

pub returns-clause-refused : goal.returns-clause-refused
returns-clause-refused g c of_log of_volume = elim (outside_or_not c.fault_of-fault.result) [
  | inl outside ↦ inl outside
  | inr isnt ↦
      let log = g.L.Disk.history c.args.log in
      let volume = g.V.Disk.history c.args.volume in
      let log_image = seen log in
      let volume_image = seen volume in
      let geometry = c.in-Ok.fronts.geometry in
      let fronts = c.in-Ok.fronts.anchors in
      let log_later = subst IsTrue (sym c.read_fronts.ensures.honest.0) of_log in
      let same : seen (g.L.Disk.history c.read_fronts.new.log) ≡ seen log = (c.in-Ok.ensures.log_behind of_log).stands.read in
      let later = subst IsTrue (sym c.read_fronts.ensures.honest.1) of_volume in
      let log_held = (c.in-Ok.ensures.log_behind of_log).stands in
      let held = (c.in-Ok.ensures.volume_behind of_volume).stands in
      let dev = c.in-Ok-open.log in
      let heap = c.in-Ok-open_volume.heap in
      let waits = c.in-Ok-open.ensures.none_waits in
      let settled = c.in-Ok-open.ensures.settled log_later log_image log_held in
      let e = c.in-Err-restart.ensures in
      let f = c.fault_of-fault.ensures in
      let kept = records_of_log dev in
      inr (inr (
        geometry,
        fronts,
        (c.in-Ok.ensures.found of_log of_volume).0,
        inr (inr (record {
          kept = kept;
          gives = subst (GivesFrom fronts.anchor.tail fronts.anchor.tail_place kept) same (c.in-Ok-open.ensures.found log_later);
          none = λ rs pages stood.
              let anchor = c.in-Ok.fronts.anchors.anchor in
              let only = c.in-Ok.ensures.only of_log of_volume geometry (counting geometry (size log) (size volume) anchor rs pages log_image volume_image stood) (have_fronts geometry (size log) (size volume) anchor rs pages log_image volume_image stood log volume refl refl refl refl) in
              let at : c.in-Ok.fronts.of_pages ≡ geometry = c.in-Ok.ensures.limits.1 ∙ only.0 in
              let gives : GivesFrom c.in-Ok.fronts.anchors.anchor.tail c.in-Ok.fronts.anchors.anchor.tail_place (kept_behind anchor rs) log_image → records_of_log dev ≡ kept_behind anchor rs =
              λ its. c.in-Ok-open.ensures.only log_later (kept_behind anchor rs) (subst (GivesFrom c.in-Ok.fronts.anchors.anchor.tail c.in-Ok.fronts.anchors.anchor.tail_place (kept_behind anchor rs)) (sym log_held.read) its) in
              let shows = c.in-Ok-open_volume.ensures.shows later volume_image (texts geometry (size log) (size volume) anchor rs pages log_image volume_image stood) (λ p. (pages p).number) (told_images rs pages) held
              (shown_at geometry (size log) (size volume) anchor rs pages log_image volume_image stood c.in-Ok.fronts.of_pages at) (texts_at geometry (size log) (size volume) anchor rs pages log_image volume_image stood c.in-Ok.fronts.of_pages at) in
              let heap_at : heaps.geometry_of heap ≡ geometry = c.in-Ok-open_volume.ensures.geometry ∙ at in
              let is = found geometry (size log) (size volume) anchor rs pages log_image volume_image stood c.in-Ok.fronts.anchors only.1 dev heap settled waits gives heap_at c.in-Ok-open_volume.ensures.none shows in
              let named = ap (λ (a : Anchors). a.anchor.checkpoint) only.1 in
              isnt (restart_outside geometry (size log) (size volume) anchor rs pages log_image volume_image stood c.in-Ok.fronts.anchors only.1 dev heap settled waits gives heap_at c.in-Ok-open_volume.ensures.none shows
              (c.in-Ok-open.ensures.size ∙ c.read_fronts.ensures.size.0) c.in-Err-restart.error c.fault_of-fault.result e.meant
              (e.bad (take 4096 log_image) (take 4096 volume_image) anchor (texts geometry (size log) (size volume) anchor rs pages log_image volume_image stood) (found_behind (anchored_by anchor) rs pages).store named is) e.no_room
              (e.device (take 4096 log_image) (take 4096 volume_image) anchor (texts geometry (size log) (size volume) anchor rs pages log_image volume_image stood) (found_behind (anchored_by anchor) rs pages).store named is)
              (e.log_device (take 4096 log_image) (quiet_of c.in-Ok.fronts.anchors.anchor.tail c.in-Ok.fronts.anchors.anchor.tail_place dev (take 4096 log_image) settled waits.0)).named
              f.memory f.page f.force);
          names =
              let at : c.in-Ok.fronts.of_pages ≡ geometry = c.in-Ok.ensures.limits.1 in
              let shown = c.in-Ok-open_volume.ensures.in_order later volume_image held in
              let is_held = c.in-Ok-open_volume.ensures.held later volume_image shown.0 held shown.1 (length (log_seen dev)) in
              let heap_at : heaps.geometry_of heap ≡ geometry = c.in-Ok-open_volume.ensures.geometry ∙ at in
              let cuts : cut_of_log dev ≡ cut_behind fronts.anchor = ap (λ n. n - 1) settled.holds.first in
              let quiet = e.log_device (take 4096 log_image) (quiet_of fronts.anchor.tail fronts.anchor.tail_place dev (take 4096 log_image) settled waits.0) in
              let anchors : c.restart.new.log.anchors ≡ fronts = c.restart.ensures.log.anchors ∙ c.in-Ok-open.ensures.anchors in
              names_of geometry fronts kept (size log - 4096) volume (g.L.Disk.history c.into_device-in-Err-restart-2.result) shown.0
              (subst (λ (x : Geometry). Shows x volume_image shown.0) at shown.1) settled.holds.some (heaps.geometry_of heap) heap_at (cut_of_log dev) cuts c.in-Err-restart.error
              (record {
                judged = e.meant;
                lacks = λ is. subst (λ (n : ℕ). LacksRoom (cut_of_log dev) kept (n - 4096)) (c.in-Ok-open.ensures.size ∙ c.read_fronts.ensures.size.0) (e.no_room is);
                within = e.bad_number;
                page = e.any_pages (take 4096 volume_image) shown.0 shown.0 is_held;
                bad = e.any_bad (take 4096 volume_image) shown.0 shown.0 is_held;
                every = λ rs holds n is.
                    let shows = c.in-Ok-open_volume.ensures.shows later volume_image (texts_shown geometry fronts.anchor kept rs holds.0 volume_image holds.1) (λ p. (holds.0 p).number) (told_images rs holds.0) held
                    (shown_by geometry fronts.anchor kept rs holds.0 volume_image holds.1 c.in-Ok.fronts.of_pages at) (texts_told geometry fronts.anchor kept rs holds.0 volume_image holds.1 c.in-Ok.fronts.of_pages at) in
                    let is_found = found_over geometry fronts.anchor kept rs holds.0 volume_image holds.1 (take 4096 log_image) dev heap settled waits.0 waits.1 refl heap_at
                    c.in-Ok-open_volume.ensures.none shows in
                    e.bad (take 4096 log_image) (take 4096 volume_image) fronts.anchor (texts_shown geometry fronts.anchor kept rs holds.0 volume_image holds.1)
                    (found_behind (anchored_by fronts.anchor) rs holds.0).store refl is_found n is;
              }) c.fault_of-fault.result isnt quiet.named
              f.memory (λ is. f.anchor is ∙ ap (λ (a : Anchors). Damaged DeviceLog (offset_of a.slot)) anchors)
              (λ n is. let told = f.record_of n is in (
                told.0,
                told.1,
                λ some most.
                    let left = settled_left (take 4096 log_image) dev c.restart.new.log c.in-Err-restart.error n is quiet waits.1 c.restart.ensures.log.tail in
                    subst (λ (h : DeviceHistory). IsFrameOf fronts.anchor.tail fronts.anchor.tail_place (seen h) n told.0) (sym (ap g.L.Disk.history c.into_device-in-Err-restart-2.ensures))
                    (told.2 fronts.anchor.tail fronts.anchor.tail_place (take 4096 log_image)
                    (subst (λ (a : Anchors). IsSettledFrom a.anchor.tail a.anchor.tail_place c.restart.new.log (take 4096 log_image)) anchors left.0) some
                    (left.1 (omega (arith, most, cuts)))),
              )) f.page f.force;
        })),
      ))
]

pub returns-in-Ok-restart-clause-cause : goal.returns-in-Ok-restart-clause-cause
returns-in-Ok-restart-clause-cause g c =
    let both = pair_still_after c.read_fronts.result c.in-Ok.fronts _ _ _ _ c.in-Ok.is c.read_fronts.ensures.cause in
    let log_same : g.L.Disk.faults c.in-Ok-open.log.device ≡ g.L.Disk.faults c.args.log =
    ap (λ r. g.L.Disk.faults (device_of r)) (sym c.in-Ok-open.is) ∙ still_after (fault_of c.open.result) c.in-Ok-open.log _ _ (ap fault_of c.in-Ok-open.is) c.open.ensures.cause ∙ both.0 in
    let heap_same : heaps.faults_of c.in-Ok-open_volume.heap ≡ g.V.Disk.faults c.args.volume =
    ap (λ r. g.V.Disk.faults (volumes.volume_of r)) (sym c.in-Ok-open_volume.is) ∙ still_after (volumes.fault_of_volume c.open_volume.result) c.in-Ok-open_volume.heap _ _ (ap volumes.fault_of_volume c.in-Ok-open_volume.is) c.open_volume.ensures.cause ∙ both.1 in
    let e = c.in-Ok-restart.ensures in
    let log : g.L.Disk.faults c.restart.new.log.device ≡ g.L.Disk.faults c.args.log = still_after (Ok tt) tt _ _ refl e.log_cause ∙ log_same in
    let volume : heaps.faults_of c.learn_room.new.self.heap ≡ g.V.Disk.faults c.args.volume = ap heaps.faults_of c.learn_room.ensures.same.heap ∙ still_after (Ok tt) tt _ _ refl e.volume_cause ∙ heap_same in
    record {
      log_no_lower = omega (arith, log);
      volume_no_lower = omega (arith, volume);
      reported = λ failed. let clash = failed in absurd cc;
      unreported = λ other. (log, volume);
    }

pub returns-clause-cause : goal.returns-clause-cause
returns-clause-cause g c =
    let f = c.fault_of-fault in
    let both = pair_still_after c.read_fronts.result c.in-Ok.fronts _ _ _ _ c.in-Ok.is c.read_fronts.ensures.cause in
    let log_same : g.L.Disk.faults c.in-Ok-open.log.device ≡ g.L.Disk.faults c.args.log =
    ap (λ r. g.L.Disk.faults (device_of r)) (sym c.in-Ok-open.is) ∙ still_after (fault_of c.open.result) c.in-Ok-open.log _ _ (ap fault_of c.in-Ok-open.is) c.open.ensures.cause ∙ both.0 in
    let heap_same : heaps.faults_of c.in-Ok-open_volume.heap ≡ g.V.Disk.faults c.args.volume =
    ap (λ r. g.V.Disk.faults (volumes.volume_of r)) (sym c.in-Ok-open_volume.is) ∙ still_after (volumes.fault_of_volume c.open_volume.result) c.in-Ok-open_volume.heap _ _ (ap volumes.fault_of_volume c.in-Ok-open_volume.is) c.open_volume.ensures.cause ∙ both.1 in
    let volume_now : g.V.Disk.faults c.into_device-volume.result ≡ heaps.faults_of c.in-Err-restart.heap = ap g.V.Disk.faults (c.into_device-volume.ensures ∙ ap pages_of.device_of c.into_device-in-Err-restart.ensures) in
    let log_now : g.L.Disk.faults c.into_device-in-Err-restart-2.result ≡ g.L.Disk.faults c.restart.new.log.device = ap g.L.Disk.faults c.into_device-in-Err-restart-2.ensures in
    let e = c.in-Err-restart.ensures in
    let told = told_of (Unit {0}) (World g.row.L.Denot g.row.V.Denot g.L.Disk g.V.Disk) f.result (g.L.Disk.faults c.in-Ok-open.log.device) (g.L.Disk.faults c.restart.new.log.device) (g.L.Disk.faults c.restart.new.log.device)
    (heaps.faults_of c.in-Ok-open_volume.heap) (heaps.faults_of c.in-Err-restart.heap) c.in-Err-restart.error e.volume_cause e.log_cause
    (λ h at. (f.ensures.page h at, refl)) (λ h at. (f.ensures.force h at, refl)) (λ page log. no_device f.result (g.L.Disk.faults c.restart.new.log.device) (f.ensures.others page log)) in
    subst (λ n. HasCauseOfPair {T = World g.row.L.Denot g.row.V.Denot g.L.Disk g.V.Disk} (Err f.result) (g.L.Disk.faults c.args.log) n (g.V.Disk.faults c.args.volume) (g.V.Disk.faults c.into_device-volume.result)) (sym log_now)
    (subst (λ n. HasCauseOfPair {T = World g.row.L.Denot g.row.V.Denot g.L.Disk g.V.Disk} (Err f.result) (g.L.Disk.faults c.args.log) (g.L.Disk.faults c.restart.new.log.device) (g.V.Disk.faults c.args.volume) n) (sym volume_now)
    (subst (λ n. HasCauseOfPair {T = World g.row.L.Denot g.row.V.Denot g.L.Disk g.V.Disk} (Err f.result) n (g.L.Disk.faults c.restart.new.log.device) (g.V.Disk.faults c.args.volume) (heaps.faults_of c.in-Err-restart.heap)) log_same
    (subst (λ n. HasCauseOfPair {T = World g.row.L.Denot g.row.V.Denot g.L.Disk g.V.Disk} (Err f.result) (g.L.Disk.faults c.in-Ok-open.log.device) (g.L.Disk.faults c.restart.new.log.device) n (heaps.faults_of c.in-Err-restart.heap)) heap_same told)))

pub returns-in-Err-clause-kept : goal.returns-in-Err-clause-kept
returns-in-Err-clause-kept g c of_log of_volume none = (c.read_fronts.ensures.log_before of_log, c.read_fronts.ensures.volume_before of_volume)

pub returns-in-Err-open-clause-kept : goal.returns-in-Err-open-clause-kept
returns-in-Err-open-clause-kept g c of_log of_volume none = absurd (none c.in-Ok.fronts.geometry c.in-Ok.fronts.anchors (c.in-Ok.ensures.found of_log of_volume).0)

pub returns-in-Err-open_volume-clause-kept : goal.returns-in-Err-open_volume-clause-kept
returns-in-Err-open_volume-clause-kept g c of_log of_volume none = absurd (none c.in-Ok.fronts.geometry c.in-Ok.fronts.anchors (c.in-Ok.ensures.found of_log of_volume).0)

pub returns-clause-kept : goal.returns-clause-kept
returns-clause-kept g c of_log of_volume none = absurd (none c.in-Ok.fronts.geometry c.in-Ok.fronts.anchors (c.in-Ok.ensures.found of_log of_volume).0)
