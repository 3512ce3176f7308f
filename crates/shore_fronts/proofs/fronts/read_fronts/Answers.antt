use Rattle.std.proofs.Common.{◌≡◌, ℕ, List, IsTrue, inl, refl, subst, sym, ap, ◌∙◌, arith}
use Rattle.std.proofs.lemmas.Result.{err_from_is_err_and}
use Rattle.shore_types.specs.Versions.{least_log-least}
use Rattle.shore_disk.specs.Device.{DeviceHistory, noted, seen, synced}
use Rattle.shore_gate.specs.Anchor.{Counts}
use Rattle.shore_fronts.specs.Pairs.{ArePaired}
use Rattle.shore_fronts.proofs.BarrierLemmas.{behind, not_called, once_synced}
use Rattle.shore_fronts.proofs.fronts.read_fronts.Goals as goal

pub read-requires : goal.read-requires
read-requires g c = omega (arith, c.in_ok-geometry.ensures.long.0.0, least_log-least c.in_ok-geometry.geometry.version, c.read_labels.ensures.size.0)

pub returns-in_err-anchors-clause-only : goal.returns-in_err-anchors-clause-only
returns-in_err-anchors-clause-only g c of_log of_volume geometry counting have =
    let p = err_from_is_err_and c.from_residual-in_err-anchors.result c.from_residual-in_err-anchors.ensures.1 in
    let on = subst IsTrue (sym c.sync.ensures.honest) of_log in
    let later = subst IsTrue (sym c.read_labels.ensures.honest.0) on in
    let same : seen (g.L.Disk.history c.read_labels.new.log) ≡ seen (g.L.Disk.history c.args.log.now) = ap (λ (h : DeviceHistory). seen h) (c.read_labels.ensures.log_same on ∙ c.in_ok-sync.ensures.synced of_log) in
    rw (p.1, p.2) (inl (c.in_err-anchors.ensures.only counting.slot counting.anchor later (subst (λ (i : List ℕ). Counts i counting.slot counting.anchor) (sym same) have.1)))

pub returns-clause-only : goal.returns-clause-only
returns-clause-only g c of_log of_volume geometry counting have =
    let log_on = subst IsTrue (sym c.sync.ensures.honest) of_log in
    let volume_on = subst IsTrue (sym c.sync-2.ensures.honest) of_volume in
    let later = subst IsTrue (sym c.read_labels.ensures.honest.0) log_on in
    let log_moved = c.in_ok-sync.ensures.synced of_log in
    let volume_moved = c.in_ok-sync-2.ensures.synced of_volume in
    let same : seen (g.L.Disk.history c.read_labels.new.log) ≡ seen (g.L.Disk.history c.args.log.now) = ap (λ (h : DeviceHistory). seen h) (c.read_labels.ensures.log_same log_on ∙ log_moved) in
    let one = subst (λ (h : DeviceHistory). ArePaired geometry h (g.V.Disk.history c.args.volume.now)) (sym log_moved) have.0 in
    let both = subst (λ (h : DeviceHistory). ArePaired geometry (g.L.Disk.history c.sync.new.self) h) (sym volume_moved) one in (
      c.in_ok-geometry.ensures.only log_on volume_on geometry both,
      c.in_ok-anchors.ensures.only counting.slot counting.anchor later (subst (λ (i : List ℕ). Counts i counting.slot counting.anchor) (sym same) have.1),
    )

pub returns-clause-found : goal.returns-clause-found
returns-clause-found g c of_log of_volume =
    let log_on = subst IsTrue (sym c.sync.ensures.honest) of_log in
    let volume_on = subst IsTrue (sym c.sync-2.ensures.honest) of_volume in
    let later = subst IsTrue (sym c.read_labels.ensures.honest.0) log_on in
    let log_moved = c.in_ok-sync.ensures.synced of_log in
    let volume_moved = c.in_ok-sync-2.ensures.synced of_volume in
    let same : seen (g.L.Disk.history c.read_labels.new.log) ≡ seen (g.L.Disk.history c.args.log.now) = ap (λ (h : DeviceHistory). seen h) (c.read_labels.ensures.log_same log_on ∙ log_moved) in
    let paired = subst (λ (h : DeviceHistory). ArePaired c.in_ok-geometry.geometry h (g.V.Disk.history c.sync-2.new.self)) log_moved (c.in_ok-geometry.ensures.found log_on volume_on) in
    let both = subst (λ (h : DeviceHistory). ArePaired c.in_ok-geometry.geometry (noted (g.L.Disk.history c.args.log.now) synced) h) volume_moved paired in
    let counts = c.in_ok-anchors.ensures.found later in
    ((both, subst (λ (i : List ℕ). Counts i c.in_ok-anchors.anchors.slot c.in_ok-anchors.anchors.anchor) same counts), c.in_ok-geometry.ensures.limits.1)

pub returns-clause-counts : goal.returns-clause-counts
returns-clause-counts g c of_log =
    let on = subst IsTrue (sym c.sync.ensures.honest) of_log in
    let later = subst IsTrue (sym c.read_labels.ensures.honest.0) on in
    let same : seen (g.L.Disk.history c.read_labels.new.log) ≡ seen (g.L.Disk.history c.args.log.now) = ap (λ (h : DeviceHistory). seen h) (c.read_labels.ensures.log_same on ∙ c.in_ok-sync.ensures.synced of_log) in
    subst (λ (i : List ℕ). Counts i c.in_ok-anchors.anchors.slot c.in_ok-anchors.anchors.anchor) same (c.in_ok-anchors.ensures.found later)

-- ---- the barrier

pub returns-in_err-sync-clause-log_before : goal.returns-in_err-sync-clause-log_before
returns-in_err-sync-clause-log_before g c of_log = not_called _ _ (c.in_err-sync.ensures.synced of_log)

pub returns-in_err-sync-clause-volume_before : goal.returns-in_err-sync-clause-volume_before
returns-in_err-sync-clause-volume_before g c of_volume = not_called _ _ refl

pub returns-in_err-sync-2-clause-log_before : goal.returns-in_err-sync-2-clause-log_before
returns-in_err-sync-2-clause-log_before g c of_log = once_synced _ _ (c.in_ok-sync.ensures.synced of_log)

pub returns-in_err-sync-2-clause-volume_before : goal.returns-in_err-sync-2-clause-volume_before
returns-in_err-sync-2-clause-volume_before g c of_volume = not_called _ _ (c.in_err-sync-2.ensures.synced of_volume)

pub returns-in_err-geometry-clause-log_before : goal.returns-in_err-geometry-clause-log_before
returns-in_err-geometry-clause-log_before g c of_log = once_synced _ _ (c.read_labels.ensures.log_same (subst IsTrue (sym c.sync.ensures.honest) of_log) ∙ c.in_ok-sync.ensures.synced of_log)

pub returns-in_err-geometry-clause-volume_before : goal.returns-in_err-geometry-clause-volume_before
returns-in_err-geometry-clause-volume_before g c of_volume = once_synced _ _ (c.read_labels.ensures.volume_same (subst IsTrue (sym c.sync-2.ensures.honest) of_volume) ∙ c.in_ok-sync-2.ensures.synced of_volume)

pub returns-in_err-anchors-clause-log_before : goal.returns-in_err-anchors-clause-log_before
returns-in_err-anchors-clause-log_before g c of_log = once_synced _ _ (c.read.ensures.same (subst IsTrue (sym c.read_labels.ensures.honest.0) (subst IsTrue (sym c.sync.ensures.honest) of_log)) ∙ c.read_labels.ensures.log_same (subst IsTrue (sym c.sync.ensures.honest) of_log) ∙ c.in_ok-sync.ensures.synced of_log)

pub returns-in_err-anchors-clause-volume_before : goal.returns-in_err-anchors-clause-volume_before
returns-in_err-anchors-clause-volume_before g c of_volume = once_synced _ _ (c.read_labels.ensures.volume_same (subst IsTrue (sym c.sync-2.ensures.honest) of_volume) ∙ c.in_ok-sync-2.ensures.synced of_volume)

pub returns-clause-log_before : goal.returns-clause-log_before
returns-clause-log_before g c of_log = once_synced _ _ (c.read.ensures.same (subst IsTrue (sym c.read_labels.ensures.honest.0) (subst IsTrue (sym c.sync.ensures.honest) of_log)) ∙ c.read_labels.ensures.log_same (subst IsTrue (sym c.sync.ensures.honest) of_log) ∙ c.in_ok-sync.ensures.synced of_log)

pub returns-clause-volume_before : goal.returns-clause-volume_before
returns-clause-volume_before g c of_volume = once_synced _ _ (c.read_labels.ensures.volume_same (subst IsTrue (sym c.sync-2.ensures.honest) of_volume) ∙ c.in_ok-sync-2.ensures.synced of_volume)

pub returns-clause-log_behind : goal.returns-clause-log_behind
returns-clause-log_behind g c of_log = behind _ _ (c.read.ensures.same (subst IsTrue (sym c.read_labels.ensures.honest.0) (subst IsTrue (sym c.sync.ensures.honest) of_log)) ∙ c.read_labels.ensures.log_same (subst IsTrue (sym c.sync.ensures.honest) of_log) ∙ c.in_ok-sync.ensures.synced of_log)

pub returns-clause-volume_behind : goal.returns-clause-volume_behind
returns-clause-volume_behind g c of_volume = behind _ _ (c.read_labels.ensures.volume_same (subst IsTrue (sym c.sync-2.ensures.honest) of_volume) ∙ c.in_ok-sync-2.ensures.synced of_volume)
