use Rattle.std.proofs.Common.{◌≡◌, ◌≤◌, ◌+◌, ◌∷◌, [], ℕ, List, IsTrue, length, drop, sym, ◌∙◌, ap, subst, arith}
use Rattle.shore_types.specs.Versions.{pages_begin-is}
use Rattle.shore_types.specs.declared.faults.Device.TheVariants.{Volume}
use Rattle.shore_disk.specs.Device.{DeviceHistory, Stands, overwritten, seen}
use Rattle.shore_dwrite.proofs.Moves.{sync_more, synced_stands}
use Rattle.shore_gate.specs.declared.gates.TheConstants.{CLOSED}
use Rattle.shore_gate.specs.declared.labels.Label.{Label}
use Rattle.shore_gate.specs.Label.{label_bytes}
use Rattle.shore_gate.proofs.WidthLemmas.{length-label_bytes}
use Rattle.shore_format.specs.Fronts.{IsShut}
use Rattle.shore_fronts.specs.Volumes.{volume_bytes, volume_label}
use Rattle.shore_format.proofs.FrontLemmas.{label_leaves}
use Rattle.shore_format.proofs.VolumeLemmas.{closed_is, empty_behind, gated_moments, paged_moments}
use Rattle.shore_format.proofs.volume.write_volume.Goals as goal

pub write_label-requires-clause-fits : goal.write_label-requires-clause-fits
write_label-requires-clause-fits g c = omega (arith, c.requires.size, pages_begin-is c.args.geometry.now.version)

pub write_at-requires : goal.write_at-requires
write_at-requires g c = omega (arith, c.requires.size, c.write_label.ensures.size, pages_begin-is c.args.geometry.now.version)

pub returns-in_err-write_label-clause-any_moment : goal.returns-in_err-write_label-clause-any_moment
returns-in_err-write_label-clause-any_moment g c honest rest stands =
    let few : length c.args.label.now.stores ≤ 64 = subst (λ (l : Label). length l.stores ≤ 64) (sym c.requires.label) c.requires.limits.0.count in
    label_leaves _ c.write_label.result _ _ rest (length-label_bytes Volume c.args.label.now few) stands (c.write_label.ensures.written honest)

pub returns-in_err-write_at-clause-any_moment : goal.returns-in_err-write_at-clause-any_moment
returns-in_err-write_at-clause-any_moment g c honest rest stands =
    let few : length c.args.label.now.stores ≤ 64 = subst (λ (l : Label). length l.stores ≤ 64) (sym c.requires.label) c.requires.limits.0.count in
    let two = subst IsTrue (sym c.write_label.ensures.honest) honest in
    gated_moments _ _ rest c.write_label.result c.write_at.result _ _ _ (length-label_bytes Volume c.args.label.now few) stands (c.write_label.ensures.written honest) (c.write_at.ensures.written two)

pub returns-in_err-write_pages-clause-any_moment : goal.returns-in_err-write_pages-clause-any_moment
returns-in_err-write_pages-clause-any_moment g c honest rest stands =
    let few : length c.args.label.now.stores ≤ 64 = subst (λ (l : Label). length l.stores ≤ 64) (sym c.requires.label) c.requires.limits.0.count in
    let two = subst IsTrue (sym c.write_label.ensures.honest) honest in
    let three = subst IsTrue (sym c.write_at.ensures.honest) two in
    paged_moments _ _ rest c.write_label.result c.write_at.result _ _ _ _ (length-label_bytes Volume c.args.label.now few) stands (c.write_label.ensures.written honest) (c.write_at.ensures.written two) (c.write_pages.ensures.any_moment three)

pub returns-in_err-sync-clause-any_moment : goal.returns-in_err-sync-clause-any_moment
returns-in_err-sync-clause-any_moment g c honest rest stands =
    let few : length c.args.label.now.stores ≤ 64 = subst (λ (l : Label). length l.stores ≤ 64) (sym c.requires.label) c.requires.limits.0.count in
    let two = subst IsTrue (sym c.write_label.ensures.honest) honest in
    let three = subst IsTrue (sym c.write_at.ensures.honest) two in
    let four = subst IsTrue (sym c.write_pages.ensures.honest) three in
    sync_more _ _ _ IsShut c.sync.result (paged_moments _ _ rest c.write_label.result c.write_at.result _ _ _ _ (length-label_bytes Volume c.args.label.now few) stands (c.write_label.ensures.written honest) (c.write_at.ensures.written two) (c.write_pages.ensures.any_moment three)) (c.sync.ensures.synced four)

pub returns-clause-any_moment : goal.returns-clause-any_moment
returns-clause-any_moment g c honest rest stands =
    let few : length c.args.label.now.stores ≤ 64 = subst (λ (l : Label). length l.stores ≤ 64) (sym c.requires.label) c.requires.limits.0.count in
    let two = subst IsTrue (sym c.write_label.ensures.honest) honest in
    let three = subst IsTrue (sym c.write_at.ensures.honest) two in
    let four = subst IsTrue (sym c.write_pages.ensures.honest) three in
    sync_more _ _ _ IsShut c.sync.result (paged_moments _ _ rest c.write_label.result c.write_at.result _ _ _ _ (length-label_bytes Volume c.args.label.now few) stands (c.write_label.ensures.written honest) (c.write_at.ensures.written two) (c.write_pages.ensures.any_moment three)) (c.sync.ensures.synced four)

pub returns-clause-stands : goal.returns-clause-stands
returns-clause-stands g c honest rest stands =
    let geometry = c.args.geometry.now in
    let label = label_bytes Volume (volume_label geometry) in
    let two = subst IsTrue (sym c.write_label.ensures.honest) honest in
    let three = subst IsTrue (sym c.write_at.ensures.honest) two in
    let four = subst IsTrue (sym c.write_pages.ensures.honest) three in
    let long : 1 + length rest ≡ volume_bytes geometry = omega (arith, ap (λ (l : List ℕ). length l) stands.read, g.met.D.Disk.keeps_length c.args.volume.now honest, c.requires.size) in
    let labelled : seen (g.D.Disk.history c.write_label.new.disk) ≡ overwritten (CLOSED ∷ rest) 1 label =
    ap (λ (h : DeviceHistory). seen h) (c.in_ok-write_label.ensures.written honest) ∙ ap (λ (i : List ℕ). overwritten i 1 (label_bytes Volume c.args.label.now)) stands.read ∙ ap (λ (l : Label). overwritten (CLOSED ∷ rest) 1 (label_bytes Volume l)) c.requires.label in
    let gated : seen (g.D.Disk.history c.write_at.new.self) ≡ overwritten (overwritten (CLOSED ∷ rest) 1 label) 4096 (CLOSED ∷ []) = ap (λ (h : DeviceHistory). seen h) (c.in_ok-write_at.ensures.written two) ∙ ap (λ (i : List ℕ). overwritten i 4096 (CLOSED ∷ [])) labelled in
    let pages = c.in_ok-write_pages.ensures.pages three in
    let image = seen (g.D.Disk.history c.write_pages.new.volume) in (
      drop 1 image,
      subst (Stands (g.D.Disk.history c.sync.new.self)) (closed_is geometry rest _ image c.requires.limits long gated pages) (synced_stands _ _ (c.in_ok-sync.ensures.synced four)),
      empty_behind geometry rest _ image c.requires.limits long gated pages,
    )
