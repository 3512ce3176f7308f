use Rattle.std.proofs.Common.{◌≡◌, ℕ, List, ◌∷◌, ◌++◌, IsTrue, length, drop, subst, sym, ap, ◌∙◌, arith}
use Rattle.shore_disk.specs.Device.{DeviceHistory, Stands, overwritten, seen}
use Rattle.shore_disk.proofs.Moments.{started}
use Rattle.shore_gate.proofs.WidthLemmas.{length-label_bytes}
use Rattle.shore_types.specs.declared.faults.Device.TheVariants.{Log}
use Rattle.shore_gate.specs.Label.{label_bytes}
use Rattle.shore_gate.specs.declared.gates.TheConstants.{CLOSED}
use Rattle.shore_format.specs.Fronts.{IsShut, behind_label}
use Rattle.shore_format.proofs.FrontLemmas.{shut, label_leaves, rest_leaves, written_front}
use Rattle.shore_format.proofs.log.write_log.Goals as goal

pub returns-in_err-rest-clause-any_moment : goal.returns-in_err-rest-clause-any_moment
returns-in_err-rest-clause-any_moment g c honest rest stands = started _ IsShut (λ i left. shut i rest (stands.only i left))

pub returns-in_err-write_label-clause-any_moment : goal.returns-in_err-write_label-clause-any_moment
returns-in_err-write_label-clause-any_moment g c honest rest stands =
    label_leaves _ c.write_label.result _ _ rest (length-label_bytes Log c.args.label.now c.requires.stores) stands (c.write_label.ensures.written honest)

pub returns-in_err-write_synced-clause-any_moment : goal.returns-in_err-write_synced-clause-any_moment
returns-in_err-write_synced-clause-any_moment g c honest rest stands =
    rest_leaves _ _ _ _ (label_leaves _ c.write_label.result _ _ rest (length-label_bytes Log c.args.label.now c.requires.stores) stands (c.write_label.ensures.written honest))
    (c.write_synced.ensures.any_moment (subst IsTrue (sym c.write_label.ensures.honest) honest))

pub returns-clause-any_moment : goal.returns-clause-any_moment
returns-clause-any_moment g c honest rest stands =
    rest_leaves _ _ _ _ (label_leaves _ c.write_label.result _ _ rest (length-label_bytes Log c.args.label.now c.requires.stores) stands (c.write_label.ensures.written honest))
    (c.write_synced.ensures.any_moment (subst IsTrue (sym c.write_label.ensures.honest) honest))

pub returns-clause-stands : goal.returns-clause-stands
returns-clause-stands g c honest rest stands =
    let label = label_bytes Log c.args.label.now in
    let behind = c.deref.result.now in
    let seen_now = ap (λ (h : DeviceHistory). seen h) (c.in_ok-write_label.ensures.written honest) ∙ ap (λ (i : List ℕ). overwritten i 1 label) stands.read in
    let is : behind ≡ behind_label = c.deref.ensures.value ∙ c.in_ok-rest.ensures.text in
    subst (Stands (g.D.Disk.history c.write_synced.new.disk))
    (ap (λ (i : List ℕ). overwritten i 512 behind) seen_now
    ∙ written_front rest label behind (length-label_bytes Log c.args.label.now c.requires.stores) (omega (arith, c.in_ok-rest.ensures.len, ap length c.deref.ensures.value))
    ∙ ap (λ (b : List ℕ). CLOSED ∷ (label ++ (b ++ drop 4096 rest))) is)
    (c.in_ok-write_synced.ensures.stable (subst IsTrue (sym c.write_label.ensures.honest) honest))
