use Rattle.std.proofs.Common.{List, ℕ, IsTrue, inr, sym, ap, subst, ◌∙◌}
use Rattle.shore_disk.specs.Device.{DeviceHistory, seen}
use Rattle.shore_gate.specs.declared.anchors.Slot.TheVariants.{A, B}
use Rattle.shore_gate.specs.Anchor.{slot_bytes, anchors_verdict}
use Rattle.shore_gate.proofs.CauseLemmas.{no_failure}
use Rattle.shore_gate.proofs.ChoiceLemmas.{only_of, verdict_device}
use Rattle.shore_gate.proofs.anchors.Anchors.read.Goals as goal

pub returns-clause-judged : goal.returns-clause-judged
returns-clause-judged g c honest =
    let again = subst IsTrue (sym c.in_ok-a.ensures.honest) honest in
    let b = c.in_ok-b.ensures.bytes again ∙ ap (λ (h : DeviceHistory). slot_bytes B (seen h)) (c.in_ok-a.ensures.same honest) in
    inr (c.decode_both.ensures.judged ∙ ap (λ (s : List ℕ). anchors_verdict s c.in_ok-b.b) (c.in_ok-a.ensures.bytes honest)
    ∙ ap (anchors_verdict (slot_bytes A (seen (g.D.Disk.history c.args.disk.now)))) b)

pub returns-clause-found : goal.returns-clause-found
returns-clause-found g c honest =
    let again = subst IsTrue (sym c.in_ok-a.ensures.honest) honest in
    let b = c.in_ok-b.ensures.bytes again ∙ ap (λ (h : DeviceHistory). slot_bytes B (seen h)) (c.in_ok-a.ensures.same honest) in
    c.decode_both.ensures.found (seen (g.D.Disk.history c.args.disk.now)) (c.in_ok-a.ensures.bytes honest) b

pub returns-clause-only : goal.returns-clause-only
returns-clause-only g c slot anchor honest counts =
    let again = subst IsTrue (sym c.in_ok-a.ensures.honest) honest in
    let b = c.in_ok-b.ensures.bytes again ∙ ap (λ (h : DeviceHistory). slot_bytes B (seen h)) (c.in_ok-a.ensures.same honest) in
    let image = seen (g.D.Disk.history c.args.disk.now) in
    only_of image c.decode_both.result slot anchor (c.decode_both.ensures.judged ∙ ap (λ (s : List ℕ). anchors_verdict s c.in_ok-b.b) (c.in_ok-a.ensures.bytes honest) ∙ ap (anchors_verdict (slot_bytes A image)) b) counts

pub returns-clause-cause : goal.returns-clause-cause
returns-clause-cause g c =
    no_failure c.decode_both.result _ _ (λ e. verdict_device c.in_ok-a.a c.in_ok-b.b (sym c.decode_both.ensures.judged ∙ e)) (c.in_ok-b.ensures.cause ∙ c.in_ok-a.ensures.cause)
