use Rattle.std.proofs.Common.{IsTrue, refl, sym, subst, ◌≡◌, ◌≢◌, ◌≤◌, length, slice_index, ◌∙◌, arith}
use Rattle.shore_disk.specs.Device.{LeavesOnly, seen}
use Rattle.shore_disk.proofs.Moments.{joined}
use Rattle.shore_gate.specs.declared.gates.TheConstants.{OPEN}
use Rattle.shore_gate.specs.Anchor.{slot_bytes}
use Rattle.shore_gate.specs.Moves.{HasOlderInSlot}
use Rattle.shore_gate.proofs.MoveLemmas.{closed_at, closing_at, unchanged_at, zeroed_at, zeroing_at}
use Rattle.shore_gate.proofs.moves.shut_slot.Goals as goal

pub returns-in_err-was_open-clause-any_moment : goal.returns-in_err-was_open-clause-any_moment
returns-in_err-was_open-clause-any_moment g c honest only sequence older =
    let old = g.D.Disk.history c.args.disk.now in
    let long : 2088 ≤ length (seen old) = omega (arith, g.met.D.Disk.keeps_length c.args.disk.now honest, c.requires.fits) in
    unchanged_at c.args.slot old _ old long only (c.has_open_gate.ensures.same honest) _ refl sequence older

pub returns-then-was_open-clause-shut : goal.returns-then-was_open-clause-shut
returns-then-was_open-clause-shut g c honest only =
    let old = g.D.Disk.history c.args.disk.now in
    let long : 2088 ≤ length (seen old) = omega (arith, g.met.D.Disk.keeps_length c.args.disk.now honest, c.requires.fits) in
    let still = subst IsTrue (sym c.has_open_gate.ensures.honest) honest in
    closed_at c.args.slot old _ _ long only (c.has_open_gate.ensures.same honest) c.offset-at.result c.offset-at.ensures c.close_gate.result (c.close_gate.ensures.closed still)

pub returns-then-was_open-clause-any_moment : goal.returns-then-was_open-clause-any_moment
returns-then-was_open-clause-any_moment g c honest only sequence older =
    let old = g.D.Disk.history c.args.disk.now in
    let long : 2088 ≤ length (seen old) = omega (arith, g.met.D.Disk.keeps_length c.args.disk.now honest, c.requires.fits) in
    let still = subst IsTrue (sym c.has_open_gate.ensures.honest) honest in
    let same = c.has_open_gate.ensures.same honest in
    let is_open = (c.in_ok-was_open.ensures.found honest).0 c.if-was_open.true in
    joined _ _ _ (HasOlderInSlot c.args.slot sequence (seen old))
    (unchanged_at c.args.slot old _ old long only same _ refl sequence older)
    (closing_at c.args.slot old _ _ long only same c.offset-at.result c.offset-at.ensures sequence is_open older (c.close_gate.ensures.any_moment still))

pub returns-clause-shut : goal.returns-clause-shut
returns-clause-shut g c honest only =
    let old = g.D.Disk.history c.args.disk.now in
    let long : 2088 ≤ length (seen old) = omega (arith, g.met.D.Disk.keeps_length c.args.disk.now honest, c.requires.fits) in
    let still = subst IsTrue (sym c.has_open_gate.ensures.honest) honest in
    let shut : slice_index (slot_bytes c.args.slot (seen old)) 0 ≢ OPEN = λ e. let is = (c.in_ok-was_open.ensures.found honest).1 e in absurd (cc (is, c.if-was_open.false)) in
    zeroed_at c.args.slot old _ _ long only (c.has_open_gate.ensures.same honest) c.offset-at.result c.offset-at.ensures c.write_synced.result _ refl shut (c.write_synced.ensures.stable still)

pub returns-clause-any_moment : goal.returns-clause-any_moment
returns-clause-any_moment g c honest only sequence older =
    let old = g.D.Disk.history c.args.disk.now in
    let long : 2088 ≤ length (seen old) = omega (arith, g.met.D.Disk.keeps_length c.args.disk.now honest, c.requires.fits) in
    let still = subst IsTrue (sym c.has_open_gate.ensures.honest) honest in
    let same = c.has_open_gate.ensures.same honest in
    let shut : slice_index (slot_bytes c.args.slot (seen old)) 0 ≢ OPEN = λ e. let is = (c.in_ok-was_open.ensures.found honest).1 e in absurd (cc (is, c.if-was_open.false)) in
    joined _ _ _ (HasOlderInSlot c.args.slot sequence (seen old))
    (unchanged_at c.args.slot old _ old long only same _ refl sequence older)
    (zeroing_at c.args.slot old _ _ long only same c.offset-at.result c.offset-at.ensures sequence shut (c.write_synced.ensures.any_moment still))
