use Rattle.std.proofs.Common.{IsTrue, List, refl, sym, subst, ◌≡◌, ◌<◌, ◌≤◌, length, slice_index, ◌∙◌, arith}
use Rattle.shore_disk.specs.Device.{LeavesOnly, seen}
use Rattle.shore_disk.proofs.Moments.{joined}
use Rattle.shore_gate.specs.Anchor.{IsAnchor, offset_of, other_of}
use Rattle.shore_gate.specs.Moves.{IsAmidMove}
use Rattle.shore_gate.proofs.MoveLemmas.{counts_now, has_moved, older_there, on_ok, open_moment, shut_moment, text_stands, write_moment}
use Rattle.shore_gate.proofs.anchors.Anchors.move_to.Goals as goal

pub returns-in_err-shut_slot-clause-any_moment : goal.returns-in_err-shut_slot-clause-any_moment
returns-in_err-shut_slot-clause-any_moment g c honest only counts =
    let from = c.args.self.now in
    let old = g.D.Disk.history c.args.disk.now in
    let long : 2088 ≤ length (seen old) = omega (arith, g.met.D.Disk.keeps_length c.args.disk.now honest, c.requires.fits) in
    let slot = c.other-slot.result in
    shut_moment from c.args.anchor old long slot c.other-slot.ensures (offset_of slot) refl counts _
    (c.shut_slot.ensures.any_moment honest only from.anchor.sequence (older_there from c.args.anchor old long slot c.other-slot.ensures (offset_of slot) refl counts))

pub returns-in_err-write_synced-clause-any_moment : goal.returns-in_err-write_synced-clause-any_moment
returns-in_err-write_synced-clause-any_moment g c honest only counts =
    let from = c.args.self.now in
    let next = c.args.anchor in
    let old = g.D.Disk.history c.args.disk.now in
    let long : 2088 ≤ length (seen old) = omega (arith, g.met.D.Disk.keeps_length c.args.disk.now honest, c.requires.fits) in
    let slot = c.other-slot.result in
    let is = c.other-slot.ensures in
    let at = c.offset-at.result in
    let still = subst IsTrue (sym c.shut_slot.ensures.honest) honest in
    joined _ _ _ (IsAmidMove from next (seen old))
    (shut_moment from next old long slot is at c.offset-at.ensures counts _ (c.shut_slot.ensures.any_moment honest only from.anchor.sequence (older_there from next old long slot is at c.offset-at.ensures counts)))
    (write_moment from next old long slot is at c.offset-at.ensures _ (c.in_ok-shut_slot.ensures.shut honest only) _ _ c.to_bytes.ensures.text counts (c.write_synced.ensures.any_moment still))

pub returns-in_err-open_gate-clause-any_moment : goal.returns-in_err-open_gate-clause-any_moment
returns-in_err-open_gate-clause-any_moment g c honest only counts =
    let from = c.args.self.now in
    let next = c.args.anchor in
    let old = g.D.Disk.history c.args.disk.now in
    let long : 2088 ≤ length (seen old) = omega (arith, g.met.D.Disk.keeps_length c.args.disk.now honest, c.requires.fits) in
    let slot = c.other-slot.result in
    let is = c.other-slot.ensures in
    let at = c.offset-at.result in
    let at_is = c.offset-at.ensures in
    let still = subst IsTrue (sym c.shut_slot.ensures.honest) honest in
    let again = subst IsTrue (sym c.write_synced.ensures.honest) still in
    let fits : IsAnchor next = record { sequence = omega arith; checkpoint = omega arith; tail = omega arith; tail_place = omega arith } in
    let shut = c.in_ok-shut_slot.ensures.shut honest only in
    let stands = text_stands from next old long slot is at at_is _ shut _ _ c.to_bytes.ensures.text (c.in_ok-write_synced.ensures.stable still) in
    joined _ _ _ (IsAmidMove from next (seen old))
    (joined _ _ _ (IsAmidMove from next (seen old))
    (shut_moment from next old long slot is at at_is counts _ (c.shut_slot.ensures.any_moment honest only from.anchor.sequence (older_there from next old long slot is at at_is counts)))
    (write_moment from next old long slot is at at_is _ shut _ _ c.to_bytes.ensures.text counts (c.write_synced.ensures.any_moment still)))
    (open_moment from next old long slot is at at_is _ (slice_index shut.0 0) shut.2 stands _ fits c.requires.later c.requires.limits counts (c.open_gate.ensures.any_moment again))

pub returns-clause-any_moment : goal.returns-clause-any_moment
returns-clause-any_moment g c honest only counts =
    let from = c.args.self.now in
    let next = c.args.anchor in
    let old = g.D.Disk.history c.args.disk.now in
    let long : 2088 ≤ length (seen old) = omega (arith, g.met.D.Disk.keeps_length c.args.disk.now honest, c.requires.fits) in
    let slot = c.other-slot.result in
    let is = c.other-slot.ensures in
    let at = c.offset-at.result in
    let at_is = c.offset-at.ensures in
    let still = subst IsTrue (sym c.shut_slot.ensures.honest) honest in
    let again = subst IsTrue (sym c.write_synced.ensures.honest) still in
    let fits : IsAnchor next = record { sequence = omega arith; checkpoint = omega arith; tail = omega arith; tail_place = omega arith } in
    let shut = c.in_ok-shut_slot.ensures.shut honest only in
    let stands = text_stands from next old long slot is at at_is _ shut _ _ c.to_bytes.ensures.text (c.in_ok-write_synced.ensures.stable still) in
    joined _ _ _ (IsAmidMove from next (seen old))
    (joined _ _ _ (IsAmidMove from next (seen old))
    (shut_moment from next old long slot is at at_is counts _ (c.shut_slot.ensures.any_moment honest only from.anchor.sequence (older_there from next old long slot is at at_is counts)))
    (write_moment from next old long slot is at at_is _ shut _ _ c.to_bytes.ensures.text counts (c.write_synced.ensures.any_moment still)))
    (open_moment from next old long slot is at at_is _ (slice_index shut.0 0) shut.2 stands _ fits c.requires.later c.requires.limits counts (c.open_gate.ensures.any_moment again))

pub returns-clause-moved : goal.returns-clause-moved
returns-clause-moved g c honest only =
    let from = c.args.self.now in
    let next = c.args.anchor in
    let old = g.D.Disk.history c.args.disk.now in
    let long : 2088 ≤ length (seen old) = omega (arith, g.met.D.Disk.keeps_length c.args.disk.now honest, c.requires.fits) in
    let slot = c.other-slot.result in
    let is = c.other-slot.ensures in
    let at = c.offset-at.result in
    let at_is = c.offset-at.ensures in
    let still = subst IsTrue (sym c.shut_slot.ensures.honest) honest in
    let again = subst IsTrue (sym c.write_synced.ensures.honest) still in
    let fits : IsAnchor next = record { sequence = omega arith; checkpoint = omega arith; tail = omega arith; tail_place = omega arith } in
    let shut = c.in_ok-shut_slot.ensures.shut honest only in
    let stands = text_stands from next old long slot is at at_is _ shut _ _ c.to_bytes.ensures.text (c.in_ok-write_synced.ensures.stable still) in
    has_moved from next old long slot is at at_is _ (slice_index shut.0 0) shut.2 stands _ fits c.requires.later c.requires.limits (c.in_ok-open_gate.ensures.open again)

pub returns-clause-counts : goal.returns-clause-counts
returns-clause-counts g c honest only counts =
    let from = c.args.self.now in
    let next = c.args.anchor in
    let old = g.D.Disk.history c.args.disk.now in
    let long : 2088 ≤ length (seen old) = omega (arith, g.met.D.Disk.keeps_length c.args.disk.now honest, c.requires.fits) in
    let slot = c.other-slot.result in
    let is = c.other-slot.ensures in
    let at = c.offset-at.result in
    let at_is = c.offset-at.ensures in
    let still = subst IsTrue (sym c.shut_slot.ensures.honest) honest in
    let again = subst IsTrue (sym c.write_synced.ensures.honest) still in
    let fits : IsAnchor next = record { sequence = omega arith; checkpoint = omega arith; tail = omega arith; tail_place = omega arith } in
    let shut = c.in_ok-shut_slot.ensures.shut honest only in
    let stands = text_stands from next old long slot is at at_is _ shut _ _ c.to_bytes.ensures.text (c.in_ok-write_synced.ensures.stable still) in
    counts_now from next old long slot is at at_is _ (slice_index shut.0 0) shut.2 stands _ fits c.requires.later c.requires.limits counts (c.in_ok-open_gate.ensures.open again) slot is
