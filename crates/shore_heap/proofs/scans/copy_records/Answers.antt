use Rattle.std.proofs.Common.{◌+◌, List, length, ap, arith}
use Rattle.shore_page.specs.Slots.{Slot}
use Rattle.shore_heap.specs.Scans.{HasBefore}
use Rattle.shore_heap.proofs.Scanned.{page_more, page_records, pushed}
use Rattle.shore_heap.proofs.scans.copy_records.Goals as goal

pub loop-slot-init : goal.loop-slot-init
loop-slot-init c S same before = before

pub loop-slot-preserved : goal.loop-slot-preserved
loop-slot-preserved c S same before = c.in_ok-copy_slot.ensures S same (c.loop-slot.invariant S same before)

pub returns : goal.returns
returns c S same before =
    let id = c.args.id.now in
    page_more S id.store id.page c.loop-slot.slot c.loop-slot.list (omega (arith, ap (λ (l : List Slot). length l) same, c.slot_count-slot-end.ensures.count, c.loop-slot-test.false)) (c.loop-slot.invariant S same before)

pub returns-in-Some : goal.returns-in-Some
returns-in-Some c S same before =
    let id = c.args.id.now in
    pushed (HasBefore S id.store (id.page + 1) 0) c.push_run.result _ _ c.push_run.ensures.ok (page_records S id.store id.page c.args.page.now.slots c.args.list.now same before)
