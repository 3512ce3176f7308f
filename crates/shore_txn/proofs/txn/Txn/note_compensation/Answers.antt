use Rattle.std.proofs.Common.{◌≡◌, ◌≤◌, List, ap, cond, subst, arith}
use Rattle.shore_types.specs.declared.layout.TheConstants.{ENDING_COST, MAX_RECORD_BYTES}
use Rattle.shore_types.specs.Images.{image_len}
use Rattle.laws_room.specs.LogRooms.{compensation_costs}
use Rattle.shore_txn.specs.TxnStates.{second_ending}
use Rattle.shore_txn.specs.UndoEntries.{AreShort, images_of}
use Rattle.shore_txn.specs.declared.undo.UndoEntry.{UndoEntry}
use Rattle.shore_txn.proofs.UndoLemmas.{all_front, costs_push}
use Rattle.shore_txn.proofs.txn.Txn.note_compensation.Goals as goal

pub overflow_sub-self : goal.overflow_sub-self
overflow_sub-self c =
    let left = c.take_last-undone.new.self.items in
    let undone = c.take_last-undone.result in
    let items = c.take_last-undone.ensures.items in
    let costs = costs_push left undone in
    let all = ap (λ (es : List UndoEntry). compensation_costs (images_of es)) items in
    let cost = c.requires.cost left undone items in
    let owed = c.args.self.now.owed in
    omega (arith, costs, all, cost, owed)

pub invariant_of-self-clause-owed : goal.invariant_of-self-clause-owed
invariant_of-self-clause-owed c =
    let left = c.take_last-undone.new.self.items in
    let undone = c.take_last-undone.result in
    let items = c.take_last-undone.ensures.items in
    let costs = costs_push left undone in
    let all = ap (λ (es : List UndoEntry). compensation_costs (images_of es)) items in
    let cost = c.requires.cost left undone items in
    let owed = c.args.self.now.owed in
    let none : second_ending c.args.self.now.state ≡ 0 = ap (λ b. cond b ENDING_COST 0) c.requires.free in
    omega (arith, costs, all, cost, owed, none)

pub invariant_of-self-clause-short : goal.invariant_of-self-clause-short
invariant_of-self-clause-short c =
    all_front (λ (e : UndoEntry). image_len e.before ≤ MAX_RECORD_BYTES) c.take_last-undone.new.self.items c.take_last-undone.result
    (subst AreShort c.take_last-undone.ensures.items c.args.self.now.short)

pub invariant_of-self-clause-few : goal.invariant_of-self-clause-few
invariant_of-self-clause-few c = let fewer = c.keep_marks.ensures.fewer in let few = c.args.self.now.few in omega (arith, fewer, few)
