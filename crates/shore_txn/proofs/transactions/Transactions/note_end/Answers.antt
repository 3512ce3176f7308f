use Rattle.shore_txn.proofs.DoubtSteps.{doubts_stay}
use Rattle.std.proofs.Common.{◌≡◌, List, ap, cond, ◌∙◌, arith}
use Rattle.shore_types.specs.declared.layout.TheConstants.{ENDING_COST}
use Rattle.laws_room.specs.LogRooms.{compensation_costs}
use Rattle.shore_txn.specs.TxnStates.{second_ending}
use Rattle.shore_txn.specs.Txns.{state_of}
use Rattle.shore_txn.specs.UndoEntries.{images_of}
use Rattle.shore_txn.specs.declared.txn.Txn.{Txn}
use Rattle.shore_txn.specs.declared.undo.UndoEntry.{UndoEntry}
use Rattle.shore_txn.proofs.ActiveSteps.{claims_kept, leaves_empty, none_changed, undos_without, left_among}
use Rattle.shore_txn.proofs.transactions.Transactions.note_end.Goals as goal

pub returns-clause-left : goal.returns-clause-left
returns-clause-left c = leaves_empty c.take_out-ended.ensures.left c.requires.empty

pub returns-clause-undos : goal.returns-clause-undos
returns-clause-undos c a m its = let old = c.args.self.now in undos_without c.take_out-ended.ensures.left a old.numbers m its

pub returns-clause-claims : goal.returns-clause-claims
returns-clause-claims c = claims_kept (leaves_empty c.take_out-ended.ensures.left c.requires.empty)

pub returns-clause-reserved : goal.returns-clause-reserved
returns-clause-reserved c =
    let none = ap (λ (es : List UndoEntry). compensation_costs (images_of es)) (none_changed c.take_out-ended.ensures.left c.requires.empty) in
    let free = c.requires.free c.take_out-ended.result.txn c.take_out-ended.ensures.among c.take_out-ended.ensures.number in
    let second : second_ending (state_of c.take_out-ended.result.txn) ≡ 0 = ap (λ b. cond b ENDING_COST 0) free in
    omega (arith, none, second, c.take_out-ended.ensures.reserved, c.append.ensures.others.0)

pub returns-clause-number : goal.returns-clause-number
returns-clause-number c = c.id.ensures.number ∙ ap (λ (t : Txn). t.txn) c.txn.ensures ∙ c.take_out-ended.ensures.number

pub returns-clause-doubts : goal.returns-clause-doubts
returns-clause-doubts c =
    let left = c.take_out-ended.ensures.left in
    doubts_stay left (c.requires.free left.one (left_among left) left.txn)
