use Rattle.std.proofs.Common.{◌≤◌, List, ap, sym, subst, arith}
use Rattle.std.proofs.lemmas.List.Elements.{All-push}
use Rattle.shore_types.specs.declared.layout.TheConstants.{MAX_RECORD_BYTES}
use Rattle.shore_types.specs.Images.{image_len}
use Rattle.laws_room.specs.LogRooms.{compensation_costs}
use Rattle.shore_txn.specs.UndoEntries.{AreShort, images_of}
use Rattle.shore_txn.specs.declared.undo.UndoEntry.{UndoEntry}
use Rattle.shore_txn.proofs.UndoLemmas.{costs_push}
use Rattle.shore_txn.proofs.txn.Txn.note_change.Goals as goal

pub invariant_of-self-clause-owed : goal.invariant_of-self-clause-owed
invariant_of-self-clause-owed c =
    let old = c.args.self.now in
    let costs = costs_push old.undo.items c.args.entry in
    let items = ap (λ (l : List UndoEntry). compensation_costs (images_of l)) c.push_reserved.ensures.items in
    omega (arith, old.owed, costs, items, c.requires.cost)

pub invariant_of-self-clause-short : goal.invariant_of-self-clause-short
invariant_of-self-clause-short c =
    let short = All-push (λ (e : UndoEntry). image_len e.before ≤ MAX_RECORD_BYTES) c.args.self.now.undo.items c.args.entry c.args.self.now.short c.requires.short in
    subst AreShort (sym c.push_reserved.ensures.items) short
