use Rattle.std.proofs.Common.{◌≡◌, ◌<◌, Some, ap, length, map, sym, ◌∙◌, arith}
use Rattle.std.specs.List.{slice_get}
use Rattle.std.specs.Option.{option_map}
use Rattle.std.proofs.lemmas.List.{length-map, length-reverse, reverse-reverse}
use Rattle.std.proofs.lemmas.Option.{same_Some, slice_get-map}
use Rattle.shore_txn.specs.Txns.{entries_of}
use Rattle.shore_txn.specs.declared.active.ActiveTxn.{ActiveTxn}
use Rattle.shore_txn.specs.declared.txn.Txn.{Txn}
use Rattle.shore_txn.proofs.ActiveLemmas.{one_at, read_at}
use Rattle.shore_txn.proofs.transactions.Transactions.changes.Goals as goal

pub index-requires : goal.index-requires
index-requires c =
    let items = c.args.self.now.active.items in
    omega (arith, c.requires, length-reverse (map (λ (a : ActiveTxn). a.txn) items), length-map items (λ (a : ActiveTxn). a.txn))

pub returns : goal.returns
returns c t there =
    let items = c.args.self.now.active.items in
    let txn : ActiveTxn → Txn = λ a. a.txn in
    let inside : c.args.index < length items = omega (arith, c.requires, length-reverse (map (λ (a : ActiveTxn). a.txn) items), length-map items (λ (a : ActiveTxn). a.txn)) in
    let one = one_at items c.args.index inside in
    let it : c.index.result.now ≡ one.0 = c.index.ensures ∙ read_at one.1 c.index.result.now in
    let at : slice_get (map txn items) c.args.index ≡ Some one.0.txn = slice_get-map txn items c.args.index ∙ ap (option_map txn) one.1.is in
    let same : one.0.txn ≡ t = same_Some one.0.txn t (sym at ∙ ap (λ l. slice_get l c.args.index) (sym (reverse-reverse (map txn items))) ∙ there) in
    c.undo.ensures.entries ∙ ap entries_of (c.txn.ensures ∙ ap txn it ∙ same)
