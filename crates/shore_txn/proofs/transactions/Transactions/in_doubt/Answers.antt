use Rattle.std.proofs.Common.{◌≡◌, ◌<◌, ◌++◌, ◌∷◌, [], get_or, length, sym, ap, ◌∙◌, arith}
use Rattle.std.specs.Option.{option_map}
use Rattle.shore_txn.specs.Txns.{as_prepared}
use Rattle.shore_txn.specs.declared.txn.Txn.{Txn}
use Rattle.shore_txn.proofs.DoubtsListed.{all_doubts, named, no_doubt, one_doubt}
use Rattle.shore_txn.proofs.transactions.Transactions.in_doubt.Goals as goal
use Rattle.shore_txn.proofs.transactions.Transactions.in_doubt.Goals.{in-Some+in_ok-push, in_default}

pub returns : goal.returns
returns c =
    c.loop-active.invariant
    ∙ all_doubts c.args.self.now.active.items c.loop-active.active-index (omega (arith, c.loop-active-test.false, ap length c.deref-active-items.ensures.value))

pub loop-active-preserved : goal.loop-active-preserved
loop-active-preserved c =
    let items = c.args.self.now.active.items in
    let i = c.loop-active.active-index in
    let a = c.active-item.result in
    let inside : i < length items = omega (arith, c.loop-active-test.true, ap length c.deref-active-items.ensures.value) in
    let is : get_or items i a ≡ a = ap (λ l. get_or l c.loop-active.active-index c.active-item.result) (sym c.deref-active-items.ensures.value) ∙ sym c.active-item.is in
    let found = c.in_ok-doubt.ensures ∙ ap (λ (t : Txn). option_map named (as_prepared t)) c.txn.ensures in
    elim c.match-branch-2.branch [
      | in-Some+in_ok-push w ↦ ap (λ v. v.items) w.found-is ∙ w.in_ok-push.ensures.items ∙ ap (λ xs. xs ++ w.in-Some.doubt ∷ []) c.loop-active.invariant ∙ sym (one_doubt items i a inside is w.in-Some.doubt (sym w.in-Some.is ∙ found))
      | in_default w ↦ ap (λ v. v.items) w.found-is ∙ c.loop-active.invariant ∙ sym (no_doubt items i a inside is (sym w.in_default.is ∙ found))
    ]
