use Rattle.std.proofs.Common.{◌≡◌, ◌<◌, ◌≤◌, ℕ, List, get_or, length, sym, ap, subst, ◌∙◌, arith}
use Rattle.std.specs.Prelude.{◌⊎◌}
use Rattle.shore_txn.specs.Txns.{first_of}
use Rattle.shore_txn.specs.declared.active.ActiveTxn.{ActiveTxn}
use Rattle.shore_txn.proofs.LogTables.{least_further, least_in_all}
use Rattle.shore_txn.proofs.transactions.Transactions.least_first.Goals as goal

pub loop-active-preserved : goal.loop-active-preserved
loop-active-preserved c =
    let items = c.args.self.now.active.items in
    let i = c.loop-active.active-index in
    let a = c.active-item.result in
    let inside : i < length items = omega (arith, c.loop-active-test.true, ap length c.deref-active-items.ensures.value) in
    let is : get_or items i a ≡ a = ap (λ (l : List ActiveTxn). get_or l i a) (sym c.deref-active-items.ensures.value) ∙ sym c.active-item.is in
    let first : c.first.result ≡ first_of a.txn = c.first.ensures ∙ ap first_of c.txn.ensures in
    least_further items i a inside is c.loop-active.least c.lesser-least.result c.loop-active.invariant c.lesser-least.ensures.still
    (subst (λ (n : ℕ). 0 < n → (0 < c.lesser-least.result) × (c.lesser-least.result ≤ n)) first c.lesser-least.ensures.below)
    (subst (λ (n : ℕ). (c.lesser-least.result ≡ c.loop-active.least) ⊎ ((0 < n) × (n ≡ c.lesser-least.result))) first c.lesser-least.ensures.one)

pub returns : goal.returns
returns c = least_in_all c.args.self.now.active.items c.loop-active.active-index c.loop-active.least (omega (arith, c.loop-active-test.false, ap length c.deref-active-items.ensures.value)) c.loop-active.invariant
