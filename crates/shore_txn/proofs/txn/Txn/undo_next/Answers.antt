use Rattle.std.proofs.Common.{◌≡◌, ◌-◌, ap, length, sym, ◌∙◌, arith, get_or}
use Rattle.shore_txn.specs.declared.undo.UndoEntry.{UndoEntry}
use Rattle.shore_txn.proofs.UndoLemmas.{number_read}
use Rattle.shore_txn.proofs.txn.Txn.undo_next.Goals as goal

pub returns : goal.returns
returns c =
    let items = c.args.self.now.undo.items in
    let long : c.len-count.result ≡ length items = omega (arith, c.len-count.ensures) in
    ap (λ (e : UndoEntry). e.lsn) (c.index.ensures ∙ ap (λ n. get_or items n c.index.result.now) (ap (λ n. n - 2) long))
    ∙ sym (number_read items c.index.result.now (omega (arith, long, c.if-count-lt2.false)))
