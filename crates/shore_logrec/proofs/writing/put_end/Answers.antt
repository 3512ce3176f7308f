use Rattle.std.proofs.Common.{ℕ, subst}
use Rattle.shore_logrec.specs.Room.{Puts}
use Rattle.shore_logrec.specs.Text.{checkpoint_text}
use Rattle.shore_logrec.proofs.Puttings.{Puts-then, end_put}
use Rattle.shore_logrec.proofs.writing.put_end.Goals as goal

pub returns : goal.returns
returns c =
    subst (λ (begin : ℕ). Puts c.args.out.now c.put_entries-2.new.out (checkpoint_text begin c.args.next c.args.txns.now c.args.dirty.now)) c.begin.view_is
    (subst (λ (next : ℕ). Puts c.args.out.now c.put_entries-2.new.out (checkpoint_text c.begin.inside.0 next c.args.txns.now c.args.dirty.now)) c.next.view_is
    (end_put c.begin.inside.0 c.next.inside.0 c.args.txns.now c.args.dirty.now
    (Puts-then (Puts-then (Puts-then (Puts-then (Puts-then c.put_u64.ensures c.put_u64-2.ensures) c.put_u16.ensures) c.put_entries.ensures) c.put_u16-2.ensures) c.put_entries-2.ensures)))
