use Rattle.std.proofs.Common.{◌≡◌, [], ◌++◌, sym, ap, subst, ◌∙◌}
use Rattle.std.proofs.Math.Logic.{∥∥₁_map}
use Rattle.laws_images.specs.StandsBehind.{anchored_by}
use Rattle.shore_log.specs.Settled.{anchor_of}
use Rattle.shore_sessions.specs.Controls.{txns_in}
use Rattle.shore_txn.specs.Transactions.{room_in}
use Rattle.shore_held.proofs.Comings.{over_another}
use Rattle.shore_held.specs.Comings.{HasComeBy, anchored_at}
use Rattle.shore_shared.specs.Lives.{anchored_in}
use Rattle.shore_shared.proofs.opening.Queued.shared.Goals as goal

-- the core over the queue is as far as the one that was opened, and its seat keeps the anchor of the log device
pub new-core-requires-clause-opened : goal.new-core-requires-clause-opened
new-core-requires-clause-opened g c =
    let o = c.args.self.opened in
    let t = c.with_tail-core.ensures in
    let kept : c.keeper-seat.result.kept ≡ anchored_in o.log = ap (λ v. v.kept) c.keeper-seat.ensures.new ∙ ap (λ v. v.kept) c.of-teller.ensures ∙ ap (λ m. m.0.kept) o.told in
    λ start honest. ∥∥₁_map (c.requires.core start honest) (λ h. subst (λ a. HasComeBy start g.B.Named.cut g.B.Named.before c.with_tail-core.result.0 o.stage (anchored_at a) []) (sym kept)
    (over_another g.B.Named.cut g.B.Named.before o.core c.with_tail-core.result.0 o.stage (anchored_by (anchor_of o.log)) [] t.heap (ap (λ k. (room_in (txns_in k)).stream_bytes) t.control)
    (λ front disk before s is. t.state front disk before before s (ap (λ l. before ++ l) (o.emptied ∙ sym c.new-tail.ensures)) is) t.over h))
