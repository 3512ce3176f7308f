use Rattle.std.proofs.Common.{Option, None, ap, append-nil, subst, sym, ◌∙◌, ◌≡◌}
use Rattle.std.specs.Prelude.{MatchOption}
use Rattle.shore_log.specs.declared.tail.PlainTail.{PlainTail}
use Rattle.shore_queue.proofs.Relays.{catches_up, gets}
use Rattle.shore_queue.proofs.queue.receive.Goals as goal

pub pop_as-requires-clause-rule : goal.pop_as-requires-clause-rule
pop_as-requires-clause-rule g c =
    let receives = ap (λ v. v.receives) c.requires.1 in
    (gets _ _ _ receives, catches_up _ _ _ receives)

none_is : (P : Type 0) (Q : PlainTail → Type 0) (r : Option PlainTail) → r ≡ None → MatchOption r P Q → P
none_is P Q r is m = subst (λ x. MatchOption x P Q) is m

pub returns-clause-none : goal.returns-clause-none
returns-clause-none g c is =
    let empty = (none_is _ _ c.pop_as.result is c.pop_as.ensures.rule).1 in
    (empty.0, sym (append-nil c.args.pass.now.me.view.client.got) ∙ empty.1)
