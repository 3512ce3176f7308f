use Rattle.std.proofs.Common.{ap, ◌∙◌, arith}
use mathlib.Core.Option.{none}
use Rattle.shore_words.proofs.Keeps.{aims_checkpoint, aims_tail}
use Rattle.shore_words.proofs.words.Words.fail_move.Goals as goal

pub store-requires : goal.store-requires
store-requires c =
    let teller = c.take_anchor.ensures.teller in (
      c.take_anchor.ensures.same.1 ∙ c.requires.teller.0.0,
      omega (arith, c.requires.seat.0.1),
      aims_tail _ _ _ _ none (ap (λ x. x.0.tells) teller ∙ c.requires.teller.1) (ap (λ x. x.0.keeps) teller),
    )

pub store-requires-2 : goal.store-requires-2
store-requires-2 c =
    let moved = c.store.ensures.2 in (
      c.store.ensures.0 ∙ c.take_anchor.ensures.same.1 ∙ c.requires.teller.0.0,
      omega (arith, c.requires.seat.0.1),
      aims_checkpoint _ _ _ _ none (ap (λ x. x.0.tells) moved) (ap (λ x. x.0.keeps) moved),
    )
