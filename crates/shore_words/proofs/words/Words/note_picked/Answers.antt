use Rattle.std.proofs.Common.{ap, arith}
use Rattle.shore_words.proofs.Hears.{is_noted}
use Rattle.shore_words.proofs.words.Words.note_picked.Goals as goal

pub join_seat-requires : goal.join_seat-requires
join_seat-requires g c =
    let right = c.scribe-right.ensures.new in
    (c.requires.seat.0.0, right.0.0, ap (λ x. x.1) right.1, omega (arith, c.requires.seat.0.1), is_noted _ _ _ _ _ c.requires.seat.1.0 (ap (λ x. x.0.notes) right.1) (ap (λ x. x.0.asked) right.1))
