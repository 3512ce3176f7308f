use Rattle.std.proofs.Common.{◌≢◌, List, [], ◌∷◌, Option, Some, true, ap, ◌∙◌}
use Rattle.std.proofs.lemmas.Option.{same_Some}
use Rattle.shore_model.specs.declared.calls.Answer.{Answer}
use Rattle.shore_model.specs.declared.calls.Call.{Call}
use Rattle.shore_model.specs.declared.step.Step.TheVariants as made
use Rattle.shore_words.specs.declared.rule.Heard.{Heard}
use Rattle.shore_shared.specs.Told.{AreTold}
use Rattle.shore_shared.specs.WorkedLife.{asks, is_told}
use Rattle.shore_shared.proofs.worked.clients_that_were_told_otherwise.Goals as goal

abbrev asked_first : Option Call → List Heard → Option Call
asked_first other [] = other
asked_first other (h ∷ hs) = h.asked

other_order : (c d : Call) (a b : Answer) → d ≢ c → AreTold true (is_told c a ∷ is_told d b ∷ []) (asks d (made.Done b) ∷ asks c (made.Done a) ∷ []) → ⊥
other_order c d a b apart ([], rest, parts, hears, told) = absurd (cc (hears.1))
other_order c d a b apart (h ∷ hs, rest, parts, hears, told) = apart (same_Some d c (ap (asked_first (Some c)) parts ∙ hears.0))

pub returns-clause-order : goal.returns-clause-order
returns-clause-order _ = other_order
