use Rattle.std.proofs.Common.{⊎_elim, true, false, refl, sym, arith}
use Rattle.std.proofs.lemmas.Bool.{true≢false}
use Rattle.laws_lives.proofs.Lists.{within_or_beyond}
use Rattle.laws_calls.proofs.waits.tickets_can_be_asked.Goals as goal

pub returns-clause-always : goal.returns-clause-always
returns-clause-always d g s ticket =
    ⊎_elim (λ within. (true, (((λ e. within), (λ le. refl)), refl))) (λ less. (false, (((λ e. absurd (true≢false (sym e))), (λ le. absurd (omega (arith, le, less)))), refl))) (within_or_beyond ticket s.durable)

pub returns-clause-too_early : goal.returns-clause-too_early
returns-clause-too_early d g s new ticket less h = let within = h.0.0 refl in omega (arith, within, less)

pub returns-clause-denied : goal.returns-clause-denied
returns-clause-denied d g s new ticket within h = true≢false (sym (h.0.1 within))

pub returns-clause-changes_nothing : goal.returns-clause-changes_nothing
returns-clause-changes_nothing d g s new ticket answer h = h.1
