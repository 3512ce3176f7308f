use Rattle.std.proofs.Common.{Some, None, sym, ◌∙◌, arith}
use Rattle.shore_analysis.specs.Padded.{padded}
use Rattle.shore_analysis.proofs.Answered.{next_behind, gone}
use Rattle.shore_analysis.proofs.Padding.{get_number, own_previous}
use Rattle.shore_analysis.proofs.chains.next_behind.Goals as goal

pub returns-in-Some : goal.returns-in-Some
returns-in-Some c g n one meant at change =
    let cut = c.args.cut in
    let kept = c.args.kept.now in
    let r = c.args.change.now in
    c.next_named.ensures
    ∙ next_behind g (padded cut kept) n r meant (Some c.in-Some.last.now) at change
    (λ some. let lt = own_previous g cut n kept r at one meant some in c.in-Some.ensures.some lt ∙ sym (get_number cut r.previous kept lt))
    (λ none. absurd (gone c.in-Some.last (c.in-Some.ensures.none (omega (arith, none)))))

pub returns-in-None : goal.returns-in-None
returns-in-None c g n one meant at change =
    let cut = c.args.cut in
    let kept = c.args.kept.now in
    let r = c.args.change.now in
    next_behind g (padded cut kept) n r meant None at change
    (λ some. let lt = own_previous g cut n kept r at one meant some in c.in-None.ensures.some lt ∙ sym (get_number cut r.previous kept lt)) (λ none i. None)
