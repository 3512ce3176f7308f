use Rattle.std.proofs.Common.{◌<◌, sym, subst, ◌∙◌, arith}
use Rattle.std.proofs.lemmas.Bool.{eqb-true, eq-eqb}
use Rattle.shore_model.specs.Logs.{unanswered}
use Rattle.laws_lives.proofs.UndoChains.{unanswered_chain}
use Rattle.shore_analysis.specs.Meant.{AreMeantOf}
use Rattle.shore_analysis.specs.Padded.{padded}
use Rattle.shore_analysis.proofs.Answered.{answer_told, gone, no_answer}
use Rattle.shore_analysis.proofs.Padding.{get_number, next_above}
use Rattle.shore_analysis.proofs.chains.is_answer.Goals as goal

pub returns-then-eq : goal.returns-then-eq
returns-then-eq c g t one meant is =
    let cut = c.args.cut in
    let kept = c.args.kept.now in
    let log = padded cut kept in
    let tells = answer_told log t c.args.id.now c.args.image.now c.args.undo_next c.args.newest (unanswered t log) (unanswered_chain log t) is c.in-Some.change.now c.next_behind.result
    (λ some. let lt = subst (λ n. cut < n) (sym is) (next_above t one cut kept (subst (λ n. 0 < n) is some)) in c.in-Some.ensures.some lt ∙ sym (get_number cut c.args.newest kept lt))
    (λ none. gone c.in-Some.change (c.in-Some.ensures.none (omega (arith, none))))
    (λ n at own change. c.next_behind.ensures g n (subst (λ u. 0 < u) (sym own) one) (subst (λ u. AreMeantOf g u log) (sym own) meant) at change) in
    (λ h. tells.enough (eqb-true c.args.undo_next c.next_behind.result (sym c.eq.ensures ∙ c.if-eq.true)) (c.puts_back.ensures.0 h), λ a. c.puts_back.ensures.1 (tells.needs a).1)

pub returns-else-eq : goal.returns-else-eq
returns-else-eq c g t one meant is =
    let cut = c.args.cut in
    let kept = c.args.kept.now in
    let log = padded cut kept in
    let tells = answer_told log t c.args.id.now c.args.image.now c.args.undo_next c.args.newest (unanswered t log) (unanswered_chain log t) is c.in-Some.change.now c.next_behind.result
    (λ some. let lt = subst (λ n. cut < n) (sym is) (next_above t one cut kept (subst (λ n. 0 < n) is some)) in c.in-Some.ensures.some lt ∙ sym (get_number cut c.args.newest kept lt))
    (λ none. gone c.in-Some.change (c.in-Some.ensures.none (omega (arith, none))))
    (λ n at own change. c.next_behind.ensures g n (subst (λ u. 0 < u) (sym own) one) (subst (λ u. AreMeantOf g u log) (sym own) meant) at change) in
    (λ h. let e = c.if-eq.false in absurd cc, λ a. c.eq.ensures ∙ eq-eqb c.args.undo_next c.next_behind.result (tells.needs a).0)

pub returns-in-None : goal.returns-in-None
returns-in-None c g t one meant is =
    let cut = c.args.cut in
    let kept = c.args.kept.now in
    let log = padded cut kept in (
      λ h. absurd cc,
      λ a. absurd (no_answer log t c.args.id.now c.args.image.now c.args.undo_next c.args.newest (unanswered t log) (unanswered_chain log t) is
          (λ some. let lt = subst (λ n. cut < n) (sym is) (next_above t one cut kept (subst (λ n. 0 < n) is some)) in c.in-None.ensures.some lt ∙ sym (get_number cut c.args.newest kept lt)) a),
    )
