use Rattle.std.proofs.Common.{◌≡◌, ◌-◌, ◌<◌, Some, take, sym, ap, subst, ◌∙◌, arith}
use Rattle.std.specs.Prelude.{slice_get}
use Rattle.std.proofs.lemmas.Option.{slice_get_within}
use Rattle.shore_model.specs.declared.log_records.Payload.TheVariants.{Compensation}
use Rattle.shore_model.specs.Logs.{unanswered, undo_next_of}
use Rattle.shore_analysis.specs.Meant.{AreMeantOf, IsChange}
use Rattle.shore_analysis.specs.Padded.{padded}
use Rattle.shore_analysis.proofs.Answered.{gone}
use Rattle.shore_analysis.proofs.Found.{says_compensation, says_end, says_end_otherwise}
use Rattle.shore_analysis.proofs.KeptUndone.{change_behind, change_own, get_whole, unanswered_front}
use Rattle.shore_analysis.proofs.Padding.{get_number}
use Rattle.shore_analysis.proofs.losers.undo_of.Goals as goal

pub returns-in_default : goal.returns-in_default
returns-in_default c g whole turns log t one within none is_kept meant undone is =
    let cut = c.args.cut in
    let kept = c.args.found.now in
    says_end whole turns log undone t c.args.change is
    (λ some. let lt = change_behind cut kept whole within is_kept t one none turns log undone c.args.change is some in get_whole cut kept whole within is_kept c.args.change lt ∙ sym (c.in_default.ensures.some lt))

pub returns-in_ok-copy_of-in-Some-change_in : goal.returns-in_ok-copy_of-in-Some-change_in
returns-in_ok-copy_of-in-Some-change_in c g whole turns log t one within none is_kept meant undone is =
    let cut = c.args.cut in
    let kept = c.args.found.now in
    let number = c.args.change in
    let change = c.in-Some-change_in in
    let r = c.in-Some.logged.now in
    let some : number ≡ 0 → ⊥ = λ zero. gone c.in-Some.logged (c.in-Some.ensures.none (omega (arith, zero))) in
    let more : 0 < number = omega (arith, some) in
    let lt : cut < number = change_behind cut kept whole within is_kept t one none turns log undone number is more in
    let here : slice_get whole (number - 1) ≡ Some r = get_whole cut kept whole within is_kept number lt ∙ sym (c.in-Some.ensures.some lt) in
    let there : slice_get (padded cut kept) (number - 1) ≡ Some r = get_number cut number kept lt ∙ sym (c.in-Some.ensures.some lt) in
    let own = change_own cut kept whole within is_kept t one none turns log undone number is r here more in
    let inside = slice_get_within whole (number - 1) r here in
    ap (λ image. Compensation change.id image c.next_behind.result) (c.in_ok-copy_of-in-Some-change_in.ensures)
    ∙ says_compensation whole turns log undone t number is r (λ _. here) change.id change.before.now change.ensures.0 some change.ensures.1 c.next_behind.result
    (λ at.
    c.next_behind.ensures g (number - 1) (subst (λ u. 0 < u) (sym own) one) (subst (λ u. AreMeantOf g u (padded cut kept)) (sym own) meant) there (subst IsChange (sym change.ensures.1) tt)
    ∙ ap (λ u. undo_next_of (unanswered u (take (number - 1) (padded cut kept)))) own
    ∙ ap undo_next_of (unanswered_front cut kept whole within is_kept t one none (number - 1) (omega (arith, lt)) (omega (arith, inside)))
    ∙ ap (λ u. undo_next_of (unanswered u (take (number - 1) whole))) (sym own))

pub returns-in-None : goal.returns-in-None
returns-in-None c g whole turns log t one within none is_kept meant undone is =
    let cut = c.args.cut in
    let kept = c.args.found.now in
    says_end_otherwise whole turns log undone t c.args.change is c.in-Some.logged.now
    (λ some. let lt = change_behind cut kept whole within is_kept t one none turns log undone c.args.change is some in get_whole cut kept whole within is_kept c.args.change lt ∙ sym (c.in-Some.ensures.some lt))
    c.in-None.ensures
