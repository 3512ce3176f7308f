use Rattle.std.proofs.Common.{◌≡◌, ⊎_elim, true, false, refl, sym, ◌∙◌, arith}
use Rattle.shore_analysis.specs.Padded.{padded}
use Rattle.shore_analysis.proofs.Answered.{gone, one_or_none}
use Rattle.shore_analysis.proofs.Covered.{all_seen, none_seen, one_back, one_out, own_back, within_log}
use Rattle.shore_analysis.proofs.Padding.{get_number, length_padded, seen_above}
use Rattle.shore_analysis.proofs.prepares.cover_changes.Goals as goal

pub loop-init : goal.loop-init
loop-init c g t meant some is = none_seen t c.args.granules.now (padded c.args.cut c.args.before.now) c.args.last is

pub returns-in_default : goal.returns-in_default
returns-in_default c g t meant some is =
    let gs = c.args.granules.now in
    let cut = c.args.cut in
    let kept = c.args.before.now in
    let log = padded cut kept in
    let seen = c.loop.invariant g t meant some is in (
      λ h. all_seen t gs log c.loop.number c.loop.counter seen
          (⊎_elim (λ none. none) (λ more. absurd (within_log t gs log c.loop.number c.loop.counter seen more
          (let lt = seen_above t gs cut kept c.loop.number c.loop.counter seen some more in c.in_default.ensures.some lt ∙ sym (get_number cut c.loop.number kept lt)))) (one_or_none c.loop.number)),
      λ h. refl,
    )

pub returns-then-not-covers : goal.returns-then-not-covers
returns-then-not-covers c g t meant some is =
    let gs = c.args.granules.now in
    let cut = c.args.cut in
    let kept = c.args.before.now in
    let log = padded cut kept in
    let seen = c.loop.invariant g t meant some is in
    let r = c.in-Some.logged.now in
    ⊎_elim
    (λ none. absurd (gone c.in-Some.logged (c.in-Some.ensures.none (omega (arith, none)))))
    (λ more.
    let lt = seen_above t gs cut kept c.loop.number c.loop.counter seen some more in
    let there = get_number cut c.loop.number kept lt ∙ sym (c.in-Some.ensures.some lt) in (
      λ h. absurd cc,
      λ all. absurd (one_out t gs log c.loop.number c.loop.counter seen more r there
          (λ keeps. let covers : true ≡ false = sym (c.covers.ensures.1 (keeps (own_back t gs log c.loop.number c.loop.counter seen more r there))) ∙ c.if-not-covers.true in cc) all),
    ))
    (one_or_none c.loop.number)

pub loop-preserved : goal.loop-preserved
loop-preserved c g t meant some is =
    let gs = c.args.granules.now in
    let cut = c.args.cut in
    let kept = c.args.before.now in
    let log = padded cut kept in
    let seen = c.loop.invariant g t meant some is in
    let r = c.in-Some.logged.now in
    ⊎_elim
    (λ none. absurd (gone c.in-Some.logged (c.in-Some.ensures.none (omega (arith, none)))))
    (λ more.
    let lt = seen_above t gs cut kept c.loop.number c.loop.counter seen some more in
    one_back t gs log c.loop.number c.loop.counter seen g meant some more r (get_number cut c.loop.number kept lt ∙ sym (c.in-Some.ensures.some lt)) (λ own. c.covers.ensures.0 c.if-not-covers.false))
    (one_or_none c.loop.number)

pub returns : goal.returns
returns c g t meant some is =
    let seen = c.loop.invariant g t meant some is in
    let few = seen.few in
    let last = c.loop-test.false in
    let cut = c.args.cut in
    let kept = c.args.before.now in
    let long = length_padded cut kept in
    let none : c.loop.number ≡ 0 = ⊎_elim (λ none. none) (λ more. let lt = seen_above t c.args.granules.now cut kept c.loop.number c.loop.counter seen some more in absurd (omega (arith, few, last, long, lt))) (one_or_none c.loop.number) in
    (λ h. all_seen t c.args.granules.now (padded cut kept) c.loop.number c.loop.counter seen none, λ h. refl)
