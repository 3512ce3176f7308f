use Rattle.std.proofs.Common.{◌≡◌, ◌+◌, ◌-◌, ◌≤◌, ◌<◌, ◌++◌, ◌∷◌, [], Some, ⊎_elim, sym, subst, length, ◌∙◌, arith}
use Rattle.std.specs.Prelude.{slice_get}
use Rattle.shore_analysis.specs.Meant.{AreMeantOf}
use Rattle.shore_analysis.specs.Padded.{padded}
use Rattle.shore_analysis.proofs.Answered.{gone, one_or_none}
use Rattle.shore_analysis.proofs.ChangesLeft.{AreListed, all_listed, last_listed, listed_behind, listed_own, none_kept_listed, one_listed}
use Rattle.shore_analysis.proofs.Padding.{get_number, length_padded}
use Rattle.shore_analysis.proofs.kept_doubts.newest_first.Goals as goal

pub loop-init : goal.loop-init
loop-init c = (λ g t one meant is. rw c.new-numbers.ensures.items (none_kept_listed t one c.args.cut c.args.kept.now c.args.newest is), λ none. (none, c.new-numbers.ensures.items))

pub returns-in_default-clause-all : goal.returns-in_default-clause-all
returns-in_default-clause-all c g t one meant is =
    let cut = c.args.cut in
    let kept = c.args.kept.now in
    let listed = c.loop.invariant.0 g t one meant is in
    all_listed t (padded cut kept) c.loop.numbers.items c.loop.next (cut + c.loop.counter) listed
    (λ some. let lt = listed_behind t one cut kept c.loop.numbers.items c.loop.next (cut + c.loop.counter) listed some in c.in_default.ensures.some lt ∙ sym (get_number cut c.loop.next kept lt))

pub loop-preserved : goal.loop-preserved
loop-preserved c = (
  λ g t one meant is.
      let cut = c.args.cut in
      let kept = c.args.kept.now in
      let log = padded cut kept in
      let r = c.in-Some.change.now in
      let listed = c.loop.invariant.0 g t one meant is in
      ⊎_elim
      (λ none. absurd (gone c.in-Some.change (c.in-Some.ensures.none (omega (arith, none)))))
      (λ more.
      let lt = listed_behind t one cut kept c.loop.numbers.items c.loop.next (cut + c.loop.counter) listed more in
      let there : slice_get log (c.loop.next - 1) ≡ Some r = get_number cut c.loop.next kept lt ∙ sym (c.in-Some.ensures.some lt) in
      let own = listed_own t log c.loop.numbers.items c.loop.next (cut + c.loop.counter) listed more r there in
      let next = one_listed t log c.loop.numbers.items c.loop.next (cut + c.loop.counter) listed more r there c.next_behind-next.result
      (λ at change. c.next_behind-next.ensures g (c.loop.next - 1) (subst (λ u. 0 < u) (sym own) one) (subst (λ u. AreMeantOf g u log) (sym own) meant) at change) in
      let count : cut + c.loop.counter + 1 ≡ cut + (c.loop.counter + 1) = omega arith in
      rw c.in_ok-push.ensures.items (subst (λ k. AreListed t log (c.loop.numbers.items ++ c.loop.next ∷ []) c.next_behind-next.result k) count next))
      (one_or_none c.loop.next),
  λ zero. absurd (gone c.in-Some.change (let none = (c.loop.invariant.1 zero).0 in c.in-Some.ensures.none (omega (arith, none)))),
)

pub returns-clause-all : goal.returns-clause-all
returns-clause-all c g t one meant is =
    let cut = c.args.cut in
    let kept = c.args.kept.now in
    let long = length_padded cut kept in
    let last : length kept ≤ c.loop.counter = c.loop-test.false in
    last_listed t (padded cut kept) c.loop.numbers.items c.loop.next (cut + c.loop.counter) (c.loop.invariant.0 g t one meant is) (omega (arith, long, last))
