use Rattle.std.proofs.Common.{ℕ, Bool, None, ap, sym, ◌∙◌}
use Rattle.std.specs.Prelude.{is_some}
use Rattle.std.specs.BTreeMap.{get}
use Rattle.std.specs.Ordering.{nat_cmp}
use Rattle.shore_analysis.proofs.KeptEarliest.{first_awaits, least_from, none_awaits, some_awaits}
use Rattle.shore_analysis.proofs.kept_passes.KeptPass.first_awaited.Goals as goal

pub returns-clause-none : goal.returns-clause-none
returns-clause-none c =
    let passes : ℕ → Bool = λ t. is_some (get nat_cmp c.args.self.now.running t) in
    none_awaits passes c.args.self.now.awaited c.loop-txn.first
    (sym (sym (ap (λ es. least_from passes es c.loop-txn.first) c.in-None.ensures.steps.0) ∙ c.loop-txn.invariant ∙ ap (λ es. least_from passes es None) (c.into_iter-txn-iterator.ensures.into_iter_gives ∙ c.iter-txn-items.ensures.rest)))

pub returns-clause-some : goal.returns-clause-some
returns-clause-some c =
    let passes : ℕ → Bool = λ t. is_some (get nat_cmp c.args.self.now.running t) in
    some_awaits passes c.args.self.now.awaited c.iter-txn-items.ensures.ordered c.loop-txn.first
    (sym (sym (ap (λ es. least_from passes es c.loop-txn.first) c.in-None.ensures.steps.0) ∙ c.loop-txn.invariant ∙ ap (λ es. least_from passes es None) (c.into_iter-txn-iterator.ensures.into_iter_gives ∙ c.iter-txn-items.ensures.rest)))

pub returns-clause-first : goal.returns-clause-first
returns-clause-first c =
    let passes : ℕ → Bool = λ t. is_some (get nat_cmp c.args.self.now.running t) in
    first_awaits passes c.args.self.now.awaited c.loop-txn.first
    (sym (sym (ap (λ es. least_from passes es c.loop-txn.first) c.in-None.ensures.steps.0) ∙ c.loop-txn.invariant ∙ ap (λ es. least_from passes es None) (c.into_iter-txn-iterator.ensures.into_iter_gives ∙ c.iter-txn-items.ensures.rest)))
