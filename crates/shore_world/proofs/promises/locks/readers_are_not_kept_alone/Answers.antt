use Rattle.std.proofs.Common.{◌≡◌, ◌≢◌, ◌++◌, ◌∷◌, ◌∙◌, inl, inr, ap, ℕ, suc, zero, List, [], length, subst, sym, take}
use Rattle.std.proofs.lemmas.List.Elements.{filter_map-append}
use Rattle.shore_model.specs.declared.histories.Decision.{Decision}
use Rattle.shore_model.specs.Histories.{decision_of, decisions}
use Rattle.laws_lives.proofs.LogPrefixes.{decisions_in-take}
use Rattle.laws_lives.proofs.SessionsAgree.{each_at}
use Rattle.laws_lives.specs.LogPrefixes.{decisions_in}
use Rattle.laws_lives.specs.Soundness.{decided_txn}
use Rattle.laws_lives.specs.Views.{IsAmong}
use Rattle.shore_world.specs.Exchanges.{waited_after}
use Rattle.shore_world.proofs.PromiseLemmas.{decided_records, each_alone, each_undecided, goes_on}
use Rattle.shore_world.proofs.StayLemmas.{all_served}
use Rattle.shore_world.proofs.promises.locks.readers_are_not_kept_alone.Goals as goal

-- a front that has something of the second list has all of the first
all_kept : (n : ℕ) (first second : List Decision) (d before : Decision) → IsAmong d (take n (first ++ second)) → (IsAmong d first → ⊥) → IsAmong before first
    → IsAmong before (take n (first ++ second))
all_kept zero first second d before there later earlier = absurd there
all_kept (suc n) [] second d before there later earlier = absurd earlier
all_kept (suc n) (x ∷ first) second d before (inl same) later earlier = absurd (later (inl same))
all_kept (suc n) (x ∷ first) second d before (inr there) later (inl same) = inl same
all_kept (suc n) (x ∷ first) second d before (inr there) later (inr earlier) = inr (all_kept n first second d before there (λ h. later (inr h)) earlier)

pub returns-clause-read : goal.returns-clause-read
returns-clause-read c d w o es ws session t k is some = each_alone w o es ws k session t is some

pub returns-clause-kept : goal.returns-clause-kept
returns-clause-kept c v w last o es ws events steps moves session t k served runs is some =
    let on = goes_on w o es ws k events steps moves last (all_served events served) runs in (
      on.made,
      (
        on.manager,
        λ n d before its there earlier.
            let log = on.manager.now.state.log in
            let base = length on.manager.found in
            let front = decisions_in-take base n log in
            let all : decisions_in base log ≡ decisions es ++ decisions on.made =
            sym (decided_records last o (es ++ on.made) (waited_after ws events steps) on.manager) ∙ filter_map-append decision_of es on.made in
            let kept : decisions_in base (take n log) ≡ take front.0 (decisions es ++ decisions on.made) = front.1 ∙ ap (take front.0) all in
            subst (IsAmong before) (sym kept)
            (all_kept front.0 (decisions es) (decisions on.made) d before (subst (IsAmong d) kept there)
            (λ decided. each_at (λ (x : Decision). decided_txn x ≢ t) (decisions es) d (each_undecided w o es ws k session t is some) decided its) earlier),
      ),
    )
