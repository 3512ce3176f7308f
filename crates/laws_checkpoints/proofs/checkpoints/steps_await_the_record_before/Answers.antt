use Rattle.std.proofs.Common.{◌≡◌, inl, inr, ◌≤◌, ℕ, Some, sym, ap, subst, ◌∙◌, length}
use Rattle.laws_lives.proofs.Lists.{length-push}
use Rattle.laws_checkpoints.specs.Checkpoints.{Checkpoint}
use Rattle.laws_checkpoints.specs.CheckpointedStores.{AnchorLogged, CheckpointStage, CheckpointedStore, EndLogged, awaited_by}
use Rattle.laws_checkpoints.proofs.checkpoints.steps_await_the_record_before.Goals as goal

same_ended : (stage : CheckpointStage) (c : Checkpoint) (n k : ℕ) → stage ≡ EndLogged c k → awaited_by stage ≡ Some n → k ≡ n
same_ended stage c n k is awaits = cc

same_named : (stage : CheckpointStage) (c : Checkpoint) (n k : ℕ) → stage ≡ AnchorLogged c k → awaited_by stage ≡ Some n → k ≡ n
same_named stage c n k is awaits = cc

pub returns-clause-ended : goal.returns-clause-ended
returns-clause-ended x s new h = ap (λ (t : CheckpointedStore). awaited_by t.stage) h.3
    ∙ ap Some (sym (ap (λ (t : CheckpointedStore). length t.store.log) h.3 ∙ length-push s.store.log (_)))

pub returns-clause-named : goal.returns-clause-named
returns-clause-named x s new h = ap (λ (t : CheckpointedStore). awaited_by t.stage) h.5
    ∙ ap Some (sym (ap (λ (t : CheckpointedStore). length t.store.log) h.5 ∙ length-push s.store.log (_)))

pub returns-clause-begun : goal.returns-clause-begun
returns-clause-begun x s new next txns dirty h = ap (λ (t : CheckpointedStore). awaited_by t.stage) h.3

pub returns-clause-moved : goal.returns-clause-moved
returns-clause-moved x s new tail h = ap (λ (t : CheckpointedStore). awaited_by t.stage) h.6

pub returns-clause-goes_on : goal.returns-clause-goes_on
returns-clause-goes_on x s new n (inl h) awaits = subst (λ k. k ≤ s.store.durable) (same_ended s.stage h.0 n h.1 h.2 awaits) h.3
returns-clause-goes_on x s new n (inr h) awaits = subst (λ k. k ≤ s.store.durable) (same_named s.stage h.1.0 n h.1.1 h.1.2 awaits) h.1.3
