-- The recovery numbers of a heap's pages while a restart works on them.
use Rattle.std.proofs.Common.{◌≡◌, ◌≤◌, ℕ, List, [], ◌∷◌, ◌++◌, Option, None, Some, map, refl, sym, ap, subst, ◌∙◌, length}
use Rattle.std.specs.List.{AllByRecursion}
use Rattle.std.specs.Prelude.{IsSomeAnd, slice_get}
use Rattle.shore_model.specs.declared.log_records.LogRecord.{LogRecord}
use Rattle.shore_disk.specs.declared.device.Disk.{Ghosts}
use Rattle.shore_pool.specs.Pools.{PoolHolds}
use Rattle.shore_heap.specs.declared.heap.Heap.{Heap}
use Rattle.shore_heap.specs.Heaps.{StayInPlace, geometry_of}
use Rattle.laws_lives.specs.Recovery.{AppendRecord, FlushPage, ForceLog, IsRecoverable, LeadsTo, LosePower, RecoveryEvent, RecoveryState, RedoRecord, after_force, after_redo}
use Rattle.laws_lives.specs.Restarts.{IsRestartStep, RestartsTo}
use Rattle.laws_checkpoints.specs.CheckpointedStores.{CheckpointedLeadTo, CheckpointedStore, StoreEvent}
use Rattle.laws_checkpoints.specs.RecoveryNumbers.{RecoveryNumbers, recovery_after}
use Rattle.laws_runs.specs.CheckpointedStays.{LosesNoPower, RestartsBehind}
use Rattle.laws_heaps.specs.HeapRecoveries.{HasRecoveries}
use Rattle.laws_heaps.specs.LoggedHeaps.{IsStoreOf}
use Rattle.laws_heaps.proofs.Cleaned.{cleaned_by}
use Rattle.laws_heaps.proofs.OneStore.{one_store}
use Rattle.shore_restart.specs.Standing.{Notes, SameInPlace, resting}
use Rattle.shore_restart.proofs.Paths.{works_lose_none}

-- one restart behind another
pub behind_on : (c : CheckpointedStore) (works : List RecoveryEvent) (mid : CheckpointedStore) (more : List RecoveryEvent) (last : CheckpointedStore)
    → RestartsBehind c works mid → RestartsBehind mid more last → RestartsBehind c (works ++ more) last
behind_on c [] mid more last one two = subst (λ (x : CheckpointedStore). RestartsBehind x more last) one two
behind_on c (e ∷ works) mid more last one two = (one.0, one.1, one.2, one.3, behind_on (record c { store = one.2; recovery = recovery_after c.store e c.recovery }) works mid more last one.4 two)

-- an event leads to one store
redone_once : (s a b : RecoveryState) (o : Option LogRecord) → IsSomeAnd o (λ r. a ≡ after_redo s r) → IsSomeAnd o (λ r. b ≡ after_redo s r) → a ≡ b
redone_once s a b None one two = absurd one
redone_once s a b (Some r) one two = one ∙ sym two

leads_once : (s : RecoveryState) (e : RecoveryEvent) (a b : RecoveryState) → LeadsTo s e a → LeadsTo s e b → a ≡ b
leads_once s (AppendRecord r) a b one two = one.1 ∙ sym two.1
leads_once s RedoRecord a b one two = redone_once s a b (slice_get s.log s.redone) one two
leads_once s (ForceLog n) a b one two = one.2 ∙ sym two.2
leads_once s (FlushPage p) a b one two = one.1 ∙ sym two.1
leads_once s (LosePower n left begin) a b one two = one.1 ∙ sym two.1

-- steps beside a checkpoint that are a restart's
behind_of : (c : CheckpointedStore) (works : List RecoveryEvent) (last : CheckpointedStore) → CheckpointedLeadTo c (map StoreEvent works) last → RestartsTo c.store works last.store → AllByRecursion LosesNoPower works
    → RestartsBehind c works last
behind_of c [] last leads restarts none = leads
behind_of c (e ∷ works) last leads restarts none =
    let goes = leads.1 in
    let next : CheckpointedStore = record c { store = goes.1; recovery = recovery_after c.store e c.recovery } in
    let one = leads_once c.store e restarts.1 goes.1 restarts.2 goes.2 in (
      restarts.0,
      none.0,
      goes.1,
      goes.2,
      behind_of next works last (subst (λ (x : CheckpointedStore). CheckpointedLeadTo x (map StoreEvent works) last) goes.3 leads.2)
          (subst (λ (x : RecoveryState). RestartsTo x works last.store) one restarts.3) none.1,
    )

module _ {V : Type 0} {H : Ghosts V} where
  pub notes_none : (heap : Heap V H) (s : RecoveryState) → Notes heap heap s s
  notes_none heap s a recovery has = ([], recovery, refl, has)

  pub notes_on : (old mid new : Heap V H) (s between later : RecoveryState) → Notes old mid s between → Notes mid new between later → Notes old new s later
  notes_on old mid new s between later one two a recovery has =
      let first = one a recovery has in
      let second = two a first.1 first.3 in
      (first.0 ++ second.0, second.1, behind_on (resting a s recovery) first.0 (resting a between first.1) second.0 (resting a later second.1) first.2 second.2, second.3)

  -- a step that notes what the heap does
  pub notes_event : (old new : Heap V H) (s : RecoveryState) (e : RecoveryEvent) (later : RecoveryState) → IsRestartStep s e → LosesNoPower e → LeadsTo s e later
      → ((recovery : RecoveryNumbers) → HasRecoveries old recovery → HasRecoveries new (recovery_after s e recovery)) → Notes old new s later
  notes_event old new s e later step none leads noted a recovery has = (e ∷ [], recovery_after s e recovery, (step, none, later, leads, refl), noted recovery has)

  -- a force, of which the heap knows nothing
  pub notes_forced : (heap : Heap V H) (s : RecoveryState) (n : ℕ) → s.durable ≤ n → n ≤ length s.log → Notes heap heap s (after_force s n)
  notes_forced heap s n low high = notes_event heap heap s (ForceLog n) (after_force s n) tt tt (low, high, refl) (λ recovery has. has)

  -- pages that are written back
  module _ (old new : Heap V H) (seen : ℕ) (front : List ℕ) (disk left : ℕ → List ℕ) (s later : RecoveryState) where
    pub pages_noted : IsStoreOf old disk s → IsRecoverable s → PoolHolds new.pool front left → StayInPlace old new seen disk left → seen ≤ s.durable → geometry_of new ≡ geometry_of old
        → IsStoreOf new left later → SameInPlace s later → Notes old new s later
    pages_noted store kept holds stay low geometry now same a recovery has =
        let done = cleaned_by old new seen front disk left (resting a s recovery) store has kept holds stay low geometry in
        let one = one_store new left done.1.store later done.5 now in
        let volume : done.1.store.volume ≡ later.volume = λ i p. record { number = (one p).1.number i; slots = λ k. (one p).1.slots k i } in
        let store_is : ◌≡◌ {A = RecoveryState} (record s { volume = done.1.store.volume }) later =
        λ i. record { log = sym same.log i; durable = sym same.durable i; redone = sym same.redone i; volume = volume i; in_place = sym same.in_place i } in
        let last : done.1 ≡ resting a later done.1.recovery = done.7 ∙ ap (λ (x : RecoveryState). resting a x done.1.recovery) store_is in (
          done.0,
          done.1.recovery,
          subst (RestartsBehind (resting a s recovery) done.0) last (behind_of (resting a s recovery) done.0 done.1 done.2 done.4 (works_lose_none s done.0 done.1.store done.3)),
          done.6,
        )
