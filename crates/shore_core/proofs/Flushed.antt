-- What a step of the flush leaves of a state and of its store.
use Rattle.std.proofs.Common.{◌≡◌, ◌⊎◌, ◌≤◌, ◌+◌, ◌∙◌, ℕ, List, [], ◌∷◌, MatchResult, inl, inr, true, false, length, refl, sym, ap, subst, arith}
use Rattle.shore_types.specs.declared.faults.Fault.{Fault}
use Rattle.shore_types.specs.declared.faults.Fault.TheVariants as fault
use Rattle.shore_model.specs.declared.log_records.LogRecord.{LogRecord}
use Rattle.shore_disk.specs.declared.device.Disk as disk
use Rattle.shore_log.specs.declared.tail.Tail as tail
use Rattle.shore_heap.specs.Heaps.{KeepsSlots, Shows, WroteBack}
use Rattle.laws_lives.specs.ManagerSteps.{WorksTo}
use Rattle.laws_lives.specs.Recovery.{AppendRecord, FlushPage, ForceLog, LosePower, RecoveryEvent, RecoveryState, RedoRecord, after_force}
use Rattle.laws_lives.proofs.Lists.{length-push}
use Rattle.laws_calls.specs.StateChanges.{with_failure}
use Rattle.laws_calls.specs.States.{State, page_slots}
use Rattle.shore_model.specs.declared.step.Step.{Step}
use Rattle.shore_model.specs.declared.step.Step.TheVariants.{Refused}
use Rattle.shore_txn.specs.Transactions.{kept_in}
use Rattle.shore_sessions.specs.declared.control.Control.{Control}
use Rattle.shore_sessions.specs.Controls.{txns_in}
use Rattle.shore_core.specs.declared.core_calls.Core.{Core}
use Rattle.shore_core.specs.Cores.{IsIn, IsOver, control_of, durable_of, has_failed, heap_of, tail_of, txns_of}
use Rattle.shore_core.specs.Flushing.{AreFlushes, FlushMoves, FlushSteps}
use Rattle.shore_core.specs.Replies.{OnlyReads, fault_at}
use Rattle.laws_checkpoints.specs.CheckpointedStores.{CheckpointedStore}
use Rattle.laws_checkpoints.specs.RecoveryNumbers.{recovery_after}
use Rattle.shore_core.specs.Stores.{WorksOn}
use Rattle.shore_core.proofs.Works.{works_to}
use Rattle.shore_core.proofs.Coming.{beside_same, kept_after, written_back}
use Rattle.shore_core.proofs.Taking.{in_failed, over_failed}

-- ---- works that append nothing and force nothing more

-- a log only grows, and so does what is durable of it
works_grow : (s : RecoveryState) (works : List RecoveryEvent) (last : RecoveryState) → WorksTo s works last → (length s.log ≤ length last.log) × (s.durable ≤ last.durable)
works_grow s [] last is = (omega (arith, ap (λ (x : RecoveryState). length x.log) is), omega (arith, ap (λ (x : RecoveryState). x.durable) is))
works_grow s (AppendRecord r ∷ works) last (work, new, leads, rest) =
    let more = works_grow new works last rest in
    let log : length new.log ≡ length s.log + 1 = ap (λ (x : RecoveryState). length x.log) leads.1 ∙ length-push s.log r in
    (omega (arith, more.0, log), omega (arith, more.1, ap (λ (x : RecoveryState). x.durable) leads.1))
works_grow s (ForceLog n ∷ works) last (work, new, leads, rest) =
    let more = works_grow new works last rest in
    (omega (arith, more.0, ap (λ (x : RecoveryState). length x.log) leads.2), omega (arith, more.1, leads.0, ap (λ (x : RecoveryState). x.durable) leads.2))
works_grow s (FlushPage p ∷ works) last (work, new, leads, rest) =
    let more = works_grow new works last rest in
    (omega (arith, more.0, ap (λ (x : RecoveryState). length x.log) leads.1), omega (arith, more.1, ap (λ (x : RecoveryState). x.durable) leads.1))
works_grow s (RedoRecord ∷ works) last (work, new, leads, rest) = absurd work
works_grow s (LosePower n left begin ∷ works) last (work, new, leads, rest) = absurd work

-- so with the same log, as much of it durable, pages were flushed and nothing else was done
flushes_alone : (c : CheckpointedStore) (works : List RecoveryEvent) (last : CheckpointedStore) → WorksOn c works last → last.store.log ≡ c.store.log → last.store.durable ≡ c.store.durable
    → (flushes : List RecoveryEvent) × AreFlushes flushes × WorksOn c flushes last
flushes_alone c [] last is log durable = ([], tt, is)
flushes_alone c (AppendRecord r ∷ works) last (work, new, leads, rest) log durable =
    let more = works_grow new works last.store (works_to (record c { store = new; recovery = recovery_after c.store (AppendRecord r) c.recovery }) works last rest) in
    let longer : length new.log ≡ length c.store.log + 1 = ap (λ (x : RecoveryState). length x.log) leads.1 ∙ length-push c.store.log r in
    absurd (omega (arith, more.0, longer, ap length log))
flushes_alone c (ForceLog n ∷ works) last (work, new, leads, rest) log durable =
    let more = works_grow new works last.store (works_to (record c { store = new }) works last rest) in
    let forced : new.durable ≡ n = ap (λ (x : RecoveryState). x.durable) leads.2 in
    let no_more : n ≡ c.store.durable = omega (arith, more.1, leads.0, forced, durable) in
    let same : new ≡ c.store = leads.2 ∙ ap (after_force c.store) no_more in
    flushes_alone c works last (subst (λ (x : RecoveryState). WorksOn (record c { store = x }) works last) same rest) log durable
flushes_alone c (FlushPage p ∷ works) last (work, new, leads, rest) log durable =
    let on = flushes_alone (record c { store = new; recovery = recovery_after c.store (FlushPage p) c.recovery }) works last rest
    (log ∙ sym (ap (λ (x : RecoveryState). x.log) leads.1)) (durable ∙ sym (ap (λ (x : RecoveryState). x.durable) leads.1)) in
    (FlushPage p ∷ on.0, (tt, on.1), (tt, new, leads, on.2))
flushes_alone c (RedoRecord ∷ works) last (work, new, leads, rest) log durable = absurd work
flushes_alone c (LosePower n left begin ∷ works) last (work, new, leads, rest) log durable = absurd work

-- ---- steps

module _ {T V : Type 0} {G : tail.Ghosts T} {H : disk.Ghosts V} where
  -- a fault that the step is refused with
  pub refused_wrote : (old new : Core T V G H) (front : List ℕ) (disk : ℕ → List ℕ) (step : Step) (f : Fault) → step ≡ Refused f
      → (f ≡ fault.Device) ⊎ WroteBack (heap_of old) (heap_of new) (durable_of old) front disk
      → MatchResult (fault_at step) (λ _. WroteBack (heap_of old) (heap_of new) (durable_of old) front disk) (λ e. (e ≡ fault.Device) ⊎ WroteBack (heap_of old) (heap_of new) (durable_of old) front disk)
  refused_wrote old new front disk step f is wrote =
      subst (λ it. MatchResult (fault_at it) (λ _. WroteBack (heap_of old) (heap_of new) (durable_of old) front disk) (λ e. (e ≡ fault.Device) ⊎ WroteBack (heap_of old) (heap_of new) (durable_of old) front disk)) (sym is) wrote

  -- once a device has failed
  pub steps_refused : (core : Core T V G H) (front : List ℕ) (disk : ℕ → List ℕ) (before : List LogRecord) (s : State) (store : CheckpointedStore)
      → IsIn front disk before core s → IsOver disk core s store → has_failed core ≡ true → FlushSteps (Refused fault.Failed) core front before s store
  steps_refused core front disk before s store is over failed = record {
    later = s;
    moves = inl (is.beside.parts.failed_is ∙ failed, refl, refl);
    comes = record { left = disk; is_in = is; works = []; after = store; work = refl; over = over };
    flushes = tt;
  }

  module _ (old new : Core T V G H) (front : List ℕ) (disk : ℕ → List ℕ) (before : List LogRecord) (s : State) (store : CheckpointedStore)
      (is : IsIn front disk before old s) (over : IsOver disk old s store) (running : has_failed old ≡ false) where
    works : s.failed ≡ false
    works = is.beside.parts.failed_is ∙ running

    -- pages were written back, and all are in place as they were
    pub steps_written : (step : Step) → FlushMoves s step s → OnlyReads old new → KeepsSlots (kept_in (txns_of old)) (heap_of old) (heap_of new) (durable_of old) front disk (page_slots s)
        → FlushSteps step new front before s store
    steps_written step moves reads (left, shows, stay) =
        let durable : durable_of old ≡ store.store.durable = sym (over.kept.stored.durable ∙ is.beside.parts.durable_is) in
        let back = written_back (heap_of old) (heap_of new) (durable_of old) front disk left store (over.pages works) over.kept.recoverable shows.holds stay (omega (arith, durable)) reads.volume.geometry in
        let alone = flushes_alone store back.0 back.1 back.2 back.4 back.5 in
        record {
          later = s;
          moves = moves;
          comes = record {
            left = left;
            is_in = record {
              beside = beside_same old new before s reads.tail reads.control reads.durable reads.failed is.beside;
              pages = λ w. subst (λ (t : Control). Shows (kept_in (txns_in t)) (heap_of new) front left (page_slots s)) (sym reads.control) shows;
            };
            works = alone.0;
            after = back.1;
            work = alone.2;
            over = record { kept = kept_after s store back.1 back.0 over.kept back.2 back.4 back.5; pages = λ w. back.3 };
          };
          flushes = alone.1;
        }

    -- the volume has failed
    pub steps_failed : (f : Fault) → f ≡ fault.Device → tail_of new ≡ tail_of old → control_of new ≡ control_of old → durable_of new ≡ durable_of old → has_failed new ≡ true
        → FlushSteps (Refused f) new front before s store
    steps_failed f device tail txns durable failed = record {
      later = with_failure s;
      moves = inr (works, device, refl);
      comes = record {
        left = disk;
        is_in = in_failed old new front disk before s is.beside tail txns durable failed;
        works = [];
        after = store;
        work = refl;
        over = over_failed new disk s store over.kept;
      };
      flushes = tt;
    }
