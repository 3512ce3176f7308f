-- How calls go on that wait, or that have a transaction.
use Rattle.laws_checkpoints.specs.CheckpointedStores.{CheckpointedStore}
use Rattle.std.proofs.Common.{◌≡◌, inl, inr, ℕ, List, None, Option, Some, Result, false, true, refl, sym, ap, subst, ◌∙◌}
use Rattle.shore_types.specs.Versions.{slot_limit}
use Rattle.std.specs.Prelude.{not, ◌==◌}
use Rattle.shore_types.specs.declared.faults.Fault.{Fault}
use Rattle.shore_types.specs.declared.layout.Geometry.{Geometry}
use Rattle.shore_types.specs.declared.locking.Granule.{Granule}
use Rattle.shore_model.specs.declared.calls.Call.{Call}
use Rattle.shore_model.specs.declared.log_records.LogRecord.{LogRecord}
use Rattle.shore_disk.specs.declared.device.Disk as disk
use Rattle.shore_log.specs.declared.tail.Tail as tail
use Rattle.shore_locks.specs.Tables.{is_waiting}
use Rattle.laws_lives.specs.Sessions.{SessionTxn}
use Rattle.laws_lives.specs.Views.{IsAmong}
use Rattle.shore_sessions.proofs.Lists.{among_filtered}
use Rattle.laws_calls.proofs.EarlyTests.{none_early}
use Rattle.laws_runs.proofs.LockBounds.{same_bounds}
use Rattle.laws_calls.proofs.SessionFailures.{IsHarmless, early_harmless}
use Rattle.laws_calls.proofs.SessionResumes.{woken}
use Rattle.laws_calls.proofs.SessionsWaiting.{no_record_awaited, woken_waits}
use Rattle.laws_calls.specs.StateChanges.{after_refusal, wait_refused}
use Rattle.laws_calls.specs.CallSteps.{CallGoesOn, MayAsk, RefusesEarly, ResumesWait}
use Rattle.laws_calls.specs.Settling.{GoesSettled, SettledCall, SettledResume, Settles}
use Rattle.shore_model.specs.declared.step.Step.{Step}
use Rattle.shore_model.specs.declared.step.Step.TheVariants.{Refused}
use Rattle.laws_calls.specs.SessionWaits.{IsDecisionWait, IsLockWait, WaitsOfSessions}
use Rattle.laws_calls.specs.States.{DoesNotWait, IsOfSession, State, Waiting}
use Rattle.shore_model.specs.declared.step.Wait.{Wait}
use Rattle.shore_model.specs.declared.step.Wait.TheVariants.{Durable, Lock}
use Rattle.shore_sessions.specs.Calls.{awaits_record, is_durable}
use Rattle.shore_sessions.specs.declared.waits.WaitingCall.{WaitingCall}
use Rattle.shore_core.specs.declared.core_calls.Core.{Core}
use Rattle.shore_core.specs.Cores.{IsSafe, geometry_of}
use Rattle.shore_core.specs.Replies.{AskedFor, Called, as_step, once_noted}
use Rattle.shore_core.proofs.Settling.{called_at_once}
use Rattle.shore_core.proofs.Taking.{stays_after, true_false}

durable_lock : (n : ℕ) (at : Granule) → ◌≡◌ {A = Wait} (Durable n) (Lock at) → ⊥
durable_lock n at e = cc

-- who waits for a record waits for that of its decision, and who waits for a lock is another call
decision_waits : (base : ℕ) (s : State) (w : Waiting) (n : ℕ) → WaitsOfSessions base s → IsAmong w s.waiting → w.wait ≡ Durable n → IsDecisionWait base s w
decision_waits base s w n waits m is = elim (waits.each w m) [ inl decision ↦ decision | inr lock ↦ absurd (durable_lock n lock.at (sym is ∙ lock.is)) ]

-- .. so its transaction is no victim
pub decision_spared : (base : ℕ) (s : State) (w : Waiting) (n : ℕ) → WaitsOfSessions base s → IsAmong w s.waiting → w.wait ≡ Durable n → w.cycle ≡ None
decision_spared base s w n waits m is = ap (λ (x : Waiting). x.cycle) (decision_waits base s w n waits m is).is

pub lock_waits : (base : ℕ) (s : State) (w : Waiting) (at : Granule) → WaitsOfSessions base s → IsAmong w s.waiting → w.wait ≡ Lock at → IsLockWait s w
lock_waits base s w at waits m is =
    elim (waits.each w m) [
      | inl decision ↦ absurd (durable_lock decision.number at (sym (subst (λ (x : Waiting). x.wait ≡ Durable decision.number) (sym decision.is) refl) ∙ is))
      | inr lock ↦ lock
    ]

-- who waits for a lock waits for no record
pub asks_lock : (w : WaitingCall) (at : Granule) → w.wait ≡ Lock at → awaits_record w ≡ false
asks_lock w at is = subst (λ (x : Wait). is_durable x ≡ false) (sym is) refl

-- what is not there is none
pub none_of : {A : Type 0} (o : Option A) → ((x : A) → o ≡ Some x → ⊥) → o ≡ None
none_of None not = refl
none_of (Some x) not = absurd (not x refl)

-- whose transaction waits in the table is no victim
pub blocked_spared : (g : Geometry) (s : State) (safe : IsSafe g s) (session : ℕ) (a : SessionTxn) → s.failed ≡ false → IsOfSession s session a → (w : Waiting) → IsAmong w s.waiting → w.session ≡ session
    → is_waiting a.txn s.locks.requests ≡ true → w.cycle ≡ None
blocked_spared g s safe session a works its w m same blocked = by w.cycle refl
  where
    clash : (cycle : List ℕ) → ◌≡◌ {A = Option (List ℕ)} (Some cycle) None → ⊥
    clash cycle e = cc

    by : (o : Option (List ℕ)) → w.cycle ≡ o → w.cycle ≡ None
    by None is = is
    by (Some cycle) is =
        let quiet =
        safe.after.sessions.locks.waits works a its.0.0
        (λ v there spared of. clash cycle (sym is ∙ ap (λ (x : Waiting). x.cycle) (safe.after.waits.once w v m there (same ∙ sym its.1 ∙ sym of)) ∙ spared)) in
        absurd (true_false (sym blocked ∙ quiet))

-- ---- a session's call that waits no more

pub safe_woken : (g : Geometry) (s : State) (safe : IsSafe g s) (session : ℕ) (a : SessionTxn) → IsOfSession s session a → is_waiting a.txn s.locks.requests ≡ false → IsSafe g (wait_refused s session)
safe_woken g s safe session a its quiet =
    let k = safe.after in
    record {
      opening = safe.opening;
      found = safe.found;
      entries = safe.entries;
      after = record {
        sessions = woken g safe.opening safe.found safe.entries s k.sessions a session its quiet;
        waits = woken_waits safe.opening safe.found safe.entries s k.sessions k.waits session
            (λ works v m of. no_record_awaited safe.opening safe.found safe.entries s k.sessions k.waits a its.0 v m (of ∙ sym its.1));
        forced = record { least = k.forced.least; most = k.forced.most; acknowledged_kept = k.forced.acknowledged_kept; tickets = k.forced.tickets };
        few = k.few;
      };
      asks = λ w at m. safe.asks w at (among_filtered (λ (v : Waiting). not (v.session == session)) w s.waiting m).0;
      roomy = record { slots = safe.roomy.slots; pages = safe.roomy.pages; log = safe.roomy.log };
      stream_bytes = safe.stream_bytes;
      leaves = record {
        as_long = safe.leaves.as_long;
        prefixes = safe.leaves.prefixes;
        counts = safe.leaves.counts;
        whole = safe.leaves.whole;
        losers = safe.leaves.losers;
        txns = safe.leaves.txns;
        locks = same_bounds g s (wait_refused s session) refl safe.leaves.locks;
      };
      inside = safe.inside;
    }

-- ---- a call of a transaction, from what refuses it before its locks on

-- a refusal before them is noted nowhere
pub early_plain : (g : Geometry) (c : Call) (f : Fault) (s : State) → RefusesEarly g c f → after_refusal f s ≡ s
early_plain g c f s refuses =
    stays_after s f (λ device. subst IsHarmless device (early_harmless g c f refuses)) (λ d offset damaged. subst IsHarmless damaged (early_harmless g c f refuses))

module _ {T V : Type 0} {G : tail.Ghosts T} {H : disk.Ghosts V} (old new : Core T V G H) (front : List ℕ) (before : List LogRecord) (s : State) (store : CheckpointedStore) (a : SessionTxn) (r : Result Step Fault) where
  -- when it is made
  pub asked_calls : s.sessions.slots ≡ slot_limit (geometry_of old).version → (session : ℕ) (c : Call) → s.failed ≡ false → DoesNotWait s session → IsOfSession s session a → a.undo.rolling ≡ None → AskedFor a c r old new front before s store
      → Called session c r old new front before s store
  asked_calls slots session c works idle its whole asked = record {
    later = asked.later;
    calls = elim asked.asks [
      | inl early ↦
          subst (λ x. SettledCall (geometry_of old) s session c (as_step x) (once_noted x asked.later)) (sym early.2)
          (called_at_once (geometry_of old) s _ session c (Refused early.0) tt
          (inr (inr (inr (inr (inr (inl (works, idle, (a, its, inr (inl (whole, inl (early.0, early.1, refl, early_plain (geometry_of old) c early.0 asked.later early.1 ∙ early.3, slots))))))))))))
      | inr goes ↦ record {
        first = goes.1.first;
        mid = goes.1.mid;
        rounds = goes.1.rounds;
        calls = inr (inr (inr (inr (inr (inl (works, idle, (a, its, inr (inl (whole, inr (inl (goes.0, goes.1.goes)))))))))));
        settles = subst (λ n. Settles (geometry_of old) goes.1.mid n goes.1.first goes.1.rounds (as_step r) (once_noted r asked.later)) its.1 goes.1.settles;
      }
    ];
    comes = asked.comes;
  }

  -- .. and when it goes on behind a wait
  pub asked_resumes : (session : ℕ) (w : Waiting) (at : Granule) → s.failed ≡ false → IsAmong w s.waiting → w.session ≡ session → w.wait ≡ Lock at → w.cycle ≡ None
      → MayAsk (geometry_of old) w.call → IsOfSession s session a → is_waiting a.txn s.locks.requests ≡ false
      → (asked : AskedFor a w.call r old new front before (wait_refused s session) store) → SettledResume (geometry_of old) s session (as_step r) (once_noted r asked.later)
  asked_resumes session w at works m same waits spared may its quiet asked =
      let goes : GoesSettled (geometry_of old) (wait_refused s session) a w.call (as_step r) (once_noted r asked.later) =
      elim asked.asks [ inl early ↦ absurd (none_early (geometry_of old) w.call early.0 may early.1) | inr goes ↦ goes.1 ] in
      inr (inr (record {
        first = goes.first;
        mid = goes.mid;
        rounds = goes.rounds;
        resumes = inr (
          w,
          m,
          same,
          inr (
            works,
            subst (λ (x : Wait). ResumesWait (geometry_of old) s w x goes.first goes.mid) (sym waits)
                (a, (its.0, its.1 ∙ sym same), inr (quiet, subst (λ n. CallGoesOn (geometry_of old) (wait_refused s n) a w.call goes.first goes.mid) (sym same) goes.goes)),
            spared,
          ),
        );
        settles = subst (λ n. Settles (geometry_of old) goes.mid n goes.first goes.rounds (as_step r) (once_noted r asked.later)) its.1 goes.settles;
      }))
