-- A resolve to roll back, from its decision on: the state is a safe one, and wherever it is stopped the steps that were made are kept.
use Rattle.laws_checkpoints.specs.CheckpointedStores.{CheckpointedStore}
use Rattle.std.proofs.Common.{◌≡◌, inl, inr, ⊎_elim, ◌∷◌, ◌<◌, ◌≤◌, ℕ, List, Bool, true, false, cond, Result, Ok, Err, IsErrAnd, refl, sym, ap, subst, ◌∙◌, arith}
use Rattle.std.specs.Prelude.{◌==◌}
use Rattle.shore_types.specs.declared.faults.Fault.{Fault}
use Rattle.shore_types.specs.declared.faults.Fault.TheVariants as fault
use Rattle.shore_types.specs.declared.ids.PageId.{PageId}
use Rattle.shore_types.specs.declared.layout.Geometry.{Geometry}
use Rattle.shore_model.specs.declared.calls.Answer.{Answer}
use Rattle.shore_model.specs.declared.calls.Answer.TheVariants.{Resolved}
use Rattle.shore_model.specs.declared.calls.Call.{Call}
use Rattle.shore_model.specs.declared.calls.Call.TheVariants as call
use Rattle.shore_model.specs.declared.calls.Outcome.TheVariants as outcome
use Rattle.shore_model.specs.declared.log_records.LogRecord.{LogRecord}
use Rattle.shore_model.specs.declared.rollbacks.Rollback.TheVariants.{Whole}
use Rattle.shore_model.specs.declared.sessions.SessionState.{SessionState}
use Rattle.shore_model.specs.declared.step.Step.{Step}
use Rattle.shore_model.specs.declared.step.Step.TheVariants.{Done, Nothing, Refused, Waits}
use Rattle.shore_model.specs.declared.step.Wait.{Wait}
use Rattle.shore_model.specs.declared.step.Wait.TheVariants.{Durable}
use Rattle.shore_model.specs.Histories.{free}
use Rattle.shore_disk.specs.declared.device.Disk as disk
use Rattle.shore_log.specs.declared.tail.Tail as tail
use Rattle.shore_pool.specs.Pools.{HasInPlace, PoolHolds}
use Rattle.shore_heap.specs.declared.heap.Heap.{Heap}
use Rattle.shore_heap.specs.Heaps.{pool_of}
use Rattle.laws_lives.proofs.Lists.{within_or_beyond}
use Rattle.laws_lives.specs.Sessions.{ResolvedTxn, SessionTxn}
use Rattle.laws_lives.specs.Views.{IsAmong}
use Rattle.laws_calls.proofs.EndedResolves.{session_free}
use Rattle.laws_calls.proofs.ResolveStays.{HasDecided, has_decided, made_by}
use Rattle.laws_calls.specs.CallSteps.{CallStep}
use Rattle.laws_calls.specs.Resolves.{DecidesRollback, IsRollingBack, MayResolve, resolve_told, resolved_by_rollback, rollback_done, rollback_number}
use Rattle.laws_calls.specs.Rollbacks.{Interrupts, IsUnwound}
use Rattle.laws_calls.specs.StateChanges.{after_refusal, decision_waiting}
use Rattle.laws_calls.specs.States.{DoesNotWait, State}
use Rattle.shore_core.specs.declared.core_calls.Core.{Core}
use Rattle.shore_core.specs.Callers.{MayPutBack}
use Rattle.shore_core.specs.Cores.{CoreComesTo, IsSafe, begins_of, durable_of, faults_of, geometry_of, has_failed, heap_of, last_of}
use Rattle.shore_core.specs.Replies.{MakesNoCall, Replied, Serves}
use Rattle.shore_core.specs.Resolving.{AnswersRollback, ComesBut}
use Rattle.shore_core.specs.Undoing.{Rewinds, Unwinds}
use Rattle.shore_core.proofs.Coming.{StaysRefused}
use Rattle.shore_core.proofs.Decided.{resolve_steps}
use Rattle.shore_core.proofs.Ended.{told_then}
use Rattle.shore_core.proofs.Keeping.{leaves_nothing}
use Rattle.shore_core.proofs.Rewinding.{earned_rewound, forced_rewound, leaves_rewound}
use Rattle.shore_core.proofs.Rolling.{unwound_of}
use Rattle.shore_core.proofs.SafeCalls.{safe_stopped}
use Rattle.shore_core.proofs.Serving.{cause_then, no_call_then, nothing_called}

module _ (g : Geometry) (s : State) (safe : IsSafe g s) (session : ℕ) (global : List ℕ) (works : s.failed ≡ false) (idle : DoesNotWait s session) (may : MayResolve s session global)
    (b : SessionTxn) (d : State) (by : DecidesRollback s global b d) where
  abbrev pub call_is : Call
  call_is = call.Resolve global outcome.Abort

  has : HasDecided g safe.opening safe.found safe.entries s safe.after session global b d (made_by s global b d by)
  has = has_decided g safe.opening safe.found safe.entries s safe.after session global b d by

  pub rolls_back : IsRollingBack d b global
  rolls_back = has.rolls

  pub still_works : d.failed ≡ false
  still_works =
      let same : d.failed ≡ s.failed = elim by [ inl h ↦ ap (λ (x : State). x.failed) h.3 | inr h ↦ ap (λ (x : State). x.failed) h.1 ] in
      same ∙ works

  pub still_idle : DoesNotWait d session
  still_idle w m = idle w (subst (IsAmong w) has.waiting m)

  -- stopped on the way, it is a step of the manager
  pub stopped : (f : Fault) (mid : State) → IsUnwound d b Whole mid → Interrupts mid f → CallStep g s session call_is (Refused f) (after_refusal f mid)
  stopped f mid unwound why = resolve_steps g s session global outcome.Abort (Refused f) (after_refusal f mid) works idle (inr (may, (b, d, by, (mid, unwound, why, refl))))

  pub decided_safe : IsSafe g d
  decided_safe = safe_stopped g s safe session call_is d (stopped fault.Memory d (inl refl) (inl refl)) has.waiting

  -- its session is in no transaction then: so it would be once the resolve is answered, or waits
  pub outside : d.sessions.seats session ≡ free
  outside = ⊎_elim answered waits (within_or_beyond (rollback_number b.txn d.log) d.durable)
    where
      same_either : (c : Bool) (p : SessionState) → cond c p p ≡ p
      same_either true p = refl
      same_either false p = refl

      answered : rollback_number b.txn d.log ≤ d.durable → d.sessions.seats session ≡ free
      answered told =
          let new = resolve_told (rollback_done d b) session (resolved_by_rollback b global) in
          sym (same_either (session == session) (d.sessions.seats session))
          ∙ session_free g safe.opening safe.found safe.entries s safe.after session global outcome.Abort (Done Resolved) new tt
          (resolve_steps g s session global outcome.Abort (Done Resolved) new works idle (inr (may, (b, d, by, (told, refl, refl)))))

      waits : d.durable < rollback_number b.txn d.log → d.sessions.seats session ≡ free
      waits later =
          let number = rollback_number b.txn d.log in
          let new : State = record (rollback_done d b) { waiting = decision_waiting session call_is number ∷ d.waiting } in
          session_free g safe.opening safe.found safe.entries s safe.after session global outcome.Abort (Waits (Durable number)) new tt
          (resolve_steps g s session global outcome.Abort (Waits (Durable number)) new works idle (inr (may, (b, d, by, (later, refl, refl)))))

  -- so its call may put the changes back
  pub may_put_back : MayPutBack d session b Whole
  may_put_back = inr (global, inl outside, rolls_back, refl)

  -- ---- over cores

  -- what comes behind the decision, and what that is from the beginning of the call
  module _ {T V : Type 0} {G : tail.Ghosts T} {H : disk.Ghosts V} (old new : Core T V G H) (front : List ℕ) (before : List LogRecord) (store inner : CheckpointedStore) (geometry : geometry_of old ≡ g) where
    -- it was stopped
    pub stopped_replied : ((later : State) (f : Fault) → StaysRefused new front before later inner f → StaysRefused new front before later store f) → (r : Result Step Fault) (f : Fault) → IsErrAnd r (λ e. e ≡ f)
        → Unwinds new b Whole 0 (Err f) front before d inner → Replied session call_is r old new front before s store
    stopped_replied behind (Ok step) f same h = absurd same
    stopped_replied behind (Err e) f same (mid, left, down, more, why, stays) = record {
      later = mid;
      replies = subst (λ (it : Geometry). CallStep it s session call_is (Refused e) (after_refusal e mid)) (sym geometry)
          (subst (λ (x : Fault). CallStep g s session call_is (Refused x) (after_refusal x mid)) (sym same) (stopped f mid (unwound_of d b Whole left mid more down) why));
      comes = subst (λ (x : Fault). StaysRefused new front before mid store x) (sym same) (behind mid f stays);
    }

    -- it came through: it is answered, or waits for the decision
    module _ (behind : (later : State) → CoreComesTo new front before inner later → CoreComesTo new front before store later) (r : ResolvedTxn) (its : r ≡ resolved_by_rollback b global) (ended : State) (done : ended ≡ rollback_done d b)
        (number : ℕ) (its_number : number ≡ rollback_number b.txn d.log) where
      abbrev waits_for : State
      waits_for = record ended { waiting = decision_waiting session (call.Resolve r.global r.outcome) number ∷ ended.waiting }

      told_step : (answer : Answer) → number ≤ ended.durable → answer ≡ Resolved → CallStep g s session call_is (Done answer) (resolve_told ended session r)
      told_step answer told is =
          resolve_steps g s session global outcome.Abort (Done answer) (resolve_told ended session r) works idle (inr (
            may,
            (
              b,
              d,
              by,
              (
                subst (λ n. n ≤ d.durable) its_number (subst (λ (x : State). number ≤ x.durable) done told),
                is,
                ap (λ (x : State). resolve_told x session r) done ∙ ap (resolve_told (rollback_done d b) session) its,
              ),
            ),
          ))

      waits_step : (wait : Wait) → ended.durable < number → wait ≡ Durable number → CallStep g s session call_is (Waits wait) waits_for
      waits_step wait later is =
          resolve_steps g s session global outcome.Abort (Waits wait) waits_for works idle (inr (
            may,
            (
              b,
              d,
              by,
              (
                subst (λ n. d.durable < n) its_number (subst (λ (x : State). x.durable < number) done later),
                is ∙ ap Durable its_number,
                ap (λ (x : State). record x { waiting = decision_waiting session (call.Resolve r.global r.outcome) number ∷ x.waiting }) done
                    ∙ ap (λ (q : ResolvedTxn). record (rollback_done d b) { waiting = decision_waiting session (call.Resolve q.global q.outcome) number ∷ d.waiting }) its
                    ∙ ap (λ n. record (rollback_done d b) { waiting = decision_waiting session call_is n ∷ d.waiting }) its_number,
              ),
            ),
          ))

      pub through_replied : (four : Core T V G H) (one : ComesBut r four front before inner ended) (step : Step) → AnswersRollback new session r number step front before ended one.after
          → Replied session call_is (Ok step) old new front before s store
      through_replied four one (Done answer) (told, is, comes) = record {
        later = resolve_told ended session r;
        replies = subst (λ (it : Geometry). CallStep it s session call_is (Done answer) (resolve_told ended session r)) (sym geometry) (told_step answer told is);
        comes = behind (resolve_told ended session r) (told_then r four new front before ended (resolve_told ended session r) inner one comes);
      }
      through_replied four one (Waits wait) (later, is, comes) = record {
        later = waits_for;
        replies = subst (λ (it : Geometry). CallStep it s session call_is (Waits wait) waits_for) (sym geometry) (waits_step wait later is);
        comes = behind waits_for (told_then r four new front before ended waits_for inner one comes);
      }
      through_replied four one (Refused f) h = absurd h
      through_replied four one Nothing h = absurd h

-- all that is left is put back
pub none_less : (n : ℕ) → 0 ≤ n
none_less n = omega arith

-- ---- what stands beside its answer

-- what has changed before a call that makes no call of the device is nothing of the pages
pub no_call_behind : {T V : Type 0} {G : tail.Ghosts T} {H : disk.Ghosts V} (old mid new : Core T V G H) → MakesNoCall mid new → heap_of mid ≡ heap_of old → durable_of mid ≡ durable_of old → begins_of mid ≡ begins_of old
    → has_failed mid ≡ has_failed old → MakesNoCall old new
no_call_behind old mid new after heap durable first failed = no_call_then old mid new (nothing_called old mid heap durable first failed) after

-- A call that makes no call of the device and leaves the pages, though it may have logged a record, and then one that rolls back.
module _ {T V : Type 0} {G : tail.Ghosts T} {H : disk.Ghosts V} (old mid new : Core T V G H) (first : MakesNoCall old mid) (heap : heap_of mid ≡ heap_of old) (longer : last_of old ≤ last_of mid) where
  still_rewinds : Rewinds old mid
  still_rewinds front disk holds = record {
    left = disk;
    holds = subst (λ (h : Heap V H). PoolHolds (pool_of h) front disk) (sym heap) holds;
    may = λ id has. inl refl;
    in_place = λ id has number images here. inl (subst (λ (h : Heap V H). HasInPlace (pool_of h) disk id number images) heap here);
  }

  pub serves_behind : {A : Type 0} (IsRead : PageId → Type 0) (r : Result A Fault) → Serves IsRead new r mid new → Serves IsRead new r old new
  serves_behind IsRead r serves =
      let keeps = first.keeps in
      let told : durable_of old ≤ last_of mid = let below = old.forced in omega (arith, below, longer) in
      record {
        volume = record {
          geometry = serves.volume.geometry ∙ keeps.volume.geometry;
          honest = serves.volume.honest ∙ keeps.volume.honest;
          size = serves.volume.size ∙ keeps.volume.size;
        };
        durable = serves.durable ∙ keeps.durable;
        first = serves.first ∙ keeps.first;
        any_moment = leaves_rewound old mid keeps.volume.geometry keeps.durable new (leaves_nothing old mid first.history) still_rewinds serves.any_moment;
        damaged = earned_rewound old mid keeps.volume.geometry keeps.durable longer told IsRead r still_rewinds serves.damaged;
        forced = forced_rewound old mid new r still_rewinds serves.forced;
        cause = cause_then r (faults_of old) (faults_of mid) (faults_of new) first.faults serves.cause;
      }
