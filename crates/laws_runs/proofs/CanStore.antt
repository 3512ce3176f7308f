-- Every event of a manager can happen over its store: its record is appended and done, or its force made.
use Rattle.std.proofs.Common.{◌≡◌, ◌++◌, ◌+◌, List, [], ◌∷◌, refl, sym, ap, subst, ◌∙◌, length, arith, length-append, append-nil, append_assoc}
use Rattle.shore_types.specs.declared.layout.Geometry.{Geometry}
use Rattle.shore_model.specs.declared.log_records.LogRecord.{LogRecord}
use Rattle.laws_lives.specs.Recovery.{AppendRecord, ForceLog, RecoveryEvent, RecoveryState, after_append, after_force}
use Rattle.laws_calls.proofs.LongerLogs.{GoesFurther, give_up_further, settled_call_further, settled_resume_further}
use Rattle.laws_calls.specs.Events.{Called, Forced, GaveUp, HasFailed, ManagerEvent, Resumed, EventMoves, TicketAsked}
use Rattle.laws_calls.specs.States.{State}
use Rattle.laws_lives.specs.ManagerSteps.{WorksTo}
use Rattle.laws_runs.specs.StoredRuns.{IsStored, StoredState}

-- some work makes the store that of the state, with each record done
pub record CanStore (m : StoredState) (new : State) : Type 0 where
  pub works : List RecoveryEvent
  pub store : RecoveryState
  pub work : WorksTo m.store works store
  pub stored : IsStored new store
  pub redone : store.redone ≡ length store.log

-- a store that has done its records appends and does these
record AppendsAll (s : RecoveryState) (rs : List LogRecord) : Type 0 where
  works : List RecoveryEvent
  store : RecoveryState
  work : WorksTo s works store
  log : store.log ≡ s.log ++ rs
  durable : store.durable ≡ s.durable
  redone : store.redone ≡ length store.log

append_all : (s : RecoveryState) → s.redone ≡ length s.log → (rs : List LogRecord) → AppendsAll s rs
append_all s redone [] = record { works = []; store = s; work = refl; log = sym (append-nil s.log); durable = refl; redone = redone }
append_all s redone (r ∷ rs) =
    let new = after_append s r in
    let longer : length (s.log ++ r ∷ []) ≡ length s.log + 1 = length-append s.log (r ∷ []) in
    let all = append_all new (omega (arith, longer, redone)) rs in
    record {
      works = AppendRecord r ∷ all.works;
      store = all.store;
      work = (tt, new, (redone, refl), all.work);
      log = all.log ∙ append_assoc s.log (r ∷ []) rs;
      durable = all.durable;
      redone = all.redone;
    }

module _ (m : StoredState) (stored : IsStored m.state m.store) (redone : m.store.redone ≡ length m.store.log) where
  appended : (new : State) → GoesFurther m.state new → CanStore m new
  appended new h =
      let all = append_all m.store redone h.on.0 in
      record {
        works = all.works;
        store = all.store;
        work = all.work;
        stored = record { log = all.log ∙ ap (λ l. l ++ h.on.0) stored.log ∙ sym h.on.1; durable = all.durable ∙ stored.durable ∙ sym h.durable };
        redone = all.redone;
      }

  pub event_can_be_stored : (g : Geometry) (new : State) (e : ManagerEvent) → EventMoves g m.state e new → CanStore m new
  event_can_be_stored g new (Called session c step) h = appended new (settled_call_further g m.state session c step new h.1)
  event_can_be_stored g new (Resumed session step) h = appended new (settled_resume_further g m.state session step new h)
  event_can_be_stored g new (GaveUp session step) h = appended new (give_up_further m.state session step new h)
  event_can_be_stored g new (Forced n) h =
      let durable = stored.durable in
      let least = h.0 in
      let most = h.1 in
      let long : length m.store.log ≡ length m.state.log = ap length stored.log in
      record {
        works = ForceLog n ∷ [];
        store = after_force m.store n;
        work = (tt, after_force m.store n, (omega (arith, durable, least), omega (arith, most, long), refl), refl);
        stored = record { log = stored.log ∙ sym (ap (λ (x : State). x.log) h.2); durable = sym (ap (λ (x : State). x.durable) h.2) };
        redone = redone;
      }
  event_can_be_stored g new HasFailed h = appended new (subst (GoesFurther m.state) (sym h) (record { durable = refl; on = ([], sym (append-nil _)) }))
  event_can_be_stored g new (TicketAsked ticket answer) h = appended new (subst (GoesFurther m.state) (sym h.1) (record { durable = refl; on = ([], sym (append-nil _)) }))
