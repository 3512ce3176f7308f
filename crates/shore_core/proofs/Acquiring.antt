-- What a call comes to that asks for its lock.
use Rattle.laws_checkpoints.specs.CheckpointedStores.{CheckpointedStore}
use Rattle.std.proofs.Common.{◌≡◌, ◌<◌, inl, inr, ℕ, List, [], Result, Option, None, Some, Ok, Err, IsErrAnd, map, refl, sym, ap, subst}
use Rattle.shore_types.specs.declared.faults.Fault.{Fault}
use Rattle.shore_types.specs.declared.faults.Fault.TheVariants as fault
use Rattle.shore_types.specs.declared.layout.Geometry.{Geometry}
use Rattle.shore_types.specs.declared.locking.Granule.{Granule}
use Rattle.shore_model.specs.declared.calls.Call.{Call}
use Rattle.shore_model.specs.declared.log_records.LogRecord.{LogRecord}
use Rattle.shore_disk.specs.declared.device.Disk as disk
use Rattle.shore_log.specs.declared.tail.Tail as tail
use Rattle.shore_path.specs.declared.answers.Acquired.{Acquired}
use Rattle.shore_path.specs.declared.answers.Acquired.TheVariants as acquire
use Rattle.laws_lives.specs.Sessions.{SessionTxn}
use Rattle.laws_calls.specs.StateChanges.{after_refusal}
use Rattle.laws_calls.specs.CallSteps.{MayAsk, RefusesEarly}
use Rattle.laws_calls.specs.Settling.{GoesSettled, WaitsForNoLock}
use Rattle.laws_calls.specs.States.{DoesNotWait, State}
use Rattle.laws_lives.specs.Views.{IsAmong}
use Rattle.shore_txn.specs.Txns.{last_of}
use Rattle.shore_txn.specs.declared.txn.Txn.{Txn}
use Rattle.shore_txn.proofs.OneOfMany.{among_map, map_among}
use Rattle.shore_sessions.proofs.WaitSteps.{free_waits_not}
use Rattle.shore_sessions.specs.Controls.{HasNoWait, waits_in}
use Rattle.shore_sessions.specs.Noting.{IsOfNoDevice}
use Rattle.shore_sessions.specs.Standing.{HasControl}
use Rattle.shore_sessions.specs.declared.control.Control.{Control}
use Rattle.shore_model.specs.declared.step.Step.{Step}
use Rattle.shore_model.specs.declared.step.Step.TheVariants.{Done, Nothing, Refused, Waits}
use Rattle.shore_model.specs.declared.step.Wait.TheVariants.{Lock}
use Rattle.shore_core.specs.declared.core_calls.Core.{Core}
use Rattle.shore_core.specs.Cores.{CoreComesTo, geometry_of}
use Rattle.shore_core.specs.Replies.{AskedFor, IsServedBehind, as_step}
use Rattle.shore_core.proofs.Taking.{stays_after}

-- ---- the lock that is asked for

pub same_some : {A : Type 0} (x y : A) → Some x ≡ Some y → x ≡ y
same_some x y is = ap (λ o. value_or x o) is
  where
    value_or : {A : Type 0} → A → Option A → A
    value_or d (Some v) = v
    value_or d None = d

pub done_waits_not : (at : Granule) → ◌≡◌ {A = Result Acquired Fault} (Ok acquire.Done) (Ok (acquire.Waiting at)) → ⊥
done_waits_not at clash = cc

-- ---- what is asked for

module _ {T V : Type 0} {G : tail.Ghosts T} {H : disk.Ghosts V} (old new : Core T V G H) (front : List ℕ) (before : List LogRecord) (s : State) (store : CheckpointedStore) (a : SessionTxn) (c : Call) where
  -- refused before it asks
  pub asked_early : (r : Result Step Fault) (f : Fault) → IsErrAnd r (λ e. e ≡ f) → RefusesEarly (geometry_of old) c f → CoreComesTo new front before store s
      → AskedFor a c r old new front before s store
  asked_early (Err e) f same refuses comes = record { later = s; asks = inl (e, subst (RefusesEarly (geometry_of old) c) (sym same) refuses, refl, refl); comes = inr comes }
  asked_early (Ok x) f same refuses comes = absurd same

  -- .. for an allocation failed
  pub asked_lacks : (r : Result Step Fault) → IsErrAnd r (λ e. e ≡ fault.Memory) → MayAsk (geometry_of old) c → CoreComesTo new front before store s
      → AskedFor a c r old new front before s store
  asked_lacks (Err e) same may comes = record {
    later = s;
    asks = inr (
      may,
      subst (λ x. GoesSettled (geometry_of old) s a c (Refused x) (after_refusal x s)) (sym same)
          (record { first = Refused fault.Memory; mid = s; rounds = []; goes = inl (refl, inl refl); settles = (tt, refl, refl) }),
    );
    comes = inr comes;
  }
  asked_lacks (Ok x) same may comes = absurd same

  module _ (may : MayAsk (geometry_of old) c) where
    -- .. by the locks
    pub asked_blocked : (r : Result Step Fault) (f : Fault) → IsErrAnd r (λ e. e ≡ f) → IsOfNoDevice f → (later : State) → GoesSettled (geometry_of old) s a c (Refused f) later
        → CoreComesTo new front before store later → AskedFor a c r old new front before s store
    asked_blocked (Err e) f same plain later settled comes = record {
      later = later;
      asks = inr (
        may,
        subst (λ x. GoesSettled (geometry_of old) s a c (Refused x) (after_refusal x later)) (sym same)
            (subst (GoesSettled (geometry_of old) s a c (Refused f)) (sym (stays_after later f plain.0 plain.1)) settled),
      );
      comes = inr comes;
    }
    asked_blocked (Ok x) f same plain later settled comes = absurd same

    -- it waits there
    pub asked_waits : (at : Granule) (later : State) → GoesSettled (geometry_of old) s a c (Waits (Lock at)) later → CoreComesTo new front before store later
        → AskedFor a c (Ok (Waits (Lock at))) old new front before s store
    asked_waits at later settled comes = record { later = later; asks = inr (may, settled); comes = comes }

-- what a call comes to behind its locks does not wait for one
pub served_at_once : (g : Geometry) (s : State) (a : SessionTxn) (c : Call) (r : Result Step Fault) (new : State) → IsServedBehind g s a c r new → WaitsForNoLock (as_step r)
served_at_once g s a c (Ok (Done answer)) new h = tt
served_at_once g s a c (Err f) new h = tt
served_at_once g s a c (Ok (Waits wait)) new h = absurd h
served_at_once g s a c (Ok (Refused f)) new h = absurd h
served_at_once g s a c (Ok Nothing) new h = absurd h

-- a session is free whose call does not wait in the control
pub idle_of : (control : Control) (s : State) (a : SessionTxn) (session : ℕ) → HasControl control s → HasNoWait session control → a.session ≡ session → DoesNotWait s a.session
idle_of control s a session stands free of = subst (DoesNotWait s) (sym of) (free_waits_not (waits_in control) s stands.waits session free)

-- each last record is below a number, if each was before
pub lasts_below : (old new : List Txn) (n : ℕ) → map last_of new ≡ map last_of old → ((t : Txn) → IsAmong t old → last_of t < n) → (t : Txn) → IsAmong t new → last_of t < n
lasts_below old new n same below t there =
    let was = map_among last_of (last_of t) old (subst (IsAmong (last_of t)) same (among_map last_of t new there)) in
    subst (λ m. m < n) was.2 (below was.0 was.1)
