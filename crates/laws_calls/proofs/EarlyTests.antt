-- What is told of a call before its locks, and of a begin, one thing after another.
use Rattle.std.proofs.Common.{◌≡◌, ◌⊎◌, inl, inr, ◌≤◌, ◌<◌, ℕ, List, [], ◌∷◌, refl, sym, ap, ◌∙◌, length, arith}
use Rattle.std.specs.Prelude.{IsTrue}
use Rattle.shore_types.specs.Layout.{HasGranule, HasPage, HasSlot, HasStore}
use Rattle.shore_types.specs.Locking.{level_of}
use Rattle.shore_types.specs.declared.faults.Fault.{Fault}
use Rattle.shore_types.specs.declared.faults.Fault.TheVariants as fault
use Rattle.shore_types.specs.declared.ids.Rid.{Rid}
use Rattle.shore_types.specs.declared.layout.Geometry.{Geometry}
use Rattle.shore_types.specs.declared.layout.TheConstants.{MAX_TRANSACTIONS}
use Rattle.shore_types.specs.declared.locking.Granule.{Granule}
use Rattle.shore_types.specs.declared.locking.Granule.TheVariants as granule
use Rattle.shore_types.specs.declared.locking.Mode.{Mode}
use Rattle.shore_types.specs.Versions.{record_limit, slot_limit}
use Rattle.shore_model.specs.Modes.{is_allowed}
use Rattle.shore_model.specs.declared.calls.Answer.{Answer}
use Rattle.shore_model.specs.declared.calls.Call.{Call}
use Rattle.shore_model.specs.declared.calls.Call.TheVariants as call
use Rattle.shore_model.specs.declared.step.Step.{Step}
use Rattle.shore_model.specs.declared.step.Step.TheVariants.{Done, Nothing, Refused, Waits}
use Rattle.laws_calls.proofs.Decided.{both_ways}
use Rattle.laws_calls.proofs.OneBehind.{AreOne}
use Rattle.laws_calls.proofs.Rows.{AllPass, FirstFails, Test, none_fails, one_fails, page_has_store, test}
use Rattle.laws_calls.specs.StateChanges.{IsShort}
use Rattle.laws_calls.specs.CallSteps.{BeginStep, MayAsk, RefusesEarly, RefusesGranule, RefusesId, RefusesLock, txn_count}
use Rattle.laws_calls.specs.States.{HasNoTxn, IsInTxn, MayBegin, State}

-- ---- before the locks

module _ (g : Geometry) where
  abbrev pub id_tests : Rid → List Test
  id_tests id = test (HasStore g id.page.store) fault.NoStore ∷ test (HasPage g id.page) fault.NoPage ∷ test (id.slot < slot_limit g.version) fault.NoRecord ∷ []

  abbrev pub granule_tests : Granule → List Test
  granule_tests granule.Volume = []
  granule_tests (granule.Store store) = test (HasStore g store) fault.NoStore ∷ []
  granule_tests (granule.Page page) = test (HasStore g page.store) fault.NoStore ∷ test (HasPage g page) fault.NoPage ∷ []
  granule_tests (granule.Record id) = id_tests id

  abbrev pub lock_tests : Granule → Mode → List Test
  lock_tests at mode = test (IsTrue (is_allowed (level_of at) mode)) fault.BadMode ∷ granule_tests at

  abbrev pub early_tests : Call → List Test
  early_tests (call.Get id) = id_tests id
  early_tests (call.GetForUpdate id) = id_tests id
  early_tests (call.Insert store bytes) = test (IsShort g.version bytes) fault.TooLong ∷ test (HasStore g store) fault.NoStore ∷ []
  early_tests (call.Update id bytes) = test (IsShort g.version bytes) fault.TooLong ∷ id_tests id
  early_tests (call.Delete id) = id_tests id
  early_tests (call.Scan store) = test (HasStore g store) fault.NoStore ∷ []
  early_tests (call.Lock at mode) = lock_tests at mode
  early_tests (call.TryLock at mode) = lock_tests at mode
  early_tests _ = []

  pub id_fails : (id : Rid) (f : Fault) → RefusesId g id f → FirstFails (id_tests id) f
  id_fails id fault.NoStore h = inl (h, refl)
  id_fails id fault.NoPage h = inr (h.0, inl (h.1, refl))
  id_fails id fault.NoRecord h = inr (page_has_store g id.page h.0, inr (h.0, inl (λ less. let le = h.1 in omega arith, refl)))
  id_fails id _ h = absurd h

  pub granule_fails : (at : Granule) (f : Fault) → RefusesGranule g at f → FirstFails (granule_tests at) f
  granule_fails granule.Volume f h = absurd h
  granule_fails (granule.Store store) f h = inl (h.1, h.0)
  granule_fails (granule.Page page) f (inl h) = inl (h.1, h.0)
  granule_fails (granule.Page page) f (inr h) = inr (h.1, inl (h.2, h.0))
  granule_fails (granule.Record id) f h = id_fails id f h

  pub lock_fails : (at : Granule) (mode : Mode) (f : Fault) → RefusesLock g at mode f → FirstFails (lock_tests at mode) f
  lock_fails at mode f (inl h) = inl (λ yes. both_ways (is_allowed (level_of at) mode) yes h.1, h.0)
  lock_fails at mode f (inr h) = inr (h.0, granule_fails at f h.1)

  pub not_short : (bytes : List ℕ) → record_limit g.version < length bytes → IsShort g.version bytes → ⊥
  not_short bytes long short = omega arith

  pub early_fails : (c : Call) (f : Fault) → RefusesEarly g c f → FirstFails (early_tests c) f
  early_fails (call.Get id) f h = id_fails id f h
  early_fails (call.GetForUpdate id) f h = id_fails id f h
  early_fails (call.Insert store bytes) f (inl h) = inl (not_short bytes h.1, h.0)
  early_fails (call.Insert store bytes) f (inr h) = inr (h.0, inl (h.2, h.1))
  early_fails (call.Update id bytes) f (inl h) = inl (not_short bytes h.1, h.0)
  early_fails (call.Update id bytes) f (inr h) = inr (h.0, id_fails id f h.1)
  early_fails (call.Delete id) f h = id_fails id f h
  early_fails (call.Scan store) f h = inl (h.1, h.0)
  early_fails (call.Lock at mode) f h = lock_fails at mode f h
  early_fails (call.TryLock at mode) f h = lock_fails at mode f h
  early_fails _ f h = absurd h

  pub id_passes : (id : Rid) → HasSlot g id → AllPass (id_tests id)
  id_passes id h = (page_has_store g id.page h.0, (h.0, (h.1, tt)))

  pub granule_passes : (at : Granule) → HasGranule g at → AllPass (granule_tests at)
  granule_passes granule.Volume h = tt
  granule_passes (granule.Store store) h = (h, tt)
  granule_passes (granule.Page page) h = (page_has_store g page h, (h, tt))
  granule_passes (granule.Record id) h = id_passes id h

  pub may_pass : (c : Call) → MayAsk g c → AllPass (early_tests c)
  may_pass (call.Get id) h = id_passes id h
  may_pass (call.GetForUpdate id) h = id_passes id h
  may_pass (call.Insert store bytes) h = (h.0, (h.1, tt))
  may_pass (call.Update id bytes) h = (h.0, id_passes id h.1)
  may_pass (call.Delete id) h = id_passes id h
  may_pass (call.Scan store) h = (h, tt)
  may_pass (call.Lock at mode) h = (h.0, granule_passes at h.1)
  may_pass (call.TryLock at mode) h = (h.0, granule_passes at h.1)
  may_pass _ h = absurd h

  -- a call that may ask is not refused before it does
  pub none_early : (c : Call) (f : Fault) → MayAsk g c → RefusesEarly g c f → ⊥
  none_early c f may refuses = none_fails (early_tests c) f (early_fails c f refuses) (may_pass c may)

-- ---- begins

module _ (s : State) (session : ℕ) where
  abbrev pub begin_tests : List Test
  begin_tests =
      test (IsInTxn s session → ⊥) fault.AlreadyActive ∷ test (txn_count s < MAX_TRANSACTIONS) fault.TooManyTransactions ∷ test (MayBegin s) fault.LogFull ∷ []

  pub out_of_txn : HasNoTxn s session → IsInTxn s session → ⊥
  out_of_txn none h = h none

  pub begin_fails : (f : Fault) (new : State) → BeginStep s session (Refused f) new → FirstFails begin_tests f
  begin_fails f new h = by h.0
    where
      by : ((f ≡ fault.AlreadyActive) × IsInTxn s session) ⊎ ((f ≡ fault.TooManyTransactions) × HasNoTxn s session × (MAX_TRANSACTIONS ≤ txn_count s))
          ⊎ ((f ≡ fault.LogFull) × HasNoTxn s session × (txn_count s < MAX_TRANSACTIONS) × (MayBegin s → ⊥)) → FirstFails begin_tests f
      by (inl x) = inl (λ none. none x.1, x.0)
      by (inr (inl x)) = inr (out_of_txn x.1, inl (λ less. let full = x.2 in omega arith, x.0))
      by (inr (inr x)) = inr (out_of_txn x.1, inr (x.2, inl (x.3, x.0)))

  pub begin_passes : (answer : Answer) (new : State) → BeginStep s session (Done answer) new → AllPass begin_tests
  begin_passes answer new h = (out_of_txn h.0, (h.1, (h.2, tt)))

  pub one_begin : (x y : Step) (new later : State) → BeginStep s session x new → BeginStep s session y later → AreOne x y new later
  one_begin (Done x) (Done y) new later h k = (ap Done (h.3 ∙ sym k.3), h.4 ∙ sym k.4)
  one_begin (Done x) (Refused f) new later h k = absurd (none_fails begin_tests f (begin_fails f later k) (begin_passes x new h))
  one_begin (Refused f) (Done y) new later h k = absurd (none_fails begin_tests f (begin_fails f new h) (begin_passes y later k))
  one_begin (Refused e) (Refused f) new later h k = (ap Refused (one_fails begin_tests e f (begin_fails e new h) (begin_fails f later k)), h.1 ∙ sym k.1)
  one_begin (Waits wait) y new later h k = absurd h
  one_begin Nothing y new later h k = absurd h
  one_begin (Done x) (Waits wait) new later h k = absurd k
  one_begin (Done x) Nothing new later h k = absurd k
  one_begin (Refused e) (Waits wait) new later h k = absurd k
  one_begin (Refused e) Nothing new later h k = absurd k
