-- What a call comes to behind its locks, by the state alone.
use Rattle.std.proofs.Common.{◌≡◌, inl, inr, ⊎_elim, ◌+◌, ℕ, List, Some, None, refl, length}
use Rattle.std.specs.FinMap.{get}
use Rattle.std.specs.Prelude.{IsSome}
use Rattle.shore_types.specs.Images.{Image}
use Rattle.shore_types.specs.declared.faults.Fault.{Fault}
use Rattle.shore_types.specs.declared.faults.Fault.TheVariants as fault
use Rattle.shore_types.specs.declared.ids.Rid.{Rid}
use Rattle.shore_types.specs.declared.layout.Geometry.{Geometry}
use Rattle.shore_types.specs.declared.locking.Granule.TheVariants as granule
use Rattle.shore_types.specs.declared.locking.Mode.TheVariants.{EX}
use Rattle.shore_model.specs.Records.{scan_of}
use Rattle.shore_model.specs.declared.calls.Answer.{Answer}
use Rattle.shore_model.specs.declared.calls.Answer.TheVariants.{Deleted, Got, Inserted, Locked, Scanned, Updated}
use Rattle.shore_model.specs.declared.calls.Call.{Call}
use Rattle.shore_model.specs.declared.calls.Call.TheVariants as call
use Rattle.laws_locks.proofs.Places.{EndsWell, acquired_ends}
use Rattle.laws_locks.specs.CallLocks.{Asked, lock_asked_by}
use Rattle.laws_room.proofs.Fitting.{delete_fits}
use Rattle.laws_room.specs.Claims.{SlotCounts}
use Rattle.laws_lives.specs.Sessions.{SessionTxn}
use Rattle.shore_model.specs.declared.step.Step.{Step}
use Rattle.shore_model.specs.declared.step.Step.TheVariants.{Done, Refused}
use Rattle.laws_calls.proofs.Decided.{IsOrdinary, fits_or_not, grown, grows, image_or_none, ordinary, room_or_not}
use Rattle.laws_calls.specs.CallHistories.{IsRoomyState}
use Rattle.laws_calls.specs.StateChanges.{CanLog, ComesOfState, FitsAt, MayChange, answered}
use Rattle.laws_calls.specs.CallSteps.{AnswersBehind, CallGoesOn, HasLocked, HasPlace, IsPlaceOf, RefusesBehind, behind_place, place_outcome}
use Rattle.laws_calls.specs.States.{State, page_slots}
use Rattle.laws_calls.proofs.DecidingInserts.{place_or_none}

abbrev pub GoesSomewhere : Geometry → State → SessionTxn → Call → Type 0
GoesSomewhere g s a c = (step : Step) × (new : State) × CallGoesOn g s a c step new × ComesOfState step

-- ---- behind the locks

module _ (g : Geometry) (s : State) (a : SessionTxn) (c : Call) (locked : State) (has : HasLocked s a c locked) (roomy : IsRoomyState g.version locked) where
  answers : (answer : Answer) (new : State) → AnswersBehind g locked a c answer new → GoesSomewhere g s a c
  answers answer new h = (Done answer, new, (locked, has, h), tt)

  pub refuses : (f : Fault) (new : State) → RefusesBehind g locked a c f new → IsOrdinary f → GoesSomewhere g s a c
  refuses f new h is = (Refused f, new, inr (inr (locked, has, h)), ordinary f is)

  -- a change of an id that fits
  change : (id : Rid) (image : Image) (said : Answer) → FitsAt g.version locked id image
      → ((counts : SlotCounts) → MayChange g.version locked id image counts → AnswersBehind g locked a c said (answered locked a c said counts))
      → ((CanLog locked id image → ⊥) → RefusesBehind g locked a c fault.LogFull locked) → GoesSomewhere g s a c
  change id image said fits may full =
      ⊎_elim
      (λ logs. answers said (answered locked a c said (grown locked.counts id)) (may (grown locked.counts id) (record { fits = fits; logs = logs; grows = grows locked.counts id })))
      (λ none. refuses fault.LogFull locked (full none) tt)
      (room_or_not locked _)

is_some : (o : Image) (x : List ℕ) → o ≡ Some x → IsSome o
is_some o x e = cc

module _ (g : Geometry) (s : State) (a : SessionTxn) (locked : State) (roomy : IsRoomyState g.version locked) where
  module _ (store : ℕ) (bytes : List ℕ) (has : HasLocked s a (call.Insert store bytes) locked) where
    abbrev Inserting : Type 0
    Inserting = GoesSomewhere g s a (call.Insert store bytes)

    not_inserted : (f : Fault) (new : State) → RefusesBehind g locked a (call.Insert store bytes) f new → IsOrdinary f → Inserting
    not_inserted f new h is = refuses g s a (call.Insert store bytes) locked has roomy f new h is

    inserts_there : (id : Rid) → HasPlace g locked a store bytes id → CanLog locked id (Some bytes) → Inserting
    inserts_there id place logs =
        answers g s a (call.Insert store bytes) locked has roomy (Inserted id)
        (answered (behind_place locked a id) a (call.Insert store bytes) (Inserted id) (grown locked.counts id))
        (id, place, refl, (grown locked.counts id, record { fits = place.0.serves.fits; logs = logs; grows = grows locked.counts id }, refl))

    inserts_at : (id : Rid) → IsPlaceOf g locked a.txn store bytes id → EndsWell (place_outcome locked a id) → Inserting
    inserts_at id place (inl done) =
        ⊎_elim
        (λ logs. inserts_there id (place, done) logs)
        (λ none. not_inserted fault.LogFull (behind_place locked a id) (inr (inr (inl (refl, (id, (place, done), none, refl))))) tt)
        (room_or_not locked _)
    inserts_at id place (inr full) = not_inserted fault.LockTableFull (behind_place locked a id) (inr (inl (refl, (id, place, full, refl)))) tt

    inserts : Inserting
    inserts =
        ⊎_elim
        (λ place. inserts_at place.0 place.1
        (acquired_ends locked.locks.requests locked.locks.limit (length locked.locks.requests + 4) a.txn (granule.Record place.0) EX place.1.serves.free))
        (λ none. not_inserted fault.StoreFull locked (inl (refl, none, refl)) tt)
        (place_or_none g locked a.txn store bytes)

  pub behind : (c : Call) (lock : Asked) → lock_asked_by c ≡ Some lock → HasLocked s a c locked → GoesSomewhere g s a c
  behind (call.Get id) lock asks has =
      ⊎_elim
      (λ there. answers g s a (call.Get id) locked has roomy (Got there.0) (answered locked a (call.Get id) (Got there.0) locked.counts) ((there.0, there.1, refl), refl))
      (λ none. refuses g s a (call.Get id) locked has roomy fault.NoRecord locked (none, refl) tt)
      (image_or_none (get locked.sessions.records id))
  behind (call.GetForUpdate id) lock asks has =
      ⊎_elim
      (λ there. answers g s a (call.GetForUpdate id) locked has roomy (Got there.0) (answered locked a (call.GetForUpdate id) (Got there.0) locked.counts) ((there.0, there.1, refl), refl))
      (λ none. refuses g s a (call.GetForUpdate id) locked has roomy fault.NoRecord locked (none, refl) tt)
      (image_or_none (get locked.sessions.records id))
  behind (call.Insert store bytes) lock asks has = inserts store bytes has
  behind (call.Update id bytes) lock asks has =
      ⊎_elim
      (λ there.
      let found = is_some (get locked.sessions.records id) there.0 there.1 in
      ⊎_elim
      (λ fits. change g s a (call.Update id bytes) locked has roomy id (Some bytes) Updated fits (λ counts may. (found, refl, (counts, may, refl)))
      (λ none. (inr (inr (refl, found, fits, none)), refl)))
      (λ none. refuses g s a (call.Update id bytes) locked has roomy fault.StoreFull locked (inr (inl (refl, found, none)), refl) tt)
      (fits_or_not g.version (page_slots locked id.page) id.slot (length bytes)))
      (λ none. refuses g s a (call.Update id bytes) locked has roomy fault.NoRecord locked (inl none, refl) tt)
      (image_or_none (get locked.sessions.records id))
  behind (call.Delete id) lock asks has =
      ⊎_elim
      (λ there.
      let found = is_some (get locked.sessions.records id) there.0 there.1 in
      change g s a (call.Delete id) locked has roomy id None Deleted (delete_fits g.version locked.sessions.records locked.sessions.active locked.counts roomy.pages id there.0 there.1).0
      (λ counts may. (found, refl, (counts, may, refl))) (λ none. (inr (refl, found, none), refl)))
      (λ none. refuses g s a (call.Delete id) locked has roomy fault.NoRecord locked (inl none, refl) tt)
      (image_or_none (get locked.sessions.records id))
  behind (call.Scan store) lock asks has =
      answers g s a (call.Scan store) locked has roomy (Scanned (scan_of store locked.sessions.records))
      (answered locked a (call.Scan store) (Scanned (scan_of store locked.sessions.records)) locked.counts) (refl, refl)
  behind (call.Lock at mode) lock asks has = answers g s a (call.Lock at mode) locked has roomy Locked (answered locked a (call.Lock at mode) Locked locked.counts) (refl, refl)
  behind (call.TryLock at mode) lock asks has =
      answers g s a (call.TryLock at mode) locked has roomy Locked (answered locked a (call.TryLock at mode) Locked locked.counts) (refl, refl)
  behind _ lock asks has = absurd cc
