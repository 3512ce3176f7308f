-- Who has a record locked for writing is alone there: nobody else could put an image back.
use Rattle.std.proofs.Common.{◌≡◌, ◌≢◌, ⊎_elim, ◌++◌, ◌∷◌, [], ℕ, List, Ok, false, cond, refl, sym, ap, subst, ◌∙◌}
use Rattle.std.specs.List.{AllByRecursion}
use Rattle.shore_types.specs.Images.{Image}
use Rattle.shore_types.specs.declared.ids.Rid.{Rid}
use Rattle.shore_types.specs.declared.locking.Granule.{Granule}
use Rattle.shore_types.specs.declared.locking.Granule.TheVariants.{Record}
use Rattle.shore_types.specs.declared.locking.Mode.TheVariants.{EX}
use Rattle.shore_model.specs.declared.calls.Answer.TheVariants.{Deleted}
use Rattle.shore_model.specs.declared.calls.Call.TheVariants as call
use Rattle.shore_model.specs.declared.histories.Entry.{Entry}
use Rattle.shore_model.specs.declared.histories.Opening.{Opening}
use Rattle.shore_model.specs.declared.log_records.LogRecord.{LogRecord}
use Rattle.shore_model.specs.Locks.{MayWrite}
use Rattle.shore_locks.specs.Tables.{is_waiting}
use Rattle.shore_path.specs.declared.answers.Acquired.TheVariants as acquire
use Rattle.shore_path.specs.declared.answers.OnConflict.{OnConflict}
use Rattle.shore_path.specs.Walks.{Outcome, acquired}
use Rattle.laws_locks.proofs.Held.{locked_of}
use Rattle.laws_room.specs.Claims.{NoOthers, before_of, befores_in}
use Rattle.laws_lives.proofs.GranuleLocks.{permitted}
use Rattle.laws_lives.proofs.Ids.{told_apart}
use Rattle.laws_lives.proofs.Views.{read_of_write}
use Rattle.laws_lives.specs.Sessions.{SessionTxn, Sessions}
use Rattle.laws_lives.specs.Soundness.{IsSoundAfter}
use Rattle.laws_calls.proofs.TakenLocks.{leaves, locked_state}
use Rattle.laws_calls.specs.CallSteps.{with_requests}
use Rattle.laws_calls.specs.LockedStates.{IsSessionsState}
use Rattle.laws_calls.specs.States.{HasSeat, State}

-- an undo list has no image of an id that is none of its own
none_before : (id : Rid) (es : List (Rid × Image)) → AllByRecursion (λ e. e.0 ≢ id) es → befores_in id es ≡ []
none_before id [] none = refl
none_before id (e ∷ es) none = ap (λ l. l ++ before_of id e) (none_before id es none.1) ∙ ⊎_elim
    (λ same. absurd (none.0 (sym same)))
    (λ apart. ap (λ b. cond b (e.1 ∷ []) []) apart)
    (told_apart id e.0)

module _ (o : Opening) (es : List Entry) (s : Sessions) (sound : IsSoundAfter o es s) (t : ℕ) (id : Rid) (may : MayWrite s.held t id) where
  not_its : (u : ℕ) → u ≢ t → (images : List (Rid × Image)) → AllByRecursion (λ e. MayWrite s.held u e.0) images → AllByRecursion (λ e. e.0 ≢ id) images
  not_its u other [] all = tt
  not_its u other (e ∷ images) all =
      (λ same. sound.stand.harmony.none_interferes id u t other (subst (MayWrite s.held u) same all.0) (read_of_write s.held t id may), not_its u other images all.1)

  -- who may write the id is the only one with an image of it
  pub writer_alone : NoOthers s.active t id
  writer_alone b m other = none_before id b.undo.images (not_its b.txn other b.undo.images (sound.undoes b m).changed)

module _ (o : Opening) (found : List LogRecord) (es : List Entry) (s : State) (k : IsSessionsState o found es s) (a : SessionTxn) (m : HasSeat s.sessions a)
    (quiet : is_waiting a.txn s.locks.requests ≡ false) (on_conflict : OnConflict) (id : Rid) where
  abbrev out : Outcome
  out = acquired on_conflict s.locks a.txn (Record id) EX

  never_waiting : out.answer ≡ Ok acquire.Done → (g : Granule) → out.answer ≢ Ok (acquire.Waiting g)
  never_waiting done g waiting = let clash : Ok acquire.Done ≡ Ok (acquire.Waiting g) = sym done ∙ waiting in absurd cc

  module _ (done : out.answer ≡ Ok acquire.Done) where
    pub writes_behind : MayWrite (with_requests s out.requests).sessions.held a.txn id
    writes_behind =
        permitted (with_requests s out.requests).sessions.held a.txn (call.Delete id) Deleted
        (locked_of out.requests a.txn (Record id) EX ((leaves o found es s k a m quiet on_conflict (Record id) EX).done done))

    -- .. which is so behind its lock
    pub alone_behind : NoOthers s.sessions.active a.txn id
    alone_behind =
        writer_alone o es (with_requests s out.requests).sessions (locked_state o found es s k a m quiet on_conflict (Record id) EX (never_waiting done)).sound a.txn id writes_behind
