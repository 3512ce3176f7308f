-- Victims as they are noted one after another: what each makes of the transactions, and whose call is told.
use Rattle.std.proofs.Common.{◌≡◌, ◌≢◌, ⊎_elim, ℕ, List, [], ◌∷◌, true, false, map, refl, sym, ap, subst, ◌∙◌, arith}
use Rattle.std.proofs.lemmas.Bool.{cases_Bool}
use Rattle.shore_model.specs.declared.sessions.SessionState.{SessionState}
use Rattle.laws_lives.specs.Sessions.{EachOnce, SessionTxn, in_txn, txns_of, with_undo}
use Rattle.laws_lives.specs.UndoLists.{undo_rolled}
use Rattle.laws_lives.specs.Views.{IsAmong}
use Rattle.shore_model.specs.declared.rollbacks.Rollback.TheVariants.{Whole}
use Rattle.shore_model.specs.declared.requests.Request.{Request}
use Rattle.laws_calls.specs.CallSteps.{with_requests}
use Rattle.laws_calls.specs.States.{State, Waiting}
use Rattle.shore_cycles.specs.declared.victims.Victim.{Victim}
use Rattle.shore_txn.specs.ActiveTxns.{OneBecomes, session_txns}
use Rattle.shore_txn.specs.Transactions.{AtSeat, IsSeatIn, next_in, prepared_in, room_in, undos_in}
use Rattle.shore_txn.specs.Transactions as table
use Rattle.shore_txn.specs.TxnStates.{is_in_doubt}
use Rattle.shore_txn.specs.Txns.{IsDoomed, IsOf, as_session_txn, last_of, number_of, state_of}
use Rattle.shore_txn.specs.declared.seat.Seat.{Seat}
use Rattle.shore_txn.specs.declared.transactions.Transactions.{Transactions}
use Rattle.shore_txn.specs.declared.txn.Txn.{Txn}
use Rattle.shore_txn.proofs.ActiveOthers.{each_becomes}
use Rattle.shore_txn.proofs.ActiveSteps.{becomes_so}
use Rattle.shore_txn.proofs.OneOfMany.{among_map, among_middle, map_with, once_same}
use Rattle.shore_txn.proofs.Seats.{seat_stays}
use Rattle.shore_sessions.specs.Calls.{awaits_record, cycle_noted, logs_decision, names_of, resolved_as, resolved_by}
use Rattle.shore_sessions.specs.Controls.{HasNoWait, txns_in, waits_in}
use Rattle.shore_sessions.specs.Noting.{IsNotable, KeepsOwners, HasSessionsOf, victim_noted}
use Rattle.shore_sessions.specs.Seated.{rolled_in}
use Rattle.shore_sessions.specs.Standing.{HasTxns, HasWaits}
use Rattle.shore_sessions.specs.declared.control.Control.{Control}
use Rattle.shore_sessions.specs.declared.waits.WaitingCall.{WaitingCall}
use Rattle.shore_sessions.proofs.ControlSteps.{resolving_kept, txns_kept}
use Rattle.shore_sessions.proofs.NotedCalls.{none_noted, resolved_noted, waits_noted}
use Rattle.shore_sessions.proofs.RollbackSteps.{becomes_of}
use Rattle.shore_sessions.proofs.SeatSteps.{StaysSeated, doomed_seated, rolled_kept}
use Rattle.shore_sessions.proofs.Taking.{among_all}
use Rattle.shore_sessions.proofs.TxnSteps.{StaysLogged, txns_still}
use Rattle.shore_sessions.proofs.WaitSteps.{asker_of, names-with_undo, one_of_two, waiting_call, waits_kept}

-- ---- what is kept

pub owners_stay : (control : Control) → KeepsOwners control control
owners_stay control = record { locks = refl; names = refl; own = λ seat n own. own; lasts = refl; next = refl; room = refl; claims = λ p. refl; free = λ session free. free; memory = λ room. room }

pub owners_on : (a b d : Control) → KeepsOwners a b → KeepsOwners b d → KeepsOwners a d
owners_on a b d k l = record {
  locks = l.locks ∙ k.locks;
  names = l.names ∙ k.names;
  own = λ seat n own. l.own seat n (k.own seat n own);
  lasts = l.lasts ∙ k.lasts;
  next = l.next ∙ k.next;
  room = l.room ∙ k.room;
  claims = λ p. l.claims p ∙ k.claims p;
  free = λ session free. l.free session (k.free session free);
  memory = λ room. l.memory (k.memory room);
}

-- a seat stays right
pub seat_named : (seat : Seat) (old new : Transactions) → names_of (undos_in new) ≡ names_of (undos_in old) → IsSeatIn seat old → IsSeatIn seat new
seat_named seat old new names = seat_stays old new seat (numbers_of (table.txns_in new) ∙ ap (map (λ (n : ℕ × ℕ). n.1)) names ∙ sym (numbers_of (table.txns_in old)))
  where
    numbers_of : (ts : List Txn) → map number_of ts ≡ map (λ (n : ℕ × ℕ). n.1) (names_of (session_txns ts))
    numbers_of [] = refl
    numbers_of (t ∷ ts) = ap (λ l. number_of t ∷ l) (numbers_of ts)

-- ---- a transaction is doomed

pub doomed_logged : (t u : Txn) → IsDoomed t u → StaysLogged t u
doomed_logged t u after = record { txn = after.txn; first = after.first; last = after.last; entries = after.entries; global = after.name.global; prepare = after.name.prepare; decided = after.name.decided }

module _ (old new : Transactions) {number : ℕ} (one : OneBecomes number IsDoomed (table.txns_in old) (table.txns_in new))
    (undos : (a : SessionTxn) → IsAmong a (undos_in old) → a.txn ≡ number → undos_in new ≡ with_undo a.txn (undo_rolled a.undo a.undo.images Whole) (undos_in old))
    (free : is_in_doubt (state_of one.before) ≡ false) where
  seated : OneBecomes number StaysSeated (table.txns_in old) (table.txns_in new)
  seated = becomes_of one (doomed_seated one.before one.after free one.becomes)

  pub names_doomed : names_of (undos_in new) ≡ names_of (undos_in old)
  names_doomed =
      let m = among_map as_session_txn one.before (table.txns_in old) (subst (IsAmong one.before) (sym one.was) (among_middle one.newer one.older one.before)) in
      let a = as_session_txn one.before in
      ap names_of (undos a m one.txn) ∙ names-with_undo a.txn (undo_rolled a.undo a.undo.images Whole) (undos_in old)

  pub lasts_doomed : map last_of (table.txns_in new) ≡ map last_of (table.txns_in old)
  lasts_doomed = ap (map last_of) one.is ∙ map_with last_of one.newer one.older one.after one.before one.becomes.last ∙ ap (map last_of) (sym one.was)

  pub rolled_doomed : rolled_in new ≡ rolled_in old
  rolled_doomed = rolled_kept seated

  -- who is in one is in it still
  pub own_doomed : (seat : Seat) (n : ℕ) → AtSeat seat old (IsOf n) → AtSeat seat new (IsOf n)
  own_doomed seat n own t m at =
      (each_becomes (λ u. number_of u ≡ seat.txn → IsOf n u) (λ u. number_of u ≡ seat.txn → IsOf n u) old.numbers own one (λ u other is. is)
      (λ is its. let was = is (sym one.becomes.txn ∙ its) in (one.becomes.name.seated ∙ was.0, one.becomes.session ∙ was.1)) t m) at

  pub txns_doomed : prepared_in new ≡ prepared_in old → next_in new ≡ next_in old → room_in new ≡ room_in old → (s : State) (b : SessionTxn) (cycle : List ℕ) → HasTxns old s → IsAmong b s.sessions.active
      → b.txn ≡ number → HasTxns new (victim_noted s b cycle)
  txns_doomed doubts next room s b cycle was m own =
      txns_still old new s was (victim_noted s b cycle) (becomes_so doomed_logged one) seated
      (ap (with_undo b.txn (undo_rolled b.undo b.undo.images Whole)) was.active ∙ sym (undos b (subst (IsAmong b) was.active m) own))
      (λ n. refl) refl doubts refl refl refl next room

-- .. and so is it for each state with other locks
pub stands_locked : (control : Control) (s : State) (rs : List Request) → HasSessionsOf control s → HasSessionsOf control (with_requests s rs)
stands_locked control s rs stands = record {
  txns = txns_kept (txns_in control) (txns_in control) s (with_requests s rs) refl refl refl (λ n. refl) refl refl refl stands.txns;
  waits = waits_kept (waits_in control) s stands.waits (with_requests s rs) refl refl (λ n. refl) refl refl;
  resolving = stands.resolving;
}

-- ---- whose call is told

opposite : true ≡ false → ⊥
opposite e = cc

module _ (control : Control) (s : State) (stands : HasSessionsOf control s) (session t : ℕ) (v : Victim) (b : SessionTxn) (notable : IsNotable session t s v b) where
  one_by_number : (a : SessionTxn) → IsAmong a s.sessions.active → a.txn ≡ b.txn → a ≡ b
  one_by_number a m same =
      once_same (λ (a : SessionTxn). a.txn) s.sessions.active (subst (λ ts. EachOnce (txns_of ts)) (sym stands.txns.active) (txns_in control).numbers) a b m notable.seat.0 same

  -- the call that waits for a lock for its number is that of its session
  pub asker_is_its : (w : WaitingCall) → IsAmong w (waits_in control) → w.txn ≡ v.txn → awaits_record w ≡ false → b.session ≡ w.session
  asker_is_its w m number asking =
      let its = asker_of (waits_in control) s stands.waits w m asking in
      ap (λ (a : SessionTxn). a.session) (sym (one_by_number its.0 its.1 (its.3 ∙ number ∙ sym notable.number))) ∙ its.2

  -- a call of its session waits for a lock, and for it
  its_call : (w : WaitingCall) → IsAmong w (waits_in control) → w.session ≡ b.session → (awaits_record w ≡ false) × (w.txn ≡ b.txn)
  its_call w m own = ⊎_elim
      (λ (records : awaits_record w ≡ true). absurd (no_record (sym (stands.waits.kinds w m) ∙ records)))
      (λ asking. (asking, ap (λ (p : SessionState). p.txn) (sym (stands.waits.asking w m asking).1 ∙ ap s.sessions.seats own ∙ notable.seat.1)))
      (cases_Bool (awaits_record w))
    where
      in_it : s.sessions.seats w.session ≡ in_txn b.txn
      in_it = ap s.sessions.seats own ∙ notable.seat.1

      no_record : logs_decision w.call ≡ true → ⊥
      no_record logs = one_of_two w.call logs
          (λ global is. opposite (ap (λ (p : SessionState). p.prepared) (sym (stands.waits.preparing w global m is).1 ∙ in_it)))
          (λ global asked is.
          let some = notable.seat.2 in
          let none = ap (λ (p : SessionState). p.txn) (sym in_it ∙ (stands.waits.ended w (record { txn = w.txn; global = global; outcome = asked }) m (ap (resolved_as w.txn) is)).2) in
          omega (arith, some, none))

  -- there is one
  pub none_asks : b.txn ≢ t → ((w : WaitingCall) → IsAmong w (waits_in control) → w.txn ≡ v.txn → awaits_record w ≡ true) → ⊥
  none_asks other none = notable.waits other (λ x m same.
      let call = waiting_call (waits_in control) s stands.waits x m in
      let its = its_call call.0 call.1 (ap (λ (y : Waiting). y.session) call.2 ∙ same) in
      opposite (sym (none call.0 call.1 (its.1 ∙ notable.number)) ∙ its.0))

  -- what stands then
  pub stands_noted : (new : Control) → HasTxns (txns_in new) (victim_noted s b v.cycle) → rolled_in (txns_in new) ≡ rolled_in (txns_in control) → waits_in new ≡ cycle_noted b.session v.cycle (waits_in control)
      → HasSessionsOf new (victim_noted s b v.cycle)
  stands_noted new txns rolled waits = record {
    txns = txns;
    waits = subst (λ cs. HasWaits cs (victim_noted s b v.cycle)) (sym waits) (waits_noted (waits_in control) s stands.waits b v.cycle);
    resolving = resolving_kept (txns_in control) (txns_in new) (waits_in control) (waits_in new) s (victim_noted s b v.cycle) rolled
        (ap resolved_by waits ∙ resolved_noted b.session v.cycle (waits_in control)) refl (λ f. f) stands.resolving;
  }

  -- no call of the session waits yet
  pub none_to_note : b.txn ≡ t → HasNoWait session control → waits_in control ≡ cycle_noted b.session v.cycle (waits_in control)
  none_to_note own free = sym (none_noted b.session v.cycle (waits_in control)
      (λ w m same. among_all (λ (w : WaitingCall). w.session ≢ session) (waits_in control) free w m (same ∙ notable.own own)))
