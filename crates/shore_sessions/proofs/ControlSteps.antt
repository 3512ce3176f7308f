-- What each step that leaves the transactions under way makes of a control.
use Rattle.std.proofs.Common.{◌≡◌, ◌<◌, ◌++◌, ◌∷◌, [], ℕ, List, None, false, refl, sym, ap, subst, ◌∙◌}
use Rattle.std.specs.Prelude.{filter}
use Rattle.std.specs.List.{AllByRecursion}
use Rattle.std.specs.List.Sorted.{IsPermutation}
use Rattle.shore_types.specs.declared.locking.Granule.{Granule}
use Rattle.shore_model.specs.declared.calls.Call.{Call}
use Rattle.shore_model.specs.declared.log_records.LogRecord.{LogRecord}
use Rattle.shore_model.specs.declared.sessions.SessionState.{SessionState}
use Rattle.laws_lives.specs.Sessions.{SessionTxn, in_txn}
use Rattle.laws_lives.specs.Views.{IsAmong}
use Rattle.laws_calls.specs.StateChanges.{wait_refused}
use Rattle.laws_calls.specs.CallSteps.{lock_waiting}
use Rattle.laws_calls.specs.States.{IsOfSession, State, cost_of_log}
use Rattle.shore_model.specs.declared.step.Wait.TheVariants.{Lock}
use Rattle.shore_txn.specs.Transactions.{AtSeat, IsSeatIn, next_in, prepared_in}
use Rattle.shore_txn.specs.Transactions as table
use Rattle.shore_txn.specs.TxnStates.{is_in_doubt}
use Rattle.shore_txn.specs.Txns.{IsOf, number_of, state_of}
use Rattle.shore_txn.specs.declared.seat.Seat.{Seat}
use Rattle.shore_txn.specs.declared.transactions.Transactions.{Transactions}
use Rattle.shore_txn.proofs.Seats.{seat_has}
use Rattle.shore_sessions.specs.Calls.{awaits_record, logs_decision, resolved_by}
use Rattle.shore_sessions.specs.Controls.{locks_in, txns_in, waits_in}
use Rattle.shore_sessions.specs.Seated.{IsSeated, rolled_in}
use Rattle.shore_sessions.specs.Standing.{AreResolving, HasControl, HasTxns, HasWaits, IsLogged}
use Rattle.shore_sessions.specs.declared.control.Control.{Control}
use Rattle.shore_sessions.specs.declared.waits.WaitingCall.{WaitingCall}
use Rattle.shore_sessions.proofs.Lists.{all_by_members}
use Rattle.shore_sessions.proofs.LogSteps.{room_still}
use Rattle.shore_sessions.proofs.SeatSteps.{its_seats, seats_same, sits_in}
use Rattle.shore_sessions.proofs.Seats.{active_above, one_there, seat_there}
use Rattle.shore_sessions.proofs.Taking.{AreApart, is_other}
use Rattle.shore_sessions.proofs.WaitSteps.{never_resolves, resolved_but, resolved_still, waits_asked, waits_refused}

-- the transactions under way and those in doubt, the seats, the next number, the log and its length are the same
pub txns_kept : (old new : Transactions) (s t : State) → new ≡ old → t.sessions.active ≡ s.sessions.active → t.sessions.prepared ≡ s.sessions.prepared → ((n : ℕ) → t.sessions.seats n ≡ s.sessions.seats n)
    → t.sessions.next_txn ≡ s.sessions.next_txn → t.stream_bytes ≡ s.stream_bytes → t.log ≡ s.log → HasTxns old s → HasTxns new t
txns_kept old new s t same active prepared seats next stream log was = subst (λ x. HasTxns x t) (sym same) (record {
  active = active ∙ was.active;
  prepared = subst (λ ps. IsPermutation ps (prepared_in old)) (sym prepared) was.prepared;
  seats = all_by_members (IsSeated t.sessions) (table.txns_in old) (λ u m. seats_same s.sessions t.sessions seats u (its_seats old s.sessions was.seats u m));
  entered = λ n. subst (λ (p : SessionState). p.txn < next_in old) (sym (seats n)) (was.entered n);
  names = was.names;
  next = next ∙ was.next;
  room = room_still stream refl (ap cost_of_log log) refl was.room;
  each = subst (λ l. AllByRecursion (IsLogged l) (table.txns_in old)) (sym log) was.each;
  above = subst (λ (l : List LogRecord). AllByRecursion (λ r. r.txn < next_in old) l) (sym log) was.above;
})

-- what is decided and not answered is the same
pub resolving_kept : (old new : Transactions) (calls after : List WaitingCall) (s t : State) → rolled_in new ≡ rolled_in old → resolved_by after ≡ resolved_by calls
    → t.sessions.resolving ≡ s.sessions.resolving → (t.failed ≡ false → s.failed ≡ false) → AreResolving old calls s → AreResolving new after t
resolving_kept old new calls after s t rolled resolved resolving works was f =
    subst (λ rs. IsPermutation rs (rolled_in new ++ resolved_by after)) (sym resolving)
    (subst (IsPermutation s.sessions.resolving) (sym (ap (λ rs. rs ++ resolved_by after) rolled ∙ ap (λ rs. rolled_in old ++ rs) resolved)) (was (works f)))

-- the session of a seat is in its transaction
pub seat_in_txn : (control : Control) (seat : Seat) → IsSeatIn seat (txns_in control) → AtSeat seat (txns_in control) (λ t. IsOf seat.session t × (is_in_doubt (state_of t) ≡ false)) → (s : State) → HasControl control s
    → (a : SessionTxn) × IsOfSession s seat.session a × (a.txn ≡ seat.txn)
seat_in_txn control seat seated own s was =
    let has = seat_has (txns_in control) seat seated in
    let t = one_there (txns_in control) has.0 has.1 in
    let at = own t.0 t.1 (ap (λ (a : SessionTxn). a.txn) t.2 ∙ has.2) in
    let active = subst (IsAmong has.0) (sym was.txns.active) has.1 in
    let number : number_of t.0 ≡ has.0.txn = ap (λ (a : SessionTxn). a.txn) t.2 in
    let session : has.0.session ≡ seat.session = ap (λ (a : SessionTxn). a.session) (sym t.2) ∙ at.0.1 in (
      has.0,
      (
        (
          active,
          ap s.sessions.seats session ∙ sits_in (txns_in control) s.sessions was.txns.seats t.0 t.1 seat.session at.0 at.1 ∙ ap in_txn number,
          active_above (txns_in control) s was.txns has.0 active,
        ),
        session,
      ),
      has.2,
    )

-- a session that is in a transaction of the table is in one at its seat
pub own_number : (control : Control) (seat : Seat) → IsSeatIn seat (txns_in control) → AtSeat seat (txns_in control) (IsOf seat.session) → (s : State) → HasControl control s
    → (a : SessionTxn) → IsOfSession s seat.session a → a.txn ≡ seat.txn
own_number control seat seated own s was a its =
    let has = seat_has (txns_in control) seat seated in
    let t = one_there (txns_in control) has.0 has.1 in
    let of = own t.0 t.1 (ap (λ (b : SessionTxn). b.txn) t.2 ∙ has.2) in
    let u = seat_there (txns_in control) s was.txns a its.0 in
    let same = (txns_in control).sessions seat.session u.0 t.0 u.1 t.1 (subst (λ n. IsOf n u.0) its.1 u.3) of in
    ap (λ (b : SessionTxn). b.txn) (sym u.2) ∙ same ∙ ap (λ (b : SessionTxn). b.txn) t.2 ∙ has.2

module _ (old new : Control) (s : State) (was : HasControl old s) (same : txns_in new ≡ txns_in old) where
  -- a call waits for a lock
  pub control_asked : (session txn : ℕ) (c : Call) (at : Granule) (a : SessionTxn) → IsOfSession s session a → a.txn ≡ txn → logs_decision c ≡ false → locks_in new ≡ locks_in old
      → waits_in new ≡ waits_in old ++ record { session = session; txn = txn; call = c; wait = Lock at; cycle = None } ∷ []
      → HasControl new (record s { waiting = lock_waiting a c at ∷ s.waiting })
  control_asked session txn c at a its number plain locks pushed = record {
    txns = txns_kept (txns_in old) (txns_in new) s (record s { waiting = lock_waiting a c at ∷ s.waiting }) same refl refl (λ n. refl) refl refl refl was.txns;
    waits = subst (λ cs. HasWaits cs (record s { waiting = lock_waiting a c at ∷ s.waiting })) (sym calls) (waits_asked (waits_in old) s was.waits a c at its.0 plain);
    resolving = resolving_kept (txns_in old) (txns_in new) (waits_in old) (waits_in new) s (record s { waiting = lock_waiting a c at ∷ s.waiting }) (ap rolled_in same)
        (ap resolved_by calls ∙ resolved_still (waits_in old) (record { session = a.session; txn = a.txn; call = c; wait = Lock at; cycle = None }) (never_resolves a.txn c plain)) refl (λ f. f) was.resolving;
    locks = was.locks ∙ sym locks;
  }
    where
      calls : waits_in new ≡ waits_in old ++ record { session = a.session; txn = a.txn; call = c; wait = Lock at; cycle = None } ∷ []
      calls =
          pushed ∙ ap (λ n. waits_in old ++ record { session = n; txn = txn; call = c; wait = Lock at; cycle = None } ∷ []) (sym its.1)
          ∙ ap (λ n. waits_in old ++ record { session = a.session; txn = n; call = c; wait = Lock at; cycle = None } ∷ []) (sym number)

  -- a call that waited is refused, or goes on
  pub control_refused : (session : ℕ) (w : WaitingCall) → AreApart (waits_in old) → IsAmong w (waits_in old) → w.session ≡ session → (s.failed ≡ false → awaits_record w ≡ false)
      → locks_in new ≡ locks_in old → waits_in new ≡ filter (is_other session) (waits_in old) → HasControl new (wait_refused s session)
  control_refused session w apart m own asked locks taken = record {
    txns = txns_kept (txns_in old) (txns_in new) s (wait_refused s session) same refl refl (λ n. refl) refl refl refl was.txns;
    waits = subst (λ cs. HasWaits cs (wait_refused s session)) (sym taken) (waits_refused (waits_in old) s was.waits session);
    resolving = λ f. resolving_kept (txns_in old) (txns_in new) (waits_in old) (waits_in new) s (wait_refused s session) (ap rolled_in same)
        (ap resolved_by taken ∙ resolved_but (waits_in old) apart session w m own (never_resolves w.txn w.call (sym (was.waits.kinds w m) ∙ asked f))) refl (λ g. g) was.resolving f;
    locks = was.locks ∙ sym locks;
  }

  -- nothing is changed
  pub control_same : locks_in new ≡ locks_in old → waits_in new ≡ waits_in old → HasControl new s
  control_same locks waits = record {
    txns = txns_kept (txns_in old) (txns_in new) s s same refl refl (λ n. refl) refl refl refl was.txns;
    waits = subst (λ cs. HasWaits cs s) (sym waits) was.waits;
    resolving = resolving_kept (txns_in old) (txns_in new) (waits_in old) (waits_in new) s s (ap rolled_in same) (ap resolved_by waits) refl (λ f. f) was.resolving;
    locks = was.locks ∙ sym locks;
  }
