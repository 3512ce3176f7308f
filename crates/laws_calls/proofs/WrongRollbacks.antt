-- Steps of savepoints, ways back and aborts that must not come, and what those leave that are refused.
use Rattle.std.proofs.Common.{◌≡◌, ◌≢◌, ◌⊎◌, inl, inr, ⊎_elim, ◌<◌, ◌≤◌, ℕ, List, cond, None, Some, refl, sym, ap, subst, ◌∙◌, length, arith}
use Rattle.std.specs.FinMap.{get}
use Rattle.std.specs.Prelude.{All, Option}
use Rattle.std.proofs.lemmas.Bool.{eq-eqb, ne_eqb}
use Rattle.shore_types.specs.declared.faults.Device.{Device}
use Rattle.shore_types.specs.declared.faults.Device.TheVariants.{Volume}
use Rattle.shore_types.specs.declared.faults.Fault.{Fault}
use Rattle.shore_types.specs.declared.faults.Fault.TheVariants as fault
use Rattle.shore_types.specs.declared.ids.Rid.{Rid}
use Rattle.shore_types.specs.declared.layout.Geometry.{Geometry}
use Rattle.shore_types.specs.declared.layout.TheConstants.{MAX_SAVEPOINTS}
use Rattle.shore_model.specs.declared.calls.Answer.{Answer}
use Rattle.shore_model.specs.declared.calls.Answer.TheVariants.{Aborted, Saved, WentBack}
use Rattle.shore_model.specs.declared.calls.Call.{Call}
use Rattle.shore_model.specs.declared.calls.Call.TheVariants as call
use Rattle.shore_model.specs.declared.histories.Entry.{Entry}
use Rattle.shore_model.specs.declared.histories.Opening.{Opening}
use Rattle.shore_model.specs.declared.log_records.LogRecord.{LogRecord}
use Rattle.shore_model.specs.declared.log_records.Payload.TheVariants.{End}
use Rattle.shore_model.specs.Logs.{previous_of}
use Rattle.laws_locks.proofs.Held.{gone_of}
use Rattle.shore_model.specs.declared.rollbacks.Rollback.{Rollback}
use Rattle.shore_model.specs.declared.rollbacks.Rollback.TheVariants.{To, Whole}
use Rattle.laws_lives.specs.Logged.{and_compensations, and_record}
use Rattle.laws_lives.specs.Sessions.{SessionTxn}
use Rattle.laws_lives.specs.UndoLists.{images_since, rolled_back}
use Rattle.shore_model.specs.declared.step.Step.TheVariants.{Done, Refused, Waits}
use Rattle.shore_model.specs.declared.step.Wait.{Wait}
use Rattle.laws_calls.proofs.SessionInversions.{aborted_in, answered_of, same_fault, saved_in, went_back_in, waits_of, waits_whole}
use Rattle.laws_calls.proofs.Sessions.{one_txn}
use Rattle.laws_calls.proofs.AcquireAnswers.{IsLockFault, acquire_fault}
use Rattle.laws_calls.proofs.WrongRefusals.{IsBehind, IsEarly, begin_fault, must_of, page_behind, refused_behind, refused_early, prepare_refuses}
use Rattle.laws_calls.proofs.WrongResumes.{gone}
use Rattle.laws_calls.specs.CallSteps.{AbortStep, CallStep, CallGoesOn, InnerStep, OpenStep, on_conflict_of, NeedsTxn}
use Rattle.laws_calls.specs.LockedStates.{IsSessionsState}
use Rattle.laws_calls.specs.Rollbacks.{Interrupts, IsInterrupted, IsUnwound, TakesCall}
use Rattle.laws_calls.specs.Shapes.{ForItsTxn, IsLackOfRoom, StopsAborts, rollback_of}
use Rattle.laws_calls.specs.StateChanges.{IsPageFault, after_refusal}
use Rattle.laws_calls.specs.States.{HasNoTxn, IsOfSession, State}
use Rattle.shore_model.specs.Histories.{free}
use Rattle.laws_calls.proofs.Outside.{not_outside, resolve_fault, resolve_in, IsOfOutside, outside_fault}
use Rattle.shore_model.specs.declared.calls.Outcome.{Outcome}
use Rattle.shore_model.specs.declared.calls.Outcome.TheVariants as outcome
use Rattle.laws_calls.specs.Resolves.{DecidesRollback, ResolvesTo}

same_savepoint : (n m : ℕ) → call.BackTo n ≡ call.BackTo m → n ≡ m
same_savepoint n m e = cc

same_rollback : (o : Option Rollback) (x y : Rollback) → o ≡ Some x → o ≡ Some y → x ≡ y
same_rollback o x y d e = cc

-- ---- what refuses a rollback

-- the session's transaction is interrupted in this rollback, or nothing has begun
abbrev pub Stopped : State → ℕ → Rollback → Fault → State → Type 0
Stopped s session r f new = (new ≡ s) ⊎ ((a : SessionTxn) × IsOfSession s session a × ((mid : State) × IsUnwound s a r mid × Interrupts mid f × (new ≡ after_refusal f mid)))

-- the faults of a rollback
abbrev IsStop : Fault → Type 0
IsStop f = (f ≡ fault.Memory) ⊎ ((f ≡ fault.Failed) ⊎ ((f ≡ fault.Busy) ⊎ ((f ≡ fault.NoTransaction) ⊎ ((f ≡ fault.MustAbort) ⊎ ((f ≡ fault.NoSavepoint) ⊎ (((x : State) × IsPageFault x f) ⊎ (f ≡ fault.IsPrepared)))))))

module _ (g : Geometry) (s new : State) (session : ℕ) where
  -- how the call of a transaction under way is refused, that asks for a rollback
  record StoppedIn (c : Call) (r : Rollback) (f : Fault) : Type 0 where
    left : Stopped s session r f new
    fault_is : IsStop f
    own : f ≡ fault.MustAbort → ForItsTxn s session (λ a. TakesCall a.undo c) → ⊥
    late : f ≡ fault.NoSavepoint → (n : ℕ) × (r ≡ To n) × ((a : SessionTxn) × IsOfSession s session a × (length a.undo.marks ≤ n))

  plainly : (c : Call) (r : Rollback) (f exact : Fault) → f ≡ exact → new ≡ s → IsStop f → exact ≢ fault.MustAbort → exact ≢ fault.NoSavepoint → StoppedIn c r f
  plainly c r f exact is same stop no_must no_late = record { left = inl same; fault_is = stop; own = λ e. absurd (no_must (sym is ∙ e)); late = λ e. absurd (no_late (sym is ∙ e)) }

  interrupted : (c : Call) (r : Rollback) (f : Fault) (a : SessionTxn) → IsOfSession s session a → IsInterrupted s a r f new → StoppedIn c r f
  interrupted c r f a of h = record {
    left = inr (a, of, (h.0, h.1, h.2, h.3));
    fault_is = ⊎_elim (λ memory. inl memory) (λ page. inr (inr (inr (inr (inr (inr (inl (h.0, page)))))))) h.2;
    own = λ e. absurd (no_own h.2 e);
    late = λ e. absurd (no_late h.2 e);
  }
    where
      no_own : Interrupts h.0 f → f ≡ fault.MustAbort → ⊥
      no_own (inl memory) e = let clash : fault.Memory ≡ fault.MustAbort = sym memory ∙ e in cc
      no_own (inr page) e = subst IsBehind e (page_behind h.0 f page)

      no_late : Interrupts h.0 f → f ≡ fault.NoSavepoint → ⊥
      no_late (inl memory) e = let clash : fault.Memory ≡ fault.NoSavepoint = sym memory ∙ e in cc
      no_late (inr page) e = subst IsBehind e (page_behind h.0 f page)

  -- a call that asks for a rollback is none that asks for a lock
  no_open : (a : SessionTxn) (c : Call) (r : Rollback) (f : Fault) → rollback_of c ≡ Some r → OpenStep g s a c (Refused f) new → ⊥
  no_open a (call.BackTo n) r f is (inl h) = h.1
  no_open a (call.BackTo n) r f is (inr (inl h)) = h.0
  no_open a (call.BackTo n) r f is (inr (inr (inl h))) = h.1
  no_open a (call.BackTo n) r f is (inr (inr (inr (inl h)))) = let clash = h.0 in cc
  no_open a (call.BackTo n) r f is (inr (inr (inr (inr h)))) = let clash = h.1 in cc
  no_open a call.Abort r f is (inl h) = h.1
  no_open a call.Abort r f is (inr (inl h)) = h.0
  no_open a call.Abort r f is (inr (inr (inl h))) = h.1
  no_open a call.Abort r f is (inr (inr (inr (inl h)))) = let clash = h.0 in cc
  no_open a call.Abort r f is (inr (inr (inr (inr h)))) = let clash = h.1 in cc
  no_open a (call.Resolve global asked) r f is (inl h) = h.1
  no_open a (call.Resolve global asked) r f is (inr (inl h)) = h.0
  no_open a (call.Resolve global asked) r f is (inr (inr (inl h))) = h.1
  no_open a (call.Resolve global asked) r f is (inr (inr (inr (inl h)))) = let clash = h.0 in cc
  no_open a (call.Resolve global asked) r f is (inr (inr (inr (inr h)))) = let clash = h.1 in cc
  no_open a _ r f is h = absurd cc

  stopped_in : (c : Call) (r : Rollback) (f : Fault) → NeedsTxn c → rollback_of c ≡ Some r → CallStep g s session c (Refused f) new → StoppedIn c r f
  stopped_in c r f needs is (inl h) = let e = same_fault f fault.Memory h.0 in plainly c r f fault.Memory e h.1 (inl e) (λ d. cc) (λ d. cc)
  stopped_in c r f needs is (inr (inl h)) = let e = same_fault f fault.Failed h.1 in plainly c r f fault.Failed e h.2 (inr (inl e)) (λ d. cc) (λ d. cc)
  stopped_in c r f needs is (inr (inr (inl h))) = let e = same_fault f fault.Busy h.2 in plainly c r f fault.Busy e h.3 (inr (inr (inl e))) (λ d. cc) (λ d. cc)
  stopped_in c r f needs is (inr (inr (inr (inl h)))) = let clash : rollback_of call.Begin ≡ Some r = subst (λ (x : Call). rollback_of x ≡ Some r) h.2 is in absurd cc
  stopped_in c r f needs is (inr (inr (inr (inr (inl h))))) =
      let e = same_fault f fault.NoTransaction h.4 in plainly c r f fault.NoTransaction e h.5 (inr (inr (inr (inl e)))) (λ d. cc) (λ d. cc)
  stopped_in c r f needs is (inr (inr (inr (inr (inr (inr (inl h))))))) =
      let e = same_fault f fault.IsPrepared h.4 in plainly c r f fault.IsPrepared e h.5 (inr (inr (inr (inr (inr (inr (inr e))))))) (λ d. cc) (λ d. cc)
  stopped_in c r f needs is (inr (inr (inr (inr (inr (inr (inr h))))))) = absurd (not_outside s session c (Refused f) new needs h.2)
  stopped_in c r f needs is (inr (inr (inr (inr (inr (inl h)))))) = by h.2.2
    where
      by : InnerStep g s h.2.0 c (Refused f) new → StoppedIn c r f
      by (inl x) =
          let e = same_fault f fault.MustAbort x.2 in
          record {
            left = inl x.3;
            fault_is = inr (inr (inr (inr (inl e))));
            own = λ d takes. x.1 (takes h.2.0 h.2.1);
            late = λ d. let clash : fault.MustAbort ≡ fault.NoSavepoint = sym e ∙ d in absurd cc;
          }
      by (inr (inl x)) = absurd (no_open h.2.0 c r f is x.1)
      by (inr (inr (inl x))) =
          let rolls = same_rollback (rollback_of c) (To x.0) r (ap rollback_of x.1) is in
          ⊎_elim
          (λ none. record {
            left = inl none.2;
            fault_is = inr (inr (inr (inr (inr (inl none.0)))));
            own = λ d. let clash : fault.NoSavepoint ≡ fault.MustAbort = sym none.0 ∙ d in absurd cc;
            late = λ d. (x.0, sym rolls, (h.2.0, h.2.1, none.1));
          })
          (λ on. subst (λ q. StoppedIn c q f) rolls (interrupted c (To x.0) f h.2.0 h.2.1 on.1))
          x.3
      by (inr (inr (inr x))) =
          subst (λ q. StoppedIn c q f) (same_rollback (rollback_of c) Whole r (ap rollback_of x.0) is) (interrupted c Whole f h.2.0 h.2.1 x.1)

  pub rollback_stops : (c : Call) (r : Rollback) (f : Fault) → NeedsTxn c → rollback_of c ≡ Some r → CallStep g s session c (Refused f) new → Stopped s session r f new
  rollback_stops c r f needs is h = (stopped_in c r f needs is h).left

  -- none of these is for lack of room
  page_not : (x : State) (f : Fault) → f ≢ fault.Device → ((device : Device) (offset : ℕ) → f ≢ fault.Damaged device offset) → ((n : ℕ) → f ≢ fault.NeedForce n) → IsPageFault x f → ⊥
  page_not x f device damaged force (inl e) = device e
  page_not x f device damaged force (inr (inl h)) = damaged Volume h.0 h.1
  page_not x f device damaged force (inr (inr h)) = force h.0 h.1

  full_stop : (exact : Fault) → ((x : State) → IsPageFault x exact → ⊥) → exact ≢ fault.Memory → exact ≢ fault.Failed → exact ≢ fault.Busy → exact ≢ fault.NoTransaction
      → exact ≢ fault.MustAbort → exact ≢ fault.NoSavepoint → exact ≢ fault.IsPrepared → IsStop exact → ⊥
  full_stop exact page a b c d e f g stop = ⊎_elim a (⊎_elim b (⊎_elim c (⊎_elim d (⊎_elim e (⊎_elim f (⊎_elim (λ x. page x.0 x.1) g)))))) stop

  txn_has_room : (c : Call) (r : Rollback) (f : Fault) → NeedsTxn c → rollback_of c ≡ Some r → IsLackOfRoom f → CallStep g s session c (Refused f) new → ⊥
  txn_has_room c r f needs is lacks h = by lacks (stopped_in c r f needs is h).fault_is
    where
      by : IsLackOfRoom f → IsStop f → ⊥
      by (inl e) stop =
          full_stop fault.StoreFull (λ x. page_not x fault.StoreFull (λ d. cc) (λ device offset d. cc) (λ n d. cc)) (λ d. cc) (λ d. cc) (λ d. cc) (λ d. cc) (λ d. cc) (λ d. cc) (λ d. cc) (subst IsStop e stop)
      by (inr (inl e)) stop =
          full_stop fault.LogFull (λ x. page_not x fault.LogFull (λ d. cc) (λ device offset d. cc) (λ n d. cc)) (λ d. cc) (λ d. cc) (λ d. cc) (λ d. cc) (λ d. cc) (λ d. cc) (λ d. cc) (subst IsStop e stop)
      by (inr (inr (inl e))) stop =
          full_stop fault.LockTableFull (λ x. page_not x fault.LockTableFull (λ d. cc) (λ device offset d. cc) (λ n d. cc)) (λ d. cc) (λ d. cc) (λ d. cc) (λ d. cc) (λ d. cc) (λ d. cc) (λ d. cc)
          (subst IsStop e stop)
      by (inr (inr (inr (inl e)))) stop =
          full_stop (fault.Deadlock e.0) (λ x. page_not x (fault.Deadlock e.0) (λ d. cc) (λ device offset d. cc) (λ n d. cc)) (λ d. cc) (λ d. cc) (λ d. cc) (λ d. cc) (λ d. cc) (λ d. cc) (λ d. cc)
          (subst IsStop e.1 stop)
      by (inr (inr (inr (inr e)))) stop =
          full_stop (fault.WouldBlock e.0) (λ x. page_not x (fault.WouldBlock e.0) (λ d. cc) (λ device offset d. cc) (λ n d. cc)) (λ d. cc) (λ d. cc) (λ d. cc) (λ d. cc) (λ d. cc) (λ d. cc) (λ d. cc)
          (subst IsStop e.1 stop)

  -- a resolve is refused for no lack of room
  pub resolve_has_room : (global : List ℕ) (asked : Outcome) (f : Fault) → IsLackOfRoom f → CallStep g s session (call.Resolve global asked) (Refused f) new → ⊥
  resolve_has_room global asked f lacks h = by lacks (resolve_fault g s new session global asked f h)
    where
      by : IsLackOfRoom f → IsOfOutside f → ⊥
      by (inl e) of = subst IsOfOutside e of
      by (inr (inl e)) of = subst IsOfOutside e of
      by (inr (inr (inl e))) of = subst IsOfOutside e of
      by (inr (inr (inr (inl e)))) of = subst IsOfOutside e.1 of
      by (inr (inr (inr (inr e)))) of = subst IsOfOutside e.1 of

  pub undo_has_room : (c : Call) (r : Rollback) (f : Fault) → rollback_of c ≡ Some r → IsLackOfRoom f → CallStep g s session c (Refused f) new → ⊥
  undo_has_room call.Begin r f is lacks h = let clash : None ≡ Some r = is in cc
  undo_has_room call.InDoubt r f is lacks h = let clash : None ≡ Some r = is in cc
  undo_has_room (call.Resolve global asked) r f is lacks h = resolve_has_room global asked f lacks h
  undo_has_room c r f is lacks h = txn_has_room c r f tt is lacks h

  -- a resolve that is refused has left all, or decided to roll back, and has been interrupted
  pub resolve_stops : (global : List ℕ) (asked : Outcome) (f : Fault) → CallStep g s session (call.Resolve global asked) (Refused f) new
      → (new ≡ s) ⊎ ((b : SessionTxn) × (decided : State) × DecidesRollback s global b decided × IsInterrupted decided b Whole f new)
  resolve_stops global asked f h = ⊎_elim (λ general. inl general.3) (λ goes. ⊎_elim (λ early. inl early.3) (λ on. by asked on.1) goes.2) (resolve_in g s new session global asked (Refused f) h)
    where
      by : (asked : Outcome) → ResolvesTo s session global asked (Refused f) new → (new ≡ s) ⊎ ((b : SessionTxn) × (decided : State) × DecidesRollback s global b decided × IsInterrupted decided b Whole f new)
      by outcome.Commit to = absurd to
      by outcome.Abort to = inr (to.0, to.1, to.2, to.3)

  pub abort_stops : (f : Fault) → CallStep g s session call.Abort (Refused f) new → StopsAborts f
  abort_stops f h = by t.fault_is
    where
      t : StoppedIn call.Abort Whole f
      t = stopped_in call.Abort Whole f tt refl h

      by : IsStop f → StopsAborts f
      by (inl memory) = inr (inr (inr (inr (s, inl memory))))
      by (inr (inl failed)) = inl failed
      by (inr (inr (inl busy))) = inr (inl busy)
      by (inr (inr (inr (inl none)))) = inr (inr (inl none))
      by (inr (inr (inr (inr (inl must))))) = absurd (t.own must (λ a of. inr (inl refl)))
      by (inr (inr (inr (inr (inr (inl late)))))) = let n = t.late late in let clash = n.1 in absurd cc
      by (inr (inr (inr (inr (inr (inr (inl page))))))) = inr (inr (inr (inr (page.0, inr page.1))))
      by (inr (inr (inr (inr (inr (inr (inr doubt))))))) = inr (inr (inr (inl doubt)))

  pub abort_must_not : CallStep g s session call.Abort (Refused fault.MustAbort) new → ⊥
  abort_must_not h = (stopped_in call.Abort Whole fault.MustAbort tt refl h).own refl (λ a of. inr (inl refl))

  pub abort_has_savepoint : CallStep g s session call.Abort (Refused fault.NoSavepoint) new → ⊥
  abort_has_savepoint h = let t = (stopped_in call.Abort Whole fault.NoSavepoint tt refl h).late refl in let clash = t.1 in cc

  pub must_abort_though_same_way : (n : ℕ) → ForItsTxn s session (λ a. a.undo.rolling ≡ Some (To n)) → CallStep g s session (call.BackTo n) (Refused fault.MustAbort) new → ⊥
  must_abort_though_same_way n way h = (stopped_in (call.BackTo n) (To n) fault.MustAbort tt refl h).own refl (λ a of. inr (inr (n, way a of, refl)))

  to_same : (n m : ℕ) → To n ≡ To m → n ≡ m
  to_same n m e = cc

  pub none_though_there : (n : ℕ) → ForItsTxn s session (λ a. n < length a.undo.marks) → CallStep g s session (call.BackTo n) (Refused fault.NoSavepoint) new → ⊥
  none_though_there n there h =
      let t = (stopped_in (call.BackTo n) (To n) fault.NoSavepoint tt refl h).late refl in
      let less = there t.2.0 t.2.1 in
      let late = t.2.2 in
      let same = to_same n t.0 t.1 in
      omega (arith, less, late, same)

  -- ---- refusals of any call

  pub must_abort_though_whole : (c : Call) → NeedsTxn c → ForItsTxn s session (λ a. a.undo.rolling ≡ None) → CallStep g s session c (Refused fault.MustAbort) new → ⊥
  must_abort_though_whole c needs whole h = let t = must_of g s new session c needs h in t.2 (whole t.0 t.1)

  no_interrupt : (f : Fault) → f ≢ fault.Memory → (IsBehind f → ⊥) → (x : State) → Interrupts x f → ⊥
  no_interrupt f memory behind x (inl e) = memory e
  no_interrupt f memory behind x (inr page) = behind (page_behind x f page)

  no_goes : (a : SessionTxn) (c : Call) → CallGoesOn g s a c (Refused fault.TooManySavepoints) new → ⊥
  no_goes a c (inl h) = let clash = h.0 in cc
  no_goes a c (inr (inl h)) = no_lock (acquire_fault s.locks a.txn h.0.granule h.0.mode (on_conflict_of c) fault.TooManySavepoints h.2)
    where
      no_lock : IsLockFault fault.TooManySavepoints → ⊥
      no_lock (inl e) = cc
      no_lock (inr (inl e)) = cc
      no_lock (inr (inr x)) = let clash = x.1 in cc
  no_goes a c (inr (inr h)) = refused_behind g h.0 a new c fault.TooManySavepoints h.2

  full_in : (a : SessionTxn) (c : Call) → InnerStep g s a c (Refused fault.TooManySavepoints) new → MAX_SAVEPOINTS ≤ length a.undo.marks
  full_in a c (inl h) = let clash = same_fault fault.TooManySavepoints fault.MustAbort h.2 in absurd cc
  full_in a c (inr (inl (whole, inl h))) = absurd (subst IsEarly (sym (same_fault fault.TooManySavepoints h.0 h.2)) (refused_early g c h.0 h.1))
  full_in a c (inr (inl (whole, inr (inl h)))) = absurd (no_goes a c h.1)
  full_in a c (inr (inl (whole, inr (inr (inl h))))) = absurd h.1
  full_in a c (inr (inl (whole, inr (inr (inr (inl h)))))) = h.1.1
  full_in a c (inr (inl (whole, inr (inr (inr (inr h)))))) = absurd (prepare_refuses g.version s a h.0 fault.TooManySavepoints h.2.0)
  full_in a c (inr (inr (inl h))) =
      ⊎_elim (λ late. let clash = late.0 in absurd cc) (λ rolls. absurd (no_interrupt fault.TooManySavepoints (λ e. cc) (λ x. x) rolls.1.0 rolls.1.2)) h.3
  full_in a c (inr (inr (inr h))) = absurd (no_interrupt fault.TooManySavepoints (λ e. cc) (λ x. x) h.1.0 h.1.2)

  pub too_many_below : (c : Call) → ForItsTxn s session (λ a. length a.undo.marks < MAX_SAVEPOINTS) → CallStep g s session c (Refused fault.TooManySavepoints) new → ⊥
  too_many_below c below (inl h) = let clash = same_fault fault.TooManySavepoints fault.Memory h.0 in cc
  too_many_below c below (inr (inl h)) = let clash = same_fault fault.TooManySavepoints fault.Failed h.1 in cc
  too_many_below c below (inr (inr (inl h))) = let clash = same_fault fault.TooManySavepoints fault.Busy h.2 in cc
  too_many_below c below (inr (inr (inr (inl h)))) =
      begin_fault g s new session (λ f. f ≢ fault.TooManySavepoints) (λ e. cc) (λ e. cc) (λ e. cc) fault.TooManySavepoints h.3 refl
  too_many_below c below (inr (inr (inr (inr (inl h))))) = let clash = same_fault fault.TooManySavepoints fault.NoTransaction h.4 in cc
  too_many_below c below (inr (inr (inr (inr (inr (inr (inl h))))))) = let clash = same_fault fault.TooManySavepoints fault.IsPrepared h.4 in cc
  too_many_below c below (inr (inr (inr (inr (inr (inr (inr h))))))) = outside_fault s session c fault.TooManySavepoints new h.2
  too_many_below c below (inr (inr (inr (inr (inr (inl h)))))) =
      let full = full_in h.2.0 c h.2.2 in let less = below h.2.0 h.2.1 in omega (arith, full, less)

  -- ---- a rollback goes on alone

  pub no_answer_in_rollback : (c : Call) (answer : Answer) → NeedsTxn c → rollback_of c ≡ None → ForItsTxn s session (λ a. a.undo.rolling ≢ None)
      → CallStep g s session c (Done answer) new → ⊥
  no_answer_in_rollback c answer needs plain rolls h = let t = answered_of g s new session c answer needs h in rolls t.0 t.1 (by t.0 t.2)
    where
      by : (a : SessionTxn) → InnerStep g s a c (Done answer) new → a.undo.rolling ≡ None
      by a (inl x) = let clash = x.2 in absurd cc
      by a (inr (inl x)) = x.0
      by a (inr (inr (inl x))) = let clash : None ≡ Some (To x.0) = sym plain ∙ ap rollback_of x.1 in absurd cc
      by a (inr (inr (inr x))) = let clash : None ≡ Some Whole = sym plain ∙ ap rollback_of x.0 in absurd cc

  pub no_wait_in_rollback : (c : Call) (wait : Wait) → NeedsTxn c → ForItsTxn s session (λ a. a.undo.rolling ≢ None) → CallStep g s session c (Waits wait) new → ⊥
  no_wait_in_rollback c wait needs rolls h = let t = waits_of g s new session c wait needs h in rolls t.0 t.1 (waits_whole g s new session c wait t.0 t.2)

  some_same : (x y : Rollback) → Some x ≡ Some y → x ≡ y
  some_same x y e = cc

  pub no_other_way : (n : ℕ) (r : Rollback) (answer : Answer) → r ≢ To n → ForItsTxn s session (λ a. a.undo.rolling ≡ Some r) → CallStep g s session (call.BackTo n) (Done answer) new → ⊥
  no_other_way n r answer other rolls h =
      let t = went_back_in g s new session n answer h in
      ⊎_elim
      (λ none. let clash : Some r ≡ None = sym (rolls t.0 t.1) ∙ none in cc)
      (⊎_elim (λ abort. let clash = abort in cc)
      (λ on. other (some_same r (To on.0) (sym (rolls t.0 t.1) ∙ on.1) ∙ ap To (sym (same_savepoint n on.0 on.2)))))
      t.2

  -- ---- answers

  abbrev Answered : Call → Answer → Type 0
  Answered c answer = CallStep g s session c (Done answer) new

  pub abort_forgets : (id : Rid) (answer : Answer) → ForItsTxn s session (λ a. get new.sessions.records id ≢ get (rolled_back s.sessions.records a.undo.images) id) → Answered call.Abort answer → ⊥
  abort_forgets id answer other h = let t = aborted_in g s new session answer h in other t.0 t.1 (ap (λ (x : State). get x.sessions.records id) t.2.1)

  pub abort_unended : (answer : Answer) → ForItsTxn s session (λ a. previous_of a.txn s.log ≢ 0)
      → ForItsTxn s session (λ a. new.log ≢ and_record a.txn (and_compensations a.txn s.log a.undo.images) End) → Answered call.Abort answer → ⊥
  abort_unended answer logged other h =
      let t = aborted_in g s new session answer h in
      let a = t.0 in
      other a t.1
      (ap (λ (x : State). x.log) t.2.1
      ∙ ap (λ b. cond b s.log (and_record a.txn (and_compensations a.txn s.log a.undo.images) End)) (ne_eqb (previous_of a.txn s.log) 0 (logged a t.1)))

  pub abort_logged : (answer : Answer) → ForItsTxn s session (λ a. previous_of a.txn s.log ≡ 0) → new.log ≢ s.log → Answered call.Abort answer → ⊥
  abort_logged answer none other h =
      let t = aborted_in g s new session answer h in
      let a = t.0 in
      other
      (ap (λ (x : State). x.log) t.2.1
      ∙ ap (λ b. cond b s.log (and_record a.txn (and_compensations a.txn s.log a.undo.images) End)) (eq-eqb (previous_of a.txn s.log) 0 (none a t.1)))

  pub abort_answered_other : (answer : Answer) → answer ≢ Aborted → Answered call.Abort answer → ⊥
  abort_answered_other answer other h = other (aborted_in g s new session answer h).2.0

  pub back_to_forgets : (n : ℕ) (id : Rid) (answer : Answer)
      → ForItsTxn s session (λ a. get new.sessions.records id ≢ get (rolled_back s.sessions.records (images_since a.undo n)) id) → Answered (call.BackTo n) answer → ⊥
  back_to_forgets n id answer other h = let t = went_back_in g s new session n answer h in other t.0 t.1 (ap (λ (x : State). get x.sessions.records id) t.3.2)

  pub back_to_unlogged : (n : ℕ) (answer : Answer) → ForItsTxn s session (λ a. new.log ≢ and_compensations a.txn s.log (images_since a.undo n)) → Answered (call.BackTo n) answer → ⊥
  back_to_unlogged n answer other h = let t = went_back_in g s new session n answer h in other t.0 t.1 (ap (λ (x : State). x.log) t.3.2)

  pub back_to_none : (n : ℕ) (answer : Answer) → ForItsTxn s session (λ a. length a.undo.marks ≤ n) → Answered (call.BackTo n) answer → ⊥
  back_to_none n answer none h = let t = went_back_in g s new session n answer h in let less = t.3.0 in let late = none t.0 t.1 in omega (arith, less, late)

  pub back_answered_other : (n : ℕ) (answer : Answer) → answer ≢ WentBack → Answered (call.BackTo n) answer → ⊥
  back_answered_other n answer other h = other (went_back_in g s new session n answer h).3.1

  pub saved_other : (answer : Answer) → ForItsTxn s session (λ a. answer ≢ Saved (length a.undo.marks)) → Answered call.Savepoint answer → ⊥
  saved_other answer other h = let t = saved_in g s new session answer h in other t.0 t.1 t.3.1

  pub saved_beyond : (answer : Answer) → ForItsTxn s session (λ a. MAX_SAVEPOINTS ≤ length a.undo.marks) → Answered call.Savepoint answer → ⊥
  saved_beyond answer full h = let t = saved_in g s new session answer h in let less = t.3.0 in let most = full t.0 t.1 in omega (arith, less, most)

  pub savepoint_that_changes : (answer : Answer) → (new.sessions.records ≢ s.sessions.records) ⊎ (new.log ≢ s.log) → Answered call.Savepoint answer → ⊥
  savepoint_that_changes answer changed h =
      let t = saved_in g s new session answer h in
      ⊎_elim (λ records. records (ap (λ (x : State). x.sessions.records) t.3.2)) (λ log. log (ap (λ (x : State). x.log) t.3.2)) changed

  -- ---- an abort that is answered

  module _ (o : Opening) (found : List LogRecord) (es : List Entry) (k : IsSessionsState o found es s) where
    module _ (a : SessionTxn) (of : IsOfSession s session a) (answer : Answer) (h : CallStep g s session call.Abort (Done answer) new) where
      its : (a : SessionTxn) × IsOfSession s session a × AbortStep s a (Done answer) new
      its = aborted_in g s new session answer h

      number : its.0.txn ≡ a.txn
      number = one_txn s.sessions its.0 a its.1.0.1 of.0.1 (its.1.1 ∙ sym of.1)

      pub no_lock_left : All (λ h. h.txn ≢ a.txn) new.sessions.held
      no_lock_left =
          subst (λ t. All (λ h. h.txn ≢ t) new.sessions.held) number
          (subst (λ (x : State). All (λ h. h.txn ≢ its.0.txn) x.sessions.held) (sym its.2.1) (gone_of s.locks.requests its.0.txn k.locks.orderly))

      pub no_request_left : All (λ r. r.txn ≢ a.txn) new.locks.requests
      no_request_left =
          subst (λ t. All (λ r. r.txn ≢ t) new.locks.requests) number
          (subst (λ (x : State). All (λ r. r.txn ≢ its.0.txn) x.locks.requests) (sym its.2.1) (gone its.0.txn s.locks.requests k.locks.orderly))

    pub aborted_in_none : (answer : Answer) → CallStep g s session call.Abort (Done answer) new → HasNoTxn new session
    aborted_in_none answer h =
        let t = aborted_in g s new session answer h in
        ap (λ (n : State). n.sessions.seats session) t.2.1 ∙ ap (λ b. cond b free (s.sessions.seats session)) (eq-eqb t.0.session session t.1.1)
