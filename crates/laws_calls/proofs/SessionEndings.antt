-- How the waits of sessions begin and end, and how a state fails.
use Rattle.std.proofs.Common.{◌≡◌, inl, inr, ⊎_elim, ℕ, None, refl, sym, ap, subst, ◌∙◌, ◌∷◌, List, ◌⊎◌}
use Rattle.shore_types.specs.declared.faults.Fault.{Fault}
use Rattle.shore_types.specs.declared.faults.Fault.TheVariants as fault
use Rattle.shore_types.specs.declared.layout.Geometry.{Geometry}
use Rattle.shore_model.specs.declared.calls.Answer.{Answer}
use Rattle.shore_model.specs.declared.calls.Call.{Call}
use Rattle.shore_model.specs.declared.calls.Call.TheVariants as call
use Rattle.laws_lives.specs.Sessions.{SessionTxn}
use Rattle.laws_lives.specs.Views.{IsAmong}
use Rattle.shore_model.specs.declared.step.Step.{Step}
use Rattle.shore_model.specs.declared.step.Step.TheVariants.{Done, Nothing, Refused, Waits}
use Rattle.shore_model.specs.declared.step.Wait.{Wait}
use Rattle.shore_model.specs.declared.step.Wait.TheVariants.{Durable, Lock}
use Rattle.laws_calls.proofs.Elements.{waits_on}
use Rattle.laws_calls.specs.StateChanges.{after_refusal, wait_refused, decision_waiting}
use Rattle.laws_calls.specs.CallSteps.{AnswersBehind, CallGoesOn, InnerStep, RefusesBehind, ResumesWait, CallStep, ResumeStep, behind_place, lock_waiting}
use Rattle.laws_calls.specs.States.{DoesNotWait, State, Waiting, next_number}
use Rattle.laws_calls.proofs.SessionInversions.{waits_on_record}
use Rattle.shore_model.specs.declared.calls.Outcome.TheVariants as outcome
use Rattle.laws_calls.specs.Resolves.{rollback_number, IsRollingBack, DecidesRollback}
use Rattle.laws_calls.proofs.ResolveLeaves.{decided_table}
use Rattle.laws_calls.proofs.Outside.{outside_waits}
use Rattle.laws_calls.proofs.RollbackNumbers.{fresh_number}

-- ---- a wait begins

module _ (g : Geometry) (s : State) (session : ℕ) (c : Call) where
  abbrev waits_with : Wait → Waiting
  waits_with wait = record { session = session; call = c; wait = wait; cycle = None }

  -- a call that waits for its record
  appended : (a : SessionTxn) (d : Call) (wait : Wait) → a.session ≡ session → c ≡ d → wait ≡ Durable (next_number s) → decision_waiting a.session d (next_number s) ≡ waits_with wait
  appended a d wait of is waits =
      ap (λ n. record { session = n; call = d; wait = Durable (next_number s); cycle = None }) of
      ∙ ap (λ (x : Call). record { session = session; call = x; wait = Durable (next_number s); cycle = None }) (sym is) ∙ ap waits_with (sym waits)

  inner_adds : (wait : Wait) (new : State) (a : SessionTxn) → a.session ≡ session → InnerStep g s a c (Waits wait) new → new.waiting ≡ waits_with wait ∷ s.waiting
  inner_adds wait new a of (inl h) = let clash = h.2 in absurd cc
  inner_adds wait new a of (inr (inl (whole, inl h))) = let clash = h.2 in absurd cc
  inner_adds wait new a of (inr (inl (whole, inr (inr (inr (inl h)))))) = absurd h.1
  inner_adds wait new a of (inr (inr (inl h))) = absurd h.3
  inner_adds wait new a of (inr (inr (inr h))) = absurd h.1
  inner_adds wait new a of (inr (inl (whole, inr (inl h)))) =
      ap (λ (x : State). x.waiting) h.1.5
      ∙ ap (λ (w : Waiting). w ∷ s.waiting) (ap (λ n. record { session = n; call = c; wait = Lock h.1.1; cycle = None }) of ∙ ap waits_with (sym h.1.4))
  inner_adds wait new a of (inr (inl (whole, inr (inr (inl h))))) = absurd h.1
  inner_adds wait new a of (inr (inl (whole, inr (inr (inr (inr h)))))) =
      ap (λ (x : State). x.waiting) h.2.4 ∙ ap (λ (w : Waiting). w ∷ s.waiting) (appended a (call.Prepare h.0) wait of h.1 h.2.3)

-- the call is one more that waits
pub call_adds : (g : Geometry) (s new : State) (session : ℕ) (c : Call) (wait : Wait) → CallStep g s session c (Waits wait) new
    → new.waiting ≡ record { session = session; call = c; wait = wait; cycle = None } ∷ s.waiting
call_adds g s new session c wait (inl h) = let clash = h.0 in absurd cc
call_adds g s new session c wait (inr (inl h)) = let clash = h.1 in absurd cc
call_adds g s new session c wait (inr (inr (inl h))) = let clash = h.2 in absurd cc
call_adds g s new session c wait (inr (inr (inr (inl h)))) = absurd h.3
call_adds g s new session c wait (inr (inr (inr (inr (inl h))))) = let clash = h.4 in absurd cc
call_adds g s new session c wait (inr (inr (inr (inr (inr (inr (inl h))))))) = let clash = h.4 in absurd cc
call_adds g s new session c wait (inr (inr (inr (inr (inr (inr (inr h))))))) = ⊎_elim
    (λ commit. ap (λ (x : State). x.waiting) commit.left ∙ ap (λ (w : Waiting). w ∷ s.waiting) (as_called c (call.Resolve commit.global outcome.Commit) wait (next_number s) commit.is commit.waits))
    (λ back.
    let n = rollback_number back.txn.txn back.decided.log in
    ap (λ (x : State). x.waiting) back.to.2
    ∙ ap (λ ws. decision_waiting session (call.Resolve back.global outcome.Abort) n ∷ ws) (decided_table s back.global back.txn back.decided back.by).waiting
    ∙ ap (λ (w : Waiting). w ∷ s.waiting) (as_called c (call.Resolve back.global outcome.Abort) wait n back.is back.to.1))
    (outside_waits s session c wait new h.2)
  where
    as_called : (c d : Call) (wait : Wait) (n : ℕ) → c ≡ d → wait ≡ Durable n → decision_waiting session d n ≡ record { session = session; call = c; wait = wait; cycle = None }
    as_called c d wait n is waits =
        ap (λ (x : Call). record { session = session; call = x; wait = Durable n; cycle = None }) (sym is)
        ∙ ap (λ (x : Wait). record { session = session; call = c; wait = x; cycle = None }) (sym waits)
call_adds g s new session c wait (inr (inr (inr (inr (inr (inl h)))))) = inner_adds g s session c wait new h.2.0 h.2.1.1 h.2.2

pub call_waits : (g : Geometry) (s new : State) (session : ℕ) (c : Call) (wait : Wait) → CallStep g s session c (Waits wait) new
    → IsAmong (record { session = session; call = c; wait = wait; cycle = None }) new.waiting
call_waits g s new session c wait h = subst (IsAmong (record { session = session; call = c; wait = wait; cycle = None })) (sym (call_adds g s new session c wait h)) (inl refl)

abbrev number_of : Wait → ℕ → ℕ
number_of (Durable m) other = m
number_of (Lock at) other = other

-- it waits for the record that goes last, or a resolve for that of its decision, which it may have appended before
abbrev pub WaitsForIts : State → Call → ℕ → Type 0
WaitsForIts s c n =
    (n ≡ next_number s) ⊎ ((a : SessionTxn) × (global : List ℕ) × (c ≡ call.Resolve global outcome.Abort) × IsRollingBack s a global × (n ≡ rollback_number a.txn s.log))

pub its_own_number : (g : Geometry) (s new : State) (session n : ℕ) (c : Call) → CallStep g s session c (Waits (Durable n)) new → WaitsForIts s c n
its_own_number g s new session n c h = ⊎_elim
    (λ t. inl (ap (λ (w : Wait). number_of w n) t.3.2.3))
    (⊎_elim
    (λ commit. inl (ap (λ (w : Wait). number_of w n) commit.waits))
    (λ back. by back.global back.txn back.decided back.is back.by (ap (λ (w : Wait). number_of w n) back.to.1)))
    (waits_on_record g s new session c n h)
  where
    by : (global : List ℕ) (b : SessionTxn) (d : State) → c ≡ call.Resolve global outcome.Abort → DecidesRollback s global b d → n ≡ rollback_number b.txn d.log → WaitsForIts s c n
    by global b d is (inl x) number = inl (number ∙ fresh_number s global b d x)
    by global b d is (inr x) number = inr (b, global, is, x.0, number ∙ ap (λ (y : State). rollback_number b.txn y.log) x.1)

-- ---- a wait goes on

-- a call of the session waits for this
abbrev StillWaits : ℕ → Wait → State → Type 0
StillWaits session wait new = (w : Waiting) × IsAmong w new.waiting × (w.session ≡ session) × (w.wait ≡ wait)

abbrev wait_of : Step → Wait → Wait
wait_of (Waits wait) other = wait
wait_of (Done answer) other = other
wait_of (Refused f) other = other
wait_of Nothing other = other

still_in : (g : Geometry) (s new : State) (w : Waiting) (its wait : Wait) → IsAmong w s.waiting → w.wait ≡ its → ResumesWait g s w its (Waits wait) new → StillWaits w.session wait new
still_in g s new w (Durable n) wait m is (inl h) = subst (StillWaits w.session wait) (sym h.2) (w, m, refl, is ∙ ap (λ (x : Step). wait_of x (Durable n)) (sym h.1))
still_in g s new w (Durable n) wait m is (inr (inl h)) = let clash = h.1 in absurd cc
still_in g s new w (Durable n) wait m is (inr (inr h)) = let clash = h.1 in absurd cc
still_in g s new w (Lock at) wait m is h = ⊎_elim
    (λ still. subst (StillWaits w.session wait) (sym still.2) (w, m, refl, is ∙ ap (λ (x : Step). wait_of x (Lock at)) (sym still.1)))
    (λ free. let on = free.1 in subst (StillWaits w.session wait) (sym on.5) (lock_waiting h.0 w.call on.1, inl refl, h.1.1, sym on.4))
    h.2

pub still_waits : (g : Geometry) (s new : State) (session : ℕ) (wait : Wait) → ResumeStep g s session (Waits wait) new → StillWaits session wait new
still_waits g s new session wait (inl h) = let clash = h.1 in absurd cc
still_waits g s new session wait (inr h) =
    subst (λ n. StillWaits n wait new) h.2
    (⊎_elim (λ failed. let clash = failed.1 in absurd cc) (λ on. still_in g s new h.0 h.0.wait wait h.1 refl on.1) h.3)

-- ---- a wait ends

-- the calls that wait are those that waited, but for the session's
abbrev pub AreOthers : State → ℕ → State → Type 0
AreOthers s session new = new.waiting ≡ (wait_refused s session).waiting

-- an answer and a refusal leave the calls that wait
answers_leave : (g : Geometry) (s : State) (a : SessionTxn) (c : Call) (answer : Answer) (new : State) → AnswersBehind g s a c answer new → new.waiting ≡ s.waiting
answers_leave g s a (call.Get id) answer new h = ap (λ (x : State). x.waiting) h.1
answers_leave g s a (call.GetForUpdate id) answer new h = ap (λ (x : State). x.waiting) h.1
answers_leave g s a (call.Insert store bytes) answer new h = ap (λ (x : State). x.waiting) h.3.2
answers_leave g s a (call.Update id bytes) answer new h = ap (λ (x : State). x.waiting) h.2.2
answers_leave g s a (call.Delete id) answer new h = ap (λ (x : State). x.waiting) h.2.2
answers_leave g s a (call.Scan store) answer new h = ap (λ (x : State). x.waiting) h.1
answers_leave g s a (call.Lock at mode) answer new h = ap (λ (x : State). x.waiting) h.1
answers_leave g s a (call.TryLock at mode) answer new h = ap (λ (x : State). x.waiting) h.1
answers_leave g s a _ answer new h = absurd h

refused_leaves : (f : Fault) (s : State) → (after_refusal f s).waiting ≡ s.waiting
refused_leaves fault.Device s = refl
refused_leaves (fault.Damaged device place) s = refl
refused_leaves _ s = refl

refusals_leave : (g : Geometry) (s : State) (a : SessionTxn) (c : Call) (f : Fault) (new : State) → RefusesBehind g s a c f new → new.waiting ≡ s.waiting
refusals_leave g s a (call.Get id) f new h = ap (λ (x : State). x.waiting) h.1 ∙ refused_leaves f s
refusals_leave g s a (call.GetForUpdate id) f new h = ap (λ (x : State). x.waiting) h.1 ∙ refused_leaves f s
refusals_leave g s a (call.Insert store bytes) f new (inl h) = ap (λ (x : State). x.waiting) h.2
refusals_leave g s a (call.Insert store bytes) f new (inr (inl h)) = ap (λ (x : State). x.waiting) h.1.3
refusals_leave g s a (call.Insert store bytes) f new (inr (inr (inl h))) = ap (λ (x : State). x.waiting) h.1.3
refusals_leave g s a (call.Insert store bytes) f new (inr (inr (inr h))) = ap (λ (x : State). x.waiting) h.1 ∙ refused_leaves f s
refusals_leave g s a (call.Update id bytes) f new h = ap (λ (x : State). x.waiting) h.1 ∙ refused_leaves f s
refusals_leave g s a (call.Delete id) f new h = ap (λ (x : State). x.waiting) h.1 ∙ refused_leaves f s
refusals_leave g s a (call.Scan store) f new h = ap (λ (x : State). x.waiting) h.1 ∙ refused_leaves f s
refusals_leave g s a _ f new h = absurd h

pub done_leaves : (g : Geometry) (s : State) (a : SessionTxn) (c : Call) (answer : Answer) (new : State) → CallGoesOn g s a c (Done answer) new → new.waiting ≡ s.waiting
done_leaves g s a c answer new h = answers_leave g h.0 a c answer new h.2 ∙ ap (λ (x : State). x.waiting) h.1.3

pub refusing_leaves : (g : Geometry) (s : State) (a : SessionTxn) (c : Call) (f : Fault) (new : State) → CallGoesOn g s a c (Refused f) new → new.waiting ≡ s.waiting
refusing_leaves g s a c f new (inl h) = ⊎_elim
    (ap (λ (x : State). x.waiting))
    (λ locked. ⊎_elim
    (λ same. ap (λ (x : State). x.waiting) (same ∙ locked.1.3))
    (λ placed. ap (λ (x : State). x.waiting) (placed.5 ∙ ap (λ (x : State). behind_place x a placed.2) locked.1.3)) locked.2)
    h.1
refusing_leaves g s a c f new (inr (inl h)) = ap (λ (x : State). x.waiting) h.3
refusing_leaves g s a c f new (inr (inr h)) = refusals_leave g h.0 a c f new h.2 ∙ ap (λ (x : State). x.waiting) h.1.3

pub others_wait : (s new : State) (session : ℕ) → AreOthers s session new → DoesNotWait new session
others_wait s new session is w m = (waits_on session w s.waiting (subst (IsAmong w) is m)).1

done_in : (g : Geometry) (s new : State) (w : Waiting) (its : Wait) (answer : Answer) → ResumesWait g s w its (Done answer) new → AreOthers s w.session new
done_in g s new w (Durable n) answer (inl h) = let clash = h.1 in absurd cc
done_in g s new w (Durable n) answer (inr (inl h)) = ap (λ (x : State). x.waiting) h.2.4
done_in g s new w (Durable n) answer (inr (inr h)) = ap (λ (x : State). x.waiting) h.2.3
done_in g s new w (Lock at) answer h = ⊎_elim
    (λ still. let clash = still.1 in absurd cc)
    (λ free. done_leaves g (wait_refused s w.session) h.0 w.call answer new free.1)
    h.2

refused_in : (g : Geometry) (s new : State) (w : Waiting) (its : Wait) (f : Fault) → ResumesWait g s w its (Refused f) new → AreOthers s w.session new
refused_in g s new w (Durable n) f (inl h) = let clash = h.1 in absurd cc
refused_in g s new w (Durable n) f (inr (inl h)) = let clash = h.1 in absurd cc
refused_in g s new w (Durable n) f (inr (inr h)) = let clash = h.1 in absurd cc
refused_in g s new w (Lock at) f h = ⊎_elim
    (λ still. let clash = still.1 in absurd cc)
    (λ free. refusing_leaves g (wait_refused s w.session) h.0 w.call f new free.1)
    h.2

pub resumed_waits_no_more : (g : Geometry) (s new : State) (session : ℕ) (answer : Answer) → ResumeStep g s session (Done answer) new → DoesNotWait new session
resumed_waits_no_more g s new session answer (inl h) = let clash = h.1 in absurd cc
resumed_waits_no_more g s new session answer (inr h) =
    subst (DoesNotWait new) h.2
    (others_wait s new h.0.session (⊎_elim (λ failed. let clash = failed.1 in absurd cc) (λ on. done_in g s new h.0 h.0.wait answer on.1) h.3))

pub refused_resume_waits_no_more : (g : Geometry) (s new : State) (session : ℕ) (f : Fault) → ResumeStep g s session (Refused f) new → DoesNotWait new session
refused_resume_waits_no_more g s new session f (inl h) = let clash = h.1 in absurd cc
refused_resume_waits_no_more g s new session f (inr h) =
    subst (DoesNotWait new) h.2
    (others_wait s new h.0.session (⊎_elim (λ failed. ap (λ (x : State). x.waiting) failed.2) (λ on. refused_in g s new h.0 h.0.wait f on.1) h.3))
