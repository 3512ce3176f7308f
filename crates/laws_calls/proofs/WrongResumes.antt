-- Resumes of sessions that must not come.
use Rattle.std.proofs.Common.{◌≡◌, ◌≢◌, inl, inr, ⊎_elim, ◌≤◌, ◌<◌, ℕ, List, [], ◌∷◌, Bool, true, false, refl, sym, ap, subst, ◌∙◌, length, arith, cond, Ok, reverse, None}
use Rattle.std.specs.Prelude.{◌==◌, All, IsTrue, is_some, not}
use Rattle.std.proofs.lemmas.Bool.{eqb-false}
use Rattle.std.proofs.lemmas.List.Elements.{All-cons, All-head, All-map, All-nil, All-tail}
use Rattle.shore_types.specs.Locking.{level_of}
use Rattle.shore_types.specs.declared.faults.Fault.{Fault}
use Rattle.shore_types.specs.declared.faults.Fault.TheVariants as fault
use Rattle.shore_types.specs.declared.layout.Geometry.{Geometry}
use Rattle.shore_types.specs.declared.locking.Granule.{Granule}
use Rattle.shore_types.specs.declared.locking.Mode.{Mode}
use Rattle.shore_model.specs.Locks.{path}
use Rattle.shore_model.specs.Modes.{is_allowed}
use Rattle.shore_model.specs.declared.calls.Answer.{Answer}
use Rattle.shore_model.specs.declared.calls.Answer.TheVariants.{Prepared, Resolved}
use Rattle.shore_model.specs.declared.calls.Call.{Call}
use Rattle.shore_model.specs.declared.histories.Entry.{Entry}
use Rattle.shore_model.specs.declared.histories.Opening.{Opening}
use Rattle.shore_model.specs.declared.log_records.LogRecord.{LogRecord}
use Rattle.shore_model.specs.declared.requests.Request.{Request}
use Rattle.shore_locks.proofs.LawLemmas.{released_own}
use Rattle.shore_locks.proofs.Tables.{fit_of}
use Rattle.shore_locks.specs.Grants.{released}
use Rattle.shore_locks.specs.Laws.{of_others, owners}
use Rattle.shore_locks.specs.Orderly.{IsOrderly}
use Rattle.shore_locks.specs.Tables.{Table, is_waiting}
use Rattle.shore_path.proofs.Reached.{waits_after}
use Rattle.shore_path.specs.Walks.{acquired}
use Rattle.shore_path.specs.declared.answers.Acquired.TheVariants as acquire
use Rattle.shore_path.specs.declared.answers.OnConflict.{OnConflict}
use Rattle.laws_locks.proofs.Held.{gone_of}
use Rattle.laws_lives.specs.Sessions.{SessionTxn}
use Rattle.laws_lives.specs.Views.{IsAmong}
use Rattle.shore_model.specs.declared.step.Step.{Step}
use Rattle.shore_model.specs.declared.step.Step.TheVariants.{Done, Nothing, Refused, Waits}
use Rattle.shore_model.specs.declared.step.Wait.{Wait}
use Rattle.shore_model.specs.declared.step.Wait.TheVariants.{Durable, Lock}
use Rattle.laws_calls.proofs.AcquireAnswers.{outcome_by}
use Rattle.laws_calls.proofs.Decided.{both_ways}
use Rattle.laws_calls.proofs.SessionInversions.{durable_no_lock, committed_in}
use Rattle.laws_calls.proofs.SessionResumes.{WaitsWhole}
use Rattle.laws_calls.proofs.SessionStates.{waits_whole}
use Rattle.laws_calls.proofs.Sessions.{one_txn}
use Rattle.laws_calls.specs.Events.{Forced, IsStateAfter, EventMoves}
use Rattle.laws_calls.specs.StateChanges.{wait_refused}
use Rattle.laws_calls.specs.CallSteps.{CallGoesOn, MayAsk, ResumesCall, ResumesWait, CallStep, ResumeStep, on_conflict_of, CommitStep}
use Rattle.laws_calls.specs.LockedStates.{IsSessionsState}
use Rattle.laws_calls.specs.Shapes.{ForItsTxn, WaitsOnLocks, WaitsOnRecords}
use Rattle.laws_calls.specs.States.{DoesNotWait, IsOfSession, State, Waiting, without_waiting}
use Rattle.shore_model.specs.Requests.{held_by_all}
use Rattle.shore_model.specs.declared.calls.Call.TheVariants as call

waits_no_done : (wait : Wait) (answer : Answer) → Done answer ≡ Waits wait → ⊥
waits_no_done wait answer e = cc

same_wait : (x y : Wait) → Waits x ≡ Waits y → x ≡ y
same_wait x y e = cc

-- the calls of a session that waits no more are not among those that wait
pub of_another : (session : ℕ) (ws : List Waiting) (w : Waiting) → IsAmong w (without_waiting session ws) → w.session ≢ session
of_another session [] w there = absurd there
of_another session (x ∷ ws) w there = by (x.session == session) refl (λ later. of_another session ws w later) there
  where
    by : (b : Bool) → (x.session == session) ≡ b → (IsAmong w (without_waiting session ws) → w.session ≢ session)
        → IsAmong w (cond (not b) (x ∷ without_waiting session ws) (without_waiting session ws)) → w.session ≢ session
    by true e rest later = rest later
    by false e rest (inl same) = λ is. eqb-false x.session session e (ap (λ (v : Waiting). v.session) same ∙ is)
    by false e rest (inr later) = rest later

module _ (g : Geometry) (s new : State) (session : ℕ) where
  abbrev ResumesTo : Step → Type 0
  ResumesTo step = ResumeStep g s session step new

  -- a call that waits is resumed
  record Resumed (step : Step) : Type 0 where
    waited : Waiting
    there : IsAmong waited s.waiting
    of : waited.session ≡ session
    how : ResumesCall g s waited step new

  resumed : (step : Step) → (step ≡ Nothing → ⊥) → ResumesTo step → Resumed step
  resumed step some (inl h) = absurd (some h.1)
  resumed step some (inr h) = record { waited = h.0; there = h.1; of = h.2; how = h.3 }

  -- .. of a manager that runs
  runs : (step : Step) → (step ≡ Refused fault.Failed → ⊥) → (w : Waiting) → ResumesCall g s w step new → (s.failed ≡ false) × ResumesWait g s w w.wait step new
  runs step other w (inl h) = absurd (other h.1)
  runs step other w (inr h) = (h.0, h.1)

  on_record : (P : ℕ → Type 0) → WaitsOnRecords s session P → (step : Step) (t : Resumed step) → ResumesWait g s t.waited t.waited.wait step new
      → (n : ℕ) × P n × ResumesWait g s t.waited (Durable n) step new
  on_record P on step t h =
      let r = on t.waited t.there t.of in (r.0, r.2, subst (λ (x : Wait). ResumesWait g s t.waited x step new) r.1 h)

  on_lock : WaitsOnLocks s session → (step : Step) (t : Resumed step) → ResumesWait g s t.waited t.waited.wait step new → (at : Granule) × ResumesWait g s t.waited (Lock at) step new
  on_lock on step t h = let r = on t.waited t.there t.of in (r.0, subst (λ (x : Wait). ResumesWait g s t.waited x step new) r.1 h)

  done : (answer : Answer) → ResumesTo (Done answer) → Resumed (Done answer)
  done answer h = resumed (Done answer) (λ e. cc) h

  waits : (wait : Wait) → ResumesTo (Waits wait) → Resumed (Waits wait)
  waits wait h = resumed (Waits wait) (λ e. cc) h

  refused : (f : Fault) → ResumesTo (Refused f) → Resumed (Refused f)
  refused f h = resumed (Refused f) (λ e. cc) h

  -- ---- of any session

  pub resumes_none : (step : Step) → DoesNotWait s session → step ≢ Nothing → ResumesTo step → ⊥
  resumes_none step idle some h = let t = resumed step some h in idle t.waited t.there t.of

  pub resumes_after_failure : (step : Step) → IsTrue s.failed → step ≢ Nothing → step ≢ Refused fault.Failed → ResumesTo step → ⊥
  resumes_after_failure step failed some other h =
      let t = resumed step some h in both_ways s.failed failed (runs step other t.waited t.how).0

  pub nothing_though_waiting : (w : Waiting) → IsAmong w s.waiting → w.session ≡ session → ResumesTo Nothing → ⊥
  nothing_though_waiting w m of (inl h) = h.0 w m of
  nothing_though_waiting w m of (inr h) = none h.0 h.0.wait (runs Nothing (λ e. cc) h.0 h.3).1
    where
      none : (v : Waiting) (wait : Wait) → ResumesWait g s v wait Nothing new → ⊥
      none v (Durable n) (inl x) = let clash = x.1 in cc
      none v (Durable n) (inr (inl x)) = let clash = x.1 in cc
      none v (Durable n) (inr (inr x)) = let clash = x.1 in cc
      none v (Lock at) x = ⊎_elim (λ still. let clash = still.1 in cc) (λ goes. goes.1) x.2

  -- ---- of a prepare or a resolve

  pub done_though_not_durable : (answer : Answer) → WaitsOnRecords s session (λ n. s.durable < n) → ResumesTo (Done answer) → ⊥
  done_though_not_durable answer on h =
      let t = done answer h in
      let r = on_record (λ n. s.durable < n) on (Done answer) t (runs (Done answer) (λ e. cc) t.waited t.how).1 in
      ⊎_elim (λ still. waits_no_done (Durable r.0) answer still.1) (⊎_elim (λ ends. let le = ends.0 in let less = r.1 in omega arith) (λ ends. let le = ends.0 in let less = r.1 in omega arith)) r.2

  pub waits_though_durable : (wait : Wait) → WaitsOnRecords s session (λ n. n ≤ s.durable) → ResumesTo (Waits wait) → ⊥
  waits_though_durable wait on h =
      let t = waits wait h in
      let r = on_record (λ n. n ≤ s.durable) on (Waits wait) t (runs (Waits wait) (λ e. cc) t.waited t.how).1 in
      ⊎_elim (λ still. let less = still.0 in let le = r.1 in omega arith) (⊎_elim (λ ends. waits_no_done wait Prepared (sym ends.1)) (λ ends. waits_no_done wait Resolved (sym ends.1))) r.2

  pub decision_refused : (f : Fault) → s.failed ≡ false → WaitsOnRecords s session (λ n. Unit {0}) → ResumesTo (Refused f) → ⊥
  decision_refused f running on h =
      let t = refused f h in
      ⊎_elim
      (λ failed. both_ways s.failed failed.0 running)
      (λ runs.
      let r = on_record (λ n. Unit {0}) on (Refused f) t runs.1 in
      ⊎_elim (λ still. let clash = still.1 in cc) (⊎_elim (λ ends. let clash = ends.1 in cc) (λ ends. let clash = ends.1 in cc)) r.2)
      t.how

  pub waits_for_other : (n : ℕ) → ((w : Waiting) → IsAmong w s.waiting → w.session ≡ session → w.wait ≢ Durable n) → ResumesTo (Waits (Durable n)) → ⊥
  waits_for_other n other h =
      let t = waits (Durable n) h in
      other t.waited t.there t.of (its t.waited.wait (runs (Waits (Durable n)) (λ e. cc) t.waited t.how).1)
    where
      its : (wait : Wait) → ResumesWait g s (waits (Durable n) h).waited wait (Waits (Durable n)) new → wait ≡ Durable n
      its (Durable m) (inl x) = sym (same_wait (Durable n) (Durable m) x.1)
      its (Durable m) (inr (inl x)) = absurd (waits_no_done (Durable n) Prepared (sym x.1))
      its (Durable m) (inr (inr x)) = absurd (waits_no_done (Durable n) Resolved (sym x.1))
      its (Lock at) x =
          ⊎_elim
          (λ still. absurd (durable_no_lock n at (same_wait (Durable n) (Lock at) still.1)))
          (λ goes. absurd (durable_no_lock n goes.1.1 goes.1.4))
          x.2

  -- ---- of a call that waits for a lock

  abbrev StillWaits : Type 0
  StillWaits = ForItsTxn s session (λ a. is_waiting a.txn s.locks.requests ≡ true)

  -- while its request waits nothing is done
  still : WaitsOnLocks s session → StillWaits → (step : Step) (t : Resumed step) → ResumesWait g s t.waited t.waited.wait step new → ((at : Granule) × (step ≡ Waits (Lock at))) × (new ≡ s)
  still on waiting step t h =
      let r = on_lock on step t h in
      ⊎_elim
      (λ still. ((r.0, still.1), still.2))
      (λ goes. absurd (both_ways (is_waiting r.1.0.txn s.locks.requests) (waiting r.1.0 (r.1.1.0, r.1.1.1 ∙ t.of)) goes.0))
      r.1.2

  pub done_though_waiting : (answer : Answer) → WaitsOnLocks s session → StillWaits → ResumesTo (Done answer) → ⊥
  done_though_waiting answer on waiting h =
      let t = done answer h in
      let r = still on waiting (Done answer) t (runs (Done answer) (λ e. cc) t.waited t.how).1 in
      waits_no_done (Lock r.0.0) answer r.0.1

  pub refused_though_waiting : (f : Fault) → s.failed ≡ false → WaitsOnLocks s session → StillWaits → ResumesTo (Refused f) → ⊥
  refused_though_waiting f running on waiting h =
      let t = refused f h in
      ⊎_elim
      (λ failed. both_ways s.failed failed.0 running)
      (λ runs. let clash = (still on waiting (Refused f) t runs.1).0.1 in cc)
      t.how

  pub changed_though_waiting : (wait : Wait) → new ≢ s → WaitsOnLocks s session → StillWaits → ResumesTo (Waits wait) → ⊥
  changed_though_waiting wait changed on waiting h =
      let t = waits wait h in changed (still on waiting (Waits wait) t (runs (Waits wait) (λ e. cc) t.waited t.how).1).1

-- ---- a request that waits no more

told_to_wait : (c : OnConflict) (table : Table) (t : ℕ) (target : Granule) (mode : Mode) (at : Granule) → IsOrderly table.requests → is_waiting t table.requests ≡ false
    → (acquired c table t target mode).answer ≡ Ok (acquire.Waiting at) → is_waiting t (acquired c table t target mode).requests ≡ true
told_to_wait c table t target mode at orderly quiet = by (is_allowed (level_of target) mode)
  where
    by : (b : Bool) → (outcome_by c table t target mode b).answer ≡ Ok (acquire.Waiting at) → is_waiting t (outcome_by c table t target mode b).requests ≡ true
    by true is = ap is_some (waits_after c t target mode table.limit (reverse (path target)) table.requests (fit_of table.requests orderly) quiet at is).2.waits
    by false is = absurd cc

module _ (g : Geometry) (o : Opening) (found : List LogRecord) (es : List Entry) (s : State) (k : IsSessionsState o found es s) (session : ℕ) where
  -- .. does not wait on as if nothing had happened
  pub waits_though_granted : (wait : Wait) → WaitsOnLocks s session → ForItsTxn s session (λ a. is_waiting a.txn s.locks.requests ≡ false) → ResumeStep g s session (Waits wait) s → ⊥
  waits_though_granted wait on quiet h =
      let t = waits g s s session wait h in
      let r = on_lock g s s session on (Waits wait) t (runs g s s session (Waits wait) (λ e. cc) t.waited t.how).1 in
      let free = quiet r.1.0 (r.1.1.0, r.1.1.1 ∙ t.of) in
      ⊎_elim (λ still. both_ways (is_waiting r.1.0.txn s.locks.requests) still.0 free) (λ goes. again r.1.0 t.waited.session t.waited.call free goes.1) r.1.2
    where
      again : (a : SessionTxn) (n : ℕ) (c : Call) → is_waiting a.txn s.locks.requests ≡ false → CallGoesOn g (wait_refused s n) a c (Waits wait) s → ⊥
      again a n c free goes =
          let told = told_to_wait (on_conflict_of c) s.locks a.txn goes.0.granule goes.0.mode goes.1 k.locks.orderly free goes.3 in
          both_ways (is_waiting a.txn s.locks.requests) (ap (λ (s : State). is_waiting a.txn s.locks.requests) goes.5 ∙ told) free

-- ---- a call that goes on behind its lock

module _ (g : Geometry) (o : Opening) (found : List LogRecord) (es : List Entry) (s : State) (k : IsStateAfter o found es s) (session : ℕ) where
  -- it is as if it were made now
  pub goes_on_as_call : (w : Waiting) → IsAmong w s.waiting → w.session ≡ session → (at : Granule) → w.wait ≡ Lock at → MayAsk g w.call → s.failed ≡ false
      → ForItsTxn s session (λ a. is_waiting a.txn s.locks.requests ≡ false) → (step : Step) (new : State) → ResumeStep g s session step new
      → CallStep g (wait_refused s session) session w.call step new
  goes_on_as_call w there of at is may running quiet step new (inl h) = absurd (h.0 w there of)
  goes_on_as_call w there of at is may running quiet step new (inr h) =
      by (subst (λ (v : Waiting). ResumesCall g s v step new) (k.waits.once h.0 w h.1 there (h.2 ∙ sym of)) h.3)
    where
      on : WaitsWhole s w.session w.wait → ResumesWait g s w (Lock at) step new → CallStep g (wait_refused s session) session w.call step new
      on whole x =
          let mine : IsOfSession s session x.0 = (x.1.0, x.1.1 ∙ of) in
          ⊎_elim
          (λ still. absurd (both_ways (is_waiting x.0.txn s.locks.requests) still.0 (quiet x.0 mine)))
          (λ goes. inr (inr (inr (inr (inr (inl (
            running,
            λ v m. of_another session s.waiting v m,
            (
              x.0,
              mine,
              inr (inl (whole at x.0 is x.1, inr (inl (may, subst (λ (n : ℕ). CallGoesOn g (wait_refused s n) x.0 w.call step new) of goes.1)))),
            ),
          )))))))
          x.2

      by : ResumesCall g s w step new → CallStep g (wait_refused s session) session w.call step new
      by (inl failed) = absurd (both_ways s.failed failed.0 running)
      by (inr runs) = on (waits_whole o found es s k w there runs.2) (subst (λ (x : Wait). ResumesWait g s w x step new) is runs.1)

-- ---- a commit that is answered

all_owned : (P : ℕ → Type 0) (rs : List Request) → All (λ k. P k.0) (owners rs) → All (λ r. P r.txn) rs
all_owned P [] all = All-nil (λ r. P r.txn)
all_owned P (r ∷ rs) all =
    All-cons (λ q. P q.txn) r rs (All-head (λ (k : ℕ × Granule). P k.0) (r.txn, r.granule) (owners rs) all)
    (all_owned P rs (All-tail (λ (k : ℕ × Granule). P k.0) (r.txn, r.granule) (owners rs) all))

not_of : (t : ℕ) (rs : List Request) → All (λ r. r.txn ≢ t) (of_others t rs)
not_of t [] = All-nil (λ r. r.txn ≢ t)
not_of t (r ∷ rs) = by (r.txn == t) refl (not_of t rs)
  where
    by : (b : Bool) → (r.txn == t) ≡ b → All (λ r. r.txn ≢ t) (of_others t rs) → All (λ r. r.txn ≢ t) (cond (not b) (r ∷ of_others t rs) (of_others t rs))
    by true e rest = rest
    by false e rest = All-cons (λ r. r.txn ≢ t) r (of_others t rs) (eqb-false r.txn t e) rest

-- nobody's request is left in the table once he has released all
pub gone : (t : ℕ) (rs : List Request) → IsOrderly rs → All (λ r. r.txn ≢ t) (released t rs)
gone t rs orderly =
    all_owned (λ n. n ≢ t) (released t rs)
    (subst (All (λ (k : ℕ × Granule). k.0 ≢ t)) (sym (released_own rs t orderly.one_each))
    (All-map (λ (k : ℕ × Granule). k.0 ≢ t) (λ (r : Request). (r.txn, r.granule)) (of_others t rs) (not_of t rs)))

-- a commit is answered
module _ (g : Geometry) (o : Opening) (found : List LogRecord) (es : List Entry) (s new : State) (after : IsSessionsState o found es s) (session : ℕ) (a : SessionTxn) (of : IsOfSession s session a)
    (answer : Answer) (h : CallStep g s session call.Commit (Done answer) new) where
  its_txn_ends : (t : (b : SessionTxn) × IsOfSession s session b × (b.undo.rolling ≡ None) × CommitStep s b (Done answer) new) → (new.locks.requests ≡ released a.txn s.locks.requests) × (new.sessions.held ≡ held_by_all (released a.txn s.locks.requests))
  its_txn_ends t =
      let same : t.0.txn ≡ a.txn = one_txn s.sessions t.0 a t.1.0.1 of.0.1 (t.1.1 ∙ sym of.1) in (
        ap (λ (x : State). x.locks.requests) t.3.1 ∙ ap (λ n. released n s.locks.requests) same,
        ap (λ (x : State). x.sessions.held) t.3.1 ∙ ap (λ n. held_by_all (released n s.locks.requests)) same,
      )

  left : (new.locks.requests ≡ released a.txn s.locks.requests) × (new.sessions.held ≡ held_by_all (released a.txn s.locks.requests))
  left = its_txn_ends (committed_in g s new session answer h)

  pub no_lock_left : All (λ h. h.txn ≢ a.txn) new.sessions.held
  no_lock_left = subst (All (λ h. h.txn ≢ a.txn)) (sym left.1) (gone_of s.locks.requests a.txn after.locks.orderly)

  pub no_request_left : All (λ r. r.txn ≢ a.txn) new.locks.requests
  no_request_left = subst (All (λ r. r.txn ≢ a.txn)) (sym left.0) (gone a.txn s.locks.requests after.locks.orderly)

-- ---- forces

pub force_back : (g : Geometry) (s new : State) (n : ℕ) → n < s.durable → EventMoves g s (Forced n) new → ⊥
force_back g s new n less h = let le = h.0 in omega arith

pub force_beyond : (g : Geometry) (s new : State) (n : ℕ) → length s.log < n → EventMoves g s (Forced n) new → ⊥
force_beyond g s new n less h = let le = h.1 in omega arith
