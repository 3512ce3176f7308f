-- What becomes of locks by a call: nobody's becomes weaker, and an answer has those that it needs.
use Rattle.std.proofs.Common.{◌≡◌, ◌≢◌, ◌⊎◌, inl, inr, ⊎_elim, ℕ, List, false, sym, ap, subst, ◌∙◌, Ok, ◌++◌}
use Rattle.std.specs.Prelude.{Result}
use Rattle.shore_types.specs.declared.faults.Fault.{Fault}
use Rattle.shore_types.specs.declared.faults.Fault.TheVariants as fault
use Rattle.shore_types.specs.declared.ids.Rid.{Rid}
use Rattle.shore_types.specs.declared.layout.Geometry.{Geometry}
use Rattle.shore_types.specs.declared.locking.Granule.{Granule}
use Rattle.shore_types.specs.declared.locking.Granule.TheVariants as granule
use Rattle.shore_types.specs.declared.locking.Mode.TheVariants.{EX}
use Rattle.shore_model.specs.Locks.{HoldsAtLeast, MayRead, MayWrite}
use Rattle.shore_locks.specs.Grants.{released}
use Rattle.shore_path.proofs.Freeing.{weaker_released}
use Rattle.shore_model.specs.declared.rollbacks.Rollback.TheVariants.{Whole}
use Rattle.shore_model.specs.declared.calls.Answer.{Answer}
use Rattle.shore_model.specs.declared.calls.Answer.TheVariants.{Aborted}
use Rattle.shore_model.specs.declared.calls.Call.{Call}
use Rattle.shore_model.specs.declared.calls.Call.TheVariants as call
use Rattle.shore_model.specs.declared.histories.Entry.{Entry}
use Rattle.shore_model.specs.declared.histories.Opening.{Opening}
use Rattle.shore_model.specs.declared.holds.Hold.{Hold}
use Rattle.shore_model.specs.declared.log_records.LogRecord.{LogRecord}
use Rattle.shore_locks.specs.Orderly.{IsOrderly}
use Rattle.shore_locks.specs.Tables.{Table, is_waiting}
use Rattle.shore_path.proofs.Holding.{enough_of, holder_from_lock, holder_of, lock_from_holder}
use Rattle.shore_path.specs.Acquires.{NoneWeaker}
use Rattle.shore_path.specs.Rooted.{AreRooted}
use Rattle.shore_path.specs.declared.answers.Acquired.{Acquired}
use Rattle.shore_path.specs.declared.answers.Acquired.TheVariants as acquire
use Rattle.shore_path.specs.declared.answers.OnConflict.TheVariants as conflict
use Rattle.laws_locks.proofs.Acquired.{acquired_leaves}
use Rattle.laws_locks.proofs.Held.{locked_of, served_by}
use Rattle.laws_locks.specs.Acquires.{Leaves}
use Rattle.laws_locks.specs.CallLocks.{Asked}
use Rattle.laws_lives.proofs.GranuleLocks.{permitted}
use Rattle.laws_lives.proofs.StrongerLocks.{reads_up, writes_up}
use Rattle.laws_lives.specs.GranuleLocks.{HasLock, HasLocksFor}
use Rattle.laws_lives.specs.RepliesInPlace.{Permit}
use Rattle.laws_lives.specs.SessionSteps.{KeepsLocks}
use Rattle.laws_lives.specs.Sessions.{SessionTxn}
use Rattle.shore_model.specs.declared.step.Step.{Step}
use Rattle.shore_model.specs.declared.step.Step.TheVariants.{Done, Nothing, Refused, Waits}
use Rattle.laws_calls.proofs.SessionCalls.{session_call_kept}
use Rattle.laws_calls.proofs.SessionInversions.{AnsweredFrom, IsLockless, answered_from, answered_in}
use Rattle.laws_calls.proofs.RollingLeaves.{LeavesTable, back_table, interrupted_table, savepoint_table}
use Rattle.laws_calls.proofs.Sessions.{one_txn, in_one, seat_apart}
use Rattle.laws_calls.specs.StateChanges.{after_refusal, answered, with_failure}
use Rattle.laws_calls.specs.CallSteps.{AbortStep, AnswersBehind, BeginStep, CommitStep, CallGoesOn, InnerStep, LacksMemory, RefusesBehind, CallStep, behind_lock, behind_place, lock_outcome, on_conflict_of, place_outcome, NeedsTxn}
use Rattle.laws_calls.specs.LockedStates.{IsSessionsState}
use Rattle.laws_calls.specs.States.{DoesNotWait, IsOfSession, State}
use Rattle.laws_calls.proofs.Outside.{Resolving, outside_or}
use Rattle.laws_calls.specs.Prepares.{PrepareStep, granules_in_ex, prepared}
use Rattle.laws_calls.specs.Shapes.{ResolvesNone, EndsAtOnce}
use Rattle.laws_calls.specs.Resolves.{MayResolve}
use Rattle.laws_calls.proofs.Told.{entries_told}
use Rattle.shore_model.specs.Requests.{held_by_all}

-- ---- the same locks

-- the locks are those of another state
abbrev pub SameLocks : State → State → Type 0
SameLocks new l = (new.locks ≡ l.locks) × (new.sessions.held ≡ l.sessions.held)

pub same_locks : (new l : State) → new ≡ l → SameLocks new l
same_locks new l is = (ap (λ (s : State). s.locks) is, ap (λ (s : State). s.sessions.held) is)

-- .. or those behind the lock of an insert's place
abbrev pub FromBehind : State → SessionTxn → State → Type 0
FromBehind l a new = SameLocks new l ⊎ ((id : Rid) × SameLocks new (behind_place l a id))

pub after_same : (f : Fault) (new l : State) → new ≡ after_refusal f l → SameLocks new l
after_same fault.Device new l is = same_locks new (with_failure l) is
after_same (fault.Damaged device place) new l is = same_locks new (with_failure l) is
after_same _ new l is = same_locks new l is

module _ (g : Geometry) (l : State) (a : SessionTxn) (new : State) where
  answers_from : (c : Call) (answer : Answer) → AnswersBehind g l a c answer new → FromBehind l a new
  answers_from (call.Get id) answer h = inl (same_locks new (answered l a (call.Get id) answer l.counts) h.1)
  answers_from (call.GetForUpdate id) answer h = inl (same_locks new (answered l a (call.GetForUpdate id) answer l.counts) h.1)
  answers_from (call.Insert store bytes) answer h = inr (h.0, same_locks new (answered (behind_place l a h.0) a (call.Insert store bytes) answer h.3.0) h.3.2)
  answers_from (call.Update id bytes) answer h = inl (same_locks new (answered l a (call.Update id bytes) answer h.2.0) h.2.2)
  answers_from (call.Delete id) answer h = inl (same_locks new (answered l a (call.Delete id) answer h.2.0) h.2.2)
  answers_from (call.Scan store) answer h = inl (same_locks new (answered l a (call.Scan store) answer l.counts) h.1)
  answers_from (call.Lock at mode) answer h = inl (same_locks new (answered l a (call.Lock at mode) answer l.counts) h.1)
  answers_from (call.TryLock at mode) answer h = inl (same_locks new (answered l a (call.TryLock at mode) answer l.counts) h.1)
  answers_from _ answer h = absurd h

  pub refuses_from : (c : Call) (f : Fault) → RefusesBehind g l a c f new → FromBehind l a new
  refuses_from (call.Get id) f h = inl (after_same f new l h.1)
  refuses_from (call.GetForUpdate id) f h = inl (after_same f new l h.1)
  refuses_from (call.Insert store bytes) f (inl h) = inl (same_locks new l h.2)
  refuses_from (call.Insert store bytes) f (inr (inl h)) = inr (h.1.0, same_locks new (behind_place l a h.1.0) h.1.3)
  refuses_from (call.Insert store bytes) f (inr (inr (inl h))) = inr (h.1.0, same_locks new (behind_place l a h.1.0) h.1.3)
  refuses_from (call.Insert store bytes) f (inr (inr (inr h))) = inl (after_same f new l h.1)
  refuses_from (call.Update id bytes) f h = inl (after_same f new l h.1)
  refuses_from (call.Delete id) f h = inl (after_same f new l h.1)
  refuses_from (call.Scan store) f h = inl (after_same f new l h.1)
  refuses_from _ f h = absurd h

-- ---- locks that are kept

-- a table in which a transaction may ask
pub record MayAskIn (s : State) (a : SessionTxn) : Type 0 where
  pub orderly : IsOrderly s.locks.requests
  pub rooted : AreRooted s.locks.requests
  pub quiet : is_waiting a.txn s.locks.requests ≡ false

abbrev pub NoLockWeaker : State → State → Type 0
NoLockWeaker s new = NoneWeaker s.locks.requests new.locks.requests

still : (s new l : State) → SameLocks new l → NoLockWeaker s l → NoLockWeaker s new
still s new l same kept = subst (λ (table : Table). NoneWeaker s.locks.requests table.requests) (sym same.0) kept

then_kept : (s mid new : State) → NoLockWeaker s mid → NoLockWeaker mid new → NoLockWeaker s new
then_kept s mid new first later u at m enough = later u at m (first u at m enough)

done_not_waiting : (o : Result Acquired Fault) → o ≡ Ok acquire.Done → (at : Granule) → o ≢ Ok (acquire.Waiting at)
done_not_waiting o is at waits = cc

module _ (s : State) (a : SessionTxn) (ready : MayAskIn s a) where
  pub lock_leaves : (c : Call) (lock : Asked) → Leaves s.locks.requests (lock_outcome s a c lock) a.txn lock.granule lock.mode
  lock_leaves c lock = acquired_leaves (on_conflict_of c) s.locks a.txn lock.granule lock.mode ready.orderly ready.quiet ready.rooted

  pub place_leaves : (id : Rid) → Leaves s.locks.requests (place_outcome s a id) a.txn (granule.Record id) EX
  place_leaves id = acquired_leaves conflict.Refuse s.locks a.txn (granule.Record id) EX ready.orderly ready.quiet ready.rooted

  pub may_ask_behind : (c : Call) (lock : Asked) → (lock_outcome s a c lock).answer ≡ Ok acquire.Done → MayAskIn (behind_lock s a c lock) a
  may_ask_behind c lock done =
      let left = lock_leaves c lock in
      record { orderly = left.orderly; rooted = left.rooted; quiet = left.quiet (done_not_waiting (lock_outcome s a c lock).answer done) }

module _ (g : Geometry) (s : State) (a : SessionTxn) (ready : MayAskIn s a) (new : State) where
  behind_kept : (c : Call) (lock : Asked) → (lock_outcome s a c lock).answer ≡ Ok acquire.Done → FromBehind (behind_lock s a c lock) a new → NoLockWeaker s new
  behind_kept c lock done (inl same) = still s new (behind_lock s a c lock) same (lock_leaves s a ready c lock).none_weaker
  behind_kept c lock done (inr h) =
      let l = behind_lock s a c lock in
      still s new (behind_place l a h.0) h.1
      (then_kept s l (behind_place l a h.0) (lock_leaves s a ready c lock).none_weaker (place_leaves l a (may_ask_behind s a ready c lock done) h.0).none_weaker)

  memory_kept : (c : Call) → LacksMemory g s a c new → NoLockWeaker s new
  memory_kept c (inl same) = still s new s (same_locks new s same) (λ u at m enough. enough)
  memory_kept c (inr h) =
      let l = behind_lock s a c h.1.0 in
      behind_kept c h.1.0 h.1.2
      (⊎_elim
      (λ same. inl (same_locks new l (same ∙ h.1.3)))
      (λ more. inr (more.2, same_locks new (behind_place l a more.2) (more.5 ∙ ap (λ (s : State). behind_place s a more.2) h.1.3)))
      h.2)

  pub going_on_kept : (c : Call) (step : Step) → CallGoesOn g s a c step new → NoLockWeaker s new
  going_on_kept c (Done answer) h =
      let t = answered_from g s a c new answer h in behind_kept c t.lock t.done (answers_from g (behind_lock s a c t.lock) a new c answer t.behind)
  going_on_kept c (Waits wait) h = still s new (behind_lock s a c h.0) (same_locks new _ h.5) (lock_leaves s a ready c h.0).none_weaker
  going_on_kept c (Refused f) (inl h) = memory_kept c h.1
  going_on_kept c (Refused f) (inr (inl h)) = still s new (behind_lock s a c h.0) (same_locks new (behind_lock s a c h.0) h.3) (lock_leaves s a ready c h.0).none_weaker
  going_on_kept c (Refused f) (inr (inr h)) =
      behind_kept c h.1.0 h.1.2 (refuses_from g (behind_lock s a c h.1.0) a new c f (subst (λ (l : State). RefusesBehind g l a c f new) h.1.3 h.2))
  going_on_kept c Nothing h = absurd h

module _ (g : Geometry) (o : Opening) (found : List LogRecord) (es : List Entry) (s new : State) (k : IsSessionsState o found es s) (session : ℕ) where
  as_before : new ≡ s → NoLockWeaker s new
  as_before is = still s new s (same_locks new s is) (λ u at m enough. enough)

  pub may_ask_in : (a : SessionTxn) → IsOfSession s session a → s.failed ≡ false → DoesNotWait s session → MayAskIn s a
  may_ask_in a of running idle =
      record { orderly = k.locks.orderly; rooted = k.locks.rooted; quiet = k.locks.waits running a of.0.0 (λ w m spared same. idle w m (same ∙ of.1)) }

  begin_kept : (step : Step) → BeginStep s session step new → NoLockWeaker s new
  begin_kept (Done answer) h = still s new s (same_locks new _ h.4) (λ u at m enough. enough)
  begin_kept (Waits wait) h = absurd h
  begin_kept (Refused f) h = as_before h.1
  begin_kept Nothing h = absurd h

  prepare_kept : (a : SessionTxn) (global : List ℕ) (step : Step) → PrepareStep g.version s a global step new → NoLockWeaker s new
  prepare_kept a global (Waits wait) h = still s new s (same_locks new (prepared s a global (granules_in_ex s a)) h.4) (λ u at m enough. enough)
  prepare_kept a global (Refused f) h = as_before h.1
  prepare_kept a global (Done answer) h = absurd h
  prepare_kept a global Nothing h = absurd h

  table_kept : LeavesTable s new → NoLockWeaker s new
  table_kept h = still s new s (h.locks, h.held) (λ u at m enough. enough)

  -- a commit or an abort is answered
  record GoesAll (c : Call) (step : Step) : Type 0 where
    txn : SessionTxn
    of : IsOfSession s session txn
    answered : EndsAtOnce s c step
    held : new.sessions.held ≡ held_by_all (released txn.txn s.locks.requests)

  abort_kept : (a : SessionTxn) → IsOfSession s session a → (c : Call) → c ≡ call.Abort → (step : Step) → AbortStep s a step new → NoLockWeaker s new ⊎ GoesAll c step
  abort_kept a of c is (Done answer) h = inr (record { txn = a; of = of; answered = inl (is, ap Done h.0); held = ap (λ (x : State). x.sessions.held) h.1 })
  abort_kept a of c is (Refused f) h = inl (table_kept (interrupted_table s a Whole f new h))
  abort_kept a of c is (Waits wait) h = absurd h
  abort_kept a of c is Nothing h = absurd h

  commit_kept : (a : SessionTxn) → IsOfSession s session a → (c : Call) → c ≡ call.Commit → (step : Step) → CommitStep s a step new → NoLockWeaker s new ⊎ GoesAll c step
  commit_kept a of c is (Done answer) h = inr (record { txn = a; of = of; answered = inr (is, ap Done h.0); held = ap (λ (x : State). x.sessions.held) h.1 })
  commit_kept a of c is (Waits wait) h = absurd h
  commit_kept a of c is (Refused f) h = absurd h
  commit_kept a of c is Nothing h = absurd h

  inner_kept : (a : SessionTxn) → IsOfSession s session a → s.failed ≡ false → DoesNotWait s session → (c : Call) (step : Step) → InnerStep g s a c step new → NoLockWeaker s new ⊎ GoesAll c step
  inner_kept a of running idle c step (inl h) = inl (as_before h.3)
  inner_kept a of running idle c step (inr (inl (whole, inl h))) = inl (as_before h.3)
  inner_kept a of running idle c step (inr (inl (whole, inr (inl h)))) = inl (going_on_kept g s a (may_ask_in a of running idle) new c step h.1)
  inner_kept a of running idle c step (inr (inl (whole, inr (inr (inl h))))) = commit_kept a of c h.0 step h.1
  inner_kept a of running idle c step (inr (inl (whole, inr (inr (inr (inl h)))))) = inl (table_kept (savepoint_table s a step new h.1))
  inner_kept a of running idle c step (inr (inl (whole, inr (inr (inr (inr h)))))) = inl (prepare_kept a h.0 step h.2)
  inner_kept a of running idle c step (inr (inr (inl h))) = inl (table_kept (back_table s a h.0 step new h.3))
  inner_kept a of running idle c step (inr (inr (inr h))) = abort_kept a of c h.0 step h.1

  call_kept : (c : Call) (step : Step) → (Resolving s session c step new → ⊥) → CallStep g s session c step new → NoLockWeaker s new ⊎ GoesAll c step
  call_kept c step none (inl h) = inl (as_before h.1)
  call_kept c step none (inr (inl h)) = inl (as_before h.2)
  call_kept c step none (inr (inr (inl h))) = inl (as_before h.3)
  call_kept c step none (inr (inr (inr (inl h)))) = inl (begin_kept step h.3)
  call_kept c step none (inr (inr (inr (inr (inl h))))) = inl (as_before h.5)
  call_kept c step none (inr (inr (inr (inr (inr (inr (inl h))))))) = inl (as_before h.5)
  call_kept c step none (inr (inr (inr (inr (inr (inr (inr h))))))) = ⊎_elim (λ same. inl (as_before same)) (λ r. absurd (none r)) (outside_or s session c step new h.2)
  call_kept c step none (inr (inr (inr (inr (inr (inl h)))))) = inner_kept h.2.0 h.2.1 h.0 h.1 c step h.2.2

  -- ---- in words of locks

  locks_kept : {made : List Entry} → IsSessionsState o found made new → NoLockWeaker s new → (u : ℕ) → KeepsLocks s.sessions.held new.sessions.held u
  locks_kept after kept u m at h =
      let was = holder_from_lock u at m s.locks.requests (subst (λ (l : List Hold). HoldsAtLeast l u m at) k.locks.held h) in
      let now = holder_of u at m new.locks.requests (kept u at m (enough_of u at m s.locks.requests k.locks.orderly.one_each was)) in
      subst (λ (l : List Hold). HoldsAtLeast l u m at) (sym after.locks.held) (lock_from_holder u at m new.locks.requests now)

  kept_or : (c : Call) (step : Step) → (Resolving s session c step new → ⊥) → CallStep g s session c step new → IsSessionsState o found (es ++ entries_told s session c step) new
  kept_or c step none h = ⊎_elim (λ kept. kept) (λ r. absurd (none r.0)) (session_call_kept g o found es s k session c step new h)

  pub call_keeps_locks : (c : Call) (step : Step) → step ≢ Done Aborted → (c ≡ call.Commit → (answer : Answer) → step ≢ Done answer) → ResolvesNone c → CallStep g s session c step new → (u : ℕ)
      → KeepsLocks s.sessions.held new.sessions.held u
  call_keeps_locks c step other no_commit none h =
      ⊎_elim (λ kept. locks_kept (kept_or c step (λ r. none r.global r.asked r.is) h) kept)
      (λ all. absurd (⊎_elim (λ aborts. other aborts.1) (λ commits. no_commit commits.0 _ commits.1) all.answered)) (call_kept c step (λ r. none r.global r.asked r.is) h)

  -- what one that has ended leaves of the locks of others
  others_of_ended : (a : SessionTxn) → new.sessions.held ≡ held_by_all (released a.txn s.locks.requests) → (u : ℕ) → u ≢ a.txn → KeepsLocks s.sessions.held new.sessions.held u
  others_of_ended a is u other m at held =
      let was = holder_from_lock u at m s.locks.requests (subst (λ (l : List Hold). HoldsAtLeast l u m at) k.locks.held held) in
      let enough = weaker_released a.txn s.locks.requests k.locks.orderly u at m other (enough_of u at m s.locks.requests k.locks.orderly.one_each was) in
      subst (λ (l : List Hold). HoldsAtLeast l u m at) (sym is)
      (lock_from_holder u at m (released a.txn s.locks.requests) (holder_of u at m (released a.txn s.locks.requests) enough))

  -- a session that is in a transaction resolves none
  not_both : (a : SessionTxn) → IsOfSession s session a → (global : List ℕ) → MayResolve s session global → ⊥
  not_both a of global (inl none) = in_one s session a of none
  not_both a of global (inr doubt) = seat_apart of.0.1 (ap s.sessions.seats of.1 ∙ doubt.1)

  -- whatever a call comes to, others keep theirs
  pub others_keep_locks : (c : Call) (step : Step) (a : SessionTxn) → IsOfSession s session a → CallStep g s session c step new → (u : ℕ) → u ≢ a.txn → KeepsLocks s.sessions.held new.sessions.held u
  others_keep_locks c step a of h u other =
      ⊎_elim
      (λ kept. locks_kept (kept_or c step (λ r. not_both a of r.global r.may) h) kept u)
      (λ all. others_of_ended all.txn all.held u (λ same. other (same ∙ one_txn s.sessions all.txn a all.of.0.1 of.0.1 (all.of.1 ∙ sym of.1))))
      (call_kept c step (λ r. not_both a of r.global r.may) h)

  -- ---- an answer has the locks that it needs

  module _ (a : SessionTxn) (ready : MayAskIn s a) where
    reached : (c : Call) (answer : Answer) (t : AnsweredFrom g s a c answer new) → ((store : ℕ) (bytes : List ℕ) → c ≢ call.Insert store bytes)
        → SameLocks new (behind_lock s a c t.lock) → HasLocksFor new.sessions.held a.txn c answer
    reached c answer t other same =
        let left = lock_outcome s a c t.lock in
        subst (λ (held : List Hold). HasLocksFor held a.txn c answer) (sym same.1)
        (served_by left.requests a.txn c answer t.lock t.asks other (locked_of left.requests a.txn t.lock.granule t.lock.mode ((lock_leaves s a ready c t.lock).done t.done)))

    place_reached : (store : ℕ) (bytes : List ℕ) (answer : Answer) → AnsweredFrom g s a (call.Insert store bytes) answer new
        → HasLocksFor new.sessions.held a.txn (call.Insert store bytes) answer
    place_reached store bytes answer t =
        let id = t.behind.0 in
        let l = behind_lock s a (call.Insert store bytes) t.lock in
        let left = place_leaves l a (may_ask_behind s a ready (call.Insert store bytes) t.lock t.done) id in
        let same = same_locks new (answered (behind_place l a id) a (call.Insert store bytes) answer t.behind.3.0) t.behind.3.2 in
        subst (HasLocksFor new.sessions.held a.txn (call.Insert store bytes)) (sym t.behind.2)
        (subst (λ (held : List Hold). HasLock held a.txn (granule.Record id) EX) (sym same.1)
        (locked_of (place_outcome l a id).requests a.txn (granule.Record id) EX (left.done t.behind.1.1)))

    has_locks : (c : Call) (answer : Answer) → AnsweredFrom g s a c answer new → HasLocksFor new.sessions.held a.txn c answer
    has_locks (call.Get id) answer t = reached (call.Get id) answer t (λ store bytes is. cc) (same_locks new (answered (behind_lock s a (call.Get id) t.lock) a (call.Get id) answer s.counts) t.behind.1)
    has_locks (call.GetForUpdate id) answer t =
        reached (call.GetForUpdate id) answer t (λ store bytes is. cc)
        (same_locks new (answered (behind_lock s a (call.GetForUpdate id) t.lock) a (call.GetForUpdate id) answer s.counts) t.behind.1)
    has_locks (call.Insert store bytes) answer t = place_reached store bytes answer t
    has_locks (call.Update id bytes) answer t =
        reached (call.Update id bytes) answer t (λ store bytes is. cc)
        (same_locks new (answered (behind_lock s a (call.Update id bytes) t.lock) a (call.Update id bytes) answer t.behind.2.0) t.behind.2.2)
    has_locks (call.Delete id) answer t =
        reached (call.Delete id) answer t (λ store bytes is. cc) (same_locks new (answered (behind_lock s a (call.Delete id) t.lock) a (call.Delete id) answer t.behind.2.0) t.behind.2.2)
    has_locks (call.Scan store) answer t =
        reached (call.Scan store) answer t (λ store bytes is. cc) (same_locks new (answered (behind_lock s a (call.Scan store) t.lock) a (call.Scan store) answer s.counts) t.behind.1)
    has_locks (call.Lock at mode) answer t =
        reached (call.Lock at mode) answer t (λ store bytes is. cc) (same_locks new (answered (behind_lock s a (call.Lock at mode) t.lock) a (call.Lock at mode) answer s.counts) t.behind.1)
    has_locks (call.TryLock at mode) answer t =
        reached (call.TryLock at mode) answer t (λ store bytes is. cc) (same_locks new (answered (behind_lock s a (call.TryLock at mode) t.lock) a (call.TryLock at mode) answer s.counts) t.behind.1)
    has_locks _ answer t = absurd t.behind

  -- what needs no transaction needs no lock
  outside_or_not : (c : Call) → ((held : List Hold) (t : ℕ) (answer : Answer) → HasLocksFor held t c answer) ⊎ NeedsTxn c
  outside_or_not call.Begin = inl (λ held t answer. tt)
  outside_or_not (call.Resolve global outcome) = inl (λ held t answer. tt)
  outside_or_not call.InDoubt = inl (λ held t answer. tt)
  outside_or_not _ = inr tt

  pub its_number : (a b : SessionTxn) → IsOfSession s session a → IsOfSession s session b → b.txn ≡ a.txn
  its_number a b x y = one_txn s.sessions b a y.0.1 x.0.1 (y.1 ∙ sym x.1)

  -- a call that undoes needs none
  lockless_or_not : (c : Call) → ((held : List Hold) (t : ℕ) (answer : Answer) → HasLocksFor held t c answer) ⊎ (IsLockless c → ⊥)
  lockless_or_not call.Savepoint = inl (λ held t answer. tt)
  lockless_or_not (call.BackTo n) = inl (λ held t answer. tt)
  lockless_or_not call.Commit = inl (λ held t answer. tt)
  lockless_or_not call.Abort = inl (λ held t answer. tt)
  lockless_or_not (call.Prepare global) = inl (λ held t answer. tt)
  lockless_or_not _ = inr (λ none. none)

  pub answer_has_locks : (c : Call) (answer : Answer) (a : SessionTxn) → IsOfSession s session a → CallStep g s session c (Done answer) new
      → HasLocksFor new.sessions.held a.txn c answer
  answer_has_locks c answer a of h =
      ⊎_elim
      (λ none. none new.sessions.held a.txn answer)
      (λ needs. ⊎_elim
      (λ none. none new.sessions.held a.txn answer)
      (λ locks.
      let t = answered_in g s new session c answer needs locks h in
      subst (λ (n : ℕ). HasLocksFor new.sessions.held n c answer) (its_number a t.txn of t.of)
      (has_locks t.txn (may_ask_in t.txn t.of t.running t.idle) c answer t.from))
      (lockless_or_not c))
      (outside_or_not c)

  -- ---- nobody reads what another may write

  module _ (c : Call) (answer : Answer) (a : SessionTxn) (of : IsOfSession s session a) (h : CallStep g s session c (Done answer) new) (u : ℕ) (other : u ≢ a.txn) (id : Rid) where
    permit : Permit new.sessions.held a.txn c answer
    permit = permitted new.sessions.held a.txn c answer (answer_has_locks c answer a of h)

    apart : (r : Rid) (t u : ℕ) → t ≢ u → MayWrite new.sessions.held t r → MayRead new.sessions.held u r → ⊥
    apart = (kept_or c (Done answer) (λ r. not_both a of r.global r.may) h).sound.stand.harmony.none_interferes

    pub reads_of_writer : MayWrite s.sessions.held u id → (Permit new.sessions.held a.txn c answer → MayRead new.sessions.held a.txn id) → ⊥
    reads_of_writer writes reads =
        apart id u a.txn other (writes_up s.sessions.held new.sessions.held u id (others_keep_locks c (Done answer) a of h u other) writes) (reads permit)

    pub writes_of_reader : MayRead s.sessions.held u id → (Permit new.sessions.held a.txn c answer → MayWrite new.sessions.held a.txn id) → ⊥
    writes_of_reader reads writes =
        apart id a.txn u (λ same. other (sym same)) (writes permit) (reads_up s.sessions.held new.sessions.held u id (others_keep_locks c (Done answer) a of h u other) reads)
