-- What no call and no resume takes away: the list grows, and what was durable stays so. Behind a failure log and durable number are as they were.
use Rattle.std.proofs.lemmas.List.{drop-append-le}
use Rattle.std.proofs.Common.{drop, ◌≡◌, ◌⊎◌, inl, inr, ⊎_elim, List, [], ◌∷◌, ◌++◌, ℕ, false, true, refl, sym, ap, subst, ◌∙◌}
use Rattle.shore_types.specs.declared.layout.Geometry.{Geometry}
use Rattle.shore_types.specs.declared.locking.Granule.{Granule}
use Rattle.shore_model.specs.declared.calls.Answer.TheVariants.{Prepared, Resolved}
use Rattle.shore_disk.specs.declared.device.Disk.{Ghosts}
use Rattle.shore_model.specs.declared.calls.Answer.{Answer}
use Rattle.shore_model.specs.declared.calls.Call.{Call}
use Rattle.shore_model.specs.declared.calls.Call.TheVariants as call
use Rattle.shore_model.specs.declared.log_records.LogRecord.{LogRecord}
use Rattle.laws_lives.specs.Sessions.{SessionTxn}
use Rattle.shore_model.specs.declared.step.Step.{Step}
use Rattle.shore_model.specs.declared.step.Step.TheVariants.{Done, Waits, Refused, Nothing}
use Rattle.shore_model.specs.declared.step.Wait.{Wait}
use Rattle.shore_model.specs.declared.step.Wait.TheVariants.{Durable, Lock}
use Rattle.laws_calls.proofs.AfterRefusals.{goes_leaves}
use Rattle.laws_calls.proofs.LongerLogs.{further_on, give_up_further, settled_call_further, settled_resume_further}
use Rattle.laws_calls.proofs.LockRounds.{same_failed}
use Rattle.laws_calls.proofs.SessionInversions.{answered_from, waits_running}
use Rattle.laws_calls.specs.StateChanges.{wait_refused, with_failure}
use Rattle.laws_calls.specs.CallSteps.{AnswersBehind, CallGoesOn, ResumesWait, CallStep, ResumeStep, behind_lock, with_requests}
use Rattle.laws_calls.specs.GivingUp.{GiveUpStep}
use Rattle.laws_calls.specs.Settling.{SettledCall, SettledResume, Settles, WaitsOn}
use Rattle.laws_calls.specs.Shapes.{with_locks_of}
use Rattle.laws_calls.specs.States.{State, Waiting}
use Rattle.laws_calls.specs.Victims.{TakesVictims, TellsVictim, Withdraws}
use Rattle.shore_cycles.specs.declared.victims.Victim.{Victim}
use Rattle.laws_checkpoints.specs.CheckpointedStores.{CheckpointedStore}
use Rattle.shore_core.specs.Cores.{IsKept}
use Rattle.shore_core.specs.Flushing.{FlushMoves}
use Rattle.shore_world.specs.declared.world.World.{World}
use Rattle.shore_world.specs.Worlds.{cut_in, durable_in, geometry_in}
use Rattle.shore_world.proofs.VolumeLemmas.{never_both}
use Rattle.shore_world.proofs.LogParts.{IsBesideOf, log_of}
use Rattle.shore_world.proofs.WorldLemmas.{ListGrows}
use Rattle.shore_locks.specs.Grants.{cancelled}

-- ---- what runs ran before

runs_before : (s new later : State) → new ≡ later → later.failed ≡ s.failed → new.failed ≡ false → s.failed ≡ false
runs_before s new later is same runs = sym same ∙ sym (ap (λ (x : State). x.failed) is) ∙ runs

given_up_runs : (s : State) (session : ℕ) (step : Step) (new : State) → GiveUpStep s session step new → new.failed ≡ false → s.failed ≡ false
given_up_runs s session step new (inl h) runs = h.running
given_up_runs s session step new (inr h) runs = runs_before s new s h.is refl runs

call_runs : (g : Geometry) (s : State) (session : ℕ) (c : Call) (step : Step) (new : State) → CallStep g s session c step new → new.failed ≡ false → s.failed ≡ false
call_runs g s session c step new (inl same) runs = runs_before s new s same.1 refl runs
call_runs g s session c step new (inr (inl failed)) runs = runs_before s new s failed.2 refl runs
call_runs g s session c step new (inr (inr (inl busy))) runs = busy.0
call_runs g s session c step new (inr (inr (inr (inl begins)))) runs = begins.0
call_runs g s session c step new (inr (inr (inr (inr (inl none))))) runs = none.0
call_runs g s session c step new (inr (inr (inr (inr (inr (inl inner)))))) runs = inner.0
call_runs g s session c step new (inr (inr (inr (inr (inr (inr (inl prepared))))))) runs = prepared.0
call_runs g s session c step new (inr (inr (inr (inr (inr (inr (inr outside))))))) runs = outside.0

resume_runs : (g : Geometry) (s : State) (session : ℕ) (step : Step) (new : State) → ResumeStep g s session step new → new.failed ≡ false → s.failed ≡ false
resume_runs g s session step new (inl idle) runs = runs_before s new s idle.2 refl runs
resume_runs g s session step new (inr resumed) runs =
    ⊎_elim (λ failed. runs_before s new (wait_refused s resumed.0.session) failed.2 refl runs) (λ goes. goes.0) resumed.3

-- .. behind the rounds of its locks too
ends_run : (broken : State) (session : ℕ) (a : SessionTxn) (vs : List Victim) (first step : Step) (new : State)
    → WaitsOn broken a first step new ⊎ (TellsVictim broken session step new ⊎ ((vs ≡ []) × Withdraws broken a step new)) → new.failed ≡ false → broken.failed ≡ false
ends_run broken session a vs first step new (inl waits) runs = runs_before broken new broken waits.3 refl runs
ends_run broken session a vs first step new (inr (inl told)) runs = told.running
ends_run broken session a vs first step new (inr (inr short)) runs = runs_before broken new _ short.1.1 refl runs

settles_run : (g : Geometry) (s : State) (session : ℕ) (first : Step) (rounds : List (List Victim)) (step : Step) (new : State) → Settles g s session first rounds step new → new.failed ≡ false
    → s.failed ≡ false
settles_run g s session first [] step new h runs = runs_before s new s h.2 refl runs
settles_run g s session first (vs ∷ rounds) step new h runs =
    sym (same_failed vs s h.0.txn h.2 h.5)
    ∙ ⊎_elim
    (λ over. ends_run h.2 session h.0 vs first step new over.1 runs)
    (λ on. resume_runs g h.2 session on.0 on.1 on.3 (settles_run g on.1 session on.0 rounds step new on.4 runs))
    h.6

settled_call_runs : (g : Geometry) (s : State) (session : ℕ) (c : Call) (step : Step) (new : State) → SettledCall g s session c step new → new.failed ≡ false → s.failed ≡ false
settled_call_runs g s session c step new h runs = call_runs g s session c h.first h.mid h.calls (settles_run g h.mid session h.first h.rounds step new h.settles runs)

settled_resume_runs : (g : Geometry) (s : State) (session : ℕ) (step : Step) (new : State) → SettledResume g s session step new → new.failed ≡ false → s.failed ≡ false
settled_resume_runs g s session step new (inl told) runs = told.running
settled_resume_runs g s session step new (inr (inl same)) runs = runs_before s new s same.1 refl runs
settled_resume_runs g s session step new (inr (inr on)) runs = resume_runs g s session on.first on.mid on.resumes (settles_run g on.mid session on.first on.rounds step new on.settles runs)

-- ---- what a failure leaves

-- log and durable number are as they were
abbrev pub HasSameLog : State → State → Type 0
HasSameLog s new = (new.log ≡ s.log) × (new.durable ≡ s.durable)

same_log_of : (s new later : State) → new ≡ later → HasSameLog s later → HasSameLog s new
same_log_of s new later is same = subst (HasSameLog s) (sym is) same

-- the state is another but for its locks, and whether it failed
only_locks : (s new : State) → new ≡ with_locks_of new s → HasSameLog s new
only_locks s new is = (ap (λ (x : State). x.log) is, ap (λ (x : State). x.durable) is)

-- it runs as that did
runs_on : (s new later : State) → s.failed ≡ false → new ≡ later → later.failed ≡ s.failed → new.failed ≡ true → HasSameLog s new
runs_on s new later running is same failed = never_both new.failed failed (ap (λ (x : State). x.failed) is ∙ same ∙ running)

module _ (g : Geometry) (s new : State) (running : s.failed ≡ false) (failed : new.failed ≡ true) where
  behind_keeps : (locked : State) → locked.failed ≡ s.failed → (a : SessionTxn) (c : Call) (answer : Answer) → AnswersBehind g locked a c answer new → HasSameLog s new
  behind_keeps locked same a (call.Get id) answer moves = runs_on s new _ running moves.1 same failed
  behind_keeps locked same a (call.GetForUpdate id) answer moves = runs_on s new _ running moves.1 same failed
  behind_keeps locked same a (call.Insert store bytes) answer moves = runs_on s new _ running moves.3.2 same failed
  behind_keeps locked same a (call.Update id bytes) answer moves = runs_on s new _ running moves.2.2 same failed
  behind_keeps locked same a (call.Delete id) answer moves = runs_on s new _ running moves.2.2 same failed
  behind_keeps locked same a (call.Scan store) answer moves = runs_on s new _ running moves.1 same failed
  behind_keeps locked same a (call.Lock at mode) answer moves = runs_on s new _ running moves.1 same failed
  behind_keeps locked same a (call.TryLock at mode) answer moves = runs_on s new _ running moves.1 same failed
  behind_keeps locked same a _ answer moves = absurd moves

-- a call from its locks on
goes_keeps : (g : Geometry) (s new : State) → s.failed ≡ false → new.failed ≡ true → (a : SessionTxn) (c : Call) (step : Step) → CallGoesOn g s a c step new → HasSameLog s new
goes_keeps g s new running failed a c (Done answer) moves =
    let from = answered_from g s a c new answer moves in behind_keeps g s new running failed (behind_lock s a c from.lock) refl a c answer from.behind
goes_keeps g s new running failed a c (Waits wait) moves = runs_on s new _ running moves.5 refl failed
goes_keeps g s new running failed a c (Refused f) moves = only_locks s new (goes_leaves g s new a c f moves)
goes_keeps g s new running failed a c Nothing moves = absurd moves

-- after a failure no call changes anything; one that fails itself may have rolled back until then
once_stays : (g : Geometry) (s : State) (session : ℕ) (c : Call) (step : Step) (new : State) → CallStep g s session c step new → s.failed ≡ true → new ≡ s
once_stays g s session c step new (inl same) fails = same.1
once_stays g s session c step new (inr (inl before)) fails = before.2
once_stays g s session c step new (inr (inr (inl busy))) fails = never_both s.failed fails busy.0
once_stays g s session c step new (inr (inr (inr (inl begins)))) fails = never_both s.failed fails begins.0
once_stays g s session c step new (inr (inr (inr (inr (inl none))))) fails = never_both s.failed fails none.0
once_stays g s session c step new (inr (inr (inr (inr (inr (inl inner)))))) fails = never_both s.failed fails inner.0
once_stays g s session c step new (inr (inr (inr (inr (inr (inr (inl prepared))))))) fails = never_both s.failed fails prepared.0
once_stays g s session c step new (inr (inr (inr (inr (inr (inr (inr outside))))))) fails = never_both s.failed fails outside.0

-- a call that begins to wait for a lock runs
once_runs : (g : Geometry) (s : State) (session : ℕ) (c : Call) (at : Granule) (new : State) → CallStep g s session c (Waits (Lock at)) new → s.failed ≡ false
once_runs g s session c at new h = (waits_running g s new session c (Lock at) h).0

pub failed_call_stays : (g : Geometry) (s : State) (session : ℕ) (c : Call) (step : Step) (new : State) → SettledCall g s session c step new → s.failed ≡ true → new ≡ s
failed_call_stays g s session c step new h fails = by h.rounds h.settles
  where
    by : (rounds : List (List Victim)) → Settles g h.mid session h.first rounds step new → new ≡ s
    by [] settled = settled.2 ∙ once_stays g s session c h.first h.mid h.calls fails
    by (vs ∷ rounds) settled =
        never_both s.failed fails (once_runs g s session c settled.1 h.mid (subst (λ (x : Step). CallStep g s session c x h.mid) settled.4 h.calls))

wait_keeps : (g : Geometry) (s : State) (w : Waiting) (wait : Wait) (step : Step) (new : State) → s.failed ≡ false → ResumesWait g s w wait step new → new.failed ≡ true → HasSameLog s new
wait_keeps g s w (Durable n) step new running (inl still) failed = same_log_of s new s still.2 (refl, refl)
wait_keeps g s w (Durable n) step new running (inr (inl prepared)) failed = runs_on s new _ running prepared.2.4 refl failed
wait_keeps g s w (Durable n) step new running (inr (inr resolved)) failed = runs_on s new _ running resolved.2.3 refl failed
wait_keeps g s w (Lock at) step new running moves failed =
    ⊎_elim (λ still. same_log_of s new s still.2 (refl, refl)) (λ goes. goes_keeps g (wait_refused s w.session) new running failed moves.0 w.call step goes.1) moves.2

once_keeps : (g : Geometry) (s : State) (session : ℕ) (step : Step) (new : State) → ResumeStep g s session step new → new.failed ≡ true → HasSameLog s new
once_keeps g s session step new (inl idle) failed = same_log_of s new s idle.2 (refl, refl)
once_keeps g s session step new (inr resumed) failed =
    ⊎_elim
    (λ before. same_log_of s new (wait_refused s resumed.0.session) before.2 (refl, refl))
    (λ goes. wait_keeps g s resumed.0 resumed.0.wait step new goes.0 goes.1 failed)
    resumed.3

log_then : (s mid new : State) → HasSameLog s mid → HasSameLog mid new → HasSameLog s new
log_then s mid new h k = (k.0 ∙ h.0, k.1 ∙ h.1)

-- a call that waits for a lock has logged nothing
wait_logs_nothing : (g : Geometry) (s : State) (session : ℕ) (at : Granule) (new : State) → ResumeStep g s session (Waits (Lock at)) new → HasSameLog s new
wait_logs_nothing g s session at new (inl idle) = same_log_of s new s idle.2 (refl, refl)
wait_logs_nothing g s session at new (inr resumed) =
    ⊎_elim (λ before. same_log_of s new (wait_refused s resumed.0.session) before.2 (refl, refl)) (λ goes. waits_for resumed.0 resumed.0.wait goes.1) resumed.3
  where
    prepared_or_lock : (at : Granule) → ◌≡◌ {A = Step} (Waits (Lock at)) (Done Prepared) → ⊥
    prepared_or_lock at e = cc

    resolved_or_lock : (at : Granule) → ◌≡◌ {A = Step} (Waits (Lock at)) (Done Resolved) → ⊥
    resolved_or_lock at e = cc

    waits_for : (w : Waiting) (wait : Wait) → ResumesWait g s w wait (Waits (Lock at)) new → HasSameLog s new
    waits_for w (Durable n) (inl still) = same_log_of s new s still.2 (refl, refl)
    waits_for w (Durable n) (inr (inl prepared)) = absurd (prepared_or_lock at prepared.1)
    waits_for w (Durable n) (inr (inr resolved)) = absurd (resolved_or_lock at resolved.1)
    waits_for w (Lock on) h = ⊎_elim (λ still. same_log_of s new s still.2 (refl, refl)) (λ goes. same_log_of s new _ goes.1.5 (refl, refl)) h.2

victims_log_nothing : (vs : List Victim) (s : State) (t : ℕ) (new : State) → TakesVictims s t vs new → HasSameLog s new
victims_log_nothing [] s t new h = same_log_of s new s h (refl, refl)
victims_log_nothing (v ∷ vs) s t new h = log_then s h.0 new (same_log_of s h.0 _ h.1.is (refl, refl)) (victims_log_nothing vs h.0 t new h.2)

ends_log_nothing : (broken : State) (session : ℕ) (a : SessionTxn) (vs : List Victim) (first step : Step) (new : State)
    → WaitsOn broken a first step new ⊎ (TellsVictim broken session step new ⊎ ((vs ≡ []) × Withdraws broken a step new)) → HasSameLog broken new
ends_log_nothing broken session a vs first step new (inl waits) = same_log_of broken new broken waits.3 (refl, refl)
ends_log_nothing broken session a vs first step new (inr (inl told)) = same_log_of broken new _ told.is (refl, refl)
ends_log_nothing broken session a vs first step new (inr (inr short)) = same_log_of broken new _ short.1.1 (refl, refl)

-- a resume that fails, and what its call has come to before
settles_keep : (g : Geometry) (s : State) (session : ℕ) (first : Step) (rounds : List (List Victim)) (step : Step) (mid new : State) → ResumeStep g s session first mid
    → Settles g mid session first rounds step new → new.failed ≡ true → HasSameLog s new
settles_keep g s session first [] step mid new once h failed =
    same_log_of s new mid h.2 (once_keeps g s session first mid once (ap (λ (x : State). x.failed) (sym h.2) ∙ failed))
settles_keep g s session first (vs ∷ rounds) step mid new once h failed =
    let waits = wait_logs_nothing g s session h.1 mid (subst (λ (x : Step). ResumeStep g s session x mid) h.4 once) in
    let broken = log_then s mid h.2 waits (victims_log_nothing vs mid h.0.txn h.2 h.5) in
    log_then s h.2 new broken
    (⊎_elim
    (λ over. ends_log_nothing h.2 session h.0 vs first step new over.1)
    (λ on. settles_keep g h.2 session on.0 rounds step on.1 new on.3 on.4 failed)
    h.6)

pub failed_resume_keeps : (g : Geometry) (s : State) (session : ℕ) (step : Step) (new : State) → SettledResume g s session step new → new.failed ≡ true → HasSameLog s new
failed_resume_keeps g s session step new (inl told) failed = same_log_of s new _ told.is (refl, refl)
failed_resume_keeps g s session step new (inr (inl same)) failed = same_log_of s new s same.1 (refl, refl)
failed_resume_keeps g s session step new (inr (inr on)) failed = settles_keep g s session on.first on.rounds step on.mid new on.resumes on.settles failed

pub given_up_same : (s : State) (session : ℕ) (step : Step) (new : State) → GiveUpStep s session step new → HasSameLog s new
given_up_same s session step new (inl h) = same_log_of s new (with_requests (wait_refused s session) (cancelled h.txn.txn s.locks.requests)) h.is (refl, refl)
given_up_same s session step new (inr h) = same_log_of s new s h.is (refl, refl)

pub flush_same : (s : State) (step : Step) (new : State) → FlushMoves s step new → HasSameLog s new
flush_same s (Done answer) new moves = same_log_of s new s moves.2 (refl, refl)
flush_same s (Waits wait) new moves = absurd moves
flush_same s (Refused f) new (inl failed) = same_log_of s new s failed.2 (refl, refl)
flush_same s (Refused f) new (inr (running, device, is)) = same_log_of s new (with_failure s) is (refl, refl)
flush_same s Nothing new moves = same_log_of s new s moves.1 (refl, refl)

-- so the store is the new state's too
pub kept_same : (s new : State) (store : CheckpointedStore) → HasSameLog s new → IsKept s store → IsKept new store
kept_same s new store same kept = record {
  stored = record { log = kept.stored.log ∙ sym same.0; durable = kept.stored.durable ∙ sym same.1 };
  redone = kept.redone;
  recoverable = kept.recoverable;
}

-- ---- the list

module _ {L V : Type 0} {G : Ghosts L} {H : Ghosts V} where
  -- from a state to a state, with no more cut off
  state_grows : (old new : World L V G H) (s later : State) → IsBesideOf old s → IsBesideOf new later → cut_in new ≡ cut_in old
      → durable_in new ≡ durable_in old → (more : List LogRecord) × (later.log ≡ s.log ++ more) → (later.failed ≡ false → s.failed ≡ false) → ListGrows old new
  state_grows old new s later is now cut durable more runs =
      let before = log_of old s is in
      record {
        more = more.0;
        list = sym (log_of new later now).kept ∙ ap (λ n. drop n later.log) cut ∙ ap (drop (cut_in old)) more.1 ∙ drop-append-le (cut_in old) s.log more.0 before.within
            ∙ ap (λ (l : List LogRecord). l ++ more.0) before.kept;
        durable = durable;
        running = λ running. sym is.parts.failed_is ∙ runs (now.parts.failed_is ∙ running);
      }

  -- a call
  pub call_grows : (old new : World L V G H) (s later : State) (session : ℕ) (c : Call) (step : Step) → IsBesideOf old s → IsBesideOf new later → cut_in new ≡ cut_in old
      → SettledCall (geometry_in old) s session c step later → durable_in new ≡ durable_in old → ListGrows old new
  call_grows old new s later session c step is now cut moves durable =
      state_grows old new s later is now cut durable (further_on s later (settled_call_further (geometry_in old) s session c step later moves)) (settled_call_runs (geometry_in old) s session c step later moves)

  -- a resume
  pub resume_grows : (old new : World L V G H) (s later : State) (session : ℕ) (step : Step) → IsBesideOf old s → IsBesideOf new later → cut_in new ≡ cut_in old
      → SettledResume (geometry_in old) s session step later → durable_in new ≡ durable_in old → ListGrows old new
  resume_grows old new s later session step is now cut moves durable =
      state_grows old new s later is now cut durable (further_on s later (settled_resume_further (geometry_in old) s session step later moves)) (settled_resume_runs (geometry_in old) s session step later moves)

  -- a wait that is taken back
  pub give_up_grows : (old new : World L V G H) (s later : State) (session : ℕ) (step : Step) → IsBesideOf old s → IsBesideOf new later → cut_in new ≡ cut_in old
      → GiveUpStep s session step later → durable_in new ≡ durable_in old → ListGrows old new
  give_up_grows old new s later session step is now cut moves durable =
      state_grows old new s later is now cut durable (further_on s later (give_up_further s session step later moves)) (given_up_runs s session step later moves)
