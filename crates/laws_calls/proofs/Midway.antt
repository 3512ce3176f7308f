-- A call and a resume as a whole, taken apart: what came between, and what it came to from there.
use Rattle.std.proofs.Common.{◌≡◌, ◌⊎◌, inl, inr, ⊎_elim, ◌++◌, ℕ, List, [], ◌∷◌, true, false, cond, refl, sym, ap, subst, ◌∙◌, append-nil, ◌<◌}
use Rattle.std.specs.Prelude.{◌==◌}
use Rattle.shore_types.specs.declared.layout.Geometry.{Geometry}
use Rattle.shore_types.specs.declared.locking.Granule.{Granule}
use Rattle.shore_model.specs.declared.calls.Call.{Call}
use Rattle.shore_model.specs.declared.histories.Entry.{Entry}
use Rattle.shore_model.specs.declared.histories.Opening.{Opening}
use Rattle.shore_model.specs.declared.log_records.LogRecord.{LogRecord}
use Rattle.shore_locks.specs.Grants.{cancelled}
use Rattle.shore_locks.specs.Tables.{is_waiting}
use Rattle.shore_cycles.specs.declared.victims.Victim.{Victim}
use Rattle.laws_lives.specs.Sessions.{SessionTxn, with_undo, in_txn}
use Rattle.laws_lives.specs.UndoLists.{UndoList}
use Rattle.laws_lives.specs.Views.{IsAmong}
use Rattle.shore_model.specs.declared.step.Step.{Step}
use Rattle.shore_model.specs.declared.step.Step.TheVariants.{Waits}
use Rattle.shore_model.specs.declared.step.Wait.TheVariants.{Lock}
use Rattle.laws_calls.proofs.SettledStates.{resume_comes}
use Rattle.laws_calls.proofs.SettledWaits.{HasWaited, WaitsAt, call_waits_at, resume_has_waited, victims_wait}
use Rattle.laws_calls.proofs.SessionStates.{session_call_stays}
use Rattle.laws_calls.proofs.VictimSteps.{victim_stays}
use Rattle.laws_calls.specs.CallHistories.{txn_of}
use Rattle.laws_calls.specs.CallSteps.{CallStep, ResumeStep, with_requests}
use Rattle.laws_calls.specs.Events.{IsStateAfter}
use Rattle.laws_calls.specs.Midway.{EndsFrom, Interlude, Intervene, Intervenes, IsMidway, Takes, WaitsAnew}
use Rattle.laws_calls.specs.Settling.{SettledCall, SettledResume, Settles, WaitsForNoLock, WaitsOn}
use Rattle.laws_calls.specs.StateChanges.{wait_refused}
use Rattle.laws_calls.specs.States.{IsOfSession, State}
use Rattle.laws_calls.specs.Victims.{TakesVictim, TakesVictims, TellsVictim, Withdraws}

-- ---- one after another

-- a transaction keeps its session and its number
keeps_number : (t : ℕ) (undo : UndoList) (a : SessionTxn) (xs : List SessionTxn) → IsAmong a xs
    → (b : SessionTxn) × IsAmong b (with_undo t undo xs) × (b.session ≡ a.session) × (b.txn ≡ a.txn)
keeps_number t undo a [] h = absurd h
keeps_number t undo a (x ∷ xs) (inl same) =
    elim (x.txn == t) as (λ c. (b : SessionTxn) × IsAmong b (cond c (record { session = x.session; txn = x.txn; undo = undo }) x ∷ with_undo t undo xs) × (b.session ≡ a.session) × (b.txn ≡ a.txn)) [
      | true ↦ (record { session = x.session; txn = x.txn; undo = undo }, inl refl, ap (λ (a : SessionTxn). a.session) same, ap (λ (a : SessionTxn). a.txn) same)
      | false ↦ (x, inl refl, ap (λ (a : SessionTxn). a.session) same, ap (λ (a : SessionTxn). a.txn) same)
    ]
keeps_number t undo a (x ∷ xs) (inr later) = let h = keeps_number t undo a xs later in (h.0, inr h.1, h.2, h.3)

module _ (g : Geometry) (session : ℕ) where
  pub intervene_on : (s : State) (xs : List Interlude) (m : State) → Intervene g session s xs m → (ys : List Interlude) (last : State) → Intervene g session m ys last
      → Intervene g session s (xs ++ ys) last
  intervene_on s [] m h ys last k = subst (λ (x : State). Intervene g session x ys last) h k
  intervene_on s (x ∷ xs) m h ys last k = (h.0, h.1, intervene_on h.0 xs m h.2 ys last k)

  -- victims came between, and the session is still in its transaction
  record Broken (s : State) (n : ℕ) (new : State) : Type 0 where
    between : List Interlude
    intervene : Intervene g session s between new
    txn : SessionTxn
    of : IsOfSession new session txn
    number : txn.txn ≡ n

  victims_intervene : (s : State) (n : ℕ) (a : SessionTxn) → IsOfSession s session a → a.txn ≡ n → (vs : List Victim) (new : State) → TakesVictims s n vs new → Broken s n new
  victims_intervene s n a of is [] new h = record { between = []; intervene = h; txn = a; of = subst (λ (x : State). IsOfSession x session a) (sym h) of; number = is }
  victims_intervene s n a of is (v ∷ vs) new h =
      let taken : TakesVictim s a.txn v h.0 = subst (λ t. TakesVictim s t v h.0) (sym is) h.1 in
      let b = keeps_number taken.txn.txn _ a s.sessions.active of.0.0 in
      let seat : s.sessions.seats b.0.session ≡ in_txn b.0.txn = ap s.sessions.seats b.2 ∙ of.0.1 ∙ ap in_txn (sym b.3) in
      let above = subst (λ (t : ℕ). 0 < t) (sym b.3) of.0.2 in
      let rest = victims_intervene h.0 n b.0 (subst (λ (x : State). IsOfSession x session b.0) (sym taken.is) ((b.1, seat, above), b.2 ∙ of.1)) (b.3 ∙ is) vs new h.2 in
      record { between = Takes taken.txn v ∷ rest.between; intervene = (h.0, (a, of, (taken, refl)), rest.intervene); txn = rest.txn; of = rest.of; number = rest.number }

  -- ---- what it came to

  -- behind what came between
  pub record CameTo (s : State) (step : Step) (new : State) : Type 0 where
    pub between : List Interlude
    pub from : State
    pub intervene : Intervene g session s between from
    pub ends : EndsFrom g from session step new

  later : (s : State) (xs : List Interlude) (m : State) → Intervene g session s xs m → (step : Step) (new : State) → CameTo m step new → CameTo s step new
  later s xs m h step new k = record { between = xs ++ k.between; from = k.from; intervene = intervene_on s xs m h k.between k.from k.intervene; ends = k.ends }

  resumed : (s mid : State) (first : Step) → ResumeStep g s session first mid → (at : Granule) → first ≡ Waits (Lock at) → (step : Step) (new : State) → CameTo mid step new → CameTo s step new
  resumed s mid first h at is step new k =
      later s (WaitsAnew at ∷ []) mid (mid, subst (λ (x : Step). ResumeStep g s session x mid) is h, refl) step new k

  -- the request that is taken back is that of the session's transaction
  its_withdraws : (s : State) (a b : SessionTxn) → a.session ≡ b.session → a.txn ≡ b.txn → (step : Step) (new : State) → Withdraws s a step new → Withdraws s b step new
  its_withdraws s a b its number step new h = (
    h.0,
    h.1 ∙ ap (λ m. with_requests (wait_refused s m) (cancelled a.txn s.locks.requests)) its ∙ ap (λ t. with_requests (wait_refused s b.session) (cancelled t s.locks.requests)) number,
  )

  -- the last round
  over : (s broken new : State) (a : SessionTxn) (at : Granule) (first step : Step) (vs : List Victim) → a.session ≡ session → first ≡ Waits (Lock at) → Broken s a.txn broken
      → WaitsOn broken a first step new ⊎ (TellsVictim broken session step new ⊎ ((vs ≡ []) × Withdraws broken a step new)) → EndsFrom g broken session step new
  over s broken new a at first step vs its is way (inl still) = inl (record {
    at = at;
    step_is = still.2 ∙ is;
    txn = way.txn;
    of = way.of;
    waits = subst (λ t. is_waiting t broken.locks.requests ≡ true) (sym way.number) still.0;
    is = still.3;
  })
  over s broken new a at first step vs its is way (inr (inl told)) = inr (inl (inl told))
  over s broken new a at first step vs its is way (inr (inr back)) =
      inr (inl (inr (way.txn, way.of, its_withdraws broken a way.txn (its ∙ sym way.of.1) (sym way.number) step new back.1)))

  -- it goes on, and that is all
  goes_last : (broken mid new : State) (next step : Step) → ResumeStep g broken session next mid → Settles g mid session next [] step new → CameTo broken step new
  goes_last broken mid new next step resumes k = record {
    between = [];
    from = broken;
    intervene = refl;
    ends = inr (inr (subst WaitsForNoLock (sym k.1) k.0, subst (λ (x : State). ResumeStep g broken session step x) (sym k.2) (subst (λ (x : Step). ResumeStep g broken session x mid) (sym k.1) resumes)));
  }

  pub settles_to : (s : State) (first : Step) (vs : List Victim) (rounds : List (List Victim)) (step : Step) (new : State) → Settles g s session first (vs ∷ rounds) step new → CameTo s step new
  settles_to s first vs [] step new h =
      let way = victims_intervene s h.0.txn h.0 h.3 refl vs h.2 h.5 in
      later s way.between h.2 way.intervene step new (⊎_elim
      (λ ends. record { between = []; from = h.2; intervene = refl; ends = over s h.2 new h.0 h.1 first step vs h.3.1 h.4 way ends.1 })
      (λ goes. goes_last h.2 goes.1 new goes.0 step goes.3 goes.4)
      h.6)
  settles_to s first vs (us ∷ rounds) step new h =
      let way = victims_intervene s h.0.txn h.0 h.3 refl vs h.2 h.5 in
      later s way.between h.2 way.intervene step new (⊎_elim
      (λ ends. record { between = []; from = h.2; intervene = refl; ends = over s h.2 new h.0 h.1 first step vs h.3.1 h.4 way ends.1 })
      (λ goes. resumed h.2 goes.1 goes.0 goes.3 goes.4.1 goes.4.4 step new (settles_to goes.1 goes.0 us rounds step new goes.4))
      h.6)

-- ---- calls

module _ (g : Geometry) (s : State) (session : ℕ) (c : Call) where
  -- a call as a whole is one step, or it waits for a lock first
  pub record CallCameTo (step : Step) (new : State) : Type 0 where
    pub between : List Interlude
    pub from : State
    pub midway : IsMidway g s session c between from
    pub ends : EndsFrom g from session step new

  pub settled_call_to : (step : Step) (new : State) → SettledCall g s session c step new → (WaitsForNoLock step × CallStep g s session c step new) ⊎ CallCameTo step new
  settled_call_to step new h = by h.rounds h.settles
    where
      by : (rounds : List (List Victim)) → Settles g h.mid session h.first rounds step new → (WaitsForNoLock step × CallStep g s session c step new) ⊎ CallCameTo step new
      by [] k = inl (
        subst WaitsForNoLock (sym k.1) k.0,
        subst (λ (x : State). CallStep g s session c step x) (sym k.2) (subst (λ (x : Step). CallStep g s session c x h.mid) (sym k.1) h.calls),
      )
      by (vs ∷ rounds) k =
          let came = settles_to g session h.mid h.first vs rounds step new k in
          inr (record {
            between = came.between;
            from = came.from;
            midway = record { at = k.1; waits = h.mid; calls = subst (λ (x : Step). CallStep g s session c x h.mid) k.4 h.calls; intervene = came.intervene };
            ends = came.ends;
          })

-- ---- resumes

-- a resume is one step, or tells a victim, or its call waits for a lock anew
pub settled_resume_to : (g : Geometry) (s : State) (session : ℕ) (step : Step) (new : State) → SettledResume g s session step new
    → ResumeStep g s session step new ⊎ (TellsVictim s session step new ⊎ (HasWaited s session × CameTo g session s step new))
settled_resume_to g s session step new (inl told) = inr (inl told)
settled_resume_to g s session step new (inr (inl still)) = inl still.0
settled_resume_to g s session step new (inr (inr on)) = by on.rounds on.settles
  where
    by : (rounds : List (List Victim)) → Settles g on.mid session on.first rounds step new
        → ResumeStep g s session step new ⊎ (TellsVictim s session step new ⊎ (HasWaited s session × CameTo g session s step new))
    by [] k = inl (subst (λ (x : State). ResumeStep g s session step x) (sym k.2) (subst (λ (x : Step). ResumeStep g s session x on.mid) (sym k.1) on.resumes))
    by (vs ∷ rounds) k =
        inr (inr (
          resume_has_waited g s session k.1 on.first on.mid k.4 on.resumes,
          resumed g session s on.mid on.first on.resumes k.1 k.4 step new (settles_to g session on.mid on.first vs rounds step new k),
        ))

-- ---- what is kept midway

module _ (g : Geometry) (o : Opening) (found : List LogRecord) (es : List Entry) (session n : ℕ) (c : Call) where
  -- the call waits for a lock, after the same entries
  pub record IsPaused (x : State) : Type 0 where
    pub stays : IsStateAfter o found es x
    pub at : Granule
    pub waits : WaitsAt session n c at x

  pub paused_next : (x new : State) (e : Interlude) → IsPaused x → Intervenes g session x e new → IsPaused new
  paused_next x new (Takes b v) k h = record {
    stays = victim_stays o found es x k.stays h.0.txn v new h.2.0;
    at = k.at;
    waits = victims_wait session n c k.at x h.0.txn (v ∷ []) new (new, h.2.0, refl) k.waits;
  }
  paused_next x new (WaitsAnew at) k h =
      let come = resume_comes o found session n c es x k.stays k.at k.waits g (Waits (Lock at)) new h in
      record { stays = subst (λ made. IsStateAfter o found made new) (append-nil es) come.stays; at = at; waits = (come.waits at refl).waits }

  -- whatever holds then and is kept holds midway
  pub kept_midway : (P : State → Type 0) → ((x new : State) (e : Interlude) → IsPaused x → P x → Intervenes g session x e new → P new)
      → (x : State) (between : List Interlude) (last : State) → IsPaused x → P x → Intervene g session x between last → IsPaused last × P last
  kept_midway P keeps x [] last k p h = (subst IsPaused (sym h) k, subst P (sym h) p)
  kept_midway P keeps x (e ∷ between) last k p h = kept_midway P keeps h.0 between last (paused_next x h.0 e k h.1) (keeps x h.0 e k p h.1) h.2

-- a call that has come to wait is paused
module _ (g : Geometry) (o : Opening) (found : List LogRecord) (es : List Entry) (s : State) (k : IsStateAfter o found es s) (session : ℕ) (c : Call) where
  pub paused_at_first : (at : Granule) (new : State) → CallStep g s session c (Waits (Lock at)) new → IsPaused g o found es session (txn_of s.sessions session) c new
  paused_at_first at new h = record {
    stays = subst (λ made. IsStateAfter o found made new) (append-nil es) (session_call_stays o found es s k g session c (Waits (Lock at)) new h);
    at = at;
    waits = (call_waits_at g s session c (Waits (Lock at)) new h at refl).waits;
  }

  pub midway_paused : (between : List Interlude) (x : State) → IsMidway g s session c between x → IsPaused g o found es session (txn_of s.sessions session) c x
  midway_paused between x m =
      (kept_midway g o found es session (txn_of s.sessions session) c (λ y. Unit {0}) (λ y new e p t i. tt) m.waits between x (paused_at_first m.at m.waits m.calls) tt m.intervene).0
