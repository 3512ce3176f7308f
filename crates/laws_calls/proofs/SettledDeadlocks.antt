-- The cycle that a caller is told was a cycle of waits when its transaction was taken as a victim.
use Rattle.std.proofs.Common.{◌≡◌, ◌⊎◌, inl, inr, ⊎_elim, ◌++◌, ◌≤◌, ℕ, List, [], ◌∷◌, Some, None, refl, sym, ap, subst, ◌∙◌}
use Rattle.std.specs.Prelude.{◌==◌, All}
use Rattle.std.proofs.lemmas.Bool.{cases_Bool, eqb-false, eqb-true}
use Rattle.shore_types.specs.declared.layout.Geometry.{Geometry}
use Rattle.shore_types.specs.declared.locking.Granule.{Granule}
use Rattle.shore_model.specs.declared.calls.Call.{Call}
use Rattle.shore_model.specs.declared.histories.Entry.{Entry}
use Rattle.shore_model.specs.declared.histories.Opening.{Opening}
use Rattle.shore_model.specs.declared.log_records.LogRecord.{LogRecord}
use Rattle.shore_cycles.specs.Cycles.{IsSimpleCycleFrom, IsVictim}
use Rattle.shore_cycles.specs.declared.victims.Victim.{Victim}
use Rattle.laws_lives.specs.Sessions.{SessionTxn}
use Rattle.laws_lives.specs.Views.{IsAmong}
use Rattle.shore_model.specs.declared.step.Step.TheVariants.{Waits}
use Rattle.shore_model.specs.declared.step.Wait.TheVariants.{Lock}
use Rattle.laws_calls.proofs.Midway.{IsPaused, intervene_on, kept_midway, paused_at_first}
use Rattle.laws_calls.proofs.SettledStates.{resume_comes}
use Rattle.laws_calls.proofs.SettledWaits.{IsSpared, call_waits_at}
use Rattle.laws_calls.proofs.ToldCycles.{is_as_it_was, is_to_tell, was_waiting}
use Rattle.laws_calls.specs.CallHistories.{txn_of}
use Rattle.laws_calls.specs.Events.{IsStateAfter}
use Rattle.laws_calls.specs.Midway.{Interlude, Intervene, Intervenes, IsItsCycle, IsMidway, Takes, WaitsAnew}
use Rattle.laws_calls.specs.States.{HasSeat, IsOfSession, State, Waiting}
use Rattle.laws_calls.specs.Victims.{TakesVictim}
use Rattle.laws_calls.proofs.VictimSteps.{victim_seat}

pub same_cycle : (x y : List ℕ) → Some x ≡ Some y → x ≡ y
same_cycle x y e = cc

-- a victim's cycle is its session's
pub of_victim : (x : State) (b : SessionTxn) (v : Victim) → HasSeat x.sessions b → b.txn ≡ v.txn → {t : ℕ} → IsVictim x.locks.requests t v → (session : ℕ) → b.session ≡ session → IsItsCycle x session v.cycle
of_victim x b v seat number h session of = record {
  txn = b;
  of = (seat, of);
  stands = subst (λ t. IsSimpleCycleFrom x.locks.requests t v.cycle) (sym number) h.stands;
  greatest = subst (λ t. All (λ u. u ≤ t) v.cycle) (sym number) h.greatest;
}

-- each cycle that the session is to be told is known
abbrev pub AreKnown : ℕ → (List ℕ → Type 0) → State → Type 0
AreKnown session Known s = (w : Waiting) → IsAmong w s.waiting → w.session ≡ session → (cycle : List ℕ) → w.cycle ≡ Some cycle → Known cycle

-- the one that waits is to be told none
spared_known : (o : Opening) (found : List LogRecord) (es : List Entry) (s : State) → IsStateAfter o found es s → (session n : ℕ) (c : Call) (at : Granule) → IsSpared session n c at s
    → (Known : List ℕ → Type 0) → AreKnown session Known s
spared_known o found es s k session n c at w Known v there of cycle told =
    let same = k.waits.once v w.waits.waited there w.waits.there (of ∙ sym w.waits.of) in
    let clash : None ≡ Some cycle = sym w.none ∙ ap (λ (x : Waiting). x.cycle) (sym same) ∙ told in
    absurd cc

module _ (g : Geometry) (o : Opening) (found : List LogRecord) (es : List Entry) (session n : ℕ) (c : Call) (Reach : State → Type 0) (Known : State → List ℕ → Type 0)
    (next : (x new : State) (e : Interlude) → Reach x → Intervenes g session x e new → Reach new)
    (carry : (x new : State) (e : Interlude) (cycle : List ℕ) → Intervenes g session x e new → Known x cycle → Known new cycle)
    (known : (x new : State) (e : Interlude) (cycle : List ℕ) → Reach x → IsItsCycle x session cycle → Intervenes g session x e new → Known new cycle) where
  abbrev So : State → Type 0
  So x = Reach x × AreKnown session (Known x) x

  -- whose victim is of the session is told a cycle that passes its transaction
  its_cycle : (x new : State) → IsPaused g o found es session n c x → (a : SessionTxn) → IsOfSession x session a → (v : Victim) (h : TakesVictim x a.txn v new) → h.txn.session ≡ session → IsItsCycle x session v.cycle
  its_cycle x new p a of v h own =
      of_victim x h.txn v (victim_seat o found es x p.stays a.txn v new h) h.number h.victim session own

  known_next : (x new : State) (e : Interlude) → IsPaused g o found es session n c x → So x → Intervenes g session x e new → So new
  known_next x new (WaitsAnew at) p so h =
      let come = resume_comes o found session n c es x p.stays p.at p.waits g (Waits (Lock at)) new h in (
        next x new (WaitsAnew at) so.0 h,
        spared_known o found _ new come.stays session n c at (come.waits at refl) (Known new),
      )
  known_next x new (Takes b v) p so h = (next x new (Takes b v) so.0 h, told)
    where
      taken : TakesVictim x h.0.txn v new
      taken = h.2.0

      told : AreKnown session (Known new) new
      told w there of cycle is =
          let was = was_waiting taken.txn.session v.cycle w x.waiting (subst (λ (y : State). IsAmong w y.waiting) taken.is there) in
          ⊎_elim
          (λ own.
          let its = eqb-true was.was.session taken.txn.session own in
          let same : v.cycle ≡ cycle = same_cycle v.cycle cycle (ap (λ (y : Waiting). y.cycle) (is_to_tell taken.txn.session v.cycle was.was w was.is its) ∙ is) in
          subst (Known new) same (known x new (Takes b v) v.cycle so.0 (its_cycle x new p h.0 h.1 v taken (sym its ∙ was.session_is ∙ of)) h))
          (λ other.
          let same : was.was ≡ w = is_as_it_was taken.txn.session v.cycle was.was w was.is (eqb-false was.was.session taken.txn.session other) in
          carry x new (Takes b v) cycle h (so.1 was.was was.there (was.session_is ∙ of) cycle (ap (λ (y : Waiting). y.cycle) same ∙ is)))
          (cases_Bool (was.was.session == taken.txn.session))

  pub known_midway : (x : State) (between : List Interlude) (last : State) → IsPaused g o found es session n c x → So x → Intervene g session x between last → So last
  known_midway x between last p so h = (kept_midway g o found es session n c So known_next x between last p so h).1

-- one more comes between
one_more : (g : Geometry) (session : ℕ) (s x new : State) (between : List Interlude) (e : Interlude) → Intervene g session s between x → Intervenes g session x e new → Intervene g session s (between ++ e ∷ []) new
one_more g session s x new between e way h = intervene_on g session s between x way (e ∷ []) new (new, h, refl)

-- ---- a call

module _ (g : Geometry) (o : Opening) (found : List LogRecord) (es : List Entry) (s : State) (k : IsStateAfter o found es s) (session : ℕ) (c : Call) where
  -- it was a cycle at some point of the very call, from which the call came here
  abbrev pub StoodMidway : State → List ℕ → Type 0
  StoodMidway y cycle =
      (between : List Interlude) × (x : State) × IsMidway g s session c between x × IsItsCycle x session cycle × ((later : List Interlude) × Intervene g session x later y)

  abbrev Reach : State → Type 0
  Reach x = (between : List Interlude) × IsMidway g s session c between x

  next : (x new : State) (e : Interlude) → Reach x → Intervenes g session x e new → Reach new
  next x new e r h =
      let m = r.1 in (r.0 ++ e ∷ [], record { at = m.at; waits = m.waits; calls = m.calls; intervene = one_more g session m.waits x new r.0 e m.intervene h })

  carry : (x new : State) (e : Interlude) (cycle : List ℕ) → Intervenes g session x e new → StoodMidway x cycle → StoodMidway new cycle
  carry x new e cycle h (between, y, m, its, (later, way)) = (between, y, m, its, (later ++ e ∷ [], one_more g session y x new later e way h))

  pub cycles_stood : (between : List Interlude) (x : State) → IsMidway g s session c between x → AreKnown session (StoodMidway x) x
  cycles_stood between x m =
      let spared = call_waits_at g s session c (Waits (Lock m.at)) m.waits m.calls m.at refl in
      let p = paused_at_first g o found es s k session c m.at m.waits m.calls in
      (known_midway g o found es session (txn_of s.sessions session) c Reach StoodMidway next carry (λ y new e cycle r its h. (r.0, y, r.1, its, (e ∷ [], (new, h, refl)))) m.waits between x p
      (([], record { at = m.at; waits = m.waits; calls = m.calls; intervene = refl }), spared_known o found es m.waits p.stays session (txn_of s.sessions session) c m.at spared (StoodMidway m.waits))
      m.intervene).1

-- ---- a resume

module _ (g : Geometry) (o : Opening) (found : List LogRecord) (es : List Entry) (s : State) (session n : ℕ) (c : Call) (p : IsPaused g o found es session n c s) where
  -- its session was to be told it before, or it was a cycle at some point of the very resume, from which it came here
  abbrev pub StoodBefore : State → List ℕ → Type 0
  StoodBefore y cycle =
      ((w : Waiting) × IsAmong w s.waiting × (w.session ≡ session) × (w.cycle ≡ Some cycle))
      ⊎ ((between : List Interlude) × (x : State) × Intervene g session s between x × IsItsCycle x session cycle × ((later : List Interlude) × Intervene g session x later y))

  abbrev GoneTo : State → Type 0
  GoneTo x = (between : List Interlude) × Intervene g session s between x

  goes_to : (x new : State) (e : Interlude) → GoneTo x → Intervenes g session x e new → GoneTo new
  goes_to x new e r h = (r.0 ++ e ∷ [], one_more g session s x new r.0 e r.1 h)

  still_stood : (x new : State) (e : Interlude) (cycle : List ℕ) → Intervenes g session x e new → StoodBefore x cycle → StoodBefore new cycle
  still_stood x new e cycle h (inl before) = inl before
  still_stood x new e cycle h (inr (between, y, way, its, (later, on))) = inr (between, y, way, its, (later ++ e ∷ [], one_more g session y x new later e on h))

  pub cycles_stood_before : (between : List Interlude) (x : State) → Intervene g session s between x → AreKnown session (StoodBefore x) x
  cycles_stood_before between x way =
      (known_midway g o found es session n c GoneTo StoodBefore goes_to still_stood (λ y new e cycle r its h. inr (r.0, y, r.1, its, (e ∷ [], (new, h, refl)))) s between x p
      (([], refl), λ w there of cycle is. inl (w, there, of, is)) way).1
