-- A resolve comes to something: who may resolve, and which transaction has the global id, can be told.
use Rattle.std.proofs.Common.{◌≡◌, ◌⊎◌, inl, inr, ⊎_elim, ◌∷◌, ◌<◌, ◌≤◌, ℕ, List, [], Bool, true, false, refl, sym, ap, subst, ◌∙◌, arith}
use Rattle.std.specs.Prelude.{◌==◌, nat_eq}
use Rattle.std.specs.Cmp.Lexicographic.{pointwise}
use Rattle.std.proofs.lemmas.Bool.{cases_Bool, eqb-false, eqb-true}
use Rattle.shore_types.specs.declared.faults.Fault.TheVariants as fault
use Rattle.shore_model.specs.declared.calls.Answer.TheVariants.{Resolved}
use Rattle.shore_model.specs.declared.calls.Outcome.{Outcome}
use Rattle.shore_model.specs.declared.calls.Outcome.TheVariants as outcome
use Rattle.shore_model.specs.declared.histories.Entry.{Entry}
use Rattle.shore_model.specs.declared.histories.Opening.{Opening}
use Rattle.shore_model.specs.declared.log_records.LogRecord.{LogRecord}
use Rattle.shore_model.specs.declared.rollbacks.Rollback.TheVariants.{Whole}
use Rattle.shore_model.specs.declared.sessions.SessionState.{SessionState}
use Rattle.shore_model.specs.declared.step.Step.{Step}
use Rattle.shore_model.specs.declared.step.Step.TheVariants.{Done, Refused, Waits}
use Rattle.shore_model.specs.declared.step.Wait.TheVariants.{Durable}
use Rattle.laws_lives.proofs.DoubtDecisions.{same_text}
use Rattle.laws_lives.proofs.Lists.{among_map, mapped_one, within_or_beyond}
use Rattle.laws_lives.specs.Sessions.{PreparedTxn, ResolvedTxn, SessionTxn, in_prepared, in_txn, pair_of, pairs_of}
use Rattle.laws_lives.specs.Views.{IsAmong}
use Rattle.laws_calls.proofs.ResolveStays.{resolver_out}
use Rattle.laws_calls.proofs.RollbackNumbers.{fresh_number}
use Rattle.laws_calls.proofs.UnderGlobal.{same_texts}
use Rattle.laws_calls.specs.Events.{IsStateAfter}
use Rattle.laws_calls.specs.Resolves.{IsResolvable, IsRollingBack, MayResolve, ResolveStep, resolve_committed, resolve_told, resolved_by_rollback, rollback_decided, rollback_done, rollback_number}
use Rattle.laws_calls.specs.Rollbacks.{rolled}
use Rattle.laws_calls.specs.StateChanges.{ComesOfState, decision_waiting}
use Rattle.laws_calls.specs.States.{State, next_number}
use Rattle.shore_model.specs.declared.calls.Call.TheVariants as call
use Rattle.laws_calls.proofs.Decided.{ordinary}

-- ---- searches

abbrev EitherWay : Type 0 → Type 0
EitherWay P = P ⊎ (P → ⊥)

find_in : {A : Type 0} (P : A → Type 0) → ((x : A) → EitherWay (P x)) → (xs : List A) → ((x : A) × IsAmong x xs × P x) ⊎ ((x : A) → IsAmong x xs → P x → ⊥)
find_in P tell [] = inr (λ x m p. m)
find_in {A} P tell (x ∷ xs) = ⊎_elim
    (λ p. inl (x, inl refl, p))
    (λ none. ⊎_elim (λ later. inl (later.0, inr later.1, later.2)) (λ never. inr (λ y m p. ⊎_elim (λ same. none (subst P (sym same) p)) (λ l. never y l p) m)) (find_in P tell xs))
    (tell x)

both_ways_or : (P Q : Type 0) → EitherWay P → EitherWay Q → EitherWay (P × Q)
both_ways_or P Q (inl p) (inl q) = inl (p, q)
both_ways_or P Q (inl p) (inr none) = inr (λ x. none x.1)
both_ways_or P Q (inr none) q = inr (λ x. none x.0)

same_number_or : (t u : ℕ) → EitherWay (t ≡ u)
same_number_or t u = ⊎_elim (λ e. inl (eqb-true t u e)) (λ e. inr (eqb-false t u e)) (cases_Bool (t == u))

same_global_or : (x y : List ℕ) → EitherWay (x ≡ y)
same_global_or x y = ⊎_elim
    (λ e. inl (same_texts x y e))
    (λ e. inr (λ same. let clash : true ≡ false = sym (same_text x) ∙ ap (pointwise nat_eq x) same ∙ e in cc))
    (cases_Bool (pointwise nat_eq x y))

answered_or : (b : Bool) → EitherWay (b ≡ true)
answered_or true = inl refl
answered_or false = inr (λ e. cc)

aborts_or : (x : Outcome) → EitherWay (x ≡ outcome.Abort)
aborts_or outcome.Abort = inl refl
aborts_or outcome.Commit = inr (λ e. cc)

module _ (o : Opening) (found : List LogRecord) (es : List Entry) (s : State) (k : IsStateAfter o found es s) (session : ℕ) (global : List ℕ) where
  -- ---- who may resolve

  may_or_not : EitherWay (MayResolve s session global)
  may_or_not = ⊎_elim
      (λ none. inl (inl none))
      (⊎_elim (λ its. inr (in_its its.0 (k.sessions.seats.own session its.0 its.1) (k.sessions.seats.above session its.0 its.1))) (λ doubt. in_doubt doubt.0 doubt.2))
      (k.sessions.seats.there session)
    where
      in_its : (t : ℕ) → s.sessions.seats session ≡ in_txn t → 0 < t → MayResolve s session global → ⊥
      in_its t seat above may = resolver_out s session global may t above seat

      in_doubt : (t : ℕ) → s.sessions.seats session ≡ in_prepared t → EitherWay (MayResolve s session global)
      in_doubt t seat = ⊎_elim
          (λ p. inl (inr (t, seat, subst (λ q. IsAmong q (pairs_of s.sessions.prepared)) (ap (λ u. (u, p.0.global)) p.2.0 ∙ ap (λ (name : List ℕ). (t, name)) p.2.1) (among_map (λ (x : PreparedTxn). pair_of x) p.0 s.sessions.prepared p.1))))
          (λ never. inr (no_other never))
          (find_in (λ (p : PreparedTxn). (p.txn ≡ t) × (p.global ≡ global)) (λ p. both_ways_or (p.txn ≡ t) (p.global ≡ global) (same_number_or p.txn t) (same_global_or p.global global)) s.sessions.prepared)
        where
          no_other : ((p : PreparedTxn) → IsAmong p s.sessions.prepared → (p.txn ≡ t) × (p.global ≡ global) → ⊥) → MayResolve s session global → ⊥
          no_other never (inl none) = let clash : true ≡ false = ap (λ (p : SessionState). p.prepared) (sym seat ∙ none) in cc
          no_other never (inr d) =
              let p = mapped_one (λ (x : PreparedTxn). pair_of x) (d.0, global) s.sessions.prepared d.2 in
              never p.0 p.1 (ap (λ (q : ℕ × List ℕ). q.0) p.2 ∙ ap (λ (q : SessionState). q.txn) (sym d.1 ∙ seat), ap (λ (q : ℕ × List ℕ). q.1) p.2)

  -- ---- which transaction has the global id

  abbrev HasOne : Type 0
  HasOne = ((a : SessionTxn) × IsResolvable s a global) ⊎ ((a : SessionTxn) × IsRollingBack s a global)

  abbrev UnderWay : ℕ → Type 0
  UnderWay t = (a : SessionTxn) × IsAmong a s.sessions.active × (a.txn ≡ t)

  abbrev Rolls : ResolvedTxn → Type 0
  Rolls r = (r.outcome ≡ outcome.Abort) × ((r.global ≡ global) × UnderWay r.txn)

  abbrev Doubts : PreparedTxn → Type 0
  Doubts p = (p.answered ≡ true) × (p.global ≡ global)

  one_or_none : HasOne ⊎ ((a : SessionTxn) → IsResolvable s a global ⊎ IsRollingBack s a global → ⊥)
  one_or_none = ⊎_elim
      (λ p. inl (inl (in_doubt p.0 p.1 p.2)))
      (λ no_doubt. ⊎_elim
      (λ r. inl (inr (rolling r.0 r.1 r.2)))
      (λ no_rolling. inr (neither no_doubt no_rolling))
      (find_in Rolls (λ r. both_ways_or (r.outcome ≡ outcome.Abort) ((r.global ≡ global) × UnderWay r.txn) (aborts_or r.outcome)
      (both_ways_or (r.global ≡ global) (UnderWay r.txn) (same_global_or r.global global) (under_way_or r.txn))) s.sessions.resolving))
      (find_in Doubts (λ p. both_ways_or (p.answered ≡ true) (p.global ≡ global) (answered_or p.answered) (same_global_or p.global global)) s.sessions.prepared)
    where
      under_way_or : (t : ℕ) → EitherWay (UnderWay t)
      under_way_or t = ⊎_elim (λ a. inl (a.0, a.1, a.2)) (λ none. inr (λ a. none a.0 a.1 a.2)) (find_in (λ (a : SessionTxn). a.txn ≡ t) (λ a. same_number_or a.txn t) s.sessions.active)

      in_doubt : (p : PreparedTxn) → IsAmong p s.sessions.prepared → Doubts p → (a : SessionTxn) × IsResolvable s a global
      in_doubt p m is =
          let a = mapped_one (λ (x : SessionTxn). x.txn) p.txn s.sessions.active (k.sessions.agree.under_way p.txn (among_map (λ (x : PreparedTxn). x.txn) p s.sessions.prepared m)) in
          let same : p ≡ record { txn = a.0.txn; global = global; answered = true } =
          ap (λ (b : Bool). record { txn = p.txn; global = p.global; answered = b }) is.0
          ∙ ap (λ (name : List ℕ). record { txn = p.txn; global = name; answered = true }) is.1
          ∙ ap (λ (t : ℕ). record { txn = t; global = global; answered = true }) (sym a.2) in
          (a.0, (a.1, subst (λ (x : PreparedTxn). IsAmong x s.sessions.prepared) same m))

      rolling : (r : ResolvedTxn) → IsAmong r s.sessions.resolving → Rolls r → (a : SessionTxn) × IsRollingBack s a global
      rolling r m is =
          let a = is.1.1 in
          let same : r ≡ record { txn = a.0.txn; global = global; outcome = outcome.Abort } =
          ap (λ (x : Outcome). record { txn = r.txn; global = r.global; outcome = x }) is.0
          ∙ ap (λ (name : List ℕ). record { txn = r.txn; global = name; outcome = outcome.Abort }) is.1.0
          ∙ ap (λ (t : ℕ). record { txn = t; global = global; outcome = outcome.Abort }) (sym a.2) in
          (a.0, (a.1, subst (λ (x : ResolvedTxn). IsAmong x s.sessions.resolving) same m))

      neither : ((p : PreparedTxn) → IsAmong p s.sessions.prepared → Doubts p → ⊥) → ((r : ResolvedTxn) → IsAmong r s.sessions.resolving → Rolls r → ⊥) → (a : SessionTxn) → IsResolvable s a global ⊎ IsRollingBack s a global → ⊥
      neither no_doubt no_rolling a (inl can) = no_doubt (record { txn = a.txn; global = global; answered = true }) can.1 (refl, refl)
      neither no_doubt no_rolling a (inr rolls) = no_rolling (resolved_by_rollback a global) rolls.1 (refl, (refl, (a, rolls.0, refl)))

  -- ---- what it comes to

  abbrev pub ResolveComes : Outcome → Type 0
  ResolveComes asked = (step : Step) × (new : State) × ResolveStep s session global asked step new × ComesOfState step

  durable_or : (n : ℕ) → (n ≤ s.durable) ⊎ (s.durable < n)
  durable_or n = within_or_beyond n s.durable

  pub resolve_decides : (asked : Outcome) → ResolveComes asked
  resolve_decides asked = ⊎_elim
      (λ may. ⊎_elim
      (⊎_elim (λ a. in_doubt asked may a.0 a.1) (λ b. rolls asked may b.0 b.1))
      (λ none. (Refused fault.NoGlobalId, s, inl (fault.NoGlobalId, inr (inl (refl, may, none)), refl, refl), ordinary fault.NoGlobalId tt))
      one_or_none)
      (λ not. (Refused fault.AlreadyActive, s, inl (fault.AlreadyActive, inl (refl, not), refl, refl), ordinary fault.AlreadyActive tt))
      may_or_not
    where
      in_doubt : (asked : Outcome) → MayResolve s session global → (a : SessionTxn) → IsResolvable s a global → ResolveComes asked
      in_doubt outcome.Commit may a can = (Waits (Durable (next_number s)), resolve_committed s session a global, inr (may, (a, can, refl, refl)), tt)
      in_doubt outcome.Abort may a can =
          let b = rolled a a.undo.images Whole in
          let d = rollback_decided s a global in
          let n = rollback_number b.txn d.log in
          let number = fresh_number s global b d (a, can, refl, refl) in
          let most = k.forced.most in (
            Waits (Durable n),
            record (rollback_done d b) { waiting = decision_waiting session (call.Resolve global outcome.Abort) n ∷ s.waiting },
            inr (may, (b, d, inl (a, can, refl, refl), (omega (arith, number, most), refl, refl))),
            tt,
          )

      rolls : (asked : Outcome) → MayResolve s session global → (b : SessionTxn) → IsRollingBack s b global → ResolveComes asked
      rolls outcome.Commit may b back = (Refused fault.MustAbort, s, inl (fault.MustAbort, inr (inr (refl, may, refl, (b, back))), refl, refl), ordinary fault.MustAbort tt)
      rolls outcome.Abort may b back = ⊎_elim
          (λ durable. (
            Done Resolved,
            resolve_told (rollback_done s b) session (resolved_by_rollback b global),
            inr (may, (b, s, inr (back, refl), (durable, refl, refl))),
            tt,
          ))
          (λ not_yet. (
            Waits (Durable (rollback_number b.txn s.log)),
            record (rollback_done s b) { waiting = decision_waiting session (call.Resolve global outcome.Abort) (rollback_number b.txn s.log) ∷ s.waiting },
            inr (may, (b, s, inr (back, refl), (not_yet, refl, refl))),
            tt,
          ))
          (durable_or (rollback_number b.txn s.log))
