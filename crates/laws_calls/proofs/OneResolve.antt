-- A resolve comes to one thing: a global id is that of one transaction, which is in doubt, or is being rolled back.
use Rattle.std.proofs.Common.{◌≡◌, ◌⊎◌, inl, inr, ⊎_elim, ℕ, List, refl, sym, ap, subst, ◌∙◌, arith, Some, true}
use Rattle.shore_types.specs.declared.faults.Fault.{Fault}
use Rattle.shore_types.specs.declared.layout.Geometry.{Geometry}
use Rattle.shore_model.specs.declared.calls.Call.{Call}
use Rattle.shore_model.specs.declared.calls.Call.TheVariants as call
use Rattle.shore_model.specs.declared.calls.Outcome.{Outcome}
use Rattle.shore_model.specs.declared.calls.Outcome.TheVariants as outcome
use Rattle.shore_model.specs.declared.histories.Entry.{Entry}
use Rattle.shore_model.specs.declared.histories.Opening.{Opening}
use Rattle.shore_model.specs.declared.log_records.LogRecord.{LogRecord}
use Rattle.shore_model.specs.declared.rollbacks.Rollback.TheVariants.{Whole}
use Rattle.shore_model.specs.declared.step.Step.{Step}
use Rattle.shore_model.specs.declared.step.Step.TheVariants.{Done, Nothing, Refused, Waits}
use Rattle.laws_lives.proofs.Lists.{among_map}
use Rattle.laws_lives.specs.Sessions.{ResolvedTxn, SessionTxn, in_use, resolved_of}
use Rattle.laws_lives.specs.Views.{IsAmong}
use Rattle.laws_calls.proofs.OneBehind.{AreOne}
use Rattle.laws_calls.proofs.OneInterrupted.{Compares, one_interrupted}
use Rattle.laws_calls.proofs.ResolveStates.{not_resolved}
use Rattle.laws_calls.proofs.Sessions.{one_member}
use Rattle.laws_calls.proofs.UnderGlobal.{one_global, used_in_doubt, used_resolved}
use Rattle.laws_calls.specs.Events.{IsStateAfter}
use Rattle.laws_calls.specs.Resolves.{DecidesRollback, IsResolvable, IsRollingBack, MayResolve, RefusesResolve, ResolveStep, ResolvesTo, RollsBack, resolve_committed, resolved_by_rollback, rollback_decided}
use Rattle.laws_calls.specs.Rollbacks.{rolled}
use Rattle.laws_calls.specs.Shapes.{rollback_of}
use Rattle.laws_calls.specs.States.{State}

module _ (g : Geometry) (o : Opening) (found : List LogRecord) (es : List Entry) (s : State) (k : IsStateAfter o found es s) (session : ℕ) (global : List ℕ) where
  used : (a : SessionTxn) → IsResolvable s a global → IsAmong (a.txn, global) (in_use s.sessions)
  used a can = used_in_doubt s.sessions (record { txn = a.txn; global = global; answered = true }) can.1

  used_back : (a : SessionTxn) → IsRollingBack s a global → IsAmong (a.txn, global) (in_use s.sessions)
  used_back a rolls = used_resolved s.sessions (resolved_by_rollback a global) rolls.1

  pub one_doubt : (a b : SessionTxn) → IsResolvable s a global → IsResolvable s b global → a ≡ b
  one_doubt a b can may = one_member k.sessions a b can.0 may.0 (one_global o es s.sessions k.sessions.agree a.txn b.txn global (used a can) (used b may))

  pub one_rolling : (a b : SessionTxn) → IsRollingBack s a global → IsRollingBack s b global → a ≡ b
  one_rolling a b rolls also = one_member k.sessions a b rolls.0 also.0 (one_global o es s.sessions k.sessions.agree a.txn b.txn global (used_back a rolls) (used_back b also))

  pub not_both : (a b : SessionTxn) → IsResolvable s a global → IsRollingBack s b global → ⊥
  not_both a b can rolls =
      let same = one_global o es s.sessions k.sessions.agree a.txn b.txn global (used a can) (used_back b rolls) in
      not_resolved o found es s k a global can
      (subst (λ t. IsAmong t (resolved_of s.sessions)) (sym same) (among_map (λ (q : ResolvedTxn). q.txn) (resolved_by_rollback b global) s.sessions.resolving rolls.1))

  -- ---- refusals

  one_refusal : (asked : Outcome) (e f : Fault) → RefusesResolve s session global asked e → RefusesResolve s session global asked f → e ≡ f
  one_refusal asked e f (inl h) (inl j) = h.0 ∙ sym j.0
  one_refusal asked e f (inl h) (inr (inl j)) = absurd (h.1 j.1)
  one_refusal asked e f (inl h) (inr (inr j)) = absurd (h.1 j.1)
  one_refusal asked e f (inr (inl h)) (inl j) = absurd (j.1 h.1)
  one_refusal asked e f (inr (inl h)) (inr (inl j)) = h.0 ∙ sym j.0
  one_refusal asked e f (inr (inl h)) (inr (inr j)) = absurd (h.2 j.3.0 (inr j.3.1))
  one_refusal asked e f (inr (inr h)) (inl j) = absurd (j.1 h.1)
  one_refusal asked e f (inr (inr h)) (inr (inl j)) = absurd (j.2 h.3.0 (inr h.3.1))
  one_refusal asked e f (inr (inr h)) (inr (inr j)) = h.0 ∙ sym j.0

  -- what goes on has a transaction
  pub goes_on_with : (asked : Outcome) (step : Step) (new : State) → ResolvesTo s session global asked step new
      → (a : SessionTxn) × (IsResolvable s a global ⊎ (IsRollingBack s a global × (asked ≡ outcome.Abort)))
  goes_on_with outcome.Commit (Waits wait) new h = (h.0, inl h.1)
  goes_on_with outcome.Commit (Done answer) new h = absurd h
  goes_on_with outcome.Commit (Refused f) new h = absurd h
  goes_on_with outcome.Commit Nothing new h = absurd h
  goes_on_with outcome.Abort step new h = ⊎_elim (λ now. (now.0, inl now.1)) (λ before. (h.0, inr (before.0, refl))) h.2

  pub refused_or : (asked : Outcome) (f : Fault) (step : Step) (new : State) → RefusesResolve s session global asked f → MayResolve s session global → ResolvesTo s session global asked step new → ⊥
  refused_or asked f step new (inl h) may to = h.1 may
  refused_or asked f step new (inr (inl h)) may to = let a = goes_on_with asked step new to in ⊎_elim (λ can. h.2 a.0 (inl can)) (λ rolls. h.2 a.0 (inr rolls.0)) a.1
  refused_or asked f step new (inr (inr h)) may to =
      let a = goes_on_with asked step new to in
      ⊎_elim (λ can. not_both a.0 h.3.0 can h.3.1) (λ rolls. let clash : outcome.Commit ≡ outcome.Abort = sym h.2 ∙ rolls.1 in cc) a.1

  -- ---- what it goes on to

  one_decided : (b c : SessionTxn) (d e : State) → DecidesRollback s global b d → DecidesRollback s global c e → (b ≡ c) × (d ≡ e)
  one_decided b c d e (inl h) (inl j) =
      let same = one_doubt h.0 j.0 h.1 j.1 in
      (h.2 ∙ ap (λ (a : SessionTxn). rolled a a.undo.images Whole) same ∙ sym j.2, h.3 ∙ ap (λ (a : SessionTxn). rollback_decided s a global) same ∙ sym j.3)
  one_decided b c d e (inl h) (inr j) = absurd (not_both h.0 c h.1 j.0)
  one_decided b c d e (inr h) (inl j) = absurd (not_both j.0 b j.1 h.0)
  one_decided b c d e (inr h) (inr j) = (one_rolling b c h.0 j.0, h.1 ∙ sym j.1)

  module _ (c : Call) (is : rollback_of c ≡ Some Whole) (d : State) (b : SessionTxn) where
    one_rolls : (x y : Step) (new later : State) → Compares c x y → RollsBack d session global b x new → RollsBack d session global b y later → AreOne x y new later
    one_rolls (Done x) (Done y) new later both h j = (ap Done (h.1 ∙ sym j.1), h.2 ∙ sym j.2)
    one_rolls (Waits v) (Waits w) new later both h j = (ap Waits (h.1 ∙ sym j.1), h.2 ∙ sym j.2)
    one_rolls (Done x) (Waits w) new later both h j = let le = h.0 in let less = j.0 in absurd (omega arith)
    one_rolls (Waits v) (Done y) new later both h j = let le = j.0 in let less = h.0 in absurd (omega arith)
    one_rolls (Done x) (Refused f) new later both h j = one_interrupted g d (AreOne (Done x) (Refused f) new later) c (Done x) (Refused f) f b Whole later both is j (inr refl)
    one_rolls (Waits v) (Refused f) new later both h j = one_interrupted g d (AreOne (Waits v) (Refused f) new later) c (Waits v) (Refused f) f b Whole later both is j (inr refl)
    one_rolls (Refused f) y new later both h j = one_interrupted g d (AreOne (Refused f) y new later) c (Refused f) y f b Whole new both is h (inl refl)
    one_rolls Nothing y new later both h j = absurd h
    one_rolls (Done x) Nothing new later both h j = absurd j
    one_rolls (Waits v) Nothing new later both h j = absurd j

  one_to : (asked : Outcome) (x y : Step) (new later : State) → Compares (call.Resolve global asked) x y → ResolvesTo s session global asked x new → ResolvesTo s session global asked y later
      → AreOne x y new later
  one_to outcome.Commit (Waits v) (Waits w) new later both h j =
      (ap Waits (h.2 ∙ sym j.2), h.3 ∙ ap (λ (a : SessionTxn). resolve_committed s session a global) (one_doubt h.0 j.0 h.1 j.1) ∙ sym j.3)
  one_to outcome.Commit (Waits v) (Done y) new later both h j = absurd j
  one_to outcome.Commit (Waits v) (Refused f) new later both h j = absurd j
  one_to outcome.Commit (Waits v) Nothing new later both h j = absurd j
  one_to outcome.Commit (Done x) y new later both h j = absurd h
  one_to outcome.Commit (Refused f) y new later both h j = absurd h
  one_to outcome.Commit Nothing y new later both h j = absurd h
  one_to outcome.Abort x y new later both h j =
      let same = one_decided h.0 j.0 h.1 j.1 h.2 j.2 in
      one_rolls (call.Resolve global outcome.Abort) refl h.1 h.0 x y new later both h.3
      (subst (λ (b : SessionTxn). RollsBack h.1 session global b y later) (sym same.0) (subst (λ (d : State). RollsBack d session global j.0 y later) (sym same.1) j.3))

  pub one_resolve : (asked : Outcome) (x y : Step) (new later : State) → Compares (call.Resolve global asked) x y → ResolveStep s session global asked x new → ResolveStep s session global asked y later
      → AreOne x y new later
  one_resolve asked x y new later both (inl h) (inl j) = (h.2 ∙ ap Refused (one_refusal asked h.0 j.0 h.1 j.1) ∙ sym j.2, h.3 ∙ sym j.3)
  one_resolve asked x y new later both (inl h) (inr j) = absurd (refused_or asked h.0 y later h.1 j.0 j.1)
  one_resolve asked x y new later both (inr h) (inl j) = absurd (refused_or asked j.0 x new j.1 h.0 h.1)
  one_resolve asked x y new later both (inr h) (inr j) = one_to asked x y new later both h.1 j.1
