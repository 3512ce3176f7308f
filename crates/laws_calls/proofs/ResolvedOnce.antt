-- No transaction comes twice among those that a resolve has decided and that are not answered.
use Rattle.std.proofs.Common.{◌≡◌, ⊎_elim, inl, inr, ℕ, List, [], ◌∷◌, true, false, cond, sym, ap, subst}
use Rattle.std.specs.Prelude.{◌==◌, not, map}
use Rattle.laws_lives.proofs.Lists.{among_map}
use Rattle.laws_lives.proofs.Members.{txn_among}
use Rattle.laws_lives.specs.SessionSteps.{AnswerAbort, Ask, AnswerInDoubt, AnswerPrepare, AnswerResolve, AppendCommit, AppendPrepare, AppendResolve, AppendRollback, BeginTxn, Doom, EndRollback, GiveReply, MoveLocks, PutBack, RefuseCall, SessionEvent, StepsTo}
use Rattle.laws_lives.specs.Sessions.{EachOnce, PreparedTxn, ResolvedTxn, Sessions, in_doubt_of, resolved_of, txns_of, without_resolved}
use Rattle.laws_lives.specs.Views.{IsAmong}

-- of some that are left
left_among : (t u : ℕ) (rs : List ResolvedTxn) → IsAmong u (map (λ (r : ResolvedTxn). r.txn) (without_resolved t rs)) → IsAmong u (map (λ (r : ResolvedTxn). r.txn) rs)
left_among t u [] h = h
left_among t u (r ∷ rs) h =
    (elim (t == r.txn) as (λ b. IsAmong u (map (λ (r : ResolvedTxn). r.txn) (cond (not b) (r ∷ without_resolved t rs) (without_resolved t rs))) → IsAmong u (r.txn ∷ map (λ (r : ResolvedTxn). r.txn) rs)) [
      | true ↦ λ m. inr (left_among t u rs m)
      | false ↦ λ m. ⊎_elim (λ same. inl same) (λ later. inr (left_among t u rs later)) m
    ]) h

left_once : (t : ℕ) (rs : List ResolvedTxn) → EachOnce (map (λ (r : ResolvedTxn). r.txn) rs) → EachOnce (map (λ (r : ResolvedTxn). r.txn) (without_resolved t rs))
left_once t [] h = h
left_once t (r ∷ rs) h =
    elim (t == r.txn) as (λ b. EachOnce (map (λ (r : ResolvedTxn). r.txn) (cond (not b) (r ∷ without_resolved t rs) (without_resolved t rs)))) [
      | true ↦ left_once t rs h.1
      | false ↦ (λ m. h.0 (left_among t r.txn rs m), left_once t rs h.1)
    ]

module _ (old new : Sessions) (apart : (t : ℕ) → IsAmong t (txns_of old.active) → IsAmong t (in_doubt_of old) → IsAmong t (resolved_of old) → ⊥) (once : EachOnce (resolved_of old)) where
  same : new.resolving ≡ old.resolving → EachOnce (resolved_of new)
  same is = subst (λ (rs : List ResolvedTxn). EachOnce (map (λ (r : ResolvedTxn). r.txn) rs)) (sym is) once

  pub event_once : (e : SessionEvent) → StepsTo old e new → EachOnce (resolved_of new)
  event_once (MoveLocks held) m = same (ap (λ (n : Sessions). n.resolving) m.3)
  event_once (BeginTxn session) m = same (ap (λ (n : Sessions). n.resolving) m.1)
  event_once (GiveReply a c reply) m = same (ap (λ (n : Sessions). n.resolving) m.4)
  event_once (AppendCommit a ticket) m = same (ap (λ (n : Sessions). n.resolving) m.2)
  event_once (PutBack a kept e r) m = same (ap (λ (n : Sessions). n.resolving) m.4)
  event_once (Doom a) m = same (ap (λ (n : Sessions). n.resolving) m.1)
  event_once (AnswerAbort a) m = same (ap (λ (n : Sessions). n.resolving) m.1)
  event_once (Ask ticket answer) m = same (ap (λ (n : Sessions). n.resolving) m)
  event_once (RefuseCall session t c fault) m = same (ap (λ (n : Sessions). n.resolving) m.2)
  event_once (AppendPrepare a global granules) m = same (ap (λ (n : Sessions). n.resolving) m.4)
  event_once (AnswerPrepare session t global) m = same (ap (λ (n : Sessions). n.resolving) m.2)
  event_once (EndRollback a) m = same (ap (λ (n : Sessions). n.resolving) m.2)
  event_once (AnswerInDoubt session t pairs) m = same (ap (λ (n : Sessions). n.resolving) m.2)
  event_once (AppendResolve a global) m =
      subst (λ (n : Sessions). EachOnce (resolved_of n)) (sym m.3)
      (λ there. apart a.txn (txn_among a old.active m.0) (among_map (λ (p : PreparedTxn). p.txn) (record { txn = a.txn; global = global; answered = true }) old.prepared m.2) there, once)
  event_once (AppendRollback a global) m =
      subst (λ (n : Sessions). EachOnce (resolved_of n)) (sym m.2)
      (λ there. apart a.txn (txn_among a old.active m.0) (among_map (λ (p : PreparedTxn). p.txn) (record { txn = a.txn; global = global; answered = true }) old.prepared m.1) there, once)
  event_once (AnswerResolve session r) m = subst (λ (n : Sessions). EachOnce (resolved_of n)) (sym m.2) (left_once r.txn old.resolving once)
