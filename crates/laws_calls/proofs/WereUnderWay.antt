-- The transactions under way behind a step were so before it, in the same sessions.
use Rattle.std.proofs.Common.{◌≡◌, ◌≢◌, inl, inr, ℕ, List, true, false, refl, sym, ap, subst, ◌∙◌, cond, ◌<◌}
use Rattle.std.specs.Prelude.{◌==◌}
use Rattle.shore_types.specs.declared.faults.Fault.{Fault}
use Rattle.shore_types.specs.declared.faults.Fault.TheVariants as fault
use Rattle.shore_model.specs.declared.rollbacks.Rollback.{Rollback}
use Rattle.shore_model.specs.declared.rollbacks.Rollback.TheVariants.{Whole}
use Rattle.shore_model.specs.declared.step.Step.{Step}
use Rattle.shore_model.specs.declared.step.Step.TheVariants.{Done, Nothing, Refused, Waits}
use Rattle.laws_lives.proofs.Members.{among_with, among_without}
use Rattle.laws_lives.specs.Sessions.{SessionTxn, with_undo, without_txn, Sessions, in_txn, in_prepared}
use Rattle.laws_lives.specs.UndoLists.{UndoList, undo_rolled}
use Rattle.laws_calls.specs.Rollbacks.{IsInterrupted, IsUnwound}
use Rattle.laws_calls.specs.StateChanges.{after_refusal}
use Rattle.laws_calls.specs.States.{IsOfSession, State, HasSeat}
use Rattle.laws_calls.proofs.Waiters.{other_seat}
use Rattle.shore_model.specs.declared.sessions.SessionState.{SessionState}
use Rattle.shore_model.specs.Histories.{once_prepared}
use Rattle.laws_calls.specs.Resolves.{DecidesRollback, rollback_done, rollback_decided, ResolvesTo, resolve_committed}
use Rattle.shore_model.specs.declared.calls.Outcome.{Outcome}
use Rattle.laws_calls.proofs.ResolveLeaves.{was_undecided}
use Rattle.shore_model.specs.declared.calls.Outcome.TheVariants as outcome

-- ---- transactions under way

-- each transaction was under way before, in the same session with the same number
abbrev pub WasUnderWay : State → SessionTxn → Type 0
WasUnderWay s b = (a : SessionTxn) × IsOfSession s b.session a × (a.txn ≡ b.txn)

pub was_it : (s : State) (b : SessionTxn) → HasSeat s.sessions b → WasUnderWay s b
was_it s b m = (b, (m, refl), refl)

pub was_with : (s : State) (t : ℕ) (undo : UndoList) (b : SessionTxn) → HasSeat (record s.sessions { active = with_undo t undo s.sessions.active }) b → WasUnderWay s b
was_with s t undo b m =
    let w = among_with t undo b s.sessions.active m.0 in
    (w.was, ((w.there, ap s.sessions.seats (sym w.session) ∙ m.1 ∙ ap in_txn w.txn, subst (λ t. 0 < t) w.txn m.2), sym w.session), sym w.txn)

pub was_without : (s : State) (t : ℕ) (b : SessionTxn) → HasSeat (record s.sessions { active = without_txn t s.sessions.active }) b → WasUnderWay s b
was_without s t b m = was_it s b ((among_without t b s.sessions.active m.0).0, m.1, m.2)

-- one session's seat is another one
pub was_beside : (s : State) (session : ℕ) (seat : SessionState) (b : SessionTxn) → session ≢ b.session → HasSeat (record s.sessions { seats = λ n. cond (session == n) seat (s.sessions.seats n) }) b → HasSeat s.sessions b
was_beside s session seat b apart m = (m.0, sym (other_seat s.sessions.seats session b.session seat apart) ∙ m.1, m.2)

-- one that is in a transaction as it is not prepared was so before another was
pub was_in_txn : (t u : ℕ) (p : SessionState) → once_prepared p t ≡ in_txn u → p ≡ in_txn u
was_in_txn t u p = elim (p.txn == t) as (λ b. cond b (in_prepared t) p ≡ in_txn u → p ≡ in_txn u) [ true ↦ λ h. let clash : true ≡ false = ap (λ (x : SessionState). x.prepared) h in absurd cc | false ↦ λ h. h ]

-- as the new state has them
pub was_in : (s new l : State) (b : SessionTxn) → new ≡ l → (HasSeat l.sessions b → WasUnderWay s b) → HasSeat new.sessions b → WasUnderWay s b
was_in s new l b is by m = by (subst (λ (x : State). HasSeat x.sessions b) is m)

abbrev pub AllWereUnderWay : State → State → Type 0
AllWereUnderWay s new = (b : SessionTxn) → HasSeat new.sessions b → WasUnderWay s b

pub refused_sessions : (f : Fault) (s : State) → (after_refusal f s).sessions ≡ s.sessions
refused_sessions fault.Device s = refl
refused_sessions (fault.Damaged device place) s = refl
refused_sessions _ s = refl

pub interrupted_were : (s : State) (a : SessionTxn) (r : Rollback) (f : Fault) (new : State) → IsInterrupted s a r f new → AllWereUnderWay s new
interrupted_were s a r f new h b m = unwound h.1 (subst (λ (n : Sessions). HasSeat n b) (ap (λ (x : State). x.sessions) h.3 ∙ refused_sessions f h.0) m)
  where
    unwound : IsUnwound s a r h.0 → HasSeat h.0.sessions b → WasUnderWay s b
    unwound (inl same) = was_in s h.0 s b same (was_it s b)
    unwound (inr back) = was_in s h.0 _ b back.5 (was_with s a.txn _ b)

-- ---- resolves

-- one after another
pub were_then : (s d new : State) → AllWereUnderWay s d → AllWereUnderWay d new → AllWereUnderWay s new
were_then s d new first last b m =
    let mid = last b m in
    let was = first mid.0 mid.1.0 in
    (was.0, (was.1.0, was.1.1 ∙ mid.1.1), was.2 ∙ mid.2)

pub decided_were : (s : State) (global : List ℕ) (b : SessionTxn) (d : State) → DecidesRollback s global b d → AllWereUnderWay s d
decided_were s global b d (inl h) c =
    was_in s d (rollback_decided s h.0 global) c h.3
    (λ m. was_with s h.0.txn (undo_rolled h.0.undo h.0.undo.images Whole) c (m.0, was_undecided h.0.txn c.txn (s.sessions.seats c.session) m.2 m.1, m.2))
decided_were s global b d (inr h) c = was_in s d s c h.1 (was_it s c)

pub done_were : (d : State) (a : SessionTxn) → AllWereUnderWay d (rollback_done d a)
done_were d a b m = was_without d a.txn b m

pub told_seat : (seats : ℕ → SessionState) (session n : ℕ) → cond (session == n) (seats n) (seats n) ≡ seats n
told_seat seats session n = elim (session == n) as (λ b. cond b (seats n) (seats n) ≡ seats n) [ true ↦ refl | false ↦ refl ]

pub resolve_were : (s : State) (session : ℕ) (global : List ℕ) (asked : Outcome) (step : Step) (new : State) → ResolvesTo s session global asked step new
    → (b : SessionTxn) → HasSeat new.sessions b → b.session ≢ session → WasUnderWay s b
resolve_were s session global outcome.Commit (Waits wait) new h b m other =
    was_in s new (resolve_committed s session h.0 global) b h.3 (λ now. was_without s h.0.txn b (now.0, was_undecided h.0.txn b.txn (s.sessions.seats b.session) now.2 now.1, now.2)) m
resolve_were s session global outcome.Commit (Done answer) new h b m other = absurd h
resolve_were s session global outcome.Commit (Refused f) new h b m other = absurd h
resolve_were s session global outcome.Commit Nothing new h b m other = absurd h
resolve_were s session global outcome.Abort (Refused f) new h b m other = were_then s h.1 new (decided_were s global h.0 h.1 h.2) (interrupted_were h.1 h.0 Whole f new h.3) b m
resolve_were s session global outcome.Abort (Done answer) new h b m other =
    were_then s h.1 new (decided_were s global h.0 h.1 h.2)
    (λ c n. was_in h.1 new _ c h.3.2 (λ now. done_were h.1 h.0 c (now.0, sym (told_seat h.1.sessions.seats session c.session) ∙ now.1, now.2)) n) b m
resolve_were s session global outcome.Abort (Waits wait) new h b m other =
    were_then s h.1 new (decided_were s global h.0 h.1 h.2) (λ c n. was_in h.1 new _ c h.3.2 (λ now. done_were h.1 h.0 c now) n) b m
resolve_were s session global outcome.Abort Nothing new h b m other = absurd h.3
