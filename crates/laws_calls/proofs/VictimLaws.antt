-- Victims of cycles of waits: who they are, what they keep, what they are told, and what is left to them.
use Rattle.std.proofs.Common.{◌≡◌, ◌≢◌, ◌⊎◌, inl, inr, ⊎_elim, ◌++◌, ◌∷◌, ℕ, List, [], false, None, Some, refl, sym, ap, subst, ◌∙◌, ◌<◌}
use Rattle.std.specs.Prelude.{◌==◌, Contains}
use Rattle.std.proofs.lemmas.Bool.{cases_Bool, eqb-false, eqb-true}
use Rattle.shore_types.specs.declared.faults.Fault.TheVariants as fault
use Rattle.shore_types.specs.declared.layout.Geometry.{Geometry}
use Rattle.shore_model.specs.declared.calls.Call.{Call}
use Rattle.shore_model.specs.declared.calls.Call.TheVariants as call
use Rattle.shore_model.specs.declared.histories.Entry.{Entry}
use Rattle.shore_model.specs.declared.histories.Opening.{Opening}
use Rattle.shore_model.specs.declared.holds.Hold.{Hold}
use Rattle.shore_model.specs.declared.log_records.LogRecord.{LogRecord}
use Rattle.shore_model.specs.Locks.{HoldsAtLeast}
use Rattle.shore_nodes.proofs.Members.{In-Contains}
use Rattle.shore_locks.specs.Grants.{cancelled}
use Rattle.shore_locks.specs.Tables.{is_waiting}
use Rattle.shore_locks.proofs.Outcomes.{quiet_after_cancel}
use Rattle.shore_path.proofs.Freeing.{weaker_cancelled}
use Rattle.shore_path.proofs.Holding.{enough_of, holder_from_lock, holder_of, lock_from_holder}
use Rattle.shore_cycles.specs.declared.victims.Victim.{Victim}
use Rattle.shore_cycles.proofs.VictimLemmas.{first_In}
use Rattle.laws_lives.proofs.Members.{among_with, same_member}
use Rattle.shore_model.specs.declared.rollbacks.Rollback.TheVariants.{To, Whole}
use Rattle.laws_lives.specs.SessionSteps.{KeepsLocks}
use Rattle.laws_lives.specs.Sessions.{SessionTxn, in_txn}
use Rattle.laws_lives.specs.UndoLists.{undo_rolled, UndoList}
use Rattle.laws_lives.specs.Views.{IsAmong}
use Rattle.laws_calls.proofs.Elements.{waits_on}
use Rattle.laws_calls.proofs.Sessions.{one_txn, not_prepared, one_member, in_one}
use Rattle.laws_calls.proofs.ToldCycles.{own_waits, to_tell}
use Rattle.laws_calls.proofs.VictimSteps.{told_stays, victim_stays, victim_is_waiting, victim_seat}
use Rattle.shore_model.specs.declared.step.Step.{Step}
use Rattle.shore_model.specs.declared.step.Step.TheVariants.{Refused}
use Rattle.laws_calls.specs.CallSteps.{CallStep, InnerStep, ResumeStep, NeedsTxn}
use Rattle.laws_calls.specs.Events.{IsStateAfter, entries_of_resume}
use Rattle.laws_calls.specs.LockedStates.{IsSessionsState}
use Rattle.laws_calls.specs.Rollbacks.{TakesCall}
use Rattle.laws_calls.specs.Settling.{SettledResume}
use Rattle.laws_calls.specs.StateChanges.{wait_refused}
use Rattle.laws_calls.specs.States.{DoesNotWait, IsOfSession, State, Waiting, HasSeat}
use Rattle.laws_calls.specs.Victims.{TakesVictim, TellsVictim}
use Rattle.laws_calls.proofs.Outside.{not_outside}

-- ---- who is one

pub victim_among : {s new : State} {t : ℕ} {v : Victim} → TakesVictim s t v new → Contains v.cycle v.txn
victim_among {s} {new} {t} {v} h = In-Contains v.cycle v.txn (first_In v.cycle v.txn h.victim.stands.first)

-- ---- what is kept

module _ (o : Opening) (found : List LogRecord) (es : List Entry) (s new : State) (t : ℕ) (v : Victim) (k : IsStateAfter o found es s) (h : TakesVictim s t v new) where
  pub victim_keeps_locks : (u : ℕ) → KeepsLocks s.sessions.held new.sessions.held u
  victim_keeps_locks u m at held =
      let rs = s.locks.requests in
      let left = cancelled h.txn.txn rs in
      let was = holder_from_lock u at m rs (subst (λ (l : List Hold). HoldsAtLeast l u m at) k.sessions.locks.held held) in
      let enough = weaker_cancelled h.txn.txn rs k.sessions.locks.orderly u at m (enough_of u at m rs k.sessions.locks.orderly.one_each was) in
      subst (λ (x : State). HoldsAtLeast x.sessions.held u m at) (sym h.is) (lock_from_holder u at m left (holder_of u at m left enough))

  pub victim_quiet : is_waiting v.txn new.locks.requests ≡ false
  victim_quiet =
      subst (λ (x : State). is_waiting v.txn x.locks.requests ≡ false) (sym h.is)
      (subst (λ u. is_waiting u (cancelled h.txn.txn s.locks.requests) ≡ false) h.number (quiet_after_cancel h.txn.txn s.locks.requests k.sessions.locks.orderly))

  -- each transaction has the images that it had
  pub victim_keeps_images : (a b : SessionTxn) → IsAmong a s.sessions.active → IsAmong b new.sessions.active → b.txn ≡ a.txn → b.undo.images ≡ a.undo.images
  victim_keeps_images a b was there same =
      let one = among_with h.txn.txn (undo_rolled h.txn.undo h.txn.undo.images Whole) b s.sessions.active (subst (λ (x : State). IsAmong b x.sessions.active) h.is there) in
      ⊎_elim
      (λ own.
      let its : h.txn ≡ a = same_member h.txn a s.sessions.active k.sessions.agree.once h.active was (sym own.0 ∙ same) in
      ap (λ u. u.images) own.1 ∙ ap (λ (x : SessionTxn). x.undo.images) its)
      (λ other.
      let its : one.was ≡ a = same_member one.was a s.sessions.active k.sessions.agree.once one.there was (sym one.txn ∙ same) in
      ap (λ (x : SessionTxn). x.undo.images) (other.1 ∙ its))
      one.one

pub victim_doomed : (s new : State) (t : ℕ) (v : Victim) (b : SessionTxn) → TakesVictim s t v new → IsAmong b new.sessions.active → b.txn ≡ v.txn → b.undo.rolling ≡ Some Whole
victim_doomed s new t v b h there same =
    let one = among_with h.txn.txn (undo_rolled h.txn.undo h.txn.undo.images Whole) b s.sessions.active (subst (λ (x : State). IsAmong b x.sessions.active) h.is there) in
    ⊎_elim (λ own. ap (λ (undo : UndoList). undo.rolling) own.1) (λ other. absurd (other.0 (same ∙ sym h.number))) one.one

-- ---- what is told

-- a session has a call that waits, or none
waits_or_not : (session : ℕ) (ws : List Waiting) → ((w : Waiting) × IsAmong w ws × (w.session ≡ session)) ⊎ ((w : Waiting) → IsAmong w ws → w.session ≢ session)
waits_or_not session [] = inr (λ w m. absurd m)
waits_or_not session (x ∷ ws) = ⊎_elim
    (λ own. inl (x, inl refl, eqb-true x.session session own))
    (λ other. ⊎_elim
    (λ later. inl (later.0, inr later.1, later.2))
    (λ none. inr (λ w. ⊎_elim (λ same of. eqb-false x.session session other (ap (λ (y : Waiting). y.session) same ∙ of)) (none w)))
    (waits_or_not session ws))
    (cases_Bool (x.session == session))

module _ (o : Opening) (found : List LogRecord) (es : List Entry) (s : State) (k : IsStateAfter o found es s) (running : s.failed ≡ false) where
  -- the call with which a victim waits is to be told
  pub victim_to_tell : (new : State) (t : ℕ) (v : Victim) (b : SessionTxn) → TakesVictim s t v new → IsAmong b new.sessions.active → b.txn ≡ v.txn
      → (w : Waiting) × IsAmong w new.waiting × (w.session ≡ b.session) × (w.cycle ≡ Some v.cycle)
  victim_to_tell new t v b h there same =
      let after = victim_stays o found es s k t v new h in
      let a = h.txn in
      let was = among_with a.txn (undo_rolled a.undo a.undo.images Whole) b s.sessions.active (subst (λ (x : State). IsAmong b x.sessions.active) h.is there) in
      let of : a.session ≡ b.session = ap (λ (x : SessionTxn). x.session) (one_member k.sessions a was.was h.active was.there (h.number ∙ sym same ∙ was.txn)) ∙ sym was.session in
      ⊎_elim
      (λ waits. (
        to_tell v.cycle waits.0,
        subst (λ (x : State). IsAmong (to_tell v.cycle waits.0) x.waiting) (sym h.is) (own_waits a.session v.cycle waits.0 s.waiting waits.1 waits.2),
        waits.2 ∙ of,
        refl,
      ))
      (λ none.
      let quiet = k.sessions.locks.waits running a h.active (λ w m spared. none w m) in
      let clash = sym (victim_is_waiting s new t v h) ∙ ap (λ u. is_waiting u s.locks.requests) (sym h.number) ∙ quiet in
      absurd cc)
      (waits_or_not a.session s.waiting)

  -- a victim does not go on
  victim_stops : (g : Geometry) (new : State) (session : ℕ) (step : Step) (w : Waiting) (cycle : List ℕ) → IsAmong w s.waiting → w.session ≡ session → w.cycle ≡ Some cycle
      → ResumeStep g s session step new → ⊥
  victim_stops g new session step w cycle there of victim (inl h) = h.0 w there of
  victim_stops g new session step w cycle there of victim (inr (x, m, same, inl h)) = let failed = h.0 in absurd cc
  victim_stops g new session step w cycle there of victim (inr (x, m, same, inr h)) =
      let clash : None ≡ Some cycle = sym h.2 ∙ ap (λ (y : Waiting). y.cycle) (k.waits.once x w m there (same ∙ sym of)) ∙ victim in absurd cc

  pub victim_only_told : (g : Geometry) (new : State) (session : ℕ) (step : Step) (w : Waiting) (cycle : List ℕ) → IsAmong w s.waiting → w.session ≡ session → w.cycle ≡ Some cycle
      → SettledResume g s session step new → (step ≡ Refused (fault.Deadlock cycle)) × (new ≡ wait_refused s session)
  victim_only_told g new session step w cycle there of victim (inl h) =
      let same : Some h.cycle ≡ Some cycle = sym h.victim ∙ ap (λ (y : Waiting). y.cycle) (k.waits.once h.waited w h.there there (h.of ∙ sym of)) ∙ victim in
      let its : h.cycle ≡ cycle = cc in
      (h.told ∙ ap (λ (xs : List ℕ). Refused (fault.Deadlock xs)) its, h.is)
  victim_only_told g new session step w cycle there of victim (inr (inl h)) = absurd (victim_stops g new session step w cycle there of victim h.0)
  victim_only_told g new session step w cycle there of victim (inr (inr h)) = absurd (victim_stops g h.mid session h.first w cycle there of victim h.resumes)

-- ---- what is left

-- of a transaction that is rolled back as a whole nothing but an abort is taken
module _ (g : Geometry) (o : Opening) (found : List LogRecord) (es : List Entry) (s new : State) (k : IsSessionsState o found es s) (session : ℕ) (b : SessionTxn) (of : IsOfSession s session b)
    (whole : b.undo.rolling ≡ Some Whole) (c : Call) (needs : NeedsTxn c) (no_abort : c ≢ call.Abort) (step : Step) where
  abbrev IsRefused : Type 0
  IsRefused = ((step ≡ Refused fault.MustAbort) ⊎ (step ≡ Refused fault.Memory)) × (new ≡ s)

  rolls : (a : SessionTxn) → IsOfSession s session a → a.undo.rolling ≡ Some Whole
  rolls a mem =
      let number = one_txn s.sessions b a of.0.1 mem.0.1 (of.1 ∙ sym mem.1) in
      subst (λ (x : SessionTxn). x.undo.rolling ≡ Some Whole) (one_member k b a of.0.0 mem.0.0 number) whole

  takes_no_way : (a : SessionTxn) → a.undo.rolling ≡ Some Whole → TakesCall a.undo c → ⊥
  takes_no_way a its (inl none) = let clash : Some Whole ≡ None = sym its ∙ none in absurd cc
  takes_no_way a its (inr (inl abort)) = no_abort abort
  takes_no_way a its (inr (inr on)) = let clash : Some Whole ≡ Some (To on.0) = sym its ∙ on.1 in absurd cc

  inner_refused : (a : SessionTxn) → a.undo.rolling ≡ Some Whole → InnerStep g s a c step new → IsRefused
  inner_refused a its (inl h) = (inl h.2, h.3)
  inner_refused a its (inr (inl h)) = let clash : Some Whole ≡ None = sym its ∙ h.0 in absurd cc
  inner_refused a its (inr (inr (inl h))) = absurd (takes_no_way a its h.2)
  inner_refused a its (inr (inr (inr h))) = absurd (no_abort h.0)

  pub only_aborts : s.failed ≡ false → DoesNotWait s session → CallStep g s session c step new → IsRefused
  only_aborts running idle (inl h) = (inr h.0, h.1)
  only_aborts running idle (inr (inl h)) = let failed = h.0 in absurd cc
  only_aborts running idle (inr (inr (inl h))) = absurd (h.1 idle)
  only_aborts running idle (inr (inr (inr (inl h)))) = absurd (subst NeedsTxn h.2 needs)
  only_aborts running idle (inr (inr (inr (inr (inl h))))) = absurd (in_one s session b of h.3)
  only_aborts running idle (inr (inr (inr (inr (inr (inr (inl h))))))) = absurd (not_prepared s session b of h.3)
  only_aborts running idle (inr (inr (inr (inr (inr (inr (inr h))))))) = absurd (not_outside s session c step new needs h.2)
  only_aborts running idle (inr (inr (inr (inr (inr (inl h)))))) = inner_refused h.2.0 (rolls h.2.0 h.2.1) h.2.2

-- a victim is still its session's
victim_still_seated : (o : Opening) (found : List LogRecord) (es : List Entry) (s mid : State) (t : ℕ) (v : Victim) (b : SessionTxn) → IsStateAfter o found es s → TakesVictim s t v mid
    → IsAmong b mid.sessions.active → b.txn ≡ v.txn → HasSeat mid.sessions b
victim_still_seated o found es s mid t v b k h there same =
    let a = h.txn in
    let seat = victim_seat o found es s k t v mid h in
    let was = among_with a.txn (undo_rolled a.undo a.undo.images Whole) b s.sessions.active (subst (λ (x : State). IsAmong b x.sessions.active) h.is there) in
    let is = one_member k.sessions was.was a was.there h.active (sym was.txn ∙ same ∙ sym h.number) in (
      there,
      subst (λ (x : State). x.sessions.seats b.session ≡ in_txn b.txn) (sym h.is) (ap s.sessions.seats (was.session ∙ ap (λ (x : SessionTxn). x.session) is) ∙ seat.1 ∙ ap in_txn (h.number ∙ sym same)),
      subst (λ t. 0 < t) (h.number ∙ sym same) seat.2,
    )

-- .. so it is once a victim's session is told
pub told_only_aborts : (g : Geometry) (o : Opening) (found : List LogRecord) (es : List Entry) (s mid told new : State) (t session : ℕ) (v : Victim) (b : SessionTxn) (first step : Step) (c : Call)
    → IsStateAfter o found es s → TakesVictim s t v mid → IsAmong b mid.sessions.active → b.txn ≡ v.txn → b.session ≡ session → TellsVictim mid session first told
    → NeedsTxn c → c ≢ call.Abort → CallStep g told session c step new → ((step ≡ Refused fault.MustAbort) ⊎ (step ≡ Refused fault.Memory)) × (new ≡ told)
told_only_aborts g o found es s mid told new t session v b first step c k h there same of tells needs no_abort calls =
    let after = told_stays o found es mid (victim_stays o found es s k t v mid h) session first told tells in
    let still = subst (λ (x : State). IsOfSession x session b) (sym tells.is) (victim_still_seated o found es s mid t v b k h there same, of) in
    let running = ap (λ (x : State). x.failed) tells.is ∙ tells.running in
    let idle = subst (λ (x : State). DoesNotWait x session) (sym tells.is) (λ w m. (waits_on session w mid.waiting m).1) in
    only_aborts g o found (es ++ entries_of_resume mid session first) told new after.sessions session b still (victim_doomed s mid t v b h there same) c needs no_abort step running idle calls
