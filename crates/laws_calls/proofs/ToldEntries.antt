-- What a call adds to the history that is no resolve is told by its step alone: what its records have decided, and its reply.
use Rattle.std.proofs.Common.{◌≡◌, ◌≤◌, ◌++◌, ◌∷◌, ℕ, zero, suc, List, [], cond, Bool, true, false, refl, sym, ap, ◌∙◌, arith, length, map, Err}
use Rattle.std.specs.Prelude.{◌==◌, drop}
use Rattle.std.specs.List.{filter_map}
use Rattle.std.proofs.lemmas.List.Elements.{filter_map-append}
use Rattle.shore_types.specs.declared.faults.Fault.{Fault}
use Rattle.shore_model.specs.declared.calls.Call.{Call}
use Rattle.shore_model.specs.declared.calls.Call.TheVariants as call
use Rattle.shore_model.specs.declared.histories.Entry.{Entry}
use Rattle.shore_model.specs.declared.histories.Entry.TheVariants.{Decided, Exchanged}
use Rattle.shore_model.specs.declared.histories.Opening.{Opening}
use Rattle.shore_model.specs.declared.log_records.LogRecord.{LogRecord}
use Rattle.shore_model.specs.declared.sessions.SessionState.{SessionState}
use Rattle.shore_model.specs.declared.step.Step.{Step}
use Rattle.shore_model.specs.declared.step.Step.TheVariants.{Done, Nothing, Refused, Waits}
use Rattle.shore_model.specs.declared.step.Wait.TheVariants.{Durable, Lock}
use Rattle.shore_model.specs.Histories.{decision_of, decisions, free, session_state}
use Rattle.laws_lives.proofs.Entries.{session_state-push}
use Rattle.laws_lives.specs.LogPrefixes.{decision_in, decisions_in}
use Rattle.laws_lives.specs.SessionSteps.{exchange}
use Rattle.laws_calls.proofs.Told.{entries_decided, entries_told}
use Rattle.laws_calls.specs.CallHistories.{IsPrefix, txn_of}
use Rattle.laws_calls.specs.LockedStates.{IsSessionsState, decisions_made, entries_of_call}
use Rattle.laws_calls.specs.States.{State}

-- ---- lists

drop_front : {A : Type 0} (n : ℕ) (xs ys : List A) → n ≤ length xs → drop n (xs ++ ys) ≡ drop n xs ++ ys
drop_front zero xs ys le = refl
drop_front (suc n) [] ys le = absurd (omega arith)
drop_front (suc n) (x ∷ xs) ys le = drop_front n xs ys (omega arith)

drop_whole : {A : Type 0} (xs ys : List A) → drop (length xs) (xs ++ ys) ≡ ys
drop_whole [] ys = refl
drop_whole (x ∷ xs) ys = drop_whole xs ys

same_rest : {A : Type 0} (xs ys zs : List A) → xs ++ ys ≡ xs ++ zs → ys ≡ zs
same_rest [] ys zs e = e
same_rest {A} (x ∷ xs) ys zs e = same_rest xs ys zs (tail e)
  where
    tail : x ∷ (xs ++ ys) ≡ x ∷ (xs ++ zs) → xs ++ ys ≡ xs ++ zs
    tail e = cc

decisions_behind : (base : ℕ) (log more : List LogRecord) → base ≤ length log → decisions_in base (log ++ more) ≡ decisions_in base log ++ decisions_in (length log) (log ++ more)
decisions_behind base log more le =
    ap (filter_map decision_in) (drop_front base log more le)
    ∙ filter_map-append decision_in (drop base log) more
    ∙ ap (λ rs. decisions_in base log ++ filter_map decision_in rs) (sym (drop_whole log more))

-- ---- what is made

module _ (o : Opening) (found : List LogRecord) (es made : List Entry) (s new : State) (k : IsSessionsState o found es s) (later : IsSessionsState o found (es ++ made) new) (on : IsPrefix s.log new.log) where
  -- the entries have the decisions of the records that were appended
  pub made_is : decisions made ≡ decisions_in (length s.log) new.log
  made_is =
      same_rest (decisions es) (decisions made) (decisions_in (length s.log) new.log)
      (sym (filter_map-append decision_of es made)
      ∙ later.decides.all
      ∙ ap (decisions_in (length found)) on.1
      ∙ decisions_behind (length found) s.log on.0 k.decides.long
      ∙ ap (λ ds. ds ++ decisions_in (length s.log) (s.log ++ on.0)) (sym k.decides.all)
      ∙ ap (λ l. decisions es ++ decisions_in (length s.log) l) (sym on.1))

  pub decided_made : map Decided (decisions made) ≡ decisions_made s new
  decided_made = ap (map Decided) made_is

-- a refusal leaves its session where it was
pub refusal_seat : (o : Opening) (found : List LogRecord) (es : List Entry) (s new : State) (session t : ℕ) (c : Call) (f : Fault) → IsSessionsState o found es s
    → IsSessionsState o found (es ++ Exchanged session t (exchange c (Err f)) ∷ []) new → txn_of new.sessions session ≡ txn_of s.sessions session
refusal_seat o found es s new session t c f k later =
    ap (λ (p : SessionState). p.txn)
    (sym (later.agree.seats session)
    ∙ session_state-push session free es (Exchanged session t (exchange c (Err f)))
    ∙ same (session == session) (session_state session free es)
    ∙ k.agree.seats session)
  where
    same : (b : Bool) (p : SessionState) → cond b p p ≡ p
    same true p = refl
    same false p = refl

only_decided : (s : State) (session : ℕ) (c : Call) → map Decided (decisions (entries_decided s session c)) ≡ entries_decided s session c
only_decided s session (call.Prepare global) = refl
only_decided s session _ = refl

pub told_of_call : (o : Opening) (found : List LogRecord) (es : List Entry) (s new : State) (session : ℕ) (c : Call) (step : Step) → IsSessionsState o found es s
    → IsSessionsState o found (es ++ entries_told s session c step) new → IsPrefix s.log new.log → entries_told s session c step ≡ entries_of_call s session c step new
told_of_call o found es s new session c (Done answer) k later on = refl
told_of_call o found es s new session c Nothing k later on = refl
told_of_call o found es s new session c (Waits (Lock at)) k later on = refl
told_of_call o found es s new session c (Waits (Durable n)) k later on =
    sym (only_decided s session c) ∙ decided_made o found es (entries_decided s session c) s new k later on
told_of_call o found es s new session c (Refused f) k later on =
    let told = Exchanged session (txn_of s.sessions session) (exchange c (Err f)) ∷ [] in
    ap (λ t. Exchanged session t (exchange c (Err f)) ∷ []) (sym (refusal_seat o found es s new session (txn_of s.sessions session) c f k later))
    ∙ ap (λ ds. ds ++ Exchanged session (txn_of new.sessions session) (exchange c (Err f)) ∷ []) (decided_made o found es told s new k later on)
