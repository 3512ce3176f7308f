-- Turns in a history with more entries: those that were taken stay, and a commit takes its own.
use Rattle.std.proofs.Common.{◌≡◌, ◌++◌, ⊎_elim, ℕ, List, [], ◌∷◌, Bool, true, false, cond, Some, None, sym, ap, subst, ◌∙◌}
use Rattle.std.specs.Prelude.{slice_get, take, IfSome}
use Rattle.shore_model.specs.declared.histories.Opening.{Opening}
use Rattle.shore_model.specs.declared.histories.Decision.{Decision}
use Rattle.shore_model.specs.declared.histories.Decision.TheVariants.{Commit, Prepare, RollBack}
use Rattle.shore_model.specs.declared.histories.Entry.{Entry}
use Rattle.shore_model.specs.declared.histories.Entry.TheVariants.{Decided}
use Rattle.shore_model.specs.Alone.{MayReplyAll, start}
use Rattle.shore_model.specs.declared.progress.Progress.{Progress}
use Rattle.shore_model.specs.Histories.{Sound, TakesTurn, RunsAloneAfter, calls_of, decisions, has_prepared, writes_given}
use Rattle.shore_model.proofs.Beginnings.{slice_get-push}
use Rattle.laws_lives.proofs.Entries.{decisions-decided}
use Rattle.laws_lives.proofs.Lists.{recursion-at, recursion-each, recursion-take}
use Rattle.laws_lives.proofs.Turns.{AreKept, KeepsTurn, kept_by_decided, own_writes, serial-kept}
use Rattle.laws_lives.specs.Soundness.{decided_txn, history_from, serial_after}

if_turn : (b : Bool) (t : ℕ) (P Q : ℕ → Type 0) → (P t → Q t) → IfSome (cond b None (Some t)) P → IfSome (cond b None (Some t)) Q
if_turn true t P Q f h = h
if_turn false t P Q f h = f h

if_none_or : (b : Bool) (t : ℕ) (P : ℕ → Type 0) → P t → IfSome (cond b None (Some t)) P
if_none_or true t P p = tt
if_none_or false t P p = p

module _ (o : Opening) (es more : List Entry) where
  -- a transaction that keeps its turn runs alone as it did, on the same serial records
  runs_kept : (before : List Decision) (t : ℕ) → AreKept o es more before → KeepsTurn o es more t → RunsAloneAfter (history_from o es) before t
      → RunsAloneAfter (history_from o more) before t
  runs_kept before t kept own runs = (
    subst (λ R. MayReplyAll o.slots R start (calls_of t more)) (sym (serial-kept o es more before kept)) (own.replies _ runs.0),
    ap (λ (p : Progress). p.writes) own.progress ∙ runs.1 ∙ sym own.writes,
  )

  pub turn_kept : (before : List Decision) (d : Decision) → AreKept o es more before → KeepsTurn o es more (decided_txn d)
      → TakesTurn (history_from o es) before d → TakesTurn (history_from o more) before d
  turn_kept before (Commit t) kept own =
      if_turn (has_prepared o.in_doubt before t) t (RunsAloneAfter (history_from o es) before) (RunsAloneAfter (history_from o more) before)
      (runs_kept before t kept own)
  turn_kept before (Prepare t g) kept own =
      if_turn (has_prepared o.in_doubt before t) t (RunsAloneAfter (history_from o es) before) (RunsAloneAfter (history_from o more) before)
      (runs_kept before t kept own)
  turn_kept before (RollBack t) kept own = λ h. h

  turn_stays : AreKept o es more (decisions es) → Sound (history_from o es) → (n : ℕ) (d : Decision) → slice_get (decisions es) n ≡ Some d
      → TakesTurn (history_from o more) (take n (decisions es)) d
  turn_stays kept sound n d at =
      turn_kept (take n (decisions es)) d (recursion-take (λ d. KeepsTurn o es more (decided_txn d)) n (decisions es) kept)
      (recursion-at (λ d. KeepsTurn o es more (decided_txn d)) (decisions es) n d kept at) (sound n d at)

  -- entries that decide nothing
  pub sound_stays : decisions more ≡ decisions es → AreKept o es more (decisions es) → Sound (history_from o es) → Sound (history_from o more)
  sound_stays same kept sound n d at =
      subst (λ ds. TakesTurn (history_from o more) (take n ds) d) (sym same)
      (turn_stays kept sound n d (sym (ap (λ ds. slice_get ds n) same) ∙ at))

-- a decision that takes its turn, if it has one
pub sound_decided : (o : Opening) (es : List Entry) (d : Decision) → Sound (history_from o es)
    → TakesTurn (history_from o (es ++ Decided d ∷ [])) (decisions es) d → Sound (history_from o (es ++ Decided d ∷ []))
sound_decided o es d sound turn n e at =
    let more = es ++ Decided d ∷ [] in
    let ds = decisions es in
    let kept : AreKept o es more ds = recursion-each (λ c. KeepsTurn o es more (decided_txn c)) (λ c. kept_by_decided o es (decided_txn c) d) ds in
    let same : decisions more ≡ ds ++ d ∷ [] = decisions-decided es d in
    subst (λ ds. TakesTurn (history_from o more) (take n ds) e) (sym same)
    (⊎_elim
    (λ old. subst (λ before. TakesTurn (history_from o more) before e) (sym old.1) (turn_stays o es more kept sound n e old.0))
    (λ new. subst (λ before. TakesTurn (history_from o more) before e) (sym new.1) (subst (TakesTurn (history_from o more) ds) new.0 turn))
    (slice_get-push ds d n e (sym (ap (λ ds. slice_get ds n) same) ∙ at)))

-- a transaction that was not found in doubt, and could have run alone just now, does so with one decision more
pub runs_alone_now : (o : Opening) (es : List Entry) (t : ℕ) (d : Decision) → writes_given o.in_doubt t ≡ None → MayReplyAll o.slots (serial_after o es) start (calls_of t es)
    → RunsAloneAfter (history_from o (es ++ Decided d ∷ [])) (decisions es) t
runs_alone_now o es t d own replies =
    let more = es ++ Decided d ∷ [] in
    let ds = decisions es in
    let kept : AreKept o es more ds = recursion-each (λ d. KeepsTurn o es more (decided_txn d)) (λ c. kept_by_decided o es (decided_txn c) d) ds in (
      subst (λ R. MayReplyAll o.slots R start (calls_of t more)) (sym (serial-kept o es more ds kept)) ((kept_by_decided o es t d).replies _ replies),
      own_writes (writes_given o.in_doubt t) (calls_of t more) own,
    )

-- a commit, if its transaction could have run alone just now
pub sound_commit : (o : Opening) (es : List Entry) (t : ℕ) → Sound (history_from o es) → writes_given o.in_doubt t ≡ None → MayReplyAll o.slots (serial_after o es) start (calls_of t es)
    → Sound (history_from o (es ++ Decided (Commit t) ∷ []))
sound_commit o es t sound own replies =
    sound_decided o es (Commit t) sound
    (if_none_or (has_prepared o.in_doubt (decisions es) t) t (RunsAloneAfter (history_from o (es ++ Decided (Commit t) ∷ [])) (decisions es)) (runs_alone_now o es t (Commit t) own replies))

-- a prepare likewise
pub sound_prepare : (o : Opening) (es : List Entry) (t : ℕ) (g : List ℕ) → Sound (history_from o es) → writes_given o.in_doubt t ≡ None → MayReplyAll o.slots (serial_after o es) start (calls_of t es)
    → Sound (history_from o (es ++ Decided (Prepare t g) ∷ []))
sound_prepare o es t g sound own replies =
    sound_decided o es (Prepare t g) sound
    (if_none_or (has_prepared o.in_doubt (decisions es) t) t (RunsAloneAfter (history_from o (es ++ Decided (Prepare t g) ∷ [])) (decisions es)) (runs_alone_now o es t (Prepare t g) own replies))

-- the commit of one that was prepared is no turn, nor is a rollback of one
pub sound_resolve : (o : Opening) (es : List Entry) (t : ℕ) → Sound (history_from o es) → has_prepared o.in_doubt (decisions es) t ≡ true
    → Sound (history_from o (es ++ Decided (Commit t) ∷ []))
sound_resolve o es t sound prepared =
    sound_decided o es (Commit t) sound
    (subst (λ b. IfSome (cond b None (Some t)) (RunsAloneAfter (history_from o (es ++ Decided (Commit t) ∷ [])) (decisions es))) (sym prepared) tt)

pub sound_rollback : (o : Opening) (es : List Entry) (t : ℕ) → Sound (history_from o es) → Sound (history_from o (es ++ Decided (RollBack t) ∷ []))
sound_rollback o es t sound = sound_decided o es (RollBack t) sound tt
