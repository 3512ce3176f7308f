-- The moves of a manager keep the order of turns: each of them is events of its sessions one after another.
use Rattle.std.proofs.Common.{◌≡◌, ◌++◌, ℕ, zero, suc, List, [], ◌∷◌, Bool, true, Some, refl, sym, ap, subst, ◌∙◌, append-nil, append_assoc, map, take}
use Rattle.std.specs.Prelude.{filter, slice_get}
use Rattle.shore_types.specs.declared.layout.Geometry.{Geometry}
use Rattle.shore_model.specs.declared.histories.Decision.{Decision}
use Rattle.shore_model.specs.declared.histories.Entry.{Entry}
use Rattle.shore_model.specs.declared.histories.InDoubt.{InDoubt}
use Rattle.shore_model.specs.declared.histories.Opening.{Opening}
use Rattle.shore_model.specs.declared.log_records.LogRecord.{LogRecord}
use Rattle.shore_model.specs.Logs.{Lawful}
use Rattle.shore_model.specs.Records.{overlays}
use Rattle.laws_lives.proofs.DoubtsShown.{doubts_once}
use Rattle.laws_lives.proofs.SessionsAgree.{event_agrees}
use Rattle.laws_lives.proofs.Steps.{event_stays_sound}
use Rattle.laws_lives.specs.Doubts.{IsOpeningOf, LoggedDoubt, doubts_in, pair_logged}
use Rattle.laws_lives.specs.SessionSteps.{SessionEvent, entries_by}
use Rattle.laws_lives.specs.Sessions.{EachOnce, Sessions}
use Rattle.laws_lives.specs.Soundness.{IsSoundAfter, RunsTo, SessionsAgree, history_from, written_by}
use Rattle.laws_calls.proofs.Links.{GoesBy}
use Rattle.laws_calls.proofs.SettledComings.{session_event_comes}
use Rattle.laws_calls.specs.Events.{EventMoves, IsStateAfter, ManagerEvent, entries_of}
use Rattle.laws_calls.specs.States.{State}
use Rattle.laws_runs.proofs.Checkpointing.{step_goes}
use Rattle.laws_runs.specs.CheckpointSteps.{CheckpointedMove, CheckpointedMoves, CheckpointedState, CheckpointedSteps, Checkpoints, Goes, entries_of_move}
use Rattle.laws_runs.specs.CheckpointedStates.{IsAtCheckpoints}
use Rattle.laws_runs.specs.StoredRuns.{Manage, Tend}
use Rattle.laws_orders.proofs.Steps.{event_in_order}
use Rattle.laws_orders.specs.InTurns.{IsInOrder, records_in_turns, shown_with, turns_before}

-- ---- nothing has happened yet

undecided : (doubts : List InDoubt) → map (λ (p : ℕ × List ℕ). p.0) (filter (λ p. true) (map (λ (d : InDoubt). (d.txn, d.global)) doubts)) ≡ turns_before doubts
undecided [] = refl
undecided (d ∷ doubts) = ap (λ ts. d.txn ∷ ts) (undecided doubts)

at_once : (o : Opening) (ds : List Decision) → ds ≡ [] → (n : ℕ) → take n ds ≡ []
at_once o ds none zero = refl
at_once o ds none (suc n) = ap (take (suc n)) none

-- no transaction of an opening is in doubt twice
once_found : (log : List LogRecord) (o : Opening) → Lawful log → IsOpeningOf log o → EachOnce (turns_before o.in_doubt)
once_found log o lawful opening = subst EachOnce (sym same) (doubts_once log lawful)
  where
    pairs : (ds : List InDoubt) → map (λ (p : ℕ × List ℕ). p.0) (map (λ (d : InDoubt). (d.txn, d.global)) ds) ≡ turns_before ds
    pairs [] = refl
    pairs (d ∷ ds) = ap (λ ts. d.txn ∷ ts) (pairs ds)

    logged : (ds : List LoggedDoubt) → map (λ (p : ℕ × List ℕ). p.0) (map pair_logged ds) ≡ map (λ (d : LoggedDoubt). d.txn) ds
    logged [] = refl
    logged (d ∷ ds) = ap (λ ts. d.txn ∷ ts) (logged ds)

    same : turns_before o.in_doubt ≡ map (λ (d : LoggedDoubt). d.txn) (doubts_in log)
    same = sym (pairs o.in_doubt) ∙ ap (map (λ (p : ℕ × List ℕ). p.0)) opening.in_doubt ∙ logged (doubts_in log)

pub starts_in_order : (o : Opening) → EachOnce (turns_before o.in_doubt) → IsInOrder (history_from o [])
starts_in_order o once = record {
  once = subst EachOnce (sym (append-nil (turns_before o.in_doubt))) once;
  sound = λ n d at. absurd (none_at n d at);
  leaves = λ n chosen. subst (λ ds. records_in_turns (history_from o []) chosen ds ≡ shown_with (history_from o []) chosen ds) (sym (at_once o [] refl n)) (first chosen);
}
  where
    none : List Decision
    none = []

    none_at : (n : ℕ) (d : Decision) → slice_get none n ≡ Some d → ⊥
    none_at n d at = cc

    first : (chosen : ℕ → Bool) → records_in_turns (history_from o []) chosen [] ≡ shown_with (history_from o []) chosen []
    first chosen =
        ap (λ ts. overlays o.records (map (written_by o []) (filter chosen ts)))
        (append-nil (turns_before o.in_doubt) ∙ sym (undecided o.in_doubt)
        ∙ ap (λ ps. map (λ (p : ℕ × List ℕ). p.0) (filter (λ p. true) ps)) (sym (append-nil (map (λ (d : InDoubt). (d.txn, d.global)) o.in_doubt))))

pub opens_in_order : (log : List LogRecord) (o : Opening) → Lawful log → IsOpeningOf log o → IsInOrder (history_from o [])
opens_in_order log o lawful opening = starts_in_order o (once_found log o lawful opening)

-- ---- events of sessions

pub run_in_order : (o : Opening) (es : List Entry) (s : Sessions) (events : List SessionEvent) (last : Sessions) (made : List Entry) → IsSoundAfter o es s → SessionsAgree o es s
    → RunsTo s events es last made → IsInOrder (history_from o es) → IsInOrder (history_from o made)
run_in_order o es s [] last made k agree moves ordered = subst (λ xs. IsInOrder (history_from o xs)) (sym moves.1) ordered
run_in_order o es s (e ∷ events) last made k agree moves ordered =
    run_in_order o (es ++ entries_by s e) moves.0 events last made (event_stays_sound o es s moves.0 e k agree moves.1) (event_agrees o es s moves.0 e k agree moves.1) moves.2
    (event_in_order o es s moves.0 e k agree moves.1 ordered)

goes_in_order : (g : Geometry) (o : Opening) (es : List Entry) (s : State) (events : List SessionEvent) (last : State) (made : List Entry) → IsSoundAfter o es s.sessions
    → SessionsAgree o es s.sessions → GoesBy g s events last made → IsInOrder (history_from o es) → IsInOrder (history_from o (es ++ made))
goes_in_order g o es s [] last made k agree h ordered =
    subst (λ xs. IsInOrder (history_from o xs)) (sym (append-nil es) ∙ ap (λ xs. es ++ xs) (sym h.1)) ordered
goes_in_order g o es s (e ∷ events) last made k agree h ordered =
    let moves = h.2.moves in
    subst (λ xs. IsInOrder (history_from o xs)) (append_assoc es (entries_by s.sessions e) h.1 ∙ ap (λ xs. es ++ xs) (sym h.4))
    (goes_in_order g o (es ++ entries_by s.sessions e) h.0 events last h.1 (event_stays_sound o es s.sessions h.0.sessions e k agree moves) (event_agrees o es s.sessions h.0.sessions e k agree moves) h.3
    (event_in_order o es s.sessions h.0.sessions e k agree moves ordered))

-- ---- events and moves of a manager

pub manager_event_in_order : (g : Geometry) (o : Opening) (found : List LogRecord) (es : List Entry) (s new : State) (e : ManagerEvent) → IsStateAfter o found es s → EventMoves g s e new
    → IsInOrder (history_from o es) → IsInOrder (history_from o (es ++ entries_of s e new))
manager_event_in_order g o found es s new e k moves ordered =
    let comes = session_event_comes g o found es s k new e moves in
    goes_in_order g o es comes.start comes.events comes.mid (entries_of s e new)
    (subst (IsSoundAfter o es) (sym comes.before.sessions) k.sessions.sound) (subst (SessionsAgree o es) (sym comes.before.sessions) k.sessions.agree) comes.goes ordered

pub moves_in_order : (g : Geometry) (ring_bytes : ℕ) (o : Opening) (found : List LogRecord) (es : List Entry) (m : CheckpointedState) → IsAtCheckpoints g ring_bytes o found es m
    → (events : List CheckpointedMove) (last : CheckpointedState) (made : List Entry) → CheckpointedMoves g m events last made → IsInOrder (history_from o es)
    → IsInOrder (history_from o (es ++ made))
moves_in_order g ring_bytes o found es m k [] last made h ordered =
    subst (λ xs. IsInOrder (history_from o xs)) (sym (append-nil es) ∙ ap (λ xs. es ++ xs) (sym h.1)) ordered
moves_in_order g ring_bytes o found es m k (e ∷ events) last made h ordered =
    subst (λ xs. IsInOrder (history_from o xs)) (append_assoc es (entries_of_move m e h.0) h.1 ∙ ap (λ xs. es ++ xs) (sym h.4))
    (moves_in_order g ring_bytes o found (es ++ entries_of_move m e h.0) h.0 (step_goes g ring_bytes o found es m k e h.0 h.2) events last h.1 h.3 (by e h.2))
  where
    by : (e : CheckpointedMove) → CheckpointedSteps g m e h.0 → IsInOrder (history_from o (es ++ entries_of_move m e h.0))
    by (Goes (Manage x works)) steps = manager_event_in_order g o found es m.state h.0.state x k.under_way.state steps.0.0 ordered
    by (Goes (Tend works)) steps = subst (λ xs. IsInOrder (history_from o xs)) (sym (append-nil es)) ordered
    by (Checkpoints step) steps = subst (λ xs. IsInOrder (history_from o xs)) (sym (append-nil es)) ordered
