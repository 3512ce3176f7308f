-- The order of turns in a history with more entries, or with one decision more.
use Rattle.std.proofs.Common.{◌≡◌, ◌≢◌, inl, inr, ⊎_elim, ◌++◌, ℕ, List, [], ◌∷◌, Bool, true, false, cond, Option, Some, None, refl, sym, ap, subst, ◌∙◌, append-nil, map, length, take}
use Rattle.std.specs.Prelude.{IfSome, filter}
use Rattle.std.specs.List.{AllByRecursion, cons_option}
use Rattle.shore_model.specs.declared.histories.Decision.{Decision}
use Rattle.shore_model.specs.declared.histories.Decision.TheVariants.{Commit, Prepare, RollBack}
use Rattle.shore_model.specs.declared.histories.Entry.{Entry}
use Rattle.shore_model.specs.declared.histories.InDoubt.{InDoubt}
use Rattle.shore_model.specs.declared.histories.Opening.{Opening}
use Rattle.shore_model.specs.declared.progress.Progress.{Progress}
use Rattle.shore_model.specs.Alone.{MayReplyAll, start}
use Rattle.shore_model.specs.Histories.{History, all_prepared, calls_of, decisions, has_prepared, in_doubt, is_undecided, serial, turn_of, writes_given}
use Rattle.shore_model.specs.Records.{WriteSet, overlays}
use Rattle.shore_model.proofs.Beginnings.{slice_get-push}
use Rattle.laws_lives.proofs.DoubtRecords.{among_filter}
use Rattle.laws_lives.proofs.Lists.{among_append, mapped_one, recursion-at, recursion-take, take-beyond, take-push, within_or_beyond}
use Rattle.laws_lives.proofs.LogPrefixes.{doubt_kept, given_one}
use Rattle.laws_lives.proofs.Turns.{AreKept, KeepsTurn, serial-kept}
use Rattle.laws_lives.specs.Sessions.{EachOnce}
use Rattle.laws_lives.specs.Soundness.{decided_txn, history_from, progress_from, written_by}
use Rattle.laws_lives.specs.Views.{IsAmong}
use Rattle.laws_orders.proofs.Choices.{turns-push}
use Rattle.laws_orders.specs.InTurns.{IsInOrder, RunsAloneInTurn, TakeTurnsInOrder, TakesTurnInOrder, counts, records_in_turns, shown_with, turns, turns_before, turns_behind}

-- IsInOrder, of first decisions of a history
pub record AreOrdered (h : History) (ds : List Decision) : Type 0 where
  pub sound : TakeTurnsInOrder h ds
  pub leaves : (n : ℕ) (chosen : ℕ → Bool) → records_in_turns h chosen (take n ds) ≡ shown_with h chosen (take n ds)

pub all_ordered : (h : History) → IsInOrder h → AreOrdered h (decisions h.entries)
all_ordered h k = record { sound = k.sound; leaves = k.leaves }

pub in_order : (h : History) → EachOnce (turns h.opening.in_doubt (decisions h.entries)) → AreOrdered h (decisions h.entries) → IsInOrder h
in_order h once k = record { once = once; sound = k.sound; leaves = k.leaves }

-- ---- one decision more

once_push : (t : ℕ) (ts : List ℕ) → EachOnce ts → (IsAmong t ts → ⊥) → EachOnce (ts ++ t ∷ [])
once_push t [] once new = (λ among. among, tt)
once_push t (u ∷ ts) once new = (
  (λ among. ⊎_elim (λ was. once.0 was) (λ last. ⊎_elim (λ same. new (inl (sym same))) (λ no. no) last) (among_append u ts (t ∷ []) among)),
  once_push t ts once.1 (λ later. new (inr later)),
)

-- a decision that is no turn
pub once_passes : (doubts : List InDoubt) (ds : List Decision) (d : Decision) → turn_of doubts ds d ≡ None → EachOnce (turns doubts ds) → EachOnce (turns doubts (ds ++ d ∷ []))
once_passes doubts ds d none once =
    subst EachOnce (sym (turns-push doubts ds d ∙ ap (λ x. turns doubts ds ++ cons_option x []) none ∙ append-nil (turns doubts ds))) once

pub ordered_push : (h : History) (ds : List Decision) (d : Decision) → AreOrdered h ds → TakesTurnInOrder h ds d
    → ((chosen : ℕ → Bool) → records_in_turns h chosen (ds ++ d ∷ []) ≡ shown_with h chosen (ds ++ d ∷ [])) → AreOrdered h (ds ++ d ∷ [])
ordered_push h ds d k turn leaves = record {
  sound = λ n e at. ⊎_elim
      (λ old. subst (λ before. TakesTurnInOrder h before e) (sym old.1) (k.sound n e old.0))
      (λ new. subst (λ before. TakesTurnInOrder h before e) (sym new.1) (subst (TakesTurnInOrder h ds) new.0 turn))
      (slice_get-push ds d n e at);
  leaves = λ n chosen. ⊎_elim
      (λ within. subst (λ xs. records_in_turns h chosen xs ≡ shown_with h chosen xs) (sym (take-push n ds d within)) (k.leaves n chosen))
      (λ beyond. subst (λ xs. records_in_turns h chosen xs ≡ shown_with h chosen xs) (sym (take-beyond n ds d beyond)) (leaves chosen))
      (within_or_beyond n (length ds));
}

-- ---- more entries

if_some : (x : Option ℕ) (P Q : ℕ → Type 0) → ((t : ℕ) → x ≡ Some t → P t → Q t) → IfSome x P → IfSome x Q
if_some None P Q f h = h
if_some (Some t) P Q f h = f t refl h

-- a turn is its transaction's own decision
turn_decides : (doubts : List InDoubt) (before : List Decision) (d : Decision) (t : ℕ) → turn_of doubts before d ≡ Some t → decided_txn d ≡ t
turn_decides doubts before (Commit u) t =
    elim (has_prepared doubts before u) as (λ b. cond b None (Some u) ≡ Some t → u ≡ t) [ true ↦ λ e. absurd cc | false ↦ λ e. cc ]
turn_decides doubts before (Prepare u g) t =
    elim (has_prepared doubts before u) as (λ b. cond b None (Some u) ≡ Some t → u ≡ t) [ true ↦ λ e. absurd cc | false ↦ λ e. cc ]
turn_decides doubts before (RollBack u) t = λ e. absurd cc

pub turned : (P : ℕ → Type 0) (doubts : List InDoubt) (before ds : List Decision) → AllByRecursion (λ d. P (decided_txn d)) ds → (t : ℕ) → IsAmong t (turns_behind doubts before ds) → P t
turned P doubts before [] h t = λ among. absurd among
turned P doubts before (d ∷ ds) h t =
    elim (turn_of doubts before d) as (λ x. turn_of doubts before d ≡ x → IsAmong t (cons_option x (turns_behind doubts (before ++ d ∷ []) ds)) → P t) [
      | None ↦ λ e later. turned P doubts (before ++ d ∷ []) ds h.1 t later
      | Some u ↦ λ e among. ⊎_elim (λ same. subst P (turn_decides doubts before d u e ∙ same) h.0) (λ later. turned P doubts (before ++ d ∷ []) ds h.1 t later) among
    ] refl

-- .. and one that is the turn of a transaction that was neither found in doubt nor decided
pub once_turned : (doubts : List InDoubt) (ds : List Decision) (d : Decision) (t : ℕ) → turn_of doubts ds d ≡ Some t → writes_given doubts t ≡ None → AllByRecursion (λ d. decided_txn d ≢ t) ds
    → EachOnce (turns doubts ds) → EachOnce (turns doubts (ds ++ d ∷ []))
once_turned doubts ds d t is own undecided once =
    subst EachOnce (sym (turns-push doubts ds d ∙ ap (λ x. turns doubts ds ++ cons_option x []) is))
    (once_push t (turns doubts ds) once
    (λ among. ⊎_elim (λ found. none_given (sym own ∙ (given_one doubts t found).3)) (λ later. turned (λ u. u ≢ t) doubts [] ds undecided t later refl)
    (among_append t (turns_before doubts) (turns_behind doubts [] ds) among)))
  where
    none_given : {W : WriteSet} → None ≡ Some W → ⊥
    none_given e = cc

pub map_same : (v w : ℕ → WriteSet) (ts : List ℕ) → ((t : ℕ) → IsAmong t ts → v t ≡ w t) → map v ts ≡ map w ts
map_same v w [] h = refl
map_same v w (t ∷ ts) h = ap (λ W. W ∷ map v ts) (h t (inl refl)) ∙ ap (λ Ws. w t ∷ Ws) (map_same v w ts (λ u later. h u (inr later)))

module _ (o : Opening) (es more : List Entry) where
  module _ (ds : List Decision) (kept : AreKept o es more ds) where
    turn_written : (t : ℕ) → IsAmong t (turns o.in_doubt ds) → written_by o more t ≡ written_by o es t
    turn_written t among = ⊎_elim
        (λ found. let one = given_one o.in_doubt t found in
        ap (λ g. (progress_from g (calls_of t more)).writes) one.3 ∙ sym (ap (λ g. (progress_from g (calls_of t es)).writes) one.3))
        (λ later. ap (λ (p : Progress). p.writes) (turned (KeepsTurn o es more) o.in_doubt [] ds kept t later).progress)
        (among_append t (turns_before o.in_doubt) (turns_behind o.in_doubt [] ds) among)

    pub turns_kept : (chosen : ℕ → Bool) → records_in_turns (history_from o more) chosen ds ≡ records_in_turns (history_from o es) chosen ds
    turns_kept chosen =
        ap (overlays o.records) (map_same (written_by o more) (written_by o es) (filter (counts chosen ds) (turns o.in_doubt ds))
        (λ t among. turn_written t (among_filter (counts chosen ds) t (turns o.in_doubt ds) among).0))

    doubt_written : (chosen : ℕ → Bool) (t : ℕ) → IsAmong t (filter chosen (map (λ p. p.0) (in_doubt o.in_doubt ds))) → written_by o more t ≡ written_by o es t
    doubt_written chosen t among =
        let p = mapped_one (λ (p : ℕ × List ℕ). p.0) t (in_doubt o.in_doubt ds) (among_filter chosen t (map (λ p. p.0) (in_doubt o.in_doubt ds)) among).0 in
        subst (λ t. written_by o more t ≡ written_by o es t) p.2
        (doubt_kept o es more ds kept p.0 (among_filter (λ p. is_undecided ds p.0) p.0 (all_prepared o.in_doubt ds) p.1).0)

    shown_kept : (chosen : ℕ → Bool) → shown_with (history_from o more) chosen ds ≡ shown_with (history_from o es) chosen ds
    shown_kept chosen =
        ap (λ R. overlays R (map (written_by o more) (filter chosen (map (λ p. p.0) (in_doubt o.in_doubt ds))))) (serial-kept o es more ds kept)
        ∙ ap (overlays (serial (written_by o es) o.records ds))
        (map_same (written_by o more) (written_by o es) (filter chosen (map (λ p. p.0) (in_doubt o.in_doubt ds))) (doubt_written chosen))

    turn_stays : (d : Decision) → KeepsTurn o es more (decided_txn d) → TakesTurnInOrder (history_from o es) ds d → TakesTurnInOrder (history_from o more) ds d
    turn_stays d own = if_some (turn_of o.in_doubt ds d) (RunsAloneInTurn (history_from o es) ds) (RunsAloneInTurn (history_from o more) ds)
        (λ t is alone chosen.
        let its : KeepsTurn o es more t = subst (KeepsTurn o es more) (turn_decides o.in_doubt ds d t is) own in (
          subst (λ R. MayReplyAll o.slots R start (calls_of t more)) (sym (turns_kept chosen)) (its.replies _ (alone chosen).0),
          ap (λ (p : Progress). p.writes) its.progress ∙ (alone chosen).1 ∙ sym its.writes,
        ))

  pub ordered_kept : (ds : List Decision) → AreKept o es more ds → AreOrdered (history_from o es) ds → AreOrdered (history_from o more) ds
  ordered_kept ds kept k = record {
    sound = λ n d at. turn_stays (take n ds) (first n) d (recursion-at (λ d. KeepsTurn o es more (decided_txn d)) ds n d kept at) (k.sound n d at);
    leaves = λ n chosen. turns_kept (take n ds) (first n) chosen ∙ k.leaves n chosen ∙ sym (shown_kept (take n ds) (first n) chosen);
  }
    where
      first : (n : ℕ) → AreKept o es more (take n ds)
      first n = recursion-take (λ d. KeepsTurn o es more (decided_txn d)) n ds kept

  -- entries that decide nothing
  pub order_stays : decisions more ≡ decisions es → AreKept o es more (decisions es) → IsInOrder (history_from o es) → IsInOrder (history_from o more)
  order_stays same kept k =
      in_order (history_from o more) (subst (λ ds. EachOnce (turns o.in_doubt ds)) (sym same) k.once)
      (subst (AreOrdered (history_from o more)) (sym same) (ordered_kept (decisions es) kept (all_ordered (history_from o es) k)))
