-- Transactions that take their turns in order run one by one in that order.
use Rattle.std.proofs.Common.{◌≡◌, ◌++◌, ℕ, List, [], ◌∷◌, Bool, true, false, cond, Option, Some, None, refl, sym, ap, subst, ◌∙◌, append-nil, append_assoc, length, map, take}
use Rattle.std.specs.Prelude.{IfSome, filter, slice_get}
use Rattle.std.specs.List.{cons_option}
use Rattle.shore_model.specs.declared.histories.Decision.{Decision}
use Rattle.shore_model.specs.Alone.{Alone}
use Rattle.shore_model.specs.Histories.{History, RunsAloneAfter, Sound, calls_of, decisions, in_doubt, serial, shown, turn_of, writes_in}
use Rattle.shore_model.specs.Records.{Records, overlays}
use Rattle.shore_model.proofs.Beginnings.{slice_get_of_take, take_of_take}
use Rattle.laws_orders.proofs.Choices.{counts-append, laid, laid-push}
use Rattle.laws_orders.specs.InTurns.{IsInOrder, RunInTurns, RunOneByOne, RunsAloneInTurn, TakeTurnsInOrder, TakesTurnInOrder, counts, records_in_turns, shown_with, turns_behind}

at_length : {A : Type 0} (xs ys : List A) (y : A) → slice_get (xs ++ y ∷ ys) (length xs) ≡ Some y
at_length [] ys y = refl
at_length (x ∷ xs) ys y = at_length xs ys y

take-length : {A : Type 0} (xs ys : List A) → take (length xs) (xs ++ ys) ≡ xs
take-length [] ys = refl
take-length (x ∷ xs) ys = ap (λ zs. x ∷ zs) (take-length xs ys)

-- any first decisions
pub turns_in_first : (h : History) (ds : List Decision) (n : ℕ) → TakeTurnsInOrder h ds → TakeTurnsInOrder h (take n ds)
turns_in_first h ds n sound k d at =
    subst (λ before. TakesTurnInOrder h before d) (sym (take_of_take ds n k d at)) (sound k d (slice_get_of_take ds n k d at))

module _ (h : History) (chosen : ℕ → Bool) (ds : List Decision) (sound : TakeTurnsInOrder h ds) where
  turn_at : (before rest : List Decision) (d : Decision) → ds ≡ before ++ d ∷ rest → TakesTurnInOrder h before d
  turn_at before rest d all =
      subst (λ b. TakesTurnInOrder h b d) (ap (take (length before)) all ∙ take-length before (d ∷ rest))
      (sound (length before) d (ap (λ xs. slice_get xs (length before)) all ∙ at_length before rest d))

  -- from here on
  run_from : (before rest : List Decision) → ds ≡ before ++ rest
      → RunOneByOne h (records_in_turns h (counts chosen rest) before) (filter (counts chosen ds) (turns_behind h.opening.in_doubt before rest)) (records_in_turns h chosen ds)
  run_from before [] all = ap (records_in_turns h chosen) (all ∙ append-nil before)
  run_from before (d ∷ more) all =
      by (run_from (before ++ d ∷ []) more (all ∙ sym (append_assoc before (d ∷ []) more))) (turn_of h.opening.in_doubt before d) refl (turn_at before more d all)
    where
      next : List Decision
      next = before ++ d ∷ []

      counted : counts (counts chosen more) next ≡ counts chosen ds
      counted = sym (counts-append chosen next more) ∙ ap (counts chosen) (append_assoc before (d ∷ []) more ∙ sym all)

      chosen_here : counts (counts chosen more) (d ∷ []) ≡ counts chosen (d ∷ more)
      chosen_here = sym (counts-append chosen (d ∷ []) more)

      here : Records
      here = records_in_turns h (counts chosen (d ∷ more)) before

      there : (o : Option ℕ) → turn_of h.opening.in_doubt before d ≡ o
          → records_in_turns h (counts chosen more) next ≡ laid (writes_in h) (counts chosen ds) here (cons_option o [])
      there o is =
          laid-push (writes_in h) h.opening.in_doubt h.opening.records (counts chosen more) before d
          ∙ ap (λ p. laid (writes_in h) p (records_in_turns h (counts (counts chosen more) (d ∷ [])) before) (cons_option (turn_of h.opening.in_doubt before d) [])) counted
          ∙ ap (λ c. laid (writes_in h) (counts chosen ds) (records_in_turns h c before) (cons_option (turn_of h.opening.in_doubt before d) [])) chosen_here
          ∙ ap (λ x. laid (writes_in h) (counts chosen ds) here (cons_option x [])) is

      rest_of : List ℕ
      rest_of = filter (counts chosen ds) (turns_behind h.opening.in_doubt next more)

      by : RunOneByOne h (records_in_turns h (counts chosen more) next) rest_of (records_in_turns h chosen ds) → (o : Option ℕ) → turn_of h.opening.in_doubt before d ≡ o → IfSome o (RunsAloneInTurn h before)
          → RunOneByOne h here (filter (counts chosen ds) (cons_option o (turns_behind h.opening.in_doubt next more))) (records_in_turns h chosen ds)
      by rest None is turn = subst (λ R. RunOneByOne h R rest_of (records_in_turns h chosen ds)) (there None is) rest
      by rest (Some t) is turn =
          elim (counts chosen ds t) as (λ b. records_in_turns h (counts chosen more) next ≡ laid (writes_in h) (λ u. b) here (t ∷ [])
          → RunOneByOne h here (cond b (t ∷ rest_of) rest_of) (records_in_turns h chosen ds)) [
            | true ↦ λ e. (turn (counts chosen (d ∷ more)), subst (λ R. RunOneByOne h R rest_of (records_in_turns h chosen ds)) e rest)
            | false ↦ λ e. subst (λ R. RunOneByOne h R rest_of (records_in_turns h chosen ds)) e rest
          ] (there (Some t) is)

  pub run_in_turns : RunInTurns h chosen ds (records_in_turns h chosen ds)
  run_in_turns = opened (run_from [] ds refl)
    where
      opened : RunOneByOne h (records_in_turns h (counts chosen ds) []) (filter (counts chosen ds) (turns_behind h.opening.in_doubt [] ds)) (records_in_turns h chosen ds)
          → RunInTurns h chosen ds (records_in_turns h chosen ds)
      opened = subst (λ ts. RunOneByOne h (laid (writes_in h) (counts chosen ds) h.opening.records ts) (filter (counts chosen ds) (turns_behind h.opening.in_doubt [] ds)) (records_in_turns h chosen ds))
          (append-nil _)

-- ---- a history in order

all_chosen : (ts : List ℕ) → filter (λ t. true) ts ≡ ts
all_chosen [] = refl
all_chosen (t ∷ ts) = ap (λ us. t ∷ us) (all_chosen ts)

none_chosen : (ts : List ℕ) → filter (λ t. false) ts ≡ []
none_chosen [] = refl
none_chosen (t ∷ ts) = none_chosen ts

pub written : (h : History) (ps : List (ℕ × List ℕ)) → map (writes_in h) (map (λ p. p.0) ps) ≡ map (λ p. writes_in h p.0) ps
written h [] = refl
written h (p ∷ ps) = ap (λ Ws. writes_in h p.0 ∷ Ws) (written h ps)

with_none : (h : History) (ds : List Decision) → shown_with h (λ t. false) ds ≡ serial (writes_in h) h.opening.records ds
with_none h ds = ap (λ ts. overlays (serial (writes_in h) h.opening.records ds) (map (writes_in h) ts)) (none_chosen (map (λ p. p.0) (in_doubt h.opening.in_doubt ds)))

with_all : (h : History) (ds : List Decision) → shown_with h (λ t. true) ds ≡ shown h ds
with_all h ds =
    ap (λ ts. overlays (serial (writes_in h) h.opening.records ds) (map (writes_in h) ts)) (all_chosen (map (λ p. p.0) (in_doubt h.opening.in_doubt ds)))
    ∙ ap (overlays (serial (writes_in h) h.opening.records ds)) (written h (in_doubt h.opening.in_doubt ds))

pub all_run : (h : History) (n : ℕ) (chosen : ℕ → Bool) → IsInOrder h → RunInTurns h chosen (take n (decisions h.entries)) (shown_with h chosen (take n (decisions h.entries)))
all_run h n chosen k =
    subst (RunInTurns h chosen (take n (decisions h.entries))) (k.leaves n chosen)
    (run_in_turns h chosen (take n (decisions h.entries)) (turns_in_first h (decisions h.entries) n k.sound))

pub committed_run : (h : History) (n : ℕ) → IsInOrder h → RunInTurns h (λ t. false) (take n (decisions h.entries)) (serial (writes_in h) h.opening.records (take n (decisions h.entries)))
committed_run h n k = subst (RunInTurns h (λ t. false) (take n (decisions h.entries))) (with_none h (take n (decisions h.entries))) (all_run h n (λ t. false) k)

pub shown_run : (h : History) (n : ℕ) → IsInOrder h → RunInTurns h (λ t. true) (take n (decisions h.entries)) (shown h (take n (decisions h.entries)))
shown_run h n k = subst (RunInTurns h (λ t. true) (take n (decisions h.entries))) (with_all h (take n (decisions h.entries))) (all_run h n (λ t. true) k)

pub order_is_sound : (h : History) → IsInOrder h → Sound h
order_is_sound h k n d at = by (turn_of h.opening.in_doubt (take n (decisions h.entries)) d) (k.sound n d at)
  where
    before : List Decision
    before = take n (decisions h.entries)

    by : (o : Option ℕ) → IfSome o (RunsAloneInTurn h before) → IfSome o (RunsAloneAfter h before)
    by None turn = turn
    by (Some t) turn = subst (λ R. Alone h.opening.slots R (calls_of t h.entries) (writes_in h t)) (k.leaves n (λ t. false) ∙ with_none h before) (turn (λ t. false))
