-- Turns and what counts, with one decision more.
use Rattle.std.proofs.Common.{◌≡◌, ◌++◌, ℕ, List, [], ◌∷◌, Bool, true, false, cond, Option, Some, None, refl, sym, ap, ◌∙◌, append-nil, append_assoc, map}
use Rattle.std.specs.Prelude.{◌==◌, filter}
use Rattle.std.specs.List.{cons_option}
use Rattle.std.proofs.lemmas.List.Elements.{filter-append}
use Rattle.shore_model.specs.declared.histories.Decision.{Decision}
use Rattle.shore_model.specs.declared.histories.Decision.TheVariants.{Commit, Prepare, RollBack}
use Rattle.shore_model.specs.declared.histories.InDoubt.{InDoubt}
use Rattle.shore_model.specs.Histories.{turn_of}
use Rattle.shore_model.specs.Records.{Records, WriteSet, overlays}
use Rattle.shore_model.proofs.Overlays.{overlays-append}
use Rattle.laws_orders.specs.InTurns.{counts, turns, turns_before, turns_behind}

-- ---- what counts

counts_at : (chosen : ℕ → Bool) (ds more : List Decision) (t : ℕ) → counts chosen (ds ++ more) t ≡ counts (counts chosen more) ds t
counts_at chosen [] more t = refl
counts_at chosen (Commit u ∷ ds) more t = ap (λ b. cond (u == t) true b) (counts_at chosen ds more t)
counts_at chosen (RollBack u ∷ ds) more t = ap (λ b. cond (u == t) false b) (counts_at chosen ds more t)
counts_at chosen (Prepare u global ∷ ds) more t = counts_at chosen ds more t

-- later decisions choose among those that earlier ones leave in doubt
pub counts-append : (chosen : ℕ → Bool) (ds more : List Decision) → counts chosen (ds ++ more) ≡ counts (counts chosen more) ds
counts-append chosen ds more = λ i t. counts_at chosen ds more t i

-- ---- turns

cons_option-append : {A : Type 0} (o : Option A) (xs ys : List A) → cons_option o (xs ++ ys) ≡ cons_option o xs ++ ys
cons_option-append None xs ys = refl
cons_option-append (Some x) xs ys = refl

turns_behind-push : (doubts : List InDoubt) (before ds : List Decision) (d : Decision)
    → turns_behind doubts before (ds ++ d ∷ []) ≡ turns_behind doubts before ds ++ cons_option (turn_of doubts (before ++ ds) d) []
turns_behind-push doubts before [] d = ap (λ b. cons_option (turn_of doubts b d) []) (sym (append-nil before))
turns_behind-push doubts before (e ∷ ds) d =
    ap (cons_option (turn_of doubts before e))
    (turns_behind-push doubts (before ++ e ∷ []) ds d
    ∙ ap (λ b. turns_behind doubts (before ++ e ∷ []) ds ++ cons_option (turn_of doubts b d) []) (append_assoc before (e ∷ []) ds))
    ∙ cons_option-append (turn_of doubts before e) (turns_behind doubts (before ++ e ∷ []) ds) (cons_option (turn_of doubts (before ++ e ∷ ds) d) [])

pub turns-push : (doubts : List InDoubt) (ds : List Decision) (d : Decision) → turns doubts (ds ++ d ∷ []) ≡ turns doubts ds ++ cons_option (turn_of doubts ds d) []
turns-push doubts ds d =
    ap (λ ts. turns_before doubts ++ ts) (turns_behind-push doubts [] ds d)
    ∙ sym (append_assoc (turns_before doubts) (turns_behind doubts [] ds) (cons_option (turn_of doubts ds d) []))

-- ---- records

map-append : {A B : Type 0} (f : A → B) (xs ys : List A) → map f (xs ++ ys) ≡ map f xs ++ map f ys
map-append f [] ys = refl
map-append f (x ∷ xs) ys = ap (λ zs. f x ∷ zs) (map-append f xs ys)

-- the records with the write sets of some of these laid over
abbrev pub laid : (ℕ → WriteSet) → (ℕ → Bool) → Records → List ℕ → Records
laid w p R ts = overlays R (map w (filter p ts))

pub laid-append : (w : ℕ → WriteSet) (p : ℕ → Bool) (R : Records) (xs ys : List ℕ) → laid w p R (xs ++ ys) ≡ laid w p (laid w p R xs) ys
laid-append w p R xs ys =
    ap (λ ts. overlays R (map w ts)) (filter-append p xs ys)
    ∙ ap (overlays R) (map-append w (filter p xs) (filter p ys))
    ∙ overlays-append R (map w (filter p xs)) (map w (filter p ys))

-- with one decision more: what was laid before it, under the choice that it makes, and its own transaction if it is a turn
pub laid-push : (w : ℕ → WriteSet) (doubts : List InDoubt) (R : Records) (chosen : ℕ → Bool) (ds : List Decision) (d : Decision)
    → laid w (counts chosen (ds ++ d ∷ [])) R (turns doubts (ds ++ d ∷ []))
    ≡ laid w (counts chosen (ds ++ d ∷ [])) (laid w (counts (counts chosen (d ∷ [])) ds) R (turns doubts ds)) (cons_option (turn_of doubts ds d) [])
laid-push w doubts R chosen ds d =
    let p = counts chosen (ds ++ d ∷ []) in
    let one = cons_option (turn_of doubts ds d) [] in
    ap (laid w p R) (turns-push doubts ds d) ∙ laid-append w p R (turns doubts ds) one
    ∙ ap (λ q. laid w p (laid w q R (turns doubts ds)) one) (counts-append chosen ds (d ∷ []))
