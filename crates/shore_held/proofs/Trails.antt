-- A trail grows by one.
use Rattle.std.proofs.Common.{◌≡◌, ◌≢◌, ◌⊎◌, inl, inr, ◌+◌, ◌∙◌, ◌||◌, ℕ, Bool, true, false, IsTrue, List, [], ◌∷◌, ◌++◌, length, arith, refl, sym, ap, append_assoc, append-nil, length-append, None}
use Rattle.shore_model.specs.declared.step.Step.{Step}
use Rattle.shore_model.specs.declared.step.Step.TheVariants as made
use Rattle.shore_held.specs.declared.asked.Asked.{Asked}
use Rattle.shore_held.specs.declared.asked.Asked.TheVariants as asks
use Rattle.shore_held.specs.Trails.{GoesOn, calls_in, counted, has_failure, is_failure, move_of, moves_of, noted_back, noted_in, noted_of}

pub moves_snoc : (asked : List (Asked × ℕ)) (steps : List (Step × ℕ)) (a : Asked × ℕ) (step : Step × ℕ) → length steps ≡ length asked
    → moves_of (asked ++ a ∷ []) (steps ++ step ∷ []) ≡ moves_of asked steps ++ move_of a.0 a.1 step.0 ∷ []
moves_snoc [] [] a step same = refl
moves_snoc [] (s ∷ steps) a step same = absurd (omega (arith, same))
moves_snoc (b ∷ asked) [] a step same = absurd (omega (arith, same))
moves_snoc (b ∷ asked) (s ∷ steps) a step same = ap (λ es. move_of b.0 b.1 s.0 ∷ es) (moves_snoc asked steps a step (omega (arith, same)))

pub noted_snoc : (asked : List (Asked × ℕ)) (steps : List (Step × ℕ)) (a : Asked × ℕ) (step : Step × ℕ) → length steps ≡ length asked
    → noted_in (asked ++ a ∷ []) (steps ++ step ∷ []) ≡ noted_in asked steps ++ noted_of a.0 a.1 step.0
noted_snoc [] [] a step same = append-nil (noted_of a.0 a.1 step.0)
noted_snoc [] (s ∷ steps) a step same = absurd (omega (arith, same))
noted_snoc (b ∷ asked) [] a step same = absurd (omega (arith, same))
noted_snoc (b ∷ asked) (s ∷ steps) a step same =
    ap (λ ns. noted_of b.0 b.1 s.0 ++ ns) (noted_snoc asked steps a step (omega (arith, same))) ∙ sym (append_assoc (noted_of b.0 b.1 s.0) (noted_in asked steps) (noted_of a.0 a.1 step.0))

-- a wait that was taken back is noted as what its call went on with; that there was none is not
pub noted_if_taken : (session : ℕ) (step : Step) → step ≢ made.Nothing → noted_back session step ≡ (record { session = session; heard = record { asked = None; step = step } } ∷ [])
noted_if_taken session made.Nothing not = absurd (not refl)
noted_if_taken session (made.Done a) not = refl
noted_if_taken session (made.Waits w) not = refl
noted_if_taken session (made.Refused f) not = refl

-- what is asked by no session is not noted
pub noted_still : (asked new_asked : List (Asked × ℕ)) (steps new_steps : List (Step × ℕ)) (a : Asked × ℕ) (step : Step × ℕ) → length steps ≡ length asked
    → new_asked ≡ asked ++ a ∷ [] → new_steps ≡ steps ++ step ∷ [] → noted_of a.0 a.1 step.0 ≡ [] → noted_in new_asked new_steps ≡ noted_in asked steps
noted_still asked new_asked steps new_steps a step same grown ran none =
    (λ i. noted_in (grown i) (ran i)) ∙ noted_snoc asked steps a step same ∙ ap (λ ns. noted_in asked steps ++ ns) none ∙ append-nil (noted_in asked steps)

pub calls_snoc : (asked : List (Asked × ℕ)) (a : Asked × ℕ) → calls_in (asked ++ a ∷ []) ≡ calls_in asked + counted a.0
calls_snoc [] a = omega arith
calls_snoc (b ∷ asked) a = omega (arith, calls_snoc asked a)

-- a failure that was told is in the longer trail, and in the shorter one unless it is the last
or_last : (b c : Bool) → b || (c || false) ≡ (b || c)
or_last true c = refl
or_last false true = refl
or_last false false = refl

or_both : (a b c : Bool) → a || (b || c) ≡ ((a || b) || c)
or_both true b c = refl
or_both false b c = refl

failure_snoc : (asked : List (Asked × ℕ)) (a : Asked × ℕ) → has_failure (asked ++ a ∷ []) ≡ (has_failure asked || is_failure a.0)
failure_snoc [] a = or_last false (is_failure a.0)
failure_snoc (b ∷ asked) a = ap (λ x. is_failure b.0 || x) (failure_snoc asked a) ∙ or_both (is_failure b.0) (has_failure asked) (is_failure a.0)

either_of : (b c : Bool) → c ≡ false → IsTrue (b || c) → IsTrue b
either_of true c none p = refl
either_of false c none p = sym none ∙ p

pub failure_before : (asked new_asked : List (Asked × ℕ)) (a : Asked × ℕ) → new_asked ≡ asked ++ a ∷ [] → is_failure a.0 ≡ false → IsTrue (has_failure new_asked) → IsTrue (has_failure asked)
failure_before asked new_asked a grown none p = either_of (has_failure asked) (is_failure a.0) none (sym (failure_snoc asked a) ∙ sym (ap has_failure grown) ∙ p)

or_more : (b c : Bool) → IsTrue b → IsTrue (b || c)
or_more true c p = refl
or_more false c p = absurd (cc p)

pub failure_stays : (asked new_asked : List (Asked × ℕ)) (a : Asked × ℕ) → new_asked ≡ asked ++ a ∷ [] → IsTrue (has_failure asked) → IsTrue (has_failure new_asked)
failure_stays asked new_asked a grown p = ap has_failure grown ∙ failure_snoc asked a ∙ or_more (has_failure asked) (is_failure a.0) p

or_other : (b c : Bool) → IsTrue c → IsTrue (b || c)
or_other true c p = refl
or_other false c p = p

pub failure_told : (asked new_asked : List (Asked × ℕ)) (a : Asked × ℕ) → new_asked ≡ asked ++ a ∷ [] → is_failure a.0 ≡ true → IsTrue (has_failure new_asked)
failure_told asked new_asked a grown is = ap has_failure grown ∙ failure_snoc asked a ∙ or_other (has_failure asked) (is_failure a.0) is

pub long_snoc : {A B : Type 0} (xs : List A) (ys : List B) (x : A) (y : B) → length ys ≡ length xs → length (ys ++ y ∷ []) ≡ length (xs ++ x ∷ [])
long_snoc xs ys x y same = omega (arith, length-append xs (x ∷ []), length-append ys (y ∷ []), same)

-- what was learned of the log, if it was more, and then these
pub goes_then : (old_asked from_asked mid_asked new_asked more : List (Asked × ℕ)) (old_steps from_steps mid_steps new_steps steps : List (Step × ℕ)) → from_asked ≡ old_asked → from_steps ≡ old_steps
    → ((mid_asked ≡ from_asked) × (mid_steps ≡ from_steps)) ⊎ ((n : ℕ) × (mid_asked ≡ from_asked ++ (asks.Told n, 0) ∷ []) × (mid_steps ≡ from_steps ++ (made.Nothing, 0) ∷ []))
    → new_asked ≡ mid_asked ++ more → new_steps ≡ mid_steps ++ steps → GoesOn (old_asked, old_steps) (new_asked, new_steps) more steps
goes_then old_asked from_asked mid_asked new_asked more old_steps from_steps mid_steps new_steps steps a0 s0 (inl same) a s =
    inl (λ i. ((a ∙ ap (λ l. l ++ more) (same.0 ∙ a0)) i, (s ∙ ap (λ l. l ++ steps) (same.1 ∙ s0)) i))
goes_then old_asked from_asked mid_asked new_asked more old_steps from_steps mid_steps new_steps steps a0 s0 (inr (n, told, nothing)) a s = inr (
  n,
  (λ i. (
    (a ∙ ap (λ l. l ++ more) (told ∙ ap (λ l. l ++ (asks.Told n, 0) ∷ []) a0) ∙ append_assoc old_asked ((asks.Told n, 0) ∷ []) more) i,
    (s ∙ ap (λ l. l ++ steps) (nothing ∙ ap (λ l. l ++ (made.Nothing, 0) ∷ []) s0) ∙ append_assoc old_steps ((made.Nothing, 0) ∷ []) steps) i,
  )),
)
