-- What stands in the trail is a step of the manager.
use Rattle.std.proofs.Common.{◌≡◌, ◌⊎◌, ◌==◌, ◌++◌, ◌∙◌, Bool, true, false, if◌then◌else◌, inl, inr, refl, ℕ, zero, suc, List, [], ◌∷◌, Contains, None, Option, Some, arith, ap, sym}
use Rattle.std.proofs.lemmas.Option.{none-some}
use Rattle.shore_model.specs.declared.calls.Call.{Call}
use Rattle.shore_model.specs.declared.step.Step.{Step}
use Rattle.shore_model.specs.declared.step.Step.TheVariants as made
use Rattle.laws_calls.specs.Events.{Called, GaveUp, Resumed}
use Rattle.shore_world.specs.EventMoves.{OfManager, PlainMove}
use Rattle.shore_held.specs.Trails.{move_of, moves_of, noted_back, noted_in}
use Rattle.shore_held.specs.declared.asked.Asked.{Asked}
use Rattle.shore_held.specs.declared.asked.Asked.TheVariants as asked
use Rattle.shore_words.specs.declared.rule.Heard.{Heard}
use Rattle.shore_words.specs.declared.rule.Noted.{Noted}
use Rattle.shore_words.specs.Words.{heard_of}
use Rattle.shore_shared.specs.Clients.{StandsIn}
use Rattle.shore_shared.proofs.Quiet.{heard_back, heard_in}

further : {A : Type 0} (x y : A) (xs : List A) → Contains xs x → Contains (y ∷ xs) x
further x y xs (k, low, at) = (suc k, omega (arith, low), at)

-- a call does not stand where none was asked
not_first : (n session : ℕ) (c : Call) (x step : Step) (ns : List Noted) → StandsIn (record { session = n; heard = record { asked = None; step = x } } ∷ ns) session (Some c) step → StandsIn ns session (Some c) step
not_first n session c x step ns (zero, low, at) = absurd (none-some c (ap (λ m. m.heard.asked) at))
not_first n session c x step ns (suc k, low, at) = (k, omega (arith, low), at)

abbrev call_or : Call → Option Call → Call
call_or other None = other
call_or other (Some c) = c

-- nor where a wait was taken back
call_behind : (n session : ℕ) (c : Call) (step : Step) (ns : List Noted) (P : Type 0) → (StandsIn ns session (Some c) step → P) → (x : Step) → StandsIn (noted_back n x ++ ns) session (Some c) step → P
call_behind n session c step ns P goes made.Nothing at = goes at
call_behind n session c step ns P goes (made.Done a) at = goes (not_first n session c (made.Done a) step ns at)
call_behind n session c step ns P goes (made.Waits w) at = goes (not_first n session c (made.Waits w) step ns at)
call_behind n session c step ns P goes (made.Refused f) at = goes (not_first n session c (made.Refused f) step ns at)

pub call_is_made : (all : List (Asked × ℕ)) (stepped : List (Step × ℕ)) (session : ℕ) (c : Call) (step : Step) → StandsIn (noted_in all stepped) session (Some c) step → Contains (moves_of all stepped) (OfManager (Called session c step))
call_is_made [] stepped session c step (k, low, at) = absurd (omega (arith, low))
call_is_made (a ∷ others) [] session c step (k, low, at) = absurd (omega (arith, low))
call_is_made ((asked.Call d, n) ∷ others) (s ∷ steps) session c step (zero, low, at) = (zero, omega arith, ap (λ m. OfManager (Called m.session (call_or d m.heard.asked) m.heard.step)) at)
call_is_made ((asked.Call d, n) ∷ others) (s ∷ steps) session c step (suc k, low, at) =
    further (OfManager (Called session c step)) (OfManager (Called n d s.0)) (moves_of others steps) (call_is_made others steps session c step (k, omega (arith, low), at))
call_is_made ((asked.Resume, n) ∷ others) (s ∷ steps) session c step (zero, low, at) = absurd (none-some c (ap (λ m. m.heard.asked) at))
call_is_made ((asked.Resume, n) ∷ others) (s ∷ steps) session c step (suc k, low, at) =
    further (OfManager (Called session c step)) (OfManager (Resumed n s.0)) (moves_of others steps) (call_is_made others steps session c step (k, omega (arith, low), at))
call_is_made ((asked.GiveUp, n) ∷ others) (s ∷ steps) session c step is =
    further (OfManager (Called session c step)) (OfManager (GaveUp n s.0)) (moves_of others steps)
    (call_behind n session c step (noted_in others steps) (Contains (moves_of others steps) (OfManager (Called session c step))) (λ at. call_is_made others steps session c step at) s.0 is)
call_is_made ((asked.Told m, n) ∷ others) (s ∷ steps) session c step is = further (OfManager (Called session c step)) (move_of (asked.Told m) n s.0) (moves_of others steps) (call_is_made others steps session c step is)
call_is_made ((asked.Checkpoint, n) ∷ others) (s ∷ steps) session c step is = further (OfManager (Called session c step)) (move_of asked.Checkpoint n s.0) (moves_of others steps) (call_is_made others steps session c step is)
call_is_made ((asked.Failed, n) ∷ others) (s ∷ steps) session c step is = further (OfManager (Called session c step)) (move_of asked.Failed n s.0) (moves_of others steps) (call_is_made others steps session c step is)

-- it went on, or its wait was taken back
abbrev pub GoesOrGivesUp : List PlainMove → ℕ → Step → Type 0
GoesOrGivesUp moves session step = Contains moves (OfManager (Resumed session step)) ⊎ Contains moves (OfManager (GaveUp session step))

either_further : (moves : List PlainMove) (y : PlainMove) (session : ℕ) (step : Step) → GoesOrGivesUp moves session step → GoesOrGivesUp (y ∷ moves) session step
either_further moves y session step (inl at) = inl (further (OfManager (Resumed session step)) y moves at)
either_further moves y session step (inr at) = inr (further (OfManager (GaveUp session step)) y moves at)

given : (n session : ℕ) (step : Step) (ns : List Noted) (moves : List PlainMove) → (StandsIn ns session None step → GoesOrGivesUp moves session step) → (x : Step) → StandsIn (noted_back n x ++ ns) session None step
    → GoesOrGivesUp (OfManager (GaveUp n x) ∷ moves) session step
given n session step ns moves goes made.Nothing at = either_further moves (OfManager (GaveUp n made.Nothing)) session step (goes at)
given n session step ns moves goes (made.Done a) (zero, low, at) = inr (zero, omega arith, ap (λ m. OfManager (GaveUp m.session m.heard.step)) at)
given n session step ns moves goes (made.Done a) (suc k, low, at) = either_further moves (OfManager (GaveUp n (made.Done a))) session step (goes (k, omega (arith, low), at))
given n session step ns moves goes (made.Waits w) (zero, low, at) = inr (zero, omega arith, ap (λ m. OfManager (GaveUp m.session m.heard.step)) at)
given n session step ns moves goes (made.Waits w) (suc k, low, at) = either_further moves (OfManager (GaveUp n (made.Waits w))) session step (goes (k, omega (arith, low), at))
given n session step ns moves goes (made.Refused f) (zero, low, at) = inr (zero, omega arith, ap (λ m. OfManager (GaveUp m.session m.heard.step)) at)
given n session step ns moves goes (made.Refused f) (suc k, low, at) = either_further moves (OfManager (GaveUp n (made.Refused f))) session step (goes (k, omega (arith, low), at))

pub resume_is_made : (all : List (Asked × ℕ)) (stepped : List (Step × ℕ)) (session : ℕ) (step : Step) → StandsIn (noted_in all stepped) session None step → GoesOrGivesUp (moves_of all stepped) session step
resume_is_made [] stepped session step (k, low, at) = absurd (omega (arith, low))
resume_is_made (a ∷ others) [] session step (k, low, at) = absurd (omega (arith, low))
resume_is_made ((asked.Call d, n) ∷ others) (s ∷ steps) session step (zero, low, at) = absurd (none-some d (ap (λ m. m.heard.asked) (sym at)))
resume_is_made ((asked.Call d, n) ∷ others) (s ∷ steps) session step (suc k, low, at) =
    either_further (moves_of others steps) (OfManager (Called n d s.0)) session step (resume_is_made others steps session step (k, omega (arith, low), at))
resume_is_made ((asked.Resume, n) ∷ others) (s ∷ steps) session step (zero, low, at) = inl (zero, omega arith, ap (λ m. OfManager (Resumed m.session m.heard.step)) at)
resume_is_made ((asked.Resume, n) ∷ others) (s ∷ steps) session step (suc k, low, at) =
    either_further (moves_of others steps) (OfManager (Resumed n s.0)) session step (resume_is_made others steps session step (k, omega (arith, low), at))
resume_is_made ((asked.GiveUp, n) ∷ others) (s ∷ steps) session step is = given n session step (noted_in others steps) (moves_of others steps) (λ at. resume_is_made others steps session step at) s.0 is
resume_is_made ((asked.Told m, n) ∷ others) (s ∷ steps) session step is = either_further (moves_of others steps) (move_of (asked.Told m) n s.0) session step (resume_is_made others steps session step is)
resume_is_made ((asked.Checkpoint, n) ∷ others) (s ∷ steps) session step is = either_further (moves_of others steps) (move_of asked.Checkpoint n s.0) session step (resume_is_made others steps session step is)
resume_is_made ((asked.Failed, n) ∷ others) (s ∷ steps) session step is = either_further (moves_of others steps) (move_of asked.Failed n s.0) session step (resume_is_made others steps session step is)

either_same : {A : Type 0} (b : Bool) (x : A) → x ≡ (if b then x else x)
either_same true x = refl
either_same false x = refl

back_so : (n session : ℕ) (step : Step) (ns : List Noted) (hs : List Heard) → heard_of n ns ≡ hs → heard_of n (noted_back session step ++ ns) ≡ (if session == n then heard_back step hs else hs)
back_so n session made.Nothing ns hs is = is ∙ either_same (session == n) hs
back_so n session (made.Done a) ns hs is = ap (λ (xs : List Heard). if session == n then record { asked = None; step = made.Done a } ∷ xs else xs) is
back_so n session (made.Waits w) ns hs is = ap (λ (xs : List Heard). if session == n then record { asked = None; step = made.Waits w } ∷ xs else xs) is
back_so n session (made.Refused f) ns hs is = ap (λ (xs : List Heard). if session == n then record { asked = None; step = made.Refused f } ∷ xs else xs) is

-- what a session hears of the trail is what it hears of its moves
pub heard_so : (n : ℕ) (all : List (Asked × ℕ)) (stepped : List (Step × ℕ)) → heard_of n (noted_in all stepped) ≡ heard_in n (moves_of all stepped)
heard_so n [] stepped = refl
heard_so n (a ∷ others) [] = refl
heard_so n ((asked.Call c, session) ∷ others) (s ∷ steps) = ap (λ (hs : List Heard). if session == n then record { asked = Some c; step = s.0 } ∷ hs else hs) (heard_so n others steps)
heard_so n ((asked.Resume, session) ∷ others) (s ∷ steps) = ap (λ (hs : List Heard). if session == n then record { asked = None; step = s.0 } ∷ hs else hs) (heard_so n others steps)
heard_so n ((asked.GiveUp, session) ∷ others) (s ∷ steps) = back_so n session s.0 (noted_in others steps) (heard_in n (moves_of others steps)) (heard_so n others steps)
heard_so n ((asked.Told m, session) ∷ others) (s ∷ steps) = heard_so n others steps
heard_so n ((asked.Checkpoint, session) ∷ others) (s ∷ steps) = heard_so n others steps
heard_so n ((asked.Failed, session) ∷ others) (s ∷ steps) = heard_so n others steps
