-- The calls that wait, once that of a session is to be told a cycle: its session and all others stay as they were.
use Rattle.std.proofs.Common.{◌≡◌, ◌≢◌, inl, inr, ⊎_elim, ℕ, List, [], ◌∷◌, cond, Some, map, refl, sym, ap, subst, ◌∙◌}
use Rattle.std.specs.Prelude.{◌==◌}
use Rattle.std.proofs.lemmas.Bool.{cases_Bool, eq-eqb, eqb-false, eqb-true, ne_eqb}
use Rattle.laws_lives.specs.Views.{IsAmong}
use Rattle.laws_calls.specs.States.{Waiting}
use Rattle.laws_calls.specs.Victims.{with_cycle}
use Rattle.laws_calls.proofs.SessionsWaiting.{ResolveOnce}

-- ---- lists

in_map : {A B : Type 0} (f : A → B) (x : A) (xs : List A) → IsAmong x xs → IsAmong (f x) (map f xs)
in_map f x [] h = absurd h
in_map f x (y ∷ xs) (inl same) = inl (ap f same)
in_map f x (y ∷ xs) (inr later) = inr (in_map f x xs later)

from_map : {A B : Type 0} (f : A → B) (y : B) (xs : List A) → IsAmong y (map f xs) → (x : A) × IsAmong x xs × (f x ≡ y)
from_map f y [] h = absurd h
from_map f y (x ∷ xs) (inl same) = (x, inl refl, same)
from_map f y (x ∷ xs) (inr later) = let rest = from_map f y xs later in (rest.0, inr rest.1, rest.2)

-- ---- calls

abbrev pub to_tell : List ℕ → Waiting → Waiting
to_tell cycle w = record { session = w.session; call = w.call; wait = w.wait; cycle = Some cycle }

module _ (session : ℕ) (cycle : List ℕ) where
  abbrev told : Waiting → Waiting
  told w = cond (w.session == session) (to_tell cycle w) w

  told_own : (w : Waiting) → w.session ≡ session → told w ≡ to_tell cycle w
  told_own w own = ap (λ b. cond b (to_tell cycle w) w) (eq-eqb w.session session own)

  told_other : (w : Waiting) → w.session ≢ session → told w ≡ w
  told_other w other = ap (λ b. cond b (to_tell cycle w) w) (ne_eqb w.session session other)

  same_session : (w : Waiting) → (told w).session ≡ w.session
  same_session w = ⊎_elim
      (λ own. ap (λ (v : Waiting). v.session) (told_own w (eqb-true w.session session own)))
      (λ other. ap (λ (v : Waiting). v.session) (told_other w (eqb-false w.session session other)))
      (cases_Bool (w.session == session))

  same_call : (w : Waiting) → (told w).call ≡ w.call
  same_call w = ⊎_elim
      (λ own. ap (λ (v : Waiting). v.call) (told_own w (eqb-true w.session session own)))
      (λ other. ap (λ (v : Waiting). v.call) (told_other w (eqb-false w.session session other)))
      (cases_Bool (w.session == session))

  -- the call of another session stays
  pub other_waits : (w : Waiting) (ws : List Waiting) → IsAmong w ws → w.session ≢ session → IsAmong w (with_cycle session cycle ws)
  other_waits w ws there other = subst (λ v. IsAmong v (with_cycle session cycle ws)) (told_other w other) (in_map told w ws there)

  -- .. and that of its own is to be told
  pub own_waits : (w : Waiting) (ws : List Waiting) → IsAmong w ws → w.session ≡ session → IsAmong (to_tell cycle w) (with_cycle session cycle ws)
  own_waits w ws there own = subst (λ v. IsAmong v (with_cycle session cycle ws)) (told_own w own) (in_map told w ws there)

  -- a call that waits then: it waited, and is to be told the cycle if it is the session's
  pub record WasWaiting (ws : List Waiting) (w : Waiting) : Type 0 where
    pub was : Waiting
    pub there : IsAmong was ws
    pub is : told was ≡ w
    pub session_is : was.session ≡ w.session

  pub was_waiting : (w : Waiting) (ws : List Waiting) → IsAmong w (with_cycle session cycle ws) → WasWaiting ws w
  was_waiting w ws there =
      let was = from_map told w ws there in
      record { was = was.0; there = was.1; is = was.2; session_is = sym (same_session was.0) ∙ ap (λ (v : Waiting). v.session) was.2 }

  pub is_to_tell : (w v : Waiting) → told w ≡ v → w.session ≡ session → to_tell cycle w ≡ v
  is_to_tell w v is own = sym (told_own w own) ∙ is

  pub is_as_it_was : (w v : Waiting) → told w ≡ v → w.session ≢ session → w ≡ v
  is_as_it_was w v is other = sym (told_other w other) ∙ is

  -- a session waits with one call as before
  pub still_once : (ws : List Waiting) → ((v w : Waiting) → IsAmong v ws → IsAmong w ws → v.session ≡ w.session → v ≡ w)
      → (v w : Waiting) → IsAmong v (with_cycle session cycle ws) → IsAmong w (with_cycle session cycle ws) → v.session ≡ w.session → v ≡ w
  still_once ws once v w m n same =
      let x = was_waiting v ws m in
      let y = was_waiting w ws n in
      sym x.is ∙ ap told (once x.was y.was x.there y.there (x.session_is ∙ same ∙ sym y.session_is)) ∙ y.is

  -- .. and a transaction is resolved by one
  pub still_resolve_once : (ws : List Waiting) → ResolveOnce ws → ResolveOnce (with_cycle session cycle ws)
  still_resolve_once ws once v w global x y m n first second =
      let a = was_waiting v ws m in
      let b = was_waiting w ws n in
      sym a.is
      ∙ ap told (once a.was b.was global x y a.there b.there (sym (same_call a.was) ∙ ap (λ (z : Waiting). z.call) a.is ∙ first) (sym (same_call b.was) ∙ ap (λ (z : Waiting). z.call) b.is ∙ second))
      ∙ b.is
