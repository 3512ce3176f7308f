-- What a client was told stands in the trail, call by call.
use Rattle.std.proofs.Common.{◌≡◌, ◌⊎◌, ◌+◌, ◌==◌, ℕ, zero, suc, Bool, true, false, T, eqb→eq, if◌then◌else◌, List, [], ◌∷◌, ◌++◌, All, Contains, None, Option, Some, Result, Ok, Err, arith, refl, sym, ap, subst, ◌∙◌, inl, inr, ⊎_elim, subst₂}
use Rattle.shore_types.specs.declared.faults.Fault.{Fault}
use Rattle.shore_types.specs.declared.faults.Fault.TheVariants as fault
use Rattle.shore_model.specs.declared.calls.Answer.{Answer}
use Rattle.shore_model.specs.declared.calls.Call.{Call}
use Rattle.shore_model.specs.declared.calls.Exchange.{Exchange}
use Rattle.shore_model.specs.declared.step.Step.{Step}
use Rattle.shore_model.specs.declared.step.Step.TheVariants as made
use Rattle.shore_model.specs.declared.step.Wait.{Wait}
use Rattle.shore_model.specs.declared.step.Wait.TheVariants as wait
use Rattle.shore_words.specs.declared.rule.Heard.{Heard}
use Rattle.shore_words.specs.declared.rule.Noted.{Noted}
use Rattle.shore_words.specs.Words.{heard_of}
use Rattle.shore_shared.specs.Clients.{IsFromTrail}
use Rattle.shore_shared.specs.Heard.{AwaitsLock, AwaitsLog, Hears, IsAnswered, asked_behind}
use Rattle.shore_shared.specs.Told.{AreTold}

-- ---- what is in a list

abbrev pub In : Heard → List Heard → Type 0
In h [] = ⊥
In h (x ∷ xs) = (x ≡ h) ⊎ In h xs

pub in_left : (h : Heard) (xs ys : List Heard) → In h xs → In h (xs ++ ys)
in_left h (x ∷ xs) ys (inl same) = inl same
in_left h (x ∷ xs) ys (inr is) = inr (in_left h xs ys is)
in_left h [] ys is = absurd is

pub in_right : (h : Heard) (xs ys : List Heard) → In h ys → In h (xs ++ ys)
in_right h [] ys is = is
in_right h (x ∷ xs) ys is = inr (in_right h xs ys is)

further : {A : Type 0} (x y : A) (xs : List A) → Contains xs x → Contains (y ∷ xs) x
further x y xs (k, low, at) = (suc k, omega (arith, low), at)

noted_or : (session : ℕ) (n : Noted) (ns : List Noted) (h : Heard) (b : Bool) → (b ≡ true → n.session ≡ session) → (In h (heard_of session ns) → Contains ns (record { session = session; heard = h }))
    → In h (if b then n.heard ∷ heard_of session ns else heard_of session ns) → Contains (n ∷ ns) (record { session = session; heard = h })
noted_or session n ns h true is rest (inl same) = (zero, omega arith, (λ i. record { session = is refl i; heard = same i }))
noted_or session n ns h true is rest (inr later) = further (record { session = session; heard = h }) n ns (rest later)
noted_or session n ns h false is rest later = further (record { session = session; heard = h }) n ns (rest later)

pub equal : (m n : ℕ) → (m == n) ≡ true → m ≡ n
equal m n is = eqb→eq m n (subst T (sym is) tt)

-- what a session heard stands in the trail
pub stands : (session : ℕ) (noted : List Noted) (h : Heard) → In h (heard_of session noted) → Contains noted (record { session = session; heard = h })
stands session [] h is = absurd is
stands session (n ∷ ns) h is = noted_or session n ns h (n.session == session) (equal n.session session) (stands session ns h) is

-- ---- what a call came to, where what it heard stands

module _ (Stands : Heard → Type 0) (failed : Bool) (c : Call) where
  abbrev Came : Step → Type 0
  Came step = Stands (record { asked = Some c; step = step }) ⊎ (Stands (record { asked = None; step = step }) × ((w : Wait) × Stands (record { asked = Some c; step = made.Waits w })))

  abbrev FromTrail : Result Answer Fault → Type 0
  FromTrail r = ((a : Answer) → r ≡ Ok a → Came (made.Done a)) × ((f : Fault) → r ≡ Err f → Came (made.Refused f) ⊎ (f ≡ fault.Memory) ⊎ ((f ≡ fault.Device) × (failed ≡ true)) ⊎ (f ≡ fault.NotQuiet))

  -- the call is to be made, or has waited
  abbrev Next : Option Call → Type 0
  Next next = (next ≡ Some c) ⊎ ((next ≡ None) × ((w : Wait) × Stands (record { asked = Some c; step = made.Waits w })))

  by_next : (next : Option Call) (step : Step) → Next next → Stands (record { asked = next; step = step }) → Came step
  by_next next step (inl made_now) is = inl (subst (λ n. Stands (record { asked = n; step = step })) made_now is)
  by_next next step (inr (goes_on, waited)) is = inr (subst (λ n. Stands (record { asked = n; step = step })) goes_on is, waited)

  abbrev the_fault : Fault → Result Answer Fault → Fault
  the_fault other (Ok a) = other
  the_fault other (Err f) = f

  abbrev the_answer : Answer → Result Answer Fault → Answer
  the_answer other (Ok a) = a
  the_answer other (Err f) = other

  by_refusal : (r : Result Answer Fault) (g : Fault) → r ≡ Err g → (Came (made.Refused g) ⊎ (g ≡ fault.Memory) ⊎ ((g ≡ fault.Device) × (failed ≡ true)) ⊎ (g ≡ fault.NotQuiet)) → FromTrail r
  by_refusal r g is told =
      ((λ a e. absurd (cc (is, e))), (λ f e. subst (λ x. Came (made.Refused x) ⊎ (x ≡ fault.Memory) ⊎ ((x ≡ fault.Device) × (failed ≡ true)) ⊎ (x ≡ fault.NotQuiet)) (ap (the_fault g) (sym is ∙ e)) told))

  by_step : (step : Step) (r : Result Answer Fault) → IsAnswered step r → Came step → FromTrail r
  by_step (made.Done b) r is came = ((λ a e. subst (λ x. Came (made.Done x)) (ap (the_answer b) (sym is ∙ e)) came), (λ f e. absurd (cc (is, e))))
  by_step (made.Refused g) r is came = by_refusal r g is.0 (inl came)
  by_step (made.Waits w) r is came = absurd is
  by_step made.Nothing r is came = by_refusal r fault.NotQuiet is (inr (inr (inr refl)))

  -- what comes after a step that is not the last
  next_after : (next : Option Call) (step : Step) → Next next → Stands (record { asked = next; step = step }) → AwaitsLog step ⊎ AwaitsLock step → Next (asked_behind c step)
  next_after next step is stood (inl (number, inl waits)) =
      inr (ap (asked_behind c) waits, ⊎_elim (λ now. (wait.Durable number, subst₂ (λ n s. Stands (record { asked = n; step = s })) now waits stood)) (λ was. was.1) is)
  next_after next step is stood (inl (number, inr needs)) = inl (ap (asked_behind c) needs)
  next_after next step is stood (inr (granule, waits)) =
      inr (ap (asked_behind c) waits, ⊎_elim (λ now. (wait.Lock granule, subst₂ (λ n s. Stands (record { asked = n; step = s })) now waits stood)) (λ was. was.1) is)

  from_trail : (next : Option Call) (hs : List Heard) (r : Result Answer Fault) → Next next → ((h : Heard) → In h hs → Stands h) → Hears failed c next hs r → FromTrail r
  from_trail next [] r is stand (first, lacks) = by_refusal r fault.Memory lacks (inr (inl refl))
  from_trail next (h ∷ hs) r is stand (asked, inl (none, answered)) = by_step h.step r answered (by_next next h.step is (subst (λ n. Stands (record { asked = n; step = h.step })) asked (stand h (inl refl))))
  from_trail next (h ∷ hs) r is stand (asked, inr (inl (none, awaits, device, found))) = by_refusal r fault.Device device (inr (inr (inl (refl, found))))
  from_trail next (h ∷ hs) r is stand (asked, inr (inr (awaits, hears))) =
      from_trail (asked_behind c h.step) hs r (next_after next h.step is (subst (λ n. Stands (record { asked = n; step = h.step })) asked (stand h (inl refl))) awaits) (λ x at. stand x (inr at)) hears

-- each of a client's calls
pub all_from_trail : (noted : List Noted) (failed : Bool) (session : ℕ) (es : List Exchange) (heard : List Heard) → ((h : Heard) → In h heard → Contains noted (record { session = session; heard = h })) → AreTold failed es heard
    → All (IsFromTrail noted failed session) es
all_from_trail noted failed session [] heard stand told k d low = absurd (omega (arith, low))
all_from_trail noted failed session (e ∷ es) heard stand (first, rest, parts, hears, told) zero d low =
    from_trail (λ h. Contains noted (record { session = session; heard = h })) failed e.call (Some e.call) first e.reply (inl refl) (λ h at. stand h (subst (In h) (sym parts) (in_left h first rest at))) hears
all_from_trail noted failed session (e ∷ es) heard stand (first, rest, parts, hears, told) (suc k) d low =
    all_from_trail noted failed session es rest (λ h at. stand h (subst (In h) (sym parts) (in_right h first rest at))) told k d (omega (arith, low))
