use Rattle.std.proofs.Common.{◌≡◌, ◌⊎◌, ℕ, zero, suc, false, true, [], ◌∷◌, Contains, arith, refl, inl, inr, ap, sym, ◌∙◌}
use Rattle.std.proofs.lemmas.Option.{none-some, same_Some}
use Rattle.shore_types.specs.declared.faults.Fault.TheVariants as fault
use Rattle.shore_model.specs.declared.calls.Answer.{Answer}
use Rattle.shore_model.specs.declared.calls.Call.{Call}
use Rattle.shore_model.specs.declared.step.Step.{Step}
use Rattle.shore_model.specs.declared.step.Step.TheVariants as made
use Rattle.shore_words.specs.declared.rule.Heard.{Heard}
use Rattle.shore_words.specs.declared.rule.Noted.{Noted}
use Rattle.shore_shared.specs.Clients.{CameTo}
use Rattle.shore_shared.specs.WorkedLife.{asks, by, goes_on}
use Rattle.shore_shared.proofs.worked.lives_in_no_trail.Goals as goal

nobody : (n : Noted) → Contains [] n → ⊥
nobody n (k, low, at) = absurd (omega (arith, low))

one : (m n : Noted) → Contains (m ∷ []) n → m ≡ n
one m n (zero, low, at) = at
one m n (suc k, low, at) = absurd (omega (arith, low))

nowhere : (c : Call) (step : Step) → CameTo [] 1 c step → ⊥
nowhere c step (inl is) = nobody _ is
nowhere c step (inr is) = nobody _ is.0

-- what the only note says
noted_so : (session : ℕ) (h : Heard) (c : Call) (step : Step) → CameTo (by session h ∷ []) 1 c step → (session ≡ 1) × (h ≡ asks c step)
noted_so session h c step (inl is) = let same = one (by session h) (by 1 (asks c step)) is in (ap (λ n. n.session) same, ap (λ n. n.heard) same)
noted_so session h c step (inr (is, (wait, was))) =
    let last = one (by session h) (by 1 (goes_on step)) is in let first = one (by session h) (by 1 (asks c (made.Waits wait))) was in absurd (none-some c (sym (ap (λ n. n.heard.asked) last) ∙ ap (λ n. n.heard.asked) first))

abbrev the_answer : Answer → Step → Answer
the_answer other (made.Done a) = a
the_answer other (made.Waits w) = other
the_answer other (made.Refused f) = other
the_answer other made.Nothing = other

pub returns-clause-nowhere : goal.returns-clause-nowhere
returns-clause-nowhere g _ c a is = nowhere c (made.Done a) (is.0 a refl)

pub returns-clause-session : goal.returns-clause-session
returns-clause-session g _ c a is = absurd (omega (arith, (noted_so 2 (asks c (made.Done a)) c (made.Done a) (is.0 a refl)).0))

pub returns-clause-call : goal.returns-clause-call
returns-clause-call g _ c d a apart is = apart (same_Some d c (ap (λ h. h.asked) (noted_so 1 (asks d (made.Done a)) c (made.Done a) (is.0 a refl)).1))

pub returns-clause-other : goal.returns-clause-other
returns-clause-other g _ c a b apart is = apart (ap (λ h. the_answer a h.step) (noted_so 1 (asks c (made.Done b)) c (made.Done a) (is.0 a refl)).1)

pub returns-clause-unasked : goal.returns-clause-unasked
returns-clause-unasked g _ c a is = none-some c (ap (λ h. h.asked) (noted_so 1 (goes_on (made.Done a)) c (made.Done a) (is.0 a refl)).1)

refused_so : (c : Call) → CameTo [] 1 c (made.Refused fault.NoTransaction) ⊎ (fault.NoTransaction ≡ fault.Memory) ⊎ ((fault.NoTransaction ≡ fault.Device) × (true ≡ true)) ⊎ (fault.NoTransaction ≡ fault.NotQuiet) → ⊥
refused_so c (inl is) = nowhere c (made.Refused fault.NoTransaction) is
refused_so c (inr (inl is)) = absurd (cc is)
refused_so c (inr (inr (inl is))) = absurd (cc is.0)
refused_so c (inr (inr (inr is))) = absurd (cc is)

pub returns-clause-refused : goal.returns-clause-refused
returns-clause-refused g _ c is = refused_so c (is.1 fault.NoTransaction refl)

unfailed_so : (c : Call) → CameTo [] 1 c (made.Refused fault.Device) ⊎ (fault.Device ≡ fault.Memory) ⊎ ((fault.Device ≡ fault.Device) × (false ≡ true)) ⊎ (fault.Device ≡ fault.NotQuiet) → ⊥
unfailed_so c (inl is) = nowhere c (made.Refused fault.Device) is
unfailed_so c (inr (inl is)) = absurd (cc is)
unfailed_so c (inr (inr (inl is))) = absurd (cc is.1)
unfailed_so c (inr (inr (inr is))) = absurd (cc is)

pub returns-clause-unfailed : goal.returns-clause-unfailed
returns-clause-unfailed g _ c is = unfailed_so c (is.1 fault.Device refl)

pub returns-clause-claim : goal.returns-clause-claim
returns-clause-claim g _ noted told life = let it = life.claims 0 0 refl in absurd (omega (arith, it.7.0, it.8))
