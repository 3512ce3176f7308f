-- What a session has heard while a call goes on, and what it is answered from that.
use Rattle.std.proofs.Common.{◌≡◌, ◌≢◌, ◌⊎◌, ℕ, Bool, true, inl, inr, List, [], ◌∷◌, ◌++◌, Option, None, Some, Result, Ok, Err, IfErr, arith, refl, sym, ap, subst, ◌∙◌, append-nil, append_assoc}
use Rattle.shore_types.specs.declared.faults.Fault.{Fault}
use Rattle.shore_types.specs.declared.faults.Fault.TheVariants as fault
use Rattle.shore_model.specs.declared.calls.Answer.{Answer}
use Rattle.shore_model.specs.declared.calls.Answer.TheVariants as answer
use Rattle.shore_model.specs.declared.calls.Call.{Call}
use Rattle.shore_model.specs.declared.calls.Call.TheVariants as call
use Rattle.shore_model.specs.declared.step.Step.{Step}
use Rattle.shore_model.specs.declared.step.Step.TheVariants as made
use Rattle.shore_model.specs.declared.step.Wait.{Wait}
use Rattle.shore_model.specs.declared.step.Wait.TheVariants as wait
use Rattle.shore_words.specs.declared.rule.Heard.{Heard}
use Rattle.shore_words.specs.declared.rule.View.{View}
use Rattle.shore_shared.specs.Heard.{AwaitsLock, AwaitsLog, EndsIn, HasGoneOn, HasLooked, Hears, HearsCommit, IsAnswered, IsOfCommit, IsRefusal, IsRefusalOfCommit, asked_behind}

-- a seat that is as it was has looked at least as far, and so has one that has looked twice
pub looked : (old new : View) → new ≡ old → HasLooked old new
looked old new same = (same ∙ (λ i. record old { seen = sym (ap (λ v. v.seen) same) i; failed = sym (ap (λ v. v.failed) same) i }), omega (arith, ap (λ v. v.seen) same), (λ p. ap (λ v. v.failed) same ∙ p))

pub looked_on : (old mid new : View) → HasLooked old mid → HasLooked mid new → HasLooked old new
looked_on old mid new first next =
    (next.0 ∙ (λ i. record (first.0 i) { seen = new.seen; failed = new.failed }), omega (arith, first.1, next.1), (λ p. next.2 (first.2 p)))

-- it has heard this more
abbrev pub has_heard : View → List Heard → View
has_heard v more = record v { heard = v.heard ++ more }

-- what is heard from now on, behind what was heard of the call
abbrev pub GoesBehind : Call → List Heard → Option Call → Type 0
GoesBehind c gone next = (failed : Bool) (rest : List Heard) (r : Result Answer Fault) → Hears failed c next rest r → Hears failed c (Some c) (gone ++ rest) r

-- the next step was not made yet
abbrev pub IsAbout : Call → View → View → Option Call → Type 0
IsAbout c old now next = (gone : List Heard) × GoesBehind c gone next × (now ≡ has_heard old gone)

-- it was, and came to this; or there was no memory for it
abbrev pub HasMade : Call → View → View → Step → Type 0
HasMade c old now step = (gone : List Heard) × (next : Option Call) × GoesBehind c gone next
    × (((step ≡ made.Refused fault.Memory) × (next ≡ Some c) × (now ≡ has_heard old gone)) ⊎ (now ≡ has_heard old (gone ++ record { asked = next; step = step } ∷ [])))

-- what a first step is
abbrev pub IsFirst : Call → View → View → Step → Type 0
IsFirst c old now step = (now ≡ has_heard old (record { asked = Some c; step = step } ∷ [])) ⊎ ((step ≡ made.Refused fault.Memory) × (now ≡ old))

pub begins : (c : Call) (v : View) → IsAbout c v v (Some c)
begins c v = ([], (λ failed rest r h. h), (λ i. record v { heard = sym (append-nil v.heard) i }))

pub made_first : (c : Call) (old mid now : View) (step : Step) → IsAbout c old mid (Some c) → IsFirst c mid now step → HasMade c old now step
made_first c old mid now step (gone, behind, is) (inl heard) =
    (gone, Some c, behind, inr (heard ∙ ap (λ v. has_heard v (record { asked = Some c; step = step } ∷ [])) is ∙ (λ i. record old { heard = append_assoc old.heard gone (record { asked = Some c; step = step } ∷ []) i })))
made_first c old mid now step (gone, behind, is) (inr none) = (gone, Some c, behind, inl (none.0, refl, none.1 ∙ is))

pub resumed : (c : Call) (old mid now : View) (step : Step) → IsAbout c old mid None → now ≡ has_heard mid (record { asked = None; step = step } ∷ []) → HasMade c old now step
resumed c old mid now step (gone, behind, is) heard =
    (gone, None, behind, inr (heard ∙ ap (λ v. has_heard v (record { asked = None; step = step } ∷ [])) is ∙ (λ i. record old { heard = append_assoc old.heard gone (record { asked = None; step = step } ∷ []) i })))

-- who lacks memory awaits nothing
lacks : (step : Step) {A : Type 0} → step ≡ made.Refused fault.Memory → AwaitsLog step ⊎ AwaitsLock step → A
lacks step is (inl (number, inl waits)) = absurd (cc (is, waits))
lacks step is (inl (number, inr needs)) = absurd (cc (is, needs))
lacks step is (inr (granule, waits)) = absurd (cc (is, waits))

pub goes_on : (c : Call) (old now : View) (step : Step) → HasMade c old now step → AwaitsLog step ⊎ AwaitsLock step → IsAbout c old now (asked_behind c step)
goes_on c old now step (gone, next, behind, inl none) awaits = lacks step none.0 awaits
goes_on c old now step (gone, next, behind, inr is) awaits = let h : Heard = record { asked = next; step = step } in
    (gone ++ h ∷ [], (λ failed rest r hears. subst (λ hs. Hears failed c (Some c) hs r) (sym (append_assoc gone (h ∷ []) rest)) (behind failed (h ∷ rest) r (refl, inr (inr (awaits, hears))))), is)

-- it has heard one step, and the wait that this came to was not taken back; or it was
pub has_gone_once : (old first new : View) (came step : Step) → first ≡ has_heard old (record { asked = None; step = came } ∷ []) → new ≡ first → step ≡ came → HasGoneOn old new step
has_gone_once old first new came step heard same is = inl (same ∙ heard ∙ (λ i. has_heard old (record { asked = None; step = sym is i } ∷ [])))

pub has_gone_twice : (old first second new : View) (came back step : Step) → first ≡ has_heard old (record { asked = None; step = came } ∷ []) → AwaitsLock came
    → second ≡ has_heard first (record { asked = None; step = back } ∷ []) → new ≡ second → step ≡ back → HasGoneOn old new step
has_gone_twice old first second new came back step heard waits more same is =
    inr (came, waits, same ∙ more ∙ (λ i. has_heard (heard i) (record { asked = None; step = sym is i } ∷ [])))

-- it went on by one step, or by two
pub gone_on : (c : Call) (old mid now : View) (step : Step) → IsAbout c old mid None → HasGoneOn mid now step → HasMade c old now step
gone_on c old mid now step about (inl heard) = resumed c old mid now step about heard
gone_on c old mid now step about (inr (waits, lock, heard)) =
    let still = has_heard mid (record { asked = None; step = waits } ∷ []) in
    let behind : IsAbout c old still (asked_behind c waits) = goes_on c old still waits (resumed c old mid still waits about refl) (inr lock) in
    resumed c old still now step (subst (λ next. IsAbout c old still next) (ap (asked_behind c) lock.1) behind) heard

-- what a call is answered, with what it heard
abbrev pub IsOver : Bool → Call → View → View → Result Answer Fault → Type 0
IsOver failed c old now r = (more : List Heard) × (now ≡ has_heard old more) × Hears failed c (Some c) more r

pub answered : (failed : Bool) (c : Call) (old now : View) (step : Step) (r : Result Answer Fault) → HasMade c old now step → IsAnswered step r → IsOver failed c old now r
answered failed c old now step r (gone, next, behind, inl none) is =
    let refused : r ≡ Err fault.Memory = (subst (λ s. IsAnswered s r) none.0 is).0 in
    (gone, none.2, subst (λ hs. Hears failed c (Some c) hs r) (append-nil gone) (behind failed [] r (none.1, refused)))
answered failed c old now step r (gone, next, behind, inr heard) is = (gone ++ record { asked = next; step = step } ∷ [], heard, behind failed (record { asked = next; step = step } ∷ []) r (refl, inl (refl, is)))

-- it found that a device has failed
pub untold : (failed : Bool) (c : Call) (old now : View) (step : Step) → HasMade c old now step → AwaitsLog step → failed ≡ true → IsOver failed c old now (Err fault.Device)
untold failed c old now step (gone, next, behind, inl none) awaits found = lacks step none.0 (inl awaits)
untold failed c old now step (gone, next, behind, inr heard) awaits found =
    (gone ++ record { asked = next; step = step } ∷ [], heard, behind failed (record { asked = next; step = step } ∷ []) (Err fault.Device) (refl, inr (inl (refl, awaits, refl, found))))

-- who finds it later still finds it
pub hears_on : (failed later : Bool) → (failed ≡ true → later ≡ true) → (c : Call) (next : Option Call) (hs : List Heard) (r : Result Answer Fault) → Hears failed c next hs r → Hears later c next hs r
hears_on failed later on c next [] r is = is
hears_on failed later on c next (h ∷ hs) r (asked, inl last) = (asked, inl last)
hears_on failed later on c next (h ∷ hs) r (asked, inr (inl (none, awaits, device, found))) = (asked, inr (inl (none, awaits, device, on found)))
hears_on failed later on c next (h ∷ hs) r (asked, inr (inr (awaits, hears))) = (asked, inr (inr (awaits, hears_on failed later on c (asked_behind c h.step) hs r hears)))

-- a call that is over waits for nothing
pub waits_for_nothing : (step : Step) (w : Wait) → step ≡ made.Waits w → ¬ AwaitsLog step → ¬ AwaitsLock step → ⊥
waits_for_nothing step (wait.Durable n) is log lock = log (n, inl is)
waits_for_nothing step (wait.Lock granule) is log lock = lock (granule, is)

-- who waits and was not refused goes on
pub none_behind : (c : Call) (step : Step) → AwaitsLog step ⊎ AwaitsLock step → ¬ ((f : Fault) × (step ≡ made.Refused f)) → asked_behind c step ≡ None
none_behind c step (inl (n, inl is)) never = ap (asked_behind c) is
none_behind c step (inl (n, inr is)) never = absurd (never (fault.NeedForce n, is))
none_behind c step (inr (granule, is)) never = ap (asked_behind c) is

-- ---- what a call is refused with

abbrev the_fault : Fault → Result Answer Fault → Fault
the_fault other (Ok a) = other
the_fault other (Err f) = f

abbrev the_answer : Answer → Result Answer Fault → Answer
the_answer other (Ok a) = a
the_answer other (Err f) = other

ends_more : (h : Heard) (hs : List Heard) (step : Step) → EndsIn hs step → EndsIn (h ∷ hs) step
ends_more h hs step (before, asked, is) = (h ∷ before, asked, ap (λ l. h ∷ l) is)

ends_here : (h : Heard) (hs : List Heard) (step : Step) → hs ≡ [] → h.step ≡ step → EndsIn (h ∷ hs) step
ends_here h hs step none is = ([], h.asked, (λ i. record { asked = h.asked; step = is i } ∷ none i))

refusal_more : (failed : Bool) (h : Heard) (hs : List Heard) (f : Fault) → ¬ (hs ≡ []) → IsRefusal failed hs f → IsRefusal failed (h ∷ hs) f
refusal_more failed h hs f some (never, inl last) = (never, inl (ends_more h hs (made.Refused f) last))
refusal_more failed h hs f some (never, inr (inl (lack, inl none))) = absurd (some none)
refusal_more failed h hs f some (never, inr (inl (lack, inr (number, last)))) = (never, inr (inl (lack, inr (number, ends_more h hs (made.Refused (fault.NeedForce number)) last))))
refusal_more failed h hs f some (never, inr (inr (inl (device, found, (step, awaits, last))))) = (never, inr (inr (inl (device, found, (step, awaits, ends_more h hs step last)))))
refusal_more failed h hs f some (never, inr (inr (inr (quiet, last)))) = (never, inr (inr (inr (quiet, ends_more h hs made.Nothing last))))

-- by the last step
by_last : (failed : Bool) (h : Heard) (hs : List Heard) (step : Step) (f : Fault) → hs ≡ [] → h.step ≡ step → IsAnswered step (Err f) → IsRefusal failed (h ∷ hs) f
by_last failed h hs (made.Done a) f none same is = absurd (cc is)
by_last failed h hs (made.Refused g) f none same (is, never) =
    let one : f ≡ g = ap (the_fault f) is in ((λ number e. never number (sym one ∙ e)), inl (ends_here h hs (made.Refused f) none (same ∙ ap made.Refused (sym one))))
by_last failed h hs (made.Waits w) f none same is = absurd is
by_last failed h hs made.Nothing f none same is =
    let one : f ≡ fault.NotQuiet = ap (the_fault f) is in ((λ number e. absurd (cc (one, e))), inr (inr (inr (one, ends_here h hs made.Nothing none same))))

-- it was to be made again
not_again : (failed : Bool) (c : Call) (h : Heard) (hs : List Heard) (step : Step) → hs ≡ [] → h.step ≡ step → AwaitsLog step ⊎ AwaitsLock step → asked_behind c step ≡ Some c → IsRefusal failed (h ∷ hs) fault.Memory
not_again failed c h hs step none same (inl (number, inl is)) next = absurd (cc (next, ap (asked_behind c) is))
not_again failed c h hs step none same (inl (number, inr is)) next =
    ((λ n e. absurd (cc e)), inr (inl (refl, inr (number, ends_here h hs (made.Refused (fault.NeedForce number)) none (same ∙ is)))))
not_again failed c h hs step none same (inr (granule, is)) next = absurd (cc (next, ap (asked_behind c) is))

refused_behind : (failed : Bool) (c : Call) (next : Option Call) (hs : List Heard) (f : Fault) → Hears failed c next hs (Err f) → IsRefusal failed hs f × (hs ≡ [] → next ≡ Some c)
refused_behind failed c next [] f (first, lacks) =
    let one : f ≡ fault.Memory = ap (the_fault f) lacks in (((λ number e. absurd (cc (one, e))), inr (inl (one, inl refl))), λ _. first)
refused_behind failed c next (h ∷ hs) f (asked, inl (none, is)) = (by_last failed h hs h.step f none refl is, λ e. absurd (cc e))
refused_behind failed c next (h ∷ hs) f (asked, inr (inl (none, awaits, device, found))) =
    let one : f ≡ fault.Device = ap (the_fault f) device in (((λ number e. absurd (cc (one, e))), inr (inr (inl (one, found, (h.step, awaits, ends_here h hs h.step none refl))))), λ e. absurd (cc e))
refused_behind failed c next (h ∷ []) f (asked, inr (inr (awaits, hears))) =
    let one : f ≡ fault.Memory = ap (the_fault f) hears.1 in (subst (λ x. IsRefusal failed (h ∷ []) x) (sym one) (not_again failed c h [] h.step refl refl awaits hears.0), λ e. absurd (cc e))
refused_behind failed c next (h ∷ k ∷ hs) f (asked, inr (inr (awaits, hears))) =
    (refusal_more failed h (k ∷ hs) f (λ e. absurd (cc e)) (refused_behind failed c (asked_behind c h.step) (k ∷ hs) f hears).0, λ e. absurd (cc e))

pub refused : (failed : Bool) (c : Call) (hs : List Heard) (f : Fault) → Hears failed c (Some c) hs (Err f) → IsRefusal failed hs f
refused failed c hs f hears = (refused_behind failed c (Some c) hs f hears).0

-- the same of all that it heard
pub refused_over : (failed : Bool) (c : Call) (old now : View) (r : Result Answer Fault) → IsOver failed c old now r → IfErr r (λ f. (more : List Heard) × (now.heard ≡ old.heard ++ more) × IsRefusal failed more f)
refused_over failed c old now (Ok a) over = tt
refused_over failed c old now (Err f) (more, is, hears) = (more, ap (λ v. v.heard) is, refused failed c more f hears)

-- what is answered is what the last step came to
done_by_last : (h : Heard) (hs : List Heard) (step : Step) (a : Answer) → hs ≡ [] → h.step ≡ step → IsAnswered step (Ok a) → EndsIn (h ∷ hs) (made.Done a)
done_by_last h hs (made.Done b) a none same is = ends_here h hs (made.Done a) none (same ∙ ap made.Done (sym (ap (the_answer b) is)))
done_by_last h hs (made.Refused g) a none same is = absurd (cc is.0)
done_by_last h hs (made.Waits w) a none same is = absurd is
done_by_last h hs made.Nothing a none same is = absurd (cc is)

done_last : (failed : Bool) (c : Call) (next : Option Call) (hs : List Heard) (a : Answer) → Hears failed c next hs (Ok a) → EndsIn hs (made.Done a)
done_last failed c next [] a (first, lacks) = absurd (cc lacks)
done_last failed c next (h ∷ hs) a (asked, inl (none, is)) = done_by_last h hs h.step a none refl is
done_last failed c next (h ∷ hs) a (asked, inr (inl (none, awaits, device, found))) = absurd (cc device)
done_last failed c next (h ∷ hs) a (asked, inr (inr (awaits, hears))) = ends_more h hs (made.Done a) (done_last failed c (asked_behind c h.step) hs a hears)

refuses_commit : (failed : Bool) (hs : List Heard) (f : Fault) → HearsCommit failed hs (Err f) → IsRefusalOfCommit failed hs f
refuses_commit failed hs f (reply, hears, inl same) = let is = refused failed call.Commit hs f (subst (λ r. Hears failed call.Commit (Some call.Commit) hs r) same hears) in (is.0, inl is)
refuses_commit failed hs f (reply, hears, inr (inl (ticket, same, device, found))) =
    ((λ number e. absurd (cc (device, e))), inr (inl (device, found, (ticket, done_last failed call.Commit (Some call.Commit) hs (answer.Committed ticket) (subst (λ r. Hears failed call.Commit (Some call.Commit) hs r) same hears)))))
refuses_commit failed hs f (reply, hears, inr (inr (other, same, never, quiet))) =
    ((λ number e. absurd (cc (quiet, e))), inr (inr (quiet, (other, never, done_last failed call.Commit (Some call.Commit) hs other (subst (λ r. Hears failed call.Commit (Some call.Commit) hs r) same hears)))))

-- what an awaited commit heard and is answered
abbrev pub IsCommitOver : Bool → View → View → Result ℕ Fault → Type 0
IsCommitOver failed old now r = (more : List Heard) × (now ≡ has_heard old more) × HearsCommit failed more r

pub refused_commit : (failed : Bool) (old now : View) (r : Result ℕ Fault) → IsCommitOver failed old now r → IfErr r (λ f. (more : List Heard) × (now.heard ≡ old.heard ++ more) × IsRefusalOfCommit failed more f)
refused_commit failed old now (Ok ticket) over = tt
refused_commit failed old now (Err f) (more, is, hears) = (more, ap (λ v. v.heard) is, refuses_commit failed more f hears)

pub commit_over : (failed later : Bool) → (failed ≡ true → later ≡ true) → (old mid now : View) (reply : Result Answer Fault) (r : Result ℕ Fault) → IsOver failed call.Commit old mid reply → now ≡ mid → IsOfCommit later reply r
    → IsCommitOver later old now r
commit_over failed later on old mid now reply r (more, is, hears) same of_it = (more, same ∙ is, (reply, hears_on failed later on call.Commit (Some call.Commit) more reply hears, of_it))
