-- A call that waits still waits after each event of other sessions, so its session never goes on with nothing.
use Rattle.std.proofs.Common.{◌≡◌, ◌≢◌, ◌⊎◌, ◌==◌, ℕ, Bool, true, false, List, [], ◌∷◌, Some, if◌then◌else◌, inl, inr, ap, refl, subst, sym, ◌∙◌}
use Rattle.shore_types.specs.declared.layout.Geometry.{Geometry}
use Rattle.shore_model.specs.declared.calls.Call.{Call}
use Rattle.shore_model.specs.declared.step.Step.{Step}
use Rattle.shore_model.specs.declared.step.Step.TheVariants.{Done, Nothing, Refused, Waits}
use Rattle.shore_model.specs.declared.step.Wait.{Wait}
use Rattle.shore_model.specs.declared.step.Wait.TheVariants.{Durable, Lock}
use Rattle.laws_lives.specs.Sessions.{SessionTxn}
use Rattle.laws_lives.specs.Views.{IsAmong}
use Rattle.laws_calls.proofs.SessionEndings.{call_adds, call_waits, done_leaves, refusing_leaves, still_waits}
use Rattle.laws_calls.proofs.SessionResumes.{waits_stay}
use Rattle.laws_calls.proofs.SettledEnds.{call_leaves}
use Rattle.laws_calls.specs.CallSteps.{CallGoesOn, CallStep, InnerStep, OpenStep, OutsideStep, ResumeStep, ResumesWait}
use Rattle.laws_calls.specs.Events.{Called, EventMoves, Forced, GaveUp, HasFailed, ManagerEvent, Resumed, TicketAsked}
use Rattle.laws_calls.specs.Settling.{SettledCall, SettledResume, Settles}
use Rattle.laws_calls.specs.StateChanges.{wait_refused}
use Rattle.laws_calls.specs.States.{State, Waiting, without_waiting}
use Rattle.laws_calls.specs.Victims.{TakesVictim, TakesVictims, with_cycle}
use Rattle.laws_calls.specs.Resolves.{ResolvesTo}
use Rattle.shore_model.specs.declared.calls.Outcome.{Outcome}
use Rattle.shore_model.specs.declared.calls.Outcome.TheVariants as outcome

-- a call of the session waits
abbrev pub IsWaiting : State → ℕ → Type 0
IsWaiting s n = (w : Waiting) × IsAmong w s.waiting × (w.session ≡ n)

pub same : (s new : State) (n : ℕ) → new.waiting ≡ s.waiting → IsWaiting s n → IsWaiting new n
same s new n is (w, there, of) = (w, subst (IsAmong w) (sym is) there, of)

one_more : (s new : State) (n : ℕ) (x : Waiting) → new.waiting ≡ x ∷ s.waiting → IsWaiting s n → IsWaiting new n
one_more s new n x is (w, there, of) = (w, subst (IsAmong w) (sym is) (inr there), of)

others : (s new : State) (n session : ℕ) → n ≢ session → new.waiting ≡ without_waiting session s.waiting → IsWaiting s n → IsWaiting new n
others s new n session apart is (w, there, of) = (w, subst (IsAmong w) (sym is) (waits_stay session w s.waiting there (λ e. apart (sym of ∙ e))), of)

-- ---- a call is no call that does nothing

open_never : (g : Geometry) (s new : State) (a : SessionTxn) (c : Call) → OpenStep g s a c Nothing new → ⊥
open_never g s new a c (inl h) = absurd (cc h.2)
open_never g s new a c (inr (inl h)) = h.1
open_never g s new a c (inr (inr (inl h))) = h.1
open_never g s new a c (inr (inr (inr (inl h)))) = h.1
open_never g s new a c (inr (inr (inr (inr h)))) = h.2

inner_never : (g : Geometry) (s new : State) (a : SessionTxn) (c : Call) → InnerStep g s a c Nothing new → ⊥
inner_never g s new a c (inl h) = absurd (cc h.2)
inner_never g s new a c (inr (inl h)) = open_never g s new a c h.1
inner_never g s new a c (inr (inr (inl h))) = h.3
inner_never g s new a c (inr (inr (inr h))) = h.1

resolve_never : (s new : State) (session : ℕ) (global : List ℕ) (asked : Outcome) → ResolvesTo s session global asked Nothing new → ⊥
resolve_never s new session global outcome.Commit h = h
resolve_never s new session global outcome.Abort h = h.3

outside_never : (s new : State) (session : ℕ) (c : Call) → OutsideStep s session c Nothing new → ⊥
outside_never s new session c (inl h) = h.1
outside_never s new session c (inr (global, asked, is, inl h)) = absurd (cc h.2)
outside_never s new session c (inr (global, asked, is, inr h)) = resolve_never s new session global asked h.1

never : (g : Geometry) (s new : State) (session : ℕ) (c : Call) → CallStep g s session c Nothing new → ⊥
never g s new session c (inl h) = absurd (cc h.0)
never g s new session c (inr (inl h)) = absurd (cc h.1)
never g s new session c (inr (inr (inl h))) = absurd (cc h.2)
never g s new session c (inr (inr (inr (inl h)))) = h.3
never g s new session c (inr (inr (inr (inr (inl h))))) = absurd (cc h.4)
never g s new session c (inr (inr (inr (inr (inr (inl h)))))) = inner_never g s new h.2.0 c h.2.2
never g s new session c (inr (inr (inr (inr (inr (inr (inl h))))))) = absurd (cc h.4)
never g s new session c (inr (inr (inr (inr (inr (inr (inr h))))))) = outside_never s new session c h.2

-- ---- what waits, waits on

call_on : (g : Geometry) (s new : State) (session : ℕ) (c : Call) (step : Step) (n : ℕ) → CallStep g s session c step new → IsWaiting s n → IsWaiting new n
call_on g s new session c (Done answer) n h waits = same s new n (call_leaves g s new session c (Done answer) h tt) waits
call_on g s new session c (Refused f) n h waits = same s new n (call_leaves g s new session c (Refused f) h tt) waits
call_on g s new session c (Waits wait) n h waits = one_more s new n _ (call_adds g s new session c wait h) waits
call_on g s new session c Nothing n h waits = absurd (never g s new session c h)

goes_on : (g : Geometry) (s new : State) (a : SessionTxn) (c : Call) (step : Step) (n : ℕ) → CallGoesOn g s a c step new → IsWaiting s n → IsWaiting new n
goes_on g s new a c (Done answer) n h waits = same s new n (done_leaves g s a c answer new h) waits
goes_on g s new a c (Refused f) n h waits = same s new n (refusing_leaves g s a c f new h) waits
goes_on g s new a c (Waits wait) n h waits = one_more s new n _ (ap (λ (x : State). x.waiting) h.5) waits
goes_on g s new a c Nothing n h waits = absurd h

resumes_on : (g : Geometry) (s new : State) (w : Waiting) (its : Wait) (step : Step) (n : ℕ) → n ≢ w.session → ResumesWait g s w its step new → IsWaiting s n → IsWaiting new n
resumes_on g s new w (Durable k) step n apart (inl h) waits = same s new n (ap (λ (x : State). x.waiting) h.2) waits
resumes_on g s new w (Durable k) step n apart (inr (inl h)) waits = others s new n w.session apart (ap (λ (x : State). x.waiting) h.2.4) waits
resumes_on g s new w (Durable k) step n apart (inr (inr h)) waits = others s new n w.session apart (ap (λ (x : State). x.waiting) h.2.3) waits
resumes_on g s new w (Lock at) step n apart (a, of, inl h) waits = same s new n (ap (λ (x : State). x.waiting) h.2) waits
resumes_on g s new w (Lock at) step n apart (a, of, inr h) waits = goes_on g (wait_refused s w.session) new a w.call step n h.1 (others s (wait_refused s w.session) n w.session apart refl waits)

resume_on : (g : Geometry) (s new : State) (session : ℕ) (step : Step) (n : ℕ) → n ≢ session → ResumeStep g s session step new → IsWaiting s n → IsWaiting new n
resume_on g s new session step n apart (inl h) waits = same s new n (ap (λ (x : State). x.waiting) h.2) waits
resume_on g s new session step n apart (inr (w, there, of, inl h)) waits = others s new n w.session (λ e. apart (e ∙ of)) (ap (λ (x : State). x.waiting) h.2) waits
resume_on g s new session step n apart (inr (w, there, of, inr h)) waits = resumes_on g s new w w.wait step n (λ e. apart (e ∙ of)) h.1 waits

-- a victim's call waits to be told
same_session : (b : Bool) (x : Waiting) (cycle : List ℕ) → (if b then record { session = x.session; call = x.call; wait = x.wait; cycle = Some cycle } else x).session ≡ x.session
same_session true x cycle = refl
same_session false x cycle = refl

cycled : (session : ℕ) (cycle : List ℕ) (ws : List Waiting) (w : Waiting) → IsAmong w ws → (v : Waiting) × IsAmong v (with_cycle session cycle ws) × (v.session ≡ w.session)
cycled session cycle [] w there = absurd there
cycled session cycle (x ∷ ws) w (inl is) = (_, inl refl, same_session (x.session == session) x cycle ∙ ap (λ (v : Waiting). v.session) is)
cycled session cycle (x ∷ ws) w (inr later) = let on = cycled session cycle ws w later in (on.0, inr on.1, on.2)

victims_on : (s : State) (t : ℕ) (vs : _) (new : State) (n : ℕ) → TakesVictims s t vs new → IsWaiting s n → IsWaiting new n
victims_on s t [] new n h waits = same s new n (ap (λ (x : State). x.waiting) h) waits
victims_on s t (v ∷ vs) new n (mid, takes, rest) (w, there, of) =
    let on = cycled takes.txn.session v.cycle s.waiting w there in
    victims_on mid t vs new n rest (on.0, subst (IsAmong on.0) (sym (ap (λ (x : State). x.waiting) takes.is)) on.1, on.2 ∙ of)

settles_on : (g : Geometry) (s new : State) (session : ℕ) (first : Step) (rounds : _) (step : Step) (n : ℕ) → n ≢ session → Settles g s session first rounds step new → IsWaiting s n → IsWaiting new n
settles_on g s new session first [] step n apart h waits = same s new n (ap (λ (x : State). x.waiting) h.2) waits
settles_on g s new session first (vs ∷ rounds) step n apart (a, at, broken, of, is, takes, inl (none, inl h)) waits =
    same broken new n (ap (λ (x : State). x.waiting) h.3) (victims_on s a.txn vs broken n takes waits)
settles_on g s new session first (vs ∷ rounds) step n apart (a, at, broken, of, is, takes, inl (none, inr (inl h))) waits =
    others broken new n session apart (ap (λ (x : State). x.waiting) h.is) (victims_on s a.txn vs broken n takes waits)
settles_on g s new session first (vs ∷ rounds) step n apart (a, at, broken, of, is, takes, inl (none, inr (inr (nil, h)))) waits =
    others broken new n a.session (λ e. apart (e ∙ of.1)) (ap (λ (x : State). x.waiting) h.1) (victims_on s a.txn vs broken n takes waits)
settles_on g s new session first (vs ∷ rounds) step n apart (a, at, broken, of, is, takes, inr (next, mid, free, resumes, settles)) waits =
    settles_on g mid new session next rounds step n apart settles (resume_on g broken mid session next n apart resumes (victims_on s a.txn vs broken n takes waits))

-- the events of others
abbrev pub IsOfOthers : ManagerEvent → ℕ → Type 0
IsOfOthers (Called session c step) n = n ≢ session
IsOfOthers (Resumed session step) n = n ≢ session
IsOfOthers (GaveUp session step) n = n ≢ session
IsOfOthers (Forced k) n = Unit {0}
IsOfOthers HasFailed n = Unit {0}
IsOfOthers (TicketAsked ticket answer) n = Unit {0}

pub event_on : (g : Geometry) (s new : State) (e : ManagerEvent) (n : ℕ) → IsOfOthers e n → EventMoves g s e new → IsWaiting s n → IsWaiting new n
event_on g s new (Called session c step) n apart h waits =
    settles_on g h.1.mid new session h.1.first h.1.rounds step n apart h.1.settles (call_on g s h.1.mid session c h.1.first n h.1.calls waits)
event_on g s new (Resumed session step) n apart (inl h) waits = others s new n session apart (ap (λ (x : State). x.waiting) h.is) waits
event_on g s new (Resumed session step) n apart (inr (inl h)) waits = same s new n (ap (λ (x : State). x.waiting) h.1) waits
event_on g s new (Resumed session step) n apart (inr (inr h)) waits =
    settles_on g h.mid new session h.first h.rounds step n apart h.settles (resume_on g s h.mid session h.first n apart h.resumes waits)
event_on g s new (GaveUp session step) n apart (inl h) waits = others s new n session apart (ap (λ (x : State). x.waiting) h.is) waits
event_on g s new (GaveUp session step) n apart (inr h) waits = same s new n (ap (λ (x : State). x.waiting) h.is) waits
event_on g s new (Forced k) n apart h waits = same s new n (ap (λ (x : State). x.waiting) h.2) waits
event_on g s new HasFailed n apart h waits = same s new n (ap (λ (x : State). x.waiting) h) waits
event_on g s new (TicketAsked ticket answer) n apart h waits = same s new n (ap (λ (x : State). x.waiting) h.1) waits

-- ---- the session's own

still : (g : Geometry) (s new : State) (session : ℕ) (step : Step) (wait : Wait) → step ≡ Waits wait → ResumeStep g s session step new → IsWaiting new session
still g s new session step wait is h = let w = still_waits g s new session wait (subst (λ x. ResumeStep g s session x new) is h) in (w.0, w.1, w.2)

asked : (g : Geometry) (s new : State) (session : ℕ) (c : Call) (step : Step) (wait : Wait) → step ≡ Waits wait → CallStep g s session c step new → IsWaiting new session
asked g s new session c step wait is h = (_, call_waits g s new session c wait (subst (λ x. CallStep g s session c x new) is h), refl)

-- it waits once it came to a wait
settles_own : (g : Geometry) (s new : State) (session : ℕ) (first : Step) (rounds : _) (step : Step) (wait : Wait) → step ≡ Waits wait → ((w : Wait) → first ≡ Waits w → IsWaiting s session) → Settles g s session first rounds step new
    → IsWaiting new session
settles_own g s new session first [] step wait is own h = same s new session (ap (λ (x : State). x.waiting) h.2) (own wait (sym h.1 ∙ is))
settles_own g s new session first (vs ∷ rounds) step wait is own (a, at, broken, of, waited, takes, inl (none, inl h)) =
    same broken new session (ap (λ (x : State). x.waiting) h.3) (victims_on s a.txn vs broken session takes (own (Lock at) waited))
settles_own g s new session first (vs ∷ rounds) step wait is own (a, at, broken, of, waited, takes, inl (none, inr (inl h))) = absurd (cc (is, h.told))
settles_own g s new session first (vs ∷ rounds) step wait is own (a, at, broken, of, waited, takes, inl (none, inr (inr (nil, h)))) = absurd (cc (is, h.0))
settles_own g s new session first (vs ∷ rounds) step wait is own (a, at, broken, of, waited, takes, inr (next, mid, free, resumes, settles)) =
    settles_own g mid new session next rounds step wait is (λ w e. still g broken mid session next w e resumes) settles

pub call_own : (g : Geometry) (s new : State) (session : ℕ) (c : Call) (step : Step) (wait : Wait) → step ≡ Waits wait → SettledCall g s session c step new → IsWaiting new session
call_own g s new session c step wait is h = settles_own g h.mid new session h.first h.rounds step wait is (λ w e. asked g s h.mid session c h.first w e h.calls) h.settles

pub resume_own : (g : Geometry) (s new : State) (session : ℕ) (step : Step) (wait : Wait) → step ≡ Waits wait → SettledResume g s session step new → IsWaiting new session
resume_own g s new session step wait is (inl h) = absurd (cc (is, h.told))
resume_own g s new session step wait is (inr (inl h)) = still g s new session step wait is h.0
resume_own g s new session step wait is (inr (inr h)) = settles_own g h.mid new session h.first h.rounds step wait is (λ w e. still g s h.mid session h.first w e h.resumes) h.settles

-- .. and does not come to nothing
waits_never : (g : Geometry) (s new : State) (w : Waiting) (its : Wait) (step : Step) → step ≡ Nothing → ResumesWait g s w its step new → ⊥
waits_never g s new w (Durable k) step is (inl h) = absurd (cc (is, h.1))
waits_never g s new w (Durable k) step is (inr (inl h)) = absurd (cc (is, h.1))
waits_never g s new w (Durable k) step is (inr (inr h)) = absurd (cc (is, h.1))
waits_never g s new w (Lock at) step is (a, of, inl h) = absurd (cc (is, h.1))
waits_never g s new w (Lock at) step is (a, of, inr h) = subst (λ x. CallGoesOn g (wait_refused s w.session) a w.call x new) is h.1

resume_step_never : (g : Geometry) (s new : State) (session : ℕ) (step : Step) → step ≡ Nothing → IsWaiting s session → ResumeStep g s session step new → ⊥
resume_step_never g s new session step is waits (inl h) = h.0 waits.0 waits.1 waits.2
resume_step_never g s new session step is waits (inr (w, there, of, inl h)) = absurd (cc (is, h.1))
resume_step_never g s new session step is waits (inr (w, there, of, inr h)) = waits_never g s new w w.wait step is h.1

settles_never : (g : Geometry) (s new : State) (session : ℕ) (first : Step) (rounds : _) (step : Step) → step ≡ Nothing → (first ≡ Nothing → ⊥) → ((w : Wait) → first ≡ Waits w → IsWaiting s session)
    → Settles g s session first rounds step new → ⊥
settles_never g s new session first [] step is not own h = not (sym h.1 ∙ is)
settles_never g s new session first (vs ∷ rounds) step is not own (a, at, broken, of, waited, takes, inl (none, inl h)) = absurd (cc (is, h.2, waited))
settles_never g s new session first (vs ∷ rounds) step is not own (a, at, broken, of, waited, takes, inl (none, inr (inl h))) = absurd (cc (is, h.told))
settles_never g s new session first (vs ∷ rounds) step is not own (a, at, broken, of, waited, takes, inl (none, inr (inr (nil, h)))) = absurd (cc (is, h.0))
settles_never g s new session first (vs ∷ rounds) step is not own (a, at, broken, of, waited, takes, inr (next, mid, free, resumes, settles)) =
    settles_never g mid new session next rounds step is (λ e. resume_step_never g broken mid session next e (victims_on s a.txn vs broken session takes (own (Lock at) waited)) resumes)
    (λ w e. still g broken mid session next w e resumes) settles

pub call_never : (g : Geometry) (s new : State) (session : ℕ) (c : Call) (step : Step) → step ≡ Nothing → SettledCall g s session c step new → ⊥
call_never g s new session c step is h = settles_never g h.mid new session h.first h.rounds step is (λ e. never g s h.mid session c (subst (λ x. CallStep g s session c x h.mid) e h.calls))
    (λ w e. asked g s h.mid session c h.first w e h.calls) h.settles

pub resume_never : (g : Geometry) (s new : State) (session : ℕ) (step : Step) → step ≡ Nothing → IsWaiting s session → SettledResume g s session step new → ⊥
resume_never g s new session step is waits (inl h) = absurd (cc (is, h.told))
resume_never g s new session step is waits (inr (inl h)) = resume_step_never g s new session step is waits h.0
resume_never g s new session step is waits (inr (inr h)) =
    settles_never g h.mid new session h.first h.rounds step is (λ e. resume_step_never g s h.mid session h.first e waits h.resumes) (λ w e. still g s h.mid session h.first w e h.resumes) h.settles
