-- Nobody goes on with nothing, and the core refuses nothing as `NotQuiet`, so no call is refused so.
use Rattle.std.proofs.Common.{◌≡◌, ◌≢◌, ◌⊎◌, ◌==◌, ℕ, zero, suc, All, Bool, true, false, true≢false, List, [], ◌∷◌, ◌++◌, None, Option, Some, Result, Ok, Err, if◌then◌else◌, inl, inr, ⊎_elim, eq-eqb, arith, ap, refl, subst, sym, ◌∙◌}
use Rattle.shore_types.specs.declared.faults.Fault.{Fault}
use Rattle.shore_types.specs.declared.faults.Fault.TheVariants as fault
use Rattle.shore_types.specs.declared.layout.Geometry.{Geometry}
use Rattle.shore_model.specs.declared.calls.Answer.{Answer}
use Rattle.shore_model.specs.declared.calls.Call.{Call}
use Rattle.shore_model.specs.declared.calls.Exchange.{Exchange}
use Rattle.shore_model.specs.declared.histories.Entry.{Entry}
use Rattle.shore_model.specs.declared.histories.Opening.{Opening}
use Rattle.shore_model.specs.declared.log_records.LogRecord.{LogRecord}
use Rattle.shore_model.specs.declared.step.Step.{Step}
use Rattle.shore_model.specs.declared.step.Step.TheVariants as made
use Rattle.shore_model.specs.declared.step.Wait.{Wait}
use Rattle.laws_calls.proofs.SettledRefusals.{settled_call_earned, settled_resume_earned}
use Rattle.laws_calls.specs.Events.{Called, EventMoves, Forced, GaveUp, HasFailed, IsStateAfter, ManagerEvent, Resumed, TicketAsked}
use Rattle.laws_calls.specs.GivingUp.{GiveUpStep}
use Rattle.laws_calls.specs.Settling.{SettledCall, SettledResume}
use Rattle.laws_calls.specs.Shapes.{LockWaitsMayAsk}
use Rattle.laws_calls.specs.States.{State}
use Rattle.laws_runs.proofs.Checkpointing.{step_goes}
use Rattle.laws_runs.specs.CheckpointedStates.{IsAtCheckpoints}
use Rattle.laws_runs.specs.CheckpointSteps.{CheckpointedMove, CheckpointedMoves, CheckpointedState, Checkpoints, Goes, entries_of_move}
use Rattle.laws_runs.specs.StoredRuns.{Manage, Tend}
use Rattle.shore_words.specs.declared.rule.Heard.{Heard}
use Rattle.shore_world.specs.EventMoves.{OfCheckpoint, OfManager, PlainMove, moves_among}
use Rattle.shore_shared.specs.Heard.{AwaitsLock, AwaitsLog, Hears, IsAnswered, asked_behind}
use Rattle.shore_shared.specs.Told.{AreTold}
use Rattle.shore_shared.proofs.Durable.{by_checkpoint}
use Rattle.shore_shared.proofs.Standing.{equal}
use Rattle.shore_shared.proofs.WaitsOn.{IsWaiting, call_never, call_own, event_on, resume_never, resume_own, same}

-- what a session hears as its wait is taken back: nothing if there was none
abbrev pub heard_back : Step → List Heard → List Heard
heard_back made.Nothing hs = hs
heard_back (made.Done a) hs = record { asked = None; step = made.Done a } ∷ hs
heard_back (made.Waits w) hs = record { asked = None; step = made.Waits w } ∷ hs
heard_back (made.Refused f) hs = record { asked = None; step = made.Refused f } ∷ hs

-- what a session hears of moves
abbrev pub heard_in : ℕ → List PlainMove → List Heard
heard_in n [] = []
heard_in n (OfManager (Called session c step) ∷ ms) = if session == n then record { asked = Some c; step = step } ∷ heard_in n ms else heard_in n ms
heard_in n (OfManager (Resumed session step) ∷ ms) = if session == n then record { asked = None; step = step } ∷ heard_in n ms else heard_in n ms
heard_in n (OfManager (GaveUp session step) ∷ ms) = if session == n then heard_back step (heard_in n ms) else heard_in n ms
heard_in n (OfManager (Forced k) ∷ ms) = heard_in n ms
heard_in n (OfManager HasFailed ∷ ms) = heard_in n ms
heard_in n (OfManager (TicketAsked ticket answer) ∷ ms) = heard_in n ms
heard_in n (OfCheckpoint step ∷ ms) = heard_in n ms

abbrev is_wait : Step → Bool
is_wait (made.Waits w) = true
is_wait (made.Done a) = false
is_wait (made.Refused f) = false
is_wait made.Nothing = false

-- It is never gone on with nothing while a call waits, nor does a call come to nothing.
abbrev pub NeverIdle : Bool → List Heard → Type 0
NeverIdle waits [] = Unit {0}
NeverIdle waits (h ∷ hs) = (h.step ≡ made.Nothing → (h.asked ≡ None) × (waits ≡ false)) × NeverIdle (is_wait h.step) hs

what_waits : (step : Step) → is_wait step ≡ true → (wait : Wait) × (step ≡ made.Waits wait)
what_waits (made.Waits w) is = (w, refl)
what_waits (made.Done a) is = absurd (true≢false (sym is))
what_waits (made.Refused f) is = absurd (true≢false (sym is))
what_waits made.Nothing is = absurd (true≢false (sym is))

not_true : (b : Bool) → (b ≡ true → ⊥) → b ≡ false
not_true true never = absurd (never refl)
not_true false never = refl

module _ (g : Geometry) (n : ℕ) (s new : State) (waits : Bool) (waiting : waits ≡ true → IsWaiting s n) (ms : List PlainMove)
    (later : (on : Bool) → (on ≡ true → IsWaiting new n) → NeverIdle on (heard_in n ms)) where
  by_call : (session : ℕ) (c : Call) (step : Step) → EventMoves g s (Called session c step) new → (b : Bool) → (session == n) ≡ b
      → NeverIdle waits (if b then record { asked = Some c; step = step } ∷ heard_in n ms else heard_in n ms)
  by_call session c step h true is = (
    (λ nothing. absurd (call_never g s new session c step nothing h.1)),
    later (is_wait step) (λ on. let w = what_waits step on in subst (IsWaiting new) (equal session n is) (call_own g s new session c step w.0 w.1 h.1)),
  )
  by_call session c step h false is =
      later waits (λ on. event_on g s new (Called session c step) n (λ e. true≢false (sym (eq-eqb session n (sym e)) ∙ is)) h (waiting on))

  by_resume : (session : ℕ) (step : Step) → EventMoves g s (Resumed session step) new → (b : Bool) → (session == n) ≡ b
      → NeverIdle waits (if b then record { asked = None; step = step } ∷ heard_in n ms else heard_in n ms)
  by_resume session step h true is = (
    (λ nothing. (refl, not_true waits (λ on. resume_never g s new session step nothing (subst (IsWaiting s) (sym (equal session n is)) (waiting on)) h))),
    later (is_wait step) (λ on. let w = what_waits step on in subst (IsWaiting new) (equal session n is) (resume_own g s new session step w.0 w.1 h)),
  )
  by_resume session step h false is =
      later waits (λ on. event_on g s new (Resumed session step) n (λ e. true≢false (sym (eq-eqb session n (sym e)) ∙ is)) h (waiting on))

  -- a wait that is taken back is refused, or nobody hears of it
  own_back : (session : ℕ) (step : Step) → session ≡ n → GiveUpStep s session step new → NeverIdle waits (heard_back step (heard_in n ms))
  own_back session made.Nothing own (inl h) = absurd (cc h.told)
  own_back session made.Nothing own (inr h) = later waits (λ on. same s new n (ap (λ (x : State). x.waiting) h.is) (waiting on))
  own_back session (made.Refused f) own h = ((λ nothing. absurd (cc nothing)), later false (λ on. absurd (true≢false (sym on))))
  own_back session (made.Done a) own (inl h) = absurd (cc h.told)
  own_back session (made.Done a) own (inr h) = absurd (cc h.told)
  own_back session (made.Waits w) own (inl h) = absurd (cc h.told)
  own_back session (made.Waits w) own (inr h) = absurd (cc h.told)

  by_give_up : (session : ℕ) (step : Step) → EventMoves g s (GaveUp session step) new → (b : Bool) → (session == n) ≡ b
      → NeverIdle waits (if b then heard_back step (heard_in n ms) else heard_in n ms)
  by_give_up session step h true is = own_back session step (equal session n is) h
  by_give_up session step h false is =
      later waits (λ on. event_on g s new (GaveUp session step) n (λ e. true≢false (sym (eq-eqb session n (sym e)) ∙ is)) h (waiting on))

  by_event : (e : ManagerEvent) → EventMoves g s e new → NeverIdle waits (heard_in n (OfManager e ∷ ms))
  by_event (Called session c step) h = by_call session c step h (session == n) refl
  by_event (Resumed session step) h = by_resume session step h (session == n) refl
  by_event (GaveUp session step) h = by_give_up session step h (session == n) refl
  by_event (Forced k) h = later waits (λ on. event_on g s new (Forced k) n tt h (waiting on))
  by_event HasFailed h = later waits (λ on. event_on g s new HasFailed n tt h (waiting on))
  by_event (TicketAsked ticket answer) h = later waits (λ on. event_on g s new (TicketAsked ticket answer) n tt h (waiting on))

never_idle : (g : Geometry) (n : ℕ) (m : CheckpointedState) (moves : List CheckpointedMove) (last : CheckpointedState) (entries : List Entry) → CheckpointedMoves g m moves last entries
    → (waits : Bool) → (waits ≡ true → IsWaiting m.state n) → NeverIdle waits (heard_in n (moves_among moves))
never_idle g n m [] last entries is waits waiting = tt
never_idle g n m (Goes (Manage e works) ∷ moves) last entries (new, more, steps, rest, made_so) waits waiting =
    by_event g n m.state new.state waits waiting (moves_among moves) (λ on there. never_idle g n new moves last more rest on there) e steps.0.0
never_idle g n m (Goes (Tend works) ∷ moves) last entries (new, more, steps, rest, made_so) waits waiting =
    never_idle g n new moves last more rest waits (λ on. same m.state new.state n (ap (λ (x : State). x.waiting) steps.0.0) (waiting on))
never_idle g n m (Checkpoints step ∷ moves) last entries (new, more, steps, rest, made_so) waits waiting =
    never_idle g n new moves last more rest waits (λ on. same m.state new.state n (by_checkpoint m step new steps).1 (waiting on))

pub never_idle_at_first : (g : Geometry) (n : ℕ) (m : CheckpointedState) (moves : List CheckpointedMove) (last : CheckpointedState) (entries : List Entry) → CheckpointedMoves g m moves last entries
    → NeverIdle false (heard_in n (moves_among moves))
never_idle_at_first g n m moves last entries is = never_idle g n m moves last entries is false (λ on. absurd (true≢false (sym on)))

-- ---- nor is anything refused so

abbrev pub NeverNotQuiet : List Heard → Type 0
NeverNotQuiet [] = Unit {0}
NeverNotQuiet (h ∷ hs) = (h.step ≢ made.Refused fault.NotQuiet) × NeverNotQuiet hs

abbrev IsNotRefusedSo : ManagerEvent → Type 0
IsNotRefusedSo (Called session c step) = step ≢ made.Refused fault.NotQuiet
IsNotRefusedSo (Resumed session step) = step ≢ made.Refused fault.NotQuiet
IsNotRefusedSo (GaveUp session step) = step ≢ made.Refused fault.NotQuiet
IsNotRefusedSo (Forced k) = Unit {0}
IsNotRefusedSo HasFailed = Unit {0}
IsNotRefusedSo (TicketAsked ticket answer) = Unit {0}

module _ (g : Geometry) (o : Opening) (found : List LogRecord) (es : List Entry) (s new : State) (k : IsStateAfter o found es s) (asks : LockWaitsMayAsk g s) where
  no_deadlock : (cycle : List ℕ) → fault.NotQuiet ≢ fault.Deadlock cycle
  no_deadlock cycle e = absurd (cc e)

  ample : fault.NotQuiet ≢ fault.Memory
  ample e = absurd (cc e)

  event_refuses : (e : ManagerEvent) → EventMoves g s e new → IsNotRefusedSo e
  event_refuses (Called session c step) h = λ is. (settled_call_earned g o found es s k session c fault.NotQuiet new no_deadlock ample (subst (λ x. SettledCall g s session c x new) is h.1)).3
  event_refuses (Resumed session step) h = λ is.
      ⊎_elim (λ failed. absurd (cc failed.1)) (λ again. again.3)
      (settled_resume_earned g o found es s k session asks fault.NotQuiet new no_deadlock ample (subst (λ x. SettledResume g s session x new) is h)).3
  event_refuses (GaveUp session step) (inl h) = λ is. absurd (cc (is, h.told))
  event_refuses (GaveUp session step) (inr h) = λ is. absurd (cc (is, h.told))
  event_refuses (Forced n) h = tt
  event_refuses HasFailed h = tt
  event_refuses (TicketAsked ticket answer) h = tt

heard_on : (h : Heard) (hs : List Heard) → h.step ≢ made.Refused fault.NotQuiet → NeverNotQuiet hs → (b : Bool) → NeverNotQuiet (if b then h ∷ hs else hs)
heard_on h hs other later true = (other, later)
heard_on h hs other later false = later

heard_back_on : (step : Step) (hs : List Heard) → step ≢ made.Refused fault.NotQuiet → NeverNotQuiet hs → NeverNotQuiet (heard_back step hs)
heard_back_on made.Nothing hs other later = later
heard_back_on (made.Done a) hs other later = (other, later)
heard_back_on (made.Waits w) hs other later = (other, later)
heard_back_on (made.Refused f) hs other later = (other, later)

back_on : (step : Step) (hs : List Heard) → step ≢ made.Refused fault.NotQuiet → NeverNotQuiet hs → (b : Bool) → NeverNotQuiet (if b then heard_back step hs else hs)
back_on step hs other later true = heard_back_on step hs other later
back_on step hs other later false = later

heard_behind : (n : ℕ) (ms : List PlainMove) (e : ManagerEvent) → IsNotRefusedSo e → NeverNotQuiet (heard_in n ms) → NeverNotQuiet (heard_in n (OfManager e ∷ ms))
heard_behind n ms (Called session c step) other later = heard_on (record { asked = Some c; step = step }) (heard_in n ms) other later (session == n)
heard_behind n ms (Resumed session step) other later = heard_on (record { asked = None; step = step }) (heard_in n ms) other later (session == n)
heard_behind n ms (GaveUp session step) other later = back_on step (heard_in n ms) other later (session == n)
heard_behind n ms (Forced k) other later = later
heard_behind n ms HasFailed other later = later
heard_behind n ms (TicketAsked ticket answer) other later = later

pub never_not_quiet : (g : Geometry) (ring_bytes : ℕ) (o : Opening) (found : List LogRecord) (es : List Entry) (m : CheckpointedState) → IsAtCheckpoints g ring_bytes o found es m
    → (moves : List CheckpointedMove) (last : CheckpointedState) (entries : List Entry) → CheckpointedMoves g m moves last entries → (n : ℕ) → NeverNotQuiet (heard_in n (moves_among moves))
never_not_quiet g ring_bytes o found es m k [] last entries is n = tt
never_not_quiet g ring_bytes o found es m k (Goes (Manage e works) ∷ moves) last entries (new, more, steps, rest, made_so) n =
    heard_behind n (moves_among moves) e (event_refuses g o found es m.state new.state k.under_way.state k.under_way.asks e steps.0.0)
    (never_not_quiet g ring_bytes o found (es ++ entries_of_move m (Goes (Manage e works)) new) new (step_goes g ring_bytes o found es m k (Goes (Manage e works)) new steps) moves last more rest n)
never_not_quiet g ring_bytes o found es m k (Goes (Tend works) ∷ moves) last entries (new, more, steps, rest, made_so) n =
    never_not_quiet g ring_bytes o found (es ++ entries_of_move m (Goes (Tend works)) new) new (step_goes g ring_bytes o found es m k (Goes (Tend works)) new steps) moves last more rest n
never_not_quiet g ring_bytes o found es m k (Checkpoints step ∷ moves) last entries (new, more, steps, rest, made_so) n =
    never_not_quiet g ring_bytes o found (es ++ entries_of_move m (Checkpoints step) new) new (step_goes g ring_bytes o found es m k (Checkpoints step) new steps) moves last more rest n

-- ---- what a client is answered

abbrev the_fault : Fault → Result Answer Fault → Fault
the_fault other (Ok a) = other
the_fault other (Err f) = f

answered_quiet : (step : Step) (r : Result Answer Fault) → IsAnswered step r → r ≡ Err fault.NotQuiet → (step ≡ made.Refused fault.NotQuiet) ⊎ (step ≡ made.Nothing)
answered_quiet (made.Done a) r is e = absurd (cc (is, e))
answered_quiet (made.Refused f) r is e = inl (ap made.Refused (ap (the_fault f) (sym is.0 ∙ e)))
answered_quiet (made.Waits w) r is e = absurd is
answered_quiet made.Nothing r is e = inr refl

-- it is asked anew, or gone on with as it waits
abbrev IsNext : Call → Bool → Option Call → Type 0
IsNext c waits next = (next ≡ Some c) ⊎ ((next ≡ None) × (waits ≡ true))

next_of : (c : Call) (step : Step) → AwaitsLog step ⊎ AwaitsLock step → IsNext c (is_wait step) (asked_behind c step)
next_of c step (inl (number, inl waits)) = inr (ap (asked_behind c) waits, ap is_wait waits)
next_of c step (inl (number, inr needs)) = inl (ap (asked_behind c) needs)
next_of c step (inr (granule, waits)) = inr (ap (asked_behind c) waits, ap is_wait waits)

busy : (c : Call) (waits : Bool) (next asked : Option Call) → IsNext c waits next → asked ≡ next → (asked ≡ None) × (waits ≡ false) → ⊥
busy c waits next asked (inl some) is idle = absurd (cc (some, is, idle.0))
busy c waits next asked (inr none) is idle = true≢false (sym none.1 ∙ idle.1)

module _ (failed : Bool) (c : Call) where
  quiet : (waits : Bool) (next : Option Call) (hs : List Heard) (r : Result Answer Fault) → IsNext c waits next → NeverIdle waits hs → NeverNotQuiet hs → Hears failed c next hs r → r ≡ Err fault.NotQuiet → ⊥
  quiet waits next [] r how idle other (first, lacks) e = absurd (cc (lacks, e))
  quiet waits next (h ∷ hs) r how idle other (asked, inl (none, answered)) e =
      ⊎_elim (λ refused. other.0 refused) (λ nothing. busy c waits next h.asked how asked (idle.0 nothing)) (answered_quiet h.step r answered e)
  quiet waits next (h ∷ hs) r how idle other (asked, inr (inl (none, awaits, device, found))) e = absurd (cc (device, e))
  quiet waits next (h ∷ hs) r how idle other (asked, inr (inr (awaits, hears))) e =
      quiet (is_wait h.step) (asked_behind c h.step) hs r (next_of c h.step awaits) idle.1 other.1 hears e

-- of what is heard first, and of the rest
idle_apart : (waits : Bool) (first rest : List Heard) → NeverIdle waits (first ++ rest) → NeverIdle waits first × ((on : Bool) × NeverIdle on rest)
idle_apart waits [] rest is = (tt, (waits, is))
idle_apart waits (h ∷ first) rest (here, later) = let more = idle_apart (is_wait h.step) first rest later in ((here, more.0), more.1)

quiet_apart : (first rest : List Heard) → NeverNotQuiet (first ++ rest) → NeverNotQuiet first × NeverNotQuiet rest
quiet_apart [] rest is = (tt, is)
quiet_apart (h ∷ first) rest (here, later) = let more = quiet_apart first rest later in ((here, more.0), more.1)

pub all_quiet : (failed waits : Bool) (es : List Exchange) (heard : List Heard) → NeverIdle waits heard → NeverNotQuiet heard → AreTold failed es heard → All (λ e. e.reply ≢ Err fault.NotQuiet) es
all_quiet failed waits [] heard idle other told k d low = absurd (omega (arith, low))
all_quiet failed waits (e ∷ es) heard idle other (first, rest, parts, hears, told) zero d low =
    let split = idle_apart waits first rest (subst (NeverIdle waits) parts idle) in
    let apart = quiet_apart first rest (subst NeverNotQuiet parts other) in
    quiet failed e.call waits (Some e.call) first e.reply (inl refl) split.0 apart.0 hears
all_quiet failed waits (e ∷ es) heard idle other (first, rest, parts, hears, told) (suc k) d low =
    let split = idle_apart waits first rest (subst (NeverIdle waits) parts idle) in
    let apart = quiet_apart first rest (subst NeverNotQuiet parts other) in
    all_quiet failed split.1.0 es rest split.1.1 apart.1 told k d (omega (arith, low))
