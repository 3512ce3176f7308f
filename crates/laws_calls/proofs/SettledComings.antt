-- What a call and a resume come to as a whole, as events of the sessions; so each event.
use Rattle.std.proofs.Common.{◌≡◌, inl, inr, ⊎_elim, ◌++◌, ◌∷◌, ◌≤◌, ℕ, List, [], refl, sym, ap, subst, ◌∙◌, append_assoc, length, take}
use Rattle.std.specs.List.{AllByRecursion}
use Rattle.std.proofs.lemmas.List.{take-append-le}
use Rattle.shore_types.specs.declared.layout.Geometry.{Geometry}
use Rattle.shore_model.specs.declared.calls.Call.{Call}
use Rattle.shore_model.specs.declared.histories.Decision.{Decision}
use Rattle.shore_model.specs.declared.histories.Decision.TheVariants as decision
use Rattle.shore_model.specs.declared.histories.Entry.{Entry}
use Rattle.shore_model.specs.declared.histories.Opening.{Opening}
use Rattle.shore_model.specs.declared.log_records.LogRecord.{LogRecord}
use Rattle.laws_lives.specs.LogPrefixes.{IsDecidedIn}
use Rattle.laws_lives.specs.ManagerSteps.{decision_resolved}
use Rattle.laws_room.specs.Claims.{SlotCounts}
use Rattle.shore_cycles.specs.declared.victims.Victim.{Victim}
use Rattle.laws_lives.specs.SessionSteps.{AnswerAbort, Ask, AnswerInDoubt, AnswerPrepare, AnswerResolve, AppendCommit, AppendPrepare, AppendResolve, AppendRollback, BeginTxn, Doom, EndRollback, GiveReply, MoveLocks, PutBack, RefuseCall, SessionEvent, entries_by}
use Rattle.laws_lives.specs.Sessions.{Sessions}
use Rattle.shore_model.specs.declared.step.Step.{Step}
use Rattle.laws_calls.proofs.Comings.{like_itself, nothing_comes, session_resume_comes}
use Rattle.laws_calls.proofs.Links.{ComesBy, Goes, GoesBy, IsDurable, IsLike, Writes, TellTickets, TellsNoTicket, ask_goes, no_tickets}
use Rattle.laws_calls.proofs.LongerLogs.{GoesFurther, call_further, further_then, resume_further, victims_further, settles_further}
use Rattle.laws_calls.proofs.SettledStates.{HasComeTo, call_entries, is_broken, its_withdraws, resume_comes, resume_entries, ended_entries, settles_stays, waiting_call_comes, adds_nothing}
use Rattle.laws_calls.proofs.SettledWaits.{call_has_asked, resume_has_waited}
use Rattle.laws_calls.proofs.VictimSteps.{gives_up_comes, nothing_told, told_comes, victim_comes, victim_stays, withdrawn_comes}
use Rattle.laws_calls.specs.CallHistories.{txn_of}
use Rattle.laws_calls.specs.CallSteps.{CallStep, ResumeStep}
use Rattle.laws_calls.specs.Events.{Called, Forced, GaveUp, HasFailed, IsStateAfter, ManagerEvent, Resumed, EventMoves, entries_of, entries_of_resume, TicketAsked}
use Rattle.laws_calls.specs.Settling.{SettledCall, SettledResume, Settles}
use Rattle.laws_calls.specs.States.{State}
use Rattle.laws_calls.specs.Victims.{TakesVictims}
use Rattle.laws_calls.proofs.CallComings.{session_call_comes}
use Rattle.laws_calls.specs.LockedStates.{entries_of_call}
use Rattle.laws_calls.proofs.ToldEntries.{told_of_call}
use Rattle.shore_model.specs.declared.histories.Entry.TheVariants.{Decided, Exchanged, Asked}
use Rattle.shore_model.specs.declared.step.Step.TheVariants.{Done, Refused, Waits, Nothing}

-- ---- the same events from a state that is like the one where they began

-- a state with another's sessions, slots and log
abbrev beside : State → State → State
beside t x = record t { sessions = x.sessions; counts = x.counts; log = x.log; stream_bytes = x.stream_bytes }

like_beside : (t x : State) → IsLike t x → beside t x ≡ t
like_beside t x h =
    ap (λ (y : Sessions). record t { sessions = y; counts = x.counts; log = x.log; stream_bytes = x.stream_bytes }) h.sessions
    ∙ ap (λ (y : SlotCounts). record t { counts = y; log = x.log; stream_bytes = x.stream_bytes }) h.counts
    ∙ ap (λ (y : List LogRecord). record t { log = y; stream_bytes = x.stream_bytes }) h.log
    ∙ ap (λ y. record t { stream_bytes = y }) h.stream

module _ (g : Geometry) (t : State) where
  writes_beside : (s new : State) → Writes g s new → Writes g (beside t s) (beside t new)
  writes_beside s new (inl same) = inl same
  writes_beside s new (inr (inl h)) = inr (inl (record { txn = h.txn; log = h.log; counts = h.counts }))
  writes_beside s new (inr (inr (inl h))) =
      inr (inr (inl (record { txn = h.txn; id = h.id; image = h.image; log = h.log; inside = h.inside; fits = h.fits; grows = h.grows })))
  writes_beside s new (inr (inr (inr (inl h)))) = inr (inr (inr (inl (record { txn = h.txn; log = h.log; counts = h.counts }))))
  writes_beside s new (inr (inr (inr (inr (inl h))))) =
      inr (inr (inr (inr (inl (record { txn = h.txn; id = h.id; image = h.image; next = h.next; log = h.log; logged = h.logged; counts = h.counts })))))
  writes_beside s new (inr (inr (inr (inr (inr h))))) = inr (inr (inr (inr (inr (record { txn = h.txn; says = h.says; decides = h.decides; log = h.log; counts = h.counts })))))

  goes_beside : (s : State) (e : SessionEvent) (new : State) → Goes g s e new → Goes g (beside t s) e (beside t new)
  goes_beside s e new h = record {
    moves = h.moves;
    log = h.log;
    durable = refl;
    stream = h.stream;
    waiting = refl;
    failed = refl;
    fits = h.fits;
    admits = h.admits;
    room = record { room = h.room.room; after = h.room.after; kept = h.room.kept; stream = h.room.stream; last = h.room.last };
    writes = writes_beside s new h.writes;
    few = h.few;
    numbers = h.numbers;
  }

  by_beside : (s : State) (events : List SessionEvent) (new : State) (made : List Entry) → GoesBy g s events new made → GoesBy g (beside t s) events (beside t new) made
  by_beside s [] new made h = (ap (beside t) h.0, h.1)
  by_beside s (e ∷ events) new made h = (beside t h.0, h.1, goes_beside s e h.0 h.2, by_beside h.0 events new h.1 h.3, h.4)

-- ---- events, and then others

by_then : (g : Geometry) (s : State) (xs : List SessionEvent) (mid : State) (made : List Entry) → GoesBy g s xs mid made → (ys : List SessionEvent) (new : State) (later : List Entry)
    → GoesBy g mid ys new later → GoesBy g s (xs ++ ys) new (made ++ later)
by_then g s [] mid made h ys new later k =
    subst (λ (m : List Entry). GoesBy g s ys new (m ++ later)) (sym h.1) (subst (λ (x : State). GoesBy g x ys new later) h.0 k)
by_then g s (e ∷ xs) mid made h ys new later k =
    (h.0, h.1 ++ later, h.2, by_then g h.0 xs mid h.1 h.3 ys new later k, ap (λ m. m ++ later) h.4 ∙ append_assoc (entries_by s.sessions e) h.1 later)

all_then : (P : SessionEvent → Type 0) (xs ys : List SessionEvent) → AllByRecursion P xs → AllByRecursion P ys → AllByRecursion P (xs ++ ys)
all_then P [] ys h k = k
all_then P (x ∷ xs) ys h k = (h.0, all_then P xs ys h.1 k)

-- a decision that is durable once the log has gone on was durable before
decided_back : (s mid : State) → GoesFurther s mid → s.durable ≤ length s.log → (d : Decision) → IsDecidedIn (take mid.durable mid.log) d → IsDecidedIn (take s.durable s.log) d
decided_back s mid on within d h =
    subst (λ rs. IsDecidedIn rs d) (ap (λ n. take n mid.log) on.durable ∙ ap (take s.durable) on.on.1 ∙ take-append-le s.durable s.log on.on.0 within) h

durable_back : (s mid : State) → GoesFurther s mid → s.durable ≤ length s.log → (e : SessionEvent) → IsDurable mid e → IsDurable s e
durable_back s mid on within (Ask ticket answer) h = tt
durable_back s mid on within (MoveLocks held) h = tt
durable_back s mid on within (BeginTxn session) h = tt
durable_back s mid on within (GiveReply a c reply) h = tt
durable_back s mid on within (AppendCommit a ticket) h = tt
durable_back s mid on within (PutBack a kept e r) h = tt
durable_back s mid on within (Doom a) h = tt
durable_back s mid on within (AnswerAbort a) h = tt
durable_back s mid on within (RefuseCall session t c f) h = tt
durable_back s mid on within (AppendPrepare a global granules) h = tt
durable_back s mid on within (AnswerPrepare session t global) h = decided_back s mid on within (decision.Prepare t global) h
durable_back s mid on within (AppendResolve a global) h = tt
durable_back s mid on within (AppendRollback a global) h = tt
durable_back s mid on within (EndRollback a) h = tt
durable_back s mid on within (AnswerResolve session r) h = decided_back s mid on within (decision_resolved r) h
durable_back s mid on within (AnswerInDoubt session t pairs) h = tt

all_back : (s mid : State) → GoesFurther s mid → s.durable ≤ length s.log → (events : List SessionEvent) → AllByRecursion (IsDurable mid) events → AllByRecursion (IsDurable s) events
all_back s mid on within [] h = tt
all_back s mid on within (e ∷ events) h = (durable_back s mid on within e h.0, all_back s mid on within events h.1)

like_then : (a b c : State) → IsLike a b → IsLike b c → IsLike a c
like_then a b c h k = record { sessions = k.sessions ∙ h.sessions; log = k.log ∙ h.log; counts = k.counts ∙ h.counts; stream = k.stream ∙ h.stream }

-- events that only exchange tell of no ticket
abbrev IsExchange : Entry → Type 0
IsExchange (Exchanged session txn x) = Unit {0}
IsExchange (Decided d) = ⊥
IsExchange (Asked ticket answer) = ⊥

exchanges_behind : (xs ys : List Entry) → AllByRecursion IsExchange (xs ++ ys) → AllByRecursion IsExchange ys
exchanges_behind [] ys all = all
exchanges_behind (x ∷ xs) ys all = exchanges_behind xs ys all.1

exchanges_tell_none : (g : Geometry) (s : State) (events : List SessionEvent) (new : State) (made : List Entry) → GoesBy g s events new made → AllByRecursion IsExchange made → AllByRecursion TellsNoTicket events
exchanges_tell_none g s [] new made h all = tt
exchanges_tell_none g s (e ∷ events) new made h all =
    let its = subst (AllByRecursion IsExchange) h.4 all in
    (none e its, exchanges_tell_none g h.0 events new h.1 h.3 (exchanges_behind (entries_by s.sessions e) h.1 its))
  where
    none : (e : SessionEvent) → AllByRecursion IsExchange (entries_by s.sessions e ++ h.1) → TellsNoTicket e
    none (AppendCommit a ticket) its = absurd its.0
    none (Ask ticket answer) its = absurd its.0
    none _ its = tt

tickets_then : (s : State) (xs ys : List SessionEvent) → TellTickets s.durable s.log xs → AllByRecursion TellsNoTicket ys → TellTickets s.durable s.log (xs ++ ys)
tickets_then s [] ys h none = no_tickets s.durable s.log ys none
tickets_then s (x ∷ xs) ys h none = (h.0, all_then TellsNoTicket xs ys h.1 none)

-- one after another, of which the later only exchange
pub comes_on : (g : Geometry) (s mid new : State) (made later : List Entry) → s.durable ≤ length s.log → AllByRecursion IsExchange later → GoesFurther s mid → ComesBy g s mid made → ComesBy g mid new later
    → ComesBy g s new (made ++ later)
comes_on g s mid new made later within plain on h k =
    let like = like_then h.mid mid k.start h.after k.before in
    record {
      start = h.start;
      before = h.before;
      events = h.events ++ k.events;
      durable = all_then (IsDurable s) h.events k.events h.durable (all_back s mid on within k.events k.durable);
      tickets = tickets_then s h.events k.events h.tickets (exchanges_tell_none g k.start k.events k.mid later k.goes plain);
      mid = beside h.mid k.mid;
      goes =
          by_then g h.start h.events h.mid made h.goes k.events (beside h.mid k.mid) later
          (subst (λ (x : State). GoesBy g x k.events (beside h.mid k.mid) later) (like_beside h.mid k.start like) (by_beside g h.mid k.start k.events k.mid later k.goes));
      after = record { sessions = k.after.sessions; log = k.after.log; counts = k.after.counts; stream = k.after.stream };
    }

-- ---- victims

pub victims_come : (g : Geometry) (o : Opening) (found : List LogRecord) (es : List Entry) (s : State) → IsStateAfter o found es s → (t : ℕ) (vs : List Victim) (new : State) → TakesVictims s t vs new
    → ComesBy g s new []
victims_come g o found es s k t [] new h = nothing_comes g s new (subst (IsLike s) (sym h) (like_itself s))
victims_come g o found es s k t (v ∷ vs) new h =
    comes_on g s h.0 new [] [] k.forced.most tt (victims_further s t (v ∷ []) h.0 (h.0, h.1, refl)) (victim_comes o found es s k g t v h.0 h.1)
    (victims_come g o found es h.0 (victim_stays o found es s k t v h.0 h.1) t vs new h.2)

-- ---- rounds

module _ (g : Geometry) (o : Opening) (found : List LogRecord) (session n : ℕ) (c : Call) (es : List Entry) (start : State) (within : start.durable ≤ length start.log) where
  -- events have led so far
  record HasComeBy (step : Step) (s : State) : Type 0 where
    to : HasComeTo o found session n c es step s
    by : ComesBy g start s (ended_entries session n c step)
    on : GoesFurther start s

  ended_exchange : (step : Step) → AllByRecursion IsExchange (ended_entries session n c step)
  ended_exchange (Done answer) = (tt, tt)
  ended_exchange (Refused f) = (tt, tt)
  ended_exchange (Waits wait) = tt
  ended_exchange Nothing = tt

  settles_comes : (s : State) (first : Step) (rounds : List (List Victim)) (step : Step) (new : State) → HasComeBy first s → Settles g s session first rounds step new
      → ComesBy g start new (ended_entries session n c step)
  settles_comes s first [] step new k h =
      subst (λ (x : State). ComesBy g start x (ended_entries session n c step)) (sym h.2) (subst (λ (x : Step). ComesBy g start s (ended_entries session n c x)) (sym h.1) k.by)
  settles_comes s first (vs ∷ rounds) step new k h =
      let a = h.0 in
      let at = h.1 in
      let broken = h.2 in
      let b = is_broken o found session n c es first s k.to a at broken h.3 h.4 vs h.5 in
      let on = further_then start s broken k.on (victims_further s a.txn vs broken h.5) in
      let come : ComesBy g start broken [] =
      comes_on g start s broken [] [] within tt k.on (subst (λ (x : Step). ComesBy g start s (ended_entries session n c x)) h.4 k.by) (victims_come g o found es s b.before a.txn vs broken h.5) in
      let then : (later : Step) (x : State) → ComesBy g broken x (entries_of_resume broken session later) → ComesBy g start x (ended_entries session n c later) =
      λ later x more. comes_on g start broken x [] (ended_entries session n c later) within (ended_exchange later) on come
      (subst (ComesBy g broken x) (resume_entries o found session n c es broken b.stays at b.waits later) more) in
      ⊎_elim
      (λ ends. ⊎_elim
      (λ still. subst (λ (x : State). ComesBy g start x (ended_entries session n c step)) (sym still.3)
      (subst (λ (x : Step). ComesBy g start broken (ended_entries session n c x)) (sym (still.2 ∙ h.4)) come))
      (λ end. ⊎_elim
      (λ told. then step new (told_comes o found es broken b.stays g session step new told))
      (λ back. then step new
      (withdrawn_comes o found es broken b.stays b.txn session b.of b.waits.waited b.waits.there b.waits.of at b.waits.lock g step new
      (its_withdraws o found session n c es broken b.stays at b.waits a b.txn b.its b.number b.of step new back.1)))
      end)
      ends.1)
      (λ goes. settles_comes goes.1 goes.0 rounds step new
      (record {
        to = resume_comes o found session n c es broken b.stays at b.waits g goes.0 goes.1 goes.3;
        by = then goes.0 goes.1 (session_resume_comes g o found es broken b.stays session goes.0 goes.1 goes.3);
        on = further_then start broken goes.1 on (resume_further g broken session goes.0 goes.1 goes.3);
      })
      goes.4)
      h.6

-- ---- calls, resumes and events

module _ (g : Geometry) (o : Opening) (found : List LogRecord) (es : List Entry) (s : State) (k : IsStateAfter o found es s) where
  settled_by : (session : ℕ) (c : Call) (step : Step) (new : State) (first : Step) (mid : State) → CallStep g s session c first mid → (rounds : List (List Victim))
      → Settles g mid session first rounds step new → ComesBy g s new (entries_of_call s session c step new)
  settled_by session c step new first mid calls [] h =
      subst (λ (x : State). ComesBy g s x (entries_of_call s session c step x)) (sym h.2)
      (subst (λ (x : Step). ComesBy g s mid (entries_of_call s session c x mid)) (sym h.1) (session_call_comes g o found es s k session c first mid calls))
  settled_by session c step new first mid calls (vs ∷ rounds) h =
      let n = txn_of s.sessions session in
      let asked = call_has_asked g s session c h.1 first mid h.4 calls in
      let to = waiting_call_comes o found es s k g session c first mid h.1 h.4 calls in
      let come = settles_stays o found session n c g es mid first (vs ∷ rounds) step new to h in
      let told = subst (λ made. IsStateAfter o found (es ++ made) new) (call_entries s session c asked.lock asked.asked step come.undecided) come.stays in
      subst (ComesBy g s new)
      (call_entries s session c asked.lock asked.asked step come.undecided
      ∙ told_of_call o found es s new session c step k.sessions told.sessions
      (further_then s mid new (call_further g s session c first mid calls) (settles_further g mid session first (vs ∷ rounds) step new h)).on)
      (settles_comes g o found session n c es s k.forced.most mid first (vs ∷ rounds) step new
      (record {
        to = to;
        by = subst (ComesBy g s mid) (adds_nothing s mid session c first h.1 h.4) (session_call_comes g o found es s k session c first mid calls);
        on = call_further g s session c first mid calls;
      })
      h)

  pub settled_call_comes : (session : ℕ) (c : Call) (step : Step) (new : State) → SettledCall g s session c step new → ComesBy g s new (entries_of_call s session c step new)
  settled_call_comes session c step new h = settled_by session c step new h.first h.mid h.calls h.rounds h.settles

  went_by : (session : ℕ) (step : Step) (new : State) (first : Step) (mid : State) → ResumeStep g s session first mid → (rounds : List (List Victim))
      → Settles g mid session first rounds step new → ComesBy g s new (entries_of_resume s session step)
  went_by session step new first mid resumes [] h =
      subst (λ (x : State). ComesBy g s x (entries_of_resume s session step)) (sym h.2)
      (subst (λ (x : Step). ComesBy g s mid (entries_of_resume s session x)) (sym h.1) (session_resume_comes g o found es s k session first mid resumes))
  went_by session step new first mid resumes (vs ∷ rounds) h =
      let n = txn_of s.sessions session in
      let was = resume_has_waited g s session h.1 first mid h.4 resumes in
      let its = resume_entries o found session n was.call es s k was.at was.waits in
      subst (ComesBy g s new) (sym (its step))
      (settles_comes g o found session n was.call es s k.forced.most mid first (vs ∷ rounds) step new
      (record {
        to = resume_comes o found session n was.call es s k was.at was.waits g first mid resumes;
        by = subst (ComesBy g s mid) (its first) (session_resume_comes g o found es s k session first mid resumes);
        on = resume_further g s session first mid resumes;
      })
      h)

  pub settled_resume_comes : (session : ℕ) (step : Step) (new : State) → SettledResume g s session step new → ComesBy g s new (entries_of_resume s session step)
  settled_resume_comes session step new (inl told) = told_comes o found es s k g session step new told
  settled_resume_comes session step new (inr (inl still)) = session_resume_comes g o found es s k session step new still.0
  settled_resume_comes session step new (inr (inr on)) = went_by session step new on.first on.mid on.resumes on.rounds on.settles

  pub session_event_comes : (new : State) (e : ManagerEvent) → EventMoves g s e new → ComesBy g s new (entries_of s e new)
  session_event_comes new (Called session c step) h = settled_call_comes session c step new h.1
  session_event_comes new (Resumed session step) h = settled_resume_comes session step new h
  session_event_comes new (GaveUp session step) (inl h) = gives_up_comes o found es s k session step new h g
  session_event_comes new (GaveUp session step) (inr h) =
      let nothing : [] ≡ entries_of_resume s session step = sym (nothing_told s session) ∙ ap (entries_of_resume s session) (sym h.told) in
      subst (ComesBy g s new) nothing (nothing_comes g s new (subst (IsLike s) (sym h.is) (like_itself s)))
  session_event_comes new (Forced n) h = nothing_comes g s new (subst (IsLike s) (sym h.2) (record { sessions = refl; log = refl; counts = refl; stream = refl }))
  session_event_comes new HasFailed h = nothing_comes g s new (subst (IsLike s) (sym h) (record { sessions = refl; log = refl; counts = refl; stream = refl }))
  session_event_comes new (TicketAsked ticket answer) h = subst (λ (x : State). ComesBy g s x (Asked ticket answer ∷ [])) (sym h.1) (record {
    start = s;
    before = like_itself s;
    events = Ask ticket answer ∷ [];
    durable = (tt, tt);
    tickets = (h.0, tt);
    mid = s;
    goes = (s, [], ask_goes g s ticket answer, (refl, refl), refl);
    after = like_itself s;
  })
