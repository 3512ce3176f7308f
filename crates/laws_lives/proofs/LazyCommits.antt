-- Commits that are answered before they are durable: their locks, their tickets, and who reads what they have left.
use Rattle.std.proofs.Common.{◌≡◌, ◌≢◌, ◌≤◌, ◌<◌, ◌+◌, inl, inr, ⊎_elim, ◌++◌, ℕ, zero, suc, List, [], ◌∷◌, Bool, true, false, cond, map, Some, None, refl, sym, ap, subst, ◌∙◌, take, length, arith, append-nil, append_assoc, length-append}
use Rattle.std.proofs.Math.Seq.{take-length}
use Rattle.std.specs.Prelude.{◌==◌, All, Contains, filter, not, slice_get}
use Rattle.std.specs.FinMap.{get}
use Rattle.std.specs.List.{AllByRecursion}
use Rattle.std.proofs.lemmas.Bool.{eq-eqb, ne_eqb, true≢false}
use Rattle.std.proofs.lemmas.List.{take-append-le}
use Rattle.std.proofs.lemmas.List.Elements.{All-from_recursion}
use Rattle.shore_types.specs.declared.ids.Rid.{Rid}
use Rattle.shore_model.specs.declared.histories.Decision.{Decision}
use Rattle.shore_model.specs.declared.histories.Decision.TheVariants as decision
use Rattle.shore_model.specs.declared.histories.Entry.{Entry}
use Rattle.shore_model.specs.declared.histories.Entry.TheVariants.{Asked}
use Rattle.shore_model.specs.declared.histories.Opening.{Opening}
use Rattle.shore_model.specs.declared.holds.Hold.{Hold}
use Rattle.shore_model.specs.declared.log_records.LogRecord.{LogRecord}
use Rattle.shore_model.specs.declared.log_records.Payload.TheVariants.{Commit}
use Rattle.shore_model.specs.declared.sessions.SessionState.{SessionState}
use Rattle.shore_model.specs.Histories.{Kept, acknowledged, acknowledged_by, commits_with, decisions, free, tickets}
use Rattle.shore_model.specs.Locks.{MayRead}
use Rattle.laws_lives.proofs.Acknowledged.{acknowledged-push, acknowledges, still_decided}
use Rattle.laws_lives.proofs.DoubtRecords.{among_filter}
use Rattle.laws_lives.proofs.EndedLocks.{others_keep}
use Rattle.laws_lives.proofs.Entries.{decisions-asked}
use Rattle.laws_lives.proofs.Failing.{MayLosePower, crash_keeps}
use Rattle.laws_lives.proofs.Lists.{among_contained, recursion-weaker, within_or_beyond}
use Rattle.laws_lives.proofs.LogGrows.{GrowsTo, event_grows}
use Rattle.laws_lives.proofs.LogPrefixes.{decisions_in-take}
use Rattle.laws_lives.proofs.Members.{txn_among, txn_without}
use Rattle.laws_lives.proofs.Tickets.{asked_commits_durable, none_more}
use Rattle.laws_lives.proofs.Views.{overlay_none}
use Rattle.laws_lives.specs.LogPrefixes.{LogDecides, decisions_in}
use Rattle.laws_lives.specs.Logged.{log_after}
use Rattle.laws_lives.specs.ManagerSteps.{TellsTicket, ManagerState, ManagerStepsTo, Serve}
use Rattle.laws_lives.specs.Recovery.{RecoveryState}
use Rattle.laws_lives.specs.SessionSteps.{AppendCommit, Ask, KeepsLocks, SessionEvent, StepsTo, entries_by}
use Rattle.laws_lives.specs.Sessions.{IsFree, SessionTxn, Sessions, txns_of, without_locks}
use Rattle.laws_lives.specs.Soundness.{IsSoundAfter, decided_txn, serial_after, written_by}
use Rattle.laws_lives.specs.Tickets.{AreTickets, IsTicket, answered_durable}
use Rattle.laws_lives.specs.Views.{IsAmong}
use Rattle.laws_lives.specs.WholeLogs.{RunsWithLog}

-- ---- lists

all_among : {A : Type 0} (P : A → Type 0) (xs : List A) → ((x : A) → IsAmong x xs → P x) → AllByRecursion P xs
all_among P [] h = tt
all_among P (x ∷ xs) h = (h x (inl refl), all_among P xs (λ y b. h y (inr b)))

at_among : {A : Type 0} (P : A → Type 0) (x : A) (xs : List A) → AllByRecursion P xs → IsAmong x xs → P x
at_among P x [] h b = absurd b
at_among P x (y ∷ xs) h (inl e) = subst P e h.0
at_among P x (y ∷ xs) h (inr later) = at_among P x xs h.1 later

in_front : {A : Type 0} (x : A) (n : ℕ) (xs : List A) → IsAmong x (take n xs) → IsAmong x xs
in_front x zero xs h = absurd h
in_front x (suc n) [] h = absurd h
in_front x (suc n) (y ∷ xs) (inl e) = inl e
in_front x (suc n) (y ∷ xs) (inr later) = inr (in_front x n xs later)

at_seam : {A : Type 0} (xs ys : List A) (x : A) → slice_get (xs ++ x ∷ ys) (length xs) ≡ Some x
at_seam [] ys x = refl
at_seam (y ∷ xs) ys x = at_seam xs ys x

-- ---- a commit

module _ (s new : Sessions) (a : SessionTxn) (ticket : ℕ) (steps : StepsTo s (AppendCommit a ticket) new) where
  locks_gone : AllByRecursion (λ h. h.txn ≢ a.txn) (without_locks a.txn s.held)
  locks_gone = all_among (λ h. h.txn ≢ a.txn) (without_locks a.txn s.held)
      (λ h b same. true≢false (sym (among_filter (λ h. not (h.txn == a.txn)) h s.held b).1 ∙ ap not (eq-eqb h.txn a.txn same)))

  pub its_locks_go : All (λ h. h.txn ≢ a.txn) new.held
  its_locks_go = subst (λ (s : Sessions). All (λ h. h.txn ≢ a.txn) s.held) (sym steps.2) (All-from_recursion (λ (h : Hold). h.txn ≢ a.txn) (without_locks a.txn s.held) locks_gone)

  pub others_stay : (t : ℕ) → t ≢ a.txn → KeepsLocks s.held new.held t
  others_stay t other = subst (λ (n : Sessions). KeepsLocks s.held n.held t) (sym steps.2) (others_keep a.txn s.held t other)

  pub it_goes : IsAmong a.txn (txns_of new.active) → ⊥
  it_goes b = (txn_without a.txn a.txn s.active (subst (λ (n : Sessions). IsAmong a.txn (txns_of n.active)) steps.2 b)).1 refl

  pub its_session_is_free : new.seats a.session ≡ free
  its_session_is_free = ap (λ (n : Sessions). n.seats a.session) steps.2 ∙ freed _ (a.session == a.session) (eq-eqb a.session a.session refl)
    where
      freed : (p : SessionState) (b : Bool) → b ≡ true → cond b free p ≡ free
      freed p true e = refl
      freed p false e = absurd (true≢false (sym e))

-- ---- tickets

pub same_txn : (base : ℕ) (log : List LogRecord) (ticket t u : ℕ) → IsTicket base log ticket t → IsTicket base log ticket u → t ≡ u
same_txn base log ticket t u h k =
    let first = h.number in
    let second = k.number in
    let same : length h.before ≡ length k.before = omega arith in
    one_record (sym (at_seam h.before h.after (record { txn = t; previous = h.previous; payload = Commit })) ∙ sym (ap (λ rs. slice_get rs (length h.before)) h.there)
    ∙ ap (slice_get log) same ∙ ap (λ rs. slice_get rs (length k.before)) k.there ∙ at_seam k.before k.after (record { txn = u; previous = k.previous; payload = Commit }))
  where
    one_record : {a b : LogRecord} → Some a ≡ Some b → a.txn ≡ b.txn
    one_record e = cc

none_have : (ticket : ℕ) (ts : List (ℕ × ℕ)) → AllByRecursion (λ p. p.0 ≢ ticket) ts → commits_with ticket ts ≡ []
none_have ticket [] h = refl
none_have ticket (p ∷ ts) h =
    ap (λ b. map (λ (p : ℕ × ℕ). decision.Commit p.1) (cond b (p ∷ filter (λ p. p.0 == ticket) ts) (filter (λ p. p.0 == ticket) ts))) (ne_eqb p.0 ticket h.0) ∙ none_have ticket ts h.1

pub others_acknowledge_nothing : (es : List Entry) (ticket : ℕ) (durable : Bool) → AllByRecursion (λ p. p.0 ≢ ticket) (tickets es) → acknowledged (es ++ Asked ticket durable ∷ []) ≡ acknowledged es
others_acknowledge_nothing es ticket durable none =
    acknowledged-push [] es (Asked ticket durable) ∙ ap (λ ds. acknowledged es ++ ds) (either durable) ∙ append-nil (acknowledged es)
  where
    either : (b : Bool) → acknowledged_by es (Asked ticket b) ≡ []
    either true = none_have ticket (tickets es) none
    either false = refl

pub later_ticket : (base durable : ℕ) (log : List LogRecord) (es : List Entry) (a : SessionTxn) (ticket earlier t : ℕ) → AreTickets base log es → IsAmong (earlier, t) (tickets es)
    → TellsTicket durable log (AppendCommit a ticket) → earlier < ticket
later_ticket base durable log es a ticket earlier t given among answers =
    let one = at_among (λ (p : ℕ × ℕ). IsTicket base log p.0 p.1) (earlier, t) (tickets es) given among in
    let number = one.number in
    let long : length log ≡ length one.before + suc (length one.after) = ap length one.there ∙ length-append one.before _ in
    omega (arith, answers)

pub its_ticket : (base : ℕ) (log : List LogRecord) (es : List Entry) (ticket t : ℕ) → AreTickets base log es → IsAmong (ticket, t) (tickets es) → IsTicket base log ticket t
its_ticket base log es ticket t given among = at_among (λ (p : ℕ × ℕ). IsTicket base log p.0 p.1) (ticket, t) (tickets es) given among

-- ---- answers

pub can_ask : (m : ManagerState) (ticket : ℕ) → (durable : Bool) × ManagerStepsTo m (Serve (Ask ticket durable) []) m
can_ask m ticket = ⊎_elim (λ le. (true, (refl, (tt, ((λ e. le), (λ le. refl))), refl, refl))) (λ less. (false, (refl, (tt, ((λ e. absurd (true≢false (sym e))), (λ le. absurd (omega (arith, le, less))))), refl, refl)))
    (within_or_beyond ticket m.store.durable)

-- what is acknowledged by seeing that tickets are durable is durable
module _ (base durable : ℕ) (log : List LogRecord) where
  abbrev IsDurable : Decision → Type 0
  IsDurable d = IsAmong d (decisions_in base (take durable log))

  seen_acknowledges : (seen : List ℕ) (es : List Entry) → AreTickets base log es → AllByRecursion IsDurable (acknowledged es) → AllByRecursion (λ n. n ≤ durable) seen
      → AllByRecursion IsDurable (acknowledged (es ++ answered_durable seen))
  seen_acknowledges [] es given h within = subst (λ es. AllByRecursion IsDurable (acknowledged es)) (sym (append-nil es)) h
  seen_acknowledges (n ∷ seen) es given h within =
      let e : Entry = Asked n true in
      subst (λ es. AllByRecursion IsDurable (acknowledged es)) (append_assoc es (e ∷ []) (answered_durable seen))
      (seen_acknowledges seen (es ++ e ∷ []) (none_more base log es given e refl)
      (acknowledges IsDurable es h e (commits_with n (tickets es)) refl (asked_commits_durable base log n durable (tickets es) given within.0)) within.1)

decisions-seen : (seen : List ℕ) (es : List Entry) → decisions (es ++ answered_durable seen) ≡ decisions es
decisions-seen [] es = ap decisions (append-nil es)
decisions-seen (n ∷ seen) es =
    ap decisions (sym (append_assoc es (Asked n true ∷ []) (answered_durable seen))) ∙ decisions-seen seen (es ++ Asked n true ∷ []) ∙ decisions-asked es n true

-- and so a crash keeps it
pub seen_are_kept : (base : ℕ) (o : Opening) (es : List Entry) (s : RecoveryState) → MayLosePower base o es s → (seen : List ℕ) (n : ℕ) → AllByRecursion (λ ticket. ticket ≤ s.durable) seen
    → s.durable ≤ n → n ≤ length s.log → Kept (es ++ answered_durable seen) (decisions_in base (take n s.log))
seen_are_kept base o es s k seen n within least most =
    let log = s.log in
    let old = (crash_keeps base o es s k n least most).0 in
    record {
      beginning = (old.beginning.0, old.beginning.1 ∙ ap (take old.beginning.0) (sym (decisions-seen seen es)));
      acknowledged_kept = All-from_recursion (Contains (decisions_in base (take n log))) (acknowledged (es ++ answered_durable seen))
          (recursion-weaker (λ d. IsAmong d (decisions_in base (take s.durable log))) (Contains (decisions_in base (take n log)))
          (λ d there. among_contained d (decisions_in base (take n log))
          (subst (λ rs. IsAmong d (decisions_in base (take n rs))) (append-nil log) (still_decided base s.durable n log [] d least k.recoverable.durable there)))
          (acknowledged (es ++ answered_durable seen)) (seen_acknowledges base s.durable log seen es k.tickets k.acknowledged within));
    }

-- ---- readers

pub reads_what_is_decided : (o : Opening) (es : List Entry) (s : Sessions) (a : SessionTxn) (id : Rid) → IsSoundAfter o es s → IsAmong a s.active → a.undo.rolling ≡ None → MayRead s.held a.txn id
    → get (written_by o es a.txn) id ≡ None → get s.records id ≡ get (serial_after o es) id
reads_what_is_decided o es s a id k mem none may unwritten =
    (k.stand.each a.txn (txn_among a s.active mem)).view id may
    ∙ overlay_none (serial_after o es) (k.standing a.txn) id (ap (λ W. get W id) ((k.stands_for a mem).written none) ∙ unwritten)

run_grows : (s : Sessions) (log : List LogRecord) (events : List SessionEvent) (es : List Entry) (last : Sessions) (all : List LogRecord) (made : List Entry)
    → RunsWithLog s log events es last all made → GrowsTo log all
run_grows s log [] es last all made runs = ([], runs.1 ∙ sym (append-nil log))
run_grows s log (e ∷ events) es last all made runs =
    let first = event_grows log s e in
    let rest = run_grows runs.0 (log_after log s e) events (es ++ entries_by s e) last all made runs.2 in
    (first.0 ++ rest.0, rest.1 ∙ ap (λ rs. rs ++ rest.0) first.1 ∙ append_assoc log first.0 rest.0)

pub decided_is_kept : (base : ℕ) (o : Opening) (es : List Entry) (s last : Sessions) (log all : List LogRecord) (events : List SessionEvent) (made : List Entry) (t n : ℕ) (d : Decision)
    → IsSoundAfter o es s → LogDecides base o es log → IsAmong t (txns_of s.active) → IsFree s t → RunsWithLog s log events es last all made
    → decided_txn d ≡ t → IsAmong d (decisions_in base (take n all)) → AllByRecursion (λ before. IsAmong before (decisions_in base (take n all))) (decisions es)
decided_is_kept base o es s last log all events made t n d k g among is_free runs its there =
    let grows = run_grows s log events es last all made runs in
    subst (λ all. AllByRecursion (λ before. IsAmong before (decisions_in base (take n all))) (decisions es)) (sym grows.1)
    (⊎_elim
    (λ within.
    let front = decisions_in-take base n log in
    let same : take n all ≡ take n log = ap (take n) grows.1 ∙ take-append-le n log grows.0 within in
    let decided : IsAmong d (decisions es) =
    subst (IsAmong d) (sym g.all) (in_front d front.0 (decisions_in base log) (subst (IsAmong d) front.1 (subst (λ rs. IsAmong d (decisions_in base rs)) same there))) in
    absurd (at_among (λ d. decided_txn d ≢ t) d (decisions es) (k.undecided t among is_free) decided its))
    (λ beyond. all_among (λ before. IsAmong before (decisions_in base (take n (log ++ grows.0)))) (decisions es)
    (λ before b. still_decided base (length log) n log grows.0 before (omega (arith, beyond)) (omega arith)
    (subst (λ rs. IsAmong before (decisions_in base rs)) (sym (take-length log)) (subst (IsAmong before) g.all b))))
    (within_or_beyond n (length log)))
