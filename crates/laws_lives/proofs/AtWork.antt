-- A manager at work: what holds of it, event by event.
use Rattle.std.proofs.Common.{◌≡◌, ◌≤◌, ◌++◌, ℕ, List, [], ◌∷◌, true, sym, subst, ◌∙◌, length, take, arith, append-nil}
use Rattle.std.specs.FinMap.{get}
use Rattle.std.specs.List.{AllByRecursion}
use Rattle.shore_types.specs.declared.ids.Rid.{Rid}
use Rattle.shore_model.specs.declared.histories.Opening.{Opening}
use Rattle.shore_model.specs.declared.histories.Entry.{Entry}
use Rattle.shore_model.specs.declared.log_records.LogRecord.{LogRecord}
use Rattle.shore_model.specs.Histories.{acknowledged}
use Rattle.shore_model.specs.Logs.{MayFollow, is_of_checkpoint}
use Rattle.laws_lives.proofs.Invariant.{redone_whole}
use Rattle.laws_lives.specs.Recovery.{IsRecoverable, RecoveryState}
use Rattle.laws_lives.proofs.Lists.{recursion-weaker}
use Rattle.laws_lives.proofs.LogDecisions.{event_decides}
use Rattle.laws_lives.specs.LogPrefixes.{LogDecides, decisions_in}
use Rattle.laws_lives.specs.Logged.{log_after}
use Rattle.laws_lives.specs.SessionSteps.{SessionEvent, StepsTo, entries_by}
use Rattle.laws_lives.specs.Sessions.{Sessions}
use Rattle.laws_lives.specs.Views.{IsAmong}
use Rattle.laws_lives.proofs.AcknowledgedOwn.{acknowledges_own}
use Rattle.laws_lives.proofs.CheckpointRecords.{stays_after, stays_decided, stays_tracked, stays_whole}
use Rattle.laws_lives.proofs.Tickets.{event_tickets, still_tickets}
use Rattle.laws_lives.specs.Tickets.{AreTickets}
use Rattle.laws_lives.proofs.Acknowledged.{NumbersAreNew, event_acknowledges, new_in_longer, numbers_stay_new, still_decided}
use Rattle.laws_lives.proofs.WholeLogs.{image_in_place}
use Rattle.laws_lives.proofs.WholeRuns.{AllHold, event_keeps_all}
use Rattle.laws_lives.proofs.Works.{HasWorked, all_work}
use Rattle.laws_lives.specs.ManagerSteps.{AnswersTruly, ManagerState, StretchEvent, ManagerRunsTo, ManagerStepsTo, Note, Serve, Tend, entries_made}

-- each decision that is acknowledged is in the durable part of the log
abbrev pub AcknowledgedAreDurable : ℕ → List Entry → RecoveryState → Type 0
AcknowledgedAreDurable base es s = AllByRecursion (λ d. IsAmong d (decisions_in base (take s.durable s.log))) (acknowledged es)

-- All that holds of a manager. Its first restart found `base` records, and its sessions opened with `floor` as the next number.
pub record IsAtWork (base floor : ℕ) (o : Opening) (es : List Entry) (m : ManagerState) : Type 0 where
  pub sessions : AllHold o es m.sessions m.store.log
  pub decides : LogDecides base o es m.store.log
  pub recoverable : IsRecoverable m.store
  pub redone : m.store.redone ≡ length m.store.log
  pub durable : base ≤ m.store.durable
  pub numbers : NumbersAreNew base floor m.sessions m.store.log
  pub acknowledged : AcknowledgedAreDurable base es m.store
  pub tickets : AreTickets base m.store.log es

-- work takes nothing from what is durable
pub durable_after_work : (base : ℕ) (es : List Entry) (s new : RecoveryState) → s.durable ≤ length s.log → HasWorked s new
    → AcknowledgedAreDurable base es s → AcknowledgedAreDurable base es new
durable_after_work base es s new within w h =
    recursion-weaker (λ d. IsAmong d (decisions_in base (take s.durable s.log))) (λ d. IsAmong d (decisions_in base (take new.durable new.log)))
    (λ d there. subst (λ rs. IsAmong d (decisions_in base (take new.durable rs))) (sym w.grows)
    (still_decided base s.durable new.durable s.log w.more d w.durable within there))
    (acknowledged es) h

module _ (base floor : ℕ) (o : Opening) (es : List Entry) (m : ManagerState) (k : IsAtWork base floor o es m) where
  numbers_after_work : (new : RecoveryState) → HasWorked m.store new → (s : Sessions) → NumbersAreNew base floor s m.store.log → NumbersAreNew base floor s new.log
  numbers_after_work new w s n = subst (NumbersAreNew base floor s) (sym w.grows) (new_in_longer base floor s m.store.log n w.more k.decides.long)

  served : (e : SessionEvent) (new : ManagerState) → StepsTo m.sessions e new.sessions → AnswersTruly m.store.durable m.store.log e → HasWorked m.store new.store
      → new.store.log ≡ log_after m.store.log m.sessions e → IsAtWork base floor o (es ++ entries_by m.sessions e) new
  served e new steps answers w log =
      let es' = es ++ entries_by m.sessions e in
      let least = k.durable in
      let more = w.durable in
      record {
        sessions = subst (AllHold o es' new.sessions) (sym log) (event_keeps_all o es m.sessions new.sessions e m.store.log k.sessions steps);
        decides = subst (LogDecides base o es') (sym log)
            (event_decides base o es m.sessions new.sessions e m.store.log k.sessions.sound k.sessions.agree k.sessions.logged k.sessions.tracks k.decides steps);
        recoverable = w.recoverable;
        redone = w.redone;
        durable = omega arith;
        numbers = numbers_after_work new.store w new.sessions (numbers_stay_new base floor m.sessions m.store.log k.numbers new.sessions e steps);
        acknowledged = durable_after_work base es' m.store new.store k.recoverable.durable w
            (event_acknowledges (λ d. IsAmong d (decisions_in base (take m.store.durable m.store.log))) es k.acknowledged m.sessions new.sessions e steps
            (acknowledges_own base floor es m.sessions new.sessions m.store e k.numbers k.durable k.tickets steps answers));
        tickets = subst (λ log. AreTickets base log es') (sym log)
            (event_tickets base m.store.durable m.store.log es m.sessions new.sessions e k.decides.long steps answers.1 k.tickets);
      }

  tended : (new : ManagerState) → new.sessions ≡ m.sessions → HasWorked m.store new.store → new.store.log ≡ m.store.log → IsAtWork base floor o es new
  tended new same w log =
      let least = k.durable in
      let more = w.durable in
      record {
        sessions = subst (λ s. AllHold o es s new.store.log) (sym same) (subst (AllHold o es m.sessions) (sym log) k.sessions);
        decides = subst (LogDecides base o es) (sym log) k.decides;
        recoverable = w.recoverable;
        redone = w.redone;
        durable = omega arith;
        numbers = subst (λ s. NumbersAreNew base floor s new.store.log) (sym same) (numbers_after_work new.store w m.sessions k.numbers);
        acknowledged = durable_after_work base es m.store new.store k.recoverable.durable w k.acknowledged;
        tickets = subst (λ log. AreTickets base log es) (sym log) k.tickets;
      }

  -- a record of a checkpoint changes nothing that ties the log to the sessions
  noted : (r : LogRecord) (new : ManagerState) → MayFollow m.store.log r → is_of_checkpoint r.payload ≡ true → new.sessions ≡ m.sessions → HasWorked m.store new.store
      → new.store.log ≡ m.store.log ++ r ∷ [] → IsAtWork base floor o es new
  noted r new follows its same w log =
      let least = k.durable in
      let more = w.durable in
      let all = k.sessions in
      let longer : AllHold o es m.sessions (m.store.log ++ r ∷ []) =
      record {
        sound = all.sound;
        agree = all.agree;
        logged = stays_after m.store.log r its all.whole.lawful follows o es m.sessions all.whole.some all.logged;
        tracks = stays_tracked m.store.log r its all.whole.lawful follows m.sessions all.tracks;
        whole = stays_whole m.store.log r its all.whole.lawful follows m.sessions all.whole;
      } in
      record {
        sessions = subst (λ s. AllHold o es s new.store.log) (sym same) (subst (AllHold o es m.sessions) (sym log) longer);
        decides = subst (LogDecides base o es) (sym log) (stays_decided m.store.log r its all.whole.lawful follows base o es k.decides);
        recoverable = w.recoverable;
        redone = w.redone;
        durable = omega arith;
        numbers = subst (λ s. NumbersAreNew base floor s new.store.log) (sym same) (numbers_after_work new.store w m.sessions k.numbers);
        acknowledged = durable_after_work base es m.store new.store k.recoverable.durable w k.acknowledged;
        tickets = subst (λ log. AreTickets base log es) (sym log) (still_tickets base m.store.log (r ∷ []) es k.tickets);
      }

  pub stays_at_work : (e : StretchEvent) (new : ManagerState) → ManagerStepsTo m e new → IsAtWork base floor o (es ++ entries_made m e) new
  stays_at_work (Serve e works) new steps =
      served e new steps.0 steps.1 (all_work m.store works new.store k.recoverable k.redone steps.2) steps.3
  stays_at_work (Tend works) new steps =
      subst (λ es. IsAtWork base floor o es new) (sym (append-nil es))
      (tended new steps.0 (all_work m.store works new.store k.recoverable k.redone steps.1) steps.2)
  stays_at_work (Note r works) new steps =
      subst (λ es. IsAtWork base floor o es new) (sym (append-nil es))
      (noted r new steps.0 steps.1 steps.2 (all_work m.store works new.store k.recoverable k.redone steps.3) steps.4)

  pub pages_have_records : (id : Rid) → (m.store.in_place id.page).slots id.slot ≡ get m.sessions.records id
  pages_have_records id =
      redone_whole m.store k.recoverable k.redone id.page id.slot ∙ image_in_place k.sessions.sound k.sessions.logged k.sessions.whole id

pub all_stay_at_work : (base floor : ℕ) (o : Opening) (es : List Entry) (m : ManagerState) (events : List StretchEvent) (last : ManagerState) (made : List Entry)
    → IsAtWork base floor o es m → ManagerRunsTo m events es last made → IsAtWork base floor o made last
all_stay_at_work base floor o es m [] last made k runs =
    subst (λ es. IsAtWork base floor o es last) (sym runs.1) (subst (IsAtWork base floor o es) (sym runs.0) k)
all_stay_at_work base floor o es m (e ∷ events) last made k runs =
    all_stay_at_work base floor o (es ++ entries_made m e) runs.0 events last made (stays_at_work base floor o es m k e runs.0 runs.1) runs.2
