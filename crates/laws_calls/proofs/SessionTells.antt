-- What the log of a state of sessions tells, and that transactions under way run alone.
use Rattle.std.proofs.Common.{◌≡◌, ◌≢◌, ◌++◌, ◌∷◌, inl, inr, ℕ, List, [], None, refl, sym, ap, ◌∙◌, arith, length, map, take, subst, Option, Some, ◌⊎◌, ⊎_elim, append_assoc, Ok}
use Rattle.std.specs.Prelude.{Contains, IsSome, unwrap_or}
use Rattle.std.proofs.lemmas.List.Elements.{All-weaker}
use Rattle.std.specs.FinMap.{get}
use Rattle.shore_types.specs.declared.ids.Rid.{Rid}
use Rattle.shore_types.specs.declared.layout.Geometry.{Geometry}
use Rattle.shore_model.specs.declared.histories.Decision.TheVariants as decision
use Rattle.shore_model.specs.declared.histories.Entry.{Entry}
use Rattle.shore_model.specs.declared.histories.Opening.{Opening}
use Rattle.shore_model.specs.declared.histories.Entry.TheVariants.{Decided, Exchanged}
use Rattle.shore_model.specs.declared.log_records.LogRecord.{LogRecord}
use Rattle.shore_model.specs.Histories.{Kept, RunsAloneAfter, acknowledged, decisions, serial, calls_of, shown, decision_asked_by}
use Rattle.shore_model.specs.Records.{overlay, overlays, WriteSet}
use Rattle.laws_lives.proofs.EndSteps.{commit_now, commit_sees, commit_stays_sound, commit_turn}
use Rattle.laws_lives.proofs.InPlace.{is_overlaid}
use Rattle.laws_lives.proofs.LogDecisions.{event_midst, prefix_decides}
use Rattle.laws_lives.proofs.Members.{txn_among}
use Rattle.laws_lives.proofs.Views.{read_of_write}
use Rattle.laws_lives.specs.LogPrefixes.{decisions_in, TellsItsDecisions}
use Rattle.laws_lives.specs.LogTells.{records_committed}
use Rattle.laws_lives.specs.SessionSteps.{AnswerAbort, entries_by, exchange}
use Rattle.laws_lives.specs.Sessions.{SessionTxn, abort_answered, txns_of, seated}
use Rattle.laws_lives.specs.Soundness.{history_from, serial_after, written_by}
use Rattle.laws_lives.specs.Views.{IsAmong}
use Rattle.laws_calls.proofs.Sessions.{its_txn, own_of}
use Rattle.laws_calls.proofs.Elements.{in_longer}
use Rattle.laws_calls.proofs.SessionStates.{waits_whole, session_call_told}
use Rattle.laws_calls.proofs.StepPassages.{CallPasses, Commits, ResumePasses, resume_passes, Prepares, commit_passes}
use Rattle.laws_calls.proofs.TakenLocks.{sessions_of}
use Rattle.shore_model.specs.declared.step.Step.{Step}
use Rattle.shore_model.specs.declared.step.Step.TheVariants.{Done, Nothing, Refused, Waits}
use Rattle.shore_model.specs.declared.step.Wait.TheVariants.{Durable, Lock}
use Rattle.shore_model.specs.declared.calls.Call.{Call}
use Rattle.laws_calls.specs.CallHistories.{KeepsDurable, txn_of, txn_under}
use Rattle.laws_calls.specs.StateChanges.{wait_refused}
use Rattle.laws_calls.specs.CallSteps.{CallStep, ResumeStep, aborted}
use Rattle.laws_calls.specs.LockedStates.{entries_of_resumed}
use Rattle.laws_calls.specs.Events.{IsStateAfter}
use Rattle.laws_calls.specs.States.{State, HasSeat, DoesNotWait, next_number}
use Rattle.std.proofs.Math.Seq.{take-length}
use Rattle.shore_model.specs.Alone.{writes_of}
use Rattle.shore_model.specs.Lives.{next_opening}
use Rattle.shore_model.specs.Logs.{records_told}
use Rattle.laws_lives.specs.Doubts.{DoubtsStand, IsOpeningOf}
use Rattle.laws_lives.proofs.LogPrefixes.{tells_opening}
use Rattle.laws_lives.proofs.DoubtsShown.{told_is_shown}
use Rattle.laws_lives.proofs.UndoRecords.{lawful_front}
use Rattle.laws_lives.proofs.Turns.{decision_after}
use Rattle.laws_calls.proofs.SessionInversions.{answered_running, committed_in}
use Rattle.shore_model.specs.declared.calls.Call.TheVariants as call
use Rattle.laws_calls.proofs.Told.{entries_told}
use Rattle.laws_calls.proofs.ResolveTells.{resolve_abort_tells, resolve_commit_tells}
use Rattle.laws_calls.proofs.Outside.{Resolving, resolve_in}
use Rattle.shore_model.specs.declared.calls.Outcome.{Outcome}
use Rattle.shore_model.specs.declared.calls.Outcome.TheVariants as outcome
use Rattle.laws_calls.specs.Resolves.{ResolvesTo}
use Rattle.laws_calls.proofs.QuietTells.{quietly_telling_none, whole_told}
use Rattle.shore_model.specs.declared.calls.Answer.{Answer}
use Rattle.shore_model.specs.declared.calls.Answer.TheVariants.{Committed}
use Rattle.shore_model.specs.declared.calls.Exchange.{Exchange}
use Rattle.laws_lives.proofs.QuietSteps.{all_kept, more_now}
use Rattle.laws_lives.proofs.Exchanges.{commit_is_quiet}
use Rattle.laws_lives.proofs.Entries.{decisions-exchanged}

module _ (o : Opening) (found : List LogRecord) (es : List Entry) (s : State) (k : IsStateAfter o found es s) where
  pub sessions_told : records_committed s.log ≡ serial_after o es
  sessions_told = whole_told (length found) o es s.log k.sessions.decides

  -- with the changes of those in doubt it tells what the decisions show
  pub all_shown : records_told s.log ≡ shown (history_from o es) (decisions es)
  all_shown =
      let long = k.sessions.decides.long in
      let tells : TellsItsDecisions (length found) o (written_by o es) s.log =
      subst (TellsItsDecisions (length found) o (written_by o es)) (take-length s.log) (k.sessions.decides.prefixes (length s.log) long (omega arith)) in
      told_is_shown (length found) o es s.log k.sessions.whole.lawful tells ∙ ap (shown (history_from o es)) (sym k.sessions.decides.all)

  -- if nobody is under way, all that is in place is told
  pub all_told : s.sessions.active ≡ [] → s.sessions.records ≡ records_committed s.log
  all_told none =
      let over = ap (λ (xs : List SessionTxn). overlays (serial_after o es) (map k.sessions.sound.standing (txns_of xs))) none in
      is_overlaid k.sessions.sound.stand ∙ over ∙ sym sessions_told

  -- what a transaction has written is in place, if no rollback of it is under way
  pub own_in_place : (a : SessionTxn) → IsAmong a s.sessions.active → a.undo.rolling ≡ None → (id : Rid) → IsSome (get (written_by o es a.txn) id)
      → get s.sessions.records id ≡ get (overlay (records_committed s.log) (written_by o es a.txn)) id
  own_in_place a mem whole id some =
      let sees = commit_sees k.sessions.sound a mem whole in
      sees.view id (read_of_write s.sessions.held a.txn id (sees.locked id some)) ∙ ap (λ R. get (overlay R (written_by o es a.txn)) id) (sym sessions_told)

  -- a Commit tells what its transaction has written
  pub commit_tells : (session : ℕ) (new : State) (made : List Entry) → IsStateAfter o found (es ++ made) new → Commits s session new made
      → records_committed new.log ≡ overlay (records_committed s.log) (written_by o es (txn_of s.sessions session))
  commit_tells session new made after h =
      let a = h.txn in
      let its = its_txn s.sessions a session h.of.0.1 h.of.1 in
      let d : Entry = Decided (decision.Commit a.txn) in
      let x : Exchange = exchange call.Commit (Ok (Committed (next_number s))) in
      let mid = commit_stays_sound k.sessions.sound a h.of.0.0 h.whole (commit_turn k.sessions.sound a h.of.0.0 h.whole (own_of k.sessions a h.of.0).2) in
      whole_told (length found) o (es ++ made) new.log after.sessions.decides
      ∙ ap (λ made. serial_after o (es ++ made)) h.entries
      ∙ ap (serial_after o) (sym (append_assoc es (d ∷ []) (Exchanged a.session a.txn x ∷ [])))
      ∙ more_now mid ((es ++ d ∷ []) ++ Exchanged a.session a.txn x ∷ []) (decisions-exchanged (es ++ d ∷ []) a.txn a.session x) (all_kept mid a.session a.txn x (commit_is_quiet o.slots (next_number s)))
      ∙ commit_now k.sessions.sound a h.of.0.0
      ∙ ap (λ R. overlay R (written_by o es a.txn)) (sym sessions_told)
      ∙ ap (λ t. overlay (records_committed s.log) (written_by o es t)) (sym its)

  pub session_runs_alone : (a : SessionTxn) → HasSeat s.sessions a → RunsAloneAfter (history_from o es) (decisions es) a.txn
  session_runs_alone a mine =
      let among = txn_among a s.sessions.active mine.0 in
      let own = own_of k.sessions a mine in (
        k.sessions.sound.replies a.txn among (serial_after o es) (λ id may. refl),
        ap (λ (W : Option WriteSet). unwrap_or W (writes_of (calls_of a.txn es))) (k.sessions.sound.own a.txn among own.2),
      )

  -- ---- steps

  -- nor does a Prepare
  prepare_tells_none : (session : ℕ) (new : State) (made : List Entry) → IsStateAfter o found (es ++ made) new → Prepares s session new made → records_committed new.log ≡ records_committed s.log
  prepare_tells_none session new made after h =
      whole_told (length found) o (es ++ made) new.log after.sessions.decides
      ∙ ap (λ made. serial_after o (es ++ made)) h.entries
      ∙ decision_after o es (decision.Prepare h.txn.txn h.global) (λ R. refl)
      ∙ sym sessions_told

  -- what is no commit tells nothing
  call_tells_none : (g : Geometry) (session : ℕ) (c : Call) (step : Step) (new : State) → CallStep g s session c step new → (Commits s session new (entries_told s session c step) → ⊥)
      → (Resolving s session c step new → DoesNotWait s session → records_committed new.log ≡ records_committed s.log) → records_committed new.log ≡ records_committed s.log
  call_tells_none g session c step new h none resolves = ⊎_elim (λ told. by told.1 told.0) (λ r. resolves r.0 r.1) (session_call_told o found es s k g session c step new h)
    where
      by : IsStateAfter o found (es ++ entries_told s session c step) new → CallPasses g s session new (entries_told s session c step) → records_committed new.log ≡ records_committed s.log
      by stays (inl quiet) = quietly_telling_none (length found) o es g session s new (entries_told s session c step) (sessions_of o found es s k.sessions) quiet
      by stays (inr (inl commit)) = absurd (none commit)
      by stays (inr (inr (inr prep))) = prepare_tells_none session new (entries_told s session c step) stays prep
      by stays (inr (inr (inl abort))) =
          let a = abort.txn in
          ap (λ (x : State). records_committed x.log) abort.is
          ∙ whole_told (length found) o es (aborted s a).log
          (event_midst (length found) o es s.sessions (seated s.sessions (entries_by s.sessions (AnswerAbort a)) (abort_answered s.sessions a)) (AnswerAbort a) s.log k.sessions.sound k.sessions.agree
          k.sessions.log k.sessions.doubts k.sessions.decides (own_of k.sessions a abort.of.0, refl) tt)
          ∙ sym sessions_told

  -- it asks for no commit
  abbrev AsksNoCommit : Call → Type 0
  AsksNoCommit c = (t : ℕ) → decision_asked_by t c ≢ Some (decision.Commit t)

  -- a step that waits for no record, or a call that asks for no commit
  abbrev TellsNone : Call → Step → Type 0
  TellsNone c step = ((n : ℕ) → step ≢ Waits (Durable n)) ⊎ AsksNoCommit c

  resolve_tells_none : (g : Geometry) (session : ℕ) (c : Call) (step : Step) (new : State) → TellsNone c step → Resolving s session c step new → DoesNotWait s session
      → records_committed new.log ≡ records_committed s.log
  resolve_tells_none g session c step new none r idle = by r.asked r.is step none r.to
    where
      by : (asked : Outcome) → c ≡ call.Resolve r.global asked → (step : Step) → TellsNone c step → ResolvesTo s session r.global asked step new → records_committed new.log ≡ records_committed s.log
      by outcome.Abort is step none to = resolve_abort_tells g o found es s k session r.global r.may idle step new to
      by outcome.Commit is (Waits wait) (inl other) to = absurd (other (next_number s) (ap Waits to.2))
      by outcome.Commit is (Waits wait) (inr asks) to = absurd (asks 0 (ap (decision_asked_by 0) is))
      by outcome.Commit is (Done answer) none to = absurd to
      by outcome.Commit is (Refused f) none to = absurd to
      by outcome.Commit is Nothing none to = absurd to

  -- who commits is answered
  commits_told : (session : ℕ) (c : Call) (step : Step) (new : State) → (c ≡ call.Commit → (answer : Answer) → step ≢ Done answer) → Commits s session new (entries_told s session c step) → ⊥
  commits_told session c step new none commit = by c step none commit.txn.txn commit.txn.session commit.txn.txn _ commit.entries
    where
      by : (c : Call) (step : Step) → (c ≡ call.Commit → (answer : Answer) → step ≢ Done answer) → (t n u : ℕ) (x : Exchange)
          → entries_told s session c step ≡ Decided (decision.Commit t) ∷ Exchanged n u x ∷ [] → ⊥
      by call.Commit (Done answer) none t n u x e = none refl answer refl
      by _ (Done answer) none t n u x e = cc
      by c (Refused f) none t n u x e = cc
      by c (Waits (Lock at)) none t n u x e = cc
      by c Nothing none t n u x e = cc
      by (call.Prepare global) (Waits (Durable m)) none t n u x e = cc
      by _ (Waits (Durable m)) none t n u x e = cc

  pub session_call_tells_none : (g : Geometry) (session : ℕ) (c : Call) (step : Step) (new : State) → CallStep g s session c step new → (c ≡ call.Commit → (answer : Answer) → step ≢ Done answer)
      → ((n : ℕ) → step ≢ Waits (Durable n)) ⊎ AsksNoCommit c → records_committed new.log ≡ records_committed s.log
  session_call_tells_none g session c step new h no_commit none =
      call_tells_none g session c step new h (commits_told session c step new no_commit) (resolve_tells_none g session c step new none)

  pub resume_tells_none : (g : Geometry) (session : ℕ) (step : Step) (new : State) → ResumeStep g s session step new → records_committed new.log ≡ records_committed s.log
  resume_tells_none g session step new (inl h) = ap (λ (x : State). records_committed x.log) h.2
  resume_tells_none g session step new (inr h) = by (resume_passes g o found es s k.sessions h.0 (waits_whole o found es s k h.0 h.1) step new h.3)
    where
      by : ResumePasses g s h.0.session h.0.wait h.0.call new (entries_of_resumed s h.0 step) → records_committed new.log ≡ records_committed s.log
      by (inl same) = ap (λ (x : State). records_committed x.log) same.0
      by (inr (inl on)) =
          quietly_telling_none (length found) o es g h.0.session (wait_refused s h.0.session) new (entries_of_resumed s h.0 step) (sessions_of o found es s k.sessions) on.on
      by (inr (inr (inl told))) = ap (λ (x : State). records_committed x.log) told.is
      by (inr (inr (inr told))) = ap (λ (x : State). records_committed x.log) told.is

  pub call_tells : (g : Geometry) (session : ℕ) (answer : Answer) (new : State) → CallStep g s session call.Commit (Done answer) new
      → records_committed new.log ≡ overlay (records_committed s.log) (written_by o es (txn_of s.sessions session))
  call_tells g session answer new h =
      let t = committed_in g s new session answer h in
      ⊎_elim
      (λ told. commit_tells session new (entries_told s session call.Commit (Done answer)) told.1
      (commit_passes g o found es s k.sessions session t.0 t.2 t.1 (answered_running g s new session call.Commit answer h).1 (Done answer) new t.3))
      (λ r. let clash = r.0.is in absurd cc)
      (session_call_told o found es s k g session call.Commit (Done answer) new h)

  -- so does a resolve to commit
  pub resolve_tells : (g : Geometry) (session n : ℕ) (global : List ℕ) (new : State) → CallStep g s session (call.Resolve global outcome.Commit) (Waits (Durable n)) new
      → records_committed new.log ≡ overlay (records_committed s.log) (written_by o es (txn_under s.sessions global))
  resolve_tells g session n global new h = ⊎_elim
      (λ general. let clash = general.2 in absurd cc)
      (λ goes. ⊎_elim
      (λ early. let clash = early.2 in absurd cc)
      (λ to. resolve_commit_tells g o found es s k session global to.0 goes.1 (Durable n) new to.1) goes.2)
      (resolve_in g s new session global outcome.Commit (Waits (Durable n)) h)

  -- ---- a crash

  pub session_crash_keeps : (n : ℕ) → KeepsDurable s n
      → Kept es (decisions_in (length found) (take n s.log))
      × (records_committed (take n s.log) ≡ serial (written_by o es) o.records (decisions_in (length found) (take n s.log)))
  session_crash_keeps n h =
      let least = k.forced.least in
      let durable = h.0 in
      let front = prefix_decides (length found) o es s.log n k.sessions.decides (omega arith) h.1 in (
        record {
          beginning = (front.0, front.1);
          acknowledged_kept =
              All-weaker (Contains (decisions_in (length found) (take s.durable s.log))) (Contains (decisions_in (length found) (take n s.log)))
              (λ d h. in_longer (length found) s.durable n s.log d durable h) (acknowledged es) k.forced.acknowledged_kept;
        },
        (k.sessions.decides.prefixes n (omega arith) h.1).committed,
      )

  -- what a crash keeps opens as its decisions say
  pub session_crash_opens : (n : ℕ) → KeepsDurable s n
      → IsOpeningOf (take n s.log) (next_opening o (record { entries = es; kept = decisions_in (length found) (take n s.log) })) × DoubtsStand (take n s.log)
      × (records_told (take n s.log) ≡ shown (history_from o es) (decisions_in (length found) (take n s.log)))
  session_crash_opens n h =
      let least = k.forced.least in
      let durable = h.0 in
      let tells = k.sessions.decides.prefixes n (omega arith) h.1 in (
        tells_opening (length found) o es (take n s.log) tells,
        tells.stand,
        told_is_shown (length found) o es (take n s.log) (lawful_front s.log n k.sessions.whole.lawful) tells,
      )
