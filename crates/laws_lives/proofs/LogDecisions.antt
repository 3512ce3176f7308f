-- Each event keeps the decisions of the log those of the history, and what prefixes of the log tell.
use Rattle.std.proofs.Common.{◌≡◌, ◌≢◌, ◌≤◌, ◌++◌, ⊎_elim, ℕ, List, [], ◌∷◌, Bool, true, false, cond, Some, Result, Ok, Err, refl, sym, ap, subst, ◌∙◌, length, take, arith, append-nil, append_assoc}
use Rattle.std.proofs.Math.Seq.{take-length}
use Rattle.std.specs.Prelude.{◌==◌, ◌&&◌, not, unwrap_or}
use Rattle.std.specs.FinMap.{get}
use Rattle.std.specs.List.{filter_map}
use Rattle.shore_types.specs.Images.{Image}
use Rattle.shore_types.specs.declared.faults.Fault.{Fault}
use Rattle.shore_types.specs.declared.ids.Rid.{Rid}
use Rattle.shore_model.specs.declared.calls.Answer.{Answer}
use Rattle.shore_model.specs.declared.calls.Answer.TheVariants.{Began, Aborted, AreInDoubt, Committed, Prepared, Resolved}
use Rattle.shore_model.specs.declared.calls.Call.{Call}
use Rattle.shore_model.specs.declared.calls.Call.TheVariants as call
use Rattle.shore_model.specs.declared.calls.Exchange.{Exchange}
use Rattle.shore_model.specs.declared.histories.Decision.{Decision}
use Rattle.shore_model.specs.declared.histories.Decision.TheVariants as decision
use Rattle.shore_model.specs.declared.histories.Entry.{Entry}
use Rattle.shore_model.specs.declared.histories.Entry.TheVariants.{Asked, Decided, Exchanged}
use Rattle.shore_model.specs.declared.histories.Opening.{Opening}
use Rattle.shore_model.specs.declared.log_records.LogRecord.{LogRecord}
use Rattle.shore_model.specs.declared.log_records.Payload.{Payload}
use Rattle.shore_model.specs.declared.log_records.Payload.TheVariants.{Commit, End, Prepare, RollbackDecided}
use Rattle.shore_model.specs.Histories.{decisions, in_doubt, serial}
use Rattle.shore_model.specs.Logs.{has, is_commit, is_in_doubt, is_prepare, is_rollback, previous_of}
use Rattle.shore_model.proofs.Overlays.{get-overlay}
use Rattle.laws_lives.proofs.BeginSteps.{begin_kept}
use Rattle.laws_lives.proofs.DoubtRecords.{doubt_txns}
use Rattle.laws_lives.proofs.DoubtSteps.{doubt_is_prepared, event_tracks_doubts, own_commit_tracks}
use Rattle.laws_lives.proofs.EndSteps.{commit_stays_sound, commit_turn}
use Rattle.laws_lives.proofs.EndedLocks.{others_keep, without_its_locks}
use Rattle.laws_lives.proofs.Entries.{decisions-asked, decisions-decided, decisions-exchanged}
use Rattle.laws_lives.proofs.Exchanges.{IsQuiet, abort_is_quiet, commit_is_quiet, in_doubt_is_quiet, prepare_is_quiet, refusal_is_quiet, resolve_is_quiet}
use Rattle.laws_lives.proofs.Lists.{drop-whole, length-push, mapped_one, recursion-each}
use Rattle.laws_lives.proofs.LogPrefixes.{IsUndecided, compensations_more, decisions_in-take, decisions_more, opening_tells, prefixes_kept, prefixes_more, record_more, reply_more}
use Rattle.laws_lives.proofs.LogSteps.{commit_keeps_log, event_keeps_log, locks_go}
use Rattle.laws_lives.proofs.Members.{txn_among, txn_of_one, txn_without}
use Rattle.laws_lives.proofs.QuietSteps.{all_kept}
use Rattle.laws_lives.proofs.ReplySteps.{decided_kept}
use Rattle.laws_lives.proofs.SessionsAgree.{decision_agrees, event_agrees}
use Rattle.laws_lives.proofs.Steps.{event_stays_sound, sound_seated}
use Rattle.laws_lives.proofs.Turns.{AreKept, KeepsTurn, kept_by_asked, kept_by_decided}
use Rattle.laws_lives.proofs.Views.{read_of_write}
use Rattle.laws_lives.proofs.WholeSteps.{among_or_not}
use Rattle.laws_lives.specs.Doubts.{DoubtsStand, HasWritten, IsOpeningOf, LoggedDoubt, TracksDoubts, doubts_in}
use Rattle.laws_lives.specs.Logged.{and_compensations, and_record, log_after, log_after_reply}
use Rattle.shore_model.specs.declared.rollbacks.Rollback.{Rollback}
use Rattle.laws_lives.specs.LogPrefixes.{DecidesNothing, LogDecides, TellsItsDecisions, decision_by, decision_in, decisions_in}
use Rattle.laws_lives.specs.LogTells.{IsLogAfter, records_committed}
use Rattle.laws_lives.specs.SessionSteps.{AnswerAbort, AnswerInDoubt, AnswerPrepare, AnswerResolve, AppendCommit, AppendPrepare, AppendResolve, AppendRollback, Ask, BeginTxn, Doom, EndRollback, GiveReply, MoveLocks, PutBack, RefuseCall, SessionEvent, StepsTo, entries_by, exchange}
use Rattle.laws_lives.specs.Sessions.{SessionTxn, Sessions, commit_appended, in_doubt_of, resolved_of, seated, txns_of, without_txn}
use Rattle.laws_lives.specs.Soundness.{IsSoundAfter, SessionsAgree, decided_txn, serial_after, written_by}
use Rattle.laws_lives.specs.Views.{IsAmong}

never_prepared : (p c r : Bool) → p ≡ false → (p && not c && not r) ≡ false
never_prepared true c r e = cc
never_prepared false c r e = refl

rolled_back : (p c r : Bool) → r ≡ true → (p && not c && not r) ≡ false
rolled_back true true r e = refl
rolled_back true false true e = refl
rolled_back true false false e = cc
rolled_back false c r e = refl

-- between two events the log tells its decisions, as the sessions have them
module _ {o : Opening} {es : List Entry} {s : Sessions} {log : List LogRecord} (k : IsSoundAfter o es s) (agree : SessionsAgree o es s) (l : IsLogAfter o es s log) (d : TracksDoubts log s) where
  -- one in doubt has written what the history says
  doubt_written : (t : ℕ) → IsAmong t (in_doubt_of s) → HasWritten log t (written_by o es t)
  doubt_written t among =
      let t_in = agree.under_way t among in
      let a = txn_of_one t s.active t_in in
      let none = agree.unrolled a.0 a.1 (subst (λ t. IsAmong t (in_doubt_of s)) (sym a.2) among) in
      let is : k.standing t ≡ written_by o es t = subst (λ t. k.standing t ≡ written_by o es t) a.2 ((k.stands_for a.0 a.1).written none) in
      let has_logged = l.tells_serial.each t t_in in
      record {
        logged = λ id image at.
            let there = has_logged.in_place id image at in
            sym there.0 ∙ (k.stand.each t t_in).view id (read_of_write s.held t id there.1)
            ∙ get-overlay (serial_after o es) (k.standing t) id ∙ ap (λ W. unwrap_or (get W id) (get (serial_after o es) id)) is ∙ ap (λ R. unwrap_or (get (written_by o es t) id) (get R id)) (sym l.tells_serial.tells)
            ∙ sym (get-overlay (records_committed log) (written_by o es t) id);
        unlogged = has_logged.unwritten;
      }

  pub whole_tells : {base : ℕ} → decisions es ≡ decisions_in base log → TellsItsDecisions base o (written_by o es) log
  whole_tells all = record {
    committed = l.tells_serial.tells ∙ ap (serial (written_by o es) o.records) all;
    in_doubt = d.in_doubt ∙ sym agree.in_doubt ∙ ap (in_doubt o.in_doubt) all;
    written = λ t among.
        let e = mapped_one (λ (d : LoggedDoubt). d.txn) t (doubts_in log) (subst (IsAmong t) (doubt_txns log) among) in
        doubt_written t (subst (λ t. IsAmong t (in_doubt_of s)) e.2 (doubt_is_prepared k l d e.0 e.1));
    stand = d.stand;
  }

module _ {base : ℕ} {o : Opening} {es : List Entry} {s : Sessions} {log : List LogRecord} (k : IsSoundAfter o es s) (agree : SessionsAgree o es s) (l : IsLogAfter o es s log) (t : TracksDoubts log s) (d : LogDecides base o es log) where
  -- an exchange decides nothing
  exchange_decides : (log' : List LogRecord) (session t : ℕ) (x : Exchange) → AreKept o es (es ++ Exchanged session t x ∷ []) (decisions es)
      → LogDecides base o es log' → LogDecides base o (es ++ Exchanged session t x ∷ []) log'
  exchange_decides log' session t x kept g = record {
    long = g.long;
    all = decisions-exchanged es t session x ∙ g.all;
    prefixes = prefixes_kept base o es (es ++ Exchanged session t x ∷ []) (decisions es) log' kept g.all g.prefixes;
  }

  as_decided : (u : ℕ) (log' : List LogRecord) → IsUndecided base o (written_by o es) u (decisions es) log' → LogDecides base o es log'
  as_decided u log' g = record { long = g.long; all = g.decided; prefixes = g.prefixes }

  not_in_doubt : (u : ℕ) → IsAmong u (txns_of s.active) → (IsAmong u (in_doubt_of s) → ⊥) → is_in_doubt u log ≡ false
  not_in_doubt u b none = ⊎_elim
      (λ resolved. rolled_back (has is_prepare u log) (has is_commit u log) (has is_rollback u log) (t.rolled u b resolved).0)
      (λ free. never_prepared (has is_prepare u log) (has is_commit u log) (has is_rollback u log) (t.free u b (none, free)).0)
      (among_or_not u (resolved_of s))

  under_way : (a : SessionTxn) → IsAmong a s.active → (IsAmong a.txn (in_doubt_of s) → ⊥) → IsUndecided base o (written_by o es) a.txn (decisions es) log
  under_way a mem none = record {
    long = d.long;
    tells = whole_tells k agree l t d.all;
    decided = d.all;
    uncommitted = l.tells_serial.uncommitted a.txn (txn_among a s.active mem);
    not_in_doubt = not_in_doubt a.txn (txn_among a s.active mem) none;
    prefixes = d.prefixes;
  }

  pub quiet_decides : {more : List LogRecord} → LogDecides base o es more → (session t : ℕ) (x : Exchange) → IsQuiet o.slots x → LogDecides base o (es ++ Exchanged session t x ∷ []) more
  quiet_decides {more} g session t x quiet =
      exchange_decides more session t x
      (recursion-each (λ d. KeepsTurn o es (es ++ Exchanged session t x ∷ []) (decided_txn d)) (λ d. all_kept k session t x quiet (decided_txn d)) (decisions es)) g

  pub begin_decides : (session : ℕ) → LogDecides base o (es ++ entries_by s (BeginTxn session)) log
  begin_decides session = exchange_decides log session s.next_txn (exchange call.Begin (Ok (Began s.next_txn))) (begin_kept k session) d

  module _ (a : SessionTxn) (mem : IsAmong a s.active) (none : IsAmong a.txn (in_doubt_of s) → ⊥) where
    -- the records are there, and the entry is not
    pub reply_midst : (c : Call) (reply : Result Answer Fault) → LogDecides base o es (log_after_reply log s.records a c reply)
    reply_midst c reply =
        as_decided a.txn (log_after_reply log s.records a c reply) (reply_more base o (written_by o es) (decisions es) log s.records a (under_way a mem none) c reply)

    pub end_midst : LogDecides base o es (and_record a.txn (and_compensations a.txn log a.undo.images) End)
    end_midst =
        let aborts = and_compensations a.txn log a.undo.images in
        as_decided a.txn (and_record a.txn aborts End)
        (record_more base o (written_by o es) a.txn (decisions es) aborts End refl
        (compensations_more base o (written_by o es) a.txn (decisions es) log a.undo.images (under_way a mem none)))

    pub abort_midst : LogDecides base o es (log_after log s (AnswerAbort a))
    abort_midst =
        let aborts = and_compensations a.txn log a.undo.images in
        elim (previous_of a.txn log == 0) as (λ b. LogDecides base o es (cond b log (and_record a.txn aborts End))) [
          | true ↦ d
          | false ↦ end_midst
        ]

    pub put_back_midst : (kept : List (Rid × Image)) (e : Rid × Image) (r : Rollback) → LogDecides base o es (log_after log s (PutBack a kept e r))
    put_back_midst kept e r =
        as_decided a.txn (log_after log s (PutBack a kept e r))
        (compensations_more base o (written_by o es) a.txn (decisions es) log (e ∷ []) (under_way a mem none))

  -- the record of a decision
  decision_decides : (n : ℕ) (p : Payload) (c : Decision) → decision_by n p ≡ Some c → {new : Sessions} → IsSoundAfter o (es ++ Decided c ∷ []) new → SessionsAgree o (es ++ Decided c ∷ []) new
      → IsLogAfter o (es ++ Decided c ∷ []) new (and_record n log p) → TracksDoubts (and_record n log p) new → LogDecides base o (es ++ Decided c ∷ []) (and_record n log p)
  decision_decides n p c is k' agree' l' t' =
      let more = es ++ Decided c ∷ [] in
      let r : LogRecord = record { txn = n; previous = previous_of n log; payload = p } in
      let longer = length-push log r in
      let long = d.long in
      let all : decisions more ≡ decisions_in base (log ++ r ∷ []) = decisions-decided es c ∙ ap (λ ds. ds ++ c ∷ []) d.all ∙ sym (decisions_more base log r d.long c is) in
      record {
        long = omega arith;
        all = all;
        prefixes = prefixes_more base o (written_by o more) log r (whole_tells k' agree' l' t' all)
            (prefixes_kept base o es more (decisions es) log (recursion-each (λ e. KeepsTurn o es more (decided_txn e)) (λ e. kept_by_decided o es (decided_txn e) c) (decisions es)) d.all d.prefixes);
      }

-- entries that decide nothing, and with which each transaction keeps its turn
more_decides : {base : ℕ} {o : Opening} {es : List Entry} (more : List Entry) (log : List LogRecord) → decisions more ≡ decisions es → ((t : ℕ) → KeepsTurn o es more t)
    → LogDecides base o es log → LogDecides base o more log
more_decides {base} {o} {es} more log same kept g = record {
  long = g.long;
  all = same ∙ g.all;
  prefixes = prefixes_kept base o es more (decisions es) log (recursion-each (λ d. KeepsTurn o es more (decided_txn d)) (λ d. kept (decided_txn d)) (decisions es)) g.all g.prefixes;
}

answer_decides : {base : ℕ} {o : Opening} {es : List Entry} {s : Sessions} → IsSoundAfter o es s → (log : List LogRecord) (session t : ℕ) (x : Exchange) → IsQuiet o.slots x
    → LogDecides base o es log → LogDecides base o (es ++ Exchanged session t x ∷ []) log
answer_decides {es = es} k log session t x quiet g =
    more_decides (es ++ Exchanged session t x ∷ []) log (decisions-exchanged es t session x) (all_kept k session t x quiet) g

pub event_decides : (base : ℕ) (o : Opening) (es : List Entry) (old new : Sessions) (e : SessionEvent) (log : List LogRecord) → IsSoundAfter o es old
    → SessionsAgree o es old → IsLogAfter o es old log → TracksDoubts log old → LogDecides base o es log → StepsTo old e new → LogDecides base o (es ++ entries_by old e) (log_after log old e)
event_decides base o es old new (MoveLocks held) log k agree l t d moves = subst (λ es. LogDecides base o es log) (sym (append-nil es)) d
event_decides base o es old new (BeginTxn session) log k agree l t d moves = begin_decides k agree l t d session
event_decides base o es old new (GiveReply a c reply) log k agree l t d moves =
    exchange_decides k agree l t d (log_after_reply log old.records a c reply) a.session a.txn (exchange c reply) (decided_kept k a moves.0.0 moves.0.2 (exchange c reply))
    (reply_midst k agree l t d a moves.0.0 moves.0.2.0 c reply)
event_decides base o es old new (AppendCommit a ticket) log k agree l t d moves =
    let x : Exchange = exchange call.Commit (Ok (Committed ticket)) in
    let gone : (u : ℕ) → IsAmong u (txns_of (without_txn a.txn old.active)) → u ≢ a.txn = λ u b. (txn_without a.txn u old.active b).1 in
    let sound = commit_stays_sound k a moves.0.0 moves.1 (commit_turn k a moves.0.0 moves.1 moves.0.2) in
    let freed = without_its_locks a.txn sound gone in
    let left = locks_go (commit_keeps_log k l a moves.0.0 moves.1) a.txn gone in
    let mid : Sessions = seated old (Decided (decision.Commit a.txn) ∷ []) (commit_appended old a) in
    let decided = decision_decides k agree l t d a.txn Commit (decision.Commit a.txn) refl (sound_seated old (Decided (decision.Commit a.txn) ∷ []) freed) (decision_agrees agree k a moves.0)
    (record { tells_serial = left.tells_serial; undo_logged = left.undo_logged; below = left.below })
    (own_commit_tracks k l t a moves.0.2 mid refl refl (λ u b. others_keep a.txn old.held u (λ same. moves.0.2.0 (subst (λ v. IsAmong v (in_doubt_of old)) same b))) (λ u b. txn_without a.txn u old.active b)) in
    subst (λ es. LogDecides base o es (and_record a.txn log Commit)) (append_assoc es (Decided (decision.Commit a.txn) ∷ []) (Exchanged a.session a.txn x ∷ []))
    (answer_decides freed (and_record a.txn log Commit) a.session a.txn x (commit_is_quiet o.slots ticket) decided)
event_decides base o es old new (PutBack a kept e r) log k agree l t d moves =
    subst (λ es. LogDecides base o es (log_after log old (PutBack a kept e r))) (sym (append-nil es)) (put_back_midst k agree l t d a moves.0.0 moves.0.1 kept e r)
event_decides base o es old new (Doom a) log k agree l t d moves = subst (λ es. LogDecides base o es log) (sym (append-nil es)) d
event_decides base o es old new (AnswerAbort a) log k agree l t d moves =
    quiet_decides k agree l t d (abort_midst k agree l t d a moves.0.0 moves.0.2.0) a.session a.txn (exchange call.Abort (Ok Aborted)) (abort_is_quiet o.slots)
event_decides base o es old new (Ask ticket durable) log k agree l t d moves =
    more_decides (es ++ Asked ticket durable ∷ []) log (decisions-asked es ticket durable) (λ u. kept_by_asked o es u ticket durable) d
event_decides base o es old new (RefuseCall session u c fault) log k agree l t d moves =
    quiet_decides k agree l t d d session u (exchange c (Err fault)) (refusal_is_quiet o.slots c fault moves.1)
event_decides base o es old new (AppendPrepare a global granules) log k agree l t d moves =
    let e : SessionEvent = AppendPrepare a global granules in
    decision_decides k agree l t d a.txn (Prepare global granules) (decision.Prepare a.txn global) refl (event_stays_sound o es old new e k agree moves) (event_agrees o es old new e k agree moves)
    (event_keeps_log o es old new e log k l moves) (event_tracks_doubts o es old new e log k agree l t moves)
event_decides base o es old new (AnswerPrepare session u global) log k agree l t d moves =
    quiet_decides k agree l t d d session u (exchange (call.Prepare global) (Ok Prepared)) (prepare_is_quiet o.slots global)
event_decides base o es old new (AppendResolve a global) log k agree l t d moves =
    let e : SessionEvent = AppendResolve a global in
    decision_decides k agree l t d a.txn Commit (decision.Commit a.txn) refl (event_stays_sound o es old new e k agree moves) (event_agrees o es old new e k agree moves)
    (event_keeps_log o es old new e log k l moves) (event_tracks_doubts o es old new e log k agree l t moves)
event_decides base o es old new (AppendRollback a global) log k agree l t d moves =
    let e : SessionEvent = AppendRollback a global in
    decision_decides k agree l t d a.txn RollbackDecided (decision.RollBack a.txn) refl (event_stays_sound o es old new e k agree moves) (event_agrees o es old new e k agree moves)
    (event_keeps_log o es old new e log k l moves) (event_tracks_doubts o es old new e log k agree l t moves)
event_decides base o es old new (EndRollback a) log k agree l t d moves =
    subst (λ es. LogDecides base o es (log_after log old (EndRollback a))) (sym (append-nil es)) (end_midst k agree l t d a moves.0.0 moves.0.1)
event_decides base o es old new (AnswerResolve session r) log k agree l t d moves =
    quiet_decides k agree l t d d session r.txn (exchange (call.Resolve r.global r.outcome) (Ok Resolved)) (resolve_is_quiet o.slots r.global r.outcome)
event_decides base o es old new (AnswerInDoubt session u pairs) log k agree l t d moves =
    quiet_decides k agree l t d d session u (exchange call.InDoubt (Ok (AreInDoubt pairs))) (in_doubt_is_quiet o.slots pairs)

-- in the midst of an event that appends several records: all are there, and prefixes of them may be what a crash leaves
pub event_midst : (base : ℕ) (o : Opening) (es : List Entry) (old new : Sessions) (e : SessionEvent) (log : List LogRecord) → IsSoundAfter o es old
    → SessionsAgree o es old → IsLogAfter o es old log → TracksDoubts log old → LogDecides base o es log → StepsTo old e new → DecidesNothing e → LogDecides base o es (log_after log old e)
event_midst base o es old new (MoveLocks held) log k agree l t d moves none = d
event_midst base o es old new (BeginTxn session) log k agree l t d moves none = d
event_midst base o es old new (GiveReply a c reply) log k agree l t d moves none = reply_midst k agree l t d a moves.0.0 moves.0.2.0 c reply
event_midst base o es old new (AppendCommit a ticket) log k agree l t d moves none = absurd none
event_midst base o es old new (PutBack a kept e r) log k agree l t d moves none = put_back_midst k agree l t d a moves.0.0 moves.0.1 kept e r
event_midst base o es old new (Doom a) log k agree l t d moves none = d
event_midst base o es old new (AnswerAbort a) log k agree l t d moves none = abort_midst k agree l t d a moves.0.0 moves.0.2.0
event_midst base o es old new (Ask ticket durable) log k agree l t d moves none = d
event_midst base o es old new (RefuseCall session u c fault) log k agree l t d moves none = d
event_midst base o es old new (AppendPrepare a global granules) log k agree l t d moves none = absurd none
event_midst base o es old new (AnswerPrepare session u global) log k agree l t d moves none = d
event_midst base o es old new (AppendResolve a global) log k agree l t d moves none = absurd none
event_midst base o es old new (AppendRollback a global) log k agree l t d moves none = absurd none
event_midst base o es old new (EndRollback a) log k agree l t d moves none = end_midst k agree l t d a moves.0.0 moves.0.1
event_midst base o es old new (AnswerResolve session r) log k agree l t d moves none = d
event_midst base o es old new (AnswerInDoubt session u pairs) log k agree l t d moves none = d

-- an open has decided nothing
pub open_decides : (o : Opening) (log : List LogRecord) → IsOpeningOf log o → DoubtsStand log → LogDecides (length log) o [] log
open_decides o log opening stand =
    let none : decisions_in (length log) log ≡ [] = ap (filter_map decision_in) (drop-whole log) in
    record {
      long = omega arith;
      all = sym none;
      prefixes = λ n least most.
          let whole : length log ≡ n = omega arith in
          subst (λ n. TellsItsDecisions (length log) o (written_by o []) (take n log)) whole
          (subst (TellsItsDecisions (length log) o (written_by o [])) (sym (take-length log)) (opening_tells (length log) o log opening stand none));
    }

-- a prefix of the list has a prefix of the decisions, and tells what these leave
pub prefix_decides : (base : ℕ) (o : Opening) (es : List Entry) (log : List LogRecord) (n : ℕ) → LogDecides base o es log → base ≤ n → n ≤ length log
    → (m : ℕ) × (decisions_in base (take n log) ≡ take m (decisions es)) × TellsItsDecisions base o (written_by o es) (take n log)
prefix_decides base o es log n d least most =
    let front = decisions_in-take base n log in
    (front.0, front.1 ∙ ap (take front.0) (sym d.all), d.prefixes n least most)
