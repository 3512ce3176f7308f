-- What happened since an opening, and the records that it leaves. This project's own: the serial order that "serial" and "Sound"
-- speak of is the one that locks held to the end are taken for (degree 3 of Gray, Lorie, Putzolu and Traiger 1976), with
-- the prepare as the turn of a transaction that prepared.
use Rattle.std.specs.Prelude.{◌≡◌, ◌<◌, ◌==◌, ◌&&◌, ◌||◌, ℕ, List, [], ◌∷◌, ◌++◌, Bool, true, false, not, if◌then◌else◌, Option, None, Some, Result, Ok, Err, map, filter, take, slice_get, unwrap_or, nat_eq, is_ok, IsTrue, IfSome, All, Contains, OnOk}
use Rattle.std.specs.List.{cons_option, filter_map, list_any}
use Rattle.std.specs.Cmp.Lexicographic.{pointwise}
use Rattle.shore_types.specs.declared.faults.Fault.{Fault}
use Rattle.shore_model.specs.declared.calls.Call.{Call}
use Rattle.shore_model.specs.declared.calls.Call.TheVariants as call
use Rattle.shore_model.specs.declared.calls.Answer.{Answer}
use Rattle.shore_model.specs.declared.calls.Answer.TheVariants.{Began, Got, Inserted, Updated, Deleted, Scanned, Locked, Saved, WentBack, Committed, Aborted, Prepared, Resolved, AreInDoubt, Staged, Forced, Flushed, Begun, Ended, Anchored, Moved, Cut, IsDurable}
use Rattle.shore_model.specs.declared.calls.Outcome.TheVariants as outcome
use Rattle.shore_model.specs.declared.calls.Exchange.{Exchange}
use Rattle.shore_model.specs.declared.histories.Decision.{Decision}
use Rattle.shore_model.specs.declared.histories.Decision.TheVariants.{Commit, Prepare, RollBack}
use Rattle.shore_model.specs.declared.histories.Entry.{Entry}
use Rattle.shore_model.specs.declared.histories.Entry.TheVariants.{Asked, Exchanged, Decided}
use Rattle.shore_model.specs.declared.histories.InDoubt.{InDoubt}
use Rattle.shore_model.specs.declared.histories.Opening.{Opening}
use Rattle.shore_model.specs.declared.sessions.SessionState.{SessionState}
use Rattle.shore_model.specs.Records.{Records, WriteSet, overlay, overlays}
use Rattle.shore_model.specs.Alone.{Alone, writes_of}

-- an opening, and then calls with their answers and decisions, in the order of the events that gave them
pub record History : Type 0 where
  pub opening : Opening
  pub entries : List Entry

-- ---- its calls and decisions

-- a call with its answer, if the entry is one of the transaction
abbrev pub exchange_of : ℕ → Entry → Option Exchange
exchange_of t (Exchanged session txn exchange) = if txn == t then Some exchange else None
exchange_of t (Decided d) = None
exchange_of t (Asked ticket durable) = None

-- a transaction's calls with their answers
abbrev pub calls_of : ℕ → List Entry → List Exchange
calls_of t es = filter_map (exchange_of t) es

-- the decision that an entry is
abbrev pub decision_of : Entry → Option Decision
decision_of (Exchanged session txn exchange) = None
decision_of (Decided d) = Some d
decision_of (Asked ticket durable) = None

-- the decisions, in the order of the events that appended their records
abbrev pub decisions : List Entry → List Decision
decisions es = filter_map decision_of es

-- the transaction that a reply begins
abbrev pub begun_by : Result Answer Fault → Option ℕ
begun_by (Ok (Began t)) = Some t
begun_by _ = None

-- the transaction that an entry begins
abbrev pub began : Entry → Option ℕ
began (Exchanged session txn exchange) = begun_by exchange.reply
began (Decided d) = None
began (Asked ticket durable) = None

-- a session is in no transaction
abbrev pub free : SessionState
free = record { txn = 0; prepared = false }

-- the state of a session after a reply: a begin puts it into a transaction, a commit's or an abort's answer frees it
abbrev pub after_own_reply : SessionState → Result Answer Fault → SessionState
after_own_reply p (Ok (Began t)) = record { txn = t; prepared = false }
after_own_reply p (Ok (Committed ticket)) = free
after_own_reply p (Ok Aborted) = free
after_own_reply p (Ok (Got bytes)) = p
after_own_reply p (Ok (Inserted id)) = p
after_own_reply p (Ok Updated) = p
after_own_reply p (Ok Deleted) = p
after_own_reply p (Ok (Scanned pairs)) = p
after_own_reply p (Ok Locked) = p
after_own_reply p (Ok (Saved index)) = p
after_own_reply p (Ok WentBack) = p
after_own_reply p (Ok Prepared) = p
after_own_reply p (Ok Resolved) = p
after_own_reply p (Ok (AreInDoubt pairs)) = p
after_own_reply p (Ok (Staged n)) = p
after_own_reply p (Ok (Forced n)) = p
after_own_reply p (Ok (Flushed count)) = p
after_own_reply p (Ok (Begun n)) = p
after_own_reply p (Ok (Ended n)) = p
after_own_reply p (Ok (Anchored checkpoint tail)) = p
after_own_reply p (Ok Moved) = p
after_own_reply p (Ok Cut) = p
after_own_reply p (Ok (IsDurable durable)) = p
after_own_reply p (Err fault) = p

-- its state once a transaction is prepared
abbrev pub once_prepared : SessionState → ℕ → SessionState
once_prepared p t = if p.txn == t then record { txn = t; prepared = true } else p

-- its state once a transaction is decided: free, if that is its own and prepared
abbrev pub once_decided : SessionState → ℕ → SessionState
once_decided p t = if (p.txn == t) && p.prepared then free else p

-- a prepare's record prepares, and the decision's record of a prepared transaction frees its session
abbrev pub after_decision : SessionState → Decision → SessionState
after_decision p (Prepare t global) = once_prepared p t
after_decision p (Commit t) = once_decided p t
after_decision p (RollBack t) = once_decided p t

-- its state after an entry
abbrev pub after_entry : ℕ → SessionState → Entry → SessionState
after_entry s p (Exchanged session txn exchange) = if session == s then after_own_reply p exchange.reply else p
after_entry s p (Decided d) = after_decision p d
after_entry s p (Asked ticket durable) = p

-- its state after entries
abbrev pub session_state : ℕ → SessionState → List Entry → SessionState
session_state s p [] = p
session_state s p (e ∷ es) = session_state s (after_entry s p e) es

-- the transaction that a decision prepares, with its global id
abbrev pub prepared_by : Decision → Option (ℕ × List ℕ)
prepared_by (Prepare t global) = Some (t, global)
prepared_by _ = None

-- the decision prepares the transaction
abbrev pub is_prepare_of : ℕ → Decision → Bool
is_prepare_of t (Prepare u global) = u == t
is_prepare_of t _ = false

-- those that were prepared before or in the list, with their global ids
abbrev pub all_prepared : List InDoubt → List Decision → List (ℕ × List ℕ)
all_prepared before ds = map (λ d. (d.txn, d.global)) before ++ filter_map prepared_by ds

-- the transaction was prepared before or in the list
abbrev pub has_prepared : List InDoubt → List Decision → ℕ → Bool
has_prepared before ds t = list_any (λ d. d.txn == t) before || list_any (is_prepare_of t) ds

-- the transaction that was prepared last under a global id, or the one found before
abbrev pub last_under : List ℕ → Option ℕ → List (ℕ × List ℕ) → Option ℕ
last_under global found [] = found
last_under global found (p ∷ ps) = last_under global (if pointwise nat_eq p.1 global then Some p.0 else found) ps

-- a begin is of the transaction that it begins, a resolve answered Ok of the last prepared under its global id, and each
-- other call of its session's transaction
abbrev pub IsOfTxn : SessionState → List (ℕ × List ℕ) → ℕ → Call → Result Answer Fault → Type 0
IsOfTxn p pairs t call.Begin reply = t ≡ unwrap_or (begun_by reply) p.txn
IsOfTxn p pairs t (call.Resolve global outcome) reply = OnOk reply (last_under global None pairs ≡ Some t)
IsOfTxn p pairs t _ _ = t ≡ p.txn

-- a number above 0, above those of the opening's transactions in doubt and above all that begins have answered
pub record IsNewNumber (o : Opening) (before : List Entry) (t : ℕ) : Type 0 where
  pub above_none : 0 < t
  pub above_doubts : All (λ (d : InDoubt). d.txn < t) o.in_doubt
  pub above_begun : All (λ e. IfSome (began e) (λ u. u < t)) before

-- An entry may follow those before it: a begin answers a number above all earlier ones, a call is of the transaction
-- that its session's earlier entries say, and only a prepared transaction is rolled back by a decision.
abbrev pub MayStand : Opening → List Entry → Entry → Type 0
MayStand o before (Exchanged session txn exchange) =
    IfSome (begun_by exchange.reply) (IsNewNumber o before)
    × IsOfTxn (session_state session free before) (all_prepared o.in_doubt (decisions before)) txn exchange.call exchange.reply
MayStand o before (Decided (RollBack t)) = IsTrue (has_prepared o.in_doubt (decisions before) t)
MayStand o before (Decided _) = Unit {0}
MayStand o before (Asked ticket durable) = Unit {0}

-- each entry may follow those before it
abbrev pub IsHistory : History → Type 0
IsHistory h = (n : ℕ) (e : Entry) → slice_get h.entries n ≡ Some e → MayStand h.opening (take n h.entries) e

-- the decision that a call asks for and its answer acknowledges. A commit is answered before its record is durable: its answer acknowledges
-- nothing
abbrev pub decision_asked_by : ℕ → Call → Option Decision
decision_asked_by t call.Commit = None
decision_asked_by t (call.Prepare global) = Some (Prepare t global)
decision_asked_by t (call.Resolve global outcome.Commit) = Some (Commit t)
decision_asked_by t (call.Resolve global outcome.Abort) = Some (RollBack t)
decision_asked_by t call.Begin = None
decision_asked_by t (call.Get id) = None
decision_asked_by t (call.GetForUpdate id) = None
decision_asked_by t (call.Insert s bytes) = None
decision_asked_by t (call.Update id bytes) = None
decision_asked_by t (call.Delete id) = None
decision_asked_by t (call.Scan s) = None
decision_asked_by t (call.Lock g mode) = None
decision_asked_by t (call.TryLock g mode) = None
decision_asked_by t call.Savepoint = None
decision_asked_by t (call.BackTo k) = None
decision_asked_by t call.Abort = None
decision_asked_by t call.InDoubt = None

-- ---- tickets

-- the ticket that a reply gives for its transaction's commit: the number of its Commit record
abbrev pub ticket_for : ℕ → Result Answer Fault → Option (ℕ × ℕ)
ticket_for t (Ok (Began txn)) = None
ticket_for t (Ok (Got bytes)) = None
ticket_for t (Ok (Inserted id)) = None
ticket_for t (Ok Updated) = None
ticket_for t (Ok Deleted) = None
ticket_for t (Ok (Scanned pairs)) = None
ticket_for t (Ok Locked) = None
ticket_for t (Ok (Saved index)) = None
ticket_for t (Ok WentBack) = None
ticket_for t (Ok (Committed ticket)) = Some (ticket, t)
ticket_for t (Ok Aborted) = None
ticket_for t (Ok Prepared) = None
ticket_for t (Ok Resolved) = None
ticket_for t (Ok (AreInDoubt pairs)) = None
ticket_for t (Ok (Staged number)) = None
ticket_for t (Ok (Forced number)) = None
ticket_for t (Ok (Flushed count)) = None
ticket_for t (Ok (Begun number)) = None
ticket_for t (Ok (Ended number)) = None
ticket_for t (Ok (Anchored checkpoint tail)) = None
ticket_for t (Ok Moved) = None
ticket_for t (Ok Cut) = None
ticket_for t (Ok (IsDurable durable)) = None
ticket_for t (Err fault) = None

abbrev pub ticket_in : Entry → Option (ℕ × ℕ)
ticket_in (Exchanged session txn exchange) = ticket_for txn exchange.reply
ticket_in (Decided d) = None
ticket_in (Asked ticket durable) = None

-- the tickets that these entries give, each with its transaction. They are those of one manager, since its open: numbers that a crash lost are
-- given again, so a ticket of another manager is none of them, though it may have the same number
abbrev pub tickets : List Entry → List (ℕ × ℕ)
tickets es = filter_map ticket_in es

-- the commits that have the ticket
abbrev pub commits_with : ℕ → List (ℕ × ℕ) → List Decision
commits_with ticket ts = map (λ p. Commit p.1) (filter (λ p. p.0 == ticket) ts)

-- ---- what is acknowledged

-- The decisions that an entry acknowledges, after those before it. A commit is acknowledged where its ticket is asked for and the answer is
-- that it is durable; a prepare, and a decision of a prepared transaction, where its call is answered Ok.
abbrev pub acknowledged_by : List Entry → Entry → List Decision
acknowledged_by before (Exchanged session txn exchange) = if is_ok exchange.reply then cons_option (decision_asked_by txn exchange.call) [] else []
acknowledged_by before (Decided d) = []
acknowledged_by before (Asked ticket durable) = if durable then commits_with ticket (tickets before) else []

abbrev pub acknowledged_after : List Entry → List Entry → List Decision
acknowledged_after before [] = []
acknowledged_after before (e ∷ es) = acknowledged_by before e ++ acknowledged_after (before ++ e ∷ []) es

-- the acknowledged decisions
abbrev pub acknowledged : List Entry → List Decision
acknowledged es = acknowledged_after [] es

-- ---- the records that decisions leave

-- what an opening says that a transaction in doubt wrote
abbrev pub writes_given : List InDoubt → ℕ → Option WriteSet
writes_given [] t = None
writes_given (d ∷ ds) t = if d.txn == t then Some d.writes else writes_given ds t

-- what a transaction wrote
abbrev pub writes_in : History → ℕ → WriteSet
writes_in h t = unwrap_or (writes_given h.opening.in_doubt t) (writes_of (calls_of t h.entries))

-- the write sets of the committed, laid over the records in the order of the commits (serial execution)
abbrev pub serial : (ℕ → WriteSet) → Records → List Decision → Records
serial writes R [] = R
serial writes R (Commit t ∷ ds) = serial writes (overlay R (writes t)) ds
serial writes R (Prepare t global ∷ ds) = serial writes R ds
serial writes R (RollBack t ∷ ds) = serial writes R ds

-- the decision commits the transaction or rolls it back
abbrev pub is_ended_by : ℕ → Decision → Bool
is_ended_by t (Commit u) = u == t
is_ended_by t (RollBack u) = u == t
is_ended_by t (Prepare u global) = false

-- the transaction is neither committed nor rolled back in the list
abbrev pub is_undecided : List Decision → ℕ → Bool
is_undecided ds t = not (list_any (is_ended_by t) ds)

-- those prepared before or in the list, and in it neither committed nor rolled back, with their global ids
abbrev pub in_doubt : List InDoubt → List Decision → List (ℕ × List ℕ)
in_doubt before ds = filter (λ p. is_undecided ds p.0) (all_prepared before ds)

-- the serial records, overlaid with the write sets of those in doubt
abbrev pub shown : History → List Decision → Records
shown h ds =
    overlays (serial (writes_in h) h.opening.records ds)
    (map (λ p. writes_in h p.0) (in_doubt h.opening.in_doubt ds))

-- ---- what must hold of a history

-- The transaction, if any, whose turn a decision is, after those before it. The turn of a transaction (its serialization point) is its
-- prepare if it prepared, else its commit; that of one in doubt at the opening lies before the opening.
abbrev pub turn_of : List InDoubt → List Decision → Decision → Option ℕ
turn_of doubts before (Prepare t global) = if has_prepared doubts before t then None else Some t
turn_of doubts before (Commit t) = if has_prepared doubts before t then None else Some t
turn_of doubts before (RollBack t) = None

-- a transaction, with its own answers and its write set, runs alone on the serial records that these decisions leave
abbrev pub RunsAloneAfter : History → List Decision → ℕ → Type 0
RunsAloneAfter h before t = Alone h.opening.slots (serial (writes_in h) h.opening.records before) (calls_of t h.entries) (writes_in h t)

-- if the decision is a turn, its transaction runs alone on the serial records just before it
abbrev pub TakesTurn : History → List Decision → Decision → Type 0
TakesTurn h before d = IfSome (turn_of h.opening.in_doubt before d) (RunsAloneAfter h before)

-- it is so at each place of the decisions
abbrev pub TakeTurns : History → List Decision → Type 0
TakeTurns h ds = (n : ℕ) (d : Decision) → slice_get ds n ≡ Some d → TakesTurn h (take n ds) d

-- each transaction that has a turn runs alone on the serial records just before its turn (serializability, the answers included)
abbrev pub Sound : History → Type 0
Sound h = TakeTurns h (decisions h.entries)

-- the recovered prefix: a prefix of the decisions that holds every acknowledged one
pub record Kept (es : List Entry) (ds : List Decision) : Type 0 where
  pub beginning : (n : ℕ) × (ds ≡ take n (decisions es))
  pub acknowledged_kept : All (Contains ds) (acknowledged es)
