-- Events behind which no decision is logged leave what the log tells.
use Rattle.std.proofs.Common.{◌≡◌, ◌++◌, ◌∷◌, ℕ, List, [], sym, ap, ◌∙◌, arith, length, subst}
use Rattle.std.specs.List.{AllByRecursion}
use Rattle.shore_types.specs.declared.layout.Geometry.{Geometry}
use Rattle.shore_model.specs.declared.histories.Entry.{Entry}
use Rattle.shore_model.specs.declared.histories.Opening.{Opening}
use Rattle.shore_model.specs.declared.histories.Entry.TheVariants.{Decided, Exchanged, Asked}
use Rattle.shore_model.specs.declared.log_records.LogRecord.{LogRecord}
use Rattle.shore_model.specs.Histories.{serial}
use Rattle.laws_lives.proofs.LogDecisions.{event_midst}
use Rattle.laws_lives.specs.LogPrefixes.{DecidesNothing, LogDecides, TellsItsDecisions}
use Rattle.laws_lives.specs.LogTells.{records_committed}
use Rattle.laws_lives.specs.SessionSteps.{AnswerAbort, Ask, AppendCommit, BeginTxn, Doom, GiveReply, MoveLocks, PutBack, RefuseCall, SessionEvent, entries_by, AnswerInDoubt, AnswerPrepare, AnswerResolve, AppendPrepare, AppendResolve, AppendRollback, EndRollback}
use Rattle.laws_lives.specs.Soundness.{serial_after, written_by}
use Rattle.laws_calls.proofs.Comings.{goes_keeps}
use Rattle.laws_calls.proofs.Links.{Goes, GoesBy, GoesQuietly, IsQuiet, left_like}
use Rattle.laws_calls.proofs.Sessions.{AreSessionsAfter}
use Rattle.laws_calls.specs.States.{State}
use Rattle.std.proofs.Math.Seq.{take-length}

-- a log that has just the decisions of the entries tells their serial records
pub whole_told : (base : ℕ) (o : Opening) (es : List Entry) (log : List LogRecord) → LogDecides base o es log → records_committed log ≡ serial_after o es
whole_told base o es log d =
    (subst (TellsItsDecisions base o (written_by o es)) (take-length log) (d.prefixes (length log) d.long (omega arith))).committed ∙ ap (serial (written_by o es) o.records)
    (sym d.all)

abbrev IsDecided : Entry → Type 0
IsDecided (Decided d) = Unit {0}
IsDecided (Exchanged n t x) = ⊥
IsDecided (Asked ticket answer) = ⊥

quiet_decides_nothing : (start : State) (e : SessionEvent) → IsQuiet start e → DecidesNothing e
quiet_decides_nothing start (MoveLocks held) quiet = tt
quiet_decides_nothing start (BeginTxn session) quiet = tt
quiet_decides_nothing start (GiveReply a c reply) quiet = tt
quiet_decides_nothing start (RefuseCall session t c f) quiet = tt
quiet_decides_nothing start (PutBack a kept e r) quiet = tt
quiet_decides_nothing start (Doom a) quiet = absurd quiet
quiet_decides_nothing start (AppendCommit a ticket) quiet = absurd quiet
quiet_decides_nothing start (AnswerAbort a) quiet = absurd quiet
quiet_decides_nothing start (Ask ticket answer) quiet = absurd quiet
quiet_decides_nothing start (AppendPrepare a global granules) quiet = absurd quiet
quiet_decides_nothing start (AnswerPrepare session t global) quiet = absurd quiet
quiet_decides_nothing start (AppendResolve a global) quiet = absurd quiet
quiet_decides_nothing start (AppendRollback a global) quiet = absurd quiet
quiet_decides_nothing start (EndRollback a) quiet = absurd quiet
quiet_decides_nothing start (AnswerResolve session r) quiet = absurd quiet
quiet_decides_nothing start (AnswerInDoubt session t pairs) quiet = tt

-- an event that decides nothing tells nothing
goes_telling_none : (base : ℕ) (o : Opening) (es : List Entry) (g : Geometry) (s new : State) (e : SessionEvent) → AreSessionsAfter base o es s.sessions s.log → DecidesNothing e → Goes g s e new
    → records_committed new.log ≡ records_committed s.log
goes_telling_none base o es g s new e k quiet h =
    ap records_committed h.log
    ∙ whole_told base o es _ (event_midst base o es s.sessions new.sessions e s.log k.sound k.agree k.logged k.doubts k.decides h.moves quiet)
    ∙ sym (whole_told base o es s.log k.decides)

by_telling_none : (base : ℕ) (o : Opening) (es : List Entry) (g : Geometry) (start s : State) (events : List SessionEvent) (new : State) (made : List Entry) → AreSessionsAfter base o es s.sessions s.log
    → AllByRecursion (IsQuiet start) events → GoesBy g s events new made → records_committed new.log ≡ records_committed s.log
by_telling_none base o es g start s [] new made k quiet h = ap (λ (x : State). records_committed x.log) h.0
by_telling_none base o es g start s (e ∷ events) new made k quiet h =
    by_telling_none base o (es ++ entries_by s.sessions e) g start h.0 events new h.1 (goes_keeps base o es g s h.0 e k h.2) quiet.1 h.3 ∙ goes_telling_none base o es g s h.0 e k (quiet_decides_nothing start e quiet.0) h.2

pub quietly_telling_none : (base : ℕ) (o : Opening) (es : List Entry) (g : Geometry) (session : ℕ) (s new : State) (made : List Entry) → AreSessionsAfter base o es s.sessions s.log
    → GoesQuietly g session s new made → records_committed new.log ≡ records_committed s.log
quietly_telling_none base o es g session s new made k h =
    ap records_committed (left_like session h.mid new h.left).log ∙ by_telling_none base o es g s s h.events h.mid made k h.quiet h.goes
