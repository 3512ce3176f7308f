-- From every state of a lawful log a restart can come through: redo to the end of the log, and then the turns of undo.
use Rattle.std.proofs.Common.{◌≡◌, ◌+◌, ◌-◌, ℕ, zero, suc, List, [], ◌∷◌, ◌++◌, Option, Some, None, refl, sym, subst, length, arith}
use Rattle.std.specs.Prelude.{slice_get, IsSomeAnd}
use Rattle.std.proofs.lemmas.List.{length-append}
use Rattle.shore_model.specs.declared.log_records.LogRecord.{LogRecord}
use Rattle.shore_model.specs.Logs.{Lawful}
use Rattle.laws_lives.specs.Recovery.{RecoveryState, RecoveryEvent, AppendRecord, RedoRecord, IsRecoverable, after_append, after_redo}
use Rattle.laws_lives.specs.Restarts.{RestartsTo}
use Rattle.laws_lives.specs.Undo.{HasNoLosers, IsUndoneTo, undo_record}
use Rattle.laws_lives.proofs.UndoEnds.{undo_ends}
use Rattle.laws_lives.proofs.Writers.{no_place}

-- events of a restart that lead from s to a log that is redone as a whole
record RedoneTo (s : RecoveryState) (log : List LogRecord) : Type 0 where
  pub events : List RecoveryEvent
  pub last : RecoveryState
  pub restarts : RestartsTo s events last
  pub reaches : last.log ≡ log
  pub whole : last.redone ≡ length last.log

redo_rest : (k : ℕ) (s : RecoveryState) → s.redone + k ≡ length s.log → RedoneTo s s.log
redo_rest zero s count = record { events = []; last = s; restarts = refl; reaches = refl; whole = omega (arith, count) }
redo_rest (suc k) s count = by_record (slice_get s.log s.redone) refl (redo_rest k)
  where
    by_record : (o : Option LogRecord) → slice_get s.log s.redone ≡ o
        → ((new : RecoveryState) → new.redone + k ≡ length new.log → RedoneTo new new.log) → RedoneTo s s.log
    by_record None e rest = absurd (no_place s.log s.redone (omega (arith, count)) e)
    by_record (Some r) e rest =
        let h = rest (after_redo s r) (omega (arith, count)) in
        record {
          events = RedoRecord ∷ h.events;
          last = h.last;
          restarts = (tt, after_redo s r, subst (λ o. IsSomeAnd o (λ x. after_redo s r ≡ after_redo s x)) (sym e) refl, h.restarts);
          reaches = h.reaches;
          whole = h.whole;
        }

undo_rest : (ts : List ℕ) (s : RecoveryState) (log : List LogRecord) → s.redone ≡ length s.log → IsUndoneTo s.log ts log → RedoneTo s log
undo_rest [] s log whole undone = record { events = []; last = s; restarts = refl; reaches = sym undone; whole = whole }
undo_rest (t ∷ ts) s log whole undone =
    let r = undo_record s.log t in
    let long = length-append s.log (r ∷ []) in
    let h = undo_rest ts (after_append s r) log (omega (arith, whole, long)) undone.1 in
    record {
      events = AppendRecord r ∷ h.events;
      last = h.last;
      restarts = ((t, undone.0, refl), after_append s r, (whole, refl), h.restarts);
      reaches = h.reaches;
      whole = h.whole;
    }

restarts_on : (s : RecoveryState) (es : List RecoveryEvent) (mid : RecoveryState) (fs : List RecoveryEvent) (last : RecoveryState)
    → RestartsTo s es mid → RestartsTo mid fs last → RestartsTo s (es ++ fs) last
restarts_on s [] mid fs last a b = subst (λ x. RestartsTo x fs last) a b
restarts_on s (e ∷ es) mid fs last a b = (a.0, a.1, a.2, restarts_on a.1 es mid fs last a.3 b)

pub comes_through : (s : RecoveryState) → IsRecoverable s → Lawful s.log
    → (events : List RecoveryEvent) × (last : RecoveryState) × RestartsTo s events last × (last.redone ≡ length last.log) × HasNoLosers last.log
comes_through s k lawful =
    let within = k.redone in
    let redo = redo_rest (length s.log - s.redone) s (omega (arith, within)) in
    let undo = undo_ends s.log lawful in
    let rest = undo_rest undo.0 redo.last undo.1 redo.whole (subst (λ xs. IsUndoneTo xs undo.0 undo.1) (sym redo.reaches) undo.2) in (
      redo.events ++ rest.events,
      rest.last,
      restarts_on s redo.events redo.last rest.events rest.last redo.restarts rest.restarts,
      rest.whole,
      subst HasNoLosers (sym rest.reaches) undo.3,
    )
