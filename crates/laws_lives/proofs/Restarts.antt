-- Each step of a restart, a crash too, leaves a restart of what was found first; and what the pages show once it is through.
use Rattle.std.proofs.Common.{◌≡◌, ◌≤◌, take, length-take, ℕ, List, [], ◌∷◌, ◌++◌, refl, sym, ap, subst, ◌∙◌, length, arith}
use Rattle.std.specs.Prelude.{slice_get, Option, Some, None, IsSomeAnd}
use Rattle.std.specs.FinMap.{get}
use Rattle.shore_types.specs.declared.ids.PageId.{PageId}
use Rattle.shore_model.specs.declared.log_records.LogRecord.{LogRecord}
use Rattle.shore_model.specs.Logs.{Lawful, records_told}
use Rattle.laws_lives.specs.Pages.{LoggedPages, rid_on}
use Rattle.laws_lives.specs.Recovery.{RecoveryState, RecoveryEvent, AppendRecord, RedoRecord, ForceLog, FlushPage, LosePower, LeadsTo, IsRecoverable, MayCrash, after_crash, after_redo}
use Rattle.laws_lives.specs.Restarts.{IsRestartStep, RestartsTo, IsRestartOf}
use Rattle.laws_lives.specs.Undo.{IsUndoneTo, HasNoLosers}
use Rattle.laws_lives.proofs.Invariant.{event_kept, redone_whole}
use Rattle.laws_lives.proofs.WritersTold.{leaves_told}
use Rattle.laws_lives.proofs.UndoRecords.{undone_lawful, undone_tells, undone_more, undone_front, lawful_front}

module _ (found : List LogRecord) where
  same_list : (s new : RecoveryState) → IsRestartOf found s → new.log ≡ s.log → s.durable ≤ new.durable → IsRestartOf found new
  same_list s new k list durable =
      let before = k.durable in
      record { turns = k.turns; undone = subst (IsUndoneTo found k.turns) (sym list) k.undone; durable = omega arith }

  event_restarts : (s : RecoveryState) (e : RecoveryEvent) (new : RecoveryState) → IsRestartOf found s → IsRestartStep s e → LeadsTo s e new → IsRestartOf found new
  event_restarts s (AppendRecord r) new k of m = record {
    turns = k.turns ++ of.0 ∷ [];
    undone = subst (IsUndoneTo found (k.turns ++ of.0 ∷ [])) (ap (λ x. s.log ++ x ∷ []) (sym of.2) ∙ sym (ap (λ (x : RecoveryState). x.log) m.1)) (undone_more found k.turns s.log of.0 k.undone of.1);
    durable = subst (λ (x : RecoveryState). length found ≤ x.durable) (sym m.1) k.durable;
  }
  event_restarts s RedoRecord new k of m = redo_restarts (slice_get s.log s.redone) m
    where
      redo_restarts : (o : Option LogRecord) → IsSomeAnd o (λ r. new ≡ after_redo s r) → IsRestartOf found new
      redo_restarts None is = absurd is
      redo_restarts (Some r) is = subst (IsRestartOf found) (sym is) (record { turns = k.turns; undone = k.undone; durable = k.durable })
  event_restarts s (ForceLog n) new k of m =
      let before = k.durable in
      let more = m.0 in
      let le : length found ≤ n = omega arith in
      subst (IsRestartOf found) (sym m.2) (record { turns = k.turns; undone = k.undone; durable = le })
  event_restarts s (FlushPage p) new k of m = subst (IsRestartOf found) (sym m.1) (record { turns = k.turns; undone = k.undone; durable = k.durable })
  event_restarts s (LosePower n left begin) new k of m =
      let before = k.durable in
      let more = m.0.0 in
      let le : length found ≤ n = omega arith in
      let front = undone_front found k.turns s.log n k.undone le in
      subst (IsRestartOf found) (sym m.1) (record { turns = front.0; undone = front.1; durable = le })

  pub events_restart : (s : RecoveryState) (events : List RecoveryEvent) (last : RecoveryState) → IsRecoverable s → IsRestartOf found s → RestartsTo s events last → IsRecoverable last × IsRestartOf found last
  events_restart s [] last kept k m = subst (λ (x : RecoveryState). IsRecoverable x × IsRestartOf found x) (sym m) (kept, k)
  events_restart s (e ∷ events) last kept k m =
      events_restart m.1 events last (event_kept s e m.1 kept m.2) (event_restarts s e m.1 k m.0 m.2) m.3

  pub restart_shows : (s : RecoveryState) → Lawful found → IsRecoverable s → IsRestartOf found s → s.redone ≡ length s.log → HasNoLosers s.log
      → (p : PageId) (i : ℕ) → (s.in_place p).slots i ≡ get (records_told found) (rid_on p i)
  restart_shows s lawful kept k whole quiet p i =
      redone_whole s kept whole p i
      ∙ leaves_told s.log (undone_lawful found k.turns s.log k.undone lawful) quiet (rid_on p i)
      ∙ ap (λ R. get R (rid_on p i)) (undone_tells found k.turns s.log k.undone)

pub crash_then_restart : (s : RecoveryState) (n : ℕ) (left : LoggedPages) (begin : ℕ) (events : List RecoveryEvent) (last : RecoveryState) → IsRecoverable s → Lawful s.log
    → MayCrash s n left begin → RestartsTo (after_crash s n left begin) events last → last.redone ≡ length last.log → HasNoLosers last.log
    → (p : PageId) (i : ℕ) → (last.in_place p).slots i ≡ get (records_told (take n s.log)) (rid_on p i)
crash_then_restart s n left begin events last kept lawful crash restart whole quiet p i =
    let long = length-take n s.log in
    let begun : IsRestartOf (take n s.log) (after_crash s n left begin) = record { turns = []; undone = refl; durable = omega arith } in
    let after = events_restart (take n s.log) (after_crash s n left begin) events last (event_kept s (LosePower n left begin) (after_crash s n left begin) kept (crash, refl)) begun restart in
    restart_shows (take n s.log) last (lawful_front s.log n lawful) after.0 after.1 whole quiet p i
