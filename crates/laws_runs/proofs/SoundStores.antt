-- What a restart may be handed it keeps sound, and so does its loss of power.
use Rattle.std.proofs.Common.{◌≡◌, ◌≤◌, ◌++◌, ⊎_elim, ℕ, List, [], ◌∷◌, Option, Some, None, refl, sym, ap, subst, length, take, take_all, arith}
use Rattle.std.specs.Prelude.{IsSomeAnd, slice_get}
use Rattle.std.proofs.Math.Seq.{take-length}
use Rattle.std.proofs.lemmas.List.{length-take, length-take-le, take-append-le}
use Rattle.laws_lives.proofs.Lists.{take-beyond, within_or_beyond}
use Rattle.shore_types.specs.declared.layout.Geometry.{Geometry}
use Rattle.shore_types.specs.declared.layout.TheConstants.{LONGEST_FRAME, MAX_LOG_BYTES}
use Rattle.shore_model.specs.declared.log_records.LogRecord.{LogRecord}
use Rattle.shore_model.specs.Logs.{Lawful}
use Rattle.laws_lives.proofs.Invariant.{crash_stands, event_kept, from_the_first}
use Rattle.laws_lives.proofs.UndoRecords.{lawful_front, lawful_next, undo_follows}
use Rattle.laws_lives.specs.Pages.{AreAsOfOwnNumbers, LoggedPages, empty_page}
use Rattle.laws_lives.specs.Recovery.{AppendRecord, FlushPage, ForceLog, IsRecoverable, LeadsTo, LosePower, MayCrash, RecoveryEvent, RecoveryState, RedoRecord, after_append, after_crash, after_redo}
use Rattle.laws_lives.specs.Restarts.{IsRestartStep, RestartsTo}
use Rattle.laws_lives.specs.Undo.{undo_record}
use Rattle.laws_lives.proofs.Openings.{undone_stand}
use Rattle.laws_lives.proofs.LifeSteps.{format_may_be_found}
use Rattle.laws_lives.specs.Stretches.{MayBeFound}
use Rattle.laws_lives.specs.Doubts.{DoubtsStand}
use Rattle.laws_runs.proofs.ManagerLogs.{restart_roomy}
use Rattle.laws_runs.proofs.Opens.{format_is_roomy}
use Rattle.laws_runs.proofs.Prefixes.{left_roomy}
use Rattle.laws_runs.specs.RoomyLogs.{AreRoomy}
use Rattle.laws_runs.specs.SoundStores.{IsLost, IsSoundStore, MayBeOpened, found_state}

-- ---- a restart

-- the log is lawful, and in each prefix that a crash may leave those in doubt stand beside each other
record IsPlain (s : RecoveryState) : Type 0 where
  lawful : Lawful s.log
  doubts : (n : ℕ) → s.durable ≤ n → DoubtsStand (take n s.log)

same_plain : (s new : RecoveryState) → new ≡ s → IsPlain s → IsPlain new
same_plain s new e k = subst IsPlain (sym e) k

step_plain : (s : RecoveryState) (e : RecoveryEvent) (new : RecoveryState) → s.durable ≤ length s.log → IsPlain s → IsRestartStep s e → LeadsTo s e new → IsPlain new
step_plain s (AppendRecord r) new within k is leads = subst IsPlain (sym leads.1) (subst (λ r. IsPlain (after_append s r)) (sym is.2) (record { lawful = lawful; doubts = doubts }))
  where
    u : LogRecord
    u = undo_record s.log is.0

    lawful : Lawful (s.log ++ u ∷ [])
    lawful = lawful_next s.log u k.lawful (undo_follows s.log is.0 is.1)

    whole : DoubtsStand (s.log ++ u ∷ [])
    whole = undone_stand s.log (is.0 ∷ []) (s.log ++ u ∷ []) (is.1, refl) (subst DoubtsStand (take-length s.log) (k.doubts (length s.log) within))

    doubts : (n : ℕ) → s.durable ≤ n → DoubtsStand (take n (s.log ++ u ∷ []))
    doubts n least = ⊎_elim
        (λ less. subst DoubtsStand (sym (take-append-le n s.log (u ∷ []) less)) (k.doubts n least))
        (λ beyond. subst DoubtsStand (sym (take-beyond n s.log u beyond)) whole)
        (within_or_beyond n (length s.log))
step_plain s RedoRecord new within k is leads = redo_keeps (slice_get s.log s.redone) leads
  where
    redo_keeps : (o : Option LogRecord) → IsSomeAnd o (λ r. new ≡ after_redo s r) → IsPlain new
    redo_keeps None h = absurd h
    redo_keeps (Some r) h = same_plain (after_redo s r) new h (record { lawful = k.lawful; doubts = k.doubts })
step_plain s (ForceLog n) new within k is leads =
    subst IsPlain (sym leads.2) (record { lawful = k.lawful; doubts = λ m more. let least = leads.0 in k.doubts m (omega (arith, least, more)) })
step_plain s (FlushPage p) new within k is leads = subst IsPlain (sym leads.1) (record { lawful = k.lawful; doubts = k.doubts })
step_plain s (LosePower n left begin) new within k is leads =
    subst IsPlain (sym leads.1) (record { lawful = lawful_front s.log n k.lawful; doubts = λ m more. front_stands s.log n m (k.doubts n leads.0.0) more })
  where
    front_stands : (log : List LogRecord) (n m : ℕ) → DoubtsStand (take n log) → n ≤ m → DoubtsStand (take m (take n log))
    front_stands log n m h more = let short = length-take n log in subst DoubtsStand (sym (take_all m (take n log) (omega (arith, short, more)))) h

restart_plain : (s : RecoveryState) (works : List RecoveryEvent) (last : RecoveryState) → IsRecoverable s → IsPlain s → RestartsTo s works last → IsPlain last
restart_plain s [] last recoverable k h = same_plain s last h k
restart_plain s (e ∷ works) last recoverable k h =
    restart_plain h.1 works last (event_kept s e h.1 recoverable h.2) (step_plain s e h.1 recoverable.durable k h.0 h.2) h.3

restart_recoverable : (s : RecoveryState) (works : List RecoveryEvent) (last : RecoveryState) → IsRecoverable s → RestartsTo s works last → IsRecoverable last
restart_recoverable s [] last k h = subst IsRecoverable (sym h) k
restart_recoverable s (e ∷ works) last k h = restart_recoverable h.1 works last (event_kept s e h.1 k h.2) h.3

pub restarts_join : (s : RecoveryState) (works : List RecoveryEvent) (mid : RecoveryState) (later : List RecoveryEvent) (last : RecoveryState)
    → RestartsTo s works mid → RestartsTo mid later last → RestartsTo s (works ++ later) last
restarts_join s [] mid later last h k = subst (λ x. RestartsTo x later last) h k
restarts_join s (e ∷ works) mid later last h k = (h.0, h.1, h.2, restarts_join h.1 works mid later last h.3 k)

-- ---- what a restart finds

pub found_recoverable : (rs : List LogRecord) (pages : LoggedPages) → AreAsOfOwnNumbers rs pages → IsRecoverable (found_state rs pages)
found_recoverable rs pages as_of = record {
  durable = omega arith;
  redone = omega arith;
  volume = as_of;
  ahead = λ p. (as_of p).within;
  in_place = from_the_first rs pages as_of;
}

module _ (g : Geometry) (stream_bytes : ℕ) where
  pub restart_sound : (s : RecoveryState) (works : List RecoveryEvent) (last : RecoveryState) → IsSoundStore g stream_bytes s → RestartsTo s works last
      → IsSoundStore g stream_bytes last
  restart_sound s works last k h =
      let plain = restart_plain s works last k.recoverable (record { lawful = k.lawful; doubts = k.doubts }) h in
      record {
        recoverable = restart_recoverable s works last k.recoverable h;
        lawful = plain.lawful;
        doubts = plain.doubts;
        roomy = restart_roomy g stream_bytes s works last k.roomy h;
      }

  -- ---- what it is handed

  pub found_sound : (rs : List LogRecord) (pages : LoggedPages) → MayBeOpened g stream_bytes rs pages → IsSoundStore g stream_bytes (found_state rs pages)
  found_sound rs pages k = record {
    recoverable = found_recoverable rs pages k.as_of;
    lawful = k.lawful;
    doubts = λ n all. subst DoubtsStand (sym (take_all n rs all)) k.doubts;
    roomy = k.roomy;
  }

  pub found_may_be_found : (rs : List LogRecord) (pages : LoggedPages) → MayBeOpened g stream_bytes rs pages → MayBeFound (found_state rs pages)
  found_may_be_found rs pages k = record { recoverable = found_recoverable rs pages k.as_of; lawful = k.lawful; doubts = k.doubts; durable = omega arith }

  pub format_may_be_opened : LONGEST_FRAME ≤ stream_bytes → stream_bytes ≤ MAX_LOG_BYTES → MayBeOpened g stream_bytes [] (λ p. empty_page)
  format_may_be_opened least most = record {
    lawful = format_may_be_found.lawful;
    doubts = format_may_be_found.doubts;
    roomy = format_is_roomy g stream_bytes least most;
    as_of = format_may_be_found.recoverable.volume;
  }

  -- ---- a loss of power

  module _ (s : RecoveryState) (k : IsSoundStore g stream_bytes s) (n : ℕ) (left : LoggedPages) (lost : IsLost s n left) where
    pub left_may_be_opened : MayBeOpened g stream_bytes (take n s.log) left
    left_may_be_opened = record {
      lawful = lawful_front s.log n k.lawful;
      doubts = k.doubts n lost.least;
      roomy = subst (λ m. AreRoomy g stream_bytes m (take n s.log)) (sym (length-take-le n s.log lost.most)) (left_roomy g stream_bytes s.durable s.log n lost.least k.roomy);
      as_of = crash_stands s k.recoverable n left lost.least lost.most lost.shows;
    }

    pub may_crash : MayCrash s n left 0
    may_crash = (lost.least, lost.most, lost.shows, from_the_first (take n s.log) left left_may_be_opened.as_of)

    pub left_is_found : found_state (take n s.log) left ≡ after_crash s n left 0
    left_is_found =
        ap (λ durable. record { log = take n s.log; durable = durable; redone = 0; volume = left; in_place = left }) (length-take-le n s.log lost.most)
