-- A restart that has come through, and the manager that opens over it.
use Rattle.std.proofs.Common.{◌≡◌, ◌≢◌, ◌≤◌, ◌<◌, inl, inr, ◌++◌, ℕ, List, [], ◌∷◌, false, true, map, refl, sym, ap, subst, ◌∙◌, length, take, arith}
use Rattle.std.specs.FinMap.{same_map}
use Rattle.std.specs.List.{filter_map}
use Rattle.std.proofs.lemmas.Bool.{true≢false}
use Rattle.std.proofs.Math.Seq.{take-append_seam}
use Rattle.shore_types.specs.Ids.{rids_total, exact_rids}
use Rattle.shore_model.specs.declared.histories.InDoubt.{InDoubt}
use Rattle.shore_model.specs.declared.histories.Opening.{Opening}
use Rattle.shore_model.specs.declared.log_records.LogRecord.{LogRecord}
use Rattle.shore_model.specs.declared.unanswered_changes.UnansweredChange.{UnansweredChange}
use Rattle.shore_model.specs.Logs.{has, is_commit, is_decision, is_end, is_in_doubt, is_prepare, is_rollback, records_told, unanswered}
use Rattle.laws_lives.proofs.Booleans.{or_none}
use Rattle.laws_lives.proofs.CommittedRecords.{uncommitted_apart}
use Rattle.laws_lives.proofs.DoubtRecords.{among_filter, doubts_same}
use Rattle.laws_lives.proofs.DoubtSteps.{same_stand}
use Rattle.laws_lives.proofs.DoubtsShown.{doubts_once}
use Rattle.laws_lives.proofs.Invariant.{redone_whole}
use Rattle.laws_lives.proofs.Restarts.{events_restart, restart_shows}
use Rattle.laws_lives.proofs.UndoRecords.{undone_front, undone_grows, undone_lawful}
use Rattle.laws_lives.specs.Recovery.{IsRecoverable, RecoveryEvent, RecoveryState}
use Rattle.laws_lives.specs.Restarts.{IsRestartOf, RestartsTo}
use Rattle.laws_lives.specs.Undo.{HasNoLosers, IsUndoneTo, undo_payload, undo_record}
use Rattle.laws_lives.proofs.Lists.{among_map, drop-whole, length-push, mapped_one, recursion-take}
use Rattle.laws_lives.proofs.LogPrefixes.{decisions_same, opening_tells, written_stays}
use Rattle.laws_lives.proofs.LogTells.{logged_other, tells_same}
use Rattle.laws_lives.specs.Doubts.{DoubtsStand, IsOpeningOf, LoggedDoubt, doubt_of, doubts_in, pair_logged}
use Rattle.laws_lives.specs.LogPrefixes.{PrefixesTell, decision_in, decisions_in}
use Rattle.laws_lives.specs.Sessions.{EachOnce, PreparedTxn, Sessions, in_doubt_of, txns_of}
use Rattle.laws_lives.specs.Soundness.{found_in_doubt, written_by}
use Rattle.laws_lives.specs.Views.{IsAmong}
use Rattle.laws_lives.proofs.AtWork.{IsAtWork}
use Rattle.laws_lives.proofs.Steps.{found_txns}
use Rattle.laws_lives.proofs.WholeRuns.{open_is_whole}
use Rattle.laws_lives.proofs.WritersTold.{in_doubt_parts}
use Rattle.laws_lives.specs.ManagerSteps.{OpensOver}
use Rattle.laws_lives.specs.Stretches.{MayBeFound}
use Rattle.laws_lives.specs.WholeLogs.{IsOpenOn}

-- ---- records of undo decide nothing, and leave those in doubt

undo_decides_none : (cs : List UnansweredChange) → is_decision (undo_payload cs) ≡ false
undo_decides_none [] = refl
undo_decides_none (c ∷ cs) = refl

undo_commits_none : (cs : List UnansweredChange) → is_commit (undo_payload cs) ≡ false
undo_commits_none [] = refl
undo_commits_none (c ∷ cs) = refl

undone_decides_same : (base : ℕ) (log : List LogRecord) (ts : List ℕ) (last : List LogRecord) → base ≤ length log → IsUndoneTo log ts last
    → (base ≤ length last) × (decisions_in base last ≡ decisions_in base log)
undone_decides_same base log [] last long u = subst (λ rs. (base ≤ length rs) × (decisions_in base rs ≡ decisions_in base log)) (sym u) (long, refl)
undone_decides_same base log (t ∷ ts) last long u =
    let longer = length-push log (undo_record log t) in
    let rest = undone_decides_same base (log ++ undo_record log t ∷ []) ts last (omega arith) u.1 in
    (rest.0, rest.1 ∙ decisions_same base log (undo_record log t) long (undo_decides_none (unanswered t log)))

pub undone_decides_nothing : (found : List LogRecord) (ts : List ℕ) (last : List LogRecord) → IsUndoneTo found ts last
    → (length found ≤ length last) × (decisions_in (length found) last ≡ [])
undone_decides_nothing found ts last u =
    let least : length found ≤ length found = omega arith in
    let h = undone_decides_same (length found) found ts last least u in
    (h.0, h.1 ∙ ap (filter_map decision_in) (drop-whole found))

pub undone_stand : (log : List LogRecord) (ts : List ℕ) (last : List LogRecord) → IsUndoneTo log ts last → DoubtsStand log → DoubtsStand last
undone_stand log [] last u h = subst DoubtsStand (sym u) h
undone_stand log (t ∷ ts) last u h =
    undone_stand (log ++ undo_record log t ∷ []) ts last u.1
    (same_stand log (log ++ undo_record log t ∷ []) (doubts_same log (undo_record log t) (undo_decides_none (unanswered t log))) h)

pub undone_opening : (o : Opening) (log : List LogRecord) (ts : List ℕ) (last : List LogRecord) → IsUndoneTo log ts last → IsOpeningOf log o → IsOpeningOf last o
undone_opening o log [] last u h = subst (λ rs. IsOpeningOf rs o) (sym u) h
undone_opening o log (t ∷ ts) last u h =
    let r = undo_record log t in
    let uncommitted = (or_none (has is_commit t log) (has is_end t log) u.0.not_over).0 in
    let committed = tells_same log r (undo_commits_none (unanswered t log)) (uncommitted_apart t log uncommitted) in
    let same = doubts_same log r (undo_decides_none (unanswered t log)) in
    undone_opening o (log ++ r ∷ []) ts last u.1 (record {
      records = h.records ∙ sym committed;
      in_doubt = h.in_doubt ∙ ap (map pair_logged) (sym same);
      written = λ d among.
          let e = mapped_one pair_logged (d.txn, d.global) (doubts_in log) (subst (IsAmong (d.txn, d.global)) h.in_doubt (among_map (λ (d : InDoubt). (d.txn, d.global)) d o.in_doubt among)) in
          let doubt = (among_filter (λ (d : LoggedDoubt). is_in_doubt d.txn log) e.0 (filter_map doubt_of log) e.1).1 in
          let other : t ≢ d.txn = λ is. true≢false (sym doubt ∙ ap (λ t. is_in_doubt t log) (ap (λ (p : ℕ × List ℕ). p.0) e.2 ∙ sym is) ∙ u.0.not_in_doubt) in
          written_stays log (log ++ r ∷ []) d.txn d.writes (logged_other log r d.txn other) committed (h.written d among);
    })

-- ---- the open

module _ (o : Opening) (s : RecoveryState) (works : List RecoveryEvent) (ready : RecoveryState) (first : Sessions) (f : MayBeFound s) (opening : IsOpeningOf s.log o) (restarts : RestartsTo s works ready)
    (redone : ready.redone ≡ length ready.log) (no_losers : HasNoLosers ready.log) (opens : OpensOver o ready first) where
  abbrev found : List LogRecord
  found = s.log

  come_through : IsRecoverable ready × IsRestartOf s.log ready
  come_through = events_restart found s works ready f.recoverable (record { turns = []; undone = refl; durable = f.durable }) restarts

  pub open_shows_found : first.records ≡ records_told s.log
  open_shows_found =
      same_map rids_total exact_rids first.records (records_told found)
      (λ id. opens.records id ∙ restart_shows found ready f.lawful come_through.0 come_through.1 redone no_losers id.page id.slot)

  opening_ready : IsOpeningOf ready.log o
  opening_ready = undone_opening o found come_through.1.turns ready.log come_through.1.undone opening

  -- each of them comes once
  active_once : EachOnce (txns_of first.active)
  active_once =
      subst EachOnce (sym (opens.active ∙ pair_txns o.in_doubt ∙ ap (map (λ (p : ℕ × List ℕ). p.0)) opening_ready.in_doubt ∙ logged_txns (doubts_in ready.log)))
      (doubts_once ready.log (undone_lawful found come_through.1.turns ready.log come_through.1.undone f.lawful))
    where
      pair_txns : (ds : List InDoubt) → map (λ d. d.txn) ds ≡ map (λ (p : ℕ × List ℕ). p.0) (map (λ d. (d.txn, d.global)) ds)
      pair_txns [] = refl
      pair_txns (d ∷ ds) = ap (λ ts. d.txn ∷ ts) (pair_txns ds)

      logged_txns : (ds : List LoggedDoubt) → map (λ (p : ℕ × List ℕ). p.0) (map pair_logged ds) ≡ map (λ d. d.txn) ds
      logged_txns [] = refl
      logged_txns (d ∷ ds) = ap (λ ts. d.txn ∷ ts) (logged_txns ds)

  is_open : IsOpenOn o ready.log first
  is_open = record {
    slots = opens.slots;
    records = λ id. opens.records id ∙ redone_whole ready come_through.0 redone id.page id.slot;
    seats = opens.seats;
    resolving = opens.resolving;
    prepared = opens.prepared;
    active = opens.active;
    once = active_once;
    undo_lists = opens.undo_lists;
    locks = opens.locks;
    some = opens.some;
    lawful = undone_lawful found come_through.1.turns ready.log come_through.1.undone f.lawful;
    doubts = undone_stand found come_through.1.turns ready.log come_through.1.undone f.doubts;
    opening = opening_ready;
    no_losers = no_losers;
    below = opens.below;
  }

  -- a later crash may take records of undo away, and what is left tells the same
  prefixes_tell_found : PrefixesTell (length s.log) o (written_by o []) ready.log
  prefixes_tell_found n least most =
      let front = undone_front found come_through.1.turns ready.log n come_through.1.undone least in
      opening_tells (length s.log) o (take n ready.log) (undone_opening o found front.0 (take n ready.log) front.1 opening) (undone_stand found front.0 (take n ready.log) front.1 f.doubts)
      (undone_decides_nothing found front.0 (take n ready.log) front.1).1

  -- those that were found in doubt were found with no decision
  found_undecided : (t : ℕ) → IsAmong t (in_doubt_of first) → (has is_commit t found ≡ false) × (has is_rollback t found ≡ false)
  found_undecided t among =
      let d = mapped_one (λ (d : InDoubt). d.txn) t o.in_doubt (subst (IsAmong t) (ap (map (λ p. p.txn)) opens.prepared ∙ found_txns o.in_doubt) among) in
      let e = mapped_one pair_logged (d.0.txn, d.0.global) (doubts_in found) (subst (IsAmong (d.0.txn, d.0.global)) opening.in_doubt (among_map (λ (d : InDoubt). (d.txn, d.global)) d.0 o.in_doubt d.1)) in
      let doubt = (among_filter (λ (d : LoggedDoubt). is_in_doubt d.txn found) e.0 (filter_map doubt_of found) e.1).1 in
      let same : e.0.txn ≡ t = ap (λ (p : ℕ × List ℕ). p.0) e.2 ∙ d.2 in
      let parts = in_doubt_parts (has is_prepare e.0.txn found) (has is_commit e.0.txn found) (has is_rollback e.0.txn found) doubt in
      subst (λ t. (has is_commit t found ≡ false) × (has is_rollback t found ≡ false)) same (parts.1, parts.2)

  pub opens_at_work : IsAtWork (length s.log) first.next_txn o [] (record { sessions = first; store = ready })
  opens_at_work =
      let none = undone_decides_nothing found come_through.1.turns ready.log come_through.1.undone in
      let grows = undone_grows found come_through.1.turns ready.log come_through.1.undone in
      let front : take (length found) ready.log ≡ found = ap (take (length found)) grows.1 ∙ take-append_seam found grows.0 in
      let all = open_is_whole o ready.log first is_open in
      record {
        sessions = all;
        decides = record { long = none.0; all = sym none.1; prefixes = prefixes_tell_found };
        recoverable = come_through.0;
        redone = redone;
        durable = come_through.1.durable;
        numbers = record {
          old = recursion-take (λ r. r.txn < first.next_txn) (length s.log) ready.log opens.below;
          next = omega arith;
          each = λ t b is. absurd (is.0 (subst (IsAmong t) (opens.active ∙ sym (ap (map (λ p. p.txn)) opens.prepared ∙ found_txns o.in_doubt)) b));
          preparing = λ p m e. absurd (true≢false (sym (found_answered p o.in_doubt (subst (IsAmong p) opens.prepared m)) ∙ e));
          prepared = λ t b. let u = found_undecided t b in record { uncommitted = ap (has is_commit t) front ∙ u.0; not_rolled = ap (has is_rollback t) front ∙ u.1 };
          resolved = λ t b. absurd (subst (λ rs. IsAmong t (map (λ r. r.txn) rs)) opens.resolving b);
        };
        acknowledged = tt;
        tickets = tt;
      }
    where
      found_answered : (p : PreparedTxn) (ds : List InDoubt) → IsAmong p (map found_in_doubt ds) → p.answered ≡ true
      found_answered p [] h = absurd h
      found_answered p (d ∷ ds) (inl e) = ap (λ (p : PreparedTxn). p.answered) (sym e)
      found_answered p (d ∷ ds) (inr later) = found_answered p ds later
