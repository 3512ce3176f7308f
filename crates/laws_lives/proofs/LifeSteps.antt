-- Stretches, one after another: a life.
use Rattle.std.proofs.Common.{◌≡◌, ℕ, zero, suc, List, [], ◌∷◌, Some, map, refl, ap, ◌∙◌, length, take, arith, length-take}
use Rattle.std.specs.Prelude.{slice_get}
use Rattle.std.specs.FinMap.{empty}
use Rattle.shore_model.specs.declared.histories.InDoubt.{InDoubt}
use Rattle.shore_model.specs.declared.histories.Opening.{Opening}
use Rattle.shore_model.specs.declared.log_records.LogRecord.{LogRecord}
use Rattle.shore_model.specs.Histories.{Kept, in_doubt, shown}
use Rattle.shore_model.specs.Lives.{IsLife, next_opening}
use Rattle.shore_model.specs.Logs.{records_told}
use Rattle.laws_lives.proofs.DoubtsShown.{told_is_shown}
use Rattle.laws_lives.proofs.Invariant.{event_kept}
use Rattle.laws_lives.proofs.LogPrefixes.{opening_tells, tells_opening}
use Rattle.laws_lives.proofs.Redo.{empty_page_stands, lacks_none_yet}
use Rattle.laws_lives.proofs.UndoRecords.{lawful_front}
use Rattle.laws_lives.specs.Doubts.{AreRestored, IsOpeningOf, undo_in}
use Rattle.laws_lives.specs.Sessions.{SessionTxn, pair_of, txns_of}
use Rattle.laws_lives.specs.Views.{IsAmong}
use Rattle.laws_lives.specs.Pages.{empty_page}
use Rattle.laws_lives.specs.Recovery.{LosePower, RecoveryState}
use Rattle.laws_lives.specs.LogPrefixes.{TellsItsDecisions, decisions_in}
use Rattle.laws_lives.specs.Soundness.{found_in_doubt, history_from, opening_with, written_by}
use Rattle.laws_lives.proofs.AtWork.{IsAtWork}
use Rattle.laws_lives.proofs.Failing.{MayLosePower, crash_keeps, may_lose_power}
use Rattle.laws_lives.proofs.Lists.{drop-whole}
use Rattle.laws_lives.proofs.Stretches.{up_is_at_work, up_shows_found}
use Rattle.laws_lives.specs.Stretches.{AreStretches, IsStretch, IsUpAfter, MayBeFound, OpensGiveBack, OpensShow, Stretch, just_formatted, left_at_last, left_by_crash, opening_after, span_of, spans_of}
use Rattle.std.specs.List.{filter_map}
use Rattle.laws_lives.specs.LogPrefixes.{decision_in}

-- what a found log tells is what its opening shows
pub found_is_shown : (o : Opening) (s : RecoveryState) → MayBeFound s → IsOpeningOf s.log o → records_told s.log ≡ shown (history_from o []) []
found_is_shown o s f opening =
    let none : decisions_in (length s.log) s.log ≡ [] = ap (filter_map decision_in) (drop-whole s.log) in
    told_is_shown (length s.log) o [] s.log f.lawful (opening_tells (length s.log) o s.log opening f.doubts none) ∙ ap (shown (history_from o [])) none

module _ (o : Opening) (s : RecoveryState) (f : MayBeFound s) (opening : IsOpeningOf s.log o) (l : Stretch) (h : IsStretch o s l) where
  at_work : IsAtWork (length s.log) l.first.next_txn o l.made l.last
  at_work = up_is_at_work o s f opening l h.up

  loses_power : MayLosePower (length s.log) o l.made l.failing
  loses_power = may_lose_power (length s.log) l.first.next_txn o l.made l.last at_work l.failing h.fails

  keeps : Kept l.made (decisions_in (length s.log) (take l.survive l.failing.log)) × TellsItsDecisions (length s.log) o (written_by o l.made) (take l.survive l.failing.log)
  keeps = crash_keeps (length s.log) o l.made l.failing loses_power l.survive h.crash.0 h.crash.1

  may_be_found_next : MayBeFound (left_by_crash l)
  may_be_found_next =
      let long = length-take l.survive l.failing.log in
      record {
        recoverable = event_kept l.failing (LosePower l.survive l.pages l.begin) (left_by_crash l) loses_power.recoverable (h.crash, refl);
        lawful = lawful_front l.failing.log l.survive loses_power.lawful;
        doubts = keeps.1.stand;
        durable = omega arith;
      }

  -- the kept decisions make the opening of what is left
  opens_next : IsOpeningOf (take l.survive l.failing.log) (next_opening o (span_of s l))
  opens_next = tells_opening (length s.log) o l.made (take l.survive l.failing.log) keeps.1

pub stretches_are_a_life : (o : Opening) (s : RecoveryState) (ls : List Stretch) → MayBeFound s → IsOpeningOf s.log o → AreStretches o s ls
    → IsLife o (spans_of s ls) (opening_after o (spans_of s ls)) × OpensShow o s ls × MayBeFound (left_at_last s ls)
    × IsOpeningOf (left_at_last s ls).log (opening_after o (spans_of s ls))
stretches_are_a_life o s [] f opening h = (refl, tt, f, opening)
stretches_are_a_life o s (l ∷ ls) f opening h =
    let k = at_work o s f opening l h.0 in
    let rest = stretches_are_a_life (next_opening o (span_of s l)) (left_by_crash l) ls (may_be_found_next o s f opening l h.0) (opens_next o s f opening l h.0) h.1 in (
      (k.sessions.agree.history, k.sessions.sound.sound, (keeps o s f opening l h.0).0, rest.0),
      ((up_shows_found o s f opening l h.0.up, up_shows_found o s f opening l h.0.up ∙ found_is_shown o s f opening), rest.1),
      rest.2,
      rest.3,
    )

found_pairs : (ds : List InDoubt) → map pair_of (map found_in_doubt ds) ≡ map (λ d. (d.txn, d.global)) ds
found_pairs [] = refl
found_pairs (d ∷ ds) = ap (λ ps. (d.txn, d.global) ∷ ps) (found_pairs ds)

pub opens_give_back : (o : Opening) (s : RecoveryState) (ls : List Stretch) → AreStretches o s ls → OpensGiveBack o s ls
opens_give_back o s [] h = tt
opens_give_back o s (l ∷ ls) h =
    let opens = h.0.up.opens in (
      record { prepared = ap (map pair_of) opens.prepared ∙ found_pairs o.in_doubt; active = opens.active; undo_lists = opens.undo_lists; locks = opens.locks },
      opens_give_back (next_opening o (span_of s l)) (left_by_crash l) ls h.1,
    )

no_record : (n : ℕ) (r : LogRecord) → slice_get [] n ≡ Some r → ⊥
no_record zero r at = cc
no_record (suc n) r at = cc

pub format_may_be_found : MayBeFound just_formatted
format_may_be_found = record {
  recoverable = record {
    durable = omega arith;
    redone = omega arith;
    volume = empty_page_stands;
    ahead = λ p. omega arith;
    in_place = λ p. lacks_none_yet [] p empty_page (empty_page_stands p);
  };
  lawful = λ n r at. absurd (no_record n r at);
  doubts = record { apart = λ d e g h a. absurd a; differ = λ d e a. absurd a };
  durable = omega arith;
}

pub format_opens : (slots : ℕ) → IsOpeningOf [] (opening_with slots empty)
format_opens slots = record { records = refl; in_doubt = refl; written = λ d among. absurd among }

-- after a crash those return in doubt whom the kept decisions leave so
pub doubts_come_back : (o : Opening) (s : RecoveryState) (f : MayBeFound s) (opening : IsOpeningOf s.log o) (l : Stretch) (h : IsStretch o s l) (next : Stretch)
    → IsUpAfter (next_opening o (span_of s l)) (left_by_crash l) next
    → (map pair_of next.first.prepared ≡ in_doubt o.in_doubt (decisions_in (length s.log) (take l.survive l.failing.log)))
    × (txns_of next.first.active ≡ map (λ p. p.0) (in_doubt o.in_doubt (decisions_in (length s.log) (take l.survive l.failing.log))))
    × ((a : SessionTxn) → IsAmong a next.first.active → a.undo ≡ undo_in next.ready.log a.txn) × AreRestored next.ready.log next.first.held
    × (next.first.records ≡ shown (history_from o l.made) (decisions_in (length s.log) (take l.survive l.failing.log)))
doubts_come_back o s f opening l h next up =
    let kept = decisions_in (length s.log) (take l.survive l.failing.log) in
    let doubts = in_doubt o.in_doubt kept in
    let found = may_be_found_next o s f opening l h in
    let opens = opens_next o s f opening l h in (
      ap (map pair_of) up.opens.prepared ∙ made_pairs doubts,
      up.opens.active ∙ made_txns doubts,
      up.opens.undo_lists,
      up.opens.locks,
      up_shows_found (next_opening o (span_of s l)) (left_by_crash l) found opens next up
          ∙ told_is_shown (length s.log) o l.made (take l.survive l.failing.log) found.lawful (keeps o s f opening l h).1,
    )
  where
    made_pairs : (ps : List (ℕ × List ℕ)) → map pair_of (map found_in_doubt (map (λ p. record { txn = p.0; global = p.1; writes = written_by o l.made p.0 }) ps)) ≡ ps
    made_pairs [] = refl
    made_pairs (p ∷ ps) = ap (λ qs. p ∷ qs) (made_pairs ps)

    made_txns : (ps : List (ℕ × List ℕ)) → map (λ (d : InDoubt). d.txn) (map (λ p. record { txn = p.0; global = p.1; writes = written_by o l.made p.0 }) ps) ≡ map (λ (p : ℕ × List ℕ). p.0) ps
    made_txns [] = refl
    made_txns (p ∷ ps) = ap (λ ts. p.0 ∷ ts) (made_txns ps)
