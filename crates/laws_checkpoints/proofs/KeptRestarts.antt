-- A restart that knows the kept records alone does what one over the whole log may do.
use Rattle.std.proofs.Common.{◌≡◌, ◌≤◌, ◌+◌, ◌-◌, ℕ, List, [], ◌∷◌, false, Option, Some, None, refl, sym, ap, subst, ◌∙◌, length, drop, arith, length-drop}
use Rattle.std.specs.Prelude.{slice_get, IsSomeAnd}
use Rattle.shore_types.specs.declared.ids.PageId.{PageId}
use Rattle.shore_model.specs.declared.log_records.LogRecord.{LogRecord}
use Rattle.shore_model.specs.declared.unanswered_changes.UnansweredChange.{UnansweredChange}
use Rattle.shore_model.specs.Logs.{Lawful, MayFollow, is_decision, unanswered}
use Rattle.laws_lives.specs.Doubts.{doubts_in}
use Rattle.laws_lives.specs.Recovery.{AppendRecord, FlushPage, ForceLog, IsRecoverable, LeadsTo, LosePower, RecoveryEvent, RecoveryState, RedoRecord, after_append, after_flush, after_force, after_redo}
use Rattle.laws_lives.specs.Restarts.{IsRestartStep, RestartsTo}
use Rattle.laws_lives.specs.Undo.{undo_payload, undo_record}
use Rattle.laws_lives.proofs.DoubtRecords.{doubts_same}
use Rattle.laws_lives.proofs.Invariant.{event_kept}
use Rattle.laws_lives.proofs.Lists.{drop-push}
use Rattle.laws_lives.proofs.Redo.{lacks_less}
use Rattle.laws_lives.proofs.UndoRecords.{lawful_next, undo_follows}
use Rattle.laws_checkpoints.specs.KeptLogs.{IsKeptLoser, MayBeCut, kept_undo_record}
use Rattle.laws_checkpoints.specs.KeptRestarts.{KeptLeadsTo, KeptLeadTo, KeptStore, kept_appended, kept_redone, seen_behind}
use Rattle.laws_checkpoints.proofs.Kept.{cut_flushed, cut_longer, kept_losers, undo_kept}
use Rattle.laws_checkpoints.proofs.Lists.{get-drop}

-- what holds all along
pub record Goes (cut : ℕ) (s : RecoveryState) : Type 0 where
  pub recoverable : IsRecoverable s
  pub lawful : Lawful s.log
  pub may : MayBeCut s.log s.volume cut
  pub behind : cut ≤ s.redone

-- the step of the whole that a step of the kept is
pub record IsStep (cut : ℕ) (s : RecoveryState) (e : RecoveryEvent) (new : KeptStore) : Type 0 where
  pub next : RecoveryState
  pub restart : IsRestartStep s e
  pub leads : LeadsTo s e next
  pub seen : new ≡ seen_behind cut next
  pub goes : Goes cut next
  pub doubts : doubts_in next.log ≡ doubts_in s.log

undo_decides : (us : List UnansweredChange) → is_decision (undo_payload us) ≡ false
undo_decides [] = refl
undo_decides (u ∷ us) = refl

module _ (cut : ℕ) (s : RecoveryState) (g : Goes cut s) where
  pub whole_length : cut + length (drop cut s.log) ≡ length s.log
  whole_length = let within = g.may.within in omega (arith, length-drop cut s.log)

  append_step : (r : LogRecord) (new : KeptStore) (t : ℕ) → IsKeptLoser cut (drop cut s.log) t → r ≡ kept_undo_record cut (drop cut s.log) t → s.redone ≡ cut + length (drop cut s.log)
      → new ≡ kept_appended (seen_behind cut s) r → IsStep cut s (AppendRecord r) new
  append_step r new t loser is done eq =
      let whole = kept_losers s.log g.lawful s.volume cut g.may t loser in
      let same : r ≡ undo_record s.log t = is ∙ sym (undo_kept s.log s.volume cut t g.may whole).0 in
      let all : s.redone ≡ length s.log = done ∙ whole_length in
      let behind = g.behind in
      record {
        next = after_append s r;
        restart = (t, whole, same);
        leads = (all, refl);
        seen = eq ∙ ap (λ ks. kept_redone (record { cut = cut; kept = ks; durable = s.durable; redone = s.redone; volume = s.volume; in_place = s.in_place }) r) (sym (drop-push cut s.log r g.may.within));
        goes = record {
          recoverable = event_kept s (AppendRecord r) (after_append s r) g.recoverable (all, refl);
          lawful = lawful_next s.log r g.lawful (subst (MayFollow s.log) (sym same) (undo_follows s.log t whole));
          may = cut_longer s.log s.volume cut g.may (r ∷ []);
          behind = omega arith;
        };
        doubts = doubts_same s.log r (ap (λ (x : LogRecord). is_decision x.payload) same ∙ undo_decides (unanswered t s.log));
      }

  redo_step : (new : KeptStore) → IsSomeAnd (slice_get (drop cut s.log) (s.redone - cut)) (λ r. new ≡ kept_redone (seen_behind cut s) r) → IsStep cut s RedoRecord new
  redo_step new h = by_one (slice_get (drop cut s.log) (s.redone - cut)) refl h
    where
      by_one : (o : Option LogRecord) → slice_get (drop cut s.log) (s.redone - cut) ≡ o → IsSomeAnd o (λ r. new ≡ kept_redone (seen_behind cut s) r) → IsStep cut s RedoRecord new
      by_one None at is = absurd is
      by_one (Some r) at is =
          let behind = g.behind in
          let e : s.redone ≡ cut + (s.redone - cut) = omega arith in
          let here : slice_get s.log s.redone ≡ Some r = ap (slice_get s.log) e ∙ sym (get-drop s.log cut (s.redone - cut)) ∙ at in
          let leads : LeadsTo s RedoRecord (after_redo s r) = subst (λ o. IsSomeAnd o (λ x. after_redo s r ≡ after_redo s x)) (sym here) refl in
          record {
            next = after_redo s r;
            restart = tt;
            leads = leads;
            seen = is;
            goes = record {
              recoverable = event_kept s RedoRecord (after_redo s r) g.recoverable leads;
              lawful = g.lawful;
              may = record { within = g.may.within; on_pages = g.may.on_pages; ended = g.may.ended };
              behind = omega arith;
            };
            doubts = refl;
          }

  force_step : (n : ℕ) (new : KeptStore) → s.durable ≤ n → n ≤ cut + length (drop cut s.log) → new ≡ seen_behind cut (after_force s n) → IsStep cut s (ForceLog n) new
  force_step n new more most eq =
      let long = whole_length in
      let within : n ≤ length s.log = omega arith in
      record {
        next = after_force s n;
        restart = tt;
        leads = (more, within, refl);
        seen = eq;
        goes = record { recoverable = event_kept s (ForceLog n) (after_force s n) g.recoverable (more, within, refl); lawful = g.lawful; may = g.may; behind = g.behind };
        doubts = refl;
      }

  flush_step : (p : PageId) (new : KeptStore) → (s.in_place p).number ≤ s.durable → new ≡ seen_behind cut (after_flush s p) → IsStep cut s (FlushPage p) new
  flush_step p new le eq = record {
    next = after_flush s p;
    restart = tt;
    leads = (le, refl);
    seen = eq;
    goes = record {
      recoverable = event_kept s (FlushPage p) (after_flush s p) g.recoverable (le, refl);
      lawful = g.lawful;
      may = cut_flushed s.log s.volume cut g.may p (s.in_place p) (lacks_less s.log p s.redone (s.in_place p) (g.recoverable.in_place p) cut g.behind);
      behind = g.behind;
    };
    doubts = refl;
  }

  pub one_step : (e : RecoveryEvent) (new : KeptStore) → KeptLeadsTo (seen_behind cut s) e new → IsStep cut s e new
  one_step (AppendRecord r) new h = append_step r new h.0 h.1 h.2 h.3 h.4
  one_step RedoRecord new h = redo_step new h.1
  one_step (ForceLog n) new h = force_step n new h.0 h.1 h.2
  one_step (FlushPage p) new h = flush_step p new h.0 h.1
  one_step (LosePower n left begin) new h = absurd h

pub record IsWholeRestart (cut : ℕ) (s : RecoveryState) (events : List RecoveryEvent) (last : KeptStore) : Type 0 where
  pub whole : RecoveryState
  pub restarts : RestartsTo s events whole
  pub seen : last ≡ seen_behind cut whole
  pub goes : Goes cut whole
  pub doubts : doubts_in whole.log ≡ doubts_in s.log

pub all_steps : (cut : ℕ) (s : RecoveryState) (events : List RecoveryEvent) (last : KeptStore) → Goes cut s → KeptLeadTo (seen_behind cut s) events last → IsWholeRestart cut s events last
all_steps cut s [] last g h = record { whole = s; restarts = refl; seen = h; goes = g; doubts = refl }
all_steps cut s (e ∷ events) last g h =
    let one = one_step cut s g e h.0 h.1 in
    let rest = all_steps cut one.next events last one.goes (subst (λ k. KeptLeadTo k events last) one.seen h.2) in
    record { whole = rest.whole; restarts = (one.restart, one.next, one.leads, rest.restarts); seen = rest.seen; goes = rest.goes; doubts = rest.doubts ∙ one.doubts }
