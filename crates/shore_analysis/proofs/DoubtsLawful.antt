-- Those in doubt by a lawful log are transactions that have not ended; and what is kept says of them what the whole log does.
use Rattle.std.proofs.Common.{◌≡◌, ◌+◌, ◌-◌, ◌<◌, ℕ, zero, suc, List, true, cond, None, refl, sym, ap, subst, ◌∙◌, drop, arith}
use Rattle.std.specs.Prelude.{◌==◌, ◌&&◌, option_and_then, slice_get}
use Rattle.std.proofs.lemmas.Bool.{eq-eqb, eqb-true, lt-ltb, ltb-true, ne_eqb}
use Rattle.shore_model.specs.declared.log_records.LogRecord.{LogRecord}
use Rattle.shore_model.specs.declared.log_records.Payload.{Payload}
use Rattle.shore_model.specs.declared.log_records.Payload.TheVariants.{Change, Compensation, Commit, End, Prepare, RollbackDecided, CheckpointBegin, CheckpointEnd, Anchor}
use Rattle.shore_model.specs.Logs.{Lawful, is_in_doubt, is_of_checkpoint, is_prepare, last_of, prepare_number}
use Rattle.laws_lives.specs.Doubts.{doubt_of}
use Rattle.laws_lives.proofs.Booleans.{and_true}
use Rattle.laws_lives.proofs.WritersTold.{doubt_not_over}
use Rattle.laws_checkpoints.proofs.Kept.{has_at, its}
use Rattle.laws_checkpoints.proofs.Lists.{get-drop}
use Rattle.laws_checkpoints.proofs.Numbers.{first_is, last_low, some_filtered}
use Rattle.shore_analysis.specs.Doubts.{doubt_at, kept_doubt_at}
use Rattle.shore_analysis.proofs.MeantLogs.{in_doubt_prepared}
use Rattle.shore_analysis.proofs.OneMore.{prepare_known}
use Rattle.shore_analysis.proofs.Phases.{IsUndecided}

plain_prepare : (p : Payload) → is_prepare p ≡ true → is_of_checkpoint p ≡ true → ⊥
plain_prepare (Prepare global granules) e h = cc
plain_prepare (Change id before after) e h = cc
plain_prepare (Compensation id after undo_next) e h = cc
plain_prepare Commit e h = cc
plain_prepare End e h = cc
plain_prepare RollbackDecided e h = cc
plain_prepare CheckpointBegin e h = cc
plain_prepare (CheckpointEnd begin next txns dirty) e h = cc
plain_prepare (Anchor checkpoint tail) e h = cc

pub lawful_runs : (log : List LogRecord) → Lawful log → (t : ℕ) → is_in_doubt t log ≡ true → IsUndecided log t
lawful_runs log lawful t doubts =
    let some = ltb-true 0 (prepare_number t log) (prepare_known t log ∙ in_doubt_prepared t log doubts) in
    let h = first_is (λ r. (r.1.txn == t) && is_prepare r.1.payload) 1 log some in
    let both = and_true (h.found.txn == t) (is_prepare h.found.payload) h.passes in
    let own : h.found.txn ≡ t = eqb-true h.found.txn t both.0 in
    let low = last_low (its h.found.txn) 1 log (some_filtered h.found.txn 1 log (has_at log (prepare_number t log - 1) h.found h.here)) in
    let known : 0 < last_of h.found.txn log = omega (arith, low) in
    record {
      some = above t (λ zero. plain_prepare h.found.payload both.1 ((lawful (prepare_number t log - 1) h.found h.here).of ∙ eq-eqb h.found.txn 0 (own ∙ zero)));
      known = subst (λ u. 0 < last_of u log) own known;
      runs = doubt_not_over log lawful t doubts;
    }
  where
    above : (n : ℕ) → (n ≡ 0 → ⊥) → 0 < n
    above zero h = absurd (h refl)
    above (suc n) h = omega arith

-- what the record of a number says that is not cut off
pub doubt_kept : (log : List LogRecord) (cut n : ℕ) → cut < n → kept_doubt_at cut (drop cut log) n ≡ doubt_at log n
doubt_kept log cut n lt =
    let place : cut + (n - (cut + 1)) ≡ n - 1 = omega (arith, lt) in
    ap (λ b. cond b (option_and_then doubt_of (slice_get (drop cut log) (n - (cut + 1)))) None) (lt-ltb cut n lt)
    ∙ ap (option_and_then doubt_of) (get-drop log cut (n - (cut + 1)) ∙ ap (slice_get log) place)
    ∙ sym (ap (λ b. cond b None (option_and_then doubt_of (slice_get log (n - 1)))) (ne_eqb n 0 (λ zero. omega (arith, zero, lt))))
