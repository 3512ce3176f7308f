-- Each log says an opening: the records of those that are committed in it, and those in doubt with what they have logged.
use Rattle.std.proofs.Common.{◌≡◌, ℕ, List, [], ◌∷◌, refl, sym, ap, subst, ◌∙◌, map}
use Rattle.std.specs.Prelude.{unwrap_or}
use Rattle.std.specs.FinMap.{get}
use Rattle.shore_model.proofs.Overlays.{get-overlay}
use Rattle.shore_model.specs.declared.histories.InDoubt.{InDoubt}
use Rattle.shore_model.specs.declared.histories.Opening.{Opening}
use Rattle.shore_model.specs.declared.log_records.LogRecord.{LogRecord}
use Rattle.shore_model.specs.Logs.{logged_writes}
use Rattle.laws_lives.proofs.Lists.{mapped_one}
use Rattle.laws_lives.specs.Doubts.{HasWritten, IsOpeningOf, LoggedDoubt, doubts_in, pair_logged}
use Rattle.laws_lives.specs.LogTells.{records_committed}

abbrev logged_doubt : List LogRecord → LoggedDoubt → InDoubt
logged_doubt log d = record { txn = d.txn; global = d.global; writes = logged_writes log d.txn }

abbrev pub logged_opening : ℕ → List LogRecord → Opening
logged_opening slots log = record { slots = slots; records = records_committed log; in_doubt = map (logged_doubt log) (doubts_in log) }

-- what it has logged it has written
has_logged : (log : List LogRecord) (t : ℕ) → HasWritten log t (logged_writes log t)
has_logged log t = record {
  logged = λ id image is.
      let R = records_committed log in ap (λ o. unwrap_or o (get R id)) (sym is) ∙ sym (get-overlay R (logged_writes log t) id);
  unlogged = λ id none. none;
}

pairs_same : (log : List LogRecord) (ds : List LoggedDoubt) → map (λ (d : InDoubt). (d.txn, d.global)) (map (logged_doubt log) ds) ≡ map pair_logged ds
pairs_same log [] = refl
pairs_same log (d ∷ ds) = ap (λ (ps : List (ℕ × List ℕ)). (d.txn, d.global) ∷ ps) (pairs_same log ds)

pub opening_logged : (slots : ℕ) (log : List LogRecord) → IsOpeningOf log (logged_opening slots log)
opening_logged slots log = record {
  records = refl;
  in_doubt = pairs_same log (doubts_in log);
  written = λ d among.
      let one = mapped_one (logged_doubt log) d (doubts_in log) among in
      subst (λ (d : InDoubt). HasWritten log d.txn d.writes) one.2 (has_logged log one.0.txn);
}
