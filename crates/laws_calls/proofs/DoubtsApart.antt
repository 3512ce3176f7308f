-- No transaction is in doubt twice.
use Rattle.std.proofs.Common.{◌≡◌, ◌∷◌, ℕ, List, [], refl, sym, ap, subst, ◌∙◌, map}
use Rattle.shore_model.specs.declared.histories.Entry.{Entry}
use Rattle.shore_model.specs.declared.histories.Opening.{Opening}
use Rattle.shore_model.specs.declared.log_records.LogRecord.{LogRecord}
use Rattle.laws_lives.proofs.DoubtsShown.{doubts_once}
use Rattle.laws_lives.specs.Doubts.{LoggedDoubt, doubts_in, pair_logged}
use Rattle.laws_lives.specs.Sessions.{EachOnce, PreparedTxn, Sessions, in_doubt_of, pairs_of}
use Rattle.laws_calls.proofs.Sessions.{AreSessionsAfter}

-- none is in doubt twice
pub doubts_apart : {base : ℕ} {o : Opening} {es : List Entry} {s : Sessions} {log : List LogRecord} → AreSessionsAfter base o es s log → EachOnce (in_doubt_of s)
doubts_apart {base} {o} {es} {s} {log} k = subst EachOnce same (doubts_once log k.whole.lawful)
  where
    txns_of_pairs : (ds : List LoggedDoubt) → map (λ (p : ℕ × List ℕ). p.0) (map pair_logged ds) ≡ map (λ (d : LoggedDoubt). d.txn) ds
    txns_of_pairs [] = refl
    txns_of_pairs (d ∷ ds) = ap (λ ts. d.txn ∷ ts) (txns_of_pairs ds)

    txns_of_prepared : (ps : List PreparedTxn) → map (λ (p : ℕ × List ℕ). p.0) (pairs_of ps) ≡ map (λ (p : PreparedTxn). p.txn) ps
    txns_of_prepared [] = refl
    txns_of_prepared (p ∷ ps) = ap (λ ts. p.txn ∷ ts) (txns_of_prepared ps)

    same : map (λ (d : LoggedDoubt). d.txn) (doubts_in log) ≡ in_doubt_of s
    same = sym (txns_of_pairs (doubts_in log)) ∙ ap (map (λ (p : ℕ × List ℕ). p.0)) k.doubts.in_doubt ∙ txns_of_prepared s.prepared
