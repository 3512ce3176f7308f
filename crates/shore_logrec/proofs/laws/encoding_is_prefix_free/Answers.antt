use Rattle.std.proofs.Common.{◌≡◌, ℕ, List, sym, ap, ◌∙◌}
use Rattle.shore_model.specs.declared.log_records.LogRecord.{LogRecord}
use Rattle.shore_logrec.specs.Reading.{record_at}
use Rattle.shore_logrec.proofs.Readers.{some_is}
use Rattle.shore_logrec.proofs.Records.{record_again}
use Rattle.shore_logrec.proofs.laws.encoding_is_prefix_free.Goals as goal

pub returns : goal.returns
returns c a b xs ys a_fits b_fits same =
    let one : (a, xs) ≡ (b, ys) = some_is (a, xs) (b, ys) (sym (record_again a xs a_fits) ∙ ap record_at same ∙ record_again b ys b_fits) in
    (ap (λ (v : LogRecord × List ℕ). v.0) one, ap (λ (v : LogRecord × List ℕ). v.1) one)
