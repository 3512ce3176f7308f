-- The opening of a migrated log is like that of the old one.
use Rattle.std.proofs.Common.{◌≡◌, ◌≤◌, List, [], sym, ap, ◌∙◌, length, map}
use Rattle.std.specs.List.{filter_map}
use Rattle.shore_model.specs.declared.histories.Opening.{Opening}
use Rattle.shore_model.specs.declared.log_records.LogRecord.{LogRecord}
use Rattle.shore_model.specs.Histories.{shown}
use Rattle.shore_model.specs.Logs.{Lawful, records_told}
use Rattle.laws_lives.specs.Doubts.{DoubtsStand, IsOpeningOf, pair_logged}
use Rattle.laws_lives.specs.LogPrefixes.{decision_in, decisions_in}
use Rattle.laws_lives.specs.Soundness.{history_from}
use Rattle.laws_lives.proofs.DoubtsShown.{told_is_shown}
use Rattle.laws_lives.proofs.Lists.{drop-whole}
use Rattle.laws_lives.proofs.LogPrefixes.{opening_tells}
use Rattle.laws_migrations.specs.Legs.{OpensAlike}
use Rattle.laws_migrations.specs.MigratedLogs.{TellsTheSame}

-- what a log tells is what its opening shows
told_shown : (o : Opening) (log : List LogRecord) → Lawful log → DoubtsStand log → IsOpeningOf log o → records_told log ≡ shown (history_from o []) []
told_shown o log lawful stand opening =
    let none : decisions_in (length log) log ≡ [] = ap (filter_map decision_in) (drop-whole log) in
    told_is_shown (length log) o [] log lawful (opening_tells (length log) o log opening stand none) ∙ ap (shown (history_from o [])) none

pub opens_alike : (old new : List LogRecord) (o next : Opening) → Lawful old → Lawful new → DoubtsStand old → TellsTheSame old new → IsOpeningOf old o → IsOpeningOf new next → o.slots ≤ next.slots → OpensAlike o next
opens_alike old new o next lawful_old lawful_new stand same h k more = record {
  slots = more;
  records = k.records ∙ same.committed ∙ sym h.records;
  in_doubt = k.in_doubt ∙ ap (map pair_logged) same.doubts ∙ sym h.in_doubt;
  shows = sym (told_shown next new lawful_new (same.stands stand) k) ∙ same.told ∙ told_shown o old lawful_old stand h;
}
