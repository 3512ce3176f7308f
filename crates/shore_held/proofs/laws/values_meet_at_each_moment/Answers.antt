use Rattle.std.proofs.Common.{◌≡◌, ◌++◌, List, sym, ap, ◌∙◌, append_assoc, arith}
use Rattle.shore_model.specs.declared.log_records.LogRecord.{LogRecord}
use Rattle.shore_queue.specs.Queues.{records_in}
use Rattle.shore_held.specs.Comings.{anchored_at}
use Rattle.shore_held.proofs.laws.values_meet_at_each_moment.Goals as goal

pub returns : goal.returns
returns g c words teller keeper t k first items passes sender receiver v w cut kept old later anchored held more is at_teller at_keeper tells keeps queue at_sender at_receiver sends receives sent_all known anchored_is follows tail within forced anchor_is =
    let told = ((is.each teller t at_teller).tells tells).1 in
    let one : k.kept ≡ t.anchor = ((is.each keeper k at_keeper).keeps keeps).1 ∙ sym ((is.each teller t at_teller).tells tells).2 in
    let seen = (is.each keeper k at_keeper).seen in
    let rest : List LogRecord = records_in items in
    let sent : v.sent ≡ w.got ++ rest =
    ((queue.each sender v at_sender).sends sends).1 ∙ queue.parts ∙ ap (λ l. l ++ rest) (sym ((queue.each receiver w at_receiver).receives receives).1) in (
      record {
        gone = follows.gone;
        coming = rest ++ more;
        parts =
            ap (λ l. kept ++ l) (sent_all ∙ ap (λ l. l ++ more) sent ∙ append_assoc w.got rest more) ∙ sym (append_assoc kept w.got (rest ++ more)) ∙ ap (λ l. l ++ (rest ++ more)) follows.parts
            ∙ append_assoc follows.gone held.list (rest ++ more);
        cut_off = follows.cut_off;
        first = tail;
        stable_first = within;
        known_is = omega (arith, known, seen, told, forced);
        one_anchor = anchored_is ∙ ap anchored_at (one ∙ anchor_is);
      },
      λ seat s at. let low = (is.each seat s at).seen in omega (arith, low, told, forced),
    )
