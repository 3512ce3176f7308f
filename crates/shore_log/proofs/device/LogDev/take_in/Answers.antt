use Rattle.std.proofs.Common.{◌≡◌, ◌+◌, List, [], ◌++◌, length, drop, take, append-nil, length-append, length-drop, IsTrue, refl, sym, subst, ap, ◌∙◌, arith}
use Rattle.shore_model.specs.declared.log_records.LogRecord.{LogRecord}
use Rattle.shore_logrec.specs.Text.{texts}
use Rattle.shore_frames.specs.LoggedRecords.{are_numbered}
use Rattle.shore_frames.proofs.LoggedLemmas.{numbered-append}
use Rattle.shore_frames.specs.declared.reading.FrameAt.{FrameAt}
use Rattle.shore_log.specs.Indexes.{are_listed, first_in, place_in}
use Rattle.shore_log.specs.Listed.{all_in, listed}
use Rattle.shore_log.specs.PlainTails.{waiting_in}
use Rattle.shore_log.specs.Settled.{records_of_log}
use Rattle.shore_log.proofs.ForceLemmas.{keeps_frames}
use Rattle.shore_log.proofs.TextLemmas.{all_in-push, kept-push, same_group, spelled_more}
use Rattle.shore_log.proofs.device.LogDev.take_in.Goals as goal

pub returns-then-not-is_spelled-clause-frames : goal.returns-then-not-is_spelled-clause-frames
returns-then-not-is_spelled-clause-frames g c = keeps_frames c.args.self.now _ refl (λ honest. refl) refl refl refl refl refl refl [] (sym (append-nil (records_of_log c.args.self.now)))

pub returns-in_err-bring_index-clause-frames : goal.returns-in_err-bring_index-clause-frames
returns-in_err-bring_index-clause-frames g c = keeps_frames c.args.self.now _ refl (λ honest. refl) refl refl refl refl c.bring_index.ensures.items refl [] (sym (append-nil (records_of_log c.args.self.now)))

pub returns-in_err-count-clause-frames : goal.returns-in_err-count-clause-frames
returns-in_err-count-clause-frames g c = keeps_frames c.args.self.now _ refl (λ honest. refl) refl refl refl refl c.bring_index.ensures.items refl [] (sym (append-nil (records_of_log c.args.self.now)))

pub invariant_of-self-2 : goal.invariant_of-self-2
invariant_of-self-2 g c =
    let old = c.args.self.now in
    let all = records_of_log old in
    let more = waiting_in c.args.tail.now in
    let counted = old.counted in
    let more_are : drop old.gone (all_in old.found.items c.and-later.result.items) ≡ all ++ more =
    ap (λ l. drop old.gone (all_in old.found.items l)) c.and-later.ensures ∙ kept-push old.gone old.found.items old.later.items c.listed.result.now _ (omega (arith, counted)) ∙ ap (λ l. all ++ listed l.items) (c.listed.ensures ∙ c.bring_index.ensures.same.2) in
    let longer = ap length more_are in
    let long = length-append all more in
    let within = old.little in
    let here = length-drop old.gone (all_in old.found.items old.later.items) in
    let there = length-drop old.gone (all_in old.found.items c.and-later.result.items) in
    let all_long : length (all_in old.found.items c.and-later.result.items) ≡ length (all_in old.found.items old.later.items) + length more =
    ap (λ l. length (all_in old.found.items l)) c.and-later.ensures ∙ ap length (all_in-push old.found.items old.later.items c.listed.result.now _) ∙ length-append (all_in old.found.items old.later.items) (listed c.listed.result.now.items)
    ∙ ap (λ l. length (all_in old.found.items old.later.items) + length (listed l.items)) (c.listed.ensures ∙ c.bring_index.ensures.same.2) in
    let below = old.gone_below in
    let first = c.requires in
    let few = c.args.tail.now.few in
    let tail_counted = c.args.tail.now.counted in
    let said : c.hand_over.new.out.items ≡ old.bytes.items ++ texts more = c.in_ok-count.ensures.ok ∙ ap (λ w. old.bytes.items ++ texts (listed w.items)) c.bring_index.ensures.same.2 in
    let more_long = ap (λ w. length (listed w.items)) c.bring_index.ensures.same.2 in
    record {
      numbered = subst (λ (l : List LogRecord). IsTrue (are_numbered old.tail.first l)) (sym more_are)
          (numbered-append old.tail.first all more old.numbered (subst (λ n. IsTrue (are_numbered n more)) (omega (arith, first, below)) c.args.tail.now.numbered));
      counted = omega (arith, counted, more_long, c.in_ok-count.ensures.count, longer, long, here, there, all_long);
      gone_below = below;
      few = omega (arith, counted, more_long, c.in_ok-count.ensures.count, here, first, few, tail_counted, c.bring_index.ensures.same.0, c.bring_index.ensures.same.1, ap (λ w. length (listed w.items)) c.bring_index.ensures.same.2);
      held = λ v is. absurd cc;
      little = omega (arith, within, ap length said, length-append old.bytes.items (texts more));
      spelled = λ none.
          spelled_more old.at old.forced old.bytes.items c.hand_over.new.out.items all more (omega (arith, within)) old.forced_inside said (c.is_spelled.ensures.spelled c.if-not-is_spelled.false)
          ∙ ap (λ (l : List LogRecord). texts (drop old.forced l)) (sym more_are);
      some = old.some;
      is_short = old.is_short;
      as_long = old.as_long;
      forced_inside = omega (arith, old.forced_inside, longer, long);
      anchored = old.anchored;
      sequence = old.sequence;
      tail_number = old.tail_number;
      tail_place = old.tail_place;
      listed = subst (λ (fs : List FrameAt). IsTrue (are_listed old.head (old.tail.first + old.forced) fs)) (sym c.bring_index.ensures.items) old.listed;
      begins = (old.begins.0 ∙ ap (first_in (old.tail.first + old.forced)) (sym c.bring_index.ensures.items), old.begins.1 ∙ ap (place_in old.head) (sym c.bring_index.ensures.items));
      rises = old.rises;
      head_inside = old.head_inside;
      places = old.places;
      staged_inside = old.staged_inside;
      staged_waits = λ s is. omega (arith, old.staged_waits s is, longer, long);
      staged_long = λ s is.
          old.staged_long s is ∙ ap (λ (l : List LogRecord). length (texts l)) (sym (same_group all more old.forced s.count (old.staged_waits s is)))
          ∙ ap (λ (l : List LogRecord). length (texts (take s.count (drop old.forced l)))) (sym more_are);
      staged_short = old.staged_short;
      staged_some = old.staged_some;
      room = (old.room.0, λ none. omega (arith, c.in_ok-bring_index.ensures.room, c.bring_index.ensures.len, length-drop old.forced (drop old.gone (all_in old.found.items c.and-later.result.items)), longer, long, here, counted, ap (λ w. length (listed w.items)) c.bring_index.ensures.same.2));
      staged_listed = λ s is. omega (arith, old.staged_listed s is, c.bring_index.ensures.len, c.bring_index.ensures.kept);
    }

pub returns-clause-taken : goal.returns-clause-taken
returns-clause-taken g c =
    let old = c.args.self.now in
    let counted = old.counted in
    ap (λ l. drop old.gone (all_in old.found.items l)) c.and-later.ensures ∙ kept-push old.gone old.found.items old.later.items c.listed.result.now _ (omega (arith, counted))
    ∙ ap (λ l. records_of_log old ++ listed l.items) (c.listed.ensures ∙ c.bring_index.ensures.same.2)

pub returns-clause-frames : goal.returns-clause-frames
returns-clause-frames g c =
    let old = c.args.self.now in
    let counted = old.counted in
    keeps_frames old _ refl (λ honest. refl) refl refl refl refl c.bring_index.ensures.items refl (waiting_in c.args.tail.now)
    (ap (λ l. drop old.gone (all_in old.found.items l)) c.and-later.ensures ∙ kept-push old.gone old.found.items old.later.items c.listed.result.now _ (omega (arith, counted))
    ∙ ap (λ l. records_of_log old ++ listed l.items) (c.listed.ensures ∙ c.bring_index.ensures.same.2))
