use Rattle.std.proofs.Common.{◌≡◌, List, [], ◌∷◌, ◌++◌, length, drop, take, length-append, IsTrue, refl, sym, subst, ap, ◌∙◌, arith}
use Rattle.std.specs.Global.{Vec}
use Rattle.shore_model.specs.declared.log_records.LogRecord.{LogRecord}
use Rattle.shore_logrec.specs.Text.{texts}
use Rattle.shore_frames.specs.LoggedRecords.{are_numbered}
use Rattle.shore_frames.proofs.LoggedLemmas.{numbered-push}
use Rattle.shore_log.specs.Listed.{all_in, listed}
use Rattle.shore_log.specs.Settled.{records_of_log}
use Rattle.shore_log.proofs.ForceLemmas.{keeps_frames, unwrap}
use Rattle.shore_log.proofs.TextLemmas.{all_in-push, kept-push, same_group}
use Rattle.shore_log.proofs.device.LogDev.take.Goals as goal

pub invariant_of-self : goal.invariant_of-self
invariant_of-self g c =
    let old = c.args.self.now in
    let r = c.args.logged in
    let all = records_of_log old in
    let every = all_in old.found.items old.later.items in
    let counted = old.counted in
    let one : listed c.and-one.result.items ≡ r ∷ [] = ap listed (c.and-one.ensures ∙ ap (λ l. l ++ (r, tt) ∷ []) c.new.ensures) in
    let more : all_in old.found.items c.and-self.result.items ≡ every ++ r ∷ [] =
    ap (all_in old.found.items) c.and-self.ensures ∙ all_in-push old.found.items old.later.items c.and-one.result _ ∙ ap (λ l. every ++ l) one in
    let more_are : drop old.gone (all_in old.found.items c.and-self.result.items) ≡ all ++ r ∷ [] =
    ap (λ l. drop old.gone (all_in old.found.items l)) c.and-self.ensures ∙ kept-push old.gone old.found.items old.later.items c.and-one.result _ (omega (arith, counted)) ∙ ap (λ l. all ++ l) one in
    let longer = ap length more_are in
    let long = length-append all (r ∷ []) in
    let whole = ap length more in
    let whole_long = length-append every (r ∷ []) in
    let held = old.held c.in-Some.read c.in-Some.is in
    let size = ap length held.0 in
    let below = old.gone_below in
    record {
      numbered = subst (λ (l : List LogRecord). IsTrue (are_numbered old.tail.first l)) (sym more_are) (numbered-push old.tail.first all r old.numbered c.requires.text (let least = c.requires.previous in omega (arith, least, below)));
      counted = omega (arith, counted, whole, whole_long);
      gone_below = below;
      few = omega (arith, counted, size);
      held = λ v is. let same = unwrap is in (ap (λ (x : Vec LogRecord). x.items) (sym same) ∙ c.push_reserved.ensures.items ∙ ap (λ l. l ++ r ∷ []) held.0 ∙ sym more, held.1);
      little = old.little;
      spelled = λ none. absurd cc;
      some = old.some;
      is_short = old.is_short;
      as_long = old.as_long;
      forced_inside = omega (arith, old.forced_inside, longer, long);
      anchored = old.anchored;
      sequence = old.sequence;
      tail_number = old.tail_number;
      tail_place = old.tail_place;
      listed = old.listed;
      begins = old.begins;
      rises = old.rises;
      head_inside = old.head_inside;
      places = old.places;
      staged_inside = old.staged_inside;
      staged_waits = λ s is. omega (arith, old.staged_waits s is, longer, long);
      staged_long = λ s is.
          old.staged_long s is ∙ ap (λ (l : List LogRecord). length (texts l)) (sym (same_group all (r ∷ []) old.forced s.count (old.staged_waits s is)))
          ∙ ap (λ (l : List LogRecord). length (texts (take s.count (drop old.forced l)))) (sym more_are);
      staged_short = old.staged_short;
      staged_some = old.staged_some;
      room = (old.room.0, λ none. absurd cc);
      staged_listed = old.staged_listed;
    }

pub returns-clause-taken : goal.returns-clause-taken
returns-clause-taken g c =
    let old = c.args.self.now in
    let counted = old.counted in
    let one : listed c.and-one.result.items ≡ c.args.logged ∷ [] = ap listed (c.and-one.ensures ∙ ap (λ l. l ++ (c.args.logged, tt) ∷ []) c.new.ensures) in
    ap (λ l. drop old.gone (all_in old.found.items l)) c.and-self.ensures ∙ kept-push old.gone old.found.items old.later.items c.and-one.result _ (omega (arith, counted)) ∙ ap (λ l. records_of_log old ++ l) one

pub returns-clause-frames : goal.returns-clause-frames
returns-clause-frames g c =
    let old = c.args.self.now in
    let counted = old.counted in
    let one : listed c.and-one.result.items ≡ c.args.logged ∷ [] = ap listed (c.and-one.ensures ∙ ap (λ l. l ++ (c.args.logged, tt) ∷ []) c.new.ensures) in
    keeps_frames old _ refl (λ honest. refl) refl refl refl refl refl refl (c.args.logged ∷ [])
    (ap (λ l. drop old.gone (all_in old.found.items l)) c.and-self.ensures ∙ kept-push old.gone old.found.items old.later.items c.and-one.result _ (omega (arith, counted)) ∙ ap (λ l. records_of_log old ++ l) one)
