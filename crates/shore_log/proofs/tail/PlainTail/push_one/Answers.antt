use Rattle.std.proofs.Common.{◌≡◌, List, ℕ, [], ◌∷◌, ◌++◌, IsTrue, length, length-append, sym, subst, ap, ◌∙◌, arith}
use Rattle.shore_model.specs.declared.log_records.LogRecord.{LogRecord}
use Rattle.shore_logrec.specs.Text.{text, texts}
use Rattle.shore_frames.specs.LoggedRecords.{are_numbered}
use Rattle.shore_frames.proofs.LoggedLemmas.{numbered-push, texts-push}
use Rattle.shore_log.specs.Listed.{listed}
use Rattle.shore_log.specs.declared.tail.Told.{Told}
use Rattle.shore_log.proofs.TextLemmas.{listed-push}
use Rattle.shore_log.proofs.tail.PlainTail.push_one.Goals as goal

pub invariant_of-self-2 : goal.invariant_of-self-2
invariant_of-self-2 c =
    let start = c.args.self.now in
    let old = c.take_room.new.self in
    let same = c.take_room.ensures.same in
    let r = c.args.logged.now in
    let all = listed old.waiting.items in
    let all_is : all ≡ listed start.waiting.items = ap (λ w. listed w.items) same.2 in
    let long = ap length all_is in
    let aside_is = ap (λ (t : Told). t.aside.records) c.take_room.ensures.told in
    let bytes_is = ap (λ (t : Told). t.aside.bytes) c.take_room.ensures.told in
    let least = c.requires.left in
    let more : listed c.and-self.result.items ≡ all ++ r ∷ [] = ap listed c.and-self.ensures ∙ listed-push old.waiting.items r _ in
    record {
      numbered = subst (λ (l : List LogRecord). IsTrue (are_numbered old.first l)) (sym more) (numbered-push old.first all r old.numbered c.requires.text (omega (arith, c.requires.previous, same.0, long)));
      counted = omega (arith, old.counted, ap length more, length-append all (r ∷ []));
      few = omega (arith, c.requires.numbers, old.counted, same.0, long);
      spelled = c.in_ok-encode.ensures.ok ∙ ap (λ (l : List ℕ). l ++ text r) old.spelled ∙ sym (texts-push all r) ∙ ap texts (sym more);
      no_entry = old.no_entry;
      index_room = omega (arith, c.in_ok-take_room.ensures.entries);
      texts_room = omega (arith, c.in_ok-take_room.ensures.texts, ap length c.in_ok-encode.ensures.ok, length-append old.bytes.items (text r), c.encode.new.out.ok.0, old.bytes.ok.0, c.encoded_len.ensures.len, c.in_ok-encode.ensures.capacity);
      texts_short = old.texts_short;
      aside_short = let short = old.aside_short in (omega (arith, short.0, least.0, aside_is), omega (arith, short.1, least.1, bytes_is));
      aside_room = omega (arith, c.in_ok-take_room.ensures.here, ap length c.in_ok-encode.ensures.ok, length-append old.bytes.items (text r), c.encode.new.out.ok.0, old.bytes.ok.0, c.encoded_len.ensures.len, c.in_ok-encode.ensures.capacity);
      spare_room = let spare = old.spare_room in (spare.0, omega (arith, spare.1, least.1, bytes_is));
    }

pub returns-clause-added : goal.returns-clause-added
returns-clause-added c =
    ap listed c.and-self.ensures ∙ listed-push c.take_room.new.self.waiting.items c.args.logged.now _ ∙ ap (λ w. listed w.items ++ c.args.logged.now ∷ []) c.take_room.ensures.same.2
