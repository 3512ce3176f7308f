use Rattle.std.proofs.Common.{◌-◌, ◌++◌, List, length, take, drop, sym, ap, ◌∙◌, arith, length-drop}
use Rattle.std.proofs.lemmas.List.{length-take-le}
use Rattle.shore_model.specs.declared.log_records.LogRecord.{LogRecord}
use Rattle.shore_logrec.specs.Text.{text, texts}
use Rattle.shore_logrec.proofs.TextLengths.{length-text}
use Rattle.shore_log.proofs.TextLemmas.{front_same, is_all, next_there, rest_is}
use Rattle.shore_log.proofs.texts.decode_all.Goals as goal

pub loop-at-init : goal.loop-at-init
loop-at-init c = record {
  so_far = λ rs fit is. record {
    more = rs;
    parts = ap (λ (l : List LogRecord). l ++ rs) (sym c.new-records.ensures.items);
    len_is = sym (ap (λ (l : List LogRecord). length (texts l)) c.new-records.ensures.items);
  };
  inside = omega arith;
}

pub returns-in_default : goal.returns-in_default
returns-in_default c rs fit is =
    let one = next_there rs c.loop-at.records.items c.args.bytes.now c.loop-at.at fit is (c.loop-at.invariant.so_far rs fit is) (omega arith) in
    let found = c.in_ok-record.ensures.only one.logged (texts one.after) one.fits (rest_is c.loop-at.at c.args.bytes.now ∙ one.there) in
    absurd (rw c.in_default.is at found)

pub loop-at-smaller : goal.loop-at-smaller
loop-at-smaller c =
    let found = rw c.in-Some.is at c.in_ok-record.ensures.found in
    let bytes = drop c.loop-at.at c.args.bytes.now in
    omega (arith, found.1, ap length found.2, length-take-le c.in-Some.len (take (length c.args.bytes.now - c.loop-at.at) bytes) found.1, length-text c.in-Some.record, length-drop c.loop-at.at c.args.bytes.now, ap length (rest_is c.loop-at.at c.args.bytes.now), c.loop-at.invariant.inside)

pub loop-at-preserved : goal.loop-at-preserved
loop-at-preserved c =
    let found = rw c.in-Some.is at c.in_ok-record.ensures.found in
    record {
      so_far = λ rs fit is.
          let one = next_there rs c.loop-at.records.items c.args.bytes.now c.loop-at.at fit is (c.loop-at.invariant.so_far rs fit is) (omega arith) in
          let same = rw c.in-Some.is at (c.in_ok-record.ensures.only one.logged (texts one.after) one.fits (rest_is c.loop-at.at c.args.bytes.now ∙ one.there)) in
          front_same rs c.loop-at.records.items c.push.new.self.items c.loop-at.at (length (text one.logged)) c.in-Some.len one.logged c.in-Some.record one.longer c.in_ok-push.ensures.items same.0 same.1;
      inside = omega (arith, found.1, ap length (rest_is c.loop-at.at c.args.bytes.now), length-drop c.loop-at.at c.args.bytes.now, c.loop-at.invariant.inside);
    }

pub returns : goal.returns
returns c rs fit is = sym (is_all rs c.loop-at.records.items c.args.bytes.now c.loop-at.at is (c.loop-at.invariant.so_far rs fit is) (omega arith))
