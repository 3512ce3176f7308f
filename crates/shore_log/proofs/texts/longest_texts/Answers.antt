use Rattle.std.proofs.Common.{◌+◌, ◌∙◌, arith}
use Rattle.shore_log.proofs.TextLemmas.{count_more, counted_len, longest_all, longest_before, none_counted, not_over, rest_is}
use Rattle.shore_log.proofs.texts.longest_texts.Goals as goal

pub loop-len-init : goal.loop-len-init
loop-len-init c = record {
  counted = λ rs fit is. none_counted rs;
  fits = omega arith;
  inside = omega arith;
  few = omega arith;
  end_is = omega arith;
}

pub returns-then-with_it-end-clause-longest : goal.returns-then-with_it-end-clause-longest
returns-then-with_it-end-clause-longest c rs fit is =
    let inv = c.loop-len.invariant in
    let within = not_over rs c.args.bytes.now c.loop-len.count c.loop-len.len (c.loop-len.len + c.text_len.result) fit is (inv.counted rs fit is) (omega arith) (λ r rest fits there. omega (arith, c.text_len.ensures.len r rest fits (rest_is c.loop-len.len c.args.bytes.now ∙ there))) in
    absurd (omega (arith, within))

pub returns-then-with_it-end-clause-len : goal.returns-then-with_it-end-clause-len
returns-then-with_it-end-clause-len c rs fit is = counted_len rs c.loop-len.count c.loop-len.len (c.loop-len.invariant.counted rs fit is)

pub returns-then-with_it-gt-MAX_FRAME_BYTES-clause-longest : goal.returns-then-with_it-gt-MAX_FRAME_BYTES-clause-longest
returns-then-with_it-gt-MAX_FRAME_BYTES-clause-longest c rs fit is =
    let inv = c.loop-len.invariant in
    longest_before rs c.args.bytes.now c.loop-len.count c.loop-len.len (c.loop-len.len + c.text_len.result) fit is (inv.counted rs fit is) inv.fits (omega arith)
    (λ r rest fits there. omega (arith, c.text_len.ensures.len r rest fits (rest_is c.loop-len.len c.args.bytes.now ∙ there))) (omega arith)

pub returns-then-with_it-gt-MAX_FRAME_BYTES-clause-len : goal.returns-then-with_it-gt-MAX_FRAME_BYTES-clause-len
returns-then-with_it-gt-MAX_FRAME_BYTES-clause-len c rs fit is = counted_len rs c.loop-len.count c.loop-len.len (c.loop-len.invariant.counted rs fit is)

pub loop-len-preserved : goal.loop-len-preserved
loop-len-preserved c =
    let inv = c.loop-len.invariant in
    record {
      counted = λ rs fit is.
          count_more rs c.args.bytes.now c.loop-len.count c.loop-len.len (c.loop-len.len + c.text_len.result) fit is (inv.counted rs fit is) (omega arith)
          (λ r rest fits there. omega (arith, c.text_len.ensures.len r rest fits (rest_is c.loop-len.len c.args.bytes.now ∙ there)));
      fits = omega arith;
      inside = omega (arith, inv.end_is);
      few = omega (arith, inv.few, c.text_len.ensures.some);
      end_is = inv.end_is;
    }

pub returns-clause-longest : goal.returns-clause-longest
returns-clause-longest c rs fit is =
    let inv = c.loop-len.invariant in
    longest_all rs c.args.bytes.now c.loop-len.count c.loop-len.len is (inv.counted rs fit is) inv.fits (omega (arith, inv.end_is))

pub returns-clause-len : goal.returns-clause-len
returns-clause-len c rs fit is = counted_len rs c.loop-len.count c.loop-len.len (c.loop-len.invariant.counted rs fit is)
