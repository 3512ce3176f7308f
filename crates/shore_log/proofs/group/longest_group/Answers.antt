use Rattle.std.proofs.Common.{◌≡◌, ℕ, length, take, inl, inr, refl, ap, ◌∙◌, arith}
use Rattle.shore_logrec.specs.Text.{texts}
use Rattle.shore_frames.proofs.LoggedLemmas.{length-texts-more}
use Rattle.shore_log.proofs.group.longest_group.Goals as goal

pub loop-count-init : goal.loop-count-init
loop-count-init c = record { so_far = omega arith; fits = omega arith }

pub overflow_add-with_it : goal.overflow_add-with_it
overflow_add-with_it c = omega (arith, c.loop-count.invariant.fits, c.encoded_len.ensures.most)

pub returns-then-with_it-gt-MAX_FRAME_BYTES-clause-longest : goal.returns-then-with_it-gt-MAX_FRAME_BYTES-clause-longest
returns-then-with_it-gt-MAX_FRAME_BYTES-clause-longest c =
    let more = length-texts-more c.args.records.now c.loop-count.count c.index-records-count.result c.loop-count-test.true c.index-records-count.is in
    record {
      within = omega arith;
      fits = omega (arith, c.loop-count.invariant.so_far, c.loop-count.invariant.fits);
      longest = inr (omega (arith, more, c.loop-count.invariant.so_far, c.encoded_len.ensures.len));
    }

pub loop-count-preserved : goal.loop-count-preserved
loop-count-preserved c =
    let more = length-texts-more c.args.records.now c.loop-count.count c.index-records-count.result c.loop-count-test.true c.index-records-count.is in
    record {
      so_far = omega (arith, more, c.loop-count.invariant.so_far, c.encoded_len.ensures.len);
      fits = omega arith;
    }

pub returns-clause-longest : goal.returns-clause-longest
returns-clause-longest c =
    let count_is : c.loop-count.count ≡ length c.args.records.now = omega arith in
    let len_is : c.loop-count.len ≡ length (texts (take (length c.args.records.now) c.args.records.now)) = c.loop-count.invariant.so_far ∙ ap (λ (n : ℕ). length (texts (take n c.args.records.now))) count_is in
    record { within = omega arith; fits = omega (arith, len_is, c.loop-count.invariant.fits); longest = inl refl }

pub returns-clause-len : goal.returns-clause-len
returns-clause-len c =
    let count_is : c.loop-count.count ≡ length c.args.records.now = omega arith in
    c.loop-count.invariant.so_far ∙ ap (λ (n : ℕ). length (texts (take n c.args.records.now))) count_is
