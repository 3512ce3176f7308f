use Rattle.std.proofs.Common.{◌≡◌, ◌≤◌, ◌+◌, ◌*◌, ℕ, List, [], ◌∷◌, ◌++◌, IsTrue, length, take, drop, drop-drop, length-append, length-drop, refl, sym, subst, ap, ◌∙◌, arith}
use Rattle.std.proofs.lemmas.List.{length-take-le, nil_from_length}
use Rattle.shore_disk.proofs.Moments.{widened}
use Rattle.shore_logrec.specs.Text.{texts}
use Rattle.shore_model.specs.declared.log_records.LogRecord.{LogRecord}
use Rattle.shore_frames.specs.Frames.{GivesWithOrWithoutFrom, IsLongest, behind_gate}
use Rattle.shore_frames.specs.Rings.{IsRingWritten, TornBoth}
use Rattle.shore_frames.proofs.FrameLemmas.{length-behind_gate}
use Rattle.shore_log.specs.Indexes.{are_listed, first_in, place_in}
use Rattle.shore_log.specs.Settled.{records_of_log, stable, waiting}
use Rattle.shore_log.proofs.CutLemmas.{begins_push, listed_of, listed_push, listed_test, placed_push}
use Rattle.shore_log.proofs.TextLemmas.{texts_least}
use Rattle.shore_log.proofs.ForceLemmas.{both_from, both_give, unwrap}
use Rattle.shore_log.proofs.device.LogDev.open_with.Goals as goal

-- how long the frame is, behind its gate
frame_long : (number : ℕ) (rs : List LogRecord) (bytes : List ℕ) → bytes ≡ behind_gate number (texts rs) ++ 0 ∷ [] → length bytes ≡ 13 + length (texts rs)
frame_long number rs bytes is = omega (arith, ap length is, length-append (behind_gate number (texts rs)) (0 ∷ []), length-behind_gate number (texts rs))

pub write_both_synced-requires-clause-fits : goal.write_both_synced-requires-clause-fits
write_both_synced-requires-clause-fits g c =
    let old = c.args.self.now in
    let long = frame_long _ _ c.deref.result.now (c.deref.ensures.value ∙ c.requires.spelled) in
    omega (arith, long, c.requires.len, c.requires.inside, old.rises)

pub returns-in_err-write_both_synced-clause-any_moment : goal.returns-in_err-write_both_synced-clause-any_moment
returns-in_err-write_both_synced-clause-any_moment g c tail place front group s =
    let old = c.args.self.now in
    let long : length s.image ≡ 4096 + old.stream_bytes = omega (arith, g.met.D.Disk.keeps_length old.device s.holds.honest, old.as_long, ap length s.stands.read) in
    let len : c.args.staged.len ≡ length (texts group) = ap (λ x. x.len) (unwrap (sym c.requires.staged ∙ s.waits)) in
    let n = length c.deref.result.now in
    let size = frame_long _ _ c.deref.result.now (c.deref.ensures.value ∙ c.requires.spelled) in
    let at : old.head + (1 + 12 + c.args.staged.len) + 1 ≡ old.head + 13 + length (texts group) + 1 = omega (arith, len) in
    widened _ _ (TornBoth (old.head + (1 + 12 + c.args.staged.len) + 1) n old.head s.image) (GivesWithOrWithoutFrom front tail place (stable old) group)
    (c.write_both_synced.ensures.any_moment s.holds.honest s.image s.stands)
    (λ image torn. both_give tail place old front group s long n (omega (arith, len, size, c.requires.len, c.requires.inside)) image (subst (λ p. TornBoth p n old.head s.image image) at torn))

pub returns-clause-any_moment : goal.returns-clause-any_moment
returns-clause-any_moment g c tail place front group s =
    let old = c.args.self.now in
    let long : length s.image ≡ 4096 + old.stream_bytes = omega (arith, g.met.D.Disk.keeps_length old.device s.holds.honest, old.as_long, ap length s.stands.read) in
    let len : c.args.staged.len ≡ length (texts group) = ap (λ x. x.len) (unwrap (sym c.requires.staged ∙ s.waits)) in
    let n = length c.deref.result.now in
    let size = frame_long _ _ c.deref.result.now (c.deref.ensures.value ∙ c.requires.spelled) in
    let at : old.head + (1 + 12 + c.args.staged.len) + 1 ≡ old.head + 13 + length (texts group) + 1 = omega (arith, len) in
    widened _ _ (TornBoth (old.head + (1 + 12 + c.args.staged.len) + 1) n old.head s.image) (GivesWithOrWithoutFrom front tail place (stable old) group)
    (c.write_both_synced.ensures.any_moment s.holds.honest s.image s.stands)
    (λ image torn. both_give tail place old front group s long n (omega (arith, len, size, c.requires.len, c.requires.inside)) image (subst (λ p. TornBoth p n old.head s.image image) at torn))

pub invariant_of-self-2-clause-as_long : goal.invariant_of-self-2-clause-as_long
invariant_of-self-2-clause-as_long g c = c.in_ok-write_both_synced.ensures.size ∙ c.args.self.now.as_long

pub invariant_of-self-2-clause-head_inside : goal.invariant_of-self-2-clause-head_inside
invariant_of-self-2-clause-head_inside g c = omega (arith, c.requires.inside)

pub invariant_of-self-2-clause-places : goal.invariant_of-self-2-clause-places
invariant_of-self-2-clause-places g c =
    let old = c.args.self.now in
    omega (arith, old.places, old.staged_short c.args.staged c.requires.staged, old.staged_some c.args.staged c.requires.staged)

-- so many records have as many texts, of 21 bytes at least
long_enough : (rs : List LogRecord) (forced count len : ℕ) → forced + count ≤ length rs → len ≡ length (texts (take count (drop forced rs))) → 21 * count ≤ len
long_enough rs forced count len within is =
    omega (arith, is, texts_least (take count (drop forced rs)), length-take-le count (drop forced rs) (omega (arith, within, length-drop forced rs)))

pub invariant_of-self-2-clause-listed : goal.invariant_of-self-2-clause-listed
invariant_of-self-2-clause-listed g c =
    let old = c.args.self.now in
    let s = c.args.staged in
    let some = old.staged_some s c.requires.staged in
    let near = old.places in
    let dense = long_enough (records_of_log old) old.forced s.count s.len (old.staged_waits s c.requires.staged) (old.staged_long s c.requires.staged) in
    let head = old.head + (1 + 12 + s.len) in
    let next = old.tail.first + (old.forced + s.count) in
    subst (λ fs. IsTrue (are_listed head next fs)) (sym c.push_reserved.ensures.items)
    (listed_test head next (old.frames.items ++ _ ∷ [])
    (listed_push old.head (old.tail.first + old.forced) head next old.frames.items _ refl refl (omega (arith, some)) (omega (arith, dense)) (omega (arith, near))
    (listed_of old.head (old.tail.first + old.forced) old.frames.items old.listed)))

pub invariant_of-self-2-clause-begins : goal.invariant_of-self-2-clause-begins
invariant_of-self-2-clause-begins g c =
    let old = c.args.self.now in
    let s = c.args.staged in
    let head = old.head + (1 + 12 + s.len) in
    let next = old.tail.first + (old.forced + s.count) in
    let is = c.push_reserved.ensures.items in (
      old.begins.0 ∙ sym (begins_push (old.tail.first + old.forced) next old.frames.items _ refl) ∙ ap (first_in next) (sym is),
      old.begins.1 ∙ sym (placed_push old.head head old.frames.items _ refl) ∙ ap (place_in head) (sym is),
    )

pub invariant_of-self-2-clause-held : goal.invariant_of-self-2-clause-held
invariant_of-self-2-clause-held g c = λ v is.
    let h = c.args.self.now.held v is in
    (h.0, nil_from_length c.let_go-self.new.bytes.items (omega (arith, c.let_go-self.ensures.none_more, ap length h.1)))

pub invariant_of-self-2-clause-spelled : goal.invariant_of-self-2-clause-spelled
invariant_of-self-2-clause-spelled g c = λ none. c.let_go-self.ensures.left ∙ c.at_behind-behind.ensures.waits none

pub invariant_of-self-2-clause-forced_inside : goal.invariant_of-self-2-clause-forced_inside
invariant_of-self-2-clause-forced_inside g c = c.args.self.now.staged_waits c.args.staged c.requires.staged

pub invariant_of-self-2-clause-staged_inside : goal.invariant_of-self-2-clause-staged_inside
invariant_of-self-2-clause-staged_inside g c = λ x is. let n : x.len ≡ c.args.next.len = cc in omega (arith, n, c.requires.inside)

pub invariant_of-self-2-clause-staged_waits : goal.invariant_of-self-2-clause-staged_waits
invariant_of-self-2-clause-staged_waits g c = λ x is. let n : x.count ≡ c.args.next.count = cc in
    let old = c.args.self.now in
    omega (arith, n, c.requires.longest.within, length-drop c.args.staged.count (waiting old), length-drop old.forced (records_of_log old), old.staged_waits c.args.staged c.requires.staged)

pub invariant_of-self-2-clause-staged_short : goal.invariant_of-self-2-clause-staged_short
invariant_of-self-2-clause-staged_short g c = λ x is. let n : x.len ≡ c.args.next.len = cc in omega (arith, n, c.requires.len, c.requires.longest.fits)

pub invariant_of-self-2-clause-staged_some : goal.invariant_of-self-2-clause-staged_some
invariant_of-self-2-clause-staged_some g c = λ x is. let n : x.count ≡ c.args.next.count = cc in omega (arith, n, c.requires.some)

pub invariant_of-self-2-clause-staged_long : goal.invariant_of-self-2-clause-staged_long
invariant_of-self-2-clause-staged_long g c = λ x is.
    let old = c.args.self.now in
    let n : x.len ≡ c.args.next.len = cc in
    let k : x.count ≡ c.args.next.count = cc in
    n ∙ c.requires.len ∙ ap (λ m. length (texts (take m (drop c.args.staged.count (waiting old))))) (sym k)
    ∙ ap (λ (rs : List LogRecord). length (texts (take x.count rs))) (drop-drop c.args.staged.count old.forced (records_of_log old))

pub returns-clause-longest : goal.returns-clause-longest
returns-clause-longest g c =
    let old = c.args.self.now in
    subst (λ (rs : List LogRecord). IsLongest rs c.args.next.count) (drop-drop c.args.staged.count old.forced (records_of_log old)) c.requires.longest

pub returns-clause-settled : goal.returns-clause-settled
returns-clause-settled g c tail place front group s =
    let old = c.args.self.now in
    let next = c.args.next in
    let long : length s.image ≡ 4096 + old.stream_bytes = omega (arith, g.met.D.Disk.keeps_length old.device s.holds.honest, old.as_long, ap length s.stands.read) in
    let same = unwrap (sym c.requires.staged ∙ s.waits) in
    let len : c.args.staged.len ≡ length (texts group) = ap (λ x. x.len) same in
    let count : c.args.staged.count ≡ length group = ap (λ x. x.count) same in
    let written = c.in_ok-write_both_synced.ensures.stable s.holds.honest in
    let bytes = c.deref.result.now in
    let at : old.head + (1 + 12 + c.args.staged.len) + 1 ≡ old.head + 13 + length (texts group) + 1 = omega (arith, len) in
    let one : IsRingWritten (old.head + 13 + length (texts group) + 1) bytes s.image written.0 =
    subst (λ p. IsRingWritten p bytes s.image written.0) at (subst (λ i. IsRingWritten (old.head + (1 + 12 + c.args.staged.len) + 1) bytes i written.0) s.stands.read written.3) in
    let len_is : next.len ≡ length (texts (take next.count (drop (length group) (waiting old)))) = subst (λ k. next.len ≡ length (texts (take next.count (drop k (waiting old))))) count c.requires.len in
    both_from tail place old front group s long _ next.count next.len bytes written.0 written.1
    (subst IsTrue (sym c.write_both_synced.ensures.honest) s.holds.honest) written.2 one written.4
    refl (omega (arith, len)) (omega (arith, count)) refl c.push_reserved.ensures.items refl
    c.requires.some (subst (λ k. IsLongest (drop k (waiting old)) next.count) count c.requires.longest) len_is
    (omega (arith, len, len_is, c.requires.inside))
    (subst (λ k. bytes ≡ behind_gate (old.tail.first + (old.forced + k)) (texts (take next.count (drop k (waiting old)))) ++ 0 ∷ []) count (c.deref.ensures.value ∙ c.requires.spelled))
