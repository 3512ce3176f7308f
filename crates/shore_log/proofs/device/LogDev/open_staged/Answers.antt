use Rattle.std.proofs.Common.{◌≡◌, ◌≤◌, ◌+◌, ◌*◌, ℕ, List, [], ◌∷◌, ◌++◌, IsTrue, length, take, drop, length-drop, refl, sym, subst, ap, ◌∙◌, arith}
use Rattle.std.proofs.lemmas.List.{length-take-le, nil_from_length}
use Rattle.shore_disk.proofs.Moments.{widened}
use Rattle.shore_gate.specs.declared.gates.TheConstants.{OPEN}
use Rattle.shore_logrec.specs.Text.{texts}
use Rattle.shore_model.specs.declared.log_records.LogRecord.{LogRecord}
use Rattle.shore_frames.specs.Frames.{GivesWithOrWithoutFrom}
use Rattle.shore_frames.specs.Rings.{IsRingWritten, TornRing}
use Rattle.shore_log.specs.Indexes.{are_listed, first_in, place_in}
use Rattle.shore_log.specs.Settled.{records_of_log, stable}
use Rattle.shore_log.proofs.CutLemmas.{begins_push, listed_of, listed_push, listed_test, placed_push}
use Rattle.shore_log.proofs.TextLemmas.{texts_least}
use Rattle.shore_log.proofs.ForceLemmas.{open_gives, opened_from, unwrap}
use Rattle.shore_log.proofs.device.LogDev.open_staged.Goals as goal

pub returns-in_err-write_ring_synced-clause-any_moment : goal.returns-in_err-write_ring_synced-clause-any_moment
returns-in_err-write_ring_synced-clause-any_moment g c tail place front group s =
    let old = c.args.self.now in
    let long : length s.image ≡ 4096 + old.stream_bytes = omega (arith, g.met.D.Disk.keeps_length old.device s.holds.honest, old.as_long, ap length s.stands.read) in
    widened _ _ (TornRing old.head 1 s.image) (GivesWithOrWithoutFrom front tail place (stable old) group) (c.write_ring_synced.ensures.any_moment s.holds.honest s.image s.stands)
    (open_gives tail place old front group s long)

pub returns-clause-any_moment : goal.returns-clause-any_moment
returns-clause-any_moment g c tail place front group s =
    let old = c.args.self.now in
    let long : length s.image ≡ 4096 + old.stream_bytes = omega (arith, g.met.D.Disk.keeps_length old.device s.holds.honest, old.as_long, ap length s.stands.read) in
    widened _ _ (TornRing old.head 1 s.image) (GivesWithOrWithoutFrom front tail place (stable old) group) (c.write_ring_synced.ensures.any_moment s.holds.honest s.image s.stands)
    (open_gives tail place old front group s long)

pub invariant_of-self-2-clause-as_long : goal.invariant_of-self-2-clause-as_long
invariant_of-self-2-clause-as_long g c = c.in_ok-write_ring_synced.ensures.size ∙ c.args.self.now.as_long

pub invariant_of-self-2-clause-head_inside : goal.invariant_of-self-2-clause-head_inside
invariant_of-self-2-clause-head_inside g c = omega (arith, c.args.self.now.staged_inside c.in-Some.staged c.in-Some.is)

pub invariant_of-self-2-clause-places : goal.invariant_of-self-2-clause-places
invariant_of-self-2-clause-places g c =
    let old = c.args.self.now in
    omega (arith, old.places, old.staged_short c.in-Some.staged c.in-Some.is, old.staged_some c.in-Some.staged c.in-Some.is)

-- so many records have as many texts, of 21 bytes at least
long_enough : (rs : List LogRecord) (forced count len : ℕ) → forced + count ≤ length rs → len ≡ length (texts (take count (drop forced rs))) → 21 * count ≤ len
long_enough rs forced count len within is =
    omega (arith, is, texts_least (take count (drop forced rs)), length-take-le count (drop forced rs) (omega (arith, within, length-drop forced rs)))

pub invariant_of-self-2-clause-listed : goal.invariant_of-self-2-clause-listed
invariant_of-self-2-clause-listed g c =
    let old = c.args.self.now in
    let s = c.in-Some.staged in
    let some = old.staged_some s c.in-Some.is in
    let near = old.places in
    let dense = long_enough (records_of_log old) old.forced s.count s.len (old.staged_waits s c.in-Some.is) (old.staged_long s c.in-Some.is) in
    let head = old.head + (1 + 12 + s.len) in
    let next = old.tail.first + (old.forced + s.count) in
    subst (λ fs. IsTrue (are_listed head next fs)) (sym c.push_reserved.ensures.items)
    (listed_test head next (old.frames.items ++ _ ∷ [])
    (listed_push old.head (old.tail.first + old.forced) head next old.frames.items _ refl refl (omega (arith, some)) (omega (arith, dense)) (omega (arith, near))
    (listed_of old.head (old.tail.first + old.forced) old.frames.items old.listed)))

pub invariant_of-self-2-clause-begins : goal.invariant_of-self-2-clause-begins
invariant_of-self-2-clause-begins g c =
    let old = c.args.self.now in
    let s = c.in-Some.staged in
    let head = old.head + (1 + 12 + s.len) in
    let next = old.tail.first + (old.forced + s.count) in
    let is = c.push_reserved.ensures.items in (
      old.begins.0 ∙ sym (begins_push (old.tail.first + old.forced) next old.frames.items _ refl) ∙ ap (first_in next) (sym is),
      old.begins.1 ∙ sym (placed_push old.head head old.frames.items _ refl) ∙ ap (place_in head) (sym is),
    )

pub invariant_of-self-2-clause-held : goal.invariant_of-self-2-clause-held
invariant_of-self-2-clause-held g c = λ v is.
    let h = c.args.self.now.held v is in
    (h.0, nil_from_length c.let_go-self.new.bytes.items (omega (arith, c.let_go-self.ensures.none_more, ap length h.1)))

pub invariant_of-self-2-clause-spelled : goal.invariant_of-self-2-clause-spelled
invariant_of-self-2-clause-spelled g c = λ none. c.let_go-self.ensures.left ∙ c.at_behind-behind.ensures.waits none

pub invariant_of-self-2-clause-forced_inside : goal.invariant_of-self-2-clause-forced_inside
invariant_of-self-2-clause-forced_inside g c = c.args.self.now.staged_waits c.in-Some.staged c.in-Some.is

pub returns-clause-settled : goal.returns-clause-settled
returns-clause-settled g c tail place front group s =
    let old = c.args.self.now in
    let long : length s.image ≡ 4096 + old.stream_bytes = omega (arith, g.met.D.Disk.keeps_length old.device s.holds.honest, old.as_long, ap length s.stands.read) in
    let same = unwrap (sym c.in-Some.is ∙ s.waits) in
    let len : c.in-Some.staged.len ≡ length (texts group) = ap (λ x. x.len) same in
    let count : c.in-Some.staged.count ≡ length group = ap (λ x. x.count) same in
    let written = c.in_ok-write_ring_synced.ensures.stable s.holds.honest in
    opened_from tail place old front group s long _ written.0
    (subst IsTrue (sym c.write_ring_synced.ensures.honest) s.holds.honest) written.1
    (subst (λ i. IsRingWritten old.head (OPEN ∷ []) i written.0) s.stands.read written.2)
    refl (omega (arith, len)) (omega (arith, count)) refl c.push_reserved.ensures.items
