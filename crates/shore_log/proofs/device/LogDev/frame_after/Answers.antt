use Rattle.std.proofs.Common.{◌+◌, ◌++◌, ◌∷◌, [], List, ℕ, drop, inl, length, refl, sym, ap, ◌∙◌, arith, length-drop}
use Rattle.std.proofs.lemmas.Bool.{true≢false}
use Rattle.shore_frames.specs.Frames.{behind_gate}
use Rattle.shore_frames.proofs.LoggedLemmas.{none_longest}
use Rattle.shore_log.specs.Settled.{waiting}
use Rattle.shore_log.proofs.FrameTexts.{chosen_after, is_none_after, len_within_after, none_of, of_ok}
use Rattle.shore_log.proofs.device.LogDev.frame_after.Goals as goal

-- ---- why there is no next frame

pub returns-then-count-eq0-clause-none : goal.returns-then-count-eq0-clause-none
returns-then-count-eq0-clause-none g c spelled is =
    inl (none_longest (drop c.args.staged.count (waiting c.args.self.now)) c.next_group-count.result.0 c.if-count-eq0.true c.next_group-count.ensures.fit c.next_group-count.ensures.longest)

pub returns-in_err-ok-clause-none : goal.returns-in_err-ok-clause-none
returns-in_err-ok-clause-none g c spelled is =
    let old = c.args.self.now in
    let s = c.args.staged in
    let some = c.if-count-eq0.false in
    let within = c.next_group-count.ensures.longest.within in
    let least = old.staged_some s c.requires in
    let room = old.room.1 (is_none_after old old.read s.count c.next_group-count.result.0 refl spelled (omega (arith, some)) within) in
    let ok = c.reserve.ensures.succeeds (omega (arith, room, within, some, least, length-drop s.count (waiting old))) in
    absurd (true≢false (sym ok ∙ sym c.in_err-ok.ensures.variant))

-- ---- its texts

pub texts_for-texts-requires : goal.texts_for-texts-requires
texts_for-texts-requires g c = record {
  inside = λ no.
      let log = c.args.self.now in
      let none = none_of log.read (sym c.is_some.ensures ∙ no) in
      let within = len_within_after log c.args.staged.count c.at_behind-at.result c.next_group-count.result.1 c.next_group-count.result.0 c.at_behind-at.ensures.inside (c.at_behind-at.ensures.waits none) c.next_group-count.ensures.len in
      omega (arith, within, ap length c.deref-2.ensures.value);
}

pub frame_bytes-requires : goal.frame_bytes-requires
frame_bytes-requires g c =
    let old = c.args.self.now in
    let count = c.next_group-count.result.0 in
    let is = chosen_after old c.args.staged.count c.at_behind-at.result old.read c.is_some.result c.deref.result.now c.deref-2.result.now c.texts_for-texts.result.now count c.next_group-count.result.1 refl
    c.is_some.ensures c.deref-2.ensures.value c.next_group-count.ensures.len c.at_behind-at.ensures.waits (λ some. c.deref.ensures.value ∙ of_ok c.encoded.result _ c.in_ok-encoded.encoded c.in_ok-encoded.ensures.value (c.encoded.ensures.texts some))
    c.texts_for-texts.ensures.encoded c.texts_for-texts.ensures.waits in
    record { fits = omega (arith, ap length is, c.next_group-count.ensures.longest.fits) }

pub returns-clause-spelled : goal.returns-clause-spelled
returns-clause-spelled g c =
    let old = c.args.self.now in
    let count = c.next_group-count.result.0 in
    let is = chosen_after old c.args.staged.count c.at_behind-at.result old.read c.is_some.result c.deref.result.now c.deref-2.result.now c.texts_for-texts.result.now count c.next_group-count.result.1 refl
    c.is_some.ensures c.deref-2.ensures.value c.next_group-count.ensures.len c.at_behind-at.ensures.waits (λ some. c.deref.ensures.value ∙ of_ok c.encoded.result _ c.in_ok-encoded.encoded c.in_ok-encoded.ensures.value (c.encoded.ensures.texts some))
    c.texts_for-texts.ensures.encoded c.texts_for-texts.ensures.waits in
    of_ok c.frame_bytes.result _ _ c.in_ok-ok-2.ensures.value c.frame_bytes.ensures.spelled ∙ ap (λ (l : List ℕ). behind_gate (old.tail.first + (old.forced + c.args.staged.count)) l ++ 0 ∷ []) is
