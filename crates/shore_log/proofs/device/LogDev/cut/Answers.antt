use Rattle.std.proofs.Common.{◌≡◌, ◌≤◌, ◌<◌, ◌+◌, ◌-◌, List, IsTrue, length, take, drop, refl, sym, subst, ap, ◌∙◌, arith, drop-drop, length-drop}
use Rattle.std.proofs.lemmas.List.{length-take-le}
use Rattle.shore_model.specs.declared.log_records.LogRecord.{LogRecord}
use Rattle.shore_logrec.specs.Text.{texts}
use Rattle.shore_frames.specs.LoggedRecords.{are_numbered}
use Rattle.shore_frames.specs.declared.reading.FrameAt.{FrameAt}
use Rattle.shore_frames.proofs.LoggedLemmas.{AreNumbered-drop, AreNumbered-test, test-AreNumbered}
use Rattle.shore_log.specs.Indexes.{are_listed, first_in, place_in}
use Rattle.shore_log.specs.Listed.{all_in}
use Rattle.shore_log.specs.Settled.{records_of_log, stable, waiting}
use Rattle.shore_log.proofs.CutLemmas.{cut_settled, cut_staged, left_behind, listed_at, listed_of, listed_test, seen_some, some_at, taken_behind, there_is}
use Rattle.shore_log.proofs.ForceLemmas.{unwrap}
use Rattle.shore_log.proofs.device.LogDev.cut.Goals as goal

pub overflow_sub-records : goal.overflow_sub-records
overflow_sub-records g c =
    let old = c.args.self.now in
    let before = c.args.before in
    let f = c.index-tail.result.now in
    let within : before < length old.frames.items = there_is old.frames.items before _ c.requires.there in
    let at = some_at old.frames.items before f within c.index-tail.ensures in
    let same : f ≡ record { first = c.args.anchors.anchor.tail; place = c.args.anchors.anchor.tail_place } = unwrap (sym at ∙ c.requires.there) in
    let next = old.tail.first + old.forced in
    let begins = old.begins.0 in
    let placed = old.begins.1 in
    let h = listed_at old.head next old.frames.items before f at (listed_of old.head next old.frames.items old.listed) in
    let from : old.tail.first ≤ f.first = omega (arith, h.from, begins) in
    let below = old.gone_below in
    omega (arith, from, h.to, old.forced_inside, old.counted, length-drop old.gone (all_in old.found.items old.later.items))

pub overflow_sub-self : goal.overflow_sub-self
overflow_sub-self g c =
    let old = c.args.self.now in
    let before = c.args.before in
    let f = c.index-tail.result.now in
    let within : before < length old.frames.items = there_is old.frames.items before _ c.requires.there in
    let at = some_at old.frames.items before f within c.index-tail.ensures in
    let same : f ≡ record { first = c.args.anchors.anchor.tail; place = c.args.anchors.anchor.tail_place } = unwrap (sym at ∙ c.requires.there) in
    let next = old.tail.first + old.forced in
    let begins = old.begins.0 in
    let placed = old.begins.1 in
    let h = listed_at old.head next old.frames.items before f at (listed_of old.head next old.frames.items old.listed) in
    let from : old.tail.first ≤ f.first = omega (arith, h.from, begins) in
    let below = old.gone_below in
    omega (arith, from, h.to, old.forced_inside, old.counted, length-drop old.gone (all_in old.found.items old.later.items))

pub overflow_sub-self-2 : goal.overflow_sub-self-2
overflow_sub-self-2 g c =
    let old = c.args.self.now in
    let before = c.args.before in
    let f = c.index-tail.result.now in
    let within : before < length old.frames.items = there_is old.frames.items before _ c.requires.there in
    let at = some_at old.frames.items before f within c.index-tail.ensures in
    let same : f ≡ record { first = c.args.anchors.anchor.tail; place = c.args.anchors.anchor.tail_place } = unwrap (sym at ∙ c.requires.there) in
    let next = old.tail.first + old.forced in
    let begins = old.begins.0 in
    let placed = old.begins.1 in
    let h = listed_at old.head next old.frames.items before f at (listed_of old.head next old.frames.items old.listed) in
    let from : old.tail.first ≤ f.first = omega (arith, h.from, begins) in
    let below = old.gone_below in
    omega (arith, from, h.to, old.forced_inside, old.counted, length-drop old.gone (all_in old.found.items old.later.items))

pub returns-clause-cut : goal.returns-clause-cut
returns-clause-cut g c tail place front s =
    let old = c.args.self.now in
    let before = c.args.before in
    let f = c.index-tail.result.now in
    let within : before < length old.frames.items = there_is old.frames.items before _ c.requires.there in
    let at = some_at old.frames.items before f within c.index-tail.ensures in
    let same : f ≡ record { first = c.args.anchors.anchor.tail; place = c.args.anchors.anchor.tail_place } = unwrap (sym at ∙ c.requires.there) in
    let next = old.tail.first + old.forced in
    let begins = old.begins.0 in
    let placed = old.begins.1 in
    let h = listed_at old.head next old.frames.items before f at (listed_of old.head next old.frames.items old.listed) in
    let from : old.tail.first ≤ f.first = omega (arith, h.from, begins) in
    let left = left_behind old.frames.items c.truncate.new.self.items c.rotate_left.new.self.items before _ c.truncate.ensures.items c.rotate_left.ensures.items (omega (arith, within, c.len.ensures)) in
    let gone = f.first - old.tail.first in
    let all = all_in old.found.items old.later.items in
    let kept : drop (old.gone + gone) all ≡ drop gone (records_of_log old) = sym (drop-drop gone old.gone all) in
    let inside = old.forced_inside in
    let waits : drop (old.forced - gone) (drop (old.gone + gone) all) ≡ waiting old =
    ap (drop (old.forced - gone)) kept ∙ drop-drop (old.forced - gone) gone (records_of_log old) ∙ ap (λ n. drop n (records_of_log old)) (omega (arith, from, h.to)) in
    let stays : take (old.forced - gone) (drop (old.gone + gone) all) ≡ drop gone (stable old) =
    ap (take (old.forced - gone)) kept ∙ taken_behind (records_of_log old) gone old.forced (omega (arith, from, h.to)) inside in
    let less : (old.forced - gone) + gone ≡ old.forced = omega (arith, from, h.to) in
    cut_settled tail place old _ s.groups s.holds before f at refl refl refl left stays less waits front s.image s.stands s.is_front s.ring

pub returns-clause-under_way : goal.returns-clause-under_way
returns-clause-under_way g c tail place front group s =
    let old = c.args.self.now in
    let before = c.args.before in
    let f = c.index-tail.result.now in
    let within : before < length old.frames.items = there_is old.frames.items before _ c.requires.there in
    let at = some_at old.frames.items before f within c.index-tail.ensures in
    let same : f ≡ record { first = c.args.anchors.anchor.tail; place = c.args.anchors.anchor.tail_place } = unwrap (sym at ∙ c.requires.there) in
    let next = old.tail.first + old.forced in
    let begins = old.begins.0 in
    let placed = old.begins.1 in
    let h = listed_at old.head next old.frames.items before f at (listed_of old.head next old.frames.items old.listed) in
    let from : old.tail.first ≤ f.first = omega (arith, h.from, begins) in
    let left = left_behind old.frames.items c.truncate.new.self.items c.rotate_left.new.self.items before _ c.truncate.ensures.items c.rotate_left.ensures.items (omega (arith, within, c.len.ensures)) in
    let gone = f.first - old.tail.first in
    let all = all_in old.found.items old.later.items in
    let kept : drop (old.gone + gone) all ≡ drop gone (records_of_log old) = sym (drop-drop gone old.gone all) in
    let inside = old.forced_inside in
    let waits : drop (old.forced - gone) (drop (old.gone + gone) all) ≡ waiting old =
    ap (drop (old.forced - gone)) kept ∙ drop-drop (old.forced - gone) gone (records_of_log old) ∙ ap (λ n. drop n (records_of_log old)) (omega (arith, from, h.to)) in
    let stays : take (old.forced - gone) (drop (old.gone + gone) all) ≡ drop gone (stable old) =
    ap (take (old.forced - gone)) kept ∙ taken_behind (records_of_log old) gone old.forced (omega (arith, from, h.to)) inside in
    let less : (old.forced - gone) + gone ≡ old.forced = omega (arith, from, h.to) in
    cut_staged tail place old _ s.groups s.holds before f at refl refl refl left stays less waits front group s refl (seen_some tail place old front group s) refl

pub returns-clause-lost : goal.returns-clause-lost
returns-clause-lost g c =
    let old = c.args.self.now in
    let before = c.args.before in
    let f = c.index-tail.result.now in
    let within : before < length old.frames.items = there_is old.frames.items before _ c.requires.there in
    let at = some_at old.frames.items before f within c.index-tail.ensures in
    let same : f ≡ record { first = c.args.anchors.anchor.tail; place = c.args.anchors.anchor.tail_place } = unwrap (sym at ∙ c.requires.there) in
    let next = old.tail.first + old.forced in
    let begins = old.begins.0 in
    let placed = old.begins.1 in
    let h = listed_at old.head next old.frames.items before f at (listed_of old.head next old.frames.items old.listed) in
    let from : old.tail.first ≤ f.first = omega (arith, h.from, begins) in
    let gone = f.first - old.tail.first in
    let all = all_in old.found.items old.later.items in
    let kept : drop (old.gone + gone) all ≡ drop gone (records_of_log old) = sym (drop-drop gone old.gone all) in
    let inside = old.forced_inside in
    let waits : drop (old.forced - gone) (drop (old.gone + gone) all) ≡ waiting old =
    ap (drop (old.forced - gone)) kept ∙ drop-drop (old.forced - gone) gone (records_of_log old) ∙ ap (λ n. drop n (records_of_log old)) (omega (arith, from, h.to)) in
    let stays : take (old.forced - gone) (drop (old.gone + gone) all) ≡ drop gone (stable old) =
    ap (take (old.forced - gone)) kept ∙ taken_behind (records_of_log old) gone old.forced (omega (arith, from, h.to)) inside in
    let below = old.gone_below in
    let cut : (f.first - 1) - (old.tail.first - 1) ≡ gone = omega (arith, from, below) in
    record {
      rises = omega (arith, from);
      records = kept ∙ ap (λ n. drop n (records_of_log old)) (sym cut);
      forced = stays ∙ ap (λ n. drop n (stable old)) (sym cut);
      last = omega (arith, from, h.to, below, ap length stays, length-drop gone (stable old), length-take-le old.forced (records_of_log old) inside);
      waits = waits;
      staged = refl;
      head = refl;
      list = λ has. has;
    }

pub invariant_of-self-clause-numbered : goal.invariant_of-self-clause-numbered
invariant_of-self-clause-numbered g c =
    let old = c.args.self.now in
    let before = c.args.before in
    let f = c.index-tail.result.now in
    let within : before < length old.frames.items = there_is old.frames.items before _ c.requires.there in
    let at = some_at old.frames.items before f within c.index-tail.ensures in
    let same : f ≡ record { first = c.args.anchors.anchor.tail; place = c.args.anchors.anchor.tail_place } = unwrap (sym at ∙ c.requires.there) in
    let next = old.tail.first + old.forced in
    let begins = old.begins.0 in
    let placed = old.begins.1 in
    let h = listed_at old.head next old.frames.items before f at (listed_of old.head next old.frames.items old.listed) in
    let from : old.tail.first ≤ f.first = omega (arith, h.from, begins) in
    let gone = f.first - old.tail.first in
    let all = all_in old.found.items old.later.items in
    let kept : drop (old.gone + gone) all ≡ drop gone (records_of_log old) = sym (drop-drop gone old.gone all) in
    let inside = old.forced_inside in
    let short : gone ≤ length (records_of_log old) = omega (arith, from, h.to, inside) in
    let number : old.tail.first + gone ≡ f.first = omega (arith, from) in
    subst (λ (l : List LogRecord). IsTrue (are_numbered f.first l)) (sym kept)
    (subst (λ n. IsTrue (are_numbered n (drop gone (records_of_log old)))) number
    (test-AreNumbered _ _ (AreNumbered-drop old.tail.first gone (records_of_log old) short (AreNumbered-test _ _ old.numbered))))

pub invariant_of-self-clause-counted : goal.invariant_of-self-clause-counted
invariant_of-self-clause-counted g c =
    let old = c.args.self.now in
    let before = c.args.before in
    let f = c.index-tail.result.now in
    let within : before < length old.frames.items = there_is old.frames.items before _ c.requires.there in
    let at = some_at old.frames.items before f within c.index-tail.ensures in
    let same : f ≡ record { first = c.args.anchors.anchor.tail; place = c.args.anchors.anchor.tail_place } = unwrap (sym at ∙ c.requires.there) in
    let next = old.tail.first + old.forced in
    let begins = old.begins.0 in
    let placed = old.begins.1 in
    let h = listed_at old.head next old.frames.items before f at (listed_of old.head next old.frames.items old.listed) in
    let from : old.tail.first ≤ f.first = omega (arith, h.from, begins) in
    let gone = f.first - old.tail.first in
    let all = all_in old.found.items old.later.items in
    let kept : drop (old.gone + gone) all ≡ drop gone (records_of_log old) = sym (drop-drop gone old.gone all) in
    let inside = old.forced_inside in
    let kept_long = ap length kept in
    let here = length-drop gone (records_of_log old) in
    let there = length-drop old.gone all in
    omega (arith, old.counted, from, h.to, inside, there)

pub invariant_of-self-clause-gone_below : goal.invariant_of-self-clause-gone_below
invariant_of-self-clause-gone_below g c =
    let old = c.args.self.now in
    let before = c.args.before in
    let f = c.index-tail.result.now in
    let within : before < length old.frames.items = there_is old.frames.items before _ c.requires.there in
    let at = some_at old.frames.items before f within c.index-tail.ensures in
    let same : f ≡ record { first = c.args.anchors.anchor.tail; place = c.args.anchors.anchor.tail_place } = unwrap (sym at ∙ c.requires.there) in
    let next = old.tail.first + old.forced in
    let begins = old.begins.0 in
    let placed = old.begins.1 in
    let h = listed_at old.head next old.frames.items before f at (listed_of old.head next old.frames.items old.listed) in
    let from : old.tail.first ≤ f.first = omega (arith, h.from, begins) in
    let below = old.gone_below in
    omega (arith, below, from)

pub invariant_of-self-clause-few : goal.invariant_of-self-clause-few
invariant_of-self-clause-few g c =
    let old = c.args.self.now in
    let before = c.args.before in
    let f = c.index-tail.result.now in
    let within : before < length old.frames.items = there_is old.frames.items before _ c.requires.there in
    let at = some_at old.frames.items before f within c.index-tail.ensures in
    let same : f ≡ record { first = c.args.anchors.anchor.tail; place = c.args.anchors.anchor.tail_place } = unwrap (sym at ∙ c.requires.there) in
    let next = old.tail.first + old.forced in
    let begins = old.begins.0 in
    let placed = old.begins.1 in
    let h = listed_at old.head next old.frames.items before f at (listed_of old.head next old.frames.items old.listed) in
    let from : old.tail.first ≤ f.first = omega (arith, h.from, begins) in
    omega (arith, old.few)

pub invariant_of-self-clause-anchored : goal.invariant_of-self-clause-anchored
invariant_of-self-clause-anchored g c =
    let old = c.args.self.now in
    let before = c.args.before in
    let f = c.index-tail.result.now in
    let within : before < length old.frames.items = there_is old.frames.items before _ c.requires.there in
    let at = some_at old.frames.items before f within c.index-tail.ensures in
    let same : f ≡ record { first = c.args.anchors.anchor.tail; place = c.args.anchors.anchor.tail_place } = unwrap (sym at ∙ c.requires.there) in
    let next = old.tail.first + old.forced in
    let begins = old.begins.0 in
    let placed = old.begins.1 in
    let h = listed_at old.head next old.frames.items before f at (listed_of old.head next old.frames.items old.listed) in
    let from : old.tail.first ≤ f.first = omega (arith, h.from, begins) in
    (sym (ap (λ (x : FrameAt). x.first) same), sym (ap (λ (x : FrameAt). x.place) same))

pub invariant_of-self-clause-spelled : goal.invariant_of-self-clause-spelled
invariant_of-self-clause-spelled g c =
    let old = c.args.self.now in
    let before = c.args.before in
    let f = c.index-tail.result.now in
    let within : before < length old.frames.items = there_is old.frames.items before _ c.requires.there in
    let at = some_at old.frames.items before f within c.index-tail.ensures in
    let same : f ≡ record { first = c.args.anchors.anchor.tail; place = c.args.anchors.anchor.tail_place } = unwrap (sym at ∙ c.requires.there) in
    let next = old.tail.first + old.forced in
    let begins = old.begins.0 in
    let placed = old.begins.1 in
    let h = listed_at old.head next old.frames.items before f at (listed_of old.head next old.frames.items old.listed) in
    let from : old.tail.first ≤ f.first = omega (arith, h.from, begins) in
    let gone = f.first - old.tail.first in
    let all = all_in old.found.items old.later.items in
    let kept : drop (old.gone + gone) all ≡ drop gone (records_of_log old) = sym (drop-drop gone old.gone all) in
    let inside = old.forced_inside in
    let waits : drop (old.forced - gone) (drop (old.gone + gone) all) ≡ waiting old =
    ap (drop (old.forced - gone)) kept ∙ drop-drop (old.forced - gone) gone (records_of_log old) ∙ ap (λ n. drop n (records_of_log old)) (omega (arith, from, h.to)) in
    λ none. old.spelled none ∙ ap texts (sym waits)

pub invariant_of-self-clause-forced_inside : goal.invariant_of-self-clause-forced_inside
invariant_of-self-clause-forced_inside g c =
    let old = c.args.self.now in
    let before = c.args.before in
    let f = c.index-tail.result.now in
    let within : before < length old.frames.items = there_is old.frames.items before _ c.requires.there in
    let at = some_at old.frames.items before f within c.index-tail.ensures in
    let same : f ≡ record { first = c.args.anchors.anchor.tail; place = c.args.anchors.anchor.tail_place } = unwrap (sym at ∙ c.requires.there) in
    let next = old.tail.first + old.forced in
    let begins = old.begins.0 in
    let placed = old.begins.1 in
    let h = listed_at old.head next old.frames.items before f at (listed_of old.head next old.frames.items old.listed) in
    let from : old.tail.first ≤ f.first = omega (arith, h.from, begins) in
    let gone = f.first - old.tail.first in
    let all = all_in old.found.items old.later.items in
    let kept : drop (old.gone + gone) all ≡ drop gone (records_of_log old) = sym (drop-drop gone old.gone all) in
    let inside = old.forced_inside in
    let kept_long = ap length kept in
    let here = length-drop gone (records_of_log old) in
    let there = length-drop old.gone all in
    omega (arith, inside, kept_long, here, from, h.to)

pub invariant_of-self-clause-tail_number : goal.invariant_of-self-clause-tail_number
invariant_of-self-clause-tail_number g c =
    let old = c.args.self.now in
    let before = c.args.before in
    let f = c.index-tail.result.now in
    let within : before < length old.frames.items = there_is old.frames.items before _ c.requires.there in
    let at = some_at old.frames.items before f within c.index-tail.ensures in
    let same : f ≡ record { first = c.args.anchors.anchor.tail; place = c.args.anchors.anchor.tail_place } = unwrap (sym at ∙ c.requires.there) in
    let next = old.tail.first + old.forced in
    let begins = old.begins.0 in
    let placed = old.begins.1 in
    let h = listed_at old.head next old.frames.items before f at (listed_of old.head next old.frames.items old.listed) in
    let from : old.tail.first ≤ f.first = omega (arith, h.from, begins) in
    omega (arith, ap (λ (x : FrameAt). x.first) same, c.requires.last)

pub invariant_of-self-clause-tail_place : goal.invariant_of-self-clause-tail_place
invariant_of-self-clause-tail_place g c =
    let old = c.args.self.now in
    let before = c.args.before in
    let f = c.index-tail.result.now in
    let within : before < length old.frames.items = there_is old.frames.items before _ c.requires.there in
    let at = some_at old.frames.items before f within c.index-tail.ensures in
    let same : f ≡ record { first = c.args.anchors.anchor.tail; place = c.args.anchors.anchor.tail_place } = unwrap (sym at ∙ c.requires.there) in
    let next = old.tail.first + old.forced in
    let begins = old.begins.0 in
    let placed = old.begins.1 in
    let h = listed_at old.head next old.frames.items before f at (listed_of old.head next old.frames.items old.listed) in
    let from : old.tail.first ≤ f.first = omega (arith, h.from, begins) in
    omega (arith, h.near)

pub invariant_of-self-clause-listed : goal.invariant_of-self-clause-listed
invariant_of-self-clause-listed g c =
    let old = c.args.self.now in
    let before = c.args.before in
    let f = c.index-tail.result.now in
    let within : before < length old.frames.items = there_is old.frames.items before _ c.requires.there in
    let at = some_at old.frames.items before f within c.index-tail.ensures in
    let same : f ≡ record { first = c.args.anchors.anchor.tail; place = c.args.anchors.anchor.tail_place } = unwrap (sym at ∙ c.requires.there) in
    let next = old.tail.first + old.forced in
    let begins = old.begins.0 in
    let placed = old.begins.1 in
    let h = listed_at old.head next old.frames.items before f at (listed_of old.head next old.frames.items old.listed) in
    let from : old.tail.first ≤ f.first = omega (arith, h.from, begins) in
    let left = left_behind old.frames.items c.truncate.new.self.items c.rotate_left.new.self.items before _ c.truncate.ensures.items c.rotate_left.ensures.items (omega (arith, within, c.len.ensures)) in
    let after : f.first + (old.forced - (f.first - old.tail.first)) ≡ next = omega (arith, from, h.to) in
    subst (λ (fs : List FrameAt). IsTrue (are_listed old.head (f.first + (old.forced - (f.first - old.tail.first))) fs)) (sym left)
    (subst (λ n. IsTrue (are_listed old.head n (drop before old.frames.items))) (sym after)
    (listed_test old.head next (drop before old.frames.items) h.rest))

pub invariant_of-self-clause-begins : goal.invariant_of-self-clause-begins
invariant_of-self-clause-begins g c =
    let old = c.args.self.now in
    let before = c.args.before in
    let f = c.index-tail.result.now in
    let within : before < length old.frames.items = there_is old.frames.items before _ c.requires.there in
    let at = some_at old.frames.items before f within c.index-tail.ensures in
    let same : f ≡ record { first = c.args.anchors.anchor.tail; place = c.args.anchors.anchor.tail_place } = unwrap (sym at ∙ c.requires.there) in
    let next = old.tail.first + old.forced in
    let begins = old.begins.0 in
    let placed = old.begins.1 in
    let h = listed_at old.head next old.frames.items before f at (listed_of old.head next old.frames.items old.listed) in
    let from : old.tail.first ≤ f.first = omega (arith, h.from, begins) in
    let left = left_behind old.frames.items c.truncate.new.self.items c.rotate_left.new.self.items before _ c.truncate.ensures.items c.rotate_left.ensures.items (omega (arith, within, c.len.ensures)) in
    let after : f.first + (old.forced - (f.first - old.tail.first)) ≡ next = omega (arith, from, h.to) in
    (h.first ∙ ap (λ n. first_in n (drop before old.frames.items)) (sym after) ∙ ap (first_in (f.first + (old.forced - (f.first - old.tail.first)))) (sym left), h.place ∙ ap (place_in old.head) (sym left))

pub invariant_of-self-clause-rises : goal.invariant_of-self-clause-rises
invariant_of-self-clause-rises g c =
    let old = c.args.self.now in
    let before = c.args.before in
    let f = c.index-tail.result.now in
    let within : before < length old.frames.items = there_is old.frames.items before _ c.requires.there in
    let at = some_at old.frames.items before f within c.index-tail.ensures in
    let same : f ≡ record { first = c.args.anchors.anchor.tail; place = c.args.anchors.anchor.tail_place } = unwrap (sym at ∙ c.requires.there) in
    let next = old.tail.first + old.forced in
    let begins = old.begins.0 in
    let placed = old.begins.1 in
    let h = listed_at old.head next old.frames.items before f at (listed_of old.head next old.frames.items old.listed) in
    let from : old.tail.first ≤ f.first = omega (arith, h.from, begins) in
    omega (arith, h.behind, h.to)

pub invariant_of-self-clause-head_inside : goal.invariant_of-self-clause-head_inside
invariant_of-self-clause-head_inside g c =
    let old = c.args.self.now in
    let before = c.args.before in
    let f = c.index-tail.result.now in
    let within : before < length old.frames.items = there_is old.frames.items before _ c.requires.there in
    let at = some_at old.frames.items before f within c.index-tail.ensures in
    let same : f ≡ record { first = c.args.anchors.anchor.tail; place = c.args.anchors.anchor.tail_place } = unwrap (sym at ∙ c.requires.there) in
    let next = old.tail.first + old.forced in
    let begins = old.begins.0 in
    let placed = old.begins.1 in
    let h = listed_at old.head next old.frames.items before f at (listed_of old.head next old.frames.items old.listed) in
    let from : old.tail.first ≤ f.first = omega (arith, h.from, begins) in
    omega (arith, h.before, begins, placed, from, old.head_inside)

pub invariant_of-self-clause-places : goal.invariant_of-self-clause-places
invariant_of-self-clause-places g c =
    let old = c.args.self.now in
    let before = c.args.before in
    let f = c.index-tail.result.now in
    let within : before < length old.frames.items = there_is old.frames.items before _ c.requires.there in
    let at = some_at old.frames.items before f within c.index-tail.ensures in
    let same : f ≡ record { first = c.args.anchors.anchor.tail; place = c.args.anchors.anchor.tail_place } = unwrap (sym at ∙ c.requires.there) in
    let next = old.tail.first + old.forced in
    let begins = old.begins.0 in
    let placed = old.begins.1 in
    let h = listed_at old.head next old.frames.items before f at (listed_of old.head next old.frames.items old.listed) in
    let from : old.tail.first ≤ f.first = omega (arith, h.from, begins) in
    omega (arith, old.places, from, h.to)

pub invariant_of-self-clause-staged_inside : goal.invariant_of-self-clause-staged_inside
invariant_of-self-clause-staged_inside g c =
    λ s is.
    let old = c.args.self.now in
    let before = c.args.before in
    let f = c.index-tail.result.now in
    let within : before < length old.frames.items = there_is old.frames.items before _ c.requires.there in
    let at = some_at old.frames.items before f within c.index-tail.ensures in
    let same : f ≡ record { first = c.args.anchors.anchor.tail; place = c.args.anchors.anchor.tail_place } = unwrap (sym at ∙ c.requires.there) in
    let next = old.tail.first + old.forced in
    let begins = old.begins.0 in
    let placed = old.begins.1 in
    let h = listed_at old.head next old.frames.items before f at (listed_of old.head next old.frames.items old.listed) in
    let from : old.tail.first ≤ f.first = omega (arith, h.from, begins) in
    let inner = old.staged_inside s is in
    omega (arith, h.before, begins, placed, from, inner)

pub invariant_of-self-clause-staged_waits : goal.invariant_of-self-clause-staged_waits
invariant_of-self-clause-staged_waits g c =
    λ s is.
    let old = c.args.self.now in
    let before = c.args.before in
    let f = c.index-tail.result.now in
    let within : before < length old.frames.items = there_is old.frames.items before _ c.requires.there in
    let at = some_at old.frames.items before f within c.index-tail.ensures in
    let same : f ≡ record { first = c.args.anchors.anchor.tail; place = c.args.anchors.anchor.tail_place } = unwrap (sym at ∙ c.requires.there) in
    let next = old.tail.first + old.forced in
    let begins = old.begins.0 in
    let placed = old.begins.1 in
    let h = listed_at old.head next old.frames.items before f at (listed_of old.head next old.frames.items old.listed) in
    let from : old.tail.first ≤ f.first = omega (arith, h.from, begins) in
    let gone = f.first - old.tail.first in
    let all = all_in old.found.items old.later.items in
    let kept : drop (old.gone + gone) all ≡ drop gone (records_of_log old) = sym (drop-drop gone old.gone all) in
    let inside = old.forced_inside in
    let kept_long = ap length kept in
    let here = length-drop gone (records_of_log old) in
    let there = length-drop old.gone all in
    let inner = old.staged_waits s is in
    omega (arith, inner, kept_long, here, from, h.to)

pub invariant_of-self-clause-room : goal.invariant_of-self-clause-room
invariant_of-self-clause-room g c =
    let old = c.args.self.now in
    let before = c.args.before in
    let f = c.index-tail.result.now in
    let within : before < length old.frames.items = there_is old.frames.items before _ c.requires.there in
    let at = some_at old.frames.items before f within c.index-tail.ensures in
    let same : f ≡ record { first = c.args.anchors.anchor.tail; place = c.args.anchors.anchor.tail_place } = unwrap (sym at ∙ c.requires.there) in
    let next = old.tail.first + old.forced in
    let begins = old.begins.0 in
    let placed = old.begins.1 in
    let h = listed_at old.head next old.frames.items before f at (listed_of old.head next old.frames.items old.listed) in
    let from : old.tail.first ≤ f.first = omega (arith, h.from, begins) in
    let gone = f.first - old.tail.first in
    let all = all_in old.found.items old.later.items in
    let kept : drop (old.gone + gone) all ≡ drop gone (records_of_log old) = sym (drop-drop gone old.gone all) in
    let inside = old.forced_inside in
    let kept_long = ap length kept in
    let here = length-drop gone (records_of_log old) in
    let there = length-drop old.gone all in
    let waits_old = length-drop old.forced (records_of_log old) in
    let waits_new = length-drop (old.forced - gone) (drop (old.gone + gone) all) in
    (old.room.0, λ none. omega (arith, old.room.1 none, waits_old, waits_new, inside, kept_long, here, from, h.to, c.rotate_left.ensures.len, c.rotate_left.ensures.capacity, c.truncate.ensures.len, c.truncate.ensures.capacity))

pub invariant_of-self-clause-staged_long : goal.invariant_of-self-clause-staged_long
invariant_of-self-clause-staged_long g c =
    λ s is.
    let old = c.args.self.now in
    let before = c.args.before in
    let f = c.index-tail.result.now in
    let within : before < length old.frames.items = there_is old.frames.items before _ c.requires.there in
    let at = some_at old.frames.items before f within c.index-tail.ensures in
    let same : f ≡ record { first = c.args.anchors.anchor.tail; place = c.args.anchors.anchor.tail_place } = unwrap (sym at ∙ c.requires.there) in
    let next = old.tail.first + old.forced in
    let begins = old.begins.0 in
    let placed = old.begins.1 in
    let h = listed_at old.head next old.frames.items before f at (listed_of old.head next old.frames.items old.listed) in
    let from : old.tail.first ≤ f.first = omega (arith, h.from, begins) in
    let gone = f.first - old.tail.first in
    let all = all_in old.found.items old.later.items in
    let kept : drop (old.gone + gone) all ≡ drop gone (records_of_log old) = sym (drop-drop gone old.gone all) in
    let inside = old.forced_inside in
    let waits : drop (old.forced - gone) (drop (old.gone + gone) all) ≡ waiting old =
    ap (drop (old.forced - gone)) kept ∙ drop-drop (old.forced - gone) gone (records_of_log old) ∙ ap (λ n. drop n (records_of_log old)) (omega (arith, from, h.to)) in
    old.staged_long s is ∙ ap (λ (l : List LogRecord). length (texts (take s.count l))) (sym waits)

pub returns-clause-knows : goal.returns-clause-knows
returns-clause-knows g c = λ t k.
    let old = c.args.self.now in
    let before = c.args.before in
    let f = c.index-tail.result.now in
    let within : before < length old.frames.items = there_is old.frames.items before _ c.requires.there in
    let at = some_at old.frames.items before f within c.index-tail.ensures in
    let same : f ≡ record { first = c.args.anchors.anchor.tail; place = c.args.anchors.anchor.tail_place } = unwrap (sym at ∙ c.requires.there) in
    let next = old.tail.first + old.forced in
    let begins = old.begins.0 in
    let placed = old.begins.1 in
    let h = listed_at old.head next old.frames.items before f at (listed_of old.head next old.frames.items old.listed) in
    let from : old.tail.first ≤ f.first = omega (arith, h.from, begins) in
    let gone = f.first - old.tail.first in
    let all = all_in old.found.items old.later.items in
    let kept : drop (old.gone + gone) all ≡ drop gone (records_of_log old) = sym (drop-drop gone old.gone all) in
    let inside = old.forced_inside in
    let kept_long = ap length kept in
    let here = length-drop gone (records_of_log old) in
    let there = length-drop old.gone all in
    let waits_old = length-drop old.forced (records_of_log old) in
    let waits_new = length-drop (old.forced - gone) (drop (old.gone + gone) all) in (
      (
        omega (arith, k.0.0, waits_old, waits_new, inside, kept_long, here, from, h.to, c.rotate_left.ensures.len, c.truncate.ensures.len),
        omega (arith, k.0.1, c.rotate_left.ensures.capacity, c.truncate.ensures.capacity),
      ),
      k.1,
    )
