use Rattle.std.proofs.Common.{◌≡◌, ◌≤◌, ◌<◌, ◌+◌, inr, ℕ, List, Some, length, refl, sym, subst, ap, ◌∙◌, arith}
use Rattle.std.proofs.lemmas.List.{length-take-le}
use Rattle.shore_disk.proofs.Moments.{widened}
use Rattle.shore_disk.specs.Device.{Stands, seen}
use Rattle.shore_gate.specs.Anchor.{Counts, MayCount}
use Rattle.shore_gate.specs.Moves.{IsAmidMove, moved}
use Rattle.shore_gate.specs.Anchor.{other_of}
use Rattle.shore_gate.specs.declared.anchors.Anchor.{Anchor}
use Rattle.shore_gate.specs.declared.anchors.Anchors.{Anchors}
use Rattle.shore_gate.specs.declared.anchors.Slot.{Slot}
use Rattle.shore_disk.specs.Device.{LeavesOnly}
use Rattle.shore_frames.specs.declared.reading.FrameAt.{FrameAt}
use Rattle.shore_log.specs.Indexes.{frame_with}
use Rattle.shore_log.specs.Settled.{FreesBelow, IsLeftByMove, next_anchor, records_of_log, stable}
use Rattle.shore_log.proofs.CutLemmas.{frame_there, listed_at, listed_most, listed_of, some_at}
use Rattle.shore_log.proofs.ForceLemmas.{unwrap}
use Rattle.shore_log.proofs.MoveLemmas.{amid_move, anchored_at, at_anchor, before_frame, cost_is, counts_seen, moved_settled, moved_staged, only_seen, some_frames, staged_at_anchor}
use Rattle.shore_log.proofs.device.LogDev.move_anchor.Goals as goal

abbrev frame_in : Anchor → FrameAt
frame_in a = record { first = a.tail; place = a.tail_place }

abbrev made_in : Slot → Anchor → Anchors
made_in slot a = record { slot = slot; anchor = a }

pub anchor_behind-anchor-requires : goal.anchor_behind-anchor-requires
anchor_behind-anchor-requires g c =
    let old = c.args.self.now in
    let number = c.args.number in
    let before = c.frames_before-before.result in
    let f = c.index-tail.result.now in
    let following = old.tail.first + old.forced in
    let begins = old.begins.0 in
    let placed = old.begins.1 in
    let kept = c.requires.kept in
    let below = c.requires.below in
    let forced = c.requires.forced in
    let long = length-take-le old.forced (records_of_log old) old.forced_inside in
    let counted = old.gone_below in
    let some : 0 < length old.frames.items = some_frames old.frames.items following old.tail.first old.forced begins refl (omega (arith, kept, below, forced, long)) in
    let least : old.tail.first ≤ number = omega (arith, kept, counted) in
    let within = c.frames_before-before.ensures.within some in
    let at = some_at old.frames.items before f within c.index-tail.ensures in
    let h = listed_at old.head following old.frames.items before f at (listed_of old.head following old.frames.items old.listed) in
    let most = listed_most old.head following old.frames.items (listed_of old.head following old.frames.items old.listed) in
    let far = most.0 in
    let later = c.requires.later in
    let sequence = old.sequence in
    omega (arith, sequence, later, forced, long, far, begins, placed, old.head_inside, old.is_short, old.tail_number)

pub cost_before-freed-requires-clause-number : goal.cost_before-freed-requires-clause-number
cost_before-freed-requires-clause-number g c =
    let old = c.args.self.now in
    let number = c.args.number in
    let before = c.frames_before-before.result in
    let f = c.index-tail.result.now in
    let following = old.tail.first + old.forced in
    let begins = old.begins.0 in
    let placed = old.begins.1 in
    let kept = c.requires.kept in
    let below = c.requires.below in
    let forced = c.requires.forced in
    let long = length-take-le old.forced (records_of_log old) old.forced_inside in
    let counted = old.gone_below in
    let some : 0 < length old.frames.items = some_frames old.frames.items following old.tail.first old.forced begins refl (omega (arith, kept, below, forced, long)) in
    let least : old.tail.first ≤ number = omega (arith, kept, counted) in
    let within = c.frames_before-before.ensures.within some in
    let at = some_at old.frames.items before f within c.index-tail.ensures in
    let h = listed_at old.head following old.frames.items before f at (listed_of old.head following old.frames.items old.listed) in
    (omega (arith, h.from, begins), omega (arith, h.to))

pub cost_before-freed-requires-clause-place : goal.cost_before-freed-requires-clause-place
cost_before-freed-requires-clause-place g c =
    let old = c.args.self.now in
    let number = c.args.number in
    let before = c.frames_before-before.result in
    let f = c.index-tail.result.now in
    let following = old.tail.first + old.forced in
    let begins = old.begins.0 in
    let placed = old.begins.1 in
    let kept = c.requires.kept in
    let below = c.requires.below in
    let forced = c.requires.forced in
    let long = length-take-le old.forced (records_of_log old) old.forced_inside in
    let counted = old.gone_below in
    let some : 0 < length old.frames.items = some_frames old.frames.items following old.tail.first old.forced begins refl (omega (arith, kept, below, forced, long)) in
    let least : old.tail.first ≤ number = omega (arith, kept, counted) in
    let within = c.frames_before-before.ensures.within some in
    let at = some_at old.frames.items before f within c.index-tail.ensures in
    let h = listed_at old.head following old.frames.items before f at (listed_of old.head following old.frames.items old.listed) in
    (omega (arith, h.before, h.from, begins, placed), omega (arith, h.behind, h.to))

pub move_to-requires-clause-limits : goal.move_to-requires-clause-limits
move_to-requires-clause-limits g c =
    let old = c.args.self.now in
    let number = c.args.number in
    let before = c.frames_before-before.result in
    let f = c.index-tail.result.now in
    let following = old.tail.first + old.forced in
    let begins = old.begins.0 in
    let placed = old.begins.1 in
    let kept = c.requires.kept in
    let below = c.requires.below in
    let forced = c.requires.forced in
    let long = length-take-le old.forced (records_of_log old) old.forced_inside in
    let counted = old.gone_below in
    let some : 0 < length old.frames.items = some_frames old.frames.items following old.tail.first old.forced begins refl (omega (arith, kept, below, forced, long)) in
    let least : old.tail.first ≤ number = omega (arith, kept, counted) in
    let within = c.frames_before-before.ensures.within some in
    let at = some_at old.frames.items before f within c.index-tail.ensures in
    let h = listed_at old.head following old.frames.items before f at (listed_of old.head following old.frames.items old.listed) in
    let is : f ≡ frame_with number old.tail old.frames.items = unwrap (sym at ∙ c.frames_before-before.ensures.is some least) in
    let low : f.first ≤ number = subst (λ (x : FrameAt). x.first ≤ number) (sym is) (c.frames_before-before.ensures.below some least) in
    let next = c.anchor_behind-anchor.result in
    let made : FrameAt → Anchor = λ x. record { sequence = old.anchors.anchor.sequence + 1; checkpoint = c.args.checkpoint; tail = x.first; tail_place = x.place } in
    let next_is : next ≡ made f = c.anchor_behind-anchor.ensures in
    let tail_is : next.tail ≡ f.first = ap (λ (a : Anchor). a.tail) next_is in
    let place_is : next.tail_place ≡ f.place = ap (λ (a : Anchor). a.tail_place) next_is in
    let most = c.requires.last in
    let later = c.requires.later in
    let sequence = old.sequence in
    let near = h.near in
    subst MayCount (sym next_is) (record {
      some_tail = omega (arith, h.from, begins, counted);
      most_tail = omega (arith, low, most);
      offset = omega (arith, near);
      some_sequence = omega arith;
      most_sequence = omega (arith, sequence, later);
      checkpoint = inr (omega (arith, low, below));
    })

pub cut-requires-clause-there : goal.cut-requires-clause-there
cut-requires-clause-there g c =
    let old = c.args.self.now in
    let number = c.args.number in
    let before = c.frames_before-before.result in
    let f = c.index-tail.result.now in
    let following = old.tail.first + old.forced in
    let begins = old.begins.0 in
    let placed = old.begins.1 in
    let kept = c.requires.kept in
    let below = c.requires.below in
    let forced = c.requires.forced in
    let long = length-take-le old.forced (records_of_log old) old.forced_inside in
    let counted = old.gone_below in
    let some : 0 < length old.frames.items = some_frames old.frames.items following old.tail.first old.forced begins refl (omega (arith, kept, below, forced, long)) in
    let least : old.tail.first ≤ number = omega (arith, kept, counted) in
    let within = c.frames_before-before.ensures.within some in
    let at = some_at old.frames.items before f within c.index-tail.ensures in
    let h = listed_at old.head following old.frames.items before f at (listed_of old.head following old.frames.items old.listed) in
    let next = c.anchor_behind-anchor.result in
    let made : FrameAt → Anchor = λ x. record { sequence = old.anchors.anchor.sequence + 1; checkpoint = c.args.checkpoint; tail = x.first; tail_place = x.place } in
    let next_is : next ≡ made f = c.anchor_behind-anchor.ensures in
    let tail_is : next.tail ≡ f.first = ap (λ (a : Anchor). a.tail) next_is in
    let place_is : next.tail_place ≡ f.place = ap (λ (a : Anchor). a.tail_place) next_is in
    at ∙ ap (λ (a : Anchor). Some (frame_in a)) (sym next_is ∙ ap (λ (a : Anchors). a.anchor) (sym c.in_ok-move_to.ensures.now))

pub cut-requires-clause-last : goal.cut-requires-clause-last
cut-requires-clause-last g c =
    let old = c.args.self.now in
    let number = c.args.number in
    let before = c.frames_before-before.result in
    let f = c.index-tail.result.now in
    let following = old.tail.first + old.forced in
    let begins = old.begins.0 in
    let placed = old.begins.1 in
    let kept = c.requires.kept in
    let below = c.requires.below in
    let forced = c.requires.forced in
    let long = length-take-le old.forced (records_of_log old) old.forced_inside in
    let counted = old.gone_below in
    let some : 0 < length old.frames.items = some_frames old.frames.items following old.tail.first old.forced begins refl (omega (arith, kept, below, forced, long)) in
    let least : old.tail.first ≤ number = omega (arith, kept, counted) in
    let within = c.frames_before-before.ensures.within some in
    let at = some_at old.frames.items before f within c.index-tail.ensures in
    let h = listed_at old.head following old.frames.items before f at (listed_of old.head following old.frames.items old.listed) in
    let is : f ≡ frame_with number old.tail old.frames.items = unwrap (sym at ∙ c.frames_before-before.ensures.is some least) in
    let low : f.first ≤ number = subst (λ (x : FrameAt). x.first ≤ number) (sym is) (c.frames_before-before.ensures.below some least) in
    let next = c.anchor_behind-anchor.result in
    let made : FrameAt → Anchor = λ x. record { sequence = old.anchors.anchor.sequence + 1; checkpoint = c.args.checkpoint; tail = x.first; tail_place = x.place } in
    let next_is : next ≡ made f = c.anchor_behind-anchor.ensures in
    let tail_is : next.tail ≡ f.first = ap (λ (a : Anchor). a.tail) next_is in
    let place_is : next.tail_place ≡ f.place = ap (λ (a : Anchor). a.tail_place) next_is in
    let most = c.requires.last in
    let tail = ap (λ (a : Anchors). a.anchor.tail) c.in_ok-move_to.ensures.now in
    omega (arith, tail, tail_is, low, most)

pub returns-clause-moved : goal.returns-clause-moved
returns-clause-moved g c =
    let old = c.args.self.now in
    let number = c.args.number in
    let before = c.frames_before-before.result in
    let f = c.index-tail.result.now in
    let following = old.tail.first + old.forced in
    let begins = old.begins.0 in
    let placed = old.begins.1 in
    let kept = c.requires.kept in
    let below = c.requires.below in
    let forced = c.requires.forced in
    let long = length-take-le old.forced (records_of_log old) old.forced_inside in
    let counted = old.gone_below in
    let some : 0 < length old.frames.items = some_frames old.frames.items following old.tail.first old.forced begins refl (omega (arith, kept, below, forced, long)) in
    let least : old.tail.first ≤ number = omega (arith, kept, counted) in
    let within = c.frames_before-before.ensures.within some in
    let at = some_at old.frames.items before f within c.index-tail.ensures in
    let h = listed_at old.head following old.frames.items before f at (listed_of old.head following old.frames.items old.listed) in
    let is : f ≡ frame_with number old.tail old.frames.items = unwrap (sym at ∙ c.frames_before-before.ensures.is some least) in
    let low : f.first ≤ number = subst (λ (x : FrameAt). x.first ≤ number) (sym is) (c.frames_before-before.ensures.below some least) in
    let next = c.anchor_behind-anchor.result in
    let made : FrameAt → Anchor = λ x. record { sequence = old.anchors.anchor.sequence + 1; checkpoint = c.args.checkpoint; tail = x.first; tail_place = x.place } in
    let next_is : next ≡ made f = c.anchor_behind-anchor.ensures in
    let tail_is : next.tail ≡ f.first = ap (λ (a : Anchor). a.tail) next_is in
    let place_is : next.tail_place ≡ f.place = ap (λ (a : Anchor). a.tail_place) next_is in
    let new = c.cut.new.self in
    let anchors_are : new.anchors ≡ record { slot = other_of old.anchors.slot; anchor = next } = c.cut.ensures.anchors ∙ c.in_ok-move_to.ensures.now in
    let same : new.anchors.anchor ≡ next = ap (λ (a : Anchors). a.anchor) anchors_are in
    anchors_are ∙ ap (λ (a : Anchor). made_in (other_of old.anchors.slot) a) (next_is ∙ ap made is)

pub returns-clause-settled : goal.returns-clause-settled
returns-clause-settled g c tail place front s =
    let old = c.args.self.now in
    let number = c.args.number in
    let before = c.frames_before-before.result in
    let f = c.index-tail.result.now in
    let following = old.tail.first + old.forced in
    let begins = old.begins.0 in
    let placed = old.begins.1 in
    let kept = c.requires.kept in
    let below = c.requires.below in
    let forced = c.requires.forced in
    let long = length-take-le old.forced (records_of_log old) old.forced_inside in
    let counted = old.gone_below in
    let some : 0 < length old.frames.items = some_frames old.frames.items following old.tail.first old.forced begins refl (omega (arith, kept, below, forced, long)) in
    let least : old.tail.first ≤ number = omega (arith, kept, counted) in
    let within = c.frames_before-before.ensures.within some in
    let at = some_at old.frames.items before f within c.index-tail.ensures in
    let h = listed_at old.head following old.frames.items before f at (listed_of old.head following old.frames.items old.listed) in
    let next = c.anchor_behind-anchor.result in
    let made : FrameAt → Anchor = λ x. record { sequence = old.anchors.anchor.sequence + 1; checkpoint = c.args.checkpoint; tail = x.first; tail_place = x.place } in
    let next_is : next ≡ made f = c.anchor_behind-anchor.ensures in
    let tail_is : next.tail ≡ f.first = ap (λ (a : Anchor). a.tail) next_is in
    let place_is : next.tail_place ≡ f.place = ap (λ (a : Anchor). a.tail_place) next_is in
    let new = c.cut.new.self in
    let anchors_are : new.anchors ≡ record { slot = other_of old.anchors.slot; anchor = next } = c.cut.ensures.anchors ∙ c.in_ok-move_to.ensures.now in
    let same : new.anchors.anchor ≡ next = ap (λ (a : Anchors). a.anchor) anchors_are in
    let size : 4096 ≤ length s.image = omega (arith, g.met.D.Disk.keeps_length old.device s.holds.honest, old.as_long, ap length s.stands.read) in
    let stands = subst (λ (i : List ℕ). Stands (g.D.Disk.history c.move_to.new.disk) (moved old.anchors next i)) s.stands.read (c.in_ok-move_to.ensures.moved s.holds.honest (only_seen _ s.image s.stands)) in
    at_anchor old.anchors next front new same (c.cut.ensures.cut tail place (moved old.anchors next front) (moved_settled tail place old front next s _ size c.move_to.ensures.honest stands refl refl refl refl refl))

pub returns-clause-staged : goal.returns-clause-staged
returns-clause-staged g c tail place front group s =
    let old = c.args.self.now in
    let number = c.args.number in
    let before = c.frames_before-before.result in
    let f = c.index-tail.result.now in
    let following = old.tail.first + old.forced in
    let begins = old.begins.0 in
    let placed = old.begins.1 in
    let kept = c.requires.kept in
    let below = c.requires.below in
    let forced = c.requires.forced in
    let long = length-take-le old.forced (records_of_log old) old.forced_inside in
    let counted = old.gone_below in
    let some : 0 < length old.frames.items = some_frames old.frames.items following old.tail.first old.forced begins refl (omega (arith, kept, below, forced, long)) in
    let least : old.tail.first ≤ number = omega (arith, kept, counted) in
    let within = c.frames_before-before.ensures.within some in
    let at = some_at old.frames.items before f within c.index-tail.ensures in
    let h = listed_at old.head following old.frames.items before f at (listed_of old.head following old.frames.items old.listed) in
    let next = c.anchor_behind-anchor.result in
    let made : FrameAt → Anchor = λ x. record { sequence = old.anchors.anchor.sequence + 1; checkpoint = c.args.checkpoint; tail = x.first; tail_place = x.place } in
    let next_is : next ≡ made f = c.anchor_behind-anchor.ensures in
    let tail_is : next.tail ≡ f.first = ap (λ (a : Anchor). a.tail) next_is in
    let place_is : next.tail_place ≡ f.place = ap (λ (a : Anchor). a.tail_place) next_is in
    let new = c.cut.new.self in
    let anchors_are : new.anchors ≡ record { slot = other_of old.anchors.slot; anchor = next } = c.cut.ensures.anchors ∙ c.in_ok-move_to.ensures.now in
    let same : new.anchors.anchor ≡ next = ap (λ (a : Anchors). a.anchor) anchors_are in
    let size : 4096 ≤ length s.image = omega (arith, g.met.D.Disk.keeps_length old.device s.holds.honest, old.as_long, ap length s.stands.read) in
    let stands = subst (λ (i : List ℕ). Stands (g.D.Disk.history c.move_to.new.disk) (moved old.anchors next i)) s.stands.read (c.in_ok-move_to.ensures.moved s.holds.honest (only_seen _ s.image s.stands)) in
    staged_at_anchor old.anchors next front group new same (c.cut.ensures.under_way tail place (moved old.anchors next front) group (moved_staged tail place old front next group s _ size c.move_to.ensures.honest stands refl refl refl refl refl refl refl))

pub returns-clause-anchored : goal.returns-clause-anchored
returns-clause-anchored g c tail place front s anchored =
    let old = c.args.self.now in
    let number = c.args.number in
    let before = c.frames_before-before.result in
    let f = c.index-tail.result.now in
    let following = old.tail.first + old.forced in
    let begins = old.begins.0 in
    let placed = old.begins.1 in
    let kept = c.requires.kept in
    let below = c.requires.below in
    let forced = c.requires.forced in
    let long = length-take-le old.forced (records_of_log old) old.forced_inside in
    let counted = old.gone_below in
    let some : 0 < length old.frames.items = some_frames old.frames.items following old.tail.first old.forced begins refl (omega (arith, kept, below, forced, long)) in
    let least : old.tail.first ≤ number = omega (arith, kept, counted) in
    let within = c.frames_before-before.ensures.within some in
    let at = some_at old.frames.items before f within c.index-tail.ensures in
    let h = listed_at old.head following old.frames.items before f at (listed_of old.head following old.frames.items old.listed) in
    let next = c.anchor_behind-anchor.result in
    let made : FrameAt → Anchor = λ x. record { sequence = old.anchors.anchor.sequence + 1; checkpoint = c.args.checkpoint; tail = x.first; tail_place = x.place } in
    let next_is : next ≡ made f = c.anchor_behind-anchor.ensures in
    let tail_is : next.tail ≡ f.first = ap (λ (a : Anchor). a.tail) next_is in
    let place_is : next.tail_place ≡ f.place = ap (λ (a : Anchor). a.tail_place) next_is in
    let new = c.cut.new.self in
    let anchors_are : new.anchors ≡ record { slot = other_of old.anchors.slot; anchor = next } = c.cut.ensures.anchors ∙ c.in_ok-move_to.ensures.now in
    let same : new.anchors.anchor ≡ next = ap (λ (a : Anchors). a.anchor) anchors_are in
    let size : 4096 ≤ length s.image = omega (arith, g.met.D.Disk.keeps_length old.device s.holds.honest, old.as_long, ap length s.stands.read) in
    let stands = subst (λ (i : List ℕ). Stands (g.D.Disk.history c.move_to.new.disk) (moved old.anchors next i)) s.stands.read (c.in_ok-move_to.ensures.moved s.holds.honest (only_seen _ s.image s.stands)) in
    let counts = subst (λ (a : Anchors). Counts (seen (g.D.Disk.history c.move_to.new.disk)) a.slot a.anchor) (sym c.cut.ensures.anchors) (c.in_ok-move_to.ensures.counts s.holds.honest (only_seen _ s.image s.stands) (counts_seen old.anchors.slot old.anchors.anchor _ s.image front s.stands s.is_front anchored.counts)) in
    anchored_at old.anchors next s.image front (seen (g.D.Disk.history c.move_to.new.disk)) new size s.is_front anchored.long stands.read same counts

pub returns-clause-cut : goal.returns-clause-cut
returns-clause-cut g c tail place groups holds =
    let old = c.args.self.now in
    let number = c.args.number in
    let before = c.frames_before-before.result in
    let f = c.index-tail.result.now in
    let following = old.tail.first + old.forced in
    let begins = old.begins.0 in
    let placed = old.begins.1 in
    let kept = c.requires.kept in
    let below = c.requires.below in
    let forced = c.requires.forced in
    let long = length-take-le old.forced (records_of_log old) old.forced_inside in
    let counted = old.gone_below in
    let some : 0 < length old.frames.items = some_frames old.frames.items following old.tail.first old.forced begins refl (omega (arith, kept, below, forced, long)) in
    let least : old.tail.first ≤ number = omega (arith, kept, counted) in
    let within = c.frames_before-before.ensures.within some in
    let at = some_at old.frames.items before f within c.index-tail.ensures in
    let h = listed_at old.head following old.frames.items before f at (listed_of old.head following old.frames.items old.listed) in
    let next = c.anchor_behind-anchor.result in
    let made : FrameAt → Anchor = λ x. record { sequence = old.anchors.anchor.sequence + 1; checkpoint = c.args.checkpoint; tail = x.first; tail_place = x.place } in
    let next_is : next ≡ made f = c.anchor_behind-anchor.ensures in
    let tail_is : next.tail ≡ f.first = ap (λ (a : Anchor). a.tail) next_is in
    let place_is : next.tail_place ≡ f.place = ap (λ (a : Anchor). a.tail_place) next_is in
    let new = c.cut.new.self in
    let anchors_are : new.anchors ≡ record { slot = other_of old.anchors.slot; anchor = next } = c.cut.ensures.anchors ∙ c.in_ok-move_to.ensures.now in
    let same : new.anchors.anchor ≡ next = ap (λ (a : Anchors). a.anchor) anchors_are in
    let n = c.frames_before-before.ensures.holds tail place groups holds.index (omega (arith, holds.first, least)) (omega (arith, holds.number, holds.first, holds.some, below, forced, long)) in
    let there = frame_there tail place groups old.frames.items number before f holds.index at n in
    record {
      count = before;
      frame = n;
      first = sym new.anchored.0 ∙ ap (λ (a : Anchor). a.tail) same ∙ tail_is ∙ ap (λ (x : FrameAt). x.first) there;
      place_is = sym new.anchored.1 ∙ ap (λ (a : Anchor). a.tail_place) same ∙ place_is ∙ ap (λ (x : FrameAt). x.place) there;
    }

pub returns-clause-freed : goal.returns-clause-freed
returns-clause-freed g c tail place groups holds =
    let old = c.args.self.now in
    let number = c.args.number in
    let before = c.frames_before-before.result in
    let f = c.index-tail.result.now in
    let following = old.tail.first + old.forced in
    let begins = old.begins.0 in
    let placed = old.begins.1 in
    let kept = c.requires.kept in
    let below = c.requires.below in
    let forced = c.requires.forced in
    let long = length-take-le old.forced (records_of_log old) old.forced_inside in
    let counted = old.gone_below in
    let some : 0 < length old.frames.items = some_frames old.frames.items following old.tail.first old.forced begins refl (omega (arith, kept, below, forced, long)) in
    let least : old.tail.first ≤ number = omega (arith, kept, counted) in
    let within = c.frames_before-before.ensures.within some in
    let at = some_at old.frames.items before f within c.index-tail.ensures in
    let h = listed_at old.head following old.frames.items before f at (listed_of old.head following old.frames.items old.listed) in
    let is : f ≡ frame_with number old.tail old.frames.items = unwrap (sym at ∙ c.frames_before-before.ensures.is some least) in
    let low : f.first ≤ number = subst (λ (x : FrameAt). x.first ≤ number) (sym is) (c.frames_before-before.ensures.below some least) in
    let next = c.anchor_behind-anchor.result in
    let made : FrameAt → Anchor = λ x. record { sequence = old.anchors.anchor.sequence + 1; checkpoint = c.args.checkpoint; tail = x.first; tail_place = x.place } in
    let next_is : next ≡ made f = c.anchor_behind-anchor.ensures in
    let tail_is : next.tail ≡ f.first = ap (λ (a : Anchor). a.tail) next_is in
    let place_is : next.tail_place ≡ f.place = ap (λ (a : Anchor). a.tail_place) next_is in
    let new = c.cut.new.self in
    let anchors_are : new.anchors ≡ record { slot = other_of old.anchors.slot; anchor = next } = c.cut.ensures.anchors ∙ c.in_ok-move_to.ensures.now in
    let same : new.anchors.anchor ≡ next = ap (λ (a : Anchors). a.anchor) anchors_are in
    let b = before_frame tail place old groups holds before f at in
    let tail_now : new.anchors.anchor.tail ≡ f.first = ap (λ (a : Anchor). a.tail) same ∙ tail_is in
    subst (λ (n : ℕ). FreesBelow old number n c.cost_before-freed.result) (sym tail_now) (record {
      from = omega (arith, h.from, begins, counted);
      forced = omega (arith, h.to, long, counted);
      below = low;
      cost = cost_is tail place old groups holds before f c.cost_before-freed.result b (omega (arith, h.from, begins)) c.cost_before-freed.ensures;
    })

pub returns-in_err-move_to-clause-any_moment : goal.returns-in_err-move_to-clause-any_moment
returns-in_err-move_to-clause-any_moment g c tail place front s anchored =
    let old = c.args.self.now in
    let number = c.args.number in
    let before = c.frames_before-before.result in
    let f = c.index-tail.result.now in
    let following = old.tail.first + old.forced in
    let begins = old.begins.0 in
    let placed = old.begins.1 in
    let kept = c.requires.kept in
    let below = c.requires.below in
    let forced = c.requires.forced in
    let long = length-take-le old.forced (records_of_log old) old.forced_inside in
    let counted = old.gone_below in
    let some : 0 < length old.frames.items = some_frames old.frames.items following old.tail.first old.forced begins refl (omega (arith, kept, below, forced, long)) in
    let least : old.tail.first ≤ number = omega (arith, kept, counted) in
    let within = c.frames_before-before.ensures.within some in
    let at = some_at old.frames.items before f within c.index-tail.ensures in
    let h = listed_at old.head following old.frames.items before f at (listed_of old.head following old.frames.items old.listed) in
    let is : f ≡ frame_with number old.tail old.frames.items = unwrap (sym at ∙ c.frames_before-before.ensures.is some least) in
    let low : f.first ≤ number = subst (λ (x : FrameAt). x.first ≤ number) (sym is) (c.frames_before-before.ensures.below some least) in
    let next = c.anchor_behind-anchor.result in
    let made : FrameAt → Anchor = λ x. record { sequence = old.anchors.anchor.sequence + 1; checkpoint = c.args.checkpoint; tail = x.first; tail_place = x.place } in
    let next_is : next ≡ made f = c.anchor_behind-anchor.ensures in
    let tail_is : next.tail ≡ f.first = ap (λ (a : Anchor). a.tail) next_is in
    let place_is : next.tail_place ≡ f.place = ap (λ (a : Anchor). a.tail_place) next_is in
    let size : 4096 ≤ length s.image = omega (arith, g.met.D.Disk.keeps_length old.device s.holds.honest, old.as_long, ap length s.stands.read) in
    let left = widened _ _ (IsAmidMove old.anchors next (seen (g.D.Disk.history old.device))) (IsLeftByMove old.anchors (next_anchor old c.args.checkpoint number) front (stable old)) (c.move_to.ensures.any_moment s.holds.honest (only_seen _ s.image s.stands) (counts_seen old.anchors.slot old.anchors.anchor _ s.image front s.stands s.is_front anchored.counts))
    (λ image amid. subst (λ (a : Anchor). IsLeftByMove old.anchors a front (stable old) image) (next_is ∙ ap made is)
    (amid_move tail place old front next s size before f at tail_is place_is image (subst (λ (i : List ℕ). IsAmidMove old.anchors next i image) s.stands.read amid))) in
    left

pub returns-clause-any_moment : goal.returns-clause-any_moment
returns-clause-any_moment g c tail place front s anchored =
    let old = c.args.self.now in
    let number = c.args.number in
    let before = c.frames_before-before.result in
    let f = c.index-tail.result.now in
    let following = old.tail.first + old.forced in
    let begins = old.begins.0 in
    let placed = old.begins.1 in
    let kept = c.requires.kept in
    let below = c.requires.below in
    let forced = c.requires.forced in
    let long = length-take-le old.forced (records_of_log old) old.forced_inside in
    let counted = old.gone_below in
    let some : 0 < length old.frames.items = some_frames old.frames.items following old.tail.first old.forced begins refl (omega (arith, kept, below, forced, long)) in
    let least : old.tail.first ≤ number = omega (arith, kept, counted) in
    let within = c.frames_before-before.ensures.within some in
    let at = some_at old.frames.items before f within c.index-tail.ensures in
    let h = listed_at old.head following old.frames.items before f at (listed_of old.head following old.frames.items old.listed) in
    let is : f ≡ frame_with number old.tail old.frames.items = unwrap (sym at ∙ c.frames_before-before.ensures.is some least) in
    let low : f.first ≤ number = subst (λ (x : FrameAt). x.first ≤ number) (sym is) (c.frames_before-before.ensures.below some least) in
    let next = c.anchor_behind-anchor.result in
    let made : FrameAt → Anchor = λ x. record { sequence = old.anchors.anchor.sequence + 1; checkpoint = c.args.checkpoint; tail = x.first; tail_place = x.place } in
    let next_is : next ≡ made f = c.anchor_behind-anchor.ensures in
    let tail_is : next.tail ≡ f.first = ap (λ (a : Anchor). a.tail) next_is in
    let place_is : next.tail_place ≡ f.place = ap (λ (a : Anchor). a.tail_place) next_is in
    let size : 4096 ≤ length s.image = omega (arith, g.met.D.Disk.keeps_length old.device s.holds.honest, old.as_long, ap length s.stands.read) in
    let left = widened _ _ (IsAmidMove old.anchors next (seen (g.D.Disk.history old.device))) (IsLeftByMove old.anchors (next_anchor old c.args.checkpoint number) front (stable old)) (c.move_to.ensures.any_moment s.holds.honest (only_seen _ s.image s.stands) (counts_seen old.anchors.slot old.anchors.anchor _ s.image front s.stands s.is_front anchored.counts))
    (λ image amid. subst (λ (a : Anchor). IsLeftByMove old.anchors a front (stable old) image) (next_is ∙ ap made is)
    (amid_move tail place old front next s size before f at tail_is place_is image (subst (λ (i : List ℕ). IsAmidMove old.anchors next i image) s.stands.read amid))) in
    subst (λ d. LeavesOnly (g.D.Disk.history old.device) (g.D.Disk.history d) (IsLeftByMove old.anchors (next_anchor old c.args.checkpoint number) front (stable old))) (sym c.cut.ensures.device) left
